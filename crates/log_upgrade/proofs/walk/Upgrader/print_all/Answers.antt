use Rattle.std.proofs.Common.{◌+◌, ◌++◌, ℕ, List, [], sym, ap, ◌∙◌, subst, take, drop}
use Rattle.deriv_log.specs.LogText.{log_text}
use Rattle.deriv_log.specs.declared.entry.Entry.{Entry}
use Rattle.log_upgrade.specs.Walk.{IsWritten}
use Rattle.log_upgrade.proofs.Walking.{log_text-append, written_first, next_is, written_next, written_last}
use Rattle.log_upgrade.proofs.walk.Upgrader.print_all.Goals as goal

pub loop-entry-init : goal.loop-entry-init
loop-entry-init c =
    ([], written_first c.args.problem.now c.args.entries.now c.args.self.now c.requires.stands, c.requires.empty)

pub print_next-requires : goal.print_next-requires
print_next-requires c =
    let all = c.args.entries.now in
    let i = c.loop-entry.entry-index in
    let inv = c.loop-entry.invariant in (
      all,
      take i all,
      inv.1.vectors,
      drop (i + 1) all,
      next_is c.args.problem.now all i inv.0 c.loop-entry.self c.entry-item.result c.requires.first c.loop-entry-test.true c.entry-item.is inv.1,
    )

pub loop-entry-preserved : goal.loop-entry-preserved
loop-entry-preserved c =
    let file = c.args.problem.now in
    let all = c.args.entries.now in
    let i = c.loop-entry.entry-index in
    let e = c.entry-item.result in
    let u = c.loop-entry.self in
    let v = c.print_next.new.self in
    let inv = c.loop-entry.invariant in
    let written = inv.0 in
    let w = inv.1 in
    let next = next_is file all i written u e c.requires.first c.loop-entry-test.true c.entry-item.is w in
    let put = c.in_ok-print_next.ensures all (take i all) w.vectors (drop (i + 1) all) next in (
      written ++ put.0,
      subst (λ (es : List Entry). IsWritten file all (i + 1) (written ++ es) v) (sym put.1.appended)
          (written_next file all i written u v e put.1.upgraded c.loop-entry-test.true c.entry-item.is w put.1.is put.1.stands),
      put.2 ∙ ap (λ (t : List ℕ). t ++ log_text put.0) inv.2 ∙ sym (log_text-append written put.0),
    )

pub returns : goal.returns
returns c =
    let inv = c.loop-entry.invariant in
    record {
      upgrade = inv.0;
      whole = written_last c.args.problem.now c.args.entries.now c.loop-entry.entry-index inv.0 c.loop-entry.self c.loop-entry-test.false inv.1;
      is = inv.2;
    }
