use Rattle.std.proofs.Common.{◌+◌, List, sym, subst, take, drop}
use Rattle.deriv_log.specs.declared.entry.Entry.{Entry}
use Rattle.log_upgrade.specs.Walk.{IsWritten}
use Rattle.log_upgrade.proofs.Walking.{written_first, next_is, written_next, written_last}
use Rattle.log_upgrade.proofs.walk.Upgrader.put_all.Goals as goal

pub loop-entry-init : goal.loop-entry-init
loop-entry-init c =
    subst (λ (es : List Entry). IsWritten c.args.problem.now c.args.entries.now 0 es c.args.self.now) (sym c.requires.empty)
    (written_first c.args.problem.now c.args.entries.now c.args.self.now c.requires.stands)

pub put_next-requires : goal.put_next-requires
put_next-requires c =
    let all = c.args.entries.now in
    let i = c.loop-entry.entry-index in
    let w = c.loop-entry.invariant in (
      all,
      take i all,
      w.vectors,
      drop (i + 1) all,
      next_is c.args.problem.now all i c.loop-entry.upgrade c.loop-entry.self c.entry-item.result c.requires.first c.loop-entry-test.true c.entry-item.is w,
    )

pub loop-entry-preserved : goal.loop-entry-preserved
loop-entry-preserved c =
    let file = c.args.problem.now in
    let all = c.args.entries.now in
    let i = c.loop-entry.entry-index in
    let e = c.entry-item.result in
    let written = c.loop-entry.upgrade in
    let u = c.loop-entry.self in
    let v = c.put_next.new.self in
    let w = c.loop-entry.invariant in
    let next = next_is file all i written u e c.requires.first c.loop-entry-test.true c.entry-item.is w in
    let put = c.in_ok-put_next.ensures all (take i all) w.vectors (drop (i + 1) all) next in
    subst (λ (es : List Entry). IsWritten file all (i + 1) es v) (sym put.appended)
    (written_next file all i written u v e put.upgraded c.loop-entry-test.true c.entry-item.is w put.is put.stands)

pub returns : goal.returns
returns c =
    written_last c.args.problem.now c.args.entries.now c.loop-entry.entry-index c.loop-entry.upgrade c.loop-entry.self
    c.loop-entry-test.false c.loop-entry.invariant
