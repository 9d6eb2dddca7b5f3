use Rattle.std.proofs.Common.{◌++◌, [], ◌∷◌, List, length, take, ap, sym, ◌∙◌, arith}
use Rattle.std.proofs.lemmas.List.{take_more}
use Rattle.deriv_log.specs.declared.entry.Entry.{Entry}
use Rattle.log_rules.specs.Live.{state}
use Rattle.solver.proofs.NamedCuts.{cut_pushed, other_pushed}
use Rattle.solver.proofs.naming.cut_count.Goals.{then-states_a_cut, else-states_a_cut}
use Rattle.solver.proofs.naming.cut_count.Goals as goal

pub loop-entry-preserved : goal.loop-entry-preserved
loop-entry-preserved c =
    let all = c.args.entries.now in
    let i = c.loop-entry.entry-index in
    let e = c.entry-item.result in
    let more = take_more all i e (omega arith)
    ∙ ap (λ (x : Entry). take i all ++ x ∷ []) (sym c.entry-item.is) in
    elim c.if-states_a_cut.branch [
      | then-states_a_cut w ↦ record {
        same = λ q.
            let n = cut_pushed q (take i all) e (sym c.states_a_cut.ensures ∙ w.if-states_a_cut.true) in
            let m = ap (λ (es : List Entry). length (state q es).cuts) more in
            let k = c.loop-entry.invariant.same q in
            omega (arith, n, m, k);
        low = let k = c.loop-entry.invariant.low in omega (arith, k);
      }
      | else-states_a_cut w ↦ record {
        same = λ q.
            let n = other_pushed q (take i all) e (sym c.states_a_cut.ensures ∙ w.if-states_a_cut.false) in
            let m = ap (λ (es : List Entry). length (state q es).cuts) more in
            let k = c.loop-entry.invariant.same q in
            omega (arith, n, m, k);
        low = let k = c.loop-entry.invariant.low in omega (arith, k);
      }
    ]
