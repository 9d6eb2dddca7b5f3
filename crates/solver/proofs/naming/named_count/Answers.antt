use Rattle.std.proofs.Common.{◌++◌, [], ◌∷◌, List, Contains, take, ap, sym, subst, ◌∙◌, arith}
use Rattle.std.proofs.lemmas.List.{take_all, take_more}
use Rattle.deriv_log.specs.declared.entry.Entry.{Entry}
use Rattle.log_rules.specs.Live.{named}
use Rattle.solver.proofs.NamedCuts.{facet_pushed, still_named}
use Rattle.solver.proofs.naming.named_count.Goals.{then-names, else-names}
use Rattle.solver.proofs.naming.named_count.Goals as goal

pub loop-entry-preserved : goal.loop-entry-preserved
loop-entry-preserved c =
    let all = c.args.entries.now in
    let i = c.loop-entry.entry-index in
    let e = c.entry-item.result in
    let n = c.loop-entry.count in
    let more = take_more all i e (omega arith)
    ∙ ap (λ (x : Entry). take i all ++ x ∷ []) (sym c.entry-item.is) in
    elim c.if-names.branch [
      | then-names w ↦ record {
        named = λ k low high.
            subst (λ (es : List Entry). Contains (named es) k) (sym more)
            (facet_pushed (take i all) e n (sym c.names.ensures ∙ w.if-names.true)
            c.loop-entry.invariant.named k low (omega (arith, high)));
        low = let k = c.loop-entry.invariant.low in omega (arith, k);
      }
      | else-names w ↦ record {
        named = λ k low high.
            subst (λ (es : List Entry). Contains (named es) k) (sym more)
            (still_named (take i all) e k (c.loop-entry.invariant.named k low (omega (arith, high))));
        low = let k = c.loop-entry.invariant.low in omega (arith, k);
      }
    ]

pub returns : goal.returns
returns c = λ k low high.
    subst (λ (es : List Entry). Contains (named es) k)
    (take_all c.loop-entry.entry-index c.args.entries.now
    (let test = c.loop-entry-test.false in omega (arith, test)))
    (c.loop-entry.invariant.named k low high)
