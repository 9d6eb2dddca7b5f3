use Rattle.std.proofs.Common.{ℕ, ◌+◌, ◌<◌, List, All, length, refl, sym, ap, ◌∙◌, subst, arith}
use Rattle.double_descr.specs.State.{HasTightSet, live_of}
use Rattle.double_descr.specs.declared.generator.Generator.{Generator}
use Rattle.double_descr.proofs.Sifting.{IsSifted, all_sifted, none_sifted, one_dropped, one_kept}
use Rattle.double_descr.proofs.moves.drop_below.Goals as goal

pub loop-i-init : goal.loop-i-init
loop-i-init g c = record { many = refl; capacity = refl; sifted = none_sifted g.F.Field.value c.args.vals.now c.args.generators.now.items }

pub loop-i-preserved : goal.loop-i-preserved
loop-i-preserved g c =
    let value = g.F.Field.value in
    let vals = c.args.vals.now in
    let first = c.args.generators.now.items in
    let now = c.loop-i.generators.items in
    let kept = c.loop-i.kept in
    let i = c.loop-i.i in
    let x = c.index-vals-i.result in
    let at = c.loop-i.invariant in
    let inside : i < length first = omega (arith, c.args.generators.now.ok.0) in
    elim c.if-not-is_negative.branch [
      | goal.then-not-is_negative w ↦ record {
        many = ap (λ v. v.len) w.generators-is ∙ w.swap.ensures.len ∙ at.many;
        capacity = ap (λ v. v.cap) w.generators-is ∙ w.swap.ensures.capacity ∙ at.capacity;
        sifted = subst (λ (p : List (Generator _) × ℕ). IsSifted value vals first p.0 p.1 (i + 1))
            (λ j. (sym (ap (λ v. v.items) w.generators-is ∙ w.swap.ensures.items) j, sym w.kept-is j))
            (one_kept value vals first now kept i at.sifted inside c.loop-i-test.true x c.index-vals-i.is (sym c.is_negative.ensures.test ∙ w.if-not-is_negative.true));
      }
      | goal.else-not-is_negative w ↦ record {
        many = ap (λ v. v.len) w.generators-is ∙ at.many;
        capacity = ap (λ v. v.cap) w.generators-is ∙ at.capacity;
        sifted = subst (λ (p : List (Generator _) × ℕ). IsSifted value vals first p.0 p.1 (i + 1))
            (λ j. (sym (ap (λ v. v.items) w.generators-is) j, sym w.kept-is j))
            (one_dropped value vals first now kept i at.sifted inside c.loop-i-test.true x c.index-vals-i.is (sym c.is_negative.ensures.test ∙ w.if-not-is_negative.false));
      }
    ]

pub returns-clause-live : goal.returns-clause-live
returns-clause-live g c = λ row at.
    let value = g.F.Field.value in
    ap (λ gs. live_of value gs) c.truncate.ensures.items
    ∙ all_sifted value c.args.vals.now c.args.generators.now.items c.loop-i.generators.items c.loop-i.kept c.loop-i.i c.loop-i.invariant.sifted
    (omega (arith, c.args.generators.now.ok.0)) row at

pub returns-clause-tight : goal.returns-clause-tight
returns-clause-tight g c = λ rows all.
    subst (λ (gs : List (Generator _)). All (HasTightSet g.F.Field.value rows) gs) (sym c.truncate.ensures.items) (c.loop-i.invariant.sifted.tight rows all)
