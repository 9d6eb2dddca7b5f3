use Rattle.std.proofs.Common.{◌≡◌, ℕ, ◌⊎◌, inl, inr, get_or, sym, ap, ◌∙◌, subst, arith}
use Rattle.std.proofs.lemmas.Bool.{cases_eq}
use Rattle.std.proofs.lemmas.List.{get_or_default}
use Rattle.exact_field.specs.Rational.{ℚ, zero_ℚ, ◌<ℚ◌}
use Rattle.exact_field.specs.Vector.{dot}
use Rattle.incid_sets.specs.Marks.{ContainsAll}
use Rattle.double_descr.specs.Steps.{values}
use Rattle.double_descr.specs.declared.generator.Generator.{Generator}
use Rattle.double_descr.proofs.MadePairs.{value_at_index}
use Rattle.double_descr.proofs.reach.reach_of.Goals as goal

pub loop-i-preserved : goal.loop-i-preserved
loop-i-preserved g c =
    let value = g.F.Field.value in
    let row = g.addition.row in
    let gens = c.args.generators.now in
    let i = c.loop-i.i in
    let h = c.index-generators-i.result in
    let x = c.index-values-i.result in
    let be : value x ≡ dot row (values value h.vector.items) =
    value_at_index value row gens c.args.values.now c.requires.1.1.0 i x h (omega (arith, c.requires.1.1.1.1, c.loop-i-test.true)) c.loop-i-test.true c.index-values-i.is c.index-generators-i.is in
    record {
      bound = c.take_tight.ensures.bound ∙ c.loop-i.invariant.bound;
      taken = λ j m before is down.
          let at : (j ≡ i) ⊎ (j ≡ i → ⊥) → ContainsAll c.take_tight.new.reach m.tight = λ w. elim w [
            | inl e ↦
                let same : m ≡ h = is ∙ ap (λ (k : ℕ). get_or gens k m) e ∙ get_or_default gens i m h c.loop-i-test.true ∙ sym c.index-generators-i.is in
                subst (λ (q : Generator _). ContainsAll c.take_tight.new.reach q.tight) (sym same)
                (c.take_tight.ensures.takes (subst (λ (q : ℚ). q <ℚ zero_ℚ) (ap (λ (q : Generator _). dot row (values value q.vector.items)) same ∙ sym be) down))
            | inr o ↦ λ k marked. c.take_tight.ensures.keeps k (c.loop-i.invariant.taken j m (omega (arith, before, o)) is down k marked)
          ] in
          at (cases_eq j i);
    }
