use Rattle.std.proofs.Common.{ℕ, ◌==◌, not, List, length, map, sym, ap, ◌∙◌, subst}
use Rattle.exact_field.specs.Rational.{ℚ}
use Rattle.log_live.specs.declared.generator.Generator.{Generator}
use Rattle.rep_conv.specs.Giving.{IsGiven}
use Rattle.rep_conv.specs.Live.{state}
use Rattle.rep_conv.proofs.GivenRows.{given_after}
use Rattle.rep_conv.proofs.giving.other_rep_after.Goals as goal

pub other_rep-requires-clause-some : goal.other_rep-requires-clause-some
other_rep-requires-clause-some c = ap (λ (n : ℕ). not (n == 0)) (c.len-some.ensures.value ∙ ap length c.requires.1.holds.keeps.rows)

pub other_rep-requires-clause-given : goal.other_rep-requires-clause-given
other_rep-requires-clause-given c = (
  c.requires.0,
  subst (λ (lines : List (List ℚ)). IsGiven c.args.rep.now.width (state c.args.rep.now c.requires.0) lines c.as_slice-3.result.now) (sym c.as_slice-2.ensures.items)
      (given_after c.args.rep.now c.requires.0 c.args.standing.now c.requires.1 c.as_slice-3.result.now
      (c.as_slice-3.ensures.items ∙ c.in_ok-generators.ensures ∙ ap (map (λ (g : Generator). g.vector)) c.as_slice.ensures.value)),
)

pub returns : goal.returns
returns c entries h =
    c.other_rep.ensures entries
    (subst (λ (lines : List (List ℚ)). IsGiven c.args.rep.now.width (state c.args.rep.now entries) lines c.as_slice-3.result.now) (sym c.as_slice-2.ensures.items)
    (given_after c.args.rep.now entries c.args.standing.now h c.as_slice-3.result.now
    (c.as_slice-3.ensures.items ∙ c.in_ok-generators.ensures ∙ ap (map (λ (g : Generator). g.vector)) c.as_slice.ensures.value)))
