use Rattle.std.proofs.Common.{sym, ◌∙◌, inl, inr}
use Rattle.lp_form.proofs.Signs.{less_zero, zero_less}
use Rattle.std.proofs.Common.{true≢false}
use Rattle.lp_form.proofs.reading.signed_number.Goals as goal

pub returns-then-is_zero : goal.returns-then-is_zero
returns-then-is_zero g c = let value = g.F.Field.value in sym (less_zero (value c.args.plus) (value c.args.minus) (c.is_zero.ensures.fact.0 c.if-is_zero.true))

pub returns-else-is_zero : goal.returns-else-is_zero
returns-else-is_zero g c =
    let value = g.F.Field.value in
    elim c.requires [
      | inl none ↦ c.neg.ensures ∙ sym (zero_less (value c.args.plus) (value c.args.minus) none)
      | inr none ↦ absurd (true≢false (sym (c.is_zero.ensures.fact.1 none) ∙ c.if-is_zero.false))
    ]
