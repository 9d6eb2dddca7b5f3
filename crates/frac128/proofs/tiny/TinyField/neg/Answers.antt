use Rattle.std.proofs.Common.{sym, ap, ◌∙◌, subst}
use Rattle.std.specs.Bool.{IsTrue}
use Rattle.exact_field.specs.Rational.{ℚ, neg_ℚ}
use Rattle.frac128.specs.Held.{is_tiny, tiny_neg}
use Rattle.frac128.proofs.tiny.TinyField.neg.Goals as goal

pub of_frac-requires : goal.of_frac-requires
of_frac-requires c =
    subst (λ (q : ℚ). IsTrue (is_tiny q)) (sym (c.neg.ensures ∙ ap neg_ℚ c.frac.ensures.value)) (tiny_neg c.args.self c.frac.ensures.tiny)
