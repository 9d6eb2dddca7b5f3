use Rattle.std.proofs.Common.{rules, ap, arith, refl, ◌∙◌}
use Rattle.exact_field.specs.Rational.{ℚ}
use Rattle.std.proofs.Math.ListN.{replicate}
use Rattle.entry_checks.proofs.MatrixEvents.{none-dense}
use Rattle.entry_checks.proofs.image.zeros.Goals as goal

pub returns-in-Ok : goal.returns-in-Ok
returns-in-Ok c = λ taken. (refl, omega arith, c.in-Ok.ensures.items_if_clones_equal (λ y h. search (h, rules)) ∙ ap (λ (z : ℚ). replicate c.args.n z) c.from.ensures ∙ none-dense c.args.n)
