use Rattle.std.proofs.Common.{ap, ◌∙◌, sym, ◌++◌, ◌∷◌, [], List, map, unwrap_or}
use Rattle.exact_field.specs.Rational.{ℚ, zero_ℚ}
use Rattle.vlp_reader.specs.Places.{given}
use Rattle.vlp_problem.specs.Sides.{numbers_from}
use Rattle.vlp_problem.proofs.Numbers.{map_numbers-push}
use Rattle.vlp_reader.proofs.table.Table.column.Goals as goal

pub loop-before-preserved : goal.loop-before-preserved
loop-before-preserved c =
    c.in_ok-push.ensures.ok
    ∙ ap (λ (l : List ℚ). l ++ c.value_at.result ∷ []) c.loop-before.invariant
    ∙ ap (λ (q : ℚ). map (λ i. unwrap_or (given c.args.self.now.cells i c.args.col) zero_ℚ) (numbers_from 1 c.loop-before.before) ++ q ∷ []) c.value_at.ensures
    ∙ sym (map_numbers-push (λ i. unwrap_or (given c.args.self.now.cells i c.args.col) zero_ℚ) c.loop-before.before)
