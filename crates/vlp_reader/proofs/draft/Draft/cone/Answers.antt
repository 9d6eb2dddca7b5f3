use Rattle.std.proofs.Common.{ap, ◌∙◌, sym, ◌++◌, ◌∷◌, [], List, map, ℕ, arith}
use Rattle.exact_field.specs.Rational.{ℚ}
use Rattle.vlp_problem.specs.Sides.{numbers_from}
use Rattle.vlp_reader.specs.Tables.{table_column}
use Rattle.vlp_reader.proofs.Drafts.{cone_if_dual, cone_if_not}
use Rattle.vlp_problem.proofs.Numbers.{map_numbers-push}
use Rattle.vlp_reader.proofs.draft.Draft.cone.Goals as goal

pub loop-before-preserved : goal.loop-before-preserved
loop-before-preserved c =
    c.in_ok-push.ensures.ok
    ∙ ap (λ (l : List (List ℚ)). l ++ c.in_ok-column.field-0 ∷ []) c.loop-before.invariant
    ∙ ap (λ (v : List ℚ). map (table_column c.args.self.now.vectors) (numbers_from 1 c.loop-before.before) ++ v ∷ []) c.in_ok-column.ensures
    ∙ sym (map_numbers-push (table_column c.args.self.now.vectors) c.loop-before.before)

pub returns-then-sizes : goal.returns-then-sizes
returns-then-sizes c =
    cone_if_dual c.args.self.now c.args.self.now.sizes.cone c.in-Some.sizes c.loop-before.vectors c.in-Some.is
    (c.loop-before.invariant ∙ ap (λ (n : ℕ). map (table_column c.args.self.now.vectors) (numbers_from 1 n)) (omega arith)) c.if-sizes.true

pub returns-else-sizes : goal.returns-else-sizes
returns-else-sizes c =
    cone_if_not c.args.self.now c.args.self.now.sizes.cone c.in-Some.sizes c.loop-before.vectors c.in-Some.is
    (c.loop-before.invariant ∙ ap (λ (n : ℕ). map (table_column c.args.self.now.vectors) (numbers_from 1 n)) (omega arith)) c.if-sizes.false
