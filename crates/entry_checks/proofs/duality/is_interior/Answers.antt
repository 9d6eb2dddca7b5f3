use Rattle.std.proofs.Common.{sym, subst, ◌≡◌, List, length, All, IsTrue}
use Rattle.std.specs.Prelude.{⊤}
use Rattle.std.specs.List.{list_all}
use Rattle.exact_field.specs.Rational.{ℚ, zero_ℚ, lt_ℚ}
use Rattle.frac128.specs.Held.{is_held}
use Rattle.log_rules.specs.Runs.{Runs}
use Rattle.log_rules.specs.declared.rule.Rule.TheVariants as rule
use Rattle.upper_image.proofs.Widths.{vectors_wide}
use Rattle.entry_checks.proofs.Going.{test-as}
use Rattle.log_rules.specs.CutEvents.{interior}
use Rattle.vlp_problem.specs.declared.problem.Cone.{Cone}
use Rattle.vlp_problem.specs.Cones.{cone_fits}
use Rattle.entry_checks.proofs.duality.is_interior.Goals as goal

pub is_solid-requires-clause-widths : goal.is_solid-requires-clause-widths
is_solid-requires-clause-widths c = subst (λ (vs : List (List ℚ)). All (λ v. length v ≡ length c.args.c.now) vs) (sym c.as_slice.ensures.items) (vectors_wide (length c.args.c.now) c.in-Gens.vectors (subst (λ (k : Cone). IsTrue (cone_fits (length c.args.c.now) k)) c.in-Gens.is c.requires.fits)).wide

pub meets_rows-requires-clause-widths : goal.meets_rows-requires-clause-widths
meets_rows-requires-clause-widths c = subst (λ (vs : List (List ℚ)). All (λ v. length v ≡ length c.args.c.now) vs) (sym c.as_slice-in-Dual.ensures.items) (vectors_wide (length c.args.c.now) c.in-Dual.rows (subst (λ (k : Cone). IsTrue (cone_fits (length c.args.c.now) k)) c.in-Dual.is c.requires.fits)).wide

pub returns-in-Orthant : goal.returns-in-Orthant
returns-in-Orthant c =
    subst (λ (k : Cone). Runs {X = Unit {0}} is_held (interior (length c.args.c.now) k c.args.c.now c.args.weights.now c.args.picks.now c.args.inverse.now) c.args.counter.now.taken c.args.counter.now.taken (λ _. ⊤) c.pass.result) (sym c.in-Orthant.is)
    (test-as rule.Interior c.are_positive.result (list_all (lt_ℚ zero_ℚ) c.args.c.now) c.args.counter.now.taken c.pass.result c.are_positive.ensures (c.pass.ensures c.args.counter.now.taken))
