use Rattle.std.proofs.Common.{sym, subst, ◌≡◌, List, length, true}
use Rattle.std.specs.Prelude.{⊤}
use Rattle.std.specs.List.{list_all}
use Rattle.exact_field.specs.Order.{same_ℚ}
use Rattle.exact_field.specs.Rational.{ℚ, one_ℚ}
use Rattle.frac128.specs.Held.{is_held}
use Rattle.log_rules.specs.Events.{Event}
use Rattle.log_rules.specs.Runs.{Runs}
use Rattle.log_rules.specs.declared.rule.Rule.TheVariants as rule
use Rattle.entry_checks.specs.Parts.{follow_events}
use Rattle.entry_checks.proofs.Going.{test-as}
use Rattle.log_rules.specs.CutEvents.{follows_given}
use Rattle.std.specs.Prelude.{Option, None}
use Rattle.std.proofs.lemmas.Bool.{eqb-true}
use Rattle.vlp_problem.specs.declared.problem.Cone.{Cone}
use Rattle.vlp_problem.specs.Cones.{duality_fits}
use Rattle.entry_checks.proofs.MatrixEvents.{follow-as}
use Rattle.entry_checks.proofs.duality.follows_given.Goals as goal

pub returns-in-Some : goal.returns-in-Some
returns-in-Some c =
    subst (λ (o : Option (List ℚ)). Runs {X = Unit {0}} is_held (follows_given (length c.args.c.now) c.args.cone.now o c.args.c.now) c.args.counter.now.taken c.follows.new.counter.taken (λ _. ⊤) c.follows.result) (sym c.in-Some.is)
    (subst (λ (es : List Event). Runs {X = Unit {0}} is_held es c.args.counter.now.taken c.follows.new.counter.taken (λ _. ⊤) c.follows.result) (follow-as c.in-Some.f c.args.c.now c.args.cone.now (eqb-true (length c.in-Some.f) (length c.args.c.now) (subst (λ (o : Option (List ℚ)). duality_fits (length c.args.c.now) o ≡ true) c.in-Some.is c.requires.fits)))
    (subst (λ (v : List ℚ). Runs {X = Unit {0}} is_held (follow_events v c.args.c.now) c.args.counter.now.taken c.follows.new.counter.taken (λ _. ⊤) c.follows.result) c.as_slice.ensures.items c.follows.ensures))

pub returns-in-Orthant : goal.returns-in-Orthant
returns-in-Orthant c =
    subst (λ (o : Option (List ℚ)). Runs {X = Unit {0}} is_held (follows_given (length c.args.c.now) c.args.cone.now o c.args.c.now) c.args.counter.now.taken c.args.counter.now.taken (λ _. ⊤) c.pass.result) (sym c.in-None.is)
    (subst (λ (k : Cone). Runs {X = Unit {0}} is_held (follows_given (length c.args.c.now) k None c.args.c.now) c.args.counter.now.taken c.args.counter.now.taken (λ _. ⊤) c.pass.result) (sym c.in-Orthant.is)
    (test-as rule.Scaled c.are_ones.result (list_all (same_ℚ one_ℚ) c.args.c.now) c.args.counter.now.taken c.pass.result c.are_ones.ensures (c.pass.ensures c.args.counter.now.taken)))
