use Rattle.std.proofs.Common.{rules, ◌≡◌, Bool, List, [], ◌∷◌, ap}
use Rattle.std.specs.Prelude.{⊤}
use Rattle.exact_field.specs.Rational.{ℚ}
use Rattle.log_rules.specs.Events.{Event}
use Rattle.log_rules.specs.Events.Event.{test}
use Rattle.log_rules.specs.declared.rule.Rule.TheVariants as rule
use Rattle.entry_checks.proofs.Going.{Passed, Stopped, stopped-in, Ran, ran-after}
use Rattle.rep_conv.specs.Events.{is_first, corners_events}
use Rattle.rep_conv.proofs.Pieces.{came_as, stopped_as}
use Rattle.rep_conv.proofs.start.check_generator.Goals as goal

first : (lines : List (List ℚ)) (g : List ℚ) (b : Bool) → b ≡ is_first lines g →
    ◌≡◌ {A = List Event} (test rule.Corner b ∷ []) (test rule.Corner (is_first lines g) ∷ [])
first lines g b e = ap (λ (x : Bool). test rule.Corner x ∷ []) e

pub returns-in_err-pass : goal.returns-in_err-pass
returns-in_err-pass c =
    let here : Stopped (test rule.Corner (is_first c.args.lines.now c.args.generator.now) ∷ []) c.args.counter.now.taken c.in_err-pass.field-0.0 =
    stopped_as _ _ _ _ (first c.args.lines.now c.args.generator.now c.is_first.result c.is_first.ensures) (c.in_err-pass.ensures c.args.counter.now.taken) in
    let stopped = (stopped-in (corners_events c.args.rep.now (c.args.number, c.args.generator.now) c.args.named.now) here).at in
    search (stopped, rules)

pub returns : goal.returns
returns c =
    let came : Passed (test rule.Corner (is_first c.args.lines.now c.args.generator.now) ∷ []) c.args.counter.now.taken c.args.counter.now.taken =
    came_as _ _ _ _ (first c.args.lines.now c.args.generator.now c.is_first.result c.is_first.ensures) (c.in_ok-pass.ensures c.args.counter.now.taken).0 (c.in_ok-pass.ensures c.args.counter.now.taken).1 in
    let last : Ran {X = Unit {0}} (corners_events c.args.rep.now (c.args.number, c.args.generator.now) c.args.named.now) c.args.counter.now.taken c.meets_rows.new.counter.taken (λ _. ⊤) c.meets_rows.result =
    record { runs = c.meets_rows.ensures } in
    (ran-after came last).runs
