use Rattle.std.proofs.Common.{rules, sym, subst, ap, ◌∙◌, ◌+◌, ◌<◌, List, [], ◌∷◌, ◌++◌, Bool}
use Rattle.std.specs.Prelude.{⊤}
use Rattle.exact_field.specs.Rational.{zero_ℚ, lt_ℚ}
use Rattle.exact_field.specs.Vector.{dot}
use Rattle.frac128.specs.Held.{is_held}
use Rattle.log_rules.specs.Events.{Event, dot_steps}
use Rattle.log_rules.specs.Events.Event.{test}
use Rattle.log_rules.specs.Runs.{Runs, Stops, steps}
use Rattle.log_rules.specs.declared.rule.Rule.TheVariants as rule
use Rattle.entry_checks.proofs.Going.{Stopped, stopped-in, then-test, room-in}
use Rattle.std.specs.Prelude.{if◌then◌else◌}
use Rattle.entry_checks.proofs.duality.meets_row.Goals as goal

pub dot-requires-clause-room : goal.dot-requires-clause-room
dot-requires-clause-room c =
    room-in (dot_steps c.args.v.now c.args.c.now) (test rule.Interior (lt_ℚ zero_ℚ (dot c.args.v.now c.args.c.now)) ∷ []) c.args.counter.now.taken _ (subst (λ (es : List Event). c.args.counter.now.taken + steps es < 9223372036854775808) (ap (λ (b : Bool). if b then [] else dot_steps c.args.v.now c.args.c.now ++ test rule.Interior (lt_ℚ zero_ℚ (dot c.args.v.now c.args.c.now)) ∷ []) (sym c.are_zeros.ensures ∙ c.if-are_zeros.false)) c.requires.room)

pub returns-in_err-product : goal.returns-in_err-product
returns-in_err-product c =
    let here : Stopped (dot_steps c.args.v.now c.args.c.now) c.args.counter.now.taken c.in_err-product.field-0.0 = record { at = c.in_err-product.ensures } in
    let stopped = subst (λ (es : List Event). Stops is_held es c.args.counter.now.taken c.in_err-product.field-0.0) (sym (ap (λ (b : Bool). if b then [] else dot_steps c.args.v.now c.args.c.now ++ test rule.Interior (lt_ℚ zero_ℚ (dot c.args.v.now c.args.c.now)) ∷ []) (sym c.are_zeros.ensures ∙ c.if-are_zeros.false))) ((stopped-in (test rule.Interior (lt_ℚ zero_ℚ (dot c.args.v.now c.args.c.now)) ∷ []) here).at) in
    search (stopped, rules)

pub returns : goal.returns
returns c =
    subst (λ (es : List Event). Runs {X = Unit {0}} is_held es c.args.counter.now.taken c.dot.new.self.taken (λ _. ⊤) c.pass.result) (sym (ap (λ (b : Bool). if b then [] else dot_steps c.args.v.now c.args.c.now ++ test rule.Interior (lt_ℚ zero_ℚ (dot c.args.v.now c.args.c.now)) ∷ []) (sym c.are_zeros.ensures ∙ c.if-are_zeros.false)))
    (then-test (dot_steps c.args.v.now c.args.c.now) c.args.counter.now.taken c.dot.new.self.taken rule.Interior c.is_positive.result (lt_ℚ zero_ℚ (dot c.args.v.now c.args.c.now)) c.pass.result
    record { none = c.in_ok-product.ensures.0; count = c.in_ok-product.ensures.1 } (c.is_positive.ensures.test ∙ ap (lt_ℚ zero_ℚ) c.in_ok-product.ensures.2) (c.pass.ensures c.dot.new.self.taken))
