-- How calls go through pieces of events.
use Rattle.std.proofs.Common.{◌≡◌, ℕ, suc, ◌+◌, List, ap, ◌∙◌, subst, map, None}
use Rattle.exact_field.specs.Rational.{ℚ, ◌/ℚ◌}
use Rattle.frac128.specs.Held.{is_held}
use Rattle.polyhedra.specs.DoubleDescription.{magnitude, norming}
use Rattle.log_live.specs.Adding.{quotients_events}
use Rattle.rep_conv.specs.Adding.{quotients}
use Rattle.rep_conv.specs.Events.{quotient_steps}
use Rattle.log_rules.specs.Events.{Event, first_failure}
use Rattle.std.specs.Prelude.{Result, Ok, Err}
use Rattle.log_rules.specs.Runs.{Runs, Stops, steps}
use Rattle.log_rules.specs.declared.stop.Stop.{Stop}
use Rattle.entry_checks.proofs.Going.{Passed, Stopped}

-- a call went through these events, which are those
pub came_as : (es fs : List Event) (start now : ℕ) → es ≡ fs → first_failure is_held (suc start) es ≡ None → now ≡ start + steps es → Passed fs start now
came_as es fs start now e none count = subst (λ (gs : List Event). Passed gs start now) e (record { none = none; count = count })

-- a call stopped in these events, which are those
pub stopped_as : (es fs : List Event) (start : ℕ) (stop : Stop) → es ≡ fs → Stops is_held es start stop → Stopped fs start stop
stopped_as es fs start stop e h = subst (λ (gs : List Event). Stopped gs start stop) e (record { at = h })

-- quotients of a vector, by what it is and by what it is divided
pub quotients_as : (z w : List ℚ) (d : ℚ) → z ≡ w → d ≡ magnitude (norming z) → quotients_events d z ≡ quotient_steps w
quotients_as z w d e f = ap (λ (q : ℚ). quotients_events q z) f ∙ ap quotient_steps e

pub quotients_made : (z w : List ℚ) (d : ℚ) → z ≡ w → d ≡ magnitude (norming z) → map (λ x. x /ℚ d) z ≡ quotients w
quotients_made z w d e f = ap (λ (q : ℚ). map (λ x. x /ℚ q) z) f ∙ ap quotients e

-- ---- what a call gives after its events
pub gives_more : (es : List Event) (now : ℕ) (V W : Type 0) (result : Result (Unit {0}) Stop) → Runs is_held es 0 now (λ _. V) result → (first_failure is_held 1 es ≡ None → V → W) → Runs is_held es 0 now (λ _. W) result
gives_more es now V W (Ok x) h f = (h.0, h.1, f h.0 h.2)
gives_more es now V W (Err e) h f = h
