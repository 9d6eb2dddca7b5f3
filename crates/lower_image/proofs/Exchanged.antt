-- The row of a point or a direction as it is calculated, and its steps as events.
use Rattle.std.proofs.Common.{◌≡◌, ℕ, suc, List, [], ◌∷◌, ◌++◌, length, map, take, refl, sym, ap, ◌∙◌, subst, arith, ◌-◌, Bool, IsTrue}
use Rattle.std.specs.Prelude.{flat_map, zip, if◌then◌else◌}
use Rattle.std.proofs.lemmas.List.{length-map, length-take-le, map-append}
use Rattle.exact_field.specs.Rational.{ℚ, zero_ℚ, one_ℚ, neg_ℚ, ◌-ℚ◌, ◌*ℚ◌}
use Rattle.exact_field.specs.Vector.{entry}
use Rattle.exact_field.specs.declared.op.Left.{Left}
use Rattle.exact_field.specs.declared.op.Op.TheVariants.{Sub, Mul}
use Rattle.polyhedra.specs.Vectors.{scaled}
use Rattle.tableaux.specs.Table.{minus}
use Rattle.double_descr.specs.Steps.{IsFirst}
use Rattle.geo_duality.specs.Exchange.{difference_steps}
use Rattle.geo_duality.specs.Rows.{exchange_row}
use Rattle.geo_duality.specs.Exchange as calculated
use Rattle.deriv_log.specs.declared.licence.Place.TheVariants.{Exchange}
use Rattle.log_rules.specs.Events.{Event}
use Rattle.log_rules.specs.Events.Event.{step}
use Rattle.overflows.specs.Base.{IsBaseRow}
use Rattle.overflows.specs.Licence.{IsOverflow}
use Rattle.overflows.specs.Settings.{Setting, Knows}
use Rattle.overflows.specs.Steps.{in_numbers, operation}
use Rattle.overflows.proofs.Given.{overflow_laws, same_operation}
use Rattle.overflows.specs.Faults.{IsLeftAt, Overflows}
use Rattle.overflows.specs.declared.fault.SolveFault.{SolveFault}
use Rattle.overflows.proofs.Events.{event_of}
use Rattle.overflows.proofs.Starts.{left_overflows}

events : (k : ℚ) (ys cs : List ℚ) → map event_of (difference_steps k ys cs) ≡
    flat_map (λ e. step Mul k e.1 ∷ step Sub e.0 (k *ℚ e.1) ∷ []) (zip ys cs)
events k [] cs = refl
events k (y ∷ ys) [] = refl
events k (y ∷ ys) (c ∷ cs) = ap (λ (es : List Event). step Mul k c ∷ step Sub y (k *ℚ c) ∷ es) (events k ys cs)

pub exchange_overflows : {F : Type 0} (value : F → ℚ) (holds : ℚ → Bool) (none : IsTrue (holds zero_ℚ)) (s : Setting) (c y : List ℚ) (t : Bool)
    (number : ℕ) (left : Left F) (told : SolveFault) → Knows s c → IsBaseRow s.file c (exchange_row c y t) →
    IsFirst value holds (calculated.exchange_steps y c) number left → IsLeftAt (Exchange y t number) (in_numbers value left) [] told →
    Overflows holds s [] told
exchange_overflows value holds none s c y t number left told known base h is =
    left_overflows holds s (Exchange y t number) (in_numbers value left) [] told is
    (subst (λ (l : Left ℚ). IsOverflow holds s (Exchange y t number) l)
    (sym (same_operation left.op h.step.op (value left.a) h.step.a (value left.b) h.step.b h.left_is.0 h.left_is.1 h.left_is.2))
    (subst (λ (k : ℕ). IsOverflow holds s (Exchange y t k) (operation h.step.op h.step.a h.step.b)) numbered
    (overflow_laws.exchange holds s c y t (map event_of h.before) (map event_of h.after) h.step.op h.step.a h.step.b none known base
    (sym (events (entry y (length y)) (take (length y - 1) y) (take (length c - 1) c)) ∙ ap (map event_of) h.split ∙ map-append event_of h.before (h.step ∷ h.after))
    h.left_is.3)))
  where
    numbered : suc (length (map event_of h.before)) ≡ number
    numbered = let long : length (map event_of h.before) ≡ length h.before = length-map h.before event_of in let k = h.numbered in omega (arith, long, k)
