-- The steps of an addition as the events of a log.
use Rattle.std.proofs.Common.{◌≡◌, List, [], ◌∷◌, ◌++◌, refl, ap, ap₂, ◌∙◌, Bool, true, false, map, if◌then◌else◌, ◌⊎◌, inl, inr}
use Rattle.std.specs.Prelude.{◌||◌, zip}
use Rattle.std.proofs.lemmas.List.{map-append}
use Rattle.exact_field.specs.Rational.{ℚ, zero_ℚ, ◌+ℚ◌, ◌*ℚ◌, ◌/ℚ◌, neg_ℚ}
use Rattle.exact_field.specs.Vector.{dot}
use Rattle.exact_field.specs.declared.op.Op.TheVariants.{Add, Mul, Div}
use Rattle.exact_field.proofs.Rationals.{zero-mul_ℚ}
use Rattle.polyhedra.specs.DoubleDescription.{is_zero, magnitude, norming, meeting}
use Rattle.polyhedra.proofs.Algebra.{mul_zero}
use Rattle.polyhedra.proofs.Laws.{add_zero}
use Rattle.polyhedra.proofs.Tests.{either_true, same_tests, test_of_zero, zero_of_test}
use Rattle.frac128.specs.Sparse.{is_zero as is_nought}
use Rattle.double_descr.specs.Steps.{Step, combination_steps, meeting_steps, multiple_steps, product_steps, quotient_steps}
use Rattle.log_rules.specs.Events.{Event, sum_from}
use Rattle.log_rules.specs.Events.Event.{step}
use Rattle.log_rules.specs.LiveEvents as events
use Rattle.log_rules.proofs.PassedTests.{zero_number, zero_passes}
use Rattle.overflows.specs.Steps.{value_steps, pair_steps}

-- a step as an event
abbrev pub event_of : Step → Event
event_of s = step s.op s.a s.b

same_test : (q : ℚ) → is_zero q ≡ is_nought q
same_test q = same_tests (is_zero q) (is_nought q) (λ h. zero_passes q (zero_of_test q h)) (λ h. test_of_zero q (zero_number q h))

-- a product with a factor that is 0 changes no sum
same_sum : (t x y : ℚ) → (is_zero x || is_zero y) ≡ true → t +ℚ x *ℚ y ≡ t
same_sum t x y h = ap (λ (p : ℚ). t +ℚ p) (product (either_true (is_zero x) (is_zero y) h)) ∙ add_zero t
  where
    product : (is_zero x ≡ true) ⊎ (is_zero y ≡ true) → x *ℚ y ≡ zero_ℚ
    product (inl a) = ap (λ (z : ℚ). z *ℚ y) (zero_of_test x a) ∙ zero-mul_ℚ y
    product (inr b) = ap (λ (z : ℚ). x *ℚ z) (zero_of_test y b) ∙ mul_zero x

sum_events : (t : ℚ) (xs ys : List ℚ) → map event_of (product_steps t xs ys) ≡ sum_from t (zip xs ys)
sum_events t [] ys = refl
sum_events t (x ∷ xs) [] = refl
sum_events t (x ∷ xs) (y ∷ ys) =
    go (is_zero x || is_zero y) refl (sum_events (t +ℚ x *ℚ y) xs ys)
    ∙ ap (λ (b : Bool). if b then sum_from t (zip xs ys) else step Mul x y ∷ step Add t (x *ℚ y) ∷ sum_from (t +ℚ x *ℚ y) (zip xs ys))
    (ap₂ (λ (a b : Bool). a || b) (same_test x) (same_test y))
  where
    go : (b : Bool) → (is_zero x || is_zero y) ≡ b → map event_of (product_steps (t +ℚ x *ℚ y) xs ys) ≡ sum_from (t +ℚ x *ℚ y) (zip xs ys) →
        map event_of ((if b then [] else multiple_steps t x y) ++ product_steps (t +ℚ x *ℚ y) xs ys)
        ≡ (if b then sum_from t (zip xs ys) else step Mul x y ∷ step Add t (x *ℚ y) ∷ sum_from (t +ℚ x *ℚ y) (zip xs ys))
    go true e further = further ∙ ap (λ (u : ℚ). sum_from u (zip xs ys)) (same_sum t x y e)
    go false e further = ap (λ (es : List Event). step Mul x y ∷ step Add t (x *ℚ y) ∷ es) further

-- the steps of a value
pub value_events : (row g : List ℚ) → map event_of (product_steps zero_ℚ row g) ≡ value_steps row g
value_events row g = sum_events zero_ℚ row g

combination_events : (k : ℚ) (ps ms : List ℚ) → map event_of (combination_steps k ps ms) ≡ events.meeting_steps k ps ms
combination_events k [] ms = refl
combination_events k (p ∷ ps) [] = refl
combination_events k (p ∷ ps) (m ∷ ms) =
    ap (λ (es : List Event). step Mul k m ∷ step Add p (k *ℚ m) ∷ es) (combination_events k ps ms)

quotient_events : (d : ℚ) (zs : List ℚ) → map event_of (quotient_steps d zs) ≡ map (λ z. step Div z d) zs
quotient_events d [] = refl
quotient_events d (z ∷ zs) = ap (λ (es : List Event). step Div z d ∷ es) (quotient_events d zs)

-- the steps of a meeting point
pub pair_events : (row p m : List ℚ) → map event_of (meeting_steps (dot row p) (dot row m) p m) ≡ pair_steps row p m
pair_events row p m =
    let k = dot row p /ℚ neg_ℚ (dot row m) in
    let by = magnitude (norming (meeting row p m)) in
    ap (λ (es : List Event). step Div (dot row p) (neg_ℚ (dot row m)) ∷ es)
    (map-append event_of (combination_steps k p m) (quotient_steps by (meeting row p m))
    ∙ ap₂ (λ (es fs : List Event). es ++ fs) (combination_events k p m) (quotient_events by (meeting row p m)))
