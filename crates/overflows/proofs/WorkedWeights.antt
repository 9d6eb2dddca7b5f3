-- The base rows of the file of one variable, computed, and that (1/2, 1/2) is no base weight there.
use Rattle.std.proofs.Common.{◌≡◌, ℕ, zero, suc, ◌≤◌, Bool, true, false, List, [], ◌∷◌, length, refl, sym, ap, ap₂, ◌∙◌, subst, arith, ◌⊎◌, inl, inr, All, pos, negsuc}
use Rattle.std.specs.Prelude.{if◌then◌else◌}
use Rattle.std.proofs.Math.Dec.{lit<}
use Rattle.exact_field.specs.Gcd.{gcd}
use Rattle.exact_field.specs.Rational.{ℚ, zero_ℚ, one_ℚ, whole, fraction, ◌+ℚ◌, ◌*ℚ◌, neg_ℚ, inverse_ℚ, le_ℚ, ◌≤ℚ◌}
use Rattle.exact_field.specs.Vector.{entry, dot}
use Rattle.exact_field.specs.Ring.{num, ◌⊕◌, ◌⊗◌, ⊖, ◌⊝◌, v0, v1, v2, v3}
use Rattle.exact_field.proofs.RingTool.{ring}
use Rattle.exact_field.proofs.Rationals.{rationals}
use Rattle.polyhedra.specs.Cone.{IsInCone}
use Rattle.polyhedra.specs.Hull.{IsMultiple, IsExtremeDirection}
use Rattle.polyhedra.specs.Vectors.{plus}
use Rattle.polyhedra.proofs.Laws.{mul_one, add_zero}
use Rattle.polyhedra.proofs.Algebra.{mul_zero, zero_mul, zero_add, one_mul}
use Rattle.polyhedra.proofs.Members.{all_of_members, member_of}
use Rattle.polyhedra.proofs.Order.{mul_le}
use Rattle.polyhedra.proofs.Tests.{same_vector_is}
use Rattle.tableaux.specs.Table.{unit}
use Rattle.vlp_problem.specs.Sides.{IsRecession}
use Rattle.overflows.specs.Base.{IsBaseChoice, IsBaseRow, IsBaseWeight, image_of, weight_of}
use Rattle.overflows.specs.Examples.{n, minus, half, ones}
use Rattle.overflows.specs.FeasibleExamples.{halves}
use Rattle.overflows.specs.ImageExamples.{quarter, three_quarters}
use Rattle.overflows.specs.PairExamples.{narrow}
use Rattle.geo_duality.specs.Rows.{exchange_row}
use Rattle.overflows.proofs.Values.{equal, apart}
use Rattle.overflows.proofs.WorkedChoices.{choice_is, one_entry, no_choice}

-- ---- rows
second_entry : (x : ℚ) → minus 4 ≡ minus 1 *ℚ x +ℚ zero_ℚ → x ≡ n 4
unfolding whole fraction gcd ◌+ℚ◌ ◌*ℚ◌ neg_ℚ inverse_ℚ le_ℚ
second_entry x e =
    ring rationals (x ∷ []) v0 (⊖ (num (negsuc 0) ⊗ v0 ⊕ num (pos 0))) refl ∙ ap neg_ℚ (sym e) ∙ equal (neg_ℚ (minus 4)) (n 4) refl

image_is : (x : ℚ) → image_of narrow (x ∷ []) ≡ (n 2 *ℚ x +ℚ zero_ℚ) ∷ (minus 1 *ℚ x +ℚ zero_ℚ) ∷ []
unfolding whole fraction gcd ◌+ℚ◌ ◌*ℚ◌ neg_ℚ inverse_ℚ le_ℚ
image_is x = refl

-- the entry of the bound
abbrev of_bound : Bool → ℚ
of_bound t = if t then neg_ℚ one_ℚ else zero_ℚ

value_row : (x : ℚ) (t : Bool) → exchange_row ones (image_of narrow (x ∷ [])) t ≡ (n 3 *ℚ x) ∷ of_bound t ∷ (minus 1 *ℚ x) ∷ []
unfolding whole
value_row x t =
    ap (λ (v : List ℚ). exchange_row ones v t) (image_is x)
    ∙ ap₂ (λ (p q : ℚ). p ∷ of_bound t ∷ q ∷ [])
    (ring rationals (x ∷ []) ((num (pos 2) ⊗ v0 ⊕ num (pos 0)) ⊝ ((num (negsuc 0) ⊗ v0 ⊕ num (pos 0)) ⊗ num (pos 1))) (num (pos 3) ⊗ v0) refl)
    (add_zero (minus 1 *ℚ x))

pub no_row : IsBaseRow narrow ones (n 12 ∷ minus 1 ∷ minus 4 ∷ []) → ⊥
unfolding whole le_ℚ neg_ℚ
no_row (IsBaseRow.of_choice x h e) =
    one_entry (λ (v : List ℚ). IsBaseChoice narrow v → n 12 ∷ minus 1 ∷ minus 4 ∷ [] ≡ exchange_row ones (image_of narrow v) true → ⊥)
    (λ q b f. no_choice (subst (λ (z : ℚ). IsBaseChoice narrow (z ∷ []))
    (second_entry q (ap (λ (v : List ℚ). entry v 3) (f ∙ value_row q true) ∙ sym (add_zero (minus 1 *ℚ q)))) b))
    x h.feasible.width h e
no_row (IsBaseRow.of_ray r h e) = apart (minus 1) zero_ℚ refl (ap (λ (v : List ℚ). entry v 2) e)
no_row (IsBaseRow.of_cone d (i, l, u, unit) e) =
    apart (minus 1) zero_ℚ refl (ap (λ (v : List ℚ). entry v 2) (e ∙ ap (λ (y : List ℚ). exchange_row ones y false) unit))

-- ---- weights
-- (1/2, y, 1) is the sum of these, which are in the cone of all base rows where it is in that of some
abbrev left : List ℚ
left = quarter ∷ zero_ℚ ∷ three_quarters ∷ []

abbrev right : ℚ → List ℚ
right y = quarter ∷ y ∷ quarter ∷ []

-- a base row is that of the choice, or has no entry of the bound and is at least 0 at both
abbrev Level : List ℚ → ℚ → ℚ → Type 0
Level r p q = (r ≡ p ∷ zero_ℚ ∷ q ∷ []) × (zero_ℚ ≤ℚ p *ℚ quarter +ℚ q *ℚ three_quarters) × (zero_ℚ ≤ℚ p *ℚ quarter +ℚ q *ℚ quarter)

abbrev IsKnownRow : List ℚ → Type 0
IsKnownRow r = (r ≡ n 9 ∷ minus 1 ∷ minus 3 ∷ []) ⊎ ((p q : ℚ) × Level r p q)

choice_row : (x : ℚ) (r : List ℚ) → IsBaseChoice narrow (x ∷ []) → r ≡ exchange_row ones (image_of narrow (x ∷ [])) true → r ≡ n 9 ∷ minus 1 ∷ minus 3 ∷ []
unfolding whole fraction gcd ◌+ℚ◌ ◌*ℚ◌ neg_ℚ inverse_ℚ le_ℚ
choice_row x r h e =
    e ∙ value_row x true ∙ ap (λ (q : ℚ). (n 3 *ℚ q) ∷ neg_ℚ one_ℚ ∷ (minus 1 *ℚ q) ∷ []) (choice_is x h)
    ∙ same_vector_is ((n 3 *ℚ n 3) ∷ neg_ℚ one_ℚ ∷ (minus 1 *ℚ n 3) ∷ []) (n 9 ∷ minus 1 ∷ minus 3 ∷ []) refl

factor_zero : n 3 *ℚ quarter +ℚ minus 1 *ℚ three_quarters ≡ zero_ℚ
unfolding whole fraction gcd ◌+ℚ◌ ◌*ℚ◌ neg_ℚ inverse_ℚ le_ℚ
factor_zero = equal (n 3 *ℚ quarter +ℚ minus 1 *ℚ three_quarters) zero_ℚ refl

factor_half : n 3 *ℚ quarter +ℚ minus 1 *ℚ quarter ≡ half
unfolding whole fraction gcd ◌+ℚ◌ ◌*ℚ◌ neg_ℚ inverse_ℚ le_ℚ
factor_half = equal (n 3 *ℚ quarter +ℚ minus 1 *ℚ quarter) half refl

half_nonnegative : zero_ℚ ≤ℚ half
unfolding whole fraction gcd ◌+ℚ◌ ◌*ℚ◌ neg_ℚ inverse_ℚ le_ℚ
half_nonnegative = refl

zero_nonnegative : zero_ℚ ≤ℚ zero_ℚ
unfolding whole fraction gcd ◌+ℚ◌ ◌*ℚ◌ neg_ℚ inverse_ℚ le_ℚ
zero_nonnegative = refl

factored : (x q : ℚ) → (n 3 *ℚ x) *ℚ quarter +ℚ (minus 1 *ℚ x) *ℚ q ≡ (n 3 *ℚ quarter +ℚ minus 1 *ℚ q) *ℚ x
unfolding whole
factored x q =
    ring rationals (x ∷ q ∷ quarter ∷ [])
    ((num (pos 3) ⊗ v0) ⊗ v2 ⊕ (num (negsuc 0) ⊗ v0) ⊗ v1) ((num (pos 3) ⊗ v2 ⊕ num (negsuc 0) ⊗ v1) ⊗ v0) refl

recedes_up : (x : ℚ) → IsRecession narrow (x ∷ []) → zero_ℚ ≤ℚ x
unfolding whole
recedes_up x h =
    subst (λ (q : ℚ). zero_ℚ ≤ℚ q) (add_zero (one_ℚ *ℚ x) ∙ one_mul x) (h.meets 0 (record { normal = []; bound = zero_ℚ }) (lit< tt))

ray_row : (x : ℚ) (r : List ℚ) → IsRecession narrow (x ∷ []) → r ≡ exchange_row ones (image_of narrow (x ∷ [])) false → IsKnownRow r
unfolding whole
ray_row x r h e = inr (
  n 3 *ℚ x,
  minus 1 *ℚ x,
  (
    e ∙ value_row x false,
    subst (λ (q : ℚ). zero_ℚ ≤ℚ q) (sym (factored x three_quarters ∙ ap (λ (q : ℚ). q *ℚ x) factor_zero ∙ zero_mul x)) zero_nonnegative,
    subst (λ (q : ℚ). zero_ℚ ≤ℚ q) (sym (factored x quarter ∙ ap (λ (q : ℚ). q *ℚ x) factor_half))
        (subst (λ (q : ℚ). q ≤ℚ half *ℚ x) (mul_zero half) (mul_le half zero_ℚ x half_nonnegative (recedes_up x h))),
  ),
)

direction_row : (i : ℕ) (d r : List ℚ) → 1 ≤ i → i ≤ 2 → d ≡ unit 2 i → r ≡ exchange_row ones d false → IsKnownRow r
unfolding whole fraction gcd ◌+ℚ◌ ◌*ℚ◌ neg_ℚ inverse_ℚ le_ℚ
direction_row zero d r l u is e = absurd (omega (arith, l))
direction_row (suc zero) d r l u is e = inr (
  n 1,
  n 0,
  (e ∙ ap (λ (y : List ℚ). exchange_row ones y false) is ∙ same_vector_is (exchange_row ones (unit 2 1) false) (n 1 ∷ zero_ℚ ∷ n 0 ∷ []) refl, refl, refl),
)
direction_row (suc (suc zero)) d r l u is e = inr (
  minus 1,
  n 1,
  (e ∙ ap (λ (y : List ℚ). exchange_row ones y false) is ∙ same_vector_is (exchange_row ones (unit 2 2) false) (minus 1 ∷ zero_ℚ ∷ n 1 ∷ []) refl, refl, refl),
)
direction_row (suc (suc (suc i))) d r l u is e = absurd (omega (arith, u))

known_row : (r : List ℚ) → IsBaseRow narrow ones r → IsKnownRow r
unfolding whole
known_row r (IsBaseRow.of_choice x h e) =
    one_entry (λ (v : List ℚ). IsBaseChoice narrow v → r ≡ exchange_row ones (image_of narrow v) true → IsKnownRow r)
    (λ q b f. inl (choice_row q r b f)) x h.feasible.width h e
known_row r (IsBaseRow.of_ray x h e) =
    one_entry (λ (v : List ℚ). IsRecession narrow v → r ≡ exchange_row ones (image_of narrow v) false → IsKnownRow r)
    (λ q b f. ray_row q r b f) x h.recedes.width h.recedes e
known_row r (IsBaseRow.of_cone d (i, l, u, is) e) = direction_row i d r l u is e

at_left : (r : List ℚ) → IsKnownRow r → zero_ℚ ≤ℚ dot r left
unfolding whole fraction gcd ◌+ℚ◌ ◌*ℚ◌ neg_ℚ inverse_ℚ le_ℚ
at_left r (inl e) = subst (λ (v : List ℚ). zero_ℚ ≤ℚ dot v left) (sym e) refl
at_left r (inr (p, q, (e, first, second))) =
    subst (λ (v : List ℚ). zero_ℚ ≤ℚ dot v left) (sym e) (subst (λ (z : ℚ). zero_ℚ ≤ℚ z) (three_sum p q three_quarters) first)
  where
    three_sum : (p q t : ℚ) → p *ℚ quarter +ℚ q *ℚ t ≡ dot (p ∷ zero_ℚ ∷ q ∷ []) (quarter ∷ zero_ℚ ∷ t ∷ [])
    three_sum p q t =
        ring rationals (p ∷ q ∷ t ∷ quarter ∷ []) (v0 ⊗ v3 ⊕ v1 ⊗ v2)
        (v0 ⊗ v3 ⊕ (num (pos 0) ⊗ num (pos 0) ⊕ (v1 ⊗ v2 ⊕ num (pos 0)))) refl

same_numbers : n 9 *ℚ half +ℚ minus 3 *ℚ one_ℚ ≡ n 9 *ℚ quarter +ℚ minus 3 *ℚ quarter
unfolding whole fraction gcd ◌+ℚ◌ ◌*ℚ◌ neg_ℚ inverse_ℚ le_ℚ
same_numbers = equal (n 9 *ℚ half +ℚ minus 3 *ℚ one_ℚ) (n 9 *ℚ quarter +ℚ minus 3 *ℚ quarter) refl

moved : (y p q : ℚ) → dot (n 9 ∷ minus 1 ∷ minus 3 ∷ []) (p ∷ y ∷ q ∷ []) ≡ (n 9 *ℚ p +ℚ minus 3 *ℚ q) +ℚ minus 1 *ℚ y
unfolding whole
moved y p q =
    ring rationals (y ∷ p ∷ q ∷ [])
    (num (pos 9) ⊗ v1 ⊕ (num (negsuc 0) ⊗ v0 ⊕ (num (negsuc 2) ⊗ v2 ⊕ num (pos 0))))
    ((num (pos 9) ⊗ v1 ⊕ num (negsuc 2) ⊗ v2) ⊕ num (negsuc 0) ⊗ v0) refl

at_right : (r : List ℚ) (y : ℚ) → IsKnownRow r → zero_ℚ ≤ℚ dot r (half ∷ y ∷ one_ℚ ∷ []) → zero_ℚ ≤ℚ dot r (right y)
at_right r y (inl e) h =
    let g : zero_ℚ ≤ℚ dot (n 9 ∷ minus 1 ∷ minus 3 ∷ []) (half ∷ y ∷ one_ℚ ∷ []) = subst (λ (v : List ℚ). zero_ℚ ≤ℚ dot v (half ∷ y ∷ one_ℚ ∷ [])) e h in
    subst (λ (v : List ℚ). zero_ℚ ≤ℚ dot v (right y)) (sym e)
    (subst (λ (z : ℚ). zero_ℚ ≤ℚ z) (moved y half one_ℚ ∙ ap (λ (k : ℚ). k +ℚ minus 1 *ℚ y) same_numbers ∙ sym (moved y quarter quarter)) g)
at_right r y (inr (p, q, (e, first, second))) h =
    subst (λ (v : List ℚ). zero_ℚ ≤ℚ dot v (right y)) (sym e) (subst (λ (z : ℚ). zero_ℚ ≤ℚ z) (three_sum p q y) second)
  where
    three_sum : (p q y : ℚ) → p *ℚ quarter +ℚ q *ℚ quarter ≡ dot (p ∷ zero_ℚ ∷ q ∷ []) (quarter ∷ y ∷ quarter ∷ [])
    three_sum p q y =
        ring rationals (p ∷ q ∷ y ∷ quarter ∷ []) (v0 ⊗ v3 ⊕ v1 ⊗ v3)
        (v0 ⊗ v3 ⊕ (num (pos 0) ⊗ v2 ⊕ (v1 ⊗ v3 ⊕ num (pos 0)))) refl

sum_is : (y : ℚ) → half ∷ y ∷ one_ℚ ∷ [] ≡ plus left (right y)
unfolding whole fraction gcd ◌+ℚ◌ ◌*ℚ◌ neg_ℚ inverse_ℚ le_ℚ
sum_is y = three (equal half (quarter +ℚ quarter) refl) (sym (zero_add y)) (equal one_ℚ (three_quarters +ℚ quarter) refl)
  where
    three : {a b c a' b' c' : ℚ} → a ≡ a' → b ≡ b' → c ≡ c' → a ∷ b ∷ c ∷ [] ≡ a' ∷ b' ∷ c' ∷ []
    three e f g = cc

-- the first part is no multiple
no_multiple : (y : ℚ) → IsMultiple (half ∷ y ∷ one_ℚ ∷ []) left → ⊥
unfolding whole fraction gcd ◌+ℚ◌ ◌*ℚ◌ neg_ℚ inverse_ℚ le_ℚ
no_multiple y m =
    let factor : three_quarters ≡ m.factor = ap (λ (v : List ℚ). entry v 3) m.same ∙ mul_one m.factor in
    apart quarter (three_quarters *ℚ half) refl (ap (λ (v : List ℚ). entry v 1) m.same ∙ ap (λ (f : ℚ). f *ℚ half) (sym factor))

-- no cone of base rows has an extreme direction (1/2, y, 1)
not_extreme : (rows : List (List ℚ)) (y : ℚ) → All (IsBaseRow narrow ones) rows → IsExtremeDirection 3 (IsInCone 3 rows) (half ∷ y ∷ one_ℚ ∷ []) → ⊥
not_extreme rows y base e = no_multiple y (e.no_sum left (right y) (record { wide = refl; within = first }) (record { wide = refl; within = second }) (sum_is y)).0
  where
    first : All (λ r. zero_ℚ ≤ℚ dot r left) rows
    first = all_of_members (λ r. zero_ℚ ≤ℚ dot r left) rows (λ r k. at_left r (known_row r (member_of (IsBaseRow narrow ones) rows r base k)))

    second : All (λ r. zero_ℚ ≤ℚ dot r (right y)) rows
    second = all_of_members (λ r. zero_ℚ ≤ℚ dot r (right y)) rows
        (λ r k. at_right r y (known_row r (member_of (IsBaseRow narrow ones) rows r base k))
        (member_of (λ x. zero_ℚ ≤ℚ dot x (half ∷ y ∷ one_ℚ ∷ [])) rows r e.member.within k))

no_weight_by : (rows : List (List ℚ)) (g : List ℚ) → length g ≡ 3 → All (IsBaseRow narrow ones) rows → IsExtremeDirection 3 (IsInCone 3 rows) g →
    entry g 3 ≡ one_ℚ → halves ≡ weight_of ones g → ⊥
unfolding whole
no_weight_by rows (x ∷ y ∷ o ∷ []) l base e last is =
    let first : half ≡ x = ap (λ (v : List ℚ). entry v 1) is in
    not_extreme rows y base
    (subst (λ (q : ℚ). IsExtremeDirection 3 (IsInCone 3 rows) (half ∷ y ∷ q ∷ [])) last
    (subst (λ (q : ℚ). IsExtremeDirection 3 (IsInCone 3 rows) (q ∷ y ∷ o ∷ [])) (sym first) e))
no_weight_by rows [] l base e last is = omega (arith, l)
no_weight_by rows (x ∷ []) l base e last is = omega (arith, l)
no_weight_by rows (x ∷ y ∷ []) l base e last is = omega (arith, l)
no_weight_by rows (x ∷ y ∷ o ∷ z ∷ g) l base e last is = omega (arith, l)

pub no_weight : IsBaseWeight narrow ones halves → ⊥
unfolding whole
no_weight h = no_weight_by h.rows h.generator h.is.extreme.member.wide h.base h.is.extreme h.last h.same
