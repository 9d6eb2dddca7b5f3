-- Products of vectors place by place, and the product with a vector that takes its values from a basis.
use Rattle.std.proofs.Common.{◌≡◌, ◌≢◌, ℕ, zero, suc, List, [], ◌∷◌, length, map, refl, sym, ap, ap₂, ◌∙◌, subst, arith, ◌<◌, ◌≤◌, ◌-◌, inl, inr, slice_index_or}
use Rattle.std.specs.Prelude.{◌==◌}
use Rattle.exact_field.specs.Rational.{ℚ, zero_ℚ, one_ℚ, ◌+ℚ◌, ◌*ℚ◌}
use Rattle.exact_field.specs.Vector.{entry, dot}
use Rattle.polyhedra.specs.Vectors.{zeros, plus, scaled}
use Rattle.polyhedra.proofs.Laws.{add_zero, mul_comm, mul_one}
use Rattle.polyhedra.proofs.Algebra.{zero_add, mul_zero, zero_mul}
use Rattle.polyhedra.proofs.Linear.{dot-plus, dot-scaled, dot-zeros, length-plus, length-scaled, length-zeros}
use Rattle.tableaux.specs.Table.{unit, listed}
use Rattle.tableaux.specs.Dictionary.{value_of_column}
use Rattle.tableaux.proofs.Places.{length-list_from, listed-place, listed-is, entry-scaled, entry-plus, same_or_other, if_true, if_false, delta, delta-same, delta-other}
use Rattle.tableaux.proofs.Unique.{slice-zeros}
use Rattle.tableaux.proofs.Definition.{unit_entry}

-- f 0 + .. + f (n - 1)
abbrev pub total : ℕ → (ℕ → ℚ) → ℚ
total zero f = zero_ℚ
total (suc n) f = f 0 +ℚ total n (λ k. f (suc k))

pub total-same : (n : ℕ) (f g : ℕ → ℚ) → ((k : ℕ) → k < n → f k ≡ g k) → total n f ≡ total n g
total-same zero f g h = refl
total-same (suc n) f g h = ap₂ (λ a b. a +ℚ b) (h 0 (omega arith)) (total-same n (λ k. f (suc k)) (λ k. g (suc k)) (λ k l. h (suc k) (omega arith)))

pub total-zero : (n : ℕ) (f : ℕ → ℚ) → ((k : ℕ) → k < n → f k ≡ zero_ℚ) → total n f ≡ zero_ℚ
total-zero zero f h = refl
total-zero (suc n) f h = ap₂ (λ a b. a +ℚ b) (h 0 (omega arith)) (total-zero n (λ k. f (suc k)) (λ k l. h (suc k) (omega arith))) ∙ add_zero zero_ℚ

pub dot-total : (n : ℕ) (u v : List ℚ) → length v ≤ n → dot u v ≡ total n (λ k. slice_index_or u k zero_ℚ *ℚ slice_index_or v k zero_ℚ)
dot-total n [] v h = sym (total-zero n (λ k. zero_ℚ *ℚ slice_index_or v k zero_ℚ) (λ k l. zero_mul (slice_index_or v k zero_ℚ)))
dot-total n (x ∷ u) [] h = sym (total-zero n (λ k. slice_index_or (x ∷ u) k zero_ℚ *ℚ zero_ℚ) (λ k l. mul_zero (slice_index_or (x ∷ u) k zero_ℚ)))
dot-total zero (x ∷ u) (y ∷ v) h = absurd (omega arith)
dot-total (suc n) (x ∷ u) (y ∷ v) h = ap (λ a. x *ℚ y +ℚ a) (dot-total n u v (omega arith))

-- two products are equal where they are at each place
pub dot_same : (n : ℕ) (u v x y : List ℚ) → length v ≤ n → length y ≤ n →
    ((k : ℕ) → k < n → slice_index_or u k zero_ℚ *ℚ slice_index_or v k zero_ℚ ≡ slice_index_or x k zero_ℚ *ℚ slice_index_or y k zero_ℚ) → dot u v ≡ dot x y
dot_same n u v x y l m h =
    dot-total n u v l
    ∙ total-same n (λ k. slice_index_or u k zero_ℚ *ℚ slice_index_or v k zero_ℚ) (λ k. slice_index_or x k zero_ℚ *ℚ slice_index_or y k zero_ℚ) h
    ∙ sym (dot-total n x y m)

-- ---- values by their column
-- what holds of 0 and of the values at the places of a column holds of the value of the column
pub value-is : (P : ℚ → Type 0) (basis : List ℕ) (vs : List ℚ) (j : ℕ) → P zero_ℚ →
    ((k : ℕ) → k < length vs → slice_index_or basis k 0 ≡ j → P (slice_index_or vs k zero_ℚ)) → P (value_of_column basis vs j)
value-is P [] vs j p h = p
value-is P (c ∷ basis) [] j p h = p
value-is P (c ∷ basis) (v ∷ vs) j p h =
    elim (same_or_other c j) [
      | inl s ↦ subst P (sym (if_true (c == j) v (value_of_column basis vs j) s.1)) (h 0 (omega arith) s.0)
      | inr o ↦ subst P (sym (if_false (c == j) v (value_of_column basis vs j) o.1)) (value-is P basis vs j p (λ k l e. h (suc k) (omega arith) e))
    ]

-- no column stands at two of the first n places
abbrev pub IsOnce : ℕ → List ℕ → Type 0
IsOnce n basis = (k l : ℕ) → k < l → l < n → slice_index_or basis k 0 ≢ 0 → slice_index_or basis k 0 ≡ slice_index_or basis l 0 → ⊥

-- the product with a unit vector, and 0 where its place is none of the n
pub unit-none : (n c : ℕ) (a : List ℚ) → (1 ≤ c → c ≤ n → ⊥) → dot a (unit n c) ≡ zero_ℚ
unit-none n c a h =
    ap (λ u. dot a u) (listed-is n (λ j. delta j c) (zeros n) (length-zeros n)
    (λ j l u. delta-other j c (λ e. h (omega (arith, e, l)) (omega (arith, e, u))) ∙ sym (slice-zeros n (j - 1))))
    ∙ dot-zeros a n

-- the product with the values by their columns takes each value at its column
pub dot-values : (n : ℕ) (a : List ℚ) (basis : List ℕ) (vs : List ℚ) → IsOnce (length vs) basis →
    dot a (listed n (value_of_column basis vs)) ≡ dot (map (λ c. dot a (unit n c)) basis) vs
dot-values n a [] vs once = ap (λ u. dot a u) (listed-is n (λ j. zero_ℚ) (zeros n) (length-zeros n) (λ j l u. sym (slice-zeros n (j - 1)))) ∙ dot-zeros a n
dot-values n a (c ∷ basis) [] once = ap (λ u. dot a u) (listed-is n (λ j. zero_ℚ) (zeros n) (length-zeros n) (λ j l u. sym (slice-zeros n (j - 1)))) ∙ dot-zeros a n
dot-values n a (c ∷ basis) (v ∷ vs) once =
    let rest : List ℚ = listed n (value_of_column basis vs) in
    let rest_long : length rest ≡ n = length-list_from 1 n (value_of_column basis vs) in
    let unit_long : length (scaled v (unit n c)) ≡ n = length-scaled v (unit n c) ∙ length-list_from 1 n (λ j. delta j c) in
    let entry_is : (j : ℕ) → 1 ≤ j → j ≤ n → entry (plus (scaled v (unit n c)) rest) j ≡ v *ℚ delta c j +ℚ value_of_column basis vs j = λ j l u.
    entry-plus (scaled v (unit n c)) rest j
    ∙ ap₂ (λ x y. x +ℚ y) (entry-scaled v (unit n c) j ∙ ap (λ x. v *ℚ x) (unit_entry n c j l u)) (listed-place n (value_of_column basis vs) j zero_ℚ l u) in
    let none : (j : ℕ) → 1 ≤ j → c ≡ j → value_of_column basis vs j ≡ zero_ℚ = λ j l e.
    value-is (λ q. q ≡ zero_ℚ) basis vs j refl (λ k h f. absurd (once 0 (suc k) (omega arith) (omega arith) (λ z. omega (arith, z, e, l)) (e ∙ sym f))) in
    ap (λ u. dot a u) (listed-is n (value_of_column (c ∷ basis) (v ∷ vs)) (plus (scaled v (unit n c)) rest) (length-plus n (scaled v (unit n c)) rest unit_long rest_long)
    (λ j l u. elim (same_or_other c j) [
      | inl s ↦ if_true (c == j) v (value_of_column basis vs j) s.1 ∙ sym (mul_one v) ∙ sym (add_zero (v *ℚ one_ℚ))
          ∙ ap₂ (λ x y. v *ℚ x +ℚ y) (sym (delta-same c j s.0)) (sym (none j l s.0)) ∙ sym (entry_is j l u)
      | inr o ↦ if_false (c == j) v (value_of_column basis vs j) o.1 ∙ sym (zero_add (value_of_column basis vs j))
          ∙ ap (λ x. x +ℚ value_of_column basis vs j) (sym (mul_zero v) ∙ ap (λ x. v *ℚ x) (sym (delta-other c j o.0))) ∙ sym (entry_is j l u)
    ]))
    ∙ dot-plus a (scaled v (unit n c)) rest
    ∙ ap₂ (λ x y. x +ℚ y) (dot-scaled a v (unit n c) ∙ mul_comm v (dot a (unit n c)))
    (dot-values n a basis vs (λ k l h u. once (suc k) (suc l) (omega arith) (omega arith)))
