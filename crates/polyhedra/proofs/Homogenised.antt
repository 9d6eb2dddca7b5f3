-- Vectors with one more entry at their end.
use Rattle.std.proofs.Common.{◌≡◌, ℕ, zero, suc, List, [], ◌∷◌, length, refl, sym, ap, ap₂, ◌∙◌, subst, arith, length-append, ◌-◌, cond, false, ◌⊎◌, inl, inr, slice_index_or}
use Rattle.std.proofs.lemmas.List.{same_from_push}
use Rattle.exact_field.specs.Rational.{ℚ, zero_ℚ, one_ℚ, ◌+ℚ◌, ◌*ℚ◌, neg_ℚ, ◌≤ℚ◌, ◌<ℚ◌}
use Rattle.exact_field.specs.Vector.{dot, entry}
use Rattle.polyhedra.specs.Vectors.{zeros, plus, scaled}
use Rattle.polyhedra.specs.DoubleDescription.{is_zero, magnitude, leading, norming, IsNormed}
use Rattle.polyhedra.specs.Inequality.{Inequality}
use Rattle.polyhedra.specs.Hull.{IsNormedDirection}
use Rattle.polyhedra.specs.Exactness.{homogenised, level, row_of, NormedArePointsOrDirections}
use Rattle.polyhedra.proofs.Laws.{add_comm, add_zero, add_assoc, mul_one, le_of_lt, zero_lt_one}
use Rattle.polyhedra.proofs.Algebra.{zero_add, one_mul, mul_zero}
use Rattle.polyhedra.proofs.Order.{zero_or_positive, not_zero_of_positive}
use Rattle.polyhedra.proofs.Linear.{dot_comm, dot-zeros, length-zeros}
use Rattle.polyhedra.proofs.Tests.{test_of_other, test_of_zero}

pub length-homogenised : (n : ℕ) (y : List ℚ) (t : ℚ) → length y ≡ n → length (homogenised y t) ≡ suc n
length-homogenised n y t h = omega (arith, length-append y (t ∷ []))

pub dot-homogenised : (u v : List ℚ) (s t : ℚ) → length u ≡ length v → dot (homogenised u s) (homogenised v t) ≡ dot u v +ℚ s *ℚ t
dot-homogenised [] [] s t h = add_comm (s *ℚ t) zero_ℚ
dot-homogenised [] (y ∷ v) s t h = absurd (omega arith)
dot-homogenised (x ∷ u) [] s t h = absurd (omega arith)
dot-homogenised (x ∷ u) (y ∷ v) s t h = ap (λ a. x *ℚ y +ℚ a) (dot-homogenised u v s t (omega arith)) ∙ sym (add_assoc (x *ℚ y) (dot u v) (s *ℚ t))

pub plus-homogenised : (u v : List ℚ) (s t : ℚ) → length u ≡ length v → plus (homogenised u s) (homogenised v t) ≡ homogenised (plus u v) (s +ℚ t)
plus-homogenised [] [] s t h = refl
plus-homogenised [] (y ∷ v) s t h = absurd (omega arith)
plus-homogenised (x ∷ u) [] s t h = absurd (omega arith)
plus-homogenised (x ∷ u) (y ∷ v) s t h = ap (λ w. (x +ℚ y) ∷ w) (plus-homogenised u v s t (omega arith))

pub scaled-homogenised : (c : ℚ) (u : List ℚ) (s : ℚ) → scaled c (homogenised u s) ≡ homogenised (scaled c u) (c *ℚ s)
scaled-homogenised c [] s = refl
scaled-homogenised c (x ∷ u) s = ap (λ w. (c *ℚ x) ∷ w) (scaled-homogenised c u s)

pub zeros-homogenised : (n : ℕ) → zeros (suc n) ≡ homogenised (zeros n) zero_ℚ
zeros-homogenised zero = refl
zeros-homogenised (suc n) = ap (λ w. zero_ℚ ∷ w) (zeros-homogenised n)

pub homogenised-same : (u v : List ℚ) (s t : ℚ) → homogenised u s ≡ homogenised v t → (u ≡ v) × (s ≡ t)
homogenised-same u v s t h = same_from_push u v s t h

-- a vector of one entry more, as a homogenised one
pub record IsHomogenised (n : ℕ) (z : List ℚ) : Type 0 where
  pub front : List ℚ
  pub last : ℚ
  pub wide : length front ≡ n
  pub same : z ≡ homogenised front last

pub unhomogenised : (n : ℕ) (z : List ℚ) → length z ≡ suc n → IsHomogenised n z
unhomogenised n [] h = absurd (omega arith)
unhomogenised zero (x ∷ []) h = record { front = []; last = x; wide = refl; same = refl }
unhomogenised zero (x ∷ y ∷ z) h = absurd (omega arith)
unhomogenised (suc n) (x ∷ z) h =
    let u : IsHomogenised n z = unhomogenised n z (omega arith) in
    record { front = x ∷ u.front; last = u.last; wide = ap suc u.wide; same = ap (λ w. x ∷ w) u.same }

-- ---- the rows at a homogenised vector
pub level_value : (n : ℕ) (y : List ℚ) (t : ℚ) → length y ≡ n → dot (level n) (homogenised y t) ≡ t
level_value n y t h = dot-homogenised (zeros n) y one_ℚ t (length-zeros n ∙ sym h)
    ∙ ap₂ (λ a b. a +ℚ b) (dot_comm (zeros n) y ∙ dot-zeros y n) (one_mul t) ∙ zero_add t

pub row_value : (e : Inequality) (y : List ℚ) (t : ℚ) → length e.normal ≡ length y → dot (row_of e) (homogenised y t) ≡ dot e.normal y +ℚ neg_ℚ e.bound *ℚ t
row_value e y t h = dot-homogenised e.normal y (neg_ℚ e.bound) t h

pub row_value_point : (e : Inequality) (y : List ℚ) → length e.normal ≡ length y → dot (row_of e) (homogenised y one_ℚ) ≡ dot e.normal y +ℚ neg_ℚ e.bound
row_value_point e y h = row_value e y one_ℚ h ∙ ap (λ a. dot e.normal y +ℚ a) (mul_one (neg_ℚ e.bound))

pub row_value_direction : (e : Inequality) (d : List ℚ) → length e.normal ≡ length d → dot (row_of e) (homogenised d zero_ℚ) ≡ dot e.normal d
row_value_direction e d h = row_value e d zero_ℚ h ∙ ap (λ a. dot e.normal d +ℚ a) (mul_zero (neg_ℚ e.bound)) ∙ add_zero (dot e.normal d)

-- ---- normed vectors
leading-homogenised : (y : List ℚ) → leading (homogenised y zero_ℚ) ≡ leading y
leading-homogenised [] = ap (λ b. cond b zero_ℚ zero_ℚ) (test_of_zero zero_ℚ refl)
leading-homogenised (x ∷ y) = ap (λ a. cond (is_zero x) a x) (leading-homogenised y)

pub last-homogenised : (y : List ℚ) (t : ℚ) → entry (homogenised y t) (length (homogenised y t)) ≡ t
last-homogenised y t = ap (λ n. slice_index_or (homogenised y t) n zero_ℚ) (count y) ∙ at_end y
  where
    count : (v : List ℚ) → length (homogenised v t) - 1 ≡ length v
    count v = omega (arith, length-append v (t ∷ []))

    at_end : (v : List ℚ) → slice_index_or (homogenised v t) (length v) zero_ℚ ≡ t
    at_end [] = refl
    at_end (x ∷ v) = at_end v

norming-homogenised : (y : List ℚ) (t : ℚ) → norming (homogenised y t) ≡ cond (is_zero t) (leading (homogenised y t)) t
norming-homogenised y t = ap (λ a. cond (is_zero a) (leading (homogenised y t)) a) (last-homogenised y t)

pub point_normed : (y : List ℚ) → IsNormed (homogenised y one_ℚ)
point_normed y = ap magnitude (norming-homogenised y one_ℚ ∙ ap (λ b. cond b (leading (homogenised y one_ℚ)) one_ℚ) (test_of_other one_ℚ
    (not_zero_of_positive one_ℚ zero_lt_one))) ∙ ap (λ b. cond b one_ℚ (neg_ℚ one_ℚ)) (le_of_lt zero_ℚ one_ℚ zero_lt_one)

pub direction_normed : (d : List ℚ) → IsNormedDirection d → IsNormed (homogenised d zero_ℚ)
direction_normed d h = ap magnitude (norming-homogenised d zero_ℚ ∙ ap (λ b. cond b (leading (homogenised d zero_ℚ)) zero_ℚ) (test_of_zero zero_ℚ refl)
    ∙ leading-homogenised d) ∙ h

pub points_or_directions : NormedArePointsOrDirections
points_or_directions n g width normed high = by (unhomogenised n g width)
  where
    by : IsHomogenised n g → ((y : List ℚ) × (length y ≡ n) × (g ≡ homogenised y one_ℚ)) ⊎ ((d : List ℚ) × (length d ≡ n) × IsNormedDirection d × (g ≡ homogenised d zero_ℚ))
    by u = go (zero_or_positive u.last (subst (λ (x : ℚ). zero_ℚ ≤ℚ x) (ap (λ v. dot (level n) v) u.same ∙ level_value n u.front u.last u.wide) high))
      where
        value : magnitude (cond (is_zero u.last) (leading (homogenised u.front u.last)) u.last) ≡ one_ℚ
        value = sym (ap magnitude (norming-homogenised u.front u.last)) ∙ ap (λ v. magnitude (norming v)) (sym u.same) ∙ normed

        go : (u.last ≡ zero_ℚ) ⊎ (zero_ℚ <ℚ u.last) → ((y : List ℚ) × (length y ≡ n) × (g ≡ homogenised y one_ℚ)) ⊎
            ((d : List ℚ) × (length d ≡ n) × IsNormedDirection d × (g ≡ homogenised d zero_ℚ))
        go (inl e) = inr (
          u.front,
          u.wide,
          ap magnitude (sym (leading-homogenised u.front)) ∙ ap (λ t. magnitude (leading (homogenised u.front t))) (sym e)
              ∙ ap (λ b. magnitude (cond b (leading (homogenised u.front u.last)) u.last)) (sym (test_of_zero u.last e)) ∙ value,
          u.same ∙ ap (λ t. homogenised u.front t) e,
        )
        go (inr p) =
            let other : is_zero u.last ≡ false = test_of_other u.last (λ e. not_zero_of_positive u.last p e) in
            let one : u.last ≡ one_ℚ =
            sym (ap (λ b. cond b u.last (neg_ℚ u.last)) (le_of_lt zero_ℚ u.last p))
            ∙ ap (λ b. magnitude (cond b (leading (homogenised u.front u.last)) u.last)) (sym other) ∙ value in
            inl (u.front, u.wide, u.same ∙ ap (λ t. homogenised u.front t) one)
