-- Vectors without the entries at marked places, and with zeros there: lengths, products, sums, and
-- that each undoes the other.
use Rattle.std.proofs.Common.{◌≡◌, ◌≤◌, suc, List, [], ◌∷◌, map, length, Bool, true, false, cond, refl, sym, ap, ap₂, ◌∙◌, arith}
use Rattle.exact_field.specs.Rational.{ℚ, zero_ℚ, one_ℚ, ◌+ℚ◌, ◌*ℚ◌, neg_ℚ}
use Rattle.exact_field.specs.Vector.{dot}
use Rattle.polyhedra.specs.Vectors.{AreWide, zeros, plus, scaled, combination}
use Rattle.polyhedra.specs.DoubleDescription.{is_zero, leading}
use Rattle.polyhedra.specs.Exactness.{homogenised, level, row_of}
use Rattle.polyhedra.specs.Inequality.{Inequality}
use Rattle.polyhedra.proofs.Laws.{add_zero}
use Rattle.polyhedra.proofs.Algebra.{zero_add, mul_zero}
use Rattle.polyhedra.proofs.Linear.{dot-nil, length-plus, length-scaled, length-combination}
use Rattle.polyhedra.proofs.Lists.{wide-head, wide-tail}
use Rattle.polyhedra.proofs.Tests.{test_of_zero}
use Rattle.lineality.specs.Without.{open_count, without, with_zeros}

-- ---- lengths
pub length-without : (bs : List Bool) (v : List ℚ) → length v ≡ length bs → length (without bs v) ≡ open_count bs
length-without [] v h = h
length-without (b ∷ bs) [] h = absurd (omega arith)
length-without (true ∷ bs) (x ∷ v) h = length-without bs v (omega arith)
length-without (false ∷ bs) (x ∷ v) h = ap suc (length-without bs v (omega arith))

pub length-with : (bs : List Bool) (z : List ℚ) → length z ≡ open_count bs → length (with_zeros bs z) ≡ length bs
length-with [] z h = h
length-with (true ∷ bs) z h = ap suc (length-with bs z h)
length-with (false ∷ bs) [] h = absurd (omega arith)
length-with (false ∷ bs) (x ∷ z) h = ap suc (length-with bs z (omega arith))

pub open_bound : (bs : List Bool) → open_count bs ≤ length bs
open_bound [] = omega arith
open_bound (true ∷ bs) = let h = open_bound bs in omega (arith, h)
open_bound (false ∷ bs) = let h = open_bound bs in omega (arith, h)

-- with one entry more than there are places
pub length-short : (bs : List Bool) (v : List ℚ) → length v ≡ suc (length bs) → length (without bs v) ≡ suc (open_count bs)
length-short [] v h = h
length-short (b ∷ bs) [] h = absurd (omega (arith, h))
length-short (true ∷ bs) (x ∷ v) h = length-short bs v (omega (arith, h))
length-short (false ∷ bs) (x ∷ v) h = ap suc (length-short bs v (omega (arith, h)))

pub length-filled : (bs : List Bool) (z : List ℚ) → length z ≡ suc (open_count bs) → length (with_zeros bs z) ≡ suc (length bs)
length-filled [] z h = h
length-filled (true ∷ bs) z h = ap suc (length-filled bs z h)
length-filled (false ∷ bs) [] h = absurd (omega (arith, h))
length-filled (false ∷ bs) (x ∷ z) h = ap suc (length-filled bs z (omega (arith, h)))

pub length-unfilled : (bs : List Bool) (z : List ℚ) → length (with_zeros bs z) ≡ suc (length bs) → length z ≡ suc (open_count bs)
length-unfilled [] z h = h
length-unfilled (true ∷ bs) z h = length-unfilled bs z (omega (arith, h))
length-unfilled (false ∷ bs) [] h = absurd (omega (arith, h))
length-unfilled (false ∷ bs) (x ∷ z) h = ap suc (length-unfilled bs z (omega (arith, h)))

pub without-nil : (bs : List Bool) → without bs [] ≡ []
without-nil [] = refl
without-nil (b ∷ bs) = refl

-- ---- each undoes the other
pub without-with : (bs : List Bool) (z : List ℚ) → without bs (with_zeros bs z) ≡ z
without-with [] z = refl
without-with (true ∷ bs) z = without-with bs z
without-with (false ∷ bs) [] = refl
without-with (false ∷ bs) (x ∷ z) = ap (λ v. x ∷ v) (without-with bs z)

-- ---- products
pub dot-without : (bs : List Bool) (r z : List ℚ) → dot (without bs r) z ≡ dot r (with_zeros bs z)
dot-without [] r z = refl
dot-without (b ∷ bs) [] z = refl
dot-without (true ∷ bs) (x ∷ r) z = dot-without bs r z ∙ sym (ap (λ a. a +ℚ dot r (with_zeros bs z)) (mul_zero x) ∙ zero_add (dot r (with_zeros bs z)))
dot-without (false ∷ bs) (x ∷ r) [] = refl
dot-without (false ∷ bs) (x ∷ r) (y ∷ z) = ap (λ a. x *ℚ y +ℚ a) (dot-without bs r z)

-- ---- sums and multiples
pub without-plus : (bs : List Bool) (u v : List ℚ) → length u ≡ length v → without bs (plus u v) ≡ plus (without bs u) (without bs v)
without-plus [] u v h = refl
without-plus (b ∷ bs) [] [] h = refl
without-plus (b ∷ bs) [] (y ∷ v) h = absurd (omega arith)
without-plus (b ∷ bs) (x ∷ u) [] h = absurd (omega arith)
without-plus (true ∷ bs) (x ∷ u) (y ∷ v) h = without-plus bs u v (omega arith)
without-plus (false ∷ bs) (x ∷ u) (y ∷ v) h = ap (λ w. (x +ℚ y) ∷ w) (without-plus bs u v (omega arith))

pub without-scaled : (bs : List Bool) (c : ℚ) (v : List ℚ) → without bs (scaled c v) ≡ scaled c (without bs v)
without-scaled [] c v = refl
without-scaled (b ∷ bs) c [] = refl
without-scaled (true ∷ bs) c (x ∷ v) = without-scaled bs c v
without-scaled (false ∷ bs) c (x ∷ v) = ap (λ w. (c *ℚ x) ∷ w) (without-scaled bs c v)

pub without-zeros : (bs : List Bool) → without bs (zeros (length bs)) ≡ zeros (open_count bs)
without-zeros [] = refl
without-zeros (true ∷ bs) = without-zeros bs
without-zeros (false ∷ bs) = ap (λ w. zero_ℚ ∷ w) (without-zeros bs)

pub with-plus : (bs : List Bool) (u v : List ℚ) → length u ≡ length v → with_zeros bs (plus u v) ≡ plus (with_zeros bs u) (with_zeros bs v)
with-plus [] u v h = refl
with-plus (true ∷ bs) u v h = ap₂ (λ a w. a ∷ w) (sym (add_zero zero_ℚ)) (with-plus bs u v h)
with-plus (false ∷ bs) [] [] h = refl
with-plus (false ∷ bs) [] (y ∷ v) h = absurd (omega arith)
with-plus (false ∷ bs) (x ∷ u) [] h = absurd (omega arith)
with-plus (false ∷ bs) (x ∷ u) (y ∷ v) h = ap (λ w. (x +ℚ y) ∷ w) (with-plus bs u v (omega arith))

pub with-scaled : (bs : List Bool) (c : ℚ) (z : List ℚ) → with_zeros bs (scaled c z) ≡ scaled c (with_zeros bs z)
with-scaled [] c z = refl
with-scaled (true ∷ bs) c z = ap₂ (λ a w. a ∷ w) (sym (mul_zero c)) (with-scaled bs c z)
with-scaled (false ∷ bs) c [] = refl
with-scaled (false ∷ bs) c (x ∷ z) = ap (λ w. (c *ℚ x) ∷ w) (with-scaled bs c z)

pub with-zeros : (bs : List Bool) → with_zeros bs (zeros (open_count bs)) ≡ zeros (length bs)
with-zeros [] = refl
with-zeros (true ∷ bs) = ap (λ w. zero_ℚ ∷ w) (with-zeros bs)
with-zeros (false ∷ bs) = ap (λ w. zero_ℚ ∷ w) (with-zeros bs)

pub without-combination : (bs : List Bool) (ms : List ℚ) (vs : List (List ℚ)) → AreWide (length bs) vs →
    without bs (combination (length bs) ms vs) ≡ combination (open_count bs) ms (map (without bs) vs)
without-combination bs [] vs w = without-zeros bs
without-combination bs (m ∷ ms) [] w = without-zeros bs
without-combination bs (m ∷ ms) (v ∷ vs) w =
    without-plus bs (scaled m v) (combination (length bs) ms vs)
    (length-scaled m v ∙ wide-head (length bs) v vs w ∙ sym (length-combination (length bs) ms vs (wide-tail (length bs) v vs w)))
    ∙ ap₂ (λ a b. plus a b) (without-scaled bs m v) (without-combination bs ms vs (wide-tail (length bs) v vs w))

-- ---- the first entry that is not 0
pub leading-with : (bs : List Bool) (z : List ℚ) → leading (with_zeros bs z) ≡ leading z
leading-with [] z = refl
leading-with (true ∷ bs) z = ap (λ b. cond b (leading (with_zeros bs z)) zero_ℚ) (test_of_zero zero_ℚ refl) ∙ leading-with bs z
leading-with (false ∷ bs) [] = refl
leading-with (false ∷ bs) (x ∷ z) = ap (λ l. cond (is_zero x) l x) (leading-with bs z)

-- ---- homogenised vectors
pub without-homogenised : (bs : List Bool) (v : List ℚ) (t : ℚ) → length v ≡ length bs → without bs (homogenised v t) ≡ homogenised (without bs v) t
without-homogenised [] v t h = refl
without-homogenised (b ∷ bs) [] t h = absurd (omega arith)
without-homogenised (true ∷ bs) (x ∷ v) t h = without-homogenised bs v t (omega arith)
without-homogenised (false ∷ bs) (x ∷ v) t h = ap (λ w. x ∷ w) (without-homogenised bs v t (omega arith))

pub with-homogenised : (bs : List Bool) (z : List ℚ) (t : ℚ) → length z ≡ open_count bs → with_zeros bs (homogenised z t) ≡ homogenised (with_zeros bs z) t
with-homogenised [] z t h = refl
with-homogenised (true ∷ bs) z t h = ap (λ w. zero_ℚ ∷ w) (with-homogenised bs z t h)
with-homogenised (false ∷ bs) [] t h = absurd (omega arith)
with-homogenised (false ∷ bs) (x ∷ z) t h = ap (λ w. x ∷ w) (with-homogenised bs z t (omega arith))

pub without-level : (bs : List Bool) → without bs (level (length bs)) ≡ level (open_count bs)
without-level bs = without-homogenised bs (zeros (length bs)) one_ℚ (Rattle.polyhedra.proofs.Linear.length-zeros (length bs)) ∙ ap (λ v. homogenised v one_ℚ) (without-zeros bs)

-- an inequality without the entries of its normal there
abbrev pub inequality_without : List Bool → Inequality → Inequality
inequality_without bs e = record { normal = without bs e.normal; bound = e.bound }

pub without-row : (bs : List Bool) (e : Inequality) → length e.normal ≡ length bs → without bs (row_of e) ≡ row_of (inequality_without bs e)
without-row bs e h = without-homogenised bs e.normal (neg_ℚ e.bound) h
