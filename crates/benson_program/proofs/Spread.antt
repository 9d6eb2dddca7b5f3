-- Each vector is a list of spots, one for each entry.
use Rattle.std.proofs.Common.{◌≡◌, ℕ, zero, suc, List, [], ◌∷◌, map, length, refl, ap, ap₂, ◌∙◌, arith, ◌≤◌, Bool, eq-eqb}
use Rattle.std.specs.Prelude.{if◌then◌else◌}
use Rattle.std.proofs.lemmas.Bool.{ne_eqb}
use Rattle.exact_field.specs.Rational.{ℚ}
use Rattle.polyhedra.specs.Sparse.{value_at, values_from}
use Rattle.frac128.specs.declared.vectors.Spot.{Spot}
use Rattle.upper_image.specs.Spots.{dense, entry_of}

abbrev spots_from : ℕ → List ℚ → List Spot
spots_from k [] = []
spots_from k (x ∷ xs) = record { at = k; value = x } ∷ spots_from (suc k) xs

abbrev pub spots : List ℚ → List Spot
spots xs = spots_from 1 xs

values_same : (n k : ℕ) (f g : ℕ → ℚ) → ((j : ℕ) → k ≤ j → f j ≡ g j) → values_from n k f ≡ values_from n k g
values_same zero k f g h = refl
values_same (suc n) k f g h = ap₂ (λ a b. a ∷ b) (h k (omega arith)) (values_same n (suc k) f g (λ j l. h j (omega arith)))

spots_from-dense : (k : ℕ) (xs : List ℚ) → values_from (length xs) k (value_at (map entry_of (spots_from k xs))) ≡ xs
spots_from-dense k [] = refl
spots_from-dense k (x ∷ xs) =
    ap₂ (λ a b. a ∷ b)
    (ap (λ (b : Bool). if b then x else value_at (map entry_of (spots_from (suc k) xs)) k) (eq-eqb k k refl))
    (values_same (length xs) (suc k) (value_at (map entry_of (spots_from k (x ∷ xs)))) (value_at (map entry_of (spots_from (suc k) xs)))
    (λ j l. ap (λ (b : Bool). if b then x else value_at (map entry_of (spots_from (suc k) xs)) j) (ne_eqb k j (λ e. omega (arith, l, e))))
    ∙ spots_from-dense (suc k) xs)

pub spots-dense : (xs : List ℚ) → dense (length xs) (spots xs) ≡ xs
spots-dense xs = spots_from-dense 1 xs
