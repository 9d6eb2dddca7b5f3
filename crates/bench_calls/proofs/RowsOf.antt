-- Rows of whole numbers, one after the other.
use Rattle.std.proofs.Common.{◌≡◌, ℕ, suc, ◌+◌, ◌-◌, ◌<◌, ℤ, List, [], ◌∷◌, ◌++◌, map, take, drop, refl, ap, ◌∙◌, arith}
use Rattle.std.proofs.lemmas.List.{map-id, append_assoc}
use Rattle.exact_field.specs.Rational.{ℚ, whole}
use Rattle.lin_rows.specs.Read.{numbers}
use Rattle.bench_calls.specs.Cones.{rows_of}

-- fractions are their own values
pub numbers_same : (rows : List (List ℚ)) → numbers (λ q. q) rows ≡ rows
numbers_same [] = refl
numbers_same (r ∷ rs) = ap (λ row. row ∷ numbers (λ q. q) rs) (map-id r) ∙ ap (λ rows. r ∷ rows) (numbers_same rs)

-- the next row is read
pub read_more : (count place width : ℕ) (rows : List (List ℚ)) (rest : List ℤ) → place < count →
    (rows ++ map whole (take width rest) ∷ []) ++ rows_of (count - (place + 1)) width (drop width rest) ≡ rows ++ rows_of (count - place) width rest
read_more count place width rows rest l =
    let e : suc (count - (place + 1)) ≡ count - place = omega arith in
    append_assoc rows (map whole (take width rest) ∷ []) (rows_of (count - (place + 1)) width (drop width rest))
    ∙ ap (λ n. rows ++ rows_of n width rest) e
