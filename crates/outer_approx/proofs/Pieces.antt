-- Pieces of a vector that grows by one.
use Rattle.std.proofs.Common.{◌≡◌, ℕ, zero, suc, ◌*◌, ◌≤◌, List, [], ◌∷◌, ◌++◌, length, take, drop, sym, ap, ap₂, ◌∙◌, arith, length-drop}
use Rattle.std.proofs.lemmas.List.{take-append-le, drop-append-le, take_all}
use Rattle.exact_field.specs.Rational.{ℚ}
use Rattle.upper_image.specs.Spots.{pieces}

pub pieces_more : (n q : ℕ) (xs d : List ℚ) → length xs ≡ n * q → length d ≡ q → pieces (suc n) q (xs ++ d) ≡ pieces n q xs ++ d ∷ []
pieces_more zero q [] d h k = ap (λ v. v ∷ []) (ap (λ m. take m d) (sym k) ∙ take_all (length d) d (omega arith))
pieces_more zero q (x ∷ xs) d h k = absurd (omega (arith, h))
pieces_more (suc n) q xs d h k =
    let rest : length (drop q xs) ≡ n * q = length-drop q xs ∙ omega (arith, h) in
    let inside : q ≤ length xs = omega (arith, h) in
    ap₂ (λ v vs. v ∷ vs) (take-append-le q xs d inside)
    (ap (pieces (suc n) q) (drop-append-le q xs d inside) ∙ pieces_more n q (drop q xs) d rest k)
