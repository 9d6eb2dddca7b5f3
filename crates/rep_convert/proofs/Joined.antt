-- Vectors one after the other, and their pieces.
use Rattle.std.proofs.Common.{◌≡◌, ℕ, ◌*◌, List, [], ◌∷◌, ◌++◌, length, take, drop, refl, sym, ap, ap₂, ◌∙◌, arith}
use Rattle.std.specs.List.{flat_map}
use Rattle.std.proofs.lemmas.List.{length-append}
use Rattle.std.proofs.Math.Seq.{take-append_seam, drop-append_seam}
use Rattle.exact_field.specs.Rational.{ℚ}
use Rattle.polyhedra.specs.Vectors.{AreWide}
use Rattle.polyhedra.proofs.Lists.{wide-head, wide-tail}
use Rattle.upper_image.specs.Spots.{pieces}

abbrev pub joined : List (List ℚ) → List ℚ
joined vs = flat_map (λ v. v) vs

pub length-joined : (n : ℕ) (vs : List (List ℚ)) → AreWide n vs → length (joined vs) ≡ length vs * n
length-joined n [] h = omega arith
length-joined n (v ∷ vs) h =
    let both = length-append v (joined vs) in
    let rest = length-joined n vs (wide-tail n v vs h) in
    let wide = wide-head n v vs h in
    omega (arith, both, rest, wide)

pub pieces_joined : (n : ℕ) (vs : List (List ℚ)) → AreWide n vs → pieces (length vs) n (joined vs) ≡ vs
pieces_joined n [] h = refl
pieces_joined n (v ∷ vs) h =
    let long = wide-head n v vs h in
    ap₂ (λ (u : List ℚ) (us : List (List ℚ)). u ∷ us)
    (ap (λ (k : ℕ). take k (v ++ joined vs)) (sym long) ∙ take-append_seam v (joined vs))
    (ap (λ (u : List ℚ). pieces (length vs) n u) (ap (λ (k : ℕ). drop k (v ++ joined vs)) (sym long) ∙ drop-append_seam v (joined vs))
    ∙ pieces_joined n vs (wide-tail n v vs h))
