-- The first vector that a sparse vector names.
use Rattle.std.proofs.Common.{◌≡◌, ℕ, List, [], ◌∷◌, ◌≤◌, subst, refl, None, Some, slice_get, nat_lt, arith}
use Rattle.std.specs.Prelude.{◌&&◌, not}
use Rattle.std.proofs.lemmas.Bool.{ltb-true}
use Rattle.std.proofs.lemmas.List.Elements.{All-head}
use Rattle.frac128.specs.Sparse.{is_zero, rises_above}
use Rattle.frac128.specs.declared.vectors.Spot.{Spot}
use Rattle.polyhedra.proofs.Tests.{both_true}
use Rattle.upper_image.specs.Spots.{IsVector}

pub head_of : {A : Type 0} (xs : List A) (x : A) → slice_get xs 0 ≡ Some x → (more : List A) × (xs ≡ x ∷ more)
head_of [] x e = absurd (cc)
head_of (y ∷ xs) x e = (xs, cc)

pub none_of : {A : Type 0} (xs : List A) → slice_get xs 0 ≡ None → xs ≡ []
none_of [] e = refl
none_of (y ∷ xs) e = absurd (cc)

pub first_place : (n : ℕ) (m : List Spot) (s : Spot) (more : List Spot) → m ≡ s ∷ more → IsVector n m → (1 ≤ s.at) × (s.at ≤ n)
first_place n m s more e vector =
    let v : IsVector n (s ∷ more) = subst (λ (l : List Spot). IsVector n l) e vector in
    let rises = both_true (nat_lt 0 s.at) (not (is_zero s.value) && rises_above s.at more) v.sparse in
    let low = ltb-true 0 s.at rises.0 in
    (omega (arith, low), All-head (λ s. s.at ≤ n) s more v.places)
