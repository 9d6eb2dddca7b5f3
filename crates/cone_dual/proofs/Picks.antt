-- Vectors that are picked by their numbers, and vectors that are not 0.
use Rattle.std.proofs.Common.{◌≡◌, ◌≢◌, ℕ, zero, suc, List, [], ◌∷◌, length, map, refl, sym, ap, ap₂, ◌∙◌, arith, ◌<◌, ◌≤◌, ◌-◌, All, Contains, Bool, true, false, true≢false, not, slice_index_or}
use Rattle.std.specs.Prelude.{◌&&◌, filter, if◌then◌else◌}
use Rattle.std.specs.List.{list_all}
use Rattle.std.proofs.lemmas.List.Elements.{All-nil, All-cons, All-head, All-tail, All-weaker}
use Rattle.exact_field.specs.Rational.{ℚ, zero_ℚ}
use Rattle.exact_field.specs.Vector.{dot}
use Rattle.frac128.specs.Sparse.{is_zero}
use Rattle.polyhedra.specs.Cone.{HasFullRank}
use Rattle.polyhedra.specs.Vectors.{zeros}
use Rattle.polyhedra.proofs.Lists.{Contains-here, Contains-there}
use Rattle.polyhedra.proofs.Members.{all_of_members, member_of}
use Rattle.lp_form.proofs.Steps.{nought}
use Rattle.tableaux.specs.Table.{row_of}
use Rattle.tableaux.specs.Elimination.{AreIndependent}

contains_at : {X : Type 0} (xs : List X) (k : ℕ) (d : X) → k < length xs → Contains xs (slice_index_or xs k d)
contains_at [] k d l = absurd (omega arith)
contains_at (x ∷ xs) zero d l = Contains-here x xs x refl
contains_at (x ∷ xs) (suc k) d l = Contains-there x xs (slice_index_or xs k d) (contains_at xs k d (omega arith))

pub row_among : (vectors : List (List ℚ)) (k : ℕ) → 1 ≤ k → k ≤ length vectors → Contains vectors (row_of vectors k)
row_among vectors k low high = contains_at vectors (k - 1) [] (omega arith)

pub all_among : (vectors : List (List ℚ)) → All (Contains vectors) vectors
all_among vectors = all_of_members (Contains vectors) vectors (λ v c. c)

pub picks_among : (vectors : List (List ℚ)) (picks : List ℕ) → All (λ k. 1 ≤ k) picks → All (λ k. k ≤ length vectors) picks →
    All (Contains vectors) (map (row_of vectors) picks)
picks_among vectors [] low high = All-nil (Contains vectors)
picks_among vectors (k ∷ picks) low high =
    All-cons (Contains vectors) (row_of vectors k) (map (row_of vectors) picks)
    (row_among vectors k (All-head (λ k. 1 ≤ k) k picks low) (All-head (λ k. k ≤ length vectors) k picks high))
    (picks_among vectors picks (All-tail (λ k. 1 ≤ k) k picks low) (All-tail (λ k. k ≤ length vectors) k picks high))

-- vectors with independent ones among them, as many as there are dimensions, have full rank
pub full_rank : (q : ℕ) (vectors : List (List ℚ)) (picks : List ℕ) → AreIndependent q vectors picks → HasFullRank q vectors
full_rank q vectors picks independent =
    λ z long none. independent.rank z long
    (All-weaker (Contains vectors) (λ v. dot v z ≡ zero_ℚ) (λ v c. member_of (λ v. dot v z ≡ zero_ℚ) vectors v none c) (map (row_of vectors) picks)
    (picks_among vectors picks independent.from_one independent.to_end))

-- ---- vectors that are not 0
zeros_pass : (q : ℕ) → list_all is_zero (zeros q) ≡ true
zeros_pass zero = refl
zeros_pass (suc q) = ap₂ (λ (a b : Bool). a && b) (nought zero_ℚ true ((λ e. refl), (λ e. refl)) refl) (zeros_pass q)

pub not_zeros : (q : ℕ) (v : List ℚ) → list_all is_zero v ≡ false → v ≢ zeros q
not_zeros q v h e = true≢false (sym (zeros_pass q) ∙ sym (ap (list_all is_zero) e) ∙ h)

pub nonzero_all : (P : List ℚ → Type 0) (vectors : List (List ℚ)) → ((v : List ℚ) → Contains vectors v → list_all is_zero v ≡ false → P v) →
    All P (filter (λ v. not (list_all is_zero v)) vectors)
nonzero_all P [] h = All-nil P
nonzero_all P (v ∷ vectors) h = by_test (list_all is_zero v) refl (nonzero_all P vectors (λ w c. h w (Contains-there v vectors w c)))
  where
    by_test : (b : Bool) → list_all is_zero v ≡ b → All P (filter (λ v. not (list_all is_zero v)) vectors) →
        All P (if not b then v ∷ filter (λ v. not (list_all is_zero v)) vectors else filter (λ v. not (list_all is_zero v)) vectors)
    by_test true e k = k
    by_test false e k = All-cons P v (filter (λ v. not (list_all is_zero v)) vectors) (h v (Contains-here v vectors v refl) e) k
