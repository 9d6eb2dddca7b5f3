-- The numbers from 1 on.
use Rattle.std.proofs.Common.{◌≡◌, refl, ℕ, zero, suc, ◌+◌, ◌<◌, List, [], ◌∷◌, ◌++◌, map, length, get_or, add-one, arith, ap, ◌∙◌}
use Rattle.std.proofs.lemmas.List.{map-append}
use Rattle.vlp_problem.specs.Sides.{numbers_from}

pub numbers-push : (k n : ℕ) → numbers_from k (suc n) ≡ numbers_from k n ++ (k + n) ∷ []
numbers-push k zero = ap (λ (m : ℕ). m ∷ []) (omega arith)
numbers-push k (suc n) = ap (λ (l : List ℕ). k ∷ l) (numbers-push (suc k) n ∙ ap (λ (m : ℕ). numbers_from (suc k) n ++ m ∷ []) (omega arith))

-- one number more
pub map_numbers-push : {A : Type 0} (f : ℕ → A) (n : ℕ) → map f (numbers_from 1 (n + 1)) ≡ map f (numbers_from 1 n) ++ f (n + 1) ∷ []
map_numbers-push f n =
    ap (λ (m : ℕ). map f (numbers_from 1 m)) (add-one n) ∙ ap (map f) (numbers-push 1 n) ∙ map-append f (numbers_from 1 n) ((1 + n) ∷ []) ∙ ap (λ (m : ℕ). map f (numbers_from 1 n) ++ f m ∷ []) (omega arith)

pub length-numbers : (k n : ℕ) → length (numbers_from k n) ≡ n
length-numbers k zero = refl
length-numbers k (suc n) = ap suc (length-numbers (suc k) n)

pub number_at : (k n i : ℕ) → i < n → get_or (numbers_from k n) i 0 ≡ k + i
number_at k zero i h = absurd (omega arith)
number_at k (suc n) zero h = omega arith
number_at k (suc n) (suc i) h = number_at (suc k) n i (omega arith) ∙ omega arith
