-- Sets by their numbers, one more after the other.
use Rattle.std.proofs.Common.{◌≡◌, ℕ, zero, suc, ◌+◌, List, [], ◌∷◌, ◌++◌, map, length, sym, ap, ap₂, ◌∙◌, arith, add-one}
use Rattle.std.proofs.lemmas.List.{map-append, length-map}
use Rattle.vlp_problem.specs.Sides.{numbers_from}
use Rattle.vlp_problem.proofs.Numbers.{length-numbers}
use Rattle.weighing.specs.Sets.{lists_with, weight_sets}

numbers_more : (k n : ℕ) → numbers_from k (suc n) ≡ numbers_from k n ++ (k + n) ∷ []
numbers_more k zero =
    let same : k ≡ k + 0 = omega arith in
    ap (λ j. j ∷ []) same
numbers_more k (suc n) =
    let same : suc k + n ≡ k + suc n = omega arith in
    ap (λ ks. k ∷ ks) (numbers_more (suc k) n ∙ ap (λ j. numbers_from (suc k) n ++ j ∷ []) same)

pub one_set_more : (lists : List (List ℕ)) (n : ℕ) (sets next : List (List ℕ)) (found : List ℕ) → sets ≡ map (lists_with lists) (numbers_from 1 n) →
    found ≡ lists_with lists (n + 1) → next ≡ sets ++ found ∷ [] → next ≡ map (lists_with lists) (numbers_from 1 (n + 1))
one_set_more lists n sets next found s f e =
    let same : n + 1 ≡ 1 + n = omega arith in
    e ∙ ap₂ (λ a b. a ++ b ∷ []) s (f ∙ ap (lists_with lists) same)
    ∙ sym (map-append (lists_with lists) (numbers_from 1 n) ((1 + n) ∷ []))
    ∙ ap (map (lists_with lists)) (sym (numbers_more 1 n)) ∙ ap (λ m. map (lists_with lists) (numbers_from 1 m)) (sym (add-one n))

pub as_many_sets : (lists : List (List ℕ)) (n : ℕ) → length (weight_sets lists n) ≡ n
as_many_sets lists n = length-map (numbers_from 1 n) (lists_with lists) ∙ length-numbers 1 n
