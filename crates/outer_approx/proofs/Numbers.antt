-- The numbers from 1 on: as places of a list, as they rise, and as numbers of generators.
use Rattle.std.proofs.Common.{◌≡◌, ℕ, zero, suc, ◌+◌, ◌-◌, ◌<◌, ◌≤◌, List, [], ◌∷◌, ◌++◌, map, length, All, AllPairs, Contains, sym, ap, ◌∙◌, subst, arith, slice_index_or}
use Rattle.std.specs.List.{range_with_len}
use Rattle.std.proofs.lemmas.List.{get_or-map, length-map, map-id, same_lists}
use Rattle.std.proofs.lemmas.List.Elements.{All-from_get_or}
use Rattle.std.proofs.lemmas.List.FromFn.{get_or-range_with_len, get_or-map-range_with_len, length-map-range_with_len, length-range_with_len, map-range_with_len_more}
use Rattle.exact_field.specs.Rational.{ℚ}
use Rattle.polyhedra.specs.LiveList.{Numbered, numbered}
use Rattle.polyhedra.proofs.Lists.{Contains-here, Contains-there}
use Rattle.polyhedra.proofs.Members.{pairs-nil, pairs-cons}

pub range_more : (n : ℕ) → range_with_len 1 (n + 1) ≡ range_with_len 1 n ++ (n + 1) ∷ []
range_more n =
    let next : 1 + n ≡ n + 1 = omega arith in
    sym (map-id (range_with_len 1 (n + 1))) ∙ map-range_with_len_more (λ (k : ℕ). k) 1 n (n + 1) next
    ∙ ap (λ (ks : List ℕ). ks ++ (n + 1) ∷ []) (map-id (range_with_len 1 n))

pub range_rises : (a n : ℕ) → AllPairs (λ k k'. k < k') (range_with_len a n)
range_rises a zero = pairs-nil (λ k k'. k < k')
range_rises a (suc n) =
    pairs-cons (λ k k'. k < k') a (range_with_len (a + 1) n)
    (All-from_get_or (λ k. a < k) (range_with_len (a + 1) n) 0 (λ i l.
    let inside : i < n = omega (arith, l, length-range_with_len (a + 1) n) in
    subst (λ k. a < k) (sym (get_or-range_with_len (a + 1) n i 0 inside)) (omega arith)))
    (range_rises (a + 1) n)

pub range_places : (n : ℕ) → All (λ k. (1 ≤ k) × (k ≤ n)) (range_with_len 1 n)
range_places n = All-from_get_or (λ k. (1 ≤ k) × (k ≤ n)) (range_with_len 1 n) 0 (λ i l.
    let inside : i < n = omega (arith, l, length-range_with_len 1 n) in
    subst (λ k. (1 ≤ k) × (k ≤ n)) (sym (get_or-range_with_len 1 n i 0 inside)) (omega arith, omega (arith, inside)))

-- a function of the items of a list by their places
pub by_places : {X Y : Type 0} (f : X → Y) (xs : List X) (d : X) (n : ℕ) → length xs ≡ n →
    map (λ (k : ℕ). f (slice_index_or xs (k - 1) d)) (range_with_len 1 n) ≡ map f xs
by_places {X} {Y} f xs d n many =
    same_lists (map at (range_with_len 1 n)) (map f xs) (length-map-range_with_len at 1 n ∙ sym many ∙ sym (length-map xs f))
    (λ k y l.
    let inside : k < n = omega (arith, l, length-map-range_with_len at 1 n) in
    let within : k < length xs = omega (arith, inside, many) in
    let place : 1 + k ≡ suc k = omega arith in
    let back : suc k - 1 ≡ k = omega arith in
    get_or-map-range_with_len at 1 n k (suc k) y inside place ∙ ap (λ (j : ℕ). f (slice_index_or xs j d)) back ∙ sym (get_or-map f xs k d y within))
  where
    at : ℕ → Y
    at k = f (slice_index_or xs (k - 1) d)

abbrev under : ℕ → List ℚ → Numbered
under n v = record { number = n; vector = v }

-- the vectors under the numbers from k on
pub numbered_at : (k : ℕ) (vs : List (List ℚ)) (j : ℕ) → j < length vs → Contains (numbered k vs) (record { number = k + j; vector = slice_index_or vs j [] })
numbered_at k [] j h = absurd (omega (arith, h))
numbered_at k (v ∷ vs) zero h =
    let here : k ≡ k + 0 = omega arith in
    Contains-here (record { number = k; vector = v }) (numbered (suc k) vs) (record { number = k + 0; vector = v })
    (ap (λ (n : ℕ). under n v) here)
numbered_at k (v ∷ vs) (suc j) h =
    let next : suc k + j ≡ k + suc j = omega arith in
    Contains-there (record { number = k; vector = v }) (numbered (suc k) vs) (record { number = k + suc j; vector = slice_index_or vs j [] })
    (subst (λ (n : ℕ). Contains (numbered (suc k) vs) (record { number = n; vector = slice_index_or vs j [] })) next (numbered_at (suc k) vs j (omega (arith, h))))
