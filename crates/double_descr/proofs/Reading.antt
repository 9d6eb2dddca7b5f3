-- Live generators under their numbers, and where a number stands.
use Rattle.std.proofs.Common.{◌≡◌, ℕ, ◌<◌, ◌≤◌, List, length, map, AllPairs, Contains, refl, sym, ap, ◌∙◌, subst, arith, get_or, slice_index, ◌⊎◌, inl, inr}
use Rattle.std.proofs.lemmas.List.{get_or-map, get_or_default, length-map}
use Rattle.std.proofs.lemmas.Bool.{cases_lt}
use Rattle.std.proofs.lemmas.List.Elements.{All-contains}
use Rattle.exact_field.specs.Rational.{ℚ}
use Rattle.polyhedra.specs.LiveList.{Numbered, tight_set}
use Rattle.polyhedra.proofs.LiveList.{numbers_tell_apart}
use Rattle.polyhedra.proofs.Members.{Contains-map, pairs-map}
use Rattle.double_descr.specs.State.{HasTightSet, IsKept, live_of, list_of, numbered_of}
use Rattle.double_descr.specs.Steps.{values}
use Rattle.double_descr.specs.declared.generator.Generator.{Generator}

-- in rising numbers an earlier one is at most a later one
pub rising_places : (xs : List ℕ) → AllPairs (λ a b. a < b) xs → (i j : ℕ) → i ≤ j → j < length xs → get_or xs i 0 ≤ get_or xs j 0
rising_places xs h i j l m = go (cases_lt i j)
  where
    go : (i < j) ⊎ (j ≤ i) → get_or xs i 0 ≤ get_or xs j 0
    go (inl less) = let below : get_or xs i 0 < get_or xs j 0 = h i j 0 less m in omega arith
    go (inr other) = let same : get_or xs i 0 ≡ get_or xs j 0 = ap (λ (k : ℕ). get_or xs k 0) (let e : i ≡ j = omega arith in e) in omega arith

-- a listed number is found
pub not_found : (xs : List ℕ) (x i : ℕ) → Contains xs x → ((k : ℕ) → k < i → get_or xs k 0 < x) → ((k : ℕ) → i ≤ k → k < length xs → x < get_or xs k 0) → ⊥
not_found xs x i (k, l, e) below above = go (cases_lt k i)
  where
    is : get_or xs k 0 ≡ x
    is = get_or_default xs k 0 x l ∙ e

    go : (k < i) ⊎ (i ≤ k) → ⊥
    go (inl less) = let h : get_or xs k 0 < x = below k less in let s : get_or xs k 0 ≡ x = is in omega arith
    go (inr other) = let h : x < get_or xs k 0 = above k other l in let s : get_or xs k 0 ≡ x = is in omega arith

module _ {F : Type 0} (value : F → ℚ) (width : ℕ) (rows : List (List F)) (nums : List ℕ) (gens : List (Generator F)) (next : ℕ)
    (k : IsKept value width rows nums gens next) where
  pub numbers_rise : AllPairs (λ a b. a < b) nums
  numbers_rise = subst (λ (ns : List ℕ). AllPairs (λ a b. a < b) ns) (sym k.numbers_are)
      (pairs-map (λ a b. a < b) (λ (g : Numbered). g.number) (live_of value gens) k.live.rising.rises)

  pub as_many : length nums ≡ length gens
  as_many = ap length k.numbers_are ∙ length-map (live_of value gens) (λ (g : Numbered). g.number) ∙ length-map gens (numbered_of value)

  module _ (number place : ℕ) (within : place < length nums) (is : slice_index nums place ≡ number) (g : Generator F) (here : g ≡ get_or gens place g) where
    inside : place < length gens
    inside = subst (λ (n : ℕ). place < n) as_many within

    -- the generator has the number
    number_is : g.number ≡ number
    number_is = ap (λ (h : Generator F). h.number) here
        ∙ sym (get_or-map (λ (h : Numbered). h.number) (live_of value gens) place (numbered_of value g) 0 (subst (λ (n : ℕ). place < n) (sym (length-map gens (numbered_of value))) inside)
        ∙ ap (λ (h : Numbered). h.number) (get_or-map (numbered_of value) gens place g (numbered_of value g) inside))
        ∙ sym (ap (λ (ns : List ℕ). get_or ns place 0) k.numbers_are) ∙ is

    member : Contains gens g
    member = (place, inside, sym here)

    pub listed_here : Contains (live_of value gens) (record { number = number; vector = values value g.vector.items })
    listed_here = subst (λ (n : ℕ). Contains (live_of value gens) (record { number = n; vector = values value g.vector.items })) number_is
        (Contains-map (numbered_of value) gens g member)

    pub only_here : (v : List ℚ) → Contains (live_of value gens) (record { number = number; vector = v }) → values value g.vector.items ≡ v
    only_here v c = (numbers_tell_apart width (map (values value) rows) (list_of value gens next) k.live.rising k.live.described
        (record { number = number; vector = values value g.vector.items }) (record { number = number; vector = v }) listed_here c).0 refl

    pub tight_here : (v : List ℚ) → Contains (live_of value gens) (record { number = number; vector = v }) → g.tight ≡ tight_set (map (values value) rows) v
    tight_here v c = All-contains (HasTightSet value (map (values value) rows)) gens g k.tight member
        ∙ ap (tight_set (map (values value) rows)) (only_here v c)
