-- What a double description holds: the rows in their order, and the live generators under their numbers.
use Rattle.std.specs.Prelude.{ℕ, ◌<◌, List, ◌≡◌, map, All, Contains, Bool, refl}
use Rattle.std.specs.Coded.{Coded, code_by, coded×, coded_ℕ, coded_list}
use Rattle.exact_field.specs.Rational.{ℚ, coded_ℚ}
use Rattle.polyhedra.specs.LiveList.{Numbered, LiveList, LivePair, numbers, tight_set}
use Rattle.polyhedra.specs.LiveSteps.{IsLive}
use Rattle.double_descr.specs.Steps.{values}
use Rattle.double_descr.specs.declared.generator.Generator.{Generator}

-- the width of the rows, the rows, and the live list
pub record State : Type 0 where
  pub width : ℕ
  pub rows : List (List ℚ)
  pub list : LiveList

-- a numbered generator is stored as its number and its vector,
abbrev pub numbered_code : Coded Numbered
numbered_code = code_by (ℕ × List ℚ) (coded× coded_ℕ (coded_list coded_ℚ)) (λ g. (g.number, g.vector)) (λ p. record { number = p.0; vector = p.1 }) (λ _. refl)

-- a live list as its generators and the next number,
abbrev pub list_code : Coded LiveList
list_code = code_by (List Numbered × ℕ) (coded× (coded_list numbered_code) coded_ℕ) (λ l. (l.live, l.next)) (λ p. record { live = p.0; next = p.1 }) (λ _. refl)

-- and a state as its width, its rows and its live list
abbrev pub state_code : Coded State
state_code = code_by (ℕ × (List (List ℚ) × LiveList)) (coded× coded_ℕ (coded× (coded_list (coded_list coded_ℚ)) list_code))
    (λ s. (s.width, (s.rows, s.list))) (λ p. record { width = p.0; rows = p.1.0; list = p.1.1 }) (λ _. refl)

-- a generator in numbers
abbrev pub numbered_of : {F : Type 0} → (F → ℚ) → Generator F → Numbered
numbered_of value g = record { number = g.number; vector = values value g.vector.items }

-- generators in numbers
abbrev pub live_of : {F : Type 0} → (F → ℚ) → List (Generator F) → List Numbered
live_of value gs = map (numbered_of value) gs

-- the generator's set is that of the rows that are tight at it
abbrev pub HasTightSet : {F : Type 0} → (F → ℚ) → List (List ℚ) → Generator F → Type 0
HasTightSet value rows g = g.tight ≡ tight_set rows (values value g.vector.items)

-- for each generator the set of the rows that are tight at it
abbrev pub tight_sets : {F : Type 0} → (F → ℚ) → List (List ℚ) → List (Generator F) → List (List Bool)
tight_sets value rows gens = map (λ g. tight_set rows (values value g.vector.items)) gens

-- a generator with another set
abbrev pub with_set : {F : Type 0} → Generator F → List Bool → Generator F
with_set g set = record g { tight = set }

-- a generator with the set of the rows that are tight at it
abbrev pub with_tight_set : {F : Type 0} → (F → ℚ) → List (List ℚ) → Generator F → Generator F
with_tight_set value rows g = record g { tight = tight_set rows (values value g.vector.items) }

-- a pair of generators in numbers
abbrev pub pair_of : {F : Type 0} → (F → ℚ) → Generator F → Generator F → LivePair
pair_of value p m = record { plus_side = numbered_of value p; minus_side = numbered_of value m }

-- two different generators of a live list with its tight sets
pub record AreTwoLive {F : Type 0} (value : F → ℚ) (n : ℕ) (rows : List (List ℚ)) (gens : List (Generator F)) (plus minus : Generator F) : Type 0 where
  pub next : ℕ
  pub live : IsLive n rows (record { live = live_of value gens; next = next })
  pub tight : All (HasTightSet value rows) gens
  pub plus_listed : Contains gens plus
  pub minus_listed : Contains gens minus
  pub differ : values value plus.vector.items ≡ values value minus.vector.items → ⊥

-- what a double description keeps: the live list of its rows, with the numbers as a list of their own and the tight sets
pub record IsKept {F : Type 0} (value : F → ℚ) (width : ℕ) (rows : List (List F)) (nums : List ℕ) (gens : List (Generator F)) (next : ℕ) : Type 0 where
  pub live : IsLive width (map (values value) rows) (record { live = live_of value gens; next = next })
  pub numbers_are : nums ≡ numbers (live_of value gens)
  pub tight : All (HasTightSet value (map (values value) rows)) gens
  pub narrow : width < 4294967296

-- generators with the number that the next new one gets, as a live list
abbrev pub list_of : {F : Type 0} → (F → ℚ) → List (Generator F) → ℕ → LiveList
list_of value gens next = record { live = live_of value gens; next = next }
