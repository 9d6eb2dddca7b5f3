-- The new generators of an addition, made one opposite pair at a time.
use Rattle.std.specs.Prelude.{ℕ, suc, ◌+◌, ◌<◌, ◌≡◌, List, [], ◌∷◌, ◌++◌, map, length, get_or, drop, filter, All, Contains, Bool, IsFalse, true, false, if◌then◌else◌, Option, Some, None}
use Rattle.exact_field.specs.Rational.{ℚ, zero_ℚ, lt_ℚ, ◌<ℚ◌}
use Rattle.exact_field.specs.Vector.{dot}
use Rattle.polyhedra.specs.DoubleDescription.{normed, made}
use Rattle.polyhedra.specs.LiveList.{Numbered, LivePair, numbers, numbered, without_numbers, is_uncovered_live, live_pairs, new_vectors, step}
use Rattle.polyhedra.specs.LiveSteps.{IsLive}
use Rattle.double_descr.specs.Steps.{values, between}
use Rattle.double_descr.specs.State.{numbered_of, live_of, list_of, pair_of, AreTwoLive, HasTightSet, tight_sets}
use Rattle.double_descr.specs.Adding.{Block, AreHeld, IsFault, add_blocks, block_of, pair_block, pair_blocks}
use Rattle.double_descr.specs.declared.generator.Generator.{Generator}
use Rattle.double_descr.specs.declared.fault.Pair.{Pair}
use Rattle.double_descr.specs.declared.fault.DdFault.{DdFault}
use Rattle.double_descr.specs.declared.fault.DdFault.TheVariants.{Elim, Left as Stuck, NoMemory}
use Rattle.double_descr.specs.declared.made.Made.{Made}
use Rattle.double_descr.specs.declared.next.Next.{Next}
use Rattle.double_descr.specs.ByRow.{IsIndexed}
use Rattle.double_descr.specs.declared.by_row.Search.{Search}
use Rattle.incid_sets.specs.Marks.{has, ContainsAll, HasRoom, IsMeet}

-- the addition of a row to some rows: these, the row, and the number that the first new generator gets
pub record Addition : Type 0 where
  pub rows : List (List ℚ)
  pub row : List ℚ
  pub first : ℕ

-- the addition of a row of a field's numbers
abbrev pub addition_of : {F : Type 0} → (F → ℚ) → List (List F) → List F → ℕ → Addition
addition_of value rows row first = record { rows = map (values value) rows; row = values value row; first = first }

-- the generators are the live list of the rows, with their tight sets
pub record IsAddition {F : Type 0} (value : F → ℚ) (a : Addition) (gens : List (Generator F)) : Type 0 where
  pub live : IsLive (length a.row) a.rows (list_of value gens a.first)
  pub tight : All (HasTightSet value a.rows) gens
  pub narrow : length a.row < 4294967296

-- the values of a row at generators, in their order
abbrev pub AreValuesAt : {F : Type 0} → (F → ℚ) → List ℚ → List (Generator F) → List F → Type 0
AreValuesAt value row gens vals = map value vals ≡ map (λ g. dot row g.vector) (live_of value gens)

-- the pairs of a generator with each at which the row is negative
abbrev pub with_negatives : List ℚ → Numbered → List Numbered → List LivePair
with_negatives row p live = map (λ m. record { plus_side = p; minus_side = m }) (filter (λ g. lt_ℚ (dot row g.vector) zero_ℚ) live)

-- the candidates of one generator: these pairs where the row is positive at it, else none
abbrev pub candidates_of : List ℚ → Numbered → List Numbered → List LivePair
candidates_of row p live = if lt_ℚ zero_ℚ (dot row p.vector) then with_negatives row p live else []

-- those of some generators, one after the other
abbrev pub candidates : List ℚ → List Numbered → List Numbered → List LivePair
candidates row [] live = []
candidates row (p ∷ ps) live = candidates_of row p live ++ candidates row ps live

-- the candidates of all generators but the first i
abbrev pub candidates_from : {F : Type 0} → (F → ℚ) → Addition → List (Generator F) → ℕ → List LivePair
candidates_from value a gens i = candidates a.row (drop i (live_of value gens)) (live_of value gens)

-- the places of the numbers below 0, where the first number has this place
abbrev pub negative_places : ℕ → List ℚ → List ℕ
negative_places first [] = []
negative_places first (x ∷ xs) = if lt_ℚ x zero_ℚ then first ∷ negative_places (suc first) xs else negative_places (suc first) xs

-- an addition, with the values of its row at the generators and the places of those below 0
pub record IsMaking {F : Type 0} (value : F → ℚ) (a : Addition) (gens : List (Generator F)) (vals : List F) (below : List ℕ) : Type 0 where
  pub addition : IsAddition value a gens
  pub at_row : AreValuesAt value a.row gens vals
  pub places : below ≡ negative_places 0 (map value vals)
  pub room : length a.rows + 1 < 4294967296
  pub few : length gens < 4294967296

-- the pair of a generator with the one at this place
abbrev pub pair_at : {F : Type 0} → (F → ℚ) → List (Generator F) → Generator F → ℕ → LivePair
pair_at value gens p j = record { plus_side = numbered_of value p; minus_side = get_or (live_of value gens) j (numbered_of value p) }

-- one pair was taken, with its new generator, or was covered and left out
pub record AddsPair {F : Type 0} (value : F → ℚ) (holds : ℚ → Bool) (p m : Generator F) (a b : ℚ) (old new : Made F) : Type 0 where
  pub pair : new.pairs ≡ old.pairs ++ record { plus = p.number; minus = m.number } ∷ []
  pub generator : Generator F
  pub added : new.generators ≡ old.generators ++ generator ∷ []
  pub is : numbered_of value generator ≡ record {
    number = old.first_new + length old.pairs;
    vector = normed (between a b (values value p.vector.items) (values value m.vector.items));
  }
  pub common : List Bool
  pub meet : IsMeet common p.tight m.tight
  pub tight : generator.tight ≡ common ++ true ∷ []
  pub held : AreHeld holds (block_of value p m a b)

-- a pair was tried: taken where it is uncovered, and else nothing was added
abbrev pub IsTried : {F : Type 0} → (F → ℚ) → (ℚ → Bool) → Bool → Generator F → Generator F → ℚ → ℚ → Made F → Made F → Type 0
IsTried value holds true p m a b old new = AddsPair value holds p m a b old new
IsTried value holds false p m a b old new = (new.pairs ≡ old.pairs) × (new.generators ≡ old.generators)

-- a pair that is not covered was given up at a step
abbrev pub IsPairFault : {F : Type 0} → (F → ℚ) → (ℚ → Bool) → Bool → Block → DdFault F → Type 0
IsPairFault value holds uncovered block (Stuck first second step left) = (uncovered ≡ true) × IsFault value holds block (Stuck first second step left)
IsPairFault value holds uncovered block (Elim fault) = ⊥
IsPairFault value holds uncovered block NoMemory = Unit {0}

-- the two numbers of a pair
abbrev pub pair_numbers : Pair → ℕ × ℕ
pair_numbers p = (p.plus, p.minus)

-- the same of a pair of live generators
abbrev pub live_numbers : LivePair → ℕ × ℕ
live_numbers pair = (pair.plus_side.number, pair.minus_side.number)

-- of all pairs some are made, with their new generators, and the candidates that are left give the others
pub record IsMadeSoFar {F : Type 0} (value : F → ℚ) (holds : ℚ → Bool) (a : Addition) (gens : List (Generator F)) (left : List LivePair) (m : Made F) : Type 0 where
  pub done : List LivePair
  pub split : live_pairs a.rows (live_of value gens) a.row ≡ done ++ filter (is_uncovered_live a.rows (live_of value gens)) left
  pub pairs_are : map pair_numbers m.pairs ≡ map live_numbers done
  pub new_are : live_of value m.generators ≡ numbered a.first (made a.row (map without_numbers done))
  pub tight : All (HasTightSet value (a.rows ++ a.row ∷ [])) m.generators
  pub held : All (AreHeld holds) (map (pair_block a.row) done)
  pub from : m.first_new ≡ a.first
  pub bound : length m.common ≡ length a.rows

-- the steps of all pairs
abbrev pub blocks_of_pairs : {F : Type 0} → (F → ℚ) → Addition → List (Generator F) → List Block
blocks_of_pairs value a gens = pair_blocks a.rows (live_of value gens) a.row

-- the steps of all values, and then of all pairs
abbrev pub blocks_of_all : {F : Type 0} → (F → ℚ) → Addition → List (Generator F) → List Block
blocks_of_all value a gens = add_blocks a.rows (live_of value gens) a.row

-- a generator of an addition at which the row is positive, with its value
pub record IsPlus {F : Type 0} (value : F → ℚ) (a : Addition) (gens : List (Generator F)) (vals : List F) (plus : Generator F) (at : F) : Type 0 where
  pub addition : IsAddition value a gens
  pub at_row : AreValuesAt value a.row gens vals
  pub room : length a.rows + 1 < 4294967296
  pub few : length gens < 4294967296
  pub listed : Contains gens plus
  pub valued : value at ≡ dot a.row (values value plus.vector.items)
  pub positive : zero_ℚ <ℚ value at

-- the set has each row that is tight at a generator at which the new row is negative
abbrev pub Reaches : {F : Type 0} → (F → ℚ) → Addition → List (Generator F) → List Bool → Type 0
Reaches {F} value a gens reach = (g : Generator F) → Contains gens g → dot a.row (values value g.vector.items) <ℚ zero_ℚ → ContainsAll reach g.tight

-- what the pairs of an addition are found by: the rows that are tight where the new row is negative, and the places by row
pub record IsSearch {F : Type 0} (value : F → ℚ) (a : Addition) (gens : List (Generator F)) (search : Search) : Type 0 where
  pub reach : Reaches value a gens search.reach
  pub bound : length search.reach ≡ length a.rows
  pub indexed : IsIndexed gens search

-- a generator at which the new row is negative, and whose place is not in the set, has no pair with this one
abbrev pub LeavesOutCovered : {F : Type 0} → (F → ℚ) → Addition → List (Generator F) → Generator F → List Bool → Type 0
LeavesOutCovered {F} value a gens plus possible = (minus : Generator F) (place : ℕ) → place < length gens → minus ≡ get_or gens place minus →
    AreTwoLive value (length a.row) a.rows gens plus minus → dot a.row (values value minus.vector.items) <ℚ zero_ℚ → IsFalse (has possible place) →
    is_uncovered_live a.rows (live_of value gens) (pair_of value plus minus) ≡ false

-- the generator's set has room for one row more
pub record HasRoomForRow {F : Type 0} (g : Generator F) : Type 0 where
  pub free : HasRoom (length g.tight)
  pub few : length g.tight + 1 < 4294967296

-- for each generator a set was made aside, or none was, and each has room in its own
abbrev pub AreSetsFor : {F : Type 0} → List (Generator F) → Option (List (List Bool)) → Type 0
AreSetsFor gens (Some sets) = length sets ≡ length gens
AreSetsFor gens None = All (λ g. HasRoomForRow g) gens

-- the same, and what was made aside are their sets of tight rows with the new row
abbrev pub AreNextSets : {F : Type 0} → (F → ℚ) → Addition → List (Generator F) → Option (List (List Bool)) → Type 0
AreNextSets value a gens (Some sets) = sets ≡ tight_sets value (a.rows ++ a.row ∷ []) gens
AreNextSets value a gens None = All (λ g. HasRoomForRow g) gens

-- the generators of an addition before they are moved, with the values of its row and what was made aside of their next sets
pub record IsMoving {F : Type 0} (value : F → ℚ) (a : Addition) (gens : List (Generator F)) (vals : List F) (sets : Option (List (List Bool))) : Type 0 where
  pub at_row : AreValuesAt value a.row gens vals
  pub tight : All (HasTightSet value a.rows) gens
  pub next : AreNextSets value a gens sets

-- what is made aside for an addition: the values of the row at the generators, their sets of tight rows with it where their own have no
-- room, the new generators, and the numbers of the next live list with the one that the next new generator gets
pub record IsNext {F : Type 0} (value : F → ℚ) (a : Addition) (gens : List (Generator F)) (next : Next F) : Type 0 where
  pub at_row : AreValuesAt value a.row gens next.values
  pub sets : AreNextSets value a gens next.sets
  pub new_are : live_of value next.generators ≡ numbered a.first (new_vectors a.rows (live_of value gens) a.row)
  pub tight : All (HasTightSet value (a.rows ++ a.row ∷ [])) next.generators
  pub numbers_are : next.numbers ≡ numbers (step a.rows (list_of value gens a.first) a.row).live
  pub next_is : next.next ≡ (step a.rows (list_of value gens a.first) a.row).next
