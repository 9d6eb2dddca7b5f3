-- For each row the places of the generators at which it is tight.
use Rattle.std.specs.Prelude.{ℕ, ◌<◌, ◌≤◌, ◌≡◌, List, [], map, length, get_or, Bool, IsTrue, Option, Some, None}
use Rattle.incid_sets.specs.Marks.{has}
use Rattle.double_descr.specs.declared.generator.Generator.{Generator}
use Rattle.double_descr.specs.declared.by_row.Search.{Search}

-- the set of the rows that are tight at the generator in a place
abbrev pub tight_at : {F : Type 0} → List (Generator F) → ℕ → List Bool
tight_at gens place = get_or (map (λ g. g.tight) gens) place []

-- the set of a row, by its number
abbrev pub set_of : List (List Bool) → ℕ → List Bool
set_of sets r = get_or sets r []

-- there is a set for each row, of numbers below the bound, with room for all of them where the row is one of some
pub record HaveRoom (rows : List Bool) (bound : ℕ) (sets : List (List Bool)) : Type 0 where
  pub many : length sets ≡ length rows
  pub bounded : (r : ℕ) → length (set_of sets r) ≤ bound
  pub room : (r : ℕ) → IsTrue (has rows r) → length (set_of sets r) ≡ bound

-- of some rows each that is in the other set has the place in its own
abbrev pub HasPlace : List (List Bool) → List Bool → List Bool → ℕ → Type 0
HasPlace sets rows tight place = (r : ℕ) → IsTrue (has rows r) → IsTrue (has tight r) → IsTrue (has (set_of sets r) place)

-- the sets of some rows were given a place, and have all that they had, with room for as many
pub record GivesPlace (rows : List Bool) (place : ℕ) (old new : List (List Bool)) : Type 0 where
  pub many : length new ≡ length old
  pub same : (r : ℕ) → length (set_of new r) ≡ length (set_of old r)
  pub keeps : (r k : ℕ) → IsTrue (has (set_of old r) k) → IsTrue (has (set_of new r) k)
  pub gives : (r : ℕ) → IsTrue (has rows r) → IsTrue (has (set_of new r) place)

-- each of some rows has in its set the places of the first generators, so many of them, at which it is tight
pub record AreByRow {F : Type 0} (gens : List (Generator F)) (rows : List Bool) (done : ℕ) (sets : List (List Bool)) : Type 0 where
  pub room : HaveRoom rows (length gens) sets
  pub holds : (place : ℕ) → place < done → HasPlace sets rows (tight_at gens place) place

-- the sets of a search, if it has any, are those of all generators
abbrev pub AreSetsOf : {F : Type 0} → List (Generator F) → List Bool → Option (List (List Bool)) → Type 0
AreSetsOf gens rows (Some sets) = AreByRow gens rows (length gens) sets
AreSetsOf gens rows None = Unit {0}

-- there are as many sets as so many rows, if there are any, of numbers below a bound
abbrev pub AreWithin : ℕ → ℕ → Option (List (List Bool)) → Type 0
AreWithin rows bound (Some sets) = (rows ≤ length sets) × ((r : ℕ) → length (set_of sets r) ≤ bound)
AreWithin rows bound None = Unit {0}

-- the same as HasPlace, where there are sets
abbrev pub HasPlaceIn : Option (List (List Bool)) → List Bool → List Bool → ℕ → Type 0
HasPlaceIn (Some sets) rows tight place = HasPlace sets rows tight place
HasPlaceIn None rows tight place = Unit {0}

-- what a search says of all generators
pub record IsIndexed {F : Type 0} (gens : List (Generator F)) (search : Search) : Type 0 where
  pub by_row : AreSetsOf gens search.reach search.by_row
  pub bound : length search.all ≡ length gens
  pub each : (place : ℕ) → place < length gens → IsTrue (has search.all place)
