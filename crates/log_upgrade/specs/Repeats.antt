-- What is kept of the vectors of a log: which stand in several entries, and the numbers of those that are shared.
use Rattle.std.specs.Prelude.{◌≡◌, ℕ, zero, suc, ◌==◌, ◌&&◌, if◌then◌else◌, List, [], ◌∷◌, ◌++◌, length, Option, None, Some}
use Rattle.std.specs.BTreeMap.{get}
use Rattle.std.specs.List.{filter_map, count_by}
use Rattle.frac128.specs.declared.vectors.Spot.{Spot}
use Rattle.deriv_log.specs.declared.entry.Entry.{Entry}
use Rattle.log_versions.specs.Upgrade.{body, same_spots, is_repeated, number_from}
use Rattle.log_upgrade.specs.Vectors.{cmp_keys}
use Rattle.log_upgrade.specs.declared.repeats.Place.{Place}
use Rattle.log_upgrade.specs.declared.repeats.Place.TheVariants.{Own, First, Again}
use Rattle.log_upgrade.specs.declared.repeats.Repeats.{Repeats}
use Rattle.log_upgrade.specs.declared.repeats.Standing.{Standing}
use Rattle.log_upgrade.specs.declared.repeats.Standing.TheVariants.{Once, Several, Shared}
use Rattle.log_upgrade.specs.declared.vectors.VectorKey.{VectorKey}

-- by the number of the entries that have it, and its number among the shared vectors, or 0
abbrev pub standing_of : ℕ → ℕ → Option Standing
standing_of zero k = None
standing_of (suc zero) k = Some Once
standing_of (suc (suc n)) zero = Some Several
standing_of (suc (suc n)) (suc k) = Some (Shared (suc k))

-- of a vector, after these shared ones; an empty one is not kept
abbrev pub standing : List Entry → List (List Spot) → List Spot → Option Standing
standing all vectors [] = None
standing all vectors (s ∷ u) = standing_of (count_by (same_spots (s ∷ u)) (filter_map body all)) (number_from 1 (s ∷ u) vectors)

-- the value is what stands of the vectors of all entries, after these shared ones
pub record AreStandings (all : List Entry) (vectors : List (List Spot)) (r : Repeats) : Type 0 where
  pub standings : (key : VectorKey) → get cmp_keys r.standings key ≡ standing all vectors key.spots.now
  pub shared : r.shared ≡ length vectors

-- how the next entry has its vector
abbrev pub place_of : List Entry → List (List Spot) → List Spot → Place
place_of all vectors u =
    if is_repeated all u
    then elim (number_from 1 u vectors) [ zero ↦ First (suc (length vectors)) | suc k ↦ Again (suc k) ]
    else Own

-- the vectors that are shared after it
abbrev pub with_place : List Entry → List (List Spot) → List Spot → List (List Spot)
with_place all vectors u = if is_repeated all u && number_from 1 u vectors == 0 then vectors ++ u ∷ [] else vectors
