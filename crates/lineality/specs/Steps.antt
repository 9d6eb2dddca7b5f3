-- Double description without the entries at the places of lines: the same steps, under the same
-- numbers.
use Rattle.std.specs.Prelude.{ℕ, suc, ◌+◌, ◌<◌, ◌≢◌, List, [], ◌∷◌, ◌≡◌, map, length, All, Contains, Bool, slice_index_or}
use Rattle.exact_field.specs.Rational.{ℚ, zero_ℚ, one_ℚ, ◌<ℚ◌}
use Rattle.exact_field.specs.Vector.{dot}
use Rattle.polyhedra.specs.DoubleDescription.{norming, meeting}
use Rattle.polyhedra.specs.Generators.{IsTightAtBoth}
use Rattle.polyhedra.specs.Vectors.{AreWide}
use Rattle.polyhedra.specs.Inequality.{Inequality}
use Rattle.polyhedra.specs.TightSets.{IsDoubleDescriptionPair}
use Rattle.polyhedra.specs.Exactness.{homogenised, rows_of}
use Rattle.polyhedra.specs.LiveList.{Numbered, LiveList, vectors, pairs, step}
use Rattle.lineality.specs.Lines.{AreEchelon, IsReduced}
use Rattle.lineality.specs.Without.{marks, open_count, without, with_zeros}

-- as many places are open as there are entries beside the lines
abbrev pub OpenPlaces : Type 0
OpenPlaces = (n : ℕ) (lines : List (List ℚ)) → AreEchelon n lines →
    open_count (marks n lines) + length lines ≡ n

-- ---- steps
-- the vector is 0 at the marked places
abbrev pub IsClear : List Bool → List ℚ → Type 0
IsClear bs v = with_zeros bs (without bs v) ≡ v

-- a generator without the entries at the marked places
abbrev pub numbered_without : List Bool → Numbered → Numbered
numbered_without bs g = record { number = g.number; vector = without bs g.vector }

-- a live list without these entries, under the same numbers
abbrev pub list_without : List Bool → LiveList → LiveList
list_without bs list = record { live = map (numbered_without bs) list.live; next = list.next }

-- generators that are 0 at the marked places, each with one entry more than there are places: after
-- a row they still are so; without these places they are the generators after the row without them;
-- and the pairs are the same, by their numbers
pub record IsStepWithout (bs : List Bool) (rows : List (List ℚ)) (list : LiveList)
    (row : List ℚ) : Type 0 where
  pub wide : AreWide (suc (length bs)) (vectors (step rows list row).live)
  pub clear : All (IsClear bs) (vectors (step rows list row).live)
  pub same : list_without bs (step rows list row)
      ≡ step (map (without bs) rows) (list_without bs list) (without bs row)
  pub same_pairs : pairs rows list.live row
      ≡ pairs (map (without bs) rows) (list_without bs list).live (without bs row)

-- so it is after any row, where the generators before it are 0 at the marked places
abbrev pub StepsWithout : Type 0
StepsWithout = (bs : List Bool) (rows : List (List ℚ)) (list : LiveList) (row : List ℚ) →
    AreWide (suc (length bs)) (vectors list.live) → All (IsClear bs) (vectors list.live) →
    IsStepWithout bs rows list row

-- ---- the start
-- cuts that are tight at a reduced point, and for each a reduced direction in which it grows while
-- the others stay; with the lines they are as many as there are entries
pub record IsCornerAlong (n : ℕ) (lines : List (List ℚ)) (cuts : List Inequality) (point : List ℚ)
    (directions : List (List ℚ)) : Type 0 where
  pub normals_wide : All (λ e. length e.normal ≡ n) cuts
  pub point_wide : length point ≡ n
  pub directions_wide : AreWide n directions
  pub cuts_many : length cuts + length lines ≡ n
  pub directions_many : length directions ≡ length cuts
  pub point_reduced : IsReduced lines point
  pub directions_reduced : All (IsReduced lines) directions
  pub tight : All (λ e. dot e.normal point ≡ e.bound) cuts
  pub grows : (i : ℕ) → i < length cuts →
      zero_ℚ
      <ℚ dot (slice_index_or (map (λ e. e.normal) cuts) i []) (slice_index_or directions i [])
  pub stays : (i j : ℕ) → i < length cuts → j < length cuts → i ≢ j →
      dot (slice_index_or (map (λ e. e.normal) cuts) i []) (slice_index_or directions j []) ≡ zero_ℚ

-- without the entries at the places of the lines, the rows of such cuts are a double description
-- pair with the point and the directions
abbrev pub CornersAlong : Type 0
CornersAlong = (n : ℕ) (lines : List (List ℚ)) (cuts : List Inequality) (point : List ℚ)
    (directions : List (List ℚ)) → AreEchelon n lines →
    IsCornerAlong n lines cuts point directions →
    let bs = marks n lines in
    IsDoubleDescriptionPair (suc (open_count bs)) (map (without bs) (rows_of n cuts))
    (map (without bs) (homogenised point one_ℚ ∷ map (λ d. homogenised d zero_ℚ) directions))

-- ---- meeting points
-- of generators that are 0 at the marked places, and that without these places are a double
-- description pair with the rows: the new row is tight at a meeting point, another one exactly
-- where it is tight at both generators, and the meeting point can be normed
pub record IsMeetingWithout (rows : List (List ℚ)) (row p m : List ℚ) : Type 0 where
  pub both : IsTightAtBoth rows row p m
  pub not_zero : norming (meeting row p m) ≡ zero_ℚ → ⊥

-- so it is where the row is positive at one of two such generators, and negative at the other
abbrev pub MeetingsWithout : Type 0
MeetingsWithout = (n : ℕ) (bs : List Bool) (rows generators : List (List ℚ)) (row p m : List ℚ) →
    AreWide (suc (length bs)) generators → All (IsClear bs) generators →
    IsDoubleDescriptionPair n (map (without bs) rows) (map (without bs) generators) →
    Contains generators p → Contains generators m → zero_ℚ <ℚ dot row p → dot row m <ℚ zero_ℚ →
    IsMeetingWithout rows row p m

-- ---- no lines
-- without lines no place is marked
pub record NothingMarked (n : ℕ) (v : List ℚ) : Type 0 where
  pub all_open : open_count (marks n []) ≡ n
  pub without_none : without (marks n []) v ≡ v
  pub with_none : with_zeros (marks n []) v ≡ v

-- so it is for vectors of any length
abbrev pub NoneMarked : Type 0
NoneMarked = (n : ℕ) (v : List ℚ) → NothingMarked n v
