-- The log of version 2 that says the same as a log: with hints, and each vector that stands in
-- several entries once.
use Rattle.std.specs.Prelude.{ℕ, zero, suc, ◌==◌, Bool, true, false, ◌&&◌, nat_lt, if◌then◌else◌, List, [], ◌∷◌, ◌++◌, length, Option, None, Some}
use Rattle.std.specs.List.{filter_map, count_by}
use Rattle.exact_field.specs.Order.{same_ℚ}
use Rattle.frac128.specs.declared.vectors.Spot.{Spot}
use Rattle.deriv_log.specs.declared.entry.Entry.{Entry}
use Rattle.deriv_log.specs.declared.entry.Entry.TheVariants.{Version, Cut, Add, Point, Ray, Share, CutOf, PointOf, RayOf, AddHints}
use Rattle.log_rules.specs.Live.{state, cut_row, rows_in_use}
use Rattle.log_versions.specs.Hints.{least_hints}
use Rattle.log_versions.specs.Plain.{is_version_2}

-- ---- vectors that stand in several entries
-- the vector of an entry that may be shared: the u of a cut, the x of a point or a ray
abbrev pub body : Entry → Option (List Spot)
body (Cut w gamma u v) = Some u
body (Point generator x m) = Some x
body (Ray generator x m) = Some x
body _ = None

-- whether two sparse vectors are one
abbrev pub same_spots : List Spot → List Spot → Bool
same_spots [] [] = true
same_spots [] (_ ∷ _) = false
same_spots (_ ∷ _) [] = false
same_spots (s ∷ us) (t ∷ vs) = s.at == t.at && same_ℚ s.value t.value && same_spots us vs

-- it has a place, and stands in two entries or more
abbrev pub is_repeated : List Entry → List Spot → Bool
is_repeated entries [] = false
is_repeated entries (s ∷ u) = nat_lt 1 (count_by (same_spots (s ∷ u)) (filter_map body entries))

-- its number among some vectors, counted from k; 0 where it is not there
abbrev pub number_from : ℕ → List Spot → List (List Spot) → ℕ
number_from k u [] = 0
number_from k u (v ∷ vectors) =
    elim (same_spots u v) [ true ↦ k | false ↦ number_from (suc k) u vectors ]

-- the entry with the shared vector of this number in place of its own
abbrev pub naming : ℕ → Entry → Entry
naming k (Cut w gamma u v) = CutOf w gamma k v
naming k (Point generator x m) = PointOf generator k m
naming k (Ray generator x m) = RayOf generator k m
naming k e = e

-- an entry that names a vector, which is shared right before where it was not before
abbrev pub sharing : List (List Spot) → List Spot → Entry → List Entry
sharing vectors u e =
    elim (number_from 1 u vectors) [
      | zero ↦ Share u ∷ naming (suc (length vectors)) e ∷ []
      | suc k ↦ naming (suc k) e ∷ []
    ]

-- ---- the upgrade
-- an entry whose vector is not shared: the version is 2, and an `add` gets its hints
abbrev pub with_hints : ℕ → List Entry → Entry → Entry
with_hints q before (Version n) = Version 2
with_hints q before (Add cut pairs) =
    let s = state q before in
    AddHints cut pairs (least_hints (rows_in_use q s) s.list.live (cut_row s cut) pairs)
with_hints q before e = e

-- an entry of the log, after those before it and so many shared vectors
abbrev pub upgraded_entry : ℕ → List Entry → List Entry → List (List Spot) → Entry → List Entry
upgraded_entry q all before vectors e =
    elim (body e) [
      | Some u ↦ elim (is_repeated all u) [ true ↦ sharing vectors u e | false ↦ e ∷ [] ]
      | None ↦ with_hints q before e ∷ []
    ]

-- the vectors that are shared after one more entry
abbrev pub more_shared : List Entry → List (List Spot) → Entry → List (List Spot)
more_shared all vectors e =
    elim (body e) [
      | Some u ↦
          if is_repeated all u && number_from 1 u vectors == 0 then vectors ++ u ∷ [] else vectors
      | None ↦ vectors
    ]

-- the upgrade of some entries, after those before them and these shared vectors
abbrev pub upgraded_after :
    ℕ → List Entry → List Entry → List (List Spot) → List Entry → List Entry
upgraded_after q all before vectors [] = []
upgraded_after q all before vectors (e ∷ entries) =
    upgraded_entry q all before vectors e
    ++ upgraded_after q all (before ++ e ∷ []) (more_shared all vectors e) entries

-- the log of version 2 for a file of q objectives; a log of version 2 is its own
abbrev pub upgraded : ℕ → List Entry → List Entry
upgraded q entries =
    if is_version_2 entries then entries else upgraded_after q entries [] [] entries
