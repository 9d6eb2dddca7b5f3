-- The plain log that a log stands for: each shared vector in the places that name it, and no hints.
use Rattle.std.specs.Prelude.{ℕ, ◌-◌, ◌==◌, Bool, true, false, not, if◌then◌else◌, List, [], ◌∷◌, ◌++◌, slice_index_or, Option, None, Some}
use Rattle.std.specs.List.{filter_map}
use Rattle.frac128.specs.declared.vectors.Spot.{Spot}
use Rattle.deriv_log.specs.declared.entry.Entry.{Entry}
use Rattle.deriv_log.specs.declared.entry.Entry.TheVariants.{Version, Cut, Add, Point, Ray, Share, CutOf, PointOf, RayOf, AddHints}

-- the vector that an entry shares
abbrev pub share_in : Entry → Option (List Spot)
share_in (Share v) = Some v
share_in _ = None

-- the vectors that entries share, numbered from 1 in their order
abbrev pub shares : List Entry → List (List Spot)
shares entries = filter_map share_in entries

-- the shared vector number k
abbrev pub shared : List (List Spot) → ℕ → List Spot
shared vectors k = slice_index_or vectors (k - 1) []

-- an entry as it stands in the plain log, after so many shared vectors; none where it only shares
-- one
abbrev pub plain_entry : List (List Spot) → Entry → List Entry
plain_entry vectors (Version n) = Version (if n == 2 then 1 else n) ∷ []
plain_entry vectors (Share v) = []
plain_entry vectors (CutOf w gamma share v) = Cut w gamma (shared vectors share) v ∷ []
plain_entry vectors (PointOf generator share m) = Point generator (shared vectors share) m ∷ []
plain_entry vectors (RayOf generator share m) = Ray generator (shared vectors share) m ∷ []
plain_entry vectors (AddHints cut pairs hints) = Add cut pairs ∷ []
plain_entry vectors e = e ∷ []

-- the plain entries of some entries, after these shared vectors
abbrev pub plain_after : List (List Spot) → List Entry → List Entry
plain_after vectors [] = []
plain_after vectors (e ∷ entries) =
    plain_entry vectors e ++ plain_after (vectors ++ shares (e ∷ [])) entries

-- the plain log that entries stand for
abbrev pub plain : List Entry → List Entry
plain entries = plain_after [] entries

-- an entry that stands in a log of version 2 alone
abbrev pub is_second : Entry → Bool
is_second (Share v) = true
is_second (CutOf w gamma share v) = true
is_second (PointOf generator share m) = true
is_second (RayOf generator share m) = true
is_second (AddHints cut pairs hints) = true
is_second e = false

-- an entry that is its own plain entry
abbrev pub is_plain : Entry → Bool
is_plain (Version n) = not (n == 2)
is_plain e = not (is_second e)

-- the entries begin a log of version 2
abbrev pub is_version_2 : List Entry → Bool
is_version_2 (Version n ∷ entries) = n == 2
is_version_2 _ = false
