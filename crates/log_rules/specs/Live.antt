-- What stands after some entries: the cuts, those in use, and the live generators.
use Rattle.polyhedra.specs.Exactness.{homogenised, row_of, rows_of}
use Rattle.polyhedra.specs.Inequality.{Inequality}
use Rattle.polyhedra.specs.LiveList.{Numbered, LiveList, vectors, pairs, starting, step}
use Rattle.upper_image.specs.Spots.{pieces}
use Rattle.std.specs.Prelude.{ℕ, suc, ◌-◌, ◌==◌, Bool, true, false, List, [], ◌∷◌, ◌++◌, map, length, take, fold, slice_index_or}
use Rattle.std.specs.List.{list_any, filter_map}
use Rattle.std.specs.Prelude.{Option, None, Some}
use Rattle.exact_field.specs.Rational.{ℚ, zero_ℚ, one_ℚ}
use Rattle.exact_field.specs.Vector.{dot, entry}
use Rattle.frac128.specs.declared.vectors.Spot.{Spot}
use Rattle.word_lines.specs.declared.part.LogPair.{LogPair}
use Rattle.deriv_log.specs.declared.entry.Entry.{Entry}
use Rattle.deriv_log.specs.declared.entry.Entry.TheVariants.{Duality, Cut, Start, Add, Point, Ray, Line, Facet}

-- ---- cuts
-- a cut with its dual vector
pub record Stated : Type 0 where
  pub w : List ℚ
  pub gamma : ℚ
  pub u : List Spot

-- the inequality w . y ≥ gamma
abbrev pub inequality : Stated → Inequality
inequality cut = record { normal = cut.w; bound = cut.gamma }

-- the cut number k, counted from 1
abbrev pub cut_at : List Stated → ℕ → Stated
cut_at cuts k = slice_index_or cuts (k - 1) record { w = []; gamma = zero_ℚ; u = [] }

-- ---- generators
-- where there are q objectives, a generator is (y, t): a point (y, 1) or a direction (y, 0)
abbrev pub y_of : ℕ → Numbered → List ℚ
y_of q g = take q g.vector

abbrev pub t_of : ℕ → Numbered → ℚ
t_of q g = entry g.vector (suc q)

-- the value of a row at it
abbrev pub value : List ℚ → Numbered → ℚ
value row g = dot row g.vector

-- a generator of this number, if there is one
abbrev pub find : List Numbered → ℕ → Option Numbered
find [] k = None
find (g ∷ live) k = elim (g.number == k) [ true ↦ Some g | false ↦ find live k ]

-- ---- what stands
-- the cuts in their order, the numbers of those in use in the order in which they came into use,
-- and the live generators
pub record State : Type 0 where
  pub cuts : List Stated
  pub used : List ℕ
  pub list : LiveList

-- the inequalities in use
abbrev pub in_use : State → List Inequality
in_use s = map (λ k. inequality (cut_at s.cuts k)) s.used

-- the rows in use: row 0, which says t ≥ 0, and those of the cuts in use
abbrev pub rows_in_use : ℕ → State → List (List ℚ)
rows_in_use q s = rows_of q (in_use s)

-- the row of a cut: its value at (y, t) is w . y - gamma t
abbrev pub cut_row : State → ℕ → List ℚ
cut_row s k = row_of (inequality (cut_at s.cuts k))

-- the vectors of the live generators
abbrev pub live_vectors : State → List (List ℚ)
live_vectors s = vectors s.list.live

-- ---- a new row
-- two numbers as a pair of the log
abbrev pub log_pair : ℕ × ℕ → LogPair
log_pair pair = record { plus = pair.0; minus = pair.1 }

-- the pairs of a live generator with a positive and one with a negative value that no third one
-- covers, by rising plus and then by rising minus
abbrev pub required_pairs : List (List ℚ) → List Numbered → List ℚ → List LogPair
required_pairs rows live row = map log_pair (pairs rows live row)

-- the vectors of the first generators of so many cuts: the point, then a direction for each cut
abbrev pub first_vectors : ℕ → ℕ → List ℚ → List ℚ → List (List ℚ)
first_vectors q count point directions = homogenised point one_ℚ ∷ map (λ d. homogenised d zero_ℚ) (pieces count q directions)

-- what stands after one more entry, where there are q objectives; a step makes the new generators
-- of the pairs that are required, whatever pairs the log names
abbrev pub after : ℕ → State → Entry → State
after q s (Cut w gamma u _) = record s { cuts = s.cuts ++ record { w = w; gamma = gamma; u = u } ∷ [] }
after q s (Start cuts point directions) = record s { used = cuts; list = starting 1 (first_vectors q (length cuts) point directions) }
after q s (Add cut _) = record s { used = s.used ++ cut ∷ []; list = step (rows_in_use q s) s.list (cut_row s cut) }
after q s _ = s

-- nothing
abbrev pub nothing : State
nothing = record { cuts = []; used = []; list = starting 1 [] }

-- what stands after these entries
abbrev pub state : ℕ → List Entry → State
state q entries = fold (after q) nothing entries

-- ---- what the other entries say
-- the duality vector
abbrev pub duality_vector : List Entry → List ℚ
duality_vector [] = []
duality_vector (Duality c _ _ _ ∷ _) = c
duality_vector (_ ∷ entries) = duality_vector entries

-- the vector of a line that an entry tells
abbrev pub line_in : Entry → Option (List ℚ)
line_in (Line d _ _ _ _ _) = Some d
line_in _ = None

-- the lines, in their order
abbrev pub lines : List Entry → List (List ℚ)
lines entries = filter_map line_in entries

-- the pre-image that an entry gives the generator number k
abbrev pub preimage_in : ℕ → Entry → Option (List Spot)
preimage_in k (Point g x _) = elim (g == k) [ true ↦ Some x | false ↦ None ]
preimage_in k (Ray g x _) = elim (g == k) [ true ↦ Some x | false ↦ None ]
preimage_in k _ = None

-- the pre-images that entries give it
abbrev pub preimages : List Entry → ℕ → List (List Spot)
preimages entries k = filter_map (preimage_in k) entries

-- the cut that an entry names as a facet
abbrev pub named_in : Entry → Option ℕ
named_in (Facet cut) = Some cut
named_in _ = None

-- the cuts named as facets, in their order
abbrev pub named : List Entry → List ℕ
named entries = filter_map named_in entries

-- a list of numbers has this one
abbrev pub contains : List ℕ → ℕ → Bool
contains ks k = list_any (λ j. j == k) ks
