-- What an entry of a conversion must meet after the entries before it: rule by rule, over exact
-- numbers, in no order.
use Rattle.std.specs.Prelude.{◌≡◌, ◌≢◌, ℕ, suc, ◌+◌, ◌*◌, ◌<◌, ◌==◌, Bool, true, false, not, ◌&&◌, IsTrue, List, [], ◌∷◌, ◌++◌, map, length, All, AllPairs, Contains, slice_index_or}
use Rattle.std.specs.List.{list_any}
use Rattle.exact_field.specs.Rational.{ℚ, zero_ℚ, one_ℚ, ◌<ℚ◌}
use Rattle.exact_field.specs.Vector.{dot, entry}
use Rattle.lineality.specs.Lines.{leading_place, IsReduced}
use Rattle.polyhedra.specs.DoubleDescription.{leading, IsNormed}
use Rattle.polyhedra.specs.TightSets.{IsTight}
use Rattle.upper_image.specs.Spots.{pieces}
use Rattle.log_rules.specs.Live.{required_pairs}
use Rattle.word_lines.specs.declared.part.LogPair.{LogPair}
use Rattle.rep_conv.specs.Rows.{text_rows, row_at, has_rows}
use Rattle.rep_conv.specs.Live.{State, state, rows_in_use}
use Rattle.rep_text.specs.declared.rep.Rep.{Rep}
use Rattle.rep_text.specs.declared.conv.ConvEntry.{ConvEntry}
use Rattle.rep_text.specs.declared.conv.ConvEntry.TheVariants.{Conv, Line, Start, Add, End}

-- ---- order: one `conv`, then lines, one `start`, further rows, and the end; where there are no
-- rows, the first and the last alone
abbrev pub is_start : ConvEntry → Bool
is_start (Start _ _) = true
is_start _ = false

-- and whether one of these is
abbrev pub has_start : List ConvEntry → Bool
has_start before = list_any is_start before

-- an entry that stands after a `start` alone
abbrev pub needs_start : ConvEntry → Bool
needs_start (Add _ _) = true
needs_start _ = false

-- whether there are entries before, of which the first is the `conv`
abbrev pub has_begun : List ConvEntry → Bool
has_begun before = not (length before == 0)

-- whether an entry may stand after these, where there are rows or none
abbrev pub in_order : Bool → List ConvEntry → ConvEntry → Bool
in_order some before (Conv n) = not (has_begun before)
in_order some before (Line d) = some && has_begun before && not (has_start before)
in_order some before (Start rows gens) = some && has_begun before && not (has_start before)
in_order some before (Add row pairs) = has_start before
in_order true before End = has_start before
in_order false before End = length before == 1

-- ---- line: d goes on the reduced echelon form of the lines before it, and each row is 0 at it
pub record MeetsLine (rep : Rep) (s : State) (d : List ℚ) : Type 0 where
  pub lengths : length d ≡ suc rep.width
  pub scaled : leading d ≡ one_ℚ
  pub rises : All (λ e. leading_place e < leading_place d) s.lines
  pub clear : All (λ e. entry e (leading_place d) ≡ zero_ℚ) s.lines
  pub corner : All (λ r. IsTight r d) (text_rows rep)

-- ---- start: one row for each place that is no line's, with as many generators that are reduced and
-- normed; row i is positive at generator i and 0 at the others
pub record MeetsStart (rep : Rep) (s : State) (rows : List ℕ) (gens : List ℚ) : Type 0 where
  pub rows_many : length rows + length s.lines ≡ suc rep.width
  pub gens_many : length gens ≡ length rows * suc rep.width
  pub rise : AllPairs (λ k k'. k < k') rows
  pub exist : All (λ k. k < length (text_rows rep)) rows
  pub reduced : All (IsReduced s.lines) (pieces (length rows) (suc rep.width) gens)
  pub normed : All IsNormed (pieces (length rows) (suc rep.width) gens)
  pub positive : (i : ℕ) → i < length rows →
      zero_ℚ <ℚ dot (slice_index_or (map (row_at rep) rows) i [])
      (slice_index_or (pieces (length rows) (suc rep.width) gens) i [])
  pub zero_elsewhere : (i j : ℕ) → i < length rows → j < length rows → i ≢ j →
      dot (slice_index_or (map (row_at rep) rows) i [])
      (slice_index_or (pieces (length rows) (suc rep.width) gens) j []) ≡ zero_ℚ

-- ---- add: a row that is not in use, with exactly the pairs that are required
pub record MeetsAdd (rep : Rep) (s : State) (row : ℕ) (pairs : List LogPair) : Type 0 where
  pub exists : row < length (text_rows rep)
  pub unused : Contains s.used row → ⊥
  pub exactly : pairs ≡ required_pairs (rows_in_use rep s) s.list.live (row_at rep row)

-- ---- end: each row is in use
abbrev pub MeetsEnd : Rep → State → Type 0
MeetsEnd rep s = (k : ℕ) → k < length (text_rows rep) → Contains s.used k

-- ---- all kinds
-- the rules of each kind of entry
abbrev pub MeetsKind : Rep → State → ConvEntry → Type 0
MeetsKind rep s (Conv n) = n ≡ 1
MeetsKind rep s (Line d) = MeetsLine rep s d
MeetsKind rep s (Start rows gens) = MeetsStart rep s rows gens
MeetsKind rep s (Add row pairs) = MeetsAdd rep s row pairs
MeetsKind rep s End = MeetsEnd rep s

-- an entry stands in order, and meets the rules of its kind
pub record Meets (rep : Rep) (before : List ConvEntry) (e : ConvEntry) : Type 0 where
  pub order : IsTrue (in_order (has_rows rep) before e)
  pub rules : MeetsKind rep (state rep before) e

-- each entry meets its rules after those before it
abbrev pub AllMeet : Rep → List ConvEntry → Type 0
AllMeet rep entries = (before : List ConvEntry) (e : ConvEntry) (after : List ConvEntry) →
    entries ≡ before ++ e ∷ after → Meets rep before e
