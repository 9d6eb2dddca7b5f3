-- The log of an outer approximation as it grows, and its double description, which stand for the same cuts.
use Rattle.std.specs.Prelude.{◌≡◌, ◌≢◌, ℕ, suc, false, not, List, [], ◌∷◌, ◌++◌, map, length, All, IsTrue}
use Rattle.exact_field.specs.Rational.{ℚ}
use Rattle.std.specs.List.{range_with_len}
use Rattle.polyhedra.specs.Inequality.{Inequality}
use Rattle.deriv_log.specs.Formed.{is_formed, is_end, IsLog}
use Rattle.upper_image.specs.Shows.{ShowsFitting}
use Rattle.deriv_log.specs.declared.entry.Entry.{Entry}
use Rattle.deriv_log.specs.declared.entry.Entry.TheVariants.{Duality}
use Rattle.double_descr.specs.State.{State as Description}
use Rattle.lineality.specs.Steps.{list_without}
use Rattle.lineality.specs.Without.{open_count, without}
use Rattle.log_rules.specs.Live.{state, inequality, rows_in_use, lines, preimages}
use Rattle.log_rules.specs.Order.{has}
use Rattle.log_rules.specs.Order as order
use Rattle.overflows.specs.Trails.{IsBaseDuality, IsBaseTrail}
use Rattle.outer_approx.specs.Lines.{line_places}
use Rattle.outer_approx.specs.Task.{Task}

-- the entry is a duality entry with the task's c and weights, fits its file, and is read off
abbrev pub IsOpening : Task → Entry → Type 0
IsOpening task opening =
    (picks : List ℕ) × (inverse : List ℚ)
    × (opening ≡ Duality task.c task.weights picks inverse)
    × ShowsFitting task.file task.c task.weights picks inverse
    × IsBaseDuality task.file task.file.cone task.file.duality task.c task.weights

-- a base trail of entries that can be written, with a duality entry, in which no facet is named and nothing is ended
pub record IsOpenTrail (task : Task) (trail : List Entry) : Type 0 where
  pub base : IsBaseTrail task.file task.c task.weights trail
  pub written : All (λ e. IsTrue (is_formed e)) trail
  pub duality : IsTrue (has order.duality trail)
  pub unnamed : has order.facet trail ≡ false
  pub unended : All (λ e. IsTrue (not (is_end e))) trail

-- the inequalities of all cuts of a trail, in their order
abbrev pub cuts_of : Task → List Entry → List Inequality
cuts_of task trail = map inequality (state task.file.objs trail).cuts

-- the rows in use after a trail: row 0 and those of the cuts in use, in their order
abbrev pub rows_of_trail : Task → List Entry → List (List ℚ)
rows_of_trail task trail = rows_in_use task.file.objs (state task.file.objs trail)

-- such a trail that has these cuts, of which none is in use, and these lines
pub record IsBegun (task : Task) (ls : List (List ℚ)) (cuts : List Inequality) (trail : List Entry) : Type 0 where
  pub open_trail : IsOpenTrail task trail
  pub unstarted : has order.start trail ≡ false
  pub cuts_are : cuts_of task trail ≡ cuts
  pub lines_are : lines trail ≡ ls

-- a trail and a double description stand for the same cuts: without the entries at the places of
-- lines the rows are those of the trail in their order, and the live generators are the same under
-- the same numbers
pub record StandForSame (task : Task) (trail : List Entry) (dd : Description) : Type 0 where
  pub width : dd.width ≡ suc (open_count (line_places task trail))
  pub rows : dd.rows ≡ map (without (line_places task trail)) (rows_of_trail task trail)
  pub list : dd.list ≡ list_without (line_places task trail) (state task.file.objs trail).list

-- such a trail that is started, all of whose cuts are in use in their order, beside a double description for the same cuts
pub record IsOuter (task : Task) (trail : List Entry) (dd : Description) : Type 0 where
  pub open_trail : IsOpenTrail task trail
  pub started : IsTrue (has order.start trail)
  pub all_used : (state task.file.objs trail).used ≡ range_with_len 1 (length (state task.file.objs trail).cuts)
  pub same : StandForSame task trail dd
  pub open same use *

-- one more cut stands, which is not in use, and all else is as before
pub record HasCutMore (task : Task) (cut : Inequality) (old new : List Entry) : Type 0 where
  pub cuts : cuts_of task new ≡ cuts_of task old ++ cut ∷ []
  pub used : (state task.file.objs new).used ≡ (state task.file.objs old).used
  pub list : (state task.file.objs new).list ≡ (state task.file.objs old).list
  pub started : has order.start new ≡ has order.start old
  pub lines_stay : lines new ≡ lines old
  pub preimages_stay : (k : ℕ) → preimages new k ≡ preimages old k

-- the generator of this number has a pre-image, and all else is as before
pub record HasPreimageMore (task : Task) (g : ℕ) (old new : List Entry) : Type 0 where
  pub stands : state task.file.objs new ≡ state task.file.objs old
  pub started : has order.start new ≡ has order.start old
  pub lines_stay : lines new ≡ lines old
  pub here : preimages new g ≢ []
  pub others : (k : ℕ) → k ≢ g → preimages new k ≡ preimages old k

-- a whole log that meets its rules and is a base trail
pub record IsEnded (task : Task) (entries : List Entry) : Type 0 where
  pub log : IsLog entries
  pub base : IsBaseTrail task.file task.c task.weights entries
