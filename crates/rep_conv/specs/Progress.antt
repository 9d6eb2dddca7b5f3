-- What the checker of a conversion keeps of what stands after some entries.
use Rattle.std.specs.Prelude.{◌≡◌, ◌≤◌, false, List, [], length}
use Rattle.log_live.specs.Live.{AreLive}
use Rattle.rep_conv.specs.Laws.{Stands}
use Rattle.rep_conv.specs.Live.{State, state, rows_in_use}
use Rattle.rep_conv.specs.Meets.{has_start}
use Rattle.rep_conv.specs.Rows.{text_rows}
use Rattle.rep_conv.specs.Starting.{IsSetOf}
use Rattle.rep_conv.specs.declared.progress.Standing.{Standing}
use Rattle.rep_text.specs.declared.rep.Rep.{Rep}
use Rattle.rep_text.specs.declared.conv.ConvEntry.{ConvEntry}

-- the value keeps the rows, and of what stands the lines, the set of the rows in use, and the live
-- generators with the sets of the rows in use that are tight at them
pub record Keeps (rep : Rep) (s : State) (standing : Standing) : Type 0 where
  pub rows : standing.rows ≡ text_rows rep
  pub few : length (text_rows rep) ≤ 4294967294
  pub lines : standing.lines ≡ s.lines
  pub in_use : IsSetOf (length (text_rows rep)) s.used standing.in_use
  pub list : AreLive (rows_in_use rep s) s.list standing.generators.items standing.next

-- and what stands is what the rules keep
pub record Holds (rep : Rep) (s : State) (standing : Standing) : Type 0 where
  pub keeps : Keeps rep s standing
  pub stands : Stands rep s standing.started

-- so it is after these entries; before a `start` there are no generators
pub record StandsAfter (rep : Rep) (before : List ConvEntry) (standing : Standing) : Type 0 where
  pub holds : Holds rep (state rep before) standing
  pub started : standing.started ≡ has_start before
  pub early : standing.started ≡ false → (state rep before).list.live ≡ []
