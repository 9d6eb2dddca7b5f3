-- What stands after some entries of a conversion: the lines, the rows in use, and the live
-- generators.
use Rattle.std.specs.Prelude.{ℕ, suc, List, [], ◌∷◌, ◌++◌, map, length, fold}
use Rattle.exact_field.specs.Rational.{ℚ}
use Rattle.polyhedra.specs.LiveList.{LiveList, starting, step}
use Rattle.upper_image.specs.Spots.{pieces}
use Rattle.rep_conv.specs.Rows.{row_at}
use Rattle.rep_text.specs.declared.rep.Rep.{Rep}
use Rattle.rep_text.specs.declared.conv.ConvEntry.{ConvEntry}
use Rattle.rep_text.specs.declared.conv.ConvEntry.TheVariants.{Line, Start, Add}

-- the numbers of the rows in use stand in the order in which they came into use
pub record State : Type 0 where
  pub lines : List (List ℚ)
  pub used : List ℕ
  pub list : LiveList

-- what stands before any entry
abbrev pub nothing : State
nothing = record { lines = []; used = []; list = starting 1 [] }

-- the rows in use
abbrev pub rows_in_use : Rep → State → List (List ℚ)
rows_in_use rep s = map (row_at rep) s.used

-- what stands after one more entry; an addition makes the new generators of the pairs that are
-- required, whatever pairs the log names
abbrev pub after : Rep → State → ConvEntry → State
after rep s (Line d) = record s { lines = s.lines ++ d ∷ [] }
after rep s (Start rows gens) =
    record s { used = rows; list = starting 1 (pieces (length rows) (suc rep.width) gens) }
after rep s (Add row _) =
    record s { used = s.used ++ row ∷ []; list = step (rows_in_use rep s) s.list (row_at rep row) }
after rep s _ = s

-- what stands after some entries
abbrev pub state : Rep → List ConvEntry → State
state rep entries = fold (after rep) nothing entries
