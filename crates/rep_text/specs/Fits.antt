-- Which rows a representation may have, and which of them a text can write.
use Rattle.std.specs.Prelude.{ℕ, suc, ◌==◌, Bool, true, false, ◌&&◌, length}
use Rattle.std.specs.List.{list_all}
use Rattle.frac128.specs.Held.{is_held}
use Rattle.rep_text.specs.declared.rep.RepKind.{RepKind}
use Rattle.rep_text.specs.declared.rep.RepKind.TheVariants.{Side, Equal, Line, Point, Direction}
use Rattle.rep_text.specs.declared.rep.RepRow.{RepRow}

-- whether a kind belongs to points, directions and lines, or to inequalities and equations
abbrev pub kind_fits : Bool → RepKind → Bool
kind_fits true Line = true
kind_fits true Point = true
kind_fits true Direction = true
kind_fits false Side = true
kind_fits false Equal = true
kind_fits _ _ = false

-- how many numbers a row has
abbrev pub row_length : ℕ → RepKind → ℕ
row_length width Side = suc width
row_length width Equal = suc width
row_length width _ = width

-- the row's kind belongs there, and it has as many numbers as one of its kind
abbrev pub row_fits : Bool → ℕ → RepRow → Bool
row_fits gens width row = kind_fits gens row.kind && length row.v == row_length width row.kind

-- its numbers can be written
abbrev pub row_held : RepRow → Bool
row_held row = list_all is_held row.v
