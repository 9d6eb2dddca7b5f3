-- The lines of a representation's rows, and the rows without the entries at their places.
use Rattle.std.specs.Prelude.{ℕ, suc, Bool, List, map}
use Rattle.exact_field.specs.Rational.{ℚ}
use Rattle.lineality.specs.Without.{marks, open_count, without}
use Rattle.lin_rows.specs.Complement.{AreComplement}
use Rattle.rep_conv.specs.Rows.{text_rows}
use Rattle.rep_text.specs.declared.rep.Rep.{Rep}

-- the vectors at which all rows of the text are 0 are spanned by these, which are in reduced echelon
-- form
abbrev pub AreLinesOf : Rep → List (List ℚ) → Type 0
AreLinesOf rep lines = AreComplement (suc rep.width) (text_rows rep) lines

-- for each place but the last, which is that of no line where there are rows, whether it is that
-- of a line
abbrev pub marks_of : Rep → List (List ℚ) → List Bool
marks_of rep lines = marks rep.width lines

-- how many entries a row has outside the places of the lines
abbrev pub width_without : Rep → List (List ℚ) → ℕ
width_without rep lines = suc (open_count (marks_of rep lines))

-- the rows of the text without the entries at the places of the lines
abbrev pub rows_without : Rep → List (List ℚ) → List (List ℚ)
rows_without rep lines = map (without (marks_of rep lines)) (text_rows rep)
