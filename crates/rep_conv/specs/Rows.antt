-- The rows of a representation: the cone of all of them is that of the vectors (z, t) with t z in the
-- set, or of the inequalities (h, γ) that hold on it.
use Rattle.std.specs.Prelude.{ℕ, not, ◌==◌, Bool, true, false, List, [], ◌∷◌, length, if◌then◌else◌, slice_index_or}
use Rattle.std.specs.List.{flat_map, list_any}
use Rattle.exact_field.specs.Rational.{ℚ, zero_ℚ, one_ℚ, neg_ℚ}
use Rattle.polyhedra.specs.Exactness.{homogenised, level}
use Rattle.polyhedra.specs.Negatives.{negated}
use Rattle.rep_conv.specs.Sets.{normal_of, bound_of, is_kind}
use Rattle.rep_text.specs.declared.rep.Rep.{Rep}
use Rattle.rep_text.specs.declared.rep.RepKind.{RepKind}
use Rattle.rep_text.specs.declared.rep.RepKind.TheVariants.{Side, Equal, Line, Point, Direction}
use Rattle.rep_text.specs.declared.rep.RepRow.{RepRow}

-- the row of an inequality over (z, t)
abbrev pub side_row : RepRow → List ℚ
side_row row = homogenised (normal_of row) (neg_ℚ (bound_of row))

-- a row, and its negative as one more
abbrev pub both_signs : List ℚ → List (List ℚ)
both_signs r = r ∷ negated r ∷ []

-- the rows of one inequality or equation, of a line, a point or a direction
abbrev pub rows_of_kind : RepKind → RepRow → List (List ℚ)
rows_of_kind Side row = side_row row ∷ []
rows_of_kind Equal row = both_signs (side_row row)
rows_of_kind Line row = both_signs (homogenised row.v zero_ℚ)
rows_of_kind Point row = homogenised row.v (neg_ℚ one_ℚ) ∷ []
rows_of_kind Direction row = homogenised row.v zero_ℚ ∷ []

-- those of all, in their order
abbrev pub rows_from : Rep → List (List ℚ)
rows_from rep = flat_map (λ row. rows_of_kind row.kind row) rep.rows

-- whether there is a point
abbrev pub has_point : Rep → Bool
has_point rep = list_any (λ row. is_kind Point row.kind) rep.rows

-- these of points, directions and lines, and none without a point; of inequalities and equations
-- that of t ≥ 0 first
abbrev pub rows_under : Bool → Rep → List (List ℚ)
rows_under true rep = if has_point rep then rows_from rep else []
rows_under false rep = level rep.width ∷ rows_from rep

-- the rows, numbered from 0: that of t ≥ 0 and then those of the inequalities, or those of the
-- points, directions and lines; none of these without a point
abbrev pub text_rows : Rep → List (List ℚ)
text_rows rep = rows_under rep.gens rep

-- row number k
abbrev pub row_at : Rep → ℕ → List ℚ
row_at rep k = slice_index_or (text_rows rep) k []

-- whether there are rows
abbrev pub has_rows : Rep → Bool
has_rows rep = not (length (text_rows rep) == 0)
