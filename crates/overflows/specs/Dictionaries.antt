-- Operands in a dictionary: of a program that a setting allows, or of an elimination of its rows.
use Rattle.std.specs.Prelude.{ℕ, suc, ◌+◌, ◌≤◌, ⊤, Bool, List, ◌∷◌, ◌≡◌, ◌≢◌, ◌⊎◌, map, length, All, Contains}
use Rattle.exact_field.specs.Rational.{ℚ, zero_ℚ}
use Rattle.exact_field.specs.declared.op.Left.{Left}
use Rattle.polyhedra.specs.Cone.{HasFullRank}
use Rattle.polyhedra.specs.Exactness.{level}
use Rattle.tableaux.specs.Table.{Table, System, at, row_of, beside_unit, equation_count}
use Rattle.tableaux.specs.Dictionary.{IsDictionary, IsDictionaryOf}
use Rattle.lin_rows.specs.Pivot.{IsPivotStep}
use Rattle.exact_simplex.specs.Ends.{IsSystemStep}
use Rattle.vlp_problem.specs.Values.{cone_vectors}
use Rattle.vlp_problem.specs.declared.program.Program.{Program}
use Rattle.vlp_problem.specs.declared.program.Program.TheVariants.{Feasible, Benson, Weight, Interior, Pointed}
use Rattle.lineality.specs.Without.{open_count, without}
use Rattle.log_rules.specs.Live.{cut_row, lines}
use Rattle.lp_form.specs.Programs.{named_system}
use Rattle.overflows.specs.Base.{IsBaseRow, IsBaseWeight, IsBaseStart, trail_normals}
use Rattle.overflows.specs.Settings.{Setting, standing, Knows, vector_of, IsTrailNormal, line_marks}

-- ---- programs
-- the system of a program in a setting
abbrev pub system_in : Setting → Program → System
system_in s program = named_system s.file (vector_of s.c) program

-- Benson's program has a base start vector, and that of a weight a base weight or the normal of a
-- trail's cut
abbrev pub IsAllowed : Setting → Program → Type 0
IsAllowed s Feasible = ⊤
IsAllowed s (Benson v t) = (c : List ℚ) × Knows s c × IsBaseStart s.file.objs s.trail v t
IsAllowed s (Weight w) = ((c : List ℚ) × Knows s c × IsBaseWeight s.file c w) ⊎ IsTrailNormal s w
IsAllowed s Interior = ⊤
IsAllowed s Pointed = ⊤

-- a step of a pivot at an entry that is not 0, in the dictionary of an allowed program at the
-- basis; or, in the row of the first cost, the difference of an artificial entry and 1
pub record IsProgramStep (holds : ℚ → Bool) (s : Setting) (program : Program) (basis : List ℕ) (row col number : ℕ) (left : Left ℚ) : Type 0 where
  pub allowed : IsAllowed s program
  pub dictionary : Table
  pub is : IsDictionaryOf (system_in s program) basis dictionary
  pub operands : IsSystemStep (λ q. q) holds (system_in s program) dictionary row col number left
  pub pivot : row ≤ equation_count (system_in s program) → at dictionary row col ≢ zero_ℚ

-- ---- eliminations
-- rows of this width that a double description may start with, or of which an inverse is formed:
-- row 0 and as many cuts of the trail as there are entries outside the places of its lines, with
-- independent normals, all without these places; some vectors of the ordering cone; base rows
pub data AreStartRows (s : Setting) (rows : List (List ℚ)) : ℕ → Type 0 where
  of_image : (cuts : List ℕ) → All (λ k. (1 ≤ k) × (k ≤ length (standing s).cuts)) cuts → length cuts + length (lines s.trail) ≡ s.file.objs →
      HasFullRank (open_count (line_marks s)) (map (without (line_marks s)) (map (row_of (trail_normals s.file.objs s.trail)) cuts)) →
      rows ≡ map (without (line_marks s)) (level s.file.objs ∷ map (cut_row (standing s)) cuts) → AreStartRows s rows (suc (open_count (line_marks s)))
  of_cone : All (Contains (cone_vectors s.file.cone)) rows → AreStartRows s rows s.file.objs
  of_base : (c : List ℚ) → Knows s c → All (IsBaseRow s.file c) rows → AreStartRows s rows (suc s.file.objs)

-- rows of this width that may be eliminated: these, or the normals of all cuts of the trail
pub data AreElimRows (s : Setting) (rows : List (List ℚ)) : ℕ → Type 0 where
  of_normals : rows ≡ trail_normals s.file.objs s.trail → AreElimRows s rows s.file.objs
  of_start : (width : ℕ) → AreStartRows s rows width → AreElimRows s rows width

-- the table of an elimination with its width: that of rows that may be eliminated; or, of as many
-- rows of a start as they are wide, that of the rows with the unit matrix beside them
pub data IsElimTable (s : Setting) (rows : List (List ℚ)) (width : ℕ) (t : Table) (columns : ℕ) : Type 0 where
  alone : AreElimRows s rows width → t ≡ rows → columns ≡ width → IsElimTable s rows width t columns
  beside : AreStartRows s rows width → length rows ≡ width → t ≡ beside_unit rows → columns ≡ length rows + length rows →
      IsElimTable s rows width t columns

-- a dictionary of an elimination of these rows at the basis
pub record IsElimDictionary (s : Setting) (rows : List (List ℚ)) (width columns : ℕ) (basis : List ℕ) (d : Table) : Type 0 where
  pub table : Table
  pub of_rows : IsElimTable s rows width table columns
  pub is : IsDictionary columns table basis d

-- a step of a pivot at an entry that is not 0, in such a dictionary; the basis has one place for
-- each row
pub record IsElimStep (holds : ℚ → Bool) (s : Setting) (rows : List (List ℚ)) (basis : List ℕ) (row col number : ℕ) (left : Left ℚ) : Type 0 where
  pub width : ℕ
  pub columns : ℕ
  pub dictionary : Table
  pub is : IsElimDictionary s rows width columns basis dictionary
  pub one_each : length basis ≡ length rows
  pub row_from_one : 1 ≤ row
  pub col_from_one : 1 ≤ col
  pub operands : IsPivotStep (λ q. q) holds columns dictionary row col number left
  pub pivot : at dictionary row col ≢ zero_ℚ
