-- What a draft of a problem has of the statements so far.
use Rattle.std.specs.Prelude.{◌≡◌, ℕ, ◌==◌, if◌then◌else◌, Bool, true, false, List, map, [], ◌∷◌, ◌++◌, Option, None, Some}
use Rattle.std.specs.List.{list_all}
use Rattle.std.specs.BTreeMap.{btree_map_len}
use Rattle.exact_field.specs.Rational.{ℚ}
use Rattle.vlp_problem.specs.Sides.{numbers_from}
use Rattle.vlp_reader.specs.Grammar.{first_given, given_sizes, same_matrix, same_axis, formed, sizes_fault}
use Rattle.vlp_reader.specs.Statements.{sizes_of}
use Rattle.vlp_reader.specs.Tables.{HasEntries, HasBounds, table_column}
use Rattle.vlp_reader.specs.declared.draft.Draft.{Draft}
use Rattle.vlp_problem.specs.declared.problem.Bound.{Bound}
use Rattle.vlp_problem.specs.declared.problem.Cone.{Cone}
use Rattle.vlp_problem.specs.declared.problem.Cone.TheVariants.{Orthant, Gens, Dual}
use Rattle.vlp_reader.specs.declared.sizes.ConeSizes.{ConeSizes}
use Rattle.vlp_problem.specs.declared.problem.Axis.{Axis}
use Rattle.vlp_problem.specs.declared.problem.Axis.TheVariants.{Row, Column}
use Rattle.vlp_reader.specs.declared.statement.Matrix.{Matrix}
use Rattle.vlp_reader.specs.declared.statement.Matrix.TheVariants.{Constraints, Objectives, ConeVectors, Duality}
use Rattle.vlp_reader.specs.declared.statement.Statement.{Statement}
use Rattle.vlp_reader.specs.declared.statement.Statement.TheVariants.{Silent, Heading}
use Rattle.vlp_reader.specs.declared.table.Table.{Table}

-- the table of a matrix,
abbrev pub table_of : Draft → Matrix → Table
table_of draft Constraints = draft.a
table_of draft Objectives = draft.o
table_of draft ConeVectors = draft.vectors
table_of draft Duality = draft.duality

-- and the bounds of each row or column, where some were given
abbrev pub bounds_of : Draft → Axis → List (Option Bound)
bounds_of draft Row = draft.row_bounds.items
bounds_of draft Column = draft.col_bounds.items

-- the cone and the duality vector that a draft's tables have
abbrev pub draft_cone : Draft → Option ConeSizes → Cone
draft_cone draft None = Orthant
draft_cone draft (Some c) =
    let vectors = map (table_column draft.vectors) (numbers_from 1 c.vectors) in
    if c.dual then Dual vectors else Gens vectors

abbrev pub draft_duality : Draft → Option (List ℚ)
draft_duality draft = if btree_map_len draft.duality.cells == 0 then None else Some (table_column draft.duality 1)

-- a draft has what statements give
pub record Has (draft : Draft) (statements : List Statement) : Type 0 where
  pub given : first_given given_sizes statements ≡ Some draft.sizes
  pub entries : (m : Matrix) → HasEntries (table_of draft m) m statements
  pub bounds : (axis : Axis) → HasBounds (bounds_of draft axis) axis statements

-- two drafts differ in one table alone
pub record SameButTable (m : Matrix) (old new : Draft) : Type 0 where
  pub sizes : new.sizes ≡ old.sizes
  pub tables : (n : Matrix) → same_matrix n m ≡ false → table_of new n ≡ table_of old n
  pub bounds : (axis : Axis) → bounds_of new axis ≡ bounds_of old axis

-- or in one list of bounds
pub record SameButBounds (axis : Axis) (old new : Draft) : Type 0 where
  pub sizes : new.sizes ≡ old.sizes
  pub tables : (n : Matrix) → table_of new n ≡ table_of old n
  pub bounds : (other : Axis) → same_axis other axis ≡ false → bounds_of new other ≡ bounds_of old other

-- a statement that says nothing
abbrev pub is_silent : Statement → Bool
is_silent Silent = true
is_silent _ = false

-- a draft is begun by a line of these words, after lines that say nothing
pub record Begins (words : List (List ℕ)) (draft : Draft) : Type 0 where
  pub passes : formed (sizes_of words) sizes_fault ≡ None
  pub sizes : sizes_of words ≡ Some draft.sizes
  pub has : (earlier : List Statement) → list_all is_silent earlier ≡ true → Has draft (earlier ++ Heading draft.sizes ∷ [])

-- the state of the reader: no draft before the sizes are given
abbrev pub HasRead : Option Draft → List Statement → Type 0
HasRead None statements = list_all is_silent statements ≡ true
HasRead (Some draft) statements = Has draft statements
