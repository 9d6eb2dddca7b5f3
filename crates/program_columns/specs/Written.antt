-- Programs by their columns, as they are written.
use Rattle.std.specs.Prelude.{ℕ, ◌≡◌, ⊤, List, [], ◌++◌, IsTrue, map, length}
use Rattle.std.specs.List.{list_all}
use Rattle.exact_field.specs.Rational.{ℚ}
use Rattle.polyhedra.specs.Negatives.{negated}
use Rattle.lin_rows.specs.Lines.{entries}
use Rattle.lin_rows.specs.declared.spots.Spot.{Spot}
use Rattle.vlp_problem.specs.declared.problem.Cone.{Cone}
use Rattle.vlp_problem.specs.declared.problem.Cone.TheVariants.{Orthant, Gens, Dual}
use Rattle.lp_form.specs.Shapes.{are_places}
use Rattle.lp_form.specs.declared.data.Data.{Data}
use Rattle.program_columns.specs.Entries.{across, benson_equations, given_equations, given_row, row_after_w, unit_entries, weight_row}
use Rattle.program_columns.specs.declared.columns.Columns.{Columns}

-- the columns of the two lists of w, and those after them
pub record AreOthers {F : Type 0} (value : F → ℚ) (form : Data F) (c : List F)
    (others : List (List (Spot F))) : Type 0 where
  pub numbers : (k : ℕ) → across value k others
      ≡ (weight_row value form c k ++ negated (weight_row value form c k))
      ++ row_after_w value form k
  pub places : IsTrue (list_all (are_places (benson_equations value form) 0) others)

-- the cone is not in dual form, so that the program of a weight says no more of it than its entries
abbrev pub IsDirect : Cone → Type 0
IsDirect Orthant = ⊤
IsDirect (Gens vectors) = ⊤
IsDirect (Dual vectors) = ⊥

-- the columns of the two lists of w in the program of a weight
pub record AreGiven {F : Type 0} (value : F → ℚ) (form : Data F)
    (others : List (List (Spot F))) : Type 0 where
  pub numbers : (k : ℕ) → across value k others
      ≡ given_row value form k ++ negated (given_row value form k)
  pub places : IsTrue (list_all (are_places (given_equations form) 0) others)

-- the program of these parts, with artificial columns
pub record IsAssembled {F : Type 0} (value : F → ℚ) (form : Data F)
    (others : List (List (Spot F))) (right cost : List F) (p : Columns F) : Type 0 where
  pub sides : p.sides.now ≡ form.sides
  pub others_are : p.others ≡ others
  pub right_is : p.right ≡ right
  pub cost_is : p.cost ≡ cost
  pub units : entries value p.units ≡ unit_entries 0 (map value right)
