-- Columns of a program, by their entries that are not 0.
use Rattle.std.specs.Prelude.{ℕ, List, [], ◌∷◌, ◌++◌, map}
use Rattle.exact_field.specs.Rational.{ℚ}
use Rattle.tableaux.specs.Table.{listed}
use Rattle.lin_rows.specs.Lines.{entries, sum_at}
use Rattle.lin_rows.specs.declared.spots.Spot.{Spot}
use Rattle.lp_form.specs.declared.data.SideOf.{SideOf}

-- the vectors of the sides, the other columns, and the artificial ones
abbrev pub all_columns : {F : Type 0} → List (SideOf F) → List (List (Spot F)) → List (Spot F) →
    List (List (Spot F))
all_columns sides others units = (map (λ s. s.g) sides ++ others) ++ map (λ u. u ∷ []) units

-- the column of n entries that spots stand for
abbrev pub filled : {F : Type 0} → (F → ℚ) → ℕ → List (Spot F) → List ℚ
filled value n spots = listed n (sum_at (entries value spots))
