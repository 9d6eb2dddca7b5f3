-- Small examples, each of which would fail if a definition were wrong.
use Rattle.std.specs.Prelude.{ℕ, pos, negsuc, [], ◌∷◌, ◌≡◌, true}
use Rattle.polyhedra.specs.Examples.{wholes}
use Rattle.tableaux.specs.Table.{Table, System, table_of, pivoted}
use Rattle.tableaux.specs.Lex.{lex_less}
use Rattle.tableaux.specs.Dictionary.{solution, ray, multipliers, first_multipliers}

-- the greatest z_1 with z_1 + z_2 + z_3 = 2
abbrev pub one_row : System
one_row = record { equations = wholes (pos 1 ∷ pos 1 ∷ pos 1 ∷ []) ∷ []; right = wholes (pos 2 ∷ []); cost = wholes (pos 1 ∷ pos 0 ∷ pos 0 ∷ []) }

-- z_1 = -1
abbrev pub no_solution : System
no_solution = record { equations = wholes (pos 1 ∷ []) ∷ []; right = wholes (negsuc 0 ∷ []); cost = wholes (pos 0 ∷ []) }

-- the greatest z_1 with z_1 = z_2
abbrev pub no_end : System
no_end = record { equations = wholes (pos 1 ∷ negsuc 0 ∷ []) ∷ []; right = wholes (pos 0 ∷ []); cost = wholes (pos 1 ∷ pos 0 ∷ []) }

-- the dictionary after the opening pivot, and after the first unknown came in
abbrev pub opened : System → ℕ → Table
opened s artificial = pivoted (table_of s) 1 artificial

abbrev pub entered : System → ℕ → Table
entered s artificial = pivoted (opened s artificial) 1 1

-- the greatest z_1 with z_1 + z_2 + z_3 = 2 is 2; z_1 = -1 has no solution; z_1 grows without end where z_1 = z_2
pub record SimplexExamples : Type 0 where
  pub table : table_of one_row ≡ wholes (pos 1 ∷ pos 1 ∷ pos 1 ∷ pos 1 ∷ pos 2 ∷ []) ∷ wholes (pos 0 ∷ pos 0 ∷ pos 0 ∷ pos 1 ∷ pos 0 ∷ [])
      ∷ wholes (negsuc 0 ∷ pos 0 ∷ pos 0 ∷ pos 0 ∷ pos 0 ∷ []) ∷ []
  pub phase_one : opened one_row 4 ≡ wholes (pos 1 ∷ pos 1 ∷ pos 1 ∷ pos 1 ∷ pos 2 ∷ []) ∷ wholes (negsuc 0 ∷ negsuc 0 ∷ negsuc 0 ∷ pos 0 ∷ negsuc 1 ∷ [])
      ∷ wholes (negsuc 0 ∷ pos 0 ∷ pos 0 ∷ pos 0 ∷ pos 0 ∷ []) ∷ []
  pub best : entered one_row 4 ≡ wholes (pos 1 ∷ pos 1 ∷ pos 1 ∷ pos 1 ∷ pos 2 ∷ []) ∷ wholes (pos 0 ∷ pos 0 ∷ pos 0 ∷ pos 1 ∷ pos 0 ∷ [])
      ∷ wholes (pos 0 ∷ pos 1 ∷ pos 1 ∷ pos 1 ∷ pos 2 ∷ []) ∷ []
  pub x : solution one_row (1 ∷ []) (entered one_row 4) ≡ wholes (pos 2 ∷ pos 0 ∷ pos 0 ∷ [])
  pub dual : multipliers one_row (entered one_row 4) ≡ wholes (pos 1 ∷ [])
  pub farkas : first_multipliers no_solution (opened no_solution 2) ≡ wholes (pos 1 ∷ [])
  pub along : ray no_end (1 ∷ []) (entered no_end 3) 2 ≡ wholes (pos 1 ∷ pos 1 ∷ [])
  pub order : lex_less (wholes (pos 0 ∷ pos 0 ∷ pos 2 ∷ [])) (wholes (pos 0 ∷ pos 1 ∷ negsuc 6 ∷ [])) ≡ true
