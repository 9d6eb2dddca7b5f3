-- The programs of a small file, equation by equation, and what is read off: each example would fail if a definition were wrong.
use Rattle.std.specs.Prelude.{◌≡◌, ℕ, ◌+◌, ◌-◌, ◌*◌, ◌==◌, if◌then◌else◌, ℤ, pos, negsuc, codes, Bool, true, false, IsTrue, List, [], ◌∷◌, map, Option, None, Some, refl}
use Rattle.std.proofs.Math.Dec.{lit≤, lit<}
use Rattle.exact_field.specs.Rational.{ℚ, whole, neg_ℚ}
use Rattle.tableaux.specs.Table.{System, Table}
use Rattle.vlp_problem.specs.Cones.{cone_fits, duality_fits}
use Rattle.vlp_problem.specs.declared.problem.Problem.{Problem}
use Rattle.vlp_problem.specs.declared.problem.Cell.{Cell}
use Rattle.vlp_problem.specs.declared.problem.Dir.{Dir}
use Rattle.vlp_problem.specs.declared.problem.Dir.TheVariants.{Min, Max}
use Rattle.vlp_problem.specs.declared.problem.Cone.{Cone}
use Rattle.vlp_problem.specs.declared.problem.Cone.TheVariants.{Orthant, Gens, Dual}
use Rattle.vlp_problem.specs.declared.problem.Bound.TheVariants.{Lower}
use Rattle.vlp_problem.specs.declared.program.Program.TheVariants.{Feasible, Benson, Weight, Interior, Pointed}
use Rattle.lp_form.specs.Programs.{named_system, u_of, w_of, v_of, choice_of, value_of, share_of, full_share_of}

-- ---- whole numbers as a file writes them
-- a whole number by its sign and its digits' value
abbrev pub signed : Bool → ℕ → ℚ
signed true n = neg_ℚ (whole (pos n))
signed false n = whole (pos n)

-- the numbers of a text with blanks between them, of which one may have begun
abbrev pub numbers_after : Option (Bool × ℕ) → List ℕ → List ℚ
numbers_after None [] = []
numbers_after (Some begun) [] = signed begun.0 begun.1 ∷ []
numbers_after None (c ∷ text) =
    if c == 32 then numbers_after None text else if c == 45 then numbers_after (Some (true, 0)) text else numbers_after (Some (false, c - 48)) text
numbers_after (Some begun) (c ∷ text) =
    if c == 32 then signed begun.0 begun.1 ∷ numbers_after None text else numbers_after (Some (begun.0, 10 * begun.1 + (c - 48))) text

-- the numbers of a text
-- the numbers that the words of a line write
abbrev pub numbers : List ℕ → List ℚ
numbers = numbers_after None

-- and those of several lines
abbrev pub rows : List (List ℕ) → Table
rows lines = map numbers lines

-- a system, each equation and list by a line
abbrev pub written : List (List ℕ) → List ℕ → List ℕ → System
written equations right cost = record { equations = rows equations; right = numbers right; cost = numbers cost }

-- ---- the file: 2 x_1 + x_2 and x_1 + 2 x_2 are at least 6, x_1 and x_2 at least 0; the objectives are x_1 - x_2 and x_1 + x_2
-- the entry at row i and column j
abbrev pub cell : ℕ → ℕ → ℤ → Cell
cell i j v = record { row = i; col = j; value = whole v }

-- the file with this direction, ordering cone and duality vector
abbrev pub file_with : Dir → (cone : Cone) → (duality : Option (List ℚ)) → IsTrue (cone_fits 2 cone) → IsTrue (duality_fits 2 duality) → Problem
unfolding whole
file_with dir cone duality vectors entries =
    record {
      dir = dir;
      rows = 2;
      cols = 2;
      objs = 2;
      a = cell 1 1 (pos 2) ∷ cell 1 2 (pos 1) ∷ cell 2 1 (pos 1) ∷ cell 2 2 (pos 2) ∷ [];
      o = cell 1 1 (pos 1) ∷ cell 1 2 (negsuc 0) ∷ cell 2 1 (pos 1) ∷ cell 2 2 (pos 1) ∷ [];
      row_bounds = Lower (whole (pos 6)) ∷ Lower (whole (pos 6)) ∷ [];
      col_bounds = Lower (whole (pos 0)) ∷ Lower (whole (pos 0)) ∷ [];
      cone = cone;
      duality = duality;
      rows_bounded = lit≤ tt;
      some_column = lit< tt;
      cols_bounded = lit≤ tt;
      some_objective = lit< tt;
      objs_bounded = lit≤ tt;
      a_cells = refl;
      o_cells = refl;
      row_count = refl;
      col_count = refl;
      cone_vectors = vectors;
      duality_entries = entries;
    }

-- three vectors, of which one is 0
abbrev pub three : List (List ℚ)
three = rows (codes "2 1" ∷ codes "0 3" ∷ codes "0 0" ∷ [])

-- with no cone, with the cone that they generate, which is to hold (4, 5) as duality vector or none, and with its dual form
abbrev pub plain : Problem
plain = file_with Min Orthant None refl refl

abbrev pub largest : Problem
largest = file_with Max (Gens three) None refl refl

abbrev pub given : Problem
given = file_with Min (Gens three) (Some (numbers (codes "4 5"))) refl refl

abbrev pub dual_form : Problem
dual_form = file_with Min (Dual three) (Some (numbers (codes "4 5"))) refl refl

-- a duality vector, a point and a weight
abbrev pub c : List ℚ
c = numbers (codes "3 1")

abbrev pub v : List ℚ
v = numbers (codes "4 5")

abbrev pub w : List ℚ
w = numbers (codes "7 9")

-- ---- the programs: u has four entries, w two and two, and the rest stands after them
-- the programs of the sides
pub record SideExamples : Type 0 where
  pub feasible : named_system plain [] Feasible ≡ written (codes "2 1 1 0" ∷ codes "1 2 0 1" ∷ []) (codes "0 0") (codes "6 6 0 0")
  pub benson : named_system plain c (Benson v true)
      ≡ written
      (codes "2 1 1 0  -1 -1 1 1  0 0"
      ∷ codes "1 2 0 1  1 -1 -1 1  0 0"
      ∷ codes "0 0 0 0  1 0 -1 0  -1 0"
      ∷ codes "0 0 0 0  0 1 0 -1  0 -1"
      ∷ codes "0 0 0 0  3 1 -3 -1  0 0"
      ∷ [])
      (codes "0 0 0 0 1") (codes "6 6 0 0  -4 -5 4 5  0 0")
  pub benson_generators : named_system largest c (Benson v false)
      ≡ written
      (codes "2 1 1 0  1 1 -1 -1  0 0 0"
      ∷ codes "1 2 0 1  -1 1 1 -1  0 0 0"
      ∷ codes "0 0 0 0  2 1 -2 -1  -1 0 0"
      ∷ codes "0 0 0 0  0 3 0 -3  0 -1 0"
      ∷ codes "0 0 0 0  0 0 0 0  0 0 -1"
      ∷ codes "0 0 0 0  3 1 -3 -1  0 0 0"
      ∷ [])
      (codes "0 0 0 0 0 1") (codes "0 0 0 0  -4 -5 4 5  0 0 0")
  pub benson_dual_form : named_system dual_form c (Benson v true)
      ≡ written
      (codes "2 1 1 0  -1 -1 1 1  0 0 0"
      ∷ codes "1 2 0 1  1 -1 -1 1  0 0 0"
      ∷ codes "0 0 0 0  1 0 -1 0  -2 0 0"
      ∷ codes "0 0 0 0  0 1 0 -1  -1 -3 0"
      ∷ codes "0 0 0 0  3 1 -3 -1  0 0 0"
      ∷ [])
      (codes "0 0 0 0 1") (codes "6 6 0 0  -4 -5 4 5  0 0 0")
  pub weight_generators : named_system given c (Weight w)
      ≡ written
      (codes "2 1 1 0  -1 -1 1 1" ∷ codes "1 2 0 1  1 -1 -1 1" ∷ codes "0 0 0 0  1 0 -1 0" ∷ codes "0 0 0 0  0 1 0 -1" ∷ [])
      (codes "0 0 7 9") (codes "6 6 0 0  0 0 0 0")
  pub weight_dual_form : named_system dual_form c (Weight w)
      ≡ written
      (codes "2 1 1 0  -1 -1 1 1  0 0 0"
      ∷ codes "1 2 0 1  1 -1 -1 1  0 0 0"
      ∷ codes "0 0 0 0  1 0 -1 0  0 0 0"
      ∷ codes "0 0 0 0  0 1 0 -1  0 0 0"
      ∷ codes "0 0 0 0  1 0 -1 0  -2 0 0"
      ∷ codes "0 0 0 0  0 1 0 -1  -1 -3 0"
      ∷ [])
      (codes "0 0 7 9 0 0") (codes "6 6 0 0  0 0 0 0  0 0 0")

-- three mu, three lam, e and k; in the dual form two c and two c, two lam, e and k
pub record ConeExamples : Type 0 where
  pub interior : named_system largest [] Interior
      ≡ written
      (codes "1 0 0  -1 0 0  -1 0"
      ∷ codes "0 1 0  0 -1 0  -1 0"
      ∷ codes "0 0 1  0 0 -1  -1 0"
      ∷ codes "1 3 0  0 0 0  0 0"
      ∷ codes "0 0 0  0 0 0  1 1"
      ∷ [])
      (codes "0 0 0 1 1") (codes "0 0 0  0 0 0  1 0")
  pub interior_given : named_system given [] Interior
      ≡ written
      (codes "1 0 0  -1 0 0  -1" ∷ codes "0 1 0  0 -1 0  -1" ∷ codes "0 0 1  0 0 -1  -1" ∷ codes "2 0 0  0 0 0  0" ∷ codes "1 3 0  0 0 0  0" ∷ [])
      (codes "0 0 0 4 5") (codes "0 0 0  0 0 0  1")
  pub interior_dual_form : named_system dual_form [] Interior
      ≡ written
      (codes "2 1 -2 -1  -1 0  -1 0" ∷ codes "0 3 0 -3  0 -1  -1 0" ∷ codes "0 1 0 -1  0 0  0 0" ∷ codes "0 0 0 0  0 0  1 1" ∷ [])
      (codes "0 0 1 1") (codes "0 0 0 0  0 0  1 0")
  pub pointed : named_system largest [] Pointed ≡ written (codes "2 0" ∷ codes "1 3" ∷ codes "1 1" ∷ []) (codes "0 0 1") (codes "0 0")
  pub pointed_dual_form : named_system dual_form [] Pointed ≡ written (codes "2 0" ∷ codes "1 3" ∷ codes "1 1" ∷ []) (codes "0 0 1") (codes "0 0")
  pub interior_orthant : named_system plain [] Interior ≡ written [] [] []
  pub pointed_orthant : named_system plain [] Pointed ≡ written [] [] []

-- ---- what is read off
-- a solution of Benson's program in the dual form, and multipliers of its equations for generators
abbrev pub z : List ℚ
z = numbers (codes "1 2 3 4  5 0 0 7  8 9 6")

-- multipliers: of the two columns, of the three vectors, and the last one
abbrev pub y : List ℚ
y = numbers (codes "10 20  3 4 5  -6")

-- what is read off these two
pub record ReadExamples : Type 0 where
  pub u : u_of dual_form z ≡ numbers (codes "1 2 3 4")
  pub w : w_of dual_form z ≡ numbers (codes "5 -7")
  pub v : v_of dual_form dual_form.cone z ≡ numbers (codes "8 9 6")
  pub v_generators : v_of given given.cone z ≡ []
  pub choice : choice_of given y ≡ numbers (codes "10 20")
  pub value : value_of y ∷ [] ≡ numbers (codes "-6")
  pub share : share_of given given.cone y ≡ numbers (codes "-3 -4 -5")
  pub full_share : full_share_of given given.cone (numbers (codes "1 2 0")) y ≡ numbers (codes "3 8 -5")

-- all of these
pub record Examples : Type 0 where
  pub of_sides : SideExamples
  pub of_cone : ConeExamples
  pub read_off : ReadExamples
