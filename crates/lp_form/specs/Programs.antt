-- The named programs of a file, each as a linear program in equations. Their unknowns are multipliers u of the sides, a weight vector
-- w as the difference of two lists of unknowns, and what the ordering cone asks for after them.
use Rattle.std.specs.Prelude.{ℕ, suc, ◌+◌, Bool, not, List, [], ◌∷◌, ◌++◌, length, replicate, take, drop, filter, Option, None, Some, if◌then◌else◌}
use Rattle.std.specs.List.{list_all}
use Rattle.exact_field.specs.Rational.{ℚ, zero_ℚ, one_ℚ, neg_ℚ, lt_ℚ}
use Rattle.exact_field.specs.Vector.{entry}
use Rattle.polyhedra.specs.Negatives.{negated}
use Rattle.polyhedra.specs.Vectors.{zeros, plus, scaled}
use Rattle.tableaux.specs.Table.{System, Table, row_of, column_of, listed, unit, minus}
use Rattle.frac128.specs.Sparse.{is_zero}
use Rattle.vlp_problem.specs.Sides.{sides, side_column, side_bounds}
use Rattle.vlp_problem.specs.declared.problem.Problem.{Problem}
use Rattle.vlp_problem.specs.declared.problem.Cone.{Cone}
use Rattle.vlp_problem.specs.declared.problem.Cone.TheVariants.{Orthant, Gens, Dual}
use Rattle.vlp_problem.specs.Values.{cone_vectors}
use Rattle.upper_image.specs.UpperImage.{objective_column}
use Rattle.vlp_problem.specs.declared.program.Program.{Program}
use Rattle.vlp_problem.specs.declared.program.Program.TheVariants.{Feasible, Benson, Weight, Interior, Pointed}

-- ---- what a file gives
-- the number of the sides
abbrev pub side_total : Problem → ℕ
side_total file = length (sides file)

-- the generators of the cone: none where it is given otherwise
abbrev pub generators : Cone → List (List ℚ)
generators Orthant = []
generators (Gens vectors) = vectors
generators (Dual vectors) = []

-- the vectors by which the cone is given, without those that are 0
abbrev pub nonzero_vectors : Cone → List (List ℚ)
nonzero_vectors cone = filter (λ v. not (list_all is_zero v)) (cone_vectors cone)

-- ---- equations on u, w and the unknowns after them
-- an equation by its coefficients on the three; those on w stand twice, as w is a difference
abbrev pub on_parts : List ℚ → List ℚ → List ℚ → List ℚ
on_parts u w after = u ++ w ++ negated w ++ after

-- for each column of the file: the sides times u, less the objectives times w, is 0 there
abbrev pub balances : Problem → ℕ → Table
balances file more = listed file.cols (λ j. on_parts (side_column file j) (negated (objective_column file j)) (zeros more))

-- that w is in the dual cone, with m sides and q objectives: its entries, or its products with the generators, are the unknowns
-- after it; or the vectors of the dual form, times these, sum to it
abbrev pub dual_members : (m q : ℕ) → Cone → Table
dual_members m q Orthant = listed q (λ i. on_parts (zeros m) (unit q i) (negated (unit q i)))
dual_members m q (Gens vectors) = listed (length vectors) (λ g. on_parts (zeros m) (row_of vectors g) (negated (unit (length vectors) g)))
dual_members m q (Dual vectors) = listed q (λ i. on_parts (zeros m) (unit q i) (negated (column_of vectors i)))

-- how many unknowns these equations have after u and w
abbrev pub dual_unknowns : ℕ → Cone → ℕ
dual_unknowns q Orthant = q
dual_unknowns q (Gens vectors) = length vectors
dual_unknowns q (Dual vectors) = length vectors

-- and how many equations they are
abbrev pub dual_equations : ℕ → Cone → ℕ
dual_equations q Orthant = q
dual_equations q (Gens vectors) = length vectors
dual_equations q (Dual vectors) = q

-- the same where w is fixed: of the three only the vectors of the dual form have to be combined to w
abbrev pub weight_members : (m q : ℕ) → Cone → Table
weight_members m q Orthant = []
weight_members m q (Gens vectors) = []
weight_members m q (Dual vectors) = dual_members m q (Dual vectors)

-- how many unknowns they have after u and w,
abbrev pub weight_unknowns : Cone → ℕ
weight_unknowns Orthant = 0
weight_unknowns (Gens vectors) = 0
weight_unknowns (Dual vectors) = length vectors

-- and how many equations they are
abbrev pub weight_equations : ℕ → Cone → ℕ
weight_equations q Orthant = 0
weight_equations q (Gens vectors) = 0
weight_equations q (Dual vectors) = q

-- ---- the programs of the sides
-- whether the sides contradict each other: the greatest bounds . u over the u of at least 0 with which the sides sum to 0
abbrev pub feasible_system : Problem → System
feasible_system file = record { equations = listed file.cols (side_column file); right = zeros file.cols; cost = side_bounds file }

-- Benson's program at v: the greatest bounds . u - v . w, or - v . w where v is a direction, over u of at least 0 and w of the dual
-- cone with w . c = 1, which balance
abbrev pub benson_system : Problem → List ℚ → List ℚ → Bool → System
benson_system file c v t =
    let m = side_total file in
    let more = dual_unknowns file.objs file.cone in
    record {
      equations = balances file more ++ dual_members m file.objs file.cone ++ on_parts (zeros m) c (zeros more) ∷ [];
      right = zeros (file.cols + dual_equations file.objs file.cone) ++ one_ℚ ∷ [];
      cost = on_parts (if t then side_bounds file else zeros m) (negated v) (zeros more);
    }

-- the best bound of a weight: the greatest bounds . u over the u of at least 0 that balance it; in the dual form the program says
-- also that it is in the dual cone
abbrev pub weight_system : Problem → List ℚ → System
weight_system file w =
    let m = side_total file in
    let more = weight_unknowns file.cone in
    record {
      equations = balances file more ++ listed file.objs (λ i. on_parts (zeros m) (unit file.objs i) (zeros more)) ++ weight_members m file.objs file.cone;
      right = zeros file.cols ++ w ++ zeros (weight_equations file.objs file.cone);
      cost = on_parts (side_bounds file) (zeros file.objs) (zeros more);
    }

-- ---- the programs of the cone
-- no unknown and no equation
abbrev pub empty_system : System
empty_system = record { equations = []; right = []; cost = [] }

-- for n generators, of unknowns mu, lam and e in this order: each mu, less its lam, is e
abbrev pub generator_gaps : (n more : ℕ) → Table
generator_gaps n more = listed n (λ g. unit n g ++ negated (unit n g) ++ neg_ℚ one_ℚ ∷ zeros more)

-- an interior vector as a combination of generators with multipliers mu of at least e, which is made the greatest: the combination
-- is f where the file gives it; where not, its last entry is 1, and e is at most 1 by e + k = 1
abbrev pub interior_of_generators : ℕ → List (List ℚ) → Option (List ℚ) → System
interior_of_generators q vectors (Some f) =
    let n = length vectors in
    record {
      equations = generator_gaps n 0 ++ listed q (λ i. column_of vectors i ++ zeros (suc n));
      right = zeros n ++ f;
      cost = zeros (n + n) ++ one_ℚ ∷ [];
    }
interior_of_generators q vectors None =
    let n = length vectors in
    record {
      equations = generator_gaps n 1 ++ (column_of vectors q ++ zeros (n + 2)) ∷ (zeros (n + n) ++ one_ℚ ∷ one_ℚ ∷ []) ∷ [];
      right = zeros n ++ one_ℚ ∷ one_ℚ ∷ [];
      cost = zeros (n + n) ++ one_ℚ ∷ zero_ℚ ∷ [];
    }

-- for vectors of the dual form, of unknowns c (as a difference of two lists), lam, e and k in this order: the product of each with c,
-- less its lam, is e
abbrev pub dual_gaps : List (List ℚ) → Table
dual_gaps vectors =
    let n = length vectors in
    listed n (λ d. row_of vectors d ++ negated (row_of vectors d) ++ negated (unit n d) ++ neg_ℚ one_ℚ ∷ zero_ℚ ∷ [])

-- an interior vector c with last entry 1, whose products with the vectors are at least e, which is made the greatest; e + k = 1
abbrev pub interior_of_dual : ℕ → List (List ℚ) → System
interior_of_dual q vectors =
    let n = length vectors in
    record {
      equations = dual_gaps vectors ++ (unit q q ++ negated (unit q q) ++ zeros (n + 2)) ∷ (zeros (q + q + n) ++ one_ℚ ∷ one_ℚ ∷ []) ∷ [];
      right = zeros n ++ one_ℚ ∷ one_ℚ ∷ [];
      cost = zeros (q + q + n) ++ one_ℚ ∷ zero_ℚ ∷ [];
    }

-- an interior vector of the cone in q dimensions: the file's, or one with last entry 1; of the dual form the vectors that are 0 do
-- not count, and the file's vector is not used
abbrev pub interior_system : ℕ → Cone → Option (List ℚ) → System
interior_system q Orthant duality = empty_system
interior_system q (Gens vectors) duality = interior_of_generators q vectors duality
interior_system q (Dual vectors) duality = interior_of_dual q (nonzero_vectors (Dual vectors))

-- multipliers of vectors that sum to 1 and combine them to 0
abbrev pub zero_combination : ℕ → List (List ℚ) → System
zero_combination q vectors =
    record {
      equations = listed q (column_of vectors) ++ replicate (length vectors) one_ℚ ∷ [];
      right = zeros q ++ one_ℚ ∷ [];
      cost = zeros (length vectors);
    }

-- those of the cone's vectors that are not 0: a line in the cone, or in the dual cone where the vectors are those of the dual form
abbrev pub pointed_system : ℕ → Cone → System
pointed_system q Orthant = empty_system
pointed_system q (Gens vectors) = zero_combination q (nonzero_vectors (Gens vectors))
pointed_system q (Dual vectors) = zero_combination q (nonzero_vectors (Dual vectors))

-- ---- by its name
-- the system of a named program; c is the duality vector, which only Benson's program uses
abbrev pub named_system : Problem → List ℚ → Program → System
named_system file c Feasible = feasible_system file
named_system file c (Benson v t) = benson_system file c v t
named_system file c (Weight w) = weight_system file w
named_system file c Interior = interior_system file.objs file.cone file.duality
named_system file c Pointed = pointed_system file.objs file.cone

-- ---- what is read off
-- the parts of a solution z of Benson's program or of that of a weight: u, w as the difference of its two lists, and what stands after them
abbrev pub u_of : Problem → List ℚ → List ℚ
u_of file z = take (side_total file) z

abbrev pub w_of : Problem → List ℚ → List ℚ
w_of file z = minus (take file.objs (drop (side_total file) z)) (take file.objs (drop (side_total file + file.objs) z))

abbrev pub after_w_of : Problem → List ℚ → List ℚ
after_w_of file z = drop (side_total file + file.objs + file.objs) z

-- the multipliers of the dual form's vectors, which stand after w; none for the other cones
abbrev pub v_of : Problem → Cone → List ℚ → List ℚ
v_of file Orthant z = []
v_of file (Gens vectors) z = []
v_of file (Dual vectors) z = after_w_of file z

-- the point that multipliers y of the equations say in the programs of the sides: those of the columns of the file
abbrev pub choice_of : Problem → List ℚ → List ℚ
choice_of file y = take file.cols y

-- the multiplier of the last equation of Benson's program
abbrev pub value_of : List ℚ → ℚ
value_of y = entry y (length y)

-- the multipliers of the generators beside a choice in Benson's program: the negated ones of their equations
abbrev pub share_of : Problem → Cone → List ℚ → List ℚ
share_of file Orthant y = []
share_of file (Gens vectors) y = negated (take (length vectors) (drop file.cols y))
share_of file (Dual vectors) y = []

-- the same with c's share, by the weights that combine the generators to c: where the value is negative, its magnitude times them
-- is added
abbrev pub full_share_of : Problem → Cone → List ℚ → List ℚ → List ℚ
full_share_of file cone weights y =
    if lt_ℚ (value_of y) zero_ℚ then plus (share_of file cone y) (scaled (neg_ℚ (value_of y)) weights) else share_of file cone y
