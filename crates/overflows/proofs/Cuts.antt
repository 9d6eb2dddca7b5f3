-- The solutions of Benson's program do not depend on the start vector, and the cuts read off them
-- are finitely many: the measure of the engine's turns.
use Rattle.std.proofs.Common.{◌≡◌, ℕ, List, [], ◌∷◌, ◌++◌, length, All, Option, None, Some, refl, sym, ap, ◌∙◌, arith, ◌<◌, ◌+◌, Bool, true, false}
use Rattle.std.specs.Prelude.{if◌then◌else◌}
use Rattle.std.proofs.Math.ListN.{length-append, length-map}
use Rattle.exact_field.specs.Rational.{ℚ, zero_ℚ, neg_ℚ, ◌≤ℚ◌, ◌<ℚ◌}
use Rattle.exact_field.specs.Vector.{dot}
use Rattle.polyhedra.specs.Vectors.{zeros}
use Rattle.polyhedra.specs.Negatives.{negated}
use Rattle.polyhedra.proofs.Linear.{length-zeros}
use Rattle.polyhedra.proofs.Lists.{Contains-here}
use Rattle.tableaux.specs.Table.{System, IsSystem, unknown_count}
use Rattle.overflows.proofs.Solutions.{other_ok, cost_changes}
use Rattle.overflows.proofs.Candidates.{solution_at, bases_of, solution_listed}
use Rattle.tableaux.proofs.Remaining.{contains_append_left, contains_append_right}
use Rattle.overflows.proofs.Uses.{unused, unused-falls}
use Rattle.vlp_problem.specs.Sides.{sides, side_bounds}
use Rattle.vlp_problem.specs.declared.problem.Problem.{Problem}
use Rattle.lp_form.specs.Programs.{side_total, on_parts, dual_unknowns, benson_system}
use Rattle.overflows.specs.Base.{IsSolutionOff}
use Rattle.overflows.specs.Turns.{said_row}

pub length-on_parts : (a b c : ℕ) (u w after : List ℚ) → length u ≡ a → length w ≡ b → length after ≡ c → length (on_parts u w after) ≡ a + b + b + c
length-on_parts a b c u w after h k l =
    omega (arith, length-append u w, length-append (u ++ w) (negated w), length-append (u ++ w ++ negated w) after, length-map w neg_ℚ)

pub length-side_bounds : (file : Problem) → length (side_bounds file) ≡ side_total file
length-side_bounds file = length-map (sides file) (λ s. s.bound)

-- ---- the cost of Benson's program alone has the start vector
abbrev pub benson_cost : Problem → List ℚ → Bool → List ℚ
benson_cost file v t = on_parts (if t then side_bounds file else zeros (side_total file)) (negated v) (zeros (dual_unknowns file.objs file.cone))

-- the numbers of its unknowns
abbrev pub benson_unknowns : Problem → ℕ
benson_unknowns file = side_total file + file.objs + file.objs + dual_unknowns file.objs file.cone

pub length-bounds_if : (file : Problem) (t : Bool) → length (if t then side_bounds file else zeros (side_total file)) ≡ side_total file
length-bounds_if file true = length-side_bounds file
length-bounds_if file false = length-zeros (side_total file)

pub length-benson_cost : (file : Problem) (v : List ℚ) (t : Bool) → length v ≡ file.objs → length (benson_cost file v t) ≡ benson_unknowns file
length-benson_cost file v t e =
    length-on_parts (side_total file) file.objs (dual_unknowns file.objs file.cone) (if t then side_bounds file else zeros (side_total file)) (negated v)
    (zeros (dual_unknowns file.objs file.cone)) (length-bounds_if file t) (length-map v neg_ℚ ∙ e) (length-zeros (dual_unknowns file.objs file.cone))

-- the program whose start vector is 0, as a point
abbrev pub benson_base : Problem → List ℚ → System
benson_base file c = benson_system file c (zeros file.objs) true

module _ (file : Problem) (c v : List ℚ) (t : Bool) (ok : IsSystem (benson_system file c v t)) (long : length v ≡ file.objs) where
  costs_long : length (benson_cost file (zeros file.objs) true) ≡ unknown_count (benson_system file c v t)
  costs_long = length-benson_cost file (zeros file.objs) true (length-zeros file.objs) ∙ sym (length-benson_cost file v t long)

  pub base_ok : IsSystem (benson_base file c)
  base_ok = other_ok (benson_system file c v t) (benson_cost file (zeros file.objs) true) ok costs_long

  -- a solution that is read off it is read off this one
  pub solution_moves : (z : List ℚ) → IsSolutionOff (benson_system file c v t) z → IsSolutionOff (benson_base file c) z
  solution_moves z h =
      let moved = cost_changes (benson_system file c v t) (benson_cost file (zeros file.objs) true) ok costs_long h.basis h.dictionary h.full in
      record { basis = h.basis; dictionary = moved.0; full = moved.1; reads = h.reads ∙ sym moved.2 }

-- ---- the rows of cuts
abbrev row_if : Problem → Option (List ℚ) → Option (List ℚ)
row_if file None = None
row_if file (Some z) = Some (said_row file z)

-- the row at a list of columns, if there is one
abbrev pub cut_row_at : Problem → List ℚ → List ℕ → Option (List ℚ)
cut_row_at file c basis = row_if file (solution_at (benson_base file c) basis)

-- how many candidate cuts are not in use
abbrev pub cuts_left : Problem → List ℚ → List (List ℚ) → ℕ
cuts_left file c rows = unused (cut_row_at file c) (bases_of (benson_base file c)) rows

-- fewer are left after a cut that is violated where the cuts in use are not
pub cuts_left-falls : (file : Problem) (c v : List ℚ) (t : Bool) (z : List ℚ) (rows : List (List ℚ)) (g : List ℚ) →
    IsSystem (benson_system file c v t) → length v ≡ file.objs → IsSolutionOff (benson_system file c v t) z →
    All (λ a. zero_ℚ ≤ℚ dot a g) rows → dot (said_row file z) g <ℚ zero_ℚ → cuts_left file c (rows ++ said_row file z ∷ []) < cuts_left file c rows
cuts_left-falls file c v t z rows g ok long h holds below =
    let base = solution_moves file c v t ok long z h in
    let listed_there = solution_listed (benson_base file c) base.basis base.dictionary (base_ok file c v t ok long) base.full in
    unused-falls (cut_row_at file c) (bases_of (benson_base file c)) rows (rows ++ said_row file z ∷ []) listed_there.0 (said_row file z) g listed_there.1
    (ap (row_if file) listed_there.2 ∙ ap (λ x. Some (said_row file x)) (sym base.reads))
    (λ a h. contains_append_left rows (said_row file z ∷ []) a h)
    (contains_append_right rows (said_row file z ∷ []) (said_row file z) (Contains-here (said_row file z) [] (said_row file z) refl))
    holds below
