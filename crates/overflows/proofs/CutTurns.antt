-- A turn of the engine over Benson's program: a cut that is read off and is violated where all cuts
-- in use hold is new, so fewer are left. Where the last multiplier of the optimal end is positive,
-- the cut is violated at the start vector.
use Rattle.std.proofs.Common.{◌≡◌, ℕ, zero, suc, List, [], ◌∷◌, ◌++◌, length, drop, All, refl, sym, ap, ap₂, ◌∙◌, subst, arith, ◌+◌, Bool, true, slice_index_or}
use Rattle.std.specs.Prelude.{if◌then◌else◌}
use Rattle.std.proofs.Math.ListN.{length-append}
use Rattle.exact_field.specs.Rational.{ℚ, zero_ℚ, one_ℚ, ◌+ℚ◌, ◌*ℚ◌, ◌≤ℚ◌, ◌<ℚ◌}
use Rattle.exact_field.specs.Vector.{dot}
use Rattle.polyhedra.specs.Vectors.{zeros}
use Rattle.polyhedra.specs.Exactness.{homogenised, row_of as row_of_cut}
use Rattle.polyhedra.proofs.Laws.{add_zero}
use Rattle.polyhedra.proofs.Algebra.{zero_add, one_mul}
use Rattle.polyhedra.proofs.Linear.{dot_comm, dot-zeros, length-zeros}
use Rattle.tableaux.specs.Table.{Table, IsSystem}
use Rattle.tableaux.specs.Simplex.{IsOptimal, OptimalAt}
use Rattle.vlp_problem.specs.declared.problem.Problem.{Problem}
use Rattle.vlp_problem.specs.Sides.{side_bounds}
use Rattle.frac128.specs.declared.vectors.Spot.{Spot}
use Rattle.upper_image.specs.Spots.{dense}
use Rattle.lp_form.specs.Programs.{side_total, dual_equations, benson_system, value_of, u_of, w_of}
use Rattle.overflows.specs.Base.{IsBaseCut, IsSolutionOff}
use Rattle.overflows.specs.Turns.{said_row, IsCutTurn, CutTurnsEnd, CutsAreBase}
use Rattle.overflows.proofs.Cuts.{benson_cost, length-benson_cost, solution_moves, cuts_left, cuts_left-falls}
use Rattle.lp_form.proofs.Systems.{benson_ok}
use Rattle.overflows.proofs.Violated.{dot-append, said_violated}

one_there : (k : ℕ) (y : List ℚ) → dot (one_ℚ ∷ []) (drop k y) ≡ slice_index_or y k zero_ℚ
one_there zero [] = refl
one_there (suc k) [] = refl
one_there zero (x ∷ y) = add_zero (one_ℚ *ℚ x) ∙ one_mul x
one_there (suc k) (x ∷ y) = one_there k y

-- the product with 0, .., 0, 1 is the last entry
pub last_value : (k : ℕ) (y : List ℚ) → length y ≡ suc k → dot y (zeros k ++ one_ℚ ∷ []) ≡ value_of y
last_value k y e =
    dot_comm y (zeros k ++ one_ℚ ∷ []) ∙ dot-append (zeros k) (one_ℚ ∷ []) y
    ∙ ap₂ (λ a b. a +ℚ b) (dot_comm (zeros k) y ∙ dot-zeros y k) (ap (λ n. dot (one_ℚ ∷ []) (drop n y)) (length-zeros k) ∙ one_there k y)
    ∙ zero_add (slice_index_or y k zero_ℚ) ∙ ap (λ n. slice_index_or y n zero_ℚ) (omega (arith, e))

module _ (file : Problem) (c v : List ℚ) (t : Bool) (z y : List ℚ) where
  -- the optimal value is the last multiplier
  pub optimal_value : IsSystem (benson_system file c v t) → IsOptimal (benson_system file c v t) z y → dot (benson_cost file v t) z ≡ value_of y
  optimal_value ok h =
      let k : ℕ = file.cols + dual_equations file.objs file.cone in
      h.equal ∙ last_value k y (omega (arith, h.one_each, ok.right_each, length-append (zeros k) (one_ℚ ∷ []), length-zeros k))

  -- it is read off at the origin too
  pub read_at_origin : (basis : List ℕ) (d : Table) → length c ≡ file.objs → length v ≡ file.objs → OptimalAt (benson_system file c v t) basis d z y →
      IsSolutionOff (benson_system file c (zeros file.objs) true) z
  read_at_origin basis d c_long v_long read =
      solution_moves file c v t (benson_ok file c v t c_long v_long) v_long z
      (record { basis = basis; dictionary = d; full = read.feasible.full; reads = read.x_read })

  pub optimum_turns : (basis : List ℕ) (d : Table) (rows : List (List ℚ)) → length c ≡ file.objs → length v ≡ file.objs →
      IsOptimal (benson_system file c v t) z y → OptimalAt (benson_system file c v t) basis d z y → zero_ℚ <ℚ value_of y →
      All (λ a. zero_ℚ ≤ℚ dot a (homogenised v (if t then one_ℚ else zero_ℚ))) rows → IsCutTurn file c rows z
  optimum_turns basis d rows c_long v_long optimal read above holds = record {
    c_wide = c_long;
    solution = read_at_origin basis d c_long v_long read;
    point = homogenised v (if t then one_ℚ else zero_ℚ);
    holds = holds;
    violated = said_violated file v t z v_long (optimal.wide ∙ length-benson_cost file v t v_long)
        (subst (λ (x : ℚ). zero_ℚ <ℚ x) (sym (optimal_value (benson_ok file c v t c_long v_long) optimal)) above);
  }

-- the row of a cut whose parts are those of z
pub row_pushed : (file : Problem) (z w : List ℚ) (gamma : ℚ) (u : List Spot) → w ≡ w_of file z → dense (side_total file) u ≡ u_of file z →
    gamma ≡ dot (side_bounds file) (dense (side_total file) u) → row_of_cut (record { normal = w; bound = gamma }) ≡ said_row file z
row_pushed file z w gamma u h k e =
    ap₂ (λ n b. row_of_cut (record { normal = n; bound = b })) h (e ∙ ap (λ d. dot (side_bounds file) d) k)

pub cut_turns_end : CutTurnsEnd
cut_turns_end file c = (
  cuts_left file c,
  λ rows z h.
      let origin = zeros file.objs in
      let wide = length-zeros file.objs in
      cuts_left-falls file c origin true z rows h.point (benson_ok file c origin true h.c_wide wide) wide h.solution h.holds h.violated,
)

pub cuts_are_base : CutsAreBase
cuts_are_base file c v t z y basis d u m c_long v_long optimal read parts =
    IsBaseCut.of_benson z (read_at_origin file c v t z y basis d c_long v_long read, optimal.solves)
    refl parts
