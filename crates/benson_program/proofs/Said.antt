-- What is read off the end of a linear program.
use Rattle.std.proofs.Common.{◌≡◌, ℕ, List, map, length, sym, ◌∙◌, subst, arith, take_all, inl}
use Rattle.exact_field.specs.Rational.{ℚ}
use Rattle.tableaux.specs.Table.{System}
use Rattle.tableaux.specs.Simplex.{IsUnbounded}
use Rattle.tableaux.proofs.Places.{length-list_from}
use Rattle.exact_simplex.specs.Ends.{IsCertified, IsReadOff}
use Rattle.exact_simplex.specs.declared.answer.LpEnd.{LpEnd}
use Rattle.exact_simplex.specs.declared.answer.LpEnd.TheVariants.{Optimal, Infeasible, Unbounded}
use Rattle.vlp_problem.specs.Sides.{side_column, IsFeasible}
use Rattle.vlp_problem.specs.declared.problem.Problem.{Problem}
use Rattle.lp_form.specs.Programs.{feasible_system, choice_of}
use Rattle.lp_form.proofs.Systems.{length-side_bounds}
use Rattle.overflows.specs.Base.{IsRayOff, IsBaseChoice}
use Rattle.benson_program.proofs.Feasible.{feasible_ends}
use Rattle.benson_program.specs.Ends.{IsContradiction, IsOptimumAt, IsEmptyAt}

-- ---- ends
module _ {F : Type 0} (value : F → ℚ) (s t : System) (same : s ≡ t) (end : LpEnd F) where
  pub optimum : (x dual : List F) (basis : List ℕ) → end ≡ Optimal x dual basis → IsCertified value s end → IsReadOff value s end →
      IsOptimumAt t basis (map value x) (map value dual)
  optimum x dual basis e h r =
      let certified = subst (λ (a : System). IsCertified value a (Optimal x dual basis)) same (subst (λ (n : LpEnd F). IsCertified value s n) e h) in
      let read = subst (λ (a : System). IsReadOff value a (Optimal x dual basis)) same (subst (λ (n : LpEnd F). IsReadOff value s n) e r) in
      record { optimal = certified; dictionary = read.0; read = read.1 }

  pub empty : (farkas : List F) (basis : List ℕ) → end ≡ Infeasible farkas basis → IsCertified value s end → IsReadOff value s end →
      IsEmptyAt t basis (map value farkas)
  empty farkas basis e h r =
      let certified = subst (λ (a : System). IsCertified value a (Infeasible farkas basis)) same (subst (λ (n : LpEnd F). IsCertified value s n) e h) in
      let read = subst (λ (a : System). IsReadOff value a (Infeasible farkas basis)) same (subst (λ (n : LpEnd F). IsReadOff value s n) e r) in
      record { infeasible = certified; dictionary = read.0; read = read.1 }

  pub unbounded : (x ray : List F) (basis : List ℕ) → end ≡ Unbounded x ray basis → IsCertified value s end → IsUnbounded t (map value x) (map value ray)
  unbounded x ray basis e h =
      subst (λ (a : System). IsCertified value a (Unbounded x ray basis)) same (subst (λ (n : LpEnd F). IsCertified value s n) e h)

  pub ray_off : (x ray : List F) (basis : List ℕ) → end ≡ Unbounded x ray basis → IsReadOff value s end → IsRayOff t (map value ray)
  ray_off x ray basis e r =
      let read = subst (λ (a : System). IsReadOff value a (Unbounded x ray basis)) same (subst (λ (n : LpEnd F). IsReadOff value s n) e r) in
      record { basis = basis; dictionary = read.0; full = read.2.feasible.full; reads = (read.1, read.2.from_one, read.2.unknown, read.2.along_read) }

-- ---- `Feasible`
pub contradiction : (file : Problem) (x r : List ℚ) → IsUnbounded (feasible_system file) x r → IsRayOff (feasible_system file) r → IsContradiction file r
contradiction file x r h off = record {
  wide = h.ray_wide ∙ length-side_bounds file;
  read = off;
  meets = λ v sparse same. feasible_ends.farkas file x r v h sparse same;
  shows = λ v sparse same. feasible_ends.unbounded file x r v h sparse same;
}

pub chosen : (file : Problem) (basis : List ℕ) (z y : List ℚ) → IsOptimumAt (feasible_system file) basis z y → IsBaseChoice file y
chosen file basis z y h =
    let long : length y ≡ file.cols = h.optimal.one_each ∙ length-list_from 1 file.cols (side_column file) in
    let whole : choice_of file y ≡ y = take_all file.cols y (omega (arith, long)) in
    record {
      feasible = subst (IsFeasible file) whole (feasible_ends.optimal file z y h.optimal);
      read = inl (y, record { basis = basis; dictionary = h.dictionary; full = h.read.feasible.full; reads = h.read.dual_read }, sym whole);
    }
