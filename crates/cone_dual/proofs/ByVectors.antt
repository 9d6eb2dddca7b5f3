-- The cone in a field by its vectors: its programs, their lengths, and what is read off them.
use Rattle.std.proofs.Common.{◌≡◌, ℕ, suc, List, [], ◌∷◌, ◌++◌, length, map, sym, ap, ap₂, ◌∙◌, ◌+◌, ◌≤◌, Option, None, Some}
use Rattle.std.proofs.Math.ListN.{length-append}
use Rattle.exact_field.specs.Rational.{ℚ, zero_ℚ, one_ℚ}
use Rattle.polyhedra.specs.Vectors.{AreWide, zeros}
use Rattle.tableaux.specs.Table.{Table, System, column_of, listed}
use Rattle.tableaux.specs.Simplex.{IsOptimal, IsInfeasible, OptimalAt, InfeasibleAt}
use Rattle.tableaux.proofs.Places.{length-list_from}
use Rattle.lin_rows.specs.Read.{numbers}
use Rattle.vlp_problem.specs.declared.problem.Problem.{Problem}
use Rattle.vlp_problem.specs.declared.problem.Cone.TheVariants as cone
use Rattle.vlp_problem.specs.Values.{cone_vectors}
use Rattle.lp_form.specs.declared.data.ConeOf.{ConeOf}
use Rattle.lp_form.specs.declared.data.ConeOf.TheVariants.{Gens, Dual}
use Rattle.lp_form.specs.declared.data.Data.{Data}
use Rattle.lp_form.specs.Data.{IsDataOf, cone_of, duality_of}
use Rattle.lp_form.specs.Programs.{generator_gaps, interior_of_dual, interior_of_generators, interior_system, nonzero_vectors, pointed_system, zero_combination}
use Rattle.lp_form.proofs.Shaped.{gens_wide, dual_wide, gens_few, dual_few}
use Rattle.lp_form.proofs.Systems.{length-zeros}
use Rattle.overflows.specs.Base.{AreFirstMultipliersOff, IsSolutionOff}

pub solution_off : (s : System) (basis : List ℕ) (x dual : List ℚ) → (d : Table) × OptimalAt s basis d x dual → IsSolutionOff s x
solution_off s basis x dual (d, h) = record { basis = basis; dictionary = d; full = h.feasible.full; reads = h.x_read }

pub first_off : (s : System) (basis : List ℕ) (y : List ℚ) → (d : Table) × InfeasibleAt s basis d y → AreFirstMultipliersOff s y
first_off s basis y (d, h) = record { basis = basis; dictionary = d; full = h.full; reads = h.farkas_read }

-- ---- lengths
module _ (q : ℕ) (vectors : List (List ℚ)) (f : List ℚ) where
  abbrev n : ℕ
  n = length vectors

  pub given_unknowns : (x dual : List ℚ) → IsOptimal (interior_of_generators q vectors (Some f)) x dual → length x ≡ n + n + 1
  given_unknowns x dual h = h.wide ∙ length-append (zeros (n + n)) (one_ℚ ∷ []) ∙ ap (λ (k : ℕ). k + 1) (length-zeros (n + n))

  equations : length (interior_of_generators q vectors (Some f)).equations ≡ n + q
  equations =
      length-append (generator_gaps n 0) (listed q (λ i. column_of vectors i ++ zeros (suc n)))
      ∙ ap₂ (λ (a b : ℕ). a + b) (length-list_from 1 n _) (length-list_from 1 q _)

  pub given_multipliers : (x dual : List ℚ) → IsOptimal (interior_of_generators q vectors (Some f)) x dual → length dual ≡ n + q
  given_multipliers x dual h = h.one_each ∙ equations

  pub given_farkas : (y : List ℚ) → IsInfeasible (interior_of_generators q vectors (Some f)) y → length y ≡ n + q
  given_farkas y h = h.one_each ∙ equations

pub found_unknowns : (q : ℕ) (vectors : List (List ℚ)) (x dual : List ℚ) → IsOptimal (interior_of_generators q vectors None) x dual →
    length x ≡ length vectors + length vectors + 2
found_unknowns q vectors x dual h =
    h.wide ∙ length-append (zeros (length vectors + length vectors)) (one_ℚ ∷ zero_ℚ ∷ []) ∙ ap (λ (k : ℕ). k + 2) (length-zeros (length vectors + length vectors))

-- ---- by its vectors
module _ {F : Type 0} (value : F → ℚ) (form : Data F) (vectors : List (List F)) where
  module _ (gens : form.cone ≡ Gens vectors) where
    pub wide : AreWide (length form.p) (numbers value vectors)
    wide = gens_wide value (length form.p) form.cone vectors gens form.cone_vectors

    pub few : length vectors ≤ 100000
    few = gens_few value (length form.p) form.cone vectors gens form.cone_vectors

    pub pointed_is : pointed_system (length form.p) (cone_of value form.cone) ≡ zero_combination (length form.p) (nonzero_vectors (cone.Gens (numbers value vectors)))
    pointed_is = ap (λ (k : ConeOf F). pointed_system (length form.p) (cone_of value k)) gens

    pub given_is : (f : List F) → form.duality ≡ Some f →
        interior_system (length form.p) (cone_of value form.cone) (duality_of value form.duality) ≡ interior_of_generators (length form.p) (numbers value vectors) (Some (map value f))
    given_is f e = ap₂ (λ (k : ConeOf F) (d : Option (List F)). interior_system (length form.p) (cone_of value k) (duality_of value d)) gens e

    pub found_is : form.duality ≡ None →
        interior_system (length form.p) (cone_of value form.cone) (duality_of value form.duality) ≡ interior_of_generators (length form.p) (numbers value vectors) None
    found_is e = ap₂ (λ (k : ConeOf F) (d : Option (List F)). interior_system (length form.p) (cone_of value k) (duality_of value d)) gens e

    pub cone_at : (file : Problem) → IsDataOf value file form → file.cone ≡ cone.Gens (numbers value vectors)
    cone_at file stands = sym stands.cone ∙ ap (cone_of value) gens

    pub vectors_at : (file : Problem) → IsDataOf value file form → cone_vectors file.cone ≡ numbers value vectors
    vectors_at file stands = ap cone_vectors (cone_at file stands)

  module _ (rows : form.cone ≡ Dual vectors) where
    pub rows_wide : AreWide (length form.p) (numbers value vectors)
    rows_wide = dual_wide value (length form.p) form.cone vectors rows form.cone_vectors

    pub rows_few : length vectors ≤ 100000
    rows_few = dual_few value (length form.p) form.cone vectors rows form.cone_vectors

    pub rows_pointed_is : pointed_system (length form.p) (cone_of value form.cone) ≡ zero_combination (length form.p) (nonzero_vectors (cone.Gens (numbers value vectors)))
    rows_pointed_is = ap (λ (k : ConeOf F). pointed_system (length form.p) (cone_of value k)) rows

    pub rows_found_is : interior_system (length form.p) (cone_of value form.cone) (duality_of value form.duality)
        ≡ interior_of_dual (length form.p) (nonzero_vectors (cone.Dual (numbers value vectors)))
    rows_found_is = ap (λ (k : ConeOf F). interior_system (length form.p) (cone_of value k) (duality_of value form.duality)) rows

    pub rows_cone_at : (file : Problem) → IsDataOf value file form → file.cone ≡ cone.Dual (numbers value vectors)
    rows_cone_at file stands = sym stands.cone ∙ ap (cone_of value) rows

    pub rows_vectors_at : (file : Problem) → IsDataOf value file form → cone_vectors file.cone ≡ numbers value vectors
    rows_vectors_at file stands = ap cone_vectors (rows_cone_at file stands)
