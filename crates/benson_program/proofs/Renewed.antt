-- Data that are the same, and Benson's program over them at two start vectors.
use Rattle.std.proofs.Common.{◌≡◌, List, length, map, refl, sym, ap, ◌∙◌, subst, All, Bool, IsTrue, not, Option, Some, None}
use Rattle.std.specs.Prelude.{IsSomeAnd}
use Rattle.exact_field.specs.Rational.{ℚ}
use Rattle.frac128.specs.Sparse.{is_zero}
use Rattle.vlp_problem.specs.declared.problem.Problem.{Problem}
use Rattle.lp_form.specs.declared.data.Data.{Data}
use Rattle.lp_form.specs.Data.{IsDataOf, cone_of, duality_of, vector_of}
use Rattle.lp_form.specs.Programs.{benson_system}
use Rattle.lp_form.proofs.Systems.{length-benson_cost}
use Rattle.exact_simplex.specs.Keeping.{DifferInCost, IsCosted, IsKeptFor}
use Rattle.exact_simplex.specs.declared.kept.Kept.{Kept}
use Rattle.tableaux.specs.Table.{System}
use Rattle.benson_program.specs.Written.{HasSameData, IsBensonFor}
use Rattle.std.proofs.lemmas.List.{length-map}
use Rattle.lin_rows.specs.declared.system.System.{System as Program}
use Rattle.lin_rows.specs.System.{system_of}
use Rattle.lp_form.proofs.Figures.{objective_number}

-- the same data stand for the same files
pub same_data : {F : Type 0} (value : F → ℚ) (file : Problem) (one other : Data F) → HasSameData one other → IsDataOf value file one → IsDataOf value file other
same_data value file one other same h = record {
  cols = sym same.cols ∙ h.cols;
  normals = ap (map (λ s. vector_of value file.cols s.g)) (sym same.sides) ∙ h.normals;
  bounds = ap (map (λ s. value s.beta)) (sym same.sides) ∙ h.bounds;
  objectives = ap (map (vector_of value file.cols)) (sym same.p) ∙ h.objectives;
  cone = ap (cone_of value) (sym same.cone) ∙ h.cone;
  duality = ap (duality_of value) (sym same.duality) ∙ h.duality;
  sides_kept = subst (λ sides. All (λ s. All (λ c. IsTrue (not (is_zero (value c.value)))) s.g) sides) same.sides h.sides_kept;
  objectives_kept = subst (λ p. All (λ r. All (λ c. IsTrue (not (is_zero (value c.value)))) r) p) same.p h.objectives_kept;
}

-- only the cost depends on the start vector
pub benson_differs : (file : Problem) (c v w : List ℚ) (t u : Bool) → length v ≡ file.objs → length w ≡ file.objs →
    DifferInCost (benson_system file c v t) (benson_system file c w u)
benson_differs file c v w t u v_long w_long =
    record { equations = refl; right = refl; unknowns = length-benson_cost file c v t v_long ∙ sym (length-benson_cost file c w u w_long) }

differ_along : (s r : System) (last : Option System) → DifferInCost r s → IsSomeAnd last (DifferInCost s) → IsSomeAnd last (DifferInCost r)
differ_along s r None d h = h
differ_along s r (Some l) d h = record { equations = d.equations ∙ h.equations; right = d.right ∙ h.right; unknowns = d.unknowns ∙ h.unknowns }

pub kept_along : {F : Type 0} (s r : System) (kept : Kept F) → DifferInCost r s → IsKeptFor s kept → IsKeptFor r kept
kept_along s r kept d h = differ_along s r kept.last d h

same_back : {F : Type 0} (one other : Data F) → HasSameData one other → HasSameData other one
same_back one other h = record { cols = sym h.cols; sides = sym h.sides; p = sym h.p; cone = sym h.cone; duality = sym h.duality }

module _ {F : Type 0} (value : F → ℚ) where
  -- the next program over the same data and for the same c, with its cost
  pub benson_costed : (file : Problem) (form own : Data F) (c d v : List F) (t : Bool) (cost : List F) (kept : Kept F) → IsBensonFor value own d kept →
      HasSameData form own → c ≡ d → IsDataOf value file form → length v ≡ length form.p →
      map value cost ≡ (benson_system file (map value c) (map value v) t).cost → IsCosted value cost kept (benson_system file (map value c) (map value v) t)
  benson_costed file form own c d v t cost kept holds same c_is stands v_long is = record {
    same = subst (λ (x : List F). IsKeptFor (benson_system file (map value x) (map value v) t) kept) (sym c_is)
        (holds file (same_data value file form own same stands) (map value v) t (length-map v value ∙ v_long ∙ objective_number value file form stands));
    is = is;
  }

  -- a program that is written is kept for each start vector
  pub benson_kept : (file : Problem) (form own : Data F) (c d w : List F) (u : Bool) (p : Program F) (kept : Kept F) → HasSameData form own → d ≡ c →
      length w ≡ length form.p →
      ((f : Problem) → IsDataOf value f form → system_of value p ≡ benson_system f (map value c) (map value w) u) →
      IsKeptFor (system_of value p) kept → IsDataOf value file own → (v : List ℚ) (t : Bool) → length v ≡ file.objs →
      IsKeptFor (benson_system file (map value d) v t) kept
  benson_kept file form own c d w u p kept same d_is w_long is h stands v t v_long =
      let there : IsDataOf value file form = same_data value file own form (same_back form own same) stands in
      let one : DifferInCost (benson_system file (map value c) v t) (benson_system file (map value c) (map value w) u) =
      benson_differs file (map value c) v (map value w) t u v_long (length-map w value ∙ w_long ∙ objective_number value file form there) in
      let two : DifferInCost (benson_system file (map value c) v t) (system_of value p) =
      subst (λ (s : System). DifferInCost (benson_system file (map value c) v t) s) (sym (is file there)) one in
      subst (λ (x : List F). IsKeptFor (benson_system file (map value x) v t) kept) (sym d_is)
      (kept_along (system_of value p) (benson_system file (map value c) v t) kept two h)
