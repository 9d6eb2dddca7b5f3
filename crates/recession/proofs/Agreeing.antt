-- Data fix Benson's program, whichever file they stand for.
use Rattle.std.proofs.Common.{◌≡◌, ℕ, zero, suc, ◌+◌, List, [], ◌∷◌, ◌++◌, refl, sym, ap, ap₂, ◌∙◌, arith, ◌≤◌, ◌<◌, Bool}
use Rattle.std.specs.Prelude.{if◌then◌else◌}
use Rattle.exact_field.specs.Rational.{ℚ, one_ℚ}
use Rattle.polyhedra.specs.Negatives.{negated}
use Rattle.polyhedra.specs.Vectors.{zeros}
use Rattle.tableaux.specs.Table.{System, Table, listed, list_from}
use Rattle.vlp_problem.specs.Sides.{side_column, side_bounds}
use Rattle.vlp_problem.specs.declared.problem.Problem.{Problem}
use Rattle.vlp_problem.specs.declared.problem.Cone.{Cone}
use Rattle.upper_image.specs.UpperImage.{objective_column}
use Rattle.lp_form.specs.Data.{IsDataOf}
use Rattle.lp_form.specs.declared.data.Data.{Data}
use Rattle.lp_form.specs.Programs.{side_total, on_parts, balances, dual_members, dual_equations, dual_unknowns, benson_system}
use Rattle.lp_form.proofs.Figures.{side_column_is, objective_column_is, side_number, objective_number}

listed_from : (n k : ℕ) (f g : ℕ → List ℚ) → ((j : ℕ) → k ≤ j → j < k + n → f j ≡ g j) → list_from k n f ≡ list_from k n g
listed_from zero k f g h = refl
listed_from (suc n) k f g h =
    ap₂ (λ (a : List ℚ) (b : Table). a ∷ b) (h k (omega arith) (omega arith)) (listed_from n (suc k) f g (λ j low high. h j (omega arith) (omega (arith, high))))

-- Benson's program from what data fix
abbrev made : (cols m q : ℕ) (cone : Cone) (rows : Table) (bounds c v : List ℚ) (t : Bool) → System
made cols m q cone rows bounds c v t = record {
  equations = rows ++ dual_members m q cone ++ on_parts (zeros m) c (zeros (dual_unknowns q cone)) ∷ [];
  right = zeros (cols + dual_equations q cone) ++ one_ℚ ∷ [];
  cost = on_parts (if t then bounds else zeros m) (negated v) (zeros (dual_unknowns q cone));
}

module _ {F : Type 0} (value : F → ℚ) (form : Data F) (f g : Problem) (f_is : IsDataOf value f form) (g_is : IsDataOf value g form) where
  cols : f.cols ≡ g.cols
  cols = sym f_is.cols ∙ g_is.cols

  total : side_total f ≡ side_total g
  total = sym (side_number value f form f_is) ∙ side_number value g form g_is

  objs : f.objs ≡ g.objs
  objs = sym (objective_number value f form f_is) ∙ objective_number value g form g_is

  cone : f.cone ≡ g.cone
  cone = sym f_is.cone ∙ g_is.cone

  bounds : side_bounds f ≡ side_bounds g
  bounds = sym f_is.bounds ∙ g_is.bounds

  rows : (more : ℕ) → balances f more ≡ balances g more
  rows more =
      listed_from f.cols 1 _ _ (λ j low high.
      let inside : j ≤ form.cols = omega (arith, high, f_is.cols) in
      ap₂ (λ (s o : List ℚ). on_parts s o (zeros more)) (sym (side_column_is value f form f_is j low inside) ∙ side_column_is value g form g_is j low inside)
      (sym (objective_column_is value f form f_is j low inside) ∙ objective_column_is value g form g_is j low inside))
      ∙ ap (λ (n : ℕ). listed n (λ j. on_parts (side_column g j) (negated (objective_column g j)) (zeros more))) cols

  pub same_benson : (c v : List ℚ) (t : Bool) → benson_system f c v t ≡ benson_system g c v t
  same_benson c v t =
      let k : ℕ = dual_unknowns f.objs f.cone in
      ap₂ (λ (n m : ℕ). made n m f.objs f.cone (balances f k) (side_bounds f) c v t) cols total
      ∙ ap₂ (λ (r : Table) (b : List ℚ). made g.cols (side_total g) f.objs f.cone r b c v t)
      (rows k ∙ ap₂ (λ (q : ℕ) (e : Cone). balances g (dual_unknowns q e)) objs cone) bounds
      ∙ ap₂ (λ (q : ℕ) (e : Cone). made g.cols (side_total g) q e (balances g (dual_unknowns g.objs g.cone)) (side_bounds g) c v t) objs cone
