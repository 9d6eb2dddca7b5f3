-- Licences of the programs and eliminations that are asked of a cone.
use Rattle.std.proofs.Common.{◌≡◌, ℕ, List, [], length, ap, ap₂, ◌∙◌, subst, Bool}
use Rattle.exact_field.specs.Rational.{ℚ}
use Rattle.tableaux.specs.Table.{Table, System}
use Rattle.lin_rows.specs.Eliminate.{IsElimFault}
use Rattle.lin_rows.specs.declared.fault.RowFault.{RowFault}
use Rattle.exact_simplex.specs.Ends.{IsLpFault}
use Rattle.exact_simplex.specs.declared.answer.LpFault.{LpFault}
use Rattle.vlp_problem.specs.declared.problem.Problem.{Problem}
use Rattle.vlp_problem.specs.declared.program.Program.{Program}
use Rattle.lp_form.specs.declared.data.Data.{Data}
use Rattle.lp_form.specs.Data.{IsDataOf, cone_of, duality_of}
use Rattle.lp_form.specs.Programs.{interior_system, pointed_system}
use Rattle.lp_form.proofs.Figures.{objective_number}
use Rattle.overflows.specs.Dictionaries.{IsAllowed, IsElimTable, system_in}
use Rattle.overflows.specs.Licence.{LicensedByCone}
use Rattle.overflows.specs.Settings.{Setting}
use Rattle.overflows.specs.Faults.{OnLicence, Overflows}
use Rattle.overflows.specs.declared.fault.SolveFault.{SolveFault}
use Rattle.cone_dual.proofs.Standing.{before, without}

module _ {F : Type 0} (value : F → ℚ) (holds : ℚ → Bool) (form : Data F) (file : Problem) (stands : IsDataOf value file form) where
  pub pointed_same : pointed_system (length form.p) (cone_of value form.cone) ≡ pointed_system file.objs file.cone
  pointed_same = ap₂ pointed_system (objective_number value file form stands) stands.cone

  pub interior_same : interior_system (length form.p) (cone_of value form.cone) (duality_of value form.duality) ≡ interior_system file.objs file.cone file.duality
  interior_same =
      ap₂ (λ n k. interior_system n k (duality_of value form.duality)) (objective_number value file form stands) stands.cone
      ∙ ap (interior_system file.objs file.cone) stands.duality

  pub program_licensed : (name : Program) (s : System) (fault : LpFault F) (result : SolveFault) → IsAllowed (before file) name → s ≡ system_in (before file) name →
      ((t : Setting) → IsAllowed t name → IsLpFault value holds (system_in t name) fault → Overflows holds t [] result) →
      IsLpFault value holds s fault → OnLicence result (LicensedByCone holds file)
  program_licensed name s fault result allowed same licensed h =
      without holds file result (licensed (before file) allowed (subst (λ (x : System). IsLpFault value holds x fault) same h))

  pub rows_licensed : (rows : List (List ℚ)) (t : Table) (columns : ℕ) (fault : RowFault F) (result : SolveFault) →
      IsElimTable (before file) rows file.objs t columns →
      ((s : Setting) (width columns : ℕ) (t : Table) → IsElimTable s rows width t columns → IsElimFault value holds columns t fault →
      Overflows holds s [] result) → IsElimFault value holds columns t fault → OnLicence result (LicensedByCone holds file)
  rows_licensed rows t columns fault result table licensed h =
      without holds file result (licensed (before file) file.objs columns t table h)
