-- What is said of the cone in a field is said of that of the file, and licences before a duality
-- vector is known.
use Rattle.std.proofs.Common.{◌≡◌, ℕ, List, [], length, map, true, sym, ap, ◌∙◌, subst, Bool, Option, None, Some}
use Rattle.std.proofs.lemmas.Bool.{eqb-true}
use Rattle.exact_field.specs.Rational.{ℚ}
use Rattle.polyhedra.specs.Cone.{IsInterior}
use Rattle.upper_image.specs.OrderingCone.{IsIn}
use Rattle.cone_rules.specs.Faults.{IsGivenInside}
use Rattle.vlp_problem.specs.declared.problem.Problem.{Problem}
use Rattle.vlp_problem.specs.declared.problem.Cone.{Cone}
use Rattle.vlp_problem.specs.Cones.{duality_fits}
use Rattle.lp_form.specs.declared.data.ConeOf.{ConeOf}
use Rattle.lp_form.specs.declared.data.Data.{Data}
use Rattle.lp_form.specs.Data.{IsDataOf, cone_of, duality_of}
use Rattle.lp_form.proofs.Figures.{objective_number}
use Rattle.overflows.specs.Licence.{cone_alone, LicensedByCone}
use Rattle.overflows.specs.Settings.{Setting}
use Rattle.overflows.specs.Faults.{OnLicence, Overflows}
use Rattle.overflows.specs.declared.fault.SolveFault.{SolveFault}
use Rattle.overflows.specs.declared.fault.SolveFault.TheVariants.{Left, NoMemory}

-- the setting of the cone alone, before a duality vector is known
abbrev pub before : Problem → Setting
before file = record { file = cone_alone file; c = None; weights = []; trail = [] }

pub without : (holds : ℚ → Bool) (file : Problem) (fault : SolveFault) → Overflows holds (before file) [] fault → OnLicence fault (LicensedByCone holds file)
without holds file (Left licence) h = record { trail = h.0; overflow = h.1 }
without holds file NoMemory h = tt

module _ {F : Type 0} (value : F → ℚ) (form : Data F) where
  pub at_file : (file : Problem) → IsDataOf value file form → (P : ℕ → Cone → Option (List ℚ) → Type 0) →
      P (length form.p) (cone_of value form.cone) (duality_of value form.duality) → P file.objs file.cone file.duality
  at_file file stands P h =
      subst (λ (n : ℕ). P n file.cone file.duality) (objective_number value file form stands)
      (subst (λ (k : Cone). P (length form.p) k file.duality) stands.cone
      (subst (λ (d : Option (List ℚ)). P (length form.p) (cone_of value form.cone) d) stands.duality h))

  -- the cone is this one
  pub as_cone : (c : ConeOf F) → form.cone ≡ c → (P : Cone → Type 0) → P (cone_of value c) → P (cone_of value form.cone)
  as_cone c e P h = subst (λ (k : ConeOf F). P (cone_of value k)) (sym e) h

  pub of_cone : (c : ConeOf F) → form.cone ≡ c → (P : Cone → Type 0) → P (cone_of value form.cone) → P (cone_of value c)
  of_cone c e P h = subst (λ (k : ConeOf F). P (cone_of value k)) e h

  -- the duality vector is this one
  pub as_duality : (d : Option (List F)) → form.duality ≡ d → (P : Option (List ℚ) → Type 0) → P (duality_of value d) → P (duality_of value form.duality)
  as_duality d e P h = subst (λ (f : Option (List F)). P (duality_of value f)) (sym e) h

  pub of_duality : (d : Option (List F)) → form.duality ≡ d → (P : Option (List ℚ) → Type 0) → P (duality_of value form.duality) → P (duality_of value d)
  of_duality d e P h = subst (λ (f : Option (List F)). P (duality_of value f)) e h

  -- a duality vector that is given has an entry for each dimension
  pub given_long : (f : List F) → form.duality ≡ Some f → length f ≡ length form.p
  given_long f e = eqb-true (length f) (length form.p) (subst (λ (d : Option (List F)). duality_fits (length form.p) d ≡ true) e form.duality_entries)

  -- it is the one that is interior
  pub given_inside : (f : List F) → form.duality ≡ Some f → (q : ℕ) (k : Cone) → IsInterior q (IsIn q k) (map value f) →
      IsGivenInside q k (duality_of value form.duality)
  given_inside f e q k h = λ other given.
      let both : Some (map value f) ≡ Some other = sym (ap (duality_of value) e) ∙ given in
      let same : map value f ≡ other = cc in
      subst (λ (v : List ℚ). IsInterior q (IsIn q k) v) same h

  pub given_to : (file : Problem) → IsDataOf value file form → (f : List F) → form.duality ≡ Some f → file.duality ≡ Some (map value f)
  given_to file stands f e = sym stands.duality ∙ ap (duality_of value) e
