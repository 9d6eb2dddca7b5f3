-- A duality vector that is made fits.
use Rattle.std.proofs.Common.{◌≡◌, ℕ, List, [], map, sym, ap, ap₂, ◌∙◌, subst, Bool, Option}
use Rattle.exact_field.specs.Rational.{ℚ}
use Rattle.vlp_problem.specs.declared.problem.Problem.{Problem}
use Rattle.vlp_problem.specs.declared.problem.Cone.{Cone}
use Rattle.upper_image.specs.Shows.{ShowsFitting}
use Rattle.upper_image.proofs.Solid.{duality_fits}
use Rattle.deriv_log.specs.declared.entry.Entry.TheVariants.{Duality as Line}
use Rattle.overflows.specs.Licence.{IsHeldDuality}
use Rattle.overflows.specs.Trails.{IsBaseDuality}
use Rattle.cone_rules.specs.Faults.{IsSolid, IsPointed}
use Rattle.cone_dual.specs.Fitting.{IsMade, IsDualityOf}
use Rattle.cone_dual.specs.declared.duality.Duality.{Duality}

pub made_fits : {F : Type 0} (value : F → ℚ) (holds : ℚ → Bool) (file : Problem) (c weights : List F) (picks : List ℕ) (inverse : List ℚ) (d : Duality F) →
    ShowsFitting file (map value c) (map value weights) picks inverse → IsBaseDuality file file.cone file.duality (map value c) (map value weights) →
    IsSolid file → IsPointed file → IsMade value holds c weights picks inverse d → IsDualityOf value holds file d
made_fits value holds file c weights picks inverse d fits base solid pointed made =
    let c_is : map value c ≡ map value d.c = sym (ap (map value) made.c_is) in
    let weights_is : map value weights ≡ map value d.weights = sym (ap (map value) made.weights_is) in
    record {
      picks = picks;
      inverse = inverse;
      entry_is = made.entry_is ∙ ap₂ (λ (a b : List ℚ). Line a b picks inverse) c_is weights_is;
      fits = subst (λ (a : List ℚ). ShowsFitting file a (map value d.weights) picks inverse) c_is
          (subst (λ (b : List ℚ). ShowsFitting file (map value c) b picks inverse) weights_is fits);
      base = subst (λ (a : List ℚ). IsBaseDuality file file.cone file.duality a (map value d.weights)) c_is
          (subst (λ (b : List ℚ). IsBaseDuality file file.cone file.duality (map value c) b) weights_is base);
      held = subst (λ (a : List ℚ). IsHeldDuality holds a (map value d.weights) inverse) c_is
          (subst (λ (b : List ℚ). IsHeldDuality holds (map value c) b inverse) weights_is made.held);
      sound = record { solid = solid; pointed = pointed; duality = (map value c, duality_fits file (map value c) (map value weights) picks inverse fits) };
    }

pub base_as : (file : Problem) (k : Cone) (d : Option (List ℚ)) (c weights : List ℚ) → file.cone ≡ k → file.duality ≡ d → IsBaseDuality file k d c weights →
    IsBaseDuality file file.cone file.duality c weights
base_as file k d c weights e f h =
    subst (λ (x : Cone). IsBaseDuality file x file.duality c weights) (sym e) (subst (λ (y : Option (List ℚ)). IsBaseDuality file k y c weights) (sym f) h)

-- one without weights, picks and inverse
pub bare_fits : {F : Type 0} (value : F → ℚ) (holds : ℚ → Bool) (file : Problem) (c weights : List F) (picks : List ℕ) (d : Duality F) (v : List ℚ) →
    map value c ≡ v → weights ≡ [] → picks ≡ [] → ShowsFitting file v [] [] [] → IsBaseDuality file file.cone file.duality v [] →
    IsSolid file → IsPointed file → IsMade value holds c weights picks [] d → IsDualityOf value holds file d
bare_fits value holds file c weights picks d v c_is no_weights no_picks fits base solid pointed made =
    let none : [] ≡ map value weights = sym (ap (map value) no_weights) in
    made_fits value holds file c weights picks [] d
    (subst (λ (a : List ℚ). ShowsFitting file a (map value weights) picks []) (sym c_is)
    (subst (λ (b : List ℚ). ShowsFitting file v b picks []) none (subst (λ (p : List ℕ). ShowsFitting file v [] p []) (sym no_picks) fits)))
    (subst (λ (a : List ℚ). IsBaseDuality file file.cone file.duality a (map value weights)) (sym c_is)
    (subst (λ (b : List ℚ). IsBaseDuality file file.cone file.duality v b) none base))
    solid pointed made
