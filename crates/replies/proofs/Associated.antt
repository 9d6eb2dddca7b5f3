-- The ordering cone of an associated problem has no fault.
use Rattle.std.proofs.Common.{ℕ, List, Option, None, subst}
use Rattle.exact_field.specs.Rational.{ℚ}
use Rattle.cone_rules.specs.Faults.{HasFault, IsGivenOutside, ShowsFlat, ShowsLast, ShowsLine}
use Rattle.cone_rules.specs.declared.fault.ConeFault.{ConeFault}
use Rattle.cone_rules.specs.declared.fault.ConeFault.TheVariants.{HasLine, LastNotPositive, NotInterior, NotSolid}
use Rattle.projection.specs.Associated.{IsAssociated}
use Rattle.vlp_problem.specs.declared.problem.Cone.{Cone}
use Rattle.vlp_problem.specs.declared.problem.Problem.{Problem}

pub faultless : (k : ℕ) (file made : Problem) → IsAssociated k file made → (f : ConeFault) →
    HasFault made f → ⊥
faultless k file made s (NotSolid w m) h =
    subst (λ (c : Cone). ShowsFlat made.objs c w m) s.cone h
faultless k file made s (HasLine d m) h =
    subst (λ (c : Cone). ShowsLine made.objs c d m) s.cone h.1
faultless k file made s (NotInterior w v) h =
    subst (λ (f : Option (List ℚ)). IsGivenOutside made.objs made.cone f w v) s.duality h.2
faultless k file made s (LastNotPositive m) h =
    subst (λ (c : Cone). ShowsLast made.objs c None m) s.cone
    (subst (λ (f : Option (List ℚ)). ShowsLast made.objs made.cone f m) s.duality h.3)
