use Rattle.std.proofs.Common.{◌≡◌, List, subst}
use Rattle.std.specs.Prelude.{IfOk}
use Rattle.exact_field.specs.Rational.{ℚ}
use Rattle.lineality.specs.Without.{marks}
use Rattle.rep_convert.proofs.LicensedFaults.{same_numbers}
use Rattle.rep_convert.proofs.begin.marks_of.Goals as goal

pub returns : goal.returns
returns c =
    subst (λ (ls : List (List ℚ)). IfOk c.places_of.result (λ places. places ≡ marks c.args.rep.now.width ls))
    (same_numbers c.args.lines.now) c.places_of.ensures
