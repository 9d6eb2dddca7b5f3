-- What the check of the log of a conversion says.
use Rattle.std.specs.Prelude.{◌≡◌, ⊤, ℕ, List, take, drop, Some}
use Rattle.frac128.specs.Held.{is_held}
use Rattle.log_rules.specs.Events.Failure.{wrong, left}
use Rattle.rep_conv.specs.Events.{conv_failure, first_failing}
use Rattle.rep_conv.specs.Progress.{StandsAfter}
use Rattle.rep_conv.specs.declared.check.ConvRefusal.{ConvRefusal}
use Rattle.rep_conv.specs.declared.check.ConvRefusal.TheVariants as refusal
use Rattle.rep_conv.specs.declared.progress.Standing.{Standing}
use Rattle.rep_text.specs.declared.rep.Rep.{Rep}
use Rattle.rep_text.specs.declared.conv.ConvEntry.{ConvEntry}

-- the refusal tells the first failure of the log; where memory lacks it tells none
abbrev pub IsRefusal : Rep → List ConvEntry → ConvRefusal → Type 0
IsRefusal rep log (refusal.Wrong n r) = conv_failure is_held rep log ≡ Some (record { entry = n; failure = wrong r })
IsRefusal rep log (refusal.Left n k l) = conv_failure is_held rep log ≡ Some (record { entry = n; failure = left k l.op l.a l.b })
IsRefusal rep log refusal.NoMemory = ⊤

-- no event of the first i entries fails
pub record IsTaken (rep : Rep) (log : List ConvEntry) (i : ℕ) (standing : Standing) : Type 0 where
  pub stands : StandsAfter rep (take i log) standing
  pub rest : conv_failure is_held rep log ≡ first_failing is_held rep (take i log) (drop i log)
