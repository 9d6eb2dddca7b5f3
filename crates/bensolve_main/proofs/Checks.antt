-- What the replies of `check`, `relog` and `sample` say: with an answer where nothing stands against
-- it, never of words without a shape, and never with a log.
use Rattle.std.proofs.Common.{◌≡◌, ℕ, List, Option, Some, None, true≢false, ap, ◌∙◌, sym, inl, inr, arith}
use Rattle.std.specs.Option.{is_some}
use Rattle.frac128.specs.Held.{is_held}
use Rattle.vlp_problem.specs.declared.problem.Problem.{Problem}
use Rattle.deriv_log.specs.Laws.{IsTextOf}
use Rattle.deriv_log.specs.declared.entry.Entry.{Entry}
use Rattle.deriv_log.proofs.Laws.{one_reading}
use Rattle.log_rules.specs.LogEvents.{Failing}
use Rattle.log_versions.specs.WrittenEvents.{log_failure}
use Rattle.commands.specs.Codes.{code_of}
use Rattle.commands.specs.declared.reply.Reply.{Reply}
use Rattle.commands.specs.declared.status.Status.{Status}
use Rattle.commands.specs.declared.status.Status.TheVariants.{Done, Words}
use Rattle.bensolve_main.specs.Check.{CheckVerdict}
use Rattle.bensolve_main.specs.Relog.{RelogVerdict}
use Rattle.bensolve_main.specs.Sample.{IsSampleHeld, SampleVerdict}
use Rattle.bensolve_main.specs.Stages.{RefusesLog}

-- ---- a log of which no event fails
-- the bytes are the text of these entries, which pass for the problem
pub record Passing (file : Problem) (bytes : List ℕ) : Type 0 where
  pub entries : List Entry
  pub log : IsTextOf bytes entries
  pub passes : log_failure is_held file entries ≡ None

-- whatever entries the bytes are the text of pass
pub passing : (file : Problem) (bytes : List ℕ) (entries : List Entry) → Passing file bytes → IsTextOf bytes entries → log_failure is_held file entries ≡ None
passing file bytes entries p log = ap (log_failure is_held file) (one_reading.one_log bytes entries p.entries log p.log) ∙ p.passes

not_failed : (file : Problem) (entries : List Entry) (f : Failing) → log_failure is_held file entries ≡ None → log_failure is_held file entries ≡ Some f → ⊥
not_failed file entries f none some = true≢false (sym (ap (λ (o : Option Failing). is_some o) (sym none ∙ some)))

-- ---- where a log gives no answer
refused_answered : (file : Problem) (bytes : List ℕ) (r : Reply) → Passing file bytes →
    RefusesLog file bytes r → ⊥
refused_answered file bytes r p (inl none) =
    one_reading.apart bytes p.entries none.fault p.log none.first
refused_answered file bytes r p (inr (inl fails)) =
    not_failed file fails.entries _ (passing file bytes fails.entries p fails.log) fails.wrong
refused_answered file bytes r p (inr (inr stops)) =
    not_failed file stops.entries _ (passing file bytes stops.entries p stops.log) stops.stops

refused_never_words : (file : Problem) (bytes : List ℕ) (r : Reply) → RefusesLog file bytes r →
    Words ≡ r.status → ⊥
refused_never_words file bytes r (inl none) same =
    omega (arith, ap (λ (s : Status). code_of s) (same ∙ none.status))
refused_never_words file bytes r (inr (inl fails)) same =
    omega (arith, ap (λ (s : Status). code_of s) (same ∙ fails.status))
refused_never_words file bytes r (inr (inr stops)) same =
    omega (arith, ap (λ (s : Status). code_of s) (same ∙ stops.status))

refused_quiet : (file : Problem) (bytes : List ℕ) (r : Reply) → RefusesLog file bytes r →
    r.log ≡ None
refused_quiet file bytes r (inl none) = none.told.no_log
refused_quiet file bytes r (inr (inl fails)) = fails.told.no_log
refused_quiet file bytes r (inr (inr stops)) = stops.told.no_log

-- ---- the check of a log
pub check_answered : (file : Problem) (bytes : List ℕ) (r : Reply) → Passing file bytes → CheckVerdict file bytes r → r.status ≡ Done
check_answered file bytes r p (inl proved) = proved.status
check_answered file bytes r p (inr refused) = absurd (refused_answered file bytes r p refused)

pub check_never_words : (file : Problem) (bytes : List ℕ) (r : Reply) → CheckVerdict file bytes r → Words ≡ r.status → ⊥
check_never_words file bytes r (inl proved) same = omega (arith, ap (λ (s : Status). code_of s) (same ∙ proved.status))
check_never_words file bytes r (inr refused) same = refused_never_words file bytes r refused same

pub check_quiet : (file : Problem) (bytes : List ℕ) (r : Reply) → CheckVerdict file bytes r → r.log ≡ None
check_quiet file bytes r (inl proved) = proved.no_log
check_quiet file bytes r (inr refused) = refused_quiet file bytes r refused

-- ---- the upgrade of a log
pub relog_answered : (file : Problem) (bytes : List ℕ) (r : Reply) → Passing file bytes →
    RelogVerdict file bytes r → r.status ≡ Done
relog_answered file bytes r p (inl relogged) = relogged.status
relog_answered file bytes r p (inr refused) = absurd (refused_answered file bytes r p refused)

pub relog_never_words : (file : Problem) (bytes : List ℕ) (r : Reply) → RelogVerdict file bytes r →
    Words ≡ r.status → ⊥
relog_never_words file bytes r (inl relogged) same =
    omega (arith, ap (λ (s : Status). code_of s) (same ∙ relogged.status))
relog_never_words file bytes r (inr refused) same = refused_never_words file bytes r refused same

pub relog_quiet : (file : Problem) (bytes : List ℕ) (r : Reply) → RelogVerdict file bytes r →
    r.log ≡ None
relog_quiet file bytes r (inl relogged) = relogged.no_log
relog_quiet file bytes r (inr refused) = refused_quiet file bytes r refused

-- ---- the sample file of a number
pub sample_answered : (number : ℕ) (r : Reply) → IsSampleHeld number → SampleVerdict number r → r.status ≡ Done
sample_answered number r held (inl solved) = solved.status
sample_answered number r held (inr left) = absurd (held left.file left.sample left.overflow.licence left.overflow.can left.overflow.licensed)

pub sample_never_words : (number : ℕ) (r : Reply) → SampleVerdict number r → Words ≡ r.status → ⊥
sample_never_words number r (inl solved) same = omega (arith, ap (λ (s : Status). code_of s) (same ∙ solved.status))
sample_never_words number r (inr left) same = omega (arith, ap (λ (s : Status). code_of s) (same ∙ left.overflow.status))

pub sample_quiet : (number : ℕ) (r : Reply) → SampleVerdict number r → r.log ≡ None
sample_quiet number r (inl solved) = solved.no_log
sample_quiet number r (inr left) = left.overflow.told.no_log
