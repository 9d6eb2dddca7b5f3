-- Replies from their parts.
use Rattle.std.proofs.Common.{◌≡◌, ℕ, Bool, not, List, Result, Ok, Err, IfOk, Some, subst, sym, inl, inr, refl}
use Rattle.frac128.specs.Held.{is_held}
use Rattle.src_sink.specs.declared.items.NoMemory.{NoMemory}
use Rattle.exact_field.specs.declared.op.Left.{Left as AStep}
use Rattle.frac128.specs.declared.frac.Frac.{Frac}
use Rattle.word_lines.specs.Grammar.{IsWhole, entries_text}
use Rattle.word_lines.specs.declared.fault.LogFault.{LogFault}
use Rattle.word_lines.specs.declared.fault.LogKind.TheVariants.{BadLine}
use Rattle.word_lines.specs.FirstFault.{FirstFault, line_test}
use Rattle.deriv_log.specs.declared.licence.Licence.{Licence}
use Rattle.log_rules.specs.Events.Failure.{wrong, left}
use Rattle.log_rules.specs.declared.rule.Rule.{Rule}
use Rattle.rep_text.specs.ConvText.{conv_forms, conv_grammar}
use Rattle.rep_text.specs.declared.conv.ConvEntry.{ConvEntry}
use Rattle.rep_text.specs.declared.rep.Rep.{Rep}
use Rattle.rep_conv.specs.Checked.{IsRefusal}
use Rattle.rep_conv.specs.declared.check.ConvRefusal.TheVariants as refusal
use Rattle.rep_conv.specs.Events.{conv_failure}
use Rattle.rep_convert.specs.Licensed.{IsConvLicensed}
use Rattle.commands.specs.Replies.{TellsFault, TellsStatus, step_licence}
use Rattle.commands.specs.Told.{CanBeTold}
use Rattle.commands.specs.declared.reply.Reply.{Reply}
use Rattle.commands.specs.declared.status.LogRefusal.TheVariants.{Text, Wrong}
use Rattle.commands.specs.declared.status.Status.TheVariants.{Left, Refused, RepFault}
use Rattle.replies.specs.Checking.{ReconvVerdict, RefusesLog}
use Rattle.replies.specs.Turning.{Turned, TurnVerdict, Turns}

-- ---- `vertices` and `facets`
pub turned_told : (logs : Bool) (rep : Rep) (x : Result Reply NoMemory) → IfOk x (Turned logs rep) →
    IfOk x (Turns rep.gens logs rep)
turned_told logs rep (Ok r) h = record { kind = refl; turns = inl h }
turned_told logs rep (Err e) h = tt

pub stopped_told : (logs : Bool) (rep : Rep) (l : Licence) (x : Result Reply NoMemory) →
    IsConvLicensed is_held rep l → CanBeTold l → IfOk x (λ r. r.status ≡ Left l) → IfOk x TellsFault →
    IfOk x (Turns rep.gens logs rep)
stopped_told logs rep l (Ok r) licensed can status told =
    record {
      kind = refl;
      turns = inr (record { licence = l; status = status; licensed = licensed; can = can; told = told });
    }
stopped_told logs rep l (Err e) licensed can status told = tt

pub wanted_told : (gens logs : Bool) (rep : Rep) (x : Result Reply NoMemory) → rep.gens ≡ gens →
    IfOk x (Turns rep.gens logs rep) → IfOk x (TurnVerdict gens logs rep)
wanted_told gens logs rep (Ok r) is h = inl (subst (λ (b : Bool). Turns b logs rep r) is h)
wanted_told gens logs rep (Err e) is h = tt

pub other_told : (gens logs : Bool) (rep : Rep) (x : Result Reply NoMemory) → rep.gens ≡ not gens →
    IfOk x (λ r. r.status ≡ RepFault 1 BadLine) → IfOk x TellsFault → IfOk x (TurnVerdict gens logs rep)
other_told gens logs rep (Ok r) is status told =
    inr (record { kind = is; status = status; told = told })
other_told gens logs rep (Err e) is status told = tt

-- ---- `reconv`
module _ (rep : Rep) (log : List ConvEntry) (whole : IsWhole conv_grammar log) where
  pub wrong_told : (entry number : ℕ) (rule : Rule) (x : Result Reply NoMemory) → number ≡ entry →
      conv_failure is_held rep log ≡ Some (record { entry = entry; failure = wrong rule }) →
      IfOk x (TellsStatus (Refused (Wrong number rule))) →
      IfOk x (RefusesLog rep (entries_text conv_grammar log))
  wrong_told entry number rule (Ok r) is fails (status, told) =
      inr (inl (record {
        entry = number;
        rule = rule;
        status = status;
        log = log;
        is_log = (whole, refl);
        wrong = subst (λ (n : ℕ). conv_failure is_held rep log ≡ Some (record { entry = n; failure = wrong rule })) (sym is) fails;
        told = told;
      }))
  wrong_told entry number rule (Err e) is fails told = tt

  pub step_told : (entry number step : ℕ) (l : AStep Frac) (x : Result Reply NoMemory) →
      number ≡ entry → IsRefusal rep log (refusal.Left entry step l) →
      IfOk x (TellsStatus (Left (step_licence number step l))) →
      IfOk x (RefusesLog rep (entries_text conv_grammar log))
  step_told entry number step l (Ok r) is stops (status, told) =
      inr (inr (record {
        licence = step_licence number step l;
        status = status;
        entry = number;
        step = step;
        place = refl;
        trail = refl;
        log = log;
        is_log = (whole, refl);
        stops = subst (λ (n : ℕ). conv_failure is_held rep log ≡ Some (record { entry = n; failure = left step l.op l.a l.b })) (sym is) stops;
        told = told;
      }))
  step_told entry number step l (Err e) is stops told = tt

  pub refusal_told : (x : Result Reply NoMemory) →
      IfOk x (RefusesLog rep (entries_text conv_grammar log)) →
      IfOk x (ReconvVerdict rep (entries_text conv_grammar log))
  refusal_told (Ok r) h = inr h
  refusal_told (Err e) h = tt

pub text_told : (rep : Rep) (bytes : List ℕ) (f : LogFault) (x : Result Reply NoMemory) →
    FirstFault (line_test conv_forms) bytes f → IfOk x (TellsStatus (Refused (Text f))) →
    IfOk x (ReconvVerdict rep bytes)
text_told rep bytes f (Ok r) first (status, told) =
    inr (inl (record { fault = f; status = status; first = first; told = told }))
text_told rep bytes f (Err e) first told = tt

pub log_told : (rep : Rep) (bytes text : List ℕ) (x : Result Reply NoMemory) → bytes ≡ text →
    IfOk x (ReconvVerdict rep text) → IfOk x (ReconvVerdict rep bytes)
log_told rep bytes text x is h = subst (λ (b : List ℕ). IfOk x (ReconvVerdict rep b)) (sym is) h
