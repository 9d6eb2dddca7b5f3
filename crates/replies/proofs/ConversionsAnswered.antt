-- What follows of a reply by its verdict: where nothing stands against an answer it is one; words
-- are never at fault; and where no log is wanted there is none.
use Rattle.std.proofs.Common.{◌≡◌, ℕ, Bool, true, false, not, List, None, Option, Some, ap, ◌∙◌, sym, inl, inr, true≢false}
use Rattle.std.specs.Option.{is_some}
use Rattle.frac128.specs.Held.{is_held}
use Rattle.log_rules.specs.LogEvents.{Failing}
use Rattle.word_lines.specs.Grammar.{IsTextOf}
use Rattle.rep_text.specs.ConvText.{conv_grammar}
use Rattle.rep_text.specs.declared.conv.ConvEntry.{ConvEntry}
use Rattle.rep_text.specs.declared.rep.Rep.{Rep}
use Rattle.rep_text.proofs.ConvLaws.{one_conv_reading}
use Rattle.rep_conv.specs.Events.{conv_failure}
use Rattle.commands.specs.declared.reply.Reply.{Reply}
use Rattle.commands.specs.declared.status.Status.TheVariants.{Done, Words}
use Rattle.replies.specs.Checking.{CanReconvert, ReconvVerdict, RefusesLog}
use Rattle.replies.specs.Turning.{CanTurn, TurnVerdict}

-- ---- `vertices` and `facets`
not_itself : (b : Bool) → b ≡ not b → ⊥
not_itself true e = cc
not_itself false e = cc

pub turn_answered : (gens logs : Bool) (rep : Rep) (r : Reply) → CanTurn gens rep →
    TurnVerdict gens logs rep r → r.status ≡ Done
turn_answered gens logs rep r can (inl t) =
    elim t.turns [
      | inl turned ↦ turned.status
      | inr stopped ↦ absurd (can.held stopped.licence stopped.can stopped.licensed)
    ]
turn_answered gens logs rep r can (inr other) = absurd (not_itself gens (sym can.kind ∙ other.kind))

pub turn_never_words : (gens logs : Bool) (rep : Rep) (r : Reply) → TurnVerdict gens logs rep r →
    Words ≡ r.status → ⊥
turn_never_words gens logs rep r (inl t) same =
    elim t.turns [
      | inl turned ↦ let is = turned.status in cc
      | inr stopped ↦ let is = stopped.status in cc
    ]
turn_never_words gens logs rep r (inr other) same = let is = other.status in cc

pub turn_quiet : (gens : Bool) (rep : Rep) (r : Reply) → TurnVerdict gens false rep r →
    r.log ≡ None
turn_quiet gens rep r (inl t) =
    elim t.turns [
      | inl turned ↦ turned.log
      | inr stopped ↦ stopped.told.no_log
    ]
turn_quiet gens rep r (inr other) = other.told.no_log

-- ---- `reconv`
not_failed : (rep : Rep) (log : List ConvEntry) (f : Failing) → conv_failure is_held rep log ≡ None →
    conv_failure is_held rep log ≡ Some f → ⊥
not_failed rep log f none some =
    true≢false (sym (ap (λ (o : Option Failing). is_some o) (sym none ∙ some)))

-- whatever log the bytes are the text of is accepted
pub accepted : (rep : Rep) (bytes : List ℕ) (log : List ConvEntry) → CanReconvert rep bytes →
    IsTextOf conv_grammar bytes log → conv_failure is_held rep log ≡ None
accepted rep bytes log can is_log =
    ap (conv_failure is_held rep) (one_conv_reading.one_list bytes log can.log is_log can.is_log)
    ∙ can.accepted

refused_answered : (rep : Rep) (bytes : List ℕ) (r : Reply) → CanReconvert rep bytes →
    RefusesLog rep bytes r → ⊥
refused_answered rep bytes r can (inl none) =
    one_conv_reading.apart bytes can.log none.fault can.is_log none.first
refused_answered rep bytes r can (inr (inl fails)) =
    not_failed rep fails.log _ (accepted rep bytes fails.log can fails.is_log) fails.wrong
refused_answered rep bytes r can (inr (inr stops)) =
    not_failed rep stops.log _ (accepted rep bytes stops.log can stops.is_log) stops.stops

pub reconv_answered : (rep : Rep) (bytes : List ℕ) (r : Reply) → CanReconvert rep bytes →
    ReconvVerdict rep bytes r → r.status ≡ Done
reconv_answered rep bytes r can (inl done) = done.status
reconv_answered rep bytes r can (inr refused) = absurd (refused_answered rep bytes r can refused)

pub reconv_never_words : (rep : Rep) (bytes : List ℕ) (r : Reply) → ReconvVerdict rep bytes r →
    Words ≡ r.status → ⊥
reconv_never_words rep bytes r (inl done) same = let is = done.status in cc
reconv_never_words rep bytes r (inr (inl none)) same = let is = none.status in cc
reconv_never_words rep bytes r (inr (inr (inl fails))) same = let is = fails.status in cc
reconv_never_words rep bytes r (inr (inr (inr stops))) same = let is = stops.status in cc

pub reconv_quiet : (rep : Rep) (bytes : List ℕ) (r : Reply) → ReconvVerdict rep bytes r →
    r.log ≡ None
reconv_quiet rep bytes r (inl done) = done.no_log
reconv_quiet rep bytes r (inr (inl none)) = none.told.no_log
reconv_quiet rep bytes r (inr (inr (inl fails))) = fails.told.no_log
reconv_quiet rep bytes r (inr (inr (inr stops))) = stops.told.no_log
