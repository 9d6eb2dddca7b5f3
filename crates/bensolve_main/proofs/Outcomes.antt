-- What outcomes say, whatever the command: never of words without a shape, and with a log only where
-- one is written.
use Rattle.std.proofs.Common.{◌≡◌, ℕ, List, Bool, true, false, true≢false, Option, Some, None, IsTrue, ap, ◌∙◌, subst, sym, refl, inl, inr, arith}
use Rattle.std.specs.Option.{is_some}
use Rattle.commands.specs.Paths.{writes_log}
use Rattle.commands.specs.Tasks.{Shape, Task}
use Rattle.commands.specs.Codes.{code_of}
use Rattle.commands.specs.declared.reply.Reply.{Reply}
use Rattle.commands.specs.declared.status.Status.{Status}
use Rattle.commands.specs.declared.status.Status.TheVariants.{Words, WriteFault}
use Rattle.bensolve_main.specs.Deliver.{DeliversWith}
use Rattle.bensolve_main.specs.Outcome.{Fails, HaltsFor, Outcome, RepliesTo}
use Rattle.bensolve_main.specs.Reading.{FileRefused, RepRefused}
use Rattle.bensolve_main.specs.Tasks.{Texts, texts_of}
use Rattle.bensolve_main.specs.Tasks.Texts.{nothing, problem, problem_and_log, two_problems, representation, representation_and_log}
use Rattle.bensolve_main.specs.World.{Channel, Sources, World, sources_of}
use Rattle.bensolve_main.proofs.Tables.{alone_never_words, conv_never_words, file_never_words, log_never_words, rep_never_words, two_never_words, alone_quiet, conv_quiet, file_quiet, log_quiet, rep_quiet, two_quiet}

abbrev pub IsWriteFault : Status → Type 0
IsWriteFault (WriteFault log sent) = Unit {0}
IsWriteFault _ = ⊥

-- a result that tells no fault of an output is the status of its reply
pub delivered_as : (log : Option (List ℕ)) (status result : Status) (text : List ℕ) (v w : World) →
    (IsWriteFault result → ⊥) → DeliversWith log status text result v w → result ≡ status
delivered_as None status result text v w steady delivers =
    elim delivers.0 [
      | inl whole ↦ whole.0
      | inr failed ↦ absurd (steady (subst (λ (s : Status). IsWriteFault s) (sym failed.1) tt))
    ]
delivered_as (Some log) status result text v w steady delivers =
    elim delivers [
      | inl sent ↦ elim sent.1 [
        | inl whole ↦ whole.0
        | inr failed ↦ absurd (steady (subst (λ (s : Status). IsWriteFault s) (sym failed.1) tt))
      ]
      | inr failed ↦ absurd (steady (subst (λ (s : Status). IsWriteFault s) (sym failed.0.1) tt))
    ]

-- ---- words without a shape
refused_no_words : (r : Reply) (old new : Channel) → FileRefused r old new → Words ≡ r.status → ⊥
refused_no_words r old new (inl much) same = omega (arith, ap (λ (s : Status). code_of s) (same ∙ much.status))
refused_no_words r old new (inr none) same = omega (arith, ap (λ (s : Status). code_of s) (same ∙ none.status))

rep_refused_no_words : (r : Reply) (old new : Channel) → RepRefused r old new → Words ≡ r.status → ⊥
rep_refused_no_words r old new (inl much) same = omega (arith, ap (λ (s : Status). code_of s) (same ∙ much.status))
rep_refused_no_words r old new (inr none) same = omega (arith, ap (λ (s : Status). code_of s) (same ∙ none.status))

replies_no_words : (x : Texts) (t : Task) (logs : Bool) (r : Reply) (v w : Sources) → RepliesTo x t logs r v w → Words ≡ r.status → ⊥
replies_no_words nothing t logs r v w replies same = alone_never_words t r replies.0 same
replies_no_words problem t logs r v w (inl refused) same = refused_no_words r v.problem w.problem refused.refused same
replies_no_words problem t logs r v w (inr tells) same = file_never_words t logs tells.file r tells.verdict same
replies_no_words problem_and_log t logs r v w (inl refused) same = refused_no_words r v.problem w.problem refused.refused same
replies_no_words problem_and_log t logs r v w (inr (inl much)) same = omega (arith, ap (λ (s : Status). code_of s) (same ∙ much.much.status))
replies_no_words problem_and_log t logs r v w (inr (inr tells)) same = log_never_words t tells.file tells.bytes r tells.verdict same
replies_no_words two_problems t logs r v w (inl refused) same = refused_no_words r v.problem w.problem refused.refused same
replies_no_words two_problems t logs r v w (inr (inl much)) same = omega (arith, ap (λ (s : Status). code_of s) (same ∙ much.much.status))
replies_no_words two_problems t logs r v w (inr (inr (inl none))) same = omega (arith, ap (λ (s : Status). code_of s) (same ∙ none.refused.status))
replies_no_words two_problems t logs r v w (inr (inr (inr tells))) same = two_never_words t tells.first tells.second r tells.verdict same
replies_no_words representation t logs r v w (inl refused) same = rep_refused_no_words r v.problem w.problem refused.refused same
replies_no_words representation t logs r v w (inr tells) same = rep_never_words t logs tells.rep r tells.verdict same
replies_no_words representation_and_log t logs r v w (inl refused) same = rep_refused_no_words r v.problem w.problem refused.refused same
replies_no_words representation_and_log t logs r v w (inr (inl much)) same = omega (arith, ap (λ (s : Status). code_of s) (same ∙ much.much.status))
replies_no_words representation_and_log t logs r v w (inr (inr tells)) same = conv_never_words t tells.rep tells.bytes r tells.verdict same

fails_no_words : (x : Texts) (v w : Sources) → Fails x Words v w → ⊥
fails_no_words nothing v w fails = fails
fails_no_words problem v w fails = omega (arith, ap (λ (s : Status). code_of s) fails.failed.status)
fails_no_words problem_and_log v w (inl fails) = omega (arith, ap (λ (s : Status). code_of s) fails.failed.status)
fails_no_words problem_and_log v w (inr fails) = omega (arith, ap (λ (s : Status). code_of s) fails.failed.status)
fails_no_words two_problems v w (inl fails) = omega (arith, ap (λ (s : Status). code_of s) fails.failed.status)
fails_no_words two_problems v w (inr fails) = omega (arith, ap (λ (s : Status). code_of s) fails.failed.status)
fails_no_words representation v w fails = omega (arith, ap (λ (s : Status). code_of s) fails.failed.status)
fails_no_words representation_and_log v w (inl fails) = omega (arith, ap (λ (s : Status). code_of s) fails.failed.status)
fails_no_words representation_and_log v w (inr fails) = omega (arith, ap (λ (s : Status). code_of s) fails.failed.status)

halts_no_words : (x : Texts) (v w : Sources) → HaltsFor x Words v w → ⊥
halts_no_words x v w (inl same) = omega (arith, ap (λ (s : Status). code_of s) same.0)
halts_no_words x v w (inr fails) = fails_no_words x v w fails

-- no command ends as words without a shape do
pub never_words : (shape : Shape) (v w : World) → Outcome shape Words v w → ⊥
never_words s v w (inl made) =
    let r : Reply = made.0 in
    replies_no_words (texts_of s.task) s.task (writes_log s.files) r (sources_of v) (sources_of w) made.1
    (delivered_as r.log r.status Words r.text v w (λ h. h) made.2)
never_words s v w (inr halts) = halts_no_words (texts_of s.task) (sources_of v) (sources_of w) halts.cause

-- ---- logs
refused_quiet : (r : Reply) (old new : Channel) → FileRefused r old new → r.log ≡ None
refused_quiet r old new (inl much) = much.told.no_log
refused_quiet r old new (inr none) = none.told.no_log

rep_refused_quiet : (r : Reply) (old new : Channel) → RepRefused r old new → r.log ≡ None
rep_refused_quiet r old new (inl much) = much.told.no_log
rep_refused_quiet r old new (inr none) = none.told.no_log

-- without a file for it no log is made
pub quiet : (x : Texts) (t : Task) (r : Reply) (v w : Sources) → RepliesTo x t false r v w → r.log ≡ None
quiet nothing t r v w replies = alone_quiet t r replies.0
quiet problem t r v w (inl refused) = refused_quiet r v.problem w.problem refused.refused
quiet problem t r v w (inr tells) = file_quiet t tells.file r tells.verdict
quiet problem_and_log t r v w (inl refused) = refused_quiet r v.problem w.problem refused.refused
quiet problem_and_log t r v w (inr (inl much)) = much.much.told.no_log
quiet problem_and_log t r v w (inr (inr tells)) = log_quiet t tells.file tells.bytes r tells.verdict
quiet two_problems t r v w (inl refused) = refused_quiet r v.problem w.problem refused.refused
quiet two_problems t r v w (inr (inl much)) = much.much.told.no_log
quiet two_problems t r v w (inr (inr (inl none))) = none.refused.told.no_log
quiet two_problems t r v w (inr (inr (inr tells))) = two_quiet t tells.first tells.second r tells.verdict
quiet representation t r v w (inl refused) = rep_refused_quiet r v.problem w.problem refused.refused
quiet representation t r v w (inr tells) = rep_quiet t tells.rep r tells.verdict
quiet representation_and_log t r v w (inl refused) = rep_refused_quiet r v.problem w.problem refused.refused
quiet representation_and_log t r v w (inr (inl much)) = much.much.told.no_log
quiet representation_and_log t r v w (inr (inr tells)) = conv_quiet t tells.rep tells.bytes r tells.verdict

-- a reply that has a log is one of a command with a file for it
pub wanted : (logs : Bool) (x : Texts) (t : Task) (r : Reply) (v w : Sources) (log : List ℕ) → RepliesTo x t logs r v w → r.log ≡ Some log → IsTrue logs
wanted true x t r v w log replies is = refl
wanted false x t r v w log replies is = absurd (true≢false (ap (λ (o : Option (List ℕ)). is_some o) (sym is ∙ quiet x t r v w replies)))
