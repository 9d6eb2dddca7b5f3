-- Where the outside is honest, a run ends with an answer, unless memory is wanting.
use Rattle.std.proofs.Common.{◌≡◌, ℕ, ◌≤◌, Bool, List, length, Option, Some, None, IsTrue, ◌∙◌, inl, inr, refl, subst, sym, arith}
use Rattle.src_sink.proofs.Known.{Consumes-to_end, TakesCount-known}
use Rattle.vlp_reader.specs.FirstFault.{Reads}
use Rattle.vlp_reader.specs.declared.fault.FileFault.{FileFault as AFileFault}
use Rattle.vlp_problem.specs.declared.problem.Problem.{Problem}
use Rattle.vlp_reader.proofs.Faults.{never_both}
use Rattle.rep_text.specs.RepText.{IsRepText}
use Rattle.rep_text.specs.declared.rep.Rep.{Rep}
use Rattle.rep_text.proofs.RepLaws.{one_rep_reading}
use Rattle.replies.specs.Checking.{CanReconvert}
use Rattle.cert_check.specs.Streams.{ReadsWhole}
use Rattle.commands.specs.Paths.{writes_log}
use Rattle.commands.specs.Tasks.{Shape, Task}
use Rattle.commands.specs.declared.reply.Reply.{Reply}
use Rattle.commands.specs.declared.status.Status.{Status}
use Rattle.commands.specs.declared.status.Status.TheVariants.{Done, NoMemory}
use Rattle.bensolve_main.specs.Answerable.{Completes, Honest, HonestConv, HonestFile, HonestLog, HonestRep, HonestTexts, HonestTwo, SteadyOutputs, ToldWhole}
use Rattle.bensolve_main.specs.Deliver.{DeliversWith}
use Rattle.bensolve_main.specs.Outcome.{Fails, HaltsFor, Outcome, RepliesTo}
use Rattle.bensolve_main.specs.Reading.{FileRefused, GoodFile, GoodRep, NoFile, RepRefused, SourceFailed, TooMuch, problem_limit, log_limit}
use Rattle.bensolve_main.specs.Tasks.{Texts, texts_of}
use Rattle.bensolve_main.specs.Tasks.Texts.{nothing, problem, problem_and_log, two_problems, representation, representation_and_log}
use Rattle.bensolve_main.specs.World.{Channel, World, sources_of}
use Rattle.bensolve_main.proofs.Checks.{Passing}
use Rattle.bensolve_main.proofs.Outcomes.{wanted}
use Rattle.bensolve_main.proofs.Tables.{alone_answered, conv_answered, file_answered, log_answered, rep_answered, two_answered}

-- ---- what honest sources tell
-- bytes that are told are those that are read
pub same_bytes : (left left' : Option (List ℕ)) (limit : ℕ) (told bytes : List ℕ) → left ≡ Some told → ReadsWhole left left' limit bytes → bytes ≡ told
same_bytes left left' limit told bytes is read = (Consumes-to_end left left' told bytes is read.consumed read.at_end).0

-- the file that was read is one as which the bytes read that are told
pub told_reads : (bytes : List ℕ) (file : Problem) (old new : Channel) → old.bytes ≡ Some bytes → GoodFile file old new → Reads bytes file
told_reads bytes file old new is good =
    subst (λ (l : List ℕ). Reads l file) (same_bytes old.bytes new.bytes problem_limit bytes good.bytes is good.read) good.reads

-- a source within its limit is not too long
not_long : (second : Bool) (limit : ℕ) (r : Reply) (bytes : List ℕ) (old new : Channel) → old.bytes ≡ Some bytes → length bytes ≤ limit →
    TooMuch second limit r old new → ⊥
not_long second limit r bytes old new is within much =
    let above = much.past.above in
    let most = (TakesCount-known old.bytes new.bytes bytes much.read is much.past.taken).0 in
    omega arith

-- bytes that read as some problem are not refused
not_refused : (StatusOf : AFileFault → Status) (r : Reply) (bytes : List ℕ) (old new : Channel) → old.bytes ≡ Some bytes → (file : Problem) → Reads bytes file →
    NoFile StatusOf r old new → ⊥
not_refused StatusOf r bytes old new is file reads none =
    never_both none.bytes file none.fault.line none.fault.kind
    (subst (λ (l : List ℕ). Reads l file) (sym (same_bytes old.bytes new.bytes problem_limit bytes none.bytes is none.read)) reads) none.first

pub told_not_refused : (r : Reply) (bytes : List ℕ) (old new : Channel) → old.bytes ≡ Some bytes → length bytes ≤ problem_limit → (file : Problem) → Reads bytes file →
    FileRefused r old new → ⊥
told_not_refused r bytes old new is within file reads (inl much) = not_long _ problem_limit r bytes old new is within much
told_not_refused r bytes old new is within file reads (inr none) = not_refused _ r bytes old new is file reads none

-- the same of a representation
pub told_rep : (bytes : List ℕ) (rep : Rep) (old new : Channel) → old.bytes ≡ Some bytes → GoodRep rep old new → IsRepText bytes rep
told_rep bytes rep old new is good =
    subst (λ (l : List ℕ). IsRepText l rep) (same_bytes old.bytes new.bytes problem_limit bytes good.bytes is good.read) good.is_text

pub rep_not_refused : (r : Reply) (bytes : List ℕ) (old new : Channel) → old.bytes ≡ Some bytes → length bytes ≤ problem_limit → (rep : Rep) → IsRepText bytes rep →
    RepRefused r old new → ⊥
rep_not_refused r bytes old new is within rep is_text (inl much) = not_long _ problem_limit r bytes old new is within much
rep_not_refused r bytes old new is within rep is_text (inr none) =
    one_rep_reading.apart none.bytes rep none.fault
    (subst (λ (l : List ℕ). IsRepText l rep) (sym (same_bytes old.bytes new.bytes problem_limit bytes none.bytes is none.read)) is_text) none.first

-- ---- both texts of `check`
-- both texts are told, are a problem's and a log's and lie within their limits, and no event of the
-- log's entries fails
pub record PassingTexts (old : World) : Type 0 where
  pub bytes : List ℕ
  pub problem : old.problem.bytes ≡ Some bytes
  pub problem_within : length bytes ≤ problem_limit
  pub file : Problem
  pub reads : Reads bytes file
  pub log_bytes : List ℕ
  pub log : old.log_in.bytes ≡ Some log_bytes
  pub log_within : length log_bytes ≤ log_limit
  pub passes : (file : Problem) → Reads bytes file → Passing file log_bytes

-- what is told of texts that pass is an answer
pub texts_answered : (t : Task) (logs : Bool) (r : Reply) (v w : World) → PassingTexts v → RepliesTo problem_and_log t logs r (sources_of v) (sources_of w) → r.status ≡ Done
texts_answered t logs r v w texts (inl refused) =
    absurd (told_not_refused r texts.bytes v.problem w.problem texts.problem texts.problem_within texts.file texts.reads refused.refused)
texts_answered t logs r v w texts (inr (inl much)) =
    absurd (not_long _ log_limit r texts.log_bytes v.log_in w.log_in texts.log texts.log_within much.much)
texts_answered t logs r v w texts (inr (inr tells)) =
    let reads : Reads texts.bytes tells.file = told_reads texts.bytes tells.file v.problem w.problem texts.problem tells.good in
    let same : tells.bytes ≡ texts.log_bytes = same_bytes v.log_in.bytes w.log_in.bytes log_limit texts.log_bytes tells.bytes texts.log tells.read in
    log_answered t tells.file tells.bytes r
    (subst (λ (l : List ℕ). Passing tells.file l) (sym same) (texts.passes tells.file reads)) tells.verdict

honest_texts : (v w : World) → HonestLog v w → PassingTexts v
honest_texts v w h = record {
  bytes = h.bytes;
  problem = h.told.whole.told;
  problem_within = h.told.whole.within;
  file = h.told.file;
  reads = h.told.reads;
  log_bytes = h.log_bytes;
  log = h.log_told.told;
  log_within = h.log_told.within;
  passes = λ file reads. record { entries = h.entries; log = h.is_log; passes = h.passes file reads };
}

-- ---- both texts of `reconv`
-- both texts are told and lie within their limits, the first is a representation's, and nothing stands
-- against a check of the second
pub record PassingConv (old : World) : Type 0 where
  pub bytes : List ℕ
  pub problem : old.problem.bytes ≡ Some bytes
  pub problem_within : length bytes ≤ problem_limit
  pub rep : Rep
  pub is_text : IsRepText bytes rep
  pub log_bytes : List ℕ
  pub log : old.log_in.bytes ≡ Some log_bytes
  pub log_within : length log_bytes ≤ log_limit
  pub can : (rep : Rep) → IsRepText bytes rep → CanReconvert rep log_bytes

pub conv_texts_answered : (t : Task) (logs : Bool) (r : Reply) (v w : World) → PassingConv v → RepliesTo representation_and_log t logs r (sources_of v) (sources_of w) → r.status ≡ Done
conv_texts_answered t logs r v w texts (inl refused) =
    absurd (rep_not_refused r texts.bytes v.problem w.problem texts.problem texts.problem_within texts.rep texts.is_text refused.refused)
conv_texts_answered t logs r v w texts (inr (inl much)) =
    absurd (not_long _ log_limit r texts.log_bytes v.log_in w.log_in texts.log texts.log_within much.much)
conv_texts_answered t logs r v w texts (inr (inr tells)) =
    let same : tells.bytes ≡ texts.log_bytes = same_bytes v.log_in.bytes w.log_in.bytes log_limit texts.log_bytes tells.bytes texts.log tells.read in
    conv_answered t tells.rep tells.bytes r
    (subst (λ (l : List ℕ). CanReconvert tells.rep l) (sym same)
    (texts.can tells.rep (told_rep texts.bytes tells.rep v.problem w.problem texts.problem tells.good))) tells.verdict

honest_conv : (v w : World) → HonestConv v w → PassingConv v
honest_conv v w h = record {
  bytes = h.bytes;
  problem = h.told.whole.told;
  problem_within = h.told.whole.within;
  rep = h.told.rep;
  is_text = h.told.is_text;
  log_bytes = h.log_bytes;
  log = h.log_told.told;
  log_within = h.log_told.within;
  can = h.can;
}

-- ---- the reply
-- a task of one problem
one_answered : (t : Task) (logs : Bool) (r : Reply) (v w : World) → HonestFile t v w → RepliesTo problem t logs r (sources_of v) (sources_of w) → r.status ≡ Done
one_answered t logs r v w h (inl refused) =
    absurd (told_not_refused r h.bytes v.problem w.problem h.told.whole.told h.told.whole.within h.told.file h.told.reads refused.refused)
one_answered t logs r v w h (inr tells) =
    file_answered t logs tells.file r
    (h.answers tells.file (told_reads h.bytes tells.file v.problem w.problem h.told.whole.told tells.good)) tells.verdict

-- and of two
both_answered : (t : Task) (logs : Bool) (r : Reply) (v w : World) → HonestTwo t v w → RepliesTo two_problems t logs r (sources_of v) (sources_of w) → r.status ≡ Done
both_answered t logs r v w h (inl refused) =
    absurd (told_not_refused r h.bytes v.problem w.problem h.told.whole.told h.told.whole.within h.told.file h.told.reads refused.refused)
both_answered t logs r v w h (inr (inl much)) =
    absurd (not_long _ problem_limit r h.second_bytes v.log_in w.log_in h.second_told.whole.told h.second_told.whole.within much.much)
both_answered t logs r v w h (inr (inr (inl none))) =
    absurd (not_refused _ r h.second_bytes v.log_in w.log_in h.second_told.whole.told h.second_told.file h.second_told.reads none.refused)
both_answered t logs r v w h (inr (inr (inr tells))) =
    two_answered t tells.first tells.second r
    (h.answers tells.first tells.second
    (told_reads h.bytes tells.first v.problem w.problem h.told.whole.told tells.good)
    (told_reads h.second_bytes tells.second v.log_in w.log_in h.second_told.whole.told tells.good_second)) tells.verdict

-- and of a representation
rep_text_answered : (t : Task) (logs : Bool) (r : Reply) (v w : World) → HonestRep t v w → RepliesTo representation t logs r (sources_of v) (sources_of w) → r.status ≡ Done
rep_text_answered t logs r v w h (inl refused) =
    absurd (rep_not_refused r h.bytes v.problem w.problem h.told.whole.told h.told.whole.within h.told.rep h.told.is_text refused.refused)
rep_text_answered t logs r v w h (inr tells) =
    rep_answered t logs tells.rep r
    (h.answers tells.rep (told_rep h.bytes tells.rep v.problem w.problem h.told.whole.told tells.good)) tells.verdict

answered : (x : Texts) (t : Task) (logs : Bool) (r : Reply) (v w : World) → HonestTexts x t v w → RepliesTo x t logs r (sources_of v) (sources_of w) → r.status ≡ Done
answered nothing t logs r v w h replies = alone_answered t r h replies.0
answered problem t logs r v w h replies = one_answered t logs r v w h replies
answered problem_and_log t logs r v w h replies = texts_answered t logs r v w (honest_texts v w h) replies
answered two_problems t logs r v w h replies = both_answered t logs r v w h replies
answered representation t logs r v w h replies = rep_text_answered t logs r v w h replies
answered representation_and_log t logs r v w h replies = conv_texts_answered t logs r v w (honest_conv v w h) replies

-- ---- its writing
-- a reply reaches honest outputs
delivered : (logs : Bool) (log : Option (List ℕ)) (status result : Status) (text : List ℕ) (v w : World) → SteadyOutputs logs v w → ((l : List ℕ) → log ≡ Some l → IsTrue logs) →
    DeliversWith log status text result v w → result ≡ status
delivered logs None status result text v w steady wants delivers =
    elim delivers.0 [
      | inl whole ↦ whole.0
      | inr failed ↦ absurd (steady.out failed.2.rose)
    ]
delivered logs (Some log) status result text v w steady wants delivers =
    elim delivers [
      | inl sent ↦ elim sent.1 [
        | inl whole ↦ whole.0
        | inr failed ↦ absurd (steady.log_out (wants log refl) failed.2.rose)
      ]
      | inr failed ↦ absurd (steady.out failed.0.2.rose)
    ]

-- ---- only want of memory halts
not_failed : (second : Bool) (limit most : ℕ) (s : Status) (bytes : List ℕ) (old new : Channel) → ToldWhole most bytes old new → SourceFailed second limit s old new → ⊥
not_failed second limit most s bytes old new told failed = told.steady failed.failed.rose

fails : (x : Texts) (t : Task) (s : Status) (v w : World) → HonestTexts x t v w → Fails x s (sources_of v) (sources_of w) → ⊥
fails nothing t s v w h failed = failed
fails problem t s v w h failed = not_failed _ _ _ s h.bytes v.problem w.problem h.told.whole failed.failed
fails problem_and_log t s v w h (inl failed) = not_failed _ _ _ s h.bytes v.problem w.problem h.told.whole failed.failed
fails problem_and_log t s v w h (inr failed) = not_failed _ _ _ s h.log_bytes v.log_in w.log_in h.log_told failed.failed
fails two_problems t s v w h (inl failed) = not_failed _ _ _ s h.bytes v.problem w.problem h.told.whole failed.failed
fails two_problems t s v w h (inr failed) = not_failed _ _ _ s h.second_bytes v.log_in w.log_in h.second_told.whole failed.failed
fails representation t s v w h failed = not_failed _ _ _ s h.bytes v.problem w.problem h.told.whole failed.failed
fails representation_and_log t s v w h (inl failed) = not_failed _ _ _ s h.bytes v.problem w.problem h.told.whole failed.failed
fails representation_and_log t s v w h (inr failed) = not_failed _ _ _ s h.log_bytes v.log_in w.log_in h.log_told failed.failed

halts_for_memory : (x : Texts) (t : Task) (s : Status) (v w : World) → HonestTexts x t v w → HaltsFor x s (sources_of v) (sources_of w) → s ≡ NoMemory
halts_for_memory x t s v w h (inl none) = none.0
halts_for_memory x t s v w h (inr failed) = absurd (fails x t s v w h failed)

-- ---- a run
pub completes : (shape : Shape) (result : Status) (v w : World) → Honest shape v w → Outcome shape result v w → Completes result
completes s result v w honest (inl made) =
    let r : Reply = made.0 in
    let logs : Bool = writes_log s.files in
    inl
    (delivered logs r.log r.status result r.text v w honest.outputs
    (λ l. wanted logs (texts_of s.task) s.task r (sources_of v) (sources_of w) l made.1) made.2
    ∙ answered (texts_of s.task) s.task logs r v w honest.texts made.1)
completes s result v w honest (inr halts) = inr (halts_for_memory (texts_of s.task) s.task result v w honest.texts halts.cause)
