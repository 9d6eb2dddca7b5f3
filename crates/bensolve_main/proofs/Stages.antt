-- From what the steps of a run tell to what its result says.
use Rattle.std.specs.Prelude.{IsErrAnd}
use Rattle.src_sink.specs.Ends.{TakesCount}
use Rattle.std.proofs.Common.{◌≡◌, ◌<◌, ℕ, List, Bool, true, false, None, Result, Ok, Err, IfOk, IfErr, subst, sym, refl, inl, inr}
use Rattle.vlp_problem.specs.declared.problem.Problem.{Problem}
use Rattle.rep_text.specs.declared.rep.Rep.{Rep}
use Rattle.cert_check.specs.Streams.{ReadsWhole, StreamEnds, TextAccepts}
use Rattle.cert_check.specs.declared.fault.Refusal.TheVariants as refusal
use Rattle.cert_check.specs.declared.fault.StreamEnd.{StreamEnd}
use Rattle.cert_check.specs.declared.fault.StreamEnd.TheVariants as end
use Rattle.log_rules.specs.Report.{report_text}
use Rattle.log_rules.specs.declared.answer.Answer.{Answer}
use Rattle.commands.specs.Paths.{log_out_path, writes_log}
use Rattle.commands.specs.Tasks.{Files, Shape, Task}
use Rattle.commands.specs.Tasks.Files.{none, one, two, logged}
use Rattle.commands.specs.Tasks.Task.{check, reconv, relog}
use Rattle.commands.specs.declared.reply.Reply.{Reply}
use Rattle.commands.specs.declared.status.Status.{Status}
use Rattle.commands.specs.declared.status.Status.TheVariants.{Done, NoMemory}
use Rattle.bensolve_main.specs.Outcome.{HaltsFor, Replies, RepliesTo}
use Rattle.bensolve_main.specs.Reading.{GoodFile, GoodRep, TakenInWant, problem_limit, log_limit}
use Rattle.bensolve_main.specs.Stages.{ConvTold, EndsReading, EndsRep, EndsText, FileTold, HaltsEnd, HaltsReading, LogTold, OneTold, ReadsOne, RefusesLog, RepTold, SecondTold, TellsEnd, TwoHalts, TwoTold, WithConvHalts, WithConvTold, WithLogHalts, WithLogTold}
use Rattle.bensolve_main.specs.Tasks.{TellsLog, Texts, texts_of}
use Rattle.bensolve_main.specs.Tasks.Texts.{nothing, problem, problem_and_log, two_problems, representation, representation_and_log}
use Rattle.bensolve_main.specs.World.{Channel, Sources, Uncalled}
use Rattle.bensolve_main.specs.declared.reading.TextEnd.{TextEnd}
use Rattle.bensolve_main.specs.declared.reading.TextEnd.TheVariants.{Told, Halted}
use Rattle.bensolve_main.proofs.Outcomes.{quiet}

pub uncalled : (a : Channel) → Uncalled a a
uncalled a = record { bytes = refl; faults = refl }

-- ---- a log
-- a task tells of a log that gives no answer what any such task tells of it
abbrev pub TellsRefusals : Task → Problem → Type 0
TellsRefusals t file = (bytes : List ℕ) (r : Reply) → RefusesLog file bytes r →
    TellsLog t file bytes r

pub check_refusals : (file : Problem) → TellsRefusals check file
check_refusals file bytes r refuses = inr refuses

pub relog_refusals : (file : Problem) → TellsRefusals relog file
relog_refusals file bytes r refuses = inr refuses

log_ended : (t : Task) (file : Problem) (tells : TellsRefusals t file) (e : StreamEnd) (r : Reply)
    (old new : Channel) →
    StreamEnds e file log_limit old.bytes new.bytes old.faults new.faults →
    TellsEnd e r → LogTold t file r old new
log_ended t file tells (end.Text f) r old new h (is, told) =
    inr (
      h.bytes,
      h.read,
      tells h.bytes r (inl (record { fault = f; status = is; first = h.text; told = told })),
    )
log_ended t file tells (end.Refused (refusal.Wrong entry rule)) r old new h (is, told) =
    inr (
      h.bytes,
      h.read,
      tells h.bytes r (inr (inl (record {
        entry = entry;
        rule = rule;
        status = is;
        entries = h.text.entries;
        log = h.text.log;
        wrong = h.text.fails;
        told = told;
      }))),
    )
log_ended t file tells (end.Refused (refusal.Left entry step l)) r old new h (is, told) =
    inr (
      h.bytes,
      h.read,
      tells h.bytes r (inr (inr (record {
        licence = _;
        status = is;
        entry = entry;
        step = step;
        place = refl;
        trail = refl;
        entries = h.text.entries;
        log = h.text.log;
        stops = h.text.fails;
        told = told;
      }))),
    )
log_ended t file tells (end.Refused refusal.NoMemory) r old new h never = absurd never
log_ended t file tells (end.TooLong read) r old new h (is, told) =
    inl (record { read = read; status = is; past = record { above = h.0; taken = h.1 }; told = told })
log_ended t file tells end.Fault r old new h never = absurd never
log_ended t file tells end.NoMemory r old new h never = absurd never

pub end_told : (t : Task) (file : Problem) (tells : TellsRefusals t file) (e : StreamEnd)
    (old new : Channel) (x : Result Reply Status) →
    StreamEnds e file log_limit old.bytes new.bytes old.faults new.faults →
    IfOk x (TellsEnd e) → IfOk x (λ r. LogTold t file r old new)
end_told t file tells e old new (Ok r) h is = log_ended t file tells e r old new h is
end_told t file tells e old new (Err s) h is = tt

-- ---- want of memory
-- a text that was read to its end, within the limit
pub whole_taken : (limit : ℕ) (bytes : List ℕ) (old new : Channel) → ReadsWhole old.bytes new.bytes limit bytes → TakenInWant limit old new
whole_taken limit bytes old new read = inl (bytes, read.consumed, read.within)

-- where the task on it, or the line that tells of it, finds no memory
pub halts_whole : {T : Type 0} (second : Bool) (limit : ℕ) (bytes : List ℕ) (old new : Channel) → ReadsWhole old.bytes new.bytes limit bytes →
    (x : Result T Status) → IsErrAnd x (λ s. s ≡ NoMemory) → IfErr x (λ s. HaltsReading second limit s old new)
halts_whole second limit bytes old new read (Ok r) is = tt
halts_whole second limit bytes old new read (Err s) is = inl (is, whole_taken limit bytes old new read)

pub text_halts : {T : Type 0} (second : Bool) (old new : Channel) (bytes : List ℕ) → ReadsWhole old.bytes new.bytes problem_limit bytes →
    (x : Result T TextEnd) → IsErrAnd x (λ e. e ≡ Halted NoMemory) → IfErr x (λ e. EndsReading second e old new)
text_halts second old new bytes read (Ok r) is = tt
text_halts second old new bytes read (Err e) is =
    subst (λ (y : TextEnd). EndsReading second y old new) (sym is) (inl (refl, whole_taken problem_limit bytes old new read))

pub rep_halts : {T : Type 0} (old new : Channel) (bytes : List ℕ) → ReadsWhole old.bytes new.bytes problem_limit bytes →
    (x : Result T TextEnd) → IsErrAnd x (λ e. e ≡ Halted NoMemory) → IfErr x (λ e. EndsRep e old new)
rep_halts old new bytes read (Ok r) is = tt
rep_halts old new bytes read (Err e) is =
    subst (λ (y : TextEnd). EndsRep y old new) (sym is) (inl (refl, whole_taken problem_limit bytes old new read))

-- more was taken than the limit, and the line that tells it finds no memory
pub past_halts : {T : Type 0} (second : Bool) (limit read : ℕ) (old new : Channel) → limit < read → TakesCount old.bytes new.bytes read →
    (x : Result T TextEnd) → IsErrAnd x (λ e. e ≡ Halted NoMemory) → IfErr x (λ e. EndsText second limit e old new)
past_halts second limit read old new above taken (Ok r) is = tt
past_halts second limit read old new above taken (Err e) is =
    subst (λ (y : TextEnd). EndsText second limit y old new) (sym is) (inl (refl, inr (read, record { above = above; taken = taken })))

-- a task that reads nothing
pub alone_halts : {T : Type 0} (t : Task) (v w : Sources) → texts_of t ≡ nothing → Uncalled v.problem w.problem → Uncalled v.log_in w.log_in →
    (x : Result T Status) → IsErrAnd x (λ s. s ≡ NoMemory) → IfErr x (λ s. HaltsFor (texts_of t) s v w)
alone_halts t v w reads first second (Ok r) is = tt
alone_halts t v w reads first second (Err s) is =
    subst (λ (y : Texts). HaltsFor y s v w) (sym reads) (inl (is, (first, second)))

-- whatever the end of the check of a log, where no memory is left to tell it
end_taken : (e : StreamEnd) (file : Problem) (old new : Channel) → StreamEnds e file log_limit old.bytes new.bytes old.faults new.faults →
    TakenInWant log_limit old new
end_taken end.Fault file old new h = inl h.1
end_taken (end.TooLong read) file old new h = inr (read, record { above = h.0; taken = h.1 })
end_taken end.NoMemory file old new h = inl h
end_taken (end.Text f) file old new h = whole_taken log_limit h.bytes old new h.read
end_taken (end.Refused r) file old new h = whole_taken log_limit h.bytes old new h.read

end_failed : (e : StreamEnd) (file : Problem) (s : Status) (old new : Channel) → StreamEnds e file log_limit old.bytes new.bytes old.faults new.faults → HaltsEnd e s →
    HaltsReading true log_limit s old new
end_failed e file s old new h (inl wanting) = inl (wanting, end_taken e file old new h)
end_failed e file s old new h (inr (failed, is)) =
    let why = subst (λ (x : StreamEnd). StreamEnds x file log_limit old.bytes new.bytes old.faults new.faults) failed h in
    inr (record { status = is; failed = record { within = why.1; rose = why.0 } })

pub end_halts : (e : StreamEnd) (file : Problem) (old new : Channel) (x : Result Reply Status) → StreamEnds e file log_limit old.bytes new.bytes old.faults new.faults →
    IfErr x (HaltsEnd e) → IfErr x (λ s. HaltsReading true log_limit s old new)
end_halts e file old new (Ok r) h halts = tt
end_halts e file old new (Err s) h halts = end_failed e file s old new h halts

-- the answer of a log that passes
pub answer_told : (file : Problem) (answer : Answer) (r : Reply) (old new : Channel) → (bytes : List ℕ) × ReadsWhole old.bytes new.bytes log_limit bytes × TextAccepts file bytes answer →
    r.status ≡ Done → r.text ≡ report_text file answer → r.log ≡ None → LogTold check file r old new
answer_told file answer r old new (bytes, read, text) status report no_log =
    inr (
      bytes,
      read,
      inl (record {
        status = status;
        entries = text.entries;
        log = text.log;
        passes = text.accepts.passes;
        answer = answer;
        proves = text.accepts.proves;
        right = text.accepts.right;
        report = report;
        no_log = no_log;
      }),
    )

-- ---- the problem and then another text
-- the problem is refused
pub log_refused : (t : Task) (e : TextEnd) (v w : Sources) (x : Result Reply Status) → EndsReading false e v.problem w.problem → Uncalled v.log_in w.log_in →
    IfOk x (λ r. e ≡ Told r) → IfOk x (λ r. WithLogTold t r v w)
log_refused t e v w (Ok r) h log_in is = inl (record { refused = subst (λ (y : TextEnd). EndsReading false y v.problem w.problem) is h; log_in = log_in })
log_refused t e v w (Err s) h log_in is = tt

pub log_unread : (e : TextEnd) (v w : Sources) (x : Result Reply Status) → EndsReading false e v.problem w.problem → Uncalled v.log_in w.log_in →
    IfErr x (λ s. e ≡ Halted s) → IfErr x (λ s. WithLogHalts s v w)
log_unread e v w (Ok r) h log_in is = tt
log_unread e v w (Err s) h log_in is =
    elim (subst (λ (y : TextEnd). EndsReading false y v.problem w.problem) is h) [
      | inl wanting ↦ inl (wanting.0, inl (record { taken = wanting.1; log_in = log_in }))
      | inr failed ↦ inr (inl (record { failed = failed; log_in = log_in }))
    ]

-- the log was read
pub log_told : (t : Task) (file : Problem) (v w : Sources) (x : Result Reply Status) → GoodFile file v.problem w.problem →
    IfOk x (λ r. LogTold t file r v.log_in w.log_in) → IfOk x (λ r. WithLogTold t r v w)
log_told t file v w (Ok r) good (inl much) = inr (inl (record { file = file; good = good; much = much }))
log_told t file v w (Ok r) good (inr (bytes, read, verdict)) =
    inr (inr (record { file = file; good = good; bytes = bytes; read = read; verdict = verdict }))
log_told t file v w (Err s) good told = tt

pub log_halted : (file : Problem) (v w : Sources) (x : Result Reply Status) → GoodFile file v.problem w.problem →
    IfErr x (λ s. HaltsReading true log_limit s v.log_in w.log_in) → IfErr x (λ s. WithLogHalts s v w)
log_halted file v w (Ok r) good halts = tt
log_halted file v w (Err s) good (inl wanting) =
    inl (wanting.0, inr (record { file = file; good = good; taken = wanting.1 }))
log_halted file v w (Err s) good (inr failed) = inr (inr (record { file = file; good = good; failed = failed }))

-- ---- two problems
pub two_refused : (t : Task) (e : TextEnd) (v w : Sources) (x : Result Reply Status) → EndsReading false e v.problem w.problem → Uncalled v.log_in w.log_in →
    IfOk x (λ r. e ≡ Told r) → IfOk x (λ r. TwoTold t r v w)
two_refused t e v w (Ok r) h log_in is = inl (record { refused = subst (λ (y : TextEnd). EndsReading false y v.problem w.problem) is h; log_in = log_in })
two_refused t e v w (Err s) h log_in is = tt

pub two_unread : (e : TextEnd) (v w : Sources) (x : Result Reply Status) → EndsReading false e v.problem w.problem → Uncalled v.log_in w.log_in →
    IfErr x (λ s. e ≡ Halted s) → IfErr x (λ s. TwoHalts s v w)
two_unread e v w (Ok r) h log_in is = tt
two_unread e v w (Err s) h log_in is =
    elim (subst (λ (y : TextEnd). EndsReading false y v.problem w.problem) is h) [
      | inl wanting ↦ inl (wanting.0, inl (record { taken = wanting.1; log_in = log_in }))
      | inr failed ↦ inr (inl (record { failed = failed; log_in = log_in }))
    ]

pub two_told : (t : Task) (first : Problem) (v w : Sources) (x : Result Reply Status) → GoodFile first v.problem w.problem →
    IfOk x (λ r. SecondTold t first r v.log_in w.log_in) → IfOk x (λ r. TwoTold t r v w)
two_told t first v w (Ok r) good (inl much) = inr (inl (record { file = first; good = good; much = much }))
two_told t first v w (Ok r) good (inr (inl wanting)) = inr (inr (inl (record { file = first; good = good; refused = wanting })))
two_told t first v w (Ok r) good (inr (inr (second, good_second, verdict))) =
    inr (inr (inr (record { first = first; good = good; second = second; good_second = good_second; verdict = verdict })))
two_told t first v w (Err s) good told = tt

pub two_halted : (first : Problem) (v w : Sources) (x : Result Reply Status) → GoodFile first v.problem w.problem →
    IfErr x (λ s. HaltsReading true problem_limit s v.log_in w.log_in) → IfErr x (λ s. TwoHalts s v w)
two_halted first v w (Ok r) good halts = tt
two_halted first v w (Err s) good (inl wanting) =
    inl (wanting.0, inr (record { file = first; good = good; taken = wanting.1 }))
two_halted first v w (Err s) good (inr failed) = inr (inr (record { file = first; good = good; failed = failed }))

-- the second problem is refused, or was read
pub second_refused : (t : Task) (first : Problem) (e : TextEnd) (old new : Channel) (x : Result Reply Status) → EndsReading true e old new →
    IfOk x (λ r. e ≡ Told r) → IfOk x (λ r. SecondTold t first r old new)
second_refused t first e old new (Ok r) h is =
    elim (subst (λ (y : TextEnd). EndsReading true y old new) is h) [
      | inl much ↦ inl much
      | inr wanting ↦ inr (inl wanting)
    ]
second_refused t first e old new (Err s) h is = tt

-- ---- the end of the reading of one problem
pub unread : (second : Bool) (e : TextEnd) (old new : Channel) (x : Result Reply Status) → EndsReading second e old new → IfErr x (λ s. e ≡ Halted s) →
    IfErr x (λ s. HaltsReading second problem_limit s old new)
unread second e old new (Ok r) h is = tt
unread second e old new (Err s) h is = subst (λ (y : TextEnd). EndsReading second y old new) is h

pub file_refused : (t : Task) (logs : Bool) (e : TextEnd) (old new : Channel) (x : Result Reply Status) → EndsReading false e old new →
    IfOk x (λ r. e ≡ Told r) → IfOk x (λ r. FileTold t logs r old new)
file_refused t logs e old new (Ok r) h is = inl (subst (λ (y : TextEnd). EndsReading false y old new) is h)
file_refused t logs e old new (Err s) h is = tt

-- ---- the bytes of a text
pub problem_unread : (second : Bool) (e : TextEnd) (old new : Channel) → EndsText second problem_limit e old new → EndsReading second e old new
problem_unread second (Told r) old new h = inl h
problem_unread second (Halted s) old new h = h

pub rep_unread : (e : TextEnd) (old new : Channel) → EndsText false problem_limit e old new → EndsRep e old new
rep_unread (Told r) old new h = inl h
rep_unread (Halted s) old new h = h

-- ---- a representation
pub rep_refused : (t : Task) (logs : Bool) (e : TextEnd) (old new : Channel) (x : Result Reply Status) → EndsRep e old new →
    IfOk x (λ r. e ≡ Told r) → IfOk x (λ r. RepTold t logs r old new)
rep_refused t logs e old new (Ok r) h is = inl (subst (λ (y : TextEnd). EndsRep y old new) is h)
rep_refused t logs e old new (Err s) h is = tt

pub rep_halted : (e : TextEnd) (old new : Channel) (x : Result Reply Status) → EndsRep e old new → IfErr x (λ s. e ≡ Halted s) →
    IfErr x (λ s. HaltsReading false problem_limit s old new)
rep_halted e old new (Ok r) h is = tt
rep_halted e old new (Err s) h is = subst (λ (y : TextEnd). EndsRep y old new) is h

-- the log of a conversion is too long, or was not read
pub conv_refused : (t : Task) (rep : Rep) (e : TextEnd) (old new : Channel) (x : Result Reply Status) → EndsText true log_limit e old new →
    IfOk x (λ r. e ≡ Told r) → IfOk x (λ r. ConvTold t rep r old new)
conv_refused t rep e old new (Ok r) h is = inl (subst (λ (y : TextEnd). EndsText true log_limit y old new) is h)
conv_refused t rep e old new (Err s) h is = tt

pub conv_unread : (e : TextEnd) (old new : Channel) (x : Result Reply Status) → EndsText true log_limit e old new → IfErr x (λ s. e ≡ Halted s) →
    IfErr x (λ s. HaltsReading true log_limit s old new)
conv_unread e old new (Ok r) h is = tt
conv_unread e old new (Err s) h is = subst (λ (y : TextEnd). EndsText true log_limit y old new) is h

-- a representation and then the log of a conversion
pub with_rep_refused : (e : TextEnd) (v w : Sources) (x : Result Reply Status) → EndsRep e v.problem w.problem → Uncalled v.log_in w.log_in →
    IfOk x (λ r. e ≡ Told r) → IfOk x (λ r. WithConvTold r v w)
with_rep_refused e v w (Ok r) h log_in is = inl (record { refused = subst (λ (y : TextEnd). EndsRep y v.problem w.problem) is h; log_in = log_in })
with_rep_refused e v w (Err s) h log_in is = tt

pub with_rep_unread : (e : TextEnd) (v w : Sources) (x : Result Reply Status) → EndsRep e v.problem w.problem → Uncalled v.log_in w.log_in →
    IfErr x (λ s. e ≡ Halted s) → IfErr x (λ s. WithConvHalts s v w)
with_rep_unread e v w (Ok r) h log_in is = tt
with_rep_unread e v w (Err s) h log_in is =
    elim (subst (λ (y : TextEnd). EndsRep y v.problem w.problem) is h) [
      | inl wanting ↦ inl (wanting.0, inl (record { taken = wanting.1; log_in = log_in }))
      | inr failed ↦ inr (inl (record { failed = failed; log_in = log_in }))
    ]

pub with_conv_told : (rep : Rep) (v w : Sources) (x : Result Reply Status) → GoodRep rep v.problem w.problem →
    IfOk x (λ r. ConvTold reconv rep r v.log_in w.log_in) → IfOk x (λ r. WithConvTold r v w)
with_conv_told rep v w (Ok r) good (inl much) = inr (inl (record { rep = rep; good = good; much = much }))
with_conv_told rep v w (Ok r) good (inr (bytes, read, verdict)) =
    inr (inr (record { rep = rep; good = good; bytes = bytes; read = read; verdict = verdict }))
with_conv_told rep v w (Err s) good told = tt

pub with_conv_halted : (rep : Rep) (v w : Sources) (x : Result Reply Status) → GoodRep rep v.problem w.problem →
    IfErr x (λ s. HaltsReading true log_limit s v.log_in w.log_in) → IfErr x (λ s. WithConvHalts s v w)
with_conv_halted rep v w (Ok r) good halts = tt
with_conv_halted rep v w (Err s) good (inl wanting) =
    inl (wanting.0, inr (record { rep = rep; good = good; taken = wanting.1 }))
with_conv_halted rep v w (Err s) good (inr failed) = inr (inr (record { rep = rep; good = good; failed = failed }))

-- ---- what is told of all texts
one_told : (x : Texts) (t : Task) (logs : Bool) (r : Reply) (v w : Sources) → Uncalled v.log_in w.log_in →
    OneTold x t logs r v.problem w.problem → RepliesTo x t logs r v w
one_told nothing t logs r v w log_in told = absurd told
one_told problem t logs r v w log_in (inl refused) = inl (record { refused = refused; log_in = log_in })
one_told problem t logs r v w log_in (inr (file, good, verdict)) =
    inr (record { file = file; good = good; log_in = log_in; verdict = verdict })
one_told problem_and_log t logs r v w log_in told = absurd told
one_told two_problems t logs r v w log_in told = absurd told
one_told representation t logs r v w log_in (inl refused) = inl (record { refused = refused; log_in = log_in })
one_told representation t logs r v w log_in (inr (rep, good, verdict)) =
    inr (record { rep = rep; good = good; log_in = log_in; verdict = verdict })
one_told representation_and_log t logs r v w log_in told = absurd told

pub one_replies : (t : Task) (logs made : Bool) (v w : Sources) (x : Result Reply Status) → logs ≡ made → Uncalled v.log_in w.log_in →
    IfOk x (λ r. OneTold (texts_of t) t made r v.problem w.problem) → IfOk x (λ r. RepliesTo (texts_of t) t logs r v w)
one_replies t logs made v w (Ok r) is log_in told =
    subst (λ (b : Bool). RepliesTo (texts_of t) t b r v w) (sym is) (one_told (texts_of t) t made r v w log_in told)
one_replies t logs made v w (Err s) is log_in told = tt

one_failed : (t : Task) (s : Status) (v w : Sources) → ReadsOne t → Uncalled v.log_in w.log_in →
    HaltsReading false problem_limit s v.problem w.problem → HaltsFor (texts_of t) s v w
one_failed t s v w (inl is) log_in (inl wanting) =
    subst (λ (y : Texts). HaltsFor y s v w) (sym is) (inl (wanting.0, record { taken = wanting.1; log_in = log_in }))
one_failed t s v w (inr is) log_in (inl wanting) =
    subst (λ (y : Texts). HaltsFor y s v w) (sym is) (inl (wanting.0, record { taken = wanting.1; log_in = log_in }))
one_failed t s v w (inl is) log_in (inr failed) =
    subst (λ (y : Texts). HaltsFor y s v w) (sym is) (inr (record { failed = failed; log_in = log_in }))
one_failed t s v w (inr is) log_in (inr failed) =
    subst (λ (y : Texts). HaltsFor y s v w) (sym is) (inr (record { failed = failed; log_in = log_in }))

pub one_halts : (t : Task) (v w : Sources) (x : Result Reply Status) → ReadsOne t → Uncalled v.log_in w.log_in →
    IfErr x (λ s. HaltsReading false problem_limit s v.problem w.problem) → IfErr x (λ s. HaltsFor (texts_of t) s v w)
one_halts t v w (Ok r) reads log_in halts = tt
one_halts t v w (Err s) reads log_in halts = one_failed t s v w reads log_in halts

-- ---- a run
-- where the words name no log, wanting is written
no_log_written : (f : Files) → log_out_path f ≡ None → writes_log f ≡ false
no_log_written none is = refl
no_log_written (one p) is = refl
no_log_written (two p s) is = refl
no_log_written (logged p l) is = absurd (cc)

pub shape_quiet : (s : Shape) (r : Reply) (v w : Sources) → log_out_path s.files ≡ None → Replies s r v w → r.log ≡ None
shape_quiet s r v w is replies =
    quiet (texts_of s.task) s.task r v w (subst (λ (b : Bool). RepliesTo (texts_of s.task) s.task b r v w) (no_log_written s.files is) replies)
