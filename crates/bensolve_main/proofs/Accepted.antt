-- The log that `solve FILE LOG` or `dual FILE LOG` writes is accepted by `check FILE LOG`, with the
-- same report.
use Rattle.std.proofs.Common.{◌≡◌, ℕ, ◌≤◌, List, length, Option, Some, None, true, false, refl, inl, inr, subst, sym, ◌∙◌, ap, arith}
use Rattle.vlp_reader.specs.FirstFault.{Reads}
use Rattle.vlp_problem.specs.declared.problem.Problem.{Problem}
use Rattle.deriv_log.specs.Laws.{IsTextOf}
use Rattle.deriv_log.specs.LogText.{log_text}
use Rattle.deriv_log.specs.declared.entry.Entry.{Entry}
use Rattle.deriv_log.proofs.Laws.{one_reading}
use Rattle.log_versions.specs.Upgrade.{upgraded}
use Rattle.log_versions.specs.Written.{Proves}
use Rattle.commands.specs.Tasks.{Task, shape}
use Rattle.commands.specs.Tasks.Task.{check, dual, solve}
use Rattle.commands.specs.Tasks.Files.{logged}
use Rattle.solver.specs.Accepted.{PassesAs}
use Rattle.solver.specs.Replies.{SolveVerdict, Solved}
use Rattle.solver.proofs.Accepted.{is_accepted}
use Rattle.solver.proofs.Replies.{dual_solves, unsolved_not_done}
use Rattle.commands.specs.Codes.{code_of}
use Rattle.commands.specs.declared.reply.Reply.{Reply}
use Rattle.commands.specs.declared.status.Status.{Status}
use Rattle.commands.specs.declared.status.Status.TheVariants.{Done}
use Rattle.bensolve_main.specs.Accepted.{TellsBoth, IsAcceptedAs, WritesAccepted}
use Rattle.bensolve_main.specs.Check.{CheckVerdict, Proved}
use Rattle.bensolve_main.specs.Deliver.{Delivers, DeliversWith, Sends}
use Rattle.bensolve_main.specs.Outcome.{HaltsFor, Outcome, RepliesTo, TellsOfLog}
use Rattle.bensolve_main.specs.Reading.{FileRefused, GoodFile, problem_limit, log_limit}
use Rattle.bensolve_main.specs.Tasks.{TellsFile}
use Rattle.bensolve_main.specs.Tasks.Texts.{problem, problem_and_log}
use Rattle.bensolve_main.specs.World.{Channel, World, Written, sources_of}
use Rattle.bensolve_main.proofs.Complete.{PassingTexts, same_bytes, texts_answered, told_reads}
use Rattle.bensolve_main.proofs.Outcomes.{IsWriteFault, delivered_as, quiet}

-- the bytes are within the limit of a problem and read as one, and of each problem as which they read
-- these entries pass with this report
record PassesBytes (report problem : List ℕ) (entries : List Entry) : Type 0 where
  within : length problem ≤ problem_limit
  file : Problem
  reads : Reads problem file
  passes : (file : Problem) → Reads problem file → PassesAs report file entries

-- ---- a run of `check`
-- of a reply with an answer
proved : (file : Problem) (bytes : List ℕ) (r : Reply) → r.status ≡ Done → CheckVerdict file bytes r → Proved file bytes r
proved file bytes r done (inl p) = p
proved file bytes r done (inr (inl none)) = absurd (omega (arith, ap (λ (s : Status). code_of s) (sym done ∙ none.status)))
proved file bytes r done (inr (inr (inl fails))) = absurd (omega (arith, ap (λ (s : Status). code_of s) (sym done ∙ fails.status)))
proved file bytes r done (inr (inr (inr stops))) = absurd (omega (arith, ap (λ (s : Status). code_of s) (sym done ∙ stops.status)))

refused_not_done : (r : Reply) (old new : Channel) → r.status ≡ Done → FileRefused r old new → ⊥
refused_not_done r old new done (inl much) = omega (arith, ap (λ (s : Status). code_of s) (sym done ∙ much.status))
refused_not_done r old new done (inr none) = omega (arith, ap (λ (s : Status). code_of s) (sym done ∙ none.status))

log_read : (r : Reply) (v w : World) → r.status ≡ Done → RepliesTo problem_and_log check false r (sources_of v) (sources_of w) →
    TellsOfLog check r (sources_of v) (sources_of w)
log_read r v w done (inl refused) = absurd (refused_not_done r v.problem w.problem done refused.refused)
log_read r v w done (inr (inl much)) = absurd (omega (arith, ap (λ (s : Status). code_of s) (sym done ∙ much.much.status)))
log_read r v w done (inr (inr tells)) = tells

module _ (report problem : List ℕ) (entries : List Entry) (passing : PassesBytes report problem entries) where
  texts_pass : (v : World) → TellsBoth problem (log_text entries) v → PassingTexts v
  texts_pass v tells = record {
    bytes = problem;
    problem = tells.problem;
    problem_within = passing.within;
    file = passing.file;
    reads = passing.reads;
    log_bytes = log_text entries;
    log = tells.log;
    log_within = tells.log_within;
    passes = λ file reads. record {
      entries = entries;
      log = (passing.passes file reads).text;
      passes = (passing.passes file reads).passes;
    };
  }

  -- the report of the answer that was proved is this one
  same_report : (r : Reply) (v w : World) → TellsBoth problem (log_text entries) v → r.status ≡ Done →
      TellsOfLog check r (sources_of v) (sources_of w) → r.text ≡ report
  same_report r v w tells done read =
      let file = read.file in
      let p : Proved file read.bytes r = proved file read.bytes r done read.verdict in
      let reads : Reads problem file = told_reads problem file v.problem w.problem tells.problem read.good in
      let is_text : IsTextOf (log_text entries) p.entries =
      subst (λ (l : List ℕ). IsTextOf l p.entries) (same_bytes v.log_in.bytes w.log_in.bytes log_limit (log_text entries) read.bytes tells.log read.read) p.log in
      let passes : PassesAs report file entries = passing.passes file reads in
      let same : p.entries ≡ entries = one_reading.one_log (log_text entries) p.entries entries is_text passes.text in
      p.report
      ∙ passes.reports p.answer (subst (λ (es : List Entry). Proves file es p.answer) same p.proves)

  -- what `check` replied is this report, with `Done`
  sends_report : (r : Reply) (result : Status) (v w : World) → TellsBoth problem (log_text entries) v →
      RepliesTo problem_and_log check false r (sources_of v) (sources_of w) → Delivers r result v w →
      Sends false report Done result v.out w.out
  sends_report r result v w tells replies delivers =
      let done : r.status ≡ Done = texts_answered check false r v w (texts_pass v tells) replies in
      let no_log : r.log ≡ None = quiet problem_and_log check r (sources_of v) (sources_of w) replies in
      let sent : DeliversWith None r.status r.text result v w =
      subst (λ (l : Option (List ℕ)). DeliversWith l r.status r.text result v w) no_log delivers in
      subst (λ (s : Status). Sends false report s result v.out w.out) done
      (subst (λ (t : List ℕ). Sends false t r.status result v.out w.out)
      (same_report r v w tells done (log_read r v w done replies)) sent.0)

  accepted_as : IsAcceptedAs check report problem (log_text entries)
  accepted_as = λ path log_path result v w tells outcome.
      elim outcome [
        | inl made ↦ inl (sends_report made.0 result v w tells made.1 made.2)
        | inr halts ↦ inr halts
      ]

-- ---- a run of `solve FILE LOG` or `dual FILE LOG`
-- both texts were written whole
pub both_written : (text log : List ℕ) (v w : World) → DeliversWith (Some log) Done text Done v w →
    Written text v.out w.out × Written log v.log_out w.log_out
both_written text log v w delivers =
    elim delivers [
      | inl sent ↦ elim sent.1 [
        | inl whole ↦ (sent.0, whole.1)
        | inr failed ↦ absurd (subst (λ (s : Status). IsWriteFault s) (sym failed.1) tt)
      ]
      | inr failed ↦ absurd (subst (λ (s : Status). IsWriteFault s) (sym failed.0.1) tt)
    ]

solved_accepted : (file : Problem) (r : Reply) (v w : World) → GoodFile file v.problem w.problem →
    Solved true file r → DeliversWith r.log Done r.text Done v w → WritesAccepted check v w
solved_accepted file r v w good solved delivers =
    let s = solved.solution in
    let entries = upgraded file.objs s.entries in
    let written = both_written r.text (log_text entries) v w
    (subst (λ (l : Option (List ℕ)). DeliversWith l Done r.text Done v w) solved.logged.printed delivers) in
    record {
      problem = good.bytes;
      read = good.read;
      report = r.text;
      reported = written.0;
      log = log_text entries;
      logged = written.1;
      accepted = accepted_as r.text good.bytes entries (record {
        within = good.read.within;
        file = file;
        reads = good.reads;
        passes = λ g reads. subst (λ (t : List ℕ). PassesAs t g entries) (sym solved.report)
            (is_accepted file s solved.right good.bytes g good.reads reads (solved.logged.is_log refl));
      });
    }

-- of a task of which such a reply says what one of `solve` says
replied_accepted : (t : Task) → ((file : Problem) (r : Reply) → TellsFile t true file r → SolveVerdict true file r) →
    (r : Reply) (v w : World) → RepliesTo problem t true r (sources_of v) (sources_of w) →
    Delivers r Done v w → WritesAccepted check v w
replied_accepted t solves r v w replies delivers =
    let done : Done ≡ r.status = delivered_as r.log r.status Done r.text v w (λ h. h) delivers in
    elim replies [
      | inl refused ↦ absurd (refused_not_done r v.problem w.problem (sym done) refused.refused)
      | inr tells ↦ elim (solves tells.file r tells.verdict) [
        | inl solved ↦
            solved_accepted tells.file r v w tells.good solved
            (subst (λ (s : Status). DeliversWith r.log s r.text Done v w) (sym done) delivers)
        | inr unsolved ↦ absurd (unsolved_not_done tells.file r unsolved (sym done))
      ]
    ]

halts_not_done : (v w : World) → HaltsFor problem Done (sources_of v) (sources_of w) → ⊥
halts_not_done v w (inl none) = omega (arith, ap (λ (s : Status). code_of s) none.0)
halts_not_done v w (inr failed) = omega (arith, ap (λ (s : Status). code_of s) failed.failed.status)

pub solve_accepted : (file log : List ℕ) (v w : World) → Outcome (shape solve (logged file log)) Done v w → WritesAccepted check v w
solve_accepted file log v w outcome =
    elim outcome [
      | inl made ↦ replied_accepted solve (λ f r told. told) made.0 v w made.1 made.2
      | inr halts ↦ absurd (halts_not_done v w halts.cause)
    ]

pub dual_accepted : (file log : List ℕ) (v w : World) → Outcome (shape dual (logged file log)) Done v w → WritesAccepted check v w
dual_accepted file log v w outcome =
    elim outcome [
      | inl made ↦ replied_accepted dual (dual_solves true) made.0 v w made.1 made.2
      | inr halts ↦ absurd (halts_not_done v w halts.cause)
    ]
