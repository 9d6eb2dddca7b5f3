-- The log that `vertices FILE LOG` or `facets FILE LOG` writes is accepted by `reconv FILE LOG`, with
-- the same text.
use Rattle.std.proofs.Common.{◌≡◌, ℕ, ◌≤◌, Bool, List, length, Option, None, true, false, inl, inr, subst, sym, ◌∙◌, ap, arith}
use Rattle.word_lines.specs.Grammar.{entries_text}
use Rattle.rep_text.specs.ConvText.{conv_grammar}
use Rattle.rep_text.specs.RepText.{IsRepText}
use Rattle.rep_text.specs.declared.rep.Rep.{Rep}
use Rattle.replies.specs.Accepted.{PassesAs}
use Rattle.replies.specs.Checking.{ReconvVerdict, Reconverted}
use Rattle.replies.specs.Turning.{Turned, TurnVerdict}
use Rattle.replies.proofs.Passing.{conversions_pass}
use Rattle.commands.specs.Tasks.{Task, shape}
use Rattle.commands.specs.Tasks.Task.{facets, reconv, vertices}
use Rattle.commands.specs.Tasks.Files.{logged}
use Rattle.commands.specs.Codes.{code_of}
use Rattle.commands.specs.declared.reply.Reply.{Reply}
use Rattle.commands.specs.declared.status.Status.{Status}
use Rattle.commands.specs.declared.status.Status.TheVariants.{Done}
use Rattle.bensolve_main.specs.Accepted.{TellsBoth, IsAcceptedAs, WritesAccepted}
use Rattle.bensolve_main.specs.Deliver.{Delivers, DeliversWith, Sends}
use Rattle.bensolve_main.specs.Outcome.{HaltsFor, Outcome, RepliesTo, TellsOfConv}
use Rattle.bensolve_main.specs.Reading.{GoodRep, RepRefused, problem_limit, log_limit}
use Rattle.bensolve_main.specs.Tasks.{TellsRep}
use Rattle.bensolve_main.specs.Tasks.Texts.{representation, representation_and_log}
use Rattle.bensolve_main.specs.World.{Channel, World, sources_of}
use Rattle.bensolve_main.proofs.Accepted.{both_written}
use Rattle.bensolve_main.proofs.Complete.{PassingConv, conv_texts_answered, same_bytes, told_rep}
use Rattle.bensolve_main.proofs.Outcomes.{delivered_as, quiet}

-- the bytes are within the limit of a representation and the text of one, and for each of which they
-- are the text the log passes with this text
record PassesBytes (text bytes log : List ℕ) : Type 0 where
  within : length bytes ≤ problem_limit
  rep : Rep
  is_text : IsRepText bytes rep
  passes : (rep : Rep) → IsRepText bytes rep → PassesAs text rep log

-- ---- a run of `reconv`
-- of a reply with an answer
reconverted : (rep : Rep) (bytes : List ℕ) (r : Reply) → r.status ≡ Done → ReconvVerdict rep bytes r → Reconverted rep bytes r
reconverted rep bytes r done (inl p) = p
reconverted rep bytes r done (inr (inl none)) = absurd (omega (arith, ap (λ (s : Status). code_of s) (sym done ∙ none.status)))
reconverted rep bytes r done (inr (inr (inl fails))) = absurd (omega (arith, ap (λ (s : Status). code_of s) (sym done ∙ fails.status)))
reconverted rep bytes r done (inr (inr (inr stops))) = absurd (omega (arith, ap (λ (s : Status). code_of s) (sym done ∙ stops.status)))

refused_not_done : (r : Reply) (old new : Channel) → r.status ≡ Done → RepRefused r old new → ⊥
refused_not_done r old new done (inl much) = omega (arith, ap (λ (s : Status). code_of s) (sym done ∙ much.status))
refused_not_done r old new done (inr none) = omega (arith, ap (λ (s : Status). code_of s) (sym done ∙ none.status))

log_read : (r : Reply) (v w : World) → r.status ≡ Done → RepliesTo representation_and_log reconv false r (sources_of v) (sources_of w) →
    TellsOfConv reconv r (sources_of v) (sources_of w)
log_read r v w done (inl refused) = absurd (refused_not_done r v.problem w.problem done refused.refused)
log_read r v w done (inr (inl much)) = absurd (omega (arith, ap (λ (s : Status). code_of s) (sym done ∙ much.much.status)))
log_read r v w done (inr (inr tells)) = tells

module _ (text bytes log : List ℕ) (passing : PassesBytes text bytes log) where
  texts_pass : (v : World) → TellsBoth bytes log v → PassingConv v
  texts_pass v tells = record {
    bytes = bytes;
    problem = tells.problem;
    problem_within = passing.within;
    rep = passing.rep;
    is_text = passing.is_text;
    log_bytes = log;
    log = tells.log;
    log_within = tells.log_within;
    can = λ rep is_text. (passing.passes rep is_text).can;
  }

  -- what was reconverted has this text
  same_text : (r : Reply) (v w : World) → TellsBoth bytes log v → r.status ≡ Done →
      TellsOfConv reconv r (sources_of v) (sources_of w) → r.text ≡ text
  same_text r v w tells done read =
      let is_text : IsRepText bytes read.rep = told_rep bytes read.rep v.problem w.problem tells.problem read.good in
      let same : read.bytes ≡ log = same_bytes v.log_in.bytes w.log_in.bytes log_limit log read.bytes tells.log read.read in
      (passing.passes read.rep is_text).tells r
      (subst (λ (l : List ℕ). Reconverted read.rep l r) same (reconverted read.rep read.bytes r done read.verdict))

  -- what `reconv` replied is this text, with `Done`
  sends_text : (r : Reply) (result : Status) (v w : World) → TellsBoth bytes log v →
      RepliesTo representation_and_log reconv false r (sources_of v) (sources_of w) → Delivers r result v w →
      Sends false text Done result v.out w.out
  sends_text r result v w tells replies delivers =
      let done : r.status ≡ Done = conv_texts_answered reconv false r v w (texts_pass v tells) replies in
      let no_log : r.log ≡ None = quiet representation_and_log reconv r (sources_of v) (sources_of w) replies in
      let sent : DeliversWith None r.status r.text result v w =
      subst (λ (l : Option (List ℕ)). DeliversWith l r.status r.text result v w) no_log delivers in
      subst (λ (s : Status). Sends false text s result v.out w.out) done
      (subst (λ (t : List ℕ). Sends false t r.status result v.out w.out)
      (same_text r v w tells done (log_read r v w done replies)) sent.0)

  accepted_as : IsAcceptedAs reconv text bytes log
  accepted_as = λ path log_path result v w tells outcome.
      elim outcome [
        | inl made ↦ inl (sends_text made.0 result v w tells made.1 made.2)
        | inr halts ↦ inr halts
      ]

-- ---- a run of `vertices FILE LOG` or `facets FILE LOG`
turned_accepted : (rep : Rep) (r : Reply) (v w : World) → GoodRep rep v.problem w.problem →
    Turned true rep r → DeliversWith r.log Done r.text Done v w → WritesAccepted reconv v w
turned_accepted rep r v w good turned delivers =
    let log = entries_text conv_grammar turned.converted.log in
    let written = both_written r.text log v w
    (subst (λ (l : Option (List ℕ)). DeliversWith l Done r.text Done v w) turned.log delivers) in
    record {
      problem = good.bytes;
      read = good.read;
      report = r.text;
      reported = written.0;
      log = log;
      logged = written.1;
      accepted = accepted_as r.text good.bytes log (record {
        within = good.read.within;
        rep = rep;
        is_text = good.is_text;
        passes = λ same is_text. subst (λ (t : List ℕ). PassesAs t same log) (sym turned.text)
            (conversions_pass good.bytes rep same good.is_text is_text turned.converted turned.is);
      });
    }

verdict_accepted : (gens : Bool) (rep : Rep) (r : Reply) (v w : World) → GoodRep rep v.problem w.problem →
    r.status ≡ Done → TurnVerdict gens true rep r → DeliversWith r.log Done r.text Done v w → WritesAccepted reconv v w
verdict_accepted gens rep r v w good done (inl t) delivers =
    elim t.turns [
      | inl turned ↦ turned_accepted rep r v w good turned delivers
      | inr stopped ↦ absurd (omega (arith, ap (λ (s : Status). code_of s) (sym done ∙ stopped.status)))
    ]
verdict_accepted gens rep r v w good done (inr other) delivers =
    absurd (omega (arith, ap (λ (s : Status). code_of s) (sym done ∙ other.status)))

-- of a task whose replies are such verdicts
replied_accepted : (t : Task) (gens : Bool) → ((rep : Rep) (r : Reply) → TellsRep t true rep r → TurnVerdict gens true rep r) →
    (r : Reply) (v w : World) → RepliesTo representation t true r (sources_of v) (sources_of w) →
    Delivers r Done v w → WritesAccepted reconv v w
replied_accepted t gens turns r v w replies delivers =
    let done : Done ≡ r.status = delivered_as r.log r.status Done r.text v w (λ h. h) delivers in
    elim replies [
      | inl refused ↦ absurd (refused_not_done r v.problem w.problem (sym done) refused.refused)
      | inr tells ↦
          verdict_accepted gens tells.rep r v w tells.good (sym done) (turns tells.rep r tells.verdict)
          (subst (λ (s : Status). DeliversWith r.log s r.text Done v w) (sym done) delivers)
    ]

halts_not_done : (v w : World) → HaltsFor representation Done (sources_of v) (sources_of w) → ⊥
halts_not_done v w (inl none) = omega (arith, ap (λ (s : Status). code_of s) none.0)
halts_not_done v w (inr failed) = omega (arith, ap (λ (s : Status). code_of s) failed.failed.status)

pub vertices_accepted : (file log : List ℕ) (v w : World) → Outcome (shape vertices (logged file log)) Done v w → WritesAccepted reconv v w
vertices_accepted file log v w outcome =
    elim outcome [
      | inl made ↦ replied_accepted vertices false (λ rep r told. told) made.0 v w made.1 made.2
      | inr halts ↦ absurd (halts_not_done v w halts.cause)
    ]

pub facets_accepted : (file log : List ℕ) (v w : World) → Outcome (shape facets (logged file log)) Done v w → WritesAccepted reconv v w
facets_accepted file log v w outcome =
    elim outcome [
      | inl made ↦ replied_accepted facets true (λ rep r told. told) made.0 v w made.1 made.2
      | inr halts ↦ absurd (halts_not_done v w halts.cause)
    ]
