-- What stands at the begin of a conversion.
use Rattle.std.proofs.Common.{◌≡◌, ◌<◌, ℕ, List, [], ◌∷◌, ◌++◌, map, length, All, Contains, IsTrue, sym, ap, ◌∙◌, subst}
use Rattle.std.proofs.lemmas.List.Elements.{All-tail}
use Rattle.exact_field.specs.Rational.{ℚ}
use Rattle.frac128.specs.Held.{is_held}
use Rattle.polyhedra.proofs.Lists.{all_from_map}
use Rattle.polyhedra.proofs.Members.{member_of}
use Rattle.lin_rows.specs.Sums.{AreHeld}
use Rattle.double_descr.specs.State.{State as Description}
use Rattle.word_lines.specs.Grammar.{is_formed}
use Rattle.rep_text.specs.ConvText.{conv_grammar}
use Rattle.rep_text.specs.declared.conv.ConvEntry.{ConvEntry}
use Rattle.rep_text.specs.declared.conv.ConvEntry.TheVariants.{Conv, Line, Start}
use Rattle.rep_text.specs.declared.rep.Rep.{Rep}
use Rattle.rep_conv.specs.Live.{State, state}
use Rattle.rep_conv.specs.Rows.{text_rows}
use Rattle.rep_convert.specs.Lines.{AreLinesOf}
use Rattle.rep_convert.specs.Standing.{StandsAt}
use Rattle.rep_convert.specs.Started.{IsStarted}
use Rattle.rep_convert.proofs.Joined.{joined}
use Rattle.rep_convert.proofs.LineEntries.{lines_log, lines_open}
use Rattle.rep_convert.proofs.StartEntry.{stands_at, state_is}
use Rattle.rep_convert.proofs.Starting.{some_rows}

module _ (rep : Rep) (some : 0 < length (text_rows rep)) (lines : List (List ℚ)) (are : AreLinesOf rep lines)
    (held : All (λ r. All (λ d. AreHeld is_held r d (length r)) lines) (text_rows rep)) (picks : List ℕ) (gens : List (List ℚ)) (dd : Description)
    (started : IsStarted rep lines picks gens dd) (first log : List ConvEntry) (first_is : first ≡ lines_log lines)
    (log_is : log ≡ first ++ Start picks (joined gens) ∷ []) where
  whole : log ≡ lines_log lines ++ Start picks (joined gens) ∷ []
  whole = log_is ∙ ap (λ (es : List ConvEntry). es ++ Start picks (joined gens) ∷ []) first_is

  pub begun_stands : All (λ e. IsTrue (is_formed conv_grammar e)) first → IsTrue (is_formed conv_grammar (Start picks (joined gens))) → StandsAt rep log dd
  begun_stands written start_written =
      subst (λ (es : List ConvEntry). StandsAt rep es dd) (sym whole)
      (stands_at rep (some_rows rep some) lines are picks gens dd started (lines_open rep (some_rows rep some) lines are held each) start_written)
    where
      each : (d : List ℚ) → Contains lines d → IsTrue (is_formed conv_grammar (Line d))
      each d c = member_of (λ (v : List ℚ). IsTrue (is_formed conv_grammar (Line v))) lines d
          (all_from_map (λ e. IsTrue (is_formed conv_grammar e)) Line lines
          (All-tail (λ e. IsTrue (is_formed conv_grammar e)) (Conv 1) (map Line lines)
          (subst (All (λ e. IsTrue (is_formed conv_grammar e))) first_is written))) c

  begun_state : state rep log ≡ record { lines = lines; used = picks; list = (state rep log).list }
  begun_state = ap (λ (s : State). record { lines = s.lines; used = s.used; list = (state rep log).list })
      (ap (state rep) whole ∙ state_is rep (some_rows rep some) lines are picks gens dd started)

  pub begun_lines : (state rep log).lines ≡ lines
  begun_lines = ap (λ (s : State). s.lines) begun_state

  pub begun_used : (state rep log).used ≡ picks
  begun_used = ap (λ (s : State). s.used) begun_state
