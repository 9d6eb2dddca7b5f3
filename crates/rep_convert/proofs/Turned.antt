-- A conversion after one more row has come into use.
use Rattle.std.proofs.Common.{◌≡◌, ℕ, suc, ◌<◌, List, [], ◌∷◌, ◌++◌, map, length, All, Bool, Contains, IsTrue, refl, sym, ap, ap₂, ◌∙◌, subst, false, not, ◌&&◌, ◌||◌, nat_lt}
use Rattle.std.proofs.lemmas.List.{map-append}
use Rattle.std.proofs.lemmas.List.Elements.{All-cons}
use Rattle.std.proofs.lemmas.List.Folds.{list_any-append}
use Rattle.exact_field.specs.Rational.{ℚ}
use Rattle.frac128.specs.Held.{is_held, held_zero}
use Rattle.polyhedra.specs.LiveList.{LiveList, Numbered, step, vectors}
use Rattle.polyhedra.specs.Vectors.{AreWide}
use Rattle.polyhedra.proofs.Lists.{HasWidth}
use Rattle.polyhedra.proofs.Members.{Contains-map, member_of}
use Rattle.lineality.specs.Steps.{IsClear, IsStepWithout, list_without}
use Rattle.lineality.specs.Without.{open_count, without}
use Rattle.lineality.proofs.Marks.{length-marks}
use Rattle.lineality.proofs.Masks.{length-short}
use Rattle.lineality.proofs.StepsWithout.{IsGood, steps_without}
use Rattle.double_descr.specs.Adding.{AreHeld, add_blocks}
use Rattle.double_descr.specs.State.{State as Description}
use Rattle.word_lines.specs.Grammar.{is_formed}
use Rattle.word_lines.specs.declared.part.LogPair.{LogPair}
use Rattle.log_rules.specs.Events.Event.{test}
use Rattle.log_rules.specs.Live.{contains, log_pair, required_pairs}
use Rattle.log_rules.specs.declared.rule.Rule.TheVariants as rule
use Rattle.overflows.proofs.Making.{generator_laws}
use Rattle.rep_conv.specs.Events.{IsHeldStep, add_events, added_events, events}
use Rattle.rep_conv.specs.Live.{State, after, rows_in_use, state}
use Rattle.rep_conv.specs.Meets.{Meets, has_start, in_order, is_start}
use Rattle.rep_conv.specs.Rows.{has_rows, row_at, text_rows}
use Rattle.rep_conv.proofs.Standing.{rules_keep_description}
use Rattle.rep_text.specs.ConvText.{conv_grammar}
use Rattle.rep_text.specs.declared.conv.ConvEntry.{ConvEntry}
use Rattle.rep_text.specs.declared.conv.ConvEntry.TheVariants.{Add}
use Rattle.rep_text.specs.declared.rep.Rep.{Rep}
use Rattle.rep_convert.specs.Lines.{AreLinesOf, marks_of}
use Rattle.rep_convert.specs.Standing.{IsOpenLog, StandsAt, line_places}
use Rattle.rep_convert.proofs.HeldSteps.{added_held}
use Rattle.rep_convert.proofs.Growing.{open_more, state_more}

start_stays : (log : List ConvEntry) (k : ℕ) (pairs : List LogPair) → IsTrue (has_start log) → IsTrue (has_start (log ++ Add k pairs ∷ []))
start_stays log k pairs h = list_any-append is_start log (Add k pairs ∷ []) ∙ ap (λ (b : Bool). b || false) h

module _ (rep : Rep) (log : List ConvEntry) (dd : Description) (h : StandsAt rep log dd) (k : ℕ) (exists : k < length (text_rows rep))
    (unused : Contains (state rep log).used k → ⊥) where
  abbrev s : State
  s = state rep log

  abbrev bs : List Bool
  bs = line_places rep log

  abbrev row : List ℚ
  row = row_at rep k

  wide : AreWide (suc (length bs)) (vectors s.list.live)
  wide = subst (λ (n : ℕ). AreWide (suc n) (vectors s.list.live)) (sym (length-marks rep.width s.lines)) h.wide

  -- the step of the live generators of the log, and that without the places of the lines
  both_steps : IsStepWithout bs (rows_in_use rep s) s.list row
  both_steps = steps_without bs (rows_in_use rep s) s.list row wide h.clear

  good : (g : Numbered) → Contains s.list.live g → IsGood bs g.vector
  good g c = record {
    wide = member_of (HasWidth (suc (length bs))) (vectors s.list.live) g.vector wide.wide (Contains-map (λ (x : Numbered). x.vector) s.list.live g c);
    clear = member_of (IsClear bs) (vectors s.list.live) g.vector h.clear (Contains-map (λ (x : Numbered). x.vector) s.list.live g c);
  }

  module _ (short : List ℚ) (short_is : short ≡ without bs row) (pairs : List LogPair) (paired : pairs ≡ required_pairs dd.rows dd.list.live short)
      (held : All (AreHeld is_held) (add_blocks dd.rows dd.list.live short)) (written : IsTrue (is_formed conv_grammar (Add k pairs))) where
    abbrev new_log : List ConvEntry
    new_log = log ++ Add k pairs ∷ []

    required : pairs ≡ required_pairs (rows_in_use rep s) s.list.live row
    required = paired
        ∙ ap₂ (λ (rows : List (List ℚ)) (list : LiveList). required_pairs rows list.live short) h.rows h.list
        ∙ ap (required_pairs (map (without bs) (rows_in_use rep s)) (list_without bs s.list).live) short_is
        ∙ ap (map log_pair) (sym both_steps.same_pairs)

    meets : Meets rep log (Add k pairs)
    meets = record { order = h.started; rules = record { exists = exists; unused = unused; exactly = required } }

    short_held : All (AreHeld is_held) (add_blocks (map (without bs) (rows_in_use rep s)) (list_without bs s.list).live (without bs row))
    short_held =
        subst (λ (v : List ℚ). All (AreHeld is_held) (add_blocks (map (without bs) (rows_in_use rep s)) (list_without bs s.list).live v)) short_is
        (subst (λ (list : LiveList). All (AreHeld is_held) (add_blocks (map (without bs) (rows_in_use rep s)) list.live short)) h.list
        (subst (λ (rows : List (List ℚ)). All (AreHeld is_held) (add_blocks rows dd.list.live short)) h.rows held))

    steps_held : All (IsHeldStep is_held) (events rep log (Add k pairs))
    steps_held =
        let stands = (rules_keep_description rep log h.met).begun h.started in
        let all : All (IsHeldStep is_held) (added_events (rows_in_use rep s) s.list.live row pairs) =
        subst (λ (ps : List LogPair). All (IsHeldStep is_held) (added_events (rows_in_use rep s) s.list.live row ps)) (sym required)
        (added_held is_held held_zero bs row (rows_in_use rep s) s.list stands.live.rising.rises good both_steps.same_pairs short_held) in
        All-cons (IsHeldStep is_held) (test rule.Order (in_order (has_rows rep) log (Add k pairs))) (add_events rep s k pairs) tt
        (All-cons (IsHeldStep is_held) (test rule.Index (nat_lt k (length (text_rows rep)) && not (contains s.used k)))
        (added_events (rows_in_use rep s) s.list.live row pairs) tt all)

    turned_open : IsOpenLog rep new_log
    turned_open = open_more rep log (Add k pairs) h.open_log meets steps_held written refl

    stands : state rep new_log ≡ after rep s (Add k pairs)
    stands = state_more rep log (Add k pairs)

    pub turned_lines : (state rep new_log).lines ≡ s.lines
    turned_lines = ap (λ (a : State). a.lines) stands

    pub turned_used : (state rep new_log).used ≡ s.used ++ k ∷ []
    turned_used = ap (λ (a : State). a.used) stands

    places_stay : line_places rep new_log ≡ bs
    places_stay = ap (marks_of rep) turned_lines

    turned_rows : rows_in_use rep (state rep new_log) ≡ rows_in_use rep s ++ row ∷ []
    turned_rows = ap (map (row_at rep)) turned_used ∙ map-append (row_at rep) s.used (k ∷ [])

    turned_list : (state rep new_log).list ≡ step (rows_in_use rep s) s.list row
    turned_list = ap (λ (a : State). a.list) stands

    -- and the log stands beside the double description with the row
    pub turned : (new : Description) → new ≡ record { width = dd.width; rows = dd.rows ++ short ∷ []; list = step dd.rows dd.list short } →
        StandsAt rep new_log new
    turned new grown = subst (λ (d : Description). StandsAt rep new_log d) (sym grown) (record {
      open_log = turned_open;
      started = start_stays log k pairs h.started;
      lines = subst (AreLinesOf rep) (sym turned_lines) h.lines;
      wide = subst (λ (list : LiveList). AreWide (suc rep.width) (vectors list.live)) (sym turned_list)
          (subst (λ (n : ℕ). AreWide (suc n) (vectors (step (rows_in_use rep s) s.list row).live)) (length-marks rep.width s.lines) both_steps.wide);
      clear = subst (λ (list : LiveList). All (IsClear (line_places rep new_log)) (vectors list.live)) (sym turned_list)
          (subst (λ (cs : List Bool). All (IsClear cs) (vectors (step (rows_in_use rep s) s.list row).live)) (sym places_stay) both_steps.clear);
      same = record {
        width = h.width ∙ ap (λ (cs : List Bool). suc (open_count cs)) (sym places_stay);
        rows = ap₂ (λ (rows : List (List ℚ)) (r : List ℚ). rows ++ r ∷ []) h.rows short_is
            ∙ sym (map-append (without bs) (rows_in_use rep s) (row ∷ []))
            ∙ ap₂ (λ (cs : List Bool) (rows : List (List ℚ)). map (without cs) rows) (sym places_stay) (sym turned_rows);
        list = ap₂ (λ (rows : List (List ℚ)) (list : LiveList). step rows list short) h.rows h.list
            ∙ ap (step (map (without bs) (rows_in_use rep s)) (list_without bs s.list)) short_is
            ∙ sym both_steps.same
            ∙ ap₂ (λ (cs : List Bool) (list : LiveList). list_without cs list) (sym places_stay) (sym turned_list);
      };
      made = generator_laws.grows dd.width dd.rows dd.list short h.made;
    })

-- a row without the entries at marked places has as many entries as the double description has columns
pub short_wide : (rep : Rep) (log : List ConvEntry) (dd : Description) → StandsAt rep log dd → (v : List ℚ) → length v ≡ suc rep.width →
    length (without (line_places rep log) v) ≡ dd.width
short_wide rep log dd h v wide =
    length-short (line_places rep log) v (wide ∙ ap suc (sym (length-marks rep.width (state rep log).lines))) ∙ sym h.width
