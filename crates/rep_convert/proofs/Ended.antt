-- A conversion that has ended, with rows and without.
use Rattle.std.proofs.Common.{◌≡◌, ◌≢◌, ℕ, suc, ◌<◌, ◌==◌, List, [], ◌∷◌, ◌++◌, map, length, All, Bool, true, false, true≢false, not, IsTrue, refl, sym, ap, ap₂, ◌∙◌, subst, arith}
use Rattle.std.proofs.lemmas.Bool.{ne_eqb}
use Rattle.std.proofs.lemmas.List.Elements.{All-cons, All-head, All-nil, All-push, All-tail}
use Rattle.exact_field.specs.Rational.{ℚ}
use Rattle.frac128.specs.Held.{is_held}
use Rattle.polyhedra.specs.LiveList.{LiveList, Numbered, vectors}
use Rattle.polyhedra.proofs.Members.{pairs-nil}
use Rattle.polyhedra.proofs.Tests.{both_hold, true-list_all}
use Rattle.lineality.specs.Steps.{IsClear, numbered_without}
use Rattle.lineality.specs.Without.{with_zeros}
use Rattle.double_descr.specs.State.{State as Description}
use Rattle.log_rules.specs.Events.Event.{test}
use Rattle.log_rules.specs.declared.rule.Rule.{Rule}
use Rattle.log_rules.specs.declared.rule.Rule.TheVariants as rule
use Rattle.word_lines.specs.Grammar.{ends_once, is_formed}
use Rattle.rep_conv.specs.Converted.{Gives}
use Rattle.rep_conv.specs.Events.{AllHeld, IsHeldStep, all_used, events}
use Rattle.rep_conv.specs.Giving.{IsGiven}
use Rattle.rep_conv.specs.Live.{State, state}
use Rattle.rep_conv.specs.Meets.{AllMeet, Meets, MeetsEnd, has_start, in_order}
use Rattle.rep_conv.specs.Rows.{has_rows, text_rows}
use Rattle.rep_conv.proofs.EventRules.{events_are_rules}
use Rattle.rep_conv.proofs.GivenRows.{given}
use Rattle.rep_conv.proofs.NeededRows.{conversion_is_right}
use Rattle.rep_conv.proofs.Standing.{rules_keep_description}
use Rattle.rep_text.specs.ConvText.{conv_grammar, is_conv_end}
use Rattle.rep_text.specs.declared.conv.ConvEntry.{ConvEntry}
use Rattle.rep_text.specs.declared.conv.ConvEntry.TheVariants.{Conv, End}
use Rattle.rep_text.specs.declared.rep.Rep.{Rep}
use Rattle.rep_convert.specs.Standing.{IsConversion, StandsAt, line_places}
use Rattle.rep_convert.proofs.Growing.{each_more, each_none, state_more}

-- ---- the one end
ends_last : (log : List ConvEntry) → All (λ (e : ConvEntry). IsTrue (not (is_conv_end e))) log → ends_once is_conv_end (log ++ End ∷ []) ≡ true
ends_last [] h = refl
ends_last (e ∷ []) h =
    both_hold (not (is_conv_end e)) true (All-head (λ (f : ConvEntry). IsTrue (not (is_conv_end f))) e [] h) refl
ends_last (e ∷ f ∷ log) h =
    both_hold (not (is_conv_end e)) (ends_once is_conv_end (f ∷ (log ++ End ∷ [])))
    (All-head (λ (g : ConvEntry). IsTrue (not (is_conv_end g))) e (f ∷ log) h)
    (ends_last (f ∷ log) (All-tail (λ (g : ConvEntry). IsTrue (not (is_conv_end g))) e (f ∷ log) h))

-- the steps of an entry are held
abbrev Held : Rep → List ConvEntry → ConvEntry → Type 0
Held rep before e = All (IsHeldStep is_held) (events rep before e)

-- tests have no step
tests_held : (r q : Rule) (a b : Bool) → All (IsHeldStep is_held) (test r a ∷ test q b ∷ [])
tests_held r q a b =
    All-cons (IsHeldStep is_held) (test r a) (test q b ∷ []) tt (All-cons (IsHeldStep is_held) (test q b) [] tt (All-nil (IsHeldStep is_held)))

-- ---- any log that ends
module _ (rep : Rep) (before : List ConvEntry) (met : AllMeet rep (before ++ End ∷ [])) (held : AllHeld is_held rep (before ++ End ∷ []))
    (written : All (λ (e : ConvEntry). IsTrue (is_formed conv_grammar e)) before) (unended : All (λ (e : ConvEntry). IsTrue (not (is_conv_end e))) before) where
  -- with the other representation that it gives it is a conversion
  pub conversion : (found : Rep) → Gives rep (before ++ End ∷ []) found → IsConversion rep (record { rep = found; log = before ++ End ∷ [] })
  conversion found g = record {
    accepted = (events_are_rules is_held rep (before ++ End ∷ [])).1 (met, held);
    gives = g;
    other = conversion_is_right rep (before ++ End ∷ []) found (record { meet = met; before = before; ends = refl }) g;
    whole = record {
      formed = true-list_all (is_formed conv_grammar) (before ++ End ∷ [])
          (All-push (λ (e : ConvEntry). IsTrue (is_formed conv_grammar e)) before End written refl);
      ends = ends_last before unended;
    };
  }

-- ---- with rows
some_rows : (rep : Rep) → 0 < length (text_rows rep) → has_rows rep ≡ true
some_rows rep some = ap not (ne_eqb (length (text_rows rep)) 0 (λ e. omega (arith, some, e)))

module _ (rep : Rep) (log : List ConvEntry) (dd : Description) (h : StandsAt rep log dd) (some : 0 < length (text_rows rep)) (all : MeetsEnd rep (state rep log)) where
  meets : Meets rep log End
  meets = record {
    order = subst (λ (b : Bool). IsTrue (in_order b log End)) (sym (some_rows rep some)) h.started;
    rules = all;
  }

  met : AllMeet rep (log ++ End ∷ [])
  met = each_more (Meets rep) log End h.met meets

  held : AllHeld is_held rep (log ++ End ∷ [])
  held = each_more (Held rep) log End h.held (tests_held rule.Order rule.Missing (in_order (has_rows rep) log End) (all_used rep (state rep log)))

  stands : state rep (log ++ End ∷ []) ≡ state rep log
  stands = state_more rep log End

  abbrev s : State
  s = state rep log

  abbrev bs : List Bool
  bs = line_places rep log

  -- the live generators of the log, by those of the double description
  filled : (live : List Numbered) → All (IsClear bs) (vectors live) → map (with_zeros bs) (vectors (map (numbered_without bs) live)) ≡ vectors live
  filled [] c = refl
  filled (g ∷ live) c =
      ap₂ (λ (v : List ℚ) (vs : List (List ℚ)). v ∷ vs) (All-head (IsClear bs) g.vector (vectors live) c)
      (filled live (All-tail (IsClear bs) g.vector (vectors live) c))

  -- what is read off
  pub given_off : (lines gens : List (List ℚ)) → lines ≡ s.lines → gens ≡ map (with_zeros bs) (vectors dd.list.live) →
      IsGiven rep.width (state rep (log ++ End ∷ [])) lines gens
  given_off lines gens lines_are gens_are =
      let vectors_are : gens ≡ vectors s.list.live =
      gens_are ∙ ap (λ (list : LiveList). map (with_zeros bs) (vectors list.live)) h.list ∙ filled s.list.live h.clear in
      subst (λ (a : State). IsGiven rep.width a lines gens) (sym stands)
      (subst (λ (ls : List (List ℚ)). IsGiven rep.width s ls gens) (sym lines_are)
      (subst (λ (vs : List (List ℚ)). IsGiven rep.width s s.lines vs) (sym vectors_are)
      (given rep s (has_start log) (rules_keep_description rep log h.met) (λ e. absurd (true≢false (sym h.started ∙ e))))))

  pub ended : (new : List ConvEntry) → new ≡ log ++ End ∷ [] → (found : Rep) → Gives rep (log ++ End ∷ []) found →
      IsConversion rep (record { rep = found; log = new })
  ended new is found g = subst (λ (es : List ConvEntry). IsConversion rep (record { rep = found; log = es })) (sym is)
      (conversion rep log met held h.written h.unended found g)

-- ---- without rows
module _ (rep : Rep) (none : text_rows rep ≡ []) where
  abbrev pub short_log : List ConvEntry
  short_log = Conv 1 ∷ End ∷ []

  pub no_rows : has_rows rep ≡ false
  no_rows = ap (λ (rows : List (List ℚ)). not (length rows == 0)) none

  conv_meets : Meets rep [] (Conv 1)
  conv_meets = record { order = refl; rules = refl }

  end_meets : Meets rep (Conv 1 ∷ []) End
  end_meets = record {
    order = subst (λ (b : Bool). IsTrue (in_order b (Conv 1 ∷ []) End)) (sym no_rows) refl;
    rules = λ k l. let few : k < length (text_rows rep) = l in
        absurd (below_none k (subst (λ (rows : List (List ℚ)). k < length rows) none few));
  }
    where
      below_none : (k : ℕ) → k < 0 → ⊥
      below_none k l = omega (arith, l)

  pub short_given : IsGiven rep.width (state rep short_log) [] []
  short_given = record {
    lines_are = refl;
    live_are = refl;
    lines_wide = All-nil (λ v. length v ≡ suc rep.width);
    wide = All-nil (λ v. length v ≡ suc rep.width);
    apart = pairs-nil (λ a b. a ≢ b);
  }

  pub short_conversion : (new : List ConvEntry) → new ≡ short_log → (found : Rep) → Gives rep short_log found → IsConversion rep (record { rep = found; log = new })
  short_conversion new is found g = subst (λ (es : List ConvEntry). IsConversion rep (record { rep = found; log = es })) (sym is)
      (conversion rep (Conv 1 ∷ [])
      (each_more (Meets rep) (Conv 1 ∷ []) End (each_more (Meets rep) [] (Conv 1) (each_none (Meets rep)) conv_meets) end_meets)
      (each_more (Held rep) (Conv 1 ∷ []) End (each_more (Held rep) [] (Conv 1) (each_none (Held rep)) (tests_held rule.Order rule.Version (in_order (has_rows rep) [] (Conv 1)) (1 == 1)))
      (tests_held rule.Order rule.Missing (in_order (has_rows rep) (Conv 1 ∷ []) End) (all_used rep (state rep (Conv 1 ∷ [])))))
      (All-cons (λ (e : ConvEntry). IsTrue (is_formed conv_grammar e)) (Conv 1) [] refl (All-nil (λ (e : ConvEntry). IsTrue (is_formed conv_grammar e))))
      (All-cons (λ (e : ConvEntry). IsTrue (not (is_conv_end e))) (Conv 1) [] refl (All-nil (λ (e : ConvEntry). IsTrue (not (is_conv_end e)))))
      found g)
