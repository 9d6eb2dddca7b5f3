-- The entries of lines.
use Rattle.std.proofs.Common.{◌≡◌, suc, ◌<◌, ◌==◌, ◌&&◌, List, [], ◌∷◌, ◌++◌, map, length, All, AllPairs, Contains, true, false, not, IsTrue, refl, sym, ap, ◌∙◌, subst, fold, append_assoc, append-nil}
use Rattle.std.specs.List.{flat_map}
use Rattle.std.proofs.lemmas.List.{map-append}
use Rattle.std.proofs.lemmas.List.Elements.{All-nil, All-cons, All-append, Contains-append_right}
use Rattle.exact_field.specs.Rational.{ℚ, zero_ℚ, one_ℚ}
use Rattle.exact_field.specs.Vector.{dot, entry}
use Rattle.frac128.specs.Held.{is_held}
use Rattle.frac128.specs.Sparse.{is_zero}
use Rattle.polyhedra.specs.DoubleDescription.{leading}
use Rattle.polyhedra.proofs.Lists.{Contains-here, HasWidth}
use Rattle.polyhedra.proofs.Members.{member_of, pairs-head, pairs-tail}
use Rattle.polyhedra.proofs.Tests.{both_hold}
use Rattle.lineality.specs.Lines.{leading_place}
use Rattle.lin_rows.specs.Sums.{AreHeld}
use Rattle.log_rules.specs.AnswerEvents.{goes_on}
use Rattle.log_rules.specs.Events.{Event, dot_steps}
use Rattle.log_rules.specs.Events.Event.{test}
use Rattle.log_rules.specs.declared.rule.Rule.TheVariants as rule
use Rattle.word_lines.specs.Grammar.{is_formed}
use Rattle.rep_text.specs.ConvText.{conv_grammar, is_conv_end}
use Rattle.rep_text.specs.declared.conv.ConvEntry.{ConvEntry}
use Rattle.rep_text.specs.declared.conv.ConvEntry.TheVariants.{Conv, Line}
use Rattle.rep_text.specs.declared.rep.Rep.{Rep}
use Rattle.rep_conv.specs.Events.{IsHeldStep, events, tight_events}
use Rattle.rep_conv.specs.Live.{State, after, nothing, state}
use Rattle.rep_conv.specs.Meets.{Meets, MeetsLine, has_begun, has_start, in_order}
use Rattle.rep_conv.specs.Rows.{has_rows, text_rows}
use Rattle.rep_conv.proofs.SameSets.{some_is}
use Rattle.rep_conv.proofs.TextRows.{text_rows_wide}
use Rattle.rep_convert.specs.Lines.{AreLinesOf}
use Rattle.rep_convert.specs.Standing.{IsOpenLog}
use Rattle.rep_convert.proofs.Growing.{each_none, flat_held, open_more}
use Rattle.rep_convert.proofs.HeldProducts.{product_held}

-- the version and lines
abbrev pub lines_log : List (List ℚ) → List ConvEntry
lines_log lines = Conv 1 ∷ map Line lines

-- ---- what stands after them
lines_from : (rep : Rep) (s : State) (lines : List (List ℚ)) → fold (after rep) s (map Line lines) ≡ record s { lines = s.lines ++ lines }
lines_from rep s [] = ap (λ (ls : List (List ℚ)). record s { lines = ls }) (sym (append-nil s.lines))
lines_from rep s (d ∷ lines) = lines_from rep (record s { lines = s.lines ++ d ∷ [] }) lines
    ∙ ap (λ (ls : List (List ℚ)). record s { lines = ls }) (append_assoc s.lines (d ∷ []) lines)

pub lines_state : (rep : Rep) (lines : List (List ℚ)) → state rep (lines_log lines) ≡ record nothing { lines = lines }
lines_state rep lines = lines_from rep nothing lines

pub begun : (lines : List (List ℚ)) → has_begun (lines_log lines) ≡ true
begun lines = some_is (length (map Line lines))

pub unstarted : (lines : List (List ℚ)) → has_start (lines_log lines) ≡ false
unstarted [] = refl
unstarted (d ∷ lines) = unstarted lines

before_pairs : {X : Type 0} (R : X → X → Type 0) (done : List X) (d : X) (rest : List X) → AllPairs R (done ++ d ∷ rest) → All (λ e. R e d) done
before_pairs R [] d rest h = All-nil (λ e. R e d)
before_pairs R (x ∷ done) d rest h = All-cons (λ e. R e d) x done
    (member_of (R x) (done ++ d ∷ rest) d (pairs-head R x (done ++ d ∷ rest) h) (Contains-append_right done (d ∷ rest) d (Contains-here d rest d refl)))
    (before_pairs R done d rest (pairs-tail R x (done ++ d ∷ rest) h))

module _ (rep : Rep) (some : has_rows rep ≡ true) (lines : List (List ℚ)) (are : AreLinesOf rep lines)
    (held : All (λ r. All (λ d. AreHeld is_held r d (length r)) lines) (text_rows rep)) where
  -- ---- one line after those before it
  module _ (done : List (List ℚ)) (d : List ℚ) (rest : List (List ℚ)) (split : lines ≡ done ++ d ∷ rest) where
    listed : Contains lines d
    listed = subst (λ (ls : List (List ℚ)). Contains ls d) (sym split) (Contains-append_right done (d ∷ rest) d (Contains-here d rest d refl))

    wide : length d ≡ suc rep.width
    wide = member_of (HasWidth (suc rep.width)) lines d are.echelon.wide.wide listed

    meets_line : MeetsLine rep (record nothing { lines = done }) d
    meets_line = record {
      lengths = wide;
      scaled = member_of (λ v. leading v ≡ one_ℚ) lines d are.echelon.leading_one listed;
      rises = before_pairs (λ a b. leading_place a < leading_place b) done d rest
          (subst (λ (ls : List (List ℚ)). AllPairs (λ a b. leading_place a < leading_place b) ls) split are.echelon.places_rise);
      clear = before_pairs (λ a b. entry a (leading_place b) ≡ zero_ℚ) done d rest
          (subst (λ (ls : List (List ℚ)). AllPairs (λ a b. entry a (leading_place b) ≡ zero_ℚ) ls) split are.echelon.others_zero);
      corner = member_of (λ v. All (λ r. dot r v ≡ zero_ℚ) (text_rows rep)) lines d are.orthogonal listed;
    }

    meets : Meets rep (lines_log done) (Line d)
    meets = record {
      order = both_hold (has_rows rep && has_begun (lines_log done)) (not (has_start (lines_log done)))
          (both_hold (has_rows rep) (has_begun (lines_log done)) some (begun done)) (ap not (unstarted done));
      rules = subst (λ (s : State). MeetsLine rep s d) (sym (lines_state rep done)) meets_line;
    }

    row_held : (r : List ℚ) → Contains (text_rows rep) r → All (IsHeldStep is_held) (tight_events d r)
    row_held r c = All-append (IsHeldStep is_held) (dot_steps r d) (test rule.Corner (is_zero (dot r d)) ∷ [])
        (product_held is_held r d (member_of (HasWidth (suc rep.width)) (text_rows rep) r (text_rows_wide rep).wide c ∙ sym wide)
        (member_of (λ v. AreHeld is_held r v (length r)) lines d (member_of (λ u. All (λ v. AreHeld is_held u v (length u)) lines) (text_rows rep) r held c) listed))
        (All-cons (IsHeldStep is_held) (test rule.Corner (is_zero (dot r d))) [] tt (All-nil (IsHeldStep is_held)))

    steps_held : All (IsHeldStep is_held) (events rep (lines_log done) (Line d))
    steps_held =
        let s : State = state rep (lines_log done) in
        let rows : List Event = flat_map (tight_events d) (text_rows rep) in
        let form : Event = test rule.Scaled (goes_on s.lines d) in
        let long : Event = test rule.Length (length d == suc rep.width) in
        All-cons (IsHeldStep is_held) (test rule.Order (in_order (has_rows rep) (lines_log done) (Line d))) (long ∷ form ∷ rows) tt
        (All-cons (IsHeldStep is_held) long (form ∷ rows) tt (All-cons (IsHeldStep is_held) form rows tt (flat_held (tight_events d) (text_rows rep) row_held)))

  -- ---- all lines
  module _ (written : (d : List ℚ) → Contains lines d → IsTrue (is_formed conv_grammar (Line d))) where
    lines_on : (done rest : List (List ℚ)) → lines ≡ done ++ rest → IsOpenLog rep (lines_log done) → IsOpenLog rep (lines_log lines)
    lines_on done [] split h = subst (λ (ls : List (List ℚ)). IsOpenLog rep (lines_log ls)) (sym (split ∙ append-nil done)) h
    lines_on done (d ∷ rest) split h =
        lines_on (done ++ d ∷ []) rest (split ∙ sym (append_assoc done (d ∷ []) rest))
        (subst (λ (es : List ConvEntry). IsOpenLog rep (Conv 1 ∷ es)) (sym (map-append Line done (d ∷ [])))
        (open_more rep (lines_log done) (Line d) h (meets done d rest split) (steps_held done d rest split) (written d (listed done d rest split)) refl))

    version : IsOpenLog rep (lines_log [])
    version = open_more rep [] (Conv 1) none (record { order = refl; rules = refl })
        (All-cons (IsHeldStep is_held) (test rule.Order true) (test rule.Version true ∷ []) tt
        (All-cons (IsHeldStep is_held) (test rule.Version true) [] tt (All-nil (IsHeldStep is_held)))) refl refl
      where
        none : IsOpenLog rep []
        none = record {
          met = each_none (Meets rep);
          held = each_none (λ before e. All (IsHeldStep is_held) (events rep before e));
          written = All-nil (λ e. IsTrue (is_formed conv_grammar e));
          unended = All-nil (λ e. IsTrue (not (is_conv_end e)));
        }

    pub lines_open : IsOpenLog rep (lines_log lines)
    lines_open = lines_on [] lines refl version
