-- A log on which no event fails meets every rule of every kind, whatever its version; and where all numbers are held, back.
use Rattle.std.proofs.Common.{◌≡◌, ℕ, suc, ◌⊎◌, inl, inr, List, [], ◌∷◌, ◌++◌, refl, sym, ap, ◌∙◌, subst, append_assoc, append-nil, arith, Bool, true, not, ◌&&◌, ◌||◌, ◌==◌, nat_le, IsTrue, length, flat_map, AllPairs, Contains, None, Some}
use Rattle.std.specs.List.{list_all}
use Rattle.std.proofs.lemmas.Bool.{eqb-true, eq-eqb}
use Rattle.std.proofs.lemmas.List.Elements.{All-nil}
use Rattle.exact_field.specs.Rational.{ℚ}
use Rattle.vlp_problem.specs.declared.problem.Problem.{Problem}
use Rattle.word_lines.specs.declared.part.LogPair.{LogPair}
use Rattle.deriv_log.specs.declared.entry.Entry.{Entry}
use Rattle.deriv_log.specs.declared.entry.Entry.TheVariants.{Version, Duality, Cut, Start, Add, Point, Ray, Farkas, Whole, Line, Facet, End, Share, CutOf, PointOf, RayOf, AddHints}
use Rattle.polyhedra.proofs.Members.{all_of_members, member_of, pairs-nil, pairs-cons, pairs-head, pairs-tail}
use Rattle.polyhedra.proofs.Tests.{both_true, both_hold, either_true, or_left, or_right, list_all-true, true-list_all}
use Rattle.log_rules.specs.Events.{Event, first_failure}
use Rattle.log_rules.specs.Events.Event.{test}
use Rattle.log_rules.specs.Live.{Stated, State, state, cut_at, cut_row, rows_in_use, required_pairs, contains}
use Rattle.log_rules.specs.LiveEvents.{value_steps, pair_of}
use Rattle.log_rules.specs.declared.rule.Rule.TheVariants as rule
use Rattle.log_rules.proofs.HeldTests.{none_fails, pass_both, pass_steps, within_passes, not_contains_passes}
use Rattle.log_rules.proofs.LogHeld.{kind-passes}
use Rattle.log_rules.proofs.LogMeets.{IsWide, kind-meets, next_wide, both_none}
use Rattle.log_rules.proofs.PassedTests.{Passed, passed_of, both_pass, is_within, not_contained}
use Rattle.log_rules.proofs.TightHeld.{value_passes, pair-passes}
use Rattle.log_versions.specs.Hints.{lists, unlisted, pair_before, pairs_rise, are_hints, MeetsAddHints}
use Rattle.log_versions.specs.Plain.{shares, shared, plain}
use Rattle.log_versions.specs.Written.{WrittenKind, WrittenMeets}
use Rattle.log_versions.specs.WrittenEvents.{hinted_events, written_kind_events, written_events, first_written_failing}
use Rattle.log_versions.specs.Laws.{WrittenEventsGiveMeets, WrittenMeetsGiveEvents}
use Rattle.log_versions.proofs.HintedPairs.{listed_is, lists_passes}
use Rattle.log_versions.proofs.PlainMeets.{plain_next}

-- ---- hints
pub rise_says : (pairs : List LogPair) → pairs_rise pairs ≡ true → AllPairs (λ p r. IsTrue (pair_before p r)) pairs
rise_says [] h = pairs-nil (λ p r. IsTrue (pair_before p r))
rise_says (p ∷ pairs) h =
    let b = both_true (list_all (pair_before p) pairs) (pairs_rise pairs) h in
    pairs-cons (λ q r. IsTrue (pair_before q r)) p pairs (list_all-true (pair_before p) pairs b.0) (rise_says pairs b.1)

pub rise_passes : (pairs : List LogPair) → AllPairs (λ p r. IsTrue (pair_before p r)) pairs → pairs_rise pairs ≡ true
rise_passes [] h = refl
rise_passes (p ∷ pairs) h =
    both_hold (list_all (pair_before p) pairs) (pairs_rise pairs)
    (true-list_all (pair_before p) pairs (pairs-head (λ q r. IsTrue (pair_before q r)) p pairs h))
    (rise_passes pairs (pairs-tail (λ q r. IsTrue (pair_before q r)) p pairs h))

hinted-meets : (file : Problem) (s : State) (cut : ℕ) (pairs : List LogPair) (hints : List ℕ) → Passed (hinted_events file s cut pairs hints) →
    MeetsAddHints file s cut pairs hints
hinted-meets file s cut pairs hints h =
    let rows : List (List ℚ) = rows_in_use file.objs s in
    let required : List LogPair = required_pairs rows s.list.live (cut_row s cut) in
    let usable : Bool = nat_le 1 cut && nat_le cut (length s.cuts) && not (contains s.used cut) in
    let right : Bool = pairs_rise pairs && list_all (lists required) pairs in
    let given : Bool = are_hints rows s.list.live (unlisted s.list.live (cut_row s cut) pairs) hints in
    let values : List Event = flat_map (value_steps file.objs (cut_at s.cuts cut)) s.list.live in
    let making : List Event = flat_map (pair_of file.objs (cut_row s cut) s.list.live) pairs in
    let a = both_pass (test rule.Index usable ∷ values) (test rule.Pairs right ∷ test rule.Hint given ∷ making) h in
    let c = both_true (nat_le 1 cut && nat_le cut (length s.cuts)) (not (contains s.used cut)) a.0.0 in
    let d = both_true (pairs_rise pairs) (list_all (lists required) pairs) a.1.0 in
    record {
      exists = is_within (length s.cuts) cut c.0;
      unused = not_contained s.used cut c.1;
      rise = rise_says pairs d.0;
      required = all_of_members (λ p. Contains required p) pairs
          (λ p m. listed_is required p (member_of (λ q. lists required q ≡ true) pairs p (list_all-true (lists required) pairs d.1) m));
      covered = a.1.1.0;
    }

hinted-passes : (file : Problem) (s : State) (cut : ℕ) (pairs : List LogPair) (hints : List ℕ) → MeetsAddHints file s cut pairs hints →
    Passed (hinted_events file s cut pairs hints)
hinted-passes file s cut pairs hints h =
    let rows : List (List ℚ) = rows_in_use file.objs s in
    let required : List LogPair = required_pairs rows s.list.live (cut_row s cut) in
    let usable : Bool = nat_le 1 cut && nat_le cut (length s.cuts) && not (contains s.used cut) in
    let right : Bool = pairs_rise pairs && list_all (lists required) pairs in
    let given : Bool = are_hints rows s.list.live (unlisted s.list.live (cut_row s cut) pairs) hints in
    let values : List Event = flat_map (value_steps file.objs (cut_at s.cuts cut)) s.list.live in
    let making : List Event = flat_map (pair_of file.objs (cut_row s cut) s.list.live) pairs in
    pass_both (test rule.Index usable ∷ values) (test rule.Pairs right ∷ test rule.Hint given ∷ making) (
      both_hold (nat_le 1 cut && nat_le cut (length s.cuts)) (not (contains s.used cut)) (within_passes (length s.cuts) cut h.exists)
          (not_contains_passes s.used cut h.unused),
      pass_steps (value_steps file.objs (cut_at s.cuts cut)) s.list.live (value_passes file.objs (cut_at s.cuts cut)),
    ) (
      both_hold (pairs_rise pairs) (list_all (lists required) pairs) (rise_passes pairs h.rise)
          (true-list_all (lists required) pairs (all_of_members (λ p. lists required p ≡ true) pairs
          (λ p m. lists_passes required p (member_of (λ q. Contains required q) pairs p h.required m)))),
      (h.covered, pass_steps (pair_of file.objs (cut_row s cut) s.list.live) pairs (pair-passes file.objs (cut_row s cut) s.list.live)),
    )

-- ---- one entry
written-meets : (file : Problem) (before : List Entry) (e : Entry) → IsWide file (plain before) → Passed (written_kind_events file before e) →
    WrittenKind file before e
written-meets file before (Version n) w h = go (either_true (n == 1) (n == 2) h.0)
  where
    go : ((n == 1) ≡ true) ⊎ ((n == 2) ≡ true) → (n ≡ 1) ⊎ (n ≡ 2)
    go (inl k) = inl (eqb-true n 1 k)
    go (inr k) = inr (eqb-true n 2 k)
written-meets file before (Share v) w h = tt
written-meets file before (CutOf n gamma share v) w h =
    (is_within (length (shares before)) share h.0, kind-meets file (plain before) (Cut n gamma (shared (shares before) share) v) w h.1)
written-meets file before (PointOf g share m) w h =
    (is_within (length (shares before)) share h.0, kind-meets file (plain before) (Point g (shared (shares before) share) m) w h.1)
written-meets file before (RayOf g share m) w h =
    (is_within (length (shares before)) share h.0, kind-meets file (plain before) (Ray g (shared (shares before) share) m) w h.1)
written-meets file before (AddHints cut pairs hints) w h = hinted-meets file (state file.objs (plain before)) cut pairs hints h
written-meets file before (Duality c weights picks inverse) w h = kind-meets file (plain before) (Duality c weights picks inverse) w h
written-meets file before (Cut n gamma u v) w h = kind-meets file (plain before) (Cut n gamma u v) w h
written-meets file before (Start cuts point directions) w h = kind-meets file (plain before) (Start cuts point directions) w h
written-meets file before (Add cut pairs) w h = kind-meets file (plain before) (Add cut pairs) w h
written-meets file before (Point g x m) w h = kind-meets file (plain before) (Point g x m) w h
written-meets file before (Ray g x m) w h = kind-meets file (plain before) (Ray g x m) w h
written-meets file before (Farkas u) w h = kind-meets file (plain before) (Farkas u) w h
written-meets file before (Whole x ray m) w h = kind-meets file (plain before) (Whole x ray m) w h
written-meets file before (Line d x ray m back n) w h = kind-meets file (plain before) (Line d x ray m back n) w h
written-meets file before (Facet cut) w h = kind-meets file (plain before) (Facet cut) w h
written-meets file before (End k) w h = kind-meets file (plain before) (End k) w h

written-passes : (file : Problem) (before : List Entry) (e : Entry) → WrittenKind file before e → Passed (written_kind_events file before e)
written-passes file before (Version n) h = (go h, tt)
  where
    go : (n ≡ 1) ⊎ (n ≡ 2) → (n == 1 || n == 2) ≡ true
    go (inl k) = or_left (n == 1) (n == 2) (eq-eqb n 1 k)
    go (inr k) = or_right (n == 1) (n == 2) (eq-eqb n 2 k)
written-passes file before (Share v) h = tt
written-passes file before (CutOf w gamma share v) h =
    (within_passes (length (shares before)) share h.0, kind-passes file (plain before) (Cut w gamma (shared (shares before) share) v) h.1)
written-passes file before (PointOf g share m) h =
    (within_passes (length (shares before)) share h.0, kind-passes file (plain before) (Point g (shared (shares before) share) m) h.1)
written-passes file before (RayOf g share m) h =
    (within_passes (length (shares before)) share h.0, kind-passes file (plain before) (Ray g (shared (shares before) share) m) h.1)
written-passes file before (AddHints cut pairs hints) h = hinted-passes file (state file.objs (plain before)) cut pairs hints h
written-passes file before (Duality c weights picks inverse) h = kind-passes file (plain before) (Duality c weights picks inverse) h
written-passes file before (Cut n gamma u v) h = kind-passes file (plain before) (Cut n gamma u v) h
written-passes file before (Start cuts point directions) h = kind-passes file (plain before) (Start cuts point directions) h
written-passes file before (Add cut pairs) h = kind-passes file (plain before) (Add cut pairs) h
written-passes file before (Point g x m) h = kind-passes file (plain before) (Point g x m) h
written-passes file before (Ray g x m) h = kind-passes file (plain before) (Ray g x m) h
written-passes file before (Farkas u) h = kind-passes file (plain before) (Farkas u) h
written-passes file before (Whole x ray m) h = kind-passes file (plain before) (Whole x ray m) h
written-passes file before (Line d x ray m back n) h = kind-passes file (plain before) (Line d x ray m back n) h
written-passes file before (Facet cut) h = kind-passes file (plain before) (Facet cut) h
written-passes file before (End k) h = kind-passes file (plain before) (End k) h

entry-written : (holds : ℚ → Bool) (file : Problem) (before : List Entry) (e : Entry) → IsWide file (plain before) →
    first_failure holds 1 (written_events file before e) ≡ None → WrittenMeets file before e
entry-written holds file before e w h =
    let p = passed_of holds 1 (written_events file before e) h in record { order = p.0; rules = written-meets file before e w p.1 }

-- ---- the log
splits : (holds : ℚ → Bool) (file : Problem) (before entries : List Entry) → IsWide file (plain before) → first_written_failing holds file before entries ≡ None →
    (mid : List Entry) (e : Entry) (later : List Entry) → entries ≡ mid ++ e ∷ later → WrittenMeets file (before ++ mid) e
splits holds file before [] w h [] e later same = absurd cc
splits holds file before [] w h (m ∷ mid) e later same = absurd cc
splits holds file before (f ∷ entries) w h mid e later same =
    let parts = both_none (first_failure holds 1 (written_events file before f)) (λ x. record { entry = suc (length before); failure = x })
    (first_written_failing holds file (before ++ f ∷ []) entries) h in
    let met : WrittenMeets file before f = entry-written holds file before f w parts.0 in
    go mid same met (splits holds file (before ++ f ∷ []) entries
    (plain_next file (λ (es : List Entry). IsWide file es) (λ b p m k. next_wide file b p k m) before f met w) parts.1)
  where
    go : (ms : List Entry) → f ∷ entries ≡ ms ++ e ∷ later → WrittenMeets file before f →
        ((ks : List Entry) (d : Entry) (rest : List Entry) → entries ≡ ks ++ d ∷ rest → WrittenMeets file ((before ++ f ∷ []) ++ ks) d) →
        WrittenMeets file (before ++ ms) e
    go [] i met again =
        let first : f ≡ e = cc in
        subst (λ (b : List Entry). WrittenMeets file b e) (sym (append-nil before)) (subst (λ (d : Entry). WrittenMeets file before d) first met)
    go (m ∷ ms) i met again =
        let first : f ≡ m = cc in
        let rest : entries ≡ ms ++ e ∷ later = cc in
        subst (λ (b : List Entry). WrittenMeets file b e) (append_assoc before (f ∷ []) ms ∙ ap (λ (d : Entry). before ++ d ∷ ms) first) (again ms e later rest)

pub written_events_give_meets : WrittenEventsGiveMeets
written_events_give_meets holds file entries h before e later same =
    splits holds file [] entries (record { c_wide = omega arith; cuts_wide = All-nil (λ (cut : Stated). length cut.w ≡ file.objs) }) h before e later same

-- each of the entries, after those before it
held-after : (file : Problem) (before entries : List Entry) →
    ((mid : List Entry) (e : Entry) (later : List Entry) → entries ≡ mid ++ e ∷ later → WrittenMeets file (before ++ mid) e) →
    first_written_failing (λ _. true) file before entries ≡ None
held-after file before [] h = refl
held-after file before (e ∷ entries) h =
    let m : WrittenMeets file before e = subst (λ (b : List Entry). WrittenMeets file b e) (append-nil before) (h [] e entries refl) in
    let first : first_failure (λ _. true) 1 (written_events file before e) ≡ None =
    none_fails 1 (written_events file before e) (m.order, written-passes file before e m.rules) in
    ap (λ o. elim o [
      | Some failure ↦ Some (record { entry = suc (length before); failure = failure })
      | None ↦ first_written_failing (λ _. true) file (before ++ e ∷ []) entries
    ]) first
    ∙ held-after file (before ++ e ∷ []) entries
    (λ mid d later same. subst (λ (b : List Entry). WrittenMeets file b d) (sym (append_assoc before (e ∷ []) mid))
    (h (e ∷ mid) d later (ap (λ (es : List Entry). e ∷ es) same)))

pub written_meets_give_events : WrittenMeetsGiveEvents
written_meets_give_events file entries all = held-after file [] entries all
