-- One step of the walk along a log.
use Rattle.std.proofs.Common.{◌≡◌, ℕ, zero, suc, ◌+◌, ◌<◌, ◌≤◌, List, [], ◌∷◌, ◌++◌, refl, sym, ap, ◌∙◌, subst, arith, length, length-append, append-nil, append_assoc, take, drop, Bool, true, false, true≢false, not, ◌==◌, ◌&&◌, if◌then◌else◌, Option, None, Some, IsTrue, inl}
use Rattle.std.specs.List.{list_all}
use Rattle.std.proofs.lemmas.Bool.{and_parts, and_from}
use Rattle.exact_field.specs.Rational.{ℚ}
use Rattle.frac128.specs.Held.{is_held}
use Rattle.frac128.specs.declared.vectors.Spot.{Spot}
use Rattle.vlp_problem.specs.declared.problem.Problem.{Problem}
use Rattle.deriv_log.specs.Formed.{is_formed}
use Rattle.deriv_log.specs.declared.entry.Entry.{Entry}
use Rattle.deriv_log.specs.declared.entry.Entry.TheVariants.{Version, Duality, Cut, Start, Add, Point, Ray, Farkas, Whole, Line, Facet, End, Share, CutOf, PointOf, RayOf, AddHints}
use Rattle.word_lines.specs.declared.part.LogPair.{LogPair}
use Rattle.log_rules.specs.Events.{Failure, first_failure}
use Rattle.log_rules.specs.Live.{state, cut_row, rows_in_use}
use Rattle.log_rules.specs.LogEvents.{Failing}
use Rattle.log_rules.proofs.LogMeets.{events_give_meets}
use Rattle.log_versions.specs.Hints.{least_hints}
use Rattle.log_versions.specs.Plain.{plain, is_plain}
use Rattle.log_versions.specs.Upgrade.{body, is_repeated, number_from, naming, sharing, with_hints, upgraded_entry, more_shared}
use Rattle.log_versions.specs.WrittenEvents.{written_events, first_written_failing, log_failure}
use Rattle.log_versions.proofs.PlainStay.{plain_logs_stay}
use Rattle.cert_check.specs.StandsFor.{StandsFor, CanTake, PassesAdd}
use Rattle.cert_check.specs.declared.checker.Checker.{Checker}
use Rattle.log_upgrade.specs.Repeats.{AreStandings, place_of, with_place}
use Rattle.log_upgrade.specs.Walk.{in_place, placed, IsFirst, IsNext, StandsAt, IsUpgraded}
use Rattle.log_upgrade.specs.declared.repeats.Place.{Place}
use Rattle.log_upgrade.specs.declared.repeats.Place.TheVariants.{Own, First, Again}
use Rattle.log_upgrade.specs.declared.repeats.Repeats.{Repeats}
use Rattle.log_upgrade.specs.declared.walk.Upgraded.{Upgraded}
use Rattle.log_upgrade.specs.declared.walk.Upgraded.TheVariants.{Same, Changed}

-- ---- the entries before
both_none : {X Y : Type 0} (o : Option X) (f : X → Y) (r : Option Y) →
    ◌≡◌ {A = Option Y} (elim o [ Some x ↦ Some (f x) | None ↦ r ]) None → (o ≡ None) × (r ≡ None)
both_none None f r h = (refl, h)
both_none (Some x) f r h = absurd cc

none_both : {X Y : Type 0} (o : Option X) (f : X → Y) (r : Option Y) → o ≡ None → r ≡ None →
    ◌≡◌ {A = Option Y} (elim o [ Some x ↦ Some (f x) | None ↦ r ]) None
none_both None f r h k = k
none_both (Some x) f r h k = absurd cc

-- the first entries of a log without a failure have none
front_passes : (holds : ℚ → Bool) (file : Problem) (before xs ys : List Entry) →
    first_written_failing holds file before (xs ++ ys) ≡ None →
    first_written_failing holds file before xs ≡ None
front_passes holds file before [] ys h = refl
front_passes holds file before (x ∷ xs) ys h =
    let name : Failure → Failing = λ f. record { entry = suc (length before); failure = f } in
    let o : Option Failure = first_failure holds 1 (written_events file before x) in
    let parts = both_none o name (first_written_failing holds file (before ++ x ∷ []) (xs ++ ys)) h in
    none_both o name (first_written_failing holds file (before ++ x ∷ []) xs) parts.0
    (front_passes holds file (before ++ x ∷ []) xs ys parts.1)

all_front : (test : Entry → Bool) (xs ys : List Entry) → list_all test (xs ++ ys) ≡ true → list_all test xs ≡ true
all_front test [] ys h = refl
all_front test (x ∷ xs) ys h =
    let p = and_parts (test x) (list_all test (xs ++ ys)) h in
    and_from (test x) (list_all test xs) p.0 (all_front test xs ys p.1)

all_here : (test : Entry → Bool) (xs : List Entry) (y : Entry) (ys : List Entry) → list_all test (xs ++ y ∷ ys) ≡ true → test y ≡ true
all_here test [] y ys h = (and_parts (test y) (list_all test ys) h).0
all_here test (x ∷ xs) y ys h = all_here test xs y ys (and_parts (test x) (list_all test (xs ++ y ∷ ys)) h).1

-- the entries of a log that is not of version 2 are plain
pub all_plain : (file : Problem) (all : List Entry) → IsFirst file all → list_all is_plain all ≡ true
all_plain file all f =
    plain_logs_stay.meets file all (events_give_meets is_held file all (sym (plain_logs_stay.failure is_held file all f.first) ∙ f.passes))

module _ (file : Problem) (all before : List Entry) (vectors : List (List Spot)) (e : Entry) (after : List Entry)
    (checker : Checker) (repeats : Repeats) (n : IsNext file all before vectors e after checker repeats) where
  pub formed_next : is_formed e ≡ true
  formed_next = all_here is_formed before e after (ap (list_all is_formed) (sym n.is) ∙ n.log.log.formed)

  pub room_next : length before < 4294967294
  room_next =
      let few = n.log.short in
      let many : length all ≡ length before + suc (length after) = ap length n.is ∙ length-append before (e ∷ after) in
      omega arith

  pub plain_next : plain before ≡ before
  plain_next =
      plain_logs_stay.same before (all_front is_plain before (e ∷ after) (ap (list_all is_plain) (sym n.is) ∙ all_plain file all n.log))

  pub can_take : CanTake file checker
  can_take = inl (before, n.checked, room_next)

  passes_next : log_failure is_held file (before ++ e ∷ []) ≡ None
  passes_next =
      front_passes is_held file [] (before ++ e ∷ []) after
      (ap (log_failure is_held file) (append_assoc before (e ∷ []) after ∙ sym n.is) ∙ n.log.passes)

  pub passes_add : (cut : ℕ) (ps : List LogPair) → e ≡ Add cut ps → PassesAdd file before cut ps checker
  passes_add cut ps h = record {
    stands = n.checked;
    passes = ap (λ (x : Entry). log_failure is_held file (before ++ x ∷ [])) (sym h) ∙ passes_next;
  }

-- ---- an entry that has a vector
upgraded_at : (q : ℕ) (all before : List Entry) (vectors : List (List Spot)) (e : Entry) (u : List Spot) → body e ≡ Some u →
    placed u e (place_of all vectors u) ≡ upgraded_entry q all before vectors e
upgraded_at q all before vectors e u h =
    sym (ap (λ (o : Option (List Spot)).
    elim o as (λ _. List Entry) [
      | Some w ↦ elim (is_repeated all w) [ true ↦ sharing vectors w e | false ↦ e ∷ [] ]
      | None ↦ with_hints q before e ∷ []
    ]) h ∙ go (is_repeated all u))
  where
    number : (k : ℕ) →
        ◌≡◌ {A = List Entry} (elim k [ zero ↦ Share u ∷ naming (suc (length vectors)) e ∷ [] | suc j ↦ naming (suc j) e ∷ [] ])
        (placed u e (elim k [ zero ↦ First (suc (length vectors)) | suc j ↦ Again (suc j) ]))
    number zero = refl
    number (suc j) = refl

    go : (b : Bool) →
        ◌≡◌ {A = List Entry} (elim b [ true ↦ sharing vectors u e | false ↦ e ∷ [] ])
        (placed u e (if b then elim (number_from 1 u vectors) [ zero ↦ First (suc (length vectors)) | suc j ↦ Again (suc j) ] else Own))
    go true = number (number_from 1 u vectors)
    go false = refl

pub placed_step : (q : ℕ) (all before : List Entry) (vectors : List (List Spot)) (e : Entry) (u : List Spot) (p : Place) (x : Upgraded) →
    body e ≡ Some u → p ≡ place_of all vectors u → in_place e x ≡ placed u e p → IsTrue (list_all is_formed (in_place e x)) →
    IsUpgraded q all before vectors e x
placed_step q all before vectors e u p x h i j k = record {
  is = j ∙ ap (placed u e) i ∙ upgraded_at q all before vectors e u h;
  formed = k;
}

-- ---- an entry that has none
upgraded_none : (q : ℕ) (all before : List Entry) (vectors : List (List Spot)) (e : Entry) → body e ≡ None →
    with_hints q before e ∷ [] ≡ upgraded_entry q all before vectors e
upgraded_none q all before vectors e h =
    sym (ap (λ (o : Option (List Spot)).
    elim o as (λ _. List Entry) [
      | Some w ↦ elim (is_repeated all w) [ true ↦ sharing vectors w e | false ↦ e ∷ [] ]
      | None ↦ with_hints q before e ∷ []
    ]) h)

pub changed_step : (q : ℕ) (all before : List Entry) (vectors : List (List Spot)) (e x : Entry) →
    body e ≡ None → x ≡ with_hints q before e → is_formed x ≡ true → IsUpgraded q all before vectors e (Changed x)
changed_step q all before vectors e x h i k = record {
  is = ap (λ (y : Entry). y ∷ []) i ∙ upgraded_none q all before vectors e h;
  formed = and_from (is_formed x) true k refl;
}

-- the least hints after some entries
abbrev pub hints_at : ℕ → List Entry → ℕ → List LogPair → List ℕ
hints_at q before cut ps =
    let s = state q before in least_hints (rows_in_use q s) s.list.live (cut_row s cut) ps

pub hinted_step : (file : Problem) (all before : List Entry) (vectors : List (List Spot)) (e : Entry) (after : List Entry)
    (checker : Checker) (repeats : Repeats) → IsNext file all before vectors e after checker repeats →
    (cut : ℕ) (ps : List LogPair) (hints : List ℕ) (x : Entry) → e ≡ Add cut ps → hints ≡ hints_at file.objs (plain before) cut ps →
    x ≡ AddHints cut ps hints → is_formed x ≡ true → IsUpgraded file.objs all before vectors e (Changed x)
hinted_step file all before vectors e after checker repeats n cut ps hints x h i j k =
    changed_step file.objs all before vectors e x (ap body h)
    (j
    ∙ ap (AddHints cut ps) (i ∙ ap (λ (es : List Entry). hints_at file.objs es cut ps) (plain_next file all before vectors e after checker repeats n))
    ∙ ap (with_hints file.objs before) (sym h)) k

-- it is another kind than those that change
abbrev pub Stays : Entry → Type 0
Stays e = ((n : ℕ) → e ≡ Version n → ⊥) × ((cut : ℕ) (ps : List LogPair) → e ≡ Add cut ps → ⊥)

stays_same : (q : ℕ) (before : List Entry) (e : Entry) → Stays e → e ≡ with_hints q before e
stays_same q before (Version n) s = absurd (s.0 n refl)
stays_same q before (Add cut ps) s = absurd (s.1 cut ps refl)
stays_same q before (Duality c weights picks inverse) s = refl
stays_same q before (Cut w gamma u v) s = refl
stays_same q before (Start cuts point directions) s = refl
stays_same q before (Point g x m) s = refl
stays_same q before (Ray g x m) s = refl
stays_same q before (Farkas u) s = refl
stays_same q before (Whole x ray m) s = refl
stays_same q before (Line d x ray m back n) s = refl
stays_same q before (Facet cut) s = refl
stays_same q before (End k) s = refl
stays_same q before (Share v) s = refl
stays_same q before (CutOf w gamma share v) s = refl
stays_same q before (PointOf g share m) s = refl
stays_same q before (RayOf g share m) s = refl
stays_same q before (AddHints cut ps hints) s = refl

pub same_step : (q : ℕ) (all before : List Entry) (vectors : List (List Spot)) (e : Entry) → body e ≡ None → Stays e → is_formed e ≡ true →
    IsUpgraded q all before vectors e Same
same_step q all before vectors e h s k = record {
  is = ap (λ (y : Entry). y ∷ []) (stays_same q before e s) ∙ upgraded_none q all before vectors e h;
  formed = and_from (is_formed e) true k refl;
}

-- ---- the vectors that are shared after it
longer : (vectors : List (List Spot)) (u : List Spot) (b : Bool) → length (if b then vectors ++ u ∷ [] else vectors) ≤ length vectors + 1
longer vectors u true = omega (arith, length-append vectors (u ∷ []))
longer vectors u false = omega arith

few_more : (all : List Entry) (vectors : List (List Spot)) (e : Entry) → length (more_shared all vectors e) ≤ length vectors + 1
few_more all vectors e = go (body e)
  where
    go : (o : Option (List Spot)) →
        length (elim o as (λ _. List (List Spot)) [
          | Some u ↦ if is_repeated all u && number_from 1 u vectors == 0 then vectors ++ u ∷ [] else vectors
          | None ↦ vectors
        ]) ≤ length vectors + 1
    go (Some u) = longer vectors u (is_repeated all u && number_from 1 u vectors == 0)
    go None = omega arith

pub few_after : (all before : List Entry) (vectors : List (List Spot)) (e : Entry) → length vectors ≤ length before →
    length (more_shared all vectors e) ≤ length (before ++ e ∷ [])
few_after all before vectors e h =
    let more = few_more all vectors e in
    omega (arith, length-append before (e ∷ []))
