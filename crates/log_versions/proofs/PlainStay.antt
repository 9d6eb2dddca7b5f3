-- A log of version 1 stands for itself.
use Rattle.std.proofs.Common.{◌≡◌, ◌↔◌, ℕ, suc, inl, List, [], ◌∷◌, ◌++◌, refl, sym, ap, ap₂, ◌∙◌, subst, append_assoc, Bool, true, false, true≢false, not, ◌&&◌, ◌||◌, ◌==◌, IsTrue, length, Option, None, Some, if◌then◌else◌}
use Rattle.std.specs.List.{list_all}
use Rattle.std.proofs.lemmas.Bool.{and_parts, and_from}
use Rattle.exact_field.specs.Rational.{ℚ}
use Rattle.frac128.specs.declared.vectors.Spot.{Spot}
use Rattle.vlp_problem.specs.declared.problem.Problem.{Problem}
use Rattle.deriv_log.specs.declared.entry.Entry.{Entry}
use Rattle.deriv_log.specs.declared.entry.Entry.TheVariants.{Version, Duality, Cut, Start, Add, Point, Ray, Farkas, Whole, Line, Facet, End, Share, CutOf, PointOf, RayOf, AddHints}
use Rattle.log_rules.specs.Events.{Event, Failure, first_failure}
use Rattle.log_rules.specs.Events.Event.{test}
use Rattle.log_rules.specs.Events.Failure.{wrong}
use Rattle.log_rules.specs.LogEvents.{Failing, first_failing, events}
use Rattle.log_rules.specs.Meets.{Meets}
use Rattle.log_rules.specs.Order.{kind, in_order}
use Rattle.log_rules.specs.Proves.{AllMeet, PlainProves}
use Rattle.log_rules.specs.declared.answer.Answer.{Answer}
use Rattle.log_rules.specs.declared.rule.Rule.TheVariants as rule
use Rattle.log_versions.specs.Plain.{shares, plain_entry, plain_after, plain, is_plain, is_version_2}
use Rattle.log_versions.specs.Written.{may_follow, WrittenMeets, AllWrittenMeet, Proves}
use Rattle.log_versions.specs.WrittenEvents.{written_events, written_kind_events, first_written_failing}
use Rattle.log_versions.specs.Laws.{PlainLogsStay}
use Rattle.log_versions.proofs.PlainMeets.{proves_plainly}

-- ---- a plain entry is its own
pub stays : (vectors : List (List Spot)) (e : Entry) → is_plain e ≡ true → (plain_entry vectors e ≡ e ∷ []) × (shares (e ∷ []) ≡ [])
stays vectors (Version n) h = (ap (λ k. Version k ∷ []) (go (n == 2) h), refl)
  where
    go : (b : Bool) → not b ≡ true → (if b then 1 else n) ≡ n
    go true i = absurd (true≢false (sym i))
    go false i = refl
stays vectors (Share v) h = absurd (true≢false (sym h))
stays vectors (CutOf w gamma share v) h = absurd (true≢false (sym h))
stays vectors (PointOf g share m) h = absurd (true≢false (sym h))
stays vectors (RayOf g share m) h = absurd (true≢false (sym h))
stays vectors (AddHints cut pairs hints) h = absurd (true≢false (sym h))
stays vectors (Duality c weights picks inverse) h = (refl, refl)
stays vectors (Cut w gamma u v) h = (refl, refl)
stays vectors (Start cuts point directions) h = (refl, refl)
stays vectors (Add cut pairs) h = (refl, refl)
stays vectors (Point g x m) h = (refl, refl)
stays vectors (Ray g x m) h = (refl, refl)
stays vectors (Farkas u) h = (refl, refl)
stays vectors (Whole x ray m) h = (refl, refl)
stays vectors (Line d x ray m back n) h = (refl, refl)
stays vectors (Facet cut) h = (refl, refl)
stays vectors (End k) h = (refl, refl)

same_after : (entries : List Entry) → list_all is_plain entries ≡ true → plain_after [] entries ≡ entries
same_after [] h = refl
same_after (e ∷ entries) h =
    let p = and_parts (is_plain e) (list_all is_plain entries) h in
    let s : (plain_entry [] e ≡ e ∷ []) × (shares (e ∷ []) ≡ []) = stays [] e p.0 in
    ap₂ (λ (front : List Entry) (vs : List (List Spot)). front ++ plain_after vs entries) s.0 s.1 ∙ ap (λ es. e ∷ es) (same_after entries p.1)

pub same_log : (entries : List Entry) → IsTrue (list_all is_plain entries) → plain entries ≡ entries
same_log entries h = same_after entries h

-- ---- rules
pub all_push : (before : List Entry) (e : Entry) → list_all is_plain before ≡ true → is_plain e ≡ true → list_all is_plain (before ++ e ∷ []) ≡ true
all_push [] e h k = and_from (is_plain e) true k refl
all_push (d ∷ before) e h k =
    let p = and_parts (is_plain d) (list_all is_plain before) h in and_from (is_plain d) (list_all is_plain (before ++ e ∷ [])) p.0 (all_push before e p.1 k)

front_plain : (before : List Entry) (e : Entry) (after : List Entry) → list_all is_plain (before ++ e ∷ after) ≡ true → (list_all is_plain before ≡ true) × (is_plain e ≡ true)
front_plain [] e after h = (refl, (and_parts (is_plain e) (list_all is_plain after) h).0)
front_plain (d ∷ before) e after h =
    let p = and_parts (is_plain d) (list_all is_plain (before ++ e ∷ after)) h in
    let q : (list_all is_plain before ≡ true) × (is_plain e ≡ true) = front_plain before e after p.1 in
    (and_from (is_plain d) (list_all is_plain before) p.0 q.0, q.1)

-- after its own plain log, what a plain entry must meet is what it meets as a plain entry
meets_written : (file : Problem) (before : List Entry) (e : Entry) → plain before ≡ before → is_plain e ≡ true → Meets file before e → WrittenMeets file before e
meets_written file before e same h m = go e h (subst (λ (b : List Entry). Meets file b e) (sym same) m)
  where
    go : (d : Entry) → is_plain d ≡ true → Meets file (plain before) d → WrittenMeets file before d
    go (Version n) i k = record { order = k.order; rules = inl k.rules }
    go (Share v) i k = absurd (true≢false (sym i))
    go (CutOf w gamma share v) i k = absurd (true≢false (sym i))
    go (PointOf g share n) i k = absurd (true≢false (sym i))
    go (RayOf g share n) i k = absurd (true≢false (sym i))
    go (AddHints cut pairs hints) i k = absurd (true≢false (sym i))
    go (Duality c weights picks inverse) i k = record { order = k.order; rules = k.rules }
    go (Cut w gamma u v) i k = record { order = k.order; rules = k.rules }
    go (Start cuts point directions) i k = record { order = k.order; rules = k.rules }
    go (Add cut pairs) i k = record { order = k.order; rules = k.rules }
    go (Point g x n) i k = record { order = k.order; rules = k.rules }
    go (Ray g x n) i k = record { order = k.order; rules = k.rules }
    go (Farkas u) i k = record { order = k.order; rules = k.rules }
    go (Whole x ray n) i k = record { order = k.order; rules = k.rules }
    go (Line x y ray n back l) i k = record { order = k.order; rules = k.rules }
    go (Facet cut) i k = record { order = k.order; rules = k.rules }
    go (End l) i k = record { order = k.order; rules = k.rules }

all_written : (file : Problem) (entries : List Entry) → list_all is_plain entries ≡ true → AllMeet file entries → AllWrittenMeet file entries
all_written file entries h all before e after same =
    let f : (list_all is_plain before ≡ true) × (is_plain e ≡ true) = front_plain before e after (ap (λ (es : List Entry). list_all is_plain es) (sym same) ∙ h) in
    meets_written file before e (same_after before f.0) f.1 (all before e after same)

proves_same : (file : Problem) (entries : List Entry) (answer : Answer) → IsTrue (list_all is_plain entries) →
    Proves file entries answer ↔ PlainProves file entries answer
proves_same file entries answer h = (
  λ w. subst (λ (es : List Entry). PlainProves file es answer) (same_after entries h) (proves_plainly.plainly file entries answer w),
  λ p. record {
    log = p.log;
    meet = all_written file entries h p.meet;
    gives = subst (λ (es : List Entry). Rattle.log_rules.specs.Proves.Gives file es answer) (sym (same_after entries h)) p.gives;
  },
)

-- ---- entries that meet the plain rules
met_is_plain : (file : Problem) (before : List Entry) (e : Entry) → Meets file before e → is_plain e ≡ true
met_is_plain file before (Version n) m = ap (λ (k : ℕ). not (k == 2)) m.rules
met_is_plain file before (Share v) m = absurd m.rules
met_is_plain file before (CutOf w gamma share v) m = absurd m.rules
met_is_plain file before (PointOf g share n) m = absurd m.rules
met_is_plain file before (RayOf g share n) m = absurd m.rules
met_is_plain file before (AddHints cut pairs hints) m = absurd m.rules
met_is_plain file before (Duality c weights picks inverse) m = refl
met_is_plain file before (Cut w gamma u v) m = refl
met_is_plain file before (Start cuts point directions) m = refl
met_is_plain file before (Add cut pairs) m = refl
met_is_plain file before (Point g x n) m = refl
met_is_plain file before (Ray g x n) m = refl
met_is_plain file before (Farkas u) m = refl
met_is_plain file before (Whole x ray n) m = refl
met_is_plain file before (Line d x ray n back l) m = refl
met_is_plain file before (Facet cut) m = refl
met_is_plain file before (End k) m = refl

rest_is_plain : (file : Problem) (before rest : List Entry) → AllMeet file (before ++ rest) → list_all is_plain rest ≡ true
rest_is_plain file before [] all = refl
rest_is_plain file before (e ∷ rest) all =
    let same : (before ++ e ∷ []) ++ rest ≡ before ++ e ∷ rest = append_assoc before (e ∷ []) rest in
    and_from (is_plain e) (list_all is_plain rest) (met_is_plain file before e (all before e rest refl))
    (rest_is_plain file (before ++ e ∷ []) rest (subst (λ (es : List Entry). AllMeet file es) (sym same) all))

-- plain entries begin no log of version 2
begins_plain : (entries : List Entry) → list_all is_plain entries ≡ true → is_version_2 entries ≡ false
begins_plain [] h = refl
begins_plain (Version n ∷ entries) h = go (n == 2) (and_parts (not (n == 2)) (list_all is_plain entries) h).0
  where
    go : (b : Bool) → not b ≡ true → b ≡ false
    go true i = sym i
    go false i = refl
begins_plain (Share v ∷ entries) h = refl
begins_plain (CutOf w gamma share v ∷ entries) h = refl
begins_plain (PointOf g share m ∷ entries) h = refl
begins_plain (RayOf g share m ∷ entries) h = refl
begins_plain (AddHints cut pairs hints ∷ entries) h = refl
begins_plain (Duality c weights picks inverse ∷ entries) h = refl
begins_plain (Cut w gamma u v ∷ entries) h = refl
begins_plain (Start cuts point directions ∷ entries) h = refl
begins_plain (Add cut pairs ∷ entries) h = refl
begins_plain (Point g x m ∷ entries) h = refl
begins_plain (Ray g x m ∷ entries) h = refl
begins_plain (Farkas u ∷ entries) h = refl
begins_plain (Whole x ray m ∷ entries) h = refl
begins_plain (Line d x ray m back n ∷ entries) h = refl
begins_plain (Facet cut ∷ entries) h = refl
begins_plain (End k ∷ entries) h = refl

-- ---- events
-- the entries before begin no log of version 2
pub not_second : (before entries : List Entry) → is_version_2 (before ++ entries) ≡ false → is_version_2 before ≡ false
not_second [] entries h = refl
not_second (Version n ∷ before) entries h = h
not_second (Share v ∷ before) entries h = refl
not_second (CutOf w gamma share v ∷ before) entries h = refl
not_second (PointOf g share m ∷ before) entries h = refl
not_second (RayOf g share m ∷ before) entries h = refl
not_second (AddHints cut pairs hints ∷ before) entries h = refl
not_second (Duality c weights picks inverse ∷ before) entries h = refl
not_second (Cut w gamma u v ∷ before) entries h = refl
not_second (Start cuts point directions ∷ before) entries h = refl
not_second (Add cut pairs ∷ before) entries h = refl
not_second (Point g x m ∷ before) entries h = refl
not_second (Ray g x m ∷ before) entries h = refl
not_second (Farkas u ∷ before) entries h = refl
not_second (Whole x ray m ∷ before) entries h = refl
not_second (Line d x ray m back n ∷ before) entries h = refl
not_second (Facet cut ∷ before) entries h = refl
not_second (End k ∷ before) entries h = refl

-- a test of the order that fails, whatever follows
abbrev OrderFails : (ℚ → Bool) → List Event → Type 0
OrderFails holds es = first_failure holds 1 es ≡ Some (wrong rule.Order)

order_or_never : (holds : ℚ → Bool) (b : Bool) → OrderFails holds (test rule.Order b ∷ test rule.Order false ∷ [])
order_or_never holds true = refl
order_or_never holds false = refl

order_fails : (holds : ℚ → Bool) (b : Bool) (es : List Event) → b ≡ false → OrderFails holds (test rule.Order b ∷ es)
order_fails holds true es h = absurd (true≢false h)
order_fails holds false es h = refl

never_none : (o : Option Failure) → o ≡ Some (wrong rule.Order) → o ≡ None → ⊥
never_none o h k = absurd (no (sym k ∙ h))
  where
    no : ◌≡◌ {A = Option Failure} None (Some (wrong rule.Order)) → ⊥
    no e = cc

one_or : (a b : Bool) → not b ≡ true → (a || b) ≡ a
one_or a true h = absurd (true≢false (sym h))
one_or true false h = refl
one_or false false h = refl

-- in the events of an entry after plain entries nothing differs
same_failure : (holds : ℚ → Bool) (file : Problem) (before : List Entry) (e : Entry) → plain before ≡ before → is_version_2 (before ++ e ∷ []) ≡ false →
    first_failure holds 1 (written_events file before e) ≡ first_failure holds 1 (events file before e)
same_failure holds file before (Version n) same second = go before same second (n == 2) refl
  where
    go : (b : List Entry) → plain b ≡ b → is_version_2 (b ++ Version n ∷ []) ≡ false → (t : Bool) → (n == 2) ≡ t →
        first_failure holds 1 (written_events file b (Version n)) ≡ first_failure holds 1 (events file b (Version n))
    go b s i true e = late b s i
      where
        late : (c : List Entry) → plain c ≡ c → is_version_2 (c ++ Version n ∷ []) ≡ false →
            first_failure holds 1 (written_events file c (Version n)) ≡ first_failure holds 1 (events file c (Version n))
        late [] j k = absurd (true≢false (sym e ∙ k))
        late (d ∷ c) j k = order_fails holds (may_follow (d ∷ c) (Version n)) (test rule.Version (n == 1 || n == 2) ∷ []) (ap (λ (es : List Entry). in_order es (kind (Version n))) j)
            ∙ sym (order_fails holds (in_order (d ∷ c) (kind (Version n))) (test rule.Version (n == 1) ∷ []) refl)
    go b s i false e = ap₂ (λ (es : List Entry) (t : Bool). first_failure holds 1 (test rule.Order (in_order es (kind (Version n))) ∷ test rule.Version t ∷ [])) s
        (one_or (n == 1) (n == 2) (ap not e))
same_failure holds file before (Share v) same second =
    order_fails holds (may_follow before (Share v)) (written_kind_events file before (Share v)) (not_second before (Share v ∷ []) second) ∙ sym (order_or_never holds (in_order before (kind (Share v))))
same_failure holds file before (CutOf w gamma share v) same second =
    order_fails holds (may_follow before (CutOf w gamma share v)) (written_kind_events file before (CutOf w gamma share v))
    (ap (λ (b : Bool). (not true || b) && in_order (plain before) Rattle.log_rules.specs.Order.Kind.cut) (not_second before (CutOf w gamma share v ∷ []) second))
    ∙ sym (order_or_never holds (in_order before (kind (CutOf w gamma share v))))
same_failure holds file before (PointOf g share m) same second =
    order_fails holds (may_follow before (PointOf g share m)) (written_kind_events file before (PointOf g share m))
    (ap (λ (b : Bool). (not true || b) && in_order (plain before) Rattle.log_rules.specs.Order.Kind.point) (not_second before (PointOf g share m ∷ []) second))
    ∙ sym (order_or_never holds (in_order before (kind (PointOf g share m))))
same_failure holds file before (RayOf g share m) same second =
    order_fails holds (may_follow before (RayOf g share m)) (written_kind_events file before (RayOf g share m))
    (ap (λ (b : Bool). (not true || b) && in_order (plain before) Rattle.log_rules.specs.Order.Kind.ray) (not_second before (RayOf g share m ∷ []) second))
    ∙ sym (order_or_never holds (in_order before (kind (RayOf g share m))))
same_failure holds file before (AddHints cut pairs hints) same second =
    order_fails holds (may_follow before (AddHints cut pairs hints)) (written_kind_events file before (AddHints cut pairs hints))
    (ap (λ (b : Bool). (not true || b) && in_order (plain before) Rattle.log_rules.specs.Order.Kind.add) (not_second before (AddHints cut pairs hints ∷ []) second))
    ∙ sym (order_or_never holds (in_order before (kind (AddHints cut pairs hints))))
same_failure holds file before (Duality c weights picks inverse) same second = ap (λ (b : List Entry). first_failure holds 1 (events file b (Duality c weights picks inverse))) same
same_failure holds file before (Cut w gamma u v) same second = ap (λ (b : List Entry). first_failure holds 1 (events file b (Cut w gamma u v))) same
same_failure holds file before (Start cuts point directions) same second = ap (λ (b : List Entry). first_failure holds 1 (events file b (Start cuts point directions))) same
same_failure holds file before (Add cut pairs) same second = ap (λ (b : List Entry). first_failure holds 1 (events file b (Add cut pairs))) same
same_failure holds file before (Point g x m) same second = ap (λ (b : List Entry). first_failure holds 1 (events file b (Point g x m))) same
same_failure holds file before (Ray g x m) same second = ap (λ (b : List Entry). first_failure holds 1 (events file b (Ray g x m))) same
same_failure holds file before (Farkas u) same second = ap (λ (b : List Entry). first_failure holds 1 (events file b (Farkas u))) same
same_failure holds file before (Whole x ray m) same second = ap (λ (b : List Entry). first_failure holds 1 (events file b (Whole x ray m))) same
same_failure holds file before (Line d x ray m back n) same second = ap (λ (b : List Entry). first_failure holds 1 (events file b (Line d x ray m back n))) same
same_failure holds file before (Facet cut) same second = ap (λ (b : List Entry). first_failure holds 1 (events file b (Facet cut))) same
same_failure holds file before (End k) same second = ap (λ (b : List Entry). first_failure holds 1 (events file b (End k))) same

-- ---- the log
pub is_plain_of : (file : Problem) (holds : ℚ → Bool) (before : List Entry) (e : Entry) → is_version_2 (before ++ e ∷ []) ≡ false →
    first_failure holds 1 (events file before e) ≡ None → is_plain e ≡ true
is_plain_of file holds before (Version n) second h = go before second h (n == 2) refl
  where
    go : (b : List Entry) → is_version_2 (b ++ Version n ∷ []) ≡ false → first_failure holds 1 (events file b (Version n)) ≡ None → (t : Bool) → (n == 2) ≡ t → is_plain (Version n) ≡ true
    go b i j false e = ap not e
    go [] i j true e = absurd (true≢false (sym e ∙ i))
    go (d ∷ b) i j true e = absurd (none_some (sym j))
      where
        none_some : ◌≡◌ {A = Option Failure} None (Some (wrong rule.Order)) → ⊥
        none_some k = cc
is_plain_of file holds before (Share v) second h = absurd (never_none (first_failure holds 1 (events file before (Share v))) (order_or_never holds (in_order before (kind (Share v)))) h)
is_plain_of file holds before (CutOf w gamma share v) second h =
    absurd (never_none (first_failure holds 1 (events file before (CutOf w gamma share v))) (order_or_never holds (in_order before (kind (CutOf w gamma share v)))) h)
is_plain_of file holds before (PointOf g share m) second h =
    absurd (never_none (first_failure holds 1 (events file before (PointOf g share m))) (order_or_never holds (in_order before (kind (PointOf g share m)))) h)
is_plain_of file holds before (RayOf g share m) second h =
    absurd (never_none (first_failure holds 1 (events file before (RayOf g share m))) (order_or_never holds (in_order before (kind (RayOf g share m)))) h)
is_plain_of file holds before (AddHints cut pairs hints) second h =
    absurd (never_none (first_failure holds 1 (events file before (AddHints cut pairs hints))) (order_or_never holds (in_order before (kind (AddHints cut pairs hints)))) h)
is_plain_of file holds before (Duality c weights picks inverse) second h = refl
is_plain_of file holds before (Cut w gamma u v) second h = refl
is_plain_of file holds before (Start cuts point directions) second h = refl
is_plain_of file holds before (Add cut pairs) second h = refl
is_plain_of file holds before (Point g x m) second h = refl
is_plain_of file holds before (Ray g x m) second h = refl
is_plain_of file holds before (Farkas u) second h = refl
is_plain_of file holds before (Whole x ray m) second h = refl
is_plain_of file holds before (Line d x ray m back n) second h = refl
is_plain_of file holds before (Facet cut) second h = refl
is_plain_of file holds before (End k) second h = refl

pub first_of : (before : List Entry) (e : Entry) (entries : List Entry) → is_version_2 (before ++ e ∷ entries) ≡ false → is_version_2 (before ++ e ∷ []) ≡ false
first_of before e entries h =
    not_second (before ++ e ∷ []) entries (ap is_version_2 (append_assoc before (e ∷ []) entries) ∙ h)

failures_same : (holds : ℚ → Bool) (file : Problem) (before entries : List Entry) → list_all is_plain before ≡ true → is_version_2 (before ++ entries) ≡ false →
    first_written_failing holds file before entries ≡ first_failing holds file before entries
failures_same holds file before [] all second = refl
failures_same holds file before (e ∷ entries) all second =
    let head : is_version_2 (before ++ e ∷ []) ≡ false = first_of before e entries second in
    ap (λ (o : Option Failure). elim o [
      | Some failure ↦ Some (record { entry = suc (length before); failure = failure })
      | None ↦ first_written_failing holds file (before ++ e ∷ []) entries
    ]) (same_failure holds file before e (same_after before all) head)
    ∙ go (first_failure holds 1 (events file before e)) refl (λ k. failures_same holds file (before ++ e ∷ []) entries
    (all_push before e all (is_plain_of file holds before e head k)) (ap is_version_2 (append_assoc before (e ∷ []) entries) ∙ second))
  where
    go : (o : Option Failure) → first_failure holds 1 (events file before e) ≡ o →
        (first_failure holds 1 (events file before e) ≡ None →
        first_written_failing holds file (before ++ e ∷ []) entries ≡ first_failing holds file (before ++ e ∷ []) entries) →
        ◌≡◌ {A = Option Failing} (elim o [
          | Some failure ↦ Some (record { entry = suc (length before); failure = failure })
          | None ↦ first_written_failing holds file (before ++ e ∷ []) entries
        ]) (elim o [
          | Some failure ↦ Some (record { entry = suc (length before); failure = failure })
          | None ↦ first_failing holds file (before ++ e ∷ []) entries
        ])
    go (Some failure) h again = refl
    go None h again = again h

pub plain_logs_stay : PlainLogsStay
plain_logs_stay = record {
  same = same_log;
  failure = λ holds file entries second. failures_same holds file [] entries refl second;
  proves = proves_same;
  meets = λ file entries all. rest_is_plain file [] entries all;
  first = begins_plain;
}
