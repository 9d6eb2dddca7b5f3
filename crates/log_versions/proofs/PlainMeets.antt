-- A log that meets its rules stands for a plain log that meets its own, and proves what that proves.
use Rattle.std.proofs.Common.{◌≡◌, ℕ, ◌⊎◌, inl, inr, List, [], ◌∷◌, ◌++◌, refl, sym, ap, ap₂, subst, append_assoc, append-nil, Bool, true, false, ◌&&◌, ◌==◌, IsTrue, if◌then◌else◌}
use Rattle.vlp_problem.specs.declared.problem.Problem.{Problem}
use Rattle.deriv_log.specs.declared.entry.Entry.{Entry}
use Rattle.deriv_log.specs.declared.entry.Entry.TheVariants.{Version, Duality, Cut, Start, Add, Point, Ray, Farkas, Whole, Line, Facet, End, Share, CutOf, PointOf, RayOf, AddHints}
use Rattle.polyhedra.proofs.Tests.{both_true}
use Rattle.log_rules.specs.Live.{state}
use Rattle.log_rules.specs.Meets.{Meets}
use Rattle.log_rules.specs.Order.{Kind, in_order, implies}
use Rattle.log_rules.specs.Order as order
use Rattle.log_rules.specs.Proves.{AllMeet, PlainProves}
use Rattle.log_rules.specs.declared.answer.Answer.{Answer}
use Rattle.log_rules.proofs.Kept.{state-rises}
use Rattle.log_rules.proofs.OneAnswer.{one_answer}
use Rattle.log_rules.proofs.ProvedIsRight.{proved_is_right}
use Rattle.log_versions.specs.Plain.{shares, shared, plain_entry, plain, is_version_2}
use Rattle.log_versions.specs.Written.{WrittenMeets, AllWrittenMeet, Proves}
use Rattle.log_versions.specs.Laws.{PlainLogMeets, ProvesPlainly}
use Rattle.log_versions.proofs.HintedPairs.{hints_show_pairs}
use Rattle.log_versions.proofs.PlainLogs.{plain-push, plain_log}

-- ---- one more entry of a plain log
last_or_more : (es : List Entry) (p : Entry) (before : List Entry) (e : Entry) (after : List Entry) → es ++ p ∷ [] ≡ before ++ e ∷ after →
    ((es ≡ before) × (p ≡ e)) ⊎ ((mid : List Entry) × (es ≡ before ++ e ∷ mid))
last_or_more [] p [] e after h = inl (refl, cc)
last_or_more [] p (b ∷ []) e after h = absurd cc
last_or_more [] p (b ∷ c ∷ before) e after h = absurd cc
last_or_more (x ∷ es) p [] e after h = let first : x ≡ e = cc in inr (es, ap (λ (d : Entry). d ∷ es) first)
last_or_more (x ∷ es) p (b ∷ before) e after h =
    let first : x ≡ b = cc in
    let rest : es ++ p ∷ [] ≡ before ++ e ∷ after = cc in
    go first (last_or_more es p before e after rest)
  where
    go : x ≡ b → ((es ≡ before) × (p ≡ e)) ⊎ ((mid : List Entry) × (es ≡ before ++ e ∷ mid)) →
        ((x ∷ es ≡ b ∷ before) × (p ≡ e)) ⊎ ((mid : List Entry) × (x ∷ es ≡ b ∷ before ++ e ∷ mid))
    go f (inl s) = inl (ap₂ (λ (d : Entry) (ds : List Entry). d ∷ ds) f s.0, s.1)
    go f (inr s) = inr (s.0, ap₂ (λ (d : Entry) (ds : List Entry). d ∷ ds) f s.1)

pub meets_push : (file : Problem) (es : List Entry) (p : Entry) → AllMeet file es → Meets file es p → AllMeet file (es ++ p ∷ [])
meets_push file es p all m before e after same = go (last_or_more es p before e after same)
  where
    go : ((es ≡ before) × (p ≡ e)) ⊎ ((mid : List Entry) × (es ≡ before ++ e ∷ mid)) → Meets file before e
    go (inl s) = subst (λ (d : List Entry × Entry). Meets file d.0 d.1) (λ i. (s.0 i, s.1 i)) m
    go (inr s) = all before e s.0 s.1

-- an entry that follows those before it follows them in the plain log
ordered : (before : List Entry) (k : Kind) (second : Bool) → IsTrue (implies second (is_version_2 before) && in_order (plain before) k) → IsTrue (in_order (plain before) k)
ordered before k second h = (both_true (implies second (is_version_2 before)) (in_order (plain before) k) h).1

-- ---- an entry and its plain entry: there is none, or it meets its rules
pub StandsPlainly : Problem → List Entry → Entry → Type 0
StandsPlainly file before e =
    (plain_entry (shares before) e ≡ []) ⊎ ((p : Entry) × (plain_entry (shares before) e ≡ p ∷ []) × Meets file (plain before) p)

pub stands_plainly : (file : Problem) (before : List Entry) (e : Entry) → WrittenMeets file before e → StandsPlainly file before e
unfolding StandsPlainly
stands_plainly file before (Share v) m = inl refl
stands_plainly file before (Version n) m = inr (Version (if n == 2 then 1 else n), refl, record { order = ordered before order.version false m.order; rules = is_one m.rules })
  where
    is_one : (n ≡ 1) ⊎ (n ≡ 2) → (if n == 2 then 1 else n) ≡ 1
    is_one (inl e) = ap (λ (k : ℕ). if k == 2 then 1 else k) e
    is_one (inr e) = ap (λ (k : ℕ). if k == 2 then 1 else k) e
stands_plainly file before (CutOf w gamma share v) m =
    inr (Cut w gamma (shared (shares before) share) v, refl, record { order = ordered before order.cut true m.order; rules = m.rules.1 })
stands_plainly file before (PointOf generator share n) m =
    inr (Point generator (shared (shares before) share) n, refl, record { order = ordered before order.point true m.order; rules = m.rules.1 })
stands_plainly file before (RayOf generator share n) m =
    inr (Ray generator (shared (shares before) share) n, refl, record { order = ordered before order.ray true m.order; rules = m.rules.1 })
stands_plainly file before (AddHints cut pairs hints) m =
    inr (
      Add cut pairs,
      refl,
      record {
        order = ordered before order.add true m.order;
        rules = hints_show_pairs file (state file.objs (plain before)) cut pairs hints (state-rises file.objs (plain before)) m.rules;
      },
    )
stands_plainly file before (Duality c weights picks inverse) m =
    inr (Duality c weights picks inverse, refl, record { order = ordered before order.duality false m.order; rules = m.rules })
stands_plainly file before (Cut w gamma u v) m = inr (Cut w gamma u v, refl, record { order = ordered before order.cut false m.order; rules = m.rules })
stands_plainly file before (Start cuts point directions) m =
    inr (Start cuts point directions, refl, record { order = ordered before order.start false m.order; rules = m.rules })
stands_plainly file before (Add cut pairs) m = inr (Add cut pairs, refl, record { order = ordered before order.add false m.order; rules = m.rules })
stands_plainly file before (Point generator x n) m = inr (Point generator x n, refl, record { order = ordered before order.point false m.order; rules = m.rules })
stands_plainly file before (Ray generator x n) m = inr (Ray generator x n, refl, record { order = ordered before order.ray false m.order; rules = m.rules })
stands_plainly file before (Farkas u) m = inr (Farkas u, refl, record { order = ordered before order.farkas false m.order; rules = m.rules })
stands_plainly file before (Whole x ray n) m = inr (Whole x ray n, refl, record { order = ordered before order.whole false m.order; rules = m.rules })
stands_plainly file before (Line d x ray n back l) m = inr (Line d x ray n back l, refl, record { order = ordered before order.line false m.order; rules = m.rules })
stands_plainly file before (Facet cut) m = inr (Facet cut, refl, record { order = ordered before order.facet false m.order; rules = m.rules })
stands_plainly file before (End k) m = inr (End k, refl, record { order = ordered before order.end false m.order; rules = m.rules })

-- what a plain log keeps from entry to entry, the plain logs of a log keep
pub plain_next : (file : Problem) (P : List Entry → Type 0) → ((before : List Entry) (e : Entry) → Meets file before e → P before → P (before ++ e ∷ [])) →
    (before : List Entry) (e : Entry) → WrittenMeets file before e → P (plain before) → P (plain (before ++ e ∷ []))
unfolding StandsPlainly
plain_next file P step before e m h = subst P (sym (plain-push before e)) (go (stands_plainly file before e m))
  where
    go : StandsPlainly file before e → P (plain before ++ plain_entry (shares before) e)
    go (inl none) = subst (λ (es : List Entry). P (plain before ++ es)) (sym none) (subst P (sym (append-nil (plain before))) h)
    go (inr s) = subst (λ (es : List Entry). P (plain before ++ es)) (sym s.1) (step (plain before) s.0 s.2 h)

plain_further : (file : Problem) (done rest : List Entry) → AllWrittenMeet file (done ++ rest) → AllMeet file (plain done) → AllMeet file (plain (done ++ rest))
plain_further file done [] all h = subst (λ (es : List Entry). AllMeet file (plain es)) (sym (append-nil done)) h
plain_further file done (e ∷ rest) all h =
    let same : (done ++ e ∷ []) ++ rest ≡ done ++ e ∷ rest = append_assoc done (e ∷ []) rest in
    subst (λ (es : List Entry). AllMeet file (plain es)) same
    (plain_further file (done ++ e ∷ []) rest (subst (λ (es : List Entry). AllWrittenMeet file es) (sym same) all)
    (plain_next file (λ (es : List Entry). AllMeet file es) (λ before p m k. meets_push file before p k m) done e (all done e rest refl) h))

none_before : (file : Problem) → AllMeet file []
none_before file [] e after same = absurd cc
none_before file (b ∷ before) e after same = absurd cc

pub plain_log_meets : PlainLogMeets
plain_log_meets file entries all = plain_further file [] entries all (none_before file)

-- ---- what it proves
plainly_proved : (file : Problem) (entries : List Entry) (answer : Answer) → Proves file entries answer → PlainProves file (plain entries) answer
plainly_proved file entries answer h = record { log = plain_log entries h.log; meet = plain_log_meets file entries h.meet; gives = h.gives }

pub proves_plainly : ProvesPlainly
proves_plainly = record {
  plainly = plainly_proved;
  right = λ file entries answer h. proved_is_right file (plain entries) answer (plainly_proved file entries answer h);
  one = λ file entries answer answer' h k. one_answer file (plain entries) answer answer' (plainly_proved file entries answer h) (plainly_proved file entries answer' k);
}
