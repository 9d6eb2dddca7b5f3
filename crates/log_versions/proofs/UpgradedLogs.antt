-- The upgrade of a whole log.
use Rattle.std.proofs.Common.{◌≡◌, ℕ, zero, suc, List, [], ◌∷◌, ◌++◌, refl, sym, ap, ◌∙◌, subst, append_assoc, append-nil, Bool, true, false, true≢false, not, length, None, if◌then◌else◌}
use Rattle.std.specs.List.{list_all}
use Rattle.std.proofs.lemmas.Bool.{and_parts, and_from}
use Rattle.exact_field.specs.Rational.{ℚ}
use Rattle.frac128.specs.declared.vectors.Spot.{Spot}
use Rattle.vlp_problem.specs.declared.problem.Problem.{Problem}
use Rattle.deriv_log.specs.Formed.{is_end, ends_once, IsLog}
use Rattle.deriv_log.specs.declared.entry.Entry.{Entry}
use Rattle.deriv_log.specs.declared.entry.Entry.TheVariants.{Version, Duality, Cut, Start, Add, Point, Ray, Farkas, Whole, Line, Facet, End, Share, CutOf, PointOf, RayOf, AddHints}
use Rattle.log_rules.specs.Events.{first_failure}
use Rattle.log_rules.specs.LogEvents.{first_failing, events, plain_failure}
use Rattle.log_rules.specs.Meets.{Meets}
use Rattle.log_rules.specs.Order as order
use Rattle.log_rules.specs.Proves.{AllMeet, Gives}
use Rattle.log_rules.proofs.LogMeets.{events_give_meets, both_none}
use Rattle.log_versions.specs.Plain.{shares, plain, is_plain, is_version_2}
use Rattle.log_versions.specs.WrittenEvents.{log_failure, first_written_failing}
use Rattle.log_versions.specs.Upgrade.{is_repeated, number_from, naming, sharing, upgraded_entry, more_shared, upgraded_after, upgraded}
use Rattle.log_versions.specs.Laws.{IsUpgrade, UpgradesSayTheSame}
use Rattle.log_versions.proofs.PlainStay.{plain_logs_stay, is_plain_of, all_push, first_of}
use Rattle.log_versions.proofs.Upgraded.{IsStep, begins, step}
use Rattle.log_versions.proofs.WrittenMeets.{written_events_give_meets}

module _ (holds : ℚ → Bool) (file : Problem) (all : List Entry) where
  -- the upgrade of the entries that are left after what is written of those before
  record IsRest (front done rest : List Entry) (vectors : List (List Spot)) : Type 0 where
    pub passes : first_written_failing holds file front (upgraded_after file.objs all done vectors rest) ≡ None
    pub plainly : plain (front ++ upgraded_after file.objs all done vectors rest) ≡ done ++ rest

  is_rest : (front done rest : List Entry) (vectors : List (List Spot)) → plain front ≡ done → shares front ≡ vectors → is_version_2 front ≡ true →
      (tail : List Entry) → done ≡ Version 1 ∷ tail → first_failing holds file done rest ≡ None → AllMeet file (done ++ rest) → IsRest front done rest vectors
  is_rest front done [] vectors same are second tail starts h meet = record {
    passes = refl;
    plainly = ap plain (append-nil front) ∙ same ∙ sym (append-nil done);
  }
  is_rest front done (e ∷ rest) vectors same are second tail starts h meet =
      let parts = both_none (first_failure holds 1 (events file done e)) (λ x. record { entry = suc (length done); failure = x })
      (first_failing holds file (done ++ e ∷ []) rest) h in
      let met : Meets file done e = meet done e rest refl in
      let not_two : is_version_2 (done ++ e ∷ []) ≡ false = ap (λ (d : List Entry). is_version_2 (d ++ e ∷ [])) starts in
      let s : IsStep holds file front e (upgraded_entry file.objs all done vectors e) (more_shared all vectors e) =
      step holds file all front done vectors e same are second tail starts (is_plain_of file holds done e not_two parts.0) parts.0 met in
      let more : (done ++ e ∷ []) ++ rest ≡ done ++ e ∷ rest = append_assoc done (e ∷ []) rest in
      let again : IsRest (front ++ upgraded_entry file.objs all done vectors e) (done ++ e ∷ []) rest (more_shared all vectors e) =
      is_rest (front ++ upgraded_entry file.objs all done vectors e) (done ++ e ∷ []) rest (more_shared all vectors e)
      (s.plainly ∙ ap (λ (d : List Entry). d ++ e ∷ []) same) s.shared_are s.second (tail ++ e ∷ [])
      (ap (λ (d : List Entry). d ++ e ∷ []) starts) parts.1 (subst (λ (es : List Entry). AllMeet file es) (sym more) meet) in
      record {
        passes = s.passes (upgraded_after file.objs all (done ++ e ∷ []) (more_shared all vectors e) rest) ∙ again.passes;
        plainly = ap plain (sym (append_assoc front (upgraded_entry file.objs all done vectors e) (upgraded_after file.objs all (done ++ e ∷ []) (more_shared all vectors e) rest)))
            ∙ again.plainly ∙ more;
      }

-- ---- where it ends
none_ends : (xs ys : List Entry) → list_all (λ x. not (is_end x)) xs ≡ true → ends_once ys ≡ true → ends_once (xs ++ ys) ≡ true
none_ends [] ys h k = k
none_ends (x ∷ []) [] h k = absurd (true≢false (sym k))
none_ends (x ∷ []) (y ∷ ys) h k = and_from (not (is_end x)) (ends_once (y ∷ ys)) (and_parts (not (is_end x)) true h).0 k
none_ends (x ∷ z ∷ xs) ys h k =
    let p = and_parts (not (is_end x)) (list_all (λ v. not (is_end v)) (z ∷ xs)) h in
    and_from (not (is_end x)) (ends_once (z ∷ xs ++ ys)) p.0 (none_ends (z ∷ xs) ys p.1 k)

sharing_ends : (vectors : List (List Spot)) (u : List Spot) (e : Entry) → ((k : ℕ) → is_end (naming k e) ≡ false) →
    list_all (λ x. not (is_end x)) (sharing vectors u e) ≡ true
sharing_ends vectors u e h = go (number_from 1 u vectors)
  where
    open_ended : (k : ℕ) → list_all (λ x. not (is_end x)) (naming k e ∷ []) ≡ true
    open_ended k = and_from (not (is_end (naming k e))) true (ap not (h k)) refl

    go : (n : ℕ) → list_all (λ x. not (is_end x)) (elim n [ zero ↦ Share u ∷ naming (suc (length vectors)) e ∷ [] | suc k ↦ naming (suc k) e ∷ [] ]) ≡ true
    go zero = open_ended (suc (length vectors))
    go (suc k) = open_ended (suc k)

shared_ends : (vectors : List (List Spot)) (u : List Spot) (e : Entry) (b : Bool) → ((k : ℕ) → is_end (naming k e) ≡ false) → is_end e ≡ false →
    list_all (λ x. not (is_end x)) (elim b [ true ↦ sharing vectors u e | false ↦ e ∷ [] ]) ≡ true
shared_ends vectors u e true h k = sharing_ends vectors u e h
shared_ends vectors u e false h k = and_from (not (is_end e)) true (ap not k) refl

entry_ends : (q : ℕ) (all done : List Entry) (vectors : List (List Spot)) (e : Entry) → is_end e ≡ false →
    list_all (λ x. not (is_end x)) (upgraded_entry q all done vectors e) ≡ true
entry_ends q all done vectors (Cut w gamma u v) h = shared_ends vectors u (Cut w gamma u v) (is_repeated all u) (λ k. refl) refl
entry_ends q all done vectors (Point g x m) h = shared_ends vectors x (Point g x m) (is_repeated all x) (λ k. refl) refl
entry_ends q all done vectors (Ray g x m) h = shared_ends vectors x (Ray g x m) (is_repeated all x) (λ k. refl) refl
entry_ends q all done vectors (Version n) h = refl
entry_ends q all done vectors (Duality c weights picks inverse) h = refl
entry_ends q all done vectors (Start cuts point directions) h = refl
entry_ends q all done vectors (Add cut pairs) h = refl
entry_ends q all done vectors (Farkas u) h = refl
entry_ends q all done vectors (Whole x ray m) h = refl
entry_ends q all done vectors (Line d x ray m back n) h = refl
entry_ends q all done vectors (Facet cut) h = refl
entry_ends q all done vectors (End k) h = absurd (true≢false h)
entry_ends q all done vectors (Share v) h = refl
entry_ends q all done vectors (CutOf w gamma share v) h = refl
entry_ends q all done vectors (PointOf g share m) h = refl
entry_ends q all done vectors (RayOf g share m) h = refl
entry_ends q all done vectors (AddHints cut pairs hints) h = refl

last_ends : (q : ℕ) (all done : List Entry) (vectors : List (List Spot)) (e : Entry) → is_end e ≡ true →
    ends_once (upgraded_entry q all done vectors e ++ []) ≡ true
last_ends q all done vectors (End k) h = refl
last_ends q all done vectors (Version n) h = absurd (true≢false (sym h))
last_ends q all done vectors (Duality c weights picks inverse) h = absurd (true≢false (sym h))
last_ends q all done vectors (Cut w gamma u v) h = absurd (true≢false (sym h))
last_ends q all done vectors (Start cuts point directions) h = absurd (true≢false (sym h))
last_ends q all done vectors (Add cut pairs) h = absurd (true≢false (sym h))
last_ends q all done vectors (Point g x m) h = absurd (true≢false (sym h))
last_ends q all done vectors (Ray g x m) h = absurd (true≢false (sym h))
last_ends q all done vectors (Farkas u) h = absurd (true≢false (sym h))
last_ends q all done vectors (Whole x ray m) h = absurd (true≢false (sym h))
last_ends q all done vectors (Line d x ray m back n) h = absurd (true≢false (sym h))
last_ends q all done vectors (Facet cut) h = absurd (true≢false (sym h))
last_ends q all done vectors (Share v) h = absurd (true≢false (sym h))
last_ends q all done vectors (CutOf w gamma share v) h = absurd (true≢false (sym h))
last_ends q all done vectors (PointOf g share m) h = absurd (true≢false (sym h))
last_ends q all done vectors (RayOf g share m) h = absurd (true≢false (sym h))
last_ends q all done vectors (AddHints cut pairs hints) h = absurd (true≢false (sym h))

not_is : (b : Bool) → not b ≡ true → b ≡ false
not_is true h = sym h
not_is false h = refl

pub ends_after : (q : ℕ) (all done rest : List Entry) (vectors : List (List Spot)) → ends_once rest ≡ true →
    ends_once (upgraded_after q all done vectors rest) ≡ true
ends_after q all done [] vectors h = h
ends_after q all done (e ∷ []) vectors h = last_ends q all done vectors e h
ends_after q all done (e ∷ next ∷ rest) vectors h =
    let p = and_parts (not (is_end e)) (ends_once (next ∷ rest)) h in
    none_ends (upgraded_entry q all done vectors e) (upgraded_after q all (done ++ e ∷ []) (more_shared all vectors e) (next ∷ rest))
    (entry_ends q all done vectors e (not_is (is_end e) p.0))
    (ends_after q all (done ++ e ∷ []) (next ∷ rest) (more_shared all vectors e) p.1)

-- ---- the upgrade of a log of version 1
-- the first entry of a log that meets its rules is `version 1`
first_entry : (file : Problem) (e : Entry) → Meets file [] e → e ≡ Version 1
first_entry file (Version n) m = ap Version m.rules
first_entry file (Duality c weights picks inverse) m = absurd (true≢false (sym (begins (λ _. true) file [] order.duality m.order)))
first_entry file (Cut w gamma u v) m = absurd (true≢false (sym (begins (λ _. true) file [] order.cut m.order)))
first_entry file (Start cuts point directions) m = absurd (true≢false (sym (begins (λ _. true) file [] order.start m.order)))
first_entry file (Add cut pairs) m = absurd (true≢false (sym (begins (λ _. true) file [] order.add m.order)))
first_entry file (Point g x n) m = absurd (true≢false (sym (begins (λ _. true) file [] order.point m.order)))
first_entry file (Ray g x n) m = absurd (true≢false (sym (begins (λ _. true) file [] order.ray m.order)))
first_entry file (Farkas u) m = absurd (true≢false (sym (begins (λ _. true) file [] order.farkas m.order)))
first_entry file (Whole x ray n) m = absurd (true≢false (sym (begins (λ _. true) file [] order.whole m.order)))
first_entry file (Line d x ray n back l) m = absurd (true≢false (sym (begins (λ _. true) file [] order.line m.order)))
first_entry file (Facet cut) m = absurd (true≢false (sym (begins (λ _. true) file [] order.facet m.order)))
first_entry file (End k) m = absurd (true≢false (sym (begins (λ _. true) file [] order.end m.order)))
first_entry file (Share v) m = absurd m.rules
first_entry file (CutOf w gamma share v) m = absurd m.rules
first_entry file (PointOf g share n) m = absurd m.rules
first_entry file (RayOf g share n) m = absurd m.rules
first_entry file (AddHints cut pairs hints) m = absurd m.rules

-- what is shown of the upgrade, whichever it is
record IsUpgraded (holds : ℚ → Bool) (file : Problem) (entries written : List Entry) : Type 0 where
  pub second : is_version_2 written ≡ true
  pub passes : log_failure holds file written ≡ None
  pub plainly : plain written ≡ plain entries
  pub ends : ends_once written ≡ true

from_one : (holds : ℚ → Bool) (file : Problem) (rest : List Entry) → ends_once (Version 1 ∷ rest) ≡ true → plain_failure holds file (Version 1 ∷ rest) ≡ None →
    plain (Version 1 ∷ rest) ≡ Version 1 ∷ rest → IsUpgraded holds file (Version 1 ∷ rest) (upgraded_after file.objs (Version 1 ∷ rest) [] [] (Version 1 ∷ rest))
from_one holds file rest ends h same =
    let all : List Entry = Version 1 ∷ rest in
    let parts = both_none (first_failure holds 1 (events file [] (Version 1))) (λ x. record { entry = 1; failure = x }) (first_failing holds file (Version 1 ∷ []) rest) h in
    let r : IsRest holds file all (Version 2 ∷ []) (Version 1 ∷ []) rest [] =
    is_rest holds file all (Version 2 ∷ []) (Version 1 ∷ []) rest [] refl refl refl [] refl parts.1 (events_give_meets holds file all h) in
    record {
      second = refl;
      passes = r.passes;
      plainly = r.plainly ∙ sym same;
      ends = ends_after file.objs all [] all [] ends;
    }

from_first : (holds : ℚ → Bool) (file : Problem) (entries : List Entry) → ends_once entries ≡ true → plain_failure holds file entries ≡ None →
    is_version_2 entries ≡ false → IsUpgraded holds file entries (upgraded_after file.objs entries [] [] entries)
from_first holds file [] ends h second = absurd (true≢false (sym ends))
from_first holds file (e ∷ rest) ends h second =
    let first : e ≡ Version 1 = first_entry file e (events_give_meets holds file (e ∷ rest) h [] e rest refl) in
    subst (λ (d : Entry). IsUpgraded holds file (d ∷ rest) (upgraded_after file.objs (d ∷ rest) [] [] (d ∷ rest))) (sym first)
    (from_one holds file rest (ap (λ (d : Entry). ends_once (d ∷ rest)) (sym first) ∙ ends)
    (ap (λ (d : Entry). plain_failure holds file (d ∷ rest)) (sym first) ∙ h)
    (plain_logs_stay.same (Version 1 ∷ rest) (ap (λ (d : Entry). list_all is_plain (d ∷ rest)) (sym first) ∙ all_plain [] (e ∷ rest) refl h second)))
  where
    all_plain : (done more : List Entry) → list_all is_plain done ≡ true → first_failing holds file done more ≡ None → is_version_2 (done ++ more) ≡ false →
        list_all is_plain (done ++ more) ≡ true
    all_plain done [] g i j = subst (λ (es : List Entry). list_all is_plain es ≡ true) (sym (append-nil done)) g
    all_plain done (d ∷ more) g i j =
        let parts = both_none (first_failure holds 1 (events file done d)) (λ x. record { entry = suc (length done); failure = x })
        (first_failing holds file (done ++ d ∷ []) more) i in
        let same : (done ++ d ∷ []) ++ more ≡ done ++ d ∷ more = append_assoc done (d ∷ []) more in
        subst (λ (es : List Entry). list_all is_plain es ≡ true) same
        (all_plain (done ++ d ∷ []) more (all_push done d g (is_plain_of file holds done d (first_of done d more j) parts.0)) parts.1 (ap is_version_2 same ∙ j))

-- ---- any log
gives_upgrade : (holds : ℚ → Bool) (file : Problem) (entries : List Entry) (b : Bool) → is_version_2 entries ≡ b → IsLog entries →
    IsUpgraded holds file entries (if b then entries else upgraded_after file.objs entries [] [] entries) → IsUpgrade holds file entries
gives_upgrade holds file entries b e log u =
    let is : upgraded file.objs entries ≡ (if b then entries else upgraded_after file.objs entries [] [] entries) =
    ap (λ (c : Bool). if c then entries else upgraded_after file.objs entries [] [] entries) e in
    let v : IsUpgraded holds file entries (upgraded file.objs entries) = subst (λ (es : List Entry). IsUpgraded holds file entries es) (sym is) u in
    record {
      second = v.second;
      passes = v.passes;
      plainly = v.plainly;
      proves = λ answer formed w. record {
        log = record { formed = formed; ends = v.ends };
        meet = written_events_give_meets holds file (upgraded file.objs entries) v.passes;
        gives = subst (λ (es : List Entry). Gives file es answer) (sym v.plainly) w.gives;
      };
      once = ap (λ (c : Bool). if c then upgraded file.objs entries else upgraded_after file.objs (upgraded file.objs entries) [] [] (upgraded file.objs entries)) v.second;
    }

pub upgrades_say_the_same : UpgradesSayTheSame
upgrades_say_the_same holds file entries log h = go (is_version_2 entries) refl
  where
    go : (b : Bool) → is_version_2 entries ≡ b → IsUpgrade holds file entries
    go true e = gives_upgrade holds file entries true e log (record { second = e; passes = h; plainly = refl; ends = log.ends })
    go false e = gives_upgrade holds file entries false e log (from_first holds file entries log.ends (sym (plain_logs_stay.failure holds file entries e) ∙ h) e)
