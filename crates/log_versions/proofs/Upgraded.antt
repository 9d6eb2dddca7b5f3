-- The upgrade of a log without a failure says the same: entry by entry, what is written after what was written passes, and stands for
-- the entry after those before it.
use Rattle.std.proofs.Common.{◌≡◌, ℕ, zero, suc, ◌+◌, ◌-◌, ◌<◌, ◌≤◌, ◌⊎◌, inl, inr, List, [], ◌∷◌, ◌++◌, refl, sym, ap, ap₂, ◌∙◌, subst, arith, append_assoc, append-nil, Bool, true, false, true≢false, not, ◌&&◌, ◌||◌, ◌==◌, nat_le, IsTrue, ne_eqb, length, length-append, flat_map, map, Option, None, Some, if◌then◌else◌, slice_index_or}
use Rattle.std.specs.List.{list_all}
use Rattle.std.proofs.lemmas.Bool.{eqb-true}
use Rattle.std.proofs.lemmas.List.Elements.{filter_map-append}
use Rattle.exact_field.specs.Rational.{ℚ}
use Rattle.exact_field.specs.Order.{same_ℚ}
use Rattle.exact_field.proofs.Comparison.{same_ℚ-is}
use Rattle.frac128.specs.declared.vectors.Spot.{Spot}
use Rattle.vlp_problem.specs.declared.problem.Problem.{Problem}
use Rattle.word_lines.specs.declared.part.LogPair.{LogPair}
use Rattle.deriv_log.specs.declared.entry.Entry.{Entry}
use Rattle.deriv_log.specs.declared.entry.Entry.TheVariants.{Version, Duality, Cut, Start, Add, Point, Ray, Farkas, Whole, Line, Facet, End, Share, CutOf, PointOf, RayOf, AddHints}
use Rattle.polyhedra.proofs.Tests.{both_true, both_hold, true-list_all}
use Rattle.polyhedra.proofs.Members.{all_of_members, member_of}
use Rattle.log_rules.specs.Events.{Event, first_failure}
use Rattle.log_rules.specs.Events.Event.{test}
use Rattle.log_rules.specs.Live.{State, state, cut_at, cut_row, rows_in_use, required_pairs, contains}
use Rattle.log_rules.specs.LiveEvents.{value_steps, pair_of, same_pairs, add_events}
use Rattle.log_rules.specs.LogEvents.{events, kind_events}
use Rattle.log_rules.specs.Meets.{Meets}
use Rattle.log_rules.specs.Order.{Kind, kind, implies, in_order, begins_well}
use Rattle.log_rules.specs.Order as order
use Rattle.log_rules.specs.Runs.{steps}
use Rattle.log_rules.specs.declared.rule.Rule.TheVariants as rule
use Rattle.log_rules.proofs.Failures.{or_else, first_failure-append}
use Rattle.log_rules.proofs.HeldTests.{within_passes}
use Rattle.log_rules.proofs.Kept.{state-rises}
use Rattle.log_rules.proofs.TightHeld.{pairs_pass}
use Rattle.log_versions.specs.Hints.{lists, unlisted, pairs_rise, are_hints, least_hints}
use Rattle.log_versions.specs.Plain.{share_in, shares, shared, plain_entry, plain, is_plain, is_version_2}
use Rattle.log_versions.specs.WrittenEvents.{is_there, hinted_events, written_events, first_written_failing}
use Rattle.log_versions.specs.Upgrade.{same_spots, is_repeated, number_from, with_hints, upgraded_entry, more_shared}
use Rattle.log_versions.proofs.HintedPairs.{lists_passes, pairs_have_hints}
use Rattle.log_versions.proofs.PlainLogs.{plain-push}
use Rattle.log_versions.proofs.WrittenMeets.{rise_passes}

-- ---- shared vectors by their numbers
spots_are : (u v : List Spot) → same_spots u v ≡ true → u ≡ v
spots_are [] [] h = refl
spots_are [] (t ∷ v) h = absurd (true≢false (sym h))
spots_are (s ∷ u) [] h = absurd (true≢false (sym h))
spots_are (s ∷ u) (t ∷ v) h =
    let a = both_true (s.at == t.at && same_ℚ s.value t.value) (same_spots u v) h in
    let b = both_true (s.at == t.at) (same_ℚ s.value t.value) a.0 in
    let place : s.at ≡ t.at = eqb-true s.at t.at b.0 in
    let value : s.value ≡ t.value = (same_ℚ-is s.value t.value).0 b.1 in
    ap₂ (λ (x : Spot) (xs : List Spot). x ∷ xs) (λ i. record { at = place i; value = value i }) (spots_are u v a.1)

-- the number that was found is that of the vector
numbered_is : (j n : ℕ) (u : List Spot) (vectors : List (List Spot)) → number_from j u vectors ≡ suc n → 1 ≤ j →
    (j ≤ suc n) × (suc n < j + length vectors) × (slice_index_or vectors (suc n - j) [] ≡ u)
numbered_is j n u [] h k = absurd (let e : zero ≡ suc n = h in omega (arith, e))
numbered_is j n u (v ∷ vectors) h k = go (same_spots u v) refl h (numbered_is (suc j) n u vectors)
  where
    go : (b : Bool) → same_spots u v ≡ b → ◌≡◌ {A = ℕ} (elim b [ true ↦ j | false ↦ number_from (suc j) u vectors ]) (suc n) →
        (number_from (suc j) u vectors ≡ suc n → 1 ≤ suc j → (suc j ≤ suc n) × (suc n < suc j + length vectors) × (slice_index_or vectors (suc n - suc j) [] ≡ u)) →
        (j ≤ suc n) × (suc n < j + suc (length vectors)) × (slice_index_or (v ∷ vectors) (suc n - j) [] ≡ u)
    go true e i again =
        let none : suc n - j ≡ zero = omega (arith, i) in
        (omega (arith, i), omega (arith, i), ap (λ (m : ℕ). slice_index_or (v ∷ vectors) m []) none ∙ sym (spots_are u v e))
    go false e i again =
        let t : (suc j ≤ suc n) × (suc n < suc j + length vectors) × (slice_index_or vectors (suc n - suc j) [] ≡ u) = again i (omega arith) in
        let low = t.0 in
        let high = t.1 in
        let more : suc n - j ≡ suc (suc n - suc j) = omega (arith, low) in
        (omega (arith, low), omega (arith, high), ap (λ (m : ℕ). slice_index_or (v ∷ vectors) m []) more ∙ t.2)

last_is : (vectors : List (List Spot)) (u : List Spot) → slice_index_or (vectors ++ u ∷ []) (length vectors) [] ≡ u
last_is [] u = refl
last_is (v ∷ vectors) u = last_is vectors u

-- ---- one entry
module _ (holds : ℚ → Bool) (file : Problem) where
  Passing : List Entry → Entry → Type 0
  Passing front x = first_failure holds 1 (written_events file front x) ≡ None

  pass_one : (front : List Entry) (x : Entry) (rest : List Entry) → Passing front x →
      first_written_failing holds file front (x ∷ rest) ≡ first_written_failing holds file (front ++ x ∷ []) rest
  unfolding Passing
  pass_one front x rest h = ap (λ o. elim o [
    | Some failure ↦ Some (record { entry = suc (length front); failure = failure })
    | None ↦ first_written_failing holds file (front ++ x ∷ []) rest
  ]) h

  -- what is written for an entry: it passes, stands for the entry, and shares these vectors
  pub record IsStep (front : List Entry) (e : Entry) (written : List Entry) (vectors : List (List Spot)) : Type 0 where
    pub passes : (rest : List Entry) → first_written_failing holds file front (written ++ rest) ≡ first_written_failing holds file (front ++ written) rest
    pub plainly : plain (front ++ written) ≡ plain front ++ e ∷ []
    pub shared_are : shares (front ++ written) ≡ vectors
    pub second : is_version_2 (front ++ written) ≡ true

  still_second : (front more : List Entry) → is_version_2 front ≡ true → is_version_2 (front ++ more) ≡ true
  still_second [] more h = absurd (true≢false (sym h))
  still_second (Version n ∷ front) more h = h
  still_second (Share v ∷ front) more h = absurd (true≢false (sym h))
  still_second (CutOf w gamma share v ∷ front) more h = absurd (true≢false (sym h))
  still_second (PointOf g share m ∷ front) more h = absurd (true≢false (sym h))
  still_second (RayOf g share m ∷ front) more h = absurd (true≢false (sym h))
  still_second (AddHints cut pairs hints ∷ front) more h = absurd (true≢false (sym h))
  still_second (Duality c weights picks inverse ∷ front) more h = absurd (true≢false (sym h))
  still_second (Cut w gamma u v ∷ front) more h = absurd (true≢false (sym h))
  still_second (Start cuts point directions ∷ front) more h = absurd (true≢false (sym h))
  still_second (Add cut pairs ∷ front) more h = absurd (true≢false (sym h))
  still_second (Point g x m ∷ front) more h = absurd (true≢false (sym h))
  still_second (Ray g x m ∷ front) more h = absurd (true≢false (sym h))
  still_second (Farkas u ∷ front) more h = absurd (true≢false (sym h))
  still_second (Whole x ray m ∷ front) more h = absurd (true≢false (sym h))
  still_second (Line d x ray m back n ∷ front) more h = absurd (true≢false (sym h))
  still_second (Facet cut ∷ front) more h = absurd (true≢false (sym h))
  still_second (End k ∷ front) more h = absurd (true≢false (sym h))

  -- one entry is written
  single : (front : List Entry) (vectors : List (List Spot)) (e x : Entry) → shares front ≡ vectors → is_version_2 front ≡ true → Passing front x →
      plain_entry (shares front) x ≡ e ∷ [] → shares (x ∷ []) ≡ [] → IsStep front e (x ∷ []) vectors
  single front vectors e x are second h p s = record {
    passes = λ rest. pass_one front x rest h;
    plainly = plain-push front x ∙ ap (λ es. plain front ++ es) p;
    shared_are = filter_map-append share_in front (x ∷ []) ∙ ap₂ (λ (vs ws : List (List Spot)). vs ++ ws) are s ∙ append-nil vectors;
    second = still_second front (x ∷ []) second;
  }

  -- a vector is shared, and then one entry is written
  double : (front : List Entry) (vectors : List (List Spot)) (u : List Spot) (e x : Entry) → shares front ≡ vectors → is_version_2 front ≡ true →
      IsStep (front ++ Share u ∷ []) e (x ∷ []) (vectors ++ u ∷ []) → IsStep front e (Share u ∷ x ∷ []) (vectors ++ u ∷ [])
  unfolding Passing
  double front vectors u e x are second s =
      let same : (front ++ Share u ∷ []) ++ x ∷ [] ≡ front ++ Share u ∷ x ∷ [] = append_assoc front (Share u ∷ []) (x ∷ []) in
      record {
        passes = λ rest. pass_one front (Share u) (x ∷ rest) (ap (λ (b : Bool). first_failure holds 1 (test rule.Order b ∷ [])) second)
            ∙ s.passes rest ∙ ap (λ (es : List Entry). first_written_failing holds file es rest) same;
        plainly = ap plain (sym same) ∙ s.plainly ∙ ap (λ (es : List Entry). es ++ e ∷ []) (plain-push front (Share u) ∙ append-nil (plain front));
        shared_are = ap shares (sym same) ∙ s.shared_are;
        second = ap is_version_2 (sym same) ∙ s.second;
      }

  -- an entry as it stands
  own : (front done : List Entry) (vectors : List (List Spot)) (e : Entry) → plain front ≡ done → shares front ≡ vectors → is_version_2 front ≡ true →
      first_failure holds 1 (events file done e) ≡ None →
      ((b : List Entry) → first_failure holds 1 (written_events file b e) ≡ first_failure holds 1 (events file (plain b) e)) →
      ((vs : List (List Spot)) → plain_entry vs e ≡ e ∷ []) → shares (e ∷ []) ≡ [] → IsStep front e (e ∷ []) vectors
  unfolding Passing
  own front done vectors e same are second h as_plain alone none =
      single front vectors e e are second (as_plain front ∙ ap (λ (b : List Entry). first_failure holds 1 (events file b e)) same ∙ h) (alone (shares front)) none

  -- ---- an entry with a vector that may be shared
  module _ (all : List Entry) (k : Kind) (bodied : List Spot → Entry) (numbered : ℕ → Entry)
      (bodied_events : (done : List Entry) (u : List Spot) → events file done (bodied u) ≡ test rule.Order (in_order done k) ∷ kind_events file done (state file.objs done) (bodied u))
      (written_bodied : (b : List Entry) (u : List Spot) → written_events file b (bodied u) ≡ events file (plain b) (bodied u))
      (written_numbered : (b : List Entry) (j : ℕ) → written_events file b (numbered j)
      ≡ test rule.Order (implies true (is_version_2 b) && in_order (plain b) k) ∷ is_there b j
      ∷ kind_events file (plain b) (state file.objs (plain b)) (bodied (shared (shares b) j)))
      (plain_bodied : (vs : List (List Spot)) (u : List Spot) → plain_entry vs (bodied u) ≡ bodied u ∷ [])
      (plain_numbered : (vs : List (List Spot)) (j : ℕ) → plain_entry vs (numbered j) ≡ bodied (shared vs j) ∷ [])
      (bodied_shares : (u : List Spot) → shares (bodied u ∷ []) ≡ []) (numbered_shares : (j : ℕ) → shares (numbered j ∷ []) ≡ []) where
    named : (front done : List Entry) (vectors : List (List Spot)) (u : List Spot) (j : ℕ) → plain front ≡ done → shares front ≡ vectors →
        is_version_2 front ≡ true → first_failure holds 1 (events file done (bodied u)) ≡ None → 1 ≤ j → j ≤ length vectors →
        shared vectors j ≡ u → IsStep front (bodied u) (numbered j ∷ []) vectors
    unfolding Passing
    named front done vectors u j same are second h low high is =
        let there : (nat_le 1 j && nat_le j (length (shares front))) ≡ true =
        ap (λ (vs : List (List Spot)). nat_le 1 j && nat_le j (length vs)) are ∙ within_passes (length vectors) j (low, high) in
        let vector : shared (shares front) j ≡ u = ap (λ (vs : List (List Spot)). shared vs j) are ∙ is in
        single front vectors (bodied u) (numbered j) are second
        (ap (λ (es : List Event). first_failure holds 1 es) (written_numbered front j)
        ∙ (λ i. first_failure holds 1 (test rule.Order (implies true (second i) && in_order (same i) k) ∷ test rule.Index (there i)
        ∷ kind_events file (same i) (state file.objs (same i)) (bodied (vector i))))
        ∙ ap (λ (es : List Event). first_failure holds 1 es) (sym (bodied_events done u)) ∙ h)
        (plain_numbered (shares front) j ∙ ap (λ (v : List Spot). bodied v ∷ []) vector) (numbered_shares j)

    abbrev pub Entries : List (List Spot) → List Spot → List Entry
    Entries vectors u = elim (is_repeated all u) [
      | true ↦ elim (number_from 1 u vectors) [ zero ↦ Share u ∷ numbered (suc (length vectors)) ∷ [] | suc j ↦ numbered (suc j) ∷ [] ]
      | false ↦ bodied u ∷ []
    ]

    abbrev pub Vectors : List (List Spot) → List Spot → List (List Spot)
    Vectors vectors u = if is_repeated all u && number_from 1 u vectors == 0 then vectors ++ u ∷ [] else vectors

    pub body_step : (front done : List Entry) (vectors : List (List Spot)) (u : List Spot) → plain front ≡ done → shares front ≡ vectors →
        is_version_2 front ≡ true → first_failure holds 1 (events file done (bodied u)) ≡ None → IsStep front (bodied u) (Entries vectors u) (Vectors vectors u)
    unfolding Passing
    body_step front done vectors u same are second h = go (is_repeated all u) (number_from 1 u vectors) refl
      where
        go : (b : Bool) (n : ℕ) → number_from 1 u vectors ≡ n → IsStep front (bodied u)
            (elim b [
              | true ↦ elim n [ zero ↦ Share u ∷ numbered (suc (length vectors)) ∷ [] | suc j ↦ numbered (suc j) ∷ [] ]
              | false ↦ bodied u ∷ []
            ])
            (if b && n == 0 then vectors ++ u ∷ [] else vectors)
        go false n e = single front vectors (bodied u) (bodied u) are second
            (ap (λ (es : List Event). first_failure holds 1 es) (written_bodied front u)
            ∙ ap (λ (b : List Entry). first_failure holds 1 (events file b (bodied u))) same ∙ h) (plain_bodied (shares front) u) (bodied_shares u)
        go true (suc j) e =
            let t : (1 ≤ suc j) × (suc j < 1 + length vectors) × (slice_index_or vectors (suc j - 1) [] ≡ u) = numbered_is 1 j u vectors e (omega arith) in
            let high = t.1 in
            subst (λ (c : Bool). IsStep front (bodied u) (numbered (suc j) ∷ []) (if true && c then vectors ++ u ∷ [] else vectors)) (sym (ne_eqb (suc j) 0 (omega arith)))
            (named front done vectors u (suc j) same are second h (omega arith) (omega (arith, high)) t.2)
        go true zero e =
            let last : suc (length vectors) - 1 ≡ length vectors = omega arith in
            let more : length (vectors ++ u ∷ []) ≡ length vectors + 1 = length-append vectors (u ∷ []) in
            double front vectors u (bodied u) (numbered (suc (length vectors))) are second
            (named (front ++ Share u ∷ []) done (vectors ++ u ∷ []) u (suc (length vectors))
            (plain-push front (Share u) ∙ append-nil (plain front) ∙ same)
            (filter_map-append share_in front (Share u ∷ []) ∙ ap (λ (vs : List (List Spot)). vs ++ u ∷ []) are)
            (still_second front (Share u ∷ []) second) h (omega arith) (omega (arith, more))
            (ap (λ (m : ℕ). slice_index_or (vectors ++ u ∷ []) m []) last ∙ last_is vectors u))

  -- ---- `add`
  hinted_same : (done : List Entry) (cut : ℕ) (pairs : List LogPair) → Meets file done (Add cut pairs) →
      first_failure holds 1 (hinted_events file (state file.objs done) cut pairs
      (least_hints (rows_in_use file.objs (state file.objs done)) (state file.objs done).list.live (cut_row (state file.objs done) cut) pairs))
      ≡ first_failure holds 1 (add_events file (state file.objs done) cut pairs)
  hinted_same done cut pairs m =
      let s : State = state file.objs done in
      let rows : List (List ℚ) = rows_in_use file.objs s in
      let row : List ℚ = cut_row s cut in
      let required : List LogPair = required_pairs rows s.list.live row in
      let hints : List ℕ = least_hints rows s.list.live row pairs in
      let front : List Event = test rule.Index (nat_le 1 cut && nat_le cut (length s.cuts) && not (contains s.used cut))
      ∷ flat_map (value_steps file.objs (cut_at s.cuts cut)) s.list.live in
      let making : List Event = flat_map (pair_of file.objs row s.list.live) pairs in
      let met = pairs_have_hints file s cut pairs (state-rises file.objs done) m.rules in
      let right : (pairs_rise pairs && list_all (lists required) pairs) ≡ true =
      both_hold (pairs_rise pairs) (list_all (lists required) pairs) (rise_passes pairs met.rise)
      (true-list_all (lists required) pairs (all_of_members (λ p. lists required p ≡ true) pairs
      (λ p c. lists_passes required p (member_of (λ q. Rattle.std.proofs.Common.Contains required q) pairs p met.required c)))) in
      let exact : same_pairs pairs required ≡ true = ap (λ (ps : List LogPair). same_pairs ps required) m.rules.exactly ∙ pairs_pass required in
      first_failure-append holds 1 front (test rule.Pairs (pairs_rise pairs && list_all (lists required) pairs)
      ∷ test rule.Hint (are_hints rows s.list.live (unlisted s.list.live row pairs) hints) ∷ making)
      ∙ (λ i. or_else (first_failure holds 1 front) (first_failure holds (1 + steps front) (test rule.Pairs (right i) ∷ test rule.Hint (met.covered i) ∷ making)))
      ∙ (λ i. or_else (first_failure holds 1 front) (first_failure holds (1 + steps front) (test rule.Pairs (sym exact i) ∷ making)))
      ∙ sym (first_failure-append holds 1 front (test rule.Pairs (same_pairs pairs required) ∷ making))

  add_step : (front done : List Entry) (vectors : List (List Spot)) (cut : ℕ) (pairs : List LogPair) → plain front ≡ done → shares front ≡ vectors →
      is_version_2 front ≡ true → first_failure holds 1 (events file done (Add cut pairs)) ≡ None → Meets file done (Add cut pairs) →
      IsStep front (Add cut pairs) (with_hints file.objs done (Add cut pairs) ∷ []) vectors
  unfolding Passing
  add_step front done vectors cut pairs same are second h m =
      let s : State = state file.objs done in
      let hints : List ℕ = least_hints (rows_in_use file.objs s) s.list.live (cut_row s cut) pairs in
      single front vectors (Add cut pairs) (AddHints cut pairs hints) are second
      ((λ i. first_failure holds 1 (test rule.Order (implies true (second i) && in_order (same i) order.add)
      ∷ hinted_events file (state file.objs (same i)) cut pairs hints))
      ∙ go (in_order done order.add) (hinted_same done cut pairs m) ∙ h) refl refl
    where
      go : (b : Bool) → first_failure holds 1 (hinted_events file (state file.objs done) cut pairs
          (least_hints (rows_in_use file.objs (state file.objs done)) (state file.objs done).list.live (cut_row (state file.objs done) cut) pairs))
          ≡ first_failure holds 1 (add_events file (state file.objs done) cut pairs) →
          first_failure holds 1 (test rule.Order b ∷ hinted_events file (state file.objs done) cut pairs
          (least_hints (rows_in_use file.objs (state file.objs done)) (state file.objs done).list.live (cut_row (state file.objs done) cut) pairs))
          ≡ first_failure holds 1 (test rule.Order b ∷ add_events file (state file.objs done) cut pairs)
      go true e = e
      go false e = refl

  -- ---- any entry after the first
  pub begins : (done : List Entry) (k : Kind) → IsTrue (in_order done k) → IsTrue (begins_well done k)
  begins done k h =
      let a = both_true _ (implies (order.ends_at_facet k) (not (order.has order.facet done))) h in
      let b = both_true _ (implies (order.ends_at_start k) (not (order.has order.start done))) a.0 in
      let c = both_true _ (implies (order.needs_start k) (order.has order.start done)) b.0 in
      let d = both_true _ (implies (order.needs_duality k) (order.has order.duality done)) c.0 in
      (both_true (begins_well done k) (implies (order.stands_once k) (not (order.has k done))) d.0).0

  pub step : (all front done : List Entry) (vectors : List (List Spot)) (e : Entry) → plain front ≡ done → shares front ≡ vectors → is_version_2 front ≡ true →
      (tail : List Entry) → done ≡ Version 1 ∷ tail → is_plain e ≡ true → first_failure holds 1 (events file done e) ≡ None → Meets file done e →
      IsStep front e (upgraded_entry file.objs all done vectors e) (more_shared all vectors e)
  step all front done vectors (Version n) same are second tail starts p h m =
      absurd (true≢false (sym (ap (λ (b : List Entry). begins_well b order.version) (sym starts) ∙ begins done order.version m.order)))
  step all front done vectors (Share v) same are second tail starts p h m = absurd (true≢false (sym p))
  step all front done vectors (CutOf w gamma share v) same are second tail starts p h m = absurd (true≢false (sym p))
  step all front done vectors (PointOf g share n) same are second tail starts p h m = absurd (true≢false (sym p))
  step all front done vectors (RayOf g share n) same are second tail starts p h m = absurd (true≢false (sym p))
  step all front done vectors (AddHints cut pairs hints) same are second tail starts p h m = absurd (true≢false (sym p))
  step all front done vectors (Cut w gamma u v) same are second tail starts p h m =
      body_step all order.cut (λ x. Cut w gamma x v) (λ j. CutOf w gamma j v) (λ d x. refl) (λ b x. refl) (λ b j. refl) (λ vs x. refl) (λ vs j. refl)
      (λ x. refl) (λ j. refl) front done vectors u same are second h
  step all front done vectors (Point g x n) same are second tail starts p h m =
      body_step all order.point (λ y. Point g y n) (λ j. PointOf g j n) (λ d y. refl) (λ b y. refl) (λ b j. refl) (λ vs y. refl) (λ vs j. refl)
      (λ y. refl) (λ j. refl) front done vectors x same are second h
  step all front done vectors (Ray g x n) same are second tail starts p h m =
      body_step all order.ray (λ y. Ray g y n) (λ j. RayOf g j n) (λ d y. refl) (λ b y. refl) (λ b j. refl) (λ vs y. refl) (λ vs j. refl)
      (λ y. refl) (λ j. refl) front done vectors x same are second h
  step all front done vectors (Add cut pairs) same are second tail starts p h m = add_step front done vectors cut pairs same are second h m
  step all front done vectors (Duality c weights picks inverse) same are second tail starts p h m =
      own front done vectors (Duality c weights picks inverse) same are second h (λ b. refl) (λ vs. refl) refl
  step all front done vectors (Start cuts point directions) same are second tail starts p h m =
      own front done vectors (Start cuts point directions) same are second h (λ b. refl) (λ vs. refl) refl
  step all front done vectors (Farkas u) same are second tail starts p h m = own front done vectors (Farkas u) same are second h (λ b. refl) (λ vs. refl) refl
  step all front done vectors (Whole x ray n) same are second tail starts p h m =
      own front done vectors (Whole x ray n) same are second h (λ b. refl) (λ vs. refl) refl
  step all front done vectors (Line d x ray n back l) same are second tail starts p h m =
      own front done vectors (Line d x ray n back l) same are second h (λ b. refl) (λ vs. refl) refl
  step all front done vectors (Facet cut) same are second tail starts p h m = own front done vectors (Facet cut) same are second h (λ b. refl) (λ vs. refl) refl
  step all front done vectors (End k) same are second tail starts p h m = own front done vectors (End k) same are second h (λ b. refl) (λ vs. refl) refl
