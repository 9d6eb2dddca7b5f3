-- How the pairs and hints of an `addh` entry are met, block by block.
use Rattle.std.proofs.Common.{◌≡◌, ℕ, zero, suc, ◌+◌, ◌<◌, ◌≤◌, List, [], ◌∷◌, ◌++◌, refl, sym, ap, ap₂, ◌∙◌, subst, arith, Bool, true, false, true≢false, ◌&&◌, ◌==◌, nat_le, not, length, drop, map, filter, cond, if◌then◌else◌, slice_index_or, append_assoc, Option, None, Some}
use Rattle.std.specs.List.{flat_map}
use Rattle.std.proofs.lemmas.Bool.{leb-true, le-leb, lt-leb}
use Rattle.std.proofs.lemmas.List.{append-nil}
use Rattle.exact_field.specs.Rational.{ℚ, zero_ℚ, lt_ℚ}
use Rattle.polyhedra.specs.LiveList.{Numbered, LivePair, IsRising, products, is_uncovered_live}
use Rattle.polyhedra.proofs.Tests.{same_tests}
use Rattle.word_lines.specs.declared.part.LogPair.{LogPair}
use Rattle.std.specs.Prelude.{AllPairs, Contains, Result, Ok, Err}
use Rattle.std.specs.List.{list_all}
use Rattle.frac128.specs.Held.{is_held}
use Rattle.vlp_problem.specs.declared.problem.Problem.{Problem}
use Rattle.log_rules.specs.Events.{Event, first_failure}
use Rattle.log_rules.specs.Events.Event.{test}
use Rattle.log_rules.specs.Live.{State, value, cut_at, cut_row, rows_in_use, required_pairs}
use Rattle.log_rules.specs.LiveEvents.{same_pairs, value_steps}
use Rattle.log_rules.specs.LiveEvents as events
use Rattle.log_rules.specs.Runs.{Runs}
use Rattle.log_rules.specs.declared.rule.Rule.{Rule}
use Rattle.log_rules.specs.declared.rule.Rule.TheVariants as rule
use Rattle.log_rules.specs.declared.stop.Stop.{Stop}
use Rattle.log_rules.specs.declared.stop.Stop.TheVariants.{Wrong, Left, NoMemory}
use Rattle.polyhedra.proofs.Members.{all_of_members, member_of}
use Rattle.polyhedra.proofs.Tests.{both_true, list_all-true}
use Rattle.log_versions.proofs.HintedPairs.{exactly_required, listed_is}
use Rattle.log_versions.proofs.WrittenMeets.{rise_says}
use Rattle.log_rules.proofs.TightHeld.{pairs_pass}
use Rattle.log_rules.proofs.TightTests.{pairs_are}
use Rattle.entry_checks.proofs.Going.{test-passed}
use Rattle.log_versions.specs.Hints.{named_pair, is_hint, opposite_pairs, are_hints, lists, pairs_rise, unlisted}
use Rattle.log_versions.specs.Walk.{Walked, is_next, next_covers, walk, all_listed, all_hinted}
use Rattle.vlp_matrices.proofs.Lists.{drop-next}
use Rattle.log_live.specs.Adding.{IsAddition, Matches, all_value_events, negatives_of}
use Rattle.log_live.specs.Hinting.{Walks, addition_events, addition_tests, are_hinted, are_right, hinted_added_events, pairs_beside, pairs_beside_at}
use Rattle.log_live.specs.Live.{live_of}
use Rattle.log_live.specs.declared.generator.Generator.{Generator}
use Rattle.log_live.specs.declared.live.Live.{Live}
use Rattle.log_live.proofs.Added.{parts_at}
use Rattle.log_live.proofs.Bridges.{values_as}
use Rattle.log_live.proofs.PairCounts.{rising_of}
use Rattle.log_live.specs.declared.hinting.Meeting.{Meeting}

-- ---- one step
past : {X : Type 0} (xs : List X) (n : ℕ) → length xs ≤ n → drop n xs ≡ []
past [] zero h = refl
past [] (suc n) h = refl
past (x ∷ xs) zero h = absurd (omega (arith, h))
past (x ∷ xs) (suc n) h = past xs n (omega (arith, h))

pub drop_one : {X : Type 0} (xs : List X) (l : ℕ) → drop 1 (drop l xs) ≡ drop (l + 1) xs
drop_one [] zero = refl
drop_one [] (suc l) = sym (past [] (suc l + 1) (omega arith))
drop_one (x ∷ xs) zero = refl
drop_one (x ∷ xs) (suc l) = let e : suc (l + 1) ≡ suc l + 1 = omega arith in drop_one xs l
    ∙ ap (λ (n : ℕ). drop n (x ∷ xs)) e

and_true : (a : Bool) → (a && true) ≡ a
and_true true = refl
and_true false = refl

and_false : (a : Bool) → (a && false) ≡ false
and_false true = refl
and_false false = refl

with_rest : (ps : List LogPair) (q : LogPair) → same_pairs ps (q ∷ drop 1 ps) ≡ is_next ps q
with_rest [] q = refl
with_rest (p ∷ ps) q = ap (λ (b : Bool). (p.plus == q.plus && p.minus == q.minus) && b)
    (pairs_pass ps) ∙ and_true (p.plus == q.plus && p.minus == q.minus)

-- the test of the code is that of the walk
pub next_is : (pairs : List LogPair) (l : ℕ) (q : LogPair) (b : Bool) →
    Matches pairs l b (l + 1) (q ∷ []) → is_next (drop l pairs) q ≡ b
next_is pairs l q b h =
    sym (with_rest (drop l pairs) q) ∙ h (drop 1 (drop l pairs))
    ∙ ap (λ (ps : List LogPair). if b then same_pairs (drop (l + 1) pairs) ps else false)
    (drop_one pairs l) ∙ go b
  where
    go : (t : Bool) →
        (if t then same_pairs (drop (l + 1) pairs) (drop (l + 1) pairs) else false) ≡ t
    go true = pairs_pass (drop (l + 1) pairs)
    go false = refl

module _ (rows : List (List ℚ)) (live : List Numbered) (o : LivePair) (more : List LivePair) where
  pub listed_step : (pairs : List LogPair) (l : ℕ) (hs : List ℕ) (r u : Bool) →
      is_next (drop l pairs) (named_pair o) ≡ true → u ≡ is_uncovered_live rows live o →
      walk rows live (o ∷ more)
      (drop l pairs) hs r ≡ (if u then walk rows live more (drop (l + 1) pairs) hs r else None)
  listed_step pairs l hs r u next e =
      ap (λ (b : Bool). if b then
      (if is_uncovered_live rows live o then walk rows live more (drop 1 (drop l pairs)) hs r else
      None)
      else walk rows live more (drop l pairs) (drop 1 hs) (r && next_covers rows live o hs)) next
      ∙ ap (λ (b : Bool). if b then walk rows live more (drop 1 (drop l pairs)) hs r else None)
      (sym e)
      ∙ ap (λ (ps : List LogPair). if u then walk rows live more ps hs r else None)
      (drop_one pairs l)

  other_step : (ps : List LogPair) (hs : List ℕ) (r : Bool) → is_next ps (named_pair o) ≡ false →
      walk rows live (o ∷ more) ps hs r ≡ walk rows live more ps (drop 1 hs)
      (r && next_covers rows live o hs)
  other_step ps hs r next =
      ap (λ (b : Bool). if b then
      (if is_uncovered_live rows live o then walk rows live more (drop 1 ps) hs r else None)
      else walk rows live more ps (drop 1 hs) (r && next_covers rows live o hs)) next

  pub hint_step : (ps : List LogPair) (hints : List ℕ) (h k : ℕ) (r b : Bool) →
      is_next ps (named_pair o) ≡ false → h < length hints → k ≡ slice_index_or hints h k →
      b ≡ is_hint rows live o k →
      walk rows live (o ∷ more) ps (drop h hints) r ≡ walk rows live more ps (drop (h + 1) hints)
      (r && b)
  hint_step ps hints h k r b next inside is e =
      let one : suc h ≡ h + 1 = omega arith in
      other_step ps (drop h hints) r next
      ∙ ap (λ (hs : List ℕ). walk rows live more ps (drop 1 hs) (r && next_covers rows live o hs))
      (drop-next h hints k inside is)
      ∙ ap₂ (λ (n : ℕ) (c : Bool). walk rows live more ps (drop n hints) (r && c)) one (sym e)

  pub none_step : (ps : List LogPair) (hints : List ℕ) (h : ℕ) (r : Bool) →
      is_next ps (named_pair o) ≡ false → length hints ≤ h →
      walk rows live (o ∷ more) ps (drop h hints) r ≡ walk rows live more ps (drop h hints) false
  none_step ps hints h r next over =
      other_step ps (drop h hints) r next
      ∙ ap (λ (hs : List ℕ). walk rows live more ps (drop 1 hs) (r && next_covers rows live o hs))
      (past hints h over)
      ∙ ap₂ (λ (hs : List ℕ) (c : Bool). walk rows live more ps hs c) (sym (past hints h over))
      (and_false r)

-- ---- blocks
module _ (rows : List (List ℚ)) (live : List Numbered) (pairs : List LogPair) (hints : List ℕ) where
  pub walks-then : (a b c : Meeting) (r : Bool) (X Y : List LivePair) →
      Walks rows live pairs hints a true b X → Walks rows live pairs hints b r c Y →
      Walks rows live pairs hints a r c (X ++ Y)
  walks-then a b c r X Y h k more =
      ap (λ (os : List LivePair). walk rows live os (drop a.listed pairs)
      (drop a.hinted hints) a.right) (append_assoc X Y more) ∙ h (Y ++ more) ∙ k more

  pub walks-stop : (a b c : Meeting) (X Y : List LivePair) →
      Walks rows live pairs hints a false b X → Walks rows live pairs hints a false c (X ++ Y)
  walks-stop a b c X Y h more =
      ap (λ (os : List LivePair). walk rows live os (drop a.listed pairs)
      (drop a.hinted hints) a.right) (append_assoc X Y more) ∙ h (Y ++ more)

-- nothing is left after so many
none_left : {X : Type 0} (xs : List X) (n : ℕ) →
    nat_le (length xs) n ≡ elim (drop n xs) [ [] ↦ true | x ∷ rest ↦ false ]
none_left [] zero = le-leb 0 0 (omega arith)
none_left [] (suc n) = le-leb 0 (suc n) (omega arith)
none_left (x ∷ xs) zero = lt-leb (suc (length xs)) 0 (omega arith)
none_left (x ∷ xs) (suc n) = same_tests (nat_le (suc (length xs)) (suc n)) (nat_le (length xs) n)
    (λ e. let l = leb-true (suc (length xs)) (suc n) e in le-leb (length xs) n (omega (arith, l)))
    (λ e. let l = leb-true (length xs) n e in le-leb (suc (length xs)) (suc n) (omega (arith, l)))
    ∙ none_left xs n

-- the whole walk
module _ (rows : List (List ℚ)) (live : List Numbered) (pairs : List LogPair) (hints : List ℕ)
    (a b : Meeting) (all : List LivePair) (listed : a.listed ≡ 0) (hinted : a.hinted ≡ 0)
    (right : a.right ≡ true) where
  whole : (r : Bool) → Walks rows live pairs hints a r b all → walk rows live all pairs hints true
      ≡ (if r then Some
      (record { pairs = drop b.listed pairs; hints = drop b.hinted hints; right = b.right }) else
      None)
  whole r h = (λ i. walk rows live (sym (append-nil all) i) (drop (sym listed i) pairs)
      (drop (sym hinted i) hints) (sym right i)) ∙ h [] ∙ go r
    where
      go : (t : Bool) →
          ◌≡◌ {A = Option Walked}
          (if t then walk rows live [] (drop b.listed pairs) (drop b.hinted hints) b.right else
          None)
          (if t then Some
          (record { pairs = drop b.listed pairs; hints = drop b.hinted hints; right = b.right })
          else None)
      go true = refl
      go false = refl

  pub whole_listed : Walks rows live pairs hints a true b all →
      nat_le (length pairs) b.listed ≡ all_listed (walk rows live all pairs hints true)
  whole_listed h = none_left pairs b.listed ∙ sym (ap all_listed (whole true h))

  pub whole_hinted : Walks rows live pairs hints a true b all →
      (b.right && nat_le (length hints) b.hinted) ≡ all_hinted (walk rows live all pairs hints true)
  whole_hinted h = ap (λ (t : Bool). b.right && t) (none_left hints b.hinted)
      ∙ sym (ap all_hinted (whole true h))

  pub whole_stopped : Walks rows live pairs hints a false b all →
      false ≡ all_listed (walk rows live all pairs hints true)
  whole_stopped h = sym (ap all_listed (whole false h))

-- ---- all opposite pairs
beside-is : (p : Numbered) (ms : List Numbered) →
    map (λ m. record { plus_side = p; minus_side = m }) ms ≡ pairs_beside p ms
beside-is p [] = refl
beside-is p (m ∷ ms) = ap (λ (os : List LivePair). record { plus_side = p; minus_side = m } ∷ os)
    (beside-is p ms)

pub opposite-are : (live : List Numbered) (row : List ℚ) →
    opposite_pairs live row ≡ flat_map (pairs_beside_at row live) live
opposite-are live row = go live
  where
    go : (xs : List Numbered) → products (filter (λ g. lt_ℚ zero_ℚ (value row g)) xs)
        (filter (λ g. lt_ℚ (value row g) zero_ℚ) live) ≡ flat_map (pairs_beside_at row live) xs
    go [] = refl
    go (p ∷ xs) = by (lt_ℚ zero_ℚ (value row p)) (go xs)
      where
        by : (b : Bool) → products (filter (λ g. lt_ℚ zero_ℚ (value row g)) xs)
            (filter (λ g. lt_ℚ (value row g) zero_ℚ) live) ≡ flat_map
            (pairs_beside_at row live) xs →
            products (cond b (p ∷ filter (λ g. lt_ℚ zero_ℚ (value row g)) xs)
            (filter (λ g. lt_ℚ zero_ℚ (value row g)) xs))
            (filter (λ g. lt_ℚ (value row g) zero_ℚ) live)
            ≡ (if b then pairs_beside p (negatives_of row live) else []) ++ flat_map
            (pairs_beside_at row live) xs
        by true e = ap₂ (λ (x y : List LivePair). x ++ y)
            (beside-is p (filter (λ g. lt_ℚ (value row g) zero_ℚ) live)) e
        by false e = e

-- ---- the whole entry
pub two_passed : (n : ℕ) (r r' : Rule) (a b : Bool) →
    first_failure is_held n (test r a ∷ test r' b ∷ []) ≡ None → (a ≡ true) × (b ≡ true)
two_passed n r r' true true h = (refl, refl)
two_passed n r r' true false h = absurd cc
two_passed n r r' false b h = absurd cc

-- the second test counts only where the first is passed
pub two_tests : (r r' : Rule) (a b A B : Bool) (taken : ℕ) (result : Result (Unit {0}) Stop) →
    a ≡ A → (a ≡ true → b ≡ B) →
    Runs is_held (test r a ∷ test r' b ∷ []) taken taken (λ _. Unit {0}) result →
    Runs is_held (test r A ∷ test r' B ∷ []) taken taken (λ _. Unit {0}) result
two_tests r r' a b A B taken result e f h = go a e f h
  where
    fails : (res : Result (Unit {0}) Stop) →
        Runs is_held (test r false ∷ test r' b ∷ []) taken taken (λ _. Unit {0}) res →
        Runs is_held (test r false ∷ test r' B ∷ []) taken taken (λ _. Unit {0}) res
    fails (Ok x) k = k
    fails (Err (Wrong w)) k = k
    fails (Err (Left n l)) k = k
    fails (Err NoMemory) k = k

    go : (t : Bool) → t ≡ A →
        (t ≡ true → b ≡ B) → Runs is_held (test r t ∷ test r' b ∷ []) taken taken
        (λ _. Unit {0}) result → Runs is_held (test r A ∷ test r' B ∷ []) taken taken
        (λ _. Unit {0}) result
    go true i g k = subst
        (λ (p : Bool × Bool). Runs is_held (test r p.0 ∷ test r' p.1 ∷ []) taken taken
        (λ _. Unit {0}) result) (λ j. (i j, g refl j)) k
    go false i g k = subst (λ (t : Bool). Runs is_held (test r t ∷ test r' B ∷ []) taken taken
        (λ _. Unit {0}) result) i (fails result k)

module _ (file : Problem) (s : State) (cut : ℕ) (w : List ℚ) (gamma : ℚ) (live : Live)
    (h : IsAddition file s cut w gamma live) where
  pub hinted_parts_at : (gs : List Generator) → gs ≡ live.generators.items →
      (pairs : List LogPair) (hints : List ℕ) → all_value_events w gamma (length w) gs
      ++ (test rule.Pairs (are_right (rows_in_use file.objs s) (live_of gs) (cut_row s cut) pairs) ∷
      test rule.Hint (are_hinted (rows_in_use file.objs s) (live_of gs) (cut_row s cut) pairs hints)
      ∷ flat_map (events.pair_of (length w) (cut_row s cut) (live_of gs))
      pairs) ≡ hinted_added_events file.objs s cut pairs hints
  hinted_parts_at gs e pairs hints =
      ap (λ (g : List Generator). all_value_events w gamma (length w) g
      ++ (test rule.Pairs (are_right (rows_in_use file.objs s) (live_of g) (cut_row s cut) pairs) ∷
      test rule.Hint (are_hinted (rows_in_use file.objs s) (live_of g) (cut_row s cut) pairs hints)
      ∷ flat_map (events.pair_of (length w) (cut_row s cut) (live_of g)) pairs)) e
      ∙ ap₂ (λ (vs : List Event) (q : ℕ). vs ++
      (test rule.Pairs (are_right (rows_in_use file.objs s) (live_of live.generators.items)
      (cut_row s cut) pairs)
      ∷ test rule.Hint (are_hinted (rows_in_use file.objs s) (live_of live.generators.items)
      (cut_row s cut) pairs hints)
      ∷ flat_map (events.pair_of q (cut_row s cut) (live_of live.generators.items)) pairs))
      (values_as w gamma (length w) (cut_at s.cuts cut) live.generators.items h.normal h.bound)
      h.wide
      ∙ ap₂ (λ (q : ℕ) (l : List Numbered). flat_map (value_steps q (cut_at s.cuts cut)) l
      ++ (test rule.Pairs (are_right (rows_in_use file.objs s) l (cut_row s cut) pairs) ∷
      test rule.Hint (are_hinted (rows_in_use file.objs s) l (cut_row s cut) pairs hints)
      ∷ flat_map (events.pair_of file.objs (cut_row s cut) l) pairs))
      h.wide h.before.list.live

  -- the events of an addition with hints or without, by their parts
  pub addition_parts_at : (gs : List Generator) → gs ≡ live.generators.items →
      (pairs : List LogPair) (hints : Option (List ℕ)) → all_value_events w gamma (length w) gs
      ++ (addition_tests (rows_in_use file.objs s) (live_of gs) (cut_row s cut) pairs hints
      ++ flat_map (events.pair_of (length w) (cut_row s cut) (live_of gs)) pairs) ≡ addition_events
      file.objs s cut pairs hints
  addition_parts_at gs e pairs None = parts_at file s cut w gamma live h gs e pairs
  addition_parts_at gs e pairs (Some hints) = hinted_parts_at gs e pairs hints

-- the pairs that passed are those that are required
pub paired_by : (taken : ℕ) (rows : List (List ℚ)) (row : List ℚ) (gens : List Generator)
    (pairs : List LogPair) (hints : List ℕ) →
    AllPairs (λ (g h : Generator). g.number < h.number) gens →
    first_failure is_held taken (test rule.Pairs (are_right rows (live_of gens) row pairs) ∷
    test rule.Hint (are_hinted rows (live_of gens) row pairs hints) ∷ []) ≡ None →
    pairs ≡ required_pairs rows (live_of gens) row
paired_by taken rows row gens pairs hints rises none =
    let bounded : (next : ℕ) ×
    IsRising (record { live = live_of gens; next = next }) = rising_of gens rises in
    let required : List LogPair = required_pairs rows (live_of gens) row in
    let b = two_passed taken rule.Pairs rule.Hint
    (pairs_rise pairs && list_all (lists required) pairs)
    (are_hints rows (live_of gens) (unlisted (live_of gens) row pairs) hints) none in
    let k = both_true (pairs_rise pairs) (list_all (lists required) pairs) b.0 in
    exactly_required rows (record { live = live_of gens; next = bounded.0 }) row bounded.1 pairs
    hints (rise_says pairs k.0)
    (all_of_members (λ p. Contains required p) pairs
    (λ p c. listed_is required p
    (member_of (λ q. lists required q ≡ true) pairs p (list_all-true (lists required) pairs k.1)
    c)))
    b.1

-- the same of the pairs of an addition with hints or without
pub paired_from : (taken : ℕ) (rows : List (List ℚ)) (row : List ℚ) (gens : List Generator)
    (pairs : List LogPair) (hints : Option (List ℕ)) →
    AllPairs (λ (g h : Generator). g.number < h.number) gens →
    first_failure is_held taken (addition_tests rows (live_of gens) row pairs hints) ≡ None →
    pairs ≡ required_pairs rows (live_of gens) row
paired_from taken rows row gens pairs None rises none =
    pairs_are pairs (required_pairs rows (live_of gens) row)
    (test-passed taken rule.Pairs (same_pairs pairs (required_pairs rows (live_of gens) row)) none)
paired_from taken rows row gens pairs (Some hints) rises none =
    paired_by taken rows row gens pairs hints rises none

-- a first test that passes is not seen
pub first_passes : (r r' : Rule) (a b : Bool) (taken : ℕ) (result : Result (Unit {0}) Stop) →
    not a ≡ false →
    Runs is_held (test r' b ∷ []) taken taken (λ _. Unit {0}) result →
    Runs is_held (test r a ∷ test r' b ∷ []) taken taken (λ _. Unit {0}) result
first_passes r r' true b taken (Ok x) h k = k
first_passes r r' true b taken (Err (Wrong w)) h k = k
first_passes r r' true b taken (Err (Left n l)) h k = k
first_passes r r' true b taken (Err NoMemory) h k = k
first_passes r r' false b taken result h k = absurd (true≢false h)
