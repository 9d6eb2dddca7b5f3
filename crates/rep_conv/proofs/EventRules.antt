-- No event fails exactly where all entries meet their rules and the result of each step is held.
use Rattle.std.proofs.Common.{◌≡◌, ℕ, suc, ◌+◌, ◌*◌, ◌<◌, ◌==◌, Bool, true, false, true≢false, not, ◌&&◌, nat_lt, if◌then◌else◌, List, [], ◌∷◌, ◌++◌, map, length, All, Contains, Option, None, Some, slice_index_or, refl, sym, ap, ◌∙◌, subst, arith, zip}
use Rattle.std.specs.List.{flat_map, list_all, enumerate_from, range_with_len}
use Rattle.std.proofs.lemmas.Bool.{eqb-true, eq-eqb}
use Rattle.std.proofs.lemmas.Bool.Decides.{Decides-ltb}
use Rattle.std.proofs.lemmas.List.{append-nil, append_assoc, get_or-map}
use Rattle.std.proofs.lemmas.List.Elements.{All-nil, All-cons, All-head, All-tail, All-weaker, All-get_or, All-from_get_or}
use Rattle.std.proofs.lemmas.List.FromFn.{get_or-range_with_len, length-range_with_len}
use Rattle.std.proofs.lemmas.List.Sums.{AllPass-from_list_all}
use Rattle.exact_field.specs.Field.{exact}
use Rattle.exact_field.specs.Rational.{ℚ, zero_ℚ, one_ℚ, ◌*ℚ◌, ◌/ℚ◌, neg_ℚ, lt_ℚ}
use Rattle.exact_field.specs.Order.{same_ℚ}
use Rattle.exact_field.specs.Vector.{dot, entry}
use Rattle.exact_field.specs.declared.op.Op.TheVariants as op
use Rattle.frac128.specs.Sparse.{is_zero}
use Rattle.lineality.specs.Lines.{leading_place, IsReduced}
use Rattle.polyhedra.specs.DoubleDescription.{leading, magnitude, norming, IsNormed}
use Rattle.polyhedra.specs.LiveList.{Numbered}
use Rattle.polyhedra.specs.TightSets.{IsTight}
use Rattle.polyhedra.proofs.Members.{all_of_members, member_of}
use Rattle.polyhedra.proofs.Tests.{both_true, both_hold, true-list_all}
use Rattle.upper_image.specs.Spots.{pieces}
use Rattle.upper_image.proofs.Widths.{length-pieces}
use Rattle.log_rules.specs.CutEvents.{rises}
use Rattle.log_rules.specs.Events.{Event, Failure, first_failure, dot_steps}
use Rattle.log_rules.specs.Events.Event.{test, step}
use Rattle.log_rules.specs.Events.Failure.{left}
use Rattle.log_rules.specs.Live.{value, find, contains, required_pairs}
use Rattle.log_rules.specs.LiveEvents.{same_pairs, meeting_steps, meeting_point}
use Rattle.log_rules.specs.declared.rule.Rule.TheVariants as rule
use Rattle.log_rules.proofs.PassedTests.{Passed, passed_of, both_pass, last_passes, each_passes, each_test, each_numbered, one_place, other_place, same_number, zero_number, zero_passes, they_rise, contained, not_contained}
use Rattle.log_rules.proofs.HeldTests.{pass_both, pass_last, pass_each, pass_steps, pass_tests, pass_sum, same_passes, all_pass, rising_passes, contains_passes, not_contains_passes, all_numbered, place_cases}
use Rattle.log_rules.proofs.TightTests.{pairs_are}
use Rattle.log_rules.proofs.TightHeld.{pairs_pass}
use Rattle.log_rules.proofs.LogMeets.{both_none}
use Rattle.entry_checks.specs.Parts.{corner_events}
use Rattle.word_lines.specs.declared.part.LogPair.{LogPair}
use Rattle.rep_conv.specs.Rows.{text_rows, row_at}
use Rattle.rep_conv.specs.Live.{State, state, rows_in_use}
use Rattle.rep_conv.specs.Meets.{MeetsLine, MeetsStart, MeetsAdd, MeetsEnd, MeetsKind, Meets}
use Rattle.rep_conv.specs.Events.{line_events, is_first, corners_events, generator_events, all_below, start_events, quotient_steps, pair_steps, pair_of, add_events, all_used, kind_events, events, first_failing, IsHeldStep}
use Rattle.rep_conv.specs.Laws.{EventsAreRules}
use Rattle.rep_text.specs.declared.rep.Rep.{Rep}
use Rattle.rep_text.specs.declared.conv.ConvEntry.{ConvEntry}
use Rattle.rep_text.specs.declared.conv.ConvEntry.TheVariants.{Conv, Line, Start, Add, End}

-- ---- events
-- where no event fails, the result of each step is held
held_of : (holds : ℚ → Bool) (n : ℕ) (es : List Event) → first_failure holds n es ≡ None → All (IsHeldStep holds) es
held_of holds n [] h = All-nil (IsHeldStep holds)
held_of holds n (test r true ∷ es) h = All-cons (IsHeldStep holds) (test r true) es tt (held_of holds n es h)
held_of holds n (test r false ∷ es) h = absurd cc
held_of holds n (step o a b ∷ es) h = go (holds (exact o a b)) refl h (λ g. held_of holds (suc n) es g)
  where
    go : (x : Bool) → holds (exact o a b) ≡ x → ◌≡◌ {A = Option Failure} (elim x [ true ↦ first_failure holds (suc n) es | false ↦ Some (left n o a b) ]) None →
        (first_failure holds (suc n) es ≡ None → All (IsHeldStep holds) es) → All (IsHeldStep holds) (step o a b ∷ es)
    go true e g again = All-cons (IsHeldStep holds) (step o a b) es e (again g)
    go false e g again = absurd cc

-- where all tests pass and the result of each step is held, none fails
none_fails : (holds : ℚ → Bool) (n : ℕ) (es : List Event) → Passed es → All (IsHeldStep holds) es → first_failure holds n es ≡ None
none_fails holds n [] h k = refl
none_fails holds n (test r true ∷ es) h k = none_fails holds n es h.1 (All-tail (IsHeldStep holds) (test r true) es k)
none_fails holds n (test r false ∷ es) h k = absurd (true≢false (sym h.0))
none_fails holds n (step o a b ∷ es) h k =
    ap (λ (x : Bool). elim x [ true ↦ first_failure holds (suc n) es | false ↦ Some (left n o a b) ]) (All-head (IsHeldStep holds) (step o a b) es k)
    ∙ none_fails holds (suc n) es h (All-tail (IsHeldStep holds) (step o a b) es k)

-- ---- line
abbrev is_after : List ℚ → List ℚ → Bool
is_after d e = nat_lt (leading_place e) (leading_place d) && is_zero (entry e (leading_place d))

line-meets : (rep : Rep) (s : State) (d : List ℚ) → Passed (line_events rep s.lines d) → MeetsLine rep s d
line-meets rep s d h =
    let i = both_true (same_ℚ (leading d) one_ℚ) (list_all (is_after d) s.lines) h.1.0 in
    let each : All (λ e. is_after d e ≡ true) s.lines = AllPass-from_list_all (is_after d) s.lines i.1 in
    record {
      lengths = eqb-true (length d) (suc rep.width) h.0;
      scaled = same_number (leading d) one_ℚ i.0;
      rises = All-weaker (λ e. is_after d e ≡ true) (λ e. leading_place e < leading_place d)
          (λ e p. (Decides-ltb (leading_place e) (leading_place d)).0 (both_true (nat_lt (leading_place e) (leading_place d)) (is_zero (entry e (leading_place d))) p).0) s.lines each;
      clear = All-weaker (λ e. is_after d e ≡ true) (λ e. entry e (leading_place d) ≡ zero_ℚ)
          (λ e p. zero_number (entry e (leading_place d)) (both_true (nat_lt (leading_place e) (leading_place d)) (is_zero (entry e (leading_place d))) p).1) s.lines each;
      corner = All-weaker (λ r. is_zero (dot r d) ≡ true) (λ r. IsTight r d) (λ r p. zero_number (dot r d) p) (text_rows rep)
          (each_test (λ r. dot_steps r d) rule.Corner (λ r. is_zero (dot r d)) (text_rows rep) h.1.1);
    }

line-passes : (rep : Rep) (s : State) (d : List ℚ) → MeetsLine rep s d → Passed (line_events rep s.lines d)
line-passes rep s d h = (
  eq-eqb (length d) (suc rep.width) h.lengths,
  (
    both_hold (same_ℚ (leading d) one_ℚ) (list_all (is_after d) s.lines) (same_passes (leading d) one_ℚ h.scaled)
        (true-list_all (is_after d) s.lines (all_of_members (λ e. is_after d e ≡ true) s.lines (λ e c.
        both_hold (nat_lt (leading_place e) (leading_place d)) (is_zero (entry e (leading_place d)))
        ((Decides-ltb (leading_place e) (leading_place d)).1 (member_of (λ e. leading_place e < leading_place d) s.lines e h.rises c))
        (zero_passes (entry e (leading_place d)) (member_of (λ e. entry e (leading_place d) ≡ zero_ℚ) s.lines e h.clear c))))),
    pass_tests (λ r. dot_steps r d) rule.Corner (λ r. is_zero (dot r d)) (text_rows rep) (λ r. pass_sum r d)
        (All-weaker (λ r. IsTight r d) (λ r. is_zero (dot r d) ≡ true) (λ r p. zero_passes (dot r d) p) (text_rows rep) h.corner),
  ),
)

-- ---- start
-- what the product of a row with a generator must pass
abbrev fits : Bool → ℚ → Bool
fits own p = if own then lt_ℚ zero_ℚ p else is_zero p

all_below-are : (n : ℕ) (ks : List ℕ) → all_below n ks ≡ true → All (λ k. k < n) ks
all_below-are n ks h = All-weaker (λ k. nat_lt k n ≡ true) (λ k. k < n) (λ k p. (Decides-ltb k n).0 p) ks (AllPass-from_list_all (λ k. nat_lt k n) ks h)

module _ (rep : Rep) (s : State) (rows : List ℕ) (gens : List ℚ) where
  abbrev firsts : List (List ℚ)
  firsts = pieces (length rows) (suc rep.width) gens

  abbrev row_of : ℕ → List ℚ
  row_of i = slice_index_or (map (row_at rep) rows) i []

  abbrev gen_of : ℕ → List ℚ
  gen_of j = slice_index_or (pieces (length rows) (suc rep.width) gens) j []

  row_is : (i : ℕ) → i < length rows → row_of i ≡ row_at rep (slice_index_or rows i 0)
  row_is i l = get_or-map (row_at rep) rows i 0 [] l

  firsts_many : length firsts ≡ length rows
  firsts_many = length-pieces (length rows) (suc rep.width) gens

  gen_inside : (j : ℕ) → j < length rows → j < length firsts
  gen_inside j l = let many = firsts_many in omega (arith, l, many)

  -- the events of each generator, by its place
  generator_at : Passed (flat_map (generator_events rep s.lines rows) (enumerate_from 1 firsts)) → (j : ℕ) → j < length rows → Passed (generator_events rep s.lines rows (1 + j, gen_of j))
  generator_at h j l = each_numbered (λ (g : ℕ × List ℚ). Passed (generator_events rep s.lines rows g)) 1 firsts j []
      (each_passes (generator_events rep s.lines rows) (enumerate_from 1 firsts) h) (gen_inside j l)

  product_at : Passed (flat_map (generator_events rep s.lines rows) (enumerate_from 1 firsts)) → (i j : ℕ) → i < length rows → j < length rows →
      fits ((1 + i) == (1 + j)) (dot (row_of i) (gen_of j)) ≡ true
  product_at h i j l m =
      subst (λ (r : List ℚ). fits ((1 + i) == (1 + j)) (dot r (gen_of j)) ≡ true) (sym (row_is i l))
      (last_passes (dot_steps (row_at rep (slice_index_or rows i 0)) (gen_of j)) rule.Corner (fits ((1 + i) == (1 + j)) (dot (row_at rep (slice_index_or rows i 0)) (gen_of j)))
      (each_numbered (λ (row : ℕ × ℕ). Passed (corner_events (row_at rep row.1) (row.0 == (1 + j)) (gen_of j))) 1 rows i 0
      (each_passes (λ (row : ℕ × ℕ). corner_events (row_at rep row.1) (row.0 == (1 + j)) (gen_of j)) (enumerate_from 1 rows) (generator_at h j m).1) l))

  pub start-meets : Passed (start_events rep s.lines rows gens) → MeetsStart rep s rows gens
  start-meets h =
      let many = both_true (length rows + length s.lines == suc rep.width) (length gens == length rows * suc rep.width) h.0 in
      let index = both_true (rises rows) (all_below (length (text_rows rep)) rows) h.1.0 in
      record {
        rows_many = eqb-true (length rows + length s.lines) (suc rep.width) many.0;
        gens_many = eqb-true (length gens) (length rows * suc rep.width) many.1;
        rise = they_rise rows index.0;
        exist = all_below-are (length (text_rows rep)) rows index.1;
        reduced = All-from_get_or (IsReduced s.lines) firsts [] (λ j l.
            All-weaker (λ d. is_zero (entry (gen_of j) (leading_place d)) ≡ true) (λ d. entry (gen_of j) (leading_place d) ≡ zero_ℚ) (λ d p. zero_number (entry (gen_of j) (leading_place d)) p) s.lines
            (AllPass-from_list_all (λ d. is_zero (entry (gen_of j) (leading_place d))) s.lines
            (both_true (list_all (λ d. is_zero (entry (gen_of j) (leading_place d))) s.lines) (same_ℚ (magnitude (norming (gen_of j))) one_ℚ)
            (generator_at h.1.1 j (outside j l)).0).0));
        normed = All-from_get_or IsNormed firsts [] (λ j l. same_number (magnitude (norming (gen_of j))) one_ℚ
            (both_true (list_all (λ d. is_zero (entry (gen_of j) (leading_place d))) s.lines) (same_ℚ (magnitude (norming (gen_of j))) one_ℚ)
            (generator_at h.1.1 j (outside j l)).0).1);
        positive = λ i l. sym (ap (λ (b : Bool). fits b (dot (row_of i) (gen_of i))) (one_place i)) ∙ product_at h.1.1 i i l l;
        zero_elsewhere = λ i j l m other. zero_number (dot (row_of i) (gen_of j))
            (sym (ap (λ (b : Bool). fits b (dot (row_of i) (gen_of j))) (other_place i j other)) ∙ product_at h.1.1 i j l m);
      }
    where
      outside : (j : ℕ) → j < length firsts → j < length rows
      outside j l = let many = firsts_many in omega (arith, l, many)

  module _ (h : MeetsStart rep s rows gens) where
    first_passes : (j : ℕ) → j < length rows → is_first s.lines (gen_of j) ≡ true
    first_passes j l =
        let inside : j < length firsts = gen_inside j l in
        both_hold (list_all (λ d. is_zero (entry (gen_of j) (leading_place d))) s.lines) (same_ℚ (magnitude (norming (gen_of j))) one_ℚ)
        (true-list_all (λ d. is_zero (entry (gen_of j) (leading_place d))) s.lines
        (All-weaker (λ d. entry (gen_of j) (leading_place d) ≡ zero_ℚ) (λ d. is_zero (entry (gen_of j) (leading_place d)) ≡ true) (λ d p. zero_passes (entry (gen_of j) (leading_place d)) p) s.lines
        (All-get_or (IsReduced s.lines) firsts j [] inside h.reduced)))
        (same_passes (magnitude (norming (gen_of j))) one_ℚ (All-get_or IsNormed firsts j [] inside h.normed))

    fits_there : (i j : ℕ) → i < length rows → j < length rows → fits ((1 + i) == (1 + j)) (dot (row_of i) (gen_of j)) ≡ true
    fits_there i j l m = place_cases (λ b. fits b (dot (row_of i) (gen_of j)) ≡ true) i j
        (λ e. subst (λ (k : ℕ). lt_ℚ zero_ℚ (dot (row_of i) (gen_of k)) ≡ true) e (h.positive i l))
        (λ other. zero_passes (dot (row_of i) (gen_of j)) (h.zero_elsewhere i j l m other))

    corners_pass : (j : ℕ) → j < length rows → Passed (corners_events rep (1 + j, gen_of j) rows)
    corners_pass j m = pass_each (λ (row : ℕ × ℕ). corner_events (row_at rep row.1) (row.0 == (1 + j)) (gen_of j)) (enumerate_from 1 rows)
        (all_numbered (λ (row : ℕ × ℕ). Passed (corner_events (row_at rep row.1) (row.0 == (1 + j)) (gen_of j))) 1 rows 0 (λ i l.
        let r : List ℚ = row_at rep (slice_index_or rows i 0) in
        pass_last (dot_steps r (gen_of j)) rule.Corner (fits ((1 + i) == (1 + j)) (dot r (gen_of j))) (pass_sum r (gen_of j))
        (subst (λ (v : List ℚ). fits ((1 + i) == (1 + j)) (dot v (gen_of j)) ≡ true) (row_is i l) (fits_there i j l m))))

    start-passes : Passed (start_events rep s.lines rows gens)
    start-passes = (
      both_hold (length rows + length s.lines == suc rep.width) (length gens == length rows * suc rep.width)
          (eq-eqb (length rows + length s.lines) (suc rep.width) h.rows_many) (eq-eqb (length gens) (length rows * suc rep.width) h.gens_many),
      (
        both_hold (rises rows) (all_below (length (text_rows rep)) rows) (rising_passes rows h.rise)
            (all_pass (λ k. k < length (text_rows rep)) (λ k. nat_lt k (length (text_rows rep))) rows (λ k p. (Decides-ltb k (length (text_rows rep))).1 p) h.exist),
        pass_each (generator_events rep s.lines rows) (enumerate_from 1 firsts)
            (all_numbered (λ (g : ℕ × List ℚ). Passed (generator_events rep s.lines rows g)) 1 firsts [] (λ j l.
            let many = firsts_many in
            let inside : j < length rows = omega (arith, l, many) in
            (first_passes j inside, corners_pass j inside))),
      ),
    )

-- ---- add
add-meets : (rep : Rep) (s : State) (row : ℕ) (pairs : List LogPair) → Passed (add_events rep s row pairs) → MeetsAdd rep s row pairs
add-meets rep s row pairs h =
    let usable : Bool = nat_lt row (length (text_rows rep)) && not (contains s.used row) in
    let exactly : Bool = same_pairs pairs (required_pairs (rows_in_use rep s) s.list.live (row_at rep row)) in
    let values : List Event = flat_map (λ g. dot_steps (row_at rep row) g.vector) s.list.live in
    let making : List Event = flat_map (pair_of (row_at rep row) s.list.live) pairs in
    let a = both_pass (test rule.Index usable ∷ values) (test rule.Pairs exactly ∷ making) h in
    let c = both_true (nat_lt row (length (text_rows rep))) (not (contains s.used row)) a.0.0 in
    record {
      exists = (Decides-ltb row (length (text_rows rep))).0 c.0;
      unused = not_contained s.used row c.1;
      exactly = pairs_are pairs (required_pairs (rows_in_use rep s) s.list.live (row_at rep row)) a.1.0;
    }

quotients-pass : (d : ℚ) (xs : List ℚ) → Passed (map (λ x. step op.Div x d) xs)
quotients-pass d [] = tt
quotients-pass d (x ∷ xs) = quotients-pass d xs

pair_steps-pass : (row : List ℚ) (plus minus : Numbered) → Passed (pair_steps row plus minus)
pair_steps-pass row plus minus =
    let k : ℚ = value row plus /ℚ neg_ℚ (value row minus) in
    let z : List ℚ = meeting_point k plus.vector minus.vector in
    pass_both (step op.Div (value row plus) (neg_ℚ (value row minus)) ∷ meeting_steps k plus.vector minus.vector) (quotient_steps z)
    (pass_steps (λ (e : ℚ × ℚ). step op.Mul k e.1 ∷ step op.Add e.0 (k *ℚ e.1) ∷ []) (zip plus.vector minus.vector) (λ e. tt))
    (quotients-pass (magnitude (norming z)) z)

pair-passes : (row : List ℚ) (live : List Numbered) (pair : LogPair) → Passed (pair_of row live pair)
pair-passes row live pair = go (find live pair.plus) (find live pair.minus)
  where
    go : (a b : Option Numbered) → Passed (elim a [
      | Some plus ↦ elim b [ Some minus ↦ pair_steps row plus minus | None ↦ [] ]
      | None ↦ []
    ])
    go (Some plus) (Some minus) = pair_steps-pass row plus minus
    go (Some plus) None = tt
    go None b = tt

add-passes : (rep : Rep) (s : State) (row : ℕ) (pairs : List LogPair) → MeetsAdd rep s row pairs → Passed (add_events rep s row pairs)
add-passes rep s row pairs h =
    let usable : Bool = nat_lt row (length (text_rows rep)) && not (contains s.used row) in
    let required : List LogPair = required_pairs (rows_in_use rep s) s.list.live (row_at rep row) in
    let values : List Event = flat_map (λ g. dot_steps (row_at rep row) g.vector) s.list.live in
    let making : List Event = flat_map (pair_of (row_at rep row) s.list.live) pairs in
    pass_both (test rule.Index usable ∷ values) (test rule.Pairs (same_pairs pairs required) ∷ making) (
      both_hold (nat_lt row (length (text_rows rep))) (not (contains s.used row)) ((Decides-ltb row (length (text_rows rep))).1 h.exists)
          (not_contains_passes s.used row h.unused),
      pass_steps (λ (g : Numbered). dot_steps (row_at rep row) g.vector) s.list.live (λ g. pass_sum (row_at rep row) g.vector),
    )
    (ap (λ (ps : List LogPair). same_pairs ps required) h.exactly ∙ pairs_pass required, pass_steps (pair_of (row_at rep row) s.list.live) pairs (pair-passes (row_at rep row) s.list.live))

-- ---- end
end-meets : (rep : Rep) (s : State) → all_used rep s ≡ true → MeetsEnd rep s
end-meets rep s h k l =
    let n : ℕ = length (text_rows rep) in
    let many : length (range_with_len 0 n) ≡ n = length-range_with_len 0 n in
    let inside : k < length (range_with_len 0 n) = omega (arith, l, many) in
    let is : slice_index_or (range_with_len 0 n) k 0 ≡ 0 + k = get_or-range_with_len 0 n k 0 l in
    let same : 0 + k ≡ k = omega arith in
    contained s.used k (subst (λ (j : ℕ). contains s.used j ≡ true) (is ∙ same)
    (All-get_or (λ j. contains s.used j ≡ true) (range_with_len 0 n) k 0 inside (AllPass-from_list_all (contains s.used) (range_with_len 0 n) h)))

end-passes : (rep : Rep) (s : State) → MeetsEnd rep s → all_used rep s ≡ true
end-passes rep s h =
    let n : ℕ = length (text_rows rep) in
    true-list_all (contains s.used) (range_with_len 0 n) (All-from_get_or (λ j. contains s.used j ≡ true) (range_with_len 0 n) 0 (λ k l.
    let many : length (range_with_len 0 n) ≡ n = length-range_with_len 0 n in
    let inside : k < n = omega (arith, l, many) in
    let is : slice_index_or (range_with_len 0 n) k 0 ≡ 0 + k = get_or-range_with_len 0 n k 0 inside in
    let same : 0 + k ≡ k = omega arith in
    contains_passes s.used (slice_index_or (range_with_len 0 n) k 0) (subst (Contains s.used) (sym (is ∙ same)) (h k inside))))

-- ---- one entry
kind-meets : (rep : Rep) (s : State) (e : ConvEntry) → Passed (kind_events rep s e) → MeetsKind rep s e
kind-meets rep s (Conv n) h = eqb-true n 1 h.0
kind-meets rep s (Line d) h = line-meets rep s d h
kind-meets rep s (Start rows gens) h = start-meets rep s rows gens h
kind-meets rep s (Add row pairs) h = add-meets rep s row pairs h
kind-meets rep s End h = end-meets rep s h.0

kind-passes : (rep : Rep) (s : State) (e : ConvEntry) → MeetsKind rep s e → Passed (kind_events rep s e)
kind-passes rep s (Conv n) h = (eq-eqb n 1 h, tt)
kind-passes rep s (Line d) h = line-passes rep s d h
kind-passes rep s (Start rows gens) h = start-passes rep s rows gens h
kind-passes rep s (Add row pairs) h = add-passes rep s row pairs h
kind-passes rep s End h = (end-passes rep s h, tt)

pub entry_meets : (holds : ℚ → Bool) (rep : Rep) (before : List ConvEntry) (e : ConvEntry) → first_failure holds 1 (events rep before e) ≡ None → Meets rep before e
entry_meets holds rep before e h =
    let p = passed_of holds 1 (events rep before e) h in
    record { order = p.0; rules = kind-meets rep (state rep before) e p.1 }

entry_passes : (holds : ℚ → Bool) (rep : Rep) (before : List ConvEntry) (e : ConvEntry) → Meets rep before e → All (IsHeldStep holds) (events rep before e) →
    first_failure holds 1 (events rep before e) ≡ None
entry_passes holds rep before e h k = none_fails holds 1 (events rep before e) (h.order, kind-passes rep (state rep before) e h.rules) k

-- ---- the log
-- no event of an entry fails, for each of the entries after those before it
abbrev NoneAfter : (ℚ → Bool) → Rep → List ConvEntry → List ConvEntry → Type 0
NoneAfter holds rep before entries = (mid : List ConvEntry) (e : ConvEntry) (later : List ConvEntry) → entries ≡ mid ++ e ∷ later →
    first_failure holds 1 (events rep (before ++ mid) e) ≡ None

splits : (holds : ℚ → Bool) (rep : Rep) (before entries : List ConvEntry) → first_failing holds rep before entries ≡ None → NoneAfter holds rep before entries
splits holds rep before [] h [] e later same = absurd cc
splits holds rep before [] h (m ∷ mid) e later same = absurd cc
splits holds rep before (f ∷ entries) h mid e later same =
    let parts = both_none (first_failure holds 1 (events rep before f)) (λ x. record { entry = suc (length before); failure = x })
    (first_failing holds rep (before ++ f ∷ []) entries) h in
    go mid same parts.0 (splits holds rep (before ++ f ∷ []) entries parts.1)
  where
    go : (ms : List ConvEntry) → f ∷ entries ≡ ms ++ e ∷ later → first_failure holds 1 (events rep before f) ≡ None →
        ((ks : List ConvEntry) (d : ConvEntry) (rest : List ConvEntry) → entries ≡ ks ++ d ∷ rest → first_failure holds 1 (events rep ((before ++ f ∷ []) ++ ks) d) ≡ None) →
        first_failure holds 1 (events rep (before ++ ms) e) ≡ None
    go [] i none again =
        let first : f ≡ e = cc in
        subst (λ (b : List ConvEntry). first_failure holds 1 (events rep b e) ≡ None) (sym (append-nil before))
        (subst (λ (d : ConvEntry). first_failure holds 1 (events rep before d) ≡ None) first none)
    go (m ∷ ms) i none again =
        let first : f ≡ m = cc in
        let rest : entries ≡ ms ++ e ∷ later = cc in
        subst (λ (b : List ConvEntry). first_failure holds 1 (events rep b e) ≡ None)
        (append_assoc before (f ∷ []) ms ∙ ap (λ (d : ConvEntry). before ++ d ∷ ms) first) (again ms e later rest)

none_failing : (holds : ℚ → Bool) (rep : Rep) (before entries : List ConvEntry) → NoneAfter holds rep before entries → first_failing holds rep before entries ≡ None
none_failing holds rep before [] h = refl
none_failing holds rep before (f ∷ entries) h =
    ap (λ (o : Option Failure). elim o [
      | Some x ↦ Some (record { entry = suc (length before); failure = x })
      | None ↦ first_failing holds rep (before ++ f ∷ []) entries
    ]) (subst (λ (b : List ConvEntry). first_failure holds 1 (events rep b f) ≡ None) (append-nil before) (h [] f entries refl))
    ∙ none_failing holds rep (before ++ f ∷ []) entries
    (λ mid e later same. subst (λ (b : List ConvEntry). first_failure holds 1 (events rep b e) ≡ None) (sym (append_assoc before (f ∷ []) mid))
    (h (f ∷ mid) e later (ap (λ es. f ∷ es) same)))

pub events_are_rules : EventsAreRules
events_are_rules holds rep entries = (
  λ h.
      let none : NoneAfter holds rep [] entries = splits holds rep [] entries h in (
        λ before e later same. entry_meets holds rep before e (none before e later same),
        λ before e later same. held_of holds 1 (events rep before e) (none before e later same),
      ),
  λ h. none_failing holds rep [] entries (λ mid e later same. entry_passes holds rep mid e (h.0 mid e later same) (h.1 mid e later same)),
)
