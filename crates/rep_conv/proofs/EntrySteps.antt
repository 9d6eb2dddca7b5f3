-- How many steps the entries `line` and `start` have at most, and parts of their events.
use Rattle.std.proofs.Common.{◌≡◌, ℕ, suc, ◌+◌, ◌*◌, ◌<◌, ◌≤◌, ◌==◌, Bool, true, false, cond, nat_lt, List, [], ◌∷◌, length, All, slice_index_or, refl, sym, ap, ◌∙◌, subst, arith, None}
use Rattle.std.specs.List.{flat_map, enumerate_from}
use Rattle.std.proofs.lemmas.Bool.Decides.{Decides-ltb}
use Rattle.std.proofs.lemmas.List.{get_or_default}
use Rattle.std.proofs.lemmas.List.Elements.{All-nil, All-cons, All-head, All-tail, All-get_or}
use Rattle.std.proofs.lemmas.List.Sums.{AllPass-from_list_all}
use Rattle.exact_field.specs.Rational.{ℚ}
use Rattle.exact_field.specs.Vector.{dot, entry}
use Rattle.frac128.specs.Held.{is_held}
use Rattle.frac128.specs.Sparse.{is_zero}
use Rattle.polyhedra.specs.DoubleDescription as double
use Rattle.polyhedra.specs.DoubleDescription.{leading, norming}
use Rattle.polyhedra.specs.Vectors.{AreWide}
use Rattle.upper_image.specs.Spots.{pieces}
use Rattle.log_rules.specs.Events.{dot_steps, first_failure}
use Rattle.log_rules.specs.Events.Event.{test}
use Rattle.log_rules.specs.Runs.{steps}
use Rattle.log_rules.specs.declared.rule.Rule.{Rule}
use Rattle.log_rules.specs.declared.rule.Rule.TheVariants as rule
use Rattle.entry_checks.specs.Parts.{corner_events}
use Rattle.entry_checks.proofs.Going.{first-passed}
use Rattle.entry_checks.proofs.RisingNumbers.{length-numbered, length-pieces, numbered-next}
use Rattle.entry_checks.proofs.StepBounds.{steps-dot, steps-each, steps-all, steps-tested}
use Rattle.log_live.proofs.NewVectors.{same_zero}
use Rattle.rep_conv.specs.Events.{tight_events, corners_events, generator_events, all_below}
use Rattle.rep_conv.specs.Rows.{text_rows, row_at}
use Rattle.rep_text.specs.declared.rep.Rep.{Rep}
use Rattle.rep_conv.proofs.TextRows.{text_rows_wide}

-- ---- the entry that norms a vector
pub norming-last : (v : List ℚ) (x : ℚ) → x ≡ entry v (length v) → is_zero x ≡ true → norming v ≡ leading v
norming-last v x e h = ap (λ (b : Bool). cond b (leading v) (entry v (length v))) (ap double.is_zero (sym e) ∙ sym (same_zero x) ∙ h)

pub norming-other : (v : List ℚ) (x : ℚ) → x ≡ entry v (length v) → is_zero x ≡ false → norming v ≡ x
norming-other v x e h = ap (λ (b : Bool). cond b (leading v) (entry v (length v))) (ap double.is_zero (sym e) ∙ sym (same_zero x) ∙ h) ∙ sym e

-- ---- line
pub few_tight : (d : List ℚ) (w : ℕ) (rows : List (List ℚ)) → AreWide (suc w) rows → w ≤ 19 → steps (flat_map (tight_events d) rows) ≤ length rows * 40
few_tight d w rows wide few = steps-each (tight_events d) (λ (r : List ℚ). length r ≡ suc w) 40
    (λ r h. steps-tested (dot_steps r d) rule.Corner (is_zero (dot r d)) 40 (let k = steps-dot r d in omega (arith, k, h, few))) rows wide.wide

-- ---- start
pub second_passed : (n : ℕ) (r s : Rule) (a b : Bool) → first_failure is_held n (test r a ∷ test s b ∷ []) ≡ None → b ≡ true
second_passed n r s a b h = first-passed n s b [] (subst (λ (x : Bool). first_failure is_held n (test r x ∷ test s b ∷ []) ≡ None) (first-passed n r a (test s b ∷ []) h) h)

pub below_at : (n : ℕ) (ks : List ℕ) (i d : ℕ) → all_below n ks ≡ true → i < length ks → slice_index_or ks i d < n
below_at n ks i d h l = (Decides-ltb (slice_index_or ks i d) n).0 (All-get_or (λ k. nat_lt k n ≡ true) ks i d l (AllPass-from_list_all (λ k. nat_lt k n) ks h))

pub named_next : (ks : List ℕ) (i : ℕ) → i < length ks → (i + 1, slice_index_or ks i 0) ≡ slice_index_or (enumerate_from 1 ks) i (i + 1, slice_index_or ks i 0)
named_next ks i l = numbered-next ks i (slice_index_or ks i 0) l (get_or_default ks i 0 (slice_index_or ks i 0) l)

-- the row of a number that exists, as the code reads it
pub row_read : (rep : Rep) (rows : List (List ℚ)) (k : ℕ) (r : List ℚ) → rows ≡ text_rows rep → k < length rows → slice_index_or rows k r ≡ row_at rep k
row_read rep rows k r e l = get_or_default rows k r [] l ∙ ap (λ (rs : List (List ℚ)). slice_index_or rs k []) e

pub row_wide : (rep : Rep) (rows : List (List ℚ)) (k : ℕ) → rows ≡ text_rows rep → k < length rows → length (row_at rep k) ≡ suc rep.width
row_wide rep rows k e l = let many = ap length e in All-get_or (λ (r : List ℚ). length r ≡ suc rep.width) (text_rows rep) k [] (omega (arith, l, many)) (text_rows_wide rep).wide

few_corners : (rep : Rep) (named : List ℕ) (n : ℕ) (g : List ℚ) → all_below (length (text_rows rep)) named ≡ true → length named ≤ 20 → steps (corners_events rep (n, g) named) ≤ 800
few_corners rep named n g h few =
    let most = steps-each (λ (row : ℕ × ℕ). corner_events (row_at rep row.1) (row.0 == n) g) (λ (row : ℕ × ℕ). row.1 < length (text_rows rep)) 40
    (λ row l. steps-tested (dot_steps (row_at rep row.1) g) rule.Corner _ 40 (let k = steps-dot (row_at rep row.1) g in let wide = row_wide rep (text_rows rep) row.1 refl l in let narrow = rep.few_entries in omega (arith, k, wide, narrow)))
    (enumerate_from 1 named) (numbered_below 1 named (AllPass-from_list_all (λ k. nat_lt k (length (text_rows rep))) named h)) in
    let many = length-numbered 1 named in
    omega (arith, most, many, few)
  where
    numbered_below : (k : ℕ) (ks : List ℕ) → All (λ j. nat_lt j (length (text_rows rep)) ≡ true) ks → All (λ (row : ℕ × ℕ). row.1 < length (text_rows rep)) (enumerate_from k ks)
    numbered_below k [] a = All-nil (λ (row : ℕ × ℕ). row.1 < length (text_rows rep))
    numbered_below k (j ∷ ks) a = All-cons (λ (row : ℕ × ℕ). row.1 < length (text_rows rep)) (k, j) (enumerate_from (k + 1) ks)
        ((Decides-ltb j (length (text_rows rep))).0 (All-head (λ j. nat_lt j (length (text_rows rep)) ≡ true) j ks a))
        (numbered_below (k + 1) ks (All-tail (λ j. nat_lt j (length (text_rows rep)) ≡ true) j ks a))

pub few_generators : (rep : Rep) (lines : List (List ℚ)) (named : List ℕ) (gens : List ℚ) → all_below (length (text_rows rep)) named ≡ true → length named ≤ 20 →
    steps (flat_map (generator_events rep lines named) (enumerate_from 1 (pieces (length named) (suc rep.width) gens))) ≤ 16000
few_generators rep lines named gens h few =
    let most = steps-all (generator_events rep lines named) 800 (λ g. few_corners rep named g.0 g.1 h few) (enumerate_from 1 (pieces (length named) (suc rep.width) gens)) in
    let many = length-numbered 1 (pieces (length named) (suc rep.width) gens) in
    let all = length-pieces (length named) (suc rep.width) gens in
    omega (arith, most, many, all, few)
