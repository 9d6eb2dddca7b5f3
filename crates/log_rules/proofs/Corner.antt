-- A start entry, passed, meets its rules: its cuts are tight at its point, and each grows alone in
-- its own direction.
use Rattle.std.proofs.Common.{◌≡◌, ℕ, zero, suc, ◌+◌, ◌-◌, ◌*◌, ◌<◌, ◌≤◌, List, [], ◌∷◌, ◌++◌, refl, sym, ap, ◌∙◌, subst, arith, Bool, true, map, length, take, drop, slice_index_or, All, ◌&&◌, ◌==◌, if◌then◌else◌}
use Rattle.std.specs.List.{flat_map, list_all, enumerate_from}
use Rattle.std.specs.Prelude.{nat_le}
use Rattle.std.proofs.Common.{true≢false, inl, inr}
use Rattle.std.proofs.lemmas.Bool.Decides.{leb_tells}
use Rattle.std.proofs.lemmas.List.Elements.{All-head, All-tail}
use Rattle.exact_field.specs.Vector.{entry}
use Rattle.lineality.specs.Lines.{leading_place, IsReduced}
use Rattle.deriv_log.specs.declared.entry.Entry.{Entry}
use Rattle.std.proofs.Math.Nat.{suc-mul}
use Rattle.std.proofs.lemmas.Bool.{eqb-true}
use Rattle.std.proofs.lemmas.List.{length-map, length-take-le, length-drop}
use Rattle.std.proofs.lemmas.List.Sums.{AllPass-from_list_all}
use Rattle.std.proofs.lemmas.List.Elements.{All-map, All-weaker}
use Rattle.exact_field.specs.Rational.{ℚ, zero_ℚ, one_ℚ, lt_ℚ}
use Rattle.exact_field.specs.Order.{same_ℚ}
use Rattle.exact_field.specs.Vector.{dot}
use Rattle.polyhedra.specs.DoubleDescription.{magnitude, leading}
use Rattle.polyhedra.specs.Hull.{IsNormedDirection}
use Rattle.polyhedra.specs.Inequality.{Inequality}
use Rattle.polyhedra.specs.Vectors.{AreWide}
use Rattle.polyhedra.proofs.Lists.{wide-nil, wide-cons, all_from_map}
use Rattle.polyhedra.proofs.Tests.{both_true}
use Rattle.upper_image.specs.Spots.{pieces}
use Rattle.upper_image.proofs.Widths.{length-pieces}
use Rattle.log_rules.specs.CutEvents.{rises, all_within}
use Rattle.log_rules.specs.Events.{Event, dot_steps}
use Rattle.log_rules.specs.LiveEvents.{corner, start_events}
use Rattle.log_rules.specs.Live.{Stated, State, inequality, cut_at, lines}
use Rattle.log_rules.specs.Meets.{MeetsStart}
use Rattle.log_rules.proofs.PassedTests.{Passed, both_pass, last_passes, each_test, each_both, one_place, other_place, same_number, zero_number, they_rise, all_are_within}
use Rattle.frac128.specs.Sparse.{is_zero}
use Rattle.vlp_problem.specs.declared.problem.Problem.{Problem}
use Rattle.log_rules.specs.declared.rule.Rule.TheVariants as rule
use Rattle.log_rules.specs.Events.Event.{test}

-- ---- pieces
pub pieces-wide : (n q : ℕ) (xs : List ℚ) → n * q ≤ length xs → AreWide q (pieces n q xs)
pieces-wide zero q xs h = wide-nil q
pieces-wide (suc n) q xs h =
    let both : suc n * q ≡ n * q + q = suc-mul n q in
    let left = length-drop q xs in
    wide-cons q (take q xs) (pieces n q (drop q xs)) (length-take-le q xs (omega (arith, h, both)))
    (pieces-wide n q (drop q xs) (omega (arith, h, both, left)))

-- ---- the cuts that numbers name
-- the inequalities of the cuts with these numbers
abbrev pub named_inequalities : (ℕ → Stated) → List ℕ → List Inequality
named_inequalities f ks = map (λ k. inequality (f k)) ks

pub normal_at : (f : ℕ → Stated) (ks : List ℕ) (i : ℕ) (d : Stated) → i < length ks →
    slice_index_or (map (λ e. e.normal) (named_inequalities f ks)) i [] ≡ (slice_index_or (map f ks) i d).w
normal_at f [] i d h = absurd (omega (arith, h))
normal_at f (k ∷ ks) zero d h = refl
normal_at f (k ∷ ks) (suc i) d h = normal_at f ks i d (omega (arith, h))

-- each that exists has w of q entries, where all cuts have
pub cut_wide : (q : ℕ) (cuts : List Stated) (k : ℕ) → All (λ cut. length cut.w ≡ q) cuts → (1 ≤ k) × (k ≤ length cuts) → length (cut_at cuts k).w ≡ q
cut_wide q cuts k h (low, high) = h (k - 1) record { w = []; gamma = zero_ℚ; u = [] } (omega (arith, low, high))

le-shown : (k : ℕ) → nat_le 1 k ≡ true → 1 ≤ k
le-shown k h = elim (leb_tells 1 k) [ inl a ↦ a.1 | inr a ↦ absurd (true≢false (sym h ∙ a.0)) ]

module _ (file : Problem) (before : List Entry) (s : State) (cuts : List ℕ) (point directions : List ℚ) where
  listed : List Stated
  listed = map (cut_at s.cuts) cuts

  rays : List (List ℚ)
  rays = pieces (length cuts) file.objs directions

  -- what the product of cut a with direction b must pass
  grows_alone : ℕ → ℕ → ℚ → Bool
  grows_alone a b p = if b == a then lt_ℚ zero_ℚ p else is_zero p

  products : Passed (flat_map (corner rays) (enumerate_from 1 listed)) → (a b : ℕ) → a < length cuts → b < length cuts →
      grows_alone (1 + a) (1 + b) (dot (slice_index_or (map (λ e. e.normal) (named_inequalities (cut_at s.cuts) cuts)) a []) (slice_index_or rays b [])) ≡ true
  unfolding listed rays grows_alone
  products h a b l m =
      let none : Stated = record { w = []; gamma = zero_ℚ; u = [] } in
      let cuts_many = length-map cuts (cut_at s.cuts) in
      let rays_many = length-pieces (length cuts) file.objs directions in
      let cut : Stated = slice_index_or listed a none in
      let ray : List ℚ = slice_index_or rays b [] in
      subst (λ (w : List ℚ). grows_alone (1 + a) (1 + b) (dot w ray) ≡ true) (sym (normal_at (cut_at s.cuts) cuts a none l))
      (last_passes (dot_steps cut.w ray) rule.Corner (grows_alone (1 + a) (1 + b) (dot cut.w ray))
      (each_both (λ (c : ℕ × Stated) (d : ℕ × List ℚ). dot_steps c.1.w d.1
      ++ test rule.Corner (if d.0 == c.0 then lt_ℚ zero_ℚ (dot c.1.w d.1) else is_zero (dot c.1.w d.1)) ∷ [])
      listed rays a b none [] h (omega (arith, l, cuts_many)) (omega (arith, m, rays_many))))

  pub start-meets : All (λ cut. length cut.w ≡ file.objs) s.cuts → Passed (start_events file (lines before) s cuts point directions) →
      MeetsStart file before s cuts point directions
  unfolding listed rays grows_alone
  start-meets wide h =
      let normed : Bool = list_all (λ d. same_ℚ (magnitude (leading d)) one_ℚ) rays in
      let tight : Stated → Bool = λ cut. same_ℚ (dot cut.w point) cut.gamma in
      let at_point : List Event = flat_map (λ cut. dot_steps cut.w point ++ test rule.Corner (tight cut) ∷ []) listed in
      let at_rays : List Event = flat_map (corner rays) (enumerate_from 1 listed) in
      let d = both_pass at_point at_rays h.1.1.1.1 in
      let e = both_true (length cuts + length (lines before) == file.objs && nat_le 1 (length cuts) && length point == file.objs) (length directions == length cuts * file.objs) h.0 in
      let f = both_true (length cuts + length (lines before) == file.objs && nat_le 1 (length cuts)) (length point == file.objs) e.0 in
      let k = both_true (length cuts + length (lines before) == file.objs) (nat_le 1 (length cuts)) f.0 in
      let g = both_true (rises cuts) (all_within (length s.cuts) cuts) h.1.0 in
      let cuts_many : length cuts + length (lines before) ≡ file.objs = eqb-true (length cuts + length (lines before)) file.objs k.0 in
      let directions_many : length directions ≡ length cuts * file.objs = eqb-true (length directions) (length cuts * file.objs) e.1 in
      let reduced : All (λ v. list_all (λ c. is_zero (entry v (leading_place c))) (lines before) ≡ true) (point ∷ rays) =
      AllPass-from_list_all (λ v. list_all (λ c. is_zero (entry v (leading_place c))) (lines before)) (point ∷ rays) h.1.1.0 in
      let is_reduced = λ (v : List ℚ) (p : list_all (λ c. is_zero (entry v (leading_place c))) (lines before) ≡ true).
      All-weaker (λ c. is_zero (entry v (leading_place c)) ≡ true) (λ c. entry v (leading_place c) ≡ zero_ℚ) (λ c z. zero_number (entry v (leading_place c)) z) (lines before)
      (AllPass-from_list_all (λ c. is_zero (entry v (leading_place c))) (lines before) p) in
      let exist = all_are_within (length s.cuts) cuts g.1 in
      let inequalities_many = length-map cuts (λ k. inequality (cut_at s.cuts k)) in
      let shorter = λ (i : ℕ) (l : i < length (map (λ k. inequality (cut_at s.cuts k)) cuts)). let r : i < length cuts = omega (arith, l, inequalities_many) in r in
      let product : ℕ → ℕ → ℚ = λ i j. dot (slice_index_or (map (λ x. x.normal) (named_inequalities (cut_at s.cuts) cuts)) i []) (slice_index_or rays j []) in
      record {
        some = le-shown (length cuts) k.1;
        directions_many = directions_many;
        rise = they_rise cuts g.0;
        exist = exist;
        normed = All-weaker (λ v. same_ℚ (magnitude (leading v)) one_ℚ ≡ true) IsNormedDirection (λ v p. same_number (magnitude (leading v)) one_ℚ p) rays
            (AllPass-from_list_all (λ v. same_ℚ (magnitude (leading v)) one_ℚ) rays h.1.1.1.0);
        corner = record {
          normals_wide = All-map (λ (x : Inequality). length x.normal ≡ file.objs) (λ k. inequality (cut_at s.cuts k)) cuts
              (All-weaker (λ k. (1 ≤ k) × (k ≤ length s.cuts)) (λ k. length (cut_at s.cuts k).w ≡ file.objs) (λ k p. cut_wide file.objs s.cuts k wide p) cuts exist);
          point_wide = eqb-true (length point) file.objs f.1;
          directions_wide = pieces-wide (length cuts) file.objs directions (omega (arith, directions_many));
          cuts_many = ap (λ k. k + length (lines before)) (length-map cuts (λ k. inequality (cut_at s.cuts k))) ∙ cuts_many;
          directions_many = length-pieces (length cuts) file.objs directions ∙ sym (length-map cuts (λ k. inequality (cut_at s.cuts k)));
          point_reduced = is_reduced point (All-head (λ v. list_all (λ c. is_zero (entry v (leading_place c))) (lines before) ≡ true) point rays reduced);
          directions_reduced = All-weaker (λ v. list_all (λ c. is_zero (entry v (leading_place c))) (lines before) ≡ true) (IsReduced (lines before)) is_reduced rays
              (All-tail (λ v. list_all (λ c. is_zero (entry v (leading_place c))) (lines before) ≡ true) point rays reduced);
          tight = All-map (λ (x : Inequality). dot x.normal point ≡ x.bound) (λ k. inequality (cut_at s.cuts k)) cuts
              (All-weaker (λ k. tight (cut_at s.cuts k) ≡ true) (λ k. dot (cut_at s.cuts k).w point ≡ (cut_at s.cuts k).gamma)
              (λ k p. same_number (dot (cut_at s.cuts k).w point) (cut_at s.cuts k).gamma p) cuts
              (all_from_map (λ cut. tight cut ≡ true) (cut_at s.cuts) cuts (each_test (λ cut. dot_steps cut.w point) rule.Corner tight listed d.0)));
          grows = λ i l. sym (ap (λ (x : Bool). if x then lt_ℚ zero_ℚ (product i i) else is_zero (product i i)) (one_place i)) ∙ products d.1 i i (shorter i l) (shorter i l);
          stays = λ i j l m n. zero_number (product i j)
              (sym (ap (λ (x : Bool). if x then lt_ℚ zero_ℚ (product i j) else is_zero (product i j)) (other_place j i (λ o. n (sym o))))
              ∙ products d.1 i j (shorter i l) (shorter j m));
        };
      }
