-- The rules of start pass their tests.
use Rattle.std.proofs.Common.{◌≡◌, ℕ, ◌+◌, ◌*◌, ◌<◌, List, [], ◌∷◌, ◌++◌, sym, ap, ◌∙◌, subst, arith, Bool, true, map, length, slice_index_or, ◌&&◌, ◌==◌, if◌then◌else◌}
use Rattle.std.specs.List.{flat_map, list_all, enumerate_from}
use Rattle.std.specs.Prelude.{nat_le}
use Rattle.std.proofs.Common.{◌≤◌, inl, inr}
use Rattle.std.proofs.lemmas.Bool.Decides.{leb_tells}
use Rattle.std.proofs.lemmas.List.Elements.{All-cons}
use Rattle.exact_field.specs.Vector.{entry}
use Rattle.lineality.specs.Lines.{leading_place, IsReduced}
use Rattle.deriv_log.specs.declared.entry.Entry.{Entry}
use Rattle.std.proofs.lemmas.Bool.{eq-eqb}
use Rattle.std.proofs.lemmas.List.{length-map}
use Rattle.std.proofs.lemmas.List.Elements.{All-map, All-weaker}
use Rattle.exact_field.specs.Rational.{ℚ, zero_ℚ, one_ℚ, lt_ℚ}
use Rattle.exact_field.specs.Order.{same_ℚ}
use Rattle.exact_field.specs.Vector.{dot}
use Rattle.polyhedra.specs.DoubleDescription.{magnitude, leading}
use Rattle.polyhedra.specs.Hull.{IsNormedDirection}
use Rattle.polyhedra.specs.Inequality.{Inequality}
use Rattle.polyhedra.proofs.Lists.{all_from_map}
use Rattle.polyhedra.proofs.Tests.{both_hold, true-list_all}
use Rattle.upper_image.specs.Spots.{pieces}
use Rattle.upper_image.proofs.Widths.{length-pieces}
use Rattle.log_rules.specs.CutEvents.{rises, all_within}
use Rattle.log_rules.specs.Events.{Event, dot_steps}
use Rattle.log_rules.specs.LiveEvents.{corner, start_events}
use Rattle.log_rules.specs.Live.{Stated, State, inequality, cut_at, lines}
use Rattle.log_rules.specs.Meets.{MeetsStart}
use Rattle.log_rules.proofs.Corner.{named_inequalities, normal_at}
use Rattle.log_rules.proofs.HeldTests.{pass_both, pass_last, pass_tests, pass_pairs, pass_sum, place_cases, same_passes, all_pass, rising_passes, all_within_passes}
use Rattle.log_rules.proofs.PassedTests.{Passed, zero_passes}
use Rattle.frac128.specs.Sparse.{is_zero}
use Rattle.vlp_problem.specs.declared.problem.Problem.{Problem}
use Rattle.log_rules.specs.declared.rule.Rule.TheVariants as rule
use Rattle.log_rules.specs.Events.Event.{test}

le-passes : (k : ℕ) → 1 ≤ k → nat_le 1 k ≡ true
le-passes k h = elim (leb_tells 1 k) [ inl a ↦ a.0 | inr a ↦ (let l = a.1 in absurd (omega (arith, h, l))) ]

module _ (file : Problem) (before : List Entry) (s : State) (cuts : List ℕ) (point directions : List ℚ) (h : MeetsStart file before s cuts point directions) where
  listed : List Stated
  listed = map (cut_at s.cuts) cuts

  rays : List (List ℚ)
  rays = pieces (length cuts) file.objs directions

  many : length cuts + length (lines before) ≡ file.objs
  many = ap (λ k. k + length (lines before)) (sym (length-map cuts (λ k. inequality (cut_at s.cuts k)))) ∙ h.corner.cuts_many

  longer : (i : ℕ) → i < length cuts → i < length (map (λ k. inequality (cut_at s.cuts k)) cuts)
  longer i l = let e = length-map cuts (λ k. inequality (cut_at s.cuts k)) in omega (arith, l, e)

  -- each cut grows in its own direction alone
  products_pass : Passed (flat_map (corner rays) (enumerate_from 1 listed))
  unfolding listed rays many
  products_pass =
      let none : Stated = record { w = []; gamma = zero_ℚ; u = [] } in
      let cuts_many = length-map cuts (cut_at s.cuts) in
      let rays_many = length-pieces (length cuts) file.objs directions in
      let normals : List (List ℚ) = map (λ x. x.normal) (named_inequalities (cut_at s.cuts) cuts) in
      pass_pairs (λ (c : ℕ × Stated) (d : ℕ × List ℚ). dot_steps c.1.w d.1
      ++ test rule.Corner (if d.0 == c.0 then lt_ℚ zero_ℚ (dot c.1.w d.1) else is_zero (dot c.1.w d.1)) ∷ []) listed rays none []
      (λ i j l m.
      let w : List ℚ = (slice_index_or listed i none).w in
      let ray : List ℚ = slice_index_or rays j [] in
      let low : i < length cuts = omega (arith, l, cuts_many) in
      let high : j < length cuts = omega (arith, m, rays_many) in
      let same : slice_index_or normals i [] ≡ w = normal_at (cut_at s.cuts) cuts i none low in
      pass_last (dot_steps w ray) rule.Corner (if (1 + j) == (1 + i) then lt_ℚ zero_ℚ (dot w ray) else is_zero (dot w ray)) (pass_sum w ray)
      (place_cases (λ b. (if b then lt_ℚ zero_ℚ (dot w ray) else is_zero (dot w ray)) ≡ true) j i
      (λ e. subst (λ (v : List ℚ). lt_ℚ zero_ℚ (dot v ray) ≡ true) same
      (subst (λ (k : ℕ). lt_ℚ zero_ℚ (dot (slice_index_or normals i []) (slice_index_or rays k [])) ≡ true) (sym e) (h.corner.grows i (longer i low))))
      (λ other. zero_passes (dot w ray)
      (ap (λ (v : List ℚ). dot v ray) (sym same) ∙ h.corner.stays i j (longer i low) (longer j high) (λ e. other (sym e))))))

  reduced_passes : (v : List ℚ) → IsReduced (lines before) v → list_all (λ c. is_zero (entry v (leading_place c))) (lines before) ≡ true
  reduced_passes v r = true-list_all (λ c. is_zero (entry v (leading_place c))) (lines before)
      (All-weaker (λ c. entry v (leading_place c) ≡ zero_ℚ) (λ c. is_zero (entry v (leading_place c)) ≡ true) (λ c z. zero_passes (entry v (leading_place c)) z) (lines before) r)

  pub start-passes : Passed (start_events file (lines before) s cuts point directions)
  unfolding listed rays many
  start-passes =
      let tight : Stated → Bool = λ cut. same_ℚ (dot cut.w point) cut.gamma in
      let at_point : List Event = flat_map (λ cut. dot_steps cut.w point ++ test rule.Corner (tight cut) ∷ []) listed in
      let at_rays : List Event = flat_map (corner rays) (enumerate_from 1 listed) in (
        both_hold (length cuts + length (lines before) == file.objs && nat_le 1 (length cuts) && length point == file.objs) (length directions == length cuts * file.objs)
            (both_hold (length cuts + length (lines before) == file.objs && nat_le 1 (length cuts)) (length point == file.objs)
            (both_hold (length cuts + length (lines before) == file.objs) (nat_le 1 (length cuts)) (eq-eqb (length cuts + length (lines before)) file.objs many) (le-passes (length cuts) h.some))
            (eq-eqb (length point) file.objs h.corner.point_wide))
            (eq-eqb (length directions) (length cuts * file.objs) h.directions_many),
        (
          both_hold (rises cuts) (all_within (length s.cuts) cuts) (rising_passes cuts h.rise) (all_within_passes (length s.cuts) cuts h.exist),
          (
            true-list_all (λ v. list_all (λ c. is_zero (entry v (leading_place c))) (lines before)) (point ∷ rays)
                (All-cons (λ v. list_all (λ c. is_zero (entry v (leading_place c))) (lines before) ≡ true) point rays (reduced_passes point h.corner.point_reduced)
                (All-weaker (IsReduced (lines before)) (λ v. list_all (λ c. is_zero (entry v (leading_place c))) (lines before) ≡ true) reduced_passes rays h.corner.directions_reduced)),
            (
              all_pass IsNormedDirection (λ v. same_ℚ (magnitude (leading v)) one_ℚ) rays (λ v p. same_passes (magnitude (leading v)) one_ℚ p) h.normed,
              pass_both at_point at_rays
                  (pass_tests (λ cut. dot_steps cut.w point) rule.Corner tight listed (λ cut. pass_sum cut.w point)
                  (All-map (λ cut. tight cut ≡ true) (cut_at s.cuts) cuts
                  (All-weaker (λ k. dot (cut_at s.cuts k).w point ≡ (cut_at s.cuts k).gamma) (λ k. tight (cut_at s.cuts k) ≡ true)
                  (λ k p. same_passes (dot (cut_at s.cuts k).w point) (cut_at s.cuts k).gamma p) cuts
                  (all_from_map (λ (x : Inequality). dot x.normal point ≡ x.bound) (λ k. inequality (cut_at s.cuts k)) cuts h.corner.tight))))
                  products_pass,
            ),
          ),
        ),
      )
