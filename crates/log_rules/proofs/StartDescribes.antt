-- What stands after a `start` that meets its rules.
use Rattle.std.proofs.Common.{◌≡◌, ℕ, suc, ◌+◌, List, map, length, All, sym, ap, ap₂, ◌∙◌, subst}
use Rattle.std.proofs.lemmas.List.{length-map}
use Rattle.std.proofs.lemmas.List.Elements.{All-cons, All-map, All-weaker}
use Rattle.exact_field.specs.Rational.{ℚ, zero_ℚ, one_ℚ}
use Rattle.lineality.specs.Lines.{AreEchelon, IsReduced}
use Rattle.lineality.specs.Steps.{IsClear, list_without}
use Rattle.lineality.specs.Without.{marks, open_count, without}
use Rattle.lineality.proofs.Echelon.{echelon_of}
use Rattle.lineality.proofs.Erased.{clear_homogenised}
use Rattle.lineality.proofs.Marks.{length-marks}
use Rattle.lineality.proofs.OpenPlaces.{corners_along}
use Rattle.lineality.proofs.StepsWithout.{IsGood, norming-same, numbered-less, vectors-numbered}
use Rattle.polyhedra.specs.DoubleDescription.{IsNormed, magnitude}
use Rattle.polyhedra.specs.Exactness.{homogenised, rows_of}
use Rattle.polyhedra.specs.Hull.{IsNormedDirection}
use Rattle.polyhedra.specs.LiveList.{LiveList, starting}
use Rattle.polyhedra.specs.LiveSteps.{IsLive}
use Rattle.polyhedra.proofs.Homogenised.{length-homogenised, point_normed, direction_normed}
use Rattle.polyhedra.proofs.Lists.{HasWidth}
use Rattle.polyhedra.proofs.LiveSteps.{are_live}
use Rattle.polyhedra.proofs.Members.{all_of_members, member_of}
use Rattle.upper_image.specs.Spots.{pieces}
use Rattle.log_rules.specs.Laws.{Stands}
use Rattle.log_rules.specs.Live.{State, after, first_vectors, lines}
use Rattle.log_rules.specs.Meets.{MeetsStart}
use Rattle.log_rules.proofs.CutsStay.{stated}
use Rattle.log_rules.proofs.NormedMembers.{stands_of}
use Rattle.vlp_problem.specs.declared.problem.Problem.{Problem}
use Rattle.deriv_log.specs.declared.entry.Entry.{Entry}
use Rattle.deriv_log.specs.declared.entry.Entry.TheVariants.{Start}

module _ (file : Problem) (before : List Entry) (s : State) (cuts : List ℕ) (point directions : List ℚ) (echelon : AreEchelon file.objs (lines before))
    (h : MeetsStart file before s cuts point directions) where
  good_point : IsGood (marks file.objs (lines before)) (homogenised point one_ℚ)
  good_point = record {
    wide = length-homogenised file.objs point one_ℚ h.corner.point_wide ∙ ap suc (sym (length-marks file.objs (lines before)));
    clear = clear_homogenised file.objs (lines before) (echelon_of file.objs (lines before) echelon) point one_ℚ h.corner.point_wide h.corner.point_reduced;
  }

  good_direction : (d : List ℚ) → Rattle.std.proofs.Common.Contains (pieces (length cuts) file.objs directions) d → IsGood (marks file.objs (lines before)) (homogenised d zero_ℚ)
  good_direction d k =
      let d_wide : length d ≡ file.objs = member_of (HasWidth file.objs) (pieces (length cuts) file.objs directions) d h.corner.directions_wide.wide k in
      record {
        wide = length-homogenised file.objs d zero_ℚ d_wide ∙ ap suc (sym (length-marks file.objs (lines before)));
        clear = clear_homogenised file.objs (lines before) (echelon_of file.objs (lines before) echelon) d zero_ℚ d_wide
            (member_of (IsReduced (lines before)) (pieces (length cuts) file.objs directions) d h.corner.directions_reduced k);
      }

  good_all : All (IsGood (marks file.objs (lines before))) (first_vectors file.objs (length cuts) point directions)
  good_all = All-cons (IsGood (marks file.objs (lines before))) (homogenised point one_ℚ) (map (λ d. homogenised d zero_ℚ) (pieces (length cuts) file.objs directions)) good_point
      (All-map (IsGood (marks file.objs (lines before))) (λ d. homogenised d zero_ℚ) (pieces (length cuts) file.objs directions)
      (all_of_members (λ d. IsGood (marks file.objs (lines before)) (homogenised d zero_ℚ)) (pieces (length cuts) file.objs directions) good_direction))

  normed : All IsNormed (first_vectors file.objs (length cuts) point directions)
  normed = All-cons IsNormed (homogenised point one_ℚ) (map (λ d. homogenised d zero_ℚ) (pieces (length cuts) file.objs directions)) (point_normed point)
      (All-map IsNormed (λ d. homogenised d zero_ℚ) (pieces (length cuts) file.objs directions)
      (All-weaker IsNormedDirection (λ d. IsNormed (homogenised d zero_ℚ)) direction_normed (pieces (length cuts) file.objs directions) h.normed))

  normed_without : All IsNormed (map (without (marks file.objs (lines before))) (first_vectors file.objs (length cuts) point directions))
  normed_without = All-map IsNormed (without (marks file.objs (lines before))) (first_vectors file.objs (length cuts) point directions)
      (all_of_members (λ v. IsNormed (without (marks file.objs (lines before)) v)) (first_vectors file.objs (length cuts) point directions)
      (λ v k. ap magnitude (norming-same (marks file.objs (lines before)) v (member_of (IsGood (marks file.objs (lines before))) (first_vectors file.objs (length cuts) point directions) v good_all k))
      ∙ member_of IsNormed (first_vectors file.objs (length cuts) point directions) v normed k))

  begun : IsLive (suc (open_count (marks file.objs (lines before)))) (map (without (marks file.objs (lines before))) (rows_of file.objs (stated s.cuts cuts)))
      (starting 1 (map (without (marks file.objs (lines before))) (first_vectors file.objs (length cuts) point directions)))
  begun = are_live.start (suc (open_count (marks file.objs (lines before)))) 1 (map (without (marks file.objs (lines before))) (rows_of file.objs (stated s.cuts cuts)))
      (map (without (marks file.objs (lines before))) (first_vectors file.objs (length cuts) point directions))
      (corners_along file.objs (lines before) (stated s.cuts cuts) point (pieces (length cuts) file.objs directions) echelon h.corner) normed_without

  same_list : starting 1 (map (without (marks file.objs (lines before))) (first_vectors file.objs (length cuts) point directions))
      ≡ list_without (marks file.objs (lines before)) (starting 1 (first_vectors file.objs (length cuts) point directions))
  same_list = ap₂ (λ gs k. record { live = gs; next = k }) (numbered-less (marks file.objs (lines before)) 1 (first_vectors file.objs (length cuts) point directions))
      (ap (λ k. 1 + k) (length-map (first_vectors file.objs (length cuts) point directions) (without (marks file.objs (lines before)))))

  live_are : All (IsGood (marks file.objs (lines before))) (Rattle.polyhedra.specs.LiveList.vectors (starting 1 (first_vectors file.objs (length cuts) point directions)).live)
  live_are = subst (λ (us : List (List ℚ)). All (IsGood (marks file.objs (lines before))) us)
      (sym (vectors-numbered (marks file.objs (lines before)) 1 (first_vectors file.objs (length cuts) point directions))) good_all

  pub stands-start : Stands file (lines before) (after file.objs s (Start cuts point directions))
  stands-start = stands_of file (lines before) (after file.objs s (Start cuts point directions))
      (subst (λ (list : LiveList). IsLive (suc (open_count (marks file.objs (lines before)))) (map (without (marks file.objs (lines before))) (rows_of file.objs (stated s.cuts cuts))) list) same_list begun)
      (record {
        wide = all_of_members (HasWidth (suc file.objs)) (Rattle.polyhedra.specs.LiveList.vectors (starting 1 (first_vectors file.objs (length cuts) point directions)).live)
            (λ v k. (member_of (IsGood (marks file.objs (lines before))) (Rattle.polyhedra.specs.LiveList.vectors (starting 1 (first_vectors file.objs (length cuts) point directions)).live) v live_are k).wide
            ∙ ap suc (length-marks file.objs (lines before)));
      })
      (all_of_members (IsClear (marks file.objs (lines before))) (Rattle.polyhedra.specs.LiveList.vectors (starting 1 (first_vectors file.objs (length cuts) point directions)).live)
      (λ v k. (member_of (IsGood (marks file.objs (lines before))) (Rattle.polyhedra.specs.LiveList.vectors (starting 1 (first_vectors file.objs (length cuts) point directions)).live) v live_are k).clear))
