-- The logs of the two answers that need no start: each of their entries can be written, meets its rules, and is one of a base trail.
use Rattle.std.proofs.Common.{◌≡◌, ℕ, suc, List, [], ◌∷◌, ◌++◌, length, IsTrue, true, Option, Some, None, refl, sym, ap, ◌∙◌, subst}
use Rattle.exact_field.specs.Rational.{ℚ}
use Rattle.polyhedra.proofs.Tests.{both_hold}
use Rattle.frac128.specs.declared.vectors.Spot.{Spot}
use Rattle.vlp_problem.specs.declared.problem.Problem.{Problem}
use Rattle.upper_image.specs.Shows.{ShowsFitting}
use Rattle.upper_image.specs.Spots.{dense}
use Rattle.deriv_log.specs.Formed.{IsLog, is_formed}
use Rattle.word_lines.specs.Parts.{is_formed_part}
use Rattle.word_lines.specs.Parts.{sparse}
use Rattle.word_lines.specs.declared.part.EndKind.TheVariants as kind
use Rattle.deriv_log.specs.declared.entry.Entry.{Entry}
use Rattle.deriv_log.specs.declared.entry.Entry.TheVariants.{Version, Duality, Farkas, Whole, End}
use Rattle.log_rules.specs.Events.{Failure}
use Rattle.log_rules.specs.LogEvents.{first_failing}
use Rattle.log_rules.specs.Meets.{Meets, MeetsFarkas, MeetsWhole}
use Rattle.log_rules.specs.Proves.{AllMeet}
use Rattle.log_rules.proofs.LogHeld.{entry-passes}
use Rattle.log_rules.proofs.LogMeets.{events_give_meets}
use Rattle.lp_form.specs.Programs.{feasible_system, side_total}
use Rattle.overflows.specs.Base.{IsRayOff}
use Rattle.overflows.specs.Trails.{IsBaseTrail}
use Rattle.overflows.proofs.Growing.{none, grows, opened}
use Rattle.outer_approx.specs.Unstarted.{IsReadWhole, ShowsWhole, infeasible_entries, whole_entries}

-- ---- logs
pub infeasible_is_log : (u : List Spot) → is_formed_part (sparse u) ≡ true → IsLog (infeasible_entries u)
infeasible_is_log u h = record {
  formed = both_hold (is_formed (Farkas u)) true (both_hold (is_formed_part (sparse u)) true h refl) refl;
  ends = refl;
}

pub whole_is_log : (opening : Entry) (x ray m : List Spot) (c weights : List ℚ) (picks : List ℕ) (inverse : List ℚ) →
    opening ≡ Duality c weights picks inverse → IsTrue (is_formed opening) → is_formed_part (sparse x) ≡ true → is_formed_part (sparse ray) ≡ true →
    is_formed_part (sparse m) ≡ true → IsLog (whole_entries opening x ray m)
whole_is_log opening x ray m c weights picks inverse same formed h k l =
    subst (λ (e : Entry). IsLog (whole_entries e x ray m)) (sym same)
    (record {
      formed = both_hold (is_formed (Duality c weights picks inverse)) _ (subst (λ (e : Entry). IsTrue (is_formed e)) same formed)
          (both_hold (is_formed (Whole x ray m)) true
          (both_hold (is_formed_part (sparse x)) _ h (both_hold (is_formed_part (sparse ray)) _ k (both_hold (is_formed_part (sparse m)) true l refl)))
          refl);
      ends = refl;
    })

-- ---- rules
-- where all numbers are held, an entry that meets its rules does not fail, so a later one is the first that may
met : (file : Problem) (before later : List Entry) (e : Entry) → Meets file before e →
    first_failing (λ _. true) file before (e ∷ later) ≡ first_failing (λ _. true) file (before ++ e ∷ []) later
met file before later e h =
    ap (λ (o : Option Failure). elim o [
      | Some failure ↦ Some (record { entry = suc (length before); failure = failure })
      | None ↦ first_failing (λ _. true) file (before ++ e ∷ []) later
    ]) (entry-passes file before e h)

opens : (file : Problem) → Meets file [] (Version 1)
opens file = record { order = refl; rules = refl }

contradicts : (file : Problem) (u : List Spot) → MeetsFarkas file u → Meets file (Version 1 ∷ []) (Farkas u)
contradicts file u h = record { order = refl; rules = h }

ends_infeasible : (file : Problem) (u : List Spot) → Meets file (Version 1 ∷ Farkas u ∷ []) (End kind.Infeasible)
ends_infeasible file u = record { order = refl; rules = refl }

pub infeasible_meets : (file : Problem) (u : List Spot) → MeetsFarkas file u → AllMeet file (infeasible_entries u)
infeasible_meets file u h =
    events_give_meets (λ _. true) file (infeasible_entries u)
    (met file [] (Farkas u ∷ End kind.Infeasible ∷ []) (Version 1) (opens file)
    ∙ met file (Version 1 ∷ []) (End kind.Infeasible ∷ []) (Farkas u) (contradicts file u h)
    ∙ met file (Version 1 ∷ Farkas u ∷ []) [] (End kind.Infeasible) (ends_infeasible file u))

pub infeasible_trail : (file : Problem) (c weights : List ℚ) (u : List Spot) → MeetsFarkas file u →
    IsRayOff (feasible_system file) (dense (side_total file) u) → IsBaseTrail file c weights (infeasible_entries u)
infeasible_trail file c weights u h read =
    let first : IsBaseTrail file c weights (Version 1 ∷ []) = grows file c weights [] (Version 1) (none file c weights) (opens file) tt in
    let shown : IsBaseTrail file c weights (Version 1 ∷ Farkas u ∷ []) = grows file c weights (Version 1 ∷ []) (Farkas u) first (contradicts file u h) read in
    grows file c weights (Version 1 ∷ Farkas u ∷ []) (End kind.Infeasible) shown (ends_infeasible file u) tt

module _ (file : Problem) (c weights : List ℚ) (picks : List ℕ) (inverse : List ℚ) (x ray m : List Spot) where
  fits_file : ShowsFitting file c weights picks inverse → Meets file (Version 1 ∷ []) (Duality c weights picks inverse)
  fits_file h = record { order = refl; rules = h }

  reaches : MeetsWhole file c x ray m → Meets file (Version 1 ∷ Duality c weights picks inverse ∷ []) (Whole x ray m)
  reaches h = record { order = refl; rules = h }

  ends_whole : Meets file (Version 1 ∷ Duality c weights picks inverse ∷ Whole x ray m ∷ []) (End kind.Whole)
  ends_whole = record { order = refl; rules = refl }

  each_meets : ShowsFitting file c weights picks inverse → MeetsWhole file c x ray m →
      AllMeet file (whole_entries (Duality c weights picks inverse) x ray m)
  each_meets fits rules =
      events_give_meets (λ _. true) file (whole_entries (Duality c weights picks inverse) x ray m)
      (met file [] (Duality c weights picks inverse ∷ Whole x ray m ∷ End kind.Whole ∷ []) (Version 1) (opens file)
      ∙ met file (Version 1 ∷ []) (Whole x ray m ∷ End kind.Whole ∷ []) (Duality c weights picks inverse) (fits_file fits)
      ∙ met file (Version 1 ∷ Duality c weights picks inverse ∷ []) (End kind.Whole ∷ []) (Whole x ray m) (reaches rules)
      ∙ met file (Version 1 ∷ Duality c weights picks inverse ∷ Whole x ray m ∷ []) [] (End kind.Whole) ends_whole)

  each_base : ShowsFitting file c weights picks inverse → MeetsWhole file c x ray m → IsReadWhole file c weights x ray m →
      IsBaseTrail file c weights (whole_entries (Duality c weights picks inverse) x ray m)
  each_base fits rules read =
      grows file c weights (Version 1 ∷ Duality c weights picks inverse ∷ Whole x ray m ∷ []) (End kind.Whole)
      (grows file c weights (Version 1 ∷ Duality c weights picks inverse ∷ []) (Whole x ray m)
      (opened file c weights picks inverse fits read.duality) (reaches rules) (read.choice, read.whole))
      ends_whole tt

module _ (file : Problem) (c weights : List ℚ) (opening : Entry) (x ray m : List Spot) (h : ShowsWhole file c weights opening x ray m) where
  pub whole_meets : AllMeet file (whole_entries opening x ray m)
  whole_meets =
      subst (λ (e : Entry). AllMeet file (whole_entries e x ray m)) (sym h.opens) (each_meets file c weights h.picks h.inverse x ray m h.fits h.rules)

  pub whole_trail : IsReadWhole file c weights x ray m → IsBaseTrail file c weights (whole_entries opening x ray m)
  whole_trail read =
      subst (λ (e : Entry). IsBaseTrail file c weights (whole_entries e x ray m)) (sym h.opens)
      (each_base file c weights h.picks h.inverse x ray m h.fits h.rules read)
