-- What is asked at a live generator.
use Rattle.std.proofs.Common.{◌≡◌, ◌≢◌, ◌↔◌, ℕ, suc, Bool, List, map, take, length, All, IsTrue, sym, ap, ◌∙◌, subst}
use Rattle.std.proofs.lemmas.List.{length-map}
use Rattle.exact_field.specs.Rational.{ℚ, zero_ℚ, neg_ℚ, ◌≤ℚ◌, ◌<ℚ◌}
use Rattle.exact_field.specs.Vector.{dot, entry}
use Rattle.polyhedra.specs.Exactness.{row_of}
use Rattle.lineality.specs.Without.{open_count, without}
use Rattle.lineality.proofs.Masks.{length-short}
use Rattle.deriv_log.specs.declared.entry.Entry.{Entry}
use Rattle.overflows.proofs.CutTurns.{optimum_turns, read_at_origin}
use Rattle.lp_form.specs.declared.shown.Cut.{Cut}
use Rattle.outer_approx.specs.Cuts.{said_by}
use Rattle.outer_approx.specs.Standing.{rows_of_trail}
use Rattle.outer_approx.specs.Task.{Task, IsFitting}
use Rattle.outer_approx.specs.LiveVectors.{IsLiveVector}
use Rattle.outer_approx.proofs.LiveVectors.{length-homogenised, start_long, vector_is}
use Rattle.recession.specs.Asking.{IsAskedCut, IsKnown}
use Rattle.lp_form.specs.declared.data.Data.{Data}
use Rattle.benson_primal.specs.Search.{IsNextCut}

-- the duality vector has an entry for each objective
pub width_known : {F : Type 0} (value : F → ℚ) (holds : ℚ → Bool) (task : Task) (form : Data F) (c weights : List F) → IsKnown value holds task form c weights →
    length c ≡ task.file.objs
width_known value holds task form c weights k = sym (length-map c value) ∙ ap length k.c_is ∙ k.fitting.fits.lengths

-- the row of a cut is one longer than the open places
pub row_long : {F : Type 0} (value : F → ℚ) (cut : Cut F) (bs : List Bool) → length bs ≡ length cut.w →
    length (without bs (row_of (said_by value cut))) ≡ suc (open_count bs)
row_long value cut bs same =
    length-short bs (row_of (said_by value cut))
    (length-homogenised (map value cut.w) (neg_ℚ (value cut.gamma)) ∙ ap suc (length-map cut.w value ∙ sym same))

-- ---- at the vector of a live generator
module _ {F : Type 0} (value : F → ℚ) (task : Task) (trail : List Entry) (g : ℕ) (full : List F) (h : IsLiveVector task trail g (map value full)) where
  module _ (t : Bool) (point : IsTrue t ↔ (entry (map value full) (length full) ≢ zero_ℚ)) (n : ℕ) (n_is : n ≡ task.file.objs) (seen : List F)
      (seen_is : seen ≡ take n full) where
    pub next_cut_is : (holds : ℚ → Bool) → IsFitting holds task → (cut : Cut F) → IsAskedCut value task (map value seen) t cut → IsNextCut value task trail cut
    next_cut_is holds fitting cut a = record {
      z = a.z;
      turn = optimum_turns task.file task.c (map value seen) t a.z a.multipliers a.basis a.optimum.dictionary (rows_of_trail task trail) fitting.fits.lengths
          (length-map seen value ∙ start_long value task trail g full h t point n n_is seen seen_is) a.optimum.optimal a.optimum.read a.positive
          (subst (λ (v : List ℚ). All (λ (row : List ℚ). zero_ℚ ≤ℚ dot row v) (rows_of_trail task trail)) (vector_is value task trail g full h t point n n_is seen seen_is) h.within);
      says = a.says;
      is = a.is;
    }

  -- a cut that was asked at another vector, and that the generator violates
  pub near_cut_is : (holds : ℚ → Bool) → IsFitting holds task → (near : List F) (t : Bool) → length near ≡ task.file.objs → (cut : Cut F) →
      IsAskedCut value task (map value near) t cut → dot (row_of (said_by value cut)) (map value full) <ℚ zero_ℚ → IsNextCut value task trail cut
  near_cut_is holds fitting near t near_long cut a below = record {
    z = a.z;
    turn = record {
      c_wide = fitting.fits.lengths;
      solution = read_at_origin task.file task.c (map value near) t a.z a.multipliers a.basis a.optimum.dictionary fitting.fits.lengths
          (length-map near value ∙ near_long) a.optimum.read;
      point = map value full;
      holds = h.within;
      violated = subst (λ (row : List ℚ). dot row (map value full) <ℚ zero_ℚ) a.says below;
    };
    says = a.says;
    is = a.is;
  }
