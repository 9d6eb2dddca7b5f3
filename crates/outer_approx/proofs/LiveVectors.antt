-- The vector of a live generator, with zeros at the places of lines.
use Rattle.std.proofs.Common.{◌≡◌, ◌≢◌, ◌↔◌, ℕ, suc, Bool, true, false, List, [], ◌∷◌, map, take, length, Contains, IsTrue, refl, sym, ap, ◌∙◌, subst, true≢false}
use Rattle.std.proofs.lemmas.List.{length-map, take-map}
use Rattle.exact_field.specs.Rational.{ℚ, zero_ℚ}
use Rattle.exact_field.specs.Vector.{entry}
use Rattle.polyhedra.specs.Exactness.{homogenised}
use Rattle.lineality.specs.Without.{open_count, with_zeros}
use Rattle.lineality.proofs.Marks.{length-marks}
use Rattle.lineality.proofs.Masks.{length-unfilled}
use Rattle.deriv_log.specs.declared.entry.Entry.{Entry}
use Rattle.double_descr.specs.State.{State as Description}
use Rattle.log_rules.specs.Live.{lines, preimages}
use Rattle.log_rules.proofs.NormedMembers.{front-homogenised, last-homogenised, one_not_zero}
use Rattle.overflows.specs.Base.{IsBaseStart, IsLiveAfter, last_of}
use Rattle.overflows.specs.Preimages.{IsPreimageOf}
use Rattle.lp_form.specs.declared.shown.Preimage.{Preimage}
use Rattle.outer_approx.specs.Lines.{line_places}
use Rattle.outer_approx.specs.Preimages.{IsReached}
use Rattle.outer_approx.specs.Standing.{IsOuter}
use Rattle.outer_approx.specs.Task.{Task}
use Rattle.outer_approx.proofs.Growing.{live_generator}
use Rattle.outer_approx.specs.LiveVectors.{IsLiveVector}

-- ---- with zeros at the places of lines
pub length-homogenised : (v : List ℚ) (t : ℚ) → length (homogenised v t) ≡ suc (length v)
length-homogenised [] t = refl
length-homogenised (x ∷ v) t = ap suc (length-homogenised v t)

-- there is a place for each objective
pub places_many : (task : Task) (trail : List Entry) → length (line_places task trail) ≡ task.file.objs
places_many task trail = length-marks task.file.objs (lines trail)

module _ (task : Task) (trail : List Entry) (dd : Description) (outer : IsOuter task trail dd) (g : ℕ) (short : List ℚ)
    (listed : Contains dd.list.live (record { number = g; vector = short })) where
  pub live_vector : IsLiveVector task trail g (with_zeros (line_places task trail) short)
  live_vector =
      let parts = live_generator task trail dd outer (record { number = g; vector = short }) listed in
      record { v = parts.0; t = parts.1; is = parts.2; wide = parts.3; live = parts.4; within = parts.5 }

  pub short_wide : length short ≡ suc (open_count (line_places task trail))
  short_wide =
      let h = live_vector in
      length-unfilled (line_places task trail) short
      (ap length h.is ∙ length-homogenised h.v (last_of h.t) ∙ ap suc (h.wide ∙ sym (places_many task trail)))

-- ---- as a list that is read
pub live_at : {F : Type 0} (value : F → ℚ) (task : Task) (trail : List Entry) (g : ℕ) (full seen : List F) → seen ≡ full →
    IsLiveVector task trail g (map value full) → IsLiveVector task trail g (map value seen)
live_at value task trail g full seen same h = subst (λ xs. IsLiveVector task trail g (map value xs)) (sym same) h

module _ {F : Type 0} (value : F → ℚ) (task : Task) (trail : List Entry) (g : ℕ) (full : List F) (h : IsLiveVector task trail g (map value full)) where
  -- it has one entry more than there are objectives
  pub long : length full ≡ suc task.file.objs
  long = sym (length-map full value) ∙ ap length h.is ∙ length-homogenised h.v (last_of h.t) ∙ ap suc h.wide

  last_is : entry (map value full) (length full) ≡ last_of h.t
  last_is = ap (entry (map value full)) long ∙ ap (λ v. entry v (suc task.file.objs)) h.is ∙ last-homogenised task.file.objs h.v (last_of h.t) h.wide

  module _ (t : Bool) (point : IsTrue t ↔ (entry (map value full) (length full) ≢ zero_ℚ)) where
    -- it is a point where its last entry is not 0
    same_kind : t ≡ h.t
    same_kind = go t h.t point last_is
      where
        go : (t s : Bool) → IsTrue t ↔ (entry (map value full) (length full) ≢ zero_ℚ) → entry (map value full) (length full) ≡ last_of s → t ≡ s
        go true true p e = refl
        go false false p e = refl
        go true false p e = absurd (p.0 refl e)
        go false true p e = absurd (true≢false (sym (p.1 (λ z. one_not_zero (sym e ∙ z)))))

    module _ (n : ℕ) (n_is : n ≡ task.file.objs) (seen : List F) (seen_is : seen ≡ take n full) where
      start_is : map value seen ≡ h.v
      start_is = ap (map value) seen_is ∙ sym (take-map value n full) ∙ ap (λ k. take k (map value full)) n_is
          ∙ ap (take task.file.objs) h.is ∙ front-homogenised task.file.objs h.v (last_of h.t) h.wide

      pub vector_is : map value full ≡ homogenised (map value seen) (last_of t)
      vector_is = h.is ∙ ap (λ v. homogenised v (last_of h.t)) (sym start_is) ∙ ap (λ s. homogenised (map value seen) (last_of s)) (sym same_kind)

      pub start_long : length seen ≡ task.file.objs
      start_long = sym (length-map seen value) ∙ ap length start_is ∙ h.wide

      pub base_start : IsBaseStart task.file.objs trail (map value seen) t
      base_start = IsBaseStart.live (record { number = g; vector = map value full }) h.live vector_is

      pub is_reached : (preimage : Preimage F) → preimages trail g ≡ [] → IsPreimageOf value task.file task.c task.weights (map value seen) t preimage →
          IsReached value task trail g t preimage
      is_reached preimage fresh is = record {
        v = map value seen;
        live = subst (λ (v : List ℚ). IsLiveAfter task.file.objs trail (record { number = g; vector = v })) vector_is h.live;
        fresh = fresh;
        parts_are = is;
      }
