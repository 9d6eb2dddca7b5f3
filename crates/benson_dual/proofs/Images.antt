-- An image whose facets come into use, and its log as pre-images come to it.
use Rattle.std.proofs.Common.{◌≡◌, ◌≢◌, ◌+◌, ◌≤◌, ◌<◌, ℕ, Bool, List, [], map, length, All, AllPairs, Contains, sym, ap, ap₂, ◌∙◌, subst, arith, slice_index_or, inl, inr}
use Rattle.std.proofs.lemmas.Bool.{cases_lt}
use Rattle.std.proofs.lemmas.Bool.Decides.{eqb_tells}
use Rattle.std.proofs.lemmas.List.{get_or-map, length-map}
use Rattle.exact_field.specs.Rational.{ℚ}
use Rattle.lineality.specs.Without.{marks, with_zeros}
use Rattle.polyhedra.specs.LiveList.{Numbered, numbers}
use Rattle.polyhedra.proofs.Members.{pairs-map}
use Rattle.deriv_log.specs.declared.entry.Entry.{Entry}
use Rattle.log_rules.specs.Live.{State, inequality, preimages}
use Rattle.outer_approx.specs.Standing.{HasPreimageMore, IsOpening, IsOpenTrail}
use Rattle.outer_approx.specs.Task.{IsFitting, Task}
use Rattle.outer_approx.proofs.Growing.{outer_reached}
use Rattle.outer_approx.specs.LiveVectors.{IsLiveVector}
use Rattle.outer_approx.proofs.LiveVectors.{live_vector}
use Rattle.lower_image.specs.Lower.{AreAllFacets}
use Rattle.recession.specs.Logs.{task_of}
use Rattle.vlp_problem.specs.declared.problem.Problem.{Problem}
use Rattle.cone_dual.specs.Fitting.{IsDualityOf}
use Rattle.cone_dual.specs.declared.duality.Duality.{Duality}
use Rattle.benson_dual.specs.Images.{IsApproximation, IsImage}
use Rattle.benson_dual.specs.Logs.{task_by, task_with}
use Rattle.benson_dual.specs.declared.approximation.Approximation.{Approximation}
use Rattle.benson_dual.specs.declared.image.Image.{Image}

module _ {F : Type 0} (value : F → ℚ) (holds : ℚ → Bool) (task : Task) (image : Image F) (h : IsImage value holds task image) where
  -- the duality vector has an entry for each objective
  pub c_long : length image.c.now ≡ task.file.objs
  c_long = sym (length-map image.c.now value) ∙ ap length h.known.c_is ∙ h.known.fitting.fits.lengths

-- ---- live generators
module _ {F : Type 0} (value : F → ℚ) (task : Task) (image : Image F) (a : Approximation F) (h : IsApproximation task image a) where
  -- the vector of one, with zeros at the places of lines
  pub live_full : (g : ℕ) (short : List ℚ) → Contains a.dd.list.live (record { number = g; vector = short }) → (places : List Bool) → places ≡ image.places →
      (full seen : List F) → seen ≡ full → map value full ≡ with_zeros places short → IsLiveVector task a.trail g (map value seen)
  live_full g short listed places same full seen seen_is is =
      subst (IsLiveVector task a.trail g)
      (sym (ap (map value) seen_is ∙ is ∙ ap (λ (bs : List Bool). with_zeros bs short) (same ∙ h.places_are)))
      (live_vector task a.trail a.dd h.outer g short listed)

  -- one more pre-image
  pub reached_more : (trail : List Entry) (g : ℕ) → HasPreimageMore task g a.trail trail → IsOpenTrail task trail →
      IsApproximation task image (record a { trail = trail })
  reached_more trail g more open_trail = record {
    outer = outer_reached task a.trail trail a.dd g h.outer more open_trail;
    facets = subst (λ (s : State). AreAllFacets task.file task.c (map inequality s.cuts)) (sym more.stands) h.facets;
    places_are = h.places_are ∙ ap (marks task.file.objs) (sym more.lines_stay);
  }

-- the numbers of rising generators are apart
pub apart : (live : List Numbered) → AllPairs (λ g g'. g.number < g'.number) live → (i j : ℕ) → i < length (numbers live) → j < length (numbers live) →
    (j ≡ i → ⊥) → slice_index_or (numbers live) j 0 ≢ slice_index_or (numbers live) i 0
apart live rise i j li lj other same =
    let up : AllPairs (λ a b. a < b) (numbers live) = pairs-map (λ (a b : ℕ). a < b) (λ (g : Numbered). g.number) live rise in
    elim (cases_lt i j) [
      | inl less ↦ let n = up i j 0 less lj in omega (arith, n, same)
      | inr more ↦ let n = up j i 0 (omega (arith, more, other)) li in omega (arith, n, same)
    ]

-- what is reached after one more of some live generators: those before it and it, and none of those after it
module _ (old new : List Entry) (live : List Numbered) (rise : AllPairs (λ g g'. g.number < g'.number) live) (i : ℕ) (inside : i < length (numbers live))
    (here : preimages new (slice_index_or (numbers live) i 0) ≢ [])
    (others : (k : ℕ) → k ≢ slice_index_or (numbers live) i 0 → preimages new k ≡ preimages old k) where
  pub reached_on : ((j : ℕ) → j < i → preimages old (slice_index_or (numbers live) j 0) ≢ []) →
      (j : ℕ) → j < i + 1 → preimages new (slice_index_or (numbers live) j 0) ≢ []
  reached_on before j low = elim (eqb_tells j i) [
    | inl t ↦ subst (λ (k : ℕ). preimages new (slice_index_or (numbers live) k 0) ≢ []) (sym t.1) here
    | inr f ↦ λ none. before j (omega (arith, low, f.1)) (sym (others _ (apart live rise i j inside (omega (arith, low, inside)) f.1)) ∙ none)
  ]

  pub fresh_on : ((j : ℕ) → i ≤ j → j < length (numbers live) → preimages old (slice_index_or (numbers live) j 0) ≡ []) →
      (j : ℕ) → i + 1 ≤ j → j < length (numbers live) → preimages new (slice_index_or (numbers live) j 0) ≡ []
  fresh_on before j low high =
      others _ (apart live rise i j inside high (λ e. let same = e in omega (arith, low, same))) ∙ before j (omega (arith, low)) high

-- where each of the numbers has a pre-image each live generator has one
pub all_reached : (trail : List Entry) (live : List Numbered) (i : ℕ) → length (numbers live) ≤ i →
    ((j : ℕ) → j < i → preimages trail (slice_index_or (numbers live) j 0) ≢ []) → All (λ g. preimages trail g.number ≢ []) live
all_reached trail live i past reached k d inside =
    let long : length (numbers live) ≡ length live = length-map live (λ (g : Numbered). g.number) in
    subst (λ (n : ℕ). preimages trail n ≢ []) (get_or-map (λ (g : Numbered). g.number) live k d 0 inside) (reached k (omega (arith, past, inside, long)))

-- ---- a duality vector that is handed
module _ {F : Type 0} (value : F → ℚ) (holds : ℚ → Bool) (file : Problem) (d : Duality F) (h : IsDualityOf value holds file d) where
  pub fitting : IsFitting holds (task_with value file d)
  fitting = record { picks = h.picks; inverse = h.inverse; fits = h.fits; base = h.base; held = h.held }

  pub opens : IsOpening (task_with value file d) d.entry
  opens = (h.picks, h.inverse, h.entry_is, h.fits, h.base)

  -- its task, where both are read as slices
  pub read_as : (c weights : List F) → c ≡ d.c → weights ≡ d.weights → task_by value file c weights ≡ task_with value file d
  read_as c weights c_is weights_is = ap₂ (λ (x y : List F). task_by value file x y) c_is weights_is

  -- the task that its entry tells
  pub told_as : (opening : Entry) → opening ≡ d.entry → task_of file opening ≡ task_with value file d
  told_as opening is = ap (task_of file) (is ∙ h.entry_is)
