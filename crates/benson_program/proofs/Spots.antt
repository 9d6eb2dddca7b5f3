-- A sparse vector whose entries are at least 0 has positive values, and one without places is empty.
use Rattle.std.proofs.Common.{◌≡◌, ℕ, zero, suc, List, [], ◌∷◌, map, All, refl, sym, ap, ◌∙◌, subst, arith, ◌<◌, ◌≤◌, ◌+◌, inl, inr, true, not, nat_lt, true≢false, eq-eqb}
use Rattle.std.specs.Prelude.{◌&&◌, if◌then◌else◌}
use Rattle.std.proofs.lemmas.Bool.{ltb-true, cases_eq}
use Rattle.std.proofs.lemmas.List.Elements.{All-nil, All-cons, All-head}
use Rattle.exact_field.specs.Rational.{ℚ, whole, zero_ℚ, ◌≤ℚ◌, ◌<ℚ◌}
use Rattle.polyhedra.specs.Sparse.{Entry, value_at, values_from}
use Rattle.polyhedra.specs.Vectors.{AtLeastZero}
use Rattle.polyhedra.proofs.Laws.{le_refl}
use Rattle.polyhedra.proofs.Lists.{all_from_map, nonneg-head, nonneg-tail}
use Rattle.polyhedra.proofs.Order.{zero_or_positive}
use Rattle.polyhedra.proofs.Tests.{both_true}
use Rattle.lin_rows.specs.Lines.{Rises}
use Rattle.lin_rows.proofs.Merging.{not_same, absent}
use Rattle.upper_image.specs.Spots.{entry_of, dense, IsVector}
use Rattle.lp_form.proofs.Held.{spots_rise}
use Rattle.frac128.specs.Sparse.{is_zero, rises_above}
use Rattle.frac128.specs.declared.vectors.Spot.{Spot}

values_nonneg : (n low : ℕ) (es : List Entry) → Rises n low es → ((k : ℕ) → 1 ≤ k → k ≤ n → zero_ℚ ≤ℚ value_at es k) → All (λ e. zero_ℚ ≤ℚ e.value) es
values_nonneg n low [] r h = All-nil (λ e. zero_ℚ ≤ℚ e.value)
values_nonneg n low (e ∷ es) r h =
    let above : low < e.place = r.0 in
    let inside : e.place ≤ n = r.1 in
    let own : value_at (e ∷ es) e.place ≡ e.value = ap (λ b. if b then e.value else value_at es e.place) (eq-eqb e.place e.place refl) in
    All-cons (λ d. zero_ℚ ≤ℚ d.value) e es (subst (λ (q : ℚ). zero_ℚ ≤ℚ q) own (h e.place (omega (arith, above)) inside))
    (values_nonneg n e.place es r.2
    (λ k low' high. elim (cases_eq e.place k) [
      | inl s ↦ subst (λ (q : ℚ). zero_ℚ ≤ℚ q) (sym (absent n e.place es k r.2 (omega (arith, s)))) (le_refl zero_ℚ)
      | inr o ↦ subst (λ (q : ℚ). zero_ℚ ≤ℚ q) (ap (λ b. if b then e.value else value_at es k) (not_same e.place k o)) (h k low' high)
    ]))

entry_nonneg : (n k j : ℕ) (f : ℕ → ℚ) → AtLeastZero (values_from n k f) → k ≤ j → j < k + n → zero_ℚ ≤ℚ f j
entry_nonneg zero k j f h l u = absurd (omega (arith, l, u))
entry_nonneg (suc n) k j f h l u =
    elim (cases_eq k j) [
      | inl s ↦ subst (λ (i : ℕ). zero_ℚ ≤ℚ f i) s (nonneg-head (f k) (values_from n (suc k) f) h)
      | inr o ↦ entry_nonneg n (suc k) j f (nonneg-tail (f k) (values_from n (suc k) f) h) (omega (arith, l, o)) (omega (arith, u))
    ]

zero_is_zero : is_zero zero_ℚ ≡ true
unfolding whole
zero_is_zero = refl

not_zero : (low : ℕ) (spots : List Spot) → rises_above low spots ≡ true → All (λ s. s.value ≡ zero_ℚ → ⊥) spots
not_zero low [] h = All-nil (λ s. s.value ≡ zero_ℚ → ⊥)
not_zero low (s ∷ spots) h =
    let first = both_true (nat_lt low s.at) (not (is_zero s.value) && rises_above s.at spots) h in
    let second = both_true (not (is_zero s.value)) (rises_above s.at spots) first.1 in
    All-cons (λ t. t.value ≡ zero_ℚ → ⊥) s spots
    (λ e. true≢false (sym second.0 ∙ ap (λ q. not (is_zero q)) e ∙ ap not zero_is_zero)) (not_zero s.at spots second.1)

pub positive_values : (n : ℕ) (spots : List Spot) → IsVector n spots → AtLeastZero (dense n spots) → All (λ s. zero_ℚ <ℚ s.value) spots
positive_values n spots v h = λ k d l. positive _ (each k d l) (not_zero 0 spots v.sparse k d l)
  where
    each : All (λ s. zero_ℚ ≤ℚ s.value) spots
    each = all_from_map (λ e. zero_ℚ ≤ℚ e.value) entry_of spots
        (values_nonneg n 0 (map entry_of spots) (spots_rise n 0 spots v.sparse v.places)
        (λ k low high. entry_nonneg n 1 k (value_at (map entry_of spots)) h low (omega (arith, high))))

    positive : (q : ℚ) → zero_ℚ ≤ℚ q → (q ≡ zero_ℚ → ⊥) → zero_ℚ <ℚ q
    positive q at_least other = elim (zero_or_positive q at_least) [ inl e ↦ absurd (other e) | inr p ↦ p ]

pub without_places : (spots : List Spot) → IsVector 0 spots → spots ≡ []
without_places [] v = refl
without_places (s ∷ spots) v =
    let first = both_true (nat_lt 0 s.at) (not (is_zero s.value) && rises_above s.at spots) v.sparse in
    let low : 0 < s.at = ltb-true 0 s.at first.0 in
    let high : s.at ≤ 0 = All-head (λ t. t.at ≤ 0) s spots v.places in
    absurd (omega (arith, low, high))
