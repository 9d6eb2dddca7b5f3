-- The rows that say that z is a sum of x and y.
use Rattle.std.proofs.Common.{◌≡◌, ℕ, zero, suc, ◌+◌, ◌-◌, ◌<◌, List, [], ◌∷◌, length, slice_index_or, refl, sym, ap, ◌∙◌, arith, pos}
use Rattle.std.proofs.lemmas.List.Elements.{All-nil, All-cons}
use Rattle.exact_field.specs.Rational.{ℚ, zero_ℚ, one_ℚ, ◌+ℚ◌, ◌*ℚ◌, neg_ℚ}
use Rattle.exact_field.specs.Ring.{v0, v1, v2, ◌⊕◌, ◌⊗◌, ⊖, num}
use Rattle.exact_field.specs.Vector.{entry}
use Rattle.exact_field.proofs.RingTool.{ring}
use Rattle.exact_field.proofs.Rationals.{rationals, difference_self, same_from_difference}
use Rattle.polyhedra.specs.Vectors.{plus}
use Rattle.polyhedra.proofs.Laws.{add_zero}
use Rattle.polyhedra.proofs.Linear.{length-plus}
use Rattle.vlp_problem.specs.declared.problem.Cell.{Cell}
use Rattle.projection.specs.Associated.{cell}
use Rattle.poly_calc.specs.Made.{sum_row}
use Rattle.poly_calc.proofs.Sums.{cell_sum, cell_sum-own}
use Rattle.poly_calc.proofs.Parts.{AllIn, same_entries}

pub sum_own : (n i : ℕ) → AllIn i (sum_row n i)
sum_own n i = All-cons (λ (c : Cell). c.row ≡ i) (cell i i one_ℚ) (cell i (n + i) (neg_ℚ one_ℚ) ∷ cell i (n + n + i) (neg_ℚ one_ℚ) ∷ []) refl
    (All-cons (λ (c : Cell). c.row ≡ i) (cell i (n + i) (neg_ℚ one_ℚ)) (cell i (n + n + i) (neg_ℚ one_ℚ) ∷ []) refl
    (All-cons (λ (c : Cell). c.row ≡ i) (cell i (n + n + i) (neg_ℚ one_ℚ)) [] refl (All-nil (λ (c : Cell). c.row ≡ i))))

pub sum_row_is : (n i : ℕ) (u : ℕ → ℚ) → cell_sum (sum_row n i) i u ≡ u i +ℚ neg_ℚ (u (n + i) +ℚ u (n + n + i))
sum_row_is n i u =
    cell_sum-own i i one_ℚ (cell i (n + i) (neg_ℚ one_ℚ) ∷ cell i (n + n + i) (neg_ℚ one_ℚ) ∷ []) u
    ∙ ap (λ q. one_ℚ *ℚ u i +ℚ q) (cell_sum-own i (n + i) (neg_ℚ one_ℚ) (cell i (n + n + i) (neg_ℚ one_ℚ) ∷ []) u
    ∙ ap (λ q. neg_ℚ one_ℚ *ℚ u (n + i) +ℚ q) (cell_sum-own i (n + n + i) (neg_ℚ one_ℚ) [] u))
    ∙ ring rationals (u i ∷ u (n + i) ∷ u (n + n + i) ∷ [])
    (num (pos 1) ⊗ v0 ⊕ (⊖ (num (pos 1)) ⊗ v1 ⊕ (⊖ (num (pos 1)) ⊗ v2 ⊕ num (pos 0)))) (v0 ⊕ ⊖ (v1 ⊕ v2)) refl

plus_at : (x y : List ℚ) (t : ℕ) → length x ≡ length y → slice_index_or (plus x y) t zero_ℚ ≡ slice_index_or x t zero_ℚ +ℚ slice_index_or y t zero_ℚ
plus_at [] [] t e = sym (add_zero zero_ℚ)
plus_at [] (b ∷ y) t e = absurd (omega arith)
plus_at (a ∷ x) [] t e = absurd (omega arith)
plus_at (a ∷ x) (b ∷ y) zero e = refl
plus_at (a ∷ x) (b ∷ y) (suc t) e = plus_at x y t (omega arith)

module _ (n : ℕ) (z x y : List ℚ) (z_width : length z ≡ n) (x_width : length x ≡ n) (y_width : length y ≡ n) where
  less : (t : ℕ) → t ≡ (t + 1) - 1
  less t = omega arith

  turn : (t : ℕ) → t + 1 ≡ 1 + t
  turn t = omega arith

  pub entries_add : z ≡ plus x y → (t : ℕ) → t < n → entry z (t + 1) +ℚ neg_ℚ (entry x (t + 1) +ℚ entry y (t + 1)) ≡ zero_ℚ
  entries_add e t l = ap (λ (v : List ℚ). entry v (t + 1) +ℚ neg_ℚ (entry x (t + 1) +ℚ entry y (t + 1))) e
      ∙ ap (λ q. q +ℚ neg_ℚ (entry x (t + 1) +ℚ entry y (t + 1))) (plus_at x y ((t + 1) - 1) (x_width ∙ sym y_width))
      ∙ difference_self (entry x (t + 1) +ℚ entry y (t + 1))

  pub from_entries : ((t : ℕ) → t < n → entry z (t + 1) +ℚ neg_ℚ (entry x (t + 1) +ℚ entry y (t + 1)) ≡ zero_ℚ) → z ≡ plus x y
  from_entries h = same_entries (λ i. entry x i +ℚ entry y i) 1 n z z_width first
      ∙ sym (same_entries (λ i. entry x i +ℚ entry y i) 1 n (plus x y) (length-plus n x y x_width y_width) second)
    where
      number : (t : ℕ) → entry x (t + 1) +ℚ entry y (t + 1) ≡ entry x (1 + t) +ℚ entry y (1 + t)
      number t = ap (λ (k : ℕ). entry x k +ℚ entry y k) (turn t)

      first : (t : ℕ) → t < n → slice_index_or z t zero_ℚ ≡ entry x (1 + t) +ℚ entry y (1 + t)
      first t l = ap (λ (k : ℕ). slice_index_or z k zero_ℚ) (less t) ∙ same_from_difference (entry z (t + 1)) (entry x (t + 1) +ℚ entry y (t + 1)) (h t l) ∙ number t

      second : (t : ℕ) → t < n → slice_index_or (plus x y) t zero_ℚ ≡ entry x (1 + t) +ℚ entry y (1 + t)
      second t l = ap (λ (k : ℕ). slice_index_or (plus x y) k zero_ℚ) (less t) ∙ plus_at x y ((t + 1) - 1) (x_width ∙ sym y_width) ∙ number t
