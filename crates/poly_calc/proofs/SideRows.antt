-- The rows of a part's sides, with a multiplier.
use Rattle.std.proofs.Common.{◌≡◌, ℕ, zero, suc, ◌+◌, ◌<◌, ◌≤◌, Bool, true, false, cond, List, [], ◌∷◌, length, replicate, All, slice_index_or, refl, sym, ap, ap₂, ◌∙◌, subst, arith}
use Rattle.std.proofs.lemmas.List.{length-map}
use Rattle.std.proofs.lemmas.List.Elements.{All-nil, All-cons, All-head, All-tail, All-append}
use Rattle.exact_field.specs.Rational.{ℚ, zero_ℚ, ◌+ℚ◌, ◌-ℚ◌, ◌*ℚ◌, neg_ℚ, ◌≤ℚ◌}
use Rattle.exact_field.specs.Ring.{v0, v1, v2, ◌⊕◌, ◌⊗◌, ⊖}
use Rattle.exact_field.specs.Vector.{dot}
use Rattle.exact_field.proofs.Inequalities.{le_from_difference, difference_from_le}
use Rattle.exact_field.proofs.RingTool.{ring}
use Rattle.exact_field.proofs.Rationals.{rationals}
use Rattle.frac128.specs.Sparse.{is_zero}
use Rattle.polyhedra.specs.Inequality.{Inequality}
use Rattle.polyhedra.proofs.Laws.{add_zero}
use Rattle.polyhedra.proofs.Algebra.{zero_add, zero_mul}
use Rattle.representations.specs.Scaled.{MeetsTimes}
use Rattle.vlp_problem.specs.Sides.{row_vector, unit, at_least, at_most, sides, sides_of, sides_from}
use Rattle.vlp_problem.specs.declared.problem.Bound.{Bound}
use Rattle.vlp_problem.specs.declared.problem.Bound.TheVariants.{Unsaid, Free, Lower, Upper, Double, Fixed}
use Rattle.vlp_problem.specs.declared.problem.Cell.{Cell}
use Rattle.vlp_problem.specs.declared.problem.Problem.{Problem}
use Rattle.vlp_problem.proofs.Zero.{zero_is}
use Rattle.projection.specs.Associated.{cell}
use Rattle.poly_calc.specs.Made.{row_cells, side_row, side_rows}
use Rattle.poly_calc.proofs.Sums.{NoneIn, cell_sum, cell_sum-append, cell_sum-own}
use Rattle.poly_calc.proofs.Bounds.{AreWithin}
use Rattle.poly_calc.proofs.Parts.{numbers_length, AllIn, in_no_other, none_append, left_part, right_part}

-- ---- the widths of sides
abbrev pub AreOfWidth : ℕ → List Inequality → Type 0
AreOfWidth n es = All (λ (e : Inequality). length e.normal ≡ n) es

high_wide : (n : ℕ) (v : List ℚ) (high : ℚ) → length v ≡ n → AreOfWidth n (at_most v high ∷ [])
high_wide n v high e = All-cons (λ (e : Inequality). length e.normal ≡ n) (at_most v high) [] (length-map v neg_ℚ ∙ e) (All-nil (λ (e : Inequality). length e.normal ≡ n))

one_wide : (n : ℕ) (v : List ℚ) (b : Bound) → length v ≡ n → AreOfWidth n (sides_of v b)
one_wide n v Unsaid e = All-nil (λ (e : Inequality). length e.normal ≡ n)
one_wide n v Free e = All-nil (λ (e : Inequality). length e.normal ≡ n)
one_wide n v (Lower low) e = All-cons (λ (e : Inequality). length e.normal ≡ n) (at_least v low) [] e (All-nil (λ (e : Inequality). length e.normal ≡ n))
one_wide n v (Upper high) e = high_wide n v high e
one_wide n v (Double low high) e = All-cons (λ (e : Inequality). length e.normal ≡ n) (at_least v low) (at_most v high ∷ []) e (high_wide n v high e)
one_wide n v (Fixed value) e = All-cons (λ (e : Inequality). length e.normal ≡ n) (at_least v value) (at_most v value ∷ []) e (high_wide n v value e)

from_wide : (n : ℕ) (v : ℕ → List ℚ) (k : ℕ) (bs : List Bound) → ((i : ℕ) → length (v i) ≡ n) → AreOfWidth n (sides_from v k bs)
from_wide n v k [] e = All-nil (λ (e : Inequality). length e.normal ≡ n)
from_wide n v k (b ∷ bs) e = All-append (λ (e : Inequality). length e.normal ≡ n) (sides_of (v k) b) (sides_from v (suc k) bs) (one_wide n (v k) b (e k)) (from_wide n v (suc k) bs e)

pub sides_wide : (file : Problem) → AreOfWidth file.cols (sides file)
sides_wide file = All-append (λ (e : Inequality). length e.normal ≡ file.cols) (sides_from (row_vector file) 1 file.row_bounds) (sides_from (unit file.cols) 1 file.col_bounds)
    (from_wide file.cols (row_vector file) 1 file.row_bounds (λ i. numbers_length _ 1 file.cols)) (from_wide file.cols (unit file.cols) 1 file.col_bounds (λ i. numbers_length _ 1 file.cols))

-- ---- one row
entries_own : (row col : ℕ) (v : List ℚ) → AllIn row (row_cells row col v)
entries_own row col [] = All-nil (λ (c : Cell). c.row ≡ row)
entries_own row col (x ∷ v) = go (is_zero x) (entries_own row (suc col) v)
  where
    go : (b : Bool) → AllIn row (row_cells row (suc col) v) → AllIn row (cond b (row_cells row (suc col) v) (cell row col x ∷ row_cells row (suc col) v))
    go true h = h
    go false h = All-cons (λ (c : Cell). c.row ≡ row) (cell row col x) (row_cells row (suc col) v) refl h

pub side_own : (row col m : ℕ) (e : Inequality) → AllIn row (side_row row col m e)
side_own row col m e = All-append (λ (c : Cell). c.row ≡ row) (row_cells row col e.normal) (row_cells row m (neg_ℚ e.bound ∷ [])) (entries_own row col e.normal) (entries_own row m (neg_ℚ e.bound ∷ []))

-- u is x from a column on
abbrev pub Holds : (ℕ → ℚ) → ℕ → List ℚ → Type 0
Holds u col x = (t : ℕ) → t < length x → u (col + t) ≡ slice_index_or x t zero_ℚ

entries_sum : (row col : ℕ) (v x : List ℚ) (u : ℕ → ℚ) → length v ≡ length x → Holds u col x → cell_sum (row_cells row col v) row u ≡ dot v x
entries_sum row col [] x u e h = refl
entries_sum row col (a ∷ v) [] u e h = absurd (omega arith)
entries_sum row col (a ∷ v) (b ∷ x) u e h = go (is_zero a) refl (entries_sum row (suc col) v x u (omega arith) (λ t l. ap u (next t) ∙ h (suc t) (omega arith)))
  where
    next : (t : ℕ) → suc col + t ≡ col + suc t
    next t = omega arith

    here : u col ≡ b
    here = ap u (omega arith) ∙ h 0 (omega arith)

    go : (z : Bool) → is_zero a ≡ z → cell_sum (row_cells row (suc col) v) row u ≡ dot v x →
        cell_sum (cond z (row_cells row (suc col) v) (cell row col a ∷ row_cells row (suc col) v)) row u ≡ a *ℚ b +ℚ dot v x
    go true f again = again ∙ sym (zero_add (dot v x)) ∙ ap (λ q. q +ℚ dot v x) (sym (zero_mul b) ∙ ap (λ q. q *ℚ b) (sym (zero_is a f)))
    go false f again = cell_sum-own row col a (row_cells row (suc col) v) u ∙ ap₂ (λ p q. a *ℚ p +ℚ q) here again

pub side_sum : (row col m : ℕ) (e : Inequality) (x : List ℚ) (k : ℚ) (u : ℕ → ℚ) → length e.normal ≡ length x → Holds u col x → u m ≡ k →
    cell_sum (side_row row col m e) row u ≡ dot e.normal x +ℚ neg_ℚ e.bound *ℚ k
side_sum row col m e x k u w h f =
    cell_sum-append (row_cells row col e.normal) (row_cells row m (neg_ℚ e.bound ∷ [])) row u
    ∙ ap₂ (λ p q. p +ℚ q) (entries_sum row col e.normal x u w h) (entries_sum row m (neg_ℚ e.bound ∷ []) (k ∷ []) u refl one ∙ add_zero (neg_ℚ e.bound *ℚ k))
  where
    one : Holds u m (k ∷ [])
    one zero l = ap u (omega arith) ∙ f
    one (suc t) l = absurd (omega arith)

-- ---- all rows
pub sides_after : (row col m i : ℕ) (es : List Inequality) → i < row → NoneIn i (side_rows row col m es)
sides_after row col m i [] l = All-nil (λ (c : Cell). c.row ≡ i → ⊥)
sides_after row col m i (e ∷ es) l = none_append (side_row row col m e) (side_rows (suc row) col m es) i (in_no_other row i (side_row row col m e) (side_own row col m e) apart)
    (sides_after (suc row) col m i es (omega arith))
  where
    apart : row ≡ i → ⊥
    apart f = omega arith

pub sides_before : (row col m i : ℕ) (es : List Inequality) → row + length es ≤ i → NoneIn i (side_rows row col m es)
sides_before row col m i [] l = All-nil (λ (c : Cell). c.row ≡ i → ⊥)
sides_before row col m i (e ∷ es) l = none_append (side_row row col m e) (side_rows (suc row) col m es) i (in_no_other row i (side_row row col m e) (side_own row col m e) apart)
    (sides_before (suc row) col m i es (omega arith))
  where
    apart : row ≡ i → ⊥
    apart f = omega arith

shift : (b d k : ℚ) → d -ℚ k *ℚ b ≡ d +ℚ neg_ℚ b *ℚ k
shift b d k = ring rationals (b ∷ d ∷ k ∷ []) (v1 ⊕ ⊖ (v2 ⊗ v0)) (v1 ⊕ ⊖ v0 ⊗ v2) refl

module _ (col m : ℕ) (x : List ℚ) (k : ℚ) (u f : ℕ → ℚ) (h : Holds u col x) (at_multiplier : u m ≡ k) where
  -- what f has in the rows of the sides
  abbrev pub Gives : ℕ → List Inequality → Type 0
  Gives row es = (i : ℕ) → row ≤ i → i < row + length es → f i ≡ cell_sum (side_rows row col m es) i u

  first_row : (row : ℕ) (e : Inequality) (es : List Inequality) → length e.normal ≡ length x → Gives row (e ∷ es) → f row ≡ dot e.normal x +ℚ neg_ℚ e.bound *ℚ k
  first_row row e es w g = g row (omega arith) (omega arith)
      ∙ left_part (side_row row col m e) (side_rows (suc row) col m es) row u (sides_after (suc row) col m row es (omega arith))
      ∙ side_sum row col m e x k u w h at_multiplier

  other_rows : (row : ℕ) (e : Inequality) (es : List Inequality) → Gives row (e ∷ es) → Gives (suc row) es
  other_rows row e es g i l v = g i (omega arith) (omega arith)
      ∙ right_part (side_row row col m e) (side_rows (suc row) col m es) i u (in_no_other row i (side_row row col m e) (side_own row col m e) apart)
    where
      apart : row ≡ i → ⊥
      apart p = omega arith

  pub sides_meet : (row : ℕ) (es : List Inequality) → AreOfWidth (length x) es → Gives row es → AreWithin f row (replicate (length es) (Lower zero_ℚ)) → MeetsTimes k es x
  sides_meet row [] w g a = All-nil (λ (e : Inequality). k *ℚ e.bound ≤ℚ dot e.normal x)
  sides_meet row (e ∷ es) w g a = All-cons (λ (e : Inequality). k *ℚ e.bound ≤ℚ dot e.normal x) e es
      (le_from_difference (k *ℚ e.bound) (dot e.normal x) (subst (λ (q : ℚ). zero_ℚ ≤ℚ q)
      (first_row row e es (All-head (λ (e : Inequality). length e.normal ≡ length x) e es w) g ∙ sym (shift e.bound (dot e.normal x) k)) a.0))
      (sides_meet (suc row) es (All-tail (λ (e : Inequality). length e.normal ≡ length x) e es w) (other_rows row e es g) a.1)

  pub sides_within : (row : ℕ) (es : List Inequality) → AreOfWidth (length x) es → Gives row es → MeetsTimes k es x → AreWithin f row (replicate (length es) (Lower zero_ℚ))
  sides_within row [] w g a = tt
  sides_within row (e ∷ es) w g a = (
    subst (λ (q : ℚ). zero_ℚ ≤ℚ q) (shift e.bound (dot e.normal x) k ∙ sym (first_row row e es (All-head (λ (e : Inequality). length e.normal ≡ length x) e es w) g))
        (difference_from_le (k *ℚ e.bound) (dot e.normal x) (All-head (λ (e : Inequality). k *ℚ e.bound ≤ℚ dot e.normal x) e es a)),
    sides_within (suc row) es (All-tail (λ (e : Inequality). length e.normal ≡ length x) e es w) (other_rows row e es g)
        (All-tail (λ (e : Inequality). k *ℚ e.bound ≤ℚ dot e.normal x) e es a),
  )
