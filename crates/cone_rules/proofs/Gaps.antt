-- The equations that each multiplier, less its surplus, is one number, and what their multipliers
-- say.
use Rattle.std.proofs.Common.{◌≡◌, ℕ, suc, List, [], ◌∷◌, ◌++◌, length, take, drop, sym, ap, ap₂, ◌∙◌, arith, ◌≤◌, ◌+◌, ◌-◌, slice_index_or}
use Rattle.std.proofs.Math.ListN.{length-replicate}
use Rattle.std.proofs.lemmas.List.{length-map, take-append-drop, length-take-le, length-drop}
use Rattle.exact_field.specs.Rational.{ℚ, zero_ℚ, one_ℚ, ◌+ℚ◌, ◌*ℚ◌, neg_ℚ, ◌≤ℚ◌}
use Rattle.exact_field.specs.Vector.{entry, dot}
use Rattle.polyhedra.specs.Negatives.{negated}
use Rattle.polyhedra.specs.Vectors.{zeros, plus, scaled, values}
use Rattle.polyhedra.proofs.Algebra.{zero_add, zero_mul, one_mul, neg_mul, neg_zero, cancel, add_cancel}
use Rattle.polyhedra.proofs.Laws.{add_assoc, add_comm, add_zero, add_neg, mul_one, le_trans, zero_lt_one}
use Rattle.polyhedra.proofs.Linear.{dot-plus, dot-scaled, dot-zeros, length-plus, length-scaled, length-zeros}
use Rattle.polyhedra.proofs.Negatives.{dot-negated, dot-negated_left}
use Rattle.polyhedra.proofs.Order.{le_of_difference, not_lt_of_le}
use Rattle.polyhedra.proofs.Entries.{entry-negated}
use Rattle.tableaux.specs.Table.{unit}
use Rattle.tableaux.proofs.Places.{length-list_from, listed-is, entry-plus, entry-scaled}
use Rattle.tableaux.proofs.Unique.{dot-unit, slice-zeros}
use Rattle.lp_form.specs.Programs.{generator_gaps}
use Rattle.cone_rules.proofs.Parts.{ones, entry-ones, dot-zeros_left, dot_three, values-listed, one_left, two_left, slice-drop, dot_parts_at}

-- a - b, less e in each entry
abbrev pub gap : ℕ → List ℚ → List ℚ → ℚ → List ℚ
gap n a b e = plus (plus a (negated b)) (scaled (neg_ℚ e) (ones n))

pub gap_long : (n : ℕ) (a b : List ℚ) (e : ℚ) → length a ≡ n → length b ≡ n → length (gap n a b e) ≡ n
gap_long n a b e h k =
    length-plus n (plus a (negated b)) (scaled (neg_ℚ e) (ones n)) (length-plus n a (negated b) h (length-map b neg_ℚ ∙ k))
    (length-scaled (neg_ℚ e) (ones n) ∙ length-replicate n one_ℚ)

pub gap_at : (n : ℕ) (a b : List ℚ) (e : ℚ) (g : ℕ) → 1 ≤ g → g ≤ n → entry (gap n a b e) g ≡ (entry a g +ℚ neg_ℚ (entry b g)) +ℚ neg_ℚ e
gap_at n a b e g l u =
    entry-plus (plus a (negated b)) (scaled (neg_ℚ e) (ones n)) g
    ∙ ap₂ (λ x y. x +ℚ y) (entry-plus a (negated b) g ∙ ap (λ x. entry a g +ℚ x) (entry-negated b g))
    (entry-scaled (neg_ℚ e) (ones n) g ∙ ap (λ x. neg_ℚ e *ℚ x) (entry-ones n g l u) ∙ mul_one (neg_ℚ e))

-- its product with multipliers
abbrev pub gap_value : ℕ → List ℚ → List ℚ → List ℚ → ℚ → ℚ
gap_value n p a b e = (dot p a +ℚ neg_ℚ (dot p b)) +ℚ neg_ℚ e *ℚ dot p (ones n)

pub gap_product : (n : ℕ) (p a b : List ℚ) (e : ℚ) → dot p (gap n a b e) ≡ gap_value n p a b e
gap_product n p a b e =
    dot-plus p (plus a (negated b)) (scaled (neg_ℚ e) (ones n))
    ∙ ap₂ (λ x y. x +ℚ y) (dot-plus p a (negated b) ∙ ap (λ x. dot p a +ℚ x) (dot-negated p b)) (dot-scaled p (neg_ℚ e) (ones n))

pub gaps_values : (n more : ℕ) (a b k : List ℚ) (e : ℚ) → length a ≡ n → length b ≡ n → values (generator_gaps n more) (a ++ (b ++ e ∷ k)) ≡ gap n a b e
gaps_values n more a b k e a_long b_long =
    values-listed n (λ g. unit n g ++ negated (unit n g) ++ neg_ℚ one_ℚ ∷ zeros more) (a ++ (b ++ e ∷ k))
    ∙ listed-is n (λ g. dot (unit n g ++ negated (unit n g) ++ neg_ℚ one_ℚ ∷ zeros more) (a ++ (b ++ e ∷ k))) (gap n a b e) (gap_long n a b e a_long b_long)
    (λ g l u.
    dot_three (unit n g) (negated (unit n g)) (neg_ℚ one_ℚ ∷ zeros more) a b (e ∷ k) (length-list_from 1 n _ ∙ sym a_long)
    (length-map (unit n g) neg_ℚ ∙ length-list_from 1 n _ ∙ sym b_long)
    ∙ ap₂ (λ x y. x +ℚ y) (dot-unit n g a l u)
    (ap₂ (λ x y. x +ℚ y) (dot-negated_left (unit n g) b ∙ ap neg_ℚ (dot-unit n g b l u))
    (ap₂ (λ x y. x +ℚ y) (neg_mul one_ℚ e ∙ ap neg_ℚ (one_mul e)) (dot-zeros_left more k) ∙ add_zero (neg_ℚ e)))
    ∙ sym (add_assoc (entry a g) (neg_ℚ (entry b g)) (neg_ℚ e)) ∙ sym (gap_at n a b e g l u))

-- where all gaps are 0 each entry of a is that of b and e
pub gap_none : (n : ℕ) (a b : List ℚ) (e : ℚ) (g : ℕ) → gap n a b e ≡ zeros n → 1 ≤ g → g ≤ n → entry a g ≡ entry b g +ℚ e
gap_none n a b e g h l u = by (entry a g) (entry b g) (sym (gap_at n a b e g l u) ∙ ap (λ v. entry v g) h ∙ slice-zeros n (g - 1))
  where
    by : (x y : ℚ) → (x +ℚ neg_ℚ y) +ℚ neg_ℚ e ≡ zero_ℚ → x ≡ y +ℚ e
    by x y s =
        let difference : x +ℚ neg_ℚ y ≡ e = add_cancel (x +ℚ neg_ℚ y) e (neg_ℚ e) (s ∙ sym (add_neg e)) in
        add_cancel x (y +ℚ e) (neg_ℚ y) (difference ∙ sym (cancel e y) ∙ ap (λ z. z +ℚ neg_ℚ y) (add_comm e y))

-- the product at three tests
pub gap_first : (n : ℕ) (p a : List ℚ) → gap_value n p a (zeros n) zero_ℚ ≡ dot p a
gap_first n p a =
    ap₂ (λ x y. x +ℚ y) (ap (λ x. dot p a +ℚ x) (ap neg_ℚ (dot-zeros p n) ∙ neg_zero) ∙ add_zero (dot p a))
    (ap (λ x. x *ℚ dot p (ones n)) neg_zero ∙ zero_mul (dot p (ones n)))
    ∙ add_zero (dot p a)

pub gap_second : (n : ℕ) (p b : List ℚ) → gap_value n p (zeros n) b zero_ℚ ≡ neg_ℚ (dot p b)
gap_second n p b =
    ap₂ (λ x y. x +ℚ y) (ap (λ x. x +ℚ neg_ℚ (dot p b)) (dot-zeros p n) ∙ zero_add (neg_ℚ (dot p b)))
    (ap (λ x. x *ℚ dot p (ones n)) neg_zero ∙ zero_mul (dot p (ones n)))
    ∙ add_zero (neg_ℚ (dot p b))

pub gap_third : (n : ℕ) (p : List ℚ) → gap_value n p (zeros n) (zeros n) one_ℚ ≡ neg_ℚ (dot p (ones n))
gap_third n p =
    ap₂ (λ x y. x +ℚ y) (ap₂ (λ x y. x +ℚ neg_ℚ y) (dot-zeros p n) (dot-zeros p n) ∙ ap (λ x. zero_ℚ +ℚ x) neg_zero ∙ add_zero zero_ℚ)
    (neg_mul one_ℚ (dot p (ones n)) ∙ ap neg_ℚ (one_mul (dot p (ones n))))
    ∙ zero_add (neg_ℚ (dot p (ones n)))

pub gap_nothing : (n : ℕ) (p : List ℚ) → gap_value n p (zeros n) (zeros n) zero_ℚ ≡ zero_ℚ
gap_nothing n p = gap_first n p (zeros n) ∙ dot-zeros p n

-- a number of at least 0 whose negative is at least 1
pub no_number : (x : ℚ) → zero_ℚ ≤ℚ x → one_ℚ ≤ℚ neg_ℚ x → ⊥
no_number x h k =
    not_lt_of_le one_ℚ zero_ℚ (le_trans one_ℚ (neg_ℚ x) zero_ℚ k (le_of_difference (neg_ℚ x) zero_ℚ x h (add_comm (neg_ℚ x) x ∙ add_neg x))) zero_lt_one

-- ---- solutions in parts
slice_far : (n : ℕ) (z : List ℚ) (k : ℕ) → slice_index_or (drop n (drop n z)) k zero_ℚ ≡ slice_index_or z (n + (n + k)) zero_ℚ
slice_far n z k = slice-drop (drop n z) n k ∙ slice-drop z n (n + k)

pub front_long : (n m : ℕ) (z : List ℚ) → length z ≡ n + n + m → length (take n z) ≡ n
front_long n m z h = length-take-le n z (omega (arith, h))

pub middle_long : (n m : ℕ) (z : List ℚ) → length z ≡ n + n + m → length (take n (drop n z)) ≡ n
middle_long n m z h = length-take-le n (drop n z) (omega (arith, h, length-drop n z))

pub three_parts : (n : ℕ) (z : List ℚ) → length z ≡ n + n + 1 → z ≡ take n z ++ (take n (drop n z) ++ entry z (suc (n + n)) ∷ [])
three_parts n z h =
    let place : n + (n + 0) ≡ suc (n + n) - 1 = omega arith in
    sym (take-append-drop n z)
    ∙ ap (λ v. take n z ++ v)
    (sym (take-append-drop n (drop n z))
    ∙ ap (λ v. take n (drop n z) ++ v)
    (one_left (drop n (drop n z)) (omega (arith, h, length-drop n (drop n z), length-drop n z))
    ∙ ap (λ x. x ∷ []) (slice_far n z 0 ∙ ap (λ i. slice_index_or z i zero_ℚ) place)))

pub four_parts : (n : ℕ) (z : List ℚ) → length z ≡ n + n + 2 →
    z ≡ take n z ++ (take n (drop n z) ++ entry z (suc (n + n)) ∷ entry z (suc (suc (n + n))) ∷ [])
four_parts n z h =
    let place : n + (n + 0) ≡ suc (n + n) - 1 = omega arith in
    let next : n + (n + 1) ≡ suc (suc (n + n)) - 1 = omega arith in
    sym (take-append-drop n z)
    ∙ ap (λ v. take n z ++ v)
    (sym (take-append-drop n (drop n z))
    ∙ ap (λ v. take n (drop n z) ++ v)
    (two_left (drop n (drop n z)) (omega (arith, h, length-drop n (drop n z), length-drop n z))
    ∙ ap₂ (λ x y. x ∷ y ∷ []) (slice_far n z 0 ∙ ap (λ i. slice_index_or z i zero_ℚ) place) (slice_far n z 1 ∙ ap (λ i. slice_index_or z i zero_ℚ) next)))

-- ---- two multipliers after those of the gaps: of the equation on the last entry, and of
-- e + k = 1
abbrev pub on_last : ℕ → List ℚ → ℚ
on_last n y = slice_index_or (drop n y) 0 zero_ℚ

abbrev pub on_sum : ℕ → List ℚ → ℚ
on_sum n y = slice_index_or (drop n y) 1 zero_ℚ

pub two_after : (n : ℕ) (y : List ℚ) (x z : ℚ) → length y ≡ n + 2 → dot (drop n y) (x ∷ z ∷ []) ≡ on_last n y *ℚ x +ℚ on_sum n y *ℚ z
two_after n y x z h =
    ap (λ v. dot v (x ∷ z ∷ [])) (two_left (drop n y) (length-drop n y ∙ omega (arith, h)))
    ∙ ap (λ b. on_last n y *ℚ x +ℚ b) (add_zero (on_sum n y *ℚ z))

pub ones_right : (n : ℕ) (y : List ℚ) → length y ≡ n + 2 → dot y (zeros n ++ one_ℚ ∷ one_ℚ ∷ []) ≡ on_last n y +ℚ on_sum n y
ones_right n y h =
    dot_parts_at n y (zeros n) (one_ℚ ∷ one_ℚ ∷ []) (length-zeros n)
    ∙ ap₂ (λ x z. x +ℚ z) (dot-zeros (take n y) n) (two_after n y one_ℚ one_ℚ h ∙ ap₂ (λ x z. x +ℚ z) (mul_one (on_last n y)) (mul_one (on_sum n y)))
    ∙ zero_add (on_last n y +ℚ on_sum n y)
