-- The cells of a matrix from the values that a map gives its places.
use Rattle.std.proofs.Common.{◌≡◌, refl, ℕ, Bool, true, false, not, ◌&&◌, cond, if◌then◌else◌, inl, inr, ◌==◌, List, [], ◌∷◌, ℤ, pos, negsuc, Option, None, Some, Result, Ok, Err, OnOk, OnErr, is_some, unwrap_or, arith, ap, sym, ◌∙◌, subst}
use Rattle.std.specs.Prelude.{unsigned_abs}
use Rattle.std.specs.Int.{◌∣◌}
use Rattle.std.specs.declared.cmp.Ordering.TheVariants.{Less}
use Rattle.std.specs.Option.{option_or}
use Rattle.std.specs.Ordering.{is_eq}
use Rattle.std.specs.Map.{lookup, keys_of}
use Rattle.std.specs.BTreeMap.{BTreeMap, is_at, get, Updates, IsUnchanged}
use Rattle.std.specs.List.{AllByRecursion}
use Rattle.std.specs.List.Sorted.{IsStrictlySortedBy}
use Rattle.std.proofs.lemmas.Bool.{and_parts, and_from, cond-true, cond-false, cond_both, cases_Bool, eqb-true, not_from_false}
use Rattle.std.proofs.lemmas.Bool.Decides.{nat_tests}
use Rattle.std.proofs.Math.Nat.{eq-one_of_dvd-one, dvd_refl}
use Rattle.std.proofs.lemmas.Nat.Gcd.{dvd-zero}
use Rattle.exact_field.specs.Rational.{ℚ, whole, zero_ℚ, same_parts}
use Rattle.frac128.specs.Sparse.{is_zero}
use Rattle.vlp_problem.proofs.Zero.{zero_is}
use Rattle.vlp_problem.specs.Cells.{place_before, is_within, cells_after, are_cells, coefficient}
use Rattle.vlp_reader.specs.Grammar.{must, wrong}
use Rattle.vlp_reader.specs.Places.{place_cmp, given}
use Rattle.vlp_reader.specs.declared.fault.FileKind.{FileKind}
use Rattle.vlp_reader.specs.declared.fault.FileKind.TheVariants.{OutOfRange, Twice}
use Rattle.vlp_problem.specs.declared.problem.Cell.{Cell}

abbrev pub Values : Type 0
Values = List ((ℕ × ℕ) × ℚ)

-- the cells of values, without zeros
abbrev pub cells_of : Values → List Cell
cells_of [] = []
cells_of (e ∷ es) = if is_zero e.1 then cells_of es else (record { row = e.0.0; col = e.0.1; value = e.1 } ∷ cells_of es)

pub same_place : (i j row col : ℕ) → is_eq (place_cmp (i, j) (row, col)) ≡ (row == i && col == j)
same_place i j row col = grind (arith, nat_tests)

less_before : (i j row col : ℕ) → place_cmp (i, j) (row, col) ≡ Less → place_before i j row col ≡ true
less_before i j row col h = grind (arith, nat_tests)

not_same : (i j row col : ℕ) → place_cmp (i, j) (row, col) ≡ Less → (row == i && col == j) ≡ false
not_same i j row col h = grind (arith, nat_tests)

from_start : (rows cols row col : ℕ) → is_within rows cols row col ≡ true → place_cmp (0, 0) (row, col) ≡ Less
from_start rows cols row col h = grind (arith, nat_tests)

same_at_itself : (row col : ℕ) → is_eq (place_cmp (row, col) (row, col)) ≡ true
same_at_itself row col = grind (arith, nat_tests)

-- ---- the values of an ordered map
-- each of these has its place within the sizes
abbrev pub AllWithinSizes : ℕ → ℕ → Values → Type 0
AllWithinSizes rows cols es = AllByRecursion (λ e. is_within rows cols e.0.0 e.0.1 ≡ true) es

-- and stands after a place
abbrev pub AllAfter : ℕ → ℕ → Values → Type 0
AllAfter i j es = AllByRecursion (λ e. place_cmp (i, j) e.0 ≡ Less) es

after_keys : (i j : ℕ) (es : Values) → AllByRecursion (λ y. place_cmp (i, j) y ≡ Less) (keys_of es) → AllAfter i j es
after_keys i j [] h = tt
after_keys i j (e ∷ es) h = (h.0, after_keys i j es h.1)

sorted_first : (e : (ℕ × ℕ) × ℚ) (es : Values) → IsStrictlySortedBy place_cmp (keys_of (e ∷ es)) → AllAfter e.0.0 e.0.1 es × IsStrictlySortedBy place_cmp (keys_of es)
unfolding IsStrictlySortedBy
sorted_first e es h = (after_keys e.0.0 e.0.1 es h.0, h.1)

pub all_cells : (rows cols i j : ℕ) (es : Values) → IsStrictlySortedBy place_cmp (keys_of es) → AllAfter i j es → AllWithinSizes rows cols es → cells_after rows cols i j (cells_of es) ≡ true
all_cells rows cols i j [] s b w = refl
all_cells rows cols i j (e ∷ es) s b w =
    let first = sorted_first e es s in
    let cell : Cell = record { row = e.0.0; col = e.0.1; value = e.1 } in
    cond_both (is_zero e.1) (cells_of es) (cell ∷ cells_of es) (λ l. cells_after rows cols i j l ≡ true)
    (λ zero_value. all_cells rows cols i j es first.1 b.1 w.1)
    (λ some_value.
    and_from (place_before i j e.0.0 e.0.1) _ (less_before i j e.0.0 e.0.1 b.0)
    (and_from (is_within rows cols e.0.0 e.0.1) _ w.0
    (and_from (not (is_zero e.1)) _ (not_from_false (is_zero e.1) some_value) (all_cells rows cols e.0.0 e.0.1 es first.1 first.0 w.1))))

from_within : (rows cols : ℕ) (es : Values) → AllWithinSizes rows cols es → AllAfter 0 0 es
from_within rows cols [] w = tt
from_within rows cols (e ∷ es) w = (from_start rows cols e.0.0 e.0.1 w.0, from_within rows cols es w.1)

-- the places that a map gives are those of its entries
within_entries : (rows cols : ℕ) (es : Values) → ((i j : ℕ) → is_some (lookup (is_at (place_cmp (i, j))) es) ≡ true → is_within rows cols i j ≡ true) → AllWithinSizes rows cols es
within_entries rows cols [] h = tt
within_entries rows cols (e ∷ es) h = (
  h e.0.0 e.0.1 (ap is_some (cond-true (is_eq (place_cmp e.0 e.0)) (Some e.1) (lookup (is_at (place_cmp e.0)) es) (same_at_itself e.0.0 e.0.1))),
  within_entries rows cols es (λ i j k. h i j (cond_both (is_eq (place_cmp (i, j) e.0)) (Some e.1) (lookup (is_at (place_cmp (i, j))) es) (λ o. is_some o ≡ true) (λ _. refl) (λ _. k))),
)

pub are_cells_of : (rows cols : ℕ) (es : Values) → IsStrictlySortedBy place_cmp (keys_of es)
    → ((i j : ℕ) → is_some (lookup (is_at (place_cmp (i, j))) es) ≡ true → is_within rows cols i j ≡ true) → are_cells rows cols (cells_of es) ≡ true
are_cells_of rows cols es s h =
    let within : AllWithinSizes rows cols es = within_entries rows cols es h in
    all_cells rows cols 0 0 es s (from_within rows cols es within) within

-- nothing is at a place that all stand after
none_at : (i j : ℕ) (es : Values) → AllAfter i j es → lookup (is_at (place_cmp (i, j))) es ≡ None
none_at i j [] b = refl
none_at i j (e ∷ es) b = cond-false (is_eq (place_cmp (i, j) e.0)) (Some e.1) (lookup (is_at (place_cmp (i, j))) es) (ap is_eq b.0) ∙ none_at i j es b.1

picked : (b : Bool) (x y : ℚ) (o : Option ℚ) → y ≡ unwrap_or o zero_ℚ → cond b x y ≡ unwrap_or (cond b (Some x) o) zero_ℚ
picked true x y o h = refl
picked false x y o h = h

-- the coefficient at a place is the value given there
pub coefficient_of : (i j : ℕ) (es : Values) → IsStrictlySortedBy place_cmp (keys_of es) → coefficient (cells_of es) i j ≡ unwrap_or (lookup (is_at (place_cmp (i, j))) es) zero_ℚ
coefficient_of i j [] s = refl
coefficient_of i j (e ∷ es) s =
    let first = sorted_first e es s in
    let cell : Cell = record { row = e.0.0; col = e.0.1; value = e.1 } in
    let there : Bool = is_eq (place_cmp (i, j) e.0) in
    let more : Option ℚ = lookup (is_at (place_cmp (i, j))) es in
    let rest : coefficient (cells_of es) i j ≡ unwrap_or more zero_ℚ = coefficient_of i j es first.1 in
    let same : there ≡ (e.0.0 == i && e.0.1 == j) = same_place i j e.0.0 e.0.1 in
    cond_both (is_zero e.1) (cells_of es) (cell ∷ cells_of es) (λ l. coefficient l i j ≡ unwrap_or (cond there (Some e.1) more) zero_ℚ)
    (λ zero_value.
    cond_both there (Some e.1) more (λ o. coefficient (cells_of es) i j ≡ unwrap_or o zero_ℚ)
    (λ at.
    let parts = and_parts (e.0.0 == i) (e.0.1 == j) (sym same ∙ at) in
    let none : more ≡ None =
    subst (λ (n : ℕ). lookup (is_at (place_cmp (n, j))) es ≡ None) (eqb-true e.0.0 i parts.0)
    (subst (λ (n : ℕ). lookup (is_at (place_cmp (e.0.0, n))) es ≡ None) (eqb-true e.0.1 j parts.1) (none_at e.0.0 e.0.1 es first.0)) in
    rest ∙ ap (λ (o : Option ℚ). unwrap_or o zero_ℚ) none ∙ sym (zero_is e.1 zero_value))
    (λ off. rest))
    (λ some_value.
    subst (λ (b : Bool). cond b e.1 (coefficient (cells_of es) i j) ≡ unwrap_or (cond there (Some e.1) more) zero_ℚ) same
    (picked there e.1 _ more rest))

-- ---- one value more
pub given_more : (m n : BTreeMap (ℕ × ℕ) ℚ) (row col : ℕ) (v : ℚ) → ((q : ℕ × ℕ) → get place_cmp n q ≡ cond (is_at (place_cmp (row, col)) q) (Some v) (get place_cmp m q))
    → (i j : ℕ) → given n i j ≡ (if i == row && j == col then Some v else given m i j)
given_more m n row col v h i j = h (i, j) ∙ ap (λ b. cond b (Some v) (given m i j)) (same_place row col i j)

pub within_more : (m n : BTreeMap (ℕ × ℕ) ℚ) (rows cols row col : ℕ) (v : ℚ) → ((i j : ℕ) → given n i j ≡ (if i == row && j == col then Some v else given m i j))
    → is_within rows cols row col ≡ true → ((i j : ℕ) → is_some (given m i j) ≡ true → is_within rows cols i j ≡ true)
    → (i j : ℕ) → is_some (given n i j) ≡ true → is_within rows cols i j ≡ true
within_more m n rows cols row col v more here old i j some = elim (cases_Bool (i == row && j == col)) [
  | inl same ↦
      let parts = and_parts (i == row) (j == col) same in
      subst (λ (k : ℕ). is_within rows cols k j ≡ true) (sym (eqb-true i row parts.0))
      (subst (λ (k : ℕ). is_within rows cols row k ≡ true) (sym (eqb-true j col parts.1)) here)
  | inr other ↦ old i j (ap is_some (sym (more i j ∙ cond-false (i == row && j == col) (Some v) (given m i j) other)) ∙ some)
]

-- after an insert that may fail
pub within_insert : {T E : Type 0} (r : Result T E) (m n : BTreeMap (ℕ × ℕ) ℚ) (rows cols row col : ℕ) (v : ℚ)
    → OnOk r (Updates place_cmp m n (row, col) (Some v)) → OnErr r (IsUnchanged m n)
    → is_within rows cols row col ≡ true → ((i j : ℕ) → is_some (given m i j) ≡ true → is_within rows cols i j ≡ true)
    → (i j : ℕ) → is_some (given n i j) ≡ true → is_within rows cols i j ≡ true
within_insert (Ok x) m n rows cols row col v ok err here old = within_more m n rows cols row col v (given_more m n row col v ok.0) here old
within_insert (Err e) m n rows cols row col v ok err here old = λ i j some. old i j (subst (λ (es : Values). is_some (lookup (is_at (place_cmp (i, j))) es) ≡ true) err some)

-- the cells of the first entry and of the others
pub cells_of-zero : (e : (ℕ × ℕ) × ℚ) (es : Values) → is_zero e.1 ≡ true → cells_of (e ∷ es) ≡ cells_of es
cells_of-zero e es h = cond-true (is_zero e.1) (cells_of es) _ h

pub cells_of-some : (e : (ℕ × ℕ) × ℚ) (es : Values) → is_zero e.1 ≡ false → cells_of (e ∷ es) ≡ record { row = e.0.0; col = e.0.1; value = e.1 } ∷ cells_of es
cells_of-some e es h = cond-false (is_zero e.1) (cells_of es) _ h

-- the tests of an entry that pass
pub entry_passes : (within : Bool) (number : Result ℚ FileKind) (v : ℚ) (before : Option ℚ) → within ≡ true → number ≡ Ok v → is_some before ≡ false
    → option_or (must within OutOfRange) (option_or (wrong number) (must (not (is_some before)) Twice)) ≡ None
entry_passes within number v before w n b =
    ap (λ t. option_or (must t OutOfRange) (option_or (wrong number) (must (not (is_some before)) Twice))) w
    ∙ ap (λ r. option_or (wrong r) (must (not (is_some before)) Twice)) n
    ∙ ap (λ t. must (not t) Twice) b
