-- The multipliers at a basis as functions of the basis. They do not depend on the right sides but
-- by the signs of the artificial columns.
use Rattle.std.proofs.Common.{◌≡◌, ◌≢◌, ℕ, zero, suc, List, [], ◌∷◌, length, map, Option, None, Some, refl, sym, ap, ap₂, ◌∙◌, arith, ◌<◌, ◌≤◌, ◌+◌, ◌-◌, inl, inr, slice_index_or, Bool, true, false}
use Rattle.std.specs.Prelude.{if◌then◌else◌, not}
use Rattle.std.proofs.Math.ListN.{length-map}
use Rattle.std.proofs.lemmas.Bool.{cases_lt}
use Rattle.exact_field.specs.Rational.{ℚ, zero_ℚ, one_ℚ, ◌-ℚ◌, ◌*ℚ◌, neg_ℚ, lt_ℚ, ◌<ℚ◌}
use Rattle.exact_field.specs.Vector.{entry, dot}
use Rattle.polyhedra.specs.Vectors.{AreWide}
use Rattle.polyhedra.proofs.Laws.{zero_lt_one, le_of_lt}
use Rattle.polyhedra.proofs.Algebra.{neg_neg}
use Rattle.polyhedra.proofs.Order.{negative_of_neg}
use Rattle.tableaux.specs.Table.{Table, System, IsSystem, row_of, at, column_of, listed, artificial_sign, artificial_column, table_of, equation_count, unknown_count, right_column, first_cost, second_cost}
use Rattle.tableaux.specs.Dictionary.{basic_column, IsFullDictionaryOf, multipliers, first_multipliers}
use Rattle.tableaux.proofs.Places.{same_or_other, delta}
use Rattle.tableaux.proofs.Matrix.{HasMatrix}
use Rattle.tableaux.proofs.Unique.{entry-combination, column-long}
use Rattle.tableaux.proofs.Definition.{matrix_form, dictionary_of, slice_eq}
use Rattle.tableaux.proofs.Ties.{column_entry}
use Rattle.tableaux.proofs.Entries.{table-long, table-wide, row-first, row-second, equation-unknown, equation-artificial}
use Rattle.overflows.proofs.Changes.{same_multipliers}
use Rattle.tableaux.proofs.Decided.{combined}
use Rattle.tableaux.proofs.Found.{dictionary_row, row_found}
use Rattle.lin_rows.proofs.Pivoted.{listed-same}

-- ---- by the row of the dictionary
abbrev multipliers_by : System → Option (List ℚ) → Option (List ℚ)
multipliers_by s None = None
multipliers_by s (Some row) = Some (listed (equation_count s) (λ i. at (table_of s) i (artificial_column s i) *ℚ entry row (artificial_column s i)))

abbrev first_multipliers_by : System → Option (List ℚ) → Option (List ℚ)
first_multipliers_by s None = None
first_multipliers_by s (Some row) =
    Some (listed (equation_count s) (λ i. at (table_of s) i (artificial_column s i) *ℚ (entry row (artificial_column s i) -ℚ one_ℚ)))

abbrev pub multipliers_at : System → List ℕ → Option (List ℚ)
multipliers_at s basis = multipliers_by s (dictionary_row (table_of s) basis (right_column s) (second_cost s))

abbrev pub first_multipliers_at : System → List ℕ → Option (List ℚ)
first_multipliers_at s basis = first_multipliers_by s (dictionary_row (table_of s) basis (right_column s) (first_cost s))

pub multipliers_found : (s : System) (basis : List ℕ) (d : Table) → IsSystem s → IsFullDictionaryOf s basis d → multipliers_at s basis ≡ Some (multipliers s d)
multipliers_found s basis d ok h =
    ap (multipliers_by s) (row_found (table_of s) basis (right_column s) d (second_cost s) (table-wide s ok) h.dictionary.dictionary (omega arith) (omega (arith, table-long s ok)))

pub first_multipliers_found : (s : System) (basis : List ℕ) (d : Table) → IsSystem s → IsFullDictionaryOf s basis d →
    first_multipliers_at s basis ≡ Some (first_multipliers s d)
first_multipliers_found s basis d ok h =
    ap (first_multipliers_by s)
    (row_found (table_of s) basis (right_column s) d (first_cost s) (table-wide s ok) h.dictionary.dictionary (omega arith) (omega (arith, table-long s ok)))

-- ---- signs
pub sign_slice : (v : List ℚ) (k : ℕ) → slice_index_or (map artificial_sign v) k (artificial_sign zero_ℚ) ≡ artificial_sign (slice_index_or v k zero_ℚ)
sign_slice [] k = refl
sign_slice (x ∷ v) zero = refl
sign_slice (x ∷ v) (suc k) = sign_slice v k

sign_of_sign : (b : Bool) → artificial_sign (if b then neg_ℚ one_ℚ else one_ℚ) ≡ (if b then neg_ℚ one_ℚ else one_ℚ)
sign_of_sign true =
    ap (λ (b : Bool). if b then neg_ℚ one_ℚ else one_ℚ) (negative_of_neg (neg_ℚ one_ℚ) (positive (neg_ℚ (neg_ℚ one_ℚ)) (neg_neg one_ℚ)))
  where
    positive : (q : ℚ) → q ≡ one_ℚ → zero_ℚ <ℚ q
    positive q e = ap (λ x. lt_ℚ zero_ℚ x) e ∙ zero_lt_one
sign_of_sign false = ap (λ (b : Bool). if not b then neg_ℚ one_ℚ else one_ℚ) (le_of_lt zero_ℚ one_ℚ zero_lt_one)

pub signs_twice : (v : List ℚ) → map artificial_sign (map artificial_sign v) ≡ map artificial_sign v
signs_twice [] = refl
signs_twice (x ∷ v) = ap₂ (λ a b. a ∷ b) (sign_of_sign (lt_ℚ x zero_ℚ)) (signs_twice v)

-- ---- other right sides with the same signs
abbrev pub with_right : System → List ℚ → System
with_right s right = record { equations = s.equations; right = right; cost = s.cost }

module _ (s : System) (right : List ℚ) (ok : IsSystem s) (signs : map artificial_sign right ≡ map artificial_sign s.right) where
  abbrev n : ℕ
  n = unknown_count s

  abbrev m : ℕ
  m = equation_count s

  pub right_ok : IsSystem (with_right s right)
  right_ok = record { wide = ok.wide; right_each = omega (arith, ok.right_each, length-map right artificial_sign, length-map s.right artificial_sign, ap length signs) }

  sign_same : (i : ℕ) → artificial_sign (entry right i) ≡ artificial_sign (entry s.right i)
  sign_same i = sym (sign_slice right (i - 1)) ∙ ap (λ v. slice_index_or v (i - 1) (artificial_sign zero_ℚ)) signs ∙ sign_slice s.right (i - 1)

  -- the entries but those of the right sides
  entry_same : (i j : ℕ) → 1 ≤ i → i ≤ suc (suc m) → 1 ≤ j → j ≤ n + m → at (table_of (with_right s right)) i j ≡ at (table_of s) i j
  entry_same i j l u a b =
      elim (cases_lt m i) [
        | inl over ↦ elim (same_or_other i (first_cost s)) [
          | inl e ↦ ap (λ k. at (table_of (with_right s right)) k j) e.0
              ∙ ap (λ r. entry r j) (row-first (with_right s right) right_ok ∙ sym (row-first s ok)) ∙ ap (λ k. at (table_of s) k j) (sym e.0)
          | inr e ↦
              let last : i ≡ second_cost s = omega (arith, over, u, e.0) in
              ap (λ k. at (table_of (with_right s right)) k j) last
              ∙ ap (λ r. entry r j) (row-second (with_right s right) right_ok ∙ sym (row-second s ok)) ∙ ap (λ k. at (table_of s) k j) (sym last)
        ]
        | inr low ↦ elim (cases_lt n j) [
          | inl after ↦
              let back : j ≡ n + (j - n) = omega (arith, after) in
              ap (λ k. at (table_of (with_right s right)) i k) back
              ∙ equation-artificial (with_right s right) right_ok i (j - n) l low (omega (arith, after)) (omega (arith, after, b))
              ∙ ap (λ q. q *ℚ delta i (j - n)) (sign_same i)
              ∙ sym (equation-artificial s ok i (j - n) l low (omega (arith, after)) (omega (arith, after, b)))
              ∙ ap (λ k. at (table_of s) i k) (sym back)
          | inr front ↦ equation-unknown (with_right s right) right_ok i j l low a front ∙ sym (equation-unknown s ok i j l low a front)
        ]
      ]

  columns_same : (j : ℕ) → 1 ≤ j → j ≤ n + m → column_of (table_of (with_right s right)) j ≡ column_of (table_of s) j
  columns_same j a b =
      let u : Table = table_of (with_right s right) in
      let u_long : length u ≡ suc (suc m) = table-long (with_right s right) right_ok in
      let t_long : length (table_of s) ≡ suc (suc m) = table-long s ok in
      slice_eq (column_of u j) (column_of (table_of s) j) (column-long u j ∙ u_long ∙ sym t_long ∙ sym (column-long (table_of s) j))
      (λ k l.
      let low : k < suc (suc m) = omega (arith, l, column-long u j, u_long) in
      column_entry u j k (omega (arith, low, u_long)) ∙ ap (λ i. entry (slice_index_or u i []) j) (next k)
      ∙ entry_same (1 + k) j (omega arith) (omega arith) a b
      ∙ ap (λ i. entry (slice_index_or (table_of s) i []) j) (sym (next k)) ∙ sym (column_entry (table_of s) j k (omega (arith, low, t_long))))
    where
      next : (k : ℕ) → k ≡ 1 + k - 1
      next k = omega arith

  -- the dictionary at the same basis has the same multipliers
  pub right_changes : (basis : List ℕ) (d : Table) → IsFullDictionaryOf s basis d →
      (e : Table) × IsFullDictionaryOf (with_right s right) basis e × (multipliers (with_right s right) e ≡ multipliers s d)
      × (first_multipliers (with_right s right) e ≡ first_multipliers s d)
  right_changes basis d h = (e, full, same_second, same_first)
    where
      t_long : length (table_of s) ≡ suc (suc m)
      t_long = table-long s ok

      u_wide : AreWide (right_column s) (table_of (with_right s right))
      u_wide = table-wide (with_right s right) right_ok

      form : (x : Table) × HasMatrix (right_column s) (table_of s) basis d x
      form = matrix_form (right_column s) (table_of s) basis d (table-wide s ok) h.dictionary.dictionary

      e : Table
      e = combined (right_column s) (table_of (with_right s right)) form.0

      positive : (c : ℕ) → c ≢ 0 → 1 ≤ c
      positive c z = omega arith

      made : HasMatrix (right_column s) (table_of (with_right s right)) basis e form.0
      made = same_multipliers (right_column s) (right_column s) (table_of s) (table_of (with_right s right)) basis d form.0 form.1 u_wide
          (table-long (with_right s right) right_ok ∙ sym t_long)
          (λ k l u some. columns_same (basic_column basis k) (positive (basic_column basis k) some) (omega (arith, h.dictionary.columns.within k l)))

      full : IsFullDictionaryOf (with_right s right) basis e
      full =
          record {
            dictionary = record {
              columns = record { within = h.dictionary.columns.within; equations_only = h.dictionary.columns.equations_only };
              dictionary = dictionary_of (right_column s) (table_of (with_right s right)) basis e form.0 u_wide made;
            };
            full = h.full;
          }

      stays : (i j : ℕ) → 1 ≤ i → i ≤ suc (suc m) → 1 ≤ j → j ≤ n + m → at e i j ≡ at d i j
      stays i j l u a b =
          ap (λ v. entry v j) (made.rows i l (omega (arith, u, table-long (with_right s right) right_ok)))
          ∙ entry-combination (right_column s) (row_of form.0 i) (table_of (with_right s right)) j
          ∙ ap (λ v. dot (row_of form.0 i) v) (columns_same j a b)
          ∙ sym (entry-combination (right_column s) (row_of form.0 i) (table_of s) j)
          ∙ ap (λ v. entry v j) (sym (form.1.rows i l (omega (arith, u, t_long))))

      same_second : multipliers (with_right s right) e ≡ multipliers s d
      same_second =
          listed-same m (λ i. at (table_of (with_right s right)) i (n + i) *ℚ at e (second_cost s) (n + i)) (λ i. at (table_of s) i (n + i) *ℚ at d (second_cost s) (n + i))
          (λ i l u. ap₂ (λ x y. x *ℚ y) (entry_same i (n + i) l (omega arith) (omega arith) (omega arith)) (stays (second_cost s) (n + i) (omega arith) (omega arith) (omega arith) (omega arith)))

      same_first : first_multipliers (with_right s right) e ≡ first_multipliers s d
      same_first =
          listed-same m (λ i. at (table_of (with_right s right)) i (n + i) *ℚ (at e (first_cost s) (n + i) -ℚ one_ℚ))
          (λ i. at (table_of s) i (n + i) *ℚ (at d (first_cost s) (n + i) -ℚ one_ℚ))
          (λ i l u. ap₂ (λ x y. x *ℚ (y -ℚ one_ℚ)) (entry_same i (n + i) l (omega arith) (omega arith) (omega arith)) (stays (first_cost s) (n + i) (omega arith) (omega arith) (omega arith) (omega arith)))
