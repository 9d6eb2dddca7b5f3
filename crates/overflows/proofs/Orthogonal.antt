-- A vector that is read off an elimination at a free column has the product 0 with each of the
-- rows.
use Rattle.std.proofs.Common.{◌≡◌, ◌≢◌, ℕ, zero, suc, List, [], ◌++◌, length, All, refl, sym, ap, ap₂, ◌∙◌, subst, arith, ◌<◌, ◌≤◌, ◌+◌, ◌-◌, inl, inr, slice_index_or}
use Rattle.std.specs.Prelude.{◌==◌, if◌then◌else◌}
use Rattle.std.proofs.Math.ListN.{length-append}
use Rattle.exact_field.specs.Rational.{ℚ, zero_ℚ, one_ℚ, ◌+ℚ◌, neg_ℚ}
use Rattle.exact_field.specs.Vector.{dot}
use Rattle.exact_field.proofs.Rationals.{neg-zero_ℚ}
use Rattle.polyhedra.specs.Vectors.{AreWide}
use Rattle.polyhedra.proofs.Laws.{add_zero}
use Rattle.tableaux.specs.Table.{Table, row_of, column_of, list_from, listed, unit, beside_unit}
use Rattle.tableaux.specs.Dictionary.{basic_column, IsDictionary, value_of_column}
use Rattle.tableaux.specs.Elimination.{IsClearAt, ray_of}
use Rattle.tableaux.proofs.Definition.{same_default}
use Rattle.tableaux.proofs.Eliminated.{ray_orthogonal}
use Rattle.tableaux.proofs.Inverse.{dot-append, dot-zero_right, list_from-append}
use Rattle.tableaux.proofs.Places.{length-list_from, listed-place, row-wide, delta, same_or_other, if_false}
use Rattle.tableaux.proofs.Orthogonal.{not_named}
use Rattle.overflows.specs.Dictionaries.{IsElimTable}
use Rattle.overflows.specs.Laws.{OrthogonalVectors}

next : (k : ℕ) → 1 + k - 1 ≡ k
next k = omega arith

-- with the unit matrix beside the rows: after the rows' own columns the vector would be 0
module _ (n c : ℕ) (a : Table) (basis : List ℕ) (d : Table) (a_long : length a ≡ n) (a_wide : AreWide n a)
    (within : (k : ℕ) → basic_column basis k ≤ n) (free : (k : ℕ) → basic_column basis k ≢ c) (low : 1 ≤ c) (high : c ≤ n) where
  abbrev part : ℕ → ℚ
  part j = if j == c then one_ℚ else neg_ℚ (value_of_column basis (column_of d c) j)

  part_after : (j : ℕ) → n < j → part j ≡ zero_ℚ
  part_after j l =
      elim (same_or_other j c) [
        | inl s ↦ absurd (let e : j ≡ c = s.0 in omega (arith, e, l, high))
        | inr o ↦ if_false (j == c) one_ℚ (neg_ℚ (value_of_column basis (column_of d c) j)) o.1
            ∙ ap neg_ℚ (not_named basis (column_of d c) j (λ k e. let up = within k in omega (arith, up, e, l))) ∙ neg-zero_ℚ
      ]

  past : (j m s : ℕ) → n < s → slice_index_or (list_from s m part) j zero_ℚ ≡ zero_ℚ
  past j zero s l = refl
  past zero (suc m) s l = part_after s l
  past (suc j) (suc m) s l = past j m (suc s) (omega arith)

  long : length (beside_unit a) ≡ n
  long = length-list_from 1 (length a) (λ i. row_of a i ++ unit (length a) i) ∙ a_long

  row_is : (i : ℕ) → 1 ≤ i → i ≤ n → row_of (beside_unit a) i ≡ row_of a i ++ unit n i
  row_is i l u =
      listed-place (length a) (λ i. row_of a i ++ unit (length a) i) i [] l (omega (arith, u, a_long)) ∙ ap (λ m. row_of a i ++ unit m i) a_long

  own_long : (i : ℕ) → 1 ≤ i → i ≤ n → length (row_of a i) ≡ n
  own_long i l u = row-wide n a i a_wide l (omega (arith, u, a_long))

  wide : AreWide (n + n) (beside_unit a)
  wide = record {
    wide = λ i e l.
        let inside : i < n = omega (arith, l, long) in
        let own = own_long (1 + i) (omega arith) (omega arith) in
        let units = length-list_from 1 n (λ j. delta j (1 + i)) in
        ap length (same_default (beside_unit a) i e [] l ∙ ap (λ m. slice_index_or (beside_unit a) m []) (sym (next i)) ∙ row_is (1 + i) (omega arith) (omega arith))
        ∙ length-append (row_of a (1 + i)) (unit n (1 + i)) ∙ ap₂ (λ x y. x + y) own units;
  }

  pub beside : IsDictionary (n + n) (beside_unit a) basis d → IsClearAt basis d c → (i : ℕ) → 1 ≤ i → i ≤ n → dot (row_of a i) (ray_of n basis d c) ≡ zero_ℚ
  beside h clear i l u =
      let own : List ℚ = row_of a i in
      sym
      (ap (λ v. dot (own ++ unit n i) v) (list_from-append 1 n n part)
      ∙ dot-append own (unit n i) (listed n part) (list_from (1 + n) n part) (own_long i l u ∙ sym (length-list_from 1 n part))
      ∙ ap (λ q. dot own (listed n part) +ℚ q) (dot-zero_right (unit n i) (list_from (1 + n) n part) (λ j. past j n (1 + n) (omega arith)))
      ∙ add_zero (dot own (listed n part)))
      ∙ ap (λ r. dot r (ray_of (n + n) basis d c)) (sym (row_is i l u))
      ∙ ray_orthogonal (n + n) (beside_unit a) basis d wide h (λ k. let up : basic_column basis k ≤ n = within k in omega (arith, up)) c free clear low (omega (arith, high)) i l
      (omega (arith, u, long))

-- ---- the law
by_places : (rows : Table) (v : List ℚ) → ((i : ℕ) → 1 ≤ i → i ≤ length rows → dot (row_of rows i) v ≡ zero_ℚ) → All (λ row. dot row v ≡ zero_ℚ) rows
by_places rows v h = λ i e l.
    subst (λ (r : List ℚ). dot r v ≡ zero_ℚ) (ap (λ k. slice_index_or rows k []) (next i) ∙ same_default rows i [] e l) (h (1 + i) (omega arith) (omega arith))

pub orthogonal_vectors : OrthogonalVectors
orthogonal_vectors s v o wide =
    subst (λ (x : List ℚ). All (λ row. dot row x ≡ zero_ℚ) o.rows) (sym o.same)
    (by_places o.rows (ray_of o.width o.basis o.dictionary o.col) (products o.is.of_rows))
  where
    products : IsElimTable s o.rows o.width o.is.table o.columns → (i : ℕ) → 1 ≤ i → i ≤ length o.rows →
        dot (row_of o.rows i) (ray_of o.width o.basis o.dictionary o.col) ≡ zero_ℚ
    products (IsElimTable.alone allowed same many) i l u =
        ray_orthogonal o.width o.rows o.basis o.dictionary wide
        (subst (λ (m : ℕ). IsDictionary m o.rows o.basis o.dictionary) many (subst (λ (t : Table). IsDictionary o.columns t o.basis o.dictionary) same o.is.is))
        o.within o.col o.free o.clear o.from_one o.to_end i l u
    products (IsElimTable.beside allowed square same many) i l u =
        let n_is : o.columns ≡ o.width + o.width = many ∙ ap₂ (λ x y. x + y) square square in
        beside o.width o.col o.rows o.basis o.dictionary square wide o.within o.free o.from_one o.to_end
        (subst (λ (m : ℕ). IsDictionary m (beside_unit o.rows) o.basis o.dictionary) n_is (subst (λ (t : Table). IsDictionary o.columns t o.basis o.dictionary) same o.is.is))
        o.clear i l (omega (arith, u, square))
