-- The worked orthogonal vectors, computed.
use Rattle.std.proofs.Common.{◌≡◌, ◌≢◌, ℕ, zero, suc, ◌-◌, ◌≤◌, Bool, true, false, List, [], ◌∷◌, length, refl, sym, ap, ◌∙◌, subst, arith, slice_index_or, All, Contains}
use Rattle.std.specs.Prelude.{◌==◌, if◌then◌else◌}
use Rattle.std.proofs.Math.Dec.{lit≤, lit<}
use Rattle.exact_field.specs.Gcd.{gcd}
use Rattle.exact_field.specs.Rational.{ℚ, zero_ℚ, one_ℚ, whole, fraction, ◌+ℚ◌, ◌*ℚ◌, neg_ℚ, inverse_ℚ, le_ℚ}
use Rattle.exact_field.specs.Order.{same_ℚ}
use Rattle.exact_field.specs.Vector.{entry, dot}
use Rattle.exact_field.specs.declared.op.Op.TheVariants.{Div}
use Rattle.polyhedra.specs.Vectors.{AreWide}
use Rattle.polyhedra.proofs.Lists.{Contains-nil}
use Rattle.polyhedra.proofs.Tests.{same_vector_is}
use Rattle.tableaux.specs.Table.{Table}
use Rattle.tableaux.specs.Dictionary.{basic_column, IsDictionary, value_of_column}
use Rattle.tableaux.specs.Elimination.{ray_of}
use Rattle.tableaux.proofs.Eliminated.{starts}
use Rattle.tableaux.proofs.Places.{length-list_from}
use Rattle.deriv_log.specs.declared.licence.Place.TheVariants.{Scale}
use Rattle.overflows.specs.Dictionaries.{AreStartRows, AreElimRows, IsElimTable}
use Rattle.overflows.specs.Examples.{n, minus, half, is_few, cut_entry, second_cut, with_cuts, OrthogonalExamples}
use Rattle.overflows.specs.Licence.{IsOverflow}
use Rattle.overflows.specs.Quotients.{IsOrthogonalOff, IsScaled, IsDivisor}
use Rattle.overflows.specs.Settings.{Setting}
use Rattle.overflows.specs.Steps.{operation}
use Rattle.overflows.proofs.Given.{overflow_laws}
use Rattle.overflows.proofs.Orthogonal.{orthogonal_vectors}
use Rattle.overflows.proofs.Pivots.{table_after, pivots_keep, unnamed, no_column, below}
use Rattle.overflows.proofs.Values.{apart, equal, wide_test}

abbrev one_cut : Setting
one_cut = with_cuts (cut_entry ∷ [])

abbrev normal : Table
normal = (half ∷ half ∷ []) ∷ []

abbrev eliminated : Table
eliminated = table_after normal ((0, 1) ∷ [])

abbrev across : List ℚ
across = minus 1 ∷ n 1 ∷ []

is_dictionary : IsDictionary 2 normal (1 ∷ []) eliminated
unfolding whole fraction gcd ◌+ℚ◌ ◌*ℚ◌ neg_ℚ inverse_ℚ le_ℚ
is_dictionary = pivots_keep 2 normal (wide_test 2 normal refl) (unnamed 1) normal ((0, 1) ∷ [])
    (starts 2 normal (unnamed 1) (wide_test 2 normal refl) (λ i. no_column 1 (i - 1))) refl

free : (k : ℕ) → ◌≢◌ {A = ℕ} (slice_index_or (1 ∷ []) k 0) 2
free zero e = omega (arith, e)
free (suc k) e = omega (arith, e)

is_across : IsOrthogonalOff one_cut across
unfolding whole fraction gcd ◌+ℚ◌ ◌*ℚ◌ neg_ℚ inverse_ℚ le_ℚ
is_across = record {
  rows = normal;
  width = 2;
  columns = 2;
  basis = 1 ∷ [];
  dictionary = eliminated;
  is = record { table = normal; of_rows = IsElimTable.alone (AreElimRows.of_normals refl) refl refl; is = is_dictionary };
  col = 2;
  from_one = lit≤ tt;
  to_end = lit≤ tt;
  within = λ i. let under = below 3 (1 ∷ []) (i - 1) (lit< tt) refl in omega (arith, under);
  free = λ i. free (i - 1);
  clear = λ i l u none. let few : i ≤ 1 = u in absurd (named i l few none);
  same = same_vector_is across (ray_of 2 (1 ∷ []) eliminated 2) refl;
}
  where
    named : (i : ℕ) → 1 ≤ i → i ≤ 1 → basic_column (1 ∷ []) i ≡ 0 → ⊥
    named i l u e =
        let start : i - 1 ≡ 0 = omega (arith, l, u) in
        let one : 1 ≡ 0 = sym (ap (λ (k : ℕ). slice_index_or (1 ∷ []) k 0) start) ∙ e in
        omega (arith, one)

orthogonal : IsOverflow is_few one_cut (Scale across 1) (operation Div (minus 1) (n 1))
unfolding whole fraction gcd ◌+ℚ◌ ◌*ℚ◌ neg_ℚ inverse_ℚ le_ℚ
orthogonal = overflow_laws.scale is_few one_cut across 1 (n 1) refl (IsScaled.orthogonal is_across) (lit≤ tt) (lit≤ tt)
    (IsDivisor.own 2 (lit≤ tt) (lit≤ tt) refl) refl

-- ---- with two cuts
abbrev two_cuts : Setting
two_cuts = with_cuts (cut_entry ∷ second_cut ∷ [])

abbrev both : Table
both = (half ∷ half ∷ []) ∷ (n 1 ∷ n 0 ∷ []) ∷ []

not_both : All (λ (row : List ℚ). dot row across ≡ zero_ℚ) both → ⊥
unfolding whole fraction gcd ◌+ℚ◌ ◌*ℚ◌ neg_ℚ inverse_ℚ le_ℚ
not_both h = apart (minus 1) zero_ℚ refl (equal (minus 1) (dot (n 1 ∷ n 0 ∷ []) across) refl ∙ h 1 [] (lit< tt))

-- over no rows it is a unit vector, whose first entry is 1 or 0
pub no_unit : (x : ℚ) (v : List ℚ) → same_ℚ x one_ℚ ≡ false → same_ℚ x (neg_ℚ zero_ℚ) ≡ false → (width : ℕ) (basis : List ℕ) (col : ℕ) (d : Table) →
    length d ≡ 0 → x ∷ v ≡ ray_of width basis d col → ⊥
no_unit x v one none zero basis col d empty e =
    let many : length (x ∷ v) ≡ 0 = ap (λ (y : List ℚ). length y) e in omega (arith, many)
no_unit x v one none (suc width) basis col (r ∷ d) empty e = omega (arith, empty)
no_unit x v one none (suc width) basis col [] empty e = go (1 == col) basis (ap (λ (y : List ℚ). entry y 1) e)
  where
    go : (b : Bool) (basis : List ℕ) → x ≡ (if b then one_ℚ else neg_ℚ (value_of_column basis [] 1)) → ⊥
    go true basis e = apart x one_ℚ one e
    go false [] e = apart x (neg_ℚ zero_ℚ) none e
    go false (k ∷ basis) e = apart x (neg_ℚ zero_ℚ) none e

pub no_rows : (rows : Table) → All (Contains []) rows → length rows ≡ 0
no_rows [] h = refl
no_rows (r ∷ rows) h = absurd (Contains-nil r (h 0 r (omega arith)))

no_orthogonal : IsOrthogonalOff two_cuts across → ⊥
unfolding whole le_ℚ neg_ℚ
no_orthogonal o = go o.rows o.width (allowed o.is.of_rows) (orthogonal_vectors two_cuts across o) long (λ h. unit h o.is.of_rows)
  where
    long : 2 ≡ o.width
    long = ap (λ (v : List ℚ). length v) o.same ∙ length-list_from 1 o.width _

    allowed : IsElimTable two_cuts o.rows o.width o.is.table o.columns → AreElimRows two_cuts o.rows o.width
    allowed (IsElimTable.alone h same many) = h
    allowed (IsElimTable.beside h square same many) = AreElimRows.of_start o.width h

    unit : length o.rows ≡ 0 → IsElimTable two_cuts o.rows o.width o.is.table o.columns → ⊥
    unit none (IsElimTable.alone h same many) =
        no_unit (minus 1) (n 1 ∷ []) refl refl o.width o.basis o.col o.dictionary (o.is.is.one_each ∙ ap (λ (t : Table). length t) same ∙ none) o.same
    unit none (IsElimTable.beside h square same many) = omega (arith, none, square, long)

    go : (rows : Table) (width : ℕ) → AreElimRows two_cuts rows width → (AreWide width rows → All (λ (row : List ℚ). dot row across ≡ zero_ℚ) rows) → 2 ≡ width →
        (length rows ≡ 0 → ⊥) → ⊥
    go rows width (AreElimRows.of_normals e) h l u = of_both rows e h
      where
        of_both : (rows : Table) → rows ≡ both → (AreWide 2 rows → All (λ (row : List ℚ). dot row across ≡ zero_ℚ) rows) → ⊥
        of_both rows e h =
            not_both (subst (λ (rs : Table). All (λ (row : List ℚ). dot row across ≡ zero_ℚ) rs) e
            (h (subst (λ (rs : Table). AreWide 2 rs) (sym e) (wide_test 2 both refl))))
    go rows width (AreElimRows.of_start w (AreStartRows.of_image cuts all many rank e)) h l u = let three : 2 ≡ 3 = l in omega (arith, three)
    go rows width (AreElimRows.of_start w (AreStartRows.of_cone all)) h l u = u (no_rows rows all)
    go rows width (AreElimRows.of_start w (AreStartRows.of_base c known all)) h l u = let three : 2 ≡ 3 = l in omega (arith, three)

pub orthogonal_examples : OrthogonalExamples
orthogonal_examples = record { orthogonal = orthogonal; no_orthogonal = no_orthogonal }
