-- The first cut of Benson's program of the small file, by ten pivots.
use Rattle.std.proofs.Common.{◌≡◌, ℕ, ◌-◌, ◌<◌, ◌≤◌, true, List, [], ◌∷◌, refl, arith, pos}
use Rattle.std.specs.List.{list_all}
use Rattle.std.proofs.Math.Dec.{lit<}
use Rattle.exact_field.specs.Gcd.{gcd}
use Rattle.exact_field.specs.Rational.{ℚ, zero_ℚ, whole, fraction, ◌+ℚ◌, ◌*ℚ◌, neg_ℚ, inverse_ℚ, le_ℚ}
use Rattle.polyhedra.specs.Vectors.{AtLeastZero, AreWide, zeros, values}
use Rattle.polyhedra.proofs.Lists.{nonneg-nil, nonneg-cons}
use Rattle.polyhedra.proofs.Tests.{both_true, same_vector_is}
use Rattle.tableaux.specs.Simplex.{IsSolution}
use Rattle.tableaux.specs.Table.{Table, System, table_of}
use Rattle.tableaux.specs.Dictionary.{IsDictionary, IsFullDictionaryOf, solution}
use Rattle.tableaux.proofs.Eliminated.{starts}
use Rattle.overflows.specs.Examples.{plain, n, ones}
use Rattle.lp_form.specs.Programs.{benson_system, side_total, u_of, w_of}
use Rattle.upper_image.specs.Spots.{dense}
use Rattle.overflows.specs.Base.{IsSolutionOff, IsBaseCut}
use Rattle.overflows.proofs.Pivots.{Pivots, table_after, pivots_keep, unnamed, no_column, below, past, named}
use Rattle.overflows.proofs.Values.{wide_test}

abbrev program : System
program = benson_system plain ones (zeros plain.objs) true

-- the artificial columns, and then w_1, w_2, k_1, the third u and k_2
abbrev pivots : Pivots
pivots = (0, 11) ∷ (1, 12) ∷ (2, 13) ∷ (3, 14) ∷ (4, 15) ∷ (2, 5) ∷ (3, 6) ∷ (4, 9) ∷ (0, 3) ∷ (1, 10) ∷ []

abbrev start : Table
start = table_of program

abbrev basis : List ℕ
basis = 3 ∷ 10 ∷ 5 ∷ 6 ∷ 9 ∷ []

wide : AreWide 16 start
unfolding whole fraction gcd ◌+ℚ◌ ◌*ℚ◌ neg_ℚ inverse_ℚ le_ℚ
wide = wide_test 16 start refl

is_dictionary : IsDictionary 16 start basis (table_after start pivots)
unfolding whole fraction gcd ◌+ℚ◌ ◌*ℚ◌ neg_ℚ inverse_ℚ le_ℚ
is_dictionary = pivots_keep 16 start wide (unnamed 5) start pivots (starts 16 start (unnamed 5) wide (λ i. no_column 5 (i - 1))) refl

is_full : IsFullDictionaryOf program basis (table_after start pivots)
unfolding whole
is_full = record {
  dictionary = record {
    columns = record {
      within = λ i l. below 16 basis (i - 1) (lit< tt) refl;
      equations_only = λ i l. let more : 5 < i = l in past basis (i - 1) (omega (arith, more));
    };
    dictionary = is_dictionary;
  };
  full = λ i l u. let few : i ≤ 5 = u in named basis (i - 1) refl (omega (arith, l, few));
}

abbrev half : ℚ
half = fraction (pos 1) 2

abbrev z : List ℚ
z = n 0 ∷ n 0 ∷ n 1 ∷ n 0 ∷ half ∷ half ∷ n 0 ∷ n 0 ∷ half ∷ half ∷ []

is_read : IsSolutionOff program z
unfolding whole fraction gcd ◌+ℚ◌ ◌*ℚ◌ neg_ℚ inverse_ℚ le_ℚ
is_read = record {
  basis = basis;
  dictionary = table_after start pivots;
  full = is_full;
  reads = same_vector_is z (solution program basis (table_after start pivots)) refl;
}

pub at_least_zero : (v : List ℚ) → list_all (le_ℚ zero_ℚ) v ≡ true → AtLeastZero v
at_least_zero [] h = nonneg-nil
at_least_zero (x ∷ v) h =
    let b : (le_ℚ zero_ℚ x ≡ true) × (list_all (le_ℚ zero_ℚ) v ≡ true) = both_true (le_ℚ zero_ℚ x) (list_all (le_ℚ zero_ℚ) v) h in
    nonneg-cons x v b.0 (at_least_zero v b.1)

solves : IsSolution program.equations program.right z
unfolding whole fraction gcd ◌+ℚ◌ ◌*ℚ◌ neg_ℚ inverse_ℚ le_ℚ
solves = record { at_least_zero = at_least_zero z refl; equal = same_vector_is (values program.equations z) program.right refl }

pub first_cut : IsBaseCut plain ones (half ∷ half ∷ []) (record { at = 3; value = n 1 } ∷ []) []
unfolding whole fraction gcd ◌+ℚ◌ ◌*ℚ◌ neg_ℚ inverse_ℚ le_ℚ
first_cut = IsBaseCut.of_benson z (is_read, solves) (same_vector_is (half ∷ half ∷ []) (w_of plain z) refl)
    (record { dual = same_vector_is (dense (side_total plain) (record { at = 3; value = n 1 } ∷ [])) (u_of plain z) refl; cone = refl })
