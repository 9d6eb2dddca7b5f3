-- The examples, computed: tables are tested for equality.
use Rattle.std.proofs.Common.{◌≡◌, [], ◌∷◌, refl, ap₂, sym, Bool, true, false, true≢false}
use Rattle.std.specs.Prelude.{◌&&◌}
use Rattle.exact_field.specs.Gcd.{gcd}
use Rattle.exact_field.specs.Rational.{whole, fraction, ◌+ℚ◌, ◌*ℚ◌, neg_ℚ, inverse_ℚ, le_ℚ}
use Rattle.polyhedra.specs.DoubleDescription.{same_vector}
use Rattle.polyhedra.proofs.Tests.{both_true}
use Rattle.polyhedra.proofs.Tests.{same_vector_is}
use Rattle.tableaux.specs.Table.{Table}
use Rattle.tableaux.specs.Examples.{SimplexExamples}

unfoldable pub same_table : Table → Table → Bool
same_table [] [] = true
same_table [] (y ∷ e) = false
same_table (x ∷ d) [] = false
same_table (x ∷ d) (y ∷ e) = same_vector x y && same_table d e

pub same_table_is : (d e : Table) → same_table d e ≡ true → d ≡ e
unfolding same_table
same_table_is [] [] h = refl
same_table_is [] (y ∷ e) h = absurd (true≢false (sym h))
same_table_is (x ∷ d) [] h = absurd (true≢false (sym h))
same_table_is (x ∷ d) (y ∷ e) h =
    let b : (same_vector x y ≡ true) × (same_table d e ≡ true) = both_true (same_vector x y) (same_table d e) h in
    ap₂ (λ p q. p ∷ q) (same_vector_is x y b.0) (same_table_is d e b.1)

pub computed : SimplexExamples
unfolding same_table whole fraction gcd ◌+ℚ◌ ◌*ℚ◌ neg_ℚ inverse_ℚ le_ℚ
computed =
    record {
      table = same_table_is _ _ refl;
      phase_one = same_table_is _ _ refl;
      best = same_table_is _ _ refl;
      x = same_vector_is _ _ refl;
      dual = same_vector_is _ _ refl;
      farkas = same_vector_is _ _ refl;
      along = same_vector_is _ _ refl;
      order = refl;
    }
