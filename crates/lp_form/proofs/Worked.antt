-- The worked programs, computed: systems are tested for equality.
use Rattle.std.proofs.Common.{◌≡◌, refl, Bool, true}
use Rattle.std.specs.Prelude.{◌&&◌}
use Rattle.exact_field.specs.Gcd.{gcd}
use Rattle.exact_field.specs.Rational.{whole, fraction, ◌+ℚ◌, ◌*ℚ◌, neg_ℚ, inverse_ℚ, le_ℚ}
use Rattle.polyhedra.specs.DoubleDescription.{same_vector}
use Rattle.polyhedra.proofs.Tests.{both_true, same_vector_is}
use Rattle.tableaux.specs.Table.{System}
use Rattle.tableaux.proofs.Computed.{same_table, same_table_is}
use Rattle.lp_form.specs.Examples.{Examples}
use Rattle.lp_form.proofs.Joined.{system, same_parts}

same_system : System → System → Bool
same_system s t = same_table s.equations t.equations && (same_vector s.right t.right && same_vector s.cost t.cost)

same_system_is : (s t : System) → same_system s t ≡ true → s ≡ t
unfolding same_system system
same_system_is s t h =
    let b : (same_table s.equations t.equations ≡ true) × ((same_vector s.right t.right && same_vector s.cost t.cost) ≡ true) =
    both_true (same_table s.equations t.equations) (same_vector s.right t.right && same_vector s.cost t.cost) h in
    let d : (same_vector s.right t.right ≡ true) × (same_vector s.cost t.cost ≡ true) =
    both_true (same_vector s.right t.right) (same_vector s.cost t.cost) b.1 in
    same_parts (same_table_is s.equations t.equations b.0) (same_vector_is s.right t.right d.0) (same_vector_is s.cost t.cost d.1)

pub examples : Examples
unfolding same_table same_system whole fraction gcd ◌+ℚ◌ ◌*ℚ◌ neg_ℚ inverse_ℚ le_ℚ
examples =
    record {
      of_sides =
          record {
            feasible = same_system_is _ _ refl;
            benson = same_system_is _ _ refl;
            benson_generators = same_system_is _ _ refl;
            benson_dual_form = same_system_is _ _ refl;
            weight_generators = same_system_is _ _ refl;
            weight_dual_form = same_system_is _ _ refl;
          };
      of_cone =
          record {
            interior = same_system_is _ _ refl;
            interior_given = same_system_is _ _ refl;
            interior_dual_form = same_system_is _ _ refl;
            pointed = same_system_is _ _ refl;
            pointed_dual_form = same_system_is _ _ refl;
            interior_orthant = same_system_is _ _ refl;
            pointed_orthant = same_system_is _ _ refl;
          };
      read_off =
          record {
            u = same_vector_is _ _ refl;
            w = same_vector_is _ _ refl;
            v = same_vector_is _ _ refl;
            v_generators = refl;
            choice = same_vector_is _ _ refl;
            value = same_vector_is _ _ refl;
            share = same_vector_is _ _ refl;
            full_share = same_vector_is _ _ refl;
          };
    }
