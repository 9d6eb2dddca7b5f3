-- The orthant, and cones of vectors of full rank; what the tests of a vector by rows show.
use Rattle.std.proofs.Common.{◌≡◌, ◌≢◌, ℕ, List, [], length, All, refl, sym, ap, ◌∙◌, subst, arith, ◌≤◌, ◌-◌, inl, inr, slice_index_or}
use Rattle.std.proofs.Math.ListN.{length-replicate}
use Rattle.std.proofs.lemmas.List.Elements.{All-replicate}
use Rattle.exact_field.specs.Rational.{ℚ, zero_ℚ, one_ℚ, ◌≤ℚ◌, ◌<ℚ◌}
use Rattle.exact_field.specs.Vector.{entry, dot}
use Rattle.polyhedra.specs.Cone.{IsGenerated, IsInCone, IsInterior}
use Rattle.polyhedra.specs.Negatives.{negated}
use Rattle.polyhedra.specs.Vectors.{AtLeastZero, zeros, combination}
use Rattle.polyhedra.proofs.Duality.{interior_of_generated, interior_of_rows}
use Rattle.polyhedra.proofs.Laws.{le_refl, zero_lt_one, le_of_lt}
use Rattle.polyhedra.proofs.Linear.{length-zeros}
use Rattle.polyhedra.proofs.Lists.{HoldsAt}
use Rattle.polyhedra.proofs.Members.{all_of_members, member_of}
use Rattle.polyhedra.proofs.Negatives.{dot-negated}
use Rattle.polyhedra.proofs.Order.{lt_irrefl}
use Rattle.polyhedra.proofs.Entries.{entry-negated, slice-negated}
use Rattle.tableaux.specs.Table.{unit}
use Rattle.tableaux.proofs.Definition.{slice_eq, unit_entry}
use Rattle.tableaux.proofs.Places.{delta, delta-same, same_or_other, if_true, if_false}
use Rattle.tableaux.proofs.Unique.{dot-unit, slice-zeros}
use Rattle.vlp_problem.specs.declared.problem.Cone.TheVariants.{Orthant}
use Rattle.upper_image.specs.OrderingCone.{IsNonnegative, IsIn}
use Rattle.upper_image.proofs.ConvexCones.{orthant_same, interior_as}
use Rattle.upper_image.proofs.Units.{units, units_wide, units_positive}
use Rattle.lp_form.proofs.Systems.{length-unit}
use Rattle.cone_rules.specs.Faults.{HasNoLine, ShowsOutside}
use Rattle.cone_rules.specs.Laws.{OrthantLaws, RankLaws}
use Rattle.cone_rules.proofs.Parts.{ones, all_entries, all_at, zero_of_both}
use Rattle.cone_rules.proofs.Rows.{no_spot}

-- ---- unit vectors
pub unit_not_zero : (n k : ℕ) → 1 ≤ k → k ≤ n → unit n k ≢ zeros n
unit_not_zero n k l u e =
    lt_irrefl zero_ℚ (subst (λ (x : ℚ). zero_ℚ <ℚ x)
    (sym (delta-same k k refl) ∙ sym (unit_entry n k k l u) ∙ ap (λ v. entry v k) e ∙ slice-zeros n (k - 1)) zero_lt_one)

delta_nonneg : (j k : ℕ) → zero_ℚ ≤ℚ delta j k
delta_nonneg j k = elim (same_or_other j k) [
  | inl s ↦ subst (λ (x : ℚ). zero_ℚ ≤ℚ x) (sym (if_true _ one_ℚ zero_ℚ s.1)) (le_of_lt zero_ℚ one_ℚ zero_lt_one)
  | inr o ↦ subst (λ (x : ℚ). zero_ℚ ≤ℚ x) (sym (if_false _ one_ℚ zero_ℚ o.1)) (le_refl zero_ℚ)
]

pub unit_nonneg : (n k : ℕ) → AtLeastZero (unit n k)
unit_nonneg n k =
    all_entries (λ x. zero_ℚ ≤ℚ x) (unit n k)
    (λ j l u. subst (λ (x : ℚ). zero_ℚ ≤ℚ x) (sym (unit_entry n k j l (omega (arith, u, length-unit n k)))) (delta_nonneg k j))

-- ---- the orthant
orthant_inside : (q : ℕ) (f : List ℚ) → length f ≡ q → All (λ x. zero_ℚ <ℚ x) f → IsInterior q (IsIn q Orthant) f
orthant_inside q f long h =
    interior_as q (IsInCone q (units q)) (IsNonnegative q) f (orthant_same q) (interior_of_rows q (units q) f (units_wide q) long (units_positive q f long h))

orthant_pointed : (q : ℕ) → HasNoLine q Orthant
orthant_pointed q d h k =
    slice_eq d (zeros q) (h.wide ∙ sym (length-zeros q))
    (λ i l. zero_of_both (slice_index_or d i zero_ℚ) (h.entries i zero_ℚ l)
    (subst (λ (x : ℚ). zero_ℚ ≤ℚ x) (slice-negated d i) (k.entries i zero_ℚ (omega (arith, l, k.wide, h.wide))))
    ∙ sym (slice-zeros q i))

orthant_outside : (q : ℕ) (f : List ℚ) (k : ℕ) → 1 ≤ k → k ≤ q → entry f k ≤ℚ zero_ℚ → ShowsOutside q Orthant f (unit q k) []
orthant_outside q f k l u h =
    record {
      lengths = length-unit q k;
      vector = no_spot 0;
      not_zero = unit_not_zero q k l u;
      cone = record { lengths = refl; cone = unit_nonneg q k };
      sign = subst (λ (x : ℚ). x ≤ℚ zero_ℚ) (sym (dot-unit q k f l u)) h;
    }

pub orthant_laws : OrthantLaws
orthant_laws =
    record {
      solid = λ q. (ones q, orthant_inside q (ones q) (length-replicate q one_ℚ) (All-replicate (λ x. zero_ℚ <ℚ x) q one_ℚ zero_lt_one));
      pointed = orthant_pointed;
      inside = orthant_inside;
      outside = orthant_outside;
    }

-- ---- ranks
-- rows that are at least 0 at a vector and at its negative are 0 there
pub zero_at_both : (q : ℕ) (vectors : List (List ℚ)) (d : List ℚ) → IsInCone q vectors d → IsInCone q vectors (negated d) → All (λ v. dot v d ≡ zero_ℚ) vectors
zero_at_both q vectors d h k =
    all_of_members (λ v. dot v d ≡ zero_ℚ) vectors
    (λ v c. zero_of_both (dot v d) (member_of (HoldsAt d) vectors v h.within c)
    (subst (λ (x : ℚ). zero_ℚ ≤ℚ x) (dot-negated v d) (member_of (HoldsAt (negated d)) vectors v k.within c)))

pub rank_laws : RankLaws
rank_laws =
    record {
      solid = λ q vectors wide full. (
        combination q (ones (length vectors)) vectors,
        interior_of_generated q vectors (ones (length vectors)) wide full (length-replicate (length vectors) one_ℚ)
            (All-replicate (λ x. zero_ℚ <ℚ x) (length vectors) one_ℚ zero_lt_one),
      );
      inside = λ q vectors mu f wide full h. subst (λ (y : List ℚ). IsInterior q (IsGenerated q vectors) y) h.combined
          (interior_of_generated q vectors mu wide full h.one_each h.sign);
      pointed = λ q vectors full d h k. full d h.wide (zero_at_both q vectors d h k);
    }
