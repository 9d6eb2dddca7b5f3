-- Vectors whose negatives are in a cone too: those with a positive multiplier in a combination that
-- is 0.
use Rattle.std.proofs.Common.{◌≡◌, ℕ, zero, suc, List, [], ◌∷◌, length, All, Contains, refl, sym, ap, ◌∙◌, subst, arith, ◌<◌, ◌≤◌, ◌⊎◌, inl, inr, slice_index_or}
use Rattle.std.proofs.lemmas.List.{length-map}
use Rattle.std.proofs.lemmas.List.Elements.{All-weaker, All-head, All-tail}
use Rattle.exact_field.specs.Rational.{ℚ, zero_ℚ, inverse_ℚ, ◌+ℚ◌, ◌*ℚ◌, neg_ℚ, ◌<ℚ◌}
use Rattle.exact_field.specs.Vector.{dot}
use Rattle.polyhedra.specs.Cone.{IsGenerated, IsInDual}
use Rattle.polyhedra.specs.Negatives.{negated}
use Rattle.polyhedra.specs.Vectors.{AreWide, zeros, scaled, values}
use Rattle.polyhedra.proofs.Algebra.{mul_neg, add_cancel}
use Rattle.polyhedra.proofs.Cones.{IsSplit, split_support}
use Rattle.polyhedra.proofs.Duality.{dual_cones}
use Rattle.polyhedra.proofs.Generated.{generated_value, generated_width, generated_scaled, generated_generator}
use Rattle.polyhedra.proofs.Laws.{add_comm, add_neg, le_of_lt, le_refl, mul_comm}
use Rattle.polyhedra.proofs.Linear.{dot-plus, dot-scaled, dot-zeros, length-scaled, same_wide}
use Rattle.polyhedra.proofs.Lists.{HoldsAt, HasWidth, Nonneg}
use Rattle.polyhedra.proofs.Members.{all_of_members, member_of}
use Rattle.polyhedra.proofs.Negatives.{dot-negated}
use Rattle.polyhedra.proofs.Order.{lt_irrefl, inverse_positive, mul_inverse_cancel, le_of_eq}
use Rattle.polyhedra.proofs.Support.{InSupport, support_listed, support_positive}
use Rattle.tableaux.specs.Table.{unit}
use Rattle.tableaux.proofs.Places.{length-list_from}
use Rattle.vlp_problem.specs.declared.problem.Cone.TheVariants.{Gens}
use Rattle.cone_rules.specs.Faults.{HasInterior, HasNoLine}
use Rattle.cone_rules.specs.Laws.{IsPositiveCombination}
use Rattle.cone_rules.proofs.Parts.{dot-zeros_left}
use Rattle.cone_rules.proofs.Ranks.{unit_not_zero}

-- a member whose multiplier is positive in a combination that is 0: its negative is a combination
-- of the others
pub negative_in : (q : ℕ) (vectors : List (List ℚ)) (v : List ℚ) → AreWide q vectors → (g : IsGenerated q vectors (zeros q)) → InSupport g.multipliers vectors v → length v ≡ q →
    IsGenerated q vectors (negated v)
negative_in q vectors v w g m long =
    subst (λ (u : List ℚ). IsGenerated q vectors u) same
    (generated_scaled q vectors (inverse_ℚ split.factor) split.others w (le_of_lt zero_ℚ (inverse_ℚ split.factor) (inverse_positive split.factor split.positive)) split.others_is)
  where
    split : IsSplit q vectors (zeros q) v
    split = split_support q vectors (zeros q) v w g m

    others_value : (r : List ℚ) → dot r split.others ≡ split.factor *ℚ dot r (negated v)
    others_value r =
        let sum : dot r split.others +ℚ split.factor *ℚ dot r v ≡ zero_ℚ =
        add_comm (dot r split.others) (split.factor *ℚ dot r v)
        ∙ ap (λ x. x +ℚ dot r split.others) (sym (dot-scaled r split.factor v)) ∙ sym (dot-plus r (scaled split.factor v) split.others) ∙ ap (λ u. dot r u) (sym split.same)
        ∙ dot-zeros r q in
        let back : split.factor *ℚ dot r (negated v) +ℚ split.factor *ℚ dot r v ≡ zero_ℚ =
        ap (λ x. x +ℚ split.factor *ℚ dot r v) (ap (λ x. split.factor *ℚ x) (dot-negated r v) ∙ mul_neg split.factor (dot r v))
        ∙ add_comm (neg_ℚ (split.factor *ℚ dot r v)) (split.factor *ℚ dot r v) ∙ add_neg (split.factor *ℚ dot r v) in
        add_cancel (dot r split.others) (split.factor *ℚ dot r (negated v)) (split.factor *ℚ dot r v) (sum ∙ sym back)

    same : scaled (inverse_ℚ split.factor) split.others ≡ negated v
    same =
        same_wide q (scaled (inverse_ℚ split.factor) split.others) (negated v)
        (length-scaled (inverse_ℚ split.factor) split.others ∙ generated_width q vectors split.others w split.others_is) (length-map v neg_ℚ ∙ long)
        (λ r. dot-scaled r (inverse_ℚ split.factor) split.others ∙ ap (λ x. inverse_ℚ split.factor *ℚ x) (others_value r)
        ∙ undo split.factor (dot r (negated v)) split.positive)
      where
        undo : (a b : ℚ) → zero_ℚ <ℚ a → inverse_ℚ a *ℚ (a *ℚ b) ≡ b
        undo a b p =
            sym (Rattle.polyhedra.proofs.Laws.mul_assoc (inverse_ℚ a) a b) ∙ ap (λ x. x *ℚ b) (mul_comm (inverse_ℚ a) a)
            ∙ Rattle.polyhedra.proofs.Laws.mul_assoc a (inverse_ℚ a) b ∙ mul_inverse_cancel a b p

-- a vector at a number where the multiplier is positive is in the support
pub support_at : (ms : List ℚ) (vs : List (List ℚ)) (i : ℕ) → i < length vs → zero_ℚ <ℚ slice_index_or ms i zero_ℚ → InSupport ms vs (slice_index_or vs i [])
support_at [] vs i l p = absurd (lt_irrefl zero_ℚ p)
support_at (m ∷ ms) [] i l p = absurd (omega arith)
support_at (m ∷ ms) (v ∷ vs) zero l p = inl (p, refl)
support_at (m ∷ ms) (v ∷ vs) (suc i) l p = inr (support_at ms vs i (omega arith) p)

all_supported : (ms : List ℚ) (vs : List (List ℚ)) (v : List ℚ) → length ms ≡ length vs → All (λ x. zero_ℚ <ℚ x) ms → Contains vs v → InSupport ms vs v
all_supported [] [] v h p c = absurd (Rattle.polyhedra.proofs.Lists.Contains-nil v c)
all_supported [] (u ∷ vs) v h p c = absurd (omega arith)
all_supported (m ∷ ms) [] v h p c = absurd (omega arith)
all_supported (m ∷ ms) (u ∷ vs) v h p c =
    go (Rattle.polyhedra.proofs.Lists.Contains-cases u vs v c) (λ d. all_supported ms vs v (omega arith) (All-tail (λ x. zero_ℚ <ℚ x) m ms p) d)
  where
    go : (u ≡ v) ⊎ Contains vs v → (Contains vs v → InSupport ms vs v) → InSupport (m ∷ ms) (u ∷ vs) v
    go (inl e) again = inl (All-head (λ x. zero_ℚ <ℚ x) m ms p, e)
    go (inr d) again = inr (again d)

-- positive multipliers of all generators do not combine them to 0 where the cone is solid and
-- pointed
pub whole_or_zero : (q : ℕ) (vectors : List (List ℚ)) (mu : List ℚ) → AreWide q vectors → IsPositiveCombination q vectors mu (zeros q) → 1 ≤ q →
    HasInterior q (Gens vectors) → HasNoLine q (Gens vectors) → ⊥
whole_or_zero q vectors mu w h some solid pointed = go (support_positive member.multipliers vectors (unit q 1) member.at_least_zero value_positive)
  where
    generated : IsGenerated q vectors (zeros q)
    generated = record {
      multipliers = mu;
      one_each = h.one_each;
      at_least_zero = All-weaker (λ x. zero_ℚ <ℚ x) Nonneg (λ x p. le_of_lt zero_ℚ x p) mu h.sign;
      combined = sym h.combined;
    }

    each_zero : (v : List ℚ) → Contains vectors v → v ≡ zeros q
    each_zero v c =
        pointed v (generated_generator q vectors v w c)
        (negative_in q vectors v w generated (all_supported mu vectors v h.one_each h.sign c) (member_of (HasWidth q) vectors v w.wide c))

    member : IsGenerated q vectors solid.0
    member = solid.1.member

    -- each vector is in the dual cone
    dual : IsInDual q (IsGenerated q vectors) (unit q 1)
    dual = (dual_cones.of_generated q vectors (unit q 1) w).1 record {
      wide = length-list_from 1 q _;
      within = all_of_members (HoldsAt (unit q 1)) vectors
          (λ v c. le_of_eq zero_ℚ (dot v (unit q 1)) (sym (ap (λ u. dot u (unit q 1)) (each_zero v c) ∙ dot-zeros_left q (unit q 1))));
    }

    value_positive : zero_ℚ <ℚ dot member.multipliers (values vectors (unit q 1))
    value_positive =
        subst (λ (x : ℚ). zero_ℚ <ℚ x) (generated_value q vectors solid.0 member (unit q 1))
        (solid.1.inside (unit q 1) dual (unit_not_zero q 1 (omega arith) some))

    go : (g : List ℚ) × InSupport member.multipliers vectors g × (zero_ℚ <ℚ dot g (unit q 1)) → ⊥
    go t =
        lt_irrefl zero_ℚ (subst (λ (x : ℚ). zero_ℚ <ℚ x)
        (ap (λ u. dot u (unit q 1)) (each_zero t.0 (support_listed member.multipliers vectors t.0 t.1)) ∙ dot-zeros_left q (unit q 1)) t.2)
