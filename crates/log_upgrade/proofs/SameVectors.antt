-- Vectors that a comparison does not tell apart are one.
use Rattle.std.proofs.Common.{◌≡◌, ℕ, List, [], ◌∷◌, refl, sym, ap, ap₂, ◌∙◌, map, Bool, true, false, true≢false, ◌==◌, ◌&&◌, eq-eqb, eqb-true}
use Rattle.std.specs.Bool.{Decides, one_answer}
use Rattle.std.specs.Cmp.{tied_itself, Equal-is}
use Rattle.std.specs.Ordering.{ordering_then, is_eq, is_lt, nat_cmp}
use Rattle.std.specs.declared.cmp.Ordering.{Ordering}
use Rattle.std.specs.declared.cmp.Ordering.TheVariants.{Less, Equal, Greater}
use Rattle.std.proofs.lemmas.Bool.{and_parts, and_from}
use Rattle.std.proofs.lemmas.Map.Lookups.{exact_unsigned}
use Rattle.exact_field.specs.Rational.{ℚ}
use Rattle.exact_field.specs.Order.{same_ℚ, cmp_ℚ}
use Rattle.exact_field.proofs.Comparison.{same_ℚ-is, equal-cmp_ℚ}
use Rattle.frac128.specs.declared.vectors.Spot.{Spot}
use Rattle.log_versions.specs.Upgrade.{same_spots}
use Rattle.log_upgrade.specs.Vectors.{pair, cmp_pairs, compared, vectors_total}

-- ---- by `same_spots`
spots_are : (u v : List Spot) → same_spots u v ≡ true → u ≡ v
spots_are [] [] h = refl
spots_are [] (t ∷ v) h = absurd (true≢false (sym h))
spots_are (s ∷ u) [] h = absurd (true≢false (sym h))
spots_are (s ∷ u) (t ∷ v) h =
    let a = and_parts (s.at == t.at && same_ℚ s.value t.value) (same_spots u v) h in
    let b = and_parts (s.at == t.at) (same_ℚ s.value t.value) a.0 in
    let place : s.at ≡ t.at = eqb-true s.at t.at b.0 in
    let value : s.value ≡ t.value = (same_ℚ-is s.value t.value).0 b.1 in
    ap₂ (λ (x : Spot) (xs : List Spot). x ∷ xs) (λ i. record { at = place i; value = value i }) (spots_are u v a.1)

spots_same : (u : List Spot) → same_spots u u ≡ true
spots_same [] = refl
spots_same (s ∷ u) =
    and_from (s.at == s.at && same_ℚ s.value s.value) (same_spots u u)
    (and_from (s.at == s.at) (same_ℚ s.value s.value) (eq-eqb s.at s.at refl) ((same_ℚ-is s.value s.value).1 refl)) (spots_same u)

pub same_decides : (u v : List Spot) → Decides (same_spots u v) (u ≡ v)
same_decides u v = (spots_are u v, λ e. ap (same_spots u) (sym e) ∙ spots_same u)

-- ---- by the order
both_equal : (a b : Ordering) → ordering_then a b ≡ Equal → (a ≡ Equal) × (b ≡ Equal)
both_equal Less b e = absurd (true≢false (ap is_lt e))
both_equal Equal b e = (refl, e)
both_equal Greater b e = cc

ordered_are : (u v : List Spot) → compared u v ≡ Equal → u ≡ v
ordered_are [] [] e = refl
ordered_are [] (t ∷ v) e = cc
ordered_are (s ∷ u) [] e = cc
ordered_are (s ∷ u) (t ∷ v) e =
    let a = both_equal (cmp_pairs (pair s) (pair t)) (compared u v) e in
    let b = both_equal (nat_cmp s.at t.at) (cmp_ℚ s.value t.value) a.0 in
    let place : s.at ≡ t.at = exact_unsigned s.at t.at b.0 in
    let value : s.value ≡ t.value = equal-cmp_ℚ s.value t.value b.1 in
    ap₂ (λ (x : Spot) (xs : List Spot). x ∷ xs) (λ i. record { at = place i; value = value i }) (ordered_are u v a.1)

order_decides : (u v : List Spot) → Decides (is_eq (compared u v)) (u ≡ v)
order_decides u v = (
  λ e. ordered_are u v ((Equal-is (compared u v)).0 e),
  λ e. ap (λ (w : List Spot). is_eq (compared u w)) (sym e) ∙ ap is_eq (tied_itself vectors_total u),
)

-- both tell whether two vectors are one
pub order_same : (u v : List Spot) → is_eq (compared u v) ≡ same_spots v u
order_same u v = one_answer (is_eq (compared u v)) (same_spots v u) (order_decides u v) (λ e. sym (spots_are v u e), λ e. (same_decides v u).1 (sym e))
