-- The order of sparse vectors, by which a map tells them apart.
use Rattle.std.specs.Prelude.{◌≡◌, ℕ, Bool, List, map, refl}
use Rattle.std.specs.Cmp.{IsTotalOrder, IsEquivalence, IsPartialEquivalence, IsPartialOrder, partial_equiv_from_equiv, partial_order_from_agreeing_total, on_total, then_total, nat_cmp_total, eq_by_cmp_equiv}
use Rattle.std.specs.Cmp.Lexicographic.{slice_cmp, lists_total}
use Rattle.std.specs.Ordering.{nat_cmp, ordering_then, on, is_eq, eq_by_cmp, as_partial_cmp}
use Rattle.std.specs.declared.cmp.Ordering.{Ordering}
use Rattle.exact_field.specs.Rational.{ℚ}
use Rattle.exact_field.specs.Order.{cmp_ℚ}
use Rattle.exact_field.proofs.Comparison.{cmp_ℚ-total}
use Rattle.frac128.specs.declared.vectors.Spot.{Spot}
use Rattle.log_upgrade.specs.declared.vectors.VectorKey.{VectorKey}

-- a place and its value
abbrev pub pair : Spot → ℕ × ℚ
pair s = (s.at, s.value)

-- by the place, and then by the value
abbrev pub cmp_pairs : ℕ × ℚ → ℕ × ℚ → Ordering
cmp_pairs p q = ordering_then (nat_cmp p.0 q.0) (cmp_ℚ p.1 q.1)

-- how one vector is to another
abbrev pub compared : List Spot → List Spot → Ordering
compared u v = slice_cmp cmp_pairs (map pair u) (map pair v)

-- how one key of the map is to another
abbrev pub cmp_keys : VectorKey → VectorKey → Ordering
cmp_keys a b = compared a.spots.now b.spots.now

-- whether two keys are one
abbrev pub same_keys : VectorKey → VectorKey → Bool
same_keys = eq_by_cmp cmp_keys

-- ---- the laws of a comparison
-- sparse vectors are totally ordered, and so are keys, which are equal where neither stands before
-- the other
pub vectors_total : IsTotalOrder compared
vectors_total =
    on_total (λ (u : List Spot). map pair u)
    (lists_total (then_total (on_total (λ (p : ℕ × ℚ). p.0) nat_cmp_total) (on_total (λ (p : ℕ × ℚ). p.1) cmp_ℚ-total)))

pub keys_total : IsTotalOrder cmp_keys
keys_total = on_total (λ (k : VectorKey). k.spots.now) vectors_total

pub keys_equivalence : IsEquivalence same_keys
keys_equivalence = eq_by_cmp_equiv keys_total

pub keys_partial_equivalence : IsPartialEquivalence same_keys
keys_partial_equivalence = partial_equiv_from_equiv keys_equivalence

pub keys_partial_order : IsPartialOrder same_keys (as_partial_cmp cmp_keys)
keys_partial_order = partial_order_from_agreeing_total cmp_keys keys_total (λ x y. refl) (λ x y. refl)

pub keys_match : (x y : VectorKey) → same_keys x y ≡ eq_by_cmp cmp_keys x y
keys_match x y = refl
