-- The worked shares of c, computed.
use Rattle.std.proofs.Common.{◌≡◌, ◌≢◌, ℕ, ◌≤◌, false, true≢false, List, [], ◌∷◌, refl, sym, ap, subst, arith, ◌⊎◌, inl, inr, pos, negsuc}
use Rattle.std.proofs.Math.Dec.{lit≤, lit<}
use Rattle.exact_field.specs.Gcd.{gcd}
use Rattle.exact_field.specs.Rational.{ℚ, zero_ℚ, whole, fraction, ◌+ℚ◌, ◌*ℚ◌, neg_ℚ, inverse_ℚ, le_ℚ, ◌<ℚ◌}
use Rattle.exact_field.specs.Vector.{entry}
use Rattle.exact_field.specs.declared.op.Op.{Op}
use Rattle.exact_field.specs.declared.op.Op.TheVariants.{Add, Mul}
use Rattle.exact_field.specs.declared.op.Left.{Left}
use Rattle.polyhedra.specs.DoubleDescription.{magnitude}
use Rattle.polyhedra.proofs.Norming.{magnitude-positive}
use Rattle.polyhedra.proofs.Tests.{same_vector_is}
use Rattle.tableaux.specs.Table.{System, table_of}
use Rattle.tableaux.specs.Dictionary.{IsFullDictionaryOf, multipliers}
use Rattle.deriv_log.specs.declared.licence.Place.TheVariants.{Elim}
use Rattle.lp_form.specs.Programs.{benson_system, value_of, share_of}
use Rattle.overflows.specs.Base.{AreMultipliersOff, IsBaseStart}
use Rattle.overflows.specs.Examples.{n, half, minus_half, ones}
use Rattle.overflows.specs.ImageExamples.{leaning, weights, is_some, at_begin, ShareExamples}
use Rattle.overflows.specs.Licence.{IsOverflow}
use Rattle.overflows.specs.PairExamples.{third}
use Rattle.overflows.specs.Products.{AreBensonMultipliers, IsListStep, IsShareStep}
use Rattle.overflows.specs.Steps.{operation}
use Rattle.overflows.proofs.Given.{not_held}
use Rattle.overflows.proofs.Pivots.{Pivots, table_after}
use Rattle.overflows.proofs.Values.{apart, equal}
use Rattle.overflows.proofs.WorkedBase.{full_after}

-- ---- the multipliers
abbrev direction : List ℚ
direction = n 1 ∷ minus_half ∷ []

abbrev program : System
program = benson_system leaning ones direction false

abbrev pivots : Pivots
pivots = (0, 1) ∷ (3, 2) ∷ (2, 5) ∷ (1, 6) ∷ []

abbrev basis : List ℕ
basis = 1 ∷ 6 ∷ 5 ∷ 2 ∷ []

is_full : IsFullDictionaryOf program basis (table_after (table_of program) pivots)
unfolding whole fraction gcd ◌+ℚ◌ ◌*ℚ◌ neg_ℚ inverse_ℚ le_ℚ
is_full = full_after program basis pivots refl refl refl refl refl refl

abbrev read : List ℚ
read = n 0 ∷ n 0 ∷ fraction (pos 3) 2 ∷ fraction (negsuc 4) 2 ∷ []

read_off : AreMultipliersOff program read
unfolding whole fraction gcd ◌+ℚ◌ ◌*ℚ◌ neg_ℚ inverse_ℚ le_ℚ
read_off = record {
  basis = basis;
  dictionary = table_after (table_of program) pivots;
  full = is_full;
  reads = same_vector_is read (multipliers program (table_after (table_of program) pivots)) refl;
}

is_start : IsBaseStart leaning.objs at_begin.trail direction false
unfolding whole
is_start = IsBaseStart.live (record { number = 3; vector = n 1 ∷ minus_half ∷ n 0 ∷ [] }) (2, lit< tt, refl) refl

are_multipliers : AreBensonMultipliers at_begin read
are_multipliers = record { c = ones; known = refl; v = direction; t = false; base = is_start; read = read_off }

-- ---- the steps
operands_are : (o : Op) (a a' b b' : ℚ) → a ≡ a' → b ≡ b' → operation o a b ≡ operation o a' b'
operands_are o a a' b b' e f = cc

product : IsOverflow is_some at_begin (Elim [] [] 0 2 2) (operation Mul (fraction (pos 5) 2) half)
unfolding whole fraction gcd ◌+ℚ◌ ◌*ℚ◌ neg_ℚ inverse_ℚ le_ℚ
product = record {
  not_held = not_held is_some (operation Mul (fraction (pos 5) 2) half) refl refl;
  operands = inr (
    refl,
    refl,
    IsListStep.share refl (record {
      multipliers = read;
      read = are_multipliers;
      negative = refl;
      from_one = lit≤ tt;
      to_end = lit≤ tt;
      operands = inl (
        refl,
        operands_are Mul (fraction (pos 5) 2) (magnitude (value_of read)) half (entry weights 2) (equal (fraction (pos 5) 2) (magnitude (value_of read)) refl)
            (equal half (entry weights 2) refl),
      );
    }),
  );
}

sum : IsOverflow is_some at_begin (Elim [] [] 0 2 3) (operation Add (fraction (negsuc 2) 2) (fraction (pos 5) 4))
unfolding whole fraction gcd ◌+ℚ◌ ◌*ℚ◌ neg_ℚ inverse_ℚ le_ℚ
sum = record {
  not_held = not_held is_some (operation Add (fraction (negsuc 2) 2) (fraction (pos 5) 4)) refl refl;
  operands = inr (
    refl,
    refl,
    IsListStep.share refl (record {
      multipliers = read;
      read = are_multipliers;
      negative = refl;
      from_one = lit≤ tt;
      to_end = lit≤ tt;
      operands = inr (
        refl,
        operands_are Add (fraction (negsuc 2) 2) (entry (share_of leaning leaning.cone read) 2) (fraction (pos 5) 4) (magnitude (value_of read) *ℚ entry weights 2)
            (equal (fraction (negsuc 2) 2) (entry (share_of leaning leaning.cone read) 2) refl)
            (equal (fraction (pos 5) 4) (magnitude (value_of read) *ℚ entry weights 2) refl),
      );
    }),
  );
}

-- ---- and those that are none
-- the operands of a product of a share
factors : (col : ℕ) (a b : ℚ) (s : IsShareStep at_begin col 2 (operation Mul a b)) → (a ≡ magnitude (value_of s.multipliers)) × (b ≡ entry weights col)
factors col a b s = go s.operands
  where
    go : ((◌≡◌ {A = ℕ} 2 2) × (operation Mul a b ≡ operation Mul (magnitude (value_of s.multipliers)) (entry weights col)))
        ⊎ ((◌≡◌ {A = ℕ} 2 3) × (operation Mul a b ≡ operation Add (entry (share_of leaning leaning.cone s.multipliers) col)
        (magnitude (value_of s.multipliers) *ℚ entry weights col))) →
        (a ≡ magnitude (value_of s.multipliers)) × (b ≡ entry weights col)
    go (inl e) = (ap (λ (l : Left ℚ). l.a) e.1, ap (λ (l : Left ℚ). l.b) e.1)
    go (inr e) = let k = e.0 in absurd (omega (arith, k))

not_zero : (q : ℚ) → q <ℚ zero_ℚ → q ≢ zero_ℚ
unfolding whole le_ℚ
not_zero q h e = true≢false (sym (subst (λ (x : ℚ). x <ℚ zero_ℚ) e h))

with_sign : IsShareStep at_begin 2 2 (operation Mul (fraction (negsuc 4) 2) half) → ⊥
unfolding whole fraction gcd le_ℚ
with_sign s =
    let same : fraction (negsuc 4) 2 ≡ magnitude (value_of s.multipliers) = (factors 2 (fraction (negsuc 4) 2) half s).0 in
    let above : zero_ℚ <ℚ fraction (negsuc 4) 2 = subst (λ (x : ℚ). zero_ℚ <ℚ x) (sym same)
    (magnitude-positive (value_of s.multipliers) (not_zero (value_of s.multipliers) s.negative)) in
    true≢false (sym above)

other_weight : IsShareStep at_begin 2 2 (operation Mul (fraction (pos 5) 2) third) → ⊥
unfolding whole fraction gcd le_ℚ
other_weight s = apart third half refl (factors 2 (fraction (pos 5) 2) third s).1

no_weight : IsShareStep at_begin 3 2 (operation Mul (fraction (pos 5) 2) half) → ⊥
no_weight s = let few : 3 ≤ 2 = s.to_end in omega (arith, few)

pub share_examples : ShareExamples
share_examples = record { product = product; sum = sum; with_sign = with_sign; other_weight = other_weight; no_weight = no_weight }
