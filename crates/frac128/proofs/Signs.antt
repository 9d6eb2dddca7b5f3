-- Signs as they are computed.
use mir.Syntax.{w128}
use mir.Val.{to_z, of_z}
use Rattle.std.specs.Prelude.{◌≡◌, ◌^◌, ◌<◌, ℤ, pos, negsuc, unsigned_abs, Bool, true, false, not, int_lt, refl}
use Rattle.std.specs.Bool.{beq}
use Rattle.std.proofs.Common.{arith, ap, ◌∙◌}
use Rattle.std.proofs.lemmas.Bool.Decides.{nat_tests}
use Rattle.std.proofs.lemmas.Int.{to_z-of_z, fits_signed_from_abs}
use Rattle.frac128.specs.Signed.{is_below_zero, differ}

pub below_zero : (n : ℤ) → int_lt n (pos 0) ≡ is_below_zero n
below_zero (pos n) = grind (arith, nat_tests)
below_zero (negsuc n) = refl

pub differ_is : (s t : Bool) → not (beq s t) ≡ differ s t
differ_is true true = refl
differ_is true false = refl
differ_is false true = refl
differ_is false false = refl

pub opposite_is : (n m a b : ℤ) → n ≡ a → m ≡ b → not (beq (int_lt n (pos 0)) (int_lt m (pos 0))) ≡ differ (is_below_zero a) (is_below_zero b)
opposite_is n m a b e f =
    differ_is (int_lt n (pos 0)) (int_lt m (pos 0))
    ∙ ap (λ (z : Bool). differ z (int_lt m (pos 0))) (below_zero n ∙ ap is_below_zero e)
    ∙ ap (λ (z : Bool). differ (is_below_zero a) z) (below_zero m ∙ ap is_below_zero f)

-- a number of few bits is itself after it was stored
pub kept : (n : ℤ) → unsigned_abs n < 2 ^ 120 → to_z w128 (of_z w128 n) ≡ n
kept n h = to_z-of_z w128 n (fits_signed_from_abs w128 n (omega arith))

pub same_signs : (n m a b : ℤ) → n ≡ a → m ≡ b → differ (is_below_zero n) (is_below_zero m) ≡ differ (is_below_zero a) (is_below_zero b)
same_signs n m a b e f = ap (λ (z : ℤ). differ (is_below_zero z) (is_below_zero m)) e ∙ ap (λ (z : ℤ). differ (is_below_zero a) (is_below_zero z)) f
