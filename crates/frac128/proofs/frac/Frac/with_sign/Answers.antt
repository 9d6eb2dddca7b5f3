use mir.Syntax.{w128}
use mir.Val.{to_z, of_z}
use Rattle.std.proofs.Common.{◌≡◌, ℕ, unsigned_abs, sym, ap, ◌∙◌, subst}
use Rattle.std.specs.Int.{IsGcd}
use Rattle.std.proofs.lemmas.Int.{to_z-of_z}
use Rattle.frac128.proofs.Holds.{size-signed}
use Rattle.frac128.proofs.frac.Frac.with_sign.Goals as goal

pub invariant_of-result : goal.invariant_of-result
invariant_of-result c =
    let size : unsigned_abs (to_z w128 (of_z w128 c.signed_number-num.result)) ≡ c.args.num =
    ap unsigned_abs (to_z-of_z w128 c.signed_number-num.result (record { sfits = c.signed_number-num.type_inv }) ∙ c.signed_number-num.ensures) ∙ size-signed c.args.negative c.args.num in
    (c.requires.positive, (subst (λ (n : ℕ). IsGcd n c.args.den 1) (sym size) c.requires.lowest, tt))
