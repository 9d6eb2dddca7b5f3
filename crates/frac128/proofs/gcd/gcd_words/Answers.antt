use mir.Syntax.{w64}
use Rattle.std.proofs.Common.{ℕ, ◌*◌, ◌^◌, ap, sym, subst, ◌∙◌, refl, arith}
use Rattle.std.proofs.Math.Nat.{mul_comm}
use Rattle.std.specs.Int.{IsGcd}
use Rattle.std.proofs.lemmas.Nat.Gcd.{IsGcd-swap}
use Rattle.exact_field.specs.Rational.{coprime-one}
use Rattle.frac128.proofs.Binary.{odd_part_is, gcd_of_odd_parts, gcd_kept}
use Rattle.frac128.proofs.gcd.gcd_words.Goals as goal
use Rattle.frac128.proofs.gcd.gcd_words.Goals.{then-a-eq1-via-then-a-eq1, then-a-eq1-via-else-a-eq1+then-b-eq1}

pub returns-then-a-eq1 : goal.returns-then-a-eq1
returns-then-a-eq1 c =
    elim c.then-a-eq1.branch [
      | then-a-eq1-via-then-a-eq1 w ↦ IsGcd-swap c.args.b c.args.a 1 (subst (λ (n : ℕ). IsGcd c.args.b n 1) (sym w.if-a-eq1.true) (coprime-one c.args.b))
      | then-a-eq1-via-else-a-eq1+then-b-eq1 w ↦ subst (λ (n : ℕ). IsGcd c.args.a n 1) (sym w.if-b-eq1.true) (coprime-one c.args.a)
    ]

pub gcd_odd-requires-clause-a_odd : goal.gcd_odd-requires-clause-a_odd
gcd_odd-requires-clause-a_odd c = let other = c.if-a-eq0.false in (odd_part_is w64 c.args.a _ refl (omega arith) c.ranges.a.fits).odd

pub gcd_odd-requires-clause-b_odd : goal.gcd_odd-requires-clause-b_odd
gcd_odd-requires-clause-b_odd c = let other = c.if-b-eq0.false in (odd_part_is w64 c.args.b _ refl (omega arith) c.ranges.b.fits).odd

pub returns : goal.returns
returns c =
    let a_other = c.if-a-eq0.false in
    let b_other = c.if-b-eq0.false in
    let of_a = odd_part_is w64 c.args.a _ refl (omega arith) c.ranges.a.fits in
    let of_b = odd_part_is w64 c.args.b _ refl (omega arith) c.ranges.b.fits in
    gcd_kept c.args.a c.args.b _ _ _ (omega arith) c.ranges.a.fits
    (gcd_of_odd_parts c.args.a c.args.b _ _ _ _ c.gcd_odd.result of_a.whole of_b.whole of_a.odd of_b.odd c.gcd_odd.ensures)
    (mul_comm c.gcd_odd.result (2 ^ c.min.result) ∙ ap (λ n. 2 ^ n * c.gcd_odd.result) c.min.ensures)
