use Rattle.std.proofs.Common.{ℕ, sym, subst}
use Rattle.std.specs.Int.{IsGcd}
use Rattle.std.proofs.Math.Nat.{pos_of_dvd_of_pos}
use Rattle.exact_field.specs.Rational.{coprime-one}
use Rattle.frac128.proofs.gcd.gcd.Goals as goal

pub returns-then-b-eq1-clause-gcd : goal.returns-then-b-eq1-clause-gcd
returns-then-b-eq1-clause-gcd c = subst (λ (n : ℕ). IsGcd c.args.a n 1) (sym c.if-b-eq1.true) (coprime-one c.args.a)

pub returns-then-b-le-WORD-clause-positive : goal.returns-then-b-le-WORD-clause-positive
returns-then-b-le-WORD-clause-positive c = λ h. pos_of_dvd_of_pos c.gcd_with_word.ensures.1 h

pub returns-then-a-le-WORD-clause-positive : goal.returns-then-a-le-WORD-clause-positive
returns-then-a-le-WORD-clause-positive c = λ h. pos_of_dvd_of_pos c.gcd_with_word-then-a-le-WORD.ensures.0 h

pub returns-else-a-le-WORD-clause-positive : goal.returns-else-a-le-WORD-clause-positive
returns-else-a-le-WORD-clause-positive c = λ h. pos_of_dvd_of_pos c.gcd_wide.ensures.1 h
