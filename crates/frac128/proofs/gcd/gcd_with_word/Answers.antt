use Rattle.std.proofs.Common.{ℕ, sym, subst}
use Rattle.std.specs.Int.{IsGcd}
use Rattle.std.proofs.lemmas.Nat.Gcd.{IsGcd-from_zero, IsGcd-from_mod}
use Rattle.frac128.proofs.gcd.gcd_with_word.Goals as goal

pub returns-then-less-eq0 : goal.returns-then-less-eq0
returns-then-less-eq0 c = IsGcd-from_zero _ _ c.if-less-eq0.true

pub returns : goal.returns
returns c =
    subst (λ (n : ℕ). IsGcd c.args.great c.args.less n) (sym c.from.ensures)
    (IsGcd-from_mod _ _ _ (subst (λ (n : ℕ). IsGcd c.args.less n c.gcd_words.result) c.remainder.ensures c.gcd_words.ensures))
