use Rattle.std.proofs.Common.{◌≡◌, ◌*◌, ◌^◌, ◌%◌, sym, ap, ◌∙◌, arith, refl}
use Rattle.std.proofs.lemmas.Nat.{mul-mod_first}
use Rattle.frac128.proofs.Inverse.{newton_bits}
use Rattle.frac128.proofs.exact.inverse.Goals as goal

pub returns : goal.returns
returns c =
    let low : c.args.odd * c.from-low.result % 2 ^ 64 ≡ 1 =
    ap (λ z. c.args.odd * z % 2 ^ 64) c.from-low.ensures ∙ sym (mul-mod_first c.args.odd c.word_inverse.result (2 ^ 64)) ∙ c.word_inverse.ensures in
    newton_bits 64 128 c.args.odd c.from-low.result _ _ _ (omega arith) (omega arith) low refl refl refl
