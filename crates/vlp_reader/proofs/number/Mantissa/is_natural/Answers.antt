use Rattle.std.proofs.Common.{◌≡◌, refl, ◌<◌, ◌++◌, ◌&&◌, Bool, true, false, nat_lt, length, arith, ap, sym, ◌∙◌}
use Rattle.std.specs.Str.{all_ascii_digits}
use Rattle.std.proofs.lemmas.Bool.{lt-ltb}
use Rattle.vlp_reader.proofs.Digits.{natural-parts, no_digits}
use Rattle.vlp_reader.proofs.number.Mantissa.is_natural.Goals as goal

pub returns-then-len-eq0 : goal.returns-then-len-eq0
returns-then-len-eq0 c = sym (no_digits (c.args.self.whole.now ++ c.args.self.decimals.now) (sym c.len.ensures ∙ c.if-len-eq0.true))

pub returns-then-not-are_digits : goal.returns-then-not-are_digits
returns-then-not-are_digits c =
    let w = c.args.self.whole.now in
    let d = c.args.self.decimals.now in
    sym (natural-parts w d ∙ ap (λ (b : Bool). nat_lt 0 (length (w ++ d)) && (b && all_ascii_digits d)) (sym c.if-not-are_digits.ensures) ∙ and_false (nat_lt 0 (length (w ++ d))))
  where
    and_false : (b : Bool) → (b && false) ≡ false
    and_false true = refl
    and_false false = refl

pub returns : goal.returns
returns c =
    let w = c.args.self.whole.now in
    let d = c.args.self.decimals.now in
    let some : 0 < length (w ++ d) = omega arith in
    c.are_digits-2.ensures
    ∙ sym (natural-parts w d ∙ ap (λ (b : Bool). b && (all_ascii_digits w && all_ascii_digits d)) (lt-ltb 0 (length (w ++ d)) some)
    ∙ ap (λ (b : Bool). b && all_ascii_digits d) (sym c.if-not-are_digits.ensures))
