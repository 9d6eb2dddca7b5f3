use Rattle.std.proofs.Common.{◌<◌, ◌++◌, ap, sym, ◌∙◌, length, arith, List, ℕ, subst}
use Rattle.std.proofs.lemmas.Bool.{eqb-true, eqb-false}
use Rattle.vlp_reader.specs.Number.{without_leading_zeros}
use Rattle.vlp_reader.proofs.Zeros.{leading-append_some, leading-append_none, nothing}
use Rattle.vlp_reader.proofs.number.Mantissa.without_leading_zeros.Goals as goal
use Rattle.vlp_reader.proofs.number.Mantissa.without_leading_zeros.Goals.{then-is_empty, else-is_empty}

pub returns : goal.returns
returns c =
    let w = c.args.self.whole.now in
    let d = c.args.self.decimals.now in
    let whole = c.without_leading_zeros-whole.result.now in
    let front = c.without_leading_zeros-whole.ensures in
    elim c.if-is_empty.branch [
      | then-is_empty b ↦
          let empty = eqb-true (length whole) 0 (sym b.if-is_empty.ensures) in
          ap (λ (l : List ℕ). l ++ c.if-is_empty.decimals.now) (nothing whole empty)
          ∙ ap (λ x. x.now) b.decimals-is ∙ b.without_leading_zeros-decimals.ensures
          ∙ sym (leading-append_none w d (ap length (sym front) ∙ empty))
      | else-is_empty b ↦
          let some = eqb-false (length whole) 0 (sym b.if-is_empty.ensures) in
          let positive : 0 < length whole = omega arith in
          ap (λ (l : List ℕ). l ++ c.if-is_empty.decimals.now) front
          ∙ ap (λ x. without_leading_zeros w ++ x.now) b.decimals-is
          ∙ sym (leading-append_some w d (subst (λ (l : List ℕ). 0 < length l) front positive))
    ]
