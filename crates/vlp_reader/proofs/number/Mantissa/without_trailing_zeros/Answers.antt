use Rattle.std.proofs.Common.{◌<◌, ◌++◌, ap, sym, ◌∙◌, length, arith, List, ℕ, subst}
use Rattle.std.proofs.lemmas.Bool.{eqb-true, eqb-false}
use Rattle.std.proofs.lemmas.List.{append-nil}
use Rattle.vlp_reader.proofs.Zeros.{trailing-append_some, trailing-append_none, nothing}
use Rattle.vlp_reader.proofs.number.Mantissa.without_trailing_zeros.Goals as goal
use Rattle.vlp_reader.proofs.number.Mantissa.without_trailing_zeros.Goals.{then-is_empty, else-is_empty}

pub returns : goal.returns
returns c =
    let w = c.args.self.whole.now in
    let d = c.args.self.decimals.now in
    let decimals = c.without_trailing_zeros-decimals.result.now in
    let end = c.without_trailing_zeros-decimals.ensures in
    elim c.if-is_empty.branch [
      | then-is_empty b ↦
          let empty = eqb-true (length decimals) 0 (sym b.if-is_empty.ensures) in
          ap (λ (l : List ℕ). c.if-is_empty.whole.now ++ l) (nothing decimals empty)
          ∙ append-nil c.if-is_empty.whole.now
          ∙ ap (λ x. x.now) b.whole-is ∙ b.without_trailing_zeros-whole.ensures
          ∙ sym (trailing-append_none w d (ap length (sym end) ∙ empty))
      | else-is_empty b ↦
          let some = eqb-false (length decimals) 0 (sym b.if-is_empty.ensures) in
          let positive : 0 < length decimals = omega arith in
          ap (λ x. x.now ++ decimals) b.whole-is
          ∙ ap (λ (l : List ℕ). w ++ l) end
          ∙ sym (trailing-append_some w d (subst (λ (l : List ℕ). 0 < length l) end positive))
    ]
