use Rattle.std.proofs.Common.{rules, sym, ap, ap₂, arith, refl, ◌∙◌, ◌≡◌, ℕ, List, [], ◌∷◌, ◌++◌, length, map}
use Rattle.exact_field.specs.Rational.{ℚ, neg_ℚ}
use Rattle.std.proofs.Common.{take}
use Rattle.vlp_matrices.proofs.Lists.{map-take_more}
use Rattle.std.proofs.lemmas.List.{take_all}
use Rattle.entry_checks.proofs.line.negate.Goals as goal

pub returns-in_err-append : goal.returns-in_err-append
returns-in_err-append c = λ taken.
    let stopped = c.in_err-append.ensures taken in
    search (stopped, rules)

pub loop-x-preserved : goal.loop-x-preserved
loop-x-preserved c =
    (c.in_ok-append.ensures 0).2 ∙ ap₂ (λ (vs : List ℚ) (z : ℚ). vs ++ z ∷ []) c.loop-x.invariant c.neg.ensures
    ∙ sym (map-take_more neg_ℚ c.args.v.now c.loop-x.x-index c.x-item.result (omega arith) c.x-item.is)

pub returns : goal.returns
returns c = λ taken.
    let over : c.loop-x.x-index ≡ length c.args.v.now = omega arith in
    (refl, omega arith, c.loop-x.invariant ∙ ap (λ (k : ℕ). map neg_ℚ (take k c.args.v.now)) over ∙ ap (map neg_ℚ) (take_all (length c.args.v.now) c.args.v.now (omega arith)))
