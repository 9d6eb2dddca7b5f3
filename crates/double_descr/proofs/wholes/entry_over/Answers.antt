use Rattle.std.specs.Prelude.{ℤ, ◌≡◌, ◌*ℤ◌, ◌+ℤ◌}
use Rattle.std.proofs.Common.{ap₂, ◌∙◌, subst}
use Rattle.std.proofs.lemmas.Option.{IfSome_then}
use Rattle.exact_field.specs.Over.{IsOver}
use Rattle.exact_field.proofs.Numerators.{kept}
use Rattle.double_descr.proofs.WholeNumbers.{entry_total}
use Rattle.double_descr.proofs.wholes.entry_over.Goals as goal

pub returns : goal.returns
returns g c = λ k h.
    let x = g.F.Field.value c.args.x in
    let y = g.F.Field.value c.args.y in
    let s = c.args.scales in
    let n : ℤ = c.in_ok-over.field-0 in
    let m : ℤ = c.in_ok-over-2.field-0 in
    let first : ℤ = c.in_ok-first.first in
    let second : ℤ = c.in_ok-second.second in
    let is_x : IsOver s.den x n = subst (λ (d : ℤ). IsOver d x n) (kept s.den s.den_small) c.in_ok-over.ensures in
    let is_y : IsOver s.other_den y m = subst (λ (d : ℤ). IsOver d y m) (kept s.other_den s.other_small) c.in_ok-over-2.ensures in
    let first_is : first ≡ n *ℤ s.below = c.in_ok-first.ensures.0 ∙ ap₂ (λ (a b : ℤ). a *ℤ b) (kept n is_x.1) (kept s.below s.below_small) in
    let second_is : second ≡ s.above *ℤ m = c.in_ok-second.ensures.0 ∙ ap₂ (λ (a b : ℤ). a *ℤ b) (kept s.above s.above_small) (kept m is_y.1) in
    IfSome_then c.plus.result c.plus.ensures
    (λ t e. entry_total k x y s n m first second t h is_x is_y first_is second_is c.in_ok-second.ensures.1
    (e.0 ∙ ap₂ (λ (a b : ℤ). a +ℤ b) (kept first c.in_ok-first.ensures.1) (kept second c.in_ok-second.ensures.1)) e.1)
