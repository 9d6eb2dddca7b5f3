use mir.Syntax.{w128}
use Rattle.std.proofs.lemmas.Int.{to_z-of_z}
use Rattle.std.proofs.Common.{ℤ, ◌*ℤ◌, pos, ap, ◌∙◌}
use Rattle.frac128.proofs.Compared.{cmp_same_den, cmp_across}
use Rattle.frac128.proofs.Lowest.{stored}
use Rattle.tier_frac.proofs.Fitting.{kept_word}
use Rattle.tier_frac.proofs.words.Words.compare.Goals as goal

pub returns-then-self-other : goal.returns-then-self-other
returns-then-self-other c = c.cmp.ensures ∙ cmp_same_den c.args.self c.args.other c.self.inside.num c.other.inside.num c.self.inside.den c.other.inside.den (stored _ _ c.self.view_is) (stored _ _ c.other.view_is) c.if-self-other.true

pub returns : goal.returns
returns c =
    let num = kept_word c.self.inside.num c.self.inside.den c.self.invariant in
    let other_num = kept_word c.other.inside.num c.other.inside.den c.other.invariant in
    c.cmp-2.ensures
    ∙ cmp_across c.args.self c.args.other c.self.inside.num c.other.inside.num c.self.inside.den c.other.inside.den _ _ (stored _ _ c.self.view_is) (stored _ _ c.other.view_is)
    (to_z-of_z w128 c.signed_wide-left.result (record { sfits = c.signed_wide-left.type_inv }) ∙ c.signed_wide-left.ensures.value ∙ ap (λ (z : ℤ). z *ℤ pos c.other.inside.den) num)
    (to_z-of_z w128 c.signed_wide-right.result (record { sfits = c.signed_wide-right.type_inv }) ∙ c.signed_wide-right.ensures.value ∙ ap (λ (z : ℤ). z *ℤ pos c.self.inside.den) other_num)
