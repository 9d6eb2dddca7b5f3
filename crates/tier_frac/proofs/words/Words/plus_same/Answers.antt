use mir.Syntax.{w128}
use mir.Val.{to_z, of_z}
use Rattle.std.proofs.Common.{◌≡◌, ◌∙◌, sym, refl, ◌+ℤ◌, arith}
use Rattle.std.proofs.lemmas.Int.{ints}
use Rattle.frac128.proofs.Lowest.{stored}
use Rattle.tier_frac.proofs.Fitting.{fit_words}
use Rattle.tier_frac.proofs.Sums.{sum_over}
use Rattle.tier_frac.proofs.words.Words.plus_same.Goals as goal

pub returns : goal.returns
returns c =
    let left = stored _ _ c.self.view_is in
    let right = stored _ _ c.other.view_is in
    let num = (fit_words c.self.inside.num c.self.inside.den c.self.invariant).num in
    let other_num = (fit_words c.other.inside.num c.other.inside.den c.other.invariant).num in
    let total : to_z w128 (of_z w128 (to_z w128 (of_z w128 c.from.result) +ℤ to_z w128 (of_z w128 c.from-2.result))) ≡ c.self.inside.num +ℤ c.other.inside.num = omega (arith, ints, c.from.ensures, c.from-2.ensures) in
    c.reduce.ensures
    ∙ sum_over c.args.self c.args.other c.self.inside.num c.other.inside.num _ c.self.inside.den c.other.inside.den _ _ _ left right
    (left.den ∙ c.requires ∙ sym right.den) c.from-3.ensures total refl c.unsigned_abs.ensures.value
