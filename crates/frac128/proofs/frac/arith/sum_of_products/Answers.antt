use mir.Syntax.{w128}
use mir.Val.{to_z, of_z}
use Rattle.std.proofs.Common.{ℤ, FitsSigned, pos, ◌≡◌, ◌<◌, ◌^◌, ◌+ℤ◌, ◌*ℤ◌, unsigned_abs, ap, ◌∙◌, sym, subst, arith}
use Rattle.std.proofs.lemmas.Int.{fits_signed_from_abs, to_z-of_z}
use Rattle.frac128.proofs.Short.{sum_size, computed_terms}
use Rattle.frac128.proofs.frac.arith.sum_of_products.Goals as goal

pub overflow_add-result : goal.overflow_add-result
overflow_add-result c =
    let few = sum_size 60 c.args.a c.args.c c.args.x c.args.y c.requires.a_small c.requires.c_small c.requires.x_small c.requires.y_small in
    let terms = computed_terms c.args.a _ c.args.c _ c.args.x c.args.y c.from.ensures c.from-2.ensures c.requires.a_small c.requires.c_small c.requires.x_small c.requires.y_small in
    subst (λ (z : ℤ). FitsSigned w128 z) (sym terms) (fits_signed_from_abs w128 _ (omega arith))

pub returns : goal.returns
returns c =
    let few = sum_size 60 c.args.a c.args.c c.args.x c.args.y c.requires.a_small c.requires.c_small c.requires.x_small c.requires.y_small in
    let terms = computed_terms c.args.a _ c.args.c _ c.args.x c.args.y c.from.ensures c.from-2.ensures c.requires.a_small c.requires.c_small c.requires.x_small c.requires.y_small in
    let value : to_z w128 (of_z w128 (to_z w128 (of_z w128 (to_z w128 (of_z w128 c.args.a) *ℤ to_z w128 (of_z w128 c.from.result))) +ℤ to_z w128 (of_z w128 (to_z w128 (of_z w128 c.args.c) *ℤ to_z w128 (of_z w128 c.from-2.result))))) ≡ c.args.a *ℤ pos c.args.x +ℤ c.args.c *ℤ pos c.args.y =
    ap (λ (z : ℤ). to_z w128 (of_z w128 z)) terms ∙ to_z-of_z w128 _ (fits_signed_from_abs w128 _ (omega arith)) in
    record { value = value; size = subst (λ (z : ℤ). unsigned_abs z < 2 ^ 121) (sym value) (omega arith) }
