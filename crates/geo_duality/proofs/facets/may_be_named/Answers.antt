use Rattle.std.proofs.Common.{List, [], take, not, ◌&&◌, ◌||◌, sym, ap, ◌∙◌}
use Rattle.std.specs.List.{list_all}
use Rattle.std.proofs.lemmas.List.Folds.{list_all_at, list_all_more}
use Rattle.exact_field.specs.Rational.{ℚ}
use Rattle.polyhedra.specs.FirstNamed.{tight_lies_in}
use Rattle.polyhedra.proofs.Tests.{both_hold}
use Rattle.geo_duality.specs.Facets.{row_at}
use Rattle.geo_duality.proofs.TightPlaces.{and_false, set_at}
use Rattle.geo_duality.proofs.facets.may_be_named.Goals as goal

pub returns-then-not-is_no_part : goal.returns-then-not-is_no_part
returns-then-not-is_no_part c = λ gens rows e.
    let test = λ (s : List ℚ). not (tight_lies_in gens (row_at rows c.args.k) s) || tight_lies_in gens s (row_at rows c.args.k) in
    let kth = set_at gens rows c.args.sets.now c.args.k c.index-sets-k-in-loop-set.result e c.requires c.index-sets-k-in-loop-set.is in
    let rth = set_at gens rows c.args.sets.now c.loop-set.set-index c.set-item.result e c.loop-set-test.true c.set-item.is in
    sym (ap (λ b. not (tight_lies_in gens (row_at rows c.args.k) (row_at rows 0)) && b)
    (list_all_at test rows c.loop-set.set-index [] rth.0 (sym (c.is_no_part.ensures gens (row_at rows c.args.k) (row_at rows c.loop-set.set-index) kth.1 rth.1) ∙ c.if-not-is_no_part.true))
    ∙ and_false (not (tight_lies_in gens (row_at rows c.args.k) (row_at rows 0))))

pub loop-set-preserved : goal.loop-set-preserved
loop-set-preserved c = λ gens rows e.
    let test = λ (s : List ℚ). not (tight_lies_in gens (row_at rows c.args.k) s) || tight_lies_in gens s (row_at rows c.args.k) in
    let kth = set_at gens rows c.args.sets.now c.args.k c.index-sets-k-in-loop-set.result e c.requires c.index-sets-k-in-loop-set.is in
    let rth = set_at gens rows c.args.sets.now c.loop-set.set-index c.set-item.result e c.loop-set-test.true c.set-item.is in
    list_all_more test rows c.loop-set.set-index [] rth.0
    ∙ both_hold (list_all test (take c.loop-set.set-index rows)) (test (row_at rows c.loop-set.set-index)) (c.loop-set.invariant gens rows e)
    (sym (c.is_no_part.ensures gens (row_at rows c.args.k) (row_at rows c.loop-set.set-index) kth.1 rth.1) ∙ c.if-not-is_no_part.false)
