use Rattle.std.proofs.Common.{◌+◌, ◌++◌, drop, map, sym, ap₂, ◌∙◌, arith}
use Rattle.std.proofs.lemmas.List.{drop_all, length-map}
use Rattle.double_descr.specs.Steps.{combination_steps}
use Rattle.polyhedra.specs.Vectors.{plus, scaled}
use Rattle.polyhedra.proofs.Lists.{drop_value}
use Rattle.double_descr.proofs.steps.combination.Goals as goal
use Rattle.double_descr.proofs.StepLists.{at_number, written_all, match_stop, same_left, plus_end, combination_at, combination_end, write_on}

pub returns-in_err-add_product-clause-runs : goal.returns-in_err-add_product-clause-runs
returns-in_err-add_product-clause-runs g c = λ steps left h.
    let value = g.F.Field.value in
    let k = value c.args.factor in
    let p = map value c.args.vector.now in
    let m = map value c.args.other.now in
    let i = c.loop-i.i in
    let e = drop_value value c.args.vector.now i c.index-vector-i.result c.loop-i-test.true c.index-vector-i.is in
    let f = drop_value value c.args.other.now i c.index-other-i.result (omega arith) c.index-other-i.is in
    match_stop value g.F.Field.holds steps c.from_residual-in_err-add_product.result c.in_err-add_product.field-0.0 _ c.from_residual-in_err-add_product.ensures.1
    (c.in_err-add_product.ensures.runs steps (combination_steps k (drop (i + 1) p) (drop (i + 1) m) ++ left)
    (same_left g.F.Field.holds steps _ _ _ (combination_at k (value c.index-vector-i.result) (value c.index-other-i.result) (drop i p) (drop i m) (drop (i + 1) p) (drop (i + 1) m) left e f)
    (c.loop-i.invariant.so_far steps left h)))

pub loop-i-preserved : goal.loop-i-preserved
loop-i-preserved g c =
    let value = g.F.Field.value in
    let k = value c.args.factor in
    let p = map value c.args.vector.now in
    let m = map value c.args.other.now in
    let i = c.loop-i.i in
    let e = drop_value value c.args.vector.now i c.index-vector-i.result c.loop-i-test.true c.index-vector-i.is in
    let f = drop_value value c.args.other.now i c.index-other-i.result (omega arith) c.index-other-i.is in
    record {
      so_far = λ steps left h. at_number g.F.Field.holds steps _ _ _ (omega arith) (c.in_ok-add_product.ensures.runs steps (combination_steps k (drop (i + 1) p) (drop (i + 1) m) ++ left)
          (same_left g.F.Field.holds steps _ _ _ (combination_at k (value c.index-vector-i.result) (value c.index-other-i.result) (drop i p) (drop i m) (drop (i + 1) p) (drop (i + 1) m) left e f)
          (c.loop-i.invariant.so_far steps left h)));
      written = write_on value c.loop-i.out.items _ _ _ _ c.push.new.self.items c.in_ok-push.ensures.items c.in_ok-add_product.ensures.value
          (ap₂ (λ u v. map value c.loop-i.out.items ++ plus u (scaled k v)) (sym e) (sym f) ∙ c.loop-i.invariant.written);
    }

pub returns-clause-runs : goal.returns-clause-runs
returns-clause-runs g c = λ steps left h.
    let value = g.F.Field.value in
    let k = value c.args.factor in
    let p = map value c.args.vector.now in
    let m = map value c.args.other.now in
    let i = c.loop-i.i in
    at_number g.F.Field.holds steps _ _ _ (omega arith) (same_left g.F.Field.holds steps _ _ _ (combination_end k (drop i p) (drop i m) left
    (drop_all i p (omega (arith, length-map c.args.vector.now value)))) (c.loop-i.invariant.so_far steps left h))

pub returns-clause-value : goal.returns-clause-value
returns-clause-value g c =
    let value = g.F.Field.value in
    let k = value c.args.factor in
    let p = map value c.args.vector.now in
    let m = map value c.args.other.now in
    let i = c.loop-i.i in
    written_all value c.loop-i.out.items _ _ (plus_end (drop i p) (drop i m) k (drop_all i p (omega (arith, length-map c.args.vector.now value)))
    (drop_all i m (omega (arith, length-map c.args.other.now value)))) c.loop-i.invariant.written
