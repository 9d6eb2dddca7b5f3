use Rattle.std.proofs.Common.{◌+◌, drop, map, sym, ap, ◌∙◌, arith}
use Rattle.exact_field.specs.Rational.{zero_ℚ, ◌+ℚ◌}
use Rattle.exact_field.specs.Vector.{dot}
use Rattle.std.proofs.lemmas.List.{drop_all, length-map}
use Rattle.double_descr.proofs.steps.product_by_steps.Goals as goal
use Rattle.double_descr.proofs.StepLists.{same_left, product_done, stop_runs, start, product_at, sum_at_term}
use Rattle.double_descr.specs.Steps.{product_steps}
use Rattle.polyhedra.proofs.Algebra.{zero_add}
use Rattle.polyhedra.proofs.Lists.{drop_value}

pub loop-i-init : goal.loop-i-init
loop-i-init g c =
    let value = g.F.Field.value in
    let row = map value c.args.row.now in
    let vector = map value c.args.vector.now in
    record {
      so_far = same_left g.F.Field.holds _ _ _ 0 (ap (λ t. product_steps t row vector) (sym c.zero-total.ensures)) (start g.F.Field.holds (product_steps zero_ℚ row vector));
      sum = ap (λ t. t +ℚ dot row vector) c.zero-total.ensures ∙ zero_add (dot row vector);
      few = omega arith;
    }

pub add_term-requires : goal.add_term-requires
add_term-requires g c = omega (arith, c.loop-i.invariant.few, c.requires.narrow)

pub returns-in_err-total : goal.returns-in_err-total
returns-in_err-total g c =
    let value = g.F.Field.value in
    let row = map value c.args.row.now in
    let vector = map value c.args.vector.now in
    let e = drop_value value c.args.row.now c.loop-i.i c.index-row-i.result c.loop-i-test.true c.index-row-i.is in
    let f = drop_value value c.args.vector.now c.loop-i.i c.index-vector-i.result (omega arith) c.index-vector-i.is in
    stop_runs value g.F.Field.holds (product_steps zero_ℚ row vector) c.from_residual.result c.in_err-total.field-0.0 _ c.from_residual.ensures.1
    (c.in_err-total.ensures.runs (product_steps zero_ℚ row vector) _
    (product_at g.F.Field.holds (product_steps zero_ℚ row vector) (value c.loop-i.total) (value c.index-row-i.result) (value c.index-vector-i.result)
    (drop c.loop-i.i row) (drop c.loop-i.i vector) (drop (c.loop-i.i + 1) row) (drop (c.loop-i.i + 1) vector) c.loop-i.done e f c.loop-i.invariant.so_far))

pub loop-i-preserved : goal.loop-i-preserved
loop-i-preserved g c =
    let value = g.F.Field.value in
    let row = map value c.args.row.now in
    let vector = map value c.args.vector.now in
    let e = drop_value value c.args.row.now c.loop-i.i c.index-row-i.result c.loop-i-test.true c.index-row-i.is in
    let f = drop_value value c.args.vector.now c.loop-i.i c.index-vector-i.result (omega arith) c.index-vector-i.is in
    record {
      so_far = same_left g.F.Field.holds (product_steps zero_ℚ row vector) _ _ c.in_ok-total.field-0-1
          (ap (λ t. product_steps t (drop (c.loop-i.i + 1) row) (drop (c.loop-i.i + 1) vector)) (sym c.in_ok-total.ensures.value))
          (c.in_ok-total.ensures.runs (product_steps zero_ℚ row vector) _
          (product_at g.F.Field.holds (product_steps zero_ℚ row vector) (value c.loop-i.total) (value c.index-row-i.result) (value c.index-vector-i.result)
          (drop c.loop-i.i row) (drop c.loop-i.i vector) (drop (c.loop-i.i + 1) row) (drop (c.loop-i.i + 1) vector) c.loop-i.done e f c.loop-i.invariant.so_far));
      sum = ap (λ t. t +ℚ dot (drop (c.loop-i.i + 1) row) (drop (c.loop-i.i + 1) vector)) c.in_ok-total.ensures.value
          ∙ sum_at_term (value c.loop-i.total) (value c.index-row-i.result) (value c.index-vector-i.result) (dot row vector)
          (drop c.loop-i.i row) (drop c.loop-i.i vector) (drop (c.loop-i.i + 1) row) (drop (c.loop-i.i + 1) vector) e f c.loop-i.invariant.sum;
      few = omega (arith, c.in_ok-total.ensures.done, c.loop-i.invariant.few);
    }

pub returns : goal.returns
returns g c =
    let value = g.F.Field.value in
    let row = map value c.args.row.now in
    let vector = map value c.args.vector.now in
    product_done g.F.Field.holds (product_steps zero_ℚ row vector) (value c.loop-i.total) (dot row vector) (drop c.loop-i.i row) (drop c.loop-i.i vector) c.loop-i.done
    (drop_all c.loop-i.i row (omega (arith, length-map c.args.row.now value))) c.loop-i.invariant.so_far c.loop-i.invariant.sum
