use Rattle.std.proofs.Common.{◌+◌, ◌++◌, drop, map, sym, ap, ◌∙◌, arith}
use Rattle.std.proofs.lemmas.List.{drop_all, length-map}
use Rattle.exact_field.specs.Rational.{inverse_ℚ}
use Rattle.polyhedra.specs.Vectors.{scaled}
use Rattle.double_descr.proofs.steps.quotients.Goals as goal
use Rattle.double_descr.proofs.StepLists.{at_number, written_all, stopped, one_more, same_left, quotients_at, quotients_end, write_on}
use Rattle.polyhedra.proofs.Laws.{mul_comm}
use Rattle.polyhedra.proofs.Lists.{drop_value}

pub returns-in-Err-clause-runs : goal.returns-in-Err-clause-runs
returns-in-Err-clause-runs g c = λ steps left h.
    let value = g.F.Field.value in
    let by = value c.args.by in
    let v = map value c.args.vector.now in
    let i = c.loop-i.i in
    let e = drop_value value c.args.vector.now i c.index-vector-i.result c.loop-i-test.true c.index-vector-i.is in
    stopped value g.F.Field.holds steps _ _ (c.args.done + i) c.in-Err.left
    (same_left g.F.Field.holds steps _ _ _ (quotients_at by (value c.index-vector-i.result) (drop i v) (drop (i + 1) v) left e) (c.loop-i.invariant.so_far steps left h))
    c.in-Err.ensures.1 (ap (λ l. l.op) c.in-Err.ensures.0) (ap (λ l. value l.a) c.in-Err.ensures.0) (ap (λ l. value l.b) c.in-Err.ensures.0)

pub loop-i-preserved : goal.loop-i-preserved
loop-i-preserved g c =
    let value = g.F.Field.value in
    let by = value c.args.by in
    let v = map value c.args.vector.now in
    let i = c.loop-i.i in
    let e = drop_value value c.args.vector.now i c.index-vector-i.result c.loop-i-test.true c.index-vector-i.is in
    record {
      so_far = λ steps left h. at_number g.F.Field.holds steps _ _ _ (omega arith) (one_more g.F.Field.holds steps _ _ (c.args.done + i)
          (same_left g.F.Field.holds steps _ _ _ (quotients_at by (value c.index-vector-i.result) (drop i v) (drop (i + 1) v) left e) (c.loop-i.invariant.so_far steps left h))
          c.in-Ok.ensures.1);
      written = write_on value c.loop-i.out.items _ _ _ _ c.push.new.self.items c.in_ok-push-in-Ok.ensures.items
          (c.in-Ok.ensures.0 ∙ mul_comm (value c.index-vector-i.result) (inverse_ℚ by))
          (ap (λ u. map value c.loop-i.out.items ++ scaled (inverse_ℚ by) u) (sym e) ∙ c.loop-i.invariant.written);
    }

pub returns-clause-runs : goal.returns-clause-runs
returns-clause-runs g c = λ steps left h.
    let value = g.F.Field.value in
    let by = value c.args.by in
    let v = map value c.args.vector.now in
    let i = c.loop-i.i in
    at_number g.F.Field.holds steps _ _ _ (omega arith) (same_left g.F.Field.holds steps _ _ _ (quotients_end by (drop i v) left
    (drop_all i v (omega (arith, length-map c.args.vector.now value)))) (c.loop-i.invariant.so_far steps left h))

pub returns-clause-value : goal.returns-clause-value
returns-clause-value g c =
    let value = g.F.Field.value in
    let by = value c.args.by in
    let v = map value c.args.vector.now in
    let i = c.loop-i.i in
    written_all value c.loop-i.out.items _ _ (ap (scaled (inverse_ℚ by)) (drop_all i v (omega (arith, length-map c.args.vector.now value)))) c.loop-i.invariant.written
