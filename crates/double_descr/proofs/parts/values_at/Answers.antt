use Rattle.std.proofs.Common.{◌+◌, [], ◌∷◌, ◌++◌, map, drop, sym, ap, ◌∙◌}
use Rattle.std.proofs.lemmas.List.Elements.{All-nil, All-cons, All-append}
use Rattle.exact_field.specs.Vector.{dot}
use Rattle.polyhedra.specs.LiveList.{Numbered}
use Rattle.polyhedra.proofs.Lists.{drop_value}
use Rattle.double_descr.specs.State.{live_of, numbered_of}
use Rattle.double_descr.specs.Adding.{AreHeld, value_block}
use Rattle.double_descr.proofs.parts.values_at.Goals as goal
use Rattle.lin_rows.proofs.Errors.{err_holds}
use Rattle.double_descr.proofs.StepLists.{write_on}
use Rattle.double_descr.proofs.MadePairs.{fault_at, block_on}

pub returns-in_err-value_at-clause-left : goal.returns-in_err-value_at-clause-left
returns-in_err-value_at-clause-left g c =
    let value = g.F.Field.value in
    let i = c.loop-generator.generator-index in
    let m = c.generator-item.result in
    let e = drop_value (numbered_of value) c.args.generators.now i m c.loop-generator-test.true c.generator-item.is in
    let row = map value c.args.row.now in
    err_holds c.from_residual-in_err-value_at.result c.in_err-value_at.field-0.0 _ c.from_residual-in_err-value_at.ensures.1
    (fault_at value g.F.Field.holds _ c.loop-generator.invariant.done (map (value_block row) (drop (i + 1) (live_of value c.args.generators.now))) (value_block row (numbered_of value m)) c.in_err-value_at.field-0.0
    (c.loop-generator.invariant.split ∙ ap (λ l. c.loop-generator.invariant.done ++ map (value_block row) l) e) c.loop-generator.invariant.held c.in_err-value_at.ensures)

pub loop-generator-preserved : goal.loop-generator-preserved
loop-generator-preserved g c =
    let value = g.F.Field.value in
    let i = c.loop-generator.generator-index in
    let m = c.generator-item.result in
    let e = drop_value (numbered_of value) c.args.generators.now i m c.loop-generator-test.true c.generator-item.is in
    let row = map value c.args.row.now in
    record {
      written = write_on value c.loop-generator.out _ _ _ _ c.push.new.self c.in_ok-push.ensures.ok c.in_ok-value_at.ensures.1
          (ap (λ l. map value c.loop-generator.out ++ map (λ (h : Numbered). dot row h.vector) l) (sym e) ∙ c.loop-generator.invariant.written);
      done = c.loop-generator.invariant.done ++ value_block row (numbered_of value m) ∷ [];
      split = block_on row (numbered_of value m) (drop i (live_of value c.args.generators.now)) (drop (i + 1) (live_of value c.args.generators.now)) _ c.loop-generator.invariant.done e c.loop-generator.invariant.split;
      held = All-append (AreHeld g.F.Field.holds) c.loop-generator.invariant.done (value_block row (numbered_of value m) ∷ []) c.loop-generator.invariant.held
          (All-cons (AreHeld g.F.Field.holds) (value_block row (numbered_of value m)) [] c.in_ok-value_at.ensures.0 (All-nil (AreHeld g.F.Field.holds)));
    }
