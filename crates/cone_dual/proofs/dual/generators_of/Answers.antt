use Rattle.std.proofs.Common.{[], ap, sym, ◌∙◌, arith, length, map, ◌≡◌}
use Rattle.std.proofs.lemmas.List.{length-map, map_push}
use Rattle.polyhedra.specs.LiveList.{Numbered, vectors}
use Rattle.lin_rows.specs.Read.{numbers}
use Rattle.cone_dual.proofs.Reading.{one_more, vector_at, wide_at}
use Rattle.cone_dual.proofs.dual.generators_of.Goals as goal

pub push_row-requires : goal.push_row-requires
push_row-requires g c =
    let dd = c.args.dd.now in
    wide_at g.F.Field.value dd.list c.live-live.result.now c.live-live.ensures.live c.loop-number.number-index c.loop-number-test.true c.generator.result.now dd.width dd.rows
    c.live-live.ensures.described c.generator.ensures.listed
    ∙ sym c.requires ∙ sym c.loop-number.invariant.width

pub loop-number-preserved : goal.loop-number-preserved
loop-number-preserved g c =
    let value = g.F.Field.value in
    let list = c.args.dd.now.list in
    let long : length c.live-live.result.now ≡ length (vectors list.live) =
    ap length c.live-live.ensures.live ∙ length-map list.live (λ (h : Numbered). h.number) ∙ sym (length-map list.live (λ (h : Numbered). h.vector)) in
    record {
      width = c.in_ok-push_row.ensures.width ∙ c.loop-number.invariant.width;
      rows = one_more (vectors list.live) (numbers value c.loop-number.out.list) (numbers value c.push_row.new.self.list) (map value c.generator.result.now) [] c.loop-number.number-index
          (ap (numbers value) c.in_ok-push_row.ensures.ok ∙ map_push (map value) c.loop-number.out.list c.generator.result.now) c.loop-number.invariant.rows
          (omega (arith, c.loop-number-test.true, long))
          (vector_at value list c.live-live.result.now c.live-live.ensures.live c.loop-number.number-index c.loop-number-test.true c.generator.result.now c.generator.ensures.only);
    }
