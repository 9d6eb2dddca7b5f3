use Rattle.std.proofs.Common.{◌≡◌, ℕ, ◌<◌, [], length, sym, ap, ◌∙◌, subst, arith, slice_index_or}
use Rattle.std.proofs.lemmas.List.{length-map}
use Rattle.exact_field.specs.Vector.{dot}
use Rattle.polyhedra.specs.DoubleDescription.{is_zero}
use Rattle.polyhedra.specs.LiveList.{Numbered, numbers, vectors}
use Rattle.geo_duality.proofs.MarkedSoFar.{one_marked, one_passed}
use Rattle.geo_duality.specs.Facets.{row_at}
use Rattle.geo_duality.proofs.TightPlaces.{has_place, marks_done}
use Rattle.geo_duality.proofs.tight.tight_at.Goals as goal
use Rattle.geo_duality.proofs.tight.tight_at.Goals.{then-has, else-has}

pub loop-i-preserved : goal.loop-i-preserved
loop-i-preserved g c =
    let live = c.args.dd.now.list.live in
    let i = c.loop-i.i in
    let test = λ (j : ℕ). is_zero (dot (row_at c.args.dd.now.rows c.args.k) (slice_index_or (vectors live) j [])) in
    let inside : i < length (numbers live) = subst (λ (ns : _). i < length ns) c.live-live.ensures.live c.loop-i-test.true in
    let within : i < length (vectors live) = subst (λ (n : ℕ). i < n) (length-map live (λ (h : Numbered). h.number) ∙ sym (length-map live (λ (h : Numbered). h.vector))) inside in
    let place : test i ≡ c.has.result = has_place c.args.dd.now.rows live c.args.k i (slice_index_or c.live-live.result.now i 0) c.tight.result.now c.has.result c.requires inside
    (ap (λ ns. slice_index_or ns i 0) c.live-live.ensures.live) c.tight.ensures c.has.ensures in
    elim c.if-has.branch [
      | then-has w ↦ one_marked (length (vectors live)) i test c.loop-i.marks c.if-has.marks c.loop-i.invariant (w.marks-is ∙ w.insert.ensures) within (place ∙ w.if-has.true)
      | else-has w ↦ one_passed (length (vectors live)) i test c.loop-i.marks c.if-has.marks c.loop-i.invariant w.marks-is (place ∙ w.if-has.false)
    ]

pub returns : goal.returns
returns g c =
    let live = c.args.dd.now.list.live in
    let all : length c.live-live.result.now ≡ length (vectors live) = ap length c.live-live.ensures.live ∙ length-map live (λ (h : Numbered). h.number) ∙ sym (length-map live (λ (h : Numbered). h.vector)) in
    marks_done (vectors live) (row_at c.args.dd.now.rows c.args.k) c.loop-i.marks c.loop-i.i c.loop-i.invariant (omega (arith, all))
