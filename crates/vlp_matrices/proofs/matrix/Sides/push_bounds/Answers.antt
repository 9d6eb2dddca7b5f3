use Rattle.std.proofs.Common.{sym, ap, ap₂, arith, refl, ◌∙◌, ◌≡◌, ℕ, ◌++◌, length, zip}
use Rattle.std.specs.List.{flat_map}
use Rattle.std.proofs.lemmas.List.{append_assoc}
use Rattle.vlp_matrices.proofs.Lists.{item-as}
use Rattle.vlp_matrices.proofs.Cells.{flat_map-more}
use Rattle.vlp_matrices.proofs.Lists.{zip-at, length-zip}
use Rattle.std.proofs.lemmas.List.{take_all}
use Rattle.std.proofs.Common.{take}
use Rattle.vlp_matrices.specs.Matrices.{side_spots, side_values}
use Rattle.vlp_matrices.proofs.matrix.Sides.push_bounds.Goals as goal

pub loop-i-preserved : goal.loop-i-preserved
loop-i-preserved c =
    let pairs = length-zip c.args.vectors.now c.args.bounds.now c.requires in
    let row = item-as c.args.vectors.now c.loop-i.i c.index-vectors-i.result c.as_slice.result.now c.as_slice.ensures.items c.index-vectors-i.is in
    record {
      normals = c.in_ok-push_bound.ensures.normals ∙ ap₂ (λ ns ms. ns ++ ms) c.loop-i.invariant.normals refl
          ∙ append_assoc c.args.self.now.normals (flat_map (λ p. side_spots p.0 p.1) (take c.loop-i.i (zip c.args.vectors.now c.args.bounds.now))) (side_spots c.as_slice.result.now c.index-bounds-i.result)
          ∙ ap (λ ns. c.args.self.now.normals ++ ns) (sym (flat_map-more (λ p. side_spots p.0 p.1) (zip c.args.vectors.now c.args.bounds.now) c.loop-i.i (c.as_slice.result.now, c.index-bounds-i.result)
          (omega (arith, pairs)) (zip-at c.loop-i.i c.args.vectors.now c.args.bounds.now c.as_slice.result.now c.index-bounds-i.result (omega arith) c.requires row c.index-bounds-i.is)));
      bounds = c.in_ok-push_bound.ensures.bounds ∙ ap (λ bs. bs ++ side_values c.index-bounds-i.result) c.loop-i.invariant.bounds
          ∙ append_assoc c.args.self.now.bounds (flat_map side_values (take c.loop-i.i c.args.bounds.now)) (side_values c.index-bounds-i.result)
          ∙ ap (λ bs. c.args.self.now.bounds ++ bs) (sym (flat_map-more side_values c.args.bounds.now c.loop-i.i c.index-bounds-i.result (omega arith) c.index-bounds-i.is));
    }

pub returns-clause-normals : goal.returns-clause-normals
returns-clause-normals c =
    let pairs = length-zip c.args.vectors.now c.args.bounds.now c.requires in
    let over : c.loop-i.i ≡ length (zip c.args.vectors.now c.args.bounds.now) = omega (arith, pairs) in
    c.loop-i.invariant.normals ∙ ap (λ (k : ℕ). c.args.self.now.normals ++ flat_map (λ p. side_spots p.0 p.1) (take k (zip c.args.vectors.now c.args.bounds.now))) over
    ∙ ap (λ ps. c.args.self.now.normals ++ flat_map (λ p. side_spots p.0 p.1) ps) (take_all (length (zip c.args.vectors.now c.args.bounds.now)) (zip c.args.vectors.now c.args.bounds.now) (omega arith))
