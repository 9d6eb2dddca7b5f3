use Rattle.std.proofs.Common.{◌≡◌, ◌++◌, take}
use Rattle.std.specs.List.{flat_map, zip}
use Rattle.vlp_matrices.specs.Matrices.{side_spots, side_values}
use Rattle.vlp_matrices.proofs.matrix.Sides.push_bounds.Given as goal

abbrev pub invariant-loop-i : goal.invariant-loop-i
invariant-loop-i l = record {
  normals : l.self.normals ≡ l.initial.self.normals ++ flat_map (λ p. side_spots p.0 p.1) (take l.i (zip l.vectors l.bounds));
  bounds : l.self.bounds ≡ l.initial.self.bounds ++ flat_map side_values (take l.i l.bounds);
}
