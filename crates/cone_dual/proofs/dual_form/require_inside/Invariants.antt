use Rattle.std.proofs.Common.{◌≡◌, ℕ, ◌<◌, false, map, slice_index_or, []}
use Rattle.std.specs.List.{list_all}
use Rattle.exact_field.specs.Rational.{zero_ℚ, ◌<ℚ◌}
use Rattle.exact_field.specs.Vector.{dot}
use Rattle.frac128.specs.Sparse.{is_zero}
use Rattle.lin_rows.specs.Read.{numbers}
use Rattle.cone_dual.proofs.dual_form.require_inside.Given as goal

abbrev pub invariant-loop-k : goal.invariant-loop-k
invariant-loop-k g l =
    let value = g.F.Field.value in
    (j : ℕ) → j < l.k → list_all is_zero (slice_index_or (numbers value l.vectors) j []) ≡ false →
    zero_ℚ <ℚ dot (slice_index_or (numbers value l.vectors) j []) (map value l.f)
