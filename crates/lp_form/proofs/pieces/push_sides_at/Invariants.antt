use Rattle.std.proofs.Common.{◌≡◌, ℕ, ◌++◌, map, take, IsTrue}
use Rattle.std.specs.List.{list_all}
use Rattle.lin_rows.specs.Lines.{entries, sum_at}
use Rattle.lp_form.specs.Shapes.{are_places}
use Rattle.lp_form.proofs.pieces.push_sides_at.Given as goal

abbrev pub invariant-loop-side : goal.invariant-loop-side
invariant-loop-side g l =
    let value = g.F.Field.value in
    (n : ℕ) → IsTrue (list_all (λ s. are_places n 0 s.g) l.sides) →
    map value l.list ≡ map value l.initial.list ++ map (λ s. sum_at (entries value s.g) l.place) (take l.side-index l.sides)
