use Rattle.std.proofs.Common.{◌≡◌, map, take}
use Rattle.lin_rows.specs.Lines.{entries}
use Rattle.upper_image.specs.Spots.{entry_of}
use Rattle.lp_form.proofs.field.sides_in.Given as goal

abbrev pub invariant-loop-i : goal.invariant-loop-i
invariant-loop-i g l =
    let value = g.F.Field.value in
    record {
      vectors : map (λ s. entries value s.g) l.sides ≡ map (map entry_of) (take l.i l.rows);
      bounds : map (λ s. value s.beta) l.sides ≡ take l.i l.bounds;
    }
