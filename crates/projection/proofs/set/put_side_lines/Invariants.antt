use Rattle.std.proofs.Common.{◌≡◌, ◌++◌, drop}
use Rattle.std.specs.List.{flat_map}
use Rattle.src_sink.specs.Texts.{line_text}
use Rattle.projection.specs.Text.{side_line}
use Rattle.projection.proofs.set.put_side_lines.Given as goal

-- what is appended so far and what is left make the whole
abbrev pub invariant-loop-side : goal.invariant-loop-side
invariant-loop-side l = l.into ++ flat_map (λ f. line_text (side_line f)) (drop l.side-index l.sides) ≡ l.initial.into ++ flat_map (λ f. line_text (side_line f)) l.sides
