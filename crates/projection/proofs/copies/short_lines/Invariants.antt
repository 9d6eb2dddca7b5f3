use Rattle.std.proofs.Common.{◌≡◌, map, take}
use Rattle.projection.specs.Found.{shortened_line}
use Rattle.projection.proofs.copies.short_lines.Given as goal

abbrev pub invariant-loop-line : goal.invariant-loop-line
invariant-loop-line l = l.short ≡ map (shortened_line l.k) (take l.line-index l.lines)
