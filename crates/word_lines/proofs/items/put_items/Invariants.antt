use Rattle.std.proofs.Common.{◌≡◌, ◌++◌, take}
use Rattle.std.specs.List.{flat_map}
use Rattle.word_lines.specs.Printing.{spaced}
use Rattle.word_lines.proofs.items.put_items.Given as goal

abbrev pub invariant-loop-item : goal.invariant-loop-item
invariant-loop-item g l = l.into ≡ l.initial.into ++ spaced (flat_map g.T.Printed.words_of (take l.item-index l.items))
