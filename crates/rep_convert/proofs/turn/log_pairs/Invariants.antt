use Rattle.std.proofs.Common.{◌≡◌, All, IsTrue, map, take}
use Rattle.word_lines.specs.Parts.{is_formed_pair}
use Rattle.overflows.specs.Pairs.{named}
use Rattle.rep_convert.proofs.turn.log_pairs.Given as goal

abbrev pub invariant-loop-pair : goal.invariant-loop-pair
invariant-loop-pair l = record {
  same : l.list ≡ map named (take l.pair-index l.pairs);
  written : All (λ p. IsTrue (is_formed_pair p)) l.list;
}
