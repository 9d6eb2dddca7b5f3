use Rattle.std.proofs.Common.{◌≡◌, ◌∷◌, All, IsTrue, map, take}
use Rattle.word_lines.specs.Grammar.{is_formed}
use Rattle.rep_text.specs.ConvText.{conv_grammar}
use Rattle.rep_text.specs.declared.conv.ConvEntry.TheVariants.{Conv, Line}
use Rattle.rep_convert.proofs.log.lines_log.Given as goal

abbrev pub invariant-loop-line : goal.invariant-loop-line
invariant-loop-line l = record {
  log : l.log ≡ Conv 1 ∷ map Line (take l.line-index l.lines);
  written : All (λ e. IsTrue (is_formed conv_grammar e)) l.log;
}
