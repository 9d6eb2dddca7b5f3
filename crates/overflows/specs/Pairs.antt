-- Pairs of generators of a double description, as entries name them.
use Rattle.word_lines.specs.declared.part.LogPair.{LogPair}
use Rattle.double_descr.specs.declared.fault.Pair.{Pair}
use Rattle.log_rules.specs.Live.{log_pair}

-- the pair with the numbers of the two
abbrev pub named : Pair → LogPair
named p = log_pair (p.plus, p.minus)
