use Rattle.std.proofs.Common.{ℕ, List, ap, ◌∙◌}
use Rattle.incid_sets.proofs.marks.Marks.new.Goals as goal
use Rattle.incid_sets.specs.Words.{marks_below}
use Rattle.incid_sets.proofs.Sets.{zeros_are_none}

pub returns : goal.returns
returns c = ap (λ (w : List ℕ). marks_below c.args.bound w) c.in_ok-words.ensures ∙ zeros_are_none c.words_for.result c.args.bound
