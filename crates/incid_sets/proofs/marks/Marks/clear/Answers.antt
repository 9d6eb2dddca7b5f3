use Rattle.std.proofs.Common.{ℕ, List, length, vec_len, sym, ap, ◌∙◌}
use Rattle.incid_sets.proofs.marks.Marks.clear.Goals as goal
use Rattle.incid_sets.specs.Words.{marks_below}
use Rattle.incid_sets.specs.Marks.{no_marks}
use Rattle.incid_sets.proofs.Sets.{length-marks_below, zeros_are_none}

pub returns : goal.returns
returns c = ap (λ (w : List ℕ). marks_below c.self.inside.bound w) c.clear_words.ensures
    ∙ zeros_are_none (vec_len c.self.inside.words) c.self.inside.bound
    ∙ ap no_marks (sym (length-marks_below c.self.inside.bound c.self.inside.words.items) ∙ ap length c.self.view_is)
