use Rattle.std.proofs.Common.{length, sym, ap, ◌∙◌}
use Rattle.incid_sets.proofs.marks.Marks.bound.Goals as goal
use Rattle.incid_sets.proofs.Sets.{length-marks_below}

pub returns : goal.returns
returns c = sym (length-marks_below c.self.inside.bound c.self.inside.words.items) ∙ ap length c.self.view_is
