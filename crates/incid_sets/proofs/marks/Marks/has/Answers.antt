use Rattle.std.proofs.Common.{ℕ, List, sym, ap, ◌∙◌}
use Rattle.incid_sets.proofs.marks.Marks.has.Goals as goal
use Rattle.incid_sets.specs.Words.{is_marked}
use Rattle.incid_sets.proofs.Sets.{has-marks_below}
use Rattle.incid_sets.specs.Marks.{has}

pub returns : goal.returns
returns c = c.has_mark.ensures ∙ ap (λ (w : List ℕ). is_marked w c.args.k) c.deref.ensures.value
    ∙ sym (has-marks_below c.self.inside.bound c.self.inside.words.items c.self.invariant c.args.k) ∙ ap (λ m. has m c.args.k) c.self.view_is
