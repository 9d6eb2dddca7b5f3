use Rattle.std.proofs.Common.{ℕ, ◌-◌, Bool, ◌++◌, List, length, sym, ap, ap₂, ◌∙◌, max}
use Rattle.incid_sets.proofs.marks.Marks.grow.Goals as goal
use Rattle.incid_sets.specs.Words.{marks_below}
use Rattle.incid_sets.proofs.Sets.{marks_below-same, grown, length-marks_below}
use Rattle.incid_sets.specs.Marks.{no_marks}

pub returns-clause-ok : goal.returns-clause-ok
returns-clause-ok c =
    ap (λ n. marks_below n c.grow_words.new.words.items) c.max-self-inside.ensures
    ∙ marks_below-same (max c.self.inside.bound c.args.bound) c.grow_words.new.words.items c.self.inside.words.items (λ k h. c.in_ok-grow_words.ensures.same k)
    ∙ grown c.self.inside.words.items c.self.inside.bound c.args.bound c.self.invariant
    ∙ ap₂ (λ (m : List Bool) (n : ℕ). m ++ no_marks (c.args.bound - n)) c.self.view_is
    (sym (length-marks_below c.self.inside.bound c.self.inside.words.items) ∙ ap length c.self.view_is)
