use Rattle.std.proofs.Common.{ℕ, List, ◌∙◌, sym, ap, subst, arith}
use Rattle.incid_sets.proofs.marks.Marks.count.Goals as goal
use Rattle.incid_sets.specs.Words.{marks_below, AreBounded}
use Rattle.incid_sets.specs.Marks.{size}

pub returns : goal.returns
returns c = c.count_marks.ensures c.self.inside.bound (subst (λ (w : List ℕ). AreBounded w c.self.inside.bound) (sym c.deref.ensures.value) c.self.invariant) (omega arith)
    ∙ ap size (ap (marks_below c.self.inside.bound) c.deref.ensures.value ∙ c.self.view_is)
