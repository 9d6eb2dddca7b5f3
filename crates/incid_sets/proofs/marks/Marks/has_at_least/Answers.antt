use Rattle.std.proofs.Common.{ℕ, ◌≤◌, List, Bool, IsTrue, ◌↔◌, ◌∙◌, sym, ap, subst}
use Rattle.incid_sets.proofs.marks.Marks.has_at_least.Goals as goal
use Rattle.incid_sets.specs.Words.{marks_below, AreBounded}
use Rattle.incid_sets.specs.Marks.{size}

pub returns : goal.returns
returns c = subst (λ (m : List Bool). IsTrue c.have_at_least.result ↔ (c.args.count ≤ size m))
    (ap (marks_below c.self.inside.bound) c.deref.ensures.value ∙ c.self.view_is)
    (c.have_at_least.ensures c.self.inside.bound (subst (λ (w : List ℕ). AreBounded w c.self.inside.bound) (sym c.deref.ensures.value) c.self.invariant))
