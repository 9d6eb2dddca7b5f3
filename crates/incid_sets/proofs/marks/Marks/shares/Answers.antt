use Rattle.std.proofs.Common.{◌≤◌, List, ℕ, Bool, IsTrue, ◌↔◌, min, subst}
use Rattle.incid_sets.proofs.marks.Marks.shares.Goals as goal
use Rattle.incid_sets.specs.Words.{common_words, marks_below, AreBounded}
use Rattle.incid_sets.specs.Marks.{size, IsMeet}
use Rattle.incid_sets.proofs.Shared.{common_bounded, common_meet}

pub returns : goal.returns
returns c =
    let a = c.self.inside in
    let b = c.other.inside in
    let words = common_words a.words.items b.words.items in
    let bound = min a.bound b.bound in
    let told : IsTrue c.share_at_least.result ↔ (c.args.count ≤ size (marks_below bound words)) =
    subst (λ (p : List ℕ × List ℕ). AreBounded (common_words p.0 p.1) bound → IsTrue c.share_at_least.result ↔ (c.args.count ≤ size (marks_below bound (common_words p.0 p.1))))
    (λ i. (c.deref.ensures.value i, c.deref-2.ensures.value i)) (c.share_at_least.ensures bound)
    (common_bounded a.words.items b.words.items a.bound b.bound c.self.invariant c.other.invariant) in (
      marks_below bound words,
      subst (λ (p : List Bool × List Bool). IsMeet (marks_below bound words) p.0 p.1) (λ i. (c.self.view_is i, c.other.view_is i))
          (common_meet a.words.items b.words.items a.bound b.bound c.self.invariant c.other.invariant),
      told,
    )
