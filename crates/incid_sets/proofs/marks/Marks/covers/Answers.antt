use Rattle.std.proofs.Common.{ℕ, List, subst, IsTrue, ◌↔◌, Bool}
use Rattle.incid_sets.proofs.marks.Marks.covers.Goals as goal
use Rattle.incid_sets.specs.Words.{is_marked}
use Rattle.incid_sets.specs.Marks.{CoversBoth}
use Rattle.incid_sets.proofs.Sets.{covers_both}

pub returns : goal.returns
returns c =
    let h : IsTrue c.covers_words.result ↔ ((k : ℕ) → IsTrue (is_marked c.a.inside.words.items k) → IsTrue (is_marked c.b.inside.words.items k) → IsTrue (is_marked c.self.inside.words.items k)) =
    subst (λ (p : List ℕ × List ℕ × List ℕ). IsTrue c.covers_words.result ↔ ((k : ℕ) → IsTrue (is_marked p.0 k) → IsTrue (is_marked p.1 k) → IsTrue (is_marked p.2 k)))
    (λ i. (c.deref-2.ensures.value i, c.deref-3.ensures.value i, c.deref.ensures.value i)) c.covers_words.ensures in
    subst (λ (p : List Bool × List Bool × List Bool). IsTrue c.covers_words.result ↔ CoversBoth p.0 p.1 p.2) (λ i. (c.self.view_is i, c.a.view_is i, c.b.view_is i))
    (covers_both c.self.inside.words.items c.a.inside.words.items c.b.inside.words.items c.self.inside.bound c.a.inside.bound c.b.inside.bound
    c.self.invariant c.a.invariant c.b.invariant c.covers_words.result h)
