use Rattle.std.proofs.Common.{ℕ, List, subst, IsTrue, ◌↔◌, Bool}
use Rattle.incid_sets.proofs.marks.Marks.contains_all.Goals as goal
use Rattle.incid_sets.specs.Words.{is_marked}
use Rattle.incid_sets.specs.Marks.{ContainsAll}
use Rattle.incid_sets.proofs.Sets.{contains_all}

pub returns : goal.returns
returns c =
    let h : IsTrue c.contains_words.result ↔ ((k : ℕ) → IsTrue (is_marked c.other.inside.words.items k) → IsTrue (is_marked c.self.inside.words.items k)) =
    subst (λ (v : List ℕ). IsTrue c.contains_words.result ↔ ((k : ℕ) → IsTrue (is_marked v k) → IsTrue (is_marked c.self.inside.words.items k))) c.deref-2.ensures.value
    (subst (λ (w : List ℕ). IsTrue c.contains_words.result ↔ ((k : ℕ) → IsTrue (is_marked c.deref-2.result.now k) → IsTrue (is_marked w k))) c.deref.ensures.value c.contains_words.ensures) in
    subst (λ (p : List Bool × List Bool). IsTrue c.contains_words.result ↔ ContainsAll p.0 p.1) (λ i. (c.self.view_is i, c.other.view_is i))
    (contains_all c.self.inside.words.items c.other.inside.words.items c.self.inside.bound c.other.inside.bound c.self.invariant c.other.invariant c.contains_words.result h)
