use Rattle.std.proofs.Common.{◌≡◌, ℕ, ◌≤◌, ◌^◌, false, Bool, List, sym, subst, arith}
use Rattle.incid_sets.proofs.marks.Marks.next_from.Goals as goal
use Rattle.incid_sets.specs.Words.{is_marked, IsMarkedFrom}
use Rattle.incid_sets.specs.Marks.{IsNextFrom}
use Rattle.incid_sets.proofs.Next.{next_is}

pub mark_from-requires : goal.mark_from-requires
mark_from-requires c = subst (λ (w : List ℕ). (i : ℕ) → 2 ^ 32 ≤ i → is_marked w i ≡ false) (sym c.deref.ensures.value)
    (λ i h. c.self.invariant.none_above i (omega arith))

pub returns : goal.returns
returns c = subst (λ (m : List Bool). IsNextFrom m c.args.k c.mark_from.result) c.self.view_is
    (next_is c.self.inside.words.items c.self.inside.bound c.args.k c.self.invariant c.mark_from.result
    (subst (λ (w : List ℕ). IsMarkedFrom w c.args.k c.mark_from.result) c.deref.ensures.value c.mark_from.ensures))
