use Rattle.std.proofs.Common.{◌≡◌, ℕ, ◌<◌, Bool, true, List, length, set, sym, ap, ◌∙◌, subst, arith}
use Rattle.incid_sets.proofs.marks.Marks.insert.Goals as goal
use Rattle.incid_sets.proofs.Sets.{length-marks_below, with_mark}
use Rattle.incid_sets.specs.Words.{AreBounded, marks_below}

below : (c : goal.After-set_mark-arg-1) → c.args.k < c.self.inside.bound
below c = subst (λ (n : ℕ). c.args.k < n) (ap length (sym c.self.view_is) ∙ length-marks_below c.self.inside.bound c.self.inside.words.items) c.requires

pub set_mark-requires : goal.set_mark-requires
set_mark-requires c = let h : c.args.k < c.self.inside.bound = below c in omega (arith, c.self.invariant.room, c.self.inside.words.ok)

with : (c : goal.After-set_mark) → AreBounded c.set_mark.new.words.items c.self.inside.bound
    × (marks_below c.self.inside.bound c.set_mark.new.words.items ≡ set (marks_below c.self.inside.bound c.self.inside.words.items) c.args.k true)
with c = with_mark c.self.inside.words.items c.set_mark.new.words.items c.self.inside.bound c.args.k c.self.invariant
    (subst (λ (n : ℕ). c.args.k < n) (ap length (sym c.self.view_is) ∙ length-marks_below c.self.inside.bound c.self.inside.words.items) c.requires)
    c.set_mark.ensures

pub invariant_of-self : goal.invariant_of-self
invariant_of-self c = (with c).0

pub returns : goal.returns
returns c = (with c).1 ∙ ap (λ (m : List Bool). set m c.args.k true) c.self.view_is
