use Rattle.std.proofs.Common.{◌≡◌, ℕ, ◌*◌, ◌<◌, ◌&&◌, Bool, List, length, sym, ap, ap₂, ◌∙◌, subst, arith, min}
use Rattle.incid_sets.proofs.marks.Marks.set_meet.Goals as goal
use Rattle.incid_sets.specs.Words.{is_marked, marks_below}
use Rattle.incid_sets.proofs.Sets.{length-marks_below, meet_bounded, meet_is}
use Rattle.incid_sets.specs.Marks.{IsMeet}

common : (c : goal.After-write_meet) (k : ℕ) → k < 64 * length c.write_meet.new.words.items →
    is_marked c.write_meet.new.words.items k ≡ (is_marked c.a.inside.words.items k && is_marked c.b.inside.words.items k)
common c k h = c.write_meet.ensures.common k (omega (arith, c.write_meet.ensures.room, c.write_meet.new.words.ok))
    ∙ ap₂ (λ (v w : List ℕ). is_marked v k && is_marked w k) c.deref.ensures.value c.deref-2.ensures.value

bound : (c : goal.After-write_meet) → c.self.inside.bound ≡ min c.a.inside.bound c.b.inside.bound
bound c =
    let s : length c.args.self.now ≡ c.self.inside.bound = ap length (sym c.self.view_is) ∙ length-marks_below c.self.inside.bound c.self.inside.words.items in
    let a : length c.args.a.now ≡ c.a.inside.bound = ap length (sym c.a.view_is) ∙ length-marks_below c.a.inside.bound c.a.inside.words.items in
    let b : length c.args.b.now ≡ c.b.inside.bound = ap length (sym c.b.view_is) ∙ length-marks_below c.b.inside.bound c.b.inside.words.items in
    omega (arith, s, a, b, c.requires.first, c.requires.second)

pub invariant_of-self : goal.invariant_of-self
invariant_of-self c = meet_bounded c.write_meet.new.words.items c.a.inside.words.items c.b.inside.words.items c.self.inside.bound c.a.inside.bound c.b.inside.bound
    c.a.invariant c.b.invariant (bound c) (omega (arith, c.self.invariant.room, c.write_meet.ensures.room, c.write_meet.new.words.ok, c.self.inside.words.ok)) (common c)

pub returns : goal.returns
returns c = subst (λ (p : List Bool × List Bool). IsMeet (marks_below c.self.inside.bound c.write_meet.new.words.items) p.0 p.1) (λ i. (c.a.view_is i, c.b.view_is i))
    (meet_is c.write_meet.new.words.items c.a.inside.words.items c.b.inside.words.items c.self.inside.bound c.a.inside.bound c.b.inside.bound
    (invariant_of-self c) c.a.invariant c.b.invariant (bound c) (common c))
