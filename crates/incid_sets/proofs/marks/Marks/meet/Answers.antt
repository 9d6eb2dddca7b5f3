use Rattle.std.proofs.Common.{◌≡◌, ℕ, ◌*◌, ◌<◌, ◌≤◌, ◌&&◌, Bool, List, length, ap, ap₂, ◌∙◌, subst, arith}
use Rattle.std.proofs.lemmas.List.{length-replicate}
use Rattle.incid_sets.proofs.marks.Marks.meet.Goals as goal
use Rattle.incid_sets.specs.Words.{is_marked, AreBounded, marks_below}
use Rattle.incid_sets.specs.Marks.{IsMeet}
use Rattle.incid_sets.proofs.Sets.{meet_bounded, meet_is}

common : (c : goal.After-write_meet) (k : ℕ) → k < 64 * length c.write_meet.new.words.items →
    is_marked c.write_meet.new.words.items k ≡ (is_marked c.a.inside.words.items k && is_marked c.b.inside.words.items k)
common c k h = c.write_meet.ensures.common k (omega (arith, c.write_meet.ensures.room, c.write_meet.new.words.ok))
    ∙ ap₂ (λ (v w : List ℕ). is_marked v k && is_marked w k) c.deref.ensures.value c.deref-2.ensures.value

room : (c : goal.After-write_meet) → c.min-bound.result ≤ 64 * length c.write_meet.new.words.items
room c = let e : length c.in_ok-words.words.items ≡ c.words_for.result = ap length c.in_ok-words.ensures ∙ length-replicate c.words_for.result 0 in
    omega (arith, e, c.words_for.ensures.enough, c.write_meet.ensures.room, c.write_meet.new.words.ok, c.in_ok-words.words.ok)

bounded : (c : goal.After-write_meet) → AreBounded c.write_meet.new.words.items c.min-bound.result
bounded c = meet_bounded c.write_meet.new.words.items c.a.inside.words.items c.b.inside.words.items c.min-bound.result c.a.inside.bound c.b.inside.bound
    c.a.invariant c.b.invariant c.min-bound.ensures (room c) (common c)

pub returns : goal.returns
returns c = subst (λ (p : List Bool × List Bool). IsMeet (marks_below c.min-bound.result c.write_meet.new.words.items) p.0 p.1) (λ i. (c.a.view_is i, c.b.view_is i))
    (meet_is c.write_meet.new.words.items c.a.inside.words.items c.b.inside.words.items c.min-bound.result c.a.inside.bound c.b.inside.bound
    (bounded c) c.a.invariant c.b.invariant c.min-bound.ensures (common c))
