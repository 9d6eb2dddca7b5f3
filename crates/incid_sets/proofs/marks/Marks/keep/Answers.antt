use Rattle.std.proofs.Common.{◌≡◌, ℕ, ◌*◌, ◌<◌, ◌&&◌, Bool, List, length, sym, ap, ◌∙◌, subst, arith}
use Rattle.incid_sets.proofs.marks.Marks.keep.Goals as goal
use Rattle.incid_sets.specs.Words.{is_marked, marks_below}
use Rattle.incid_sets.specs.Marks.{has}
use Rattle.incid_sets.proofs.Sets.{length-marks_below}
use Rattle.incid_sets.proofs.Kept.{kept_bounded, kept_common}

common : (c : goal.After-keep_words) (k : ℕ) → k < 64 * length c.self.inside.words.items →
    is_marked c.keep_words.new.words.items k ≡ (is_marked c.self.inside.words.items k && is_marked c.other.inside.words.items k)
common c k h = c.keep_words.ensures.common k (omega (arith, h, c.self.inside.words.ok))
    ∙ ap (λ (v : List ℕ). is_marked c.self.inside.words.items k && is_marked v k) c.deref.ensures.value

pub invariant_of-self : goal.invariant_of-self
invariant_of-self c = kept_bounded c.keep_words.new.words.items c.self.inside.words.items c.other.inside.words.items c.self.inside.bound
    c.self.invariant (omega (arith, c.keep_words.ensures.room, c.keep_words.new.words.ok, c.self.inside.words.ok)) (common c)

pub returns-clause-bound : goal.returns-clause-bound
returns-clause-bound c = length-marks_below c.self.inside.bound c.keep_words.new.words.items
    ∙ sym (length-marks_below c.self.inside.bound c.self.inside.words.items) ∙ ap length c.self.view_is

pub returns-clause-common : goal.returns-clause-common
returns-clause-common c = λ k. subst (λ (p : List Bool × List Bool). has (marks_below c.self.inside.bound c.keep_words.new.words.items) k ≡ (has p.0 k && has p.1 k))
    (λ i. (c.self.view_is i, c.other.view_is i))
    (kept_common c.keep_words.new.words.items c.self.inside.words.items c.other.inside.words.items c.self.inside.bound c.other.inside.bound
    (invariant_of-self c) c.self.invariant c.other.invariant (common c) k)
