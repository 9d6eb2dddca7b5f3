use Rattle.std.proofs.Common.{◌≡◌, ◌≤◌, ℕ, ◌*◌, ◌<◌, ◌||◌, Bool, List, length, sym, ap, ◌∙◌, subst, arith}
use Rattle.incid_sets.proofs.marks.Marks.unite.Goals as goal
use Rattle.incid_sets.specs.Words.{is_marked, marks_below}
use Rattle.incid_sets.specs.Marks.{IsUnion}
use Rattle.incid_sets.proofs.Sets.{length-marks_below, union_bounded, union_is}

either : (c : goal.After-add_words) (k : ℕ) → k < 64 * length c.self.inside.words.items →
    is_marked c.add_words.new.words.items k ≡ (is_marked c.self.inside.words.items k || is_marked c.other.inside.words.items k)
either c k h = c.add_words.ensures.either k (omega (arith, h, c.self.inside.words.ok))
    ∙ ap (λ (v : List ℕ). is_marked c.self.inside.words.items k || is_marked v k) c.deref.ensures.value

less : (c : goal.After-add_words) → c.other.inside.bound ≤ c.self.inside.bound
less c =
    let s : length c.args.self.now ≡ c.self.inside.bound = ap length (sym c.self.view_is) ∙ length-marks_below c.self.inside.bound c.self.inside.words.items in
    let o : length c.args.other.now ≡ c.other.inside.bound = ap length (sym c.other.view_is) ∙ length-marks_below c.other.inside.bound c.other.inside.words.items in
    omega (arith, s, o, c.requires)

pub invariant_of-self : goal.invariant_of-self
invariant_of-self c = union_bounded c.add_words.new.words.items c.self.inside.words.items c.other.inside.words.items c.self.inside.bound c.other.inside.bound
    c.self.invariant c.other.invariant (less c) (omega (arith, c.add_words.ensures.room, c.add_words.new.words.ok, c.self.inside.words.ok)) (either c)

pub returns : goal.returns
returns c = subst (λ (p : List Bool × List Bool). IsUnion (marks_below c.self.inside.bound c.add_words.new.words.items) p.0 p.1) (λ i. (c.self.view_is i, c.other.view_is i))
    (union_is c.add_words.new.words.items c.self.inside.words.items c.other.inside.words.items c.self.inside.bound c.other.inside.bound
    (invariant_of-self c) c.self.invariant c.other.invariant (less c) (either c))
