use Rattle.std.proofs.Common.{◌≡◌, ◌≢◌, ◌≤◌, ◌%◌, [], ◌∷◌, ◌++◌, Bool, List, length, sym, ap, ◌∙◌, subst, true≢false, arith}
use Rattle.std.specs.Vec.{vec_len}
use Rattle.incid_sets.proofs.marks.Marks.widen.Goals as goal
use Rattle.incid_sets.specs.Marks.{HasRoom}
use Rattle.incid_sets.proofs.Sets.{length-marks_below, widened}

pub overflow_add-k : goal.overflow_add-k
overflow_add-k c =
    let bound : length c.args.self.now ≡ c.self.inside.bound = ap length (sym c.self.view_is) ∙ length-marks_below c.self.inside.bound c.self.inside.words.items in
    omega arith

pub overflow_add-self : goal.overflow_add-self
overflow_add-self c =
    let bound : length c.args.self.now ≡ c.self.inside.bound = ap length (sym c.self.view_is) ∙ length-marks_below c.self.inside.bound c.self.inside.words.items in
    omega arith

pub invariant_of-self-2 : goal.invariant_of-self-2
invariant_of-self-2 c = (widened c.self.inside.words.items c.grow_words.new.words.items c.tell_mark.new.words.items c.self.inside.bound c.args.is_in c.self.invariant
    (omega (arith, c.words_for.ensures.enough, c.in_ok-grow_words.ensures.room, c.grow_words.new.words.ok)) c.in_ok-grow_words.ensures.same c.tell_mark.ensures).0

pub returns-clause-ok : goal.returns-clause-ok
returns-clause-ok c = (widened c.self.inside.words.items c.grow_words.new.words.items c.tell_mark.new.words.items c.self.inside.bound c.args.is_in c.self.invariant
    (omega (arith, c.words_for.ensures.enough, c.in_ok-grow_words.ensures.room, c.grow_words.new.words.ok)) c.in_ok-grow_words.ensures.same c.tell_mark.ensures).1
    ∙ ap (λ (m : List Bool). m ++ c.args.is_in ∷ []) c.self.view_is

pub returns-in_err-grow_words-clause-free : goal.returns-in_err-grow_words-clause-free
returns-in_err-grow_words-clause-free c = λ free.
    let bound : length c.args.self.now ≡ c.self.inside.bound = ap length (sym c.self.view_is) ∙ length-marks_below c.self.inside.bound c.self.inside.words.items in
    let rest : c.self.inside.bound % 64 ≢ 0 = subst HasRoom bound free in
    let enough : c.words_for.result ≤ vec_len c.self.inside.words = omega (arith, c.self.invariant.room, c.self.inside.words.ok, c.words_for.ensures.least) in
    absurd (true≢false (sym (c.in_err-grow_words.ensures.free enough)))
