use Rattle.std.proofs.Common.{arith, sym, subst, ℕ, suc, ◌≡◌, ◌+◌, ◌<◌, [], ◌∷◌, ◌++◌, length, length-append, drop}
use Rattle.std.specs.List.{zip}
use Rattle.std.specs.Slice.Iter.{iter_rest}
use Rattle.std.specs.Iterator.Adapters.{zip_first, zip_second}
use Rattle.std.proofs.lemmas.Slice.Zip.{zip_turn, zip_end}
use Rattle.exact_field.specs.Rational.{zero_ℚ}
use Rattle.log_rules.specs.Events.{sum_from}
use Rattle.log_rules.specs.Runs.{steps}
use Rattle.entry_checks.proofs.Products.{steps-next, steps-none}
use Rattle.vlp_matrices.proofs.Lists.{zip-at, length-zip}
use Rattle.entry_checks.proofs.steps.steps_of_dot.Goals as goal

pub loop-a-preserved : goal.loop-a-preserved
loop-a-preserved c =
    let first : iter_rest (zip_first c.into_iter-a-iterator.result) ≡ c.args.v.now = cc in
    let second : iter_rest (zip_second c.into_iter-a-iterator.result) ≡ c.args.w.now = cc in
    let turn = zip_turn c.args.v.now c.args.w.now c.loop-a.yielded c.into_iter-a-iterator.result c.loop-a.a-iterator c.next.new.self c.next.result first second c.loop-a.yielded_by (c.in-Some.a, c.in-Some.b) c.in-Some.is c.next.ensures.steps in
    let long = length-zip c.args.v.now c.args.w.now c.requires.lengths in
    let inside = turn.0 in
    let within : length c.loop-a.yielded < length (zip c.args.v.now c.args.w.now) = omega (arith, inside, long) in
    let pair = zip-at (length c.loop-a.yielded) c.args.v.now c.args.w.now c.in-Some.a.now c.in-Some.b.now turn.0 c.requires.lengths (turn.2 c.in-Some.a.now) (turn.3 c.in-Some.b.now) in
    let more = steps-next (zip c.args.v.now c.args.w.now) (length c.loop-a.yielded) c.in-Some.a.now c.in-Some.b.now within pair in
    let taken = c.steps_of_product-taken.ensures in
    let before = c.loop-a.invariant in
    let one : length (c.loop-a.yielded ++ (c.in-Some.a, c.in-Some.b) ∷ []) ≡ suc (length c.loop-a.yielded) = grind (arith, length-append) in
    subst (λ (k : ℕ). c.loop-a.taken + c.steps_of_product-taken.result + steps (sum_from zero_ℚ (drop k (zip c.args.v.now c.args.w.now)))
    ≡ steps (sum_from zero_ℚ (zip c.args.v.now c.args.w.now))) (sym one) (omega (arith, more, taken, before))

pub returns : goal.returns
returns c =
    let first : iter_rest (zip_first c.into_iter-a-iterator.result) ≡ c.args.v.now = cc in
    let second : iter_rest (zip_second c.into_iter-a-iterator.result) ≡ c.args.w.now = cc in
    let many = zip_end c.args.v.now c.args.w.now c.loop-a.yielded c.into_iter-a-iterator.result c.loop-a.a-iterator c.next.new.self c.next.result first second c.loop-a.yielded_by c.in-None.is c.next.ensures.steps in
    let long = length-zip c.args.v.now c.args.w.now c.requires.lengths in
    let same = c.requires.lengths in
    let over : length c.loop-a.yielded ≡ length (zip c.args.v.now c.args.w.now) = omega (arith, many, long, same) in
    let none = steps-none (zip c.args.v.now c.args.w.now) (length c.loop-a.yielded) over in
    let before = c.loop-a.invariant in
    omega (arith, none, before)
