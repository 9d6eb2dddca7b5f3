use Rattle.std.proofs.Common.{ℕ, ◌<◌, ◌≤◌, List, length, refl, sym, subst, arith, slice_index_or}
use Rattle.exact_field.specs.Rational.{ℚ}
use Rattle.rep_conv.specs.Live.{state}
use Rattle.rep_convert.proofs.Ordered.{order_done, still_unused}
use Rattle.rep_convert.proofs.turn.take_all.Goals as goal

pub take-requires-clause-unused : goal.take-requires-clause-unused
take-requires-clause-unused c =
    let order = c.args.order.now in
    let i : ℕ = c.loop-number.number-index in
    let rep = c.args.rep.now in
    let inside : i < length order = omega (arith, c.loop-number-test.true) in
    still_unused (length c.args.rows.now) (state rep c.args.log.now).used order c.requires.order i inside (slice_index_or order i 0) refl
    (state rep c.loop-number.log).used c.loop-number.invariant.used

pub returns-clause-all : goal.returns-clause-all
returns-clause-all c k l =
    let order = c.args.order.now in
    let i : ℕ = c.loop-number.number-index in
    let rep = c.args.rep.now in
    let over : length order ≤ i = omega (arith, c.loop-number-test.false) in
    order_done (length c.args.rows.now) (state rep c.args.log.now).used order (state rep c.loop-number.log).used c.requires.order i over c.loop-number.invariant.used k
    (subst (λ (rows : List (List ℚ)). k < length rows) (sym c.requires.rows) l)
