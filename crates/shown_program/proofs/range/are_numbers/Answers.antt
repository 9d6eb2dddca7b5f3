use Rattle.std.proofs.Common.{◌≤◌, All, List, ℕ, arith, refl, subst}
use Rattle.std.proofs.lemmas.List.{take_all}
use Rattle.std.proofs.lemmas.List.Elements.{All-more}
use Rattle.shown_program.proofs.range.are_numbers.Goals as goal

pub loop-column-preserved : goal.loop-column-preserved
loop-column-preserved c =
    let columns = c.args.columns.now in
    let i = c.loop-column.column-index in
    let own = c.if-not-is_number.ensures refl in
    record {
      low = All-more (λ j. 1 ≤ j) columns i 0 c.loop-column-test.true c.loop-column.invariant.low
          own.0;
      high = All-more (λ j. j ≤ c.args.most) columns i 0 c.loop-column-test.true
          c.loop-column.invariant.high own.1;
    }

pub returns-clause-low : goal.returns-clause-low
returns-clause-low c = λ told.
    subst (λ (cs : List ℕ). All (λ j. 1 ≤ j) cs)
    (take_all c.loop-column.column-index c.args.columns.now (omega arith))
    c.loop-column.invariant.low

pub returns-clause-high : goal.returns-clause-high
returns-clause-high c = λ told.
    subst (λ (cs : List ℕ). All (λ j. j ≤ c.args.most) cs)
    (take_all c.loop-column.column-index c.args.columns.now (omega arith))
    c.loop-column.invariant.high
