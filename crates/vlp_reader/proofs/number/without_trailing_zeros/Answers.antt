use Rattle.std.proofs.Common.{arith, sym, ◌∙◌}
use Rattle.vlp_reader.proofs.Zeros.{trailing-step, trailing-stop, trailing-empty}
use Rattle.vlp_reader.proofs.number.without_trailing_zeros.Goals as goal
use Rattle.vlp_reader.proofs.number.without_trailing_zeros.Goals.{then-loop-end-test+else-digits-end-eq48, else-loop-end-test}

pub loop-end-preserved : goal.loop-end-preserved
loop-end-preserved c = (
  trailing-step c.args.digits.now c.loop-end.end c.loop-end-test.true c.loop-end.invariant.1 c.if-digits-end-eq48.true ∙ c.loop-end.invariant.0,
  omega arith,
)

pub returns : goal.returns
returns c =
    let digits = c.args.digits.now in
    let end = c.loop-end.end in
    sym (elim c.loop-end-test.branch [
      | then-loop-end-test+else-digits-end-eq48 w ↦ trailing-stop digits end w.loop-end-test.true c.loop-end.invariant.1 w.if-digits-end-eq48.false
      | else-loop-end-test w ↦ trailing-empty digits end (omega arith)
    ]) ∙ c.loop-end.invariant.0
