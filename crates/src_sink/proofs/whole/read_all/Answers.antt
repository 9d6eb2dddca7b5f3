use Rattle.std.proofs.Common.{arith}
use Rattle.std.proofs.lemmas.Result.{err_from_is_err_and}
use Rattle.src_sink.proofs.Taking.{TakesCount-more, TakesAtMost-from_count}
use Rattle.src_sink.proofs.whole.read_all.Goals as goal

pub returns-then-taken-limit-clause-err : goal.returns-then-taken-limit-clause-err
returns-then-taken-limit-clause-err g c = (
  omega arith,
  rw c.len.ensures.value
      (TakesCount-more _ _ _ c.loop-bytes.bytes c.read.new.buf c.in_ok-count.count c.loop-bytes.invariant.taken c.in_ok-count.ensures.within c.in_ok-count.ensures.taken),
)

pub returns-in_err-append-clause-err : goal.returns-in_err-append-clause-err
returns-in_err-append-clause-err g c =
    let p = err_from_is_err_and c.from_residual-in_err-append.result c.from_residual-in_err-append.ensures.1 in
    let taken =
    TakesCount-more _ _ _ c.loop-bytes.bytes c.read.new.buf c.in_ok-count.count c.loop-bytes.invariant.taken c.in_ok-count.ensures.within c.in_ok-count.ensures.taken in
    rw (p.1, p.2) (TakesAtMost-from_count _ _ _ _ (omega arith) taken)
