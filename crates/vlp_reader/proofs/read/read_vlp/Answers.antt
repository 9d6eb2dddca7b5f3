use Rattle.std.proofs.Common.{◌+◌, map, subst, sym}
use Rattle.std.proofs.lemmas.Result.{MatchResult-at_ok, MatchResult-at_err}
use Rattle.vlp_reader.specs.Reading.{EndsReading, TakesLine}
use Rattle.vlp_reader.specs.Statements.{statement_on}
use Rattle.vlp_reader.proofs.Readings.{come_more, come_fault, come_end, come_last, ended_as}
use Rattle.vlp_reader.proofs.read.read_vlp.Goals as goal

pub returns-in-Ok-true : goal.returns-in-Ok-true
returns-in-Ok-true c =
    let come = c.loop-line.invariant in
    let takes = MatchResult-at_ok _ _ c.in-Ok-true.field-0 c.in-Ok-true.is (c.take_line.ensures (map statement_on come.done) come.has) in
    ended_as c.args.bytes.now (c.loop-line.number + 1) c.close.result c.end_reading.result c.end_reading.ensures
    (come_end c.args.bytes.now c.loop-line.rest.now c.in-Some.next.now c.in-Some.line.now c.loop-line.number c.loop-line.draft c.take_line.new.draft c.close.result come c.in-Some.ensures.0
    (subst (TakesLine c.in-Some.line.now (map statement_on come.done) c.take_line.new.draft) c.in-Ok-true.field-0-test takes) c.close.ensures)

pub loop-line-preserved : goal.loop-line-preserved
loop-line-preserved c =
    let come = c.loop-line.invariant in
    let takes = MatchResult-at_ok _ _ c.in-Ok-false.field-0 c.in-Ok-false.is (c.take_line.ensures (map statement_on come.done) come.has) in
    come_more c.args.bytes.now c.loop-line.rest.now c.in-Some.next.now c.in-Some.line.now c.loop-line.number c.loop-line.draft c.take_line.new.draft come c.in-Some.ensures.0 c.in-Some.ensures.1
    (subst (TakesLine c.in-Some.line.now (map statement_on come.done) c.take_line.new.draft) c.in-Ok-false.field-0-test takes)

pub returns-in-Err : goal.returns-in-Err
returns-in-Err c =
    let come = c.loop-line.invariant in
    let fault = MatchResult-at_err _ _ c.in-Err.end c.in-Err.is (c.take_line.ensures (map statement_on come.done) come.has) in
    subst (EndsReading c.args.bytes.now) (sym c.at.ensures)
    (come_fault c.args.bytes.now c.loop-line.rest.now c.in-Some.next.now c.in-Some.line.now c.loop-line.number c.loop-line.draft come c.in-Some.ensures.0 c.in-Err.end fault)

pub returns : goal.returns
returns c =
    ended_as c.args.bytes.now (c.loop-line.number + 1) c.close-2.result c.end_reading-2.result c.end_reading-2.ensures
    (come_last c.args.bytes.now c.loop-line.rest.now c.loop-line.number c.loop-line.draft c.close-2.result c.loop-line.invariant c.in_default.ensures c.close-2.ensures)
