use Rattle.std.proofs.Common.{sym, subst}
use Rattle.src_sink.specs.Texts.{lines_of}
use Rattle.word_lines.proofs.LineByLine.{some_left, none_left}
use Rattle.rep_text.specs.RepReading.{ReadsFirst, ReadsLine, RefusesFirst, RefusesLine, RefusesRep, with_line}
use Rattle.rep_text.proofs.RepByLine.{refusal_handed, first_refuses, first_reads, row_refuses, row_reads}
use Rattle.rep_text.proofs.RepLines.{IsReadTo, read_open, read_all}
use Rattle.rep_text.proofs.reader.read_rep.Goals as goal

pub returns-in_err-reading-clause-refused : goal.returns-in_err-reading-clause-refused
returns-in_err-reading-clause-refused c =
    let some = some_left c.args.bytes.now c.if-is_empty.ensures in
    let line = c.first_piece.result.0.now in
    let end = c.in_err-reading.field-0.0 in
    let refused = subst (λ b. RefusesFirst b line end) c.is_some.ensures c.in_err-reading.ensures.refused in
    refusal_handed c.args.bytes.now c.from_residual.result end c.from_residual.ensures (first_refuses c.args.bytes.now line c.first_piece.result.1 end some c.first_piece.ensures.pieces refused)

pub loop-rest-init : goal.loop-rest-init
loop-rest-init c =
    let some = some_left c.args.bytes.now c.if-is_empty.ensures in
    let line = c.first_piece.result.0.now in
    let s = c.in_ok-reading.reading in
    let read = subst (λ b. ReadsFirst b line s) c.is_some.ensures c.in_ok-reading.ensures.ok in
    subst (λ r. IsReadTo c.args.bytes.now (lines_of r) s) (sym c.text_after-rest.ensures) (first_reads c.args.bytes.now line c.first_piece.result.1 s some c.first_piece.ensures.pieces read)

pub returns-in_err-row-clause-refused : goal.returns-in_err-row-clause-refused
returns-in_err-row-clause-refused c =
    let rest = c.loop-rest.rest.now in
    let some = some_left rest c.loop-rest-test.ensures in
    let line = c.first_piece-in-loop-rest.result.0.now in
    let s = c.loop-rest.reading in
    let end = c.in_err-row.field-0.0 in
    let refused = subst (λ b. RefusesLine s.head s.before s.ended b line end) c.is_some-in-loop-rest.ensures c.in_err-row.ensures.refused in
    refusal_handed c.args.bytes.now c.from_residual-in_err-row.result end c.from_residual-in_err-row.ensures
    (row_refuses c.args.bytes.now rest line c.first_piece-in-loop-rest.result.1 s end some c.first_piece-in-loop-rest.ensures.pieces c.loop-rest.invariant refused)

pub loop-rest-preserved : goal.loop-rest-preserved
loop-rest-preserved c =
    let rest = c.loop-rest.rest.now in
    let some = some_left rest c.loop-rest-test.ensures in
    let line = c.first_piece-in-loop-rest.result.0.now in
    let s = c.loop-rest.reading in
    let row = c.in_ok-row.row in
    let read = subst (λ b. ReadsLine s.head s.before s.ended b line row) c.is_some-in-loop-rest.ensures c.in_ok-row.ensures.ok in
    let more = row_reads c.args.bytes.now rest line c.first_piece-in-loop-rest.result.1 s row some c.first_piece-in-loop-rest.ensures.pieces c.loop-rest.invariant read in
    subst (λ t. IsReadTo c.args.bytes.now (lines_of c.text_after-rest-in-loop-rest.result.now) t) (sym c.in_ok-add.ensures)
    (subst (λ r. IsReadTo c.args.bytes.now (lines_of r) (with_line s row)) (sym c.text_after-rest-in-loop-rest.ensures) more)

pub returns-then-not-reading-clause-refused : goal.returns-then-not-reading-clause-refused
returns-then-not-reading-clause-refused c =
    let s = c.loop-rest.reading in
    let none = none_left c.loop-rest.rest.now c.loop-rest-test.ensures in
    let read = subst (λ r. IsReadTo c.args.bytes.now (lines_of r) s) none c.loop-rest.invariant in
    subst (RefusesRep c.args.bytes.now) (sym c.end_at-then-not-reading.ensures) (read_open c.args.bytes.now s read c.if-not-reading.true)

pub returns-clause-ok : goal.returns-clause-ok
returns-clause-ok c =
    let s = c.loop-rest.reading in
    let none = none_left c.loop-rest.rest.now c.loop-rest-test.ensures in
    let read = subst (λ r. IsReadTo c.args.bytes.now (lines_of r) s) none c.loop-rest.invariant in
    let all = read_all c.args.bytes.now s read c.if-not-reading.false in
    record { held = read.held; few = all.1; text = all.0 }
