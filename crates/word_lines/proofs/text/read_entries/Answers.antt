use Rattle.std.proofs.Common.{◌+◌, ◌++◌, ◌∷◌, [], arith, length, sym, ap, ◌∙◌, subst}
use Rattle.std.specs.List.{list_any}
use Rattle.std.proofs.lemmas.List.{length-append}
use Rattle.src_sink.specs.Texts.{lines_of}
use Rattle.word_lines.specs.FirstFault.{FirstFault, line_test}
use Rattle.word_lines.specs.Grammar.{is_last}
use Rattle.word_lines.specs.Taking.{RefusesLine}
use Rattle.word_lines.specs.declared.fault.LogKind.TheVariants.{NoEnd}
use Rattle.word_lines.proofs.Lines.{IsReadTo, read_open, read_all_lines}
use Rattle.word_lines.proofs.LineByLine.{reads_on, refuses_on, any_end_push, some_left, none_left, after_shorter, refusal_handed}
use Rattle.word_lines.proofs.text.read_entries.Goals as goal

pub returns-in_err-entry-clause-refused : goal.returns-in_err-entry-clause-refused
returns-in_err-entry-clause-refused g c =
    let m = g.E.LineEntry.grammar in
    let i = c.loop-rest.invariant in
    let some = some_left c.loop-rest.rest.now c.loop-rest-test.ensures in
    let refused = subst (λ b. RefusesLine m (c.loop-rest.number + 1) c.loop-rest.ended b c.first_piece.result.0.now c.in_err-entry.field-0.0) c.is_some.ensures c.in_err-entry.ensures.refused in
    let end = refuses_on m c.args.bytes.now c.loop-rest.rest.now c.first_piece.result.0.now c.first_piece.result.1 c.loop-rest.entries c.loop-rest.number c.loop-rest.ended c.in_err-entry.field-0.0 some c.first_piece.ensures.pieces i.read i.number i.ended refused in
    refusal_handed m c.args.bytes.now c.from_residual.result c.in_err-entry.field-0.0 c.from_residual.ensures end

pub loop-rest-preserved : goal.loop-rest-preserved
loop-rest-preserved g c =
    let m = g.E.LineEntry.grammar in
    let i = c.loop-rest.invariant in
    let h = c.in_ok-entry.ensures.ok in
    let some = some_left c.loop-rest.rest.now c.loop-rest-test.ensures in
    let more = reads_on m c.args.bytes.now c.loop-rest.rest.now c.first_piece.result.0.now c.first_piece.result.1 c.loop-rest.entries c.in_ok-entry.entry c.loop-rest.ended some c.first_piece.ensures.pieces i.read i.ended (h.0, sym c.is_some.ensures ∙ h.1, h.2, h.3) in
    let pushed = c.in_ok-push.ensures.ok in
    let count = length-append c.loop-rest.entries (c.in_ok-entry.entry ∷ []) in
    let shorter = after_shorter c.loop-rest.rest.now c.first_piece.result.1 some c.first_piece.ensures.shorter in
    let number = i.number in
    let room = i.room in
    record {
      read = subst (λ xs. IsReadTo m c.args.bytes.now (lines_of c.text_after-rest.result.now) xs) (sym pushed) (subst (λ r. IsReadTo m c.args.bytes.now (lines_of r) (c.loop-rest.entries ++ c.in_ok-entry.entry ∷ [])) (sym c.text_after-rest.ensures) more);
      number = omega (arith, ap length pushed);
      room = omega (arith, ap length c.text_after-rest.ensures);
      ended = c.is_end-ended.ensures ∙ any_end_push (is_last m) c.loop-rest.entries c.in_ok-entry.entry c.loop-rest.ended i.ended h.0 ∙ ap (list_any (is_last m)) (sym pushed);
    }

pub returns-then-ended-clause-ok : goal.returns-then-ended-clause-ok
returns-then-ended-clause-ok g c =
    let m = g.E.LineEntry.grammar in
    let i = c.loop-rest.invariant in
    let none = none_left c.loop-rest.rest.now c.loop-rest-test.ensures in
    read_all_lines m c.args.bytes.now c.loop-rest.entries (subst (λ r. IsReadTo m c.args.bytes.now (lines_of r) c.loop-rest.entries) none i.read) (sym i.ended ∙ c.if-ended.true)

pub returns-else-ended-clause-refused : goal.returns-else-ended-clause-refused
returns-else-ended-clause-refused g c =
    let m = g.E.LineEntry.grammar in
    let i = c.loop-rest.invariant in
    let none = none_left c.loop-rest.rest.now c.loop-rest-test.ensures in
    subst (λ n. FirstFault (line_test m.forms_of) c.args.bytes.now (record { line = n + 1; kind = NoEnd })) (sym i.number)
    (read_open m c.args.bytes.now c.loop-rest.entries (subst (λ r. IsReadTo m c.args.bytes.now (lines_of r) c.loop-rest.entries) none i.read) (sym i.ended ∙ c.if-ended.false))
