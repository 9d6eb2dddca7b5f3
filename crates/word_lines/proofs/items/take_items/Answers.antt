use Rattle.std.proofs.Common.{◌+◌, sym, subst}
use Rattle.word_lines.specs.Taking.{TakesItems}
use Rattle.word_lines.proofs.Taken.{IsTaken, one_taken, items_fail, handed_on}
use Rattle.word_lines.proofs.items.take_items.Goals as goal

pub returns-in_err-take : goal.returns-in_err-take
returns-in_err-take g c =
    let words_of = g.T.Printed.words_of in
    let good = g.T.Item.is_good in
    let step = g.T.Item.step in
    let failed = items_fail words_of good step c.args.count c.args.words.now c.loop.words c.take.new.words c.loop.counter c.loop.items c.in_err-take.field-0.0 c.loop-test.true c.loop.invariant c.in_err-take.ensures in
    subst (λ r. TakesItems words_of good step c.args.count c.args.words.now c.take.new.words r) (sym (handed_on c.from_residual-in_err-take.result c.in_err-take.field-0.0 c.from_residual-in_err-take.ensures)) failed

pub loop-preserved : goal.loop-preserved
loop-preserved g c =
    let words_of = g.T.Printed.words_of in
    let good = g.T.Item.is_good in
    let step = g.T.Item.step in
    let more = one_taken words_of good step c.args.count c.args.words.now c.loop.words c.take.new.words c.loop.counter c.loop.items c.in_ok-take.field-0 c.loop-test.true c.loop.invariant c.in_ok-take.ensures in
    subst (λ xs. IsTaken words_of good step c.args.count c.args.words.now c.take.new.words (c.loop.counter + 1) xs) (sym c.in_ok-push.ensures.ok) more
