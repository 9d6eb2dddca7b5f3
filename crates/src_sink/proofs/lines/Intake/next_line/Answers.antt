use Rattle.std.proofs.Common.{◌++◌, arith, sym, ap, ◌∙◌, append-nil}
use Rattle.std.proofs.lemmas.Result.{err_from_is_err_and}
use Rattle.src_sink.proofs.Intake.{turn, stopped}
use Rattle.src_sink.proofs.lines.Intake.next_line.Goals as goal

pub returns-in_err-refill-clause-err : goal.returns-in_err-refill-clause-err
returns-in_err-refill-clause-err g c =
    let p = err_from_is_err_and c.from_residual-in_err-refill.result c.from_residual-in_err-refill.ensures.1 in
    let i = c.loop-self.invariant in
    rw (p.1, p.2)
    (stopped c.in_err-refill.field-0.0 c.args.self.now c.loop-self.self c.give.new.self c.refill.new.self (g.S.Source.left c.args.src.now) (g.S.Source.left c.loop-self.src) (g.S.Source.left c.refill.new.src)
    c.loop-self.line c.give.new.line c.in_ok-give.field-0 _ _ _ c.if-branch.false i.took i.lacks c.in_ok-give.ensures.ok i.count c.in_err-refill.ensures.err)

pub returns-else-len-eq0-clause-ok : goal.returns-else-len-eq0-clause-ok
returns-else-len-eq0-clause-ok g c =
    let i = c.loop-self.invariant in
    let more = c.in_ok-refill.ensures.ok in
    let t = turn c.args.self.now c.loop-self.self c.give.new.self c.refill.new.self (g.S.Source.left c.args.src.now) (g.S.Source.left c.loop-self.src) (g.S.Source.left c.refill.new.src)
    c.loop-self.line c.give.new.line c.in_ok-give.field-0 c.if-branch.false i.took i.lacks c.in_ok-give.ensures.ok more.0 in
    let end = more.3 c.if-not-branch.true in
    (t.0.0, t.0.1, (sym t.0.2 ∙ ap (λ l. c.give.new.line ++ l) end.0 ∙ append-nil c.give.new.line, omega arith, end.0, end.1), t.1, more.1)

pub loop-self-preserved : goal.loop-self-preserved
loop-self-preserved g c =
    let i = c.loop-self.invariant in
    let more = c.in_ok-refill.ensures.ok in
    let t = turn c.args.self.now c.loop-self.self c.give.new.self c.refill.new.self (g.S.Source.left c.args.src.now) (g.S.Source.left c.loop-self.src) (g.S.Source.left c.refill.new.src)
    c.loop-self.line c.give.new.line c.in_ok-give.field-0 c.if-branch.false i.took i.lacks c.in_ok-give.ensures.ok more.0 in
    record {
      limit = omega (arith, t.2, i.limit);
      within = more.1;
      count = omega (arith, i.count, c.in_ok-refill.ensures.count);
      lacks = t.1;
      took = t.0;
    }
