use Rattle.std.proofs.Common.{◌∙◌, ◌+◌, refl}
use Rattle.polyhedra.specs.LiveList.{LivePair}
use Rattle.log_versions.specs.Hints.{named_pair}
use Rattle.log_live.specs.Adding.{pair_of}
use Rattle.log_live.specs.Live.{live_of}
use Rattle.log_live.specs.declared.telling.Telling.{Telling}
use Rattle.log_live.proofs.Hintings.{next_is}
use Rattle.log_live.proofs.Tellings.{tells-listed, tells-hint}
use Rattle.log_live.proofs.telling.tell_pair.Goals as goal

pub returns-then-is_next-clause-tells : goal.returns-then-is_next-clause-tells
returns-then-is_next-clause-tells c rows all a b =
    let o : LivePair = pair_of c.args.plus.now c.args.minus.now in
    let old : Telling = c.args.telling.now in
    tells-listed rows (live_of c.args.generators.now) c.args.pairs.now o old
    (record old { listed = old.listed + 1 })
    (next_is c.args.pairs.now old.listed (named_pair o) c.is_next.result c.is_next.ensures.matches
    ∙ c.if-is_next.true) refl refl

pub returns-clause-tells : goal.returns-clause-tells
returns-clause-tells c rows all a b =
    let o : LivePair = pair_of c.args.plus.now c.args.minus.now in
    let old : Telling = c.args.telling.now in
    tells-hint rows (live_of c.args.generators.now) c.args.pairs.now o old
    (record old { hints = c.push.new.self; common = c.set_meet.new.self })
    c.first_cover-hint.result
    (next_is c.args.pairs.now old.listed (named_pair o) c.is_next.result c.is_next.ensures.matches
    ∙ c.if-is_next.false)
    (c.first_cover-hint.ensures rows all a b c.set_meet.ensures) refl c.in_ok-push.ensures.ok
