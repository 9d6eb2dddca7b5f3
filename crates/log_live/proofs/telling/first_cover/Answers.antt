use Rattle.std.proofs.Common.{◌+◌, drop, sym, ap, ◌∙◌, arith}
use Rattle.std.proofs.lemmas.List.{drop_all, length-map}
use Rattle.polyhedra.proofs.Lists.{drop_value}
use Rattle.polyhedra.proofs.Members.{listed}
use Rattle.log_versions.specs.Hints.{first_cover}
use Rattle.log_live.specs.Adding.{pair_of}
use Rattle.log_live.specs.Live.{HasTightSet, live_of, numbered_of}
use Rattle.log_live.proofs.Tellings.{cover_here, cover_later}
use Rattle.log_live.proofs.telling.first_cover.Goals as goal

pub returns-then-covers_pair : goal.returns-then-covers_pair
returns-then-covers_pair c rows all a b m =
    let live = live_of c.args.generators.now in
    sym (cover_here rows (pair_of c.args.plus.now c.args.minus.now)
    (numbered_of c.third-item.result) (drop c.loop-third.third-index live) (drop (c.loop-third.third-index + 1) live)
    (drop_value numbered_of c.args.generators.now c.loop-third.third-index c.third-item.result
    c.loop-third-test.true c.third-item.is) c.covers_pair.result
    (c.covers_pair.ensures rows
    (listed (HasTightSet rows) c.args.generators.now c.loop-third.third-index c.third-item.result all
    c.loop-third-test.true c.third-item.is) a b m)
    c.if-covers_pair.true)
    ∙ c.loop-third.invariant rows all a b m

pub loop-third-preserved : goal.loop-third-preserved
loop-third-preserved c rows all a b m =
    let live = live_of c.args.generators.now in
    sym (cover_later rows (pair_of c.args.plus.now c.args.minus.now)
    (numbered_of c.third-item.result) (drop c.loop-third.third-index live) (drop (c.loop-third.third-index + 1) live)
    (drop_value numbered_of c.args.generators.now c.loop-third.third-index c.third-item.result
    c.loop-third-test.true c.third-item.is) c.covers_pair.result
    (c.covers_pair.ensures rows
    (listed (HasTightSet rows) c.args.generators.now c.loop-third.third-index c.third-item.result all
    c.loop-third-test.true c.third-item.is) a b m)
    c.if-covers_pair.false)
    ∙ c.loop-third.invariant rows all a b m

pub returns : goal.returns
returns c rows all a b m =
    ap (first_cover rows (pair_of c.args.plus.now c.args.minus.now))
    (sym (drop_all c.loop-third.third-index (live_of c.args.generators.now)
    (omega (arith, length-map c.args.generators.now numbered_of))))
    ∙ c.loop-third.invariant rows all a b m
