use Rattle.std.proofs.Common.{◌≡◌, drop, ap, arith}
use Rattle.std.proofs.lemmas.List.{drop_all}
use Rattle.lineality.specs.Without.{open_count}
use Rattle.lineality.proofs.line_places.open_places.Goals as goal

pub returns : goal.returns
returns c =
    let none : open_count (drop c.loop-is_line.is_line-index c.args.places.now) ≡ 0 = ap open_count (drop_all c.loop-is_line.is_line-index c.args.places.now c.loop-is_line-test.false) in
    let same = c.loop-is_line.invariant.same in
    omega (arith, same, none)
