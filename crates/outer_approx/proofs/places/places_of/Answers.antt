use Rattle.std.proofs.Common.{map}
use Rattle.outer_approx.specs.Lines.{told_by}
use Rattle.lineality.proofs.Reading.{marks_end, marks_more}
use Rattle.outer_approx.proofs.places.places_of.Goals as goal

pub loop-k-preserved : goal.loop-k-preserved
loop-k-preserved g c =
    marks_more (map (told_by g.F.Field.value) c.args.lines.now) c.args.q c.loop-k.k c.loop-k.places c.push.new.self c.is_line_place.result c.loop-k-test.true
    c.in_ok-push.ensures.ok c.is_line_place.ensures c.loop-k.invariant

pub returns : goal.returns
returns g c = marks_end (map (told_by g.F.Field.value) c.args.lines.now) c.args.q c.loop-k.k c.loop-k.places c.loop-k-test.false c.loop-k.invariant
