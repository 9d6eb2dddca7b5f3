use Rattle.std.proofs.Common.{◌∙◌, sym, ap, length, map, subst, List, arith}
use Rattle.std.proofs.lemmas.List.{get_or-map, length-map, take_all}
use Rattle.exact_field.specs.Rational.{ℚ, zero_ℚ}
use Rattle.lin_rows.specs.Read.{IsLineOf}
use Rattle.lin_rows.proofs.Building.{line_pushed, last_pushed, dense_line}
use Rattle.upper_image.specs.Spots.{entry_of}
use Rattle.overflows.proofs.Sparse.{vector_of}
use Rattle.overflows.proofs.spots.spots_of.Goals as goal

pub loop-i-preserved : goal.loop-i-preserved
loop-i-preserved g c =
    let value = g.F.Field.value in
    let list = c.args.list.now in
    let i = c.loop-i.i in
    let x = c.index-list-i.result in
    let old = map entry_of c.loop-i.spots in
    let new = map entry_of c.push_spot.new.spots in
    let before = c.loop-i.invariant in
    let after = c.in_ok-push_spot.ensures in
    record {
      line = line_pushed (length list) i (map value list) (value x) old new before.line before.last (omega (arith, length-map list value)) (omega (arith, length-map list value))
          (get_or-map value list i x zero_ℚ (omega arith) ∙ ap value (sym c.index-list-i.is)) after.written;
      last = last_pushed i (value x) old new before.last after.written;
      kept = after.kept before.kept;
    }

pub returns-clause-vector : goal.returns-clause-vector
returns-clause-vector g c = vector_of (length c.args.list.now) c.loop-i.spots c.loop-i.invariant.line.rises c.loop-i.invariant.kept

pub returns-clause-numbers : goal.returns-clause-numbers
returns-clause-numbers g c =
    let value = g.F.Field.value in
    let list = c.args.list.now in
    let all : List ℚ = map value list in
    dense_line (length list) all (map entry_of c.loop-i.spots)
    (subst (λ (xs : List ℚ). IsLineOf (length list) xs (map entry_of c.loop-i.spots)) (take_all c.loop-i.i all (omega (arith, length-map list value))) c.loop-i.invariant.line)
    (length-map list value)
