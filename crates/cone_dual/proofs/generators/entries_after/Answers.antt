use Rattle.std.proofs.Common.{map, ap, sym, ◌∙◌}
use Rattle.std.proofs.lemmas.List.{drop-map, take_rest}
use Rattle.cone_dual.proofs.generators.entries_after.Goals as goal

pub returns : goal.returns
returns g c =
    let value = g.F.Field.value in
    ap (map value) (take_rest c.args.list.now c.args.n) ∙ sym (drop-map value c.args.n c.args.list.now)
