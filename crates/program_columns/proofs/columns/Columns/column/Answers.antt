use Rattle.std.proofs.Common.{◌≡◌, ◌+◌, ◌-◌, ◌<◌, ◌∙◌, ℕ, List, ap, arith, drop, length, sym, take}
use Rattle.lp_form.specs.Shapes.{are_places}
use Rattle.program_columns.proofs.Listed.{column_fits, side_column, unit_column}
use Rattle.program_columns.proofs.columns.Columns.column.Goals as goal

pub returns-then-k-self-clause-places : goal.returns-then-k-self-clause-places
returns-then-k-self-clause-places g c =
    let p = c.args.self.now in
    ap (are_places (length p.right) 0)
    (c.as_slice.ensures.items ∙ side_column p.sides.now p.others p.units (c.args.k - 1)
    c.index-self-k.result c.if-k-self.true)
    ∙ column_fits p.sides.now p.others p.units (length p.right) (c.args.k - 1) p.places
    (omega arith)

pub returns-clause-spots : goal.returns-clause-spots
returns-clause-spots g c =
    let p = c.args.self.now in
    let j : ℕ = c.args.k - 1 - length p.sides.now - c.len-2.result in
    let place : c.args.k - 1 ≡ length p.sides.now + length p.others + j = omega arith in
    let inside : j < length p.units = omega arith in
    let one : j + 1 - j ≡ 1 = omega arith in
    ap (λ us. take (j + 1 - j) (drop j us)) c.as_slice-2.ensures.items
    ∙ unit_column p.sides.now p.others p.units (c.args.k - 1) j (j + 1 - j) place inside one

pub returns-clause-places : goal.returns-clause-places
returns-clause-places g c =
    let p = c.args.self.now in
    ap (are_places (length p.right) 0) (returns-clause-spots g c)
    ∙ column_fits p.sides.now p.others p.units (length p.right) (c.args.k - 1) p.places
    (omega arith)
