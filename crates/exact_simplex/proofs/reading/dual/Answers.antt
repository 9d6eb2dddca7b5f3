use Rattle.std.proofs.Common.{◌≡◌, ◌∙◌, ◌+◌, ℕ, ap, ap₂, arith, slice_index_or}
use Rattle.exact_field.specs.Rational.{◌*ℚ◌}
use Rattle.tableaux.specs.Table.{artificial_column, at, listed, second_cost, equation_count, table_of}
use Rattle.lin_rows.proofs.Lists.{mapped_more}
use Rattle.lin_rows.specs.System.{system_of}
use Rattle.exact_simplex.proofs.Programs.{equation_count_is, right_column_is}
use Rattle.exact_simplex.proofs.Readings.{sign_is, row_there, artificial_is, artificial_high}
use Rattle.exact_simplex.proofs.reading.dual.Goals as goal

pub artificial_column-col-requires-clause-width : goal.artificial_column-col-requires-clause-width
artificial_column-col-requires-clause-width g c = c.requires.held.width ∙ right_column_is g.F.Field.value c.args.system.now c.requires.lengths

pub entry-entry-requires-clause-inside : goal.entry-entry-requires-clause-inside
entry-entry-requires-clause-inside g c = omega (arith, row_there g.F.Field.value c.args.system.now c.requires.lengths c.args.tableau.now c.requires.held (c.args.system.now.rows + 1) (omega arith))

pub entry-entry-requires-clause-high : goal.entry-entry-requires-clause-high
entry-entry-requires-clause-high g c =
    artificial_high g.F.Field.value c.args.system.now c.requires.lengths c.args.tableau.now c.requires.held c.loop-i.i (omega arith) c.artificial_column-col.result c.artificial_column-col.ensures

pub loop-i-preserved : goal.loop-i-preserved
loop-i-preserved g c =
    let value = g.F.Field.value in
    let p = c.args.system.now in
    let s = system_of value p in
    let t = c.args.tableau.now in
    let i : ℕ = c.loop-i.i in
    let b = c.index-as_slice-i.result in
    let row_is : p.rows + 1 + 1 ≡ second_cost s = omega (arith, equation_count_is value p c.requires.lengths) in
    mapped_more value c.loop-i.out c.push.new.self c.give_sign.result i
    (λ k. at (table_of s) k (artificial_column s k) *ℚ at t.table (second_cost s) (artificial_column s k)) c.in_ok-push.ensures.ok c.loop-i.invariant
    (c.give_sign.ensures
    ∙ ap₂ (λ x y. x *ℚ y) (sign_is value p c.requires.lengths i b (omega arith) (c.index-as_slice-i.is ∙ ap (λ v. slice_index_or v i b) c.as_slice.ensures.items))
    (c.entry-entry.ensures ∙ ap₂ (λ r k. at t.table r k) row_is
    (artificial_is value p c.requires.lengths t c.requires.held i (omega arith) c.artificial_column-col.result c.artificial_column-col.ensures)))

pub returns : goal.returns
returns g c =
    let value = g.F.Field.value in
    let p = c.args.system.now in
    let s = system_of value p in
    let end : c.loop-i.i ≡ equation_count s = omega (arith, equation_count_is value p c.requires.lengths) in
    c.loop-i.invariant ∙ ap (λ n. listed n (λ k. at (table_of s) k (artificial_column s k) *ℚ at c.args.tableau.now.table (second_cost s) (artificial_column s k))) end
