use Rattle.std.proofs.Common.{sym, ap, subst, arith, ◌+◌, ◌≡◌, List}
use Rattle.polyhedra.specs.Sparse.{Entry}
use Rattle.lin_rows.specs.Lines.{entries}
use Rattle.tableaux.specs.Table.{first_cost, right_column, row_of, table_of}
use Rattle.lin_rows.specs.System.{system_of}
use Rattle.exact_simplex.proofs.SystemLines.{IsLineTo}
use Rattle.exact_simplex.proofs.ProgramLines.{first_begins, first_more, first_ends}
use Rattle.exact_simplex.proofs.opening.first_cost_line.Goals as goal

pub loop-i-init : goal.loop-i-init
loop-i-init g c =
    let value = g.F.Field.value in
    let p = c.args.system.now in
    let s = system_of value p in
    let start : p.cols + 0 ≡ p.cols = omega arith in
    subst (λ (es : List Entry). IsLineTo (right_column s) (p.cols + 0) (row_of (table_of s) (first_cost s)) es) (sym (ap (entries value) c.new-line.ensures.items))
    (first_begins value p c.requires.lengths (p.cols + 0) start)

pub loop-i-preserved : goal.loop-i-preserved
loop-i-preserved g c =
    let value = g.F.Field.value in
    first_more value c.args.system.now c.requires.lengths c.loop-i.i c.one.result (entries value c.loop-i.line.items) (entries value c.push_kept.new.line.items) (omega arith)
    c.one.ensures c.loop-i.invariant c.in_ok-push_kept.ensures

pub returns : goal.returns
returns g c =
    let value = g.F.Field.value in
    first_ends value c.args.system.now c.requires.lengths c.loop-i.i (entries value c.loop-i.line.items) (omega arith) c.loop-i.invariant
