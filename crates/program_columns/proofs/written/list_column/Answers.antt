use Rattle.std.proofs.Common.{◌+◌, ◌≤◌, [], List, ap, arith, length, map, subst, sym}
use Rattle.polyhedra.specs.Sparse.{Entry}
use Rattle.lin_rows.specs.Lines.{Rises, entries, last_place}
use Rattle.program_columns.specs.Entries.{IsLonger, placed}
use Rattle.program_columns.proofs.Entered.{grown_line}
use Rattle.program_columns.proofs.written.list_column.Goals as goal

pub returns : goal.returns
returns g c = λ n high.
    let value = g.F.Field.value in
    let top = c.args.base + length c.args.numbers.now in
    let f = placed c.args.base (map value c.args.numbers.now) in
    let none = ap (entries value) c.new-list.ensures in
    let last = entries value c.push_list.new.list in
    grown_line n top f last
    (subst (λ (es : List Entry). IsLonger n top f es last) none
    (c.in_ok-push_list.ensures n
    (subst (λ (es : List Entry). Rises n 0 es) (sym none) tt)
    (subst (λ (es : List Entry). last_place 0 es ≤ c.args.base) (sym none) (omega arith)) high))
