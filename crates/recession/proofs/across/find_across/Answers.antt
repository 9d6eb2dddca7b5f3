use Rattle.std.proofs.Common.{◌++◌, List, map, length, reverse, sym, ap, ◌∙◌, subst, arith}
use Rattle.std.proofs.lemmas.List.{length-map, length-reverse}
use Rattle.outer_approx.specs.Lines.{told_by}
use Rattle.recession.specs.Further.{IsNextSide, normals_of}
use Rattle.recession.proofs.Tail.{next_row}
use Rattle.recession.proofs.across.find_across.Goals as goal

pub overflow_sub-count : goal.overflow_sub-count
overflow_sub-count g c =
    let value = g.F.Field.value in
    let lines = c.args.lines.now in
    let next = next_row value c.args.q (normals_of value c.args.cuts.now) c.in_ok-vectors.vectors.list (map (told_by value) (reverse lines)) c.count.result (length lines)
    c.in_ok-vectors.ensures.ok c.requires.tail
    (let few = c.requires.few in let a = length-map c.args.cuts.now (λ cut. map value cut.w) in omega (arith, few, a))
    (sym (length-reverse lines) ∙ sym (length-map (reverse lines) (told_by value))) c.count.ensures in
    let low = next.0 in
    omega (arith, low)

pub row-requires-clause-low : goal.row-requires-clause-low
row-requires-clause-low g c =
    let value = g.F.Field.value in
    let lines = c.args.lines.now in
    let next = next_row value c.args.q (normals_of value c.args.cuts.now) c.in_ok-vectors.vectors.list (map (told_by value) (reverse lines)) c.count.result (length lines)
    c.in_ok-vectors.ensures.ok c.requires.tail
    (let few = c.requires.few in let a = length-map c.args.cuts.now (λ cut. map value cut.w) in omega (arith, few, a))
    (sym (length-reverse lines) ∙ sym (length-map (reverse lines) (told_by value))) c.count.ensures in
    next.0

pub returns-clause-ok : goal.returns-clause-ok
returns-clause-ok g c =
    let value = g.F.Field.value in
    let lines = c.args.lines.now in
    let q = c.args.q in
    let normals = normals_of value c.args.cuts.now in
    let ls = map (told_by value) (reverse lines) in
    let next = next_row value q normals c.in_ok-vectors.vectors.list ls c.count.result (length lines)
    c.in_ok-vectors.ensures.ok c.requires.tail
    (let few = c.requires.few in let a = length-map c.args.cuts.now (λ cut. map value cut.w) in omega (arith, few, a))
    (sym (length-reverse lines) ∙ sym (length-map (reverse lines) (told_by value))) c.count.ensures in
    let is = c.in_ok-append.ensures.ok ∙ ap (λ xs. xs ++ c.row.result.now) c.new-d.ensures ∙ c.row.ensures.row in
    subst (λ (d : List _). IsNextSide q normals ls (map value d)) (sym is) next.2
