use Rattle.std.proofs.Common.{ℕ, ◌+◌, ◌++◌, ◌<◌, List, map, sym, ap, ◌∙◌, subst}
use Rattle.polyhedra.specs.Dependence.{AreCorners}
use Rattle.lin_rows.specs.Read.{numbers as table}
use Rattle.lin_rows.proofs.Errors.{err_holds}
use Rattle.double_descr.specs.Starting.{IsStart}
use Rattle.double_descr.specs.State.{IsKept, list_of}
use Rattle.double_descr.specs.Steps.{values}
use Rattle.double_descr.specs.declared.generator.Generator.{Generator}
use Rattle.double_descr.proofs.NormingLeft.{start_fault}
use Rattle.double_descr.proofs.StartState.{is_start, kept_start}
use Rattle.double_descr.proofs.dd.Dd.start.Goals as goal

pub invariant_of-result : goal.invariant_of-result
invariant_of-result g c =
    let value = g.F.Field.value in
    let rows = c.args.rows.now in
    let gens = c.in_ok-generators.generators in
    let vectors = table value c.in_ok-vectors.vectors.list in
    let wide : AreCorners c.in_ok-vectors.vectors.width (table value rows.list) vectors =
    subst (λ (n : ℕ). AreCorners n (table value rows.list) vectors) (sym c.in_ok-vectors.ensures.width) c.in_ok-vectors.ensures.ok in
    let numbers = c.push_numbers.new.list in
    subst (λ (p : ℕ × (List (List _) × (ℕ × List (Generator _)))). IsKept value p.0 p.1.0 numbers p.1.1.1 p.1.1.0)
    (λ i. (sym c.width.ensures i, (sym c.in_ok-lines.ensures i, (sym c.len.ensures.value i + 1, sym c.into_vec.ensures.items i))))
    (kept_start value rows.width rows.list vectors c.in_ok-vectors.ensures.ok gens c.in_ok-generators.ensures.live numbers
    (c.in_ok-push_numbers.ensures ∙ ap (λ l. l ++ map (λ (g : Generator _). g.number) c.as_slice.result.now) c.new-numbers.ensures
    ∙ ap (map (λ (g : Generator _). g.number)) c.as_slice.ensures.items)
    (c.in_ok-generators.ensures.tight (table value rows.list) wide) (subst (λ (n : ℕ). n < 4294967296) c.width.ensures c.width.type_inv))

pub returns-clause-ok : goal.returns-clause-ok
returns-clause-ok g c =
    let value = g.F.Field.value in
    let rows = c.args.rows.now in
    let gens = c.in_ok-generators.generators in
    let vectors = table value c.in_ok-vectors.vectors.list in
    subst (λ (p : ℕ × (List (List _) × (ℕ × List (Generator _)))).
    IsStart rows.width (table value rows.list) (record { width = p.0; rows = map (values value) p.1.0; list = list_of value p.1.1.1 p.1.1.0 }))
    (λ i. (sym c.width.ensures i, (sym c.in_ok-lines.ensures i, (sym c.len.ensures.value i + 1, sym c.into_vec.ensures.items i))))
    (is_start value rows.width rows.list vectors c.in_ok-vectors.ensures.ok gens c.in_ok-generators.ensures.live)

pub returns-in_err-generators-clause-left : goal.returns-in_err-generators-clause-left
returns-in_err-generators-clause-left g c =
    let value = g.F.Field.value in
    let holds = g.F.Field.holds in
    let rows = c.args.rows.now in
    let vectors = table value c.in_ok-vectors.vectors.list in
    err_holds c.from_residual-in_err-generators.result c.in_err-generators.field-0.0 _ c.from_residual-in_err-generators.ensures.1
    (start_fault value holds rows.width (table value rows.list) vectors c.in_ok-vectors.ensures.inverse c.in_err-generators.field-0.0 c.in_err-generators.ensures.left)
