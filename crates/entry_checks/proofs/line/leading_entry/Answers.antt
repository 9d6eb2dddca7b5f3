use Rattle.std.proofs.Common.{sym, ap, arith, ◌∙◌, ◌≡◌, ℕ, length, drop}
use Rattle.std.proofs.lemmas.List.{drop_all}
use Rattle.polyhedra.specs.DoubleDescription.{leading}
use Rattle.entry_checks.proofs.Products.{leading-here, leading-next}
use Rattle.entry_checks.proofs.line.leading_entry.Goals as goal

pub returns-then-not-is_zero : goal.returns-then-not-is_zero
returns-then-not-is_zero c =
    sym (c.loop-x.invariant ∙ leading-here c.args.v.now c.loop-x.x-index c.x-item.result (omega arith) c.x-item.is (sym c.is_zero.ensures ∙ c.if-not-is_zero.true))

pub loop-x-preserved : goal.loop-x-preserved
loop-x-preserved c =
    c.loop-x.invariant ∙ leading-next c.args.v.now c.loop-x.x-index c.x-item.result (omega arith) c.x-item.is (sym c.is_zero.ensures ∙ c.if-not-is_zero.false)

pub returns : goal.returns
returns c =
    let over : c.loop-x.x-index ≡ length c.args.v.now = omega arith in
    c.from.ensures ∙ sym (c.loop-x.invariant ∙ ap (λ (k : ℕ). leading (drop k c.args.v.now)) over ∙ ap leading (drop_all (length c.args.v.now) c.args.v.now (omega arith)))
