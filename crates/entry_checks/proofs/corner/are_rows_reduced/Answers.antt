use Rattle.std.proofs.Common.{sym, ap, arith, ◌∙◌, ◌≡◌, ◌+◌, ◌-◌, ◌*◌, ℕ, drop}
use Rattle.std.specs.List.{list_all}
use Rattle.exact_field.specs.Vector.{entry}
use Rattle.frac128.specs.Sparse.{is_zero}
use Rattle.lineality.specs.Lines.{leading_place}
use Rattle.std.proofs.Common.{take}
use Rattle.upper_image.specs.Spots.{pieces}
use Rattle.entry_checks.proofs.RisingNumbers.{length-pieces, pieces-at}
use Rattle.entry_checks.proofs.NamedCuts.{list_all-here, list_all-next, list_all-end}
use Rattle.entry_checks.proofs.corner.are_rows_reduced.Goals as goal

pub returns-then-not-is_reduced : goal.returns-then-not-is_reduced
returns-then-not-is_reduced c =
    let many = length-pieces c.args.count c.args.objs c.args.directions.now in
    let step : c.loop-a.a * c.args.objs + c.args.objs - c.loop-a.a * c.args.objs ≡ c.args.objs = omega arith in
    let row = sym (pieces-at c.args.count c.args.objs c.loop-a.a c.args.directions.now (take c.args.objs (drop (c.loop-a.a * c.args.objs) c.args.directions.now)) (omega arith)) in
    let told = sym (ap (λ (k : ℕ). list_all (λ d. is_zero (entry (take k (drop (c.loop-a.a * c.args.objs) c.args.directions.now)) (leading_place d))) c.args.lines.now) step) ∙ sym c.is_reduced.ensures in
    sym (c.loop-a.invariant ∙ list_all-here (λ v. list_all (λ d. is_zero (entry v (leading_place d))) c.args.lines.now) (pieces c.args.count c.args.objs c.args.directions.now) c.loop-a.a (take c.args.objs (drop (c.loop-a.a * c.args.objs) c.args.directions.now)) (omega (arith, many)) row (told ∙ c.if-not-is_reduced.true))

pub loop-a-preserved : goal.loop-a-preserved
loop-a-preserved c =
    let many = length-pieces c.args.count c.args.objs c.args.directions.now in
    let step : c.loop-a.a * c.args.objs + c.args.objs - c.loop-a.a * c.args.objs ≡ c.args.objs = omega arith in
    let row = sym (pieces-at c.args.count c.args.objs c.loop-a.a c.args.directions.now (take c.args.objs (drop (c.loop-a.a * c.args.objs) c.args.directions.now)) (omega arith)) in
    let told = sym (ap (λ (k : ℕ). list_all (λ d. is_zero (entry (take k (drop (c.loop-a.a * c.args.objs) c.args.directions.now)) (leading_place d))) c.args.lines.now) step) ∙ sym c.is_reduced.ensures in
    c.loop-a.invariant ∙ list_all-next (λ v. list_all (λ d. is_zero (entry v (leading_place d))) c.args.lines.now) (pieces c.args.count c.args.objs c.args.directions.now) c.loop-a.a (take c.args.objs (drop (c.loop-a.a * c.args.objs) c.args.directions.now)) (omega (arith, many)) row (told ∙ c.if-not-is_reduced.false)

pub returns : goal.returns
returns c =
    let many = length-pieces c.args.count c.args.objs c.args.directions.now in
    sym (c.loop-a.invariant ∙ list_all-end (λ v. list_all (λ d. is_zero (entry v (leading_place d))) c.args.lines.now) (pieces c.args.count c.args.objs c.args.directions.now) c.loop-a.a (omega (arith, many)))
