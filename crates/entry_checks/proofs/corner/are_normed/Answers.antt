use Rattle.std.proofs.Common.{sym, ap, arith, ◌∙◌, ◌≡◌, ◌+◌, ◌-◌, ◌*◌, ℕ, drop}
use Rattle.exact_field.specs.Order.{same_ℚ}
use Rattle.exact_field.specs.Rational.{one_ℚ}
use Rattle.std.proofs.Common.{take}
use Rattle.polyhedra.specs.DoubleDescription.{magnitude, leading}
use Rattle.upper_image.specs.Spots.{pieces}
use Rattle.entry_checks.proofs.RisingNumbers.{length-pieces, pieces-at}
use Rattle.entry_checks.proofs.NamedCuts.{list_all-here, list_all-next, list_all-end}
use Rattle.entry_checks.proofs.corner.are_normed.Goals as goal

pub returns-then-not-is_normed : goal.returns-then-not-is_normed
returns-then-not-is_normed c =
    let many = length-pieces c.args.count c.args.objs c.args.directions.now in
    let step : c.loop-a.a * c.args.objs + c.args.objs - c.loop-a.a * c.args.objs ≡ c.args.objs = omega arith in
    let row = sym (pieces-at c.args.count c.args.objs c.loop-a.a c.args.directions.now (take c.args.objs (drop (c.loop-a.a * c.args.objs) c.args.directions.now)) (omega arith)) in
    let told = sym (ap (λ (k : ℕ). same_ℚ (magnitude (leading (take k (drop (c.loop-a.a * c.args.objs) c.args.directions.now)))) one_ℚ) step) ∙ sym c.is_normed.ensures in
    sym (c.loop-a.invariant ∙ list_all-here (λ d. same_ℚ (magnitude (leading d)) one_ℚ) (pieces c.args.count c.args.objs c.args.directions.now) c.loop-a.a (take c.args.objs (drop (c.loop-a.a * c.args.objs) c.args.directions.now)) (omega (arith, many)) row (told ∙ c.if-not-is_normed.true))

pub loop-a-preserved : goal.loop-a-preserved
loop-a-preserved c =
    let many = length-pieces c.args.count c.args.objs c.args.directions.now in
    let step : c.loop-a.a * c.args.objs + c.args.objs - c.loop-a.a * c.args.objs ≡ c.args.objs = omega arith in
    let row = sym (pieces-at c.args.count c.args.objs c.loop-a.a c.args.directions.now (take c.args.objs (drop (c.loop-a.a * c.args.objs) c.args.directions.now)) (omega arith)) in
    let told = sym (ap (λ (k : ℕ). same_ℚ (magnitude (leading (take k (drop (c.loop-a.a * c.args.objs) c.args.directions.now)))) one_ℚ) step) ∙ sym c.is_normed.ensures in
    c.loop-a.invariant ∙ list_all-next (λ d. same_ℚ (magnitude (leading d)) one_ℚ) (pieces c.args.count c.args.objs c.args.directions.now) c.loop-a.a (take c.args.objs (drop (c.loop-a.a * c.args.objs) c.args.directions.now)) (omega (arith, many)) row (told ∙ c.if-not-is_normed.false)

pub returns : goal.returns
returns c =
    let many = length-pieces c.args.count c.args.objs c.args.directions.now in
    sym (c.loop-a.invariant ∙ list_all-end (λ d. same_ℚ (magnitude (leading d)) one_ℚ) (pieces c.args.count c.args.objs c.args.directions.now) c.loop-a.a (omega (arith, many)))
