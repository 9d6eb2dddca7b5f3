use Rattle.std.proofs.Common.{◌≡◌, ◌+◌, ◌∙◌, ◌<◌, ℕ, length, List, All, Contains, get_or, take, refl, sym, ap, ap₂, subst, arith}
use Rattle.exact_field.specs.Rational.{ℚ, ◌<ℚ◌}
use Rattle.weighing.specs.Walk.{IsNoLess}
use Rattle.weighing.proofs.Below.{IsBestOf, best_moved, best_kept}
use Rattle.weighing.proofs.Walks.{all_done}
use Rattle.weighing.proofs.least.find_best.Goals.{then-is_below, else-is_below}
use Rattle.weighing.proofs.least.find_best.Goals as goal

pub loop-value-preserved : goal.loop-value-preserved
loop-value-preserved c =
    let vs = c.args.values.now in
    let i = c.loop-value.value-index in
    let v = c.value-item.result in
    let found = c.loop-value.found in
    let dir = c.args.direction in
    let old : IsBestOf dir vs i found = record { least = c.loop-value.invariant.least; one = c.loop-value.invariant.one } in
    let within : i < length vs = c.loop-value-test.true in
    let test = subst (λ (p : ℚ × ℚ). (c.is_below.result ≡ Rattle.std.proofs.Common.true → p.0 <ℚ p.1) × (p.0 <ℚ p.1 → c.is_below.result ≡ Rattle.std.proofs.Common.true))
    (ap₂ (λ (a b : ℚ). (a, b)) c.working_number.ensures c.working_number-in-loop-value.ensures) c.is_below.ensures in
    let new : IsBestOf dir vs (i + 1) c.if-is_below.found = elim c.if-is_below.branch [
      | then-is_below w ↦ subst (λ (f : ℚ). IsBestOf dir vs (i + 1) f) (sym w.found-is) (best_moved dir vs i v found c.is_below.result within c.value-item.is test w.if-is_below.true old)
      | else-is_below w ↦ subst (λ (f : ℚ). IsBestOf dir vs (i + 1) f) (sym w.found-is) (best_kept dir vs i v found c.is_below.result within c.value-item.is test w.if-is_below.false old)
    ] in
    record { least = new.least; one = new.one }

pub returns-clause-least : goal.returns-clause-least
returns-clause-least c =
    all_done (λ (x : ℚ). IsNoLess c.args.direction x c.loop-value.found) c.args.values.now c.loop-value.value-index c.loop-value-test.false c.loop-value.invariant.least
