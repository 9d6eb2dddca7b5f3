use Rattle.std.proofs.Common.{◌≡◌, take, not, None}
use Rattle.std.specs.List.{find}
use Rattle.lp_form.proofs.numbers.find_unheld.Given as goal

abbrev pub invariant-loop-number : goal.invariant-loop-number
invariant-loop-number g l =
    find (λ q. not (g.F.Field.holds q)) (take l.number-index l.numbers) ≡ None
