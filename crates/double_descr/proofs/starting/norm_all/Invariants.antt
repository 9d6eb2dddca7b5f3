use Rattle.std.proofs.Common.{◌≡◌, List, map, take, All}
use Rattle.exact_field.specs.Rational.{ℚ}
use Rattle.polyhedra.specs.Dependence.{AreCorners}
use Rattle.polyhedra.specs.DoubleDescription.{normed}
use Rattle.polyhedra.specs.LiveList.{numbered}
use Rattle.lin_rows.specs.Read.{numbers}
use Rattle.double_descr.specs.Starting.{norming_steps}
use Rattle.double_descr.specs.State.{HasTightSet, live_of}
use Rattle.double_descr.specs.Steps.{IsHeld}
use Rattle.double_descr.proofs.starting.norm_all.Given as goal

abbrev pub invariant-loop-j : goal.invariant-loop-j
invariant-loop-j g l =
    let value = g.F.Field.value in
    let vectors = numbers value l.vectors.list in
    record {
      live : live_of value l.out ≡ numbered 1 (map normed (take l.j vectors));
      tight : (rows : List (List ℚ)) → AreCorners l.vectors.width rows vectors → All (HasTightSet value rows) l.out;
      held : All (λ v. All (IsHeld g.F.Field.holds) (norming_steps v)) (take l.j vectors);
    }
