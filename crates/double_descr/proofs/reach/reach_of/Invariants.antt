use Rattle.std.proofs.Common.{◌≡◌, ℕ, ◌<◌, length, get_or}
use Rattle.exact_field.specs.Rational.{zero_ℚ, ◌<ℚ◌}
use Rattle.exact_field.specs.Vector.{dot}
use Rattle.incid_sets.specs.Marks.{ContainsAll}
use Rattle.double_descr.specs.Steps.{values}
use Rattle.double_descr.specs.declared.generator.Generator.{Generator}
use Rattle.double_descr.proofs.reach.reach_of.Given as goal

abbrev pub invariant-loop-i : goal.invariant-loop-i
invariant-loop-i g l = record {
  bound : length l.reach ≡ l.count;
  taken : (j : ℕ) (m : Generator _) → j < l.i → m ≡ get_or l.generators j m → dot g.addition.row (values g.F.Field.value m.vector.items) <ℚ zero_ℚ → ContainsAll l.reach m.tight;
}
