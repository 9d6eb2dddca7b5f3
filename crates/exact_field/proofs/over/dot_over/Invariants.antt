use Rattle.std.specs.Prelude.{map}
use Rattle.exact_field.specs.Rational.{ℚ}
use Rattle.exact_field.specs.Over.{IsBelowLimit, IsQuotient}
use Rattle.exact_field.proofs.Products.{IsDotFrom}
use Rattle.exact_field.proofs.over.dot_over.Given as goal

abbrev pub invariant-loop-i : goal.invariant-loop-i
invariant-loop-i g l =
    let value = g.F.Field.value in
    record {
      total : ℚ;
      from : IsDotFrom g.F.Field.holds (map value l.row) (map value l.vector) l.i total;
      is : IsQuotient l.both l.sum total;
      small : IsBelowLimit l.sum;
    }
