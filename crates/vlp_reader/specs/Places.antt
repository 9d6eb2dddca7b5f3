-- The values that a map gives the places of a matrix.
use Rattle.std.specs.Prelude.{ℕ, Option}
use Rattle.std.specs.declared.cmp.Ordering.{Ordering}
use Rattle.std.specs.Ordering.{nat_cmp, ordering_then}
use Rattle.std.specs.BTreeMap.{BTreeMap, get}
use Rattle.exact_field.specs.Rational.{ℚ}

-- by row, and then by column
abbrev pub place_cmp : ℕ × ℕ → ℕ × ℕ → Ordering
place_cmp p q = ordering_then (nat_cmp p.0 q.0) (nat_cmp p.1 q.1)

-- the value given at a place, if any is
abbrev pub given : BTreeMap (ℕ × ℕ) ℚ → ℕ → ℕ → Option ℚ
given values row col = get place_cmp values (row, col)
