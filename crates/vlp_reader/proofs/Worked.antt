-- The worked examples of the grammar.
use Rattle.std.proofs.Common.{◌≡◌, refl, Result, Ok, ap}
use Rattle.exact_field.specs.Rational.{ℚ, whole, fraction, same_parts}
use Rattle.exact_field.specs.Gcd.{gcd}
use Rattle.vlp_reader.specs.Examples.{NumberExamples, LineExamples, FaultExamples, ClosingExamples, Examples}
use Rattle.vlp_reader.specs.declared.fault.FileKind.{FileKind}

same_number : {p q : ℚ} → p.num ≡ q.num → p.den ≡ q.den → ◌≡◌ {A = Result ℚ FileKind} (Ok p) (Ok q)
same_number {p} {q} n d = ap Ok (same_parts p q n d)

numbers : NumberExamples
unfolding whole fraction gcd
numbers = record { half = same_number refl refl; five = refl; signed = refl; capital = same_number refl refl; zero = refl; greatest_power = refl; wide = refl; narrow = refl; unheld = refl; digits = refl; form_first = refl; sign_alone = refl; point_alone = refl; two_points = refl; no_exponent = refl; no_mantissa = refl; natural_small = refl; natural_wide = refl; natural_signed = refl }

lines : LineExamples
unfolding whole
lines = record { lines = refl; whole_lines = refl; words = refl; blank = refl; comment = refl; sizes = refl; cone = refl; dual_cone = refl; constraint = refl; objective = refl; cone_vector = refl; duality = refl; free = refl; lower = refl; upper = refl; fixed = refl; double = refl; first_wrong = refl; end = refl }

faults : FaultExamples
unfolding whole
faults = record { long = refl; unknown_first = refl; too_early = refl; too_early_end = refl; twice_before_form = refl; form = refl; form_before_range = refl; range_before_number = refl; number_before_twice = refl; twice = refl; other_matrix = refl; last_place = refl; column_range = refl; objective_range = refl; cone_range = refl; last_cone_place = refl; duality_place = refl; row_range = refl; column_bound_range = refl; row_twice = refl; column_twice = refl; no_rows = refl; no_columns = refl; no_objectives = refl; no_vectors = refl; most = refl; many_rows = refl; many_columns = refl; many_objectives = refl; many_vectors = refl; many_entries = refl }

closing : ClosingExamples
unfolding whole
closing = record { first_end = refl; nothing = refl; no_line = refl; after = refl; at_end = refl; zeros_count = refl; too_many = refl; with_duality = refl; without_duality = refl; other_count = refl }

pub examples : Examples
examples = record { numbers = numbers; lines = lines; faults = faults; closing = closing }
