-- The worked words of commands.
use Rattle.std.proofs.Common.{refl, pos, negsuc, [], ◌∷◌}
use Rattle.std.specs.Fmt.{digits}
use Rattle.std.proofs.lemmas.List.Elements.{All-nil, All-cons}
use Rattle.exact_field.specs.Gcd.{gcd}
use Rattle.exact_field.specs.Rational.{whole, fraction}
use Rattle.commands.specs.Examples.{NumberExamples, WeightExamples, ShapeExamples, NoShapeExamples, PathExamples, Examples}
use Rattle.commands.proofs.WeightWords.{Held}

numbers : NumberExamples
unfolding digits
numbers = record { least = refl; greatest = refl; greater = refl; nought = refl; zero_in_front = refl; signed = refl; negative = refl; blank_after = refl; letter = refl; empty = refl }

weights : WeightExamples
unfolding whole fraction gcd digits
weights = record { one = refl; zero = refl; three = refl; written = record { texts = refl; held = All-cons Held (fraction (pos 1) 4) (whole (negsuc 2) ∷ []) refl (All-cons Held (whole (negsuc 2)) [] refl (All-nil Held)) }; empty = refl; comma_alone = refl; comma_in_front = refl; comma_at_end = refl; two_commas = refl; blank = refl; zero_in_front = refl; signed = refl; negative_zero = refl; over_one = refl; over_zero = refl; not_lowest = refl; point = refl; later = refl; twenty = refl; more = refl; greatest = refl; wide = refl; wide_under = refl }

shapes : ShapeExamples
unfolding gcd digits
shapes = record { check_files = refl; relog_files = refl; solve_file = refl; solve_to_log = refl; dual_file = refl; dual_to_log = refl; sample_number = refl; project_file = refl; project_to_log = refl; associate_file = refl; meet_files = refl; sum_files = refl; join_files = refl; map_file = refl; weights_file = refl; weigh_file = refl; vertices_file = refl; vertices_to_log = refl; facets_file = refl; facets_to_log = refl; reconv_files = refl; named_so = refl }

no_shapes : NoShapeExamples
unfolding gcd digits
no_shapes = record { nothing = refl; no_file = refl; unknown = refl; capital = refl; no_log = refl; same_file = refl; relogged_alone = refl; relogged_as_itself = refl; relog_many = refl; same_log = refl; dual_nothing = refl; dual_capital = refl; same_dual_log = refl; dual_many = refl; same_vertices_log = refl; vertices_many = refl; facets_nothing = refl; one_facet = refl; same_facets_log = refl; reconv_alone = refl; reconv_itself = refl; met_with_itself = refl; one_file = refl; two_files = refl; solve_many = refl; sample_file = refl; sample_many = refl; no_columns = refl; zero_columns = refl; many_columns = refl; zero_in_front = refl; same_project_log = refl; many_columns_log = refl; associate_log = refl; project_many = refl; weigh_nothing = refl; weigh_empty = refl; weigh_comma = refl }

paths : PathExamples
unfolding digits
paths = record { read_too = refl; not_written = refl; relog_reads = refl; relog_writes_none = refl; written = refl; dual_written = refl; vertices_written = refl; reconv_reads = refl; not_read = refl; second = refl; first = refl; no_file = refl; no_shape = refl }

pub examples : Examples
examples = record { numbers = numbers; weights = weights; shapes = shapes; no_shapes = no_shapes; paths = paths }
