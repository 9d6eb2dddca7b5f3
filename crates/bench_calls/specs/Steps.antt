-- Programs of exact operations on numbers in places.
use Rattle.std.specs.Prelude.{ℕ, zero, suc, Bool, false, cond, not, ◌&&◌, ◌||◌, nat_lt, List, [], ◌∷◌, length, slice_set, slice_index_or, Option, Some, None, map}
use Rattle.std.specs.List.{list_all}
use Rattle.std.specs.Option.{option_map}
use Rattle.exact_field.specs.Order.{same_ℚ}
use Rattle.exact_field.specs.Rational.{ℚ, zero_ℚ, ◌+ℚ◌, ◌-ℚ◌, ◌*ℚ◌, ◌/ℚ◌}
use Rattle.frac128.specs.Held.{is_held}
use Rattle.bench_calls.specs.Operands.{number_of, is_operand}
use Rattle.bench_calls.specs.declared.fractions.Number.{Number}
use Rattle.bench_calls.specs.declared.steps.Step.{Step}

-- 0 for the sum, 1 for the difference, 2 for the product and else the quotient
abbrev pub exact_of : ℕ → ℚ → ℚ → ℚ
exact_of zero p q = p +ℚ q
exact_of (suc zero) p q = p -ℚ q
exact_of (suc (suc zero)) p q = p *ℚ q
exact_of (suc (suc (suc n))) p q = p /ℚ q

-- the exact result where it is held and not divided by 0
abbrev pub answer_of : ℕ → ℚ → ℚ → Option ℚ
answer_of operation p q =
    cond ((nat_lt operation 3 || not (same_ℚ q zero_ℚ)) && is_held (exact_of operation p q)) (Some (exact_of operation p q)) None

-- the number in place k, counted from 0
abbrev pub at_place : List ℚ → ℕ → ℚ
at_place numbers k = slice_index_or numbers k zero_ℚ

-- the numbers after a step; none where it names a place that is not there, or has no answer
abbrev pub step_of : List ℚ → Step → Option (List ℚ)
step_of numbers s =
    cond (nat_lt s.left (length numbers) && (nat_lt s.right (length numbers) && nat_lt s.into (length numbers)))
    (option_map (λ r. slice_set numbers s.into r) (answer_of s.operation (at_place numbers s.left) (at_place numbers s.right)))
    None

-- the rest of a program, where the numbers so far are there
abbrev pub then_run : Option (List ℚ) → (List ℚ → Option (List ℚ)) → Option (List ℚ)
then_run None rest = None
then_run (Some numbers) rest = rest numbers

-- the numbers after all steps
abbrev pub run_of : List Step → List ℚ → Option (List ℚ)
run_of [] numbers = Some numbers
run_of (s ∷ steps) numbers = then_run (step_of numbers s) (run_of steps)

-- whether the number in place 0 is 0
abbrev pub first_is_zero : List ℚ → Bool
first_is_zero [] = false
first_is_zero (p ∷ ps) = same_ℚ p zero_ℚ

-- whether the numbers are there, and that in place 0 is 0
abbrev pub ends_in_zero : Option (List ℚ) → Bool
ends_in_zero None = false
ends_in_zero (Some numbers) = first_is_zero numbers

-- the numbers that are given
abbrev pub numbers_of : List Number → List ℚ
numbers_of given = map number_of given

-- each may be an operand
abbrev pub are_operands : List Number → Bool
are_operands given = list_all is_operand given

-- whether all numbers are held, the program ends and place 0 then holds 0
abbrev pub passes : List Number → List Step → Bool
passes given steps = are_operands given && ends_in_zero (run_of steps (numbers_of given))
