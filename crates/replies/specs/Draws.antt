-- The draws that a number begins: those of a linear congruential generator, by the upper half of its state.
use Rattle.std.specs.Prelude.{ℕ, zero, suc, ◌+◌, ◌*◌, ◌/◌, ◌%◌, ◌^◌, ℤ, pos, ◌-ℤ◌}

-- the state after k draws from a number
abbrev pub state_after : (number k : ℕ) → ℕ
state_after number zero = number
state_after number (suc k) = (state_after number k * 1103515245 + 12345) % 2 ^ 31

-- what is drawn at a state: a whole number from -9 to 9
abbrev pub draw : ℕ → ℤ
draw state = pos (state / 65536 % 19) -ℤ pos 9
