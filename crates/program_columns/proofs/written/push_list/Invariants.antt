use Rattle.std.proofs.Common.{◌+◌, ◌≤◌, ℕ, length, map, take}
use Rattle.lin_rows.specs.Lines.{Rises, entries, last_place}
use Rattle.program_columns.specs.Entries.{IsLonger, placed}
use Rattle.program_columns.proofs.written.push_list.Given as goal

abbrev pub invariant-loop-i : goal.invariant-loop-i
invariant-loop-i g l =
    let value = g.F.Field.value in
    (n : ℕ) → Rises n 0 (entries value l.initial.list) →
    last_place 0 (entries value l.initial.list) ≤ l.base → l.base + length l.numbers ≤ n →
    IsLonger n (l.base + l.i) (placed l.base (take l.i (map value l.numbers)))
    (entries value l.initial.list) (entries value l.list)
