use Rattle.std.proofs.Common.{◌≡◌, ℕ, length, take}
use Rattle.polyhedra.specs.Negatives.{negated}
use Rattle.program_columns.specs.Entries.{AreAppended, across}
use Rattle.program_columns.proofs.written.push_negatives.Given as goal

abbrev pub invariant-loop-i : goal.invariant-loop-i
invariant-loop-i g l =
    let value = g.F.Field.value in
    record {
      first : take (length l.initial.list) l.list ≡ l.initial.list;
      appended : (n : ℕ) → AreAppended value n
          (λ k. take l.i (negated (across value k l.initial.list))) l.initial.list l.list;
    }
