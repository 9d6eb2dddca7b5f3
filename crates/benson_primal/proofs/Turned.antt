-- A turn of the approximation brings it nearer to its end.
use Rattle.std.proofs.Common.{◌<◌, List, [], ◌∷◌, ◌++◌, ap, sym, ◌∙◌, subst}
use Rattle.exact_field.specs.Rational.{ℚ}
use Rattle.deriv_log.specs.declared.entry.Entry.{Entry}
use Rattle.overflows.proofs.CutTurns.{cut_turns_end}
use Rattle.outer_approx.specs.Standing.{rows_of_trail}
use Rattle.outer_approx.specs.Task.{Task}
use Rattle.benson_primal.specs.Search.{HasGrown}

pub turn_falls : {F : Type 0} (value : F → ℚ) (task : Task) (old new : List Entry) → HasGrown value task old new →
    (cut_turns_end task.file task.c).0 (rows_of_trail task new) < (cut_turns_end task.file task.c).0 (rows_of_trail task old)
turn_falls value task old new h =
    let before = rows_of_trail task old in
    subst (λ (rs : List (List ℚ)). (cut_turns_end task.file task.c).0 rs < (cut_turns_end task.file task.c).0 before)
    (sym (h.rows ∙ ap (λ (r : List ℚ). before ++ r ∷ []) h.next.says))
    ((cut_turns_end task.file task.c).1 before h.next.z h.next.turn)
