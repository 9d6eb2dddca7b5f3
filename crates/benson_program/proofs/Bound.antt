-- Benson's program is bounded where it is asked.
use Rattle.std.proofs.Common.{◌≡◌, List, map, length, refl, ◌∙◌, Bool, true, false}
use Rattle.std.proofs.lemmas.List.{length-map}
use Rattle.exact_field.specs.Rational.{ℚ}
use Rattle.tableaux.specs.Simplex.{IsUnbounded}
use Rattle.lp_form.specs.declared.data.Data.{Data}
use Rattle.lp_form.specs.Programs.{benson_system}
use Rattle.lp_form.proofs.Figures.{objective_number}
use Rattle.benson_program.proofs.Bounded.{benson_bounded}
use Rattle.benson_program.specs.Ends.{CanStart}

pub bounded : {F : Type 0} (value : F → ℚ) (form : Data F) (c : List ℚ) (v : List F) (t : Bool) (start : CanStart value form c t) →
    length v ≡ length form.p → (z r : List ℚ) → IsUnbounded (benson_system start.file c (map value v) t) z r → ⊥
bounded value form c v true start long z r h =
    let some = start.solvable refl in
    benson_bounded.point start.file c (map value v) z r some.0 start.interior
    (length-map v value ∙ long ∙ objective_number value start.file form start.stands) some.1 h
bounded value form c v false start long z r h =
    benson_bounded.direction start.file c (map value v) z r start.interior
    (length-map v value ∙ long ∙ objective_number value start.file form start.stands) h
