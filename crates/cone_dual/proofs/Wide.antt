-- The width of a vector that was read.
use Rattle.std.proofs.Common.{◌≡◌, ℕ, List, length, map, sym, ap, ◌∙◌, arith, ◌<◌, ◌+◌, slice_index_or}
use Rattle.std.proofs.lemmas.List.{length-map}
use Rattle.exact_field.specs.Rational.{ℚ}
use Rattle.polyhedra.specs.Vectors.{AreWide}
use Rattle.tableaux.proofs.Places.{row-wide}
use Rattle.lin_rows.specs.Read.{numbers}
use Rattle.lp_form.proofs.Steps.{row_at}

pub row_long : {F : Type 0} (value : F → ℚ) (q : ℕ) (vectors : List (List F)) (i : ℕ) (x : List F) → AreWide q (numbers value vectors) → i < length vectors →
    x ≡ slice_index_or vectors i x → length x ≡ q
row_long value q vectors i x wide inside is =
    sym (length-map x value) ∙ ap length (row_at value vectors i x inside is)
    ∙ row-wide q (numbers value vectors) (i + 1) wide (omega arith) (omega (arith, inside, length-map vectors (map value)))
