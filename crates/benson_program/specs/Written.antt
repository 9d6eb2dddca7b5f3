-- Benson's program as it is written: for which data, and what of it stays from start vector to start vector.
use Rattle.std.specs.Prelude.{◌≡◌, Bool, List, map, length}
use Rattle.exact_field.specs.Rational.{ℚ}
use Rattle.exact_simplex.specs.Keeping.{IsKeptFor}
use Rattle.exact_simplex.specs.declared.kept.Kept.{Kept}
use Rattle.vlp_problem.specs.declared.problem.Problem.{Problem}
use Rattle.lp_form.specs.Data.{IsDataOf}
use Rattle.lp_form.specs.Programs.{benson_system}
use Rattle.lp_form.specs.declared.data.Data.{Data}

-- two hold the same numbers at the same places
pub record HasSameData {F : Type 0} (one other : Data F) : Type 0 where
  pub cols : one.cols ≡ other.cols
  pub sides : one.sides ≡ other.sides
  pub p : one.p ≡ other.p
  pub cone : one.cone ≡ other.cone
  pub duality : one.duality ≡ other.duality

-- the program that is kept has the equations of Benson's program for c over these data, whichever the start vector is
abbrev pub IsBensonFor : {F : Type 0} → (F → ℚ) → Data F → List F → Kept F → Type 0
IsBensonFor value form c kept =
    (file : Problem) → IsDataOf value file form → (v : List ℚ) (t : Bool) → length v ≡ file.objs →
    IsKeptFor (benson_system file (map value c) v t) kept
