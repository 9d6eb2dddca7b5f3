-- Cuts as values of the code, and as entries of a log.
use Rattle.std.specs.Prelude.{◌≡◌, List, map, length, IsTrue}
use Rattle.exact_field.specs.Rational.{ℚ}
use Rattle.polyhedra.specs.Inequality.{Inequality}
use Rattle.frac128.specs.declared.vectors.Spot.{Spot}
use Rattle.upper_image.specs.Shows.{ShowsCut}
use Rattle.deriv_log.specs.Formed.{is_formed}
use Rattle.deriv_log.specs.declared.entry.Entry.{Entry}
use Rattle.deriv_log.specs.declared.entry.Entry.TheVariants as line
use Rattle.overflows.specs.Base.{IsBaseCut}
use Rattle.lp_form.specs.Sparse.{IsSparseOf}
use Rattle.lp_form.specs.declared.shown.Cut.{Cut}
use Rattle.outer_approx.specs.Task.{Task}

-- the inequality that a cut says
abbrev pub said_by : {F : Type 0} → (F → ℚ) → Cut F → Inequality
said_by value cut = record { normal = map value cut.w; bound = value cut.gamma }

-- with its multipliers as sparse vectors the cut is shown, and is a base cut
pub record IsCutFor {F : Type 0} (value : F → ℚ) (task : Task) (cut : Cut F) : Type 0 where
  pub wide : length cut.w ≡ task.file.objs
  pub shown : (u v : List Spot) → IsSparseOf value cut.u u → IsSparseOf value cut.v v →
      ShowsCut task.file task.c (map value cut.w) (value cut.gamma) u v
  pub base : (u v : List Spot) → IsSparseOf value cut.u u → IsSparseOf value cut.v v → IsBaseCut task.file task.c (map value cut.w) u v

-- the entry says the cut, with its multipliers as sparse vectors, and can be written
pub record SaysCut {F : Type 0} (value : F → ℚ) (cut : Cut F) (e : Entry) : Type 0 where
  pub u : List Spot
  pub v : List Spot
  pub is : e ≡ line.Cut (map value cut.w) (value cut.gamma) u v
  pub u_is : IsSparseOf value cut.u u
  pub v_is : IsSparseOf value cut.v v
  pub written : IsTrue (is_formed e)
