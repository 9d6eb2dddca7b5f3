-- The entry of a line.
use Rattle.std.specs.Prelude.{◌≡◌, List, IsTrue}
use Rattle.exact_field.specs.Rational.{ℚ}
use Rattle.frac128.specs.declared.vectors.Spot.{Spot}
use Rattle.deriv_log.specs.Formed.{is_formed}
use Rattle.deriv_log.specs.declared.entry.Entry.{Entry}
use Rattle.deriv_log.specs.declared.entry.Entry.TheVariants as entry
use Rattle.lp_form.specs.Sparse.{IsSparseOf}
use Rattle.outer_approx.specs.Lines.{told_by}
use Rattle.outer_approx.specs.declared.log.Line.{Line}

-- the entry says the line, with a point and its pre-images as sparse vectors, and can be written
pub record SaysLine {F : Type 0} (value : F → ℚ) (point : List F) (line : Line F) (e : Entry) : Type 0 where
  pub x : List Spot
  pub ray : List Spot
  pub m : List Spot
  pub back : List Spot
  pub n : List Spot
  pub is : e ≡ entry.Line (told_by value line) x ray m back n
  pub x_is : IsSparseOf value point x
  pub ray_is : IsSparseOf value line.forth.x ray
  pub m_is : IsSparseOf value line.forth.m m
  pub back_is : IsSparseOf value line.back.x back
  pub n_is : IsSparseOf value line.back.m n
  pub written : IsTrue (is_formed e)
