-- The sparse vector of a list of numbers of a field.
use Rattle.std.specs.Prelude.{◌≡◌, List, map, length}
use Rattle.exact_field.specs.Rational.{ℚ}
use Rattle.frac128.specs.declared.vectors.Spot.{Spot}
use Rattle.upper_image.specs.Spots.{dense, IsVector}

-- these spots are the sparse vector of the list
pub record IsSparseOf {F : Type 0} (value : F → ℚ) (list : List F) (spots : List Spot) : Type 0 where
  pub vector : IsVector (length list) spots
  pub same : dense (length list) spots ≡ map value list
