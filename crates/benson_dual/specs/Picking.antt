-- Facets in an order, of which the first ones have independent normals.
use Rattle.std.specs.Prelude.{ℕ, ◌≡◌, ◌≤◌, ◌<◌, ◌+◌, ◌==◌, Bool, List, ◌∷◌, ◌++◌, map, length, All}
use Rattle.std.specs.List.Sorted.{IsPermutation}
use Rattle.exact_field.specs.Rational.{ℚ, zero_ℚ}
use Rattle.exact_field.specs.Vector.{dot}
use Rattle.lin_rows.specs.Complement.{AreComplement}
use Rattle.lp_form.specs.declared.shown.Cut.{Cut}
use Rattle.recession.specs.Further.{IsOffAcross, normals_of}

-- the vectors are independent: each is not 0 at some vector at which those before it are
abbrev pub EachOffAcross : ℕ → List (List ℚ) → Type 0
EachOffAcross q vs = (before after : List (List ℚ)) (w : List ℚ) → vs ≡ before ++ w ∷ after → IsOffAcross q before w

-- w is 0 at each vector at which the vectors are
abbrev pub IsWithin : ℕ → List (List ℚ) → List ℚ → Type 0
IsWithin q vs w = (y : List ℚ) → length y ≡ q → All (λ v. dot v y ≡ zero_ℚ) vs → dot w y ≡ zero_ℚ

-- the answer tells whether the vectors are as many as they have entries together with those of their complement
pub record IsCount (q : ℕ) (vs : List (List ℚ)) (told : Bool) : Type 0 where
  pub complement : List (List ℚ)
  pub is : AreComplement q vs complement
  pub tells : told ≡ (length vs + length complement == q)

-- the facets that were seen are parted: into at most so many first ones with independent normals,
-- and the others, whose normals say nothing that those of the first ones do not, as long as these
-- are fewer
pub record ArePicked {F : Type 0} (value : F → ℚ) (q most : ℕ) (seen first others : List (Cut F)) : Type 0 where
  pub same : IsPermutation seen (first ++ others)
  pub free : EachOffAcross q (normals_of value first)
  pub few : length first ≤ most
  pub within : length first < most → All (λ cut. IsWithin q (normals_of value first) (map value cut.w)) others
