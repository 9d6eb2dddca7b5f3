-- A duality vector that is found.
use Rattle.std.specs.Prelude.{ℕ, ◌≡◌, Bool, List, All, map, length}
use Rattle.exact_field.specs.Rational.{ℚ, zero_ℚ, one_ℚ, ◌<ℚ◌}
use Rattle.exact_field.specs.Vector.{dot, entry}
use Rattle.polyhedra.specs.Vectors.{combination}
use Rattle.vlp_problem.specs.declared.problem.Problem.{Problem}
use Rattle.vlp_problem.specs.declared.problem.Cone.TheVariants.{Dual}
use Rattle.upper_image.specs.Shows.{ShowsFitting}
use Rattle.deriv_log.specs.declared.entry.Entry.TheVariants.{Duality as Line}
use Rattle.lp_form.specs.Programs.{nonzero_vectors}
use Rattle.overflows.specs.Licence.{IsHeldDuality}
use Rattle.overflows.specs.Trails.{IsBaseDuality}
use Rattle.cone_rules.specs.Faults.{IsSound}
use Rattle.cone_rules.specs.Laws.{IsPositiveCombination}
use Rattle.cone_dual.specs.declared.duality.Duality.{Duality}

-- the entry has these numbers
pub record IsMade {F : Type 0} (value : F → ℚ) (holds : ℚ → Bool) (c weights : List F) (picks : List ℕ) (inverse : List ℚ) (d : Duality F) : Type 0 where
  pub c_is : d.c ≡ c
  pub weights_is : d.weights ≡ weights
  pub entry_is : d.entry ≡ Line (map value c) (map value weights) picks inverse
  pub held : IsHeldDuality holds (map value c) (map value weights) inverse

-- c, of q entries, has the last entry 1 and a positive product with each vector that is not 0
pub record IsInsideRows (q : ℕ) (vectors : List (List ℚ)) (c : List ℚ) : Type 0 where
  pub wide : length c ≡ q
  pub last : entry c q ≡ one_ℚ
  pub positive : All (λ v. zero_ℚ <ℚ dot v c) (nonzero_vectors (Dual vectors))

-- the multipliers are positive, one for each vector, and combine these to one with last entry 1
pub record CombinesToLastOne (q : ℕ) (vectors : List (List ℚ)) (mu : List ℚ) : Type 0 where
  pub positive : IsPositiveCombination q vectors mu (combination q mu vectors)
  pub last : entry (combination q mu vectors) q ≡ one_ℚ

-- c and weights are those of the entry, which fits the file, is read off, and has held numbers; the
-- cone is solid and pointed
pub record IsDualityOf {F : Type 0} (value : F → ℚ) (holds : ℚ → Bool) (file : Problem) (d : Duality F) : Type 0 where
  pub picks : List ℕ
  pub inverse : List ℚ
  pub entry_is : d.entry ≡ Line (map value d.c) (map value d.weights) picks inverse
  pub fits : ShowsFitting file (map value d.c) (map value d.weights) picks inverse
  pub base : IsBaseDuality file file.cone file.duality (map value d.c) (map value d.weights)
  pub held : IsHeldDuality holds (map value d.c) (map value d.weights) inverse
  pub sound : IsSound file
