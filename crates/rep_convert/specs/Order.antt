-- The order in which further rows come into use.
use Rattle.std.specs.Prelude.{ℕ, ◌<◌, ◌≢◌, ◌⊎◌, List, All, AllPairs, Contains}

-- each number below the bound that is not in use stands once in the order, and no other does
pub record IsOrder (bound : ℕ) (used order : List ℕ) : Type 0 where
  pub exist : All (λ k. k < bound) order
  pub unused : All (λ k. Contains used k → ⊥) order
  pub once : AllPairs (λ j k. j ≢ k) order
  pub all : (k : ℕ) → k < bound → Contains used k ⊎ Contains order k
