-- Orders of the facets of an image.
use Rattle.std.specs.Prelude.{◌≡◌, ℕ, suc, Bool, true, false, List, [], ◌∷◌, ◌++◌, length}
use Rattle.std.specs.List.{range_with_len}
use Rattle.std.specs.List.Sorted.{IsPermutation}

-- each of the numbers from 0 on, below count, once
abbrev pub IsOrder : ℕ → List ℕ → Type 0
IsOrder count order = IsPermutation (range_with_len 0 count) order

-- the places, counted from k on, of the marks that are false
abbrev pub unmarked_from : ℕ → List Bool → List ℕ
unmarked_from k [] = []
unmarked_from k (true ∷ marks) = unmarked_from (suc k) marks
unmarked_from k (false ∷ marks) = k ∷ unmarked_from (suc k) marks

-- of the numbers from 0 on, below count, those that are marked are listed, each once
pub record AreListed (count : ℕ) (marks : List Bool) (order : List ℕ) : Type 0 where
  pub long : length marks ≡ count
  pub parted : IsPermutation (range_with_len 0 count) (order ++ unmarked_from 0 marks)
