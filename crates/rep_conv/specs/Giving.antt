-- What a conversion gives, by the parts that the calls go through.
use Rattle.std.specs.Prelude.{◌≡◌, ◌≢◌, ℕ, suc, ◌-◌, All, AllPairs, List, [], ◌∷◌, length, take, if◌then◌else◌}
use Rattle.std.specs.List.{list_all}
use Rattle.exact_field.specs.Rational.{ℚ}
use Rattle.exact_field.specs.Order.{same_ℚ}
use Rattle.exact_field.specs.Vector.{entry}
use Rattle.frac128.specs.Sparse.{is_zero}
use Rattle.polyhedra.specs.LiveList.{vectors}
use Rattle.rep_conv.specs.Live.{State}

-- a vector without its last entry, where that is t
abbrev pub front_at : ℚ → List ℚ → List (List ℚ)
front_at t v = if same_ℚ (entry v (length v)) t then take (length v - 1) v ∷ [] else []

-- a vector, where not all entries but the last are 0
abbrev pub side_of : List ℚ → List (List ℚ)
side_of v = if list_all is_zero (take (length v - 1) v) then [] else v ∷ []

-- the lines and the vectors of the live generators that stand, of width + 1 entries each
pub record IsGiven (width : ℕ) (s : State) (lines generators : List (List ℚ)) : Type 0 where
  pub lines_are : lines ≡ s.lines
  pub live_are : generators ≡ vectors s.list.live
  pub lines_wide : All (λ v. length v ≡ suc width) lines
  pub wide : All (λ v. length v ≡ suc width) generators
  pub apart : AllPairs (λ a b. a ≢ b) generators
