-- The first of several cuts with the same tight generators.
use Rattle.std.specs.Prelude.{ℕ, List, [], ◌∷◌, ◌≡◌, filter, All, AllPairs, Contains, Bool, not, ◌&&◌, ◌||◌}
use Rattle.std.specs.List.{list_all}
use Rattle.exact_field.specs.Rational.{ℚ}
use Rattle.exact_field.specs.Vector.{dot}
use Rattle.polyhedra.specs.DoubleDescription.{is_zero}
use Rattle.polyhedra.specs.Inequality.{Inequality}
use Rattle.polyhedra.specs.Exactness.{level, row_of, rows_of, TightLiesIn, IsNamed, IsAccounted}

-- whether each generator that is tight at row a is tight at row b
abbrev pub tight_lies_in : List (List ℚ) → List ℚ → List ℚ → Bool
tight_lies_in generators a b = list_all (λ g. not (is_zero (dot a g)) || is_zero (dot b g)) generators

-- whether the same generators are tight at both
abbrev pub same_tight : List (List ℚ) → Inequality → Inequality → Bool
same_tight generators a b = tight_lies_in generators (row_of a) (row_of b) && tight_lies_in generators (row_of b) (row_of a)

-- whether a cut's tight generators are no subset of those of t ≥ 0, and of those of a row only where both have the same
abbrev pub may_be_named : ℕ → List Inequality → List (List ℚ) → Inequality → Bool
may_be_named n cuts generators e = not (tight_lies_in generators (row_of e) (level n))
    && list_all (λ row. not (tight_lies_in generators (row_of e) row) || tight_lies_in generators row (row_of e)) (rows_of n cuts)

-- the elements that are the same as no earlier one
abbrev pub firsts : {X : Type 0} → (X → X → Bool) → List X → List X
firsts same [] = []
firsts same (x ∷ xs) = x ∷ filter (λ y. not (same x y)) (firsts same xs)

-- the first cut for each largest set of tight generators
abbrev pub named_first : ℕ → List Inequality → List (List ℚ) → List Inequality
named_first n cuts generators = firsts (same_tight generators) (filter (may_be_named n cuts generators) cuts)

-- these may be named, two of them differ in their tight generators, one stands for each cut that may be named, and they account for
-- each cut
pub record AreFirst (n : ℕ) (cuts : List Inequality) (generators : List (List ℚ)) (named : List Inequality) : Type 0 where
  pub names : All (IsNamed n cuts generators) named
  pub differ : AllPairs (λ a b. TightLiesIn generators (row_of a) (row_of b) × TightLiesIn generators (row_of b) (row_of a) → ⊥) named
  pub stands : (f : Inequality) → IsNamed n cuts generators f →
      (g : Inequality) × Contains named g × TightLiesIn generators (row_of f) (row_of g)
  pub accounted : All (IsAccounted n named generators) cuts

-- so it is of the first cuts
abbrev pub FirstAccount : Type 0
FirstAccount = (n : ℕ) (cuts : List Inequality) (generators : List (List ℚ)) → AreFirst n cuts generators (named_first n cuts generators)

-- rows with different tight generators are different inequalities
abbrev pub TightSetsTellApart : Type 0
TightSetsTellApart = (generators : List (List ℚ)) (a b : Inequality) → (TightLiesIn generators (row_of a) (row_of b) → ⊥) → a ≡ b → ⊥
