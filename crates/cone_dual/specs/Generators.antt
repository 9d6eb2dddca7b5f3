-- The double description of some rows; the generators of their cone, as a list, and the order of
-- their making; rows of a file's ordering cone.
use Rattle.std.specs.Prelude.{ℕ, Bool, List, [], ◌++◌, ◌≡◌, ◌↔◌, map, length, filter, All, AllPairs, Contains, not}
use Rattle.std.specs.List.{range_with_len}
use Rattle.exact_field.specs.Rational.{ℚ}
use Rattle.polyhedra.specs.LiveList.{LiveList, vectors}
use Rattle.tableaux.specs.Table.{Table, row_of}
use Rattle.tableaux.specs.Elimination.{AreIndependent}
use Rattle.vlp_problem.specs.declared.problem.Problem.{Problem}
use Rattle.deriv_log.specs.declared.licence.Family.{Family}
use Rattle.deriv_log.specs.declared.licence.Licence.{Licence}
use Rattle.deriv_log.specs.declared.licence.Place.{Place}
use Rattle.deriv_log.specs.declared.licence.Place.TheVariants.{Elim, Pair}
use Rattle.lp_form.specs.Programs.{nonzero_vectors}
use Rattle.log_rules.specs.Live.{contains}
use Rattle.overflows.specs.Base.{IsGeneratorOf}
use Rattle.overflows.specs.Dictionaries.{AreStartRows}
use Rattle.overflows.specs.Generators.{IsAddition, IsMadeOver}
use Rattle.overflows.specs.Settings.{Setting}
use Rattle.overflows.specs.Steps.{IsNotHeld}
use Rattle.double_descr.specs.State.{State}

-- the list has exactly the generators of the cone where all rows are at least 0, each once
pub record AreGenerators (n : ℕ) (rows gens : List (List ℚ)) : Type 0 where
  pub each : (g : List ℚ) → Contains gens g ↔ IsGeneratorOf n rows g
  pub once : AllPairs (λ a b. a ≡ b → ⊥) gens

-- the numbers from 1 to `count` that are not picked, rising
abbrev pub others : ℕ → List ℕ → List ℕ
others count picks = filter (λ k. not (contains picks k)) (range_with_len 1 count)

-- the picked rows, and then the others in their order
abbrev pub begun_with : List ℕ → Table → List (List ℚ)
begun_with picks rows = map (row_of rows) picks ++ map (row_of rows) (others (length rows) picks)

-- the vectors are those of live generators, by their numbers, that begin with n independent rows
-- and take a step for each other row
pub record AreMadeInOrder (n : ℕ) (rows gens : List (List ℚ)) : Type 0 where
  pub picks : List ℕ
  pub independent : AreIndependent n rows picks
  pub list : LiveList
  pub made : IsMadeOver n (begun_with picks rows) list
  pub same : gens ≡ vectors list.live

-- the double description of these rows: it begins with n independent ones and takes a step for each
-- other row
pub record IsDescriptionOf (n : ℕ) (rows : List (List ℚ)) (dd : State) : Type 0 where
  pub width : dd.width ≡ n
  pub picks : List ℕ
  pub independent : AreIndependent n rows picks
  pub rows_are : dd.rows ≡ begun_with picks rows
  pub made : IsMadeOver n dd.rows dd.list

-- some of these rows may be eliminated, and each of them added after any of them as one of the
-- family
pub record MayDescribe (s : Setting) (family : Family) (n : ℕ) (rows : List (List ℚ)) : Type 0 where
  pub eliminated : (some : List (List ℚ)) → All (Contains rows) some → AreStartRows s some n
  pub added : (before : List (List ℚ)) (last : List ℚ) (list : LiveList) → All (Contains rows) before →
      Contains rows last → IsMadeOver n before list → IsAddition s before last list family

-- the place is a step of an elimination of some of these rows, or of the addition of one of them to
-- others as one of the family
abbrev pub IsOver : Family → List (List ℚ) → Place → Type 0
IsOver family all (Elim rows basis row col step) = All (Contains all) rows
IsOver family all (Pair given rows first second step) = (given ≡ family) × All (Contains all) rows
IsOver family all _ = ⊥

-- there are no entries before the operation, and its exact result is not held
pub record IsAlone (holds : ℚ → Bool) (licence : Licence) : Type 0 where
  pub trail : licence.trail ≡ []
  pub not_held : IsNotHeld holds licence.left

-- the rows are vectors of the file's ordering cone that are not 0, and have as many entries as
-- there are objectives
pub record AreConeRows (file : Problem) (n : ℕ) (rows : List (List ℚ)) : Type 0 where
  pub width : file.objs ≡ n
  pub listed : All (Contains (nonzero_vectors file.cone)) rows
