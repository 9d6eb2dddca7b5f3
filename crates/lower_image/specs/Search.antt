-- The search for all facets: which generators of the cone of dual vectors are certified, and what is found beside them.
use Rattle.std.specs.Prelude.{◌≡◌, ◌≢◌, ◌↔◌, ⊤, ℕ, suc, Bool, true, false, List, [], ◌∷◌, ◌++◌, map, All, AllPairs, Contains}
use Rattle.exact_field.specs.Rational.{ℚ, zero_ℚ}
use Rattle.exact_field.specs.Vector.{entry}
use Rattle.incid_sets.specs.Marks.{has}
use Rattle.polyhedra.specs.LiveList.{Numbered, numbers as numbers-of}
use Rattle.double_descr.specs.State.{State as Description}
use Rattle.vlp_problem.specs.Sides.{IsFeasible}
use Rattle.lp_form.specs.Data.{IsDataOf}
use Rattle.lp_form.specs.declared.data.Data.{Data}
use Rattle.lp_form.specs.declared.shown.Cut.{Cut}
use Rattle.overflows.specs.Base.{IsBaseRow}
use Rattle.overflows.specs.Turns.{IsRowTurn}
use Rattle.outer_approx.specs.Cuts.{IsCutFor, said_by}
use Rattle.outer_approx.specs.Task.{Task, IsFitting}
use Rattle.lower_image.specs.Lower.{IsCertified, inequality_of}
use Rattle.lower_image.specs.Rows.{Certifies}
use Rattle.lower_image.specs.Starting.{IsLowerDescription}
use Rattle.lower_image.specs.declared.search.Round.{Round}
use Rattle.lower_image.specs.declared.search.Round.TheVariants as round
use Rattle.lower_image.specs.declared.search.Search.{Search}

-- the data and the duality vector are those of the task, and some point is feasible
pub record IsWeighing {F : Type 0} (value : F → ℚ) (holds : ℚ → Bool) (task : Task) (form : Data F) (c : List F) : Type 0 where
  pub stands : IsDataOf value task.file form
  pub c_is : map value c ≡ task.c
  pub fitting : IsFitting holds task
  pub feasible : (x : List ℚ) × IsFeasible task.file x

-- the generator stands for an inequality, since its last entry is not 0
abbrev pub StandsForOne : Task → List ℚ → Type 0
StandsForOne task v = entry v (suc task.file.objs) ≢ zero_ℚ

-- some live generators, no two with the same number, stand for valid inequalities: these are their numbers, in their order, and these
-- are the inequalities as cuts; the marks are those of the numbers
pub record AreCertified {F : Type 0} (value : F → ℚ) (task : Task) (live : List Numbered) (nums : List ℕ) (cuts : List (Cut F)) (marks : List Bool) : Type 0 where
  pub generators : List Numbered
  pub numbers_are : nums ≡ numbers-of generators
  pub listed : All (Contains live) generators
  pub standing : All (λ g. StandsForOne task g.vector) generators
  pub valid : All (λ g. IsCertified task.file task.c g.vector) generators
  pub once : AllPairs (λ a b. a.number ≡ b.number → ⊥) generators
  pub cuts_are : All (IsCutFor value task) cuts
  pub said : map (said_by value) cuts ≡ map (λ g. inequality_of task.file.objs task.c g.vector) generators
  pub marked : (n : ℕ) → (has marks n ≡ true) ↔ Contains nums n

-- a search stands: its data are those of the task, its double description is one of rows over dual vectors, and its cuts, numbers and
-- marks are those of certified generators
pub record IsSearching {F : Type 0} (value : F → ℚ) (holds : ℚ → Bool) (task : Task) (s : Search F) : Type 0 where
  pub known : IsWeighing value holds task s.form.now s.c.now
  pub described : IsLowerDescription task s.dd
  pub certified : AreCertified value task s.dd.list.live s.certified s.cuts s.marks

-- the cut is that for which the live generator of this number stands, which is not certified yet
pub record IsNextCut {F : Type 0} (value : F → ℚ) (task : Task) (s : Search F) (g : ℕ) (cut : Cut F) : Type 0 where
  pub vector : List ℚ
  pub listed : Contains s.dd.list.live (record { number = g; vector = vector })
  pub stands : StandsForOne task vector
  pub certifies : Certifies value task vector cut
  pub fresh : has s.marks g ≡ false

-- where it stands for an inequality, the live generator of this number is certified
abbrev pub IsDone : Task → Description → List ℕ → ℕ → Type 0
IsDone task dd nums g = (v : List ℚ) → Contains dd.list.live (record { number = g; vector = v }) → StandsForOne task v → Contains nums g

-- each live generator that stands for an inequality is certified
abbrev pub AreAllCertified : Task → Description → List ℕ → Type 0
AreAllCertified task dd nums = All (λ g. StandsForOne task g.vector → Contains nums g.number) dd.list.live

-- a base row that is negative at some live generator, so that no row is it yet
pub record IsNextRow {F : Type 0} (value : F → ℚ) (task : Task) (dd : Description) (row : List F) : Type 0 where
  pub base : IsBaseRow task.file task.c (map value row)
  pub turn : IsRowTurn task.file task.c dd.rows (map value row)

-- one more row stands, and it is such a row
pub record HasRowMore (task : Task) (old new : Description) : Type 0 where
  pub row : List ℚ
  pub turn : IsRowTurn task.file task.c old.rows row
  pub rows : new.rows ≡ old.rows ++ row ∷ []

-- a round ends so: one more row stands; or the rows are as before, and this one comes next; or each live generator that stands for an
-- inequality is certified
abbrev pub IsRound : {F : Type 0} → (F → ℚ) → Task → Search F → Search F → Round F → Type 0
IsRound value task old new round.Grown = HasRowMore task old.dd new.dd
IsRound value task old new (round.Overflowed row) = (new.dd ≡ old.dd) × IsNextRow value task new.dd row
IsRound value task old new round.Certified = AreAllCertified task new.dd new.certified
