-- The laws of the grammar, which the crate's law functions state.
use Rattle.std.specs.Prelude.{◌≡◌, ℕ, ◌⊎◌, List}
use Rattle.vlp_problem.specs.FileSizes.{HasFileSizes}
use Rattle.vlp_reader.specs.FirstFault.{FirstFault, Reads}
use Rattle.vlp_reader.specs.declared.fault.FileKind.{FileKind}
use Rattle.vlp_problem.specs.declared.problem.Problem.{Problem}

-- bytes read as a problem, or have a first fault; not both; and one problem, or one line and one
-- kind; what was read is within the limits
pub record GrammarLaws : Type 0 where
  pub read_or_fault : (bytes : List ℕ) → ((problem : Problem) × Reads bytes problem) ⊎ ((line : ℕ) × (kind : FileKind) × FirstFault bytes line kind)
  pub never_both : (bytes : List ℕ) (problem : Problem) (line : ℕ) (kind : FileKind) → Reads bytes problem → FirstFault bytes line kind → ⊥
  pub one_problem : (bytes : List ℕ) (f g : Problem) → Reads bytes f → Reads bytes g → f ≡ g
  pub one_fault : (bytes : List ℕ) (m n : ℕ) (k l : FileKind) → FirstFault bytes m k → FirstFault bytes n l → (m ≡ n) × (k ≡ l)
  pub within : (bytes : List ℕ) (f : Problem) → Reads bytes f → HasFileSizes f
