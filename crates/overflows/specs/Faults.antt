-- Faults of calls as licences.
use Rattle.std.specs.Prelude.{ℕ, ◌≡◌, ◌≢◌, ◌≤◌, ◌-◌, ◌==◌, Bool, IsFalse, List, length, if◌then◌else◌}
use Rattle.exact_field.specs.Rational.{ℚ, zero_ℚ, ◌/ℚ◌}
use Rattle.exact_field.specs.declared.op.Op.TheVariants.{Div}
use Rattle.exact_field.specs.Vector.{entry}
use Rattle.exact_field.specs.declared.op.Left.{Left as Operation}
use Rattle.lin_rows.specs.declared.fault.RowFault.{RowFault}
use Rattle.lin_rows.specs.declared.fault.RowFault.TheVariants as elimination
use Rattle.lin_rows.specs.Sums.{partial, AreHeld, IsTermLeft}
use Rattle.exact_simplex.specs.declared.answer.LpFault.{LpFault}
use Rattle.exact_simplex.specs.declared.answer.LpFault.TheVariants as program
use Rattle.tableaux.specs.Dictionary.{basic_column}
use Rattle.tableaux.specs.Table.{listed}
use Rattle.deriv_log.specs.declared.entry.Entry.{Entry}
use Rattle.deriv_log.specs.declared.licence.Licence.{Licence}
use Rattle.vlp_problem.specs.declared.program.Program.{Program}
use Rattle.deriv_log.specs.declared.licence.Place.{Place}
use Rattle.deriv_log.specs.declared.licence.Place.TheVariants.{Elim, Pivot}
use Rattle.overflows.specs.Licence.{IsOverflow}
use Rattle.overflows.specs.Settings.{Setting}
use Rattle.overflows.specs.Steps.{in_numbers}
use Rattle.overflows.specs.declared.fault.SolveFault.{SolveFault}
use Rattle.overflows.specs.declared.fault.SolveFault.TheVariants.{Left, NoMemory}
use Rattle.overflows.specs.declared.fault.SumFault.{SumFault}

-- a fault has the licence with this place, these operands and this trail; or it is want of memory
abbrev pub IsLeftAt : Place → Operation ℚ → List Entry → SolveFault → Type 0
IsLeftAt place left trail (Left licence) = licence ≡ record { place = place; left = left; trail = trail }
IsLeftAt place left trail NoMemory = Unit {0}

-- the fault of a linear program, at the pivot that it tells
abbrev pub IsProgramLeft : {F : Type 0} → (F → ℚ) → Program → List Entry → LpFault F → SolveFault → Type 0
IsProgramLeft value name trail (program.Left basis row col step left) fault =
    IsLeftAt (Pivot name basis row col step) (in_numbers value left) trail fault
IsProgramLeft value name trail program.NoMemory fault = fault ≡ NoMemory

-- the basis of an elimination of so many rows with one place for each; in row 0, where nothing is
-- eliminated, as it stands
abbrev pub placed : (rows row : ℕ) → List ℕ → List ℕ
placed rows row basis = if row == 0 then basis else listed rows (basic_column basis)

-- .. and that of an elimination of rows
abbrev pub IsEliminationLeft : {F : Type 0} → (F → ℚ) → List (List ℚ) → List Entry → RowFault F → SolveFault → Type 0
IsEliminationLeft value rows trail (elimination.Left basis row col step left) fault =
    IsLeftAt (Elim rows (placed (length rows) row basis) row col step) (in_numbers value left) trail fault
IsEliminationLeft value rows trail elimination.NoMemory fault = fault ≡ NoMemory

-- the licence of a fault has this property; nothing of want of memory
abbrev pub OnLicence : SolveFault → (Licence → Type 0) → Type 0
OnLicence (Left licence) P = P licence
OnLicence NoMemory P = Unit {0}

-- a fault's licence has this trail, and is of an overflow in this setting
abbrev pub Overflows : (ℚ → Bool) → Setting → List Entry → SolveFault → Type 0
Overflows holds s trail fault = OnLicence fault (λ licence. (licence.trail ≡ trail) × IsOverflow holds s licence.place licence.left)

-- the same fault, with this trail in place of its own
abbrev pub with_trail : SolveFault → List Entry → SolveFault
with_trail (Left licence) trail = Left (record licence { trail = trail })
with_trail NoMemory trail = NoMemory

-- an entry of a vector by this divisor is not held
pub record IsQuotientAt {F : Type 0} (value : F → ℚ) (holds : ℚ → Bool) (v : List ℚ) (k : ℕ) (left : Operation F) : Type 0 where
  pub from_one : 1 ≤ k
  pub to_end : k ≤ length v
  pub division : left.op ≡ Div
  pub entry_is : value left.a ≡ entry v k
  pub not_held : IsFalse (holds (entry v k /ℚ value left.b))

-- the product at the place that is told is not held, or the sum with it
pub record IsTermAt {F : Type 0} (value : F → ℚ) (holds : ℚ → Bool) (xs ys : List ℚ) (fault : SumFault F) : Type 0 where
  pub from_one : 1 ≤ fault.place
  pub in_first : fault.place ≤ length xs
  pub in_second : fault.place ≤ length ys
  pub step : IsTermLeft value holds (partial xs ys (fault.place - 1)) (entry xs fault.place) (entry ys fault.place) fault.left

-- .. and all steps before it are held; where a factor is 0 there is none
pub record IsFirstTerm {F : Type 0} (value : F → ℚ) (holds : ℚ → Bool) (xs ys : List ℚ) (fault : SumFault F) : Type 0 where
  pub term : IsTermAt value holds xs ys fault
  pub held : AreHeld holds xs ys (fault.place - 1)
  pub first : entry xs fault.place ≢ zero_ℚ
  pub second : entry ys fault.place ≢ zero_ℚ
