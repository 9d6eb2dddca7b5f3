-- The names of programs in a field.
use Rattle.std.specs.Prelude.{◌≡◌, ℕ, List, map, length}
use Rattle.exact_field.specs.Rational.{ℚ}
use Rattle.vlp_problem.specs.declared.program.Program.{Program}
use Rattle.vlp_problem.specs.declared.program.Program.TheVariants as program
use Rattle.lp_form.specs.declared.name.LpName.{LpName}
use Rattle.lp_form.specs.declared.name.LpName.TheVariants.{Feasible, Benson, Weight, Interior, Pointed}

-- the named program in numbers
abbrev pub named : {F : Type 0} → (F → ℚ) → LpName F → Program
named value Feasible = program.Feasible
named value (Benson v t) = program.Benson (map value v) t
named value (Weight w) = program.Weight (map value w)
named value Interior = program.Interior
named value Pointed = program.Pointed

-- the vectors of a name, and the duality vector, have q entries; where no duality vector is used, none is given
abbrev pub HasWidths : {F : Type 0} → ℕ → List F → LpName F → Type 0
HasWidths q c Feasible = length c ≡ 0
HasWidths q c (Benson v t) = (length c ≡ q) × (length v ≡ q)
HasWidths q c (Weight w) = (length c ≡ q) × (length w ≡ q)
HasWidths q c Interior = length c ≡ 0
HasWidths q c Pointed = length c ≡ 0
