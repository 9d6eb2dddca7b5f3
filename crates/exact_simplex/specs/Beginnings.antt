-- How a program begins.
use Rattle.std.specs.Prelude.{ℕ, List}
use Rattle.exact_field.specs.Rational.{ℚ}
use Rattle.tableaux.specs.Table.{System}
use Rattle.lin_rows.specs.declared.system.System.{System as Program}
use Rattle.exact_simplex.specs.declared.solve.Begun.{Begun}
use Rattle.exact_simplex.specs.declared.solve.Begun.TheVariants.{At, Ended}
use Rattle.exact_simplex.specs.Ends.{IsCertified, IsReadOff}
use Rattle.exact_simplex.specs.Hint.{IsBestAt}
use Rattle.exact_simplex.specs.GoingOn.{CanGoOn}
use Rattle.lin_rows.specs.System.{system_of}

-- phase two can go on, or the program has ended
abbrev pub IsBegun : {F : Type 0} → (F → ℚ) → Program F → Begun F → Type 0
IsBegun value p (At t) = CanGoOn value p t
IsBegun value p (Ended end) = IsCertified value (system_of value p) end × IsReadOff value (system_of value p) end

-- it begins at exactly these columns, at which no unknown betters the second cost
abbrev pub IsBegunBest : {F : Type 0} → System → List ℕ → Begun F → Type 0
IsBegunBest s columns (At t) = IsBestAt s columns t
IsBegunBest s columns (Ended end) = ⊥
