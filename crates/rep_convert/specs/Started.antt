-- The rows that a conversion starts with, by the parts that the calls go through.
use Rattle.std.specs.Prelude.{◌≡◌, ⊤, ℕ, ◌<◌, List, map, length, All, AllPairs, IsTrue}
use Rattle.exact_field.specs.Rational.{ℚ}
use Rattle.frac128.specs.Held.{is_held}
use Rattle.polyhedra.specs.Cone.{HasFullRank}
use Rattle.polyhedra.specs.LiveList.{vectors}
use Rattle.lineality.specs.Without.{with_zeros, without}
use Rattle.lin_rows.specs.Sums.{AreHeld}
use Rattle.lin_rows.specs.declared.fault.RowFault.{RowFault}
use Rattle.lin_rows.specs.declared.fault.RowFault.TheVariants.{Left as Stuck, NoMemory as Want}
use Rattle.double_descr.specs.Starting.{IsStart}
use Rattle.double_descr.specs.State.{State as Description}
use Rattle.rep_conv.specs.Rows.{row_at, text_rows}
use Rattle.rep_text.specs.declared.rep.Rep.{Rep}
use Rattle.rep_convert.specs.Lines.{marks_of, width_without}

-- the rows of these numbers without the entries at the places of the lines
abbrev pub picked_without : Rep → List (List ℚ) → List ℕ → List (List ℚ)
picked_without rep lines picks = map (without (marks_of rep lines)) (map (row_at rep) picks)

-- the numbers of rows, rising, that without these entries are as many as they have entries, and
-- independent
pub record AreStarts (rep : Rep) (lines : List (List ℚ)) (picks : List ℕ) : Type 0 where
  pub many : length picks ≡ width_without rep lines
  pub rise : AllPairs (λ j k. j < k) picks
  pub exist : All (λ k. k < length (text_rows rep)) picks
  pub rank : HasFullRank (width_without rep lines) (picked_without rep lines picks)

-- such numbers with the double description of the rows, and with its generators with zeros at the
-- places of the lines, whose products with the rows are held
pub record IsStarted (rep : Rep) (lines : List (List ℚ)) (picks : List ℕ) (gens : List (List ℚ))
    (dd : Description) : Type 0 where
  pub starts : AreStarts rep lines picks
  pub open starts use *
  pub start : IsStart (width_without rep lines) (picked_without rep lines picks) dd
  pub filled : gens ≡ map (with_zeros (marks_of rep lines)) (vectors dd.list.live)
  pub held :
      All (λ r. All (λ g. AreHeld is_held r g (length r)) gens) (map (row_at rep) picks)

-- the first operand of the operation of a fault is held
abbrev pub HasHeldOperand : RowFault ℚ → Type 0
HasHeldOperand (Stuck basis row col step left) = IsTrue (is_held left.a)
HasHeldOperand Want = ⊤
