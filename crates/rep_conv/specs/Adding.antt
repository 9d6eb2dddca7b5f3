-- What an `add` entry of a conversion does to the live generators, by the parts that the calls go
-- through.
use Rattle.std.specs.Prelude.{◌≡◌, ℕ, suc, ◌+◌, ◌≤◌, ◌<◌, List, ◌∷◌, ◌++◌, length, map, All, AllPairs}
use Rattle.exact_field.specs.Rational.{ℚ, neg_ℚ, ◌/ℚ◌}
use Rattle.exact_field.specs.Vector.{dot}
use Rattle.exact_field.specs.declared.op.Op.TheVariants as op
use Rattle.polyhedra.specs.DoubleDescription.{magnitude, norming}
use Rattle.polyhedra.specs.LiveList.{vectors}
use Rattle.word_lines.specs.declared.part.LogPair.{LogPair}
use Rattle.log_rules.specs.Events.{Event}
use Rattle.log_rules.specs.Events.Event.{step}
use Rattle.log_rules.specs.Live.{required_pairs}
use Rattle.log_rules.specs.LiveEvents.{meeting_point, meeting_steps}
use Rattle.log_live.specs.Adding.{AreDescribed, AreNew}
use Rattle.log_live.specs.Live.{HasTightSet, live_of}
use Rattle.log_live.specs.declared.generator.Generator.{Generator}
use Rattle.rep_conv.specs.Events.{quotient_steps}
use Rattle.rep_conv.specs.declared.adding.Change.{Change}

-- generators of width + 1 entries that without the entries at some places describe the cone of the
-- rows, by rising numbers and with their tight sets, and one more row
pub record AreAtRow (width : ℕ) (rows : List (List ℚ)) (row : List ℚ) (gens : List Generator)
    : Type 0 where
  pub few : width ≤ 100000
  pub few_gens : length gens ≤ 4294967295
  pub described : AreDescribed width rows (vectors (live_of gens))
  pub rises : AllPairs (λ g h. g.number < h.number) gens
  pub tight : All (HasTightSet rows) gens
  pub wide : length row ≡ suc width

-- the values of the row at them
abbrev pub values_at : List ℚ → List Generator → List ℚ
values_at row gens = map (λ g. dot row g.vector) gens

-- the steps of a new generator, from the row's values a and b at the two generators
abbrev pub between_steps : ℚ → ℚ → List ℚ → List ℚ → List Event
between_steps a b plus minus =
    step op.Div a (neg_ℚ b)
    ∷ meeting_steps (a /ℚ neg_ℚ b) plus minus
    ++ quotient_steps (meeting_point (a /ℚ neg_ℚ b) plus minus)

-- its entries
abbrev pub quotients : List ℚ → List ℚ
quotients z = map (λ x. x /ℚ magnitude (norming z)) z

-- what the addition of a row changes: the new generators of the pairs that are required, under the
-- next numbers
pub record IsChange (rows : List (List ℚ)) (row : List ℚ) (gens : List Generator)
    (pairs : List LogPair) (next : ℕ) (change : Change) : Type 0 where
  pub values : change.values ≡ values_at row gens
  pub made : AreNew rows row (live_of gens) next change.made.items
  pub paired : pairs ≡ required_pairs rows (live_of gens) row
  pub next_is : change.next ≡ next + length pairs
