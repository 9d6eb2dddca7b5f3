-- The steps of an addition in their order, and where it is given up.
use Rattle.std.specs.Prelude.{ℕ, ◌≡◌, List, ◌∷◌, ◌++◌, map, All, Bool}
use Rattle.exact_field.specs.Rational.{ℚ, zero_ℚ}
use Rattle.exact_field.specs.Vector.{dot}
use Rattle.polyhedra.specs.LiveList.{Numbered, LivePair, LiveList, dropped, live_pairs, pairs, first_new}
use Rattle.double_descr.specs.Steps.{Step, IsHeld, IsFirst, product_steps, meeting_steps}
use Rattle.double_descr.specs.Steps.{values}
use Rattle.double_descr.specs.declared.generator.Generator.{Generator}
use Rattle.double_descr.specs.declared.fault.DdFault.{DdFault}
use Rattle.double_descr.specs.declared.fault.DdFault.TheVariants.{Elim, Left as Stuck, NoMemory}
use Rattle.double_descr.specs.declared.fault.Change.{Change}
use Rattle.double_descr.specs.declared.fault.Pair.{Pair}

-- the steps of the value of the generator `first` (and 0), or of the pair of the two
pub record Block : Type 0 where
  pub first : ℕ
  pub second : ℕ
  pub steps : List Step

-- the steps of the product of the row with a generator, under its number
abbrev pub value_block : List ℚ → Numbered → Block
value_block row g = record { first = g.number; second = 0; steps = product_steps zero_ℚ row g.vector }

-- the steps of the meeting point of a pair, under its two numbers
abbrev pub pair_block : List ℚ → LivePair → Block
pair_block row pair = record {
  first = pair.plus_side.number;
  second = pair.minus_side.number;
  steps = meeting_steps (dot row pair.plus_side.vector) (dot row pair.minus_side.vector) pair.plus_side.vector pair.minus_side.vector;
}

-- the blocks of the opposite pairs that no third generator covers, in their order
abbrev pub pair_blocks : List (List ℚ) → List Numbered → List ℚ → List Block
pair_blocks rows live row = map (pair_block row) (live_pairs rows live row)

-- the values of all live generators, then the opposite pairs that no third one covers
abbrev pub add_blocks : List (List ℚ) → List Numbered → List ℚ → List Block
add_blocks rows live row = map (value_block row) live ++ pair_blocks rows live row

-- each step of the block is held
abbrev pub AreHeld : (ℚ → Bool) → Block → Type 0
AreHeld holds block = All (IsHeld holds) block.steps

-- what is given up is the first step of the block that is not held
abbrev pub IsFault : {F : Type 0} → (F → ℚ) → (ℚ → Bool) → Block → DdFault F → Type 0
IsFault value holds block (Stuck first second step left) = (first ≡ block.first) × (second ≡ block.second) × IsFirst value holds block.steps step left
IsFault value holds block (Elim fault) = ⊥
IsFault value holds block NoMemory = Unit {0}

-- the steps of the blocks before this one are held, and this is the first step of this block that is not
pub record IsFirstIn {F : Type 0} (value : F → ℚ) (holds : ℚ → Bool) (blocks : List Block) (fault : DdFault F) : Type 0 where
  pub before : List Block
  pub block : Block
  pub after : List Block
  pub split : blocks ≡ before ++ block ∷ after
  pub held : All (AreHeld holds) before
  pub here : IsFault value holds block fault

-- an addition was given up at the first of its steps that is not held, or for want of memory
abbrev pub IsAddFault : {F : Type 0} → (F → ℚ) → (ℚ → Bool) → List Block → DdFault F → Type 0
IsAddFault value holds blocks (Stuck first second step left) = IsFirstIn value holds blocks (Stuck first second step left)
IsAddFault value holds blocks (Elim fault) = ⊥
IsAddFault value holds blocks NoMemory = Unit {0}

-- what the addition of a row changes: the dropped generators, the pairs, and the number of the first new generator
pub record IsChange (rows : List (List ℚ)) (list : LiveList) (row : List ℚ) (change : Change) : Type 0 where
  pub gone : change.dropped ≡ dropped row list.live
  pub paired : map (λ (p : Pair). (p.plus, p.minus)) change.pairs ≡ pairs rows list.live row
  pub from : change.first_new ≡ first_new list

-- the block of two generators, from the values of the row there
abbrev pub block_of : {F : Type 0} → (F → ℚ) → Generator F → Generator F → ℚ → ℚ → Block
block_of value p m a b = record {
  first = p.number;
  second = m.number;
  steps = meeting_steps a b (values value p.vector.items) (values value m.vector.items);
}
