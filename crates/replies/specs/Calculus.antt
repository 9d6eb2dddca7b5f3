-- What `meet`, `sum`, `join` and `map` reply of two problems, or of one: a set that is made of their
-- feasible sets.
use Rattle.std.specs.Prelude.{◌≡◌, ◌⊎◌, ℕ, ◌<◌, ◌≤◌, false, List}
use Rattle.exact_field.specs.Rational.{ℚ}
use Rattle.vlp_problem.specs.declared.problem.Problem.{Problem}
use Rattle.poly_calc.specs.Made.{IsMeet, IsSum, IsJoin, IsMap}
use Rattle.poly_calc.specs.Sets.{ProjectsTo, IsInBoth, IsInSum, IsInJoin, IsInMap}
use Rattle.replies.specs.Described.{Describes, IsDescribable}
use Rattle.replies.specs.Parts.{BothAreFeasible, IsAskable, PartIsEmpty, PartStopped}
use Rattle.commands.specs.Replies.{TellsFault}
use Rattle.commands.specs.declared.reply.Reply.{Reply}
use Rattle.commands.specs.declared.status.Status.TheVariants.{Sizes}

-- ---- numbers of columns
-- the two problems have one number of columns, and at most 19
pub record SizesFit (a b : Problem) : Type 0 where
  pub few : a.cols ≤ 19
  pub same : a.cols ≡ b.cols

-- they do not fit
pub record SizesTold (a b : Problem) (r : Reply) : Type 0 where
  pub status : r.status ≡ Sizes a.cols b.cols
  pub unfit : SizesFit a b → ⊥
  pub told : TellsFault r

-- there are more than 19 objectives
pub record ObjectivesTold (a : Problem) (r : Reply) : Type 0 where
  pub status : r.status ≡ Sizes a.objs a.objs
  pub many : 19 < a.objs
  pub told : TellsFault r

-- ---- sets
-- a problem that is laid out like this has the set as its projection on the first n columns, and
-- these are described
pub record SetDescribed (Layout : Problem → Type 0) (Set : List ℚ → Type 0) (n : ℕ) (r : Reply)
    : Type 0 where
  pub made : Problem
  pub layout : Layout made
  pub projects : ProjectsTo made n Set
  pub describes : Describes n made false r

-- nothing stands against its description
abbrev pub IsSetDescribable : (Problem → Type 0) → ℕ → Type 0
IsSetDescribable Layout n = (made : Problem) → Layout made → IsDescribable n made

-- ---- what is feasible for both problems
-- the set is described
pub record MeetDescribed (a b : Problem) (r : Reply) : Type 0 where
  pub fit : SizesFit a b
  pub set : SetDescribed (IsMeet a b) (IsInBoth a b) a.cols r

-- what `meet` replies
abbrev pub MeetVerdict : Problem → Problem → Reply → Type 0
MeetVerdict a b r = SizesTold a b r ⊎ MeetDescribed a b r

-- nothing stands against an answer
pub record CanMeet (a b : Problem) : Type 0 where
  pub fit : SizesFit a b
  pub describable : IsSetDescribable (IsMeet a b) a.cols

-- ---- the sums of a feasible vector of each
-- the set is described
pub record SumDescribed (a b : Problem) (r : Reply) : Type 0 where
  pub fit : SizesFit a b
  pub set : SetDescribed (IsSum a b) (IsInSum a b) a.cols r

-- what `sum` replies
abbrev pub SumVerdict : Problem → Problem → Reply → Type 0
SumVerdict a b r = SizesTold a b r ⊎ SumDescribed a b r

-- nothing stands against an answer
pub record CanSum (a b : Problem) : Type 0 where
  pub fit : SizesFit a b
  pub describable : IsSetDescribable (IsSum a b) a.cols

-- ---- the closed convex hull of both, where neither is empty
-- the set is described
pub record JoinDescribed (a b : Problem) (r : Reply) : Type 0 where
  pub parts : BothAreFeasible a b
  pub set : SetDescribed (IsJoin a b) (IsInJoin a b) a.cols r

-- the numbers of columns fit; then a part is empty, or an overflow stops the question, or the set
-- is described
pub record JoinTold (a b : Problem) (r : Reply) : Type 0 where
  pub fit : SizesFit a b
  pub told : PartIsEmpty a b r ⊎ (PartStopped a b r ⊎ JoinDescribed a b r)

-- what `join` replies
abbrev pub JoinVerdict : Problem → Problem → Reply → Type 0
JoinVerdict a b r = SizesTold a b r ⊎ JoinTold a b r

-- nothing stands against an answer
pub record CanJoin (a b : Problem) : Type 0 where
  pub fit : SizesFit a b
  pub parts : BothAreFeasible a b
  pub first : IsAskable a
  pub second : IsAskable b
  pub describable : IsSetDescribable (IsJoin a b) a.cols

-- ---- the image under the objectives
-- the set is described
pub record MapDescribed (a : Problem) (r : Reply) : Type 0 where
  pub few : a.objs ≤ 19
  pub set : SetDescribed (IsMap a) (IsInMap a) a.objs r

-- what `map` replies
abbrev pub MapVerdict : Problem → Reply → Type 0
MapVerdict a r = ObjectivesTold a r ⊎ MapDescribed a r

-- nothing stands against an answer
pub record CanMap (a : Problem) : Type 0 where
  pub few : a.objs ≤ 19
  pub describable : IsSetDescribable (IsMap a) a.objs
