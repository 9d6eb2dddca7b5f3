-- What follows of a reply by its verdict: where nothing stands against an answer it is one; words
-- are never at fault; and where no log is wanted there is none.
use Rattle.std.proofs.Common.{◌≡◌, inl, inr, ℕ, ◌≤◌, ◌<◌, Bool, true, false, List, None, arith}
use Rattle.exact_field.specs.Rational.{ℚ}
use Rattle.poly_calc.specs.Made.{IsJoin, IsMap, IsMeet, IsSum}
use Rattle.poly_calc.specs.Sets.{IsInBoth, IsInJoin, IsInMap, IsInSum}
use Rattle.commands.specs.declared.reply.Reply.{Reply}
use Rattle.commands.specs.declared.status.Status.TheVariants.{Done, Words}
use Rattle.upper_image.proofs.WorkingImage.{infeasible_is_empty}
use Rattle.vlp_problem.specs.declared.problem.Problem.{Problem}
use Rattle.replies.specs.Calculus.{CanJoin, CanMap, CanMeet, CanSum, IsSetDescribable, JoinVerdict, MapVerdict, MeetVerdict, SetDescribed, SumVerdict}
use Rattle.replies.specs.Described.{Describes, IsDescribable}
use Rattle.replies.specs.Parts.{BothAreFeasible, EmptyTold, StopTold, part_of}
use Rattle.replies.specs.Projected.{AssociateVerdict, IsProjectable, ProjectVerdict}

-- ---- descriptions
described_done : (k : ℕ) (file : Problem) (logs : Bool) (r : Reply) → IsDescribable k file →
    Describes k file logs r → r.status ≡ Done
described_done k file logs r can (inl d) = d.status
described_done k file logs r can (inr d) = absurd (can d.made d.associated d.licence d.can d.licensed)

described_words : (k : ℕ) (file : Problem) (logs : Bool) (r : Reply) → Describes k file logs r →
    Words ≡ r.status → ⊥
described_words k file logs r (inl d) e = cc
described_words k file logs r (inr d) e = cc

described_quiet : (k : ℕ) (file : Problem) (r : Reply) → Describes k file false r → r.log ≡ None
described_quiet k file r (inl d) = d.logged.printed
described_quiet k file r (inr d) = d.told.no_log

module _ (Layout : Problem → Type 0) (Set : List ℚ → Type 0) (n : ℕ) (r : Reply) where
  set_done : IsSetDescribable Layout n → SetDescribed Layout Set n r → r.status ≡ Done
  set_done can d = described_done n d.made false r (can d.made d.layout) d.describes

  set_words : SetDescribed Layout Set n r → Words ≡ r.status → ⊥
  set_words d e = described_words n d.made false r d.describes e

  set_quiet : SetDescribed Layout Set n r → r.log ≡ None
  set_quiet d = described_quiet n d.made r d.describes

-- ---- `project` and `associate`
pub project_answered : (k : ℕ) (logs : Bool) (file : Problem) (r : Reply) → IsProjectable k file →
    ProjectVerdict k logs file r → r.status ≡ Done
project_answered k logs file r can (inl t) =
    let within : k ≤ file.cols = can.within in
    let above : file.cols < k = t.above in
    absurd (omega arith)
project_answered k logs file r can (inr d) =
    described_done k file logs r can.describable d.describes

pub project_never_words : (k : ℕ) (logs : Bool) (file : Problem) (r : Reply) →
    ProjectVerdict k logs file r → Words ≡ r.status → ⊥
project_never_words k logs file r (inl t) e = cc
project_never_words k logs file r (inr d) e = described_words k file logs r d.describes e

pub project_quiet : (k : ℕ) (file : Problem) (r : Reply) → ProjectVerdict k false file r →
    r.log ≡ None
project_quiet k file r (inl t) = t.told.no_log
project_quiet k file r (inr d) = described_quiet k file r d.describes

pub associate_answered : (k : ℕ) (file : Problem) (r : Reply) → k ≤ file.cols →
    AssociateVerdict k file r → r.status ≡ Done
associate_answered k file r within (inl t) =
    let above : file.cols < k = t.above in
    absurd (omega arith)
associate_answered k file r within (inr d) = d.status

pub associate_never_words : (k : ℕ) (file : Problem) (r : Reply) → AssociateVerdict k file r →
    Words ≡ r.status → ⊥
associate_never_words k file r (inl t) e = cc
associate_never_words k file r (inr d) e = cc

pub associate_quiet : (k : ℕ) (file : Problem) (r : Reply) → AssociateVerdict k file r →
    r.log ≡ None
associate_quiet k file r (inl t) = t.told.no_log
associate_quiet k file r (inr d) = d.no_log

-- ---- the parts of a join
none_empty : (a b : Problem) (r : Reply) → BothAreFeasible a b → (second : Bool) →
    EmptyTold second (part_of second a b) r → ⊥
none_empty a b r both false t = infeasible_is_empty a t.u t.shown both.first.choice both.first.feasible
none_empty a b r both true t = infeasible_is_empty b t.u t.shown both.second.choice both.second.feasible

none_stopped : (a b : Problem) (r : Reply) → CanJoin a b → (second : Bool) →
    StopTold (part_of second a b) r → ⊥
none_stopped a b r can false t = can.first t.licence t.place t.can t.licensed
none_stopped a b r can true t = can.second t.licence t.place t.can t.licensed

-- ---- two problems
module _ (a b : Problem) (r : Reply) where
  pub meet_answered : CanMeet a b → MeetVerdict a b r → r.status ≡ Done
  meet_answered can (inl t) = absurd (t.unfit can.fit)
  meet_answered can (inr d) =
      set_done (IsMeet a b) (IsInBoth a b) a.cols r can.describable d.set

  pub meet_never_words : MeetVerdict a b r → Words ≡ r.status → ⊥
  meet_never_words (inl t) e = cc
  meet_never_words (inr d) e = set_words (IsMeet a b) (IsInBoth a b) a.cols r d.set e

  pub meet_quiet : MeetVerdict a b r → r.log ≡ None
  meet_quiet (inl t) = t.told.no_log
  meet_quiet (inr d) = set_quiet (IsMeet a b) (IsInBoth a b) a.cols r d.set

  pub sum_answered : CanSum a b → SumVerdict a b r → r.status ≡ Done
  sum_answered can (inl t) = absurd (t.unfit can.fit)
  sum_answered can (inr d) = set_done (IsSum a b) (IsInSum a b) a.cols r can.describable d.set

  pub sum_never_words : SumVerdict a b r → Words ≡ r.status → ⊥
  sum_never_words (inl t) e = cc
  sum_never_words (inr d) e = set_words (IsSum a b) (IsInSum a b) a.cols r d.set e

  pub sum_quiet : SumVerdict a b r → r.log ≡ None
  sum_quiet (inl t) = t.told.no_log
  sum_quiet (inr d) = set_quiet (IsSum a b) (IsInSum a b) a.cols r d.set

  pub join_answered : CanJoin a b → JoinVerdict a b r → r.status ≡ Done
  join_answered can (inl t) = absurd (t.unfit can.fit)
  join_answered can (inr j) =
      elim j.told [
        | inl t ↦ absurd (none_empty a b r can.parts t.second t.empty)
        | inr more ↦ elim more [
          | inl t ↦ absurd (none_stopped a b r can t.second t.stopped)
          | inr d ↦ set_done (IsJoin a b) (IsInJoin a b) a.cols r can.describable d.set
        ]
      ]

  pub join_never_words : JoinVerdict a b r → Words ≡ r.status → ⊥
  join_never_words (inl t) e = cc
  join_never_words (inr j) e =
      elim j.told [
        | inl t ↦ let is = t.empty.status in cc
        | inr more ↦ elim more [
          | inl t ↦ let is = t.stopped.status in cc
          | inr d ↦ set_words (IsJoin a b) (IsInJoin a b) a.cols r d.set e
        ]
      ]

  pub join_quiet : JoinVerdict a b r → r.log ≡ None
  join_quiet (inl t) = t.told.no_log
  join_quiet (inr j) =
      elim j.told [
        | inl t ↦ t.empty.told.no_log
        | inr more ↦ elim more [
          | inl t ↦ t.stopped.told.no_log
          | inr d ↦ set_quiet (IsJoin a b) (IsInJoin a b) a.cols r d.set
        ]
      ]

-- ---- one problem
module _ (a : Problem) (r : Reply) where
  pub map_answered : CanMap a → MapVerdict a r → r.status ≡ Done
  map_answered can (inl t) =
      let few : a.objs ≤ 19 = can.few in
      let many : 19 < a.objs = t.many in
      absurd (omega arith)
  map_answered can (inr d) = set_done (IsMap a) (IsInMap a) a.objs r can.describable d.set

  pub map_never_words : MapVerdict a r → Words ≡ r.status → ⊥
  map_never_words (inl t) e = cc
  map_never_words (inr d) e = set_words (IsMap a) (IsInMap a) a.objs r d.set e

  pub map_quiet : MapVerdict a r → r.log ≡ None
  map_quiet (inl t) = t.told.no_log
  map_quiet (inr d) = set_quiet (IsMap a) (IsInMap a) a.objs r d.set
