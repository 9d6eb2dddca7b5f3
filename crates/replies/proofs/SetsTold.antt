-- Replies from their parts.
use Rattle.std.proofs.Common.{◌≡◌, ◌⊎◌, inl, inr, subst, ℕ, ◌≤◌, Bool, true, false, Option, Some, Result, Ok, Err, IfOk}
use Rattle.projection.specs.Associated.{IsAssociated}
use Rattle.poly_calc.specs.Made.{IsJoin, IsMap, IsMeet, IsSum}
use Rattle.poly_calc.specs.Sets.{HasFeasible, IsInBoth, IsInJoin, IsInMap, IsInSum, ProjectsTo}
use Rattle.solver.specs.Replies.{Unsolved}
use Rattle.src_sink.specs.declared.items.NoMemory.{NoMemory}
use Rattle.commands.specs.declared.reply.Reply.{Reply}
use Rattle.vlp_problem.specs.declared.problem.Problem.{Problem}
use Rattle.replies.specs.Calculus.{JoinVerdict, MapVerdict, MeetVerdict, SizesFit, SumVerdict}
use Rattle.replies.specs.Described.{Describes}
use Rattle.replies.specs.Parts.{BothAreFeasible, EmptyTold, PartIsEmpty, PartStopped, StopTold}
use Rattle.replies.proofs.Associated.{faultless}

-- an unsolved associated problem has an overflow
stopped : (k : ℕ) (file made : Problem) (logs : Bool) → IsAssociated k file made → (r : Reply) →
    Unsolved made r → Describes k file logs r
stopped k file made logs s r unsolved =
    elim unsolved [
      | inl refused ↦ absurd (faultless k file made s refused.fault refused.has)
      | inr over ↦ inr (record {
        licence = over.licence;
        status = over.status;
        made = made;
        associated = s;
        licensed = over.licensed;
        can = over.can;
        told = over.told;
      })
    ]

pub stopped_told : (k : ℕ) (file made : Problem) (logs : Bool) → IsAssociated k file made →
    (x : Result Reply NoMemory) → IfOk x (Unsolved made) → IfOk x (Describes k file logs)
stopped_told k file made logs s (Ok r) unsolved = stopped k file made logs s r unsolved
stopped_told k file made logs s (Err e) unsolved = tt

-- ---- sets
module _ (a b made : Problem) (fit : SizesFit a b) where
  pub meet_told : IsMeet a b made → ProjectsTo made a.cols (IsInBoth a b) →
      (x : Result Reply NoMemory) → IfOk x (Describes a.cols made false) → IfOk x (MeetVerdict a b)
  meet_told layout projects (Ok r) d = inr (record {
    fit = fit;
    set = record { made = made; layout = layout; projects = projects; describes = d };
  })
  meet_told layout projects (Err e) d = tt

  pub sum_told : IsSum a b made → ProjectsTo made a.cols (IsInSum a b) →
      (x : Result Reply NoMemory) → IfOk x (Describes a.cols made false) → IfOk x (SumVerdict a b)
  sum_told layout projects (Ok r) d = inr (record {
    fit = fit;
    set = record { made = made; layout = layout; projects = projects; describes = d };
  })
  sum_told layout projects (Err e) d = tt

  pub join_told : BothAreFeasible a b → IsJoin a b made → ProjectsTo made a.cols (IsInJoin a b) →
      (x : Result Reply NoMemory) → IfOk x (Describes a.cols made false) → IfOk x (JoinVerdict a b)
  join_told parts layout projects (Ok r) d = inr (record {
    fit = fit;
    told = inr (inr (record {
      parts = parts;
      set = record { made = made; layout = layout; projects = projects; describes = d };
    }));
  })
  join_told parts layout projects (Err e) d = tt

pub map_told : (a made : Problem) → a.objs ≤ 19 → IsMap a made →
    ProjectsTo made a.objs (IsInMap a) → (x : Result Reply NoMemory) →
    IfOk x (Describes a.objs made false) → IfOk x (MapVerdict a)
map_told a made few layout projects (Ok r) d = inr (record {
  few = few;
  set = record { made = made; layout = layout; projects = projects; describes = d };
})
map_told a made few layout projects (Err e) d = tt

-- ---- the parts of a join
pub first_told : (a b : Problem) (r : Reply) → EmptyTold false a r ⊎ StopTold a r →
    PartIsEmpty a b r ⊎ PartStopped a b r
first_told a b r told =
    elim told [
      | inl empty ↦ inl (record { second = false; reached = λ is. cc; empty = empty })
      | inr stop ↦ inr (record { second = false; reached = λ is. cc; stopped = stop })
    ]

second_told : (a b : Problem) → HasFeasible a → (r : Reply) → EmptyTold true b r ⊎ StopTold b r →
    PartIsEmpty a b r ⊎ PartStopped a b r
second_told a b first r told =
    elim told [
      | inl empty ↦ inl (record { second = true; reached = λ is. first; empty = empty })
      | inr stop ↦ inr (record { second = true; reached = λ is. first; stopped = stop })
    ]

pub second_told_of : (a b : Problem) → HasFeasible a → (x : Result (Option Reply) NoMemory) →
    IfOk x (λ told. (r : Reply) → told ≡ Some r → EmptyTold true b r ⊎ StopTold b r) →
    IfOk x (λ told. (r : Reply) → told ≡ Some r → PartIsEmpty a b r ⊎ PartStopped a b r)
second_told_of a b first (Ok told) h = λ r is. second_told a b first r (h r is)
second_told_of a b first (Err e) h = tt

-- a reply that is told is this one
same_reply : (x r : Reply) → Some x ≡ Some r → x ≡ r
same_reply x r e = cc

pub stop_told : (second : Bool) (part : Problem) (x r : Reply) → StopTold part x →
    Some x ≡ Some r → EmptyTold second part r ⊎ StopTold part r
stop_told second part x r told e = inr (subst (StopTold part) (same_reply x r e) told)
