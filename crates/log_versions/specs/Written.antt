-- What the entries of a log as it is written must meet, whatever its version, and what it proves:
-- what its plain log proves.
use Rattle.std.specs.Prelude.{◌≡◌, ◌⊎◌, ⊤, ℕ, ◌≤◌, Bool, ◌&&◌, IsTrue, List, ◌∷◌, ◌++◌, length}
use Rattle.vlp_problem.specs.declared.problem.Problem.{Problem}
use Rattle.deriv_log.specs.Formed.{IsLog}
use Rattle.deriv_log.specs.declared.entry.Entry.{Entry}
use Rattle.deriv_log.specs.declared.entry.Entry.TheVariants.{Version, Cut, Point, Ray, Share, CutOf, PointOf, RayOf, AddHints}
use Rattle.log_rules.specs.Live.{state}
use Rattle.log_rules.specs.Meets.{MeetsKind}
use Rattle.log_rules.specs.Order.{Kind, implies, in_order}
use Rattle.log_rules.specs.Order as order
use Rattle.log_rules.specs.Proves.{Gives}
use Rattle.log_rules.specs.declared.answer.Answer.{Answer}
use Rattle.log_versions.specs.Hints.{MeetsAddHints}
use Rattle.log_versions.specs.Plain.{shares, shared, plain, is_second, is_version_2}

-- ---- order
-- the kind of the entry in the plain log; an entry that shares a vector stands wherever any entry
-- but the first may
abbrev pub plain_kind : Entry → Kind
plain_kind (CutOf w gamma share v) = order.cut
plain_kind (PointOf generator share m) = order.point
plain_kind (RayOf generator share m) = order.ray
plain_kind (AddHints cut pairs hints) = order.add
plain_kind e = order.kind e

-- the entry may stand after these: one of version 2 in a log of version 2 alone, and else as its
-- plain entry after theirs
abbrev pub may_follow : List Entry → Entry → Bool
may_follow before (Share v) = is_version_2 before
may_follow before e =
    implies (is_second e) (is_version_2 before) && in_order (plain before) (plain_kind e)

-- ---- rules
-- the number is that of a shared vector
abbrev pub IsShared : List Entry → ℕ → Type 0
IsShared before k = (1 ≤ k) × (k ≤ length (shares before))

-- what the entry must meet but for its order: what its plain entry must meet after theirs, that
-- the vector which it names is there, and for `addh` the rules of its hints
abbrev pub WrittenKind : Problem → List Entry → Entry → Type 0
WrittenKind file before (Version n) = (n ≡ 1) ⊎ (n ≡ 2)
WrittenKind file before (Share v) = ⊤
WrittenKind file before (CutOf w gamma share v) =
    IsShared before share × MeetsKind file (plain before) (state file.objs (plain before))
    (Cut w gamma (shared (shares before) share) v)
WrittenKind file before (PointOf generator share m) =
    IsShared before share × MeetsKind file (plain before) (state file.objs (plain before))
    (Point generator (shared (shares before) share) m)
WrittenKind file before (RayOf generator share m) =
    IsShared before share × MeetsKind file (plain before) (state file.objs (plain before))
    (Ray generator (shared (shares before) share) m)
WrittenKind file before (AddHints cut pairs hints) =
    MeetsAddHints file (state file.objs (plain before)) cut pairs hints
WrittenKind file before e = MeetsKind file (plain before) (state file.objs (plain before)) e

-- the entry meets each of its rules after the entries before it
pub record WrittenMeets (file : Problem) (before : List Entry) (e : Entry) : Type 0 where
  pub order : IsTrue (may_follow before e)
  pub rules : WrittenKind file before e

-- each entry of a log meets its rules
abbrev pub AllWrittenMeet : Problem → List Entry → Type 0
AllWrittenMeet file entries = (before : List Entry) (e : Entry) (after : List Entry) →
    entries ≡ before ++ e ∷ after → WrittenMeets file before e

-- ---- what a log proves
-- the entries prove the answer for the file: each meets its rules, and the answer is the one that
-- the plain log gives
pub record Proves (file : Problem) (entries : List Entry) (answer : Answer) : Type 0 where
  pub log : IsLog entries
  pub meet : AllWrittenMeet file entries
  pub gives : Gives file (plain entries) answer
