-- What the made problems stand for: their projections on the first columns are the sets.
use Rattle.std.specs.Prelude.{◌≡◌}
use Rattle.vlp_problem.specs.declared.problem.Problem.{Problem}
use Rattle.poly_calc.specs.Sets.{ProjectsTo, HasFeasible, IsInBoth, IsInSum, IsInJoin, IsInMap}
use Rattle.poly_calc.specs.Made.{IsMeet, IsMap, IsSum, IsJoin}

-- what is feasible for both is the projection of the problem that is made for it,
abbrev pub MeetProjects : Type 0
MeetProjects =
    (a b made : Problem) → a.cols ≡ b.cols → IsMeet a b made → ProjectsTo made a.cols (IsInBoth a b)

-- so is an image,
abbrev pub MapProjects : Type 0
MapProjects = (a made : Problem) → IsMap a made → ProjectsTo made a.objs (IsInMap a)

-- so are the sums,
abbrev pub SumProjects : Type 0
SumProjects =
    (a b made : Problem) → a.cols ≡ b.cols → IsSum a b made → ProjectsTo made a.cols (IsInSum a b)

-- and so is the closed convex hull of two sets that are not empty
abbrev pub JoinProjects : Type 0
JoinProjects =
    (a b made : Problem) → a.cols ≡ b.cols → HasFeasible a → HasFeasible b → IsJoin a b made →
    ProjectsTo made a.cols (IsInJoin a b)
