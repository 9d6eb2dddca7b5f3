-- Worked logs of version 2, each of which would fail if a definition were wrong.
use Rattle.std.specs.Prelude.{◌≡◌, ℕ, List, [], ◌∷◌, ◌++◌, negsuc, pos, None}
use Rattle.exact_field.specs.Rational.{ℚ, whole, fraction}
use Rattle.frac128.specs.Held.{is_held}
use Rattle.vlp_problem.specs.declared.problem.Problem.{Problem}
use Rattle.vlp_problem.specs.declared.problem.Dir.TheVariants.{Min}
use Rattle.vlp_problem.specs.declared.problem.Bound.TheVariants.{Lower}
use Rattle.vlp_problem.specs.declared.problem.Cone.TheVariants.{Orthant}
use Rattle.word_lines.specs.declared.part.LogPair.{LogPair}
use Rattle.deriv_log.specs.declared.entry.Entry.{Entry}
use Rattle.deriv_log.specs.declared.entry.Entry.TheVariants as entry
use Rattle.log_rules.specs.Examples.{n, half, third, minus_one, cell, at, pair, Parts, Says, in_numbers, small, small_front, last_ray, solved_end, one, bounded_log}
use Rattle.log_versions.specs.Upgrade.{upgraded}
use Rattle.log_versions.specs.WrittenEvents.{log_failure}

-- a file that says this, for which the log has this upgrade, of which nothing fails
pub record Upgrades (parts : Parts) (log upgrade : List Entry) : Type 0 where
  pub file : Problem
  pub says : Says file parts
  pub is : upgraded file.objs log ≡ upgrade
  pub passes : in_numbers (log_failure is_held file upgrade) ≡ []

-- a file that says this, of whose log as it is written the first failure is this one
pub record FailsWritten (parts : Parts) (log : List Entry) (failure : List ℕ) : Type 0 where
  pub file : Problem
  pub says : Says file parts
  pub first : in_numbers (log_failure is_held file log) ≡ failure

-- none fails
abbrev pub PassesWritten : Parts → List Entry → Type 0
PassesWritten parts log = FailsWritten parts log []

-- ---- hints
-- the solved log with two objectives, with other pairs and hints of its addition
abbrev pub hinted_log : Entry → List Entry
hinted_log addition =
    entry.Version 2
    ∷ entry.Duality (n 1 ∷ n 1 ∷ []) [] [] []
    ∷ entry.Cut (half ∷ half ∷ []) (n 0) (at 3 (n 1) ∷ []) []
    ∷ entry.Cut (n 0 ∷ n 1 ∷ []) (n 4) (at 1 third ∷ at 2 third ∷ []) []
    ∷ entry.Start (1 ∷ 2 ∷ []) (whole (negsuc 3) ∷ n 4 ∷ []) (n 1 ∷ n 0 ∷ minus_one ∷ n 1 ∷ [])
    ∷ entry.Cut (fraction (pos 1) 4 ∷ fraction (pos 3) 4 ∷ []) (n 3) (at 1 half ∷ []) []
    ∷ addition
    ∷ entry.Point 4 (at 1 (n 2) ∷ at 2 (n 2) ∷ []) []
    ∷ entry.Point 5 (at 2 (n 6) ∷ []) []
    ∷ entry.Ray 2 [] []
    ∷ last_ray ∷ entry.Facet 1 ∷ entry.Facet 2 ∷ entry.Facet 3 ∷ solved_end

-- x1 + x2 ≥ 2 and x ≥ 0, the variables as objectives
abbrev pub corner : Parts
corner = record {
  dir = Min;
  objs = 2;
  a = cell 1 1 (n 1) ∷ cell 1 2 (n 1) ∷ [];
  o = cell 1 1 (n 1) ∷ cell 2 2 (n 1) ∷ [];
  row_bounds = Lower (n 2) ∷ [];
  col_bounds = Lower (n 0) ∷ Lower (n 0) ∷ [];
  cone = Orthant;
  duality = None;
}

-- 1/4
abbrev pub quarter : ℚ
quarter = fraction (pos 1) 4

-- the sum is at least 1, and then at least 2: the second addition drops both points that the first
-- one made, 4 on the first axis and 5 on the second, and keeps the directions 2 and 3
abbrev pub corner_log : ℕ → Entry → Entry → List Entry
corner_log version first second =
    entry.Version version
    ∷ entry.Duality (n 1 ∷ n 1 ∷ []) [] [] []
    ∷ entry.Cut (n 1 ∷ n 0 ∷ []) (n 0) (at 2 (n 1) ∷ []) []
    ∷ entry.Cut (n 0 ∷ n 1 ∷ []) (n 0) (at 3 (n 1) ∷ []) []
    ∷ entry.Start (1 ∷ 2 ∷ []) (n 0 ∷ n 0 ∷ []) (n 1 ∷ n 0 ∷ n 0 ∷ n 1 ∷ [])
    ∷ entry.Cut (half ∷ half ∷ []) half (at 1 quarter ∷ at 2 quarter ∷ at 3 quarter ∷ []) []
    ∷ first
    ∷ entry.Cut (half ∷ half ∷ []) (n 1) (at 1 half ∷ []) []
    ∷ second
    ∷ entry.Point 6 (at 1 (n 2) ∷ []) []
    ∷ entry.Point 7 (at 2 (n 2) ∷ []) []
    ∷ entry.Ray 2 [] []
    ∷ entry.Ray 3 [] []
    ∷ entry.Facet 1 ∷ entry.Facet 2 ∷ entry.Facet 4 ∷ solved_end

-- the pairs of the first addition
abbrev pub first_pairs : List LogPair
first_pairs = pair 2 1 ∷ pair 3 1 ∷ []

-- the edges to the two points that are dropped; 2 and 5, and 3 and 4, lie across
abbrev pub second_pairs : List LogPair
second_pairs = pair 2 4 ∷ pair 3 5 ∷ []

-- with these pairs and hints of the second addition
abbrev pub corner_hints : List LogPair → List ℕ → List Entry
corner_hints pairs hints =
    corner_log 2 (entry.AddHints 3 first_pairs []) (entry.AddHints 4 pairs hints)

-- the upgrade of a solved log whose pairs are all listed; a hint too many; a pair that is left out
-- with a generator that does not cover it; no pair in their order
pub record ListedPairs : Type 0 where
  pub hinted : Upgrades small
      (small_front ++ last_ray ∷ entry.Facet 1 ∷ entry.Facet 2 ∷ entry.Facet 3 ∷ solved_end)
      (hinted_log (entry.AddHints 3 (pair 2 1 ∷ pair 3 1 ∷ []) []))
  pub one_hint_more : FailsWritten small
      (hinted_log (entry.AddHints 3 (pair 2 1 ∷ pair 3 1 ∷ []) (2 ∷ []))) (7 ∷ 0 ∷ 17 ∷ [])
  pub not_covered : FailsWritten small
      (hinted_log (entry.AddHints 3 (pair 2 1 ∷ []) (2 ∷ []))) (7 ∷ 0 ∷ 17 ∷ [])
  pub out_of_order : FailsWritten small
      (hinted_log (entry.AddHints 3 (pair 3 1 ∷ pair 2 1 ∷ []) [])) (7 ∷ 0 ∷ 13 ∷ [])

-- the upgrade of a solved log with two pairs that are covered, each by the least other generator;
-- the two others; a hint that is one of its pair, on either side; one that was dropped; one too
-- few; a pair that is not required, with a hint that is one of its pair
pub record CoveredPairs : Type 0 where
  pub covered : Upgrades corner
      (corner_log 1 (entry.Add 3 first_pairs) (entry.Add 4 second_pairs))
      (corner_hints second_pairs (3 ∷ 2 ∷ []))
  pub other_hints : PassesWritten corner (corner_hints second_pairs (4 ∷ 5 ∷ []))
  pub plus_of_pair : FailsWritten corner (corner_hints second_pairs (2 ∷ 2 ∷ [])) (9 ∷ 0 ∷ 17 ∷ [])
  pub minus_of_pair : FailsWritten corner (corner_hints second_pairs (3 ∷ 4 ∷ [])) (9 ∷ 0 ∷ 17 ∷ [])
  pub not_live : FailsWritten corner (corner_hints second_pairs (1 ∷ 2 ∷ [])) (9 ∷ 0 ∷ 17 ∷ [])
  pub one_hint_less : FailsWritten corner (corner_hints second_pairs (3 ∷ [])) (9 ∷ 0 ∷ 17 ∷ [])
  pub both_wrong : FailsWritten corner
      (corner_hints (pair 2 4 ∷ pair 2 5 ∷ pair 3 5 ∷ []) (3 ∷ [])) (9 ∷ 0 ∷ 13 ∷ [])

-- ---- shared vectors
-- one variable of at least 1, which is the objective
abbrev pub half_line : Parts
half_line = one (Lower (n 1))

-- its duality vector
abbrev pub one_duality : Entry
one_duality = entry.Duality (n 1 ∷ []) [] [] []

-- the dual vector of the cut and the pre-image of the point are one vector
abbrev pub unit : Entry
unit = entry.Share (at 1 (n 1) ∷ [])

-- the cut y ≥ 1 with a vector of its own,
abbrev pub own_cut : Entry
own_cut = entry.Cut (n 1 ∷ []) (n 1) (at 1 (n 1) ∷ []) []

-- and with the shared vector number k
abbrev pub shared_cut : ℕ → Entry
shared_cut k = entry.CutOf (n 1 ∷ []) (n 1) k []

-- the start at 1
abbrev pub half_line_start : Entry
half_line_start = entry.Start (1 ∷ []) (n 1 ∷ []) (n 1 ∷ [])

-- up to the cut
abbrev pub shared_front : List Entry
shared_front = entry.Version 2 ∷ one_duality ∷ unit ∷ shared_cut 1 ∷ []

-- from the start on, with these pre-images, and these entries after the facet
abbrev pub half_line_end : Entry → Entry → List Entry → List Entry
half_line_end point ray more =
    half_line_start ∷ point ∷ ray ∷ entry.Facet 1 ∷ more ++ solved_end

-- the upgrade of a log with a vector that stands in two entries; a vector shared after a facet and
-- never used, and one shared before the duality vector; a cut, a point and a direction by a vector
-- that is not there, and a point by number 0
pub record SharedVectors : Type 0 where
  pub shared_once : Upgrades half_line (bounded_log (n 1))
      (shared_front ++ half_line_end (entry.PointOf 1 1 []) (entry.Ray 2 [] []) [])
  pub share_late : PassesWritten half_line
      (shared_front ++ half_line_end (entry.PointOf 1 1 []) (entry.Ray 2 [] []) (unit ∷ []))
  pub share_early : PassesWritten half_line
      (entry.Version 2 ∷ unit ∷ one_duality ∷ shared_cut 1
      ∷ half_line_end (entry.PointOf 1 1 []) (entry.Ray 2 [] []) [])
  pub no_cut : FailsWritten half_line
      (entry.Version 2 ∷ one_duality ∷ unit ∷ shared_cut 2 ∷ solved_end) (4 ∷ 0 ∷ 4 ∷ [])
  pub no_point : FailsWritten half_line
      (shared_front ++ half_line_end (entry.PointOf 1 2 []) (entry.Ray 2 [] []) [])
      (6 ∷ 0 ∷ 4 ∷ [])
  pub point_0 : FailsWritten half_line
      (shared_front ++ half_line_end (entry.PointOf 1 0 []) (entry.Ray 2 [] []) [])
      (6 ∷ 0 ∷ 4 ∷ [])
  pub no_ray : FailsWritten half_line
      (shared_front ++ half_line_end (entry.PointOf 1 1 []) (entry.RayOf 2 2 []) [])
      (7 ∷ 0 ∷ 4 ∷ [])

-- ---- versions
-- each kind of version 2 in a log of version 1; a vector that is shared first; a version that is
-- none
pub record Versions : Type 0 where
  pub share_in_1 : FailsWritten half_line
      (entry.Version 1 ∷ entry.Share [] ∷ solved_end) (2 ∷ 0 ∷ 2 ∷ [])
  pub cut_of_in_1 : FailsWritten half_line
      (entry.Version 1 ∷ one_duality ∷ shared_cut 1 ∷ solved_end) (3 ∷ 0 ∷ 2 ∷ [])
  pub point_of_in_1 : FailsWritten half_line
      (entry.Version 1 ∷ one_duality ∷ own_cut
      ∷ half_line_end (entry.PointOf 1 1 []) (entry.Ray 2 [] []) [])
      (5 ∷ 0 ∷ 2 ∷ [])
  pub ray_of_in_1 : FailsWritten half_line
      (entry.Version 1 ∷ one_duality ∷ own_cut
      ∷ half_line_end (entry.Point 1 (at 1 (n 1) ∷ []) []) (entry.RayOf 2 1 []) [])
      (6 ∷ 0 ∷ 2 ∷ [])
  pub hints_in_1 : FailsWritten corner
      (corner_log 1 (entry.AddHints 3 first_pairs []) (entry.Add 4 second_pairs))
      (7 ∷ 0 ∷ 2 ∷ [])
  pub share_first : FailsWritten half_line
      (entry.Share [] ∷ entry.Version 2 ∷ solved_end) (1 ∷ 0 ∷ 2 ∷ [])
  pub version_3 : FailsWritten half_line (entry.Version 3 ∷ solved_end) (1 ∷ 0 ∷ 1 ∷ [])

-- all of these logs
pub record WorkedVersions : Type 0 where
  pub listed : ListedPairs
  pub covered : CoveredPairs
  pub shared : SharedVectors
  pub versions : Versions
