-- What an entry must meet after the entries before it: rule by rule, over exact numbers, in no
-- order.
use Rattle.polyhedra.specs.DoubleDescription.{leading}
use Rattle.lineality.specs.Lines.{leading_place}
use Rattle.lineality.specs.Steps.{IsCornerAlong}
use Rattle.polyhedra.specs.Exactness.{TightLiesIn, IsNamed, IsAccounted}
use Rattle.polyhedra.specs.Hull.{IsNormedDirection}
use Rattle.polyhedra.specs.Vectors.{zeros, combination}
use Rattle.upper_image.specs.Shows.{ShowsFeasible, ShowsRecession, ShowsAbove, ShowsFitting, ShowsCut}
use Rattle.upper_image.specs.Spots.{pieces, dense, product}
use Rattle.upper_image.specs.UpperImage.{normals}
use Rattle.polyhedra.specs.LiveList.{Numbered}
use Rattle.log_rules.specs.Live.{State, state, live_vectors, y_of, t_of, inequality, cut_at, cut_row, in_use, rows_in_use, required_pairs, duality_vector, preimages, named, lines}
use Rattle.log_rules.specs.Order.{in_order}
use Rattle.std.specs.Prelude.{◌≡◌, ◌≢◌, ℕ, ◌*◌, ◌<◌, ◌≤◌, IsTrue, List, [], map, length, All, AllPairs, Contains}
use Rattle.exact_field.specs.Rational.{ℚ, zero_ℚ, one_ℚ, neg_ℚ, ◌<ℚ◌}
use Rattle.exact_field.specs.Vector.{entry}
use Rattle.frac128.specs.declared.vectors.Spot.{Spot}
use Rattle.vlp_problem.specs.Sides.{sides, side_bounds}
use Rattle.vlp_problem.specs.declared.problem.Problem.{Problem}
use Rattle.word_lines.specs.declared.part.LogPair.{LogPair}
use Rattle.word_lines.specs.declared.part.EndKind.{EndKind}
use Rattle.word_lines.specs.declared.part.EndKind.TheVariants as kind
use Rattle.deriv_log.specs.declared.entry.Entry.{Entry}
use Rattle.deriv_log.specs.declared.entry.Entry.TheVariants.{Version, Duality, Cut, Start, Add, Point, Ray, Farkas, Whole, Line, Facet, End, Share, CutOf, PointOf, RayOf, AddHints}
use Rattle.log_rules.specs.Order as order

-- ---- start: with the lines as many cuts as there are objectives, a reduced point at which they
-- are tight, and for each of them a reduced direction in which it alone grows
pub record MeetsStart (file : Problem) (before : List Entry) (s : State) (cuts : List ℕ) (point directions : List ℚ) : Type 0 where
  pub some : 1 ≤ length cuts
  pub directions_many : length directions ≡ length cuts * file.objs
  pub rise : AllPairs (λ k k'. k < k') cuts
  pub exist : All (λ k. (1 ≤ k) × (k ≤ length s.cuts)) cuts
  pub normed : All IsNormedDirection (pieces (length cuts) file.objs directions)
  pub corner : IsCornerAlong file.objs (lines before) (map (λ k. inequality (cut_at s.cuts k)) cuts) point (pieces (length cuts) file.objs directions)

-- ---- add: a cut that comes into use, with exactly the pairs that are required
pub record MeetsAdd (file : Problem) (s : State) (cut : ℕ) (pairs : List LogPair) : Type 0 where
  pub exists : (1 ≤ cut) × (cut ≤ length s.cuts)
  pub unused : Contains s.used cut → ⊥
  pub exactly : pairs ≡ required_pairs (rows_in_use file.objs s) s.list.live (cut_row s cut)

-- ---- point and ray: a pre-image of a live generator that has none
-- g is the live generator number k, has this t, and has no pre-image
pub record IsOpen (q : ℕ) (before : List Entry) (s : State) (k : ℕ) (t : ℚ) (g : Numbered) : Type 0 where
  pub is_live : Contains s.list.live g
  pub number : g.number ≡ k
  pub level : t_of q g ≡ t
  pub fresh : preimages before k ≡ []

-- of a point,
pub record MeetsPoint (file : Problem) (before : List Entry) (s : State) (k : ℕ) (x m : List Spot) : Type 0 where
  pub point : Numbered
  pub index : IsOpen file.objs before s k one_ℚ point
  pub feasible : ShowsFeasible file x
  pub above : ShowsAbove file (y_of file.objs point) x m

-- and of a direction
pub record MeetsRay (file : Problem) (before : List Entry) (s : State) (k : ℕ) (x m : List Spot) : Type 0 where
  pub direction : Numbered
  pub index : IsOpen file.objs before s k zero_ℚ direction
  pub recedes : ShowsRecession file x
  pub above : ShowsAbove file (y_of file.objs direction) x m

-- ---- farkas, whole, line
-- multipliers of the sides that show that they contradict each other
pub record MeetsFarkas (file : Problem) (u : List Spot) : Type 0 where
  pub index : All (λ s. s.at ≤ length (sides file)) u
  pub sign : All (λ s. zero_ℚ <ℚ s.value) u
  pub balance : combination file.cols (dense (length (sides file)) u) (normals file) ≡ zeros file.cols
  pub bound : zero_ℚ <ℚ product (side_bounds file) u

-- a feasible point, and a pre-image of the direction -c
pub record MeetsWhole (file : Problem) (c : List ℚ) (x ray m : List Spot) : Type 0 where
  pub feasible : ShowsFeasible file x
  pub recedes : ShowsRecession file ray
  pub above : ShowsAbove file (map neg_ℚ c) ray m

-- a vector that goes on the reduced echelon form of the lines before it, a feasible point, and
-- pre-images of the directions d and -d
pub record MeetsLine (file : Problem) (before : List Entry) (d : List ℚ) (x ray m back n : List Spot) : Type 0 where
  pub lengths : length d ≡ file.objs
  pub scaled : leading d ≡ one_ℚ
  pub rises : All (λ e. leading_place e < leading_place d) (lines before)
  pub clear : All (λ e. entry e (leading_place d) ≡ zero_ℚ) (lines before)
  pub feasible : ShowsFeasible file x
  pub recedes : ShowsRecession file ray
  pub above : ShowsAbove file d ray m
  pub back_recedes : ShowsRecession file back
  pub back_above : ShowsAbove file (map neg_ℚ d) back n

-- ---- facet: a cut in use whose set of tight generators is largest,
-- and not that of a facet named before
pub record MeetsFacet (file : Problem) (before : List Entry) (s : State) (cut : ℕ) : Type 0 where
  pub used : Contains s.used cut
  pub unnamed : Contains (named before) cut → ⊥
  pub largest : IsNamed file.objs (in_use s) (live_vectors s) (inequality (cut_at s.cuts cut))
  pub other : All (λ k. TightLiesIn (live_vectors s) (cut_row s cut) (cut_row s k) → TightLiesIn (live_vectors s) (cut_row s k) (cut_row s cut) → ⊥)
      (named before)

-- ---- end: what the answer needs stands before it
pub record MeetsSolved (file : Problem) (before : List Entry) (s : State) : Type 0 where
  pub started : IsTrue (order.has order.start before)
  pub reached : All (λ g. preimages before g.number ≢ []) s.list.live
  pub accounted : All (IsAccounted file.objs (map (λ k. inequality (cut_at s.cuts k)) (named before)) (live_vectors s)) (in_use s)

-- what stands before an end of each kind; nothing ends with `novertex`
abbrev pub MeetsEnd : Problem → List Entry → EndKind → Type 0
MeetsEnd file before kind.Infeasible = IsTrue (order.has order.farkas before)
MeetsEnd file before kind.Whole = IsTrue (order.has order.whole before)
MeetsEnd file before kind.NoVertex = ⊥
MeetsEnd file before kind.Solved = MeetsSolved file before (state file.objs before)

-- ---- all kinds
-- what the entry must meet but for its order, where s stands; one of version 2 stands in no plain
-- log
abbrev pub MeetsKind : Problem → List Entry → State → Entry → Type 0
MeetsKind file before s (Version n) = n ≡ 1
MeetsKind file before s (Duality c weights picks inverse) = ShowsFitting file c weights picks inverse
MeetsKind file before s (Cut w gamma u v) = ShowsCut file (duality_vector before) w gamma u v
MeetsKind file before s (Start cuts point directions) = MeetsStart file before s cuts point directions
MeetsKind file before s (Add cut pairs) = MeetsAdd file s cut pairs
MeetsKind file before s (Point k x m) = MeetsPoint file before s k x m
MeetsKind file before s (Ray k x m) = MeetsRay file before s k x m
MeetsKind file before s (Farkas u) = MeetsFarkas file u
MeetsKind file before s (Whole x ray m) = MeetsWhole file (duality_vector before) x ray m
MeetsKind file before s (Line d x ray m back n) = MeetsLine file before d x ray m back n
MeetsKind file before s (Facet cut) = MeetsFacet file before s cut
MeetsKind file before s (End kind) = MeetsEnd file before kind
MeetsKind file before s (Share _) = ⊥
MeetsKind file before s (CutOf _ _ _ _) = ⊥
MeetsKind file before s (PointOf _ _ _) = ⊥
MeetsKind file before s (RayOf _ _ _) = ⊥
MeetsKind file before s (AddHints _ _ _) = ⊥

-- the entry meets each of its rules after the entries before it
pub record Meets (file : Problem) (before : List Entry) (e : Entry) : Type 0 where
  pub order : IsTrue (in_order before (order.kind e))
  pub rules : MeetsKind file before (state file.objs before) e
