-- What is proved of the rules: against events, of what stands, and of answers.
use Rattle.lineality.specs.Exactness.{IsSolvedAlong}
use Rattle.lineality.specs.Lines.{IsInLineality, RunsAlong}
use Rattle.lineality.specs.Steps.{IsClear, list_without}
use Rattle.lineality.specs.Without.{marks, open_count, without}
use Rattle.polyhedra.specs.Hull.{IsInHull, IsValidAt, IsVertex, IsExtremeDirection, IsNormedDirection}
use Rattle.polyhedra.specs.Inequality.{Inequality}
use Rattle.polyhedra.specs.LowerImage.{completed, IsRecession}
use Rattle.polyhedra.specs.Vectors.{AreWide, zeros}
use Rattle.upper_image.specs.UpperImage.{IsInWorkingImage, IsWorkingDirection, IsInImage, IsDirection, IsValidFor, IsInLowerImageOf, signed}
use Rattle.log_rules.specs.LogEvents.{plain_failure}
use Rattle.polyhedra.specs.LiveList.{Numbered}
use Rattle.polyhedra.specs.LiveSteps.{IsLive}
use Rattle.log_rules.specs.Live.{State, state, live_vectors, y_of, t_of, cut_at, inequality, in_use, rows_in_use, named, lines}
use Rattle.log_rules.specs.Proves.{AllMeet, PlainProves}
use Rattle.log_rules.specs.Right.{IsRight, stated, IsSolution}
use Rattle.std.specs.Prelude.{ℕ, ◌≡◌, ◌⊎◌, ◌++◌, suc, ◌<◌, true, List, [], map, filter, All, Contains, IsTrue, Bool, None, ◌↔◌, ◌-◌, ◌∷◌, length}
use Rattle.exact_field.specs.Rational.{ℚ, zero_ℚ, one_ℚ, neg_ℚ}
use Rattle.exact_field.specs.Order.{same_ℚ}
use Rattle.exact_field.specs.Vector.{front}
use Rattle.vlp_problem.specs.declared.problem.Problem.{Problem}
use Rattle.log_rules.specs.declared.answer.Answer.{Answer}
use Rattle.log_rules.specs.declared.answer.Answer.TheVariants.{Solved}
use Rattle.log_rules.specs.declared.answer.Gen.{Gen}
use Rattle.log_rules.specs.declared.answer.LineGen.{LineGen}
use Rattle.log_rules.specs.declared.answer.Facet.{Facet}
use Rattle.deriv_log.specs.Formed.{IsLog}
use Rattle.deriv_log.specs.declared.entry.Entry.{Entry}
use Rattle.log_rules.specs.Order as order

-- ---- the order of evaluation, and the rules
-- a log without a failure meets all its rules
abbrev pub EventsGiveMeets : Type 0
EventsGiveMeets = (holds : ℚ → Bool) (file : Problem) (entries : List Entry) → plain_failure holds file entries ≡ None → AllMeet file entries

-- and where all numbers are held, a log that meets them has none: rules and events say the same
abbrev pub MeetsGiveEvents : Type 0
MeetsGiveEvents = (file : Problem) (entries : List Entry) → AllMeet file entries → plain_failure (λ _. true) file entries ≡ None

-- ---- what stands
-- without the entries at the places of the lines the live generators describe the cone of the rows
-- in use, each normed, by rising numbers; at these places each is 0; and each is a point or a
-- direction
pub record Stands (file : Problem) (ls : List (List ℚ)) (s : State) : Type 0 where
  pub is_live :
      let bs = marks file.objs ls in
      IsLive (suc (open_count bs)) (map (without bs) (rows_in_use file.objs s)) (list_without bs s.list)
  pub wide : AreWide (suc file.objs) (live_vectors s)
  pub clear : All (IsClear (marks file.objs ls)) (live_vectors s)
  pub kinds : All (λ g. (t_of file.objs g ≡ one_ℚ) ⊎ (t_of file.objs g ≡ zero_ℚ)) s.list.live

-- so it is after entries that meet their rules, with a `start` among them
abbrev pub RulesKeepDescription : Type 0
RulesKeepDescription = (file : Problem) (entries : List Entry) → AllMeet file entries → IsTrue (order.has order.start entries) →
    Stands file (lines entries) (state file.objs entries)

-- the lines before a `start` are in reduced echelon form, and the image runs along them
abbrev pub RulesKeepLines : Type 0
RulesKeepLines = (file : Problem) (entries : List Entry) → AllMeet file entries → RunsAlong file.objs (IsWorkingDirection file) (lines entries)

-- a number stays with its generator: a live one whose number was made before was live before
abbrev pub NumbersStay : Type 0
NumbersStay = (file : Problem) (before rest : List Entry) → AllMeet file (before ++ rest) → IsTrue (order.has order.start before) →
    (g : Numbered) → Contains (state file.objs (before ++ rest)).list.live g → g.number < (state file.objs before).list.next →
    Contains (state file.objs before).list.live g

-- what is listed of a solved log is reached, and what is cut off is not in the image
pub record IsReached (file : Problem) (entries : List Entry) (c : List ℚ) (ls : List LineGen) (points directions : List Gen) (facets : List Facet) : Type 0 where
  pub lines_in : All (λ l. IsInLineality (IsDirection file) l.d) ls
  pub points_in : All (λ g. IsInImage file g.y) points
  pub directions_in : All (λ g. IsDirection file g.y) directions
  pub cuts_valid : All (λ cut. IsValidAt file.objs (IsInWorkingImage file) c (inequality cut)) (state file.objs entries).cuts
  pub hull_in : (y : List ℚ) → IsInHull file.objs (map (λ g. g.y) points) (map (λ g. g.y) directions) (map (λ l. l.d) ls) y → IsInImage file y
  pub facets_valid : All (λ f. IsValidFor file (stated f)) facets

-- so it is where the log proves the answer
abbrev pub SolvedIsReached : Type 0
SolvedIsReached = (file : Problem) (entries : List Entry) (c : List ℚ) (ls : List LineGen) (points directions : List Gen) (facets : List Facet) →
    PlainProves file entries (Solved c ls points directions facets) → IsReached file entries c ls points directions facets

-- ---- exactness
-- the y of the live generators (y, t) with this t
abbrev pub listed : ℕ → State → ℚ → List (List ℚ)
listed q s t = map (y_of q) (filter (λ g. same_ℚ (t_of q g) t) s.list.live)

-- the inequalities that are named as facets
abbrev pub named_cuts : State → List Entry → List Inequality
named_cuts s entries = map (λ k. inequality (cut_at s.cuts k)) (named entries)

-- a solved log meets the conditions of exactness for the image in working coordinates
abbrev pub SolvedIsSolved : Type 0
SolvedIsSolved = (file : Problem) (entries : List Entry) (c : List ℚ) (ls : List LineGen) (points directions : List Gen) (facets : List Facet) →
    PlainProves file entries (Solved c ls points directions facets) →
    let s = state file.objs entries in
    IsSolvedAlong file.objs (IsInWorkingImage file) (IsWorkingDirection file) c (lines entries) (in_use s) (live_vectors s) (listed file.objs s one_ℚ) (listed file.objs s zero_ℚ)
    (named_cuts s entries)

-- what a log proves is right
abbrev pub ProvedIsRight : Type 0
ProvedIsRight = (file : Problem) (entries : List Entry) (answer : Answer) → PlainProves file entries answer → IsRight file answer

-- entries prove one answer only
abbrev pub OneAnswer : Type 0
OneAnswer = (file : Problem) (entries : List Entry) (answer answer' : Answer) →
    PlainProves file entries answer → PlainProves file entries answer' → answer ≡ answer'

-- and a log whose entries meet their rules proves some answer
abbrev pub SomeAnswer : Type 0
SomeAnswer = (file : Problem) (entries : List Entry) → IsLog entries → AllMeet file entries → (answer : Answer) × PlainProves file entries answer

-- two right solutions for one file and one c agree in all but pre-images and dual vectors: in the
-- lines, the points, the directions and the facets, in their order, and in the numbers of tight
-- points and directions
abbrev pub RightSolutionsAgree : Type 0
RightSolutionsAgree = (file : Problem) (c : List ℚ) (ls ls' : List LineGen) (points points' directions directions' : List Gen) (facets facets' : List Facet) →
    IsSolution file c ls points directions facets → IsSolution file c ls' points' directions' facets' →
    (map (λ l. l.d) ls ≡ map (λ l. l.d) ls') × (map (λ g. g.y) points ≡ map (λ g. g.y) points') × (map (λ g. g.y) directions ≡ map (λ g. g.y) directions')
    × (map stated facets ≡ map stated facets') × (map (λ f. f.tight) facets ≡ map (λ f. f.tight) facets')

-- the facets, each by all entries of its normal but the last and its bound, are the vertices of the
-- lower image; and where that is not empty it has one normed extreme direction, in which the bound
-- says less
pub record DescribeLowerImage (file : Problem) (c : List ℚ) (facets : List Facet) : Type 0 where
  pub vertices : (w : List ℚ) (bound : ℚ) → length w ≡ file.objs - 1 →
      Contains (map stated facets) (completed (front c) w bound) ↔ IsVertex (IsInLowerImageOf file c) (w ++ bound ∷ [])
  pub direction : (v : List ℚ) → IsInLowerImageOf file c v → (d : List ℚ) →
      (IsExtremeDirection file.objs (IsRecession file.objs (IsInLowerImageOf file c)) d × IsNormedDirection d)
      ↔ (d ≡ zeros (file.objs - 1) ++ signed file.dir (neg_ℚ one_ℚ) ∷ [])

-- so it is for a right solution
abbrev pub FacetsDescribeLowerImage : Type 0
FacetsDescribeLowerImage = (file : Problem) (c : List ℚ) (ls : List LineGen) (points directions : List Gen) (facets : List Facet) →
    IsSolution file c ls points directions facets → DescribeLowerImage file c facets
