-- The search for the cuts of an image.
use Rattle.std.specs.Prelude.{◌≡◌, ◌≢◌, ⊤, ℕ, Bool, List, [], ◌∷◌, ◌++◌, length, All, Contains}
use Rattle.exact_field.specs.Rational.{ℚ, zero_ℚ}
use Rattle.exact_field.specs.Vector.{entry}
use Rattle.polyhedra.specs.Exactness.{row_of}
use Rattle.polyhedra.specs.LiveList.{numbers}
use Rattle.deriv_log.specs.declared.entry.Entry.{Entry}
use Rattle.double_descr.specs.State.{State as Description}
use Rattle.log_rules.specs.Live.{preimages}
use Rattle.overflows.specs.Turns.{IsCutTurn, said_row}
use Rattle.lp_form.specs.declared.shown.Cut.{Cut}
use Rattle.outer_approx.specs.Cuts.{IsCutFor, said_by}
use Rattle.outer_approx.specs.Preimages.{AreMarks}
use Rattle.outer_approx.specs.Lines.{line_places}
use Rattle.outer_approx.specs.Standing.{IsOpenTrail, IsOuter, StandForSame, rows_of_trail}
use Rattle.outer_approx.specs.Task.{Task, setting}
use Rattle.overflows.specs.Faults.{OnLicence, Overflows}
use Rattle.overflows.specs.declared.fault.SolveFault.{SolveFault}
use Rattle.recession.specs.Asking.{IsKnown}
use Rattle.benson_primal.specs.declared.search.Found.{Found}
use Rattle.benson_primal.specs.declared.search.Round.{Round}
use Rattle.benson_primal.specs.declared.search.Round.TheVariants as round
use Rattle.benson_primal.specs.declared.search.Scope.{Scope}
use Rattle.benson_primal.specs.declared.search.Scope.TheVariants.{Both, Directions}
use Rattle.benson_primal.specs.declared.search.Search.{Search}

-- a search stands: its data are those of the task, its trail and its double description stand for
-- the same cuts, its places are those of the trail's lines, and its marks are those of the
-- generators that have a pre-image
pub record IsSearching {F : Type 0} (value : F → ℚ) (holds : ℚ → Bool) (task : Task) (s : Search F) : Type 0 where
  pub known : IsKnown value holds task s.form.now s.c.now s.weights.now
  pub outer : IsOuter task s.trail s.dd
  pub places_are : s.places ≡ line_places task s.trail
  pub marks : AreMarks s.trail s.reached

-- a search stopped at a fault: no entry ends its trail, which after an overflow stands for the same
-- cuts as its double description, and the overflow is one after this trail
pub record Stopped {F : Type 0} (holds : ℚ → Bool) (task : Task) (s : Search F) (fault : SolveFault) : Type 0 where
  pub trail : IsOpenTrail task s.trail
  pub same : OnLicence fault (λ licence. StandForSame task s.trail s.dd)
  pub left : Overflows holds (setting task s.trail) [] fault

-- a base cut that some point violates at which each row in use is at least 0: so no row says it yet
pub record IsNextCut {F : Type 0} (value : F → ℚ) (task : Task) (trail : List Entry) (cut : Cut F) : Type 0 where
  pub z : List ℚ
  pub turn : IsCutTurn task.file task.c (rows_of_trail task trail) z
  pub says : row_of (said_by value cut) ≡ said_row task.file z
  pub is : IsCutFor value task cut

-- one more row stands, which says such a cut
pub record HasGrown {F : Type 0} (value : F → ℚ) (task : Task) (old new : List Entry) : Type 0 where
  pub cut : Cut F
  pub next : IsNextCut value task old cut
  pub rows : rows_of_trail task new ≡ rows_of_trail task old ++ row_of (said_by value cut) ∷ []

-- a generator is asked: points and directions alike, or directions alone, whose last entry is 0
abbrev pub IsInScope : Scope → List ℚ → Type 0
IsInScope Both v = ⊤
IsInScope Directions v = entry v (length v) ≡ zero_ℚ

-- where it is asked, the live generator of this number has a pre-image
abbrev pub IsDone : Scope → List Entry → Description → ℕ → Type 0
IsDone scope trail dd g = (v : List ℚ) → Contains dd.list.live (record { number = g; vector = v }) → IsInScope scope v → preimages trail g ≢ []

-- each live generator that is asked has a pre-image
abbrev pub AreReached : Scope → List Entry → Description → Type 0
AreReached scope trail dd = All (λ g. IsInScope scope g.vector → preimages trail g.number ≢ []) dd.list.live

-- each live direction has a pre-image
abbrev pub AreDirectionsReached : List Entry → Description → Type 0
AreDirectionsReached trail dd = All (λ g. entry g.vector (length g.vector) ≡ zero_ℚ → preimages trail g.number ≢ []) dd.list.live

-- each live generator has a pre-image
abbrev pub AreAllReached : List Entry → Description → Type 0
AreAllReached trail dd = All (λ g. preimages trail g.number ≢ []) dd.list.live

-- a cut that a live generator violates
pub record IsFound {F : Type 0} (value : F → ℚ) (task : Task) (s : Search F) (found : Found F) : Type 0 where
  pub listed : Contains (numbers s.dd.list.live) found.generator
  pub next : IsNextCut value task s.trail found.cut

-- no cut more is in use: the double description and the rows in use are as before
pub record HasSameRows {F : Type 0} (task : Task) (old new : Search F) : Type 0 where
  pub dd_same : new.dd ≡ old.dd
  pub rows_same : rows_of_trail task new.trail ≡ rows_of_trail task old.trail

-- a round ends so: one more cut stands; or all is as before, and a live generator violates this cut;
-- or each live generator that is asked has a pre-image
abbrev pub IsRound : {F : Type 0} → (F → ℚ) → Task → Scope → Search F → Search F → Round F → Type 0
IsRound value task scope old new round.Grown = HasGrown value task old.trail new.trail
IsRound value task scope old new (round.Overflowed found) = HasSameRows task old new × IsFound value task new found
IsRound value task scope old new round.Reached = AreReached scope new.trail new.dd
