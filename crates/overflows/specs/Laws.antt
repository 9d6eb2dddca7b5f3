-- The laws by which trails grow and licences are given.
use Rattle.std.specs.Prelude.{ℕ, suc, ◌≤◌, ◌-◌, Bool, IsTrue, IsFalse, List, [], ◌∷◌, ◌++◌, ◌≡◌, ◌⊎◌, length, All, Contains, Some}
use Rattle.exact_field.specs.Field.{exact}
use Rattle.exact_field.specs.Rational.{ℚ, zero_ℚ, ◌/ℚ◌}
use Rattle.exact_field.specs.Vector.{entry, dot}
use Rattle.exact_field.specs.declared.op.Op.{Op}
use Rattle.exact_field.specs.declared.op.Op.TheVariants.{Mul, Div}
use Rattle.exact_field.specs.declared.op.Left.{Left}
use Rattle.frac128.specs.declared.vectors.Spot.{Spot}
use Rattle.polyhedra.specs.DoubleDescription.{IsNormed, magnitude, norming}
use Rattle.polyhedra.specs.Dependence.{AreCorners}
use Rattle.polyhedra.specs.LiveList.{Numbered, LiveList, LivePair, live_pairs, starting, step as next_step}
use Rattle.polyhedra.specs.LiveSteps.{IsLive}
use Rattle.polyhedra.specs.Vectors.{AreWide}
use Rattle.tableaux.specs.Table.{Table, column_of}
use Rattle.tableaux.specs.Elimination.{AreInverse}
use Rattle.lin_rows.specs.Eliminate.{IsElimFault}
use Rattle.lin_rows.specs.Sums.{partial, IsTermLeft}
use Rattle.lin_rows.specs.declared.fault.RowFault.TheVariants.{Left as Stuck}
use Rattle.exact_simplex.specs.Ends.{IsSystemLeft}
use Rattle.vlp_problem.specs.declared.problem.Problem.{Problem}
use Rattle.upper_image.specs.Shows.{ShowsFitting, ShowsCut}
use Rattle.deriv_log.specs.Formed.{IsLog}
use Rattle.deriv_log.specs.declared.entry.Entry.{Entry}
use Rattle.deriv_log.specs.declared.entry.Entry.TheVariants.{Cut}
use Rattle.vlp_problem.specs.declared.program.Program.{Program}
use Rattle.deriv_log.specs.declared.licence.Family.{Family}
use Rattle.deriv_log.specs.declared.licence.Place.TheVariants.{Pivot, Elim, Pair, Exchange, Scale, Step}
use Rattle.log_rules.specs.Events.{Event}
use Rattle.log_rules.specs.Events.Event.{step}
use Rattle.log_rules.specs.Events.Failure.{left as overflows}
use Rattle.log_rules.specs.Live.{duality_vector}
use Rattle.log_rules.specs.LogEvents.{plain_failure}
use Rattle.log_rules.specs.Meets.{Meets}
use Rattle.log_rules.specs.Order.{has}
use Rattle.log_rules.specs.Order as order
use Rattle.overflows.specs.Base.{IsBaseRow, IsBaseCut, IsGeneratorOf}
use Rattle.overflows.specs.Licence.{IsOverflow, IsCheckOverflow, opening, IsHeldDuality, IsPossible, StandsFor, Licensed, LicensedWithout}
use Rattle.deriv_log.specs.declared.licence.Licence.{Licence}
use Rattle.overflows.specs.Dictionaries.{IsAllowed, system_in, AreStartRows, IsElimTable}
use Rattle.overflows.specs.Generators.{IsMadeOver, IsAddition}
use Rattle.overflows.specs.Products.{AreMultiplied}
use Rattle.overflows.specs.Quotients.{IsOrthogonalOff, IsScaled, IsDivisor}
use Rattle.overflows.specs.Settings.{Setting, Knows}
use Rattle.overflows.specs.Steps.{operation, value_steps, pair_steps, exchange_steps}
use Rattle.geo_duality.specs.Rows.{exchange_row}
use Rattle.overflows.specs.Trails.{IsBaseDuality, IsBaseEntry, IsBaseTrail}

-- ---- trails
-- which entries are base trails, and what trails stand for
pub record TrailLaws : Type 0 where
  -- no entries are a base trail; so are a `version` and a `duality` entry that fits the file and is
  -- read off
  pub none : (file : Problem) (c weights : List ℚ) → IsBaseTrail file c weights []
  pub opened : (file : Problem) (c weights : List ℚ) (picks : List ℕ) (inverse : List ℚ) → ShowsFitting file c weights picks inverse →
      IsBaseDuality file file.cone file.duality c weights → IsBaseTrail file c weights (opening c weights picks inverse)
  -- a base trail grows by an entry that meets its rules and is read off, and each front of it is
  -- one
  pub grows : (file : Problem) (c weights : List ℚ) (trail : List Entry) (e : Entry) → IsBaseTrail file c weights trail → Meets file trail e →
      IsBaseEntry file c weights trail e → IsBaseTrail file c weights (trail ++ e ∷ [])
  pub front : (file : Problem) (c weights : List ℚ) (before rest : List Entry) → IsBaseTrail file c weights (before ++ rest) →
      IsBaseTrail file c weights before
  -- its duality vector is c; so a base cut that is valid at c may follow
  pub duality : (file : Problem) (c weights : List ℚ) (trail : List Entry) → IsBaseTrail file c weights trail → IsTrue (has order.duality trail) →
      duality_vector trail ≡ c
  pub cut : (file : Problem) (c weights : List ℚ) (trail : List Entry) (w : List ℚ) (gamma : ℚ) (u v : List Spot) → IsBaseTrail file c weights trail →
      IsTrue (has order.duality trail) → ShowsCut file c w gamma u v → IsBaseCut file c w u v →
      IsBaseTrail file c weights (trail ++ Cut w gamma u v ∷ [])
  -- what the trail of a call stands for that has no entries yet, or these two of its own; and how
  -- that grows
  pub begins : (holds : ℚ → Bool) (file : Problem) (c weights : List ℚ) (picks : List ℕ) (inverse : List ℚ) → IsHeldDuality holds c weights inverse →
      ShowsFitting file c weights picks inverse → IsBaseDuality file file.cone file.duality c weights →
      StandsFor holds file c weights [] (opening c weights picks inverse)
  pub own : (holds : ℚ → Bool) (file : Problem) (c weights : List ℚ) (picks : List ℕ) (inverse : List ℚ) → IsHeldDuality holds c weights inverse →
      ShowsFitting file c weights picks inverse → IsBaseDuality file file.cone file.duality c weights →
      StandsFor holds file c weights (opening c weights picks inverse) (opening c weights picks inverse)
  pub goes_on : (holds : ℚ → Bool) (file : Problem) (c weights : List ℚ) (trail whole : List Entry) (e : Entry) →
      StandsFor holds file c weights trail whole → Meets file whole e → IsBaseEntry file c weights whole e →
      StandsFor holds file c weights (trail ++ e ∷ []) (whole ++ e ∷ [])

-- ---- overflows
-- the number of a step of a sum of products
abbrev pub term_number : Op → ℕ
term_number Mul = 2
term_number _ = 3

-- an operation that a call gives up overflows at the place of the call
pub record OverflowLaws : Type 0 where
  -- a linear program was given up in a dictionary of an allowed program
  pub program : (holds : ℚ → Bool) (s : Setting) (program : Program) (basis : List ℕ) (row col number : ℕ) (left : Left ℚ) →
      IsTrue (holds zero_ℚ) → IsTrue (holds left.a) → IsAllowed s program → IsSystemLeft (λ q. q) holds (system_in s program) basis row col number left →
      IsOverflow holds s (Pivot program basis row col number) left
  -- an elimination of allowed rows was given up
  pub elimination : (holds : ℚ → Bool) (s : Setting) (rows : List (List ℚ)) (width : ℕ) (t : Table) (columns : ℕ) (basis : List ℕ)
      (row col number : ℕ) (left : Left ℚ) → IsTrue (holds zero_ℚ) → IsTrue (holds left.a) → IsElimTable s rows width t columns →
      length basis ≡ length rows → 1 ≤ row → 1 ≤ col → IsElimFault (λ q. q) holds columns t (Stuck basis row col number left) →
      IsOverflow holds s (Elim rows basis row col number) left
  -- a corner of allowed rows was given up while it was normed
  pub norming : (holds : ℚ → Bool) (s : Setting) (rows : List (List ℚ)) (inverse : Table) (corner col : ℕ) →
      IsTrue (holds zero_ℚ) → AreStartRows s rows (length rows) → AreInverse (length rows) rows inverse → 1 ≤ corner → corner ≤ length rows →
      1 ≤ col → col ≤ length rows →
      let by = magnitude (norming (column_of inverse corner)) in
      IsFalse (holds (entry (column_of inverse corner) col /ℚ by)) →
      IsOverflow holds s (Elim rows [] 0 col 1) (operation Div (entry (column_of inverse corner) col) by)
  -- a product, or a sum with it, was given up at a place of two lists that may be multiplied
  pub term : (holds : ℚ → Bool) (s : Setting) (xs ys : List ℚ) (place : ℕ) (left : Left ℚ) →
      IsTrue (holds zero_ℚ) → AreMultiplied s xs ys ⊎ AreMultiplied s ys xs → 1 ≤ place → place ≤ length xs → place ≤ length ys →
      IsTermLeft (λ q. q) holds (partial xs ys (place - 1)) (entry xs place) (entry ys place) left →
      IsOverflow holds s (Elim [] [] 0 place (term_number left.op)) left
  -- the value of a live generator at an added row was given up
  pub value : (holds : ℚ → Bool) (s : Setting) (family : Family) (before : List (List ℚ)) (last : List ℚ) (list : LiveList) (g : Numbered)
      (done rest : List Event) (o : Op) (a b : ℚ) → IsTrue (holds zero_ℚ) → IsAddition s before last list family → Contains list.live g →
      value_steps last g.vector ≡ done ++ step o a b ∷ rest → IsFalse (holds (exact o a b)) →
      IsOverflow holds s (Pair family (before ++ last ∷ []) g.number 0 (suc (length done))) (operation o a b)
  -- the meeting point of two live generators at an added row was given up
  pub pair : (holds : ℚ → Bool) (s : Setting) (family : Family) (before : List (List ℚ)) (last : List ℚ) (list : LiveList) (pair : LivePair)
      (done rest : List Event) (o : Op) (a b : ℚ) → IsTrue (holds zero_ℚ) → IsAddition s before last list family →
      Contains (live_pairs before list.live last) pair →
      pair_steps last pair.plus_side.vector pair.minus_side.vector ≡ done ++ step o a b ∷ rest → IsFalse (holds (exact o a b)) →
      IsOverflow holds s (Pair family (before ++ last ∷ []) pair.plus_side.number pair.minus_side.number (suc (length done))) (operation o a b)
  -- a base row was given up
  pub exchange : (holds : ℚ → Bool) (s : Setting) (c y : List ℚ) (t : Bool) (done rest : List Event) (o : Op) (a b : ℚ) → IsTrue (holds zero_ℚ) →
      Knows s c → IsBaseRow s.file c (exchange_row c y t) → exchange_steps c y ≡ done ++ step o a b ∷ rest → IsFalse (holds (exact o a b)) →
      IsOverflow holds s (Exchange y t (suc (length done))) (operation o a b)
  -- a quotient of a vector that may be divided was given up
  pub scale : (holds : ℚ → Bool) (s : Setting) (v : List ℚ) (k : ℕ) (by : ℚ) → IsTrue (holds zero_ℚ) → IsScaled s v → 1 ≤ k → k ≤ length v →
      IsDivisor s v by → IsFalse (holds (entry v k /ℚ by)) → IsOverflow holds s (Scale v k) (operation Div (entry v k) by)
  -- the check of a log was given up
  pub check : (holds : ℚ → Bool) (file : Problem) (entries : List Entry) (number k : ℕ) (o : Op) (a b : ℚ) → IsTrue (holds zero_ℚ) → IsLog entries →
      plain_failure holds file entries ≡ Some (record { entry = number; failure = overflows k o a b }) →
      IsCheckOverflow holds file entries (Step number k) (operation o a b)

-- ---- orthogonal vectors
-- an orthogonal vector of an elimination has the product 0 with each of the rows
abbrev pub OrthogonalVectors : Type 0
OrthogonalVectors = (s : Setting) (v : List ℚ) (o : IsOrthogonalOff s v) → AreWide o.width o.rows → All (λ row. dot row v ≡ zero_ℚ) o.rows

-- ---- live generators
-- generators that are made over rows describe their cone
pub record GeneratorLaws : Type 0 where
  -- normed corners of as many rows as they have entries are made over them, and one step more over
  -- one row more
  pub starts : (n : ℕ) (rows vectors : List (List ℚ)) → AreCorners n rows vectors → All IsNormed vectors → IsMadeOver n rows (starting 1 vectors)
  pub grows : (n : ℕ) (rows : List (List ℚ)) (list : LiveList) (row : List ℚ) → IsMadeOver n rows list →
      IsMadeOver n (rows ++ row ∷ []) (next_step rows list row)
  -- they describe the cone of the rows, and each of them is a generator of it
  pub live : (n : ℕ) (rows : List (List ℚ)) (list : LiveList) → AreWide n rows → IsMadeOver n rows list → IsLive n rows list
  pub generator : (n : ℕ) (rows : List (List ℚ)) (list : LiveList) (g : Numbered) → IsLive n rows list → Contains list.live g →
      IsGeneratorOf n rows g.vector

-- ---- licences
-- overflows are licensed
pub record LicenceLaws : Type 0 where
  -- an overflow in a setting that the trail stands for is licensed, and so is one of the check of a
  -- whole log
  pub licensed : (holds : ℚ → Bool) (file : Problem) (c weights : List ℚ) (whole : List Entry) (licence : Licence) →
      StandsFor holds file c weights licence.trail whole →
      IsOverflow holds (record { file = file; c = Some c; weights = weights; trail = whole }) licence.place licence.left →
      Licensed holds file c licence
  pub checked : (holds : ℚ → Bool) (file : Problem) (c weights : List ℚ) (licence : Licence) → IsPossible holds file c weights →
      IsBaseTrail file c weights licence.trail → IsCheckOverflow holds file licence.trail licence.place licence.left → Licensed holds file c licence
  -- a licence without a duality vector is one with each that is possible
  pub without : (holds : ℚ → Bool) (file : Problem) (c weights : List ℚ) (licence : Licence) → IsPossible holds file c weights →
      LicensedWithout holds file licence → Licensed holds file c licence
