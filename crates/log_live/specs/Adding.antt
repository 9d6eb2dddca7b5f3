-- What an `add` entry does to the live generators, by the parts that the calls go through.
use Rattle.std.specs.Prelude.{◌≡◌, ℕ, suc, ◌+◌, ◌-◌, ◌<◌, ◌≤◌, List, [], ◌∷◌, ◌++◌, length, map, filter, take, drop, All, AllPairs, Bool, false, if◌then◌else◌, None, Contains}
use Rattle.std.specs.List.{flat_map}
use Rattle.exact_field.specs.Rational.{ℚ, zero_ℚ, one_ℚ, neg_ℚ, ◌*ℚ◌, ◌/ℚ◌, le_ℚ, lt_ℚ}
use Rattle.exact_field.specs.Vector.{dot, entry}
use Rattle.exact_field.specs.declared.op.Op.TheVariants as op
use Rattle.frac128.specs.Sparse.{is_zero}
use Rattle.polyhedra.specs.DoubleDescription.{normed, meeting}
use Rattle.polyhedra.specs.DoubleDescription as double
use Rattle.polyhedra.specs.TightSets.{IsDoubleDescriptionPair}
use Rattle.polyhedra.specs.Vectors.{AreWide}
use Rattle.lineality.specs.Without.{without}
use Rattle.lineality.specs.Steps.{IsClear}
use Rattle.polyhedra.specs.Exactness.{homogenised}
use Rattle.polyhedra.specs.LiveList.{Numbered, LivePair, IsRising, vectors, numbered, new_vectors, is_uncovered_live}
use Rattle.log_live.specs.Live.{numbered_of, live_of, HasTightSet, StandsFor}
use Rattle.vlp_problem.specs.declared.problem.Problem.{Problem}
use Rattle.log_rules.specs.Events.{Event, dot_steps}
use Rattle.log_rules.specs.LiveEvents.{divisor, meeting_point, meeting_steps, same_pairs, value_steps}
use Rattle.log_rules.specs.LiveEvents as events
use Rattle.log_rules.specs.Live.{State, value, cut_at, cut_row, rows_in_use, required_pairs, log_pair}
use Rattle.log_rules.specs.declared.rule.Rule.TheVariants as rule
use Rattle.word_lines.specs.declared.part.LogPair.{LogPair}
use Rattle.log_rules.specs.Events.Event.{step, test}
use Rattle.log_live.specs.declared.generator.Generator.{Generator}
use Rattle.log_live.specs.declared.live.Live.{Live}
use Rattle.log_live.specs.declared.live.Change.{Change}

-- the vector (y, t) has q entries and a t that is 1 where it is not 0
pub record IsPointOrDirection (q : ℕ) (vector : List ℚ) : Type 0 where
  pub wide : length vector ≡ suc q
  pub kind : is_zero (entry vector (suc q)) ≡ false → entry vector (suc q) ≡ one_ℚ

-- each generator is a point or a direction
abbrev pub AreGenerators : ℕ → List Generator → Type 0
AreGenerators q gens = All (λ g. IsPointOrDirection q g.vector) gens

-- the value of the inequality w . y ≥ gamma at (y, t): a sum and, for a point, the difference with gamma
abbrev pub value_events : List ℚ → ℚ → ℕ → List ℚ → List Event
value_events w gamma q vector =
    dot_steps w (take q vector) ++ (if is_zero (entry vector (suc q)) then [] else step op.Sub (dot w (take q vector)) gamma ∷ [])

-- the row of the inequality
abbrev pub row : List ℚ → ℚ → List ℚ
row w gamma = homogenised w (neg_ℚ gamma)

-- the same at each generator
abbrev pub all_value_events : List ℚ → ℚ → ℕ → List Generator → List Event
all_value_events w gamma q gens = flat_map (λ g. value_events w gamma q g.vector) gens

-- its values
abbrev pub all_values : List ℚ → ℚ → List Generator → List ℚ
all_values w gamma gens = map (λ g. dot (row w gamma) g.vector) gens

-- ---- pairs
-- a pair of generators
abbrev pub pair_of : Generator → Generator → LivePair
pair_of p m = record { plus_side = numbered_of p; minus_side = numbered_of m }

-- two different generators of the list
pub record AreTwo (gens : List Generator) (plus minus : Generator) : Type 0 where
  pub plus_listed : Contains gens plus
  pub minus_listed : Contains gens minus
  pub differ : plus.vector ≡ minus.vector → ⊥

-- ---- a new generator
-- k times the minus entry, and then the sum with the plus entry
abbrev pub entry_events : ℚ → ℚ → ℚ → List Event
entry_events k plus minus = step op.Mul k minus ∷ step op.Add plus (k *ℚ minus) ∷ []

-- each entry divided by the divisor
abbrev pub quotients_events : ℚ → List ℚ → List Event
quotients_events divisor y = map (λ x. step op.Div x divisor) y

-- the steps of a new generator, from the row's values a and b at the two generators
abbrev pub pair_events : ℕ → ℚ → ℚ → List ℚ → List ℚ → List Event
pair_events q a b plus minus =
    let z = meeting_point (a /ℚ neg_ℚ b) plus minus in
    step op.Div a (neg_ℚ b) ∷ meeting_steps (a /ℚ neg_ℚ b) plus minus ++ quotients_events (divisor q z) (take q z)

-- its entries: y divided, and a t that is 1 or 0
abbrev pub new_entries : ℕ → List ℚ → List ℚ
new_entries q z = map (λ x. x /ℚ divisor q z) (take q z) ++ (if is_zero (entry z (suc q)) then zero_ℚ else one_ℚ) ∷ []

-- the pair of two generators, if no third one covers it
abbrev pub uncovered_pair : List (List ℚ) → List Numbered → Numbered → Numbered → List LogPair
uncovered_pair rows live p m =
    if is_uncovered_live rows live record { plus_side = p; minus_side = m } then record { plus = p.number; minus = m.number } ∷ [] else []

-- the generators at which a row is negative
abbrev pub negatives_of : List ℚ → List Numbered → List Numbered
negatives_of row live = filter (λ g. lt_ℚ (value row g) zero_ℚ) live

-- the pairs of a generator with those of a list, without those that a third one covers
abbrev pub pairs_with : List (List ℚ) → List Numbered → Numbered → List Numbered → List LogPair
pairs_with rows live p ms = flat_map (uncovered_pair rows live p) ms

-- those of a generator at which the row is positive, with all at which it is negative
abbrev pub pairs_at : List (List ℚ) → List Numbered → List ℚ → Numbered → List LogPair
pairs_at rows live row p = if lt_ℚ zero_ℚ (value row p) then pairs_with rows live p (negatives_of row live) else []

-- and those of the generators of a list
abbrev pub pairs_from : List (List ℚ) → List Numbered → List ℚ → List Numbered → List LogPair
pairs_from rows live row ps = flat_map (pairs_at rows live row) ps

-- the pairs of the log from place old on are the block and then those from place new on; or they are not, whatever follows
abbrev pub Matches : List LogPair → ℕ → Bool → ℕ → List LogPair → Type 0
Matches pairs old result new block = (more : List LogPair) → same_pairs (drop old pairs) (block ++ more) ≡ (if result then same_pairs (drop new pairs) more else false)

-- ---- the whole entry
-- the events of an `add` entry after the test that its number is that of a cut that is not in use
abbrev pub added_events : ℕ → State → ℕ → List LogPair → List Event
added_events q s cut pairs =
    flat_map (value_steps q (cut_at s.cuts cut)) s.list.live
    ++ test rule.Pairs (same_pairs pairs (required_pairs (rows_in_use q s) s.list.live (cut_row s cut)))
    ∷ flat_map (events.pair_of q (cut_row s cut) s.list.live) pairs

-- the value stands for what the log says so far, whose cut of this number is w . y ≥ gamma
pub record IsAddition (file : Problem) (s : State) (cut : ℕ) (w : List ℚ) (gamma : ℚ) (live : Live) : Type 0 where
  pub before : StandsFor file s live
  pub wide : length w ≡ file.objs
  pub normal : (cut_at s.cuts cut).w ≡ w
  pub bound : (cut_at s.cuts cut).gamma ≡ gamma

-- ---- its parts
-- generators that are 0 at the marked places, and without these places describe the cone of the
-- rows
pub record AreDescribed (q : ℕ) (rows gens : List (List ℚ)) : Type 0 where
  pub marks : List Bool
  pub open_places : ℕ
  pub many : length marks ≡ q
  pub wide : AreWide (suc (length marks)) gens
  pub clear : All (IsClear marks) gens
  pub described : IsDoubleDescriptionPair open_places (map (without marks) rows)
      (map (without marks) gens)

-- generators that describe the cone of the rows, with their tight sets and their values at a new row
pub record AreAtRow (q : ℕ) (rows : List (List ℚ)) (row : List ℚ) (gens : List Generator) (values : List ℚ) : Type 0 where
  pub few : q ≤ 100000
  pub described : AreDescribed q rows (vectors (live_of gens))
  pub rises : AllPairs (λ g h. g.number < h.number) gens
  pub kinds : AreGenerators q gens
  pub tight : All (HasTightSet rows) gens
  pub wide : length row ≡ suc q
  pub at_row : values ≡ map (λ g. dot row g.vector) gens

-- generators that describe the cone of the rows, by rising numbers, with their tight sets; where two
-- have fewer tight rows in common than the least number, a third one covers them
pub record AreAtPairs (q least : ℕ) (rows : List (List ℚ)) (gens : List Generator) : Type 0 where
  pub next : ℕ
  pub rising : IsRising (record { live = live_of gens; next = next })
  pub described : AreDescribed q rows (vectors (live_of gens))
  pub tight : All (HasTightSet rows) gens
  pub least_is : least ≤ described.open_places - 2

-- a generator with one more row
abbrev pub grown : List ℚ → Generator → Generator
grown row g = record g { tight = g.tight ++ double.is_zero (dot row g.vector) ∷ [] }

-- those that stay, each with the row
abbrev pub kept_of : List ℚ → List Generator → List Generator
kept_of row gens = map (grown row) (filter (λ g. le_ℚ zero_ℚ (dot row g.vector)) gens)

-- the pair of the log that names two live generators
abbrev pub pair_named : LivePair → LogPair
pair_named pair = log_pair (pair.plus_side.number, pair.minus_side.number)

-- the new generator between two
pub record IsBetween (rows : List (List ℚ)) (row : List ℚ) (pair : LivePair) (number : ℕ) (g : Generator) : Type 0 where
  pub is : numbered_of g ≡ record { number = number; vector = normed (meeting row pair.plus_side.vector pair.minus_side.vector) }
  pub tight : HasTightSet (rows ++ row ∷ []) g
  pub fresh : g.pre ≡ None

-- the new generators that a row gives, under the numbers from next on
pub record AreNew (rows : List (List ℚ)) (row : List ℚ) (live : List Numbered) (next : ℕ) (gens : List Generator) : Type 0 where
  pub are : live_of gens ≡ numbered next (new_vectors rows live row)
  pub tight : All (HasTightSet (rows ++ row ∷ [])) gens
  pub fresh : All (λ g. g.pre ≡ None) gens

-- what the addition of a cut changes, where its pairs are those that are required
pub record IsChange (q : ℕ) (s : State) (cut : ℕ) (pairs : List LogPair) (live : Live) (change : Change) : Type 0 where
  pub values : change.values ≡ map (λ g. dot (cut_row s cut) g.vector) live.generators.items
  pub made : AreNew (rows_in_use q s) (cut_row s cut) (live_of live.generators.items) live.next change.made.items
  pub paired : pairs ≡ required_pairs (rows_in_use q s) s.list.live (cut_row s cut)
  pub next : change.next ≡ live.next + length pairs
