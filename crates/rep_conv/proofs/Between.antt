-- A new generator, from what the code reads of the two that it stands between.
use Rattle.std.proofs.Common.{refl, ◌≡◌, ◌≢◌, ℕ, suc, ◌*◌, ◌<◌, ◌≤◌, List, [], ◌∷◌, ◌++◌, sym, ap, ap₂, ◌∙◌, subst, arith, length, map, Bool, true, All, Contains, Option, Some, None, slice_index_or}
use Rattle.std.specs.List.{flat_map}
use Rattle.std.proofs.lemmas.List.{length-map}
use Rattle.exact_field.specs.Rational.{ℚ, zero_ℚ, neg_ℚ, inverse_ℚ, ◌/ℚ◌}
use Rattle.exact_field.specs.Vector.{dot}
use Rattle.exact_field.specs.declared.op.Op.TheVariants as op
use Rattle.incid_sets.specs.Marks.{IsMeet}
use Rattle.lineality.specs.Steps.{IsMeetingWithout}
use Rattle.lineality.proofs.MeetingsWithout.{meetings_without}
use Rattle.polyhedra.specs.DoubleDescription.{magnitude, normed, meeting, norming}
use Rattle.polyhedra.specs.LiveList.{Numbered, LivePair, tight_set, vectors, live_pairs}
use Rattle.polyhedra.specs.Vectors.{scaled}
use Rattle.polyhedra.proofs.Laws.{mul_comm}
use Rattle.polyhedra.proofs.Members.{all_of_members, member_of, Contains-map}
use Rattle.word_lines.specs.declared.part.LogPair.{LogPair}
use Rattle.log_rules.specs.Events.{Event, dot_steps, first_failure}
use Rattle.log_rules.specs.Events.Event.{step, test}
use Rattle.log_rules.specs.Live.{find, required_pairs}
use Rattle.log_rules.specs.LiveEvents.{meeting_point, meeting_steps, same_pairs}
use Rattle.log_rules.specs.Runs.{Stops}
use Rattle.log_rules.specs.declared.rule.Rule.TheVariants as rule
use Rattle.log_rules.specs.declared.stop.Stop.{Stop}
use Rattle.log_rules.proofs.TightTests.{pairs_are}
use Rattle.entry_checks.proofs.Going.{Passed, Stopped, test-passed}
use Rattle.frac128.specs.Held.{is_held}
use Rattle.log_rules.specs.Runs.{steps}
use Rattle.log_rules.proofs.Failures.{steps-append}
use Rattle.entry_checks.proofs.StepBounds.{steps-dot, steps-all}
use Rattle.log_live.specs.Adding.{IsBetween, pair_named}
use Rattle.log_live.specs.Live.{numbered_of, live_of, HasTightSet}
use Rattle.log_live.specs.declared.generator.Generator.{Generator}
use Rattle.log_live.proofs.NewSets.{between_tight}
use Rattle.log_live.proofs.NewVectors.{meets}
use Rattle.log_live.proofs.PairMatches.{mapped-at}
use Rattle.log_live.proofs.PairSides.{negative_is_not, vector_listed, two, find_plus, find_minus, AreSides, sides}
use Rattle.log_live.proofs.Bridges.{steps-meeting}
use Rattle.rep_conv.specs.Adding.{AreAtRow, between_steps, quotients, values_at}
use Rattle.rep_conv.specs.Events.{added_events, pair_of, pair_steps, quotient_steps}

divided_by : (d : ℚ) (y : List ℚ) → map (λ x. x /ℚ d) y ≡ scaled (inverse_ℚ d) y
divided_by d [] = refl
divided_by d (x ∷ y) = ap₂ (λ a b. a ∷ b) (mul_comm x (inverse_ℚ d)) (divided_by d y)

-- the quotients norm a vector
quotients_norm : (z : List ℚ) → quotients z ≡ normed z
quotients_norm z = divided_by (magnitude (norming z)) z

-- ---- steps
steps-quotients : (d : ℚ) (y : List ℚ) → steps (map (λ x. step op.Div x d) y) ≡ length y
steps-quotients d [] = refl
steps-quotients d (x ∷ y) = ap suc (steps-quotients d y)

length-meeting : (k : ℚ) (plus minus : List ℚ) → length (meeting_point k plus minus) ≤ length plus
length-meeting k [] minus = omega arith
length-meeting k (x ∷ plus) [] = omega arith
length-meeting k (x ∷ plus) (y ∷ minus) = let h = length-meeting k plus minus in omega (arith, h)

pub few_steps : (w : ℕ) (a b : ℚ) (plus minus : List ℚ) → length plus ≡ suc w → w ≤ 100000 → steps (between_steps a b plus minus) ≤ 400000
few_steps w a b plus minus h few =
    let z = meeting_point (a /ℚ neg_ℚ b) plus minus in
    let first = steps-meeting (a /ℚ neg_ℚ b) plus minus in
    let second = steps-quotients (magnitude (norming z)) z in
    let short = length-meeting (a /ℚ neg_ℚ b) plus minus in
    let both = steps-append (meeting_steps (a /ℚ neg_ℚ b) plus minus) (quotient_steps z) in
    omega (arith, first, second, short, both, h, few)

pub few_values : (w : ℕ) (rows : List (List ℚ)) (row : List ℚ) (gens : List Generator) → AreAtRow w rows row gens →
    steps (flat_map (λ (g : Generator). dot_steps row g.vector) gens) ≤ length gens * 200002
few_values w rows row gens a = steps-all (λ (g : Generator). dot_steps row g.vector) 200002
    (λ g. let h = steps-dot row g.vector in let width = a.wide in let few = a.few in omega (arith, h, width, few)) gens

-- the row has the width of each generator
pub row_widths : (w : ℕ) (rows : List (List ℚ)) (row : List ℚ) (gens : List Generator) → AreAtRow w rows row gens → All (λ (g : Generator). length row ≡ length g.vector) gens
row_widths w rows row gens a = all_of_members (λ (g : Generator). length row ≡ length g.vector) gens (λ g c.
    a.wide ∙ sym (member_of (λ u. length u ≡ suc (length a.described.marks)) (vectors (live_of gens)) g.vector a.described.wide.wide
    (Contains-map (λ (n : Numbered). n.vector) (live_of gens) (numbered_of g) (Contains-map numbered_of gens g c)) ∙ ap suc a.described.many))

-- pairs that passed their test
pub paired : (rows : List (List ℚ)) (row : List ℚ) (gens : List Generator) (pairs : List LogPair) (taken : ℕ) →
    first_failure is_held (suc taken) (test rule.Pairs (same_pairs pairs (required_pairs rows (live_of gens) row)) ∷ []) ≡ None → pairs ≡ required_pairs rows (live_of gens) row
paired rows row gens pairs taken none = pairs_are pairs (required_pairs rows (live_of gens) row)
    (test-passed (suc taken) rule.Pairs (same_pairs pairs (required_pairs rows (live_of gens) row)) none)

-- ---- the events of an addition by the generators as the code holds them
mapped : (row : List ℚ) (gens : List Generator) → flat_map (λ (g : Generator). dot_steps row g.vector) gens ≡ flat_map (λ (g : Numbered). dot_steps row g.vector) (live_of gens)
mapped row [] = refl
mapped row (g ∷ gens) = ap (λ es. dot_steps row g.vector ++ es) (mapped row gens)

abbrev pub parts : List (List ℚ) → List ℚ → List Generator → List LogPair → List Event
parts rows row gens pairs = flat_map (λ (g : Generator). dot_steps row g.vector) gens
    ++ (test rule.Pairs (same_pairs pairs (required_pairs rows (live_of gens) row)) ∷ flat_map (pair_of row (live_of gens)) pairs)

parts_are : (rows : List (List ℚ)) (row : List ℚ) (gens : List Generator) (pairs : List LogPair) → parts rows row gens pairs ≡ added_events rows (live_of gens) row pairs
parts_are rows row gens pairs = ap (λ es. es ++ (test rule.Pairs (same_pairs pairs (required_pairs rows (live_of gens) row)) ∷ flat_map (pair_of row (live_of gens)) pairs)) (mapped row gens)

pub as_added : (rows : List (List ℚ)) (row : List ℚ) (gens : List Generator) (pairs : List LogPair) (now : ℕ) → Passed (parts rows row gens pairs) 0 now →
    Passed (added_events rows (live_of gens) row pairs) 0 now
as_added rows row gens pairs now h = subst (λ (es : List Event). Passed es 0 now) (parts_are rows row gens pairs) h

pub as_added_stop : (rows : List (List ℚ)) (row : List ℚ) (gens : List Generator) (pairs : List LogPair) (stop : Stop) → Stopped (parts rows row gens pairs) 0 stop →
    Stops is_held (added_events rows (live_of gens) row pairs) 0 stop
as_added_stop rows row gens pairs stop h = subst (λ (es : List Event). Stops is_held es 0 stop) (parts_are rows row gens pairs) h.at

module _ (w : ℕ) (rows : List (List ℚ)) (row : List ℚ) (gens : List Generator) (values : List ℚ) (a : AreAtRow w rows row gens) (at_row : values ≡ values_at row gens) where
  pub value_read : (i : ℕ) (g : Generator) (x : ℚ) → i < length gens → g ≡ slice_index_or gens i g → x ≡ slice_index_or values i x → x ≡ dot row g.vector
  value_read i g x l p r = mapped-at (λ (h : Generator). dot row h.vector) gens values i g x at_row l p r

  pub many : length values ≡ length gens
  many = ap length at_row ∙ length-map gens (λ g. dot row g.vector)

  -- the width of a live generator
  pub vector_wide : (v : List ℚ) → Contains (vectors (live_of gens)) v → length v ≡ suc w
  vector_wide v c = member_of (λ u. length u ≡ suc (length a.described.marks)) (vectors (live_of gens)) v a.described.wide.wide c ∙ ap suc a.described.many

  pub gen_wide : (h : Generator) → Contains gens h → length h.vector ≡ suc w
  gen_wide h c = vector_wide h.vector (vector_listed gens h c)

  module _ (named : LivePair) (listed : Contains (live_pairs rows (live_of gens) row) named) (pair : LogPair) (named_is : pair ≡ pair_named named) where
    steps_are : (p m : Numbered) → find (live_of gens) pair.plus ≡ Some p → find (live_of gens) pair.minus ≡ Some m →
        pair_of row (live_of gens) pair ≡ between_steps (dot row p.vector) (dot row m.vector) p.vector m.vector
    steps_are p m e f =
        ap (λ (o : Option Numbered). elim o [ Some plus ↦ elim (find (live_of gens) pair.minus) [ Some minus ↦ pair_steps row plus minus | None ↦ [] ] | None ↦ [] ]) e
        ∙ ap (λ (o : Option Numbered). elim o [ Some minus ↦ pair_steps row p minus | None ↦ [] ]) f

    -- its steps are few
    pub few_of_pair : steps (pair_of row (live_of gens) pair) ≤ 400000
    few_of_pair =
        let e = ap steps (steps_are named.plus_side named.minus_side (find_plus rows row gens a.rises named listed pair named_is) (find_minus rows row gens a.rises named listed pair named_is)) in
        let wide = vector_wide named.plus_side.vector (Contains-map (λ (n : Numbered). n.vector) (live_of gens) named.plus_side (two rows row gens a.rises named listed pair named_is).plus) in
        let f = few_steps w (dot row named.plus_side.vector) (dot row named.minus_side.vector) named.plus_side.vector named.minus_side.vector wide a.few in
        omega (arith, e, f)

    -- the generators that were read at the places that were found
    module _ (g m : Generator) (gc : Contains gens g) (mc : Contains gens m) (g_is : find (live_of gens) pair.plus ≡ Some (numbered_of g)) (m_is : find (live_of gens) pair.minus ≡ Some (numbered_of m))
        (x y : ℚ) (x_is : x ≡ dot row g.vector) (y_is : y ≡ dot row m.vector) where
      sides_are : AreSides row named g m
      sides_are = sides rows row gens a.rises named listed pair named_is g m g_is m_is

      pub same_width : length g.vector ≡ length m.vector
      same_width = gen_wide g gc ∙ sym (gen_wide m mc)

      meets_there : IsMeetingWithout rows row g.vector m.vector
      meets_there = meetings_without a.described.open_places a.described.marks rows (vectors (live_of gens)) row g.vector m.vector a.described.wide a.described.clear a.described.described
          (vector_listed gens g gc) (vector_listed gens m mc) sides_are.up sides_are.down

      met : meeting_point (x /ℚ neg_ℚ y) g.vector m.vector ≡ meeting row g.vector m.vector
      met = ap₂ (λ (s t : ℚ). meeting_point (s /ℚ neg_ℚ t) g.vector m.vector) x_is y_is
          ∙ meets (dot row g.vector /ℚ neg_ℚ (dot row m.vector)) g.vector m.vector same_width

      pub below : neg_ℚ y ≢ zero_ℚ
      below = negative_is_not (dot row m.vector) y sides_are.down y_is

      pub divides : norming (meeting_point (x /ℚ neg_ℚ y) g.vector m.vector) ≢ zero_ℚ
      divides e = meets_there.not_zero (sym (ap norming met) ∙ e)

      pub events_are : pair_of row (live_of gens) pair ≡ between_steps x y g.vector m.vector
      events_are = steps_are (numbered_of g) (numbered_of m) g_is m_is
          ∙ ap₂ (λ (s t : ℚ). between_steps s t g.vector m.vector) (sym x_is) (sym y_is)

      pub made_is : (number : ℕ) (new : Generator) (common : List Bool) → new.number ≡ number → new.vector ≡ quotients (meeting_point (x /ℚ neg_ℚ y) g.vector m.vector) →
          IsMeet common g.tight m.tight → new.tight ≡ common ++ true ∷ [] → new.pre ≡ None → IsBetween rows row named number new
      made_is number new common n v meet t fresh =
          let entries : new.vector ≡ normed (meeting row g.vector m.vector) = v ∙ quotients_norm (meeting_point (x /ℚ neg_ℚ y) g.vector m.vector) ∙ ap normed met in
          let sets : IsMeet common (tight_set rows g.vector) (tight_set rows m.vector) = subst (λ (s : List Bool × List Bool). IsMeet common s.0 s.1)
          (λ i. (member_of (HasTightSet rows) gens g a.tight gc i, member_of (HasTightSet rows) gens m a.tight mc i)) meet in
          record {
            is = ap₂ (λ (k : ℕ) (u : List ℚ). record { number = k; vector = u }) n
                (entries ∙ ap₂ (λ (s u : Numbered). normed (meeting row s.vector u.vector)) sides_are.plus_is sides_are.minus_is);
            tight = between_tight rows row g.vector m.vector common new.tight
                meets_there.both sets t
                ∙ ap (tight_set (rows ++ row ∷ [])) (sym entries);
            fresh = fresh;
          }
