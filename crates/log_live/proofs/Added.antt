-- What stands after the events of an `add` entry.
use Rattle.std.proofs.Common.{◌≡◌, ℕ, ◌+◌, ◌<◌, ◌≤◌, List, [], ◌∷◌, ◌++◌, refl, sym, ap, ap₂, ◌∙◌, subst, arith, length, map, All, Bool, true, None, ◌&&◌, slice_index_or}
use Rattle.std.specs.List.{flat_map}
use Rattle.std.proofs.lemmas.List.{length-map, map-append}
use Rattle.std.proofs.lemmas.List.Elements.{All-append, All-weaker}
use Rattle.exact_field.specs.Rational.{ℚ, neg_ℚ}
use Rattle.exact_field.specs.Vector.{dot}
use Rattle.polyhedra.specs.Exactness.{homogenised, level, row_of}
use Rattle.polyhedra.specs.LiveList.{Numbered, numbered, new_vectors, live_pairs, step, staying, vectors}
use Rattle.polyhedra.proofs.Homogenised.{length-homogenised}
use Rattle.polyhedra.proofs.Lists.{all_from_map}
use Rattle.polyhedra.proofs.LiveList.{numbered_within}
use Rattle.vlp_problem.specs.declared.problem.Problem.{Problem}
use Rattle.word_lines.specs.declared.part.LogPair.{LogPair}
use Rattle.deriv_log.specs.declared.entry.Entry.{Entry}
use Rattle.deriv_log.specs.declared.entry.Entry.TheVariants.{Add}
use Rattle.frac128.specs.Held.{is_held}
use Rattle.polyhedra.proofs.Tests.{both_true}
use Rattle.log_rules.specs.Events.{Event, first_failure}
use Rattle.log_rules.specs.Events.Event.{test}
use Rattle.log_rules.specs.Live.{State, after, cut_at, cut_row, in_use, inequality, required_pairs, rows_in_use}
use Rattle.log_rules.specs.LiveEvents.{same_pairs, value_steps}
use Rattle.log_rules.specs.LiveEvents as events
use Rattle.log_rules.specs.declared.rule.Rule.TheVariants as rule
use Rattle.log_rules.proofs.Failures.{all_passed, all_passed-append, passed}
use Rattle.log_rules.proofs.TightTests.{pairs_are}
use Rattle.log_live.specs.Adding.{AreAtRow, AreDescribed, AreGenerators, AreNew, IsAddition, IsChange, added_events, all_value_events, all_values, kept_of, pair_named}
use Rattle.log_live.specs.Adding as adding
use Rattle.log_live.specs.Live.{AreLive, HasPreimage, HasPreimages, HasTightSet, IsListOf, listed, live_of, numbered_of}
use Rattle.log_live.specs.declared.generator.Generator.{Generator}
use Rattle.log_live.specs.declared.live.Change.{Change}
use Rattle.log_live.specs.declared.live.Live.{Live}
use Rattle.log_live.proofs.Bridges.{values_as}
use Rattle.log_live.proofs.KeptGenerators.{kept_live, kept_preimages, kept_tight}
use Rattle.log_live.proofs.LivePairs.{required_named}
use Rattle.log_live.proofs.Preimages.{none_given}
use Rattle.log_live.proofs.Standing.{described, kinds, rises}

-- an addition of which no event fails has the pairs that are required
pub paired_where : (q : ℕ) (s : State) (cut : ℕ) (pairs : List LogPair) →
    first_failure is_held 1 (added_events q s cut pairs) ≡ None →
    pairs ≡ required_pairs (rows_in_use q s) s.list.live (cut_row s cut)
paired_where q s cut pairs none =
    let same : Bool = same_pairs pairs
    (required_pairs (rows_in_use q s) s.list.live (cut_row s cut)) in
    let values : List Event = flat_map (value_steps q (cut_at s.cuts cut)) s.list.live in
    let making : List Event = flat_map (events.pair_of q (cut_row s cut) s.list.live) pairs in
    let all : (all_passed values && (same && all_passed making)) ≡ true =
    sym (all_passed-append values (test rule.Pairs same ∷ making))
    ∙ passed is_held 1 (added_events q s cut pairs) none in
    pairs_are pairs (required_pairs (rows_in_use q s) s.list.live (cut_row s cut))
    (both_true same (all_passed making)
    (both_true (all_passed values) (same && all_passed making) all).1).0

module _ (file : Problem) (s : State) (cut : ℕ) (w : List ℚ) (gamma : ℚ) (live : Live)
    (h : IsAddition file s cut w gamma live) where
  abbrev gens : List Generator
  gens = live.generators.items

  abbrev rows : List (List ℚ)
  rows = rows_in_use file.objs s

  abbrev row : List ℚ
  row = cut_row s cut

  pub row_is : adding.row w gamma ≡ cut_row s cut
  row_is = ap₂ (λ (v : List ℚ) (g : ℚ). homogenised v (neg_ℚ g)) (sym h.normal) (sym h.bound)

  pub kinds_at : AreGenerators (length w) live.generators.items
  kinds_at = subst (λ (q : ℕ). AreGenerators q live.generators.items) (sym h.wide)
      (kinds file s live h.before)

  pub narrow : length w ≤ 100000
  narrow = let few = file.objs_bounded in let e = h.wide in omega (arith, few, e)

  pub values_are : (values : List ℚ) → values ≡ all_values w gamma live.generators.items →
      values ≡ map (λ (g : Generator). dot (cut_row s cut) g.vector) live.generators.items
  values_are values e = e
      ∙ ap (λ (r : List ℚ). map (λ (g : Generator). dot r g.vector) live.generators.items) row_is

  pub at_row : (values : List ℚ) → values ≡ all_values w gamma live.generators.items →
      AreAtRow (length w) (rows_in_use file.objs s) (cut_row s cut) live.generators.items values
  at_row values e = record {
    few = narrow;
    described = subst
        (λ (q : ℕ). AreDescribed q (rows_in_use file.objs s)
        (vectors (live_of live.generators.items))) (sym h.wide) (described file s live h.before);
    rises = rises file s live h.before;
    kinds = kinds_at;
    tight = h.before.list.tight;
    wide = ap length (sym row_is) ∙ length-homogenised (length w) w (neg_ℚ gamma) refl;
    at_row = values_are values e;
  }

  -- ---- the events by their parts
  abbrev pub tested : List LogPair → Event
  tested pairs = test rule.Pairs
      (same_pairs pairs (required_pairs (rows_in_use file.objs s) (live_of live.generators.items)
      (cut_row s cut)))

  pub parts_are : (pairs : List LogPair) → all_value_events w gamma (length w) live.generators.items
      ++ (tested pairs ∷
      flat_map (events.pair_of (length w) (cut_row s cut) (live_of live.generators.items))
      pairs) ≡ added_events file.objs s cut pairs
  parts_are pairs =
      ap₂ (λ (vs : List Event) (q : ℕ). vs ++
      (tested pairs ∷
      flat_map (events.pair_of q (cut_row s cut) (live_of live.generators.items)) pairs))
      (values_as w gamma (length w) (cut_at s.cuts cut) live.generators.items h.normal h.bound)
      h.wide
      ∙ ap₂ (λ (q : ℕ) (l : List Numbered). flat_map (value_steps q (cut_at s.cuts cut)) l
      ++ (test rule.Pairs
      (same_pairs pairs (required_pairs (rows_in_use file.objs s) l (cut_row s cut))) ∷
      flat_map (events.pair_of file.objs (cut_row s cut) l) pairs))
      h.wide h.before.list.live

  -- the same of a list that was read
  pub parts_at : (gs : List Generator) → gs ≡ live.generators.items →
      (pairs : List LogPair) → all_value_events w gamma (length w) gs
      ++ (test rule.Pairs
      (same_pairs pairs (required_pairs (rows_in_use file.objs s) (live_of gs) (cut_row s cut)))
      ∷ flat_map (events.pair_of (length w) (cut_row s cut) (live_of gs)) pairs) ≡ added_events
      file.objs s cut pairs
  parts_at gs e pairs = ap (λ (g : List Generator). all_value_events w gamma (length w) g
      ++ (test rule.Pairs
      (same_pairs pairs (required_pairs (rows_in_use file.objs s) (live_of g) (cut_row s cut)))
      ∷ flat_map (events.pair_of (length w) (cut_row s cut) (live_of g)) pairs)) e ∙ parts_are pairs

  pub read_at : (gs : List Generator) (values : List ℚ) → gs ≡ live.generators.items →
      values ≡ all_values w gamma gs → AreAtRow (length w) (rows_in_use file.objs s)
      (cut_row s cut) gs values
  read_at gs values e v = subst
      (λ (g : List Generator). AreAtRow (length w) (rows_in_use file.objs s)
      (cut_row s cut) g values) (sym e) (at_row values (v ∙ ap (all_values w gamma) e))

  pub change_is : (gs : List Generator) (pairs : List LogPair) (change : Change) →
      gs ≡ live.generators.items → change.values ≡ all_values w gamma gs →
      AreNew (rows_in_use file.objs s) (cut_row s cut) (live_of gs) live.next change.made.items →
      pairs ≡ required_pairs (rows_in_use file.objs s) (live_of gs) (cut_row s cut) →
      change.next ≡ live.next + length pairs → IsChange file.objs s cut pairs live change
  change_is gs pairs change e v made paired next = record {
    values = values_are change.values (v ∙ ap (all_values w gamma) e);
    made = subst (λ (g : List Generator). AreNew (rows_in_use file.objs s) (cut_row s cut)
        (live_of g) live.next change.made.items) e made;
    paired = paired
        ∙ ap (λ (l : List Numbered). required_pairs (rows_in_use file.objs s) l (cut_row s cut))
        (ap live_of e ∙ h.before.list.live);
    next = next;
  }

  -- ---- what stands after them
  module _ (pairs : List LogPair) (change : Change) (c : IsChange file.objs s cut pairs live change)
      (new : Live)
      (kept : new.generators.items ≡ kept_of (cut_row s cut) live.generators.items ++
      change.made.items)
      (next : new.next ≡ change.next) where
    rows_same : rows_in_use file.objs (after file.objs s (Add cut pairs)) ≡ rows_in_use file.objs
        s ++ cut_row s cut ∷ []
    rows_same = ap (λ rs. level file.objs ∷ rs)
        (ap (λ es. map row_of es) (map-append (λ k. inequality (cut_at s.cuts k)) s.used (cut ∷ []))
        ∙ map-append row_of (in_use s) (inequality (cut_at s.cuts cut) ∷ []))

    count : length pairs ≡ length (live_pairs (rows_in_use file.objs s) s.list.live (cut_row s cut))
    count = ap length
        (c.paired ∙ required_named (rows_in_use file.objs s) s.list.live (cut_row s cut))
        ∙ length-map (live_pairs (rows_in_use file.objs s) s.list.live (cut_row s cut)) pair_named

    pub stands : IsListOf file.objs (after file.objs s (Add cut pairs)) new
    stands = subst
        (λ (rs : List (List ℚ)). AreLive rs (step (rows_in_use file.objs s) s.list (cut_row s cut))
        new.generators.items new.next) (sym rows_same)
        record {
          live = ap live_of kept
              ∙ map-append numbered_of (kept_of (cut_row s cut) live.generators.items) change.made.items
              ∙ ap₂ (λ (a b : List Numbered). a ++ b)
              (kept_live (cut_row s cut) live.generators.items) c.made.are
              ∙ ap₂ (λ (l : List Numbered) (n : ℕ). staying (cut_row s cut) l ++ numbered n
              (new_vectors (rows_in_use file.objs s) l (cut_row s cut))) h.before.list.live
              h.before.list.next_is;
          next_is = next ∙ c.next ∙ ap₂ (λ (a b : ℕ). a + b) h.before.list.next_is count;
          tight = subst
              (λ (gs : List Generator). All
              (HasTightSet (rows_in_use file.objs s ++ cut_row s cut ∷ [])) gs) (sym kept)
              (All-append (HasTightSet (rows_in_use file.objs s ++ cut_row s cut ∷ []))
              (kept_of (cut_row s cut) live.generators.items) change.made.items
              (kept_tight (rows_in_use file.objs s) (cut_row s cut) live.generators.items
              h.before.list.tight) c.made.tight);
        }

    from_next : All (λ (g : Generator). live.next ≤ g.number) change.made.items
    from_next = all_from_map (λ (g : Numbered). live.next ≤ g.number) numbered_of change.made.items
        (subst (λ (l : List Numbered). All (λ (g : Numbered). live.next ≤ g.number) l)
        (sym c.made.are)
        (All-weaker (λ (g : Numbered). (live.next ≤ g.number) ×
        (g.number < live.next + length
        (new_vectors (rows_in_use file.objs s) (live_of live.generators.items) (cut_row s cut))))
        (λ (g : Numbered). live.next ≤ g.number) (λ g b. b.0)
        (numbered live.next (new_vectors (rows_in_use file.objs s) (live_of live.generators.items)
        (cut_row s cut)))
        (numbered_within live.next
        (new_vectors (rows_in_use file.objs s) (live_of live.generators.items) (cut_row s cut)))))

    pub preimages_after : (before : List Entry) → HasPreimages before live →
        HasPreimages (before ++ Add cut pairs ∷ []) new
    preimages_after before p = record {
      each = subst (λ (gs : List Generator). All (HasPreimage (before ++ Add cut pairs ∷ [])) gs)
          (sym kept)
          (All-weaker (HasPreimage before) (HasPreimage (before ++ Add cut pairs ∷ []))
          (λ (g : Generator) e. none_given before (Add cut pairs) g.number refl ∙ e)
          (kept_of (cut_row s cut) live.generators.items ++ change.made.items)
          (All-append (HasPreimage before) (kept_of (cut_row s cut) live.generators.items)
          change.made.items (kept_preimages before (cut_row s cut) live.generators.items p.each)
          (λ k d l. p.later (slice_index_or change.made.items k d).number (from_next k d l)
          ∙ sym (ap listed (c.made.fresh k d l)))));
      later = λ k l. none_given before (Add cut pairs) k refl
          ∙ p.later k (let a = next in let b = c.next in omega (arith, a, b, l));
    }
