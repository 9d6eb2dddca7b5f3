-- Facets that are named after an outer trail, and the end after them.
use Rattle.std.proofs.Common.{◌≡◌, ◌≢◌, ℕ, suc, ◌+◌, ◌-◌, ◌<◌, ◌≤◌, List, [], ◌∷◌, ◌++◌, map, length, All, AllPairs, Contains, true, false, true≢false, not, IsTrue, fold, refl, sym, ap, ap₂, ◌∙◌, subst, slice_index_or, append_assoc, append-nil, arith, Bool}
use Rattle.std.specs.List.{filter_map, range_with_len}
use Rattle.std.proofs.lemmas.Bool.{not-true}
use Rattle.std.proofs.lemmas.List.{map-append, length-map}
use Rattle.std.proofs.lemmas.List.Elements.{All-append, All-head, All-map, All-push, All-tail, All-weaker, Contains-append_right, filter_map-append}
use Rattle.std.proofs.lemmas.List.Folds.{list_any_none}
use Rattle.std.proofs.lemmas.List.FromFn.{get_or-map-range_with_len, get_or-range_with_len, length-range_with_len}
use Rattle.std.proofs.lemmas.List.Sums.{fold-append}
use Rattle.exact_field.specs.Rational.{ℚ, zero_ℚ}
use Rattle.exact_field.specs.Vector.{dot}
use Rattle.polyhedra.specs.Exactness.{IsAccounted, IsNamed, TightLiesIn, row_of}
use Rattle.polyhedra.specs.FirstNamed.{named_first}
use Rattle.polyhedra.specs.Inequality.{Inequality}
use Rattle.polyhedra.specs.LiveList.{LiveList, Numbered, vectors}
use Rattle.polyhedra.proofs.FirstNamed.{first_account}
use Rattle.polyhedra.proofs.Lists.{Contains-here, HasWidth, all_from_map}
use Rattle.polyhedra.proofs.Members.{member_of}
use Rattle.polyhedra.proofs.Tests.{both_hold, true-list_all}
use Rattle.lineality.specs.Steps.{IsClear, numbered_without}
use Rattle.lineality.specs.Without.{without}
use Rattle.lineality.proofs.Marks.{length-marks}
use Rattle.lineality.proofs.StepsWithout.{same_dot}
use Rattle.deriv_log.specs.Formed.{is_end, is_formed}
use Rattle.word_lines.specs.Parts.{is_short}
use Rattle.word_lines.specs.declared.part.EndKind.TheVariants as kind
use Rattle.deriv_log.specs.declared.entry.Entry.{Entry}
use Rattle.deriv_log.specs.declared.entry.Entry.TheVariants.{End, Facet}
use Rattle.deriv_log.proofs.Lines.{ends_once-push}
use Rattle.double_descr.specs.State.{State as Description}
use Rattle.geo_duality.specs.Facets.{facet_rows}
use Rattle.geo_duality.specs.Facets as geo
use Rattle.geo_duality.proofs.FacetRows.{facets_within, named_are}
use Rattle.log_rules.specs.Live.{State, after, cut_at, cut_row, in_use, inequality, lines, live_vectors, named, named_in, nothing, preimage_in, preimages, rows_in_use, state}
use Rattle.log_rules.specs.Meets.{Meets, MeetsFacet, MeetsSolved}
use Rattle.log_rules.specs.Order.{has, in_order}
use Rattle.log_rules.specs.Order as order
use Rattle.log_rules.proofs.CutsStay.{stated}
use Rattle.log_rules.proofs.Entries.{has_more, state-push}
use Rattle.log_rules.proofs.LiveNumbers.{pairs_from_map}
use Rattle.overflows.specs.Trails.{IsBaseTrail}
use Rattle.overflows.proofs.Growing.{grows}
use Rattle.outer_approx.specs.Lines.{line_places}
use Rattle.outer_approx.specs.Standing.{IsEnded, IsOpenTrail, IsOuter, cuts_of}
use Rattle.outer_approx.specs.Task.{Task}
use Rattle.outer_approx.proofs.FacetsWithout.{facets_same}
use Rattle.outer_approx.proofs.Growing.{open_stands}
use Rattle.outer_approx.proofs.LineEntries.{earlier}

-- the entries that name these cuts
abbrev pub naming : List ℕ → List Entry
naming ks = map (λ k. Facet k) ks

-- ---- lists. General
map_all : {X Y : Type 0} (f g : X → Y) (xs : List X) → All (λ x. f x ≡ g x) xs → map f xs ≡ map g xs
map_all f g [] h = refl
map_all f g (x ∷ xs) h = ap₂ (λ a b. a ∷ b) (All-head (λ x. f x ≡ g x) x xs h) (map_all f g xs (All-tail (λ x. f x ≡ g x) x xs h))

-- each number from 1 to n is listed
in_range : (n k : ℕ) → 1 ≤ k → k ≤ n → Contains (range_with_len 1 n) k
in_range n k a b = (
  k - 1,
  (let l : length (range_with_len 1 n) ≡ n = length-range_with_len 1 n in omega (arith, l, a, b)),
  get_or-range_with_len 1 n (k - 1) k (omega (arith, a, b)) ∙ (let e : 1 + (k - 1) ≡ k = omega (arith, a) in e),
)

-- ---- what stands after names
fold_naming : (q : ℕ) (s : State) (ks : List ℕ) → fold (after q) s (naming ks) ≡ s
fold_naming q s [] = refl
fold_naming q s (k ∷ ks) = fold_naming q s ks

state_naming : (q : ℕ) (trail : List Entry) (ks : List ℕ) → state q (trail ++ naming ks) ≡ state q trail
state_naming q trail ks = fold-append (after q) nothing trail (naming ks) ∙ fold_naming q (state q trail) ks

-- names and an end state no cut
pub ended_cuts : (task : Task) (trail : List Entry) (ks : List ℕ) → cuts_of task ((trail ++ naming ks) ++ End kind.Solved ∷ []) ≡ cuts_of task trail
ended_cuts task trail ks =
    ap (λ (s : State). map inequality s.cuts)
    (state-push task.file.objs (trail ++ naming ks) (End kind.Solved) ∙ state_naming task.file.objs trail ks)

none_given : (j : ℕ) (ks : List ℕ) → filter_map (preimage_in j) (naming ks) ≡ []
none_given j [] = refl
none_given j (k ∷ ks) = none_given j ks

preimages_naming : (trail : List Entry) (ks : List ℕ) (j : ℕ) → preimages (trail ++ naming ks) j ≡ preimages trail j
preimages_naming trail ks j = filter_map-append (preimage_in j) trail (naming ks) ∙ ap (λ xs. preimages trail j ++ xs) (none_given j ks)
    ∙ append-nil (preimages trail j)

none_named : (entries : List Entry) → has order.facet entries ≡ false → named entries ≡ []
none_named [] h = refl
none_named (Facet cut ∷ entries) h = absurd (true≢false h)
none_named (e ∷ entries) h = none_named entries h

all_named : (ks : List ℕ) → named (naming ks) ≡ ks
all_named [] = refl
all_named (k ∷ ks) = ap (λ xs. k ∷ xs) (all_named ks)

named_naming : (trail : List Entry) (ks : List ℕ) → has order.facet trail ≡ false → named (trail ++ naming ks) ≡ ks
named_naming trail ks h = filter_map-append named_in trail (naming ks) ∙ ap₂ (λ xs ys. xs ++ ys) (none_named trail h) (all_named ks)

-- ---- the order
facet_in_order : (before : List Entry) → IsTrue (has order.duality before) → IsTrue (has order.start before) → IsTrue (in_order before order.facet)
facet_in_order [] h k = absurd (true≢false (sym h))
facet_in_order (e ∷ before) h k = both_hold _ _ (both_hold _ _ (both_hold _ _ h k) refl) refl

end_in_order : (before : List Entry) → IsTrue (has order.start before) → IsTrue (in_order before order.end)
end_in_order [] h = absurd (true≢false (sym h))
end_in_order (e ∷ before) h = refl

-- ---- facets
-- the numbers name cuts in use, each of which may be named; two differ in their tight generators, and all cuts in use are accounted for
pub record AreFacets (q : ℕ) (s : State) (ks : List ℕ) : Type 0 where
  pub used : All (Contains s.used) ks
  pub names : All (λ k. IsNamed q (in_use s) (live_vectors s) (inequality (cut_at s.cuts k))) ks
  pub differ : AllPairs (λ j k. TightLiesIn (live_vectors s) (cut_row s j) (cut_row s k) × TightLiesIn (live_vectors s) (cut_row s k) (cut_row s j) → ⊥) ks
  pub accounted : All (IsAccounted q (stated s.cuts ks) (live_vectors s)) (in_use s)

module _ (task : Task) (trail : List Entry) (o : IsOpenTrail task trail) (started : IsTrue (has order.start trail)) where
  facet_meets : (done rest : List ℕ) (k : ℕ) → AreFacets task.file.objs (state task.file.objs trail) (done ++ k ∷ rest) →
      MeetsFacet task.file (trail ++ naming done) (state task.file.objs trail) k
  facet_meets done rest k f =
      let here : Contains (done ++ k ∷ rest) k = Contains-append_right done (k ∷ rest) k (Contains-here k rest k refl) in
      let s : State = state task.file.objs trail in
      let R : ℕ → ℕ → Type 0 = λ i j. TightLiesIn (live_vectors s) (cut_row s i) (cut_row s j) × TightLiesIn (live_vectors s) (cut_row s j) (cut_row s i) → ⊥ in
      let apart : All (λ j. R j k) done = earlier R done k rest f.differ in
      let names : named (trail ++ naming done) ≡ done = named_naming trail done o.unnamed in
      record {
        used = member_of (Contains s.used) (done ++ k ∷ rest) k f.used here;
        unnamed = λ c. member_of (λ j. R j k) done k apart (subst (λ ks. Contains ks k) names c) ((λ i d l t. t), (λ i d l t. t));
        largest = member_of (λ j. IsNamed task.file.objs (in_use s) (live_vectors s) (inequality (cut_at s.cuts j))) (done ++ k ∷ rest) k f.names here;
        other = subst (λ ks. All (λ j. TightLiesIn (live_vectors s) (cut_row s k) (cut_row s j) → TightLiesIn (live_vectors s) (cut_row s j) (cut_row s k) → ⊥) ks) (sym names)
            (All-weaker (λ j. R j k) (λ j. TightLiesIn (live_vectors s) (cut_row s k) (cut_row s j) → TightLiesIn (live_vectors s) (cut_row s j) (cut_row s k) → ⊥)
            (λ j apart a b. apart (b, a)) done apart);
      }

  facet_more : (done rest : List ℕ) (k : ℕ) → AreFacets task.file.objs (state task.file.objs trail) (done ++ k ∷ rest) →
      IsBaseTrail task.file task.c task.weights (trail ++ naming done) → IsBaseTrail task.file task.c task.weights (trail ++ naming (done ++ k ∷ []))
  facet_more done rest k f t =
      let before : List Entry = trail ++ naming done in
      let same : before ++ Facet k ∷ [] ≡ trail ++ naming (done ++ k ∷ []) =
      append_assoc trail (naming done) (Facet k ∷ []) ∙ ap (λ es. trail ++ es) (sym (map-append (λ j. Facet j) done (k ∷ []))) in
      let stands : state task.file.objs before ≡ state task.file.objs trail = state_naming task.file.objs trail done in
      subst (λ (es : List Entry). IsBaseTrail task.file task.c task.weights es) same
      (grows task.file task.c task.weights before (Facet k) t
      (record {
        order = facet_in_order before (has_more order.duality trail (naming done) o.duality) (has_more order.start trail (naming done) started);
        rules = subst (λ (s : State). MeetsFacet task.file before s k) (sym stands) (facet_meets done rest k f);
      }) tt)

  facets_more : (done rest : List ℕ) → AreFacets task.file.objs (state task.file.objs trail) (done ++ rest) →
      IsBaseTrail task.file task.c task.weights (trail ++ naming done) → IsBaseTrail task.file task.c task.weights (trail ++ naming (done ++ rest))
  facets_more done [] f t = subst (λ (ks : List ℕ). IsBaseTrail task.file task.c task.weights (trail ++ naming ks)) (sym (append-nil done)) t
  facets_more done (k ∷ rest) f t =
      let same : (done ++ k ∷ []) ++ rest ≡ done ++ k ∷ rest = append_assoc done (k ∷ []) rest in
      subst (λ (ks : List ℕ). IsBaseTrail task.file task.c task.weights (trail ++ naming ks)) same
      (facets_more (done ++ k ∷ []) rest (subst (λ (ks : List ℕ). AreFacets task.file.objs (state task.file.objs trail) ks) (sym same) f)
      (facet_more done rest k f t))

  -- ---- the end
  solved_meets : (ks : List ℕ) → AreFacets task.file.objs (state task.file.objs trail) ks →
      All (λ g. preimages trail g.number ≢ []) (state task.file.objs trail).list.live → Meets task.file (trail ++ naming ks) (End kind.Solved)
  solved_meets ks f reached =
      let before : List Entry = trail ++ naming ks in
      let started_there : IsTrue (has order.start before) = has_more order.start trail (naming ks) started in
      let at_trail : MeetsSolved task.file before (state task.file.objs trail) = record {
        started = started_there;
        reached = All-weaker (λ g. preimages trail g.number ≢ []) (λ g. preimages before g.number ≢ [])
            (λ g h e. h (sym (preimages_naming trail ks g.number) ∙ e)) (state task.file.objs trail).list.live reached;
        accounted = subst (λ (js : List ℕ). All (IsAccounted task.file.objs (stated (state task.file.objs trail).cuts js) (live_vectors (state task.file.objs trail))) (in_use (state task.file.objs trail)))
            (sym (named_naming trail ks o.unnamed)) f.accounted;
      } in
      record {
        order = end_in_order before started_there;
        rules = subst (λ (s : State). MeetsSolved task.file before s) (sym (state_naming task.file.objs trail ks)) at_trail;
      }

  ended : (ks : List ℕ) → All (λ k. IsTrue (is_short k)) ks → AreFacets task.file.objs (state task.file.objs trail) ks →
      All (λ g. preimages trail g.number ≢ []) (state task.file.objs trail).list.live → IsEnded task ((trail ++ naming ks) ++ End kind.Solved ∷ [])
  ended ks short f reached =
      let before : List Entry = trail ++ naming ks in
      let base : IsBaseTrail task.file task.c task.weights before =
      facets_more [] ks f (subst (λ (es : List Entry). IsBaseTrail task.file task.c task.weights es) (sym (append-nil trail)) o.base) in
      record {
        log = record {
          formed = true-list_all is_formed (before ++ End kind.Solved ∷ []) (All-push (λ e. IsTrue (is_formed e)) before (End kind.Solved)
              (All-append (λ e. IsTrue (is_formed e)) trail (naming ks) o.written
              (All-map (λ e. IsTrue (is_formed e)) (λ k. Facet k) ks
              (All-weaker (λ k. IsTrue (is_short k)) (λ k. IsTrue (is_formed (Facet k))) (λ k h. both_hold (is_short k) true h refl) ks short))) refl);
          ends = ends_once-push before (End kind.Solved) ∙ ap not (list_any_none is_end before
              (All-append (λ e. is_end e ≡ false) trail (naming ks)
              (All-weaker (λ e. IsTrue (not (is_end e))) (λ e. is_end e ≡ false) (λ e h. not-true (is_end e) h) trail o.unended)
              (All-map (λ e. is_end e ≡ false) (λ k. Facet k) ks (λ i d l. refl))));
        };
        base = grows task.file task.c task.weights before (End kind.Solved) base (solved_meets ks f reached) tt;
      }

-- ---- the facets of a double description of the cuts in use
module _ (task : Task) (trail : List Entry) (dd : Description) (o : IsOuter task trail dd) (facets : List ℕ)
    (are : facets ≡ facet_rows (vectors dd.list.live) dd.rows) where
  abbrev q : ℕ
  q = task.file.objs

  abbrev s : State
  s = state q trail

  abbrev bs : List Bool
  bs = line_places task trail

  -- the products stay without the entries at the places of the lines
  same_value : (r v : List ℚ) → Contains (live_vectors s) v → dot (without bs r) (without bs v) ≡ dot r v
  same_value r v c =
      let stands = open_stands task trail o.open_trail o.started in
      same_dot bs r v (record {
        wide = member_of (HasWidth (suc q)) (live_vectors s) v stands.wide.wide c ∙ ap suc (sym (length-marks q (lines trail)));
        clear = member_of (IsClear bs) (live_vectors s) v stands.clear c;
      })

  vectors_without : (live : List Numbered) → vectors (map (numbered_without bs) live) ≡ map (without bs) (vectors live)
  vectors_without [] = refl
  vectors_without (g ∷ live) = ap (λ (vs : List (List ℚ)). without bs g.vector ∷ vs) (vectors_without live)

  -- so the facets are those of the trail's rows and generators
  full_are : facets ≡ facet_rows (live_vectors s) (rows_in_use q s)
  full_are = are
      ∙ ap₂ facet_rows (ap (λ (l : LiveList). vectors l.live) o.list ∙ vectors_without s.list.live) o.rows
      ∙ facets_same bs (live_vectors s) same_value (rows_in_use q s)

  -- the cut of a row is that of its number
  same_cut : (k : ℕ) → 1 ≤ k → k ≤ length s.cuts → inequality (cut_at s.cuts k) ≡ geo.cut_at (in_use s) k
  same_cut k a b =
      let f : ℕ → Inequality = λ j. inequality (cut_at s.cuts j) in
      let nought : Inequality = record { normal = []; bound = zero_ℚ } in
      sym (ap (λ (ks : List ℕ). slice_index_or (map f ks) (k - 1) nought) o.all_used
      ∙ get_or-map-range_with_len f 1 (length s.cuts) (k - 1) k nought (omega (arith, a, b)) (omega (arith, a)))

  within : All (λ k. (1 ≤ k) × (k ≤ length s.cuts)) facets
  within =
      let f : ℕ → Inequality = λ j. inequality (cut_at s.cuts j) in
      let many : length (rows_in_use q s) ≡ suc (length s.cuts) = ap suc (length-map (in_use s) row_of
      ∙ length-map s.used f ∙ ap length o.all_used ∙ length-range_with_len 1 (length s.cuts)) in
      subst (λ (ks : List ℕ). All (λ k. (1 ≤ k) × (k ≤ length s.cuts)) ks) (sym full_are)
      (All-weaker (λ k. (1 ≤ k) × (k < length (rows_in_use q s))) (λ k. (1 ≤ k) × (k ≤ length s.cuts)) (λ k h. lower k h.0 h.1 many)
      (facet_rows (live_vectors s) (rows_in_use q s)) (facets_within (live_vectors s) (rows_in_use q s)))
    where
      lower : (k : ℕ) → 1 ≤ k → k < length (rows_in_use q s) → length (rows_in_use q s) ≡ suc (length s.cuts) →
          (1 ≤ k) × (k ≤ length s.cuts)
      lower k a b many = (a, omega (arith, b, many))

  are_facets : AreFacets q s facets
  are_facets =
      let f : ℕ → Inequality = λ j. inequality (cut_at s.cuts j) in
      let first : stated s.cuts facets ≡ named_first q (in_use s) (live_vectors s) =
      map_all f (geo.cut_at (in_use s)) facets
      (All-weaker (λ k. (1 ≤ k) × (k ≤ length s.cuts)) (λ k. f k ≡ geo.cut_at (in_use s) k) (λ k h. same_cut k h.0 h.1) facets within)
      ∙ ap (map (geo.cut_at (in_use s))) full_are ∙ named_are q (in_use s) (live_vectors s) in
      let account = first_account q (in_use s) (live_vectors s) in
      record {
        used = subst (λ (ks : List ℕ). All (Contains ks) facets) (sym o.all_used)
            (All-weaker (λ k. (1 ≤ k) × (k ≤ length s.cuts)) (Contains (range_with_len 1 (length s.cuts))) (λ k h. in_range (length s.cuts) k h.0 h.1) facets within);
        names = all_from_map (IsNamed q (in_use s) (live_vectors s)) f facets
            (subst (λ (es : List Inequality). All (IsNamed q (in_use s) (live_vectors s)) es) (sym first) account.names);
        differ = pairs_from_map (λ a b. TightLiesIn (live_vectors s) (row_of a) (row_of b) × TightLiesIn (live_vectors s) (row_of b) (row_of a) → ⊥) f facets
            (subst (λ (es : List Inequality). AllPairs (λ a b. TightLiesIn (live_vectors s) (row_of a) (row_of b) × TightLiesIn (live_vectors s) (row_of b) (row_of a) → ⊥) es)
            (sym first) account.differ);
        accounted = subst (λ (es : List Inequality). All (IsAccounted q es (live_vectors s)) (in_use s)) (sym first) account.accounted;
      }

  pub solved_ended : All (λ k. IsTrue (is_short k)) facets → All (λ g. preimages trail g.number ≢ []) dd.list.live →
      IsEnded task ((trail ++ naming facets) ++ End kind.Solved ∷ [])
  solved_ended short reached =
      ended task trail o.open_trail o.started facets short are_facets
      (all_from_map (λ (g : Numbered). preimages trail g.number ≢ []) (numbered_without bs) s.list.live
      (subst (λ (l : LiveList). All (λ g. preimages trail g.number ≢ []) l.live) o.list reached))
