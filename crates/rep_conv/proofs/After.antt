-- What the checker keeps, after one more entry.
use Rattle.std.proofs.Common.{◌≡◌, ℕ, suc, ◌+◌, ◌<◌, ◌≤◌, Bool, true, false, true≢false, not, ◌&&◌, ◌||◌, nat_lt, Contains, List, [], ◌∷◌, ◌++◌, length, map, All, AllPairs, slice_set, None, sym, ap, ap₂, ◌∙◌, subst, refl, arith}
use Rattle.std.proofs.lemmas.Bool.{ne_eqb}
use Rattle.std.proofs.lemmas.Bool.Decides.{Decides-ltb}
use Rattle.std.proofs.lemmas.List.{length-map, map-append}
use Rattle.std.proofs.lemmas.List.Elements.{All-nil, All-append}
use Rattle.std.proofs.lemmas.List.Folds.{list_any-append}
use Rattle.std.proofs.lemmas.List.Sums.{fold-append}
use Rattle.exact_field.specs.Rational.{ℚ}
use Rattle.frac128.specs.Held.{is_held}
use Rattle.incid_sets.specs.Marks.{has, no_marks}
use Rattle.lineality.specs.Lines.{leading_place}
use Rattle.lineality.specs.Steps.{IsClear}
use Rattle.lineality.specs.Without.{marks, open_count, without, with_zeros}
use Rattle.lineality.proofs.Marks.{length-marks}
use Rattle.polyhedra.specs.LiveList.{Numbered, numbered, new_vectors, live_pairs, starting, step, staying, vectors}
use Rattle.polyhedra.specs.TightSets.{IsDoubleDescriptionPair}
use Rattle.polyhedra.specs.Vectors.{AreWide}
use Rattle.polyhedra.proofs.Lists.{all_from_map}
use Rattle.polyhedra.proofs.Members.{all_of_members}
use Rattle.upper_image.specs.Spots.{pieces}
use Rattle.word_lines.specs.declared.part.LogPair.{LogPair}
use Rattle.log_rules.specs.Events.{first_failure}
use Rattle.log_rules.specs.Live.{contains}
use Rattle.log_rules.proofs.LiveNumbers.{pairs_from_map}
use Rattle.log_live.specs.Adding.{AreDescribed, kept_of, pair_named}
use Rattle.log_live.specs.Live.{AreLive, HasTightSet, live_of, numbered_of}
use Rattle.log_live.specs.declared.generator.Generator.{Generator}
use Rattle.log_live.proofs.KeptGenerators.{few_generators, kept_live, kept_tight}
use Rattle.log_live.proofs.LivePairs.{required_named}
use Rattle.rep_conv.specs.Adding.{AreAtRow, IsChange}
use Rattle.rep_conv.specs.Events.{events}
use Rattle.rep_conv.specs.Laws.{GeneratorsStand, Stands}
use Rattle.rep_conv.specs.Live.{State, state, after, nothing, rows_in_use}
use Rattle.rep_conv.specs.Meets.{has_start, is_start, in_order, needs_start, Meets}
use Rattle.rep_conv.specs.Starting.{IsSetOf}
use Rattle.rep_conv.specs.Rows.{text_rows, row_at, has_rows}
use Rattle.rep_conv.specs.Progress.{Keeps, Holds, StandsAfter}
use Rattle.rep_conv.specs.declared.adding.Change.{Change}
use Rattle.rep_conv.specs.declared.progress.Standing.{Standing}
use Rattle.rep_conv.proofs.EntrySteps.{row_wide}
use Rattle.rep_conv.proofs.EventRules.{entry_meets}
use Rattle.rep_conv.proofs.LinePlaces.{line_within}
use Rattle.rep_conv.proofs.Marked.{none_set, one_more}
use Rattle.rep_conv.proofs.OpenRows.{described_without, kept, same_count, same_with, same_without}
use Rattle.rep_conv.proofs.Standing.{entry_stands, none_stands, push}
use Rattle.rep_text.specs.declared.rep.Rep.{Rep}
use Rattle.rep_text.specs.declared.conv.ConvEntry.{ConvEntry}
use Rattle.rep_text.specs.declared.conv.ConvEntry.TheVariants.{Conv, Line, Start, Add, End}

some_rows : (rep : Rep) (k : ℕ) → k < length (text_rows rep) → has_rows rep ≡ true
some_rows rep k l = ap not (ne_eqb (length (text_rows rep)) 0 (λ e. omega (arith, e, l)))

-- ---- the generators after a `start`
module _ (rep : Rep) (s : State) (standing : Standing) (h : Holds rep s standing) (begun : standing.started ≡ true) (row : ℕ) (exists : row < length (text_rows rep)) where
  abbrev gens : List Generator
  gens = standing.generators.items

  stand : GeneratorsStand rep s
  stand = h.stands.begun begun

  rises : AllPairs (λ (g : Generator) (k : Generator). g.number < k.number) standing.generators.items
  rises = pairs_from_map (λ (a b : Numbered). a.number < b.number) numbered_of standing.generators.items
      (subst (λ (l : List Numbered). AllPairs (λ (a b : Numbered). a.number < b.number) l) (sym h.keeps.list.live) stand.live.rising.rises)

  below : All (λ (g : Generator). g.number < standing.next) standing.generators.items
  below = all_from_map (λ (g : Numbered). g.number < standing.next) numbered_of standing.generators.items
      (subst (λ (p : List Numbered × ℕ). All (λ (g : Numbered). g.number < p.1) p.0) (λ i. (sym h.keeps.list.live i, sym h.keeps.list.next_is i)) stand.live.rising.below)

  pub few_live : length standing.generators.items ≤ standing.next
  few_live = few_generators standing.next standing.generators.items rises below

  within : (l : List ℚ) → Contains s.lines l → leading_place l ≤ rep.width
  within l c = line_within rep (some_rows rep row exists) s.lines h.stands.lines l c

  full : IsDoubleDescriptionPair (open_count (marks (suc rep.width) s.lines)) (map (without (marks (suc rep.width) s.lines)) (rows_in_use rep s)) (map (without (marks (suc rep.width) s.lines)) (vectors s.list.live))
  full = described_without (suc rep.width) s.lines (rows_in_use rep s) (vectors s.list.live) h.stands.lines.echelon stand.live.described

  described : AreDescribed rep.width (rows_in_use rep s) (vectors s.list.live)
  described = record {
    marks = marks rep.width s.lines;
    open_places = suc (open_count (marks rep.width s.lines));
    many = length-marks rep.width s.lines;
    wide = subst (λ (n : ℕ). AreWide (suc n) (vectors s.list.live)) (sym (length-marks rep.width s.lines)) stand.live.described.generators_wide;
    clear = all_of_members (IsClear (marks rep.width s.lines)) (vectors s.list.live) (λ g c.
        sym (same_with s.lines rep.width within (without (marks rep.width s.lines) g))
        ∙ ap (with_zeros (marks (suc rep.width) s.lines)) (sym (same_without s.lines rep.width within g))
        ∙ kept (suc rep.width) s.lines (rows_in_use rep s) (vectors s.list.live) h.stands.lines.echelon stand.live.described g c);
    described = subst (λ (p : ℕ × (List ℚ → List ℚ)). IsDoubleDescriptionPair p.0 (map p.1 (rows_in_use rep s)) (map p.1 (vectors s.list.live)))
        (λ i. (same_count s.lines rep.width within i, λ v. same_without s.lines rep.width within v i)) full;
  }

  pub at_row : standing.next ≤ 4294967295 → AreAtRow rep.width (rows_in_use rep s) (row_at rep row) standing.generators.items
  at_row small = record {
    few = let narrow = rep.few_entries in omega (arith, narrow);
    few_gens = let l = few_live in omega (arith, l, small);
    described = subst (λ (l : List Numbered). AreDescribed rep.width (rows_in_use rep s) (vectors l)) (sym h.keeps.list.live) described;
    rises = rises;
    tight = h.keeps.list.tight;
    wide = row_wide rep (text_rows rep) row refl exists;
  }

  -- after an `add`
  module _ (pairs : List LogPair) (change : Change) (c : IsChange (rows_in_use rep s) (row_at rep row) standing.generators.items pairs standing.next change)
      (new : Standing) (rows : new.rows ≡ standing.rows) (lines : new.lines ≡ standing.lines) (in_use : new.in_use ≡ slice_set standing.in_use row true)
      (made : new.generators.items ≡ kept_of (row_at rep row) standing.generators.items ++ change.made.items) (next : new.next ≡ change.next) where
    rows_same : rows_in_use rep (after rep s (Add row pairs)) ≡ rows_in_use rep s ++ row_at rep row ∷ []
    rows_same = map-append (row_at rep) s.used (row ∷ [])

    count : length pairs ≡ length (live_pairs (rows_in_use rep s) s.list.live (row_at rep row))
    count = ap length (c.paired ∙ required_named (rows_in_use rep s) (live_of standing.generators.items) (row_at rep row))
        ∙ length-map (live_pairs (rows_in_use rep s) (live_of standing.generators.items) (row_at rep row)) pair_named
        ∙ ap (λ (l : List Numbered). length (live_pairs (rows_in_use rep s) l (row_at rep row))) h.keeps.list.live

    grown : AreLive (rows_in_use rep (after rep s (Add row pairs))) (step (rows_in_use rep s) s.list (row_at rep row)) new.generators.items new.next
    grown = subst (λ (rs : List (List ℚ)). AreLive rs (step (rows_in_use rep s) s.list (row_at rep row)) new.generators.items new.next) (sym rows_same)
        record {
          live = ap live_of made
              ∙ map-append numbered_of (kept_of (row_at rep row) standing.generators.items) change.made.items
              ∙ ap₂ (λ (a b : List Numbered). a ++ b) (kept_live (row_at rep row) standing.generators.items) c.made.are
              ∙ ap₂ (λ (l : List Numbered) (n : ℕ). staying (row_at rep row) l ++ numbered n (new_vectors (rows_in_use rep s) l (row_at rep row))) h.keeps.list.live h.keeps.list.next_is;
          next_is = next ∙ c.next_is ∙ ap₂ (λ (a b : ℕ). a + b) h.keeps.list.next_is count;
          tight = subst (λ (gs : List Generator). All (HasTightSet (rows_in_use rep s ++ row_at rep row ∷ [])) gs) (sym made)
              (All-append (HasTightSet (rows_in_use rep s ++ row_at rep row ∷ [])) (kept_of (row_at rep row) standing.generators.items) change.made.items
              (kept_tight (rows_in_use rep s) (row_at rep row) standing.generators.items h.keeps.list.tight) c.made.tight);
        }

    pub added : Keeps rep (after rep s (Add row pairs)) new
    added = record {
      rows = rows ∙ h.keeps.rows;
      few = h.keeps.few;
      lines = lines ∙ h.keeps.lines;
      in_use = one_more (length (text_rows rep)) s.used row standing.in_use new.in_use h.keeps.in_use exists in_use;
      list = grown;
    }

-- ---- no generators before a `start`
first_false : (a b : Bool) → (a || b) ≡ false → a ≡ false
first_false true b h = absurd (true≢false h)
first_false false b h = refl

early_after : (rep : Rep) (before : List ConvEntry) (e : ConvEntry) (b : Bool) → b ≡ has_start before → (b ≡ false → (state rep before).list.live ≡ []) → Meets rep before e →
    (b || is_start e) ≡ false → (after rep (state rep before) e).list.live ≡ []
early_after rep before (Conv n) b s h m f = h (first_false b false f)
early_after rep before (Line d) b s h m f = h (first_false b false f)
early_after rep before (Start rows gens) true s h m f = absurd (true≢false f)
early_after rep before (Start rows gens) false s h m f = absurd (true≢false f)
early_after rep before (Add row pairs) b s h m f = absurd (true≢false (sym m.order ∙ sym s ∙ first_false b false f))
early_after rep before End b s h m f = h (first_false b false f)

-- ---- after any entry of which no event fails
pub one_after : (rep : Rep) (before : List ConvEntry) (e : ConvEntry) (old new : Standing) → StandsAfter rep before old → first_failure is_held 1 (events rep before e) ≡ None →
    Keeps rep (after rep (state rep before) e) new → new.started ≡ (old.started || is_start e) → StandsAfter rep (before ++ e ∷ []) new
one_after rep before e old new h none keeps begun =
    let next : ◌≡◌ {A = State} (state rep (before ++ e ∷ [])) (after rep (state rep before) e) = fold-append (after rep) nothing before (e ∷ []) in
    let starts : new.started ≡ has_start (before ++ e ∷ []) = begun ∙ ap (λ b. b || is_start e) h.started ∙ sym (list_any-append is_start before (e ∷ []) ∙ ap (λ b. has_start before || b) (single (is_start e))) in
    let stands : Stands rep (state rep (before ++ e ∷ [])) (has_start (before ++ e ∷ [])) =
    push rep before e (entry_stands rep before e (subst (λ (b : Bool). Stands rep (state rep before) b) h.started h.holds.stands) (entry_meets is_held rep before e none)) in
    record {
      holds = record {
        keeps = subst (λ (s : State). Keeps rep s new) (sym next) keeps;
        stands = subst (λ (b : Bool). Stands rep (state rep (before ++ e ∷ [])) b) (sym starts) stands;
      };
      started = starts;
      early = λ none_yet. ap (λ (s : State). s.list.live) next
          ∙ early_after rep before e old.started h.started h.early (entry_meets is_held rep before e none) (sym begun ∙ none_yet);
    }
  where
    single : (b : Bool) → (b || false) ≡ b
    single true = refl
    single false = refl

-- ---- before all entries
pub at_first : (rep : Rep) (standing : Standing) → standing.rows ≡ text_rows rep → length (text_rows rep) ≤ 4294967294 → standing.lines ≡ [] →
    standing.in_use ≡ no_marks (length (text_rows rep)) → standing.generators.items ≡ [] → standing.next ≡ 1 → standing.started ≡ false → StandsAfter rep [] standing
at_first rep standing rows few lines in_use gens next started = record {
  holds = record {
    keeps = record {
      rows = rows;
      few = few;
      lines = lines;
      in_use = none_set (length (text_rows rep)) standing.in_use in_use;
      list = subst (λ (gs : List Generator). AreLive [] (starting 1 []) gs standing.next) (sym gens)
          record { live = refl; next_is = next; tight = All-nil (HasTightSet []) };
    };
    stands = subst (λ (b : Bool). Stands rep nothing b) (sym started) (none_stands rep);
  };
  started = started;
  early = λ e. refl;
}

-- ---- after a `line`
pub with_line : (rep : Rep) (s : State) (d : List ℚ) (old new : Standing) → Keeps rep s old → new ≡ record old { lines = old.lines ++ d ∷ [] } → Keeps rep (after rep s (Line d)) new
with_line rep s d old new h e = subst (λ (x : Standing). Keeps rep (after rep s (Line d)) x) (sym e)
    record { rows = h.rows; few = h.few; lines = ap (λ ls. ls ++ d ∷ []) h.lines; in_use = h.in_use; list = h.list }

-- ---- after a `start`
pub begun_with : (rep : Rep) (s : State) (named : List ℕ) (gens : List ℚ) (old new : Standing) → Keeps rep s old → new.rows ≡ old.rows → new.lines ≡ old.lines →
    IsSetOf (length old.rows) named new.in_use → AreLive (map (row_at rep) named) (starting 1 (pieces (length named) (rep.width + 1) gens)) new.generators.items (suc (length named)) →
    new.next ≡ length named + 1 → Keeps rep (after rep s (Start named gens)) new
begun_with rep s named gens old new h rows lines in_use list next = record {
  rows = rows ∙ h.rows;
  few = h.few;
  lines = lines ∙ h.lines;
  in_use = subst (λ (rs : List (List ℚ)). IsSetOf (length rs) named new.in_use) h.rows in_use;
  list = subst (λ (p : ℕ × ℕ). AreLive (map (row_at rep) named) (starting 1 (pieces (length named) p.0 gens)) new.generators.items p.1)
      (λ i. (one rep.width i, (sym (one (length named)) ∙ sym next) i)) list;
}
  where
    one : (n : ℕ) → n + 1 ≡ suc n
    one n = omega arith

-- ---- what the tests read
pub free_is : (rep : Rep) (s : State) (standing : Standing) (row : ℕ) → Keeps rep s standing →
    (nat_lt row (length standing.rows) && not (has standing.in_use row)) ≡ (nat_lt row (length (text_rows rep)) && not (contains s.used row))
free_is rep s standing row h = go (nat_lt row (length (text_rows rep))) refl
  where
    go : (b : Bool) → nat_lt row (length (text_rows rep)) ≡ b →
        (nat_lt row (length standing.rows) && not (has standing.in_use row)) ≡ (nat_lt row (length (text_rows rep)) && not (contains s.used row))
    go true e =
        ap (λ (rs : List (List ℚ)). nat_lt row (length rs) && not (has standing.in_use row)) h.rows
        ∙ ap (λ x. nat_lt row (length (text_rows rep)) && not x) (h.in_use.each row ((Decides-ltb row (length (text_rows rep))).0 e))
    go false e =
        ap (λ (rs : List (List ℚ)). nat_lt row (length rs) && not (has standing.in_use row)) h.rows
        ∙ ap (λ b. b && not (has standing.in_use row)) e ∙ sym (ap (λ b. b && not (contains s.used row)) e)

-- ---- order
pub order_is : (some : Bool) (before : List ConvEntry) (e : ConvEntry) → in_order some before e ≡ true → needs_start e ≡ true → has_start before ≡ true
order_is some before (Conv n) o k = absurd (true≢false (sym k))
order_is some before (Line d) o k = absurd (true≢false (sym k))
order_is some before (Start rows gens) o k = absurd (true≢false (sym k))
order_is some before (Add row pairs) o k = o
order_is some before End o k = absurd (true≢false (sym k))

pub or_false : (b : Bool) → (b || false) ≡ b
or_false true = refl
or_false false = refl

pub or_true : (b : Bool) → (b || true) ≡ true
or_true true = refl
or_true false = refl
