-- The rows that a conversion starts with.
use Rattle.std.proofs.Common.{◌≡◌, ◌≢◌, ℕ, zero, suc, ◌-◌, ◌<◌, ◌≤◌, ◌==◌, not, true, List, [], ◌∷◌, map, length, All, AllPairs, Contains, slice_index_or, refl, sym, ap, ap₂, ◌∙◌, subst, arith}
use Rattle.std.proofs.lemmas.List.{get_or-map, length-map, map-id}
use Rattle.std.specs.List.Sorted.{IsPermutation}
use Rattle.std.proofs.lemmas.List.Sorted.{All-permutation, IsPermutation-sym, length_permutation}
use Rattle.std.proofs.lemmas.Map.Views.{All-map-IsPermutation}
use Rattle.std.proofs.lemmas.List.Elements.{All-head, All-map, All-tail, All-weaker, Contains-get_or}
use Rattle.exact_field.specs.Rational.{ℚ, one_ℚ, zero_ℚ}
use Rattle.exact_field.specs.Vector.{dot, entry}
use Rattle.frac128.specs.Held.{is_held}
use Rattle.polyhedra.specs.Cone.{HasFullRank}
use Rattle.polyhedra.specs.LiveList.{LiveList, Numbered, vectors}
use Rattle.polyhedra.specs.Vectors.{zeros}
use Rattle.polyhedra.proofs.Laws.{zero_lt_one}
use Rattle.polyhedra.proofs.Lists.{HasWidth, all_from_map}
use Rattle.polyhedra.proofs.LiveList.{vectors-numbered}
use Rattle.polyhedra.proofs.Members.{Contains-map, all_of_members, member_of, pairs-map, pairs-weaker}
use Rattle.polyhedra.proofs.Order.{not_zero_of_positive}
use Rattle.lineality.specs.Without.{marks, open_count, with_zeros, without}
use Rattle.lineality.proofs.Marks.{length-marks}
use Rattle.lineality.proofs.Masks.{length-filled}
use Rattle.lineality.proofs.Places.{at-zeros}
use Rattle.lin_rows.specs.Read.{numbers}
use Rattle.lin_rows.specs.Sums.{AreHeld}
use Rattle.tableaux.specs.Elimination.{AreIndependent, IsSpanning}
use Rattle.tableaux.specs.Table.{row_of}
use Rattle.double_descr.specs.Starting.{IsStart}
use Rattle.double_descr.specs.State.{State as Description}
use Rattle.overflows.specs.Faults.{IsFirstTerm, IsTermAt}
use Rattle.overflows.specs.declared.fault.SumFault.{SumFault}
use Rattle.overflows.proofs.Starts.{made_of_start}
use Rattle.overflows.specs.Generators.{IsMadeOver}
use Rattle.rep_text.specs.declared.rep.Rep.{Rep}
use Rattle.rep_conv.specs.Rows.{has_rows, row_at, text_rows}
use Rattle.rep_conv.proofs.OpenRows.{same_count, same_without}
use Rattle.rep_conv.proofs.Ends.{same_place}
use Rattle.rep_conv.proofs.SameSets.{some_is}
use Rattle.rep_conv.proofs.TextRows.{text_rows_wide}
use Rattle.rep_convert.specs.Licensed.{AreInUse, AreMultiplied, AreShort, IsElimTable}
use Rattle.rep_convert.specs.Lines.{AreLinesOf, marks_of, rows_without, width_without}
use Rattle.rep_convert.specs.Started.{AreStarts, picked_without}
use Rattle.rep_convert.proofs.FullRank.{full_rank}
use Rattle.rep_convert.proofs.StartEntry.{within}

-- a fault of a sum, over the lists themselves
pub term_same : (xs ys : List ℚ) (fault : SumFault ℚ) → IsFirstTerm (λ (q : ℚ). q) is_held (map (λ (q : ℚ). q) xs) (map (λ (q : ℚ). q) ys) fault →
    IsTermAt (λ (q : ℚ). q) is_held xs ys fault
term_same xs ys fault h =
    subst (λ (v : List ℚ). IsTermAt (λ (q : ℚ). q) is_held xs v fault) (map-id ys)
    (subst (λ (v : List ℚ). IsTermAt (λ (q : ℚ). q) is_held v (map (λ (q : ℚ). q) ys) fault) (map-id xs) h.term)

pub held_same : (xs ys : List ℚ) → AreHeld is_held (map (λ (q : ℚ). q) xs) (map (λ (q : ℚ). q) ys) (length xs) → AreHeld is_held xs ys (length xs)
held_same xs ys h =
    subst (λ (v : List ℚ). AreHeld is_held xs v (length xs)) (map-id ys)
    (subst (λ (v : List ℚ). AreHeld is_held v (map (λ (q : ℚ). q) ys) (length xs)) (map-id xs) h)

-- there are rows
pub some_rows : (rep : Rep) → 0 < length (text_rows rep) → has_rows rep ≡ true
some_rows rep h = go (length (text_rows rep)) refl h
  where
    go : (n : ℕ) → length (text_rows rep) ≡ n → 0 < n → has_rows rep ≡ true
    go zero e l = absurd (omega (arith, l))
    go (suc n) e l = ap (λ (k : ℕ). not (k == 0)) e ∙ some_is n

module _ (rep : Rep) (lines : List (List ℚ)) (are : AreLinesOf rep lines) where
  abbrev W : List ℚ → List ℚ
  W = without (marks_of rep lines)

  abbrev n : ℕ
  n = width_without rep lines

  -- some of the rows without the places
  pub all_short : AreShort rep (rows_without rep lines) lines
  all_short = record { lines_are = are; of_text = all_of_members (Contains (rows_without rep lines)) (rows_without rep lines) (λ r c. c) }

  pub short_table : IsElimTable rep (rows_without rep lines) (rows_without rep lines) n
  short_table = IsElimTable.short lines all_short refl

  pub picked_is : (picks : List ℕ) → All (λ k. k < length (text_rows rep)) picks →
      map (λ k. slice_index_or (rows_without rep lines) k []) picks ≡ picked_without rep lines picks
  picked_is [] h = refl
  picked_is (k ∷ picks) h = ap₂ (λ (r : List ℚ) (rs : List (List ℚ)). r ∷ rs)
      (get_or-map W (text_rows rep) k [] [] (All-head (λ j. j < length (text_rows rep)) k picks h))
      (picked_is picks (All-tail (λ j. j < length (text_rows rep)) k picks h))

  row_listed : (k : ℕ) → k < length (text_rows rep) → Contains (text_rows rep) (row_at rep k)
  row_listed k l = Contains-get_or (text_rows rep) k [] l

  pub picked_short : (picks : List ℕ) → All (λ k. k < length (text_rows rep)) picks → AreShort rep (picked_without rep lines picks) lines
  picked_short picks h = record {
    lines_are = are;
    of_text = All-map (Contains (rows_without rep lines)) W (map (row_at rep) picks)
        (All-map (λ r. Contains (rows_without rep lines) (W r)) (row_at rep) picks
        (All-weaker (λ k. k < length (text_rows rep)) (λ k. Contains (rows_without rep lines) (W (row_at rep k)))
        (λ k l. Contains-map W (text_rows rep) (row_at rep k) (row_listed k l)) picks h));
  }

  -- ---- independent rows among some of the rows, in any order
  module _ (first : List ℕ) (once : AllPairs (λ j k. j ≢ k) first) (exist : All (λ k. k < length (text_rows rep)) first) where
    abbrev some_of : List (List ℚ)
    some_of = map (λ k. slice_index_or (rows_without rep lines) k []) first

    abbrev number_at : ℕ → ℕ
    number_at i = slice_index_or first (i - 1) 0

    some_many : length some_of ≡ length first
    some_many = length-map first (λ k. slice_index_or (rows_without rep lines) k [])

    named_at : (ks : List ℕ) → All (λ i. 1 ≤ i) ks → All (λ i. i ≤ length some_of) ks →
        map (row_of some_of) ks ≡ map (λ k. slice_index_or (rows_without rep lines) k []) (map number_at ks)
    named_at [] low high = refl
    named_at (k ∷ ks) low high =
        let one : 1 ≤ k = All-head (λ i. 1 ≤ i) k ks low in
        let end : k ≤ length some_of = All-head (λ i. i ≤ length some_of) k ks high in
        ap₂ (λ (r : List ℚ) (rs : List (List ℚ)). r ∷ rs)
        (get_or-map (λ j. slice_index_or (rows_without rep lines) j []) first (k - 1) 0 [] (omega (arith, one, end, some_many)))
        (named_at ks (All-tail (λ i. 1 ≤ i) k ks low) (All-tail (λ i. i ≤ length some_of) k ks high))

    module _ (numbers : List ℕ) (h : AreIndependent n some_of numbers) where
      abbrev named : List ℕ
      named = map number_at numbers

      pub named_once : AllPairs (λ j k. j ≢ k) named
      named_once = pairs-map (λ j k. j ≢ k) number_at numbers (pairs-weaker (λ i k. i < k) (λ i k. number_at i ≢ number_at k) numbers
          (λ i k c d l.
          let low = member_of (λ j. 1 ≤ j) numbers i h.from_one c in
          let high = member_of (λ j. j ≤ length some_of) numbers k h.to_end d in
          once (i - 1) (k - 1) 0 (omega (arith, l, low)) (omega (arith, l, low, high, some_many))) h.rising)

      named_exist : All (λ k. k < length (text_rows rep)) named
      named_exist = All-map (λ k. k < length (text_rows rep)) number_at numbers (all_of_members (λ i. number_at i < length (text_rows rep)) numbers (λ i c.
          let low = member_of (λ j. 1 ≤ j) numbers i h.from_one c in
          let high = member_of (λ j. j ≤ length some_of) numbers i h.to_end c in
          exist (i - 1) 0 (omega (arith, low, high, some_many))))

      named_rank : HasFullRank n (picked_without rep lines named)
      named_rank = subst (HasFullRank n) (named_at numbers h.from_one h.to_end ∙ picked_is named named_exist) h.rank

      -- rising, they are a start
      pub starts_among : (picks : List ℕ) → IsPermutation named picks → AllPairs (λ j k. j < k) picks → AreStarts rep lines picks
      starts_among picks p rise = record {
        many = length_permutation named picks p ∙ (length-map numbers number_at ∙ h.many);
        rise = rise;
        exist = All-permutation (λ k. k < length (text_rows rep)) named picks p named_exist;
        rank = λ z wide none. named_rank z wide
            (All-map (λ v. dot v z ≡ zero_ℚ) W (map (row_at rep) named)
            (All-map-IsPermutation (row_at rep) (λ r. dot (W r) z ≡ zero_ℚ) picks named (IsPermutation-sym named picks p)
            (all_from_map (λ v. dot v z ≡ zero_ℚ) W (map (row_at rep) picks) none)));
      }

  -- ---- independent rows
  module _ (some : has_rows rep ≡ true) where
    pub short_rank : HasFullRank n (rows_without rep lines)
    short_rank =
        subst (λ (k : ℕ). HasFullRank k (rows_without rep lines)) (same_count lines rep.width (within rep some lines are))
        (subst (λ (rows : List (List ℚ)). HasFullRank (open_count (marks (suc rep.width) lines)) rows) (same_rows (text_rows rep))
        (full_rank (suc rep.width) (text_rows rep) lines are))
      where
        same_rows : (rows : List (List ℚ)) → map (without (marks (suc rep.width) lines)) rows ≡ map (without (marks_of rep lines)) rows
        same_rows [] = refl
        same_rows (r ∷ rows) = ap₂ (λ (a : List ℚ) (b : List (List ℚ)). a ∷ b) (same_without lines rep.width (within rep some lines are) r) (same_rows rows)

    pub none_orthogonal : (z : List ℚ) → IsSpanning n (rows_without rep lines) z → ⊥
    none_orthogonal z h =
        let o = h.orthogonal in
        let none : z ≡ zeros n = short_rank z o.wide (λ i d l.
        let back : suc i - 1 ≡ i = omega arith in
        ap (λ (r : List ℚ). dot r z) (same_place (rows_without rep lines) i d [] l) ∙ (ap (λ (k : ℕ). dot (slice_index_or (rows_without rep lines) k []) z) (sym back) ∙ o.products (suc i) (omega arith) (omega (arith, l)))) in
        not_zero_of_positive one_ℚ zero_lt_one (sym o.one ∙ ap (λ (v : List ℚ). entry v o.place) none ∙ at-zeros n (o.place - 1))

  pub starts_are : (numbers : List ℕ) → AreIndependent n (rows_without rep lines) numbers → AreStarts rep lines (map (λ k. k - 1) numbers)
  starts_are numbers h = record {
    many = length-map numbers (λ k. k - 1) ∙ h.many;
    rise = pairs-map (λ j k. j < k) (λ k. k - 1) numbers (pairs-weaker (λ i k. i < k) (λ i k. i - 1 < k - 1) numbers
        (λ i k c d l. let low = member_of (λ j. 1 ≤ j) numbers i h.from_one c in omega (arith, l, low)) h.rising);
    exist = exist;
    rank = subst (HasFullRank n) (named numbers ∙ picked_is (map (λ k. k - 1) numbers) exist) h.rank;
  }
    where
      long : length (rows_without rep lines) ≡ length (text_rows rep)
      long = length-map (text_rows rep) W

      exist : All (λ k. k < length (text_rows rep)) (map (λ k. k - 1) numbers)
      exist = All-map (λ k. k < length (text_rows rep)) (λ k. k - 1) numbers (all_of_members (λ k. k - 1 < length (text_rows rep)) numbers (λ k c.
          let low = member_of (λ j. 1 ≤ j) numbers k h.from_one c in
          let high = member_of (λ j. j ≤ length (rows_without rep lines)) numbers k h.to_end c in
          omega (arith, low, high, long)))

      named : (ks : List ℕ) → map (row_of (rows_without rep lines)) ks ≡ map (λ k. slice_index_or (rows_without rep lines) k []) (map (λ k. k - 1) ks)
      named [] = refl
      named (k ∷ ks) = ap (λ (rs : List (List ℚ)). row_of (rows_without rep lines) k ∷ rs) (named ks)

  -- ---- first generators
  module _ (picks : List ℕ) (starts : AreStarts rep lines picks) (dd : Description) (start : IsStart n (picked_without rep lines picks) dd)
      (gens : List (List ℚ)) (filled : gens ≡ map (with_zeros (marks_of rep lines)) (vectors dd.list.live)) where
    in_use : AreInUse rep lines (map (row_at rep) picks) dd.list
    in_use = record {
      lines_are = are;
      of_text = All-map (Contains (text_rows rep)) (row_at rep) picks
          (All-weaker (λ k. k < length (text_rows rep)) (λ k. Contains (text_rows rep) (row_at rep k)) row_listed picks starts.exist);
      made = subst (λ (rows : List (List ℚ)). IsMadeOver n rows dd.list) start.rows_are (made_of_start n (picked_without rep lines picks) dd start);
    }

    -- each row of the start with each first generator
    pub multiplied : All (λ r. All (AreMultiplied rep r) gens) (map (row_at rep) picks)
    multiplied = all_of_members (λ r. All (AreMultiplied rep r) gens) (map (row_at rep) picks) (λ r c.
        subst (All (AreMultiplied rep r)) (sym filled)
        (All-map (AreMultiplied rep r) (with_zeros (marks_of rep lines)) (vectors dd.list.live)
        (All-map (λ v. AreMultiplied rep r (with_zeros (marks_of rep lines) v)) (λ (g : Numbered). g.vector) dd.list.live
        (all_of_members (λ (g : Numbered). AreMultiplied rep r (with_zeros (marks_of rep lines) g.vector)) dd.list.live (λ g d.
        AreMultiplied.generator lines (map (row_at rep) picks) dd.list g in_use c d refl)))))

    live_are : vectors dd.list.live ≡ start.vectors
    live_are = ap (λ (l : LiveList). vectors l.live) start.list_is ∙ vectors-numbered 1 start.vectors

    pub gens_long : All (λ v. length v ≡ suc rep.width) gens
    gens_long = subst (All (λ v. length v ≡ suc rep.width)) (sym (filled ∙ ap (map (with_zeros (marks_of rep lines))) live_are))
        (All-map (λ v. length v ≡ suc rep.width) (with_zeros (marks_of rep lines)) start.vectors
        (all_of_members (λ v. length (with_zeros (marks_of rep lines) v) ≡ suc rep.width) start.vectors (λ v c.
        length-filled (marks_of rep lines) v (member_of (HasWidth n) start.vectors v start.corners.vectors_wide.wide c) ∙ ap suc (length-marks rep.width lines))))

    pub rows_long : All (λ r. length r ≡ suc rep.width) (map (row_at rep) picks)
    rows_long = All-map (λ r. length r ≡ suc rep.width) (row_at rep) picks
        (All-weaker (λ k. k < length (text_rows rep)) (λ k. length (row_at rep k) ≡ suc rep.width) (λ k l. (text_rows_wide rep).wide k [] l) picks starts.exist)

-- two lists of vectors of one width
pub same_widths : (w : ℕ) (rows vs : List (List ℚ)) → All (λ r. length r ≡ w) rows → All (λ v. length v ≡ w) vs → All (λ r. All (λ v. length r ≡ length v) vs) rows
same_widths w rows vs h k = all_of_members (λ r. All (λ v. length r ≡ length v) vs) rows (λ r c. all_of_members (λ v. length r ≡ length v) vs (λ v d.
    member_of (λ u. length u ≡ w) rows r h c ∙ sym (member_of (λ u. length u ≡ w) vs v k d)))
