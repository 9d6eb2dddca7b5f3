-- The entry of a start: it meets its rules, its steps are held, and the double description stands for the same rows.
use Rattle.std.proofs.Common.{◌≡◌, if◌then◌else◌, ℕ, suc, ◌+◌, ◌*◌, ◌<◌, ◌≤◌, ◌==◌, ◌&&◌, List, [], ◌∷◌, ◌++◌, map, length, All, Contains, Bool, true, not, IsTrue, slice_index_or, refl, sym, ap, ◌∙◌, subst, arith}
use Rattle.std.specs.List.{enumerate_from, flat_map}
use Rattle.std.proofs.lemmas.List.{get_or-map, length-map}
use Rattle.std.proofs.lemmas.List.Elements.{All-nil, All-cons, All-append, All-map, Contains-get_or}
use Rattle.std.proofs.lemmas.List.Folds.{list_any-append}
use Rattle.exact_field.specs.Rational.{ℚ, zero_ℚ, ◌<ℚ◌, lt_ℚ}
use Rattle.exact_field.specs.Vector.{dot}
use Rattle.frac128.specs.Held.{is_held}
use Rattle.frac128.specs.Sparse.{is_zero}
use Rattle.polyhedra.specs.DoubleDescription.{IsNormed}
use Rattle.polyhedra.specs.LiveList.{LiveList, starting, vectors}
use Rattle.polyhedra.specs.Vectors.{AreWide}
use Rattle.polyhedra.proofs.Lists.{HasWidth}
use Rattle.polyhedra.proofs.LiveList.{vectors-numbered}
use Rattle.polyhedra.proofs.Members.{Contains-map, all_of_members, member_of}
use Rattle.polyhedra.proofs.Tests.{both_hold, or_right}
use Rattle.lineality.specs.Lines.{IsReduced, leading_place}
use Rattle.lineality.specs.Steps.{IsClear, list_without}
use Rattle.lineality.specs.Without.{with_zeros, without}
use Rattle.lineality.proofs.Echelon.{IsFlatAt, echelon_of}
use Rattle.lineality.proofs.Marks.{length-marks, with_flat}
use Rattle.lineality.proofs.Masks.{dot-without, length-filled}
use Rattle.lineality.proofs.OpenPlaces.{open_places}
use Rattle.lineality.proofs.Reduction.{reduced_of}
use Rattle.lin_rows.specs.Sums.{AreHeld}
use Rattle.double_descr.specs.State.{State as Description}
use Rattle.upper_image.specs.Spots.{pieces}
use Rattle.log_rules.specs.CutEvents.{rises}
use Rattle.log_rules.specs.Events.{Event, dot_steps}
use Rattle.log_rules.specs.Events.Event.{test}
use Rattle.log_rules.specs.declared.rule.Rule.TheVariants as rule
use Rattle.log_rules.proofs.HeldTests.{all_numbered}
use Rattle.entry_checks.specs.Parts.{corner_events}
use Rattle.word_lines.specs.Grammar.{is_formed}
use Rattle.overflows.specs.Generators.{IsMadeOver}
use Rattle.overflows.proofs.Making.{generator_laws}
use Rattle.rep_text.specs.ConvText.{conv_grammar}
use Rattle.rep_text.specs.declared.conv.ConvEntry.{ConvEntry}
use Rattle.rep_text.specs.declared.conv.ConvEntry.TheVariants.{Start}
use Rattle.rep_text.specs.declared.rep.Rep.{Rep}
use Rattle.rep_conv.specs.Events.{IsHeldStep, all_below, is_first, corners_events, events, generator_events}
use Rattle.rep_conv.specs.Laws.{LinesStand}
use Rattle.rep_conv.specs.Live.{State, after, nothing, rows_in_use, state}
use Rattle.rep_conv.specs.Meets.{Meets, MeetsStart, has_begun, has_start, in_order, is_start}
use Rattle.rep_conv.specs.Rows.{has_rows, row_at, text_rows}
use Rattle.rep_conv.proofs.LinePlaces.{line_within}
use Rattle.rep_conv.proofs.OpenRows.{same_count, same_with}
use Rattle.rep_conv.proofs.TextRows.{text_rows_wide}
use Rattle.rep_convert.specs.Lines.{AreLinesOf, marks_of, width_without}
use Rattle.rep_convert.specs.Standing.{IsOpenLog, StandsAt}
use Rattle.rep_convert.specs.Started.{IsStarted, picked_without}
use Rattle.rep_convert.proofs.Filled.{clear_filled, normed_filled, starting_without}
use Rattle.rep_convert.proofs.Growing.{flat_held, open_more, state_more}
use Rattle.rep_convert.proofs.HeldProducts.{product_held}
use Rattle.rep_convert.proofs.Joined.{joined, length-joined, pieces_joined}
use Rattle.rep_convert.proofs.LineEntries.{begun, lines_log, lines_state, unstarted}

-- what is numbered is listed
numbered_listed : {X : Type 0} (xs : List X) (d : X) (p : ℕ × X) → Contains (enumerate_from 1 xs) p → Contains xs p.1
numbered_listed {X} xs d p c = member_of (λ (q : ℕ × X). Contains xs q.1) (enumerate_from 1 xs) p
    (all_numbered (λ (q : ℕ × X). Contains xs q.1) 1 xs d (λ i l. Contains-get_or xs i d l)) c

-- ---- places
module _ (rep : Rep) (some : has_rows rep ≡ true) (lines : List (List ℚ)) (are : AreLinesOf rep lines) where
  pub lines_stand : LinesStand rep lines
  lines_stand = record { echelon = are.echelon; corner = are.orthogonal }

  pub within : (l : List ℚ) → Contains lines l → leading_place l ≤ rep.width
  within l c = line_within rep some lines lines_stand l c

  -- with the lines there are as many entries outside their places as all
  pub entries_many : width_without rep lines + length lines ≡ suc rep.width
  entries_many = ap (λ (n : ℕ). n + length lines) (sym (same_count lines rep.width within)) ∙ open_places (suc rep.width) lines are.echelon

  pub reduced_filled : (v : List ℚ) → IsReduced lines (with_zeros (marks_of rep lines) v)
  reduced_filled v = reduced_of lines (with_zeros (marks_of rep lines) v)
      (subst (λ (u : List ℚ). IsFlatAt lines u) (same_with lines rep.width within v)
      (with_flat (suc rep.width) lines (echelon_of (suc rep.width) lines are.echelon) v))

-- ---- a start
module _ (rep : Rep) (some : has_rows rep ≡ true) (lines : List (List ℚ)) (are : AreLinesOf rep lines) (picks : List ℕ) (gens : List (List ℚ)) (dd : Description)
    (h : IsStarted rep lines picks gens dd) where
  abbrev bs : List Bool
  bs = marks_of rep lines

  abbrev n : ℕ
  n = width_without rep lines

  abbrev first : List (List ℚ)
  first = h.start.vectors

  many : length bs ≡ rep.width
  many = length-marks rep.width lines

  live_vectors : vectors dd.list.live ≡ first
  live_vectors = ap (λ (l : LiveList). vectors l.live) h.start.list_is ∙ vectors-numbered 1 first

  gens_are : gens ≡ map (with_zeros bs) first
  gens_are = h.filled ∙ ap (map (with_zeros bs)) live_vectors

  first_wide : (v : List ℚ) → Contains first v → length v ≡ n
  first_wide v c = member_of (HasWidth n) first v h.start.corners.vectors_wide.wide c

  gens_all : (P : List ℚ → Type 0) → ((v : List ℚ) → Contains first v → P (with_zeros bs v)) → All P gens
  gens_all P each = subst (All P) (sym gens_are) (All-map P (with_zeros bs) first (all_of_members (λ v. P (with_zeros bs v)) first each))

  gens_wide : AreWide (suc rep.width) gens
  gens_wide = record { wide = gens_all (HasWidth (suc rep.width)) (λ v c. length-filled bs v (first_wide v c) ∙ ap suc many) }

  gens_many : length gens ≡ length picks
  gens_many = ap length gens_are ∙ length-map first (with_zeros bs) ∙ h.start.corners.vectors_many ∙ sym h.many

  parts : pieces (length picks) (suc rep.width) (joined gens) ≡ gens
  parts = ap (λ (k : ℕ). pieces k (suc rep.width) (joined gens)) (sym gens_many) ∙ pieces_joined (suc rep.width) gens gens_wide

  -- the product of a row of the start with a first generator, in full width and without the places
  row_here : (i : ℕ) → i < length picks → slice_index_or (picked_without rep lines picks) i [] ≡ without bs (slice_index_or (map (row_at rep) picks) i [])
  row_here i l = get_or-map (without bs) (map (row_at rep) picks) i [] [] (subst (λ (k : ℕ). i < k) (sym (length-map picks (row_at rep))) l)

  gen_here : (j : ℕ) → j < length picks → slice_index_or gens j [] ≡ with_zeros bs (slice_index_or first j [])
  gen_here j l = ap (λ (vs : List (List ℚ)). slice_index_or vs j []) gens_are
      ∙ get_or-map (with_zeros bs) first j [] [] (let k = h.start.corners.vectors_many in let p = h.many in omega (arith, k, p, l))

  value_here : (i j : ℕ) → i < length picks → j < length picks → dot (slice_index_or (map (row_at rep) picks) i []) (slice_index_or gens j [])
      ≡ dot (slice_index_or (picked_without rep lines picks) i []) (slice_index_or first j [])
  value_here i j l m =
      ap (dot (slice_index_or (map (row_at rep) picks) i [])) (gen_here j m)
      ∙ sym (dot-without bs (slice_index_or (map (row_at rep) picks) i []) (slice_index_or first j []))
      ∙ ap (λ (r : List ℚ). dot r (slice_index_or first j [])) (sym (row_here i l))

  below : (i : ℕ) → i < length picks → i < n
  below i l = let p = h.many in omega (arith, p, l)

  meets_start : MeetsStart rep (record nothing { lines = lines }) picks (joined gens)
  meets_start = record {
    rows_many = ap (λ (k : ℕ). k + length lines) h.many ∙ entries_many rep some lines are;
    gens_many = length-joined (suc rep.width) gens gens_wide ∙ ap (λ (k : ℕ). k * suc rep.width) gens_many;
    rise = h.rise;
    exist = h.exist;
    reduced = subst (All (IsReduced lines)) (sym parts) (gens_all (IsReduced lines) (λ v c. reduced_filled rep some lines are v));
    normed = subst (All IsNormed) (sym parts) (gens_all IsNormed (λ v c. normed_filled bs v (first_wide v c) (member_of IsNormed first v h.start.normed c)));
    positive = λ i l. subst (λ (vs : List (List ℚ)). zero_ℚ <ℚ dot (slice_index_or (map (row_at rep) picks) i []) (slice_index_or vs i [])) (sym parts)
        (subst (λ (x : ℚ). zero_ℚ <ℚ x) (sym (value_here i i l l)) (h.start.corners.positive i (below i l)));
    zero_elsewhere = λ i j l m differ. ap (λ (vs : List (List ℚ)). dot (slice_index_or (map (row_at rep) picks) i []) (slice_index_or vs j [])) parts
        ∙ value_here i j l m ∙ h.start.corners.zero_elsewhere i j (below i l) (below j m) differ;
  }

  meets : Meets rep (lines_log lines) (Start picks (joined gens))
  meets = record {
    order = both_hold (has_rows rep && has_begun (lines_log lines)) (not (has_start (lines_log lines)))
        (both_hold (has_rows rep) (has_begun (lines_log lines)) some (begun lines)) (ap not (unstarted lines));
    rules = subst (λ (s : State). MeetsStart rep s picks (joined gens)) (sym (lines_state rep lines)) meets_start;
  }

  -- ---- its steps
  row_wide : (k : ℕ) → Contains picks k → length (row_at rep k) ≡ suc rep.width
  row_wide k c = (text_rows_wide rep).wide k [] (member_of (λ j. j < length (text_rows rep)) picks k h.exist c)

  product_at : (k : ℕ) (g : List ℚ) → Contains picks k → Contains gens g → All (IsHeldStep is_held) (dot_steps (row_at rep k) g)
  product_at k g c d = product_held is_held (row_at rep k) g (row_wide k c ∙ sym (member_of (HasWidth (suc rep.width)) gens g gens_wide.wide d))
      (member_of (λ v. AreHeld is_held (row_at rep k) v (length (row_at rep k))) gens g
      (member_of (λ r. All (λ v. AreHeld is_held r v (length r)) gens) (map (row_at rep) picks) (row_at rep k) h.held (Contains-map (row_at rep) picks k c)) d)

  one_held : (e : Event) → IsHeldStep is_held e → All (IsHeldStep is_held) (e ∷ [])
  one_held e k = All-cons (IsHeldStep is_held) e [] k (All-nil (IsHeldStep is_held))

  corner_held : (g : ℕ × List ℚ) → Contains gens g.1 → (row : ℕ × ℕ) → Contains picks row.1 →
      All (IsHeldStep is_held) (corner_events (row_at rep row.1) (row.0 == g.0) g.1)
  corner_held g c row d =
      let e : Event = test rule.Corner (if row.0 == g.0 then lt_ℚ zero_ℚ (dot (row_at rep row.1) g.1) else is_zero (dot (row_at rep row.1) g.1)) in
      All-append (IsHeldStep is_held) (dot_steps (row_at rep row.1) g.1) (e ∷ []) (product_at row.1 g.1 d c) (one_held e tt)

  generator_held : (s : State) (g : ℕ × List ℚ) → Contains gens g.1 → All (IsHeldStep is_held) (generator_events rep s.lines picks g)
  generator_held s g c =
      All-cons (IsHeldStep is_held) (test rule.Corner (is_first s.lines g.1)) (corners_events rep g picks) tt
      (flat_held (λ (row : ℕ × ℕ). corner_events (row_at rep row.1) (row.0 == g.0) g.1) (enumerate_from 1 picks)
      (λ row d. corner_held g c row (numbered_listed picks 0 row d)))

  steps_held : All (IsHeldStep is_held) (events rep (lines_log lines) (Start picks (joined gens)))
  steps_held =
      let s : State = state rep (lines_log lines) in
      let of_gens : List Event = flat_map (generator_events rep s.lines picks) (enumerate_from 1 (pieces (length picks) (suc rep.width) (joined gens))) in
      let index : Event = test rule.Index (rises picks && all_below (length (text_rows rep)) picks) in
      let long : Event = test rule.Length (length picks + length s.lines == suc rep.width && length (joined gens) == length picks * suc rep.width) in
      All-cons (IsHeldStep is_held) (test rule.Order (in_order (has_rows rep) (lines_log lines) (Start picks (joined gens)))) (long ∷ index ∷ of_gens) tt
      (All-cons (IsHeldStep is_held) long (index ∷ of_gens) tt
      (All-cons (IsHeldStep is_held) index of_gens tt
      (flat_held (generator_events rep s.lines picks) (enumerate_from 1 (pieces (length picks) (suc rep.width) (joined gens)))
      (λ g d. generator_held s g (subst (λ (vs : List (List ℚ)). Contains vs g.1) parts (numbered_listed (pieces (length picks) (suc rep.width) (joined gens)) [] g d))))))

  -- ---- what stands after it
  abbrev log : List ConvEntry
  log = lines_log lines ++ Start picks (joined gens) ∷ []

  abbrev state_after : State
  state_after = record { lines = lines; used = picks; list = starting 1 gens }

  pub state_is : state rep log ≡ state_after
  state_is =
      state_more rep (lines_log lines) (Start picks (joined gens))
      ∙ ap (λ (s : State). after rep s (Start picks (joined gens))) (lines_state rep lines)
      ∙ ap (λ (vs : List (List ℚ)). record { lines = lines; used = picks; list = starting 1 vs }) parts

  record IsAfter (s : State) : Type 0 where
    pub lines_are : AreLinesOf rep s.lines
    pub wide : AreWide (suc rep.width) (vectors s.list.live)
    pub clear : All (IsClear (marks_of rep s.lines)) (vectors s.list.live)
    pub width : dd.width ≡ width_without rep s.lines
    pub rows : dd.rows ≡ map (without (marks_of rep s.lines)) (rows_in_use rep s)
    pub list : dd.list ≡ list_without (marks_of rep s.lines) s.list

  numbered_gens : vectors (starting 1 gens).live ≡ gens
  numbered_gens = vectors-numbered 1 gens

  stands_after : IsAfter state_after
  stands_after = record {
    lines_are = are;
    wide = subst (AreWide (suc rep.width)) (sym numbered_gens) gens_wide;
    clear = subst (All (IsClear bs)) (sym numbered_gens) (gens_all (IsClear bs) (λ v c. clear_filled bs v));
    width = h.start.width;
    rows = h.start.rows_are;
    list = h.start.list_is ∙ sym (ap (λ (vs : List (List ℚ)). list_without bs (starting 1 vs)) gens_are ∙ starting_without bs first);
  }

  made : IsMadeOver dd.width dd.rows dd.list
  made =
      subst (λ (k : ℕ). IsMadeOver k dd.rows dd.list) (sym h.start.width)
      (subst (λ (rows : List (List ℚ)). IsMadeOver n rows dd.list) (sym h.start.rows_are)
      (subst (λ (l : LiveList). IsMadeOver n (picked_without rep lines picks) l) (sym h.start.list_is)
      (generator_laws.starts n (picked_without rep lines picks) first h.start.corners h.start.normed)))

  pub stands_at : IsOpenLog rep (lines_log lines) → IsTrue (is_formed conv_grammar (Start picks (joined gens))) → StandsAt rep log dd
  stands_at opened written =
      let b : IsAfter (state rep log) = subst IsAfter (sym state_is) stands_after in
      record {
        open_log = open_more rep (lines_log lines) (Start picks (joined gens)) opened meets steps_held written refl;
        started = list_any-append is_start (lines_log lines) (Start picks (joined gens) ∷ []) ∙ or_right (has_start (lines_log lines)) true refl;
        lines = b.lines_are;
        wide = b.wide;
        clear = b.clear;
        same = record { width = b.width; rows = b.rows; list = b.list };
        made = made;
      }
