-- The trail and the double description after a start.
use Rattle.std.proofs.Common.{◌≡◌, ℕ, suc, ◌+◌, ◌*◌, ◌≤◌, List, [], ◌∷◌, ◌++◌, map, length, All, Bool, refl, sym, ap, ap₂, ◌∙◌, subst, arith}
use Rattle.std.specs.List.{range_with_len}
use Rattle.std.proofs.lemmas.List.{length-map}
use Rattle.std.proofs.lemmas.List.Elements.{All-map, All-weaker}
use Rattle.std.proofs.lemmas.Simd.{map-map}
use Rattle.std.proofs.lemmas.List.FromFn.{length-range_with_len}
use Rattle.exact_field.specs.Rational.{ℚ}
use Rattle.polyhedra.specs.Cone.{HasFullRank}
use Rattle.polyhedra.specs.Exactness.{level, row_of, rows_of}
use Rattle.polyhedra.specs.Inequality.{Inequality}
use Rattle.polyhedra.specs.LiveList.{LiveList, starting, vectors}
use Rattle.polyhedra.proofs.LiveList.{vectors-numbered}
use Rattle.lineality.specs.Lines.{AreEchelon}
use Rattle.lineality.specs.Steps.{list_without}
use Rattle.lineality.specs.Without.{marks, open_count, with_zeros, without}
use Rattle.lineality.proofs.Marks.{length-marks}
use Rattle.lineality.proofs.OpenPlaces.{open_places}
use Rattle.upper_image.specs.Spots.{pieces}
use Rattle.deriv_log.specs.declared.entry.Entry.{Entry}
use Rattle.deriv_log.specs.declared.entry.Entry.TheVariants.{Start}
use Rattle.double_descr.specs.Starting.{IsStart}
use Rattle.double_descr.specs.State.{State as Description}
use Rattle.log_rules.specs.Live.{State, state, after, first_vectors, in_use, inequality, lines, preimages}
use Rattle.log_rules.specs.Order as order
use Rattle.log_rules.proofs.Entries.{has_last, state-push}
use Rattle.log_rules.proofs.KeepsDescription.{rules_keep_lines}
use Rattle.overflows.specs.Dictionaries.{AreStartRows}
use Rattle.lp_form.specs.declared.shown.Cut.{Cut as CutOf}
use Rattle.outer_approx.specs.Cuts.{said_by}
use Rattle.outer_approx.specs.Lines.{line_places}
use Rattle.outer_approx.specs.Standing.{IsBegun, IsOpenTrail, IsOuter, StandForSame, cuts_of}
use Rattle.outer_approx.specs.Task.{Task, setting}
use Rattle.outer_approx.proofs.Growing.{grows, lines_stay, preimages_stay}
use Rattle.outer_approx.specs.First.{HasStart}
use Rattle.outer_approx.proofs.Beginning.{IsFirstCorner, exist, first_of_start, listed, meets_start, normals_listed, rows_listed, short_rank, start_in_order, starting_without, stated_many}

-- a start states no cut
pub started_cuts : (task : Task) (bs : List Bool) (vs : List (List ℚ)) (old new : List Entry) → HasStart bs vs old new → cuts_of task new ≡ cuts_of task old
started_cuts task bs vs old new h =
    ap (cuts_of task) h.appended
    ∙ ap (λ (s : State). map inequality s.cuts)
    (state-push task.file.objs old (Start (range_with_len 1 (open_count bs)) h.point h.directions))

-- the lines of an open trail are in reduced echelon form
pub trail_echelon : (task : Task) (trail : List Entry) → IsOpenTrail task trail → AreEchelon task.file.objs (lines trail)
trail_echelon task trail o = (rules_keep_lines task.file trail o.base.meet).echelon

-- a trail whose cuts, none of them in use, are with its lines as many as there are objectives
module _ (task : Task) (cuts : List Inequality) (old : List Entry) (begun : IsBegun task (lines old) cuts old)
    (together : length cuts + length (lines old) ≡ task.file.objs) where
  abbrev objs : ℕ
  objs = task.file.objs

  abbrev stands : State
  stands = state objs old

  abbrev bs : List Bool
  bs = line_places task old

  abbrev count : ℕ
  count = open_count (line_places task old)

  pub echelon : AreEchelon objs (lines old)
  echelon = trail_echelon task old begun.open_trail

  pub many : length cuts ≡ count
  many = let a = open_places objs (lines old) echelon in omega (arith, a, together)

  -- the row t ≥ 0 and those of the cuts, without the entries at the places of the lines, may be eliminated
  pub may_eliminate : HasFullRank count (map (without bs) (map (λ e. e.normal) cuts)) →
      AreStartRows (setting task old) (map (without bs) (rows_of objs cuts)) (suc count)
  may_eliminate rank =
      AreStartRows.of_image (range_with_len 1 count) (exist count stands cuts begun.cuts_are many)
      (ap (λ (n : ℕ). n + length (lines old)) (length-range_with_len 1 count ∙ sym many) ∙ together)
      (subst (λ (ns : List (List ℚ)). HasFullRank count (map (without bs) ns)) (sym (normals_listed count stands cuts begun.cuts_are many)) rank)
      (ap (λ (rows : List (List ℚ)). map (without bs) (level objs ∷ rows)) (sym (rows_listed count stands cuts begun.cuts_are many)))

  -- a trail with a `start` more, whose vectors are those of a double description of the start
  module _ (some : 1 ≤ length cuts) (wide : All (λ e. length e.normal ≡ objs) cuts) (dd : Description)
      (start : IsStart (suc count) (map (without bs) (rows_of objs cuts)) dd) (new : List Entry) (h : HasStart bs (vectors dd.list.live) old new) where
    abbrev entry : Entry
    entry = Start (range_with_len 1 count) h.point h.directions

    abbrev later : List Entry
    later = old ++ entry ∷ []

    long : length bs ≡ objs
    long = length-marks objs (lines old)

    corner : IsFirstCorner objs (lines old) cuts (vectors dd.list.live) h.point h.directions
    corner = first_of_start objs (lines old) echelon cuts dd wide start h.point h.directions
        (ap (λ (n : ℕ). h.point ∷ pieces count n h.directions) (sym long) ∙ h.fronts)

    pushed : state objs later ≡ after objs stands entry
    pushed = state-push objs old entry

    pub start_lines : lines later ≡ lines old
    start_lines = lines_stay old entry refl

    open_after : IsOpenTrail task later
    open_after = grows task old entry begun.open_trail
        (record {
          order = start_in_order old begun.open_trail.duality begun.unstarted;
          rules = meets_start task.file old stands (lines old) refl cuts begun.cuts_are many some (vectors dd.list.live) h.point h.directions
              (h.long ∙ ap (λ (n : ℕ). count * n) long) corner;
        })
        tt h.written refl refl

    first : vectors dd.list.live ≡ start.vectors
    first = ap (λ (l : LiveList). vectors l.live) start.list_is ∙ vectors-numbered 1 start.vectors

    cuts_used : in_use (state objs later) ≡ cuts
    cuts_used = ap in_use pushed ∙ listed count stands cuts begun.cuts_are many

    list_after : (state objs later).list ≡ starting 1 (map (with_zeros bs) (vectors dd.list.live))
    list_after = ap (λ (s : State). s.list) pushed
        ∙ ap (λ (n : ℕ). starting 1 (first_vectors objs n h.point h.directions)) (length-range_with_len 1 count)
        ∙ ap (starting 1) corner.vectors_are

    same : StandForSame task later dd
    same = record {
      width = start.width ∙ ap (λ (ls : List (List ℚ)). suc (open_count (marks objs ls))) (sym start_lines);
      rows = start.rows_are
          ∙ ap₂ (λ (ls : List (List ℚ)) (es : List Inequality). map (without (marks objs ls)) (rows_of objs es)) (sym start_lines) (sym cuts_used);
      list = start.list_is ∙ ap (starting 1) (sym first) ∙ sym (starting_without bs (vectors dd.list.live))
          ∙ ap₂ (λ (ls : List (List ℚ)) (l : LiveList). list_without (marks objs ls) l) (sym start_lines) (sym list_after);
    }

    outer : IsOuter task later dd
    outer = record {
      open_trail = open_after;
      started = has_last order.start old entry refl;
      all_used = subst (λ (s : State). s.used ≡ range_with_len 1 (length s.cuts)) (sym pushed)
          (ap (range_with_len 1) (sym (stated_many count stands cuts begun.cuts_are many)));
      same = same;
    }

    pub outer_after : IsOuter task new dd
    outer_after = subst (λ (trail : List Entry). IsOuter task trail dd) (sym h.appended) outer

    pub lines_after : lines new ≡ lines old
    lines_after = ap lines h.appended ∙ start_lines

    pub preimages_after : (k : ℕ) → preimages new k ≡ preimages old k
    preimages_after k = ap (λ (trail : List Entry). preimages trail k) h.appended ∙ preimages_stay old entry k refl

-- ---- cuts as values of the code
module _ {F : Type 0} (value : F → ℚ) (list : List (CutOf F)) where
  pub said_wide : (n : ℕ) → All (λ cut. length cut.w ≡ n) list → All (λ e. length e.normal ≡ n) (map (said_by value) list)
  said_wide n wide = All-map (λ (e : Inequality). length e.normal ≡ n) (said_by value) list
      (All-weaker (λ (cut : CutOf F). length cut.w ≡ n) (λ (cut : CutOf F). length (map value cut.w) ≡ n)
      (λ cut h. length-map cut.w value ∙ h) list wide)

  pub said_normals : map (λ (cut : CutOf F). map value cut.w) list ≡ map (λ (e : Inequality). e.normal) (map (said_by value) list)
  said_normals = sym (map-map (λ (e : Inequality). e.normal) (said_by value) list)

-- ---- a start, in the terms of the call
module _ {F : Type 0} (value : F → ℚ) (task : Task) (places : List Bool) (old : List Entry) (list : List (CutOf F))
    (begun : IsBegun task (lines old) (map (said_by value) list) old) (places_are : places ≡ line_places task old)
    (some : 1 ≤ length list) (together : length list + length (lines old) ≡ task.file.objs) (wide : All (λ cut. length cut.w ≡ task.file.objs) list)
    (rank : HasFullRank (open_count places) (map (without places) (map (λ cut. map value cut.w) list))) where
  abbrev said : List Inequality
  said = map (said_by value) list

  pub places_long : length places ≡ task.file.objs
  places_long = ap (λ (bs : List Bool). length bs) places_are ∙ length-marks task.file.objs (lines old)

  said_together : length said + length (lines old) ≡ task.file.objs
  said_together = ap (λ (n : ℕ). n + length (lines old)) (length-map list (said_by value)) ∙ together

  said_some : 1 ≤ length said
  said_some = subst (λ (n : ℕ). 1 ≤ n) (sym (length-map list (said_by value))) some

  pub wide_here : All (λ cut. length cut.w ≡ length places) list
  wide_here = subst (λ (n : ℕ). All (λ cut. length cut.w ≡ n) list) (sym places_long) wide

  rank_said : HasFullRank (open_count (line_places task old)) (map (without (line_places task old)) (map (λ (e : Inequality). e.normal) said))
  rank_said =
      subst (λ (bs : List Bool). HasFullRank (open_count bs) (map (without bs) (map (λ (e : Inequality). e.normal) said))) places_are
      (subst (λ (ns : List (List ℚ)). HasFullRank (open_count places) (map (without places) ns)) (said_normals value list) rank)

  -- the rows of the call, by their width
  abbrev rows_here : List (List ℚ)
  rows_here = map (without places) (rows_of (length places) said)

  rows_same : rows_here ≡ map (without (line_places task old)) (rows_of task.file.objs said)
  rows_same = ap₂ (λ (bs : List Bool) (n : ℕ). map (without bs) (rows_of n said)) places_are places_long

  width_same : suc (open_count places) ≡ suc (open_count (line_places task old))
  width_same = ap (λ (bs : List Bool). suc (open_count bs)) places_are

  module _ (width : ℕ) (rows : List (List ℚ)) (width_is : width ≡ suc (open_count places)) (rows_are : rows ≡ rows_here) where
    -- what holds of the rows of the trail holds of these, and the other way round
    of_rows : (P : ℕ → List (List ℚ) → Type 0) →
        P (suc (open_count (line_places task old))) (map (without (line_places task old)) (rows_of task.file.objs said)) → P width rows
    of_rows P h = subst (λ (n : ℕ). P n rows) (sym (width_is ∙ width_same))
        (subst (λ (rs : List (List ℚ)). P (suc (open_count (line_places task old))) rs) (sym (rows_are ∙ rows_same)) h)

    at_rows : (P : ℕ → List (List ℚ) → Type 0) → P width rows →
        P (suc (open_count (line_places task old))) (map (without (line_places task old)) (rows_of task.file.objs said))
    at_rows P h = subst (λ (rs : List (List ℚ)). P (suc (open_count (line_places task old))) rs) (rows_are ∙ rows_same)
        (subst (λ (n : ℕ). P n rows) (width_is ∙ width_same) h)

    pub square : length rows ≡ width
    square =
        let long : length rows_here ≡ suc (length said) = length-map (rows_of (length places) said) (without places) ∙ ap suc (length-map said row_of) in
        ap (λ (rs : List (List ℚ)). length rs) rows_are ∙ long ∙ ap suc (many task said old begun said_together) ∙ sym (width_is ∙ width_same)

    pub full_rank : HasFullRank width rows
    full_rank = of_rows (λ (n : ℕ) (rs : List (List ℚ)). HasFullRank n rs)
        (short_rank task.file.objs (lines old) (echelon task said old begun said_together) said (said_wide value list task.file.objs wide) rank_said)

    pub licensed : AreStartRows (setting task old) rows width
    licensed = of_rows (λ (n : ℕ) (rs : List (List ℚ)). AreStartRows (setting task old) rs n) (may_eliminate task said old begun said_together rank_said)

    module _ (dd : Description) (start : IsStart width rows dd) (new : List Entry) (h : HasStart places (vectors dd.list.live) old new) where
      start_at : IsStart (suc (open_count (line_places task old))) (map (without (line_places task old)) (rows_of task.file.objs said)) dd
      start_at = at_rows (λ (n : ℕ) (rs : List (List ℚ)). IsStart n rs dd) start

      has_start : HasStart (line_places task old) (vectors dd.list.live) old new
      has_start = subst (λ (bs : List Bool). HasStart bs (vectors dd.list.live) old new) places_are h

      pub is_outer : IsOuter task new dd
      is_outer = outer_after task said old begun said_together said_some (said_wide value list task.file.objs wide) dd start_at new has_start

      pub same_lines : lines new ≡ lines old
      same_lines = lines_after task said old begun said_together said_some (said_wide value list task.file.objs wide) dd start_at new has_start

      pub unreached : (k : ℕ) → preimages new k ≡ preimages old k
      unreached = preimages_after task said old begun said_together said_some (said_wide value list task.file.objs wide) dd start_at new has_start
