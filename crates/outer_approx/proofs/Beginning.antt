-- A `start` with the cuts of a trail of which none is in use: it meets its rule, and what stands after it.
use Rattle.std.proofs.Common.{◌≡◌, ℕ, suc, ◌+◌, ◌*◌, ◌≤◌, List, [], ◌∷◌, map, length, take, All, refl, sym, ap, ap₂, ◌∙◌, subst, arith, Bool, false, true≢false, not, IsTrue}
use Rattle.std.specs.List.{range_with_len}
use Rattle.std.proofs.lemmas.List.{length-map, map-id}
use Rattle.std.proofs.lemmas.List.FromFn.{length-range_with_len}
use Rattle.std.proofs.lemmas.Simd.{map-map}
use Rattle.std.proofs.lemmas.List.Elements.{All-head, All-map, All-tail, All-weaker}
use Rattle.exact_field.specs.Rational.{ℚ, zero_ℚ, one_ℚ}
use Rattle.polyhedra.specs.Cone.{HasFullRank}
use Rattle.polyhedra.specs.Dependence.{AreCorners}
use Rattle.polyhedra.specs.DoubleDescription.{IsNormed, magnitude}
use Rattle.polyhedra.specs.Exactness.{homogenised, row_of, rows_of}
use Rattle.polyhedra.specs.Hull.{IsNormedDirection}
use Rattle.polyhedra.specs.Inequality.{Inequality}
use Rattle.polyhedra.specs.LiveList.{LiveList, Numbered, numbered, starting, vectors}
use Rattle.polyhedra.specs.Vectors.{AreWide}
use Rattle.polyhedra.proofs.LiveList.{vectors-numbered}
use Rattle.polyhedra.proofs.Tests.{both_hold}
use Rattle.lineality.specs.Lines.{AreEchelon}
use Rattle.lineality.specs.Steps.{IsCornerAlong, list_without}
use Rattle.lineality.specs.Without.{marks, open_count, with_zeros, without}
use Rattle.lineality.proofs.Echelon.{echelon_of}
use Rattle.lineality.proofs.Erased.{erased_rows}
use Rattle.lineality.proofs.Marks.{length-marks}
use Rattle.lineality.proofs.Masks.{inequality_without, leading-with, length-with, length-without, with-homogenised, without-with}
use Rattle.lineality.proofs.StepsWithout.{numbered-less}
use Rattle.tableaux.specs.Table.{row_of as row_at}
use Rattle.upper_image.specs.Spots.{pieces}
use Rattle.vlp_problem.specs.declared.problem.Problem.{Problem}
use Rattle.deriv_log.specs.declared.entry.Entry.{Entry}
use Rattle.double_descr.specs.Starting.{IsStart}
use Rattle.double_descr.specs.State.{State as Description}
use Rattle.log_rules.specs.Live.{State, inequality, cut_at, cut_row, first_vectors, lines}
use Rattle.log_rules.specs.Meets.{MeetsStart}
use Rattle.log_rules.specs.Order.{has, in_order}
use Rattle.log_rules.specs.Order as order
use Rattle.log_rules.proofs.NormedMembers.{front-homogenised}
use Rattle.outer_approx.specs.First.{AreFirst, front_with}
use Rattle.outer_approx.proofs.Corner.{IsWay, is_corner, point, rows_full, ways}
use Rattle.outer_approx.proofs.Lifted.{lifted}
use Rattle.outer_approx.proofs.Numbers.{by_places, range_places, range_rises}

-- a `start` may stand after a duality entry, and no other `start`
pub start_in_order : (trail : List Entry) → IsTrue (has order.duality trail) → has order.start trail ≡ false → IsTrue (in_order trail order.start)
start_in_order [] h k = absurd (true≢false (sym h))
start_in_order (e ∷ trail) h k = both_hold _ _ (both_hold _ _ (both_hold _ _ (both_hold _ _ (ap not k) h) refl) refl) refl

-- ---- the cuts of a trail, by their numbers
module _ (n : ℕ) (s : State) (cuts : List Inequality) (cuts_are : map inequality s.cuts ≡ cuts) (many : length cuts ≡ n) where
  pub stated_many : length s.cuts ≡ n
  stated_many = sym (length-map s.cuts inequality) ∙ ap length cuts_are ∙ many

  abbrev numbers : List ℕ
  numbers = range_with_len 1 n

  pub exist : All (λ k. (1 ≤ k) × (k ≤ length s.cuts)) numbers
  exist = subst (λ m. All (λ k. (1 ≤ k) × (k ≤ m)) numbers) (sym stated_many) (range_places n)

  pub listed : map (λ k. inequality (cut_at s.cuts k)) numbers ≡ cuts
  listed = by_places inequality s.cuts record { w = []; gamma = zero_ℚ; u = [] } n stated_many ∙ cuts_are

  -- their normals and rows
  pub normals_listed : map (row_at (map (λ cut. cut.w) s.cuts)) numbers ≡ map (λ e. e.normal) cuts
  normals_listed =
      by_places (λ (w : List ℚ). w) (map (λ cut. cut.w) s.cuts) [] n (length-map s.cuts (λ cut. cut.w) ∙ stated_many)
      ∙ map-id (map (λ cut. cut.w) s.cuts) ∙ sym (map-map (λ e. e.normal) inequality s.cuts) ∙ ap (map (λ e. e.normal)) cuts_are

  pub rows_listed : map (cut_row s) numbers ≡ map row_of cuts
  rows_listed =
      by_places (λ cut. row_of (inequality cut)) s.cuts record { w = []; gamma = zero_ℚ; u = [] } n stated_many
      ∙ sym (map-map row_of inequality s.cuts) ∙ ap (map row_of) cuts_are

-- ---- the point and the directions of a start
-- the entries of a generator, but the last one, with zeros at the places
module _ (bs : List Bool) (v : List ℚ) (t : ℚ) (wide : length (take (open_count bs) v) ≡ open_count bs)
    (same : v ≡ homogenised (take (open_count bs) v) t) where
  filled_same : with_zeros bs v ≡ homogenised (with_zeros bs (take (open_count bs) v)) t
  filled_same = ap (with_zeros bs) same ∙ with-homogenised bs (take (open_count bs) v) t wide

  pub front_is : front_with bs v ≡ with_zeros bs (take (open_count bs) v)
  front_is = ap (take (length bs)) filled_same
      ∙ front-homogenised (length bs) (with_zeros bs (take (open_count bs) v)) t (length-with bs (take (open_count bs) v) wide)

  pub filled_is : homogenised (front_with bs v) t ≡ with_zeros bs v
  filled_is = ap (λ (y : List ℚ). homogenised y t) front_is ∙ sym filled_same

pub record IsFirstCorner (n : ℕ) (ls : List (List ℚ)) (cuts : List Inequality) (vs : List (List ℚ)) (point directions : List ℚ) : Type 0 where
  pub normed : All IsNormedDirection (pieces (open_count (marks n ls)) n directions)
  pub corner : IsCornerAlong n ls cuts point (pieces (open_count (marks n ls)) n directions)
  pub vectors_are : first_vectors n (open_count (marks n ls)) point directions ≡ map (with_zeros (marks n ls)) vs

-- those of normed corners of the rows without the entries at the places of lines
module _ (n : ℕ) (ls : List (List ℚ)) (echelon : AreEchelon n ls) (cuts : List Inequality) (wide : All (λ e. length e.normal ≡ n) cuts) where
  abbrev bs : List Bool
  bs = marks n ls

  abbrev m : ℕ
  m = open_count (marks n ls)

  abbrev short : List Inequality
  short = map (inequality_without (marks n ls)) cuts

  short_wide : All (λ e. length e.normal ≡ m) short
  short_wide = All-map (λ e. length e.normal ≡ m) (inequality_without bs) cuts
      (All-weaker (λ e. length e.normal ≡ n) (λ (e : Inequality). length (without bs e.normal) ≡ m)
      (λ e h. length-without bs e.normal (h ∙ sym (length-marks n ls))) cuts wide)

  short_rows : map (without bs) (rows_of n cuts) ≡ rows_of m short
  short_rows = erased_rows n ls (echelon_of n ls echelon) cuts wide

  ways_front : (vs : List (List ℚ)) → All (IsWay m) vs → map (front_with bs) vs ≡ map (with_zeros bs) (map (take m) vs)
  ways_front [] h = refl
  ways_front (v ∷ vs) h =
      let w = All-head (IsWay m) v vs h in
      ap₂ (λ (a : List ℚ) (b : List (List ℚ)). a ∷ b) (front_is bs v zero_ℚ w.wide w.same) (ways_front vs (All-tail (IsWay m) v vs h))

  ways_filled : (vs : List (List ℚ)) → All (IsWay m) vs → map (λ d. homogenised d zero_ℚ) (map (front_with bs) vs) ≡ map (with_zeros bs) vs
  ways_filled [] h = refl
  ways_filled (v ∷ vs) h =
      let w = All-head (IsWay m) v vs h in
      ap₂ (λ (a : List ℚ) (b : List (List ℚ)). a ∷ b) (filled_is bs v zero_ℚ w.wide w.same) (ways_filled vs (All-tail (IsWay m) v vs h))

  corner_of : (first : List ℚ) (others : List (List ℚ)) → AreCorners (suc m) (rows_of m short) (first ∷ others) → All IsNormed (first ∷ others) →
      (point directions : List ℚ) → point ≡ front_with bs first → pieces m n directions ≡ map (front_with bs) others →
      IsFirstCorner n ls cuts (first ∷ others) point directions
  corner_of first others corners normed y directions p ds =
      let there = point m short first others short_wide corners normed in
      let each = ways m short first others short_wide corners normed in
      let here : y ≡ with_zeros bs (take m first) = p ∙ front_is bs first one_ℚ there.wide there.same in
      let along : pieces m n directions ≡ map (with_zeros bs) (map (take m) others) = ds ∙ ways_front others each in
      record {
        normed = subst (All IsNormedDirection) (sym along) (All-map IsNormedDirection (with_zeros bs) (map (take m) others)
            (All-map (λ z. IsNormedDirection (with_zeros bs z)) (take m) others
            (All-weaker (IsWay m) (λ v. IsNormedDirection (with_zeros bs (take m v))) (λ v w. ap magnitude (leading-with bs (take m v)) ∙ w.normed) others each)));
        corner = subst (λ (x : List ℚ). IsCornerAlong n ls cuts x (pieces m n directions)) (sym here)
            (subst (IsCornerAlong n ls cuts (with_zeros bs (take m first))) (sym along)
            (lifted n ls echelon cuts wide (take m first) (map (take m) others) (is_corner m short first others short_wide corners normed)));
        vectors_are = ap₂ (λ (x : List ℚ) (vs : List (List ℚ)). homogenised x one_ℚ ∷ map (λ d. homogenised d zero_ℚ) vs) p ds
            ∙ ap₂ (λ (v : List ℚ) (vs : List (List ℚ)). v ∷ vs) (filled_is bs first one_ℚ there.wide there.same) (ways_filled others each);
      }

  pub first_corner : (vs : List (List ℚ)) → AreCorners (suc m) (map (without bs) (rows_of n cuts)) vs → All IsNormed vs → (point directions : List ℚ) →
      point ∷ pieces m n directions ≡ map (front_with bs) vs → IsFirstCorner n ls cuts vs point directions
  first_corner [] corners normed y directions fronts = absurd (let k = corners.vectors_many in omega (arith, k))
  first_corner (first ∷ others) corners normed y directions fronts =
      let p : y ≡ front_with bs first = cc in
      let ds : pieces m n directions ≡ map (front_with bs) others = cc in
      corner_of first others (subst (λ (rows : List (List ℚ)). AreCorners (suc m) rows (first ∷ others)) short_rows corners) normed y directions p ds

  -- their rows are independent
  pub short_rank : HasFullRank m (map (without bs) (map (λ e. e.normal) cuts)) → HasFullRank (suc m) (map (without bs) (rows_of n cuts))
  short_rank rank = subst (HasFullRank (suc m)) (sym short_rows) (rows_full m short short_wide
      (subst (HasFullRank m) (map-map (without bs) (λ (e : Inequality). e.normal) cuts ∙ sym (map-map (λ (e : Inequality). e.normal) (inequality_without bs) cuts)) rank))

-- ---- the rule
module _ (file : Problem) (before : List Entry) (s : State) (ls : List (List ℚ)) (lines_are : lines before ≡ ls) (cuts : List Inequality)
    (cuts_are : map inequality s.cuts ≡ cuts) (many : length cuts ≡ open_count (marks file.objs ls)) (some : 1 ≤ length cuts) (vs : List (List ℚ))
    (y directions : List ℚ) (long : length directions ≡ open_count (marks file.objs ls) * file.objs) (k : IsFirstCorner file.objs ls cuts vs y directions) where
  abbrev count : ℕ
  count = open_count (marks file.objs ls)

  counted : length (range_with_len 1 count) ≡ count
  counted = length-range_with_len 1 count

  pub meets_start : MeetsStart file before s (range_with_len 1 count) y directions
  meets_start = record {
    some = subst (λ (i : ℕ). 1 ≤ i) (many ∙ sym counted) some;
    directions_many = long ∙ ap (λ (i : ℕ). i * file.objs) (sym counted);
    rise = range_rises 1 count;
    exist = exist count s cuts cuts_are many;
    normed = subst (λ (i : ℕ). All IsNormedDirection (pieces i file.objs directions)) (sym counted) k.normed;
    corner = subst (λ (i : ℕ). IsCornerAlong file.objs (lines before) (map (λ j. inequality (cut_at s.cuts j)) (range_with_len 1 count)) y (pieces i file.objs directions)) (sym counted)
        (subst (λ (ds : List (List ℚ)). IsCornerAlong file.objs ds (map (λ j. inequality (cut_at s.cuts j)) (range_with_len 1 count)) y (pieces count file.objs directions)) (sym lines_are)
        (subst (λ (es : List Inequality). IsCornerAlong file.objs ls es y (pieces count file.objs directions)) (sym (listed count s cuts cuts_are many)) k.corner));
  }

-- ---- a double description of the start
pub are_first : (n : ℕ) (rows : List (List ℚ)) (dd : Description) → IsStart (suc n) rows dd → AreFirst n dd.list
are_first n rows dd h =
    let same : vectors dd.list.live ≡ h.vectors = ap (λ (l : LiveList). vectors l.live) h.list_is ∙ vectors-numbered 1 h.vectors in
    record {
      is = h.list_is ∙ ap (starting 1) (sym same);
      many = ap length same ∙ h.corners.vectors_many;
      wide = subst (AreWide (suc n)) (sym same) h.corners.vectors_wide;
    }

pub first_of_start : (n : ℕ) (ls : List (List ℚ)) → AreEchelon n ls → (cuts : List Inequality) (dd : Description) → All (λ e. length e.normal ≡ n) cuts →
    IsStart (suc (open_count (marks n ls))) (map (without (marks n ls)) (rows_of n cuts)) dd → (y directions : List ℚ) →
    y ∷ pieces (open_count (marks n ls)) n directions ≡ map (front_with (marks n ls)) (vectors dd.list.live) →
    IsFirstCorner n ls cuts (vectors dd.list.live) y directions
first_of_start n ls echelon cuts dd wide h y directions fronts =
    let same : vectors dd.list.live ≡ h.vectors = ap (λ (l : LiveList). vectors l.live) h.list_is ∙ vectors-numbered 1 h.vectors in
    first_corner n ls echelon cuts wide (vectors dd.list.live)
    (subst (AreCorners (suc (open_count (marks n ls))) (map (without (marks n ls)) (rows_of n cuts))) (sym same) h.corners)
    (subst (All IsNormed) (sym same) h.normed) y directions fronts

-- vectors with zeros at the places, under the numbers from 1 on, are these vectors without them
pub starting_without : (bs : List Bool) (vs : List (List ℚ)) → list_without bs (starting 1 (map (with_zeros bs) vs)) ≡ starting 1 vs
starting_without bs vs =
    ap₂ (λ (live : List Numbered) (n : ℕ). record { live = live; next = n })
    (sym (numbered-less bs 1 (map (with_zeros bs) vs)) ∙ ap (numbered 1) (back vs))
    (ap (λ (k : ℕ). 1 + k) (length-map vs (with_zeros bs)))
  where
    back : (us : List (List ℚ)) → map (without bs) (map (with_zeros bs) us) ≡ us
    back [] = refl
    back (u ∷ us) = ap₂ (λ (a : List ℚ) (b : List (List ℚ)). a ∷ b) (without-with bs u) (back us)
