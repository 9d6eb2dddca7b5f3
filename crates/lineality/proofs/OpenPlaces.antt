-- As many places are open as there are entries beside the lines; and corners without the entries at
-- the places of the lines.
use Rattle.std.proofs.Common.{◌≡◌, ◌≢◌, ℕ, zero, suc, ◌+◌, ◌<◌, ◌≤◌, ◌⊎◌, inl, inr, List, [], ◌∷◌, map, length, All, AllPairs, Contains, Bool, true, false, true≢false, refl, sym, ap, ap₂, ◌∙◌, subst, arith, slice_index_or}
use Rattle.std.specs.Prelude.{◌==◌, ◌||◌}
use Rattle.std.proofs.lemmas.Bool.Decides.{eqb_tells}
use Rattle.std.proofs.lemmas.List.{length-map}
use Rattle.std.proofs.lemmas.List.Elements.{All-head, All-tail, All-map}
use Rattle.exact_field.specs.Rational.{ℚ, zero_ℚ, one_ℚ, ◌<ℚ◌}
use Rattle.exact_field.specs.Vector.{dot}
use Rattle.polyhedra.specs.Vectors.{AreWide}
use Rattle.polyhedra.specs.Inequality.{Inequality}
use Rattle.polyhedra.specs.TightSets.{IsDoubleDescriptionPair}
use Rattle.polyhedra.specs.Exactness.{homogenised, rows_of, IsCornerOf}
use Rattle.polyhedra.proofs.CornerStarts.{corner_starts}
use Rattle.polyhedra.proofs.Lists.{HasWidth, Contains-here, Contains-there, slice-map}
use Rattle.polyhedra.proofs.Members.{all_of_members, member_of, pairs-head, pairs-tail}
use Rattle.lineality.specs.Lines.{leading_place, AreEchelon}
use Rattle.lineality.specs.Without.{is_line_place, marks_from, marks, open_count, without}
use Rattle.lineality.specs.Steps.{OpenPlaces, IsCornerAlong, CornersAlong}
use Rattle.lineality.proofs.Masks.{inequality_without}
use Rattle.lineality.proofs.Places.{first}
use Rattle.lineality.proofs.Echelon.{IsOne, ComesFirst, IsEchelon, echelon_of}
use Rattle.lineality.proofs.Marks.{marked, marks_line, first_within}
use Rattle.lineality.proofs.Erased.{erased_wide, same_product, erased_homogenised, erased_rows}

-- ---- counting
-- the marks of places after the first line are those of the others
others_from : (d : List ℚ) (lines : List (List ℚ)) (k n : ℕ) → first d < k → marks_from (suc k) n (d ∷ lines) ≡ marks_from (suc k) n lines
others_from d lines k zero h = refl
others_from d lines k (suc n) h = ap₂ (λ b bs. b ∷ bs) (here d lines k h) (others_from d lines (suc k) n (omega arith))
  where
    here : (d : List ℚ) (lines : List (List ℚ)) (k : ℕ) → first d < k → is_line_place (d ∷ lines) (suc k) ≡ is_line_place lines (suc k)
    here d lines k h = elim (eqb_tells (leading_place d) (suc k)) [
      | inl e ↦ absurd (let a = Rattle.lineality.proofs.Places.place_is d in let b = e.1 in omega (arith, a, b, h))
      | inr e ↦ ap (λ b. b || is_line_place lines (suc k)) e.0
    ]

not_marked : (lines : List (List ℚ)) (k : ℕ) → ((d : List ℚ) → Contains lines d → first d ≢ k) → is_line_place lines (suc k) ≡ false
not_marked lines k h = go (is_line_place lines (suc k)) refl
  where
    go : (b : Bool) → is_line_place lines (suc k) ≡ b → b ≡ false
    go false e = refl
    go true e = let m : (d : List ℚ) × Contains lines d × (first d ≡ k) = marked lines k e in absurd (h m.0 m.1 m.2)

count_mark : (b : Bool) (bs : List Bool) (t : ℕ) → b ≡ true → open_count bs ≡ t → open_count (b ∷ bs) ≡ t
count_mark true bs t e h = h
count_mark false bs t e h = absurd (true≢false (sym e))

count_open : (b : Bool) (bs : List Bool) (t : ℕ) → b ≡ false → open_count bs ≡ t → open_count (b ∷ bs) ≡ suc t
count_open false bs t e h = ap suc h
count_open true bs t e h = absurd (true≢false e)

count_from : (n k : ℕ) (lines : List (List ℚ)) → AllPairs ComesFirst lines → All (λ d. k ≤ first d) lines → All (λ d. first d < k + n) lines →
    (free : ℕ) × (open_count (marks_from (suc k) n lines) ≡ free) × (free + length lines ≡ n)
count_from zero k [] rise low high = (0, refl, refl)
count_from zero k (d ∷ lines) rise low high =
    absurd (let a = All-head (λ d. k ≤ first d) d lines low in let b = All-head (λ d. first d < k + 0) d lines high in omega (arith, a, b))
count_from (suc n) k [] rise low high =
    let rest : (free : ℕ) × (open_count (marks_from (suc (suc k)) n []) ≡ free) × (free + 0 ≡ n) =
    count_from n (suc k) [] rise (Rattle.std.proofs.lemmas.List.Elements.All-nil (λ d. suc k ≤ first d)) (Rattle.std.proofs.lemmas.List.Elements.All-nil (λ d. first d < suc k + n)) in
    let total = rest.2 in (suc rest.0, ap suc rest.1, omega (arith, total))
count_from (suc n) k (d ∷ lines) rise low high = by (count_from n (suc k)) (eqb_tells (first d) k)
  where
    later : (e : List ℚ) → Contains lines e → first d < first e
    later e c = (member_of (ComesFirst d) lines e (pairs-head ComesFirst d lines rise) c).rises

    d_low : k ≤ first d
    d_low = All-head (λ d. k ≤ first d) d lines low

    within : (e : List ℚ) → Contains (d ∷ lines) e → first e < k + suc n
    within e c = member_of (λ d. first d < k + suc n) (d ∷ lines) e high c

    -- the place is that of the first line
    at_place : ((ls : List (List ℚ)) → AllPairs ComesFirst ls → All (λ d. suc k ≤ first d) ls → All (λ d. first d < suc k + n) ls →
        (free : ℕ) × (open_count (marks_from (suc (suc k)) n ls) ≡ free) × (free + length ls ≡ n)) → first d ≡ k → (free : ℕ) × (open_count (marks_from (suc k) (suc n) (d ∷ lines)) ≡ free) × (free + suc (length lines) ≡ suc n)
    at_place further e =
        let rest : (free : ℕ) × (open_count (marks_from (suc (suc k)) n lines) ≡ free) × (free + length lines ≡ n) =
        further lines (pairs-tail ComesFirst d lines rise)
        (all_of_members (λ x. suc k ≤ first x) lines (λ x c. let l = later x c in omega (arith, l, e)))
        (all_of_members (λ x. first x < suc k + n) lines (λ x c. let l = within x (Contains-there d lines x c) in omega (arith, l))) in
        let total = rest.2 in (
          rest.0,
          count_mark (is_line_place (d ∷ lines) (suc k)) (marks_from (suc (suc k)) n (d ∷ lines)) rest.0
              (ap (λ j. is_line_place (d ∷ lines) (suc j)) (sym e) ∙ marks_line (d ∷ lines) d (Contains-here d lines d refl))
              (ap open_count (others_from d lines (suc k) n (omega (arith, e))) ∙ rest.1),
          omega (arith, total),
        )

    -- or it is open
    past : ((ls : List (List ℚ)) → AllPairs ComesFirst ls → All (λ d. suc k ≤ first d) ls → All (λ d. first d < suc k + n) ls →
        (free : ℕ) × (open_count (marks_from (suc (suc k)) n ls) ≡ free) × (free + length ls ≡ n)) → first d ≢ k → (free : ℕ) × (open_count (marks_from (suc k) (suc n) (d ∷ lines)) ≡ free) × (free + suc (length lines) ≡ suc n)
    past further other =
        let above : suc k ≤ first d = omega (arith, other, d_low) in
        let each = λ (x : List ℚ) (c : Contains (d ∷ lines) x). elim (Rattle.polyhedra.proofs.Lists.Contains-cases d lines x c) as (λ _. suc k ≤ first x) [
          | inl e ↦ subst (λ (v : List ℚ). suc k ≤ first v) e above
          | inr m ↦ (let l = later x m in omega (arith, l, above))
        ] in
        let rest : (free : ℕ) × (open_count (marks_from (suc (suc k)) n (d ∷ lines)) ≡ free) × (free + suc (length lines) ≡ n) =
        further (d ∷ lines) rise
        (all_of_members (λ x. suc k ≤ first x) (d ∷ lines) each)
        (all_of_members (λ x. first x < suc k + n) (d ∷ lines) (λ x c. let l = within x c in omega (arith, l))) in
        let total = rest.2 in (
          suc rest.0,
          count_open (is_line_place (d ∷ lines) (suc k)) (marks_from (suc (suc k)) n (d ∷ lines)) rest.0
              (not_marked (d ∷ lines) k (λ x c e. let l = each x c in omega (arith, l, e))) rest.1,
          omega (arith, total),
        )

    by : ((ls : List (List ℚ)) → AllPairs ComesFirst ls → All (λ d. suc k ≤ first d) ls → All (λ d. first d < suc k + n) ls →
        (free : ℕ) × (open_count (marks_from (suc (suc k)) n ls) ≡ free) × (free + length ls ≡ n)) → (((first d == k) ≡ true) × (first d ≡ k)) ⊎ (((first d == k) ≡ false) × (first d ≢ k)) →
        (free : ℕ) × (open_count (marks_from (suc k) (suc n) (d ∷ lines)) ≡ free) × (free + suc (length lines) ≡ suc n)
    by further (inl e) = at_place further e.1
    by further (inr e) = past further e.1

pub open_places : OpenPlaces
open_places n lines h =
    let form : IsEchelon n lines = echelon_of n lines h in
    let c : (free : ℕ) × (open_count (marks_from 1 n lines) ≡ free) × (free + length lines ≡ n) =
    count_from n 0 lines form.pairs
    (all_of_members (λ d. 0 ≤ first d) lines (λ d k. omega arith))
    (all_of_members (λ d. first d < 0 + n) lines
    (λ d k. let l = first_within n d (member_of (HasWidth n) lines d form.wide.wide k) (member_of IsOne lines d form.ones k) in omega (arith, l))) in
    ap (λ k. k + length lines) c.1 ∙ c.2

-- ---- corners
without-nil : (bs : List Bool) → without bs [] ≡ []
without-nil [] = refl
without-nil (b ∷ bs) = refl

normals_map : (f : List ℚ → List ℚ) (bs : List Bool) (cuts : List Inequality) →
    map (λ (e : Inequality). e.normal) (map (inequality_without bs) cuts) ≡ map (without bs) (map (λ (e : Inequality). e.normal) cuts)
normals_map f bs [] = refl
normals_map f bs (e ∷ cuts) = ap (λ vs. without bs e.normal ∷ vs) (normals_map f bs cuts)

module _ (n : ℕ) (lines : List (List ℚ)) (cuts : List Inequality) (point : List ℚ) (directions : List (List ℚ)) (echelon : AreEchelon n lines)
    (h : IsCornerAlong n lines cuts point directions) where
  abbrev form : IsEchelon n lines
  form = echelon_of n lines echelon

  abbrev W : List ℚ → List ℚ
  W = without (marks n lines)

  abbrev m : ℕ
  m = open_count (marks n lines)

  abbrev cut' : Inequality → Inequality
  cut' = inequality_without (marks n lines)

  many : length cuts ≡ m
  many = let a = open_places n lines echelon in let b = h.cuts_many in omega (arith, a, b)

  normal_at : (i : ℕ) → slice_index_or (map (λ (e : Inequality). e.normal) (map cut' cuts)) i [] ≡ W (slice_index_or (map (λ (e : Inequality). e.normal) cuts) i [])
  normal_at i = ap (λ vs. slice_index_or vs i []) (normals_map W (marks n lines) cuts) ∙ slice-map W (map (λ (e : Inequality). e.normal) cuts) i [] [] (without-nil (marks n lines))

  direction_at : (j : ℕ) → slice_index_or (map W directions) j [] ≡ W (slice_index_or directions j [])
  direction_at j = slice-map W directions j [] [] (without-nil (marks n lines))

  value : (i j : ℕ) → j < m →
      dot (slice_index_or (map (λ (e : Inequality). e.normal) (map cut' cuts)) i []) (slice_index_or (map W directions) j [])
      ≡ dot (slice_index_or (map (λ (e : Inequality). e.normal) cuts) i []) (slice_index_or directions j [])
  value i j l =
      let within : j < length directions = let a = many in let b = h.directions_many in omega (arith, a, b, l) in
      ap₂ (λ a b. dot a b) (normal_at i) (direction_at j)
      ∙ same_product n lines form (slice_index_or (map (λ (e : Inequality). e.normal) cuts) i []) (slice_index_or directions j [])
      (h.directions_wide.wide j [] within) (h.directions_reduced j [] within)

  corner' : IsCornerOf m (map cut' cuts) (W point) (map W directions)
  corner' = record {
    normals_wide = All-map (λ (e : Inequality). length e.normal ≡ m) cut' cuts
        (all_of_members (λ (e : Inequality). length (W e.normal) ≡ m) cuts (λ e k. erased_wide n lines form e.normal (member_of (λ (e : Inequality). length e.normal ≡ n) cuts e h.normals_wide k)));
    point_wide = erased_wide n lines form point h.point_wide;
    directions_wide = record {
      wide = All-map (HasWidth m) W directions (all_of_members (λ d. HasWidth m (W d)) directions
          (λ d k. erased_wide n lines form d (member_of (HasWidth n) directions d h.directions_wide.wide k)));
    };
    cuts_many = length-map cuts cut' ∙ many;
    directions_many = length-map directions W ∙ h.directions_many ∙ many;
    tight = All-map (λ (e : Inequality). dot e.normal (W point) ≡ e.bound) cut' cuts
        (all_of_members (λ (e : Inequality). dot (W e.normal) (W point) ≡ e.bound) cuts
        (λ e k. same_product n lines form e.normal point h.point_wide h.point_reduced ∙ member_of (λ (e : Inequality). dot e.normal point ≡ e.bound) cuts e h.tight k));
    grows = λ i l. subst (λ (x : ℚ). zero_ℚ <ℚ x) (sym (value i i l)) (h.grows i (let a = many in omega (arith, a, l)));
    stays = λ i j l r other. value i j r ∙ h.stays i j (let a = many in omega (arith, a, l)) (let a = many in omega (arith, a, r)) other;
  }

  homogenised_all : (t : ℚ) (ds : List (List ℚ)) → AreWide n ds → map W (map (λ d. homogenised d t) ds) ≡ map (λ d. homogenised d t) (map W ds)
  homogenised_all t [] w = refl
  homogenised_all t (d ∷ ds) w = ap₂ (λ a b. a ∷ b) (erased_homogenised n lines form d t (Rattle.polyhedra.proofs.Lists.wide-head n d ds w))
      (homogenised_all t ds (Rattle.polyhedra.proofs.Lists.wide-tail n d ds w))

  corners : IsDoubleDescriptionPair (suc m) (map W (rows_of n cuts)) (map W (homogenised point one_ℚ ∷ map (λ d. homogenised d zero_ℚ) directions))
  corners = subst (λ (rows : List (List ℚ)). IsDoubleDescriptionPair (suc m) rows (map W (homogenised point one_ℚ ∷ map (λ d. homogenised d zero_ℚ) directions)))
      (sym (erased_rows n lines form cuts h.normals_wide))
      (subst (λ (gs : List (List ℚ)). IsDoubleDescriptionPair (suc m) (rows_of m (map cut' cuts)) gs)
      (sym (ap₂ (λ a b. a ∷ b) (erased_homogenised n lines form point one_ℚ h.point_wide) (homogenised_all zero_ℚ directions h.directions_wide)))
      (corner_starts m (map cut' cuts) (W point) (map W directions) corner'))

pub corners_along : CornersAlong
corners_along n lines cuts point directions echelon h = corners n lines cuts point directions echelon h
