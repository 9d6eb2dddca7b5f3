-- No row of what a conversion gives can be left out.
use Rattle.std.proofs.Common.{◌≡◌, ℕ, zero, suc, ◌+◌, ◌<◌, ◌==◌, not, Bool, true, false, true≢false, cond, if◌then◌else◌, List, [], ◌∷◌, ◌++◌, map, length, take, filter, All, AllPairs, IsTrue, Contains, refl, sym, ap, ap₂, ◌∙◌, subst, arith, ◌⊎◌, inl, inr}
use Rattle.std.specs.List.{list_all}
use Rattle.std.proofs.lemmas.Bool.Decides.{nat_tests}
use Rattle.std.proofs.lemmas.List.{append-nil}
use Rattle.std.proofs.lemmas.List.Elements.{All-nil, Contains-append_left, Contains-append_right, Contains-append_cases}
use Rattle.exact_field.specs.Rational.{ℚ, zero_ℚ, one_ℚ, neg_ℚ, ◌≤ℚ◌}
use Rattle.exact_field.specs.Vector.{dot}
use Rattle.polyhedra.specs.Vectors.{zeros}
use Rattle.polyhedra.specs.DoubleDescription.{is_zero}
use Rattle.polyhedra.specs.Hull.{IsInHull}
use Rattle.polyhedra.specs.Exactness.{homogenised}
use Rattle.polyhedra.specs.LiveList.{vectors}
use Rattle.polyhedra.specs.Negatives.{negated}
use Rattle.polyhedra.proofs.Laws.{le_of_lt, zero_lt_one}
use Rattle.polyhedra.proofs.Algebra.{neg_neg, neg_zero}
use Rattle.polyhedra.proofs.Order.{le_of_eq}
use Rattle.polyhedra.proofs.Linear.{dot_comm, length-zeros}
use Rattle.polyhedra.proofs.Lists.{Contains-here, Contains-there, Contains-cases}
use Rattle.polyhedra.proofs.Members.{all_of_members, member_of, Contains-filter_source, pairs-head, pairs-tail, pairs-weaker, pairs-map}
use Rattle.polyhedra.proofs.Tests.{both_hold, not_true, test_of_zero}
use Rattle.polyhedra.proofs.Negatives.{dot-negated_left}
use Rattle.representations.specs.Lined.{HoldsFor, EqualFor}
use Rattle.representations.specs.Needed.{AreOthers, NoneIsTooMuch, NoSideIsTooMuch, held_by_all}
use Rattle.representations.proofs.Needed.{hull_is_needed}
use Rattle.representations.proofs.NeededSides.{sides_are_needed, held_value}
use Rattle.log_rules.specs.Right.{Rise, is_before}
use Rattle.log_rules.proofs.Rising.{never_before}
use Rattle.rep_text.specs.Fits.{row_fits, kind_fits, row_length}
use Rattle.rep_conv.specs.Sets.{MeetsRow, IsMember, is_kind}
use Rattle.rep_conv.specs.Rows.{rows_of_kind}
use Rattle.rep_conv.specs.Live.{state, rows_in_use}
use Rattle.rep_conv.specs.Rows.{has_rows}
use Rattle.lineality.specs.Lines.{leading_place}
use Rattle.rep_conv.specs.Converted.{GivesGenerators, GivesInequalities, GivesRows, Gives, nothing_meets, Converts, IsWithout, as_rows}
use Rattle.rep_text.specs.declared.rep.Rep.{Rep}
use Rattle.rep_text.specs.declared.rep.RepKind.{RepKind}
use Rattle.rep_text.specs.declared.rep.RepKind.TheVariants.{Side, Equal, Line, Point, Direction}
use Rattle.rep_text.specs.declared.rep.RepRow.{RepRow}
use Rattle.rep_text.specs.declared.conv.ConvEntry.{ConvEntry}
use Rattle.rep_conv.specs.Laws.{readers, ConversionIsRight}
use Rattle.rep_conv.proofs.LinePlaces.{unread}
use Rattle.rep_conv.proofs.Ends.{take_front, vectors_in, vector_source, vector_member, vectors-append, vectors_same, vectors_none, flat_source}
use Rattle.rep_conv.proofs.SameSets.{Same, hull_rows, three, fits_at, member_rows, three-lines, three-points, three-directions, side_same, equal_same, MeetsGiven, member_sides, met_by_none, inv, in_text, in_use, lined, line_is, as_sides, gens_fit, pointed, pointed_text, point_in, side_in, two_cases, one_case, conversion_keeps_set}

-- ---- lists without a member twice
abbrev AreApart : List (List ℚ) → Type 0
AreApart vs = AllPairs (λ a b. a ≡ b → ⊥) vs

left_over : (before : List (List ℚ)) (v : List ℚ) (after : List (List ℚ)) → AreApart (before ++ v ∷ after) → Contains (before ++ after) v → ⊥
left_over [] v after h c = member_of (λ b. v ≡ b → ⊥) after v (pairs-head (λ a b. a ≡ b → ⊥) v after h) c refl
left_over (x ∷ before) v after h c = go (Contains-cases x (before ++ after) v c) (λ k. left_over before v after (pairs-tail (λ a b. a ≡ b → ⊥) x (before ++ v ∷ after) h) k)
  where
    go : (x ≡ v) ⊎ Contains (before ++ after) v → (Contains (before ++ after) v → ⊥) → ⊥
    go (inl e) again = member_of (λ b. x ≡ b → ⊥) (before ++ v ∷ after) v (pairs-head (λ a b. a ≡ b → ⊥) x (before ++ v ∷ after) h)
        (Contains-append_right before (v ∷ after) v (Contains-here v after v refl)) e
    go (inr k) again = again k

fewer : (before : List (List ℚ)) (v : List ℚ) (after : List (List ℚ)) (u : List ℚ) → Contains (before ++ after) u → Contains (before ++ v ∷ after) u
fewer before v after u c = go (Contains-append_cases before after u c)
  where
    go : Contains before u ⊎ Contains after u → Contains (before ++ v ∷ after) u
    go (inl k) = Contains-append_left before (v ∷ after) u k
    go (inr k) = Contains-append_right before (v ∷ after) u (Contains-there v after u k)

risen_apart : (vs : List (List ℚ)) → Rise vs → AreApart vs
risen_apart vs h = pairs-weaker (λ a b. IsTrue (is_before a b)) (λ a b. a ≡ b → ⊥) vs
    (λ a b a_in b_in r e. never_before b (subst (λ (x : List ℚ). IsTrue (is_before x b)) e r)) h

map_same : (vs : List (List ℚ)) → map (λ (v : List ℚ). v) vs ≡ vs
map_same [] = refl
map_same (v ∷ vs) = ap (λ us. v ∷ us) (map_same vs)

plain : (vs : List (List ℚ)) → Rise (map (λ (v : List ℚ). v) vs) → Rise vs
plain vs h = subst Rise (map_same vs) h

-- ---- one row less
row_taken : (kind : RepKind) (row : RepRow) (after : List RepRow) → is_kind kind row.kind ≡ true → vectors_in kind (row ∷ after) ≡ row.v ∷ vectors_in kind after
row_taken kind row after e =
    ap (λ b. map (λ (r : RepRow). r.v) (cond b (row ∷ filter (λ (r : RepRow). is_kind kind r.kind) after) (filter (λ (r : RepRow). is_kind kind r.kind) after))) e

row_passed : (kind : RepKind) (row : RepRow) (after : List RepRow) → is_kind kind row.kind ≡ false → vectors_in kind (row ∷ after) ≡ vectors_in kind after
row_passed kind row after e =
    ap (λ b. map (λ (r : RepRow). r.v) (cond b (row ∷ filter (λ (r : RepRow). is_kind kind r.kind) after) (filter (λ (r : RepRow). is_kind kind r.kind) after))) e

-- the vectors of the row's kind lose its own, which comes once
others_of : (kind : RepKind) (before : List RepRow) (row : RepRow) (after : List RepRow) (listed : List (List ℚ)) → is_kind kind row.kind ≡ true →
    vectors_in kind (before ++ row ∷ after) ≡ listed → AreApart listed → AreOthers listed (vectors_in kind (before ++ after)) row.v × Contains listed row.v
others_of kind before row after listed e all apart =
    let split : vectors_in kind before ++ row.v ∷ vectors_in kind after ≡ listed =
    ap (λ vs. vectors_in kind before ++ vs) (sym (row_taken kind row after e)) ∙ sym (vectors-append kind before (row ∷ after)) ∙ all in
    let less : vectors_in kind (before ++ after) ≡ vectors_in kind before ++ vectors_in kind after = vectors-append kind before after in (
      record {
        among = all_of_members (Contains listed) (vectors_in kind (before ++ after)) (λ v c. subst (λ (vs : List (List ℚ)). Contains vs v) split
            (fewer (vectors_in kind before) row.v (vectors_in kind after) v (subst (λ (vs : List (List ℚ)). Contains vs v) less c)));
        left_out = λ c. left_over (vectors_in kind before) row.v (vectors_in kind after) (subst AreApart (sym split) apart) (subst (λ (vs : List (List ℚ)). Contains vs row.v) less c);
      },
      subst (λ (vs : List (List ℚ)). Contains vs row.v) split (Contains-append_right (vectors_in kind before) (row.v ∷ vectors_in kind after) row.v (Contains-here row.v (vectors_in kind after) row.v refl)),
    )

-- those of another kind stay
same_of : (kind : RepKind) (before : List RepRow) (row : RepRow) (after : List RepRow) (listed : List (List ℚ)) → is_kind kind row.kind ≡ false →
    vectors_in kind (before ++ row ∷ after) ≡ listed → vectors_in kind (before ++ after) ≡ listed
same_of kind before row after listed e all = vectors-append kind before after ∙ ap (λ vs. vectors_in kind before ++ vs) (sym (row_passed kind row after e))
    ∙ sym (vectors-append kind before (row ∷ after)) ∙ all

length_split : (bs : List RepRow) (row : RepRow) (after : List RepRow) → length (bs ++ row ∷ after) ≡ suc (length bs + length after)
length_split [] row after = omega arith
length_split (b ∷ bs) row after = next _ _ _ (length_split bs row after)
  where
    next : (a m k : ℕ) → a ≡ suc (m + k) → suc a ≡ suc (suc m + k)
    next a m k e = omega arith

no_split : (before : List RepRow) (row : RepRow) (after : List RepRow) → [] ≡ before ++ row ∷ after → ⊥
no_split before row after e = go (length before) (ap length e ∙ length_split before row after)
  where
    go : (m : ℕ) → 0 ≡ suc (m + length after) → ⊥
    go m h = omega arith

row_in : (before : List RepRow) (row : RepRow) (after : List RepRow) → Contains (before ++ row ∷ after) row
row_in before row after = Contains-append_right before (row ∷ after) row (Contains-here row after row refl)

-- ---- hulls
hull_like : (w : ℕ) (ps ps' ds ds' ls ls' : List (List ℚ)) (z : List ℚ) → ps ≡ ps' → ds ≡ ds' → ls ≡ ls' → IsInHull w ps ds ls z → IsInHull w ps' ds' ls' z
hull_like w ps ps' ds ds' ls ls' z e f g h =
    subst (λ (l : List (List ℚ)). IsInHull w ps' ds' l z) g (subst (λ (d : List (List ℚ)). IsInHull w ps' d ls z) f (subst (λ (p : List (List ℚ)). IsInHull w p ds ls z) e h))

-- ---- inequalities and equations
side_is : (k : RepKind) → is_kind Side k ≡ true → k ≡ Side
side_is Side e = refl
side_is Equal e = absurd (true≢false (sym e))
side_is Line e = absurd (true≢false (sym e))
side_is Point e = absurd (true≢false (sym e))
side_is Direction e = absurd (true≢false (sym e))

equal_is : (k : RepKind) → is_kind Equal k ≡ true → k ≡ Equal
equal_is Side e = absurd (true≢false (sym e))
equal_is Equal e = refl
equal_is Line e = absurd (true≢false (sym e))
equal_is Point e = absurd (true≢false (sym e))
equal_is Direction e = absurd (true≢false (sym e))

-- rows by their vectors
meets_vectors : (w : ℕ) (rows : List RepRow) (z : List ℚ) → list_all (row_fits false w) rows ≡ true → length z ≡ w →
    Same (All (λ row. MeetsRow z row row.kind) rows) (All (HoldsFor z) (vectors_in Side rows) × All (EqualFor z) (vectors_in Equal rows))
meets_vectors w rows z fits k = (
  λ m. (
    all_of_members (HoldsFor z) (vectors_in Side rows) (λ v c.
        let x = vector_source Side rows v c in
        let kind = side_is x.0.kind x.2 in
        subst (HoldsFor z) x.3 ((side_same w x.0.v z ((fits_at false w rows fits x.0 x.1).1 ∙ ap (row_length w) kind) k).0
        (subst (λ (j : RepKind). MeetsRow z x.0 j) kind (member_of (λ row. MeetsRow z row row.kind) rows x.0 m x.1)))),
    all_of_members (EqualFor z) (vectors_in Equal rows) (λ v c.
        let x = vector_source Equal rows v c in
        let kind = equal_is x.0.kind x.2 in
        subst (EqualFor z) x.3 ((equal_same w x.0.v z ((fits_at false w rows fits x.0 x.1).1 ∙ ap (row_length w) kind) k).0
        (subst (λ (j : RepKind). MeetsRow z x.0 j) kind (member_of (λ row. MeetsRow z row row.kind) rows x.0 m x.1)))),
  ),
  λ m. all_of_members (λ row. MeetsRow z row row.kind) rows (λ x c.
      go m x c x.kind refl (fits_at false w rows fits x c).0 (fits_at false w rows fits x c).1),
)
  where
    go : All (HoldsFor z) (vectors_in Side rows) × All (EqualFor z) (vectors_in Equal rows) → (x : RepRow) → Contains rows x → (kind : RepKind) → x.kind ≡ kind →
        kind_fits false kind ≡ true → length x.v ≡ row_length w kind → MeetsRow z x kind
    go m x c Side e f l = (side_same w x.v z l k).1 (member_of (HoldsFor z) (vectors_in Side rows) x.v m.0 (vector_member Side rows x c (ap (is_kind Side) e)))
    go m x c Equal e f l = (equal_same w x.v z l k).1 (member_of (EqualFor z) (vectors_in Equal rows) x.v m.1 (vector_member Equal rows x c (ap (is_kind Equal) e)))
    go m x c Line e f l = absurd (true≢false (sym f))
    go m x c Point e f l = absurd (true≢false (sym f))
    go m x c Direction e f l = absurd (true≢false (sym f))

two_sides : (ls ss : List (List ℚ)) → vectors_in Side (as_rows Equal ls ++ as_rows Side ss) ≡ ss
two_sides ls ss = vectors-append Side (as_rows Equal ls) (as_rows Side ss) ∙ ap₂ (λ (a b : List (List ℚ)). a ++ b) (vectors_none Side Equal ls refl) (vectors_same Side Side ss refl)

two_equals : (ls ss : List (List ℚ)) → vectors_in Equal (as_rows Equal ls ++ as_rows Side ss) ≡ ls
two_equals ls ss = vectors-append Equal (as_rows Equal ls) (as_rows Side ss) ∙ ap₂ (λ (a b : List (List ℚ)). a ++ b) (vectors_same Equal Equal ls refl) (vectors_none Equal Side ss refl)
    ∙ append-nil ls

all_zero : (n : ℕ) → list_all is_zero (zeros n) ≡ true
all_zero zero = refl
all_zero (suc n) = both_hold (is_zero zero_ℚ) (list_all is_zero (zeros n)) (test_of_zero zero_ℚ refl) (all_zero n)

-- 0 ≥ -1 holds for points, directions and lines
raised_held : (w : ℕ) (v : List ℚ) (t : ℚ) → length v ≡ w → dot (homogenised v t) (held_by_all w) ≡ neg_ℚ t
raised_held w v t h = dot_comm (homogenised v t) (held_by_all w) ∙ held_value w v t h

down_at : (w : ℕ) (kind : RepKind) (row : RepRow) (r : List ℚ) → kind_fits true kind ≡ true → length row.v ≡ row_length w kind → Contains (rows_of_kind kind row) r →
    zero_ℚ ≤ℚ dot r (held_by_all w)
down_at w Side row r f l c = absurd (true≢false (sym f))
down_at w Equal row r f l c = absurd (true≢false (sym f))
down_at w Line row r f l c = go (two_cases (homogenised row.v zero_ℚ) (negated (homogenised row.v zero_ℚ)) r c)
  where
    flat : dot (homogenised row.v zero_ℚ) (held_by_all w) ≡ zero_ℚ
    flat = raised_held w row.v zero_ℚ l ∙ neg_zero

    go : (homogenised row.v zero_ℚ ≡ r) ⊎ (negated (homogenised row.v zero_ℚ) ≡ r) → zero_ℚ ≤ℚ dot r (held_by_all w)
    go (inl e) = le_of_eq zero_ℚ (dot r (held_by_all w)) (sym (ap (λ v. dot v (held_by_all w)) (sym e) ∙ flat))
    go (inr e) = le_of_eq zero_ℚ (dot r (held_by_all w))
        (sym (ap (λ v. dot v (held_by_all w)) (sym e) ∙ dot-negated_left (homogenised row.v zero_ℚ) (held_by_all w) ∙ ap neg_ℚ flat ∙ neg_zero))
down_at w Point row r f l c = subst (λ (v : List ℚ). zero_ℚ ≤ℚ dot v (held_by_all w)) (one_case (homogenised row.v (neg_ℚ one_ℚ)) r c)
    (subst (λ (x : ℚ). zero_ℚ ≤ℚ x) (sym (raised_held w row.v (neg_ℚ one_ℚ) l ∙ neg_neg one_ℚ)) (le_of_lt zero_ℚ one_ℚ zero_lt_one))
down_at w Direction row r f l c = subst (λ (v : List ℚ). zero_ℚ ≤ℚ dot v (held_by_all w)) (one_case (homogenised row.v zero_ℚ) r c)
    (le_of_eq zero_ℚ (dot (homogenised row.v zero_ℚ) (held_by_all w)) (sym (raised_held w row.v zero_ℚ l ∙ neg_zero)))

-- a list of one row without it
single : (before : List RepRow) (row : RepRow) (after : List RepRow) (x : RepRow) → before ++ row ∷ after ≡ x ∷ [] → before ++ after ≡ []
single before row after x e = go before after (sym (length_split before row after) ∙ ap length e)
  where
    go : (bs ys : List RepRow) → suc (length bs + length ys) ≡ 1 → bs ++ ys ≡ []
    go [] [] h = refl
    go [] (y ∷ ys) h = absurd (omega arith)
    go (b ∷ bs) ys h = absurd (omega arith)

module _ (rep : Rep) (entries : List ConvEntry) (done : Converts rep entries) where
  lines_apart : AreApart (state rep entries).lines
  lines_apart = pairs-weaker (λ l d. leading_place l < leading_place d) (λ a b. a ≡ b → ⊥) (state rep entries).lines
      (λ a b a_in b_in r e. never (leading_place a) (leading_place b) r (ap leading_place e)) (inv rep entries done).lines.echelon.places_rise
    where
      never : (m k : ℕ) → m < k → m ≡ k → ⊥
      never m k h e = omega arith

  -- ---- points, directions and lines
  module _ (is_sides : rep.gens ≡ false) (other : Rep) (g : Gives rep entries other) (less : Rep) (w : IsWithout other less)
      (alike : (z : List ℚ) → Same (IsMember other z) (IsMember less z)) where
    fronts : List (List ℚ)
    fronts = map (take rep.width) (state rep entries).lines

    fronts_apart : AreApart (map (take rep.width) (state rep entries).lines)
    fronts_apart = pairs-map (λ a b. a ≡ b → ⊥) (take rep.width) (state rep entries).lines
        (pairs-weaker (λ a b. a ≡ b → ⊥) (λ a b. take rep.width a ≡ take rep.width b → ⊥) (state rep entries).lines
        (λ a b a_in b_in apart e. apart (line_is rep entries done is_sides a a_in ∙ ap (λ f. homogenised f zero_ℚ) e ∙ sym (line_is rep entries done is_sides b b_in))) lines_apart)

    other_gens : other.gens ≡ true
    other_gens = g.turned ∙ ap not is_sides

    given : GivesGenerators rep.width (state rep entries) other.rows
    given = subst (λ (b : Bool). GivesRows b (has_rows rep) rep.width (state rep entries) other.rows) is_sides g.rows

    row_kind_fits : kind_fits true w.row.kind ≡ true
    row_kind_fits = (fits_at true other.width other.rows (subst (λ (b : Bool). list_all (row_fits b other.width) other.rows ≡ true) other_gens other.fitting) w.row
        (subst (λ (rows : List RepRow). Contains rows w.row) (sym w.split) (row_in w.before w.row w.after))).0

    -- what is a member of the one is a member of the other
    passes : (z : List ℚ) → hull_rows rep.width (w.before ++ w.row ∷ w.after) z → hull_rows rep.width (w.before ++ w.after) z
    passes z h = (member_rows less rep.width (w.before ++ w.after) z (w.same_kind ∙ other_gens) (w.same_width ∙ g.width) w.left).0
        ((alike z).0 ((member_rows other rep.width (w.before ++ w.row ∷ w.after) z other_gens g.width w.split).1 h))

    module _ (all : w.before ++ w.row ∷ w.after ≡ three (map (take rep.width) (state rep entries).lines) given.points given.directions)
        (p : List ℚ) (p_in : Contains given.points p) where
      lines_are : vectors_in Line (w.before ++ w.row ∷ w.after) ≡ map (take rep.width) (state rep entries).lines
      lines_are = ap (vectors_in Line) all ∙ three-lines (map (take rep.width) (state rep entries).lines) given.points given.directions

      points_are : vectors_in Point (w.before ++ w.row ∷ w.after) ≡ given.points
      points_are = ap (vectors_in Point) all ∙ three-points (map (take rep.width) (state rep entries).lines) given.points given.directions

      directions_are : vectors_in Direction (w.before ++ w.row ∷ w.after) ≡ given.directions
      directions_are = ap (vectors_in Direction) all ∙ three-directions (map (take rep.width) (state rep entries).lines) given.points given.directions

      none : NoneIsTooMuch rep.width given.points given.directions (map (take rep.width) (state rep entries).lines)
      none = hull_is_needed rep.width (readers rep (state rep entries)) (rows_in_use rep (state rep entries)) (vectors (state rep entries).list.live) given.points given.directions
          (map (take rep.width) (state rep entries).lines) (as_sides rep entries done is_sides given.points given.directions given.points_are given.directions_are)

      enter : (z : List ℚ) → IsInHull rep.width given.points given.directions (map (take rep.width) (state rep entries).lines) z → hull_rows rep.width (w.before ++ w.row ∷ w.after) z
      enter z h = hull_like rep.width _ _ _ _ _ _ z (sym points_are) (sym directions_are) (sym lines_are) h

      by_kind : (kind : RepKind) → w.row.kind ≡ kind → kind_fits true kind ≡ true → ⊥
      by_kind Side e f = true≢false (sym f)
      by_kind Equal e f = true≢false (sym f)
      by_kind Line e f =
          let o = others_of Line w.before w.row w.after (map (take rep.width) (state rep entries).lines) (ap (is_kind Line) e) lines_are fronts_apart in
          none.line p w.row.v (vectors_in Line (w.before ++ w.after)) p_in o.1 o.0 (λ y h.
          hull_like rep.width _ _ _ _ _ _ y (same_of Point w.before w.row w.after given.points (ap (is_kind Point) e) points_are)
          (same_of Direction w.before w.row w.after given.directions (ap (is_kind Direction) e) directions_are) refl (passes y (enter y h)))
      by_kind Point e f =
          let o = others_of Point w.before w.row w.after given.points (ap (is_kind Point) e) points_are (risen_apart given.points (plain given.points given.points_are.rise)) in
          none.point w.row.v (vectors_in Point (w.before ++ w.after)) o.1 o.0 (λ y h.
          hull_like rep.width _ _ _ _ _ _ y refl (same_of Direction w.before w.row w.after given.directions (ap (is_kind Direction) e) directions_are)
          (same_of Line w.before w.row w.after (map (take rep.width) (state rep entries).lines) (ap (is_kind Line) e) lines_are) (passes y (enter y h)))
      by_kind Direction e f =
          let o = others_of Direction w.before w.row w.after given.directions (ap (is_kind Direction) e) directions_are (risen_apart given.directions (plain given.directions given.directions_are.rise)) in
          none.direction p w.row.v (vectors_in Direction (w.before ++ w.after)) p_in o.1 o.0 (λ y h.
          hull_like rep.width _ _ _ _ _ _ y (same_of Point w.before w.row w.after given.points (ap (is_kind Point) e) points_are) refl
          (same_of Line w.before w.row w.after (map (take rep.width) (state rep entries).lines) (ap (is_kind Line) e) lines_are) (passes y (enter y h)))

    needs_generators : ⊥
    needs_generators = go given.points refl
      where
        go : (ps : List (List ℚ)) → given.points ≡ ps → ⊥
        go [] e = no_split w.before w.row w.after
            (sym (ap (λ ps. if length ps == 0 then [] else three (map (take rep.width) (state rep entries).lines) ps given.directions) e) ∙ sym given.all ∙ w.split)
        go (p ∷ ps) e =
            by_kind (sym w.split ∙ given.all ∙ ap (λ b. if b then [] else three (map (take rep.width) (state rep entries).lines) given.points given.directions) (some given.points p ps e))
            p (subst (λ (vs : List (List ℚ)). Contains vs p) (sym e) (Contains-here p ps p refl)) w.row.kind refl row_kind_fits
          where
            suc_not : (m : ℕ) → (suc m == 0) ≡ false
            suc_not m = grind (arith, nat_tests)

            some : (vs : List (List ℚ)) (q : List ℚ) (qs : List (List ℚ)) → vs ≡ q ∷ qs → (length vs == 0) ≡ false
            some vs q qs f = ap (λ us. length us == 0) f ∙ suc_not (length qs)

  -- ---- inequalities and equations
  module _ (is_gens : rep.gens ≡ true) (other : Rep) (g : Gives rep entries other) (less : Rep) (w : IsWithout other less)
      (alike : (z : List ℚ) → Same (IsMember other z) (IsMember less z)) where
    other_sides : other.gens ≡ false
    other_sides = g.turned ∙ ap not is_gens

    -- what meets the rows but one meets that one
    meets_more : (z : List ℚ) → MeetsGiven rep.width (w.before ++ w.after) z → MeetsGiven rep.width (w.before ++ w.row ∷ w.after) z
    meets_more z h = (member_sides other rep.width (w.before ++ w.row ∷ w.after) z other_sides g.width w.split).0
        ((alike z).1 ((member_sides less rep.width (w.before ++ w.after) z (w.same_kind ∙ other_sides) (w.same_width ∙ g.width) w.left).1 h))

    whole_fit : list_all (row_fits false rep.width) (w.before ++ w.row ∷ w.after) ≡ true
    whole_fit = subst (λ (rows : List RepRow). list_all (row_fits false rep.width) rows ≡ true) w.split
        (subst (λ (k : ℕ). list_all (row_fits false k) other.rows ≡ true) g.width
        (subst (λ (b : Bool). list_all (row_fits b other.width) other.rows ≡ true) other_sides other.fitting))

    less_fit : list_all (row_fits false rep.width) (w.before ++ w.after) ≡ true
    less_fit = subst (λ (rows : List RepRow). list_all (row_fits false rep.width) rows ≡ true) w.left
        (subst (λ (k : ℕ). list_all (row_fits false k) less.rows ≡ true) (w.same_width ∙ g.width)
        (subst (λ (b : Bool). list_all (row_fits b less.width) less.rows ≡ true) (w.same_kind ∙ other_sides) less.fitting))

    module _ (rows : has_rows rep ≡ true) (given : GivesInequalities rep.width (state rep entries) other.rows) where
      all : w.before ++ w.row ∷ w.after ≡ as_rows Equal (state rep entries).lines ++ as_rows Side given.sides
      all = sym w.split ∙ given.all

      sides_are : vectors_in Side (w.before ++ w.row ∷ w.after) ≡ given.sides
      sides_are = ap (vectors_in Side) (sym w.split ∙ given.all) ∙ two_sides (state rep entries).lines given.sides

      equations_are : vectors_in Equal (w.before ++ w.row ∷ w.after) ≡ (state rep entries).lines
      equations_are = ap (vectors_in Equal) (sym w.split ∙ given.all) ∙ two_equals (state rep entries).lines given.sides

      side_listed : (v : List ℚ) → Contains given.sides v → Contains (vectors (state rep entries).list.live) v
      side_listed v c = side_in rep entries done is_gens rows given.sides given.sides_are v c

      down : All (λ r. zero_ℚ ≤ℚ dot r (held_by_all rep.width)) (rows_in_use rep (state rep entries))
      down = all_of_members (λ r. zero_ℚ ≤ℚ dot r (held_by_all rep.width)) (rows_in_use rep (state rep entries)) (λ r c.
          let x = flat_source (λ row. rows_of_kind row.kind row) rep.rows r
          (subst (λ (rs : List (List ℚ)). Contains rs r) (pointed_text rep is_gens (pointed rep is_gens rows)) (in_text rep entries done rows r c)) in
          let f = fits_at true rep.width rep.rows (gens_fit rep is_gens) x.0 x.1 in
          down_at rep.width x.0.kind x.0 r f.0 f.1 x.2)

      no_side : NoSideIsTooMuch rep.width (vectors (state rep entries).list.live) (state rep entries).lines
      no_side =
          let p = point_in rep is_gens (pointed rep is_gens rows) in
          sides_are_needed rep.width (readers rep (state rep entries)) (rows_in_use rep (state rep entries)) (vectors (state rep entries).list.live) (state rep entries).lines p.0
          (lined rep entries done rows) down
          (unread rep rows (state rep entries).lines (inv rep entries done).lines)
          p.1 (in_use rep entries done (homogenised p.0 (neg_ℚ one_ℚ)) p.2)

      normal_in : (v : List ℚ) → Contains given.sides v → (t : ℚ) → v ≡ homogenised (zeros rep.width) t → ⊥
      normal_in v c t e =
          let f = Contains-filter_source (λ u. not (list_all is_zero (take rep.width u))) (vectors (state rep entries).list.live) v ((given.sides_are.same v).1 c) in
          not_true (list_all is_zero (take rep.width v)) f.1
          (ap (λ u. list_all is_zero (take rep.width u)) e ∙ ap (list_all is_zero) (take_front rep.width (zeros rep.width) t (length-zeros rep.width)) ∙ all_zero rep.width)

      by_side_kind : (kind : RepKind) → w.row.kind ≡ kind → kind_fits false kind ≡ true → ⊥
      by_side_kind Line e f = true≢false (sym f)
      by_side_kind Point e f = true≢false (sym f)
      by_side_kind Direction e f = true≢false (sym f)
      by_side_kind Side e f =
          let o = others_of Side w.before w.row w.after given.sides (ap (is_kind Side) e) sides_are (risen_apart given.sides (plain given.sides given.sides_are.rise)) in
          no_side.side w.row.v (vectors_in Side (w.before ++ w.after)) (side_listed w.row.v o.1)
          (record {
            among = all_of_members (Contains (vectors (state rep entries).list.live)) (vectors_in Side (w.before ++ w.after)) (λ v c.
                side_listed v (member_of (Contains given.sides) (vectors_in Side (w.before ++ w.after)) v o.0.among c));
            left_out = o.0.left_out;
          })
          (normal_in w.row.v o.1)
          (λ z width hold equal. member_of (HoldsFor z) (vectors_in Side (w.before ++ w.row ∷ w.after)) w.row.v
          ((meets_vectors rep.width (w.before ++ w.row ∷ w.after) z whole_fit width).0 (meets_more z (record {
            wide = width;
            meets = (meets_vectors rep.width (w.before ++ w.after) z less_fit width).1
                (hold, subst (λ (vs : List (List ℚ)). All (EqualFor z) vs) (sym (same_of Equal w.before w.row w.after (state rep entries).lines (ap (is_kind Equal) e) equations_are)) equal);
          })).meets).0
          (vector_member Side (w.before ++ w.row ∷ w.after) w.row (row_in w.before w.row w.after) (ap (is_kind Side) e)))
      by_side_kind Equal e f =
          let o = others_of Equal w.before w.row w.after (state rep entries).lines (ap (is_kind Equal) e) equations_are lines_apart in
          no_side.equation w.row.v (vectors_in Equal (w.before ++ w.after)) o.1 o.0
          (λ z width hold equal. member_of (EqualFor z) (vectors_in Equal (w.before ++ w.row ∷ w.after)) w.row.v
          ((meets_vectors rep.width (w.before ++ w.row ∷ w.after) z whole_fit width).0 (meets_more z (record {
            wide = width;
            meets = (meets_vectors rep.width (w.before ++ w.after) z less_fit width).1 (
              subst (λ (vs : List (List ℚ)). All (HoldsFor z) vs) (sym (same_of Side w.before w.row w.after given.sides (ap (is_kind Side) e) sides_are))
                  (all_of_members (HoldsFor z) given.sides (λ v c. member_of (HoldsFor z) (vectors (state rep entries).list.live) v hold (side_listed v c))),
              equal,
            );
          })).meets).1
          (vector_member Equal (w.before ++ w.row ∷ w.after) w.row (row_in w.before w.row w.after) (ap (is_kind Equal) e)))

      needs_inequalities : ⊥
      needs_inequalities = by_side_kind w.row.kind refl (fits_at false rep.width (w.before ++ w.row ∷ w.after) whole_fit w.row (row_in w.before w.row w.after)).0

    -- without the one inequality that nothing meets all vectors are members
    needs_nothing : other.rows ≡ nothing_meets rep.width → ⊥
    needs_nothing e =
        let no_side : less.rows ≡ [] = w.left ∙ single w.before w.row w.after _ (sym w.split ∙ e) in
        met_by_none rep.width (zeros rep.width)
        ((member_sides other rep.width (nothing_meets rep.width) (zeros rep.width) other_sides g.width e).0
        ((alike (zeros rep.width)).1
        ((member_sides less rep.width [] (zeros rep.width) (w.same_kind ∙ other_sides) (w.same_width ∙ g.width) no_side).1
        (record { wide = length-zeros rep.width; meets = All-nil (λ row. MeetsRow (zeros rep.width) row row.kind) }))))

    needs_sides : ⊥
    needs_sides = go (has_rows rep) refl
      where
        go : (b : Bool) → has_rows rep ≡ b → ⊥
        go true e = needs_inequalities e (subst (λ (b : Bool). GivesRows true b rep.width (state rep entries) other.rows) e
            (subst (λ (b : Bool). GivesRows b (has_rows rep) rep.width (state rep entries) other.rows) is_gens g.rows))
        go false e = needs_nothing (subst (λ (b : Bool). GivesRows true b rep.width (state rep entries) other.rows) e
            (subst (λ (b : Bool). GivesRows b (has_rows rep) rep.width (state rep entries) other.rows) is_gens g.rows))

pub conversion_is_right : ConversionIsRight
conversion_is_right rep entries other done g = record {
  turned = g.turned;
  width = g.width;
  same_set = conversion_keeps_set rep entries other done g;
  needed = λ less w alike. go rep.gens refl less w alike;
}
  where
    go : (b : Bool) → rep.gens ≡ b → (less : Rep) → IsWithout other less → ((z : List ℚ) → Same (IsMember other z) (IsMember less z)) → ⊥
    go true e less w alike = needs_sides rep entries done e other g less w alike
    go false e less w alike = needs_generators rep entries done e other g less w alike
