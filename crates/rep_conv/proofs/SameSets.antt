-- A conversion keeps the set.
use Rattle.std.proofs.Common.{◌≡◌, ℕ, suc, ◌<◌, ◌==◌, ◌||◌, not, Bool, true, false, true≢false, if◌then◌else◌, List, [], ◌∷◌, ◌++◌, map, length, take, filter, All, Contains, refl, sym, ap, ap₂, ◌∙◌, subst, arith, ◌⊎◌, inl, inr}
use Rattle.std.specs.List.{list_all, list_any, flat_map}
use Rattle.std.proofs.lemmas.Bool.{eqb-true}
use Rattle.std.proofs.lemmas.Bool.Decides.{nat_tests}
use Rattle.std.proofs.lemmas.List.{append-nil}
use Rattle.std.proofs.lemmas.List.Elements.{All-nil, All-cons, All-head, All-tail, All-map, All-append, Contains-append_left, Contains-append_right, Contains-append_cases, Contains-get_or}
use Rattle.std.proofs.lemmas.List.Sums.{fold-append}
use Rattle.std.proofs.lemmas.List.Folds.{list_any-append}
use Rattle.exact_field.specs.Rational.{ℚ, zero_ℚ, one_ℚ, ◌+ℚ◌, ◌*ℚ◌, neg_ℚ, ◌≤ℚ◌}
use Rattle.exact_field.specs.Order.{same_ℚ}
use Rattle.exact_field.specs.Vector.{dot, entry, sum_ℚ}
use Rattle.exact_field.specs.Ring.{v0, v1, ◌⊕◌, ◌⊗◌, ◌⊝◌, ⊖, num}
use Rattle.exact_field.proofs.RingTool.{ring}
use Rattle.exact_field.proofs.Rationals.{rationals, same_from_difference, difference_self}
use Rattle.exact_field.proofs.Comparison.{same_ℚ-is}
use Rattle.std.proofs.Common.{pos}
use Rattle.polyhedra.specs.Vectors.{AreWide, zeros}
use Rattle.polyhedra.specs.TightSets.{IsTight}
use Rattle.polyhedra.specs.DoubleDescription.{is_zero, IsNormed}
use Rattle.polyhedra.specs.Hull.{IsInHull, IsNormedDirection}
use Rattle.polyhedra.specs.Exactness.{homogenised, level, IsOneOf}
use Rattle.polyhedra.specs.LiveList.{vectors}
use Rattle.polyhedra.specs.Negatives.{negated}
use Rattle.polyhedra.proofs.Laws.{add_zero, mul_one, le_of_lt, zero_lt_one}
use Rattle.polyhedra.proofs.Algebra.{zero_mul, neg_zero}
use Rattle.polyhedra.proofs.Order.{difference_nonneg, le_of_difference, le_of_eq, not_zero_of_positive}
use Rattle.polyhedra.proofs.Linear.{dot_comm, length-zeros}
use Rattle.polyhedra.proofs.Lists.{HoldsAt, HasWidth, wide-nil, wide-cons, Contains-here, Contains-there, Contains-cases, Contains-nil}
use Rattle.polyhedra.proofs.Members.{all_of_members, member_of, Contains-map, Contains-map_source, Contains-filter, Contains-filter_source}
use Rattle.polyhedra.proofs.Tests.{both_true, zero_of_test, true_or_not, either_true, or_left, or_right}
use Rattle.polyhedra.proofs.Homogenised.{level_value, dot-homogenised, points_or_directions, length-homogenised}
use Rattle.polyhedra.proofs.Negatives.{dot-negated_left}
use Rattle.representations.specs.Lined.{AreLined, AreSidesOf, generator_rows, HoldsFor, EqualFor}
use Rattle.representations.proofs.Faces.{hull_width}
use Rattle.representations.proofs.LinedCones.{sides_are_hull, hull_is_sides, gen_holds}
use Rattle.representations.proofs.Pinned.{both_ways}
use Rattle.log_rules.specs.Proves.{IsSorting}
use Rattle.rep_text.specs.Fits.{row_fits, kind_fits, row_length}
use Rattle.rep_conv.specs.Sets.{MeetsRow, MeetsAllRows, IsInSet, IsMember, normal_of, bound_of, is_kind, vectors_of}
use Rattle.rep_conv.specs.Rows.{side_row, rows_of_kind, rows_from, rows_under, text_rows, has_point, has_rows, row_at}
use Rattle.rep_conv.specs.Live.{State, state, after, nothing, rows_in_use}
use Rattle.rep_conv.specs.Meets.{has_start, is_start, in_order, Meets}
use Rattle.rep_conv.specs.Converted.{at_height, with_normal, GivesGenerators, GivesInequalities, GivesRows, Gives, nothing_meets, Converts, as_rows}
use Rattle.rep_text.specs.declared.rep.Rep.{Rep}
use Rattle.rep_text.specs.declared.rep.RepKind.{RepKind}
use Rattle.rep_text.specs.declared.rep.RepKind.TheVariants.{Side, Equal, Line, Point, Direction}
use Rattle.rep_text.specs.declared.rep.RepRow.{RepRow}
use Rattle.rep_text.specs.declared.conv.ConvEntry.{ConvEntry}
use Rattle.rep_text.specs.declared.conv.ConvEntry.TheVariants.{End}
use Rattle.representations.proofs.Places.{places_are_readers}
use Rattle.rep_conv.proofs.TextRows.{length-normal}
use Rattle.rep_conv.specs.Laws.{readers, GeneratorsStand, Stands, ConversionKeepsSet}
use Rattle.rep_conv.proofs.Standing.{rules_keep_description}
use Rattle.rep_conv.proofs.Ends.{take_front, entry_last, by_parts, front_width, normal_is, bound_is, negated_homogenised, same_place, flat_source, flat_member, vectors_in, vector_source, vector_member, vectors-append, vectors_same, vectors_none}

abbrev pub Same : Type 0 → Type 0 → Type 0
Same P Q = (P → Q) × (Q → P)

pub some_is : (m : ℕ) → not (suc m == 0) ≡ true
some_is m = grind (arith, nat_tests)

-- ---- a row of inequalities at a vector
-- an inequality over (z, t) or (h, γ), by its parts
row_is : (w : ℕ) (row : RepRow) (z : List ℚ) → length row.v ≡ suc w → length z ≡ w → dot (side_row row) (homogenised z one_ℚ) ≡ dot (normal_of row) z +ℚ neg_ℚ (bound_of row)
row_is w row z h width = dot-homogenised (normal_of row) z (neg_ℚ (bound_of row)) one_ℚ (length-normal w row h ∙ sym width)
    ∙ ap (λ x. dot (normal_of row) z +ℚ x) (mul_one (neg_ℚ (bound_of row)))

turned_is : (w : ℕ) (row : RepRow) (z : List ℚ) → length row.v ≡ suc w → length z ≡ w → dot row.v (homogenised z (neg_ℚ one_ℚ)) ≡ dot (normal_of row) z +ℚ neg_ℚ (bound_of row)
turned_is w row z h width =
    ap (λ v. dot v (homogenised z (neg_ℚ one_ℚ))) (by_parts w row.v h)
    ∙ dot-homogenised (take w row.v) z (entry row.v (suc w)) (neg_ℚ one_ℚ) (front_width w row.v h ∙ sym width)
    ∙ ap₂ (λ u b. dot u z +ℚ b *ℚ neg_ℚ one_ℚ) (sym (normal_is w row h)) (sym (bound_is w row h))
    ∙ ap (λ x. dot (normal_of row) z +ℚ x) (ring rationals (bound_of row ∷ []) (v0 ⊗ ⊖ (num (pos 1))) (⊖ v0) refl)

slack_nonneg : (a b : ℚ) → Same (b ≤ℚ a) (zero_ℚ ≤ℚ a +ℚ neg_ℚ b)
slack_nonneg a b = (
  λ h. difference_nonneg b a h,
  λ h. le_of_difference b a (a +ℚ neg_ℚ b) h (ring rationals (a ∷ b ∷ []) (v1 ⊕ (v0 ⊝ v1)) v0 refl),
)

slack_zero : (a b : ℚ) → Same (a ≡ b) (a +ℚ neg_ℚ b ≡ zero_ℚ)
slack_zero a b = (λ e. ap (λ x. x +ℚ neg_ℚ b) e ∙ difference_self b, λ e. same_from_difference a b e)

pair_all : (P : List ℚ → Type 0) (a b : List ℚ) → P a → P b → All P (a ∷ b ∷ [])
pair_all P a b h k = All-cons P a (b ∷ []) h (All-cons P b [] k (All-nil P))

row_meets : (w : ℕ) (kind : RepKind) (row : RepRow) (z : List ℚ) → kind_fits false kind ≡ true → length row.v ≡ row_length w kind → length z ≡ w →
    Same (MeetsRow z row kind) (All (HoldsAt (homogenised z one_ℚ)) (rows_of_kind kind row))
row_meets w Side row z fits h width = (
  λ m. All-cons (HoldsAt (homogenised z one_ℚ)) (side_row row) [] (subst (λ (x : ℚ). zero_ℚ ≤ℚ x) (sym (row_is w row z h width)) ((slack_nonneg (dot (normal_of row) z) (bound_of row)).0 m))
      (All-nil (HoldsAt (homogenised z one_ℚ))),
  λ m. (slack_nonneg (dot (normal_of row) z) (bound_of row)).1 (subst (λ (x : ℚ). zero_ℚ ≤ℚ x) (row_is w row z h width) (All-head (HoldsAt (homogenised z one_ℚ)) (side_row row) [] m)),
)
row_meets w Equal row z fits h width = (
  λ m.
      let none : dot (side_row row) (homogenised z one_ℚ) ≡ zero_ℚ = row_is w row z h width ∙ (slack_zero (dot (normal_of row) z) (bound_of row)).0 m in
      pair_all (HoldsAt (homogenised z one_ℚ)) (side_row row) (negated (side_row row)) (le_of_eq zero_ℚ _ (sym none))
      (le_of_eq zero_ℚ _ (sym (dot-negated_left (side_row row) (homogenised z one_ℚ) ∙ ap neg_ℚ none ∙ neg_zero))),
  λ m.
      let first : zero_ℚ ≤ℚ dot (side_row row) (homogenised z one_ℚ) = All-head (HoldsAt (homogenised z one_ℚ)) (side_row row) (negated (side_row row) ∷ []) m in
      let second : zero_ℚ ≤ℚ dot (negated (side_row row)) (homogenised z one_ℚ) =
      All-head (HoldsAt (homogenised z one_ℚ)) (negated (side_row row)) [] (All-tail (HoldsAt (homogenised z one_ℚ)) (side_row row) (negated (side_row row) ∷ []) m) in
      (slack_zero (dot (normal_of row) z) (bound_of row)).1 (sym (row_is w row z h width)
      ∙ both_ways (dot (side_row row) (homogenised z one_ℚ)) first (subst (λ (x : ℚ). zero_ℚ ≤ℚ x) (dot-negated_left (side_row row) (homogenised z one_ℚ)) second)),
)
row_meets w Line row z fits h width = absurd (true≢false (sym fits))
row_meets w Point row z fits h width = absurd (true≢false (sym fits))
row_meets w Direction row z fits h width = absurd (true≢false (sym fits))

fits_parts : (gens : Bool) (w : ℕ) (row : RepRow) (rows : List RepRow) → list_all (row_fits gens w) (row ∷ rows) ≡ true →
    (kind_fits gens row.kind ≡ true) × (length row.v ≡ row_length w row.kind) × (list_all (row_fits gens w) rows ≡ true)
fits_parts gens w row rows h =
    let parts = both_true (row_fits gens w row) (list_all (row_fits gens w) rows) h in
    let fits = both_true (kind_fits gens row.kind) (length row.v == row_length w row.kind) parts.0 in
    (fits.0, eqb-true (length row.v) (row_length w row.kind) fits.1, parts.1)

pub fits_at : (gens : Bool) (w : ℕ) (rows : List RepRow) → list_all (row_fits gens w) rows ≡ true → (row : RepRow) → Contains rows row →
    (kind_fits gens row.kind ≡ true) × (length row.v ≡ row_length w row.kind)
fits_at gens w [] h row c = absurd (Contains-nil row c)
fits_at gens w (x ∷ rows) h row c = go (Contains-cases x rows row c) (λ k. fits_at gens w rows (fits_parts gens w x rows h).2 row k)
  where
    go : (x ≡ row) ⊎ Contains rows row → (Contains rows row → (kind_fits gens row.kind ≡ true) × (length row.v ≡ row_length w row.kind)) →
        (kind_fits gens row.kind ≡ true) × (length row.v ≡ row_length w row.kind)
    go (inl e) again = subst (λ (y : RepRow). (kind_fits gens y.kind ≡ true) × (length y.v ≡ row_length w y.kind)) e ((fits_parts gens w x rows h).0, (fits_parts gens w x rows h).1)
    go (inr k) again = again k

pub rows_meet : (w : ℕ) (rows : List RepRow) (z : List ℚ) → list_all (row_fits false w) rows ≡ true → length z ≡ w →
    Same (All (λ row. MeetsRow z row row.kind) rows) (All (HoldsAt (homogenised z one_ℚ)) (flat_map (λ row. rows_of_kind row.kind row) rows))
rows_meet w rows z h width = (
  λ m. all_of_members (HoldsAt (homogenised z one_ℚ)) (flat_map (λ row. rows_of_kind row.kind row) rows) (λ r c.
      let s = flat_source (λ row. rows_of_kind row.kind row) rows r c in
      let f = fits_at false w rows h s.0 s.1 in
      member_of (HoldsAt (homogenised z one_ℚ)) (rows_of_kind s.0.kind s.0) r
      ((row_meets w s.0.kind s.0 z f.0 f.1 width).0 (member_of (λ row. MeetsRow z row row.kind) rows s.0 m s.1)) s.2),
  λ m. all_of_members (λ row. MeetsRow z row row.kind) rows (λ row c.
      let f = fits_at false w rows h row c in
      (row_meets w row.kind row z f.0 f.1 width).1 (all_of_members (HoldsAt (homogenised z one_ℚ)) (rows_of_kind row.kind row) (λ r k.
      member_of (HoldsAt (homogenised z one_ℚ)) (flat_map (λ x. rows_of_kind x.kind x) rows) r m (flat_member (λ x. rows_of_kind x.kind x) rows row r c k)))),
)

-- ---- hulls without points
pub no_points : (w : ℕ) (directions lines : List (List ℚ)) (z : List ℚ) → IsInHull w [] directions lines z → ⊥
no_points w directions lines z h = go h.weights h.weight_each h.weights_whole
  where
    go : (ws : List ℚ) → length ws ≡ 0 → sum_ℚ ws ≡ one_ℚ → ⊥
    go [] l e = not_zero_of_positive one_ℚ zero_lt_one (sym e)
    go (x ∷ ws) l e = omega arith

-- ---- a text of lines, points and directions
abbrev pub hull_rows : ℕ → List RepRow → List ℚ → Type 0
hull_rows w rows z = IsInHull w (vectors_in Point rows) (vectors_in Direction rows) (vectors_in Line rows) z

pub member_rows : (other : Rep) (w : ℕ) (rows : List RepRow) (z : List ℚ) → other.gens ≡ true → other.width ≡ w → other.rows ≡ rows →
    Same (IsMember other z) (hull_rows w rows z)
member_rows other w rows z g e r = (
  λ m. subst (λ (k : ℕ). hull_rows k rows z) e (subst (λ (rs : List RepRow). hull_rows other.width rs z) r (subst (λ (b : Bool). IsInSet b other z) g m)),
  λ m. subst (λ (b : Bool). IsInSet b other z) (sym g)
      (subst (λ (rs : List RepRow). hull_rows other.width rs z) (sym r) (subst (λ (k : ℕ). hull_rows k rows z) (sym e) m)),
)

abbrev pub three : List (List ℚ) → List (List ℚ) → List (List ℚ) → List RepRow
three ls ps ds = as_rows Line ls ++ (as_rows Point ps ++ as_rows Direction ds)

three-vectors : (kind : RepKind) (ls ps ds : List (List ℚ)) →
    vectors_in kind (three ls ps ds) ≡ vectors_in kind (as_rows Line ls) ++ (vectors_in kind (as_rows Point ps) ++ vectors_in kind (as_rows Direction ds))
three-vectors kind ls ps ds = vectors-append kind (as_rows Line ls) (as_rows Point ps ++ as_rows Direction ds)
    ∙ ap (λ (vs : List (List ℚ)). vectors_in kind (as_rows Line ls) ++ vs) (vectors-append kind (as_rows Point ps) (as_rows Direction ds))

parts_join : (a b c x y z : List (List ℚ)) → a ≡ x → b ≡ y → c ≡ z → a ++ (b ++ c) ≡ x ++ (y ++ z)
parts_join a b c x y z e f g = ap₂ (λ (u v : List (List ℚ)). u ++ v) e (ap₂ (λ (u v : List (List ℚ)). u ++ v) f g)

pub three-lines : (ls ps ds : List (List ℚ)) → vectors_in Line (three ls ps ds) ≡ ls
three-lines ls ps ds = three-vectors Line ls ps ds
    ∙ parts_join _ _ _ ls [] [] (vectors_same Line Line ls refl) (vectors_none Line Point ps refl) (vectors_none Line Direction ds refl) ∙ append-nil ls

pub three-points : (ls ps ds : List (List ℚ)) → vectors_in Point (three ls ps ds) ≡ ps
three-points ls ps ds = three-vectors Point ls ps ds
    ∙ parts_join _ _ _ [] ps [] (vectors_none Point Line ls refl) (vectors_same Point Point ps refl) (vectors_none Point Direction ds refl) ∙ append-nil ps

pub three-directions : (ls ps ds : List (List ℚ)) → vectors_in Direction (three ls ps ds) ≡ ds
three-directions ls ps ds = three-vectors Direction ls ps ds
    ∙ parts_join _ _ _ [] [] ds (vectors_none Direction Line ls refl) (vectors_none Direction Point ps refl) (vectors_same Direction Direction ds refl)

pub three_hull : (w : ℕ) (ls ps ds : List (List ℚ)) (z : List ℚ) → Same (hull_rows w (three ls ps ds) z) (IsInHull w ps ds ls z)
three_hull w ls ps ds z = (
  λ h. subst (λ (l : List (List ℚ)). IsInHull w ps ds l z) (three-lines ls ps ds)
      (subst (λ (d : List (List ℚ)). IsInHull w ps d (vectors_in Line (three ls ps ds)) z) (three-directions ls ps ds)
      (subst (λ (p : List (List ℚ)). IsInHull w p (vectors_in Direction (three ls ps ds)) (vectors_in Line (three ls ps ds)) z) (three-points ls ps ds) h)),
  λ h. subst (λ (p : List (List ℚ)). IsInHull w p (vectors_in Direction (three ls ps ds)) (vectors_in Line (three ls ps ds)) z) (sym (three-points ls ps ds))
      (subst (λ (d : List (List ℚ)). IsInHull w ps d (vectors_in Line (three ls ps ds)) z) (sym (three-directions ls ps ds))
      (subst (λ (l : List (List ℚ)). IsInHull w ps ds l z) (sym (three-lines ls ps ds)) h)),
)

-- the rows that are given, with points or without
given_hull : (w : ℕ) (ls ps ds : List (List ℚ)) (z : List ℚ) → Same (hull_rows w (if length ps == 0 then [] else three ls ps ds) z) (IsInHull w ps ds ls z)
given_hull w ls [] ds z = (λ h. absurd (no_points w [] [] z h), λ h. absurd (no_points w ds ls z h))
given_hull w ls (p ∷ ps) ds z = (
  λ h. (three_hull w ls (p ∷ ps) ds z).0 (subst (λ (b : Bool). hull_rows w (if b then [] else three ls (p ∷ ps) ds) z) (none_is (length ps)) h),
  λ h. subst (λ (b : Bool). hull_rows w (if b then [] else three ls (p ∷ ps) ds) z) (sym (none_is (length ps))) ((three_hull w ls (p ∷ ps) ds z).1 h),
)
  where
    none_is : (m : ℕ) → (suc m == 0) ≡ false
    none_is m = grind (arith, nat_tests)

-- ---- a text of inequalities and equations
pub zero_dot : (v z : List ℚ) → list_all is_zero v ≡ true → dot v z ≡ zero_ℚ
zero_dot [] z h = refl
zero_dot (x ∷ v) [] h = refl
zero_dot (x ∷ v) (y ∷ z) h =
    let parts = both_true (is_zero x) (list_all is_zero v) h in
    ap₂ (λ a b. a +ℚ b) (ap (λ q. q *ℚ y) (zero_of_test x parts.0) ∙ zero_mul y) (zero_dot v z parts.1) ∙ add_zero zero_ℚ

-- where the front of a vector is 0, it has the same value at all points
flat_value : (w : ℕ) (g z p : List ℚ) → length g ≡ suc w → length z ≡ w → length p ≡ w → list_all is_zero (take w g) ≡ true →
    dot g (homogenised z (neg_ℚ one_ℚ)) ≡ dot g (homogenised p (neg_ℚ one_ℚ))
flat_value w g z p h k l e = value z k ∙ sym (value p l)
  where
    value : (y : List ℚ) → length y ≡ w → dot g (homogenised y (neg_ℚ one_ℚ)) ≡ zero_ℚ +ℚ entry g (suc w) *ℚ neg_ℚ one_ℚ
    value y m =
        ap (λ v. dot v (homogenised y (neg_ℚ one_ℚ))) (by_parts w g h)
        ∙ dot-homogenised (take w g) y (entry g (suc w)) (neg_ℚ one_ℚ) (front_width w g h ∙ sym m)
        ∙ ap (λ x. x +ℚ entry g (suc w) *ℚ neg_ℚ one_ℚ) (zero_dot (take w g) y e)

pub side_same : (w : ℕ) (v z : List ℚ) → length v ≡ suc w → length z ≡ w → Same (MeetsRow z (record { kind = Side; v = v }) Side) (HoldsFor z v)
side_same w v z h k = (
  λ m. subst (λ (x : ℚ). zero_ℚ ≤ℚ x) (sym (turned_is w (record { kind = Side; v = v }) z h k)) ((slack_nonneg _ _).0 m),
  λ m. (slack_nonneg _ _).1 (subst (λ (x : ℚ). zero_ℚ ≤ℚ x) (turned_is w (record { kind = Side; v = v }) z h k) m),
)

pub equal_same : (w : ℕ) (v z : List ℚ) → length v ≡ suc w → length z ≡ w → Same (MeetsRow z (record { kind = Equal; v = v }) Equal) (EqualFor z v)
equal_same w v z h k = (
  λ m. turned_is w (record { kind = Equal; v = v }) z h k ∙ (slack_zero _ _).0 m,
  λ m. (slack_zero _ _).1 (sym (turned_is w (record { kind = Equal; v = v }) z h k) ∙ m),
)

sides_meet : (w : ℕ) (vs : List (List ℚ)) (z : List ℚ) → AreWide (suc w) vs → length z ≡ w →
    Same (All (λ row. MeetsRow z row row.kind) (as_rows Side vs)) (All (HoldsFor z) vs)
sides_meet w vs z wide k = (
  λ m. all_of_members (HoldsFor z) vs (λ v c. (side_same w v z (member_of (HasWidth (suc w)) vs v wide.wide c) k).0
      (member_of (λ row. MeetsRow z row row.kind) (as_rows Side vs) (record { kind = Side; v = v }) m (Contains-map (λ v. record { kind = Side; v = v }) vs v c))),
  λ m. All-map (λ row. MeetsRow z row row.kind) (λ v. record { kind = Side; v = v }) vs
      (all_of_members (λ v. MeetsRow z (record { kind = Side; v = v }) Side) vs
      (λ v c. (side_same w v z (member_of (HasWidth (suc w)) vs v wide.wide c) k).1 (member_of (HoldsFor z) vs v m c))),
)

equals_meet : (w : ℕ) (vs : List (List ℚ)) (z : List ℚ) → AreWide (suc w) vs → length z ≡ w →
    Same (All (λ row. MeetsRow z row row.kind) (as_rows Equal vs)) (All (EqualFor z) vs)
equals_meet w vs z wide k = (
  λ m. all_of_members (EqualFor z) vs (λ v c. (equal_same w v z (member_of (HasWidth (suc w)) vs v wide.wide c) k).0
      (member_of (λ row. MeetsRow z row row.kind) (as_rows Equal vs) (record { kind = Equal; v = v }) m (Contains-map (λ v. record { kind = Equal; v = v }) vs v c))),
  λ m. All-map (λ row. MeetsRow z row row.kind) (λ v. record { kind = Equal; v = v }) vs
      (all_of_members (λ v. MeetsRow z (record { kind = Equal; v = v }) Equal) vs
      (λ v c. (equal_same w v z (member_of (HasWidth (suc w)) vs v wide.wide c) k).1 (member_of (EqualFor z) vs v m c))),
)

pub record MeetsGiven (w : ℕ) (rows : List RepRow) (z : List ℚ) : Type 0 where
  pub wide : length z ≡ w
  pub meets : All (λ row. MeetsRow z row row.kind) rows

pub member_sides : (other : Rep) (w : ℕ) (rows : List RepRow) (z : List ℚ) → other.gens ≡ false → other.width ≡ w → other.rows ≡ rows →
    Same (IsMember other z) (MeetsGiven w rows z)
member_sides other w rows z g e r = (
  λ m.
      let n : MeetsAllRows other z = subst (λ (b : Bool). IsInSet b other z) g m in
      record { wide = n.wide ∙ e; meets = subst (λ (rs : List RepRow). All (λ row. MeetsRow z row row.kind) rs) r n.meets },
  λ m. subst (λ (b : Bool). IsInSet b other z) (sym g)
      (record { wide = m.wide ∙ sym e; meets = subst (λ (rs : List RepRow). All (λ row. MeetsRow z row row.kind) rs) (sym r) m.meets }),
)

-- nothing meets 0 >= 1
pub met_by_none : (w : ℕ) (z : List ℚ) → MeetsGiven w (nothing_meets w) z → ⊥
met_by_none w z m =
    let held : HoldsFor z (level w) = All-head (HoldsFor z) (level w) []
    ((sides_meet w (level w ∷ []) z (wide-cons (suc w) (level w) [] (length-homogenised w (zeros w) one_ℚ (length-zeros w)) (wide-nil (suc w))) m.wide).0 m.meets) in
    not_zero_of_positive one_ℚ zero_lt_one (both_ways one_ℚ (le_of_lt zero_ℚ one_ℚ zero_lt_one)
    (subst (λ (x : ℚ). zero_ℚ ≤ℚ x) (level_value w z (neg_ℚ one_ℚ) m.wide) held))

-- ---- rows of points, directions and lines
pub point_is : (k : RepKind) → is_kind Point k ≡ true → k ≡ Point
point_is Side e = absurd (true≢false (sym e))
point_is Equal e = absurd (true≢false (sym e))
point_is Line e = absurd (true≢false (sym e))
point_is Point e = refl
point_is Direction e = absurd (true≢false (sym e))

pub direction_is : (k : RepKind) → is_kind Direction k ≡ true → k ≡ Direction
direction_is Side e = absurd (true≢false (sym e))
direction_is Equal e = absurd (true≢false (sym e))
direction_is Line e = absurd (true≢false (sym e))
direction_is Point e = absurd (true≢false (sym e))
direction_is Direction e = refl

pub line_kind_is : (k : RepKind) → is_kind Line k ≡ true → k ≡ Line
line_kind_is Side e = absurd (true≢false (sym e))
line_kind_is Equal e = absurd (true≢false (sym e))
line_kind_is Line e = refl
line_kind_is Point e = absurd (true≢false (sym e))
line_kind_is Direction e = absurd (true≢false (sym e))

point_row : (rows : List RepRow) → list_any (λ row. is_kind Point row.kind) rows ≡ true → (row : RepRow) × Contains rows row × (is_kind Point row.kind ≡ true)
point_row [] e = absurd (true≢false (sym e))
point_row (x ∷ rows) e = go (either_true (is_kind Point x.kind) (list_any (λ row. is_kind Point row.kind) rows) e) (λ k. point_row rows k)
  where
    go : (is_kind Point x.kind ≡ true) ⊎ (list_any (λ row. is_kind Point row.kind) rows ≡ true) →
        (list_any (λ row. is_kind Point row.kind) rows ≡ true → (row : RepRow) × Contains rows row × (is_kind Point row.kind ≡ true)) →
        (row : RepRow) × Contains (x ∷ rows) row × (is_kind Point row.kind ≡ true)
    go (inl k) again = (x, Contains-here x rows x refl, k)
    go (inr k) again = let a = again k in (a.0, Contains-there x rows a.0 a.1, a.2)

row_point : (rows : List RepRow) (row : RepRow) → Contains rows row → is_kind Point row.kind ≡ true → list_any (λ row. is_kind Point row.kind) rows ≡ true
row_point [] row c e = absurd (Contains-nil row c)
row_point (x ∷ rows) row c e = go (Contains-cases x rows row c) (λ k. row_point rows row k e)
  where
    go : (x ≡ row) ⊎ Contains rows row → (Contains rows row → list_any (λ row. is_kind Point row.kind) rows ≡ true) →
        list_any (λ row. is_kind Point row.kind) (x ∷ rows) ≡ true
    go (inl k) again = or_left (is_kind Point x.kind) (list_any (λ row. is_kind Point row.kind) rows) (subst (λ (y : RepRow). is_kind Point y.kind ≡ true) (sym k) e)
    go (inr k) again = or_right (is_kind Point x.kind) (list_any (λ row. is_kind Point row.kind) rows) (again k)

-- the vectors of a kind have full width
kind_wide : (w : ℕ) (rows : List RepRow) (kind : RepKind) → list_all (row_fits true w) rows ≡ true → ((k : RepKind) → is_kind kind k ≡ true → k ≡ kind) → row_length w kind ≡ w →
    AreWide w (vectors_in kind rows)
kind_wide w rows kind h only e = record {
  wide = all_of_members (HasWidth w) (vectors_in kind rows) (λ v c.
      let s = vector_source kind rows v c in
      sym (ap length s.3) ∙ (fits_at true w rows h s.0 s.1).1 ∙ ap (row_length w) (only s.0.kind s.2) ∙ e);
}

abbrev pub gen_rows : List RepRow → List (List ℚ)
gen_rows rows = generator_rows (vectors_in Point rows) (vectors_in Direction rows) (vectors_in Line rows)

pub two_cases : (a b r : List ℚ) → Contains (a ∷ b ∷ []) r → (a ≡ r) ⊎ (b ≡ r)
two_cases a b r c = go (Contains-cases a (b ∷ []) r c)
  where
    later : (b ≡ r) ⊎ Contains [] r → (a ≡ r) ⊎ (b ≡ r)
    later (inl e) = inr e
    later (inr k) = absurd (Contains-nil r k)

    go : (a ≡ r) ⊎ Contains (b ∷ []) r → (a ≡ r) ⊎ (b ≡ r)
    go (inl e) = inl e
    go (inr k) = later (Contains-cases b [] r k)

pub one_case : (a r : List ℚ) → Contains (a ∷ []) r → a ≡ r
one_case a r c = go (Contains-cases a [] r c)
  where
    go : (a ≡ r) ⊎ Contains [] r → a ≡ r
    go (inl e) = e
    go (inr k) = absurd (Contains-nil r k)

module _ (rows : List RepRow) where
  in_points : (r : List ℚ) → Contains (map (λ y. homogenised y (neg_ℚ one_ℚ)) (vectors_in Point rows)) r → Contains (gen_rows rows) r
  in_points r c = Contains-append_left (map (λ y. homogenised y (neg_ℚ one_ℚ)) (vectors_in Point rows)) _ r c

  in_directions : (r : List ℚ) → Contains (map (λ d. homogenised d zero_ℚ) (vectors_in Direction rows)) r → Contains (gen_rows rows) r
  in_directions r c = Contains-append_right (map (λ y. homogenised y (neg_ℚ one_ℚ)) (vectors_in Point rows)) _ r
      (Contains-append_left (map (λ d. homogenised d zero_ℚ) (vectors_in Direction rows)) _ r c)

  in_lines : (r : List ℚ) → Contains (map (λ l. homogenised l zero_ℚ) (vectors_in Line rows)) r → Contains (gen_rows rows) r
  in_lines r c = Contains-append_right (map (λ y. homogenised y (neg_ℚ one_ℚ)) (vectors_in Point rows)) _ r
      (Contains-append_right (map (λ d. homogenised d zero_ℚ) (vectors_in Direction rows)) _ r
      (Contains-append_left (map (λ l. homogenised l zero_ℚ) (vectors_in Line rows)) (map (λ l. homogenised (negated l) zero_ℚ) (vectors_in Line rows)) r c))

  in_negatives : (r : List ℚ) → Contains (map (λ l. homogenised (negated l) zero_ℚ) (vectors_in Line rows)) r → Contains (gen_rows rows) r
  in_negatives r c = Contains-append_right (map (λ y. homogenised y (neg_ℚ one_ℚ)) (vectors_in Point rows)) _ r
      (Contains-append_right (map (λ d. homogenised d zero_ℚ) (vectors_in Direction rows)) _ r
      (Contains-append_right (map (λ l. homogenised l zero_ℚ) (vectors_in Line rows)) (map (λ l. homogenised (negated l) zero_ℚ) (vectors_in Line rows)) r c))

  row_listed : (kind : RepKind) (row : RepRow) → Contains rows row → row.kind ≡ kind → kind_fits true kind ≡ true → (r : List ℚ) → Contains (rows_of_kind kind row) r →
      Contains (gen_rows rows) r
  row_listed Side row c e f r k = absurd (true≢false (sym f))
  row_listed Equal row c e f r k = absurd (true≢false (sym f))
  row_listed Line row c e f r k = go (two_cases (homogenised row.v zero_ℚ) (negated (homogenised row.v zero_ℚ)) r k)
    where
      listed : Contains (vectors_in Line rows) row.v
      listed = vector_member Line rows row c (ap (is_kind Line) e)

      go : (homogenised row.v zero_ℚ ≡ r) ⊎ (negated (homogenised row.v zero_ℚ) ≡ r) → Contains (gen_rows rows) r
      go (inl s) = subst (λ (v : List ℚ). Contains (gen_rows rows) v) s
          (in_lines (homogenised row.v zero_ℚ) (Contains-map (λ l. homogenised l zero_ℚ) (vectors_in Line rows) row.v listed))
      go (inr s) = subst (λ (v : List ℚ). Contains (gen_rows rows) v) (negated_homogenised row.v ∙ s)
          (in_negatives (homogenised (negated row.v) zero_ℚ) (Contains-map (λ l. homogenised (negated l) zero_ℚ) (vectors_in Line rows) row.v listed))
  row_listed Point row c e f r k = subst (λ (v : List ℚ). Contains (gen_rows rows) v) (one_case (homogenised row.v (neg_ℚ one_ℚ)) r k)
      (in_points (homogenised row.v (neg_ℚ one_ℚ)) (Contains-map (λ y. homogenised y (neg_ℚ one_ℚ)) (vectors_in Point rows) row.v (vector_member Point rows row c (ap (is_kind Point) e))))
  row_listed Direction row c e f r k = subst (λ (v : List ℚ). Contains (gen_rows rows) v) (one_case (homogenised row.v zero_ℚ) r k)
      (in_directions (homogenised row.v zero_ℚ) (Contains-map (λ d. homogenised d zero_ℚ) (vectors_in Direction rows) row.v (vector_member Direction rows row c (ap (is_kind Direction) e))))

  -- a row of a kind from a vector of it
  from_vector : (kind : RepKind) → ((k : RepKind) → is_kind kind k ≡ true → k ≡ kind) → (v : List ℚ) → Contains (vectors_in kind rows) v → (r : List ℚ) →
      ((row : RepRow) → row.v ≡ v → Contains (rows_of_kind kind row) r) → Contains (flat_map (λ row. rows_of_kind row.kind row) rows) r
  from_vector kind only v c r make =
      let s = vector_source kind rows v c in
      flat_member (λ row. rows_of_kind row.kind row) rows s.0 r s.1
      (subst (λ (k : RepKind). Contains (rows_of_kind k s.0) r) (sym (only s.0.kind s.2)) (make s.0 s.3))

  listed_row : (r : List ℚ) → Contains (gen_rows rows) r → Contains (flat_map (λ row. rows_of_kind row.kind row) rows) r
  listed_row r c = first (Contains-append_cases (map (λ y. homogenised y (neg_ℚ one_ℚ)) (vectors_in Point rows)) _ r c)
    where
      points : Contains (map (λ y. homogenised y (neg_ℚ one_ℚ)) (vectors_in Point rows)) r → Contains (flat_map (λ row. rows_of_kind row.kind row) rows) r
      points k =
          let s : (y : List ℚ) × Contains (vectors_in Point rows) y × (homogenised y (neg_ℚ one_ℚ) ≡ r) =
          Contains-map_source (λ y. homogenised y (neg_ℚ one_ℚ)) (vectors_in Point rows) r k in
          from_vector Point point_is s.0 s.1 r (λ row e. Contains-here (homogenised row.v (neg_ℚ one_ℚ)) [] r (ap (λ y. homogenised y (neg_ℚ one_ℚ)) e ∙ s.2))

      directions : Contains (map (λ d. homogenised d zero_ℚ) (vectors_in Direction rows)) r → Contains (flat_map (λ row. rows_of_kind row.kind row) rows) r
      directions k =
          let s : (y : List ℚ) × Contains (vectors_in Direction rows) y × (homogenised y zero_ℚ ≡ r) =
          Contains-map_source (λ d. homogenised d zero_ℚ) (vectors_in Direction rows) r k in
          from_vector Direction direction_is s.0 s.1 r (λ row e. Contains-here (homogenised row.v zero_ℚ) [] r (ap (λ y. homogenised y zero_ℚ) e ∙ s.2))

      lines : Contains (map (λ l. homogenised l zero_ℚ) (vectors_in Line rows)) r → Contains (flat_map (λ row. rows_of_kind row.kind row) rows) r
      lines k =
          let s : (y : List ℚ) × Contains (vectors_in Line rows) y × (homogenised y zero_ℚ ≡ r) =
          Contains-map_source (λ l. homogenised l zero_ℚ) (vectors_in Line rows) r k in
          from_vector Line line_kind_is s.0 s.1 r (λ row e. Contains-here (homogenised row.v zero_ℚ) (negated (homogenised row.v zero_ℚ) ∷ []) r (ap (λ y. homogenised y zero_ℚ) e ∙ s.2))

      negatives : Contains (map (λ l. homogenised (negated l) zero_ℚ) (vectors_in Line rows)) r → Contains (flat_map (λ row. rows_of_kind row.kind row) rows) r
      negatives k =
          let s : (y : List ℚ) × Contains (vectors_in Line rows) y × (homogenised (negated y) zero_ℚ ≡ r) =
          Contains-map_source (λ l. homogenised (negated l) zero_ℚ) (vectors_in Line rows) r k in
          from_vector Line line_kind_is s.0 s.1 r (λ row e. Contains-there (homogenised row.v zero_ℚ) (negated (homogenised row.v zero_ℚ) ∷ []) r
          (Contains-here (negated (homogenised row.v zero_ℚ)) [] r (sym (negated_homogenised row.v) ∙ ap (λ y. homogenised (negated y) zero_ℚ) e ∙ s.2)))

      third : Contains (map (λ l. homogenised l zero_ℚ) (vectors_in Line rows)) r ⊎ Contains (map (λ l. homogenised (negated l) zero_ℚ) (vectors_in Line rows)) r →
          Contains (flat_map (λ row. rows_of_kind row.kind row) rows) r
      third (inl k) = lines k
      third (inr k) = negatives k

      second : Contains (map (λ d. homogenised d zero_ℚ) (vectors_in Direction rows)) r
          ⊎ Contains (map (λ l. homogenised l zero_ℚ) (vectors_in Line rows) ++ map (λ l. homogenised (negated l) zero_ℚ) (vectors_in Line rows)) r →
          Contains (flat_map (λ row. rows_of_kind row.kind row) rows) r
      second (inl k) = directions k
      second (inr k) = third (Contains-append_cases (map (λ l. homogenised l zero_ℚ) (vectors_in Line rows)) _ r k)

      first : Contains (map (λ y. homogenised y (neg_ℚ one_ℚ)) (vectors_in Point rows)) r
          ⊎ Contains (map (λ d. homogenised d zero_ℚ) (vectors_in Direction rows)
          ++ (map (λ l. homogenised l zero_ℚ) (vectors_in Line rows) ++ map (λ l. homogenised (negated l) zero_ℚ) (vectors_in Line rows))) r →
          Contains (flat_map (λ row. rows_of_kind row.kind row) rows) r
      first (inl k) = points k
      first (inr k) = second (Contains-append_cases (map (λ d. homogenised d zero_ℚ) (vectors_in Direction rows)) _ r k)

  source_listed : (w : ℕ) → list_all (row_fits true w) rows ≡ true → (r : List ℚ) → Contains (flat_map (λ row. rows_of_kind row.kind row) rows) r → Contains (gen_rows rows) r
  source_listed w h r c =
      let s = flat_source (λ row. rows_of_kind row.kind row) rows r c in
      row_listed s.0.kind s.0 s.1 refl (fits_at true w rows h s.0 s.1).0 r s.2

-- ---- the point of a text with rows
module _ (rep : Rep) (is_gens : rep.gens ≡ true) where
  pub gens_fit : list_all (row_fits true rep.width) rep.rows ≡ true
  gens_fit = subst (λ (b : Bool). list_all (row_fits b rep.width) rep.rows ≡ true) is_gens rep.fitting

  pub gens_text : text_rows rep ≡ (if has_point rep then rows_from rep else [])
  gens_text = ap (λ b. rows_under b rep) is_gens

  -- a text with rows has a point, and one without has none
  pub pointed : has_rows rep ≡ true → has_point rep ≡ true
  pointed h = go (has_point rep) (subst (λ (rows : List (List ℚ)). not (length rows == 0) ≡ true) gens_text h)
    where
      go : (b : Bool) → not (length (if b then rows_from rep else []) == 0) ≡ true → b ≡ true
      go true k = refl
      go false k = k

  pub pointed_text : has_point rep ≡ true → text_rows rep ≡ rows_from rep
  pointed_text e = gens_text ∙ ap (λ b. if b then rows_from rep else []) e

  pub point_in : has_point rep ≡ true → (p : List ℚ) × (length p ≡ rep.width) × Contains (text_rows rep) (homogenised p (neg_ℚ one_ℚ))
  point_in e =
      let s = point_row rep.rows e in
      let kind = point_is s.0.kind s.2 in (
        s.0.v,
        (fits_at true rep.width rep.rows gens_fit s.0 s.1).1 ∙ ap (row_length rep.width) kind,
        subst (λ (rows : List (List ℚ)). Contains rows (homogenised s.0.v (neg_ℚ one_ℚ))) (sym (pointed_text e))
            (flat_member (λ row. rows_of_kind row.kind row) rep.rows s.0 (homogenised s.0.v (neg_ℚ one_ℚ)) s.1
            (subst (λ (k : RepKind). Contains (rows_of_kind k s.0) (homogenised s.0.v (neg_ℚ one_ℚ))) (sym kind)
            (Contains-here (homogenised s.0.v (neg_ℚ one_ℚ)) [] (homogenised s.0.v (neg_ℚ one_ℚ)) refl))),
      )

has_some : (rows : List (List ℚ)) (r : List ℚ) → Contains rows r → not (length rows == 0) ≡ true
has_some [] r c = absurd (Contains-nil r c)
has_some (x ∷ rows) r c = some_is (length rows)

-- ---- what stands at the end
module _ (rep : Rep) (entries : List ConvEntry) (done : Converts rep entries) where
  s : State
  s = state rep entries

  pub inv : Stands rep (state rep entries) (has_start entries)
  inv = rules_keep_description rep entries done.meet

  end_meets : Meets rep done.before End
  end_meets = done.meet done.before End [] done.ends

  same_state : state rep entries ≡ state rep done.before
  same_state = ap (state rep) done.ends ∙ fold-append (after rep) nothing done.before (End ∷ [])

  -- with rows there is a start
  pub started : has_rows rep ≡ true → GeneratorsStand rep (state rep entries)
  started rows = inv.begun (ap has_start done.ends ∙ list_any-append is_start done.before (End ∷ [])
      ∙ ap (λ b. b || false) (subst (λ (b : Bool). in_order b done.before End ≡ true) rows end_meets.order))

  all_used : (k : ℕ) → k < length (text_rows rep) → Contains (state rep entries).used k
  all_used k h = subst (λ (t : State). Contains t.used k) (sym same_state) (end_meets.rules k h)

  -- the rows in use are those of the text
  pub in_text : has_rows rep ≡ true → (r : List ℚ) → Contains (rows_in_use rep (state rep entries)) r → Contains (text_rows rep) r
  in_text rows r c =
      let f : (k : ℕ) × Contains (state rep entries).used k × (row_at rep k ≡ r) = Contains-map_source (row_at rep) (state rep entries).used r c in
      subst (λ (v : List ℚ). Contains (text_rows rep) v) f.2
      (Contains-get_or (text_rows rep) f.0 [] (member_of (λ j. j < length (text_rows rep)) (state rep entries).used f.0 (started rows).exist f.1))

  pub in_use : (r : List ℚ) → Contains (text_rows rep) r → Contains (rows_in_use rep (state rep entries)) r
  in_use r (k, h, e) = subst (λ (v : List ℚ). Contains (rows_in_use rep (state rep entries)) v) (same_place (text_rows rep) k [] r h ∙ e)
      (Contains-map (row_at rep) (state rep entries).used k (all_used k h))

  pub lined : has_rows rep ≡ true → AreLined (suc rep.width) (readers rep (state rep entries)) (rows_in_use rep (state rep entries)) (vectors (state rep entries).list.live) (state rep entries).lines
  lined rows = record {
    described = (started rows).live.described;
    lines_wide = inv.lines.echelon.wide;
    reads = (places_are_readers (suc rep.width) (state rep entries).lines inv.lines.echelon).reads;
    at_lines = all_of_members (λ v. All (λ r. IsTight r v) (rows_in_use rep (state rep entries))) (state rep entries).lines (λ v c.
        all_of_members (λ r. IsTight r v) (rows_in_use rep (state rep entries)) (λ r k.
        member_of (λ t. IsTight t v) (text_rows rep) r (member_of (λ u. All (λ t. IsTight t u) (text_rows rep)) (state rep entries).lines v inv.lines.corner c) (in_text rows r k)));
  }

  pub gens_wide : has_rows rep ≡ true → AreWide (suc rep.width) (vectors (state rep entries).list.live)
  gens_wide rows = (started rows).live.described.generators_wide

  -- ---- from inequalities
  module _ (is_sides : rep.gens ≡ false) where
    text_is : text_rows rep ≡ level rep.width ∷ rows_from rep
    text_is = ap (λ b. rows_under b rep) is_sides

    pub some_rows : has_rows rep ≡ true
    some_rows = ap (λ (rows : List (List ℚ)). not (length rows == 0)) text_is ∙ some_is (length (rows_from rep))

    fits : list_all (row_fits false rep.width) rep.rows ≡ true
    fits = subst (λ (b : Bool). list_all (row_fits b rep.width) rep.rows ≡ true) is_sides rep.fitting

    pub level_in : Contains (text_rows rep) (level rep.width)
    level_in = subst (λ (rows : List (List ℚ)). Contains rows (level rep.width)) (sym text_is) (Contains-here (level rep.width) (rows_from rep) (level rep.width) refl)

    pub meets_all : (z : List ℚ) → length z ≡ rep.width → Same (MeetsAllRows rep z) (All (HoldsAt (homogenised z one_ℚ)) (rows_in_use rep (state rep entries)))
    meets_all z width = (
      λ m. all_of_members (HoldsAt (homogenised z one_ℚ)) (rows_in_use rep (state rep entries)) (λ r c.
          member_of (HoldsAt (homogenised z one_ℚ)) (level rep.width ∷ rows_from rep) r
          (All-cons (HoldsAt (homogenised z one_ℚ)) (level rep.width) (rows_from rep)
          (subst (λ (x : ℚ). zero_ℚ ≤ℚ x) (sym (level_value rep.width z one_ℚ width)) (le_of_lt zero_ℚ one_ℚ zero_lt_one)) ((rows_meet rep.width rep.rows z fits width).0 m.meets))
          (subst (λ (rows : List (List ℚ)). Contains rows r) text_is (in_text some_rows r c))),
      λ m. record {
        wide = width;
        meets = (rows_meet rep.width rep.rows z fits width).1 (all_of_members (HoldsAt (homogenised z one_ℚ)) (rows_from rep) (λ r c.
            member_of (HoldsAt (homogenised z one_ℚ)) (rows_in_use rep (state rep entries)) r m
            (in_use r (subst (λ (rows : List (List ℚ)). Contains rows r) (sym text_is) (Contains-there (level rep.width) (rows_from rep) r c)))));
      },
    )

    -- a line lies at the height 0
    pub line_is : (d : List ℚ) → Contains (state rep entries).lines d → d ≡ homogenised (take rep.width d) zero_ℚ
    line_is d c =
        let width : length d ≡ suc rep.width = member_of (HasWidth (suc rep.width)) (state rep entries).lines d inv.lines.echelon.wide.wide c in
        let height : dot (level rep.width) d ≡ zero_ℚ =
        member_of (λ r. IsTight r d) (text_rows rep) (level rep.width) (member_of (λ v. All (λ r. IsTight r v) (text_rows rep)) (state rep entries).lines d inv.lines.corner c) level_in in
        by_parts rep.width d width ∙ ap (λ t. homogenised (take rep.width d) t)
        (sym (level_value rep.width (take rep.width d) (entry d (suc rep.width)) (front_width rep.width d width)) ∙ ap (λ v. dot (level rep.width) v) (sym (by_parts rep.width d width)) ∙ height)

    raised_lines : (ds : List (List ℚ)) → All (λ d. d ≡ homogenised (take rep.width d) zero_ℚ) ds → map (λ l. homogenised l zero_ℚ) (map (take rep.width) ds) ≡ ds
    raised_lines [] h = refl
    raised_lines (d ∷ ds) h = ap₂ (λ a b. a ∷ b) (sym (All-head (λ x. x ≡ homogenised (take rep.width x) zero_ℚ) d ds h)) (raised_lines ds (All-tail (λ x. x ≡ homogenised (take rep.width x) zero_ℚ) d ds h))

    fronts_are : map (λ l. homogenised l zero_ℚ) (map (take rep.width) (state rep entries).lines) ≡ (state rep entries).lines
    fronts_are = raised_lines (state rep entries).lines (all_of_members (λ d. d ≡ homogenised (take rep.width d) zero_ℚ) (state rep entries).lines line_is)

    -- what stands at a height
    pub height_member : (y : List ℚ) (t : ℚ) → length y ≡ rep.width → Contains (vectors (state rep entries).list.live) (homogenised y t) → Contains (at_height rep.width t (state rep entries)) y
    height_member y t width c = subst (λ (v : List ℚ). Contains (at_height rep.width t (state rep entries)) v) (take_front rep.width y t width)
        (Contains-map (take rep.width) (filter (λ g. same_ℚ (entry g (suc rep.width)) t) (vectors (state rep entries).list.live)) (homogenised y t)
        (Contains-filter (λ g. same_ℚ (entry g (suc rep.width)) t) (vectors (state rep entries).list.live) (homogenised y t) c
        ((same_ℚ-is (entry (homogenised y t) (suc rep.width)) t).1 (entry_last rep.width y t width))))

    pub height_source : (y : List ℚ) (t : ℚ) → Contains (at_height rep.width t (state rep entries)) y → Contains (vectors (state rep entries).list.live) (homogenised y t) × (length y ≡ rep.width)
    height_source y t c =
        let f : (g : List ℚ) × Contains (filter (λ x. same_ℚ (entry x (suc rep.width)) t) (vectors (state rep entries).list.live)) g × (take rep.width g ≡ y) =
        Contains-map_source (take rep.width) (filter (λ x. same_ℚ (entry x (suc rep.width)) t) (vectors (state rep entries).list.live)) y c in
        let k = Contains-filter_source (λ x. same_ℚ (entry x (suc rep.width)) t) (vectors (state rep entries).list.live) f.0 f.1 in
        let width : length f.0 ≡ suc rep.width = member_of (HasWidth (suc rep.width)) (vectors (state rep entries).list.live) f.0 (gens_wide some_rows).wide k.0 in (
          subst (λ (v : List ℚ). Contains (vectors (state rep entries).list.live) v)
              (by_parts rep.width f.0 width ∙ ap₂ homogenised f.2 ((same_ℚ-is (entry f.0 (suc rep.width)) t).0 k.1)) k.0,
          ap length (sym f.2) ∙ front_width rep.width f.0 width,
        )

    module _ (points directions : List (List ℚ)) (points_are : IsSorting (λ (v : List ℚ). v) (at_height rep.width one_ℚ (state rep entries)) points)
        (directions_are : IsSorting (λ (v : List ℚ). v) (at_height rep.width zero_ℚ (state rep entries)) directions) where
      fronts : List (List ℚ)
      fronts = map (take rep.width) (state rep entries).lines

      one_of : (g : List ℚ) → Contains (vectors (state rep entries).list.live) g → IsOneOf points directions g
      one_of g c =
          go (points_or_directions rep.width g (member_of (HasWidth (suc rep.width)) (vectors (state rep entries).list.live) g (gens_wide some_rows).wide c)
          (member_of IsNormed (vectors (state rep entries).list.live) g (started some_rows).live.normed c)
          (gen_holds (suc rep.width) (readers rep (state rep entries)) (rows_in_use rep (state rep entries)) (vectors (state rep entries).list.live) (state rep entries).lines (lined some_rows) g (level rep.width) c (in_use (level rep.width) level_in)))
        where
          go : ((y : List ℚ) × (length y ≡ rep.width) × (g ≡ homogenised y one_ℚ)) ⊎ ((d : List ℚ) × (length d ≡ rep.width) × IsNormedDirection d × (g ≡ homogenised d zero_ℚ)) →
              IsOneOf points directions g
          go (inl (y, w, e)) = inl (y, (points_are.same y).0 (height_member y one_ℚ w (subst (λ (v : List ℚ). Contains (vectors (state rep entries).list.live) v) e c)), e)
          go (inr (d, w, q, e)) = inr (d, (directions_are.same d).0 (height_member d zero_ℚ w (subst (λ (v : List ℚ). Contains (vectors (state rep entries).list.live) v) e c)), e)

      pub as_sides : AreSidesOf rep.width (readers rep (state rep entries)) (rows_in_use rep (state rep entries)) (vectors (state rep entries).list.live) points directions (map (take rep.width) (state rep entries).lines)
      as_sides = record {
        lined = subst (λ (ls : List (List ℚ)). AreLined (suc rep.width) (readers rep (state rep entries)) (rows_in_use rep (state rep entries)) (vectors (state rep entries).list.live) ls) (sym fronts_are) (lined some_rows);
        points_wide = record { wide = all_of_members (HasWidth rep.width) points (λ y c. (height_source y one_ℚ ((points_are.same y).1 c)).1) };
        directions_wide = record { wide = all_of_members (HasWidth rep.width) directions (λ y c. (height_source y zero_ℚ ((directions_are.same y).1 c)).1) };
        lines_wide = record {
          wide = All-map (HasWidth rep.width) (take rep.width) (state rep entries).lines (all_of_members (λ d. length (take rep.width d) ≡ rep.width) (state rep entries).lines
              (λ d c. front_width rep.width d (member_of (HasWidth (suc rep.width)) (state rep entries).lines d inv.lines.echelon.wide.wide c)));
        };
        each = all_of_members (IsOneOf points directions) (vectors (state rep entries).list.live) one_of;
        point_listed = all_of_members (λ y. Contains (vectors (state rep entries).list.live) (homogenised y one_ℚ)) points (λ y c. (height_source y one_ℚ ((points_are.same y).1 c)).0);
        direction_listed = all_of_members (λ y. Contains (vectors (state rep entries).list.live) (homogenised y zero_ℚ)) directions (λ y c. (height_source y zero_ℚ ((directions_are.same y).1 c)).0);
      }

      pub sides_same : (z : List ℚ) → Same (MeetsAllRows rep z) (IsInHull rep.width points directions (map (take rep.width) (state rep entries).lines) z)
      sides_same z = (
        λ m. (sides_are_hull rep.width (readers rep (state rep entries)) (rows_in_use rep (state rep entries)) (vectors (state rep entries).list.live) points directions (map (take rep.width) (state rep entries).lines) as_sides z m.wide).0
            ((meets_all z m.wide).0 m),
        λ h.
            let width : length z ≡ rep.width = hull_width rep.width points directions (map (take rep.width) (state rep entries).lines) z as_sides.points_wide as_sides.directions_wide as_sides.lines_wide h in
            (meets_all z width).1
            ((sides_are_hull rep.width (readers rep (state rep entries)) (rows_in_use rep (state rep entries)) (vectors (state rep entries).list.live) points directions (map (take rep.width) (state rep entries).lines) as_sides z width).1 h),
      )

    -- the other representation has the same members
    keeps_sides : (other : Rep) → Gives rep entries other → (z : List ℚ) → Same (IsMember rep z) (IsMember other z)
    keeps_sides other g z =
        let rows : GivesGenerators rep.width (state rep entries) other.rows = subst (λ (b : Bool). GivesRows b (has_rows rep) rep.width (state rep entries) other.rows) is_sides g.rows in
        let same = sides_same rows.points rows.directions rows.points_are rows.directions_are z in
        let read = member_rows other rep.width _ z (g.turned ∙ ap not is_sides) g.width rows.all in
        let hull = given_hull rep.width (map (take rep.width) (state rep entries).lines) rows.points rows.directions z in (
          λ m. read.1 (hull.1 (same.0 (subst (λ (b : Bool). IsInSet b rep z) is_sides m))),
          λ m. subst (λ (b : Bool). IsInSet b rep z) (sym is_sides) (same.1 (hull.0 (read.0 m))),
        )

  -- ---- from points, directions and lines
  module _ (is_gens : rep.gens ≡ true) where
    pub without_point : has_rows rep ≡ false → (z : List ℚ) → IsInHull rep.width (vectors_of Point rep) (vectors_of Direction rep) (vectors_of Line rep) z → ⊥
    without_point none z h = go (vectors_of Point rep) refl
      where
        go : (points : List (List ℚ)) → vectors_of Point rep ≡ points → ⊥
        go [] e = no_points rep.width (vectors_of Direction rep) (vectors_of Line rep) z
            (subst (λ (ps : List (List ℚ)). IsInHull rep.width ps (vectors_of Direction rep) (vectors_of Line rep) z) e h)
        go (p ∷ points) e =
            let s = vector_source Point rep.rows p (subst (λ (ps : List (List ℚ)). Contains ps p) (sym e) (Contains-here p points p refl)) in
            let m = point_in rep is_gens (row_point rep.rows s.0 s.1 s.2) in
            true≢false (sym (has_some (text_rows rep) (homogenised m.0 (neg_ℚ one_ℚ)) m.2) ∙ none)

    module _ (rows : has_rows rep ≡ true) (sides : List (List ℚ)) (sides_are : IsSorting (λ (v : List ℚ). v) (with_normal rep.width (state rep entries)) sides) where
      pub same_rows : (r : List ℚ) → Same (Contains (rows_in_use rep (state rep entries)) r) (Contains (gen_rows rep.rows) r)
      same_rows r = (
        λ c. source_listed rep.rows rep.width (gens_fit rep is_gens) r (subst (λ (rs : List (List ℚ)). Contains rs r) (pointed_text rep is_gens (pointed rep is_gens rows)) (in_text rows r c)),
        λ c. in_use r (subst (λ (rs : List (List ℚ)). Contains rs r) (sym (pointed_text rep is_gens (pointed rep is_gens rows))) (listed_row rep.rows r c)),
      )

      pub points_wide : AreWide rep.width (vectors_of Point rep)
      points_wide = kind_wide rep.width rep.rows Point (gens_fit rep is_gens) point_is refl

      pub directions_wide : AreWide rep.width (vectors_of Direction rep)
      directions_wide = kind_wide rep.width rep.rows Direction (gens_fit rep is_gens) direction_is refl

      pub lines_wide : AreWide rep.width (vectors_of Line rep)
      lines_wide = kind_wide rep.width rep.rows Line (gens_fit rep is_gens) line_kind_is refl

      pub hull_met : (z : List ℚ) → length z ≡ rep.width →
          Same (IsInHull rep.width (vectors_of Point rep) (vectors_of Direction rep) (vectors_of Line rep) z)
          (All (HoldsFor z) (vectors (state rep entries).list.live) × All (EqualFor z) (state rep entries).lines)
      hull_met z width = hull_is_sides rep.width (vectors_of Point rep) (vectors_of Direction rep) (vectors_of Line rep)
          (rows_in_use rep (state rep entries)) (readers rep (state rep entries)) (vectors (state rep entries).list.live) (state rep entries).lines
          points_wide directions_wide lines_wide same_rows (lined rows) z width

      pub side_in : (g : List ℚ) → Contains sides g → Contains (vectors (state rep entries).list.live) g
      side_in g c = (Contains-filter_source (λ g. not (list_all is_zero (take rep.width g))) (vectors (state rep entries).list.live) g ((sides_are.same g).1 c)).0

      pub sides_wide : AreWide (suc rep.width) sides
      sides_wide = record { wide = all_of_members (HasWidth (suc rep.width)) sides (λ g c. member_of (HasWidth (suc rep.width)) (vectors (state rep entries).list.live) g (gens_wide rows).wide (side_in g c)) }

      -- a generator without a normal holds at all points
      flat_holds : (z g : List ℚ) → length z ≡ rep.width → Contains (vectors (state rep entries).list.live) g → list_all is_zero (take rep.width g) ≡ true → HoldsFor z g
      flat_holds z g width c e =
          let m = point_in rep is_gens (pointed rep is_gens rows) in
          let g_wide : length g ≡ suc rep.width = member_of (HasWidth (suc rep.width)) (vectors (state rep entries).list.live) g (gens_wide rows).wide c in
          subst (λ (x : ℚ). zero_ℚ ≤ℚ x)
          (dot_comm (homogenised m.0 (neg_ℚ one_ℚ)) g ∙ sym (flat_value rep.width g z m.0 g_wide width m.1 e))
          (gen_holds (suc rep.width) (readers rep (state rep entries)) (rows_in_use rep (state rep entries)) (vectors (state rep entries).list.live) (state rep entries).lines (lined rows)
          g (homogenised m.0 (neg_ℚ one_ℚ)) c (in_use (homogenised m.0 (neg_ℚ one_ℚ)) m.2))

      sides_enough : (z : List ℚ) → length z ≡ rep.width → Same (All (HoldsFor z) (vectors (state rep entries).list.live)) (All (HoldsFor z) sides)
      sides_enough z width = (
        λ h. all_of_members (HoldsFor z) sides (λ g c. member_of (HoldsFor z) (vectors (state rep entries).list.live) g h (side_in g c)),
        λ h. all_of_members (HoldsFor z) (vectors (state rep entries).list.live) (λ g c. go h g c (true_or_not (list_all is_zero (take rep.width g)))),
      )
        where
          go : All (HoldsFor z) sides → (g : List ℚ) → Contains (vectors (state rep entries).list.live) g →
              (list_all is_zero (take rep.width g) ≡ true) ⊎ (not (list_all is_zero (take rep.width g)) ≡ true) → HoldsFor z g
          go h g c (inl e) = flat_holds z g width c e
          go h g c (inr e) = member_of (HoldsFor z) sides g h
              ((sides_are.same g).0 (Contains-filter (λ g. not (list_all is_zero (take rep.width g))) (vectors (state rep entries).list.live) g c e))

      given_met : (z : List ℚ) → length z ≡ rep.width →
          Same (All (λ row. MeetsRow z row row.kind) (as_rows Equal (state rep entries).lines ++ as_rows Side sides)) (All (EqualFor z) (state rep entries).lines × All (HoldsFor z) sides)
      given_met z width = (
        λ m. (
          (equals_meet rep.width (state rep entries).lines z inv.lines.echelon.wide width).0
              (all_of_members (λ row. MeetsRow z row row.kind) (as_rows Equal (state rep entries).lines) (λ row c.
              member_of (λ row. MeetsRow z row row.kind) (as_rows Equal (state rep entries).lines ++ as_rows Side sides) row m
              (Contains-append_left (as_rows Equal (state rep entries).lines) (as_rows Side sides) row c))),
          (sides_meet rep.width sides z sides_wide width).0
              (all_of_members (λ row. MeetsRow z row row.kind) (as_rows Side sides) (λ row c.
              member_of (λ row. MeetsRow z row row.kind) (as_rows Equal (state rep entries).lines ++ as_rows Side sides) row m
              (Contains-append_right (as_rows Equal (state rep entries).lines) (as_rows Side sides) row c))),
        ),
        λ m. All-append (λ row. MeetsRow z row row.kind) (as_rows Equal (state rep entries).lines) (as_rows Side sides)
            ((equals_meet rep.width (state rep entries).lines z inv.lines.echelon.wide width).1 m.0) ((sides_meet rep.width sides z sides_wide width).1 m.1),
      )

      pub gens_same : (z : List ℚ) → Same (IsInHull rep.width (vectors_of Point rep) (vectors_of Direction rep) (vectors_of Line rep) z)
          (MeetsGiven rep.width (as_rows Equal (state rep entries).lines ++ as_rows Side sides) z)
      gens_same z = (
        λ h.
            let width : length z ≡ rep.width = hull_width rep.width (vectors_of Point rep) (vectors_of Direction rep) (vectors_of Line rep) z points_wide directions_wide lines_wide h in
            let m = (hull_met z width).0 h in
            record { wide = width; meets = (given_met z width).1 (m.1, (sides_enough z width).0 m.0) },
        λ h.
            let m = (given_met z h.wide).0 h.meets in
            (hull_met z h.wide).1 ((sides_enough z h.wide).1 m.1, m.0),
      )

    keeps_gens : (other : Rep) → Gives rep entries other → (z : List ℚ) → Same (IsMember rep z) (IsMember other z)
    keeps_gens other g z = go (has_rows rep) refl
      where
        go : (b : Bool) → has_rows rep ≡ b → Same (IsMember rep z) (IsMember other z)
        go true e =
            let given : GivesInequalities rep.width (state rep entries) other.rows =
            subst (λ (b : Bool). GivesRows true b rep.width (state rep entries) other.rows) e
            (subst (λ (b : Bool). GivesRows b (has_rows rep) rep.width (state rep entries) other.rows) is_gens g.rows) in
            let read = member_sides other rep.width _ z (g.turned ∙ ap not is_gens) g.width given.all in
            let same = gens_same e given.sides given.sides_are z in (
              λ m. read.1 (same.0 (subst (λ (b : Bool). IsInSet b rep z) is_gens m)),
              λ m. subst (λ (b : Bool). IsInSet b rep z) (sym is_gens) (same.1 (read.0 m)),
            )
        go false e =
            let given : other.rows ≡ nothing_meets rep.width =
            subst (λ (b : Bool). GivesRows true b rep.width (state rep entries) other.rows) e
            (subst (λ (b : Bool). GivesRows b (has_rows rep) rep.width (state rep entries) other.rows) is_gens g.rows) in
            let read = member_sides other rep.width _ z (g.turned ∙ ap not is_gens) g.width given in (
              λ m. absurd (without_point e z (subst (λ (b : Bool). IsInSet b rep z) is_gens m)),
              λ m. absurd (met_by_none rep.width z (read.0 m)),
            )

-- ---- both
pub conversion_keeps_set : ConversionKeepsSet
conversion_keeps_set rep entries other done g z = go rep.gens refl
  where
    go : (b : Bool) → rep.gens ≡ b → Same (IsMember rep z) (IsMember other z)
    go true e = keeps_gens rep entries done e other g z
    go false e = keeps_sides rep entries done e other g z
