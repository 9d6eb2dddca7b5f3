-- The last vectors of a complement: they are fixed by the place of the first of them, with one more
-- they are such again, and each vector of a complement is a side.
use Rattle.std.proofs.Common.{◌≡◌, ℕ, zero, suc, ◌+◌, ◌-◌, ◌≤◌, ◌<◌, List, [], ◌∷◌, ◌++◌, map, length, All, AllPairs, Contains, refl, sym, ap, ap₂, ◌∙◌, subst, arith, ◌⊎◌, inl, inr, true, false, append_assoc, slice_index_or}
use Rattle.std.proofs.Math.Dec.{leb}
use Rattle.std.proofs.lemmas.Bool.Decides.{leb_tells}
use Rattle.std.proofs.lemmas.List.{append-nil, length-append, length-map}
use Rattle.std.proofs.lemmas.List.Elements.{All-nil, All-cons, All-head, All-tail, All-map, All-push, Contains-append_cases, Contains-append_right}
use Rattle.exact_field.specs.Rational.{ℚ, zero_ℚ, one_ℚ, ◌+ℚ◌, ◌*ℚ◌, neg_ℚ}
use Rattle.exact_field.specs.Vector.{dot, entry}
use Rattle.polyhedra.specs.DoubleDescription.{leading}
use Rattle.polyhedra.specs.Hull.{IsMultiple}
use Rattle.polyhedra.specs.Image.{IsConvexCone}
use Rattle.polyhedra.specs.Negatives.{negated}
use Rattle.polyhedra.specs.Vectors.{AreWide, zeros, plus, scaled, combination}
use Rattle.polyhedra.proofs.Algebra.{zero_add, zero_mul, mul_zero, neg_zero}
use Rattle.polyhedra.proofs.Laws.{add_zero}
use Rattle.polyhedra.proofs.Linear.{dot-plus, dot-scaled, dot-zeros, length-plus, length-scaled, length-zeros, length-combination, same_wide}
use Rattle.polyhedra.proofs.Lists.{HasWidth, all_from_map, wide-head, wide-nil, wide-tail, Contains-here, Contains-cases, Contains-nil, all_front, all_back}
use Rattle.polyhedra.proofs.Members.{all_of_members, member_of, pairs-head, pairs-nil, pairs-tail}
use Rattle.polyhedra.proofs.Negatives.{dot-negated}
use Rattle.lineality.specs.Lines.{AreEchelon, AreLines, IsCombined, IsInLineality, leading_place}
use Rattle.lineality.proofs.Echelon.{ComesFirst, IsEchelon, combination_of_zeros, combined_at, echelon_of, multipliers_of}
use Rattle.lineality.proofs.Lineality.{length-negated, one_list_of_lines}
use Rattle.lineality.proofs.Places.{at, at-negated, at-plus, at-scaled, at-zeros, before_first, entry_at, first, place_is}
use Rattle.lin_rows.specs.Complement.{AreComplement}
use Rattle.lin_rows.specs.Read.{numbers}
use Rattle.overflows.specs.Base.{IsSide}
use Rattle.recession.specs.Further.{AreTail, IsNextSide, IsZeroBefore}
use Rattle.recession.proofs.Whole.{many_together}

-- ---- two lists
pairs_across : {X : Type 0} (R : X → X → Type 0) (xs ys : List X) → AllPairs R (xs ++ ys) → (x y : X) → Contains xs x → Contains ys y → R x y
pairs_across R [] ys h x y m n = absurd (Contains-nil x m)
pairs_across {X} R (z ∷ xs) ys h x y m n = go (Contains-cases z xs x m) (pairs_across R xs ys (pairs-tail R z (xs ++ ys) h) x y)
  where
    go : (z ≡ x) ⊎ Contains xs x → (Contains xs x → Contains ys y → R x y) → R x y
    go (inl e) later = subst (λ (w : X). R w y) e (member_of (R z) (xs ++ ys) y (pairs-head R z (xs ++ ys) h) (Contains-append_right xs ys y n))
    go (inr k) later = later k n

pairs_back : {X : Type 0} (R : X → X → Type 0) (xs ys : List X) → AllPairs R (xs ++ ys) → AllPairs R ys
pairs_back R [] ys h = h
pairs_back R (x ∷ xs) ys h = pairs_back R xs ys (pairs-tail R x (xs ++ ys) h)

wide_back : (n : ℕ) (front back : List (List ℚ)) → AreWide n (front ++ back) → AreWide n back
wide_back n front back h = record { wide = all_back (HasWidth n) front back h.wide }

echelon_back : (n : ℕ) (front back : List (List ℚ)) → AreEchelon n (front ++ back) → AreEchelon n back
echelon_back n front back h = record {
  wide = wide_back n front back h.wide;
  leading_one = all_back (λ d. leading d ≡ one_ℚ) front back h.leading_one;
  places_rise = pairs_back (λ d e. leading_place d < leading_place e) front back h.places_rise;
  others_zero = pairs_back (λ d e. entry d (leading_place e) ≡ zero_ℚ) front back h.others_zero;
}

-- of a combination those vectors can be left out at whose places it is 0
skipped : (n : ℕ) (front back : List (List ℚ)) (y : List ℚ) → AreWide n (front ++ back) → All (λ v. at y (first v) ≡ zero_ℚ) front →
    combination n (multipliers_of (front ++ back) y) (front ++ back) ≡ combination n (multipliers_of back y) back
skipped n [] back y w h = refl
skipped n (v ∷ front) back y w h =
    let vs : List (List ℚ) = front ++ back in
    let w' : AreWide n vs = wide-tail n v vs w in
    let rest : List ℚ = combination n (multipliers_of vs y) vs in
    let same : rest ≡ combination n (multipliers_of back y) back = skipped n front back y w' (All-tail (λ v. at y (first v) ≡ zero_ℚ) v front h) in
    same_wide n (plus (scaled (at y (first v)) v) rest) rest (length-combination n (multipliers_of (v ∷ vs) y) (v ∷ vs) w) (length-combination n (multipliers_of vs y) vs w')
    (λ r. dot-plus r (scaled (at y (first v)) v) rest
    ∙ ap (λ a. a +ℚ dot r rest) (dot-scaled r (at y (first v)) v ∙ ap (λ a. a *ℚ dot r v) (All-head (λ v. at y (first v) ≡ zero_ℚ) v front h) ∙ zero_mul (dot r v))
    ∙ zero_add (dot r rest))
    ∙ same

-- ---- places counted from 0
zero_before : (d y : List ℚ) → ((k : ℕ) → k < first d → at y k ≡ zero_ℚ) → IsZeroBefore (leading_place d) y
zero_before d y h i low high = h (i - 1) (let p = place_is d in omega (arith, low, high, p))

before_place : (d y : List ℚ) → IsZeroBefore (leading_place d) y → (k : ℕ) → k < first d → at y k ≡ zero_ℚ
before_place d y h k l = ap (at y) (next k) ∙ h (suc k) (omega arith) (let p = place_is d in omega (arith, l, p))
  where
    next : (k : ℕ) → k ≡ suc k - 1
    next k = omega arith

module _ (q : ℕ) (normals : List (List ℚ)) where
  abbrev IsAcross : List ℚ → Type 0
  IsAcross y = All (λ n. dot n y ≡ zero_ℚ) normals

  across_by : (y z : List ℚ) → IsAcross z → ((n : List ℚ) → dot n z ≡ zero_ℚ → dot n y ≡ zero_ℚ) → IsAcross y
  across_by y z h f = all_of_members (λ n. dot n y ≡ zero_ℚ) normals (λ n c. f n (member_of (λ n. dot n z ≡ zero_ℚ) normals n h c))

  -- ---- the vectors across the normals that are 0 before a place
  record IsPast (p : ℕ) (y : List ℚ) : Type 0 where
    wide : length y ≡ q
    across : IsAcross y
    before : (k : ℕ) → k < p → at y k ≡ zero_ℚ

  past_cone : (p : ℕ) → IsConvexCone q (IsPast p)
  past_cone p = record {
    wide = λ y h. h.wide;
    zero = record { wide = length-zeros q; across = all_of_members (λ n. dot n (zeros q) ≡ zero_ℚ) normals (λ n c. dot-zeros n q); before = λ k l. at-zeros q k };
    sum = λ a b h k. record {
      wide = length-plus q a b h.wide k.wide;
      across = all_of_members (λ n. dot n (plus a b) ≡ zero_ℚ) normals
          (λ n c. dot-plus n a b
          ∙ ap₂ (λ x y. x +ℚ y) (member_of (λ n. dot n a ≡ zero_ℚ) normals n h.across c) (member_of (λ n. dot n b ≡ zero_ℚ) normals n k.across c) ∙ add_zero zero_ℚ);
      before = λ j l. at-plus a b j ∙ ap₂ (λ x y. x +ℚ y) (h.before j l) (k.before j l) ∙ add_zero zero_ℚ;
    };
    multiple = λ s d pos h. record {
      wide = length-scaled s d ∙ h.wide;
      across = across_by (scaled s d) d h.across (λ n e. dot-scaled n s d ∙ ap (λ x. s *ℚ x) e ∙ mul_zero s);
      before = λ j l. at-scaled s d j ∙ ap (λ x. s *ℚ x) (h.before j l) ∙ mul_zero s;
    };
  }

  past_both : (p : ℕ) (d : List ℚ) → IsPast p d → IsInLineality (IsPast p) d
  past_both p d h = record {
    forth = h;
    back = record {
      wide = length-negated d ∙ h.wide;
      across = across_by (negated d) d h.across (λ n e. dot-negated n d ∙ ap neg_ℚ e ∙ neg_zero);
      before = λ j l. at-negated d j ∙ ap neg_ℚ (h.before j l) ∙ neg_zero;
    };
  }

  -- vectors in reduced echelon form across the normals, none of which starts before the place
  past_lines : (p : ℕ) (vs : List (List ℚ)) → AreEchelon q vs → All IsAcross vs → All (λ v. p ≤ first v) vs →
      ((y : List ℚ) → IsPast p y → IsCombined q vs y) → AreLines q (IsPast p) vs
  past_lines p vs e across high spans = record {
    along = record {
      echelon = e;
      each = all_of_members (IsInLineality (IsPast p)) vs (λ v c. past_both p v record {
        wide = member_of (HasWidth q) vs v e.wide.wide c;
        across = member_of IsAcross vs v across c;
        before = λ k l. before_first v k (let m = member_of (λ v. p ≤ first v) vs v high c in omega (arith, l, m));
      });
    };
    spans = λ y h. spans y h.forth;
  }

  -- ---- the last vectors of a complement
  combined_back : (front back : List (List ℚ)) → AreComplement q normals (front ++ back) → (y : List ℚ) → length y ≡ q → IsAcross y →
      All (λ v. at y (first v) ≡ zero_ℚ) front → y ≡ combination q (multipliers_of back y) back
  combined_back front back h y w across gone =
      combined_at q (front ++ back) y (echelon_of q (front ++ back) h.echelon) (h.spans y w across) ∙ skipped q front back y h.echelon.wide gone

  is_combined_back : (front back : List (List ℚ)) → AreComplement q normals (front ++ back) → (y : List ℚ) → length y ≡ q → IsAcross y →
      All (λ v. at y (first v) ≡ zero_ℚ) front → IsCombined q back y
  is_combined_back front back h y w across gone =
      record { multipliers = multipliers_of back y; one_each = length-map back (λ d. at y (first d)); combined = combined_back front back h y w across gone }

  pub tail_back : (front back : List (List ℚ)) → AreComplement q normals (front ++ back) → AreTail q normals back
  tail_back front back h = record {
    echelon = echelon_back q front back h.echelon;
    orthogonal = all_back IsAcross front back h.orthogonal;
    spans = λ d others is y w across before. is_combined_back front back h y w across
        (all_of_members (λ v. at y (first v) ≡ zero_ℚ) front
        (λ v c. before_place d y before (first v)
        (pairs_across ComesFirst front back (echelon_of q (front ++ back) h.echelon).pairs v d c
        (subst (λ (vs : List (List ℚ)). Contains vs d) (sym is) (Contains-here d others d refl))).rises));
  }

  -- ---- the vectors of a list from a place on
  record AreParts (p : ℕ) (vs front back : List (List ℚ)) : Type 0 where
    same : vs ≡ front ++ back
    low : All (λ v. first v < p) front
    high : All (λ v. p ≤ first v) back

  parts : (p : ℕ) (vs : List (List ℚ)) → AllPairs ComesFirst vs → (front : List (List ℚ)) × (back : List (List ℚ)) × AreParts p vs front back
  parts p [] h = ([], [], record { same = refl; low = All-nil (λ v. first v < p); high = All-nil (λ v. p ≤ first v) })
  parts p (v ∷ vs) h = go (leb_tells (suc (first v)) p) (parts p vs (pairs-tail ComesFirst v vs h))
    where
      go : ((leb (suc (first v)) p ≡ true) × (suc (first v) ≤ p)) ⊎ ((leb (suc (first v)) p ≡ false) × (p < suc (first v))) → (front : List (List ℚ)) × (back : List (List ℚ)) × AreParts p vs front back → (front : List (List ℚ)) × (back : List (List ℚ)) × AreParts p (v ∷ vs) front back
      go (inl l) (front, back, k) =
          (v ∷ front, back, record { same = ap (λ us. v ∷ us) k.same; low = All-cons (λ v. first v < p) v front (let m = l.1 in omega (arith, m)) k.low; high = k.high })
      go (inr l) more = (
        [],
        v ∷ vs,
        record {
          same = refl;
          low = All-nil (λ v. first v < p);
          high = All-cons (λ v. p ≤ first v) v vs (let m = l.1 in omega (arith, m))
              (all_of_members (λ e. p ≤ first e) vs (λ e c. let m = l.1 in let r = (member_of (ComesFirst v) vs e (pairs-head ComesFirst v vs h) c).rises in omega (arith, m, r)));
        },
      )

  -- a complement ends with each such list
  pub tail_is_last : (vs ls : List (List ℚ)) → AreComplement q normals vs → AreTail q normals ls → (front : List (List ℚ)) × (vs ≡ front ++ ls)
  tail_is_last vs [] h t = (vs, sym (append-nil vs))
  tail_is_last vs (d ∷ others) h t =
      let p : ℕ = first d in
      let form : IsEchelon q vs = echelon_of q vs h.echelon in
      let own : IsEchelon q (d ∷ others) = echelon_of q (d ∷ others) t.echelon in
      let k : (front : List (List ℚ)) × (back : List (List ℚ)) × AreParts p vs front back = parts p vs form.pairs in
      let front : List (List ℚ) = k.0 in
      let back : List (List ℚ) = k.1 in
      let h' : AreComplement q normals (front ++ back) = subst (AreComplement q normals) k.2.same h in
      let one : AreLines q (IsPast p) back = past_lines p back (echelon_back q front back h'.echelon) (all_back IsAcross front back h'.orthogonal) k.2.high
      (λ y b. is_combined_back front back h' y b.wide b.across
      (all_of_members (λ v. at y (first v) ≡ zero_ℚ) front (λ v c. b.before (first v) (member_of (λ v. first v < p) front v k.2.low c)))) in
      let two : AreLines q (IsPast p) (d ∷ others) = past_lines p (d ∷ others) t.echelon t.orthogonal
      (All-cons (λ v. p ≤ first v) d others (omega arith)
      (all_of_members (λ e. p ≤ first e) others (λ e c. let r = (member_of (ComesFirst d) others e (pairs-head ComesFirst d others own.pairs) c).rises in omega (arith, r))))
      (λ y b. t.spans d others refl y b.wide b.across (zero_before d y b.before)) in
      (front, k.2.same ∙ ap (λ us. front ++ us) (one_list_of_lines (IsPast p) q back (d ∷ others) (past_cone p) one two))

  -- ---- one vector of a complement
  -- it is 0 at the places of the others
  alone : (front back : List (List ℚ)) (d : List ℚ) → AllPairs ComesFirst (front ++ d ∷ back) → All (λ v. at d (first v) ≡ zero_ℚ) (front ++ back)
  alone front back d rise = all_of_members (λ v. at d (first v) ≡ zero_ℚ) (front ++ back)
      (λ v c. elim (Contains-append_cases front back v c) [
        | inl k ↦ before_first d (first v) (pairs_across ComesFirst front (d ∷ back) rise v d k (Contains-here d back d refl)).rises
        | inr k ↦ (member_of (ComesFirst d) back v (pairs-head ComesFirst d back (pairs_back ComesFirst front (d ∷ back) rise)) k).off
      ])

  -- and each vector across the normals that is 0 there is a multiple of it
  multiple : (front back : List (List ℚ)) (d : List ℚ) → AreComplement q normals (front ++ d ∷ back) → (z : List ℚ) → length z ≡ q → IsAcross z →
      All (λ v. at z (first v) ≡ zero_ℚ) (front ++ back) → IsMultiple d z
  multiple front back d h z wide across gone =
      let m : ℚ = at z (first d) in
      let rest : List ℚ = combination q (multipliers_of back z) back in
      let d_wide : AreWide q (d ∷ back) = wide_back q front (d ∷ back) h.echelon.wide in
      let none : rest ≡ zeros q = combination_of_zeros q (multipliers_of back z) back (wide-tail q d back d_wide)
      (All-map (λ m. m ≡ zero_ℚ) (λ v. at z (first v)) back (all_back (λ v. at z (first v) ≡ zero_ℚ) front back gone)) in
      record {
        factor = m;
        same = combined_back front (d ∷ back) h z wide across (all_front (λ v. at z (first v) ≡ zero_ℚ) front back gone)
            ∙ same_wide q (plus (scaled m d) rest) (scaled m d) (length-combination q (multipliers_of (d ∷ back) z) (d ∷ back) d_wide)
            (length-scaled m d ∙ wide-head q d back d_wide)
            (λ r. dot-plus r (scaled m d) rest ∙ ap (λ a. dot r (scaled m d) +ℚ a) (ap (dot r) none ∙ dot-zeros r q) ∙ add_zero (dot r (scaled m d)));
      }

  places_of : List (List ℚ) → List ℕ
  places_of vs = map leading_place vs

  zero_there : (vs : List (List ℚ)) (z : List ℚ) → All (λ k. entry z k ≡ zero_ℚ) (places_of vs) → All (λ v. at z (first v) ≡ zero_ℚ) vs
  unfolding places_of
  zero_there vs z h = all_of_members (λ v. at z (first v) ≡ zero_ℚ) vs
      (λ v c. sym (entry_at z v) ∙ member_of (λ v. entry z (leading_place v) ≡ zero_ℚ) vs v (all_from_map (λ k. entry z k ≡ zero_ℚ) leading_place vs h) c)

  at_places : (vs : List (List ℚ)) (z : List ℚ) → All (λ v. at z (first v) ≡ zero_ℚ) vs → All (λ k. entry z k ≡ zero_ℚ) (places_of vs)
  unfolding places_of
  at_places vs z h = All-map (λ k. entry z k ≡ zero_ℚ) leading_place vs
      (all_of_members (λ v. entry z (leading_place v) ≡ zero_ℚ) vs (λ v c. entry_at z v ∙ member_of (λ v. at z (first v) ≡ zero_ℚ) vs v h c))

  pub side_at : (front back : List (List ℚ)) (d : List ℚ) → AreComplement q normals (front ++ d ∷ back) → IsSide q normals d
  side_at front back d h =
      let vs : List (List ℚ) = front ++ d ∷ back in
      let listed : Contains vs d = Contains-append_right front (d ∷ back) d (Contains-here d back d refl) in
      record {
        starts = member_of (λ v. leading v ≡ one_ℚ) vs d h.echelon.leading_one listed;
        places = places_of (front ++ back);
        flat = record {
          wide = member_of (HasWidth q) vs d h.echelon.wide.wide listed;
          at_places = at_places (front ++ back) d (alone front back d (echelon_of q vs h.echelon).pairs);
          across = member_of IsAcross vs d h.orthogonal listed;
        };
        spans = λ z f. multiple front back d h z f.wide f.across (zero_there (front ++ back) z f.at_places);
      }

  -- each vector of a complement
  sides_from : (front back : List (List ℚ)) → AreComplement q normals (front ++ back) → All (IsSide q normals) back
  sides_from front [] h = All-nil (IsSide q normals)
  sides_from front (d ∷ back) h =
      All-cons (IsSide q normals) d back (side_at front back d h)
      (sides_from (front ++ d ∷ []) back (subst (AreComplement q normals) (sym (append_assoc front (d ∷ []) back)) h))

  pub all_sides : (vs : List (List ℚ)) → AreComplement q normals vs → All (IsSide q normals) vs
  all_sides vs h = sides_from [] vs h

-- ---- which vector is next
back_from : {X : Type 0} (xs : List X) → (xs ≡ [] → ⊥) → (front : List X) × (x : X) × (xs ≡ front ++ x ∷ [])
back_from [] h = absurd (h refl)
back_from {X} (y ∷ []) h = ([], y, refl)
back_from {X} (y ∷ z ∷ xs) h =
    let m : (front : List X) × (x : X) × (z ∷ xs ≡ front ++ x ∷ []) = back_from (z ∷ xs) (λ e. let l = ap length e in omega (arith, l)) in
    (y ∷ m.0, m.1, ap (λ ws. y ∷ ws) m.2)

entry_after : {X : Type 0} (front back : List X) (x d : X) → slice_index_or (front ++ x ∷ back) (length front) d ≡ x
entry_after [] back x d = refl
entry_after (y ∷ front) back x d = entry_after front back x d

row_value : {F : Type 0} (value : F → ℚ) (rows : List (List F)) (i : ℕ) → slice_index_or (numbers value rows) i [] ≡ map value (slice_index_or rows i [])
row_value value [] i = refl
row_value value (r ∷ rows) zero = refl
row_value value (r ∷ rows) (suc i) = row_value value rows i

-- the one before the last ones stands at this place
next_side : (q : ℕ) (normals vs ls : List (List ℚ)) (k : ℕ) → AreComplement q normals vs → AreTail q normals ls → length normals + length ls < q →
    k ≡ length vs - length ls → (1 ≤ k) × (k ≤ length vs) × IsNextSide q normals ls (slice_index_or vs (k - 1) [])
next_side q normals vs ls k h t few is =
    let l : (front : List (List ℚ)) × (vs ≡ front ++ ls) = tail_is_last q normals vs ls h t in
    let m : (front : List (List ℚ)) × (d : List ℚ) × (l.0 ≡ front ++ d ∷ []) = back_from l.0 (λ e.
    let same : length vs ≡ length ls = ap length (l.1 ∙ ap (λ us. us ++ ls) e) in many_together q normals vs h (omega (arith, few, same))) in
    let front : List (List ℚ) = m.0 in
    let d : List ℚ = m.1 in
    let all : vs ≡ front ++ d ∷ ls = l.1 ∙ ap (λ us. us ++ ls) m.2 ∙ append_assoc front (d ∷ []) ls in
    let long : length vs ≡ length front + suc (length ls) = ap length all ∙ length-append front (d ∷ ls) in
    let h' : AreComplement q normals (front ++ d ∷ ls) = subst (AreComplement q normals) all h in
    let here : d ≡ slice_index_or vs (k - 1) [] =
    sym (entry_after front ls d []) ∙ ap₂ (λ us i. slice_index_or us i []) (sym all) (let e = is in omega (arith, e, long)) in (
      omega (arith, is, long),
      omega (arith, is, long),
      subst (IsNextSide q normals ls) here (record { side = side_at q normals front ls d h'; tail = tail_back q normals front (d ∷ ls) h' }),
    )

pub next_row : {F : Type 0} (value : F → ℚ) (q : ℕ) (normals : List (List ℚ)) (rows : List (List F)) (ls : List (List ℚ)) (count found : ℕ) →
    AreComplement q normals (numbers value rows) → AreTail q normals ls → length normals + found < q → found ≡ length ls → count ≡ length rows →
    (1 ≤ count - found) × (count - found ≤ length rows) × IsNextSide q normals ls (map value (slice_index_or rows (count - found - 1) []))
next_row value q normals rows ls count found h t few found_is count_is =
    let k : ℕ = count - found in
    let vs : List (List ℚ) = numbers value rows in
    let long : length vs ≡ length rows = length-map rows (λ r. map value r) in
    let n = next_side q normals vs ls k h t (omega (arith, few, found_is)) (omega (arith, long, found_is, count_is)) in
    (n.0, (let l = n.1 in omega (arith, l, long)), subst (IsNextSide q normals ls) (row_value value rows (k - 1)) n.2)

-- no vector
pub tail_none : (q : ℕ) (normals : List (List ℚ)) → AreTail q normals []
tail_none q normals = record {
  echelon = record {
    wide = wide-nil q;
    leading_one = All-nil (λ d. leading d ≡ one_ℚ);
    places_rise = pairs-nil (λ d e. leading_place d < leading_place e);
    others_zero = pairs-nil (λ d e. entry d (leading_place e) ≡ zero_ℚ);
  };
  orthogonal = All-nil (λ v. All (λ n. dot n v ≡ zero_ℚ) normals);
  spans = λ d others is. absurd (let l = ap length is in omega (arith, l));
}

-- one more normal that is level at the vectors
pub tail_more : (q : ℕ) (normals ls : List (List ℚ)) (w : List ℚ) → AreTail q normals ls → All (λ v. dot w v ≡ zero_ℚ) ls → AreTail q (normals ++ w ∷ []) ls
tail_more q normals ls w t level = record {
  echelon = t.echelon;
  orthogonal = all_of_members (λ v. All (λ n. dot n v ≡ zero_ℚ) (normals ++ w ∷ [])) ls
      (λ v c. All-push (λ n. dot n v ≡ zero_ℚ) normals w (member_of (λ v. All (λ n. dot n v ≡ zero_ℚ) normals) ls v t.orthogonal c)
      (member_of (λ v. dot w v ≡ zero_ℚ) ls v level c));
  spans = λ d others is y wide across before. t.spans d others is y wide (all_front (λ n. dot n y ≡ zero_ℚ) normals (w ∷ []) across) before;
}
