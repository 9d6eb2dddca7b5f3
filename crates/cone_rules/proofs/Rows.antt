-- The vectors of a cone that are not 0: numbers spread over all vectors, and tests of a vector by
-- them.
use Rattle.std.proofs.Common.{◌≡◌, ◌≢◌, ℕ, zero, suc, List, [], ◌∷◌, length, map, All, refl, sym, ap, ap₂, ◌∙◌, subst, arith, ◌<◌, ◌≤◌, ◌-◌, ◌+◌, ◌⊎◌, inl, inr, Bool, true, false, not, cond, nat_eq, nat_lt, slice_index_or}
use Rattle.std.specs.Prelude.{◌&&◌, unsigned_abs}
use Rattle.std.specs.List.{filter, list_all}
use Rattle.std.proofs.lemmas.Bool.{eqb-true, ltb-true, lt-ltb}
use Rattle.std.proofs.lemmas.Bool.Decides.{eqb_tells}
use Rattle.std.proofs.lemmas.List.Elements.{All-nil, All-cons, All-head, All-tail, All-weaker, All-filter}
use Rattle.exact_field.specs.Rational.{ℚ, zero_ℚ, one_ℚ, whole, ◌+ℚ◌, ◌*ℚ◌, ◌≤ℚ◌, ◌<ℚ◌}
use Rattle.exact_field.specs.Vector.{entry, dot}
use Rattle.exact_field.proofs.Rationals.{zero_from_num}
use Rattle.frac128.specs.Sparse.{is_zero, rises_above}
use Rattle.frac128.specs.declared.vectors.Spot.{Spot}
use Rattle.polyhedra.specs.Sparse.{value_at, values_from}
use Rattle.polyhedra.specs.Vectors.{AreWide, AtLeastZero, zeros, combination}
use Rattle.polyhedra.proofs.Algebra.{zero_add, zero_mul}
use Rattle.polyhedra.proofs.Duality.{interior_of_rows}
use Rattle.polyhedra.proofs.Laws.{add_zero, le_refl, zero_lt_one}
use Rattle.polyhedra.proofs.Linear.{dot_comm, dot-nil, dot-combination, dot-combination_left, length-combination, same_wide}
use Rattle.polyhedra.proofs.Lists.{HasWidth, wide-head, wide-tail, nonneg-nil, nonneg-cons, nonneg-head, nonneg-tail}
use Rattle.polyhedra.proofs.Order.{zero_or_positive}
use Rattle.polyhedra.proofs.Tests.{both_hold, both_true}
use Rattle.tableaux.specs.Table.{row_of, list_from, unit}
use Rattle.tableaux.proofs.Definition.{unit_value, delta_sym}
use Rattle.tableaux.proofs.Places.{row-wide, delta}
use Rattle.vlp_problem.specs.declared.problem.Cone.TheVariants.{Dual}
use Rattle.vlp_problem.proofs.Zero.{abs_zero}
use Rattle.upper_image.specs.Spots.{entry_of, dense, IsVector}
use Rattle.cone_rules.specs.Faults.{ShowsOutside}
use Rattle.cone_rules.specs.Laws.{RowTests, spread, IsSpread}

-- ---- vectors that are 0
zero_number : (x : ℚ) → is_zero x ≡ true → x ≡ zero_ℚ
zero_number x h = zero_from_num x (abs_zero x.num (eqb-true (unsigned_abs x.num) 0 h))

is_zero-zero : is_zero zero_ℚ ≡ true
unfolding whole
is_zero-zero = refl

zero_vector : (q : ℕ) (v : List ℚ) → length v ≡ q → list_all is_zero v ≡ true → v ≡ zeros q
zero_vector zero [] h e = refl
zero_vector (suc q) [] h e = absurd (omega arith)
zero_vector zero (x ∷ v) h e = absurd (omega arith)
zero_vector (suc q) (x ∷ v) h e =
    let b = both_true (is_zero x) (list_all is_zero v) e in
    ap₂ (λ y w. y ∷ w) (zero_number x b.0) (zero_vector q v (omega arith) b.1)

zeros_pass : (q : ℕ) → list_all is_zero (zeros q) ≡ true
zeros_pass zero = refl
zeros_pass (suc q) = ap₂ (λ a b. a && b) is_zero-zero (zeros_pass q)

abbrev pub kept : List (List ℚ) → List (List ℚ)
kept vectors = filter (λ v. not (list_all is_zero v)) vectors

pub kept_wide : (q : ℕ) (vectors : List (List ℚ)) → AreWide q vectors → AreWide q (kept vectors)
kept_wide q vectors h = record { wide = All-filter (λ v. not (list_all is_zero v)) (HasWidth q) vectors h.wide }

-- what holds of those that are kept holds of each vector that is not 0
pub kept_or_zero : (q : ℕ) (P : List ℚ → Type 0) (vectors : List (List ℚ)) → AreWide q vectors → All P (kept vectors) → All (λ v. P v ⊎ (v ≡ zeros q)) vectors
kept_or_zero q P [] w h = All-nil (λ v. P v ⊎ (v ≡ zeros q))
kept_or_zero q P (v ∷ vectors) w h = go (list_all is_zero v) refl h (kept_or_zero q P vectors (wide-tail q v vectors w))
  where
    go : (b : Bool) → list_all is_zero v ≡ b → All P (cond (not b) (v ∷ kept vectors) (kept vectors)) → (All P (kept vectors) → All (λ u. P u ⊎ (u ≡ zeros q)) vectors) →
        All (λ u. P u ⊎ (u ≡ zeros q)) (v ∷ vectors)
    go true e k more = All-cons (λ u. P u ⊎ (u ≡ zeros q)) v vectors (inr (zero_vector q v (wide-head q v vectors w) e)) (more k)
    go false e k more = All-cons (λ u. P u ⊎ (u ≡ zeros q)) v vectors (inl (All-head P v (kept vectors) k)) (more (All-tail P v (kept vectors) k))

-- and what holds of each vector that is not 0 holds of those that are kept
pub kept_nonzero : (q : ℕ) (P : List ℚ → Type 0) (vectors : List (List ℚ)) → All (λ v. v ≢ zeros q → P v) vectors → All P (kept vectors)
kept_nonzero q P [] h = All-nil P
kept_nonzero q P (v ∷ vectors) h = go (list_all is_zero v) refl (kept_nonzero q P vectors (All-tail (λ u. u ≢ zeros q → P u) v vectors h))
  where
    no : true ≡ false → ⊥
    no p = cc

    go : (b : Bool) → list_all is_zero v ≡ b → All P (kept vectors) → All P (cond (not b) (v ∷ kept vectors) (kept vectors))
    go true e more = more
    go false e more =
        All-cons P v (kept vectors)
        (All-head (λ u. u ≢ zeros q → P u) v vectors h (λ z. no (sym (zeros_pass q) ∙ ap (λ u. list_all is_zero u) (sym z) ∙ e))) more

-- ---- numbers spread over the vectors
pub spread_dot : (f : List ℚ → ℚ) (vectors : List (List ℚ)) (xs : List ℚ) → dot (spread vectors xs) (map f vectors) ≡ dot xs (map f (kept vectors))
spread_dot f [] xs = sym (dot-nil xs)
spread_dot f (v ∷ vectors) [] = ap₂ (λ a b. a +ℚ b) (zero_mul (f v)) (spread_dot f vectors []) ∙ add_zero zero_ℚ
spread_dot f (v ∷ vectors) (x ∷ xs) = go (list_all is_zero v) (spread_dot f vectors)
  where
    go : (b : Bool) → ((ys : List ℚ) → dot (spread vectors ys) (map f vectors) ≡ dot ys (map f (kept vectors))) →
        dot (cond b (zero_ℚ ∷ spread vectors (x ∷ xs)) (x ∷ spread vectors xs)) (f v ∷ map f vectors) ≡ dot (x ∷ xs) (map f (cond (not b) (v ∷ kept vectors) (kept vectors)))
    go true again = ap₂ (λ a b. a +ℚ b) (zero_mul (f v)) (again (x ∷ xs)) ∙ zero_add (dot (x ∷ xs) (map f (kept vectors)))
    go false again = ap (λ a. x *ℚ f v +ℚ a) (again xs)

pub spread_combination : (q : ℕ) (vectors : List (List ℚ)) (xs : List ℚ) → AreWide q vectors →
    combination q (spread vectors xs) vectors ≡ combination q xs (kept vectors)
spread_combination q vectors xs w =
    same_wide q (combination q (spread vectors xs) vectors) (combination q xs (kept vectors)) (length-combination q (spread vectors xs) vectors w)
    (length-combination q xs (kept vectors) (kept_wide q vectors w))
    (λ r. dot-combination q r (spread vectors xs) vectors ∙ spread_dot (λ v. dot v r) vectors xs ∙ sym (dot-combination q r xs (kept vectors)))

pub spread_nonneg : (vectors : List (List ℚ)) (xs : List ℚ) → AtLeastZero xs → AtLeastZero (spread vectors xs)
spread_nonneg [] xs h = nonneg-nil
spread_nonneg (v ∷ vectors) [] h = nonneg-cons zero_ℚ (spread vectors []) (le_refl zero_ℚ) (spread_nonneg vectors [] h)
spread_nonneg (v ∷ vectors) (x ∷ xs) h = go (list_all is_zero v) (spread_nonneg vectors)
  where
    go : (b : Bool) → ((ys : List ℚ) → AtLeastZero ys → AtLeastZero (spread vectors ys)) → AtLeastZero (cond b (zero_ℚ ∷ spread vectors (x ∷ xs)) (x ∷ spread vectors xs))
    go true again = nonneg-cons zero_ℚ (spread vectors (x ∷ xs)) (le_refl zero_ℚ) (again (x ∷ xs) h)
    go false again = nonneg-cons x (spread vectors xs) (nonneg-head x xs h) (again xs (nonneg-tail x xs h))

spread_only : (vectors : List (List ℚ)) (xs : List ℚ) (i : ℕ) → slice_index_or (spread vectors xs) i zero_ℚ ≢ zero_ℚ →
    list_all is_zero (slice_index_or vectors i []) ≡ false
spread_only [] xs i h = absurd (h refl)
spread_only (v ∷ vectors) [] zero h = absurd (h refl)
spread_only (v ∷ vectors) [] (suc i) h = spread_only vectors [] i h
spread_only (v ∷ vectors) (x ∷ xs) i h = go (list_all is_zero v) refl (spread_only vectors) i h
  where
    go : (b : Bool) → list_all is_zero v ≡ b → ((ys : List ℚ) (j : ℕ) → slice_index_or (spread vectors ys) j zero_ℚ ≢ zero_ℚ →
        list_all is_zero (slice_index_or vectors j []) ≡ false) → (k : ℕ) → slice_index_or (cond b (zero_ℚ ∷ spread vectors (x ∷ xs)) (x ∷ spread vectors xs)) k zero_ℚ ≢ zero_ℚ →
        list_all is_zero (slice_index_or (v ∷ vectors) k []) ≡ false
    go true e again zero k = absurd (k refl)
    go false e again zero k = e
    go true e again (suc j) k = again (x ∷ xs) j k
    go false e again (suc j) k = again xs j k

-- ---- sparse vectors
pub values_from-at : (n k : ℕ) (f : ℕ → ℚ) (i : ℕ) → i < n → slice_index_or (values_from n k f) i zero_ℚ ≡ f (k + i)
values_from-at zero k f i h = absurd (omega arith)
values_from-at (suc n) k f zero h = ap f (omega arith)
values_from-at (suc n) k f (suc i) h = values_from-at n (suc k) f i (omega arith) ∙ ap f (omega arith)

pub dense-at : (n : ℕ) (m : List Spot) (k : ℕ) → 1 ≤ k → k ≤ n → entry (dense n m) k ≡ value_at (map entry_of m) k
dense-at n m k l u = values_from-at n 1 (value_at (map entry_of m)) (k - 1) (omega arith) ∙ ap (value_at (map entry_of m)) (omega arith)

-- a spot of a sparse vector, whose places rise from above `low`
pub record IsSpotOf (m : List Spot) (low : ℕ) (s : Spot) : Type 0 where
  pub above : low < s.at
  pub value : value_at (map entry_of m) s.at ≡ s.value
  pub some : s.value ≢ zero_ℚ

pub spots_of : (m : List Spot) (low : ℕ) → rises_above low m ≡ true → All (IsSpotOf m low) m
spots_of [] low h = All-nil (IsSpotOf [] low)
spots_of (s ∷ m) low h =
    All-cons (IsSpotOf (s ∷ m) low) s m record { above = up; value = ap (λ b. cond b s.value (value_at (map entry_of m) s.at)) (same s.at); some = other }
    (All-weaker (IsSpotOf m s.at) (IsSpotOf (s ∷ m) low)
    (λ t k. record {
      above = next t k;
      value = ap (λ b. cond b s.value (value_at (map entry_of m) t.at)) (apart t k) ∙ k.value;
      some = k.some;
    }) m (spots_of m s.at rest.1))
  where
    first : (nat_lt low s.at ≡ true) × ((not (is_zero s.value) && rises_above s.at m) ≡ true)
    first = both_true (nat_lt low s.at) (not (is_zero s.value) && rises_above s.at m) h

    rest : (not (is_zero s.value) ≡ true) × (rises_above s.at m ≡ true)
    rest = both_true (not (is_zero s.value)) (rises_above s.at m) first.1

    up : low < s.at
    up = ltb-true low s.at first.0

    other : s.value ≢ zero_ℚ
    other e = no (ap (λ b. not b) (sym (ap is_zero e ∙ is_zero-zero)) ∙ rest.0)
      where
        no : false ≡ true → ⊥
        no p = cc

    next : (t : Spot) → IsSpotOf m s.at t → low < t.at
    next t k = let above : s.at < t.at = k.above in omega (arith, up, above)

    same : (k : ℕ) → nat_eq k k ≡ true
    same k = elim (eqb_tells k k) [ inl t ↦ t.0 | inr t ↦ absurd (t.1 refl) ]

    apart : (t : Spot) → IsSpotOf m s.at t → nat_eq s.at t.at ≡ false
    apart t k = elim (eqb_tells s.at t.at) [ inl e ↦ absurd (let above : s.at < t.at = k.above in omega (arith, above, e.1)) | inr o ↦ o.0 ]

nonneg_slice : (v : List ℚ) (i : ℕ) → AtLeastZero v → zero_ℚ ≤ℚ slice_index_or v i zero_ℚ
nonneg_slice [] i a = le_refl zero_ℚ
nonneg_slice (x ∷ v) zero a = nonneg-head x v a
nonneg_slice (x ∷ v) (suc i) a = nonneg_slice v i (nonneg-tail x v a)

-- the sparse vector of numbers of at least 0 that are spread
pub record IsSpreadWell (q : ℕ) (vectors : List (List ℚ)) (m : List Spot) : Type 0 where
  pub sign : All (λ s. zero_ℚ <ℚ s.value) m
  pub named : All (λ s. row_of vectors s.at ≢ zeros q) m

pub spread_well : (q : ℕ) (vectors : List (List ℚ)) (xs : List ℚ) (m : List Spot) → IsSpread vectors xs m → AtLeastZero xs → IsSpreadWell q vectors m
spread_well q vectors xs m h p =
    record {
      sign = λ i d l. positive (slice_index_or m i d) (spots_of m 0 h.vector.sparse i d l) (h.vector.places i d l);
      named = λ i d l. other (slice_index_or m i d) (spots_of m 0 h.vector.sparse i d l) (h.vector.places i d l);
    }
  where
    reads : (s : Spot) → IsSpotOf m 0 s → s.at ≤ length vectors → slice_index_or (spread vectors xs) (s.at - 1) zero_ℚ ≡ s.value
    reads s k u = let above : 0 < s.at = k.above in
        ap (λ v. entry v s.at) (sym h.numbers) ∙ dense-at (length vectors) m s.at (omega arith) u ∙ k.value

    positive : (s : Spot) → IsSpotOf m 0 s → s.at ≤ length vectors → zero_ℚ <ℚ s.value
    positive s k u = let above : 0 < s.at = k.above in
        go (zero_or_positive s.value (subst (λ (x : ℚ). zero_ℚ ≤ℚ x) (reads s k u) (nonneg_slice (spread vectors xs) (s.at - 1) (spread_nonneg vectors xs p))))
      where
        go : (s.value ≡ zero_ℚ) ⊎ (zero_ℚ <ℚ s.value) → zero_ℚ <ℚ s.value
        go (inl e) = absurd (k.some e)
        go (inr e) = e

    other : (s : Spot) → IsSpotOf m 0 s → s.at ≤ length vectors → row_of vectors s.at ≢ zeros q
    other s k u e = no (sym (zeros_pass q) ∙ ap (λ v. list_all is_zero v) (sym e) ∙ spread_only vectors xs (s.at - 1) (λ z. k.some (sym (reads s k u) ∙ z)))
      where
        no : true ≡ false → ⊥
        no p = cc

-- ---- tests of a vector by the rows
-- one number alone
dense_one : (n k s : ℕ) → values_from n s (value_at (map entry_of (record { at = k; value = one_ℚ } ∷ []))) ≡ list_from s n (λ j. delta j k)
dense_one zero k s = refl
dense_one (suc n) k s = ap₂ (λ a b. a ∷ b) (delta_sym k s) (dense_one n k (suc s))

row_alone : (q : ℕ) (vectors : List (List ℚ)) (k : ℕ) → AreWide q vectors → 1 ≤ k → k ≤ length vectors → combination q (unit (length vectors) k) vectors ≡ row_of vectors k
row_alone q vectors k w l u =
    same_wide q (combination q (unit (length vectors) k) vectors) (row_of vectors k) (length-combination q (unit (length vectors) k) vectors w) (row-wide q vectors k w l u)
    (λ r. dot_comm r (combination q (unit (length vectors) k) vectors) ∙ dot-combination_left q (unit (length vectors) k) vectors r ∙ unit_value vectors r k l u
    ∙ dot_comm (row_of vectors k) r)

-- the spot of this number alone, and none, are sparse vectors
one_spot : (n k : ℕ) → 1 ≤ k → k ≤ n → IsVector n (record { at = k; value = one_ℚ } ∷ [])
unfolding whole
one_spot n k l u = record {
  sparse = both_hold (nat_lt 0 k) _ (lt-ltb 0 k (omega (arith, l))) refl;
  places = All-cons (λ s. s.at ≤ n) (record { at = k; value = one_ℚ }) [] u (All-nil (λ s. s.at ≤ n));
}

pub no_spot : (n : ℕ) → IsVector n []
no_spot n = record { sparse = refl; places = All-nil (λ s. s.at ≤ n) }

row_outside : (q : ℕ) (vectors : List (List ℚ)) (f : List ℚ) (k : ℕ) → AreWide q vectors → 1 ≤ k → k ≤ length vectors → row_of vectors k ≢ zeros q →
    dot (row_of vectors k) f ≤ℚ zero_ℚ → ShowsOutside q (Dual vectors) f (row_of vectors k) (record { at = k; value = one_ℚ } ∷ [])
row_outside q vectors f k w l u other h =
    record {
      lengths = row-wide q vectors k w l u;
      vector = one_spot (length vectors) k l u;
      not_zero = other;
      cone = record {
        index = All-cons (λ s. s.at ≤ length vectors) spot [] u (All-nil (λ s. s.at ≤ length vectors));
        sign = All-cons (λ s. zero_ℚ <ℚ s.value) spot [] zero_lt_one (All-nil (λ s. zero_ℚ <ℚ s.value));
        cone = ap (λ n. combination n (dense (length vectors) (spot ∷ [])) vectors) (row-wide q vectors k w l u)
            ∙ ap (λ v. combination q v vectors) (dense_one (length vectors) k 1) ∙ row_alone q vectors k w l u;
      };
      sign = h;
    }
  where
    spot : Spot
    spot = record { at = k; value = one_ℚ }

pub row_tests : RowTests
row_tests =
    record {
      inside = λ q vectors f w long h. interior_of_rows q vectors f w long (kept_or_zero q (λ v. zero_ℚ <ℚ dot v f) vectors w h);
      outside = row_outside;
    }
