-- The rows that are facets, found one row at a time, and that they are the named cuts.
use Rattle.std.proofs.Common.{◌≡◌, ℕ, zero, suc, ◌+◌, ◌-◌, ◌<◌, ◌≤◌, List, [], ◌∷◌, ◌++◌, map, filter, length, All, Bool, true, false, cond, not, ◌&&◌, refl, sym, ap, ap₂, ◌∙◌, arith, slice_index_or}
use Rattle.std.specs.List.{list_any, range_with_len}
use Rattle.std.proofs.lemmas.List.{append-nil, get_or-map, length-map}
use Rattle.std.proofs.lemmas.List.Elements.{All-nil, All-cons, All-weaker, All-filter, filter-append}
use Rattle.exact_field.specs.Rational.{ℚ, zero_ℚ}
use Rattle.polyhedra.specs.Exactness.{row_of, rows_of}
use Rattle.polyhedra.specs.FirstNamed.{firsts, may_be_named, named_first, same_tight, tight_lies_in}
use Rattle.polyhedra.specs.Inequality.{Inequality}
use Rattle.polyhedra.proofs.Tests.{both_hold, both_true}
use Rattle.geo_duality.specs.Facets.{cut_at, facet_rows, may_be_facet, row_at, same_at}
use Rattle.geo_duality.proofs.Firsts.{filter-map, firsts-All, firsts-map, firsts-push}
use Rattle.geo_duality.proofs.TightPlaces.{lies_through}

range-push : (a n : ℕ) → range_with_len a (n + 1) ≡ range_with_len a n ++ (a + n) ∷ []
range-push a zero = ap (λ k. k ∷ []) (let e : a ≡ a + 0 = omega arith in e)
range-push a (suc n) = ap (range_with_len a) (let e : suc n + 1 ≡ suc (n + 1) = omega arith in e)
    ∙ ap (λ l. a ∷ l) (range-push (a + 1) n ∙ ap (λ k. range_with_len (a + 1) n ++ k ∷ []) (let e : a + 1 + n ≡ a + suc n = omega arith in e))

module _ (gens rows : List (List ℚ)) where
  same_through : (i j k : ℕ) → same_at gens rows i j ≡ true → same_at gens rows j k ≡ true → same_at gens rows i k ≡ true
  same_through i j k h l =
      let p : (tight_lies_in gens (row_at rows i) (row_at rows j) ≡ true) × (tight_lies_in gens (row_at rows j) (row_at rows i) ≡ true) =
      both_true (tight_lies_in gens (row_at rows i) (row_at rows j)) (tight_lies_in gens (row_at rows j) (row_at rows i)) h in
      let q : (tight_lies_in gens (row_at rows j) (row_at rows k) ≡ true) × (tight_lies_in gens (row_at rows k) (row_at rows j) ≡ true) =
      both_true (tight_lies_in gens (row_at rows j) (row_at rows k)) (tight_lies_in gens (row_at rows k) (row_at rows j)) l in
      both_hold (tight_lies_in gens (row_at rows i) (row_at rows k)) (tight_lies_in gens (row_at rows k) (row_at rows i))
      (lies_through gens (row_at rows i) (row_at rows j) (row_at rows k) p.0 q.0) (lies_through gens (row_at rows k) (row_at rows j) (row_at rows i) q.1 p.1)

  -- the facets among the rows 1, .., n
  abbrev pub facets_below : ℕ → List ℕ
  facets_below n = firsts (same_at gens rows) (filter (λ k. may_be_facet gens rows (row_at rows k)) (range_with_len 1 n))

  pub facets-push : (n k : ℕ) (b : Bool) → k ≡ 1 + n →
      b ≡ (may_be_facet gens rows (row_at rows k) && not (list_any (λ j. same_at gens rows j k) (facets_below n))) →
      facets_below (n + 1) ≡ facets_below n ++ cond b (k ∷ []) []
  facets-push n k b e is = ap (λ l. firsts (same_at gens rows) (filter test l)) (range-push 1 n ∙ ap (λ j. range_with_len 1 n ++ j ∷ []) (sym e))
      ∙ ap (firsts (same_at gens rows)) (filter-append test (range_with_len 1 n) (k ∷ [])) ∙ go (test k)
      ∙ ap (λ c. facets_below n ++ cond c (k ∷ []) []) (sym is)
    where
      test : ℕ → Bool
      test j = may_be_facet gens rows (row_at rows j)

      go : (t : Bool) → firsts (same_at gens rows) (filter test (range_with_len 1 n) ++ cond t (k ∷ []) [])
          ≡ facets_below n ++ cond (t && not (list_any (λ j. same_at gens rows j k) (facets_below n))) (k ∷ []) []
      go true = firsts-push (same_at gens rows) same_through (filter test (range_with_len 1 n)) k
      go false = ap (firsts (same_at gens rows)) (append-nil (filter test (range_with_len 1 n))) ∙ sym (append-nil (facets_below n))

-- ---- the rows of cuts
-- a list from its places
placed : {X : Type 0} (xs : List X) (d : X) (k : ℕ) (f : ℕ → X) → ((j : ℕ) → j < length xs → f (k + j) ≡ slice_index_or xs j d) →
    map f (range_with_len k (length xs)) ≡ xs
placed [] d k f h = refl
placed (x ∷ xs) d k f h = ap₂ (λ y ys. y ∷ ys) (ap f (let e : k ≡ k + 0 = omega arith in e) ∙ h 0 (omega arith))
    (placed xs d (k + 1) f (λ j l. ap f (let e : k + 1 + j ≡ k + suc j = omega arith in e) ∙ h (suc j) (omega arith)))

within : (k n : ℕ) → All (λ j. (k ≤ j) × (j < k + n)) (range_with_len k n)
within k zero = All-nil (λ j. (k ≤ j) × (j < k + 0))
within k (suc n) = All-cons (λ j. (k ≤ j) × (j < k + suc n)) k (range_with_len (k + 1) n) (omega arith, omega arith)
    (All-weaker (λ j. (k + 1 ≤ j) × (j < k + 1 + n)) (λ j. (k ≤ j) × (j < k + suc n)) (λ j h. lower j h.0 h.1) (range_with_len (k + 1) n) (within (k + 1) n))
  where
    lower : (j : ℕ) → k + 1 ≤ j → j < k + 1 + n → (k ≤ j) × (j < k + suc n)
    lower j a b = (omega arith, omega arith)

-- each facet is the number of a row other than row 0
pub facets_within : (gens rows : List (List ℚ)) → All (λ k. (1 ≤ k) × (k < length rows)) (facet_rows gens rows)
facets_within gens rows = All-weaker (λ k. (1 ≤ k) × (k < 1 + (length rows - 1))) (λ k. (1 ≤ k) × (k < length rows)) (λ k h. lower k h.0 h.1) (facet_rows gens rows)
    (firsts-All (same_at gens rows) (λ k. (1 ≤ k) × (k < 1 + (length rows - 1))) (filter test (range_with_len 1 (length rows - 1)))
    (All-filter test (λ k. (1 ≤ k) × (k < 1 + (length rows - 1))) (range_with_len 1 (length rows - 1)) (within 1 (length rows - 1))))
  where
    test : ℕ → Bool
    test k = may_be_facet gens rows (row_at rows k)

    lower : (k : ℕ) → 1 ≤ k → k < 1 + (length rows - 1) → (1 ≤ k) × (k < length rows)
    lower k a b = (a, omega arith)

module _ (n : ℕ) (cuts : List Inequality) (gens : List (List ℚ)) where
  row_is : (k : ℕ) → 1 ≤ k → k < 1 + length cuts → row_of (cut_at cuts k) ≡ row_at (rows_of n cuts) k
  row_is zero a b = absurd (omega arith)
  row_is (suc j) a b = ap (λ i. row_of (slice_index_or cuts i (record { normal = []; bound = zero_ℚ }))) (let e : suc j - 1 ≡ j = omega arith in e)
      ∙ sym (get_or-map row_of cuts j (record { normal = []; bound = zero_ℚ }) [] (omega arith))

  test_is : (k : ℕ) → (1 ≤ k) × (k < 1 + length cuts) → may_be_named n cuts gens (cut_at cuts k) ≡ may_be_facet gens (rows_of n cuts) (row_at (rows_of n cuts) k)
  test_is k h = ap (may_be_facet gens (rows_of n cuts)) (row_is k h.0 h.1)

  same_is : (j k : ℕ) → (1 ≤ j) × (j < 1 + length cuts) → (1 ≤ k) × (k < 1 + length cuts) →
      same_tight gens (cut_at cuts j) (cut_at cuts k) ≡ same_at gens (rows_of n cuts) j k
  same_is j k h l = ap₂ (λ a b. tight_lies_in gens a b && tight_lies_in gens b a) (row_is j h.0 h.1) (row_is k l.0 l.1)

  pub named_are : map (cut_at cuts) (facet_rows gens (rows_of n cuts)) ≡ named_first n cuts gens
  named_are =
      ap (λ m. map (cut_at cuts) (firsts (same_at gens (rows_of n cuts)) (filter (λ k. may_be_facet gens (rows_of n cuts) (row_at (rows_of n cuts) k)) (range_with_len 1 m)))) many
      ∙ sym (ap (λ cs. firsts (same_tight gens) (filter (may_be_named n cuts gens) cs)) (sym (placed cuts (record { normal = []; bound = zero_ℚ }) 1 (cut_at cuts) at_place))
      ∙ ap (firsts (same_tight gens)) (filter-map (cut_at cuts) (may_be_named n cuts gens) (λ k. may_be_facet gens (rows_of n cuts) (row_at (rows_of n cuts) k)) (range_with_len 1 (length cuts))
      (All-weaker (λ k. (1 ≤ k) × (k < 1 + length cuts)) (λ k. may_be_named n cuts gens (cut_at cuts k) ≡ may_be_facet gens (rows_of n cuts) (row_at (rows_of n cuts) k))
      test_is (range_with_len 1 (length cuts)) (within 1 (length cuts))))
      ∙ firsts-map (cut_at cuts) (λ k. (1 ≤ k) × (k < 1 + length cuts)) (same_at gens (rows_of n cuts)) (same_tight gens) same_is
      (filter (λ k. may_be_facet gens (rows_of n cuts) (row_at (rows_of n cuts) k)) (range_with_len 1 (length cuts)))
      (All-filter (λ k. may_be_facet gens (rows_of n cuts) (row_at (rows_of n cuts) k)) (λ k. (1 ≤ k) × (k < 1 + length cuts)) (range_with_len 1 (length cuts)) (within 1 (length cuts))))
    where
      many : length (rows_of n cuts) - 1 ≡ length cuts
      many = let e : length (map row_of cuts) ≡ length cuts = length-map cuts row_of in
          let f : length (rows_of n cuts) ≡ suc (length (map row_of cuts)) = refl in omega arith

      at_place : (j : ℕ) → j < length cuts → cut_at cuts (1 + j) ≡ slice_index_or cuts j (record { normal = []; bound = zero_ℚ })
      at_place j l = ap (λ i. slice_index_or cuts i (record { normal = []; bound = zero_ℚ })) (let e : 1 + j - 1 ≡ j = omega arith in e)
