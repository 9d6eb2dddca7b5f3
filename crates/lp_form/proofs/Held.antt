-- What is held of a file: with all its numbers the entries of its sides and objectives.
use Rattle.std.proofs.Common.{◌≡◌, ℕ, zero, suc, List, [], ◌∷◌, ◌++◌, map, refl, sym, ap, ◌∙◌, subst, arith, ◌<◌, ◌≤◌, ◌+◌, Bool, true, false, All, nat_lt, IsTrue, not, None, Some, eq-eqb, inl, inr}
use Rattle.std.specs.Prelude.{◌&&◌, ◌==◌, if◌then◌else◌}
use Rattle.std.specs.List.{flat_map, find}
use Rattle.std.proofs.lemmas.Bool.{ltb-true, cases_eq}
use Rattle.std.proofs.lemmas.List.Elements.{All-nil, All-cons, All-head, All-tail, All-append, All-map}
use Rattle.exact_field.specs.Rational.{ℚ, zero_ℚ, one_ℚ, neg_ℚ}
use Rattle.frac128.specs.Sparse.{is_zero, rises_above}
use Rattle.frac128.specs.declared.vectors.Spot.{Spot}
use Rattle.polyhedra.specs.Sparse.{Entry, value_at, values_from, dense}
use Rattle.polyhedra.specs.Inequality.{Inequality}
use Rattle.polyhedra.proofs.Lists.{all_from_map, all_front, all_back}
use Rattle.polyhedra.proofs.Tests.{both_true}
use Rattle.lin_rows.specs.Lines.{Rises}
use Rattle.lin_rows.proofs.Merging.{not_same, absent}
use Rattle.upper_image.specs.Spots.{IsVector, entry_of}
use Rattle.upper_image.specs.UpperImage.{signed, normals, objective, objectives}
use Rattle.vlp_problem.specs.Cells.{coefficient}
use Rattle.vlp_problem.specs.Sides.{sides, sides_of, sides_from, side_bounds, numbers_from, row_vector, unit, at_least, at_most}
use Rattle.vlp_problem.specs.declared.problem.Problem.{Problem}
use Rattle.vlp_problem.specs.declared.problem.Bound.{Bound}
use Rattle.vlp_problem.specs.declared.problem.Bound.TheVariants.{Unsaid, Free, Lower, Upper, Double, Fixed}
use Rattle.vlp_problem.specs.declared.problem.Cell.{Cell}
use Rattle.vlp_problem.specs.declared.problem.Dir.{Dir}
use Rattle.vlp_problem.specs.declared.problem.Dir.TheVariants.{Min, Max}
use Rattle.vlp_problem.specs.Values.{bound_numbers, printed_numbers, cone_vectors, duality_entries}
use Rattle.lp_form.specs.Data.{IsFirstUnheld}

-- ---- lists in pieces
all_pieces : {X Y : Type 0} (P : Y → Type 0) (f : X → List Y) (xs : List X) → All P (flat_map f xs) → All (λ x. All P (f x)) xs
all_pieces P f [] h = All-nil (λ x. All P (f x))
all_pieces P f (x ∷ xs) h =
    All-cons (λ x. All P (f x)) x xs (all_front P (f x) (flat_map f xs) h) (all_pieces P f xs (all_back P (f x) (flat_map f xs) h))

all_made : {X Y : Type 0} (P : Y → Type 0) (f : X → Y) (xs : List X) → ((x : X) → P (f x)) → All P (map f xs)
all_made P f xs h = All-map P f xs (λ k d l. h _)

pub spots_rise : (n low : ℕ) (spots : List Spot) → rises_above low spots ≡ true → All (λ s. s.at ≤ n) spots → Rises n low (map entry_of spots)
spots_rise n low [] h k = tt
spots_rise n low (s ∷ spots) h k =
    let first = both_true (nat_lt low s.at) (not (is_zero s.value) && rises_above s.at spots) h in
    let second = both_true (not (is_zero s.value)) (rises_above s.at spots) first.1 in
    (ltb-true low s.at first.0, All-head (λ t. t.at ≤ n) s spots k, spots_rise n s.at spots second.1 (All-tail (λ t. t.at ≤ n) s spots k))

-- ---- the first that is not held
module _ (holds : ℚ → Bool) where
  abbrev IsHeld : ℚ → Type 0
  IsHeld q = IsTrue (holds q)

  pub all_held : (numbers : List ℚ) → find (λ q. not (holds q)) numbers ≡ None → All IsHeld numbers
  all_held [] h = All-nil IsHeld
  all_held (x ∷ numbers) h = by_test (holds x) refl h (all_held numbers)
    where
      by_test : (b : Bool) → holds x ≡ b → (if not b then Some x else find (λ q. not (holds q)) numbers) ≡ None → (find (λ q. not (holds q)) numbers ≡ None → All IsHeld numbers) →
          All IsHeld (x ∷ numbers)
      by_test true e k more = All-cons IsHeld x numbers e (more k)
      by_test false e k more = absurd (cc)

  pub first_unheld : (numbers : List ℚ) (q : ℚ) → find (λ p. not (holds p)) numbers ≡ Some q → IsFirstUnheld holds numbers q
  first_unheld [] q h = absurd (cc)
  first_unheld (x ∷ numbers) q h = by_test (holds x) refl h (first_unheld numbers q)
    where
      by_test : (b : Bool) → holds x ≡ b → (if not b then Some x else find (λ p. not (holds p)) numbers) ≡ Some q →
          (find (λ p. not (holds p)) numbers ≡ Some q → IsFirstUnheld holds numbers q) → IsFirstUnheld holds (x ∷ numbers) q
      by_test true e k found =
          let more : IsFirstUnheld holds numbers q = found k in
          record { before = x ∷ more.before; after = more.after; place = ap (λ l. x ∷ l) more.place; held = All-cons IsHeld x more.before e more.held; unheld = more.unheld }
      by_test false e k found =
          let same : x ≡ q = cc in
          record { before = []; after = numbers; place = ap (λ y. y ∷ numbers) same; held = All-nil IsHeld; unheld = ap holds (sym same) ∙ e }

-- ---- the numbers of a file
module _ (holds : ℚ → Bool) (zero_held : IsTrue (holds zero_ℚ)) (one_held : IsTrue (holds one_ℚ)) (neg_held : (q : ℚ) → IsTrue (holds q) → IsTrue (holds (neg_ℚ q))) where
  abbrev Held : ℚ → Type 0
  Held q = IsTrue (holds q)

  coefficient_held : (cells : List Cell) (i j : ℕ) → All Held (map (λ c. c.value) cells) → Held (coefficient cells i j)
  coefficient_held [] i j h = zero_held
  coefficient_held (c ∷ cells) i j h =
      by_place ((c.row == i) && (c.col == j)) (All-head Held c.value (map (λ d. d.value) cells) h) (coefficient_held cells i j (All-tail Held c.value (map (λ d. d.value) cells) h))
    where
      by_place : (b : Bool) → Held c.value → Held (coefficient cells i j) → Held (if b then c.value else coefficient cells i j)
      by_place true own rest = own
      by_place false own rest = rest

  delta_held : (b : Bool) → Held (if b then one_ℚ else zero_ℚ)
  delta_held true = one_held
  delta_held false = zero_held

  signed_held : (dir : Dir) (q : ℚ) → Held q → Held (signed dir q)
  signed_held Min q h = h
  signed_held Max q h = neg_held q h

  negatives_held : (v : List ℚ) → All Held v → All Held (map neg_ℚ v)
  negatives_held v h = All-map Held neg_ℚ v (λ k d l. neg_held _ (h k d l))

  -- the vector and the bound of a side are held
  abbrev IsHeldSide : Inequality → Type 0
  IsHeldSide s = All Held s.normal × Held s.bound

  one_side : (v : List ℚ) (b : Bound) → All Held v → All Held (bound_numbers b) → All IsHeldSide (sides_of v b)
  one_side v Unsaid h k = All-nil IsHeldSide
  one_side v Free h k = All-nil IsHeldSide
  one_side v (Lower low) h k = All-cons IsHeldSide (at_least v low) [] (h, All-head Held low [] k) (All-nil IsHeldSide)
  one_side v (Upper high) h k = All-cons IsHeldSide (at_most v high) [] (negatives_held v h, neg_held high (All-head Held high [] k)) (All-nil IsHeldSide)
  one_side v (Double low high) h k =
      All-cons IsHeldSide (at_least v low) (at_most v high ∷ []) (h, All-head Held low (high ∷ []) k)
      (All-cons IsHeldSide (at_most v high) [] (negatives_held v h, neg_held high (All-head Held high [] (All-tail Held low (high ∷ []) k))) (All-nil IsHeldSide))
  one_side v (Fixed value) h k =
      All-cons IsHeldSide (at_least v value) (at_most v value ∷ []) (h, All-head Held value [] k)
      (All-cons IsHeldSide (at_most v value) [] (negatives_held v h, neg_held value (All-head Held value [] k)) (All-nil IsHeldSide))

  some_sides : (v : ℕ → List ℚ) (k : ℕ) (bounds : List Bound) → ((j : ℕ) → All Held (v j)) → All Held (flat_map bound_numbers bounds) → All IsHeldSide (sides_from v k bounds)
  some_sides v k [] h n = All-nil IsHeldSide
  some_sides v k (b ∷ bounds) h n =
      All-append IsHeldSide (sides_of (v k) b) (sides_from v (suc k) bounds)
      (one_side (v k) b (h k) (all_front Held (bound_numbers b) (flat_map bound_numbers bounds) n))
      (some_sides v (suc k) bounds h (all_back Held (bound_numbers b) (flat_map bound_numbers bounds) n))

  module _ (file : Problem) (h : All Held (printed_numbers file)) where
    abbrev values_of : List Cell → List ℚ
    values_of cells = map (λ c. c.value) cells

    abbrev vectors : List ℚ
    vectors = flat_map (λ v. v) (cone_vectors file.cone)

    abbrev rows : List ℚ
    rows = flat_map bound_numbers file.row_bounds

    abbrev columns : List ℚ
    columns = flat_map bound_numbers file.col_bounds

    after_a : All Held (values_of file.o ++ (duality_entries file.duality ++ (vectors ++ (rows ++ columns))))
    after_a = all_back Held (values_of file.a) _ h

    after_o : All Held (duality_entries file.duality ++ (vectors ++ (rows ++ columns)))
    after_o = all_back Held (values_of file.o) _ after_a

    after_duality : All Held (vectors ++ (rows ++ columns))
    after_duality = all_back Held (duality_entries file.duality) _ after_o

    bounds_held : All Held (rows ++ columns)
    bounds_held = all_back Held vectors _ after_duality

    pub duality_held : All Held (duality_entries file.duality)
    duality_held = all_front Held (duality_entries file.duality) _ after_o

    pub cone_held : All (λ v. All Held v) (cone_vectors file.cone)
    cone_held = all_pieces Held (λ v. v) (cone_vectors file.cone) (all_front Held vectors _ after_duality)

    sides_held : All IsHeldSide (sides file)
    sides_held =
        All-append IsHeldSide (sides_from (row_vector file) 1 file.row_bounds) (sides_from (unit file.cols) 1 file.col_bounds)
        (some_sides (row_vector file) 1 file.row_bounds
        (λ i. all_made Held (λ j. coefficient file.a i j) (numbers_from 1 file.cols) (λ j. coefficient_held file.a i j (all_front Held (values_of file.a) _ h)))
        (all_front Held rows columns bounds_held))
        (some_sides (unit file.cols) 1 file.col_bounds (λ k. all_made Held _ (numbers_from 1 file.cols) (λ j. delta_held (j == k))) (all_back Held rows columns bounds_held))

    pub normals_held : All (λ v. All Held v) (normals file)
    normals_held = All-map (λ v. All Held v) (λ s. s.normal) (sides file) (λ k d l. (sides_held k d l).0)

    pub side_bounds_held : All Held (side_bounds file)
    side_bounds_held = All-map Held (λ s. s.bound) (sides file) (λ k d l. (sides_held k d l).1)

    pub objectives_held : All (λ v. All Held v) (objectives file)
    objectives_held =
        all_made (λ v. All Held v) (objective file) (numbers_from 1 file.objs)
        (λ i. all_made Held _ (numbers_from 1 file.cols) (λ j. signed_held file.dir (coefficient file.o i j) (coefficient_held file.o i j (all_front Held (values_of file.o) _ after_a))))

  -- ---- sparse vectors
  values_held : (n low : ℕ) (es : List Entry) → Rises n low es → ((k : ℕ) → 1 ≤ k → k ≤ n → Held (value_at es k)) → All (λ e. Held e.value) es
  values_held n low [] r h = All-nil (λ e. Held e.value)
  values_held n low (e ∷ es) r h =
      let above : low < e.place = r.0 in
      let inside : e.place ≤ n = r.1 in
      let own : value_at (e ∷ es) e.place ≡ e.value = ap (λ b. if b then e.value else value_at es e.place) (eq-eqb e.place e.place refl) in
      All-cons (λ d. Held d.value) e es (subst Held own (h e.place (omega (arith, above)) inside))
      (values_held n e.place es r.2
      (λ k low' high. elim (cases_eq e.place k) [
        | inl s ↦ subst Held (sym (absent n e.place es k r.2 (omega (arith, s)))) zero_held
        | inr o ↦ subst Held (ap (λ b. if b then e.value else value_at es k) (not_same e.place k o)) (h k low' high)
      ]))

  dense_held : (n k j : ℕ) (f : ℕ → ℚ) → All Held (values_from n k f) → k ≤ j → j < k + n → Held (f j)
  dense_held zero k j f h l u = absurd (omega (arith, l, u))
  dense_held (suc n) k j f h l u =
      elim (cases_eq k j) [
        | inl s ↦ subst (λ (i : ℕ). Held (f i)) s (All-head Held (f k) (values_from n (suc k) f) h)
        | inr o ↦ dense_held n (suc k) j f (All-tail Held (f k) (values_from n (suc k) f) h) (omega (arith, l, o)) (omega (arith, u))
      ]

  one_held_list : (n : ℕ) (spots : List Spot) → IsVector n spots → All Held (dense n (map entry_of spots)) → All (λ s. Held s.value) spots
  one_held_list n spots v h =
      all_from_map (λ e. Held e.value) entry_of spots
      (values_held n 0 (map entry_of spots) (spots_rise n 0 spots v.sparse v.places) (λ k low high. dense_held n 1 k (value_at (map entry_of spots)) h low (omega (arith, high))))

  pub lists_held : (n : ℕ) (lists : List (List Spot)) → All (IsVector n) lists → All (λ v. All Held v) (map (λ l. dense n (map entry_of l)) lists) → All (λ l. All (λ s. Held s.value) l) lists
  lists_held n [] v h = All-nil _
  lists_held n (l ∷ lists) v h =
      All-cons (λ m. All (λ s. Held s.value) m) l lists
      (one_held_list n l (All-head (IsVector n) l lists v) (All-head (λ u. All Held u) _ (map (λ m. dense n (map entry_of m)) lists) h))
      (lists_held n lists (All-tail (IsVector n) l lists v) (All-tail (λ u. All Held u) _ (map (λ m. dense n (map entry_of m)) lists) h))
