-- The program of an interior vector of the cone of rows: one with the last entry 1 is looked for.
use Rattle.std.proofs.Common.{◌≡◌, ◌≢◌, ℕ, suc, List, [], ◌∷◌, ◌++◌, length, take, drop, All, refl, sym, ap, ap₂, ◌∙◌, subst, arith, ◌<◌, ◌≤◌, ◌+◌, ◌-◌, ◌⊎◌, inl, inr, append_assoc, slice_index_or, pos}
use Rattle.std.proofs.Math.ListN.{length-append, length-replicate}
use Rattle.std.proofs.lemmas.List.{length-map, length-drop, length-take-le, take-append-drop}
use Rattle.std.proofs.lemmas.List.Elements.{All-take, All-drop, All-append}
use Rattle.exact_field.specs.Rational.{ℚ, zero_ℚ, one_ℚ, inverse_ℚ, ◌+ℚ◌, ◌*ℚ◌, neg_ℚ, ◌-ℚ◌, ◌≤ℚ◌, ◌<ℚ◌}
use Rattle.exact_field.specs.Ring.{v0, v1, v2, v3, v4, v5, var, num, ◌⊕◌, ◌⊗◌, ⊖}
use Rattle.exact_field.specs.Vector.{entry, dot}
use Rattle.exact_field.proofs.RingTool.{ring}
use Rattle.exact_field.proofs.Rationals.{rationals, mul-inverse_ℚ}
use Rattle.frac128.specs.declared.vectors.Spot.{Spot}
use Rattle.polyhedra.specs.Cone.{IsInCone, IsInterior}
use Rattle.polyhedra.specs.Negatives.{negated}
use Rattle.polyhedra.specs.Vectors.{AreWide, AtLeastZero, zeros, plus, scaled, values, combination}
use Rattle.polyhedra.proofs.Algebra.{zero_add, zero_mul, one_mul, mul_zero, neg_mul, neg_neg, neg_zero, add_cancel}
use Rattle.polyhedra.proofs.Duality.{dual_cones}
use Rattle.polyhedra.proofs.Generated.{generated_generator}
use Rattle.polyhedra.proofs.Laws.{add_assoc, add_comm, add_neg, add_zero, le_refl, le_of_lt, mul_assoc, mul_one, zero_lt_one}
use Rattle.polyhedra.proofs.Linear.{dot-plus, dot-scaled_left, dot-zeros, dot-combination_left, length-combination, length-plus, length-scaled, length-zeros}
use Rattle.polyhedra.proofs.Lists.{HoldsAt, Nonneg, nonneg-nil, nonneg-cons}
use Rattle.polyhedra.proofs.Members.{all_of_members}
use Rattle.polyhedra.proofs.Negatives.{dot-negated, dot-negated_left}
use Rattle.polyhedra.proofs.Order.{lt_irrefl, le_of_eq, le_or_lt, lt_of_le_of_lt, le_of_difference, not_lt_of_le, not_zero_of_negative, neg_positive, mul_positive, zero_or_positive, add_positive_right, add_zero_left, add_zero_right}
use Rattle.polyhedra.proofs.Support.{support_zero}
use Rattle.polyhedra.proofs.Entries.{entry-negated, slice-negated}
use Rattle.tableaux.specs.Table.{Table, System, row_of, unit, minus}
use Rattle.tableaux.specs.Simplex.{IsOptimal, IsInfeasible, IsUnbounded}
use Rattle.tableaux.proofs.Back.{length-values}
use Rattle.tableaux.proofs.Definition.{slice_eq, unit_entry, delta_sym, value_at}
use Rattle.tableaux.proofs.Eliminated.{dot_none}
use Rattle.tableaux.proofs.Inverse.{dot-append}
use Rattle.tableaux.proofs.Matrix.{combination-scaled}
use Rattle.tableaux.proofs.Places.{length-list_from, listed-is, entry-plus, entry-scaled, row-wide, delta}
use Rattle.tableaux.proofs.Unique.{dot-unit, slice-zeros}
use Rattle.lp_form.specs.Programs.{dual_gaps, interior_of_dual}
use Rattle.lp_form.proofs.Systems.{dual_ok, length-unit}
use Rattle.cone_rules.specs.Faults.{CombinesToMinusLast}
use Rattle.cone_rules.specs.Laws.{RowsProgram, IsSpread, interior_said}
use Rattle.cone_rules.proofs.Parts.{ones, append_parts, two_left, slice-drop, zeros-append, all_entries, all_at, all_rows, zero_of_both, nonneg_at, dot_parts_at, dot-zeros_left, dot-unit_right, dot_three, values-append, values-listed, optimal_at, infeasible_at}
use Rattle.cone_rules.proofs.Gaps.{gap, gap_at, gap_long, gap_product, gap_none, no_number, on_last, on_sum, two_after, ones_right}
use Rattle.cone_rules.proofs.Given.{nonneg_zeros}
use Rattle.cone_rules.proofs.Lineality.{support_at}
use Rattle.cone_rules.proofs.Ranks.{unit_nonneg}
use Rattle.cone_rules.proofs.Rows.{kept, kept_wide, kept_nonzero, spread_combination, spread_well}

-- ---- what the multipliers say: p on the gaps, t on the last entry,
-- k on the equation that bounds e
-- the value of the equations at unknowns whose vectors have the values l and m, with the product b
-- of the surpluses
abbrev rows_value : (bar k l m b e r : ℚ) → ℚ
rows_value bar k l m b e r = (((l +ℚ neg_ℚ m) +ℚ neg_ℚ b) +ℚ neg_ℚ e *ℚ bar) +ℚ k *ℚ (e +ℚ r)

-- the value at a vector
abbrev on_vector : (q : ℕ) (vectors : Table) (p : List ℚ) (t : ℚ) → List ℚ → ℚ
on_vector q vectors p t c = dot (combination q p vectors) c +ℚ t *ℚ entry c q

module _ (q n : ℕ) (vectors : Table) (p : List ℚ) (t k bound : ℚ) (wide : AreWide q vectors) (some : 1 ≤ q)
    (low : (c d b : List ℚ) (e r : ℚ) → length c ≡ q → length d ≡ q → length b ≡ n → AtLeastZero c → AtLeastZero d → AtLeastZero b → zero_ℚ ≤ℚ e → zero_ℚ ≤ℚ r →
    bound *ℚ e ≤ℚ rows_value (dot p (ones n)) k (on_vector q vectors p t c) (on_vector q vectors p t d) (dot p b) e r) where
  at_zeros : on_vector q vectors p t (zeros q) ≡ zero_ℚ
  at_zeros =
      ap₂ (λ x y. x +ℚ y) (dot-zeros (combination q p vectors) q) (ap (λ x. t *ℚ x) (slice-zeros q (q - 1)) ∙ mul_zero t) ∙ add_zero zero_ℚ

  first : (c : List ℚ) → length c ≡ q → AtLeastZero c → zero_ℚ ≤ℚ on_vector q vectors p t c
  first c long h =
      subst (λ (x : ℚ). x ≤ℚ on_vector q vectors p t c) (mul_zero bound)
      (subst (λ (x : ℚ). bound *ℚ zero_ℚ ≤ℚ x)
      (ap₂ (λ x y. rows_value (dot p (ones n)) k (on_vector q vectors p t c) x y zero_ℚ zero_ℚ) at_zeros (dot-zeros p n)
      ∙ plain (dot p (ones n)) (on_vector q vectors p t c))
      (low c (zeros q) (zeros n) zero_ℚ zero_ℚ long (length-zeros q) (length-zeros n) h (nonneg_zeros q) (nonneg_zeros n) (le_refl zero_ℚ) (le_refl zero_ℚ)))
    where
      plain : (bar x : ℚ) → rows_value bar k x zero_ℚ zero_ℚ zero_ℚ zero_ℚ ≡ x
      plain bar x =
          ring rationals (bar ∷ x ∷ k ∷ [])
          ((((v1 ⊕ ⊖ (num (pos 0))) ⊕ ⊖ (num (pos 0))) ⊕ (⊖ (num (pos 0))) ⊗ v0) ⊕ v2 ⊗ (num (pos 0) ⊕ num (pos 0))) v1 refl

  second : (c : List ℚ) → length c ≡ q → AtLeastZero c → zero_ℚ ≤ℚ neg_ℚ (on_vector q vectors p t c)
  second c long h =
      subst (λ (x : ℚ). x ≤ℚ neg_ℚ (on_vector q vectors p t c)) (mul_zero bound)
      (subst (λ (x : ℚ). bound *ℚ zero_ℚ ≤ℚ x)
      (ap₂ (λ x y. rows_value (dot p (ones n)) k x (on_vector q vectors p t c) y zero_ℚ zero_ℚ) at_zeros (dot-zeros p n)
      ∙ plain (dot p (ones n)) (on_vector q vectors p t c))
      (low (zeros q) c (zeros n) zero_ℚ zero_ℚ (length-zeros q) long (length-zeros n) (nonneg_zeros q) h (nonneg_zeros n) (le_refl zero_ℚ) (le_refl zero_ℚ)))
    where
      plain : (bar x : ℚ) → rows_value bar k zero_ℚ x zero_ℚ zero_ℚ zero_ℚ ≡ neg_ℚ x
      plain bar x =
          ring rationals (bar ∷ x ∷ k ∷ [])
          ((((num (pos 0) ⊕ ⊖ v1) ⊕ ⊖ (num (pos 0))) ⊕ (⊖ (num (pos 0))) ⊗ v0) ⊕ v2 ⊗ (num (pos 0) ⊕ num (pos 0))) (⊖ v1) refl

  pub surplus : (b : List ℚ) → length b ≡ n → AtLeastZero b → zero_ℚ ≤ℚ neg_ℚ (dot p b)
  surplus b long h =
      subst (λ (x : ℚ). x ≤ℚ neg_ℚ (dot p b)) (mul_zero bound)
      (subst (λ (x : ℚ). bound *ℚ zero_ℚ ≤ℚ x)
      (ap₂ (λ x y. rows_value (dot p (ones n)) k x y (dot p b) zero_ℚ zero_ℚ) at_zeros at_zeros ∙ plain (dot p (ones n)) (dot p b))
      (low (zeros q) (zeros q) b zero_ℚ zero_ℚ (length-zeros q) (length-zeros q) long (nonneg_zeros q) (nonneg_zeros q) h (le_refl zero_ℚ) (le_refl zero_ℚ)))
    where
      plain : (bar x : ℚ) → rows_value bar k zero_ℚ zero_ℚ x zero_ℚ zero_ℚ ≡ neg_ℚ x
      plain bar x =
          ring rationals (bar ∷ x ∷ k ∷ [])
          ((((num (pos 0) ⊕ ⊖ (num (pos 0))) ⊕ ⊖ v1) ⊕ (⊖ (num (pos 0))) ⊗ v0) ⊕ v2 ⊗ (num (pos 0) ⊕ num (pos 0))) (⊖ v1) refl

  pub together : bound ≤ℚ neg_ℚ (dot p (ones n)) +ℚ k
  together =
      subst (λ (x : ℚ). x ≤ℚ neg_ℚ (dot p (ones n)) +ℚ k) (mul_one bound)
      (subst (λ (x : ℚ). bound *ℚ one_ℚ ≤ℚ x)
      (ap₂ (λ x y. rows_value (dot p (ones n)) k x x y one_ℚ zero_ℚ) at_zeros (dot-zeros p n) ∙ plain (dot p (ones n)))
      (low (zeros q) (zeros q) (zeros n) one_ℚ zero_ℚ (length-zeros q) (length-zeros q) (length-zeros n) (nonneg_zeros q) (nonneg_zeros q) (nonneg_zeros n)
      (le_of_lt zero_ℚ one_ℚ zero_lt_one) (le_refl zero_ℚ)))
    where
      plain : (bar : ℚ) → rows_value bar k zero_ℚ zero_ℚ zero_ℚ one_ℚ zero_ℚ ≡ neg_ℚ bar +ℚ k
      plain bar =
          ring rationals (bar ∷ k ∷ [])
          ((((num (pos 0) ⊕ ⊖ (num (pos 0))) ⊕ ⊖ (num (pos 0))) ⊕ (⊖ (num (pos 1))) ⊗ v0) ⊕ v1 ⊗ (num (pos 1) ⊕ num (pos 0))) (⊖ v0 ⊕ v1) refl

  pub limit : zero_ℚ ≤ℚ k
  limit =
      subst (λ (x : ℚ). x ≤ℚ k) (mul_zero bound)
      (subst (λ (x : ℚ). bound *ℚ zero_ℚ ≤ℚ x)
      (ap₂ (λ x y. rows_value (dot p (ones n)) k x x y zero_ℚ one_ℚ) at_zeros (dot-zeros p n) ∙ plain (dot p (ones n)))
      (low (zeros q) (zeros q) (zeros n) zero_ℚ one_ℚ (length-zeros q) (length-zeros q) (length-zeros n) (nonneg_zeros q) (nonneg_zeros q) (nonneg_zeros n)
      (le_refl zero_ℚ) (le_of_lt zero_ℚ one_ℚ zero_lt_one)))
    where
      plain : (bar : ℚ) → rows_value bar k zero_ℚ zero_ℚ zero_ℚ zero_ℚ one_ℚ ≡ k
      plain bar =
          ring rationals (bar ∷ k ∷ [])
          ((((num (pos 0) ⊕ ⊖ (num (pos 0))) ⊕ ⊖ (num (pos 0))) ⊕ (⊖ (num (pos 0))) ⊗ v0) ⊕ v1 ⊗ (num (pos 0) ⊕ num (pos 1))) v1 refl

  -- the multipliers combine the rows to minus t at the last entry, and 0 elsewhere
  pub combines_to : combination q p vectors ≡ scaled (neg_ℚ t) (unit q q)
  combines_to =
      slice_eq (combination q p vectors) (scaled (neg_ℚ t) (unit q q))
      (length-combination q p vectors wide ∙ sym (length-scaled (neg_ℚ t) (unit q q) ∙ length-unit q q))
      (λ i l. subst (λ (j : ℕ). slice_index_or (combination q p vectors) j zero_ℚ ≡ slice_index_or (scaled (neg_ℚ t) (unit q q)) j zero_ℚ) (back i)
      (each (suc i) (omega arith) (omega (arith, l, length-combination q p vectors wide))))
    where
      back : (i : ℕ) → suc i - 1 ≡ i
      back i = omega arith

      each : (j : ℕ) → 1 ≤ j → j ≤ q → entry (combination q p vectors) j ≡ entry (scaled (neg_ℚ t) (unit q q)) j
      each j l u =
          let none : entry (combination q p vectors) j +ℚ t *ℚ delta j q ≡ zero_ℚ =
          ap₂ (λ x y. x +ℚ t *ℚ y) (sym (dot-unit_right q j (combination q p vectors) l u)) (sym (unit_entry q j q some (omega arith)))
          ∙ zero_of_both (on_vector q vectors p t (unit q j)) (first (unit q j) (length-unit q j) (unit_nonneg q j)) (second (unit q j) (length-unit q j) (unit_nonneg q j)) in
          add_cancel (entry (combination q p vectors) j) (neg_ℚ (t *ℚ delta j q)) (t *ℚ delta j q)
          (none ∙ sym (add_comm (neg_ℚ (t *ℚ delta j q)) (t *ℚ delta j q) ∙ add_neg (t *ℚ delta j q)))
          ∙ sym (neg_mul t (delta j q)) ∙ ap (λ x. neg_ℚ t *ℚ x) (delta_sym j q ∙ sym (unit_entry q q j l u))
          ∙ sym (entry-scaled (neg_ℚ t) (unit q q) j)

  -- so the value is 0 at each vector
  pub always_zero : (y : List ℚ) → on_vector q vectors p t y ≡ zero_ℚ
  always_zero y =
      ap (λ x. x +ℚ t *ℚ entry y q)
      (ap (λ v. dot v y) combines_to ∙ dot-scaled_left (neg_ℚ t) (unit q q) y ∙ ap (λ x. neg_ℚ t *ℚ x) (dot-unit q q y some (omega arith)) ∙ neg_mul t (entry y q))
      ∙ add_comm (neg_ℚ (t *ℚ entry y q)) (t *ℚ entry y q) ∙ add_neg (t *ℚ entry y q)

  -- with a vector whose last entry is 1 and at which no row is negative, and one at which each row
  -- is positive, the multipliers of an optimum of 0 contradict each other
  pub none_with : (x y : List ℚ) → length p ≡ n → length vectors ≡ n → entry x q ≡ one_ℚ → AtLeastZero (values vectors x) → All (λ v. zero_ℚ <ℚ dot v y) vectors →
      bound ≡ one_ℚ → t +ℚ k ≡ zero_ℚ → ⊥
  none_with x y p_long many one there positive is_one none =
      no_number (dot p (ones n)) (le_of_eq zero_ℚ (dot p (ones n)) (sym no_sum))
      (subst (λ (a : ℚ). a ≤ℚ neg_ℚ (dot p (ones n))) is_one
      (subst (λ (a : ℚ). bound ≤ℚ a) (ap (λ a. neg_ℚ (dot p (ones n)) +ℚ a) k_zero ∙ add_zero (neg_ℚ (dot p (ones n)))) together))
    where
      values_long : (z : List ℚ) → length (values vectors z) ≡ n
      values_long z = length-values vectors z ∙ many

      t_low : zero_ℚ ≤ℚ t
      t_low =
          nonneg_at (dot p (values vectors x)) t (surplus (values vectors x) (values_long x) there)
          (le_of_eq zero_ℚ (dot p (values vectors x) +ℚ t)
          (sym (ap₂ (λ a b. a +ℚ b) (sym (dot-combination_left q p vectors x)) (sym (mul_one t) ∙ ap (λ a. t *ℚ a) (sym one)) ∙ always_zero x)))

      t_zero : t ≡ zero_ℚ
      t_zero = add_zero_left t k t_low limit none

      k_zero : k ≡ zero_ℚ
      k_zero = add_zero_right t k t_low limit none

      product_zero : dot (negated p) (values vectors y) ≡ zero_ℚ
      product_zero =
          dot-negated_left p (values vectors y)
          ∙ ap neg_ℚ (sym (dot-combination_left q p vectors y) ∙ sym (add_zero (dot (combination q p vectors) y))
          ∙ ap (λ a. dot (combination q p vectors) y +ℚ a) (sym (ap (λ a. a *ℚ entry y q) t_zero ∙ zero_mul (entry y q))) ∙ always_zero y)
          ∙ neg_zero

      turned_long : length (negated p) ≡ n
      turned_long = length-map p neg_ℚ ∙ p_long

      turned_nonneg : AtLeastZero (negated p)
      turned_nonneg =
          all_entries Nonneg (negated p)
          (λ j l u. let high : j ≤ n = omega (arith, u, turned_long) in
          subst (λ (a : ℚ). zero_ℚ ≤ℚ a) (ap neg_ℚ (dot-unit_right n j p l high) ∙ sym (entry-negated p j)) (surplus (unit n j) (length-unit n j) (unit_nonneg n j)))

      holds : All (HoldsAt y) vectors
      holds i d l = le_of_lt zero_ℚ (dot (slice_index_or vectors i d) y) (positive i d l)

      at_place : (i : ℕ) → i < n → slice_index_or (negated p) i zero_ℚ ≡ zero_ℚ
      at_place i l = go (zero_or_positive (slice_index_or (negated p) i zero_ℚ) (turned_nonneg i zero_ℚ (omega (arith, l, turned_long))))
        where
          go : (slice_index_or (negated p) i zero_ℚ ≡ zero_ℚ) ⊎ (zero_ℚ <ℚ slice_index_or (negated p) i zero_ℚ) → slice_index_or (negated p) i zero_ℚ ≡ zero_ℚ
          go (inl e) = e
          go (inr h) =
              absurd (lt_irrefl zero_ℚ (subst (λ (a : ℚ). zero_ℚ <ℚ a)
              (support_zero (negated p) vectors (slice_index_or vectors i []) y turned_nonneg holds product_zero
              (support_at (negated p) vectors i (omega (arith, l, many)) h))
              (positive i [] (omega (arith, l, many)))))

      no_sum : dot p (ones n) ≡ zero_ℚ
      no_sum =
          dot_none p (ones n)
          (λ i l. ap (λ a. a *ℚ slice_index_or (ones n) i zero_ℚ)
          (sym (neg_neg (slice_index_or p i zero_ℚ)) ∙ ap neg_ℚ (sym (slice-negated p i) ∙ at_place i (omega (arith, l, length-replicate n one_ℚ))) ∙ neg_zero)
          ∙ zero_mul (slice_index_or (ones n) i zero_ℚ))

-- ---- the equations
module _ (q : ℕ) (vectors : List (List ℚ)) (w : AreWide q vectors) (some : 1 ≤ q) where
  abbrev n : ℕ
  n = length vectors

  abbrev s : System
  s = interior_of_dual q vectors

  gap_row : ℕ → List ℚ
  gap_row g = row_of vectors g ++ negated (row_of vectors g) ++ negated (unit n g) ++ neg_ℚ one_ℚ ∷ zero_ℚ ∷ []

  row_value : (g : ℕ) (c d b : List ℚ) (e r : ℚ) → 1 ≤ g → g ≤ n → length c ≡ q → length d ≡ q → length b ≡ n →
      dot (row_of vectors g ++ negated (row_of vectors g) ++ negated (unit n g) ++ neg_ℚ one_ℚ ∷ zero_ℚ ∷ []) (c ++ (d ++ (b ++ e ∷ r ∷ [])))
      ≡ entry (gap n (values vectors (plus c (negated d))) b e) g
  row_value g c d b e r l u c_long d_long b_long =
      let long : length (row_of vectors g) ≡ q = row-wide q vectors g w l u in
      ap (λ v. dot v (c ++ (d ++ (b ++ e ∷ r ∷ []))))
      (append_assoc (row_of vectors g ++ negated (row_of vectors g)) (negated (unit n g)) (neg_ℚ one_ℚ ∷ zero_ℚ ∷ []))
      ∙ dot_three (row_of vectors g) (negated (row_of vectors g)) (negated (unit n g) ++ neg_ℚ one_ℚ ∷ zero_ℚ ∷ []) c d (b ++ e ∷ r ∷ []) (long ∙ sym c_long)
      (length-map (row_of vectors g) neg_ℚ ∙ long ∙ sym d_long)
      ∙ ap₂ (λ x y. dot (row_of vectors g) c +ℚ (x +ℚ y)) (dot-negated_left (row_of vectors g) d)
      (dot-append (negated (unit n g)) (neg_ℚ one_ℚ ∷ zero_ℚ ∷ []) b (e ∷ r ∷ []) (length-map (unit n g) neg_ℚ ∙ length-unit n g ∙ sym b_long)
      ∙ ap₂ (λ x y. x +ℚ y) (dot-negated_left (unit n g) b ∙ ap neg_ℚ (dot-unit n g b l u))
      (ap₂ (λ x y. x +ℚ y) (neg_mul one_ℚ e ∙ ap neg_ℚ (one_mul e)) (add_zero (zero_ℚ *ℚ r) ∙ zero_mul r) ∙ add_zero (neg_ℚ e)))
      ∙ sym (add_assoc (dot (row_of vectors g) c) (neg_ℚ (dot (row_of vectors g) d)) (neg_ℚ (entry b g) +ℚ neg_ℚ e))
      ∙ sym (add_assoc (dot (row_of vectors g) c +ℚ neg_ℚ (dot (row_of vectors g) d)) (neg_ℚ (entry b g)) (neg_ℚ e))
      ∙ ap (λ x. (x +ℚ neg_ℚ (entry b g)) +ℚ neg_ℚ e)
      (ap (λ x. dot (row_of vectors g) c +ℚ x) (sym (dot-negated (row_of vectors g) d)) ∙ sym (dot-plus (row_of vectors g) c (negated d))
      ∙ sym (value_at vectors (plus c (negated d)) (g - 1) (omega (arith, l, u))))
      ∙ sym (gap_at n (values vectors (plus c (negated d))) b e g l u)

  gap_of_long : (c d b : List ℚ) (e : ℚ) → length b ≡ n → length (gap n (values vectors (plus c (negated d))) b e) ≡ n
  gap_of_long c d b e h = gap_long n (values vectors (plus c (negated d))) b e (length-values vectors (plus c (negated d))) h

  regrouped : (c d b t : List ℚ) → c ++ (d ++ (b ++ t)) ≡ ((c ++ d) ++ b) ++ t
  regrouped c d b t = sym (append_assoc c d (b ++ t)) ∙ sym (append_assoc (c ++ d) b t)

  front_many : (c d b : List ℚ) → length c ≡ q → length d ≡ q → length b ≡ n → length (zeros (q + q + n)) ≡ length ((c ++ d) ++ b)
  front_many c d b h k l = omega (arith, length-zeros (q + q + n), length-append (c ++ d) b, length-append c d, h, k, l)

  found_values : (c d b : List ℚ) (e r : ℚ) → length c ≡ q → length d ≡ q → length b ≡ n →
      values s.equations (c ++ (d ++ (b ++ e ∷ r ∷ [])))
      ≡ gap n (values vectors (plus c (negated d))) b e ++ entry (plus c (negated d)) q ∷ (e +ℚ r) ∷ []
  found_values c d b e r h k l =
      values-append (dual_gaps vectors) ((unit q q ++ negated (unit q q) ++ zeros (n + 2)) ∷ (zeros (q + q + n) ++ one_ℚ ∷ one_ℚ ∷ []) ∷ []) (c ++ (d ++ (b ++ e ∷ r ∷ [])))
      ∙ ap₂ (λ x y. x ++ y)
      (values-listed n (λ g. row_of vectors g ++ negated (row_of vectors g) ++ negated (unit n g) ++ neg_ℚ one_ℚ ∷ zero_ℚ ∷ []) (c ++ (d ++ (b ++ e ∷ r ∷ [])))
      ∙ listed-is n (λ g. dot (row_of vectors g ++ negated (row_of vectors g) ++ negated (unit n g) ++ neg_ℚ one_ℚ ∷ zero_ℚ ∷ []) (c ++ (d ++ (b ++ e ∷ r ∷ []))))
      (gap n (values vectors (plus c (negated d))) b e) (gap_of_long c d b e l) (λ g low high. row_value g c d b e r low high h k l))
      (ap₂ (λ x y. x ∷ y ∷ [])
      (dot_three (unit q q) (negated (unit q q)) (zeros (n + 2)) c d (b ++ e ∷ r ∷ []) (length-unit q q ∙ sym h) (length-map (unit q q) neg_ℚ ∙ length-unit q q ∙ sym k)
      ∙ ap₂ (λ x y. x +ℚ y) (dot-unit q q c some (omega arith))
      (ap₂ (λ x y. x +ℚ y) (dot-negated_left (unit q q) d ∙ ap neg_ℚ (dot-unit q q d some (omega arith))) (dot-zeros_left (n + 2) (b ++ e ∷ r ∷ []))
      ∙ add_zero (neg_ℚ (entry d q)))
      ∙ ap (λ x. entry c q +ℚ x) (sym (entry-negated d q)) ∙ sym (entry-plus c (negated d) q))
      (ap (λ v. dot (zeros (q + q + n) ++ one_ℚ ∷ one_ℚ ∷ []) v) (regrouped c d b (e ∷ r ∷ []))
      ∙ dot-append (zeros (q + q + n)) (one_ℚ ∷ one_ℚ ∷ []) ((c ++ d) ++ b) (e ∷ r ∷ []) (front_many c d b h k l)
      ∙ ap₂ (λ x y. x +ℚ y) (dot-zeros_left (q + q + n) ((c ++ d) ++ b)) (ap₂ (λ x y. x +ℚ y) (one_mul e) (add_zero (one_ℚ *ℚ r) ∙ one_mul r)) ∙ zero_add (e +ℚ r)))

  equations_many : length s.equations ≡ n + 2
  equations_many =
      length-append (dual_gaps vectors) ((unit q q ++ negated (unit q q) ++ zeros (n + 2)) ∷ (zeros (q + q + n) ++ one_ℚ ∷ one_ℚ ∷ []) ∷ [])
      ∙ ap (λ k. k + 2) (length-list_from 1 n _)

  pub unknowns : length s.cost ≡ q + q + n + 2
  unknowns = length-append (zeros (q + q + n)) (one_ℚ ∷ zero_ℚ ∷ []) ∙ ap (λ k. k + 2) (length-zeros (q + q + n))

  cost_is : (c d b : List ℚ) (e r : ℚ) → length c ≡ q → length d ≡ q → length b ≡ n → dot s.cost (c ++ (d ++ (b ++ e ∷ r ∷ []))) ≡ e
  cost_is c d b e r h k l =
      ap (λ v. dot s.cost v) (regrouped c d b (e ∷ r ∷ []))
      ∙ dot-append (zeros (q + q + n)) (one_ℚ ∷ zero_ℚ ∷ []) ((c ++ d) ++ b) (e ∷ r ∷ []) (front_many c d b h k l)
      ∙ ap₂ (λ x y. x +ℚ y) (dot-zeros_left (q + q + n) ((c ++ d) ++ b)) (ap₂ (λ x y. x +ℚ y) (one_mul e) (add_zero (zero_ℚ *ℚ r) ∙ zero_mul r) ∙ add_zero e) ∙ zero_add e

  -- ---- the multipliers
  said : (y c d b : List ℚ) (e r : ℚ) → length y ≡ length s.equations → length c ≡ q → length d ≡ q → length b ≡ n →
      dot y (values s.equations (c ++ (d ++ (b ++ e ∷ r ∷ []))))
      ≡ rows_value (dot (take n y) (ones n)) (on_sum n y) (on_vector q vectors (take n y) (on_last n y) c) (on_vector q vectors (take n y) (on_last n y) d) (dot (take n y) b) e r
  said y c d b e r i h k l =
      ap (λ v. dot y v) (found_values c d b e r h k l)
      ∙ dot_parts_at n y (gap n (values vectors (plus c (negated d))) b e) (entry (plus c (negated d)) q ∷ (e +ℚ r) ∷ []) (gap_of_long c d b e l)
      ∙ ap₂ (λ x z. x +ℚ z) (gap_product n (take n y) (values vectors (plus c (negated d))) b e) (two_after n y (entry (plus c (negated d)) q) (e +ℚ r) (i ∙ equations_many))
      ∙ ap₂ (λ x z. ((x +ℚ neg_ℚ (dot (take n y) b)) +ℚ neg_ℚ e *ℚ dot (take n y) (ones n)) +ℚ (on_last n y *ℚ z +ℚ on_sum n y *ℚ (e +ℚ r)))
      (sym (dot-combination_left q (take n y) vectors (plus c (negated d))) ∙ dot-plus (combination q (take n y) vectors) c (negated d)
      ∙ ap (λ x. dot (combination q (take n y) vectors) c +ℚ x) (dot-negated (combination q (take n y) vectors) d))
      (entry-plus c (negated d) q ∙ ap (λ x. entry c q +ℚ x) (entry-negated d q))
      ∙ shuffled (dot (combination q (take n y) vectors) c) (dot (combination q (take n y) vectors) d) (dot (take n y) b) (neg_ℚ e *ℚ dot (take n y) (ones n)) (on_last n y)
      (entry c q) (entry d q) (on_sum n y *ℚ (e +ℚ r))
    where
      shuffled : (a a' x g t z z' m : ℚ) →
          (((a +ℚ neg_ℚ a') +ℚ neg_ℚ x) +ℚ g) +ℚ (t *ℚ (z +ℚ neg_ℚ z') +ℚ m) ≡ ((((a +ℚ t *ℚ z) +ℚ neg_ℚ (a' +ℚ t *ℚ z')) +ℚ neg_ℚ x) +ℚ g) +ℚ m
      shuffled a a' x g t z z' m =
          ring rationals (a ∷ a' ∷ x ∷ g ∷ t ∷ z ∷ z' ∷ m ∷ [])
          ((((v0 ⊕ ⊖ v1) ⊕ ⊖ v2) ⊕ v3) ⊕ (v4 ⊗ (v5 ⊕ ⊖ (var 6)) ⊕ var 7))
          (((((v0 ⊕ v4 ⊗ v5) ⊕ ⊖ (v1 ⊕ v4 ⊗ var 6)) ⊕ ⊖ v2) ⊕ v3) ⊕ var 7) refl

  part_long : (c d b : List ℚ) (e r : ℚ) → length c ≡ q → length d ≡ q → length b ≡ n → length (c ++ (d ++ (b ++ e ∷ r ∷ []))) ≡ length s.cost
  part_long c d b e r h k l =
      omega (arith, length-append c (d ++ (b ++ e ∷ r ∷ [])), length-append d (b ++ e ∷ r ∷ []), length-append b (e ∷ r ∷ []), unknowns, h, k, l)

  part_nonneg : (c d b : List ℚ) (e r : ℚ) → AtLeastZero c → AtLeastZero d → AtLeastZero b → zero_ℚ ≤ℚ e → zero_ℚ ≤ℚ r → AtLeastZero (c ++ (d ++ (b ++ e ∷ r ∷ [])))
  part_nonneg c d b e r h k l i j =
      All-append Nonneg c (d ++ (b ++ e ∷ r ∷ [])) h
      (All-append Nonneg d (b ++ e ∷ r ∷ []) k (All-append Nonneg b (e ∷ r ∷ []) l (nonneg-cons e (r ∷ []) i (nonneg-cons r [] j nonneg-nil))))

  optimal_low : (x y c d b : List ℚ) (e r : ℚ) → IsOptimal s x y → length c ≡ q → length d ≡ q → length b ≡ n → AtLeastZero c → AtLeastZero d → AtLeastZero b →
      zero_ℚ ≤ℚ e → zero_ℚ ≤ℚ r →
      one_ℚ *ℚ e ≤ℚ rows_value (dot (take n y) (ones n)) (on_sum n y) (on_vector q vectors (take n y) (on_last n y) c) (on_vector q vectors (take n y) (on_last n y) d)
      (dot (take n y) b) e r
  optimal_low x y c d b e r h c_long d_long b_long i j k l m =
      subst (λ (a : ℚ). one_ℚ *ℚ e ≤ℚ a) (said y c d b e r h.one_each c_long d_long b_long)
      (subst (λ (a : ℚ). a ≤ℚ dot y (values s.equations (c ++ (d ++ (b ++ e ∷ r ∷ []))))) (cost_is c d b e r c_long d_long b_long ∙ sym (one_mul e))
      (optimal_at s x y (c ++ (d ++ (b ++ e ∷ r ∷ []))) (dual_ok q vectors w) h (part_long c d b e r c_long d_long b_long) (part_nonneg c d b e r i j k l m)))

  pub infeasible_low : (y c d b : List ℚ) (e r : ℚ) → IsInfeasible s y → length c ≡ q → length d ≡ q → length b ≡ n → AtLeastZero c → AtLeastZero d → AtLeastZero b →
      zero_ℚ ≤ℚ e → zero_ℚ ≤ℚ r →
      zero_ℚ *ℚ e ≤ℚ rows_value (dot (take n y) (ones n)) (on_sum n y) (on_vector q vectors (take n y) (on_last n y) c) (on_vector q vectors (take n y) (on_last n y) d)
      (dot (take n y) b) e r
  infeasible_low y c d b e r h c_long d_long b_long i j k l m =
      subst (λ (a : ℚ). zero_ℚ *ℚ e ≤ℚ a) (said y c d b e r h.one_each c_long d_long b_long)
      (subst (λ (a : ℚ). a ≤ℚ dot y (values s.equations (c ++ (d ++ (b ++ e ∷ r ∷ []))))) (sym (zero_mul e))
      (infeasible_at s y (c ++ (d ++ (b ++ e ∷ r ∷ []))) (dual_ok q vectors w) h (part_long c d b e r c_long d_long b_long) (part_nonneg c d b e r i j k l m)))

  -- ---- a solution in its parts
  abbrev up : List ℚ → List ℚ
  up z = take q z

  abbrev down : List ℚ → List ℚ
  down z = take q (drop q z)

  abbrev rest : List ℚ → List ℚ
  rest z = take n (drop q (drop q z))

  abbrev last_two : List ℚ → List ℚ
  last_two z = drop n (drop q (drop q z))

  up_long : (z : List ℚ) → length z ≡ q + q + n + 2 → length (up z) ≡ q
  up_long z h = length-take-le q z (omega (arith, h))

  down_long : (z : List ℚ) → length z ≡ q + q + n + 2 → length (down z) ≡ q
  down_long z h = length-take-le q (drop q z) (omega (arith, h, length-drop q z))

  rest_long : (z : List ℚ) → length z ≡ q + q + n + 2 → length (rest z) ≡ n
  rest_long z h = length-take-le n (drop q (drop q z)) (omega (arith, h, length-drop q z, length-drop q (drop q z)))

  abbrev gain : List ℚ → ℚ
  gain z = slice_index_or (last_two z) 0 zero_ℚ

  abbrev slack : List ℚ → ℚ
  slack z = slice_index_or (last_two z) 1 zero_ℚ

  last_long : (z : List ℚ) → length z ≡ q + q + n + 2 → length (last_two z) ≡ 2
  last_long z h = length-drop n (drop q (drop q z)) ∙ omega (arith, h, length-drop q z, length-drop q (drop q z))

  five_parts : (z : List ℚ) → length z ≡ q + q + n + 2 → z ≡ up z ++ (down z ++ (rest z ++ gain z ∷ slack z ∷ []))
  five_parts z h =
      sym (take-append-drop q z)
      ∙ ap (λ v. up z ++ v)
      (sym (take-append-drop q (drop q z))
      ∙ ap (λ v. down z ++ v) (sym (take-append-drop n (drop q (drop q z))) ∙ ap (λ v. rest z ++ v) (two_left (last_two z) (last_long z h))))

  abbrev said_vector : List ℚ → List ℚ
  said_vector z = plus (up z) (negated (down z))

  solved : (z : List ℚ) (a b : ℚ) → length z ≡ q + q + n + 2 → values s.equations z ≡ zeros n ++ a ∷ b ∷ [] →
      (gap n (values vectors (said_vector z)) (rest z) (gain z) ≡ zeros n) × (entry (said_vector z) q ∷ (gain z +ℚ slack z) ∷ [] ≡ a ∷ b ∷ [])
  solved z a b long h =
      append_parts (gap n (values vectors (said_vector z)) (rest z) (gain z)) (entry (said_vector z) q ∷ (gain z +ℚ slack z) ∷ []) (zeros n) (a ∷ b ∷ [])
      (gap_of_long (up z) (down z) (rest z) (gain z) (rest_long z long) ∙ sym (length-zeros n))
      (sym (found_values (up z) (down z) (rest z) (gain z) (slack z) (up_long z long) (down_long z long) (rest_long z long))
      ∙ ap (λ v. values s.equations v) (sym (five_parts z long)) ∙ h)

  cost_at : (z : List ℚ) → length z ≡ q + q + n + 2 → dot s.cost z ≡ gain z
  cost_at z long =
      ap (λ v. dot s.cost v) (five_parts z long)
      ∙ cost_is (up z) (down z) (rest z) (gain z) (slack z) (up_long z long) (down_long z long) (rest_long z long)

  last_nonneg : (z : List ℚ) (i : ℕ) → AtLeastZero z → length z ≡ q + q + n + 2 → i < 2 → zero_ℚ ≤ℚ slice_index_or (last_two z) i zero_ℚ
  last_nonneg z i h long l =
      All-drop Nonneg n (drop q (drop q z)) (All-drop Nonneg q (drop q z) (All-drop Nonneg q z h)) i zero_ℚ (omega (arith, l, last_long z long))

  rest_nonneg : (z : List ℚ) → AtLeastZero z → AtLeastZero (rest z)
  rest_nonneg z h = All-take Nonneg n (drop q (drop q z)) (All-drop Nonneg q (drop q z) (All-drop Nonneg q z h))

  value_is : (z : List ℚ) → length z ≡ q + q + n + 2 → values s.equations z ≡ zeros n ++ one_ℚ ∷ one_ℚ ∷ [] → (g : ℕ) → 1 ≤ g → g ≤ n →
      entry (values vectors (said_vector z)) g ≡ entry (rest z) g +ℚ gain z
  value_is z long h g l u = gap_none n (values vectors (said_vector z)) (rest z) (gain z) g (solved z one_ℚ one_ℚ long h).0 l u

  -- an optimum is positive where some vector is positive at each row
  gain_positive : (x dual y : List ℚ) → IsOptimal s x dual → All (λ v. zero_ℚ <ℚ dot v y) vectors → zero_ℚ <ℚ gain x
  gain_positive x dual y h positive = go (zero_or_positive (gain x) (last_nonneg x 0 h.solves.at_least_zero long (omega arith)))
    where
      long : length x ≡ q + q + n + 2
      long = h.wide ∙ unknowns

      there : gain x ≡ zero_ℚ → AtLeastZero (values vectors (said_vector x))
      there e =
          all_entries Nonneg (values vectors (said_vector x))
          (λ g l u. let high : g ≤ n = omega (arith, u, length-values vectors (said_vector x)) in
          subst (λ (a : ℚ). zero_ℚ ≤ℚ a)
          (sym (value_is x long h.solves.equal g l high ∙ ap (λ a. entry (rest x) g +ℚ a) e ∙ add_zero (entry (rest x) g)))
          (all_at Nonneg (rest x) g (rest_nonneg x h.solves.at_least_zero) l (omega (arith, high, rest_long x long))))

      go : (gain x ≡ zero_ℚ) ⊎ (zero_ℚ <ℚ gain x) → zero_ℚ <ℚ gain x
      go (inr p) = p
      go (inl e) =
          absurd (none_with q n vectors (take n dual) (on_last n dual) (on_sum n dual) one_ℚ w some
          (λ c d b a r i j k l m o f g. optimal_low x dual c d b a r h i j k l m o f g)
          (said_vector x) y (length-take-le n dual (omega (arith, h.one_each, equations_many))) refl
          (ap (λ v. slice_index_or v 0 zero_ℚ) (solved x one_ℚ one_ℚ long h.solves.equal).1) (there e) positive refl
          (sym (ones_right n dual (h.one_each ∙ equations_many)) ∙ sym h.equal ∙ cost_at x long ∙ e))

  pub optimal_said : (x dual y : List ℚ) → IsOptimal s x dual → All (λ v. zero_ℚ <ℚ dot v y) vectors →
      (length (interior_said q x) ≡ q) × (entry (interior_said q x) q ≡ one_ℚ) × All (λ v. zero_ℚ <ℚ dot v (interior_said q x)) vectors
  optimal_said x dual y h positive =
      subst (λ (v : List ℚ). (length v ≡ q) × (entry v q ≡ one_ℚ) × All (λ u. zero_ℚ <ℚ dot u v) vectors)
      (sym (minus_is (up x) (down x) (up_long x long ∙ sym (down_long x long)))) (
        length-plus q (up x) (negated (down x)) (up_long x long) (length-map (down x) neg_ℚ ∙ down_long x long),
        ap (λ v. slice_index_or v 0 zero_ℚ) (solved x one_ℚ one_ℚ long h.solves.equal).1,
        all_rows (λ v. zero_ℚ <ℚ dot v (said_vector x)) vectors
            (λ g l u. subst (λ (a : ℚ). zero_ℚ <ℚ a)
            (sym (value_is x long h.solves.equal g l u) ∙ value_at vectors (said_vector x) (g - 1) (omega (arith, l, u)))
            (add_positive_right (entry (rest x) g) (gain x)
            (all_at Nonneg (rest x) g (rest_nonneg x h.solves.at_least_zero) l (omega (arith, u, rest_long x long)))
            (gain_positive x dual y h positive))),
      )
    where
      long : length x ≡ q + q + n + 2
      long = h.wide ∙ unknowns

      minus_is : (a b : List ℚ) → length a ≡ length b → minus a b ≡ plus a (negated b)
      minus_is [] [] e = refl
      minus_is [] (z ∷ b) e = absurd (omega arith)
      minus_is (z ∷ a) [] e = refl
      minus_is (z ∷ a) (z' ∷ b) e = ap (λ u. (z -ℚ z') ∷ u) (minus_is a b (omega arith))

  -- ---- without a solution
  last_place : (y : List ℚ) → on_last n y ≡ entry y (suc n)
  last_place y = let place : n + 0 ≡ suc n - 1 = omega arith in slice-drop y n 0 ∙ ap (λ i. slice_index_or y i zero_ℚ) place

  last_below : (y : List ℚ) → IsInfeasible s y → on_last n y <ℚ zero_ℚ
  last_below y h =
      lt_of_le_of_lt (on_last n y) (on_last n y +ℚ on_sum n y) zero_ℚ
      (le_of_difference (on_last n y) (on_last n y +ℚ on_sum n y) (on_sum n y)
      (limit q n vectors (take n y) (on_last n y) (on_sum n y) zero_ℚ w some (λ c d b a r i j k l m o f g. infeasible_low y c d b a r h i j k l m o f g)) refl)
      (subst (λ (a : ℚ). a <ℚ zero_ℚ) (ones_right n y (h.one_each ∙ equations_many)) h.below)

  pub divisor_negative : (y : List ℚ) → IsInfeasible s y → entry y (suc n) <ℚ zero_ℚ
  divisor_negative y h = subst (λ (a : ℚ). a <ℚ zero_ℚ) (last_place y) (last_below y h)

  -- a number whose product with a negative one is at most 0
  quotient_nonneg : (t x : ℚ) → t <ℚ zero_ℚ → zero_ℚ ≤ℚ neg_ℚ (t *ℚ x) → zero_ℚ ≤ℚ x
  quotient_nonneg t x below h = go (le_or_lt zero_ℚ x)
    where
      go : (zero_ℚ ≤ℚ x) ⊎ (x <ℚ zero_ℚ) → zero_ℚ ≤ℚ x
      go (inl k) = k
      go (inr k) =
          absurd (not_lt_of_le zero_ℚ (neg_ℚ (t *ℚ x)) h
          (Rattle.polyhedra.proofs.Order.negative_of_neg (neg_ℚ (t *ℚ x))
          (subst (λ (a : ℚ). zero_ℚ <ℚ a) (ring rationals (t ∷ x ∷ []) ((⊖ v0) ⊗ (⊖ v1)) (⊖ (⊖ (v0 ⊗ v1))) refl)
          (mul_positive (neg_ℚ t) (neg_ℚ x) (neg_positive t below) (neg_positive x k)))))

  module _ (y : List ℚ) (h : IsInfeasible s y) where
    abbrev t : ℚ
    t = entry y (suc n)

    t_inverse : entry y (suc n) *ℚ inverse_ℚ (entry y (suc n)) ≡ one_ℚ
    t_inverse = mul-inverse_ℚ (entry y (suc n)) (not_zero_of_negative (entry y (suc n)) (divisor_negative y h))

    front_long : length (take n y) ≡ n
    front_long = length-take-le n y (omega (arith, h.one_each, equations_many))

    pub quotients_nonneg : AtLeastZero (scaled (inverse_ℚ (entry y (suc n))) (take n y))
    quotients_nonneg =
        all_entries Nonneg (scaled (inverse_ℚ (entry y (suc n))) (take n y))
        (λ j l u. let high : j ≤ n = omega (arith, u, length-scaled (inverse_ℚ (entry y (suc n))) (take n y), front_long) in
        quotient_nonneg (entry y (suc n)) (entry (scaled (inverse_ℚ (entry y (suc n))) (take n y)) j) (divisor_negative y h)
        (subst (λ (a : ℚ). zero_ℚ ≤ℚ neg_ℚ a)
        (dot-unit_right n j (take n y) l high
        ∙ sym (ap (λ a. entry y (suc n) *ℚ a) (entry-scaled (inverse_ℚ (entry y (suc n))) (take n y) j)
        ∙ sym (mul_assoc (entry y (suc n)) (inverse_ℚ (entry y (suc n))) (entry (take n y) j)) ∙ ap (λ a. a *ℚ entry (take n y) j) t_inverse ∙ one_mul (entry (take n y) j)))
        (surplus q n vectors (take n y) (on_last n y) (on_sum n y) zero_ℚ w some (λ c d b a r i j' k l' m o f g. infeasible_low y c d b a r h i j' k l' m o f g)
        (unit n j) (length-unit n j) (unit_nonneg n j))))

    pub quotients_combine : combination q (scaled (inverse_ℚ (entry y (suc n))) (take n y)) vectors ≡ negated (unit q q)
    quotients_combine =
        combination-scaled q (inverse_ℚ (entry y (suc n))) (take n y) vectors w
        ∙ ap (λ v. scaled (inverse_ℚ (entry y (suc n))) v)
        (combines_to q n vectors (take n y) (on_last n y) (on_sum n y) zero_ℚ w some (λ c d b a r i j k l m o f g. infeasible_low y c d b a r h i j k l m o f g)
        ∙ ap (λ a. scaled (neg_ℚ a) (unit q q)) (last_place y))
        ∙ undone (entry y (suc n)) (inverse_ℚ (entry y (suc n))) t_inverse (unit q q)
      where
        undone : (a b : ℚ) → a *ℚ b ≡ one_ℚ → (v : List ℚ) → scaled b (scaled (neg_ℚ a) v) ≡ negated v
        undone a b e [] = refl
        undone a b e (x ∷ v) =
            ap₂ (λ z u. z ∷ u)
            (ring rationals (a ∷ b ∷ x ∷ []) (v1 ⊗ ((⊖ v0) ⊗ v2)) (⊖ ((v0 ⊗ v1) ⊗ v2)) refl ∙ ap (λ z. neg_ℚ (z *ℚ x)) e ∙ ap neg_ℚ (one_mul x))
            (undone a b e v)

  pub never_unbounded : (x ray : List ℚ) → IsUnbounded s x ray → ⊥
  never_unbounded x ray h =
      let long : length ray ≡ q + q + n + 2 = h.ray_wide ∙ unknowns in
      let sum : gain ray +ℚ slack ray ≡ zero_ℚ =
      ap (λ v. slice_index_or v 1 zero_ℚ) (solved ray zero_ℚ zero_ℚ long (h.along.equal ∙ ap zeros equations_many ∙ zeros-append n 2)).1 in
      let none : gain ray ≡ zero_ℚ =
      add_zero_left (gain ray) (slack ray) (last_nonneg ray 0 h.along.at_least_zero long (omega arith)) (last_nonneg ray 1 h.along.at_least_zero long (omega arith)) sum in
      lt_irrefl zero_ℚ (subst (λ (a : ℚ). zero_ℚ <ℚ a) (cost_at ray long ∙ none) h.rises)

-- ---- over all vectors, of which those that are not 0 have an equation
-- at an interior vector each row that is not 0 is positive
interior_positive : (q : ℕ) (vectors : List (List ℚ)) (y : List ℚ) → AreWide q vectors → IsInterior q (IsInCone q vectors) y → All (λ v. zero_ℚ <ℚ dot v y) (kept vectors)
interior_positive q vectors y w inner =
    kept_nonzero q (λ v. zero_ℚ <ℚ dot v y) vectors
    (all_of_members (λ v. v ≢ zeros q → zero_ℚ <ℚ dot v y) vectors
    (λ v c other. inner.inside v ((dual_cones.of_rows q vectors v w).1 (generated_generator q vectors v w c)) other))

minus_last : (q : ℕ) (vectors : List (List ℚ)) (y : List ℚ) (m : List Spot) → AreWide q vectors → 1 ≤ q → IsInfeasible (interior_of_dual q (kept vectors)) y →
    IsSpread vectors (scaled (inverse_ℚ (entry y (suc (length (kept vectors))))) (take (length (kept vectors)) y)) m → CombinesToMinusLast q vectors m
minus_last q vectors y m w some h k =
    record {
      vector = k.vector;
      sign = (spread_well q vectors (scaled (inverse_ℚ (entry y (suc (length (kept vectors))))) (take (length (kept vectors)) y)) m k
          (quotients_nonneg q (kept vectors) (kept_wide q vectors w) some y h)).sign;
      combined = ap (λ v. combination q v vectors) k.numbers
          ∙ spread_combination q vectors (scaled (inverse_ℚ (entry y (suc (length (kept vectors))))) (take (length (kept vectors)) y)) w
          ∙ quotients_combine q (kept vectors) (kept_wide q vectors w) some y h;
    }

pub rows_program : RowsProgram
rows_program =
    record {
      optimal = λ q vectors x dual w some solid h.
          optimal_said q (kept vectors) (kept_wide q vectors w) some x dual solid.0 h (interior_positive q vectors solid.0 w solid.1);
      divisor = λ q vectors y w some h. divisor_negative q vectors w some y h;
      infeasible = minus_last;
      bounded = λ q vectors x ray w some h. never_unbounded q vectors w some x ray h;
    }
