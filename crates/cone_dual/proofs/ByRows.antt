-- What the ends of the program of an interior vector say of the rows of a dual form, in a field.
use Rattle.std.proofs.Common.{◌≡◌, ◌≢◌, ℕ, suc, List, [], ◌∷◌, ◌++◌, length, map, take, drop, refl, sym, ap, ap₂, subst, ◌∙◌, ◌+◌, ◌-◌, ◌<◌, ◌≤◌, arith, not, Bool, true, false, true≢false, inl, inr, ◌⊎◌, slice_index_or}
use Rattle.std.specs.Prelude.{if◌then◌else◌}
use Rattle.std.specs.List.{list_all}
use Rattle.std.proofs.Math.ListN.{length-append}
use Rattle.std.proofs.lemmas.List.{length-map, get_or-map, get_or-take, get_or-drop, length-take-le, take-map, drop-map}
use Rattle.std.proofs.lemmas.List.Filters.{length-filter_both}
use Rattle.exact_field.specs.Rational.{ℚ, zero_ℚ, one_ℚ, neg_ℚ, inverse_ℚ, le_ℚ, ◌*ℚ◌, ◌<ℚ◌}
use Rattle.exact_field.specs.Vector.{entry}
use Rattle.exact_field.proofs.Rationals.{mul_cancel_ℚ, mul_comm_ℚ, mul-inverse_ℚ, mul-neg_ℚ, neg-mul_ℚ, neg-neg_ℚ, neg-zero_ℚ}
use Rattle.exact_field.proofs.Inequalities.{lt-not-same}
use Rattle.frac128.specs.Sparse.{is_zero}
use Rattle.frac128.specs.declared.vectors.Spot.{Spot}
use Rattle.polyhedra.specs.DoubleDescription.{magnitude}
use Rattle.polyhedra.specs.Negatives.{negated}
use Rattle.polyhedra.specs.Vectors.{AreWide, scaled, zeros}
use Rattle.tableaux.specs.Dictionary.{solution}
use Rattle.tableaux.specs.Simplex.{IsInfeasible, IsOptimal, IsUnbounded, InfeasibleAt, OptimalAt}
use Rattle.tableaux.specs.Table.{System, Table, minus, unit, unknown_count}
use Rattle.tableaux.proofs.Places.{length-list_from}
use Rattle.exact_simplex.specs.Ends.{IsCertified, IsReadOff}
use Rattle.exact_simplex.specs.declared.answer.LpEnd.{LpEnd}
use Rattle.exact_simplex.specs.declared.answer.LpEnd.TheVariants.{Optimal, Unbounded, Infeasible}
use Rattle.lin_rows.specs.Read.{numbers}
use Rattle.upper_image.specs.Spots.{dense, IsVector}
use Rattle.vlp_problem.specs.declared.problem.Problem.{Problem}
use Rattle.vlp_problem.specs.declared.problem.Cone.{Cone}
use Rattle.vlp_problem.specs.declared.problem.Cone.TheVariants as cone
use Rattle.vlp_problem.specs.declared.program.Program.TheVariants.{Interior}
use Rattle.lp_form.specs.declared.data.ConeOf.TheVariants.{Dual}
use Rattle.lp_form.specs.declared.data.Data.{Data}
use Rattle.lp_form.specs.Data.{IsDataOf, cone_of, duality_of}
use Rattle.lp_form.specs.Programs.{dual_gaps, interior_of_dual, interior_system, nonzero_vectors}
use Rattle.lp_form.specs.Reading.{AreDisjoint}
use Rattle.lp_form.proofs.Figures.{objective_number}
use Rattle.lp_form.proofs.Systems.{dual_ok, length-zeros}
use Rattle.overflows.specs.Base.{AreFirstMultipliersOff, IsSolutionOff}
use Rattle.overflows.specs.Quotients.{IsDivisor, IsScaled}
use Rattle.overflows.specs.Trails.{IsInteriorOff}
use Rattle.cone_rules.specs.Faults.{CombinesToMinusLast, HasInterior}
use Rattle.cone_rules.specs.Laws.{interior_said, spread}
use Rattle.cone_rules.proofs.FoundRows.{rows_program}
use Rattle.cone_rules.proofs.Opposite.{opposite_columns}
use Rattle.cone_rules.proofs.Rows.{kept_wide}
use Rattle.cone_dual.specs.Fitting.{IsInsideRows}
use Rattle.cone_dual.proofs.Asked.{interior_same}
use Rattle.cone_dual.proofs.ByVectors.{first_off, rows_few, rows_found_is, rows_wide, solution_off}
use Rattle.cone_dual.proofs.Opposite.{opposite_entries}
use Rattle.cone_dual.proofs.Spreading.{spread_of}
use Rattle.cone_dual.proofs.Standing.{before, of_cone}

-- ---- signs
-- the magnitude of a negative number
magnitude_below : (q : ℚ) → q <ℚ zero_ℚ → magnitude q ≡ neg_ℚ q
magnitude_below q h = ap (λ (b : Bool). if b then q else neg_ℚ q) (turned (le_ℚ zero_ℚ q) h)
  where
    turned : (b : Bool) → not b ≡ true → b ≡ false
    turned true e = absurd (true≢false (sym e))
    turned false e = refl

neg-not-zero : (a : ℚ) → a ≢ zero_ℚ → neg_ℚ a ≢ zero_ℚ
neg-not-zero a h = λ e. h (sym (neg-neg_ℚ a) ∙ ap neg_ℚ e ∙ neg-zero_ℚ)

inverse-neg : (a : ℚ) → a ≢ zero_ℚ → inverse_ℚ (neg_ℚ a) ≡ neg_ℚ (inverse_ℚ a)
inverse-neg a h =
    let other = neg-not-zero a h in
    mul_cancel_ℚ (inverse_ℚ (neg_ℚ a)) (neg_ℚ (inverse_ℚ a)) (neg_ℚ a) other
    (mul_comm_ℚ (inverse_ℚ (neg_ℚ a)) (neg_ℚ a) ∙ mul-inverse_ℚ (neg_ℚ a) other
    ∙ sym
    (neg-mul_ℚ (inverse_ℚ a) (neg_ℚ a) ∙ ap neg_ℚ (mul-neg_ℚ (inverse_ℚ a) a) ∙ neg-neg_ℚ (inverse_ℚ a *ℚ a) ∙ mul_comm_ℚ (inverse_ℚ a) a
    ∙ mul-inverse_ℚ a h))

negated-scaled : (s : ℚ) (v : List ℚ) → negated (scaled (neg_ℚ s) v) ≡ scaled s v
negated-scaled s [] = refl
negated-scaled s (x ∷ v) = ap₂ (λ (a : ℚ) (b : List ℚ). a ∷ b) (ap neg_ℚ (neg-mul_ℚ s x) ∙ neg-neg_ℚ (s *ℚ x)) (negated-scaled s v)

-- the quotients by the negative of a number, negated, are those by the number
turned_back : (a : ℚ) (v : List ℚ) → a ≢ zero_ℚ → negated (scaled (inverse_ℚ (neg_ℚ a)) v) ≡ scaled (inverse_ℚ a) v
turned_back a v h = ap (λ (s : ℚ). negated (scaled s v)) (inverse-neg a h) ∙ negated-scaled (inverse_ℚ a) v

-- ---- lengths
equations : (q : ℕ) (vectors : List (List ℚ)) → length (interior_of_dual q vectors).equations ≡ length vectors + 2
equations q vectors =
    let n = length vectors in
    length-append (dual_gaps vectors) ((unit q q ++ negated (unit q q) ++ zeros (n + 2)) ∷ (zeros (q + q + n) ++ one_ℚ ∷ one_ℚ ∷ []) ∷ [])
    ∙ ap (λ (k : ℕ). k + 2) (length-list_from 1 n _)

unknowns : (q : ℕ) (vectors : List (List ℚ)) → unknown_count (interior_of_dual q vectors) ≡ q + q + length vectors + 2
unknowns q vectors =
    length-append (zeros (q + q + length vectors)) (one_ℚ ∷ zero_ℚ ∷ []) ∙ ap (λ (k : ℕ). k + 2) (length-zeros (q + q + length vectors))

kept_few : (vectors : List (List ℚ)) → length (nonzero_vectors (cone.Dual vectors)) ≤ length vectors
kept_few vectors =
    let both = length-filter_both (λ v. not (list_all is_zero v)) (λ v. not (not (list_all is_zero v))) (λ v. refl) vectors in
    omega (arith, both)

module _ {F : Type 0} (value : F → ℚ) (form : Data F) (vectors : List (List F)) (rows : form.cone ≡ Dual vectors) where
  abbrev q : ℕ
  q = length form.p

  abbrev V : List (List ℚ)
  V = numbers value vectors

  abbrev N : List (List ℚ)
  N = nonzero_vectors (cone.Dual V)

  abbrev S : System
  S = interior_of_dual q N

  -- the program of the cone in a field
  abbrev whole : System
  whole = interior_system (length form.p) (cone_of value form.cone) (duality_of value form.duality)

  same : whole ≡ S
  same = rows_found_is value form vectors rows

  wide : AreWide q V
  wide = rows_wide value form vectors rows

  some : 1 ≤ q
  some = let s = form.some_objective in omega (arith, s)

  few : length N ≤ 100000
  few = omega (arith, kept_few V, length-map vectors (map value), rows_few value form vectors rows)

  -- ---- without an interior vector
  module _ (y : List F) (h : IsInfeasible S (map value y)) where
    pub multipliers : length y ≡ length N + 2
    multipliers = sym (length-map y value) ∙ h.one_each ∙ equations q N

    pub short : length y ≤ 4294967294
    short = omega (arith, multipliers, few)

    pub below : entry (map value y) (suc (length N)) <ℚ zero_ℚ
    below = rows_program.divisor q N (map value y) (kept_wide q V wide) some h

    module _ (n : ℕ) (by : ℚ) (n_is : n ≡ length y - 2) (by_is : by ≡ neg_ℚ (entry (map value y) (n + 1))) where
      place : n ≡ length N
      place = omega (arith, n_is, multipliers)

      over : by ≡ neg_ℚ (entry (map value y) (suc (length N)))
      over = by_is ∙ ap (λ (k : ℕ). neg_ℚ (entry (map value y) k)) (omega (arith, place))

      pub not_zero : by ≢ zero_ℚ
      not_zero = λ e. neg-not-zero (entry (map value y) (suc (length N))) (lt-not-same _ _ below) (sym over ∙ e)

      pub combined : (quotients shares numbers : List F) (m : List Spot) → map value quotients ≡ scaled (inverse_ℚ by) (take n (map value y)) →
          map value shares ≡ negated (map value quotients) → map value numbers ≡ spread V (map value shares) → IsVector (length numbers) m →
          dense (length numbers) m ≡ map value numbers → CombinesToMinusLast q V m
      combined quotients shares numbers m quotients_are shares_are numbers_are vector written =
          let k = length N in
          let a : ℚ = entry (map value y) (suc k) in
          let xs : List ℚ = scaled (inverse_ℚ a) (take k (map value y)) in
          let same : map value shares ≡ xs =
          shares_are ∙ ap negated quotients_are ∙ ap₂ (λ (b : ℚ) (j : ℕ). negated (scaled (inverse_ℚ b) (take j (map value y)))) over place
          ∙ turned_back a (take k (map value y)) (lt-not-same _ _ below) in
          rows_program.infeasible q V (map value y) m wide some h
          (spread_of value V xs numbers m (numbers_are ∙ ap (spread V) same) vector written)

      -- the multipliers may be divided by it
      pub may_divide : (holds : ℚ → Bool) (file : Problem) → IsDataOf value file form → AreFirstMultipliersOff S (map value y) →
          IsScaled (before file) (map value y) × IsDivisor (before file) (map value y) by
      may_divide holds file stands off = (
        IsScaled.read record {
          program = Interior;
          allowed = tt;
          whole = map value y;
          read = inr (inr (inl (subst (λ (s : System). AreFirstMultipliersOff s (map value y))
              (sym same ∙ interior_same value holds form file stands) off)));
          same = inl refl;
        },
        IsDivisor.own (suc (length N)) (omega arith) (omega (arith, multipliers, length-map y value))
            (over ∙ sym (magnitude_below (entry (map value y) (suc (length N))) below)),
      )

  -- they are read off
  pub first : (end : LpEnd F) (farkas y : List F) (basis : List ℕ) → end ≡ Infeasible farkas basis → IsReadOff value whole end → y ≡ farkas →
      AreFirstMultipliersOff S (map value y)
  first end farkas y basis is read y_is =
      subst (λ (l : List F). AreFirstMultipliersOff S (map value l)) (sym y_is)
      (first_off S basis (map value farkas)
      (subst (λ (s : System). (d : Table) × InfeasibleAt s basis d (map value farkas)) same (subst (λ e. IsReadOff value whole e) is read)))

  -- ---- an interior vector
  module _ (end : LpEnd F) (x dual : List F) (basis : List ℕ) (is : end ≡ Optimal x dual basis) (certified : IsCertified value whole end)
      (read : IsReadOff value whole end) where
    h : IsOptimal S (map value x) (map value dual)
    h = subst (λ (s : System). IsOptimal s (map value x) (map value dual)) same (subst (λ e. IsCertified value whole e) is certified)

    off : (d : Table) × OptimalAt S basis d (map value x) (map value dual)
    off = subst (λ (s : System). (d : Table) × OptimalAt s basis d (map value x) (map value dual)) same (subst (λ e. IsReadOff value whole e) is read)

    found_long : length x ≡ q + q + length N + 2
    found_long = sym (length-map x value) ∙ h.wide ∙ unknowns q N

    -- of the two unknowns of an entry at most one is not 0
    split : (i : ℕ) → i < q → (slice_index_or (map value x) i zero_ℚ ≡ zero_ℚ) ⊎ (slice_index_or (map value x) (q + i) zero_ℚ ≡ zero_ℚ)
    split i inside =
        let many = unknowns q N in
        let first : i + 1 - 1 ≡ i = omega arith in
        let second : q + i + 1 - 1 ≡ q + i = omega arith in
        let P : ℕ → ℕ → List ℚ → Type 0 = λ a b z. (slice_index_or z a zero_ℚ ≡ zero_ℚ) ⊎ (slice_index_or z b zero_ℚ ≡ zero_ℚ) in
        let there : P (i + 1 - 1) (q + i + 1 - 1) (solution S basis off.0) =
        opposite_columns S basis off.0 (i + 1) (q + i + 1) (dual_ok q N (kept_wide q V wide)) off.1.feasible.full (omega arith)
        (omega (arith, many, inside)) (omega arith) (omega (arith, many, inside)) (λ e. omega (arith, e, inside))
        (opposite_entries q i N inside (kept_wide q V wide)) in
        subst (λ (z : List ℚ). P i (q + i) z) (sym off.1.x_read)
        (subst (λ (a : ℕ). P a (q + i) (solution S basis off.0)) first (subst (λ (b : ℕ). P (i + 1 - 1) b (solution S basis off.0)) second there))

    module _ (n : ℕ) (z : List F) (n_is : n ≡ q) (z_is : z ≡ x) where
      pub apart : AreDisjoint value (take n z) (take (n + n - n) (drop n z))
      apart = λ i a b inside.
          let long : length z ≡ q + q + length N + 2 = ap length z_is ∙ found_long in
          let within : i < q = omega (arith, inside, n_is, long, length-take-le n z (omega (arith, n_is, long))) in
          let first : slice_index_or (take n z) i a ≡ slice_index_or x i a =
          get_or-take n z i a (omega (arith, within, n_is)) ∙ ap (λ (l : List F). slice_index_or l i a) z_is in
          let second : slice_index_or (take (n + n - n) (drop n z)) i b ≡ slice_index_or x (q + i) b =
          get_or-take (n + n - n) (drop n z) i b (omega (arith, within, n_is)) ∙ get_or-drop n z i b
          ∙ ap₂ (λ (l : List F) (k : ℕ). slice_index_or l (k + i) b) z_is n_is in
          elim (split i within) [
            | inl e ↦ inl (ap value first ∙ sym (get_or-map value x i a zero_ℚ (omega (arith, within, found_long))) ∙ e)
            | inr e ↦ inr (ap value second ∙ sym (get_or-map value x (q + i) b zero_ℚ (omega (arith, within, found_long))) ∙ e)
          ]

      module _ (w : List F) (w_is : map value w ≡ minus (map value (take n z)) (map value (take (n + n - n) (drop n z)))) where
        said : map value w ≡ interior_said q (map value x)
        said =
            let back : n + n - n ≡ n = omega arith in
            w_is ∙ ap (λ (k : ℕ). minus (map value (take n z)) (map value (take k (drop n z)))) back
            ∙ ap₂ (λ (k : ℕ) (l : List F). minus (map value (take k l)) (map value (take k (drop k l)))) n_is z_is
            ∙ ap₂ minus (sym (take-map value q x)) (sym (take-map value q (drop q x)) ∙ ap (take q) (sym (drop-map value q x)))

        pub inside : HasInterior q (cone_of value form.cone) → IsInsideRows q V (map value w)
        inside solid =
            let law = rows_program.optimal q V (map value x) (map value dual) wide some (of_cone value form (Dual vectors) rows (λ (k : Cone). HasInterior q k) solid) h in
            subst (λ (v : List ℚ). IsInsideRows q V v) (sym said) (record { wide = law.0; last = law.1; positive = law.2 })

        pub read_off : (holds : ℚ → Bool) (file : Problem) → IsDataOf value file form → IsInteriorOff file (map value w)
        read_off holds file stands = (
          map value x,
          subst (λ (s : System). IsSolutionOff s (map value x)) (sym same ∙ interior_same value holds form file stands)
              (solution_off S basis (map value x) (map value dual) off),
          said ∙ ap (λ (k : ℕ). interior_said k (map value x)) (objective_number value file form stands),
        )

  -- ---- neither
  pub bounded : (end : LpEnd F) (x ray : List F) (basis : List ℕ) → end ≡ Unbounded x ray basis → IsCertified value whole end → ⊥
  bounded end x ray basis is certified =
      rows_program.bounded q N (map value x) (map value ray) (kept_wide q V wide) some
      (subst (λ (s : System). IsUnbounded s (map value x) (map value ray)) same (subst (λ e. IsCertified value whole e) is certified))
