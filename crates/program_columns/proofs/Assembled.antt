-- A program that is assembled of its columns stands for the system that has these.
use Rattle.std.proofs.Common.{◌≡◌, ℕ, zero, suc, List, [], ◌∷◌, ◌++◌, length, map, refl, sym, ap, ap₂, ◌∙◌, subst, arith, ◌<◌, ◌≤◌, ◌-◌, ◌+◌, inl, inr, ◌⊎◌, Bool, true, IsTrue, nat_eq, slice_index_or}
use Rattle.std.specs.Prelude.{◌&&◌}
use Rattle.std.specs.List.{list_all}
use Rattle.std.proofs.lemmas.Bool.{cases_lt, le-leb, lt-ltb}
use Rattle.std.proofs.lemmas.List.{append-nil, get_or-append_right, get_or-map, get_or_append_left, length-append, length-map}
use Rattle.std.proofs.lemmas.Simd.{map-map}
use Rattle.exact_field.specs.Rational.{ℚ, zero_ℚ, ◌+ℚ◌}
use Rattle.exact_field.specs.Vector.{entry}
use Rattle.exact_field.proofs.Rationals.{add-zero_ℚ}
use Rattle.polyhedra.specs.Sparse.{Entry}
use Rattle.polyhedra.specs.Vectors.{scaled}
use Rattle.polyhedra.proofs.Tests.{both_true}
use Rattle.tableaux.specs.Table.{System, IsSystem, artificial_sign, column_of, equation_count, listed, row_of, unit, unknown_count}
use Rattle.tableaux.specs.Optimum.{equations_at}
use Rattle.tableaux.proofs.Optima.{column-artificial, column-unknown}
use Rattle.tableaux.proofs.Places.{listed-is, listed-place}
use Rattle.tableaux.proofs.Ties.{column_entry}
use Rattle.tableaux.proofs.Unique.{column-long}
use Rattle.lin_rows.specs.Lines.{entries, entry_of, sum_at}
use Rattle.lin_rows.specs.declared.spots.Spot.{Spot}
use Rattle.lin_rows.proofs.Merging.{shown}
use Rattle.lin_rows.proofs.Pivoted.{listed-same}
use Rattle.vlp_problem.specs.Sides.{side_column}
use Rattle.vlp_problem.specs.declared.problem.Problem.{Problem}
use Rattle.lp_form.specs.Data.{IsDataOf}
use Rattle.lp_form.specs.Programs.{feasible_system}
use Rattle.lp_form.specs.Shapes.{are_places}
use Rattle.lp_form.specs.declared.data.Data.{Data}
use Rattle.lp_form.specs.declared.data.SideOf.{SideOf}
use Rattle.lp_form.proofs.Figures.{side_column_is}
use Rattle.program_columns.specs.Columns.{all_columns, filled}
use Rattle.program_columns.specs.Entries.{across, unit_entries}
use Rattle.program_columns.specs.Program.{IsProgramOf, spots_at, column_in}
use Rattle.program_columns.specs.Written.{IsAssembled}
use Rattle.program_columns.specs.declared.columns.Columns.{Columns}
use Rattle.program_columns.proofs.Entered.{length-units, places_wider, unit_at}
use Rattle.program_columns.proofs.Multiples.{one_place}

-- ---- the shape of a program
all-append : {X : Type 0} (p : X → Bool) (xs ys : List X) → list_all p xs ≡ true →
    list_all p ys ≡ true → list_all p (xs ++ ys) ≡ true
all-append p [] ys h g = g
all-append p (x ∷ xs) ys h g =
    let b = both_true (p x) (list_all p xs) h in
    ap₂ (λ a c. a && c) b.0 (all-append p xs ys b.1 g)

module _ {F : Type 0} where
  sides_fit : (n m : ℕ) (sides : List (SideOf F)) → n ≤ m →
      list_all (λ s. are_places n 0 s.g) sides ≡ true →
      list_all (are_places m 0) (map (λ s. s.g) sides) ≡ true
  sides_fit n m [] l h = refl
  sides_fit n m (s ∷ sides) l h =
      let b = both_true (are_places n 0 s.g) (list_all (λ s. are_places n 0 s.g) sides) h in
      ap₂ (λ a c. a && c) (places_wider n m 0 s.g l b.0) (sides_fit n m sides l b.1)

  units_fit : (value : F → ℚ) (n k : ℕ) (units : List (Spot F)) (right : List ℚ) →
      entries value units ≡ unit_entries k right → k + length right ≤ n →
      list_all (are_places n 0) (map (λ u. u ∷ []) units) ≡ true
  units_fit value n k [] right e l = refl
  units_fit value n k (u ∷ units) [] e l = absurd (cc)
  units_fit value n k (u ∷ units) (b ∷ right) e l =
      let own : entry_of value u ≡ record { place = suc k; value = artificial_sign b } = cc in
      let rest : entries value units ≡ unit_entries (suc k) right = cc in
      let place : u.at ≡ suc k = ap (λ (c : Entry). c.place) own in
      ap₂ (λ a c. a && c)
      (ap₂ (λ a c. a && c) (lt-ltb 0 u.at (omega arith))
      (ap₂ (λ a c. a && c) (le-leb u.at n (omega arith)) refl))
      (units_fit value n (suc k) units right rest (omega arith))

  pub all_fit : (value : F → ℚ) (cols : ℕ) (sides : List (SideOf F)) (others : List (List (Spot F)))
      (units : List (Spot F)) (right : List F) → cols ≤ length right →
      list_all (λ s. are_places cols 0 s.g) sides ≡ true →
      list_all (are_places (length right) 0) others ≡ true →
      entries value units ≡ unit_entries 0 (map value right) →
      list_all (are_places (length right) 0) (all_columns sides others units) ≡ true
  all_fit value cols sides others units right l h g e =
      all-append (are_places (length right) 0) (map (λ s. s.g) sides ++ others)
      (map (λ u. u ∷ []) units)
      (all-append (are_places (length right) 0) (map (λ s. s.g) sides) others
      (sides_fit cols (length right) sides l h) g)
      (units_fit value (length right) 0 units (map value right) e
      (omega (arith, length-map right value)))

  pub units_many : (value : F → ℚ) (units : List (Spot F)) (right : List F) →
      entries value units ≡ unit_entries 0 (map value right) → length units ≡ length right
  units_many value units right e =
      sym (length-map units (entry_of value)) ∙ ap length e
      ∙ length-units 0 (map value right) ∙ length-map right value

  -- one entry is one of the entries
  single_entry : (value : F → ℚ) (units : List (Spot F)) (j : ℕ) →
      entries value (slice_index_or (map (λ u. u ∷ []) units) j [])
      ≡ slice_index_or (map (λ e. e ∷ []) (entries value units)) j []
  single_entry value [] j = refl
  single_entry value (u ∷ units) zero = refl
  single_entry value (u ∷ units) (suc j) = single_entry value units j

-- ---- what it stands for
module _ {F : Type 0} (value : F → ℚ) (form : Data F) (others : List (List (Spot F)))
    (right cost : List F) (p : Columns F) (h : IsAssembled value form others right cost p)
    (s : System) (ok : IsSystem s) (right_same : map value right ≡ s.right)
    (cost_same : map value cost ≡ s.cost)
    (rows : (k : ℕ) → 1 ≤ k → k ≤ equation_count s →
    across value k (map (λ t. t.g) form.sides ++ others) ≡ row_of s.equations k) where
  abbrev unknowns : List (List (Spot F))
  unknowns = map (λ t. t.g) form.sides ++ others

  m_is : length p.right ≡ equation_count s
  m_is =
      ap length h.right_is ∙ sym (length-map right value) ∙ ap length right_same ∙ ok.right_each

  n_is : length unknowns ≡ unknown_count s
  n_is =
      omega (
        arith,
        length-append (map (λ t. t.g) form.sides) others,
        length-map form.sides (λ t. t.g),
        p.unknowns,
        ap length h.sides,
        ap length h.others_are,
        ap length h.cost_is,
        length-map cost value,
        ap length cost_same,
      )

  spots_are : (k : ℕ) → spots_at p k
      ≡ slice_index_or (unknowns ++ map (λ u. u ∷ []) p.units) (k - 1) []
  spots_are k =
      ap₂ (λ a b. slice_index_or (all_columns a b p.units) (k - 1) []) h.sides h.others_are

  unknown_column : (k : ℕ) → 1 ≤ k → k ≤ unknown_count s → column_in value p k ≡ equations_at s k
  unknown_column k low high =
      let spots : List (Spot F) = slice_index_or unknowns (k - 1) [] in
      ap₂ (filled value) m_is
      (spots_are k
      ∙ get_or_append_left unknowns (map (λ u. u ∷ []) p.units) [] (k - 1) (omega (arith, n_is)))
      ∙ listed-is (equation_count s) (sum_at (entries value spots)) (column_of s.equations k)
      (column-long s.equations k)
      (λ i from_one to_end.
      sym (column_entry s.equations k (i - 1) (omega arith)
      ∙ ap (λ v. entry v k) (sym (rows i from_one to_end))
      ∙ get_or-map (λ cs. sum_at (entries value cs) i) unknowns (k - 1) [] zero_ℚ (omega (arith, n_is))))
      ∙ sym (column-unknown s ok k low high)

  artificial_column : (i : ℕ) → 1 ≤ i → i ≤ equation_count s →
      column_in value p (unknown_count s + i) ≡ equations_at s (unknown_count s + i)
  artificial_column i low high =
      let k : ℕ = unknown_count s + i in
      let m : ℕ = equation_count s in
      let σ : ℚ = artificial_sign (entry s.right i) in
      let none : Entry = record { place = 0; value = zero_ℚ } in
      let place : 0 + suc (i - 1) ≡ i = omega arith in
      let right_long : length s.right ≡ m = ok.right_each in
      let spots : entries value (spots_at p k) ≡ record { place = i; value = σ } ∷ [] =
      ap (entries value)
      (spots_are k
      ∙ get_or-append_right unknowns (map (λ u. u ∷ []) p.units) (unknown_count s) (k - 1) []
      n_is (omega arith)
      ∙ ap (λ j. slice_index_or (map (λ u. u ∷ []) p.units) j [])
      (let same : k - 1 - unknown_count s ≡ i - 1 = omega arith in same))
      ∙ single_entry value p.units (i - 1)
      ∙ ap (λ es. slice_index_or (map (λ e. e ∷ []) es) (i - 1) [])
      (h.units ∙ ap (unit_entries 0) right_same)
      ∙ get_or-map (λ e. e ∷ []) (unit_entries 0 s.right) (i - 1) none []
      (omega (arith, length-units 0 s.right))
      ∙ ap (λ e. e ∷ []) (unit_at 0 s.right (i - 1) none (omega arith)
      ∙ ap (λ a. record { place = a; value = σ }) place) in
      ap₂ (λ n es. listed n (sum_at es)) m_is spots
      ∙ listed-same m (sum_at (record { place = i; value = σ } ∷ [])) (λ j. shown (nat_eq i j) σ)
      (λ j a b. add-zero_ℚ (shown (nat_eq i j) σ))
      ∙ one_place m i σ ∙ sym (column-artificial s ok i low high)

  pub program_of : IsProgramOf value s p
  program_of = record {
    system = ok;
    right = ap (map value) h.right_is ∙ right_same;
    cost = ap (map value) h.cost_is ∙ cost_same;
    columns = λ k low high. by_place k low high (cases_lt (unknown_count s) k);
  }
    where
      by_place : (k : ℕ) → 1 ≤ k → k ≤ unknown_count s + equation_count s →
          (unknown_count s < k) ⊎ (k ≤ unknown_count s) → column_in value p k ≡ equations_at s k
      by_place k low high (inr inside) = unknown_column k low inside
      by_place k low high (inl over) =
          let i : ℕ = k - unknown_count s in
          let place : unknown_count s + i ≡ k = omega arith in
          subst (λ (j : ℕ). column_in value p j ≡ equations_at s j) place
          (artificial_column i (omega arith) (omega arith))

-- ---- the program of the sides alone
pub feasible_row : {F : Type 0} (value : F → ℚ) (file : Problem) (form : Data F) (k : ℕ) →
    IsDataOf value file form → 1 ≤ k → k ≤ equation_count (feasible_system file) →
    k ≤ form.cols →
    across value k (map (λ s. s.g) form.sides ++ []) ≡ row_of (feasible_system file).equations k
feasible_row value file form k stands low high inside =
    ap (across value k) (append-nil (map (λ s. s.g) form.sides))
    ∙ map-map (λ spots. sum_at (entries value spots) k) (λ s. s.g) form.sides
    ∙ side_column_is value file form stands k low inside
    ∙ sym (listed-place file.cols (side_column file) k [] low
    (subst (λ (n : ℕ). k ≤ n) stands.cols inside))
