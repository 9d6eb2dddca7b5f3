-- The columns that are written have the numbers of Benson's program, equation by equation.
use Rattle.std.proofs.Common.{◌≡◌, ◌≢◌, ℕ, zero, suc, List, [], ◌∷◌, ◌++◌, length, map, All, refl, sym, ap, ap₂, ◌∙◌, subst, arith, ◌<◌, ◌≤◌, ◌-◌, ◌+◌, inl, inr, ◌⊎◌, true, nat_eq, slice_index_or}
use Rattle.std.specs.Prelude.{◌==◌, if◌then◌else◌}
use Rattle.std.specs.List.{list_all}
use Rattle.std.proofs.lemmas.Bool.{cases_lt}
use Rattle.std.proofs.lemmas.List.{append_assoc, get_or-append_right, get_or-map, get_or_append_left, get_or_past, length-append, length-map, map-append}
use Rattle.std.proofs.lemmas.Simd.{map-map}
use Rattle.exact_field.specs.Rational.{ℚ, zero_ℚ, one_ℚ, ◌+ℚ◌, neg_ℚ}
use Rattle.exact_field.specs.Vector.{entry}
use Rattle.exact_field.proofs.Rationals.{add-zero_ℚ, neg-zero_ℚ, zero-add_ℚ}
use Rattle.polyhedra.specs.Negatives.{negated}
use Rattle.polyhedra.specs.Vectors.{AreWide, zeros}
use Rattle.tableaux.specs.Table.{Table, column_of, list_from, listed, row_of, unit}
use Rattle.tableaux.proofs.Found.{list_from-same}
use Rattle.tableaux.proofs.Places.{length-list_from, listed-is, listed-place, row-wide, same_or_other}
use Rattle.tableaux.proofs.Ties.{column_entry}
use Rattle.lin_rows.specs.Lines.{Rises, entries, sum_at}
use Rattle.lin_rows.specs.declared.spots.Spot.{Spot}
use Rattle.lin_rows.proofs.Merging.{shown}
use Rattle.upper_image.specs.UpperImage.{objective_column}
use Rattle.vlp_problem.specs.Sides.{side_column}
use Rattle.vlp_problem.specs.declared.problem.Problem.{Problem}
use Rattle.vlp_problem.specs.declared.problem.Cone.{Cone}
use Rattle.vlp_problem.specs.declared.problem.Cone.TheVariants.{Orthant, Gens, Dual}
use Rattle.lp_form.specs.Data.{IsDataOf, cone_of}
use Rattle.lp_form.specs.Programs.{balances, benson_system, dual_equations, dual_members, dual_unknowns, on_parts, side_total}
use Rattle.lp_form.specs.Shapes.{are_places}
use Rattle.lp_form.specs.declared.data.Data.{Data}
use Rattle.lp_form.specs.declared.data.SideOf.{SideOf}
use Rattle.lp_form.proofs.Figures.{objective_column_is, objective_number, places_rise, side_column_is, side_number}
use Rattle.lp_form.proofs.Systems.{IsWideCone, cone_wide, length-negated, length-zeros}
use Rattle.program_columns.specs.Entries.{across, after_w, benson_equations, member, placed, row_after_w, single, weight_entry, weight_row}
use Rattle.program_columns.specs.Written.{AreOthers}
use Rattle.program_columns.proofs.Entered.{placed-at, placed-low, single_none, single_same, sum_at-above}
use Rattle.program_columns.proofs.Listed.{passes_at}

-- ---- lists
listed-zero : (k n : ℕ) (f : ℕ → ℚ) → ((j : ℕ) → k ≤ j → j < k + n → f j ≡ zero_ℚ) →
    list_from k n f ≡ zeros n
listed-zero k zero f h = refl
listed-zero k (suc n) f h =
    ap₂ (λ a b. a ∷ b) (h k (omega arith) (omega arith))
    (listed-zero (suc k) n f (λ j low high. h j (omega arith) (omega arith)))

all_zero : (n : ℕ) (f : ℕ → ℚ) → ((j : ℕ) → 1 ≤ j → j ≤ n → f j ≡ zero_ℚ) → listed n f ≡ zeros n
all_zero n f h = listed-zero 1 n f (λ j low high. h j low (omega arith))

pub same_listed : (n : ℕ) (f g : ℕ → ℚ) → ((j : ℕ) → 1 ≤ j → j ≤ n → f j ≡ g j) →
    listed n f ≡ listed n g
same_listed n f g h = list_from-same 1 n f g (λ j low high. h j low (omega arith))

map_zero : {X : Type 0} (f : X → ℚ) (xs : List X) → All (λ x. f x ≡ zero_ℚ) xs →
    map f xs ≡ zeros (length xs)
map_zero f [] h = refl
map_zero f (x ∷ xs) h =
    ap₂ (λ a b. a ∷ b) (h 0 x (omega arith)) (map_zero f xs (λ k d l. h (suc k) d (omega arith)))

-- a map as a list of its places
pub mapped : {X : Type 0} (f : X → ℚ) (d : X) (xs : List X) →
    listed (length xs) (λ i. f (slice_index_or xs (i - 1) d)) ≡ map f xs
mapped f d xs =
    listed-is (length xs) (λ i. f (slice_index_or xs (i - 1) d)) (map f xs) (length-map xs f)
    (λ j low high. sym (get_or-map f xs (j - 1) d zero_ℚ (omega arith)))

map-list_from : (g : ℚ → ℚ) (k n : ℕ) (f : ℕ → ℚ) →
    map g (list_from k n f) ≡ list_from k n (λ j. g (f j))
map-list_from g k zero f = refl
map-list_from g k (suc n) f = ap (λ l. g (f k) ∷ l) (map-list_from g (suc k) n f)

parts : (u w n b : List ℚ) → u ++ ((w ++ n) ++ b) ≡ ((u ++ w) ++ n) ++ b
parts u w n b =
    sym (append_assoc u (w ++ n) b) ∙ ap (λ l. l ++ b) (sym (append_assoc u w n))

-- ---- the equations of the cone
module _ (cols q : ℕ) where
  -- an unknown has nothing in the equations of the columns
  member-low : (cone : Cone) (j k : ℕ) → 1 ≤ j → k ≤ cols → member cols cone j k ≡ zero_ℚ
  member-low Orthant j k low l = single_none (cols + j) one_ℚ k (omega arith)
  member-low (Gens vectors) j k low l = placed-low cols (column_of vectors j) k l
  member-low (Dual vectors) j k low l = single_none (cols + j) one_ℚ k (omega arith)

  after_w-low : (cone : Cone) (d k : ℕ) → 1 ≤ d → k ≤ cols → after_w cols cone d k ≡ zero_ℚ
  after_w-low Orthant d k low l = single_none (cols + d) (neg_ℚ one_ℚ) k (omega arith)
  after_w-low (Gens vectors) d k low l = single_none (cols + d) (neg_ℚ one_ℚ) k (omega arith)
  after_w-low (Dual vectors) d k low l = placed-low cols (negated (row_of vectors d)) k l

  placed-high : (xs : List ℚ) (n : ℕ) → length xs ≤ n → placed cols xs (suc (cols + n)) ≡ zero_ℚ
  placed-high xs n l =
      ap (placed cols xs) (let same : suc (cols + n) ≡ cols + suc n = omega arith in same)
      ∙ placed-at cols xs n ∙ get_or_past xs n zero_ℚ l

  -- nor in the last one
  member-high : (cone : Cone) (j : ℕ) → j ≤ q →
      member cols cone j (suc (cols + dual_equations q cone)) ≡ zero_ℚ
  member-high Orthant j high = single_none (cols + j) one_ℚ (suc (cols + q)) (omega arith)
  member-high (Gens vectors) j high =
      placed-high (column_of vectors j) (length vectors)
      (omega (arith, length-map vectors (λ r. entry r j)))
  member-high (Dual vectors) j high = single_none (cols + j) one_ℚ (suc (cols + q)) (omega arith)

  after_w-high : (cone : Cone) (d : ℕ) → IsWideCone q cone → 1 ≤ d → d ≤ dual_unknowns q cone →
      after_w cols cone d (suc (cols + dual_equations q cone)) ≡ zero_ℚ
  after_w-high Orthant d wide low high =
      single_none (cols + d) (neg_ℚ one_ℚ) (suc (cols + q)) (omega arith)
  after_w-high (Gens vectors) d wide low high =
      single_none (cols + d) (neg_ℚ one_ℚ) (suc (cols + length vectors)) (omega arith)
  after_w-high (Dual vectors) d wide low high =
      placed-high (negated (row_of vectors d)) q
      (let long : length (negated (row_of vectors d)) ≡ q =
      length-negated (row_of vectors d) q (row-wide q vectors d wide low high) in omega arith)

  -- a number at the place of an equation
  unit_number : (x : ℚ) (j i : ℕ) → single (cols + j) x (cols + i) ≡ (if j == i then x else zero_ℚ)
  unit_number x j i =
      elim (same_or_other j i) [
        | inl s ↦ single_same (cols + j) x (cols + i) (ap (λ k. cols + k) s.0)
            ∙ sym (ap (λ b. shown b x) s.1)
        | inr o ↦ single_none (cols + j) x (cols + i) (λ e. o.0 (omega (arith, e)))
            ∙ sym (ap (λ b. shown b x) o.1)
      ]

  pub units : (n i : ℕ) → listed n (λ j. single (cols + j) one_ℚ (cols + i)) ≡ unit n i
  units n i =
      same_listed n (λ j. single (cols + j) one_ℚ (cols + i)) (λ j. if j == i then one_ℚ else zero_ℚ)
      (λ j low high. unit_number one_ℚ j i)

  negative_units : (n i : ℕ) →
      listed n (λ d. single (cols + d) (neg_ℚ one_ℚ) (cols + i)) ≡ negated (unit n i)
  negative_units n i =
      same_listed n (λ d. single (cols + d) (neg_ℚ one_ℚ) (cols + i))
      (λ j. neg_ℚ (if j == i then one_ℚ else zero_ℚ))
      (λ j low high. unit_number (neg_ℚ one_ℚ) j i ∙ moved j)
      ∙ sym (map-list_from neg_ℚ 1 n (λ j. if j == i then one_ℚ else zero_ℚ))
    where
      moved : (j : ℕ) → (if j == i then neg_ℚ one_ℚ else zero_ℚ)
          ≡ neg_ℚ (if j == i then one_ℚ else zero_ℚ)
      moved j =
          elim (same_or_other j i) [
            | inl s ↦ ap (λ b. if b then neg_ℚ one_ℚ else zero_ℚ) s.1
                ∙ sym (ap (λ b. neg_ℚ (if b then one_ℚ else zero_ℚ)) s.1)
            | inr o ↦ ap (λ b. if b then neg_ℚ one_ℚ else zero_ℚ) o.1
                ∙ sym (ap (λ b. neg_ℚ (if b then one_ℚ else zero_ℚ)) o.1 ∙ neg-zero_ℚ)
          ]

  placed_number : (xs : List ℚ) (i : ℕ) → 1 ≤ i → placed cols xs (cols + i) ≡ entry xs i
  placed_number xs i low =
      ap (placed cols xs) (let same : cols + i ≡ cols + suc (i - 1) = omega arith in same)
      ∙ placed-at cols xs (i - 1)

  -- the equations of the cone
  member_row : (m : ℕ) (cone : Cone) (i : ℕ) → IsWideCone q cone → 1 ≤ i →
      i ≤ dual_equations q cone →
      on_parts (zeros m) (listed q (λ j. member cols cone j (cols + i)))
      (listed (dual_unknowns q cone) (λ d. after_w cols cone d (cols + i)))
      ≡ row_of (dual_members m q cone) i
  member_row m Orthant i wide low high =
      ap₂ (on_parts (zeros m)) (units q i) (negative_units q i)
      ∙ sym (listed-place q (λ g. on_parts (zeros m) (unit q g) (negated (unit q g))) i [] low high)
  member_row m (Gens vectors) i wide low high =
      let n : ℕ = length vectors in
      ap₂ (on_parts (zeros m))
      (listed-is q (λ j. member cols (Gens vectors) j (cols + i)) (row_of vectors i)
      (row-wide q vectors i wide low high)
      (λ j from_one to_end. placed_number (column_of vectors j) i low
      ∙ column_entry vectors j (i - 1) (omega arith)))
      (negative_units n i)
      ∙ sym (listed-place n (λ g. on_parts (zeros m) (row_of vectors g) (negated (unit n g))) i [] low high)
  member_row m (Dual vectors) i wide low high =
      let n : ℕ = length vectors in
      ap₂ (on_parts (zeros m)) (units q i)
      (listed-is n (λ d. after_w cols (Dual vectors) d (cols + i)) (negated (column_of vectors i))
      (length-negated (column_of vectors i) n (length-map vectors (λ r. entry r i)))
      (λ d from_one to_end. placed_number (negated (row_of vectors d)) i low
      ∙ get_or-map neg_ℚ (row_of vectors d) (i - 1) zero_ℚ zero_ℚ
      (let long : length (row_of vectors d) ≡ q = row-wide q vectors d wide from_one to_end in omega arith)
      ∙ ap neg_ℚ (sym (column_entry vectors i (d - 1) (omega arith)))
      ∙ sym (get_or-map neg_ℚ (column_of vectors i) (d - 1) zero_ℚ zero_ℚ
      (omega (arith, length-map vectors (λ r. entry r i))))))
      ∙ sym (listed-place q (λ g. on_parts (zeros m) (unit q g) (negated (column_of vectors g))) i [] low high)

-- ---- the equations of the program
module _ {F : Type 0} (value : F → ℚ) (file : Problem) (form : Data F) (c : List F)
    (stands : IsDataOf value file form) (c_long : length c ≡ length form.p) where
  abbrev m : ℕ
  m = length form.sides

  abbrev q : ℕ
  q = length form.p

  abbrev cone : Cone
  cone = cone_of value form.cone

  abbrev extra : ℕ
  extra = dual_equations q cone

  abbrev more : ℕ
  more = dual_unknowns q cone

  -- what the sides have in equation k
  abbrev pub side_row : ℕ → List ℚ
  side_row k = map (λ s. sum_at (entries value s.g) k) form.sides

  abbrev row : ℕ → List ℚ
  row k = on_parts (side_row k) (weight_row value form c k) (row_after_w value form k)

  wide : IsWideCone q cone
  wide =
      subst (λ (k : ℕ). IsWideCone k cone) (sym (objective_number value file form stands))
      (subst (IsWideCone file.objs) (sym stands.cone)
      (cone_wide file.objs file.cone file.cone_vectors))

  pub side-zero : (k : ℕ) → form.cols < k → side_row k ≡ zeros m
  side-zero k over =
      map_zero (λ s. sum_at (entries value s.g) k) form.sides
      (λ i d l. sum_at-above form.cols 0 (entries value (slice_index_or form.sides i d).g) k
      (places_rise value form.cols 0 (slice_index_or form.sides i d).g
      (passes_at (λ s. are_places form.cols 0 s.g) form.sides i d form.side_places l)) over)

  pub objective-zero : (j k : ℕ) → 1 ≤ j → j ≤ q → form.cols < k →
      neg_ℚ (sum_at (entries value (slice_index_or form.p (j - 1) [])) k) ≡ zero_ℚ
  objective-zero j k low high over =
      ap neg_ℚ (sum_at-above form.cols 0 (entries value (slice_index_or form.p (j - 1) [])) k
      (places_rise value form.cols 0 (slice_index_or form.p (j - 1) [])
      (passes_at (are_places form.cols 0) form.p (j - 1) [] form.objective_places (omega arith))) over)
      ∙ neg-zero_ℚ

  -- the equations of the columns
  first_row : (k : ℕ) → 1 ≤ k → k ≤ form.cols →
      row k ≡ on_parts (side_column file k) (negated (objective_column file k)) (zeros more)
  first_row k low high =
      ap₂ (λ u w. on_parts u w (row_after_w value form k))
      (side_column_is value file form stands k low high)
      (same_listed q (λ i. weight_entry value form c i k)
      (λ i. neg_ℚ (sum_at (entries value (slice_index_or form.p (i - 1) [])) k))
      (λ i from_one to_end.
      ap₂ (λ a b. (neg_ℚ (sum_at (entries value (slice_index_or form.p (i - 1) [])) k) +ℚ a) +ℚ b)
      (member-low form.cols q cone i k from_one high)
      (single_none (benson_equations value form) (entry (map value c) i) k (omega arith))
      ∙ add-zero_ℚ (neg_ℚ (sum_at (entries value (slice_index_or form.p (i - 1) [])) k) +ℚ zero_ℚ)
      ∙ add-zero_ℚ (neg_ℚ (sum_at (entries value (slice_index_or form.p (i - 1) [])) k)))
      ∙ mapped (λ r. neg_ℚ (sum_at (entries value r) k)) [] form.p
      ∙ objective_column_is value file form stands k low high)
      ∙ ap (on_parts (side_column file k) (negated (objective_column file k)))
      (all_zero more (λ d. after_w form.cols cone d k)
      (λ d from_one to_end. after_w-low form.cols q cone d k from_one high))

  -- those of the cone
  middle_row : (i : ℕ) → 1 ≤ i → i ≤ extra →
      row (form.cols + i) ≡ row_of (dual_members m q cone) i
  middle_row i low high =
      let k : ℕ = form.cols + i in
      ap₂ (λ u w. on_parts u w (row_after_w value form k)) (side-zero k (omega arith))
      (same_listed q (λ j. weight_entry value form c j k) (λ j. member form.cols cone j k)
      (λ j from_one to_end.
      ap₂ (λ a b. (a +ℚ member form.cols cone j k) +ℚ b)
      (objective-zero j k from_one to_end (omega arith))
      (single_none (benson_equations value form) (entry (map value c) j) k (omega arith))
      ∙ add-zero_ℚ (zero_ℚ +ℚ member form.cols cone j k)
      ∙ zero-add_ℚ (member form.cols cone j k)))
      ∙ member_row form.cols q m cone i wide low high

  -- the last one
  last_row : row (suc (form.cols + extra)) ≡ on_parts (zeros m) (map value c) (zeros more)
  last_row =
      let k : ℕ = suc (form.cols + extra) in
      ap₂ (λ u w. on_parts u w (row_after_w value form k)) (side-zero k (omega arith))
      (listed-is q (λ j. weight_entry value form c j k) (map value c) (length-map c value ∙ c_long)
      (λ j from_one to_end.
      ap₂ (λ a b. (a +ℚ b) +ℚ single k (entry (map value c) j) k)
      (objective-zero j k from_one to_end (omega arith)) (member-high form.cols q cone j to_end)
      ∙ ap₂ (λ a b. a +ℚ b) (add-zero_ℚ zero_ℚ) (single_same k (entry (map value c) j) k refl)
      ∙ zero-add_ℚ (entry (map value c) j)))
      ∙ ap (on_parts (zeros m) (map value c))
      (all_zero more (λ d. after_w form.cols cone d k)
      (λ d from_one to_end. after_w-high form.cols q cone d wide from_one to_end))

  abbrev front : Table
  front = listed form.cols
      (λ j. on_parts (side_column file j) (negated (objective_column file j)) (zeros more))

  abbrev equations : Table
  equations = (front ++ dual_members m q cone)
      ++ on_parts (zeros m) (map value c) (zeros more) ∷ []

  length-members : (n k : ℕ) (any : Cone) → length (dual_members n k any) ≡ dual_equations k any
  length-members n k Orthant =
      length-list_from 1 k (λ i. on_parts (zeros n) (unit k i) (negated (unit k i)))
  length-members n k (Gens vectors) =
      length-list_from 1 (length vectors)
      (λ g. on_parts (zeros n) (row_of vectors g) (negated (unit (length vectors) g)))
  length-members n k (Dual vectors) =
      length-list_from 1 k (λ i. on_parts (zeros n) (unit k i) (negated (column_of vectors i)))

  front-long : length front ≡ form.cols
  front-long =
      length-list_from 1 form.cols
      (λ j. on_parts (side_column file j) (negated (objective_column file j)) (zeros more))

  both-long : length (front ++ dual_members m q cone) ≡ form.cols + extra
  both-long =
      omega (arith, length-append front (dual_members m q cone), front-long, length-members m q cone)

  row_is : (k : ℕ) → 1 ≤ k → k ≤ benson_equations value form → row k ≡ row_of equations k
  row_is k low high = by_place (cases_lt form.cols k)
    where
      last : List ℚ
      last = on_parts (zeros m) (map value c) (zeros more)

      after_columns : form.cols < k → (extra < k - form.cols) ⊎ (k - form.cols ≤ extra) →
          row k ≡ row_of equations k
      after_columns over (inr inside) =
          let i : ℕ = k - form.cols in
          let place : k ≡ form.cols + i = omega arith in
          let from_one : 1 ≤ i = omega arith in
          ap row place ∙ middle_row i from_one inside
          ∙ sym (get_or_append_left (front ++ dual_members m q cone)
          (on_parts (zeros m) (map value c) (zeros more) ∷ []) [] (k - 1) (omega (arith, both-long))
          ∙ get_or-append_right front (dual_members m q cone) form.cols (k - 1) [] front-long (omega arith)
          ∙ ap (λ j. slice_index_or (dual_members m q cone) j [])
          (let same : k - 1 - form.cols ≡ i - 1 = omega arith in same))
      after_columns over (inl past) =
          let place : k ≡ suc (form.cols + extra) = omega arith in
          ap row place ∙ last_row
          ∙ sym (get_or-append_right (front ++ dual_members m q cone)
          (on_parts (zeros m) (map value c) (zeros more) ∷ []) (form.cols + extra) (k - 1) []
          both-long (omega arith)
          ∙ ap (λ j. slice_index_or (on_parts (zeros m) (map value c) (zeros more) ∷ []) j [])
          (let same : k - 1 - (form.cols + extra) ≡ 0 = omega arith in same))

      by_place : (form.cols < k) ⊎ (k ≤ form.cols) → row k ≡ row_of equations k
      by_place (inl over) = after_columns over (cases_lt extra (k - form.cols))
      by_place (inr inside) =
          first_row k low inside
          ∙ sym (get_or_append_left (front ++ dual_members m q cone)
          (on_parts (zeros m) (map value c) (zeros more) ∷ []) [] (k - 1) (omega (arith, both-long))
          ∙ get_or_append_left front (dual_members m q cone) [] (k - 1) (omega (arith, front-long))
          ∙ listed-place form.cols
          (λ j. on_parts (side_column file j) (negated (objective_column file j)) (zeros more))
          k [] low inside)

  -- the equations are those of the file
  equations_are : (v : List ℚ) (t : _) →
      equations ≡ (benson_system file (map value c) v t).equations
  equations_are v t =
      let m_is : m ≡ side_total file = side_number value file form stands in
      let q_is : q ≡ file.objs = objective_number value file form stands in
      let more_is : more ≡ dual_unknowns file.objs file.cone = ap₂ dual_unknowns q_is stands.cone in
      ap₂ (λ a b. a ++ b)
      (ap₂ (λ a b. a ++ b)
      (ap₂ (λ n k. listed n
      (λ j. on_parts (side_column file j) (negated (objective_column file j)) (zeros k)))
      stands.cols more_is)
      (ap (λ n. dual_members n q cone) m_is ∙ ap₂ (dual_members (side_total file)) q_is stands.cone))
      (ap₂ (λ n k. on_parts (zeros n) (map value c) (zeros k) ∷ []) m_is more_is)

  -- the numbers of the columns in equation k
  pub benson_row : (others : List (List (Spot F))) (v : List ℚ) (t : _) (k : ℕ) →
      ((j : ℕ) → across value j others
      ≡ (weight_row value form c j ++ negated (weight_row value form c j)) ++ row_after_w value form j) →
      1 ≤ k → k ≤ benson_equations value form →
      across value k (map (λ s. s.g) form.sides ++ others)
      ≡ row_of (benson_system file (map value c) v t).equations k
  benson_row others v t k numbers low high =
      map-append (λ spots. sum_at (entries value spots) k) (map (λ s. s.g) form.sides) others
      ∙ ap₂ (λ a b. a ++ b)
      (map-map (λ spots. sum_at (entries value spots) k) (λ s. s.g) form.sides) (numbers k)
      ∙ parts (side_row k) (weight_row value form c k) (negated (weight_row value form c k))
      (row_after_w value form k)
      ∙ row_is k low high ∙ ap (λ rows. row_of rows k) (equations_are v t)

-- how many columns there are
pub others_long : {F : Type 0} (value : F → ℚ) (form : Data F) (c : List F)
    (others : List (List (Spot F))) → AreOthers value form c others → length others
    ≡ length form.p + length form.p + dual_unknowns (length form.p) (cone_of value form.cone)
others_long value form c others h =
    let w : List ℚ = weight_row value form c 0 in
    let b : List ℚ = row_after_w value form 0 in
    let w_long : length w ≡ length form.p =
    length-list_from 1 (length form.p) (λ i. weight_entry value form c i 0) in
    let b_long : length b ≡ dual_unknowns (length form.p) (cone_of value form.cone) =
    length-list_from 1 (dual_unknowns (length form.p) (cone_of value form.cone))
    (λ d. after_w form.cols (cone_of value form.cone) d 0) in
    sym (length-map others (λ spots. sum_at (entries value spots) 0)) ∙ ap length (h.numbers 0)
    ∙ omega (
      arith,
      length-append (w ++ negated w) b,
      length-append w (negated w),
      length-map w neg_ℚ,
      w_long,
      b_long,
    )
