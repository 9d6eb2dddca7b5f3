-- Products with columns that are given by their entries, and multiples of them.
use Rattle.std.proofs.Common.{◌≡◌, ◌≢◌, ℕ, zero, suc, List, [], ◌∷◌, length, map, drop, refl, sym, ap, ap₂, ◌∙◌, subst, arith, ◌<◌, ◌≤◌, ◌-◌, ◌+◌, inl, inr, ◌⊎◌, Bool, true, false, nat_eq, slice_index_or, slice_set, get_or-set_same, get_or-set_other}
use Rattle.std.specs.Prelude.{if◌then◌else◌}
use Rattle.std.proofs.lemmas.Bool.{cases_eq}
use Rattle.std.proofs.lemmas.List.{drop_all, drop_more, length-map, length-set, map-set}
use Rattle.exact_field.specs.Rational.{ℚ, zero_ℚ, one_ℚ, ◌+ℚ◌, ◌*ℚ◌}
use Rattle.exact_field.specs.Vector.{entry, dot}
use Rattle.exact_field.proofs.Rationals.{add-zero_ℚ, add_assoc_ℚ, mul-add_ℚ, mul-zero_ℚ, mul-one_ℚ, zero-add_ℚ, zero-mul_ℚ}
use Rattle.polyhedra.specs.Sparse.{Entry}
use Rattle.polyhedra.specs.Vectors.{plus, scaled, zeros}
use Rattle.polyhedra.proofs.Linear.{dot_comm, dot-plus, dot-scaled, dot-zeros, length-plus, length-scaled}
use Rattle.tableaux.specs.Table.{list_from, listed, unit}
use Rattle.tableaux.proofs.Definition.{slice_eq, unit_entry}
use Rattle.tableaux.proofs.Places.{delta, delta-other, delta-same, entry-plus, entry-scaled, length-list_from, listed-is, listed-place, same_or_other}
use Rattle.tableaux.proofs.Unique.{dot-unit}
use Rattle.lin_rows.specs.Lines.{Rises, entries, entry_of, sum_at}
use Rattle.lin_rows.specs.declared.spots.Spot.{Spot}
use Rattle.lin_rows.proofs.Merging.{not_same, shown}
use Rattle.lp_form.specs.Shapes.{are_places}
use Rattle.lp_form.proofs.Figures.{places_rise}
use Rattle.program_columns.specs.Columns.{filled}

same_true : (a b : ℕ) → a ≡ b → nat_eq a b ≡ true
same_true a b e = elim (same_or_other a b) [ inl s ↦ s.1 | inr o ↦ absurd (o.0 e) ]

-- ---- products
-- the entries, each times the number at its place
abbrev pub weighed : List Entry → List ℚ → ℚ
weighed [] y = zero_ℚ
weighed (e ∷ es) y = e.value *ℚ entry y e.place +ℚ weighed es y

list_from-plus : (k n : ℕ) (f g : ℕ → ℚ) →
    list_from k n (λ j. f j +ℚ g j) ≡ plus (list_from k n f) (list_from k n g)
list_from-plus k zero f g = refl
list_from-plus k (suc n) f g = ap (λ l. (f k +ℚ g k) ∷ l) (list_from-plus (suc k) n f g)

list_from-zero : (k n : ℕ) → list_from k n (λ j. zero_ℚ) ≡ zeros n
list_from-zero k zero = refl
list_from-zero k (suc n) = ap (λ l. zero_ℚ ∷ l) (list_from-zero (suc k) n)

-- a number at one place
pub one_place : (n p : ℕ) (x : ℚ) → listed n (λ j. shown (nat_eq p j) x) ≡ scaled x (unit n p)
one_place n p x =
    listed-is n (λ j. shown (nat_eq p j) x) (scaled x (unit n p))
    (length-scaled x (unit n p) ∙ length-list_from 1 n (λ j. delta j p))
    (λ j l u. each j (same_or_other p j)
    ∙ sym (entry-scaled x (unit n p) j ∙ ap (λ q. x *ℚ q) (unit_entry n p j l u)))
  where
    each : (j : ℕ) → ((p ≡ j) × (nat_eq p j ≡ true)) ⊎ ((p ≢ j) × (nat_eq p j ≡ false)) →
        shown (nat_eq p j) x ≡ x *ℚ delta p j
    each j (inl s) =
        ap (λ b. shown b x) s.1 ∙ sym (ap (λ q. x *ℚ q) (delta-same p j s.0) ∙ mul-one_ℚ x)
    each j (inr o) =
        ap (λ b. shown b x) o.1 ∙ sym (ap (λ q. x *ℚ q) (delta-other p j o.0) ∙ mul-zero_ℚ x)

pub weighed_is : (n low : ℕ) (es : List Entry) (y : List ℚ) → length y ≡ n → Rises n low es →
    weighed es y ≡ dot y (listed n (sum_at es))
weighed_is n low [] y l h = sym (ap (dot y) (list_from-zero 1 n) ∙ dot-zeros y n)
weighed_is n low (e ∷ es) y l h =
    let first : low < e.place = h.0 in
    let last : e.place ≤ n = h.1 in
    let own : List ℚ = listed n (λ j. shown (nat_eq e.place j) e.value) in
    let product : dot y own ≡ e.value *ℚ entry y e.place =
    ap (dot y) (one_place n e.place e.value) ∙ dot-scaled y e.value (unit n e.place)
    ∙ ap (λ q. e.value *ℚ q) (dot_comm y (unit n e.place)
    ∙ dot-unit n e.place y (omega arith) last) in
    ap₂ (λ a b. a +ℚ b) (sym product) (weighed_is n e.place es y l h.2)
    ∙ sym (ap (dot y) (list_from-plus 1 n (λ j. shown (nat_eq e.place j) e.value) (sum_at es))
    ∙ dot-plus y own (listed n (sum_at es)))

module _ {F : Type 0} (value : F → ℚ) where
  -- one spot more
  pub weighed_more : (spots : List (Spot F)) (i : ℕ) (spot : Spot F) (y : List ℚ)
      (all old new : ℚ) → i < length spots → spot ≡ slice_index_or spots i spot →
      new ≡ old +ℚ value spot.value *ℚ entry y spot.at →
      old +ℚ weighed (entries value (drop i spots)) y ≡ all →
      new +ℚ weighed (entries value (drop (i + 1) spots)) y ≡ all
  weighed_more spots i spot y all old new l is step kept =
      let rest : ℚ = weighed (entries value (drop (i + 1) spots)) y in
      ap (λ q. q +ℚ rest) step
      ∙ add_assoc_ℚ old (value spot.value *ℚ entry y spot.at) rest
      ∙ ap (λ cs. old +ℚ weighed (entries value cs) y)
      (sym (drop_more spots i spot l ∙ ap (λ c. c ∷ drop (i + 1) spots) (sym is)))
      ∙ kept

  -- all spots are taken
  pub weighed_end : (spots : List (Spot F)) (i : ℕ) (y : List F) (total : ℚ) →
      length spots ≤ i → are_places (length y) 0 spots ≡ true →
      total +ℚ weighed (entries value (drop i spots)) (map value y)
      ≡ weighed (entries value spots) (map value y) →
      total ≡ dot (map value y) (filled value (length y) spots)
  weighed_end spots i y total l places kept =
      sym (add-zero_ℚ total)
      ∙ ap (λ cs. total +ℚ weighed (entries value cs) (map value y)) (sym (drop_all i spots l))
      ∙ kept
      ∙ weighed_is (length y) 0 (entries value spots) (map value y) (length-map y value)
      (places_rise value (length y) 0 spots places)

  -- ---- multiples
  -- what is still to be added makes the new numbers x times the column more than the first ones
  pub record AreAdded (x : ℚ) (all rest : List Entry) (first now : List ℚ) : Type 0 where
    pub long : length now ≡ length first
    pub sums : (j : ℕ) → 1 ≤ j →
        entry now j +ℚ x *ℚ sum_at rest j ≡ entry first j +ℚ x *ℚ sum_at all j

  added_at : (a x v t : ℚ) → (a +ℚ x *ℚ v) +ℚ x *ℚ t ≡ a +ℚ x *ℚ (v +ℚ t)
  added_at a x v t = add_assoc_ℚ a (x *ℚ v) (x *ℚ t) ∙ ap (λ q. a +ℚ q) (sym (mul-add_ℚ x v t))

  pub added_more : (x : ℚ) (spots : List (Spot F)) (i : ℕ) (spot : Spot F) (first : List ℚ)
      (ts : List F) (old new : F) → i < length spots → spot ≡ slice_index_or spots i spot →
      1 ≤ spot.at → spot.at ≤ length ts → value old ≡ entry (map value ts) spot.at →
      value new ≡ value old +ℚ x *ℚ value spot.value →
      AreAdded x (entries value spots) (entries value (drop i spots)) first (map value ts) →
      AreAdded x (entries value spots) (entries value (drop (i + 1) spots)) first
      (map value (slice_set ts (spot.at - 1) new))
  added_more x spots i spot first ts old new l is low high at_old step kept =
      let rest : List Entry = entries value (drop (i + 1) spots) in
      let now : List ℚ = map value (slice_set ts (spot.at - 1) new) in
      let split : entries value (drop i spots) ≡ entry_of value spot ∷ rest =
      ap (entries value) (drop_more spots i spot l ∙ ap (λ c. c ∷ drop (i + 1) spots) (sym is)) in
      let sets : now ≡ slice_set (map value ts) (spot.at - 1) (value new) =
      map-set value ts (spot.at - 1) new in
      let inside : spot.at - 1 < length (map value ts) = omega (arith, length-map ts value) in
      record {
        long = length-map (slice_set ts (spot.at - 1) new) value
            ∙ length-set ts (spot.at - 1) new ∙ sym (length-map ts value) ∙ kept.long;
        sums = λ j from_one.
            by_place j from_one rest now sets inside (cases_eq spot.at j)
            ∙ ap (λ es. entry (map value ts) j +ℚ x *ℚ sum_at es j) (sym split)
            ∙ kept.sums j from_one;
      }
    where
      by_place : (j : ℕ) → 1 ≤ j → (rest : List Entry) (now : List ℚ) →
          now ≡ slice_set (map value ts) (spot.at - 1) (value new) →
          spot.at - 1 < length (map value ts) → (spot.at ≡ j) ⊎ (spot.at ≡ j → ⊥) →
          entry now j +ℚ x *ℚ sum_at rest j
          ≡ entry (map value ts) j +ℚ x *ℚ sum_at (entry_of value spot ∷ rest) j
      by_place j from_one rest now sets inside (inl same) =
          let here : entry now j ≡ entry (map value ts) j +ℚ x *ℚ value spot.value =
          ap (λ v. entry v j) sets ∙ ap (λ k. slice_index_or (slice_set (map value ts) k (value new)) (j - 1) zero_ℚ) (ap (λ a. a - 1) same)
          ∙ get_or-set_same (map value ts) (j - 1) (value new) zero_ℚ (omega (arith, inside, same))
          ∙ step ∙ ap (λ q. q +ℚ x *ℚ value spot.value)
          (at_old ∙ ap (entry (map value ts)) same) in
          ap (λ q. q +ℚ x *ℚ sum_at rest j) here
          ∙ added_at (entry (map value ts) j) x (value spot.value) (sum_at rest j)
          ∙ ap (λ b. entry (map value ts) j +ℚ x *ℚ (shown b (value spot.value) +ℚ sum_at rest j))
          (sym (same_true spot.at j same))
      by_place j from_one rest now sets inside (inr other) =
          ap₂ (λ a b. a +ℚ x *ℚ b)
          (ap (λ v. entry v j) sets
          ∙ get_or-set_other (map value ts) (spot.at - 1) (j - 1) (value new) zero_ℚ (λ e. other (omega (arith, e))))
          (sym (ap (λ b. shown b (value spot.value) +ℚ sum_at rest j) (not_same spot.at j other)
          ∙ zero-add_ℚ (sum_at rest j)))

  pub added_none : (x : ℚ) (es : List Entry) (first : List ℚ) → AreAdded x es es first first
  added_none x es first = record { long = refl; sums = λ j l. refl }

  -- nothing is left to be added
  pub added_end : (x : ℚ) (spots : List (Spot F)) (rest : List Entry) (ts : List F)
      (now : List ℚ) → ((j : ℕ) → x *ℚ sum_at rest j ≡ zero_ℚ) →
      AreAdded x (entries value spots) rest (map value ts) now →
      now ≡ plus (map value ts) (scaled x (filled value (length ts) spots))
  added_end x spots rest ts now none kept =
      let n : ℕ = length ts in
      let first : List ℚ = map value ts in
      let column : List ℚ = filled value n spots in
      let total : List ℚ = plus first (scaled x column) in
      let first_long : length first ≡ n = length-map ts value in
      let long : length (scaled x column) ≡ n =
      length-scaled x column ∙ length-list_from 1 n (sum_at (entries value spots)) in
      slice_eq now total
      (kept.long ∙ first_long ∙ sym (length-plus n first (scaled x column) first_long long))
      (λ k l.
      let inside : 1 + k ≤ n = omega (arith, l, kept.long, first_long) in
      ap (λ i. slice_index_or now i zero_ℚ) (sym (next k))
      ∙ sym (add-zero_ℚ (entry now (1 + k)))
      ∙ ap (λ q. entry now (1 + k) +ℚ q) (sym (none (1 + k)))
      ∙ kept.sums (1 + k) (omega arith)
      ∙ ap (λ q. entry first (1 + k) +ℚ x *ℚ q)
      (sym (listed-place n (sum_at (entries value spots)) (1 + k) zero_ℚ (omega arith) inside))
      ∙ ap (λ q. entry first (1 + k) +ℚ q) (sym (entry-scaled x column (1 + k)))
      ∙ sym (entry-plus first (scaled x column) (1 + k))
      ∙ ap (λ i. slice_index_or total i zero_ℚ) (next k))
    where
      next : (k : ℕ) → 1 + k - 1 ≡ k
      next k = omega arith
