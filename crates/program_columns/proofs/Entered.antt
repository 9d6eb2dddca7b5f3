-- Columns as they are written, entry by entry.
use Rattle.std.proofs.Common.{◌≡◌, ◌≢◌, ℕ, zero, suc, List, [], ◌∷◌, ◌++◌, length, map, take, min, All, refl, sym, ap, ap₂, ◌∙◌, subst, arith, ◌<◌, ◌≤◌, ◌-◌, ◌+◌, inl, inr, ◌⊎◌, Bool, true, false, IsTrue, nat_eq, nat_le, nat_lt, slice_index_or}
use Rattle.std.specs.Prelude.{◌&&◌, if◌then◌else◌}
use Rattle.std.specs.List.{list_all}
use Rattle.std.proofs.lemmas.Bool.{le-leb, leb-true, lt-ltb, ltb-true}
use Rattle.std.proofs.lemmas.List.{append-nil, append_assoc, get_or-map, length-map, length-take, length-take-le, map_push, take-append-le, take_more}
use Rattle.exact_field.specs.Rational.{ℚ, zero_ℚ, ◌+ℚ◌, neg_ℚ}
use Rattle.exact_field.specs.Vector.{entry}
use Rattle.exact_field.proofs.Rationals.{add-zero_ℚ, add_assoc_ℚ, neg-add_ℚ, neg-zero_ℚ, zero-add_ℚ}
use Rattle.polyhedra.specs.Negatives.{negated}
use Rattle.polyhedra.specs.Sparse.{Entry}
use Rattle.polyhedra.specs.Vectors.{zeros}
use Rattle.polyhedra.proofs.Negatives.{negated_twice, negated-zeros}
use Rattle.polyhedra.proofs.Tests.{both_true}
use Rattle.tableaux.specs.Table.{artificial_sign}
use Rattle.tableaux.proofs.Places.{same_or_other}
use Rattle.lin_rows.specs.Clear.{Writes}
use Rattle.lin_rows.specs.Lines.{Rises, entries, entry_of, last_place, sum_at}
use Rattle.lin_rows.specs.declared.spots.Spot.{Spot}
use Rattle.lin_rows.proofs.Merging.{not_same, shown, sum_at-below, written_last, written_rises, written_sum, rises-wider, last_within}
use Rattle.lp_form.specs.Programs.{on_parts}
use Rattle.lp_form.specs.Shapes.{are_places}
use Rattle.lp_form.proofs.Figures.{places_rise}
use Rattle.program_columns.specs.Entries.{AreAppended, IsLineWith, IsLonger, across, negatives, placed, single, unit_entries}

-- ---- places
pub sum_at-above : (n low : ℕ) (es : List Entry) (k : ℕ) → Rises n low es → n < k →
    sum_at es k ≡ zero_ℚ
sum_at-above n low [] k h l = refl
sum_at-above n low (e ∷ es) k h l =
    let inside : e.place ≤ n = h.1 in
    let other : e.place ≢ k = omega arith in
    ap₂ (λ b q. shown b e.value +ℚ q) (not_same e.place k other)
    (sum_at-above n e.place es k h.2 l) ∙ add-zero_ℚ zero_ℚ

module _ {F : Type 0} (value : F → ℚ) where
  pub places_of : (n low : ℕ) (spots : List (Spot F)) → Rises n low (entries value spots) →
      are_places n low spots ≡ true
  places_of n low [] h = refl
  places_of n low (c ∷ spots) h =
      let above : low < c.at = h.0 in
      let inside : c.at ≤ n = h.1 in
      ap₂ (λ a b. a && b) (lt-ltb low c.at above)
      (ap₂ (λ a b. a && b) (le-leb c.at n inside) (places_of n c.at spots h.2))

pub places_wider : {F : Type 0} (n m low : ℕ) (spots : List (Spot F)) → n ≤ m →
    are_places n low spots ≡ true → are_places m low spots ≡ true
places_wider n m low [] l h = refl
places_wider n m low (c ∷ spots) l h =
    let first = both_true (nat_lt low c.at) (nat_le c.at n && are_places n c.at spots) h in
    let second = both_true (nat_le c.at n) (are_places n c.at spots) first.1 in
    let inside : c.at ≤ n = leb-true c.at n second.0 in
    ap₂ (λ a b. a && b) first.0
    (ap₂ (λ a b. a && b) (le-leb c.at m (omega arith)) (places_wider n m c.at spots l second.1))

-- ---- negatives
pub sum_at-negatives : (es : List Entry) (k : ℕ) → sum_at (negatives es) k ≡ neg_ℚ (sum_at es k)
sum_at-negatives [] k = sym neg-zero_ℚ
sum_at-negatives (e ∷ es) k =
    ap₂ (λ a b. a +ℚ b) (moved (nat_eq e.place k)) (sum_at-negatives es k)
    ∙ sym (neg-add_ℚ (shown (nat_eq e.place k) e.value) (sum_at es k))
  where
    moved : (b : Bool) → shown b (neg_ℚ e.value) ≡ neg_ℚ (shown b e.value)
    moved true = refl
    moved false = sym neg-zero_ℚ

pub rises-negatives : (n low : ℕ) (es : List Entry) → Rises n low es → Rises n low (negatives es)
rises-negatives n low [] h = tt
rises-negatives n low (e ∷ es) h = (h.0, h.1, rises-negatives n e.place es h.2)

-- ---- numbers at places after others
single_other : (place : ℕ) (x : ℚ) (k : ℕ) → place ≢ k → single place x k ≡ zero_ℚ
single_other place x k o = ap (λ b. shown b x) (not_same place k o)

pub single_same : (place : ℕ) (x : ℚ) (k : ℕ) → place ≡ k → single place x k ≡ x
single_same place x k e =
    elim (same_or_other place k) [ inl s ↦ ap (λ b. shown b x) s.1 | inr o ↦ absurd (o.0 e) ]

pub single_none : (place : ℕ) (x : ℚ) (k : ℕ) → place ≢ k → single place x k ≡ zero_ℚ
single_none place x k o = single_other place x k o

placed-push : (base : ℕ) (xs : List ℚ) (x : ℚ) (k : ℕ) →
    placed base (xs ++ x ∷ []) k ≡ placed base xs k +ℚ single (base + length xs + 1) x k
placed-push base [] x k =
    let same : suc base ≡ base + 0 + 1 = omega arith in
    add-zero_ℚ (single (suc base) x k) ∙ ap (λ p. single p x k) same
    ∙ sym (zero-add_ℚ (single (base + 0 + 1) x k))
placed-push base (y ∷ xs) x k =
    let same : suc base + length xs + 1 ≡ base + suc (length xs) + 1 = omega arith in
    ap (λ q. single (suc base) y k +ℚ q)
    (placed-push (suc base) xs x k
    ∙ ap (λ p. placed (suc base) xs k +ℚ single p x k) same)
    ∙ sym (add_assoc_ℚ (single (suc base) y k) (placed (suc base) xs k)
    (single (base + suc (length xs) + 1) x k))

pub placed-low : (base : ℕ) (xs : List ℚ) (k : ℕ) → k ≤ base → placed base xs k ≡ zero_ℚ
placed-low base [] k l = refl
placed-low base (x ∷ xs) k l =
    let other : suc base ≢ k = omega arith in
    ap₂ (λ a b. a +ℚ b) (single_other (suc base) x k other)
    (placed-low (suc base) xs k (omega arith)) ∙ add-zero_ℚ zero_ℚ

pub placed-at : (base : ℕ) (xs : List ℚ) (i : ℕ) →
    placed base xs (base + suc i) ≡ slice_index_or xs i zero_ℚ
placed-at base [] i = refl
placed-at base (x ∷ xs) zero =
    let same : suc base ≡ base + 1 = omega arith in
    ap₂ (λ a b. a +ℚ b) (single_same (suc base) x (base + 1) same)
    (placed-low (suc base) xs (base + 1) (omega arith)) ∙ add-zero_ℚ x
placed-at base (x ∷ xs) (suc i) =
    let other : suc base ≢ base + suc (suc i) = omega arith in
    let same : base + suc (suc i) ≡ suc base + suc i = omega arith in
    ap₂ (λ a b. a +ℚ b) (single_other (suc base) x (base + suc (suc i)) other)
    (ap (placed (suc base) xs) same ∙ placed-at (suc base) xs i)
    ∙ zero-add_ℚ (slice_index_or xs i zero_ℚ)

-- ---- sparse rows that grow
pub longer_none : (n top : ℕ) (es : List Entry) → Rises n 0 es → last_place 0 es ≤ top →
    IsLonger n top (placed top []) es es
longer_none n top es h l =
    record { rises = h; last = l; sums = λ k. sym (add-zero_ℚ (sum_at es k)) }

pub longer_by : (n place : ℕ) (x : ℚ) (old new : List Entry) → Writes place x old new →
    Rises n 0 old → last_place 0 old < place → place ≤ n → IsLonger n place (single place x) old new
longer_by n place x old new w h l u = record {
  rises = written_rises n place x old new w h l u;
  last = written_last place x old new w l;
  sums = λ k. written_sum place x old new k w;
}

-- one number of a list more
pub longer_more : (n base i place : ℕ) (xs : List ℚ) (x : ℚ) (first old new : List Entry) →
    i < length xs → x ≡ slice_index_or xs i zero_ℚ → place ≡ base + i + 1 → place ≤ n →
    IsLonger n (base + i) (placed base (take i xs)) first old → Writes place x old new →
    IsLonger n (base + (i + 1)) (placed base (take (i + 1) xs)) first new
longer_more n base i place xs x first old new inside is at high h w =
    let step : IsLonger n place (single place x) old new =
    longer_by n place x old new w h.rises (omega (arith, h.last)) high in
    let top : place ≡ base + (i + 1) = omega arith in
    let count : length (take i xs) ≡ i = length-take-le i xs (omega arith) in
    let here : place ≡ base + length (take i xs) + 1 = omega arith in
    record {
      rises = step.rises;
      last = omega (arith, step.last);
      sums = λ k.
          step.sums k ∙ ap (λ q. q +ℚ single place x k) (h.sums k)
          ∙ add_assoc_ℚ (sum_at first k) (placed base (take i xs) k) (single place x k)
          ∙ ap (λ q. sum_at first k +ℚ q)
          (ap (λ p. placed base (take i xs) k +ℚ single p x k) here
          ∙ sym (placed-push base (take i xs) x k)
          ∙ ap (λ ys. placed base ys k)
          (ap (λ y. take i xs ++ y ∷ []) is ∙ sym (take_more xs i zero_ℚ inside)));
    }

-- ---- more columns
module _ {F : Type 0} (value : F → ℚ) where
  pub all-push : {X : Type 0} (p : X → Bool) (xs : List X) (x : X) → list_all p xs ≡ true →
      p x ≡ true → list_all p (xs ++ x ∷ []) ≡ true
  all-push p [] x h own = ap (λ b. b && true) own
  all-push p (y ∷ xs) x h own =
      let b = both_true (p y) (list_all p xs) h in
      ap₂ (λ a c. a && c) b.0 (all-push p xs x b.1 own)

  pub appended_none : (n : ℕ) (list : List (List (Spot F))) → AreAppended value n (λ k. []) list list
  appended_none n list =
      record { numbers = λ k. sym (append-nil (across value k list)); places = λ h. h }

  -- one column more
  pub appended_more : (n : ℕ) (more after : ℕ → List ℚ) (f : ℕ → ℚ)
      (first old new : List (List (Spot F))) (spots : List (Spot F)) → new ≡ old ++ spots ∷ [] →
      ((k : ℕ) → sum_at (entries value spots) k ≡ f k) →
      (list_all (are_places n 0) first ≡ true → Rises n 0 (entries value spots)) →
      ((k : ℕ) → after k ≡ more k ++ f k ∷ []) →
      AreAppended value n more first old → AreAppended value n after first new
  appended_more n more after f first old new spots pushed own rises next h = record {
    numbers = λ k.
        ap (across value k) pushed
        ∙ map_push (λ cs. sum_at (entries value cs) k) old spots
        ∙ ap₂ (λ a b. a ++ b ∷ []) (h.numbers k) (own k)
        ∙ append_assoc (across value k first) (more k) (f k ∷ [])
        ∙ ap (λ l. across value k first ++ l) (sym (next k));
    places = λ ok.
        subst (λ (l : List (List (Spot F))). list_all (are_places n 0) l ≡ true) (sym pushed)
        (all-push (are_places n 0) old spots (h.places ok) (places_of value n 0 spots (rises ok)));
  }

-- ---- artificial columns
pub units-push : (k : ℕ) (right : List ℚ) (b : ℚ) → unit_entries k (right ++ b ∷ [])
    ≡ unit_entries k right ++ record { place = k + length right + 1; value = artificial_sign b } ∷ []
units-push k [] b =
    let same : suc k ≡ k + 0 + 1 = omega arith in
    ap (λ p. record { place = p; value = artificial_sign b } ∷ []) same
units-push k (c ∷ right) b =
    let same : suc k + length right + 1 ≡ k + suc (length right) + 1 = omega arith in
    ap (λ l. record { place = suc k; value = artificial_sign c } ∷ l)
    (units-push (suc k) right b
    ∙ ap (λ p. unit_entries (suc k) right ++ record { place = p; value = artificial_sign b } ∷ []) same)

pub length-units : (k : ℕ) (right : List ℚ) → length (unit_entries k right) ≡ length right
length-units k [] = refl
length-units k (b ∷ right) = ap suc (length-units (suc k) right)

pub unit_at : (k : ℕ) (right : List ℚ) (i : ℕ) (d : Entry) → i < length right →
    slice_index_or (unit_entries k right) i d
    ≡ record { place = k + suc i; value = artificial_sign (slice_index_or right i zero_ℚ) }
unit_at k [] i d l = absurd (omega arith)
unit_at k (b ∷ right) zero d l =
    let same : suc k ≡ k + 1 = omega arith in
    ap (λ p. record { place = p; value = artificial_sign b }) same
unit_at k (b ∷ right) (suc i) d l =
    let same : suc k + suc i ≡ k + suc (suc i) = omega arith in
    unit_at (suc k) right i d (omega arith)
    ∙ ap (λ p. record { place = p; value = artificial_sign (slice_index_or right i zero_ℚ) }) same

-- ---- whole columns
-- a column that only grew
pub grown_line : (n top : ℕ) (f : ℕ → ℚ) (es : List Entry) → IsLonger n top f [] es →
    IsLineWith n f es
grown_line n top f es h =
    record { rises = h.rises; sums = λ k. h.sums k ∙ zero-add_ℚ (f k) }

-- the negative of an objective, what stands in the equations of the cone, and one number more
pub weight_line : (top place : ℕ) (f : ℕ → ℚ) (x y : ℚ) (own first second last : List Entry) →
    first ≡ negatives own → place ≡ suc top → x ≡ y → IsLonger (suc top) top f first second →
    Writes place x second last →
    IsLineWith (suc top) (λ k. (neg_ℚ (sum_at own k) +ℚ f k) +ℚ single (suc top) y k) last
weight_line top place f x y own first second last is at same h w =
    let written : Writes (suc top) y second last =
    subst (λ (q : ℚ). Writes (suc top) q second last) same
    (subst (λ (p : ℕ). Writes p x second last) at w) in
    let step : IsLonger (suc top) (suc top) (single (suc top) y) second last =
    longer_by (suc top) (suc top) y second last written h.rises (omega (arith, h.last))
    (omega arith) in
    record {
      rises = step.rises;
      sums = λ k.
          step.sums k
          ∙ ap (λ q. q +ℚ single (suc top) y k)
          (h.sums k ∙ ap (λ q. q +ℚ f k)
          (ap (λ es. sum_at es k) is ∙ sum_at-negatives own k));
    }

-- one number in an equation of the cone
pub single_longer : (n cols q i : ℕ) (x y : ℚ) (old new : List Entry) → 1 ≤ i → i ≤ q →
    Writes (cols + i) x old new → x ≡ y → Rises n 0 old → last_place 0 old ≤ cols →
    cols + q ≤ n → IsLonger n (cols + q) (single (cols + i) y) old new
single_longer n cols q i x y old new low high w same rises last fits =
    let step : IsLonger n (cols + i) (single (cols + i) x) old new =
    longer_by n (cols + i) x old new w rises (omega (arith, last)) (omega (arith, fits)) in
    record {
      rises = step.rises;
      last = omega (arith, step.last);
      sums = λ k. step.sums k ∙ ap (λ z. sum_at old k +ℚ single (cols + i) z k) same;
    }

-- the negative of an objective, and one number in an equation after them
pub given_line : (cols q i : ℕ) (x y : ℚ) (own first last : List Entry) → first ≡ negatives own →
    1 ≤ i → i ≤ q → x ≡ y → Rises cols 0 own → Writes (cols + i) x first last →
    IsLineWith (cols + q) (λ k. neg_ℚ (sum_at own k) +ℚ single (cols + i) y k) last
given_line cols q i x y own first last is low high same rises w =
    let first_rises : Rises (cols + q) 0 first =
    subst (λ (es : List Entry). Rises (cols + q) 0 es) (sym is)
    (rises-negatives (cols + q) 0 own (rises-wider cols (cols + q) 0 own (omega arith) rises)) in
    let first_ends : last_place 0 first ≤ cols =
    subst (λ (es : List Entry). last_place 0 es ≤ cols) (sym is)
    (last_within cols 0 (negatives own) (omega arith) (rises-negatives cols 0 own rises)) in
    let step : IsLonger (cols + q) (cols + q) (single (cols + i) y) first last =
    single_longer (cols + q) cols q i x y first last low high w same first_rises first_ends
    (omega arith) in
    record {
      rises = step.rises;
      sums = λ k.
          step.sums k
          ∙ ap (λ z. z +ℚ single (cols + i) y k)
          (ap (λ es. sum_at es k) is ∙ sum_at-negatives own k);
    }

-- a column of one entry
pub single_line : (n place : ℕ) (x : ℚ) (first last : List Entry) → first ≡ [] → 1 ≤ place →
    place ≤ n → Writes place x first last → IsLineWith n (single place x) last
single_line n place x first last none low high w =
    let written : Writes place x [] last = subst (λ (es : List Entry). Writes place x es last) none w in
    grown_line n place (single place x) last
    (longer_by n place x [] last written tt (omega arith) high)

-- the first columns of a list that gets one more
pub front_kept : {X : Type 0} (old new first : List X) (x : X) → new ≡ old ++ x ∷ [] →
    take (length first) old ≡ first → take (length first) new ≡ first
front_kept old new first x pushed h =
    let many : length first ≡ min (length first) (length old) =
    sym (ap length h) ∙ length-take (length first) old in
    ap (take (length first)) pushed
    ∙ take-append-le (length first) old (x ∷ []) (omega (arith, many)) ∙ h

module _ {F : Type 0} (value : F → ℚ) where
  -- one artificial column more
  pub units_more : (right : List F) (i at : ℕ) (r v : F) (old new : List (Spot F)) →
      i < length right → r ≡ slice_index_or right i r →
      new ≡ old ++ record { at = at; value = v } ∷ [] → at ≡ i + 1 →
      value v ≡ artificial_sign (value r) →
      entries value old ≡ unit_entries 0 (map value (take i right)) →
      entries value new ≡ unit_entries 0 (map value (take (i + 1) right))
  units_more right i at r v old new inside is pushed place sign h =
      let front : List ℚ = map value (take i right) in
      let count : length front ≡ i =
      length-map (take i right) value ∙ length-take-le i right (omega arith) in
      let here : at ≡ 0 + length front + 1 = omega arith in
      let next : map value (take (i + 1) right) ≡ front ++ value r ∷ [] =
      ap (map value)
      (take_more right i r inside ∙ ap (λ y. take i right ++ y ∷ []) (sym is))
      ∙ map_push value (take i right) r in
      let own : entry_of value (record { at = at; value = v })
      ≡ record { place = 0 + length front + 1; value = artificial_sign (value r) } =
      ap₂ (λ (a : ℕ) (b : ℚ). record { place = a; value = b }) here sign in
      ap (entries value) pushed
      ∙ map_push (entry_of value) old (record { at = at; value = v })
      ∙ ap₂ (λ a b. a ++ b ∷ []) h own
      ∙ sym (units-push 0 front (value r)) ∙ ap (unit_entries 0) (sym next)

-- ---- appended one after the other
pub appended_two : {F : Type 0} (value : F → ℚ) (n : ℕ) (w : ℕ → List ℚ)
    (l0 l1 l2 : List (List (Spot F))) → l0 ≡ [] → AreAppended value n w l0 l1 →
    AreAppended value n (λ k. negated (across value k l1)) l1 l2 →
    (k : ℕ) → across value k l2 ≡ w k ++ negated (w k)
appended_two value n w l0 l1 l2 none h1 h2 k =
    let first : across value k l1 ≡ w k =
    h1.numbers k ∙ ap (λ l. across value k l ++ w k) none in
    h2.numbers k ∙ ap₂ (λ x y. x ++ negated y) first first

pub appended_three : {F : Type 0} (value : F → ℚ) (n : ℕ) (w b : ℕ → List ℚ)
    (l0 l1 l2 l3 : List (List (Spot F))) → l0 ≡ [] → AreAppended value n w l0 l1 →
    AreAppended value n (λ k. negated (across value k l1)) l1 l2 → AreAppended value n b l2 l3 →
    (k : ℕ) → across value k l3 ≡ (w k ++ negated (w k)) ++ b k
appended_three value n w b l0 l1 l2 l3 none h1 h2 h3 k =
    h3.numbers k ∙ ap (λ l. l ++ b k) (appended_two value n w l0 l1 l2 none h1 h2 k)

pub appended_same : {F : Type 0} (value : F → ℚ) (n : ℕ) (more after : ℕ → List ℚ)
    (old new : List (List (Spot F))) → ((k : ℕ) → after k ≡ more k) →
    AreAppended value n more old new → AreAppended value n after old new
appended_same value n more after old new same h = record {
  numbers = λ k. h.numbers k ∙ ap (λ l. across value k old ++ l) (sym (same k));
  places = h.places;
}

-- costs of three parts
pub costs_appended : (l0 l1 l2 l3 a b d u w z : List ℚ) → l1 ≡ l0 ++ a → l2 ≡ l1 ++ b →
    l3 ≡ l2 ++ d → l0 ≡ u → a ≡ negated w → b ≡ w → d ≡ z → l3 ≡ on_parts u (negated w) z
costs_appended l0 l1 l2 l3 a b d u w z e1 e2 e3 h0 ha hb hd =
    e3 ∙ ap₂ (λ x y. x ++ y)
    (e2 ∙ ap₂ (λ x y. x ++ y) (e1 ∙ ap₂ (λ x y. x ++ y) h0 ha) (hb ∙ sym (negated_twice w))) hd

-- .. where those after the first cost nothing, and none are after w
pub costs_given : (l0 l1 l2 a b u : List ℚ) (q : ℕ) → l1 ≡ l0 ++ a → l2 ≡ l1 ++ b → l0 ≡ u →
    a ≡ zeros q → b ≡ zeros q → l2 ≡ on_parts u (zeros q) []
costs_given l0 l1 l2 a b u q e1 e2 h0 ha hb =
    e2 ∙ ap₂ (λ x y. x ++ y)
    (e1 ∙ ap₂ (λ x y. x ++ y) h0 ha) (hb ∙ sym (negated-zeros q))
    ∙ sym (append-nil ((u ++ zeros q) ++ negated (zeros q)))
