-- Products with vectors in parts, values of tables, and what multipliers of a system say at each
-- vector of at least 0.
use Rattle.std.proofs.Common.{◌≡◌, ℕ, zero, suc, List, [], ◌∷◌, ◌++◌, length, take, drop, replicate, All, refl, sym, ap, ap₂, ◌∙◌, subst, arith, ◌<◌, ◌≤◌, ◌+◌, ◌-◌, slice_index_or, append_assoc}
use Rattle.std.proofs.Math.ListN.{length-replicate}
use Rattle.std.proofs.lemmas.List.Elements.{All-replicate}
use Rattle.exact_field.specs.Rational.{ℚ, zero_ℚ, one_ℚ, ◌+ℚ◌, ◌*ℚ◌, neg_ℚ, ◌≤ℚ◌}
use Rattle.exact_field.specs.Vector.{entry, dot}
use Rattle.polyhedra.specs.Vectors.{AreWide, AtLeastZero, zeros, values, combination}
use Rattle.polyhedra.proofs.Algebra.{zero_add}
use Rattle.polyhedra.proofs.Laws.{add_assoc, add_comm, add_zero, add_neg, le_antisymm, mul_comm}
use Rattle.polyhedra.proofs.Linear.{dot_comm, dot-nil, dot-zeros, dot-combination_left, length-combination, length-zeros}
use Rattle.polyhedra.proofs.Lists.{nonneg-head, nonneg-tail}
use Rattle.polyhedra.proofs.Order.{le_of_eq, le_of_difference, add_le_both, add_nonneg, mul_le}
use Rattle.tableaux.specs.Table.{Table, System, IsSystem, row_of, column_of, listed, unit, unknown_count}
use Rattle.tableaux.specs.Simplex.{IsOptimal, IsInfeasible}
use Rattle.tableaux.proofs.Definition.{same_default}
use Rattle.tableaux.proofs.Found.{map-list_from}
use Rattle.tableaux.proofs.Inverse.{dot-append}
use Rattle.tableaux.proofs.Places.{listed-is}
use Rattle.tableaux.proofs.Unique.{dot-unit, entry-combination, column-long, slice-zeros}

-- ---- lists
pub append_parts : (a b c d : List ℚ) → length a ≡ length c → a ++ b ≡ c ++ d → (a ≡ c) × (b ≡ d)
append_parts [] b [] d h e = (refl, e)
append_parts [] b (y ∷ c) d h e = absurd (omega arith)
append_parts (x ∷ a) b [] d h e = absurd (omega arith)
append_parts (x ∷ a) b (y ∷ c) d h e =
    let first : x ≡ y = cc in
    let rest : a ++ b ≡ c ++ d = cc in
    let more : (a ≡ c) × (b ≡ d) = append_parts a b c d (omega arith) rest in
    (ap₂ (λ p q. p ∷ q) first more.0, more.1)

pub slice-drop : (v : List ℚ) (n k : ℕ) → slice_index_or (drop n v) k zero_ℚ ≡ slice_index_or v (n + k) zero_ℚ
slice-drop v zero k = let step : k ≡ 0 + k = omega arith in ap (λ i. slice_index_or v i zero_ℚ) step
slice-drop [] (suc n) k = refl
slice-drop (x ∷ v) (suc n) k = let step : suc (n + k) ≡ suc n + k = omega arith in slice-drop v n k ∙ ap (λ i. slice_index_or (x ∷ v) i zero_ℚ) step

pub slice-take : (v : List ℚ) (n k : ℕ) → k < n → slice_index_or (take n v) k zero_ℚ ≡ slice_index_or v k zero_ℚ
slice-take v zero k h = absurd (omega arith)
slice-take [] (suc n) k h = refl
slice-take (x ∷ v) (suc n) zero h = refl
slice-take (x ∷ v) (suc n) (suc k) h = slice-take v n k (omega arith)

pub one_left : (v : List ℚ) → length v ≡ 1 → v ≡ slice_index_or v 0 zero_ℚ ∷ []
one_left [] h = absurd (omega arith)
one_left (x ∷ []) h = refl
one_left (x ∷ y ∷ v) h = absurd (omega arith)

pub two_left : (v : List ℚ) → length v ≡ 2 → v ≡ slice_index_or v 0 zero_ℚ ∷ slice_index_or v 1 zero_ℚ ∷ []
two_left [] h = absurd (omega arith)
two_left (x ∷ []) h = absurd (omega arith)
two_left (x ∷ y ∷ []) h = refl
two_left (x ∷ y ∷ z ∷ v) h = absurd (omega arith)

pub zeros-append : (m n : ℕ) → zeros (m + n) ≡ zeros m ++ zeros n
zeros-append zero n = ap zeros (omega arith)
zeros-append (suc m) n = ap zeros step ∙ ap (λ v. zero_ℚ ∷ v) (zeros-append m n)
  where
    step : suc m + n ≡ suc (m + n)
    step = omega arith

-- ---- entries
abbrev pub ones : ℕ → List ℚ
ones n = replicate n one_ℚ

pub entry-ones : (n j : ℕ) → 1 ≤ j → j ≤ n → entry (ones n) j ≡ one_ℚ
entry-ones n j l u = All-replicate (λ x. x ≡ one_ℚ) n one_ℚ refl (j - 1) zero_ℚ (omega (arith, l, u, length-replicate n one_ℚ))

-- what holds of each entry, or of each row, by its number
pub all_entries : (P : ℚ → Type 0) (v : List ℚ) → ((j : ℕ) → 1 ≤ j → j ≤ length v → P (entry v j)) → All P v
all_entries P v h k d l =
    subst P (ap (λ i. slice_index_or v i zero_ℚ) (back k) ∙ same_default v k zero_ℚ d l) (h (suc k) (omega arith) (omega arith))
  where
    back : (i : ℕ) → suc i - 1 ≡ i
    back i = omega arith

pub all_rows : (P : List ℚ → Type 0) (t : Table) → ((j : ℕ) → 1 ≤ j → j ≤ length t → P (row_of t j)) → All P t
all_rows P t h k d l =
    subst P (ap (λ i. slice_index_or t i []) (back k) ∙ same_default t k [] d l) (h (suc k) (omega arith) (omega arith))
  where
    back : (i : ℕ) → suc i - 1 ≡ i
    back i = omega arith

pub all_at : (P : ℚ → Type 0) (v : List ℚ) (j : ℕ) → All P v → 1 ≤ j → j ≤ length v → P (entry v j)
all_at P v j h l u = h (j - 1) zero_ℚ (omega (arith, l, u))

pub row_at : (P : List ℚ → Type 0) (t : Table) (j : ℕ) → All P t → 1 ≤ j → j ≤ length t → P (row_of t j)
row_at P t j h l u = h (j - 1) [] (omega (arith, l, u))

-- ---- signs
pub zero_of_both : (x : ℚ) → zero_ℚ ≤ℚ x → zero_ℚ ≤ℚ neg_ℚ x → x ≡ zero_ℚ
zero_of_both x h k = le_antisymm x zero_ℚ (le_of_difference x zero_ℚ (neg_ℚ x) k (add_neg x)) h

-- the difference of two numbers of which the first is at least the second
pub nonneg_at : (a b : ℚ) → zero_ℚ ≤ℚ neg_ℚ a → zero_ℚ ≤ℚ a +ℚ b → zero_ℚ ≤ℚ b
nonneg_at a b h k =
    subst (λ (x : ℚ). zero_ℚ ≤ℚ x)
    (sym (add_assoc (neg_ℚ a) a b) ∙ ap (λ x. x +ℚ b) (add_comm (neg_ℚ a) a ∙ add_neg a) ∙ zero_add b)
    (add_nonneg (neg_ℚ a) (a +ℚ b) h k)

-- ---- products
pub dot-zeros_left : (n : ℕ) (z : List ℚ) → dot (zeros n) z ≡ zero_ℚ
dot-zeros_left n z = dot_comm (zeros n) z ∙ dot-zeros z n

pub dot-unit_right : (n k : ℕ) (v : List ℚ) → 1 ≤ k → k ≤ n → dot v (unit n k) ≡ entry v k
dot-unit_right n k v l u = dot_comm v (unit n k) ∙ dot-unit n k v l u

pub dot_parts : (y a b : List ℚ) → dot y (a ++ b) ≡ dot (take (length a) y) a +ℚ dot (drop (length a) y) b
dot_parts y [] b = sym (zero_add (dot y b))
dot_parts [] (x ∷ a) b = sym (add_zero zero_ℚ)
dot_parts (c ∷ y) (x ∷ a) b =
    ap (λ q. c *ℚ x +ℚ q) (dot_parts y a b) ∙ sym (add_assoc (c *ℚ x) (dot (take (length a) y) a) (dot (drop (length a) y) b))

pub dot_parts_at : (n : ℕ) (y a b : List ℚ) → length a ≡ n → dot y (a ++ b) ≡ dot (take n y) a +ℚ dot (drop n y) b
dot_parts_at n y a b h = dot_parts y a b ∙ ap (λ k. dot (take k y) a +ℚ dot (drop k y) b) h

-- three parts against three
pub dot_three : (u v w a b c : List ℚ) → length u ≡ length a → length v ≡ length b → dot ((u ++ v) ++ w) (a ++ (b ++ c)) ≡ dot u a +ℚ (dot v b +ℚ dot w c)
dot_three u v w a b c h k =
    ap (λ r. dot r (a ++ (b ++ c))) (append_assoc u v w) ∙ dot-append u (v ++ w) a (b ++ c) h ∙ ap (λ x. dot u a +ℚ x) (dot-append v w b c k)

-- ---- values of tables
pub values-append : (s t : Table) (z : List ℚ) → values (s ++ t) z ≡ values s z ++ values t z
values-append [] t z = refl
values-append (r ∷ s) t z = ap (λ v. dot r z ∷ v) (values-append s t z)

pub values-listed : (n : ℕ) (f : ℕ → List ℚ) (z : List ℚ) → values (listed n f) z ≡ listed n (λ i. dot (f i) z)
values-listed n f z = map-list_from (λ r. dot r z) 1 n f

-- ---- what multipliers say
mono : (u v z : List ℚ) → length u ≡ length z → length v ≡ length z → AtLeastZero z →
    ((k : ℕ) → k < length z → slice_index_or u k zero_ℚ ≤ℚ slice_index_or v k zero_ℚ) → dot u z ≤ℚ dot v z
mono u v [] a b p h = le_of_eq (dot u []) (dot v []) (dot-nil u ∙ sym (dot-nil v))
mono [] v (c ∷ z) a b p h = absurd (omega arith)
mono (x ∷ u) [] (c ∷ z) a b p h = absurd (omega arith)
mono (x ∷ u) (y ∷ v) (c ∷ z) a b p h =
    add_le_both (x *ℚ c) (y *ℚ c) (dot u z) (dot v z)
    (subst (λ (q : ℚ). q ≤ℚ y *ℚ c) (mul_comm c x) (subst (λ (q : ℚ). c *ℚ x ≤ℚ q) (mul_comm c y) (mul_le c x y (nonneg-head c z p) (h 0 (omega arith)))))
    (mono u v z (omega arith) (omega arith) (nonneg-tail c z p) (λ k l. h (suc k) (omega arith)))

bounded : (n : ℕ) (t : Table) (y b z : List ℚ) → AreWide n t → length b ≡ n → length z ≡ n → AtLeastZero z →
    ((j : ℕ) → 1 ≤ j → j ≤ n → entry b j ≤ℚ dot y (column_of t j)) → dot b z ≤ℚ dot y (values t z)
bounded n t y b z w b_long z_long p h =
    subst (λ (x : ℚ). dot b z ≤ℚ x) (dot-combination_left n y t z)
    (mono b (combination n y t) z (b_long ∙ sym z_long) (length-combination n y t w ∙ sym z_long) p
    (λ k l. subst (λ (i : ℕ). slice_index_or b i zero_ℚ ≤ℚ slice_index_or (combination n y t) i zero_ℚ) (back k)
    (subst (λ (x : ℚ). entry b (suc k) ≤ℚ x) (sym (entry-combination n y t (suc k))) (h (suc k) (omega arith) (omega (arith, l, z_long))))))
  where
    back : (i : ℕ) → suc i - 1 ≡ i
    back i = omega arith

-- the multipliers of an optimal end bound the cost of each vector of at least 0 by its values
pub optimal_at : (s : System) (x y z : List ℚ) → IsSystem s → IsOptimal s x y → length z ≡ unknown_count s → AtLeastZero z →
    dot s.cost z ≤ℚ dot y (values s.equations z)
optimal_at s x y z ok h long p = bounded (unknown_count s) s.equations y s.cost z ok.wide refl long p h.bounds

pub infeasible_at : (s : System) (y z : List ℚ) → IsSystem s → IsInfeasible s y → length z ≡ unknown_count s → AtLeastZero z →
    zero_ℚ ≤ℚ dot y (values s.equations z)
infeasible_at s y z ok h long p =
    subst (λ (x : ℚ). x ≤ℚ dot y (values s.equations z)) (dot-zeros_left (unknown_count s) z)
    (bounded (unknown_count s) s.equations y (zeros (unknown_count s)) z ok.wide (length-zeros (unknown_count s)) long p
    (λ j l u. subst (λ (x : ℚ). x ≤ℚ dot y (column_of s.equations j)) (sym (slice-zeros (unknown_count s) (j - 1))) (h.bounds j l u)))

-- the values at the columns of vectors are their combination
pub values_columns : (q : ℕ) (vectors : Table) (z : List ℚ) → AreWide q vectors → values (listed q (column_of vectors)) z ≡ combination q z vectors
values_columns q vectors z w =
    values-listed q (column_of vectors) z
    ∙ listed-is q (λ i. dot (column_of vectors i) z) (combination q z vectors) (length-combination q z vectors w)
    (λ i l u. dot_comm (column_of vectors i) z ∙ sym (entry-combination q z vectors i))

-- and with zeros after the columns, at vectors that begin with z
pub values_columns_led : (q m : ℕ) (vectors : Table) (z more : List ℚ) → AreWide q vectors → length z ≡ length vectors →
    values (listed q (λ i. column_of vectors i ++ zeros m)) (z ++ more) ≡ combination q z vectors
values_columns_led q m vectors z more w long =
    values-listed q (λ i. column_of vectors i ++ zeros m) (z ++ more)
    ∙ listed-is q (λ i. dot (column_of vectors i ++ zeros m) (z ++ more)) (combination q z vectors) (length-combination q z vectors w)
    (λ i l u. dot-append (column_of vectors i) (zeros m) z more (column-long vectors i ∙ sym long)
    ∙ ap₂ (λ a b. a +ℚ b) (dot_comm (column_of vectors i) z ∙ sym (entry-combination q z vectors i)) (dot-zeros_left m more)
    ∙ add_zero (entry (combination q z vectors) i))
