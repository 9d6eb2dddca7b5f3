-- In the program of an interior vector of rows the two columns of an entry are opposite.
use Rattle.std.proofs.Common.{◌≡◌, ℕ, zero, suc, List, [], ◌∷◌, ◌++◌, length, refl, sym, ap, ap₂, ◌∙◌, arith, ◌<◌, ◌≤◌, ◌+◌, ◌-◌, All, slice_index_or}
use Rattle.std.proofs.lemmas.List.{get_or_append_left, get_or-append_right, get_or-map, length-map}
use Rattle.std.proofs.lemmas.List.Elements.{All-nil, All-cons, All-head, All-tail, All-append}
use Rattle.std.proofs.Math.ListN.{length-append}
use Rattle.exact_field.specs.Rational.{ℚ, zero_ℚ, one_ℚ, neg_ℚ}
use Rattle.exact_field.specs.Vector.{entry}
use Rattle.exact_field.proofs.Rationals.{neg-neg_ℚ, neg-zero_ℚ}
use Rattle.polyhedra.specs.Negatives.{negated}
use Rattle.polyhedra.specs.Vectors.{AreWide, zeros}
use Rattle.tableaux.specs.Table.{Table, column_of, row_of, unit}
use Rattle.tableaux.proofs.Places.{row-wide, all_from}
use Rattle.lp_form.specs.Programs.{dual_gaps, interior_of_dual}
use Rattle.lp_form.proofs.Systems.{length-unit, length-zeros}

zeros_at : (n k : ℕ) → slice_index_or (zeros n) k zero_ℚ ≡ zero_ℚ
zeros_at zero k = refl
zeros_at (suc n) zero = refl
zeros_at (suc n) (suc k) = zeros_at n k

-- the entries at the places k and q + k, counted from 0, are opposite
abbrev IsOpposite : ℕ → ℕ → List ℚ → Type 0
IsOpposite q k r = slice_index_or r k zero_ℚ ≡ neg_ℚ (slice_index_or r (q + k) zero_ℚ)

both : (q k : ℕ) (v : List ℚ) → k < q → length v ≡ q → IsOpposite q k (v ++ negated v)
both q k v inside long =
    let within : k < length v = omega (arith, long, inside) in
    let over : q + k - q ≡ k = omega arith in
    get_or_append_left v (negated v) zero_ℚ k within ∙ sym (neg-neg_ℚ (slice_index_or v k zero_ℚ))
    ∙ ap neg_ℚ
    (sym
    (get_or-append_right v (negated v) q (q + k) zero_ℚ long (omega arith)
    ∙ ap (λ (i : ℕ). slice_index_or (negated v) i zero_ℚ) over ∙ get_or-map neg_ℚ v k zero_ℚ zero_ℚ within))

more : (q k : ℕ) (x d : List ℚ) → k < q → q + q ≤ length x → IsOpposite q k x → IsOpposite q k (x ++ d)
more q k x d inside long h =
    get_or_append_left x d zero_ℚ k (omega arith) ∙ h ∙ ap neg_ℚ (sym (get_or_append_left x d zero_ℚ (q + k) (omega arith)))

nought : (q k n : ℕ) → IsOpposite q k (zeros n)
nought q k n = zeros_at n k ∙ sym neg-zero_ℚ ∙ ap neg_ℚ (sym (zeros_at n (q + k)))

pair_long : (q : ℕ) (v : List ℚ) → length v ≡ q → length (v ++ negated v) ≡ q + q
pair_long q v long = length-append v (negated v) ∙ ap₂ (λ a b. a + b) long (length-map v neg_ℚ ∙ long)

three : (q k : ℕ) (v d : List ℚ) → k < q → length v ≡ q → IsOpposite q k (v ++ negated v ++ d)
three q k v d inside long = more q k (v ++ negated v) d inside (omega (arith, pair_long q v long)) (both q k v inside long)

opposite_rows : (q k : ℕ) (vectors : List (List ℚ)) → k < q → AreWide q vectors → All (IsOpposite q k) (interior_of_dual q vectors).equations
opposite_rows q k vectors inside wide =
    let n = length vectors in
    let last : List ℚ = unit q q ++ negated (unit q q) ++ zeros (n + 2) in
    let sum : List ℚ = zeros (q + q + n) ++ one_ℚ ∷ one_ℚ ∷ [] in
    let gaps : All (IsOpposite q k) (dual_gaps vectors) = all_from (IsOpposite q k) 1 n _ (λ d low high.
    let v = row_of vectors d in
    let long : length v ≡ q = row-wide q vectors d wide low (omega arith) in
    more q k (v ++ negated v ++ negated (unit n d)) (neg_ℚ one_ℚ ∷ zero_ℚ ∷ []) inside
    (omega (arith, length-append (v ++ negated v) (negated (unit n d)), pair_long q v long)) (three q k v (negated (unit n d)) inside long)) in
    All-append (IsOpposite q k) (dual_gaps vectors) (last ∷ sum ∷ []) gaps
    (All-cons (IsOpposite q k) last (sum ∷ []) (three q k (unit q q) (zeros (n + 2)) inside (length-unit q q))
    (All-cons (IsOpposite q k) sum []
    (more q k (zeros (q + q + n)) (one_ℚ ∷ one_ℚ ∷ []) inside (omega (arith, length-zeros (q + q + n))) (nought q k (q + q + n)))
    (All-nil (IsOpposite q k))))

opposite_column : (q k : ℕ) (t : Table) → All (IsOpposite q k) t → column_of t (k + 1) ≡ negated (column_of t (q + k + 1))
opposite_column q k [] h = refl
opposite_column q k (r ∷ t) h =
    let first : k + 1 - 1 ≡ k = omega arith in
    let second : q + k + 1 - 1 ≡ q + k = omega arith in
    let here : entry r (k + 1) ≡ neg_ℚ (entry r (q + k + 1)) =
    ap (λ (i : ℕ). slice_index_or r i zero_ℚ) first ∙ All-head (IsOpposite q k) r t h ∙ ap (λ (i : ℕ). neg_ℚ (slice_index_or r i zero_ℚ)) (sym second) in
    ap₂ (λ (a : ℚ) (b : List ℚ). a ∷ b) here (opposite_column q k t (All-tail (IsOpposite q k) r t h))

pub opposite_entries : (q k : ℕ) (vectors : List (List ℚ)) → k < q → AreWide q vectors →
    column_of (interior_of_dual q vectors).equations (k + 1) ≡ negated (column_of (interior_of_dual q vectors).equations (q + k + 1))
opposite_entries q k vectors inside wide = opposite_column q k (interior_of_dual q vectors).equations (opposite_rows q k vectors inside wide)
