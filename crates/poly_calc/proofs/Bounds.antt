-- Feasible vectors, by the numbers that lie within the bounds.
use Rattle.std.proofs.Common.{◌≡◌, ℕ, zero, suc, ◌+◌, ◌<◌, ◌≤◌, List, [], ◌∷◌, ◌++◌, map, length, replicate, All, sym, ap, ◌∙◌, subst, arith}
use Rattle.std.proofs.lemmas.List.Elements.{All-nil, All-cons, All-head, All-tail, All-append, Contains-append_left, Contains-append_right}
use Rattle.exact_field.specs.Rational.{ℚ, zero_ℚ, neg_ℚ, ◌≤ℚ◌}
use Rattle.exact_field.specs.Vector.{entry, dot}
use Rattle.polyhedra.specs.Inequality.{Inequality}
use Rattle.polyhedra.proofs.Algebra.{neg_zero}
use Rattle.polyhedra.proofs.Order.{le_of_eq}
use Rattle.polyhedra.proofs.Members.{all_of_members, member_of}
use Rattle.polyhedra.proofs.Negatives.{dot-negated_left}
use Rattle.representations.proofs.Pinned.{both_ways}
use Rattle.vlp_problem.specs.Sides.{row_vector, unit, at_least, at_most, sides_of, sides_from, IsFeasible}
use Rattle.vlp_problem.specs.declared.problem.Bound.{Bound}
use Rattle.vlp_problem.specs.declared.problem.Bound.TheVariants.{Unsaid, Free, Lower, Upper, Double, Fixed}
use Rattle.vlp_problem.specs.declared.problem.Problem.{Problem}
use Rattle.poly_calc.proofs.Sums.{cell_sum, row-product, unit-product}

-- a number lies within a bound
abbrev pub IsWithin : Bound → ℚ → Type 0
IsWithin Unsaid q = Unit {0}
IsWithin Free q = Unit {0}
IsWithin (Lower low) q = low ≤ℚ q
IsWithin (Upper high) q = neg_ℚ high ≤ℚ neg_ℚ q
IsWithin (Double low high) q = (low ≤ℚ q) × (neg_ℚ high ≤ℚ neg_ℚ q)
IsWithin (Fixed value) q = (value ≤ℚ q) × (neg_ℚ value ≤ℚ neg_ℚ q)

-- the numbers f k, f (k + 1), .. lie within the bounds
abbrev pub AreWithin : (ℕ → ℚ) → ℕ → List Bound → Type 0
AreWithin f k [] = Unit {0}
AreWithin f k (b ∷ bs) = IsWithin b (f k) × AreWithin f (suc k) bs

-- ---- lists of bounds
none : (m : ℕ) → m ≡ 0 + m
none m = omega arith

next : (m n : ℕ) → m + suc n ≡ suc m + n
next m n = omega arith

pub within-append : (f : ℕ → ℚ) (k : ℕ) (xs ys : List Bound) → AreWithin f k xs → AreWithin f (length xs + k) ys → AreWithin f k (xs ++ ys)
within-append f k [] ys h g = subst (λ (n : ℕ). AreWithin f n ys) (sym (none k)) g
within-append f k (b ∷ xs) ys h g = (h.0, within-append f (suc k) xs ys h.1 (subst (λ (n : ℕ). AreWithin f n ys) (sym (next (length xs) k)) g))

pub within-left : (f : ℕ → ℚ) (k : ℕ) (xs ys : List Bound) → AreWithin f k (xs ++ ys) → AreWithin f k xs
within-left f k [] ys h = tt
within-left f k (b ∷ xs) ys h = (h.0, within-left f (suc k) xs ys h.1)

pub within-right : (f : ℕ → ℚ) (k : ℕ) (xs ys : List Bound) → AreWithin f k (xs ++ ys) → AreWithin f (length xs + k) ys
within-right f k [] ys h = subst (λ (n : ℕ). AreWithin f n ys) (none k) h
within-right f k (b ∷ xs) ys h = subst (λ (n : ℕ). AreWithin f n ys) (next (length xs) k) (within-right f (suc k) xs ys h.1)

-- the same numbers, counted from another one on
pub within-same : (f g : ℕ → ℚ) (k m : ℕ) (bs : List Bound) → ((t : ℕ) → t < length bs → f (t + k) ≡ g (t + m)) → AreWithin f k bs → AreWithin g m bs
within-same f g k m [] e h = tt
within-same f g k m (b ∷ bs) e h = (
  subst (IsWithin b) (ap f (none k) ∙ e 0 (omega arith) ∙ ap g (sym (none m))) h.0,
  within-same f g (suc k) (suc m) bs (λ t l. ap f (next t k) ∙ e (suc t) (omega arith) ∙ ap g (sym (next t m))) h.1,
)

pub within_free : (f : ℕ → ℚ) (k m : ℕ) → AreWithin f k (replicate m Free)
within_free f k zero = tt
within_free f k (suc m) = (tt, within_free f (suc k) m)

pub within_zero : (f : ℕ → ℚ) (k m : ℕ) → ((t : ℕ) → t < m → f (t + k) ≡ zero_ℚ) → AreWithin f k (replicate m (Fixed zero_ℚ))
within_zero f k zero e = tt
within_zero f k (suc m) e = (
  (le_of_eq zero_ℚ (f k) (sym here), le_of_eq (neg_ℚ zero_ℚ) (neg_ℚ (f k)) (ap neg_ℚ (sym here))),
  within_zero f (suc k) m (λ t l. ap f (next t k) ∙ e (suc t) (omega arith)),
)
  where
    here : f k ≡ zero_ℚ
    here = ap f (none k) ∙ e 0 (omega arith)

pub fixed_is : (q : ℚ) → IsWithin (Fixed zero_ℚ) q → q ≡ zero_ℚ
fixed_is q h = both_ways q h.0 (subst (λ (x : ℚ). x ≤ℚ neg_ℚ q) neg_zero h.1)

pub zero_within : (f : ℕ → ℚ) (k m : ℕ) → AreWithin f k (replicate m (Fixed zero_ℚ)) → (t : ℕ) → t < m → f (t + k) ≡ zero_ℚ
zero_within f k zero h t l = absurd (omega arith)
zero_within f k (suc m) h zero l = ap f (sym (none k)) ∙ fixed_is (f k) h.0
zero_within f k (suc m) h (suc t) l = ap f (sym (next t k)) ∙ zero_within f (suc k) m h.1 t (omega arith)

-- ---- sides
abbrev pub AreMet : List ℚ → List Inequality → Type 0
AreMet u es = All (λ (e : Inequality). e.bound ≤ℚ dot e.normal u) es

pub met_left : (u : List ℚ) (es fs : List Inequality) → AreMet u (es ++ fs) → AreMet u es
met_left u es fs k = all_of_members (λ (e : Inequality). e.bound ≤ℚ dot e.normal u) es (λ e c.
    member_of (λ (e : Inequality). e.bound ≤ℚ dot e.normal u) (es ++ fs) e k (Contains-append_left es fs e c))

pub met_right : (u : List ℚ) (es fs : List Inequality) → AreMet u (es ++ fs) → AreMet u fs
met_right u es fs k = all_of_members (λ (e : Inequality). e.bound ≤ℚ dot e.normal u) fs (λ e c.
    member_of (λ (e : Inequality). e.bound ≤ℚ dot e.normal u) (es ++ fs) e k (Contains-append_right es fs e c))

one_met : (u : List ℚ) (e : Inequality) → e.bound ≤ℚ dot e.normal u → AreMet u (e ∷ [])
one_met u e h = All-cons (λ (e : Inequality). e.bound ≤ℚ dot e.normal u) e [] h (All-nil (λ (e : Inequality). e.bound ≤ℚ dot e.normal u))

two_met : (u : List ℚ) (e f : Inequality) → e.bound ≤ℚ dot e.normal u → f.bound ≤ℚ dot f.normal u → AreMet u (e ∷ f ∷ [])
two_met u e f h k = All-cons (λ (e : Inequality). e.bound ≤ℚ dot e.normal u) e (f ∷ []) h (one_met u f k)

first_met : (u : List ℚ) (e : Inequality) (es : List Inequality) → AreMet u (e ∷ es) → e.bound ≤ℚ dot e.normal u
first_met u e es h = All-head (λ (e : Inequality). e.bound ≤ℚ dot e.normal u) e es h

rest_met : (u : List ℚ) (e : Inequality) (es : List Inequality) → AreMet u (e ∷ es) → AreMet u es
rest_met u e es h = All-tail (λ (e : Inequality). e.bound ≤ℚ dot e.normal u) e es h

turn : (v u : List ℚ) (high : ℚ) → neg_ℚ high ≤ℚ neg_ℚ (dot v u) → neg_ℚ high ≤ℚ dot (map neg_ℚ v) u
turn v u high h = subst (λ (x : ℚ). neg_ℚ high ≤ℚ x) (sym (dot-negated_left v u)) h

back : (v u : List ℚ) (high : ℚ) → neg_ℚ high ≤ℚ dot (map neg_ℚ v) u → neg_ℚ high ≤ℚ neg_ℚ (dot v u)
back v u high h = subst (λ (x : ℚ). neg_ℚ high ≤ℚ x) (dot-negated_left v u) h

one_bound : (v u : List ℚ) (b : Bound) → IsWithin b (dot v u) → AreMet u (sides_of v b)
one_bound v u Unsaid h = All-nil (λ (e : Inequality). e.bound ≤ℚ dot e.normal u)
one_bound v u Free h = All-nil (λ (e : Inequality). e.bound ≤ℚ dot e.normal u)
one_bound v u (Lower low) h = one_met u _ h
one_bound v u (Upper high) h = one_met u _ (turn v u high h)
one_bound v u (Double low high) h = two_met u _ _ h.0 (turn v u high h.1)
one_bound v u (Fixed value) h = two_met u _ _ h.0 (turn v u value h.1)

bound_one : (v u : List ℚ) (b : Bound) → AreMet u (sides_of v b) → IsWithin b (dot v u)
bound_one v u Unsaid h = tt
bound_one v u Free h = tt
bound_one v u (Lower low) h = first_met u _ [] h
bound_one v u (Upper high) h = back v u high (first_met u _ [] h)
bound_one v u (Double low high) h = (first_met u (at_least v low) (at_most v high ∷ []) h, back v u high (first_met u (at_most v high) [] (rest_met u (at_least v low) (at_most v high ∷ []) h)))
bound_one v u (Fixed value) h = (first_met u (at_least v value) (at_most v value ∷ []) h, back v u value (first_met u (at_most v value) [] (rest_met u (at_least v value) (at_most v value ∷ []) h)))

pub met_within : (v : ℕ → List ℚ) (u : List ℚ) (k : ℕ) (bs : List Bound) → AreWithin (λ i. dot (v i) u) k bs → AreMet u (sides_from v k bs)
met_within v u k [] h = All-nil (λ (e : Inequality). e.bound ≤ℚ dot e.normal u)
met_within v u k (b ∷ bs) h = All-append (λ (e : Inequality). e.bound ≤ℚ dot e.normal u) (sides_of (v k) b) (sides_from v (suc k) bs)
    (one_bound (v k) u b h.0) (met_within v u (suc k) bs h.1)

pub within_met : (v : ℕ → List ℚ) (u : List ℚ) (k : ℕ) (bs : List Bound) → AreMet u (sides_from v k bs) → AreWithin (λ i. dot (v i) u) k bs
within_met v u k [] h = tt
within_met v u k (b ∷ bs) h = (
  bound_one (v k) u b (met_left u (sides_of (v k) b) (sides_from v (suc k) bs) h),
  within_met v u (suc k) bs (met_right u (sides_of (v k) b) (sides_from v (suc k) bs) h),
)

-- ---- feasible vectors
pub record IsInBounds (file : Problem) (x : List ℚ) : Type 0 where
  pub width : length x ≡ file.cols
  pub of_rows : AreWithin (λ i. cell_sum file.a i (entry x)) 1 file.row_bounds
  pub of_cols : AreWithin (entry x) 1 file.col_bounds

row_is : (file : Problem) (x : List ℚ) (i : ℕ) → length x ≡ file.cols → dot (row_vector file i) x ≡ cell_sum file.a i (entry x)
row_is file x i e = row-product file.rows file.cols i file.a x file.a_cells e

column_is : (file : Problem) (x : List ℚ) (t : ℕ) → length x ≡ file.cols → t < length file.col_bounds → dot (unit file.cols (t + 1)) x ≡ entry x (t + 1)
column_is file x t e l = unit-product file.cols (t + 1) x e (omega arith) (bound (length file.col_bounds) file.col_count l)
  where
    bound : (m : ℕ) → m ≡ file.cols → t < m → t + 1 ≤ file.cols
    bound m f g = omega arith

pub in_bounds : (file : Problem) (x : List ℚ) → IsFeasible file x → IsInBounds file x
in_bounds file x h = record {
  width = h.width;
  of_rows = within-same (λ i. dot (row_vector file i) x) (λ i. cell_sum file.a i (entry x)) 1 1 file.row_bounds (λ t l. row_is file x (t + 1) h.width)
      (within_met (row_vector file) x 1 file.row_bounds (met_left x (sides_from (row_vector file) 1 file.row_bounds) (sides_from (unit file.cols) 1 file.col_bounds) h.meets));
  of_cols = within-same (λ i. dot (unit file.cols i) x) (entry x) 1 1 file.col_bounds (λ t l. column_is file x t h.width l)
      (within_met (unit file.cols) x 1 file.col_bounds (met_right x (sides_from (row_vector file) 1 file.row_bounds) (sides_from (unit file.cols) 1 file.col_bounds) h.meets));
}

pub of_bounds : (file : Problem) (x : List ℚ) → IsInBounds file x → IsFeasible file x
of_bounds file x h = record {
  width = h.width;
  meets = All-append (λ (e : Inequality). e.bound ≤ℚ dot e.normal x) (sides_from (row_vector file) 1 file.row_bounds) (sides_from (unit file.cols) 1 file.col_bounds)
      (met_within (row_vector file) x 1 file.row_bounds (within-same (λ i. cell_sum file.a i (entry x)) (λ i. dot (row_vector file i) x) 1 1 file.row_bounds
      (λ t l. sym (row_is file x (t + 1) h.width)) h.of_rows))
      (met_within (unit file.cols) x 1 file.col_bounds (within-same (entry x) (λ i. dot (unit file.cols i) x) 1 1 file.col_bounds
      (λ t l. sym (column_is file x t h.width l)) h.of_cols));
}
