-- The feasible set of a sample file is a box, so its image has vertices.
use Rattle.std.proofs.Common.{◌≡◌, ℕ, zero, suc, ◌+◌, ◌<◌, ◌==◌, List, [], ◌∷◌, ◌++◌, map, length, replicate, slice_index_or, if◌then◌else◌, refl, sym, ap, ap₂, ◌∙◌, subst, arith, All}
use Rattle.std.proofs.lemmas.Bool.{cond-true, cond-false, eq-eqb, ne_eqb}
use Rattle.std.proofs.lemmas.List.Elements.{All-nil, All-cons, All-head, All-tail}
use Rattle.exact_field.specs.Rational.{ℚ, zero_ℚ, one_ℚ, ◌+ℚ◌, ◌*ℚ◌, neg_ℚ, ◌≤ℚ◌}
use Rattle.exact_field.specs.Vector.{dot}
use Rattle.exact_field.proofs.Inequalities.{zero_between, le_of_same, lt-le_ℚ, zero-lt-one, neg-nonpositive}
use Rattle.exact_field.proofs.Rationals.{add-zero_ℚ, zero-add_ℚ, zero-mul_ℚ, one-mul_ℚ}
use Rattle.polyhedra.specs.Inequality.{Inequality}
use Rattle.polyhedra.specs.Vectors.{zeros}
use Rattle.polyhedra.proofs.Linear.{dot-zeros, dot_comm, length-zeros}
use Rattle.polyhedra.proofs.Negatives.{dot-negated}
use Rattle.vlp_problem.specs.Sides.{numbers_from, unit, at_least, at_most, sides_from, sides, row_vector, IsFeasible}
use Rattle.vlp_problem.specs.declared.problem.Problem.{Problem}
use Rattle.vlp_problem.specs.declared.problem.Bound.{Bound}
use Rattle.vlp_problem.specs.declared.problem.Bound.TheVariants.{Double}
use Rattle.replies.specs.SampleLaws.{SamplesAreSolved, IsBounded}
use Rattle.replies.specs.Sample.{IsSample}
use Rattle.replies.proofs.Bounded.{at_most_zero, bounded_are_solved}

-- ---- products with unit vectors
unit_past : (k n i : ℕ) (v : List ℚ) → i < k → dot (map (λ j. if j == i then one_ℚ else zero_ℚ) (numbers_from k n)) v ≡ zero_ℚ
unit_past k zero i v h = refl
unit_past k (suc n) i [] h = refl
unit_past k (suc n) i (x ∷ v) h =
    ap₂ (λ a b. a *ℚ x +ℚ b) (cond-false (k == i) one_ℚ zero_ℚ (ne_eqb k i (λ e. omega (arith, h, e)))) (unit_past (suc k) n i v (omega (arith, h)))
    ∙ add-zero_ℚ (zero_ℚ *ℚ x) ∙ zero-mul_ℚ x

unit_from : (k n i : ℕ) (v : List ℚ) → i < n → dot (map (λ j. if j == k + i then one_ℚ else zero_ℚ) (numbers_from k n)) v ≡ slice_index_or v i zero_ℚ
unit_from k zero i v h = absurd (omega (arith, h))
unit_from k (suc n) zero [] h = refl
unit_from k (suc n) (suc i) [] h = refl
unit_from k (suc n) zero (x ∷ v) h =
    ap₂ (λ a b. a *ℚ x +ℚ b) (cond-true (k == k + 0) one_ℚ zero_ℚ (eq-eqb k (k + 0) (omega arith))) (unit_past (suc k) n (k + 0) v (omega arith))
    ∙ add-zero_ℚ (one_ℚ *ℚ x) ∙ one-mul_ℚ x
unit_from k (suc n) (suc i) (x ∷ v) h =
    let step : k + suc i ≡ suc k + i = omega arith in
    ap₂ (λ a b. a *ℚ x +ℚ b) (cond-false (k == k + suc i) one_ℚ zero_ℚ (ne_eqb k (k + suc i) (λ e. omega (arith, e))))
    (ap (λ s. dot (map (λ j. if j == s then one_ℚ else zero_ℚ) (numbers_from (suc k) n)) v) step ∙ unit_from (suc k) n i v (omega (arith, h)))
    ∙ ap (λ a. a +ℚ slice_index_or v i zero_ℚ) (zero-mul_ℚ x) ∙ zero-add_ℚ (slice_index_or v i zero_ℚ)

all_zero : (x : List ℚ) (n : ℕ) → length x ≡ n → ((i : ℕ) → i < n → slice_index_or x i zero_ℚ ≡ zero_ℚ) → x ≡ zeros n
all_zero [] zero wide h = refl
all_zero [] (suc n) wide h = absurd (omega (arith, wide))
all_zero (q ∷ x) zero wide h = absurd (omega (arith, wide))
all_zero (q ∷ x) (suc n) wide h = ap₂ (λ a b. a ∷ b) (h 0 (omega arith)) (all_zero x n (omega (arith, wide)) (λ i l. h (suc i) (omega (arith, l))))

-- ---- a box
abbrev box : ℕ → List Bound
box n = replicate n (Double zero_ℚ one_ℚ)

abbrev Rises : List ℚ → Inequality → Type 0
Rises x s = zero_ℚ ≤ℚ dot s.normal x

-- a direction in which no side falls has the product 0 with each vector
level : (v : ℕ → List ℚ) (x : List ℚ) (k n j : ℕ) → All (Rises x) (sides_from v k (box n)) → j < n → dot (v (k + j)) x ≡ zero_ℚ
level v x k zero j h l = absurd (omega (arith, l))
level v x k (suc n) zero h l =
    let first = at_least (v k) zero_ℚ in
    let second = at_most (v k) one_ℚ in
    let later = sides_from v (suc k) (box n) in
    let low = All-head (Rises x) first (second ∷ later) h in
    let high = All-head (Rises x) second later (All-tail (Rises x) first (second ∷ later) h) in
    let same : k + 0 ≡ k = omega arith in
    ap (λ i. dot (v i) x) same
    ∙ zero_between (dot (v k) x) low
    (at_most_zero (dot (v k) x) (subst (λ (q : ℚ). zero_ℚ ≤ℚ q) (dot_comm (map neg_ℚ (v k)) x ∙ dot-negated x (v k) ∙ ap neg_ℚ (dot_comm x (v k))) high))
level v x k (suc n) (suc j) h l =
    let first = at_least (v k) zero_ℚ in
    let second = at_most (v k) one_ℚ in
    let later = sides_from v (suc k) (box n) in
    let step : k + suc j ≡ suc k + j = omega arith in
    ap (λ i. dot (v i) x) step
    ∙ level v x (suc k) n j (All-tail (Rises x) second later (All-tail (Rises x) first (second ∷ later) h)) (omega (arith, l))

-- 0 meets its sides
met : (v : ℕ → List ℚ) (m k n : ℕ) → All (λ s. s.bound ≤ℚ dot s.normal (zeros m)) (sides_from v k (box n))
met v m k zero = All-nil (λ s. s.bound ≤ℚ dot s.normal (zeros m))
met v m k (suc n) =
    let first = at_least (v k) zero_ℚ in
    let second = at_most (v k) one_ℚ in
    let later = sides_from v (suc k) (box n) in
    All-cons (λ s. s.bound ≤ℚ dot s.normal (zeros m)) first (second ∷ later) (le_of_same zero_ℚ (dot (v k) (zeros m)) (sym (dot-zeros (v k) m)))
    (All-cons (λ s. s.bound ≤ℚ dot s.normal (zeros m)) second later
    (subst (λ (q : ℚ). neg_ℚ one_ℚ ≤ℚ q) (sym (dot-zeros (map neg_ℚ (v k)) m)) (neg-nonpositive one_ℚ (lt-le_ℚ zero_ℚ one_ℚ zero-lt-one)))
    (met v m (suc k) n))

-- ---- the sides of a sample file
sides_are : (number : ℕ) (file : Problem) → IsSample number file → sides file ≡ sides_from (unit file.cols) 1 (box file.cols)
sides_are number file s =
    ap (λ (b : List Bound). sides_from (row_vector file) 1 b ++ sides_from (unit file.cols) 1 file.col_bounds) s.row_bounds
    ∙ ap (λ (b : List Bound). sides_from (unit file.cols) 1 b) (s.col_bounds ∙ ap box (sym s.cols))

bounded : (number : ℕ) (file : Problem) → IsSample number file → IsBounded file
bounded number file s x h =
    let rises : All (Rises x) (sides_from (unit file.cols) 1 (box file.cols)) = subst (All (Rises x)) (sides_are number file s) h.meets in
    all_zero x file.cols h.width (λ i l. sym (unit_from 1 file.cols i x l) ∙ level (unit file.cols) x 1 file.cols i rises l)

feasible : (number : ℕ) (file : Problem) → IsSample number file → IsFeasible file (zeros file.cols)
feasible number file s = record {
  width = length-zeros file.cols;
  meets = subst (All (λ e. e.bound ≤ℚ dot e.normal (zeros file.cols))) (sym (sides_are number file s)) (met (unit file.cols) file.cols 1 file.cols);
}

pub samples_are_solved : SamplesAreSolved
samples_are_solved number file answer s right =
    bounded_are_solved file (zeros file.cols) answer s.cone (feasible number file s) (bounded number file s) right
