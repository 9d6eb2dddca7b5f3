-- Vectors of which no combination is 0 but the one with no multiplier: each is not 0 at a vector at which those before it are.
use Rattle.std.proofs.Common.{◌≡◌, ◌≢◌, ℕ, suc, List, [], ◌∷◌, ◌++◌, length, All, refl, sym, ap, ap₂, ◌∙◌, arith, ◌⊎◌, inl, inr}
use Rattle.std.proofs.lemmas.List.{length-append}
use Rattle.std.proofs.lemmas.List.Elements.{All-nil, All-cons, All-head, All-tail}
use Rattle.exact_field.specs.Rational.{ℚ, zero_ℚ, ◌+ℚ◌, ◌*ℚ◌, ◌≤ℚ◌}
use Rattle.exact_field.specs.Vector.{dot}
use Rattle.exact_field.proofs.Rationals.{factor_zero, same_or_not}
use Rattle.polyhedra.specs.Cone.{HasFullRank}
use Rattle.polyhedra.specs.Dependence.{AreDependent}
use Rattle.polyhedra.specs.Vectors.{AreWide, zeros, values}
use Rattle.polyhedra.proofs.Algebra.{zero_mul, mul_zero, zero_add}
use Rattle.polyhedra.proofs.Dependence.{more_are_dependent, dependent_value}
use Rattle.polyhedra.proofs.Laws.{add_zero, mul_comm, le_refl}
use Rattle.polyhedra.proofs.Linear.{dot-nil}
use Rattle.polyhedra.proofs.Lists.{wide-nil, wide-cons, all_front, all_back}
use Rattle.polyhedra.proofs.Order.{add_nonneg, add_zero_left, add_zero_right, square_nonneg, square_zero}
use Rattle.recession.specs.Further.{IsOffAcross}

-- ---- sums of squares
squares_nonneg : (v : List ℚ) → zero_ℚ ≤ℚ dot v v
squares_nonneg [] = le_refl zero_ℚ
squares_nonneg (x ∷ v) = add_nonneg (x *ℚ x) (dot v v) (square_nonneg x) (squares_nonneg v)

-- a vector across itself is 0
across_itself : (v : List ℚ) → dot v v ≡ zero_ℚ → v ≡ zeros (length v)
across_itself [] h = refl
across_itself (x ∷ v) h =
    ap₂ (λ (a : ℚ) (b : List ℚ). a ∷ b)
    (square_zero x (add_zero_left (x *ℚ x) (dot v v) (square_nonneg x) (squares_nonneg v) h))
    (across_itself v (add_zero_right (x *ℚ x) (dot v v) (square_nonneg x) (squares_nonneg v) h))

-- ---- free vectors
pub record AreFree (vs : List (List ℚ)) : Type 0 where
  pub free : (ms : List ℚ) → length ms ≡ length vs → ((r : List ℚ) → dot ms (values vs r) ≡ zero_ℚ) → All (λ m. m ≡ zero_ℚ) ms

pub free-none : AreFree []
free-none = record { free = go }
  where
    go : (ms : List ℚ) → length ms ≡ 0 → ((r : List ℚ) → dot ms (values [] r) ≡ zero_ℚ) → All (λ m. m ≡ zero_ℚ) ms
    go [] l e = All-nil (λ m. m ≡ zero_ℚ)
    go (m ∷ ms) l e = absurd (omega arith)

pub values_across : (vs : List (List ℚ)) (ms d : List ℚ) → All (λ v. dot v d ≡ zero_ℚ) vs → dot ms (values vs d) ≡ zero_ℚ
values_across [] ms d h = dot-nil ms
values_across (v ∷ vs) [] d h = refl
values_across (v ∷ vs) (m ∷ ms) d h =
    ap₂ (λ (a b : ℚ). m *ℚ a +ℚ b) (All-head (λ u. dot u d ≡ zero_ℚ) v vs h) (values_across vs ms d (All-tail (λ u. dot u d ≡ zero_ℚ) v vs h))
    ∙ ap (λ (a : ℚ). a +ℚ zero_ℚ) (mul_zero m) ∙ add_zero zero_ℚ

pub free-more : (w d : List ℚ) (vs : List (List ℚ)) → AreFree vs → All (λ v. dot v d ≡ zero_ℚ) vs → dot w d ≢ zero_ℚ → AreFree (w ∷ vs)
free-more w d vs f across off = record { free = go }
  where
    go : (ms : List ℚ) → length ms ≡ length (w ∷ vs) → ((r : List ℚ) → dot ms (values (w ∷ vs) r) ≡ zero_ℚ) → All (λ m. m ≡ zero_ℚ) ms
    go [] l e = absurd (omega arith)
    go (m ∷ ms) l e =
        let first : m ≡ zero_ℚ = factor_zero m (dot w d)
        (sym (add_zero (m *ℚ dot w d)) ∙ ap (λ (a : ℚ). m *ℚ dot w d +ℚ a) (sym (values_across vs ms d across)) ∙ e d) off in
        All-cons (λ x. x ≡ zero_ℚ) m ms first
        (f.free ms (omega arith) (λ r. sym (ap (λ (a : ℚ). a *ℚ dot w r +ℚ dot ms (values vs r)) first
        ∙ ap (λ (a : ℚ). a +ℚ dot ms (values vs r)) (zero_mul (dot w r)) ∙ zero_add (dot ms (values vs r))) ∙ e r))

-- n free vectors of n entries have full rank
pub free-rank : (n : ℕ) (vs : List (List ℚ)) → AreWide n vs → length vs ≡ n → AreFree vs → HasFullRank n vs
free-rank n vs wide many f z long across =
    let d : AreDependent n (z ∷ vs) = more_are_dependent n (z ∷ vs) (wide-cons n z vs long wide) (omega arith) in
    go d.multipliers d.one_each d.not_all_zero (dependent_value n (z ∷ vs) d)
  where
    go : (ms : List ℚ) → length ms ≡ length (z ∷ vs) → (All (λ m. m ≡ zero_ℚ) ms → ⊥) → ((r : List ℚ) → dot ms (values (z ∷ vs) r) ≡ zero_ℚ) → z ≡ zeros n
    go [] l other e = absurd (omega arith)
    go (m ∷ ms) l other e = finish (same_or_not m zero_ℚ)
      where
        finish : (m ≡ zero_ℚ) ⊎ (m ≢ zero_ℚ) → z ≡ zeros n
        finish (inl first) =
            absurd (other (All-cons (λ x. x ≡ zero_ℚ) m ms first
            (f.free ms (omega arith) (λ r. sym (ap (λ (a : ℚ). a *ℚ dot z r +ℚ dot ms (values vs r)) first
            ∙ ap (λ (a : ℚ). a +ℚ dot ms (values vs r)) (zero_mul (dot z r)) ∙ zero_add (dot ms (values vs r))) ∙ e r))))
        finish (inr off) =
            across_itself z (factor_zero (dot z z) m
            (mul_comm (dot z z) m ∙ sym (add_zero (m *ℚ dot z z)) ∙ ap (λ (a : ℚ). m *ℚ dot z z +ℚ a) (sym (values_across vs ms z across)) ∙ e z) off)
            ∙ ap zeros long

-- ---- two lists
-- ---- normals of which each is not 0 at a vector at which those before it are
pub record HasFree (q : ℕ) (normals : List (List ℚ)) : Type 0 where
  pub rows : List (List ℚ)
  pub are_free : AreFree rows
  pub wide : AreWide q rows
  pub many : length rows ≡ length normals
  pub within : (z : List ℚ) → All (λ n. dot n z ≡ zero_ℚ) normals → All (λ r. dot r z ≡ zero_ℚ) rows

pub has_free-none : (q : ℕ) → HasFree q []
has_free-none q = record { rows = []; are_free = free-none; wide = wide-nil q; many = refl; within = λ z h. h }

pub has_free-more : (q : ℕ) (normals : List (List ℚ)) (w : List ℚ) → length w ≡ q → HasFree q normals → IsOffAcross q normals w →
    HasFree q (normals ++ w ∷ [])
has_free-more q normals w long h o = record {
  rows = w ∷ h.rows;
  are_free = free-more w o.d h.rows h.are_free (h.within o.d o.across) o.off;
  wide = wide-cons q w h.rows long h.wide;
  many = ap suc h.many ∙ omega (arith, length-append normals (w ∷ []));
  within = λ z all.
      let P : List ℚ → Type 0 = λ n. dot n z ≡ zero_ℚ in
      All-cons P w h.rows (All-head P w [] (all_back P normals (w ∷ []) all)) (h.within z (all_front P normals (w ∷ []) all));
}

pub has_free-rank : (q : ℕ) (normals : List (List ℚ)) → length normals ≡ q → HasFree q normals → HasFullRank q normals
has_free-rank q normals many h z long across = free-rank q h.rows h.wide (h.many ∙ many) h.are_free z long (h.within z across)
