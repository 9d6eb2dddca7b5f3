-- Cuts and sides that hold in the file of one variable and are no base things, computed.
use Rattle.std.proofs.Common.{◌≡◌, ◌≢◌, ℕ, zero, suc, ◌<◌, ◌≤◌, ◌-◌, true, false, true≢false, List, [], ◌∷◌, ◌++◌, length, refl, sym, ap, ap₂, ◌∙◌, subst, arith, ◌⊎◌, inl, inr, All, Contains, pos, negsuc, slice_index_or}
use Rattle.std.specs.Prelude.{◌==◌}
use Rattle.std.proofs.lemmas.List.Elements.{All-nil, All-weaker}
use Rattle.exact_field.specs.Gcd.{gcd}
use Rattle.exact_field.specs.Rational.{ℚ, zero_ℚ, one_ℚ, whole, fraction, ◌+ℚ◌, ◌-ℚ◌, ◌*ℚ◌, neg_ℚ, inverse_ℚ, le_ℚ}
use Rattle.exact_field.specs.Vector.{entry, dot}
use Rattle.exact_field.specs.Ring.{var, num, ◌⊕◌, ◌⊗◌, ◌⊝◌, v0, v1, v2, v3, v4, v5}
use Rattle.exact_field.specs.declared.op.Op.TheVariants.{Div}
use Rattle.exact_field.proofs.RingTool.{ring}
use Rattle.exact_field.proofs.Rationals.{rationals}
use Rattle.polyhedra.specs.DoubleDescription.{leading}
use Rattle.polyhedra.specs.Hull.{IsMultiple}
use Rattle.polyhedra.specs.Negatives.{negated}
use Rattle.polyhedra.specs.Vectors.{zeros, values}
use Rattle.polyhedra.proofs.Laws.{mul_one}
use Rattle.polyhedra.proofs.Algebra.{zero_mul, zero_add}
use Rattle.polyhedra.proofs.Lists.{Contains-here, Contains-nil}
use Rattle.polyhedra.proofs.Members.{member_of}
use Rattle.polyhedra.proofs.Negatives.{negated_twice}
use Rattle.polyhedra.proofs.Order.{same_or_not}
use Rattle.polyhedra.proofs.Tests.{same_vector_is}
use Rattle.tableaux.specs.Table.{Table, System, row_of, column_of, right_column}
use Rattle.tableaux.specs.Dictionary.{IsFullDictionaryOf, value_of_column, solution}
use Rattle.tableaux.proofs.Places.{same_or_other, listed-place}
use Rattle.tableaux.proofs.Products.{value-is}
use Rattle.deriv_log.specs.declared.licence.Place.TheVariants.{Pivot}
use Rattle.vlp_problem.specs.declared.program.Program.TheVariants.{Weight}
use Rattle.lp_form.specs.Programs.{benson_system, w_of}
use Rattle.overflows.specs.Base.{IsGoodSolutionOff, IsBaseWeight, IsBaseCut, IsBaseNormal, IsBaseStart, IsSide}
use Rattle.overflows.specs.Dictionaries.{IsAllowed, IsProgramStep}
use Rattle.overflows.specs.Examples.{n, minus, half, is_few, ones, trail_of, cut_entry}
use Rattle.overflows.specs.FeasibleExamples.{halves, half_side, half_cut, FeasibleExamples}
use Rattle.overflows.specs.PairExamples.{narrow, in_narrow, OverflowsNarrow}
use Rattle.overflows.specs.Products.{IsBaseW}
use Rattle.overflows.specs.Steps.{operation}
use Rattle.overflows.specs.Trails.{IsBaseTrail}
use Rattle.overflows.proofs.FullBases.{no_more}
use Rattle.overflows.proofs.Values.{equal, apart}
use Rattle.overflows.proofs.WorkedPairs.{known_is, seven, with_c}
use Rattle.overflows.proofs.WorkedChoices.{no_choice, no_ray}
use Rattle.overflows.proofs.WorkedWeights.{no_row, no_weight}

-- ---- cuts
-- Benson's program at the origin: u, the two lists of w, and two unknowns after them
abbrev cuts_program : System
cuts_program = benson_system narrow ones (zeros 2) true

first_equation : row_of cuts_program.equations 1 ≡ one_ℚ ∷ minus 2 ∷ one_ℚ ∷ n 2 ∷ minus 1 ∷ zero_ℚ ∷ zero_ℚ ∷ []
unfolding whole fraction gcd ◌+ℚ◌ ◌*ℚ◌ neg_ℚ inverse_ℚ le_ℚ
first_equation = same_vector_is (row_of cuts_program.equations 1) (one_ℚ ∷ minus 2 ∷ one_ℚ ∷ n 2 ∷ minus 1 ∷ zero_ℚ ∷ zero_ℚ ∷ []) refl

second_equation : row_of cuts_program.equations 2 ≡ zero_ℚ ∷ one_ℚ ∷ zero_ℚ ∷ minus 1 ∷ zero_ℚ ∷ minus 1 ∷ zero_ℚ ∷ []
unfolding whole fraction gcd ◌+ℚ◌ ◌*ℚ◌ neg_ℚ inverse_ℚ le_ℚ
second_equation = same_vector_is (row_of cuts_program.equations 2) (zero_ℚ ∷ one_ℚ ∷ zero_ℚ ∷ minus 1 ∷ zero_ℚ ∷ minus 1 ∷ zero_ℚ ∷ []) refl

third_equation : row_of cuts_program.equations 3 ≡ zero_ℚ ∷ zero_ℚ ∷ one_ℚ ∷ zero_ℚ ∷ minus 1 ∷ zero_ℚ ∷ minus 1 ∷ []
unfolding whole fraction gcd ◌+ℚ◌ ◌*ℚ◌ neg_ℚ inverse_ℚ le_ℚ
third_equation = same_vector_is (row_of cuts_program.equations 3) (zero_ℚ ∷ zero_ℚ ∷ one_ℚ ∷ zero_ℚ ∷ minus 1 ∷ zero_ℚ ∷ minus 1 ∷ []) refl

half_apart : half ≡ zero_ℚ → ⊥
unfolding whole fraction gcd ◌+ℚ◌ ◌*ℚ◌ neg_ℚ inverse_ℚ le_ℚ
half_apart = apart half zero_ℚ refl

half_left : n 2 *ℚ half +ℚ minus 1 *ℚ half ≡ half
unfolding whole fraction gcd ◌+ℚ◌ ◌*ℚ◌ neg_ℚ inverse_ℚ le_ℚ
half_left = equal (n 2 *ℚ half +ℚ minus 1 *ℚ half) half refl

none_left : zero_ℚ -ℚ zero_ℚ ≡ zero_ℚ
unfolding whole fraction gcd ◌+ℚ◌ ◌*ℚ◌ neg_ℚ inverse_ℚ le_ℚ
none_left = equal (zero_ℚ -ℚ zero_ℚ) zero_ℚ refl

-- the entry at this place is not 0
abbrev IsSomeAt : List ℚ → ℕ → Type 0
IsSomeAt z j = entry z j ≡ zero_ℚ → ⊥

-- where w is (1/2, 1/2), five entries are not 0
pub record AreFive (z : List ℚ) : Type 0 where
  pub p : ℕ
  pub q : ℕ
  pub p_is : (p ≡ 2) ⊎ (p ≡ 4)
  pub q_is : (q ≡ 3) ⊎ (q ≡ 5)
  pub u_some : IsSomeAt z 1
  pub p_some : IsSomeAt z p
  pub q_some : IsSomeAt z q
  pub first_some : IsSomeAt z 6
  pub second_some : IsSomeAt z 7

are_five : (z : List ℚ) → length z ≡ 7 → values cuts_program.equations z ≡ cuts_program.right → halves ≡ w_of narrow z → AreFive z
unfolding whole
are_five = seven (λ (z : List ℚ). values cuts_program.equations z ≡ cuts_program.right → halves ≡ w_of narrow z → AreFive z)
    (λ u a b c d k l h w. five_of u a b c d k l
    (sym (ap (λ (r : List ℚ). dot r (u ∷ a ∷ b ∷ c ∷ d ∷ k ∷ l ∷ [])) first_equation) ∙ ap (λ (v : List ℚ). entry v 1) h)
    (sym (ap (λ (r : List ℚ). dot r (u ∷ a ∷ b ∷ c ∷ d ∷ k ∷ l ∷ [])) second_equation) ∙ ap (λ (v : List ℚ). entry v 2) h)
    (sym (ap (λ (r : List ℚ). dot r (u ∷ a ∷ b ∷ c ∷ d ∷ k ∷ l ∷ [])) third_equation) ∙ ap (λ (v : List ℚ). entry v 3) h)
    (ap (λ (v : List ℚ). entry v 1) w) (ap (λ (v : List ℚ). entry v 2) w))
  where
    one_of : (j m : ℕ) (z : List ℚ) (x y : ℚ) → entry z j ≡ x → entry z m ≡ y → half ≡ x -ℚ y → (k : ℕ) × ((k ≡ j) ⊎ (k ≡ m)) × IsSomeAt z k
    one_of j m z x y is_x is_y e = go (same_or_not x zero_ℚ)
      where
        go : (x ≡ zero_ℚ) ⊎ (x ≢ zero_ℚ) → (k : ℕ) × ((k ≡ j) ⊎ (k ≡ m)) × IsSomeAt z k
        go (inr some) = (j, inl refl, λ zero_there. some (sym is_x ∙ zero_there))
        go (inl none) = (m, inr refl, λ zero_there. half_apart (e ∙ ap (λ (q : ℚ). q -ℚ y) none ∙ ap (λ (q : ℚ). zero_ℚ -ℚ q) (sym is_y ∙ zero_there) ∙ none_left))

    five_of : (u a b c d k l : ℚ) →
        dot (one_ℚ ∷ minus 2 ∷ one_ℚ ∷ n 2 ∷ minus 1 ∷ zero_ℚ ∷ zero_ℚ ∷ []) (u ∷ a ∷ b ∷ c ∷ d ∷ k ∷ l ∷ []) ≡ zero_ℚ →
        dot (zero_ℚ ∷ one_ℚ ∷ zero_ℚ ∷ minus 1 ∷ zero_ℚ ∷ minus 1 ∷ zero_ℚ ∷ []) (u ∷ a ∷ b ∷ c ∷ d ∷ k ∷ l ∷ []) ≡ zero_ℚ →
        dot (zero_ℚ ∷ zero_ℚ ∷ one_ℚ ∷ zero_ℚ ∷ minus 1 ∷ zero_ℚ ∷ minus 1 ∷ []) (u ∷ a ∷ b ∷ c ∷ d ∷ k ∷ l ∷ []) ≡ zero_ℚ →
        half ≡ a -ℚ c → half ≡ b -ℚ d → AreFive (u ∷ a ∷ b ∷ c ∷ d ∷ k ∷ l ∷ [])
    five_of u a b c d k l f g h x y =
        let z : List ℚ = u ∷ a ∷ b ∷ c ∷ d ∷ k ∷ l ∷ [] in
        let first : (m : ℕ) × ((m ≡ 2) ⊎ (m ≡ 4)) × IsSomeAt z m = one_of 2 4 z a c refl refl x in
        let second : (m : ℕ) × ((m ≡ 3) ⊎ (m ≡ 5)) × IsSomeAt z m = one_of 3 5 z b d refl refl y in
        record {
          p = first.0;
          q = second.0;
          p_is = first.1;
          q_is = second.1;
          u_some = λ none. half_apart (sym half_left ∙ ap₂ (λ (v w : ℚ). n 2 *ℚ v +ℚ minus 1 *ℚ w) x y
              ∙ ring rationals (u ∷ a ∷ b ∷ c ∷ d ∷ k ∷ l ∷ [])
              (num (pos 2) ⊗ (v1 ⊝ v3) ⊕ num (negsuc 0) ⊗ (v2 ⊝ v4))
              (v0 ⊝ (num (pos 1) ⊗ v0 ⊕ (num (negsuc 1) ⊗ v1 ⊕ (num (pos 1) ⊗ v2 ⊕ (num (pos 2) ⊗ v3 ⊕ (num (negsuc 0) ⊗ v4 ⊕ (num (pos 0) ⊗ v5 ⊕ (num (pos 0) ⊗ var 6 ⊕ num (pos 0))))))))) refl
              ∙ ap₂ (λ (v w : ℚ). v -ℚ w) none f ∙ none_left);
          p_some = first.2;
          q_some = second.2;
          first_some = λ none. half_apart (x
              ∙ ring rationals (u ∷ a ∷ b ∷ c ∷ d ∷ k ∷ l ∷ [])
              (v1 ⊝ v3)
              ((num (pos 0) ⊗ v0 ⊕ (num (pos 1) ⊗ v1 ⊕ (num (pos 0) ⊗ v2 ⊕ (num (negsuc 0) ⊗ v3 ⊕ (num (pos 0) ⊗ v4 ⊕ (num (negsuc 0) ⊗ v5 ⊕ (num (pos 0) ⊗ var 6 ⊕ num (pos 0)))))))) ⊕ v5) refl
              ∙ ap₂ (λ (v w : ℚ). v +ℚ w) g none ∙ zero_add zero_ℚ);
          second_some = λ none. half_apart (y
              ∙ ring rationals (u ∷ a ∷ b ∷ c ∷ d ∷ k ∷ l ∷ [])
              (v2 ⊝ v4)
              ((num (pos 0) ⊗ v0 ⊕ (num (pos 0) ⊗ v1 ⊕ (num (pos 1) ⊗ v2 ⊕ (num (pos 0) ⊗ v3 ⊕ (num (negsuc 0) ⊗ v4 ⊕ (num (pos 0) ⊗ v5 ⊕ (num (negsuc 0) ⊗ var 6 ⊕ num (pos 0)))))))) ⊕ var 6) refl
              ∙ ap₂ (λ (v w : ℚ). v +ℚ w) h none ∙ zero_add zero_ℚ);
        }

-- an entry of a solution that is not 0 has a row, of which there are four
abbrev HasRow : List ℕ → ℕ → Type 0
HasRow basis j = (k : ℕ) × (k < 4) × (slice_index_or basis k 0 ≡ j)

has_row : (basis : List ℕ) (d : Table) → IsFullDictionaryOf cuts_program basis d → (z : List ℚ) → z ≡ solution cuts_program basis d →
    (j : ℕ) → 1 ≤ j → j ≤ 7 → IsSomeAt z j → HasRow basis j
unfolding whole
has_row basis d h z is j l u some =
    go (same_or_other (slice_index_or basis 0 0) j) (same_or_other (slice_index_or basis 1 0) j)
    (same_or_other (slice_index_or basis 2 0) j) (same_or_other (slice_index_or basis 3 0) j)
  where
    Tells : ℕ → Type 0
    Tells k = ((slice_index_or basis k 0 ≡ j) × ((slice_index_or basis k 0 == j) ≡ true)) ⊎ ((slice_index_or basis k 0 ≢ j) × ((slice_index_or basis k 0 == j) ≡ false))

    other : slice_index_or basis 0 0 ≢ j → slice_index_or basis 1 0 ≢ j → slice_index_or basis 2 0 ≢ j → slice_index_or basis 3 0 ≢ j → (k : ℕ) →
        slice_index_or basis k 0 ≡ j → ⊥
    other a b c e zero same = a same
    other a b c e (suc zero) same = b same
    other a b c e (suc (suc zero)) same = c same
    other a b c e (suc (suc (suc zero))) same = e same
    other a b c e (suc (suc (suc (suc k)))) same =
        let over : 4 < suc (suc (suc (suc (suc k)))) = omega arith in
        let none : slice_index_or basis (suc (suc (suc (suc (suc k)))) - 1) 0 ≡ 0 =
        h.dictionary.columns.equations_only (suc (suc (suc (suc (suc k))))) over in
        let back : suc (suc (suc (suc (suc k)))) - 1 ≡ suc (suc (suc (suc k))) = omega arith in
        let zero_there : slice_index_or basis (suc (suc (suc (suc k)))) 0 ≡ 0 = ap (λ (m : ℕ). slice_index_or basis m 0) (sym back) ∙ none in
        omega (arith, same, zero_there, l)

    nowhere : slice_index_or basis 0 0 ≢ j → slice_index_or basis 1 0 ≢ j → slice_index_or basis 2 0 ≢ j → slice_index_or basis 3 0 ≢ j → ⊥
    nowhere a b c e = some (ap (λ (v : List ℚ). entry v j) is
        ∙ listed-place 7 (value_of_column basis (column_of d (right_column cuts_program))) j zero_ℚ l u
        ∙ value-is (λ (q : ℚ). q ≡ zero_ℚ) basis (column_of d (right_column cuts_program)) j refl (λ k low same. absurd (other a b c e k same)))

    go : Tells 0 → Tells 1 → Tells 2 → Tells 3 → HasRow basis j
    go (inl a) b c e = (0, omega arith, a.0)
    go (inr a) (inl b) c e = (1, omega arith, b.0)
    go (inr a) (inr b) (inl c) e = (2, omega arith, c.0)
    go (inr a) (inr b) (inr c) (inl e) = (3, omega arith, e.0)
    go (inr a) (inr b) (inr c) (inr e) = absurd (nowhere a.0 b.0 c.0 e.0)

-- five numbers by their places
abbrev listed_at : (a b c d e : ℕ) → ℕ → ℕ
listed_at a b c d e zero = a
listed_at a b c d e (suc zero) = b
listed_at a b c d e (suc (suc zero)) = c
listed_at a b c d e (suc (suc (suc zero))) = d
listed_at a b c d e (suc (suc (suc (suc k)))) = e

distinct : (p q : ℕ) → 1 < p → p < 6 → 1 < q → q < 6 → p ≢ q → (i j : ℕ) → i < j → j < 5 → listed_at 1 p q 6 7 i ≡ listed_at 1 p q 6 7 j → ⊥
distinct p q a b c d differ zero zero l u e = omega (arith, l)
distinct p q a b c d differ zero (suc zero) l u e = omega (arith, a, e)
distinct p q a b c d differ zero (suc (suc zero)) l u e = omega (arith, c, e)
distinct p q a b c d differ zero (suc (suc (suc zero))) l u e = omega (arith, e)
distinct p q a b c d differ zero (suc (suc (suc (suc j)))) l u e = omega (arith, e)
distinct p q a b c d differ (suc zero) zero l u e = omega (arith, l)
distinct p q a b c d differ (suc zero) (suc zero) l u e = omega (arith, l)
distinct p q a b c d differ (suc zero) (suc (suc zero)) l u e = differ e
distinct p q a b c d differ (suc zero) (suc (suc (suc zero))) l u e = omega (arith, b, e)
distinct p q a b c d differ (suc zero) (suc (suc (suc (suc j)))) l u e = omega (arith, b, e)
distinct p q a b c d differ (suc (suc zero)) zero l u e = omega (arith, l)
distinct p q a b c d differ (suc (suc zero)) (suc zero) l u e = omega (arith, l)
distinct p q a b c d differ (suc (suc zero)) (suc (suc zero)) l u e = omega (arith, l)
distinct p q a b c d differ (suc (suc zero)) (suc (suc (suc zero))) l u e = omega (arith, d, e)
distinct p q a b c d differ (suc (suc zero)) (suc (suc (suc (suc j)))) l u e = omega (arith, d, e)
distinct p q a b c d differ (suc (suc (suc zero))) zero l u e = omega (arith, l)
distinct p q a b c d differ (suc (suc (suc zero))) (suc zero) l u e = omega (arith, l)
distinct p q a b c d differ (suc (suc (suc zero))) (suc (suc zero)) l u e = omega (arith, l)
distinct p q a b c d differ (suc (suc (suc zero))) (suc (suc (suc zero))) l u e = omega (arith, l)
distinct p q a b c d differ (suc (suc (suc zero))) (suc (suc (suc (suc j)))) l u e = omega (arith, e)
distinct p q a b c d differ (suc (suc (suc (suc i)))) j l u e = omega (arith, l, u)

-- five columns have no four rows
no_five : (basis : List ℕ) (p q : ℕ) → 1 < p → p < 6 → 1 < q → q < 6 → p ≢ q → HasRow basis 1 → HasRow basis p → HasRow basis q → HasRow basis 6 → HasRow basis 7 → ⊥
no_five basis p q a b c d differ r s t u v = no_more 4 (listed_at r.0 s.0 t.0 u.0 v.0) inside once
  where
    inside : (i : ℕ) → i < 5 → listed_at r.0 s.0 t.0 u.0 v.0 i < 4
    inside zero l = r.1
    inside (suc zero) l = s.1
    inside (suc (suc zero)) l = t.1
    inside (suc (suc (suc zero))) l = u.1
    inside (suc (suc (suc (suc i)))) l = v.1

    there : (i : ℕ) → slice_index_or basis (listed_at r.0 s.0 t.0 u.0 v.0 i) 0 ≡ listed_at 1 p q 6 7 i
    there zero = r.2
    there (suc zero) = s.2
    there (suc (suc zero)) = t.2
    there (suc (suc (suc zero))) = u.2
    there (suc (suc (suc (suc i)))) = v.2

    once : (i j : ℕ) → i < j → j < 5 → listed_at r.0 s.0 t.0 u.0 v.0 i ≡ listed_at r.0 s.0 t.0 u.0 v.0 j → ⊥
    once i j l m e = distinct p q a b c d differ i j l m (sym (there i) ∙ ap (λ (k : ℕ). slice_index_or basis k 0) e ∙ there j)

no_solution : (z : List ℚ) → IsGoodSolutionOff cuts_program z → halves ≡ w_of narrow z → ⊥
unfolding whole
no_solution z (read, good) w = go (are_five z (ap (λ (y : List ℚ). length y) read.reads) good.equal w)
  where
    row : (j : ℕ) → 1 ≤ j → j ≤ 7 → IsSomeAt z j → HasRow read.basis j
    row = has_row read.basis read.dictionary read.full z read.reads

    by : (f : AreFive z) → 1 < f.p → f.p < 6 → 1 < f.q → f.q < 6 → f.p ≢ f.q → ⊥
    by f a b c d differ =
        no_five read.basis f.p f.q a b c d differ (row 1 (omega arith) (omega arith) f.u_some) (row f.p (omega (arith, a)) (omega (arith, b)) f.p_some)
        (row f.q (omega (arith, c)) (omega (arith, d)) f.q_some) (row 6 (omega arith) (omega arith) f.first_some) (row 7 (omega arith) (omega arith) f.second_some)

    go : AreFive z → ⊥
    go f = elim f.p_is [
      | inl x ↦ elim f.q_is [
        | inl y ↦ by f (omega (arith, x)) (omega (arith, x)) (omega (arith, y)) (omega (arith, y)) (λ e. omega (arith, e, x, y))
        | inr y ↦ by f (omega (arith, x)) (omega (arith, x)) (omega (arith, y)) (omega (arith, y)) (λ e. omega (arith, e, x, y))
      ]
      | inr x ↦ elim f.q_is [
        | inl y ↦ by f (omega (arith, x)) (omega (arith, x)) (omega (arith, y)) (omega (arith, y)) (λ e. omega (arith, e, x, y))
        | inr y ↦ by f (omega (arith, x)) (omega (arith, x)) (omega (arith, y)) (omega (arith, y)) (λ e. omega (arith, e, x, y))
      ]
    ]

no_normal : IsBaseNormal narrow ones halves → ⊥
unfolding whole
no_normal (u, v, IsBaseCut.of_benson z read is parts) = no_solution z read is
no_normal (u, v, IsBaseCut.of_weight z h read parts) = no_weight h

no_cut : IsBaseCut narrow ones halves half_side [] → ⊥
no_cut h = no_normal (half_side, [], h)

no_trail : IsBaseTrail narrow ones [] (trail_of ones ++ half_cut ∷ []) → ⊥
no_trail t = no_cut (t.base (trail_of ones) half_cut [] refl)

no_w : IsBaseW in_narrow halves → ⊥
no_w (c, known, inl h) = no_normal (subst (λ (d : List ℚ). IsBaseNormal narrow d halves) (known_is c known) h)
no_w (c, known, inr h) = no_weight (subst (λ (d : List ℚ). IsBaseWeight narrow d halves) (known_is c known) h)

no_allowed : IsAllowed in_narrow (Weight halves) → ⊥
no_allowed (inl (c, known, h)) = no_weight (subst (λ (d : List ℚ). IsBaseWeight narrow d halves) (known_is c known) h)
no_allowed (inr h) = Contains-nil halves h

no_program : OverflowsNarrow (Pivot (Weight halves) [] 1 1 1) (operation Div (minus 2) (n 1)) → ⊥
no_program h =
    let o : IsProgramStep is_few in_narrow (Weight halves) [] 1 1 1 (operation Div (minus 2) (n 1)) = h.operands in
    no_allowed o.allowed

-- ---- sides
abbrev slanted : List ℚ
slanted = n 1 ∷ n 7 ∷ []

turned_back : (d : List ℚ) → slanted ≡ negated d → leading d ≡ one_ℚ → ⊥
unfolding whole fraction gcd ◌+ℚ◌ ◌*ℚ◌ neg_ℚ inverse_ℚ le_ℚ
turned_back d e h =
    let back : negated slanted ≡ d = ap negated e ∙ negated_twice d in
    apart (minus 1) one_ℚ refl (equal (minus 1) (leading (negated slanted)) refl ∙ ap leading back ∙ h)

-- the unit vector is 0 where (1, 7) is
flat_there : (places : List ℕ) → All (λ k. entry slanted k ≡ zero_ℚ) places → All (λ k. entry (zero_ℚ ∷ one_ℚ ∷ []) k ≡ zero_ℚ) places
unfolding whole fraction gcd ◌+ℚ◌ ◌*ℚ◌ neg_ℚ inverse_ℚ le_ℚ
flat_there places h = All-weaker (λ k. entry slanted k ≡ zero_ℚ) (λ k. entry (zero_ℚ ∷ one_ℚ ∷ []) k ≡ zero_ℚ) weaker places h
  where
    weaker : (k : ℕ) → entry slanted k ≡ zero_ℚ → entry (zero_ℚ ∷ one_ℚ ∷ []) k ≡ zero_ℚ
    weaker zero e = absurd (apart (n 1) zero_ℚ refl e)
    weaker (suc zero) e = absurd (apart (n 1) zero_ℚ refl e)
    weaker (suc (suc zero)) e = absurd (apart (n 7) zero_ℚ refl e)
    weaker (suc (suc (suc k))) e =
        let back : suc (suc (suc k)) - 1 ≡ suc (suc k) = omega arith in
        ap (λ (m : ℕ). slice_index_or (zero_ℚ ∷ one_ℚ ∷ []) m zero_ℚ) back

no_factor : IsMultiple slanted (zero_ℚ ∷ one_ℚ ∷ []) → ⊥
unfolding whole fraction gcd ◌+ℚ◌ ◌*ℚ◌ neg_ℚ inverse_ℚ le_ℚ
no_factor m =
    let none : zero_ℚ ≡ m.factor = ap (λ (v : List ℚ). entry v 1) m.same ∙ mul_one m.factor in
    apart one_ℚ zero_ℚ refl (ap (λ (v : List ℚ). entry v 2) m.same ∙ ap (λ (f : ℚ). f *ℚ n 7) (sym none) ∙ zero_mul (n 7))

no_span_of : IsSide 2 [] slanted → ⊥
no_span_of s = no_factor (s.spans (zero_ℚ ∷ one_ℚ ∷ []) (record { wide = refl; at_places = flat_there s.places s.flat.at_places; across = All-nil (λ w. dot w (zero_ℚ ∷ one_ℚ ∷ []) ≡ zero_ℚ) }))

no_span : IsBaseStart 2 (trail_of ones) slanted false → ⊥
no_span (IsBaseStart.origin e f) = true≢false (sym f)
no_span (IsBaseStart.live g live e) = Contains-nil g live
no_span (IsBaseStart.side s e) = no_span_of s
no_span (IsBaseStart.other_side d s e f) = turned_back d e s.starts

not_across_of : (normals : List (List ℚ)) → Contains normals (half ∷ half ∷ []) → IsSide 2 normals slanted → ⊥
unfolding whole fraction gcd ◌+ℚ◌ ◌*ℚ◌ neg_ℚ inverse_ℚ le_ℚ
not_across_of normals h s =
    apart (dot (half ∷ half ∷ []) slanted) zero_ℚ refl (member_of (λ w. dot w slanted ≡ zero_ℚ) normals (half ∷ half ∷ []) s.flat.across h)

not_across : IsBaseStart 2 (trail_of ones ++ cut_entry ∷ []) slanted false → ⊥
not_across (IsBaseStart.origin e f) = true≢false (sym f)
not_across (IsBaseStart.live g live e) = Contains-nil g live
not_across (IsBaseStart.side s e) = not_across_of ((half ∷ half ∷ []) ∷ []) (Contains-here (half ∷ half ∷ []) [] (half ∷ half ∷ []) refl) s
not_across (IsBaseStart.other_side d s e f) = turned_back d e s.starts

pub feasible_examples : FeasibleExamples
feasible_examples = record {
  no_choice = no_choice;
  no_row = no_row;
  no_ray = no_ray;
  no_weight = no_weight;
  no_cut = no_cut;
  no_trail = no_trail;
  no_product = λ h. no_w (with_c halves h);
  no_program = no_program;
  no_span = no_span;
  not_across = not_across;
}
