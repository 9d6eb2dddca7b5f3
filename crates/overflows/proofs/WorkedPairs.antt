-- The worked pairs of lists and the worked divided vectors, computed.
use Rattle.std.proofs.Common.{◌≡◌, ℕ, ◌-◌, ◌≤◌, true, false, ◌&&◌, true≢false, List, [], ◌∷◌, ◌++◌, length, take, refl, sym, ap, ◌∙◌, subst, arith, ◌⊎◌, inl, inr, All, Contains, Option, Some, pos}
use Rattle.std.proofs.Math.Dec.{lit≤, lit<}
use Rattle.std.proofs.lemmas.List.Elements.{All-nil, All-cons, All-append, All-drop, All-take, All-weaker}
use Rattle.exact_field.specs.Gcd.{gcd}
use Rattle.exact_field.specs.Order.{same_ℚ}
use Rattle.exact_field.specs.Rational.{ℚ, zero_ℚ, one_ℚ, whole, fraction, ◌+ℚ◌, ◌*ℚ◌, neg_ℚ, inverse_ℚ, le_ℚ}
use Rattle.exact_field.specs.Vector.{entry, dot, front}
use Rattle.exact_field.specs.Ring.{var, num, ◌⊕◌, ◌⊗◌, ⊖, ◌⊝◌, v0, v1, v2, v3, v4, v5}
use Rattle.exact_field.specs.declared.op.Op.TheVariants.{Add, Mul}
use Rattle.exact_field.specs.declared.op.Left.{Left}
use Rattle.exact_field.proofs.Comparison.{same_ℚ-is}
use Rattle.exact_field.proofs.RingTool.{ring}
use Rattle.exact_field.proofs.Rationals.{rationals}
use Rattle.polyhedra.specs.DoubleDescription.{IsNormed, leading}
use Rattle.polyhedra.specs.Exactness.{level}
use Rattle.polyhedra.specs.Negatives.{negated}
use Rattle.polyhedra.specs.Vectors.{AtLeastZero, AreWide, values}
use Rattle.polyhedra.specs.LiveList.{Numbered, LiveList, step}
use Rattle.polyhedra.proofs.Lists.{Nonneg, HasWidth, Contains-here, Contains-cases, Contains-nil}
use Rattle.polyhedra.proofs.Members.{member_of}
use Rattle.polyhedra.proofs.Negatives.{negated_twice}
use Rattle.polyhedra.proofs.Tests.{both_hold, list_all-true, same_vector_is}
use Rattle.tableaux.specs.Table.{System, table_of}
use Rattle.tableaux.specs.Dictionary.{IsFullDictionaryOf, solution, multipliers}
use Rattle.tableaux.specs.Simplex.{IsSolution}
use Rattle.frac128.specs.declared.vectors.Spot.{Spot}
use Rattle.vlp_problem.specs.Sides.{sides, IsFeasible, IsRecession}
use Rattle.vlp_problem.specs.Values.{cone_vectors}
use Rattle.upper_image.specs.UpperImage.{normals, objectives}
use Rattle.upper_image.specs.Spots.{column, dense}
use Rattle.deriv_log.specs.declared.entry.Entry.{Entry}
use Rattle.deriv_log.specs.declared.entry.Entry.TheVariants.{Version, Duality, Point, Ray, Whole, Line}
use Rattle.deriv_log.specs.declared.licence.Family.{Family}
use Rattle.deriv_log.specs.declared.licence.Place.TheVariants.{Elim}
use Rattle.lin_rows.specs.Sums.{partial}
use Rattle.lp_form.specs.Programs.{side_total, feasible_system, benson_system, u_of, w_of, v_of}
use Rattle.overflows.specs.Base.{IsSolutionOff, AreMultipliersOff, IsBaseChoice, IsBaseCut, IsBaseNormal, IsBaseRow, IsBaseStart, IsBaseWeight, weight_of}
use Rattle.overflows.specs.Dictionaries.{IsElimStep}
use Rattle.overflows.specs.Examples.{n, minus, half, minus_half, is_few, ones, trail_of, setting}
use Rattle.overflows.specs.Generators.{IsMadeOver, IsAddition, filled}
use Rattle.overflows.specs.Licence.{IsOverflow}
use Rattle.overflows.specs.PairExamples.{narrow, in_dual_form, in_narrow, third, OverflowsNarrow, PairExamples}
use Rattle.overflows.specs.Products.{IsListStep, IsBaseU, IsBaseW, IsTrailEntry, IsChoiceOf, AreSharesOf, IsBaseX, AreBaseShares, IsRowOrWeight, IsStartOrGenerator, AreMultiplied}
use Rattle.overflows.specs.Settings.{Setting, vector_of}
use Rattle.overflows.specs.Steps.{operation, IsProductStep}
use Rattle.geo_duality.specs.Rows.{exchange_row}
use Rattle.overflows.specs.Trails.{IsBaseTrail}
use Rattle.overflows.proofs.FirstCut.{at_least_zero}
use Rattle.overflows.proofs.Given.{overflow_laws}
use Rattle.overflows.proofs.Making.{generator_laws}
use Rattle.overflows.proofs.Pivots.{Pivots, table_after}
use Rattle.overflows.proofs.Values.{equal, apart, wide_test}
use Rattle.overflows.proofs.WorkedBase.{full_after}

-- ---- the cuts of Benson's program
abbrev program : System
program = benson_system narrow ones (n 0 ∷ n 0 ∷ []) true

abbrev pivots : Pivots
pivots = (0, 1) ∷ (3, 2) ∷ (2, 3) ∷ (1, 6) ∷ []

abbrev basis : List ℕ
basis = 1 ∷ 6 ∷ 3 ∷ 2 ∷ []

is_full : IsFullDictionaryOf program basis (table_after (table_of program) pivots)
unfolding whole fraction gcd ◌+ℚ◌ ◌*ℚ◌ neg_ℚ inverse_ℚ le_ℚ
is_full = full_after program basis pivots refl refl refl refl refl refl

abbrev z : List ℚ
z = n 2 ∷ n 1 ∷ n 0 ∷ n 0 ∷ n 0 ∷ n 1 ∷ n 0 ∷ []

is_read : IsSolutionOff program z
unfolding whole fraction gcd ◌+ℚ◌ ◌*ℚ◌ neg_ℚ inverse_ℚ le_ℚ
is_read = record {
  basis = basis;
  dictionary = table_after (table_of program) pivots;
  full = is_full;
  reads = same_vector_is z (solution program basis (table_after (table_of program) pivots)) refl;
}

solves : IsSolution program.equations program.right z
unfolding whole fraction gcd ◌+ℚ◌ ◌*ℚ◌ neg_ℚ inverse_ℚ le_ℚ
solves = record { at_least_zero = at_least_zero z refl; equal = same_vector_is (values program.equations z) program.right refl }

cut : IsBaseCut narrow ones (n 1 ∷ n 0 ∷ []) (record { at = 1; value = n 2 } ∷ []) []
unfolding whole fraction gcd ◌+ℚ◌ ◌*ℚ◌ neg_ℚ inverse_ℚ le_ℚ
cut = IsBaseCut.of_benson z (is_read, solves) (same_vector_is (n 1 ∷ n 0 ∷ []) (w_of narrow z) refl)
    (record { dual = same_vector_is (dense (side_total narrow) (record { at = 1; value = n 2 } ∷ [])) (u_of narrow z) refl; cone = refl })

bounds : OverflowsNarrow (Elim [] [] 0 1 2) (operation Mul (n 3) (n 2))
unfolding whole fraction gcd ◌+ℚ◌ ◌*ℚ◌ neg_ℚ inverse_ℚ le_ℚ
bounds = overflow_laws.term is_few in_narrow (n 3 ∷ []) (n 2 ∷ []) 1 (operation Mul (n 3) (n 2)) refl
    (inl (AreMultiplied.bounds refl (inl (ones, n 1 ∷ n 0 ∷ [], record { at = 1; value = n 2 } ∷ [], [], refl, cut, refl))))
    (lit≤ tt) (lit≤ tt) (lit≤ tt) (inl (refl, refl, refl, refl))

-- ---- weights: the entries of a w sum to 1
-- u, the two lists of w, and the two unknowns after them
pub seven : (P : List ℚ → Type 0) → ((u a b c d k l : ℚ) → P (u ∷ a ∷ b ∷ c ∷ d ∷ k ∷ l ∷ [])) → (z : List ℚ) → length z ≡ 7 → P z
seven P h (u ∷ a ∷ b ∷ c ∷ d ∷ k ∷ l ∷ []) e = h u a b c d k l
seven P h [] e = absurd (omega (arith, e))
seven P h (u ∷ []) e = absurd (omega (arith, e))
seven P h (u ∷ a ∷ []) e = absurd (omega (arith, e))
seven P h (u ∷ a ∷ b ∷ []) e = absurd (omega (arith, e))
seven P h (u ∷ a ∷ b ∷ c ∷ []) e = absurd (omega (arith, e))
seven P h (u ∷ a ∷ b ∷ c ∷ d ∷ []) e = absurd (omega (arith, e))
seven P h (u ∷ a ∷ b ∷ c ∷ d ∷ k ∷ []) e = absurd (omega (arith, e))
seven P h (u ∷ a ∷ b ∷ c ∷ d ∷ k ∷ l ∷ x ∷ more) e = absurd (omega (arith, e))

-- the last equation of the program, at w
abbrev Sums : List ℚ → Type 0
Sums w = dot ones w ≡ one_ℚ

pub collect : (o u a b c d k l : ℚ) →
    zero_ℚ *ℚ u +ℚ (o *ℚ a +ℚ (o *ℚ b +ℚ (neg_ℚ o *ℚ c +ℚ (neg_ℚ o *ℚ d +ℚ (zero_ℚ *ℚ k +ℚ (zero_ℚ *ℚ l +ℚ zero_ℚ))))))
    ≡ o *ℚ (a +ℚ neg_ℚ c) +ℚ (o *ℚ (b +ℚ neg_ℚ d) +ℚ zero_ℚ)
collect o u a b c d k l =
    ring rationals (o ∷ u ∷ a ∷ b ∷ c ∷ d ∷ k ∷ l ∷ [])
    (num (pos 0) ⊗ v1 ⊕ (v0 ⊗ v2 ⊕ (v0 ⊗ v3 ⊕ ((⊖ v0) ⊗ v4 ⊕ ((⊖ v0) ⊗ v5 ⊕ (num (pos 0) ⊗ var 6 ⊕ (num (pos 0) ⊗ var 7 ⊕ num (pos 0))))))))
    (v0 ⊗ (v2 ⊝ v4) ⊕ (v0 ⊗ (v3 ⊝ v5) ⊕ num (pos 0))) refl

normal_sums : (z : List ℚ) → length z ≡ 7 → values program.equations z ≡ program.right → Sums (w_of narrow z)
unfolding whole
normal_sums = seven (λ (z : List ℚ). values program.equations z ≡ program.right → Sums (w_of narrow z))
    (λ u a b c d k l h. sym (collect one_ℚ u a b c d k l) ∙ ap (λ (v : List ℚ). entry v 4) h)

complete : (x : ℚ) → one_ℚ *ℚ x +ℚ (one_ℚ *ℚ (one_ℚ +ℚ neg_ℚ (one_ℚ *ℚ x +ℚ zero_ℚ)) +ℚ zero_ℚ) ≡ one_ℚ
complete x =
    ring rationals (x ∷ [])
    (num (pos 1) ⊗ v0 ⊕ (num (pos 1) ⊗ (num (pos 1) ⊝ (num (pos 1) ⊗ v0 ⊕ num (pos 0))) ⊕ num (pos 0))) (num (pos 1)) refl

pub weight_sums : (g w : List ℚ) → length g ≡ 3 → w ≡ weight_of ones g → (length w ≡ 2) × Sums w
unfolding whole
weight_sums [] w l e = absurd (omega (arith, l))
weight_sums (x ∷ g) w l e = (ap (λ (y : List ℚ). length y) e, ap (λ (y : List ℚ). dot ones y) e ∙ complete x)

pub known_is : (c : List ℚ) → Some ones ≡ Some c → c ≡ ones
known_is c known = ap (λ (o : Option (List ℚ)). vector_of o) (sym known)

base_weight_sums : (w : List ℚ) → IsBaseWeight narrow ones w → (length w ≡ 2) × Sums w
unfolding whole
base_weight_sums w h = weight_sums h.generator w h.is.extreme.member.wide h.same

base_normal_sums : (w : List ℚ) → IsBaseNormal narrow ones w → (length w ≡ 2) × Sums w
unfolding whole
base_normal_sums w (u, v, IsBaseCut.of_benson x read is parts) = (
  ap (λ (y : List ℚ). length y) is ∙ ap (λ (y : List ℚ). length (w_of narrow y)) read.0.reads,
  ap (λ (y : List ℚ). dot ones y) is ∙ normal_sums x (ap (λ (y : List ℚ). length y) read.0.reads) read.1.equal,
)
base_normal_sums w (u, v, IsBaseCut.of_weight x h read parts) = base_weight_sums w h

w_sums : (w : List ℚ) → IsBaseW in_narrow w → (length w ≡ 2) × Sums w
w_sums w (c, known, inl h) = base_normal_sums w (subst (λ (d : List ℚ). IsBaseNormal narrow d w) (known_is c known) h)
w_sums w (c, known, inr h) = base_weight_sums w (subst (λ (d : List ℚ). IsBaseWeight narrow d w) (known_is c known) h)

no_sum : (w : List ℚ) → same_ℚ (dot ones w) one_ℚ ≡ false → IsBaseW in_narrow w → ⊥
no_sum w h b = apart (dot ones w) one_ℚ h (w_sums w b).1

-- ---- what may be multiplied, by the length of the first list
row_of : (row : List ℚ) → IsRowOrWeight in_narrow row → ((length row ≡ 2) × IsBaseW in_narrow row) ⊎ (length row ≡ 3)
unfolding whole
row_of row (IsRowOrWeight.weight h) = inl ((w_sums row h).0, h)
row_of row (IsRowOrWeight.of_trail h) = absurd (Contains-nil row h)
row_of row (IsRowOrWeight.in_use h) = elim (Contains-cases (level 2) [] row h) [
  | inl e ↦ inr (sym (ap (λ (y : List ℚ). length y) e))
  | inr c ↦ absurd (Contains-nil row c)
]

one : (x : ℚ) (ys : List ℚ) → AreMultiplied in_narrow (x ∷ []) ys → ((x ≡ n 3) × IsBaseU in_narrow ys) ⊎ IsBaseX in_narrow ys
unfolding whole
one x ys (AreMultiplied.bounds e h) = inl (ap (λ (y : List ℚ). entry y 1) e, h)
one x ys (AreMultiplied.duality known h) = let many : 1 ≡ 2 = ap (λ (y : List ℚ). length y) (known_is (x ∷ []) known) in absurd (omega (arith, many))
one x ys (AreMultiplied.last_weight c g rows known all is e f) =
    let many : 1 ≡ 2 = ap (λ (y : List ℚ). length y) e ∙ ap (λ (y : List ℚ). length (one_ℚ ∷ negated (front y))) (known_is c known) in
    absurd (omega (arith, many))
one x ys (AreMultiplied.side h b) = inr b
one x ys (AreMultiplied.of_objective h b) = inr b
one x ys (AreMultiplied.cone h y) = absurd (Contains-nil (x ∷ []) h)
one x ys (AreMultiplied.shares i low high e h) = let many : 1 ≡ 0 = ap (λ (y : List ℚ). length y) e in absurd (omega (arith, many))
one x ys (AreMultiplied.across h y) = elim (row_of (x ∷ []) h) [
  | inl r ↦ let many : 1 ≡ 2 = r.0 in absurd (omega (arith, many))
  | inr e ↦ let many : 1 ≡ 3 = e in absurd (omega (arith, many))
]

-- a normed generator whose last entry is the first of the list
abbrev IsLast : List ℚ → Type 0
IsLast ys = (g : List ℚ) × (length g ≡ 3) × IsNormed g × (entry ys 1 ≡ entry g 3)

abbrev IsTwo : ℚ → ℚ → List ℚ → Type 0
IsTwo x y ys =
    ((x ∷ y ∷ [] ≡ ones) × IsBaseW in_narrow ys)
    ⊎ (((x ∷ y ∷ [] ≡ one_ℚ ∷ neg_ℚ one_ℚ ∷ []) × IsLast ys) ⊎ (IsBaseW in_narrow (x ∷ y ∷ []) × IsStartOrGenerator in_narrow ys))

two : (x y : ℚ) (ys : List ℚ) → AreMultiplied in_narrow (x ∷ y ∷ []) ys → IsTwo x y ys
unfolding whole
two x y ys (AreMultiplied.bounds e h) = let many : 2 ≡ 1 = ap (λ (v : List ℚ). length v) e in absurd (omega (arith, many))
two x y ys (AreMultiplied.duality known h) = inl (known_is (x ∷ y ∷ []) known, h)
two x y ys (AreMultiplied.last_weight c g rows known all is e f) =
    inr (inl (e ∙ ap (λ (v : List ℚ). one_ℚ ∷ negated (front v)) (known_is c known), (g, is.extreme.member.wide, is.normed, ap (λ (v : List ℚ). entry v 1) f)))
two x y ys (AreMultiplied.side h b) =
    let many : 2 ≡ 1 = member_of (HasWidth 1) (normals narrow) (x ∷ y ∷ []) (wide_test 1 (normals narrow) refl).wide h in absurd (omega (arith, many))
two x y ys (AreMultiplied.of_objective h b) =
    let many : 2 ≡ 1 = member_of (HasWidth 1) (objectives narrow) (x ∷ y ∷ []) (wide_test 1 (objectives narrow) refl).wide h in absurd (omega (arith, many))
two x y ys (AreMultiplied.cone h b) = absurd (Contains-nil (x ∷ y ∷ []) h)
two x y ys (AreMultiplied.shares i low high e h) = let many : 2 ≡ 0 = ap (λ (v : List ℚ). length v) e in absurd (omega (arith, many))
two x y ys (AreMultiplied.across h b) = elim (row_of (x ∷ y ∷ []) h) [
  | inl r ↦ inr (inr (r.1, b))
  | inr e ↦ let many : 2 ≡ 3 = e in absurd (omega (arith, many))
]

-- each list has at most three entries
short : (xs ys : List ℚ) → AreMultiplied in_narrow xs ys → length xs ≤ 3
unfolding whole
short xs ys (AreMultiplied.bounds e h) = let many : length xs ≡ 1 = ap (λ (v : List ℚ). length v) e in omega (arith, many)
short xs ys (AreMultiplied.duality known h) = let many : length xs ≡ 2 = ap (λ (v : List ℚ). length v) (known_is xs known) in omega (arith, many)
short xs ys (AreMultiplied.last_weight c g rows known all is e f) =
    let many : length xs ≡ 2 = ap (λ (v : List ℚ). length v) e ∙ ap (λ (y : List ℚ). length (one_ℚ ∷ negated (front y))) (known_is c known) in omega (arith, many)
short xs ys (AreMultiplied.side h b) =
    let many : length xs ≡ 1 = member_of (HasWidth 1) (normals narrow) xs (wide_test 1 (normals narrow) refl).wide h in omega (arith, many)
short xs ys (AreMultiplied.of_objective h b) =
    let many : length xs ≡ 1 = member_of (HasWidth 1) (objectives narrow) xs (wide_test 1 (objectives narrow) refl).wide h in omega (arith, many)
short xs ys (AreMultiplied.cone h b) = absurd (Contains-nil xs h)
short xs ys (AreMultiplied.shares i low high e h) = let many : length xs ≡ 0 = ap (λ (v : List ℚ). length v) e in omega (arith, many)
short xs ys (AreMultiplied.across h b) = elim (row_of xs h) [ inl r ↦ let many = r.0 in omega (arith, many) | inr many ↦ omega (arith, many) ]

-- ---- no choice, and no u
not_feasible : (x : ℚ) → le_ℚ (n 3) (dot (one_ℚ ∷ []) (x ∷ [])) ≡ false → IsFeasible narrow (x ∷ []) → ⊥
unfolding whole
not_feasible x h f = true≢false (sym (f.meets 0 (record { normal = []; bound = zero_ℚ }) (lit< tt)) ∙ h)

no_recession : (x : ℚ) → le_ℚ zero_ℚ (dot (one_ℚ ∷ []) (x ∷ [])) ≡ false → IsRecession narrow (x ∷ []) → ⊥
unfolding whole
no_recession x h f = true≢false (sym (f.meets 0 (record { normal = []; bound = zero_ℚ }) (lit< tt)) ∙ h)

-- the choices of an entry are feasible, and its rays are directions; a trail that has only begun
-- has neither
no_entry : (x : ℚ) → le_ℚ (n 3) (dot (one_ℚ ∷ []) (x ∷ [])) ≡ false → le_ℚ zero_ℚ (dot (one_ℚ ∷ []) (x ∷ [])) ≡ false → (e : Entry) →
    IsTrailEntry in_narrow e → IsChoiceOf narrow e (x ∷ []) → ⊥
unfolding whole
no_entry x h k e (IsTrailEntry.there c) is = elim (Contains-cases (Version 1) (Duality ones [] [] [] ∷ []) e c) [
  | inl d ↦ subst (λ (f : Entry). IsChoiceOf narrow f (x ∷ [])) (sym d) is
  | inr c ↦ elim (Contains-cases (Duality ones [] [] []) [] e c) [
    | inl d ↦ subst (λ (f : Entry). IsChoiceOf narrow f (x ∷ [])) (sym d) is
    | inr c ↦ Contains-nil e c
  ]
]
no_entry x h k e (IsTrailEntry.next c known t) is = go e t is
  where
    no_point : (y : List ℚ) → x ∷ [] ≡ y → IsFeasible narrow y → ⊥
    no_point y d f = not_feasible x h (subst (λ (v : List ℚ). IsFeasible narrow v) (sym d) f)

    no_ray : (y : List ℚ) → x ∷ [] ≡ y → IsRecession narrow y → ⊥
    no_ray y d f = no_recession x k (subst (λ (v : List ℚ). IsRecession narrow v) (sym d) f)

    go : (e : Entry) → IsBaseTrail narrow c [] (trail_of ones ++ e ∷ []) → IsChoiceOf narrow e (x ∷ []) → ⊥
    go (Point g y m) t d = no_point (dense 1 y) d (t.meet (trail_of ones) (Point g y m) [] refl).rules.feasible.side
    go (Ray g y m) t d = no_ray (dense 1 y) d (t.meet (trail_of ones) (Ray g y m) [] refl).rules.recedes.side
    go (Whole y ray m) t (inl d) = no_point (dense 1 y) d (t.meet (trail_of ones) (Whole y ray m) [] refl).rules.feasible.side
    go (Whole y ray m) t (inr d) = no_ray (dense 1 ray) d (t.meet (trail_of ones) (Whole y ray m) [] refl).rules.recedes.side
    go (Line v y ray m back l) t (inl d) = no_point (dense 1 y) d (t.meet (trail_of ones) (Line v y ray m back l) [] refl).rules.feasible.side
    go (Line v y ray m back l) t (inr (inl d)) = no_ray (dense 1 ray) d (t.meet (trail_of ones) (Line v y ray m back l) [] refl).rules.recedes.side
    go (Line v y ray m back l) t (inr (inr d)) = no_ray (dense 1 back) d (t.meet (trail_of ones) (Line v y ray m back l) [] refl).rules.back_recedes.side
    go e t d = d

no_x : (x : ℚ) → le_ℚ (n 3) (dot (one_ℚ ∷ []) (x ∷ [])) ≡ false → le_ℚ zero_ℚ (dot (one_ℚ ∷ []) (x ∷ [])) ≡ false → IsBaseX in_narrow (x ∷ []) → ⊥
no_x x h k (IsBaseX.choice b) = not_feasible x h b.feasible
no_x x h k (IsBaseX.ray b) = no_recession x k b.recedes
no_x x h k (IsBaseX.of_entry e t is) = no_entry x h k e t is

-- u has no negative entry
no_u : (x : ℚ) → le_ℚ zero_ℚ x ≡ false → IsBaseU in_narrow (x ∷ []) → ⊥
no_u x h b = go b
  where
    negative : AtLeastZero (x ∷ []) → ⊥
    negative k = true≢false (sym (k 0 zero_ℚ (lit< tt)) ∙ h)

    read : (u : List Spot) (z : List ℚ) → AtLeastZero z → x ∷ [] ≡ dense (side_total narrow) u → dense (side_total narrow) u ≡ take (side_total narrow) z → ⊥
    read u z k e f = negative (subst (λ (y : List ℚ). AtLeastZero y) (sym (e ∙ f)) (All-take Nonneg (side_total narrow) z k))

    go : IsBaseU in_narrow (x ∷ []) → ⊥
    go (inl (c, w, u, v, known, IsBaseCut.of_benson z r is parts, e)) = read u z r.1.at_least_zero e parts.dual
    go (inl (c, w, u, v, known, IsBaseCut.of_weight z b r parts, e)) = read u z r.1.at_least_zero e parts.dual
    go (inr r) = negative r.1

-- ---- pairs that are none
no_bounds : AreMultiplied in_narrow (n 3 ∷ []) (minus 2 ∷ []) → ⊥
unfolding whole fraction gcd ◌+ℚ◌ ◌*ℚ◌ neg_ℚ inverse_ℚ le_ℚ
no_bounds h = elim (one (n 3) (minus 2 ∷ []) h) [ inl b ↦ no_u (minus 2) refl b.1 | inr b ↦ no_x (minus 2) refl refl b ]

no_choice : AreMultiplied in_narrow (n 2 ∷ []) (minus 3 ∷ []) → ⊥
unfolding whole fraction gcd ◌+ℚ◌ ◌*ℚ◌ neg_ℚ inverse_ℚ le_ℚ
no_choice h = elim (one (n 2) (minus 3 ∷ []) h) [ inl b ↦ apart (n 2) (n 3) refl b.0 | inr b ↦ no_x (minus 3) refl refl b ]

-- with c only a w is multiplied
pub with_c : (ys : List ℚ) → AreMultiplied in_narrow ones ys → IsBaseW in_narrow ys
unfolding whole fraction gcd ◌+ℚ◌ ◌*ℚ◌ neg_ℚ inverse_ℚ le_ℚ
with_c ys h = elim (two (n 1) (n 1) ys h) [
  | inl b ↦ b.1
  | inr (inl b) ↦ absurd (apart (n 1) (neg_ℚ one_ℚ) refl (ap (λ (v : List ℚ). entry v 2) b.0))
  | inr (inr b) ↦ absurd (no_sum ones refl b.0)
]

no_weight : AreMultiplied in_narrow ones (half ∷ minus_half ∷ []) → ⊥
unfolding whole fraction gcd ◌+ℚ◌ ◌*ℚ◌ neg_ℚ inverse_ℚ le_ℚ
no_weight h = no_sum (half ∷ minus_half ∷ []) refl (with_c (half ∷ minus_half ∷ []) h)

no_choice_with_c : AreMultiplied in_narrow ones (n 3 ∷ []) → ⊥
unfolding whole fraction gcd ◌+ℚ◌ ◌*ℚ◌ neg_ℚ inverse_ℚ le_ℚ
no_choice_with_c h = no_sum (n 3 ∷ []) refl (with_c (n 3 ∷ []) h)

-- a normed vector of three entries does not end with 2
ends_with_two : (g : List ℚ) → length g ≡ 3 → IsNormed g → n 2 ≡ entry g 3 → ⊥
unfolding whole fraction gcd ◌+ℚ◌ ◌*ℚ◌ neg_ℚ inverse_ℚ le_ℚ
ends_with_two [] l h e = omega (arith, l)
ends_with_two (x ∷ []) l h e = omega (arith, l)
ends_with_two (x ∷ y ∷ []) l h e = omega (arith, l)
ends_with_two (x ∷ y ∷ z ∷ []) l h e = apart (n 2) one_ℚ refl (subst (λ (q : ℚ). IsNormed (x ∷ y ∷ q ∷ [])) (sym e) h)
ends_with_two (x ∷ y ∷ z ∷ w ∷ g) l h e = omega (arith, l)

no_generator : AreMultiplied in_narrow (n 1 ∷ minus 1 ∷ []) (n 2 ∷ n 1 ∷ []) → ⊥
unfolding whole fraction gcd ◌+ℚ◌ ◌*ℚ◌ neg_ℚ inverse_ℚ le_ℚ
no_generator h = elim (two (n 1) (minus 1) (n 2 ∷ n 1 ∷ []) h) [
  | inl b ↦ apart (minus 1) (n 1) refl (ap (λ (v : List ℚ). entry v 2) b.0)
  | inr (inl (e, (g, l, m, f))) ↦ ends_with_two g l m f
  | inr (inr b) ↦ no_sum (n 1 ∷ minus 1 ∷ []) refl b.0
]

-- ---- start vectors
row_wide : (row : List ℚ) → IsBaseRow narrow ones row → length row ≡ 3
unfolding whole
row_wide row (IsBaseRow.of_choice x h e) = ap (λ (v : List ℚ). length v) e
row_wide row (IsBaseRow.of_ray r h e) = ap (λ (v : List ℚ). length v) e
row_wide row (IsBaseRow.of_cone d (i, l, u, unit) e) = ap (λ (v : List ℚ). length v) (e ∙ ap (λ (y : List ℚ). exchange_row ones y false) unit)

rows_wide : (rows : List (List ℚ)) → All (IsBaseRow narrow ones) rows → AreWide 3 rows
rows_wide rows h = record { wide = All-weaker (IsBaseRow narrow ones) (HasWidth 3) row_wide rows h }

pub live_wide : (rows : List (List ℚ)) (list : LiveList) (g : Numbered) → AreWide 3 rows → IsMadeOver 3 rows list → Contains list.live g → length g.vector ≡ 3
live_wide rows list g wide made h = (generator_laws.generator 3 rows list g (generator_laws.live 3 rows list wide made) h).extreme.member.wide

added_wide : (before : List (List ℚ)) (last : List ℚ) (family : Family) (list : LiveList) (g : Numbered) → IsAddition in_narrow before last list family →
    Contains list.live g ⊎ Contains (step before list last).live g → length (filled in_narrow family g.vector) ≡ 3
unfolding whole
added_wide before last family list g (IsAddition.of_image k l u e f m) h = let few : k ≤ 0 = u in absurd (omega (arith, l, few))
added_wide before last family list g (IsAddition.of_cone all c made) h = absurd (Contains-nil last c)
added_wide before last family list g (IsAddition.of_base c known all base made) h = go h
  where
    same : c ≡ ones
    same = known_is c known

    wide : AreWide 3 before
    wide = rows_wide before (subst (λ (d : List ℚ). All (IsBaseRow narrow d) before) same all)

    more : AreWide 3 (before ++ last ∷ [])
    more = record {
      wide = All-append (HasWidth 3) before (last ∷ []) wide.wide
          (All-cons (HasWidth 3) last [] (row_wide last (subst (λ (d : List ℚ). IsBaseRow narrow d last) same base)) (All-nil (HasWidth 3)));
    }

    go : Contains list.live g ⊎ Contains (step before list last).live g → length g.vector ≡ 3
    go (inl h) = live_wide before list g wide made h
    go (inr h) = live_wide (before ++ last ∷ []) (step before list last) g more (generator_laws.grows 3 before list last made) h

abbrev twice : List ℚ
twice = n 2 ∷ n 0 ∷ []

turned_back : (d : List ℚ) → twice ≡ negated d → leading d ≡ one_ℚ → ⊥
unfolding whole fraction gcd ◌+ℚ◌ ◌*ℚ◌ neg_ℚ inverse_ℚ le_ℚ
turned_back d e h =
    let back : negated twice ≡ d = ap negated e ∙ negated_twice d in
    apart (minus 2) one_ℚ refl (equal (minus 2) (leading (negated twice)) refl ∙ ap leading back ∙ h)

no_start_vector : IsStartOrGenerator in_narrow twice → ⊥
unfolding whole fraction gcd ◌+ℚ◌ ◌*ℚ◌ neg_ℚ inverse_ℚ le_ℚ
no_start_vector (IsStartOrGenerator.start t (IsBaseStart.origin e f)) = apart (n 2) zero_ℚ refl (ap (λ (v : List ℚ). entry v 1) e)
no_start_vector (IsStartOrGenerator.start t (IsBaseStart.live g live e)) = Contains-nil g live
no_start_vector (IsStartOrGenerator.start t (IsBaseStart.side s e)) = apart (n 2) one_ℚ refl (equal (n 2) (leading twice) refl ∙ s.starts)
no_start_vector (IsStartOrGenerator.start t (IsBaseStart.other_side d s e f)) = turned_back d e s.starts
no_start_vector (IsStartOrGenerator.generator (inl (g, live, same))) = Contains-nil g live
no_start_vector (IsStartOrGenerator.generator (inr (before, last, family, list, g, add, h, same))) =
    let long : 2 ≡ 3 = ap (λ (v : List ℚ). length v) same ∙ added_wide before last family list g add h in omega (arith, long)

no_start : AreMultiplied in_narrow (half ∷ half ∷ []) twice → ⊥
unfolding whole fraction gcd ◌+ℚ◌ ◌*ℚ◌ neg_ℚ inverse_ℚ le_ℚ
no_start h = elim (two half half twice h) [
  | inl b ↦ apart half (n 1) refl (ap (λ (v : List ℚ). entry v 1) b.0)
  | inr (inl b) ↦ apart half one_ℚ refl (ap (λ (v : List ℚ). entry v 1) b.0)
  | inr (inr b) ↦ no_start_vector b.1
]

-- ---- the choice
abbrev feasible : System
feasible = feasible_system narrow

abbrev pub three : List ℚ
three = n 3 ∷ []

feasible_full : IsFullDictionaryOf feasible (1 ∷ []) (table_after (table_of feasible) ((0, 1) ∷ []))
unfolding whole fraction gcd ◌+ℚ◌ ◌*ℚ◌ neg_ℚ inverse_ℚ le_ℚ
feasible_full = full_after feasible (1 ∷ []) ((0, 1) ∷ []) refl refl refl refl refl refl

pub three_read : AreMultipliersOff feasible three
unfolding whole fraction gcd ◌+ℚ◌ ◌*ℚ◌ neg_ℚ inverse_ℚ le_ℚ
three_read = record {
  basis = 1 ∷ [];
  dictionary = table_after (table_of feasible) ((0, 1) ∷ []);
  full = feasible_full;
  reads = same_vector_is three (multipliers feasible (table_after (table_of feasible) ((0, 1) ∷ []))) refl;
}

three_is : IsBaseChoice narrow three
unfolding whole fraction gcd ◌+ℚ◌ ◌*ℚ◌ neg_ℚ inverse_ℚ le_ℚ
three_is = record {
  feasible = record { width = refl; meets = list_all-true (λ s. le_ℚ s.bound (dot s.normal three)) (sides narrow) refl };
  read = inl (three, three_read, refl);
}

choice : OverflowsNarrow (Elim [] [] 0 1 2) (operation Mul (n 2) (n 3))
unfolding whole fraction gcd ◌+ℚ◌ ◌*ℚ◌ neg_ℚ inverse_ℚ le_ℚ
choice = overflow_laws.term is_few in_narrow (n 2 ∷ []) three 1 (operation Mul (n 2) (n 3)) refl
    (inl (AreMultiplied.of_objective (Contains-here (n 2 ∷ []) ((minus 1 ∷ []) ∷ []) (n 2 ∷ []) refl) (IsBaseX.choice three_is))) (lit≤ tt) (lit≤ tt) (lit≤ tt)
    (inl (refl, refl, refl, refl))

-- ---- the v of a cut
abbrev dual : Setting
dual = setting in_dual_form ones

abbrev dual_program : System
dual_program = benson_system in_dual_form ones (n 0 ∷ n 0 ∷ []) true

abbrev dual_pivots : Pivots
dual_pivots = (3, 2) ∷ (0, 3) ∷ (1, 6) ∷ (2, 7) ∷ []

abbrev dual_basis : List ℕ
dual_basis = 3 ∷ 6 ∷ 7 ∷ 2 ∷ []

dual_full : IsFullDictionaryOf dual_program dual_basis (table_after (table_of dual_program) dual_pivots)
unfolding whole fraction gcd ◌+ℚ◌ ◌*ℚ◌ neg_ℚ inverse_ℚ le_ℚ
dual_full = full_after dual_program dual_basis dual_pivots refl refl refl refl refl refl

abbrev two_thirds : ℚ
two_thirds = fraction (pos 2) 3

abbrev dual_z : List ℚ
dual_z = n 0 ∷ third ∷ two_thirds ∷ n 0 ∷ n 0 ∷ third ∷ two_thirds ∷ []

dual_read : IsSolutionOff dual_program dual_z
unfolding whole fraction gcd ◌+ℚ◌ ◌*ℚ◌ neg_ℚ inverse_ℚ le_ℚ
dual_read = record {
  basis = dual_basis;
  dictionary = table_after (table_of dual_program) dual_pivots;
  full = dual_full;
  reads = same_vector_is dual_z (solution dual_program dual_basis (table_after (table_of dual_program) dual_pivots)) refl;
}

dual_solves : IsSolution dual_program.equations dual_program.right dual_z
unfolding whole fraction gcd ◌+ℚ◌ ◌*ℚ◌ neg_ℚ inverse_ℚ le_ℚ
dual_solves = record { at_least_zero = at_least_zero dual_z refl; equal = same_vector_is (values dual_program.equations dual_z) dual_program.right refl }

abbrev v : List Spot
v = record { at = 1; value = third } ∷ record { at = 2; value = two_thirds } ∷ []

abbrev thirds : List ℚ
thirds = third ∷ two_thirds ∷ []

dual_cut : IsBaseCut in_dual_form ones thirds [] v
unfolding whole fraction gcd ◌+ℚ◌ ◌*ℚ◌ neg_ℚ inverse_ℚ le_ℚ
dual_cut = IsBaseCut.of_benson dual_z (dual_read, dual_solves) (same_vector_is thirds (w_of in_dual_form dual_z) refl)
    (record {
      dual = same_vector_is (dense (side_total in_dual_form) []) (u_of in_dual_form dual_z) refl;
      cone = same_vector_is (dense 2 v) (v_of in_dual_form in_dual_form.cone dual_z) refl;
    })

of_cut : IsOverflow is_few dual (Elim [] [] 0 1 2) (operation Mul (n 1) third)
unfolding whole fraction gcd ◌+ℚ◌ ◌*ℚ◌ neg_ℚ inverse_ℚ le_ℚ
of_cut = overflow_laws.term is_few dual (n 1 ∷ n 0 ∷ []) thirds 1 (operation Mul (n 1) third) refl
    (inl (AreMultiplied.shares 1 (lit≤ tt) (lit≤ tt) (same_vector_is (n 1 ∷ n 0 ∷ []) (column (cone_vectors in_dual_form.cone) 1) refl)
    (AreBaseShares.of_cut ones thirds [] v refl dual_cut (same_vector_is thirds (dense 2 v) refl))))
    (lit≤ tt) (lit≤ tt) (lit≤ tt) (inl (refl, refl, refl, refl))

abbrev below : List ℚ
below = minus 1 ∷ n 2 ∷ []

negative : AtLeastZero below → ⊥
unfolding whole le_ℚ
negative h = true≢false (sym (h 0 zero_ℚ (lit< tt)))

-- what stands after u and w has two entries, neither of them negative
two_after_w : (m : List Spot) (x : List ℚ) → length x ≡ 7 → AtLeastZero x → dense (length (v_of in_dual_form in_dual_form.cone x)) m ≡ v_of in_dual_form in_dual_form.cone x →
    AtLeastZero (dense 2 m)
unfolding whole
two_after_w m x long = seven
    (λ (y : List ℚ). AtLeastZero y → dense (length (v_of in_dual_form in_dual_form.cone y)) m ≡ v_of in_dual_form in_dual_form.cone y → AtLeastZero (dense 2 m))
    (λ u a b c d k l h e. subst (λ (y : List ℚ). AtLeastZero y) (sym e) (All-drop Nonneg 5 (u ∷ a ∷ b ∷ c ∷ d ∷ k ∷ l ∷ []) h)) x long

no_of_cut : AreBaseShares dual below → ⊥
unfolding whole
no_of_cut (AreBaseShares.of_entry e h is) = go e is
  where
    none : (m : List ℚ) → below ≡ [] → ⊥
    none m e = let many : 2 ≡ 0 = ap (λ (x : List ℚ). length x) e in omega (arith, many)

    go : (e : Entry) → AreSharesOf in_dual_form e below → ⊥
    go (Point k x m) e = none [] e
    go (Ray k x m) e = none [] e
    go (Whole x ray m) e = none [] e
    go (Line d x ray m back l) (inl e) = none [] e
    go (Line d x ray m back l) (inr e) = none [] e
    go e h = h
no_of_cut (AreBaseShares.of_cut c w u m known (IsBaseCut.of_benson x read same parts) is) =
    negative (subst (λ (y : List ℚ). AtLeastZero y) (sym is) (two_after_w m x (ap (λ (y : List ℚ). length y) read.0.reads) read.1.at_least_zero parts.cone))
no_of_cut (AreBaseShares.of_cut c w u m known (IsBaseCut.of_weight x b read parts) is) =
    negative (subst (λ (y : List ℚ). AtLeastZero y) (sym is) (two_after_w m x (ap (λ (y : List ℚ). length y) read.0.reads) read.1.at_least_zero parts.cone))
no_of_cut (AreBaseShares.mu off sign) = negative sign

-- ---- other places
other : (place : ℕ) (xs ys : List ℚ) (a b : ℚ) → (same_ℚ a (entry xs place) && same_ℚ b (entry ys place)) ≡ false →
    IsProductStep place 2 xs ys (operation Mul a b) → ⊥
other place xs ys a b h p = go p.operands
  where
    go : ((◌≡◌ {A = ℕ} 2 2) × (operation Mul a b ≡ operation Mul (entry xs place) (entry ys place)))
        ⊎ ((◌≡◌ {A = ℕ} 2 3) × (operation Mul a b ≡ operation Add (partial xs ys (place - 1)) (entry xs place *ℚ entry ys place))) → ⊥
    go (inl e) =
        true≢false (sym (both_hold (same_ℚ a (entry xs place)) (same_ℚ b (entry ys place))
        ((same_ℚ-is a (entry xs place)).1 (ap (λ (l : Left ℚ). l.a) e.1)) ((same_ℚ-is b (entry ys place)).1 (ap (λ (l : Left ℚ). l.b) e.1))) ∙ h)
    go (inr e) = let k = e.0 in omega (arith, k)

no_place : OverflowsNarrow (Elim [] [] 0 4 2) (operation Mul (n 3) (n 2)) → ⊥
no_place h = go h.operands
  where
    listed : IsListStep in_narrow [] 4 2 (operation Mul (n 3) (n 2)) → ⊥
    listed (IsListStep.normed s) = let k = s.first in omega (arith, k)
    listed (IsListStep.forward xs ys none m p) = let few = short xs ys m in let many = p.in_first in omega (arith, few, many)
    listed (IsListStep.backward xs ys none m p) = let few = short ys xs m in let many = p.in_second in omega (arith, few, many)
    listed (IsListStep.share none s) = let few : 4 ≤ 0 = s.to_end in omega (arith, few)

    go : IsElimStep is_few in_narrow [] [] 0 4 2 (operation Mul (n 3) (n 2)) ⊎ ((◌≡◌ {A = ℕ} 0 0) × (◌≡◌ {A = List ℕ} [] []) × IsListStep in_narrow [] 4 2 (operation Mul (n 3) (n 2))) → ⊥
    go (inl e) = let k = e.row_from_one in omega (arith, k)
    go (inr x) = listed x.2

pub pair_examples : PairExamples
unfolding whole fraction gcd ◌+ℚ◌ ◌*ℚ◌ neg_ℚ inverse_ℚ le_ℚ
pair_examples = record {
  bounds = bounds;
  no_bounds = no_bounds;
  no_weight = no_weight;
  no_choice_with_c = no_choice_with_c;
  no_generator = no_generator;
  choice = choice;
  no_choice = no_choice;
  no_start = no_start;
  of_cut = of_cut;
  no_of_cut = no_of_cut;
  other_weight = other 2 ones (n 1 ∷ n 0 ∷ []) (n 1) (n 1) refl;
  other_last = other 2 (n 1 ∷ minus 1 ∷ []) (n 1 ∷ n 1 ∷ []) (n 1) (n 1) refl;
  other_side = other 2 (n 2 ∷ n 1 ∷ []) (n 2 ∷ n 2 ∷ []) (n 2) (n 2) refl;
  other_start = other 2 (half ∷ half ∷ []) (n 1 ∷ n 0 ∷ []) half (n 1) refl;
  no_place = no_place;
}
