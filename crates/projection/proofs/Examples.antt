-- The examples, computed.
use Rattle.std.proofs.Common.{◌≡◌, List, [], ◌∷◌, length, take, All, refl, sym, ap, ap₂, ◌∙◌, subst, arith, pos}
use Rattle.std.proofs.lemmas.List.Elements.{All-nil, All-cons, All-head, All-tail}
use Rattle.exact_field.specs.Gcd.{gcd}
use Rattle.exact_field.specs.Rational.{ℚ, zero_ℚ, one_ℚ, whole, fraction, ◌+ℚ◌, ◌*ℚ◌, neg_ℚ, le_ℚ, ◌≤ℚ◌, ◌<ℚ◌}
use Rattle.exact_field.specs.Ring.{v0, v1, ◌⊕◌, ◌⊗◌, ⊖, num}
use Rattle.exact_field.specs.Vector.{dot}
use Rattle.exact_field.proofs.RingTool.{ring}
use Rattle.exact_field.proofs.RationalLaws.{whole-neg}
use Rattle.exact_field.proofs.Rationals.{rationals}
use Rattle.polyhedra.specs.Examples.{wholes}
use Rattle.polyhedra.specs.Inequality.{Inequality}
use Rattle.polyhedra.proofs.Laws.{le_refl}
use Rattle.polyhedra.proofs.Order.{not_lt_of_le, add_le_both}
use Rattle.vlp_problem.specs.Sides.{sides, IsFeasible}
use Rattle.vlp_problem.specs.declared.problem.Bound.TheVariants.{Lower, Upper}
use Rattle.vlp_problem.specs.declared.problem.Problem.{Problem}
use Rattle.projection.specs.Associated.{cell}
use Rattle.projection.specs.Examples.{minus_one, AssociatedExample, IsTriangle, ProjectionExample}
use Rattle.projection.proofs.Objectives.{sides_by}

-- ---- the objectives
second : List ℚ → ℚ
second [] = zero_ℚ
second (a ∷ []) = zero_ℚ
second (a ∷ b ∷ v) = b

less : whole (pos 2) <ℚ whole (pos 3)
unfolding whole fraction ◌+ℚ◌ ◌*ℚ◌ neg_ℚ le_ℚ gcd
less = refl

begins_not : take 2 (wholes (pos 1 ∷ pos 2 ∷ pos 3 ∷ [])) ≡ wholes (pos 1 ∷ pos 3 ∷ []) → ⊥
unfolding second whole
begins_not e =
    let same : whole (pos 2) ≡ whole (pos 3) = ap second e in
    not_lt_of_le (whole (pos 3)) (whole (pos 2)) (subst (λ (q : ℚ). q ≤ℚ whole (pos 2)) same (le_refl (whole (pos 2)))) less

negated_one : neg_ℚ one_ℚ ≡ minus_one
negated_one = whole-neg (pos 1)

pub associated_example : AssociatedExample
associated_example = record {
  begins = refl;
  begins_not = begins_not;
  one = ap (λ q. cell 1 1 one_ℚ ∷ cell 2 1 q ∷ []) negated_one;
  two = ap (λ q. cell 1 1 one_ℚ ∷ cell 2 2 one_ℚ ∷ cell 3 1 q ∷ cell 3 2 q ∷ []) negated_one;
}

-- ---- the triangle
-- its sides
abbrev slope : Inequality
slope = record { normal = neg_ℚ one_ℚ ∷ neg_ℚ one_ℚ ∷ []; bound = neg_ℚ one_ℚ }

abbrev left : Inequality
left = record { normal = one_ℚ ∷ zero_ℚ ∷ []; bound = zero_ℚ }

abbrev lower : Inequality
lower = record { normal = zero_ℚ ∷ one_ℚ ∷ []; bound = zero_ℚ }

triangle : List Inequality
triangle = slope ∷ left ∷ lower ∷ []

computed : sides_by (cell 1 1 one_ℚ ∷ cell 1 2 one_ℚ ∷ []) 2 (Upper one_ℚ ∷ []) (Lower zero_ℚ ∷ Lower zero_ℚ ∷ []) ≡ triangle
unfolding triangle whole
computed = refl

triangle_sides : (file : Problem) → IsTriangle file → sides file ≡ triangle
triangle_sides file t =
    ap (λ a. sides_by a file.cols file.row_bounds file.col_bounds) t.a
    ∙ ap (λ n. sides_by (cell 1 1 one_ℚ ∷ cell 1 2 one_ℚ ∷ []) n file.row_bounds file.col_bounds) t.cols
    ∙ ap₂ (λ u v. sides_by (cell 1 1 one_ℚ ∷ cell 1 2 one_ℚ ∷ []) 2 u v) t.row_bounds t.col_bounds
    ∙ computed

Meets : List ℚ → List Inequality → Type 0
Meets x es = All (λ e. e.bound ≤ℚ dot e.normal x) es

-- what is feasible meets the three sides
meets : (file : Problem) → IsTriangle file → (x : List ℚ) → IsFeasible file x → Meets x triangle
unfolding Meets
meets file t x h = subst (λ (es : List Inequality). All (λ e. e.bound ≤ℚ dot e.normal x) es) (triangle_sides file t) h.meets

feasible : (file : Problem) → IsTriangle file → (x : List ℚ) → length x ≡ 2 → Meets x triangle → IsFeasible file x
unfolding Meets
feasible file t x w h = record {
  width = w ∙ sym t.cols;
  meets = subst (λ (es : List Inequality). All (λ e. e.bound ≤ℚ dot e.normal x) es) (sym (triangle_sides file t)) h;
}

three : (x : List ℚ) (e f g : Inequality) → e.bound ≤ℚ dot e.normal x → f.bound ≤ℚ dot f.normal x → g.bound ≤ℚ dot g.normal x → Meets x (e ∷ f ∷ g ∷ [])
unfolding Meets
three x e f g a b c =
    All-cons (λ i. i.bound ≤ℚ dot i.normal x) e (f ∷ g ∷ []) a (All-cons (λ i. i.bound ≤ℚ dot i.normal x) f (g ∷ []) b
    (All-cons (λ i. i.bound ≤ℚ dot i.normal x) g [] c (All-nil (λ i. i.bound ≤ℚ dot i.normal x))))

first_met : (x : List ℚ) → Meets x triangle → neg_ℚ one_ℚ ≤ℚ dot (neg_ℚ one_ℚ ∷ neg_ℚ one_ℚ ∷ []) x
unfolding Meets triangle
first_met x h = All-head (λ i. i.bound ≤ℚ dot i.normal x) slope (left ∷ lower ∷ []) h

second_met : (x : List ℚ) → Meets x triangle → zero_ℚ ≤ℚ dot (one_ℚ ∷ zero_ℚ ∷ []) x
unfolding Meets triangle
second_met x h = All-head (λ i. i.bound ≤ℚ dot i.normal x) left (lower ∷ []) (All-tail (λ i. i.bound ≤ℚ dot i.normal x) slope (left ∷ lower ∷ []) h)

third_met : (x : List ℚ) → Meets x triangle → zero_ℚ ≤ℚ dot (zero_ℚ ∷ one_ℚ ∷ []) x
unfolding Meets triangle
third_met x h = All-head (λ i. i.bound ≤ℚ dot i.normal x) lower []
    (All-tail (λ i. i.bound ≤ℚ dot i.normal x) left (lower ∷ []) (All-tail (λ i. i.bound ≤ℚ dot i.normal x) slope (left ∷ lower ∷ []) h))

corner_meets : Meets (zero_ℚ ∷ zero_ℚ ∷ []) triangle
unfolding triangle whole fraction ◌+ℚ◌ ◌*ℚ◌ neg_ℚ le_ℚ gcd
corner_meets = three (zero_ℚ ∷ zero_ℚ ∷ []) slope left lower refl refl refl

right_meets : Meets (one_ℚ ∷ zero_ℚ ∷ []) triangle
unfolding triangle whole fraction ◌+ℚ◌ ◌*ℚ◌ neg_ℚ le_ℚ gcd
right_meets = three (one_ℚ ∷ zero_ℚ ∷ []) slope left lower refl refl refl

head : List ℚ → ℚ
head [] = zero_ℚ
head (a ∷ v) = a

level_value : (a b : ℚ) → dot (one_ℚ ∷ zero_ℚ ∷ []) (a ∷ b ∷ []) ≡ a
level_value a b = ring rationals (a ∷ b ∷ []) (num (pos 1) ⊗ v0 ⊕ (num (pos 0) ⊗ v1 ⊕ num (pos 0))) v0 refl

slope_value : (a b : ℚ) → dot (neg_ℚ one_ℚ ∷ neg_ℚ one_ℚ ∷ []) (a ∷ b ∷ []) +ℚ dot (zero_ℚ ∷ one_ℚ ∷ []) (a ∷ b ∷ []) ≡ neg_ℚ a
slope_value a b = ring rationals (a ∷ b ∷ [])
    (⊖ (num (pos 1)) ⊗ v0 ⊕ (⊖ (num (pos 1)) ⊗ v1 ⊕ num (pos 0)) ⊕ (num (pos 0) ⊗ v0 ⊕ (num (pos 1) ⊗ v1 ⊕ num (pos 0)))) (⊖ v0) refl

minus_one_below : minus_one <ℚ zero_ℚ
unfolding whole fraction ◌+ℚ◌ ◌*ℚ◌ neg_ℚ le_ℚ gcd
minus_one_below = refl

minus_two_below : neg_ℚ (whole (pos 2)) <ℚ neg_ℚ one_ℚ +ℚ zero_ℚ
unfolding whole fraction ◌+ℚ◌ ◌*ℚ◌ neg_ℚ le_ℚ gcd
minus_two_below = refl

minus_one_out : (x : List ℚ) → length x ≡ 2 → take 1 x ≡ minus_one ∷ [] → Meets x triangle → ⊥
unfolding head
minus_one_out [] w e h = absurd (omega (arith, w))
minus_one_out (a ∷ []) w e h = absurd (omega (arith, w))
minus_one_out (a ∷ b ∷ c ∷ v) w e h = absurd (omega (arith, w))
minus_one_out (a ∷ b ∷ []) w e h =
    not_lt_of_le zero_ℚ minus_one
    (subst (λ (q : ℚ). zero_ℚ ≤ℚ q) (level_value a b ∙ ap head e) (second_met (a ∷ b ∷ []) h)) minus_one_below

two_out : (x : List ℚ) → length x ≡ 2 → take 1 x ≡ whole (pos 2) ∷ [] → Meets x triangle → ⊥
unfolding head
two_out [] w e h = absurd (omega (arith, w))
two_out (a ∷ []) w e h = absurd (omega (arith, w))
two_out (a ∷ b ∷ c ∷ v) w e h = absurd (omega (arith, w))
two_out (a ∷ b ∷ []) w e h =
    not_lt_of_le (neg_ℚ one_ℚ +ℚ zero_ℚ) (neg_ℚ (whole (pos 2)))
    (subst (λ (q : ℚ). neg_ℚ one_ℚ +ℚ zero_ℚ ≤ℚ q) (slope_value a b ∙ ap neg_ℚ (ap head e))
    (add_le_both (neg_ℚ one_ℚ) (dot (neg_ℚ one_ℚ ∷ neg_ℚ one_ℚ ∷ []) (a ∷ b ∷ [])) zero_ℚ (dot (zero_ℚ ∷ one_ℚ ∷ []) (a ∷ b ∷ []))
    (first_met (a ∷ b ∷ []) h) (third_met (a ∷ b ∷ []) h)))
    minus_two_below

pub projection_example : ProjectionExample
projection_example = record {
  zero_in = λ file t. record { choice = zero_ℚ ∷ zero_ℚ ∷ []; feasible = feasible file t (zero_ℚ ∷ zero_ℚ ∷ []) refl corner_meets; begins = refl };
  one_in = λ file t. record { choice = one_ℚ ∷ zero_ℚ ∷ []; feasible = feasible file t (one_ℚ ∷ zero_ℚ ∷ []) refl right_meets; begins = refl };
  minus_one_out = λ file t p. minus_one_out p.choice (p.feasible.width ∙ t.cols) p.begins (meets file t p.choice p.feasible);
  two_out = λ file t p. two_out p.choice (p.feasible.width ∙ t.cols) p.begins (meets file t p.choice p.feasible);
}
