-- How many elements of a list pass a test.
use Rattle.std.proofs.Common.{◌≡◌, ℕ, List, [], ◌∷◌, refl, sym, ap, ◌∙◌, subst, arith, inl, inr, Bool, true, false, Contains, ◌<◌, ◌≤◌, ◌+◌}
use Rattle.polyhedra.proofs.Lists.{Contains-cases, Contains-nil}

-- 1 where the test is passed
abbrev pub one_if : Bool → ℕ
one_if true = 1
one_if false = 0

abbrev pub tally : {X : Type 0} → (X → Bool) → List X → ℕ
tally p [] = 0
tally p (x ∷ xs) = one_if (p x) + tally p xs

one_if-le : (a b : Bool) → (a ≡ true → b ≡ true) → one_if a ≤ one_if b
one_if-le true b h = subst (λ (v : Bool). 1 ≤ one_if v) (sym (h refl)) (omega arith)
one_if-le false b h = omega arith

pub tally-le : {X : Type 0} (p q : X → Bool) → ((x : X) → p x ≡ true → q x ≡ true) → (xs : List X) → tally p xs ≤ tally q xs
tally-le p q h [] = omega arith
tally-le p q h (x ∷ xs) =
    let first : one_if (p x) ≤ one_if (q x) = one_if-le (p x) (q x) (h x) in
    let rest : tally p xs ≤ tally q xs = tally-le p q h xs in
    omega (arith, first, rest)

-- a test that is stronger, and fails at a member that passes the other, is passed by fewer
pub tally-lt : {X : Type 0} (p q : X → Bool) → ((x : X) → p x ≡ true → q x ≡ true) → (xs : List X) (y : X) → Contains xs y → p y ≡ false → q y ≡ true →
    tally p xs < tally q xs
tally-lt p q h [] y c fails passes = absurd (Contains-nil y c)
tally-lt {X} p q h (x ∷ xs) y c fails passes =
    elim (Contains-cases x xs y c) [
      | inl e ↦
          let before : one_if (p x) ≡ 0 = ap one_if (ap p e ∙ fails) in
          let after : one_if (q x) ≡ 1 = ap one_if (ap q e ∙ passes) in
          let rest : tally p xs ≤ tally q xs = tally-le p q h xs in
          omega (arith, before, after, rest)
      | inr there ↦
          let first : one_if (p x) ≤ one_if (q x) = one_if-le (p x) (q x) (h x) in
          let rest : tally p xs < tally q xs = tally-lt p q h xs y there fails passes in
          omega (arith, first, rest)
    ]
