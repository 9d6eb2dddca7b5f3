-- Lists by the numbers of their elements.
use Rattle.std.proofs.Common.{◌≡◌, refl, ℕ, zero, suc, ◌+◌, ◌-◌, ◌<◌, arith, ap, ◌∙◌, sym, Bool, List, [], ◌∷◌, ◌++◌, length, get_or, Option, None}
use Rattle.std.specs.List.{flat_map, find}
use Rattle.std.proofs.lemmas.List.{append_assoc}
use Rattle.vlp_problem.specs.Sides.{numbers_from}
use Rattle.vlp_problem.proofs.Pieces.{flat_map-one, after_none}
use Rattle.vlp_problem.proofs.Numbers.{numbers-push}

-- one number more
pub flat_map_numbers : {A : Type 0} (f : ℕ → List A) (n : ℕ) → flat_map f (numbers_from 1 (n + 1)) ≡ flat_map f (numbers_from 1 n) ++ f (n + 1)
flat_map_numbers f n =
    let next : n + 1 ≡ suc n = omega arith in
    let last : 1 + n ≡ n + 1 = omega arith in
    ap (λ (m : ℕ). flat_map f (numbers_from 1 m)) next ∙ ap (flat_map f) (numbers-push 1 n)
    ∙ flat_map-one f (numbers_from 1 n) (1 + n) ∙ ap (λ (m : ℕ). flat_map f (numbers_from 1 n) ++ f m) last

-- the first of two parts, or the second
pub found_after : {A : Type 0} (p : A → Bool) (xs ys : List A) (r : Option A) → find p xs ≡ None → find p ys ≡ r → find p (xs ++ ys) ≡ r
found_after p xs ys r none now = after_none p xs ys none ∙ now

default_free : {A : Type 0} (xs : List A) (i : ℕ) (d e : A) → i < length xs → get_or xs i d ≡ get_or xs i e
default_free [] i d e h = absurd (omega arith)
default_free (x ∷ xs) zero d e h = refl
default_free (x ∷ xs) (suc i) d e h = default_free xs i d e (omega arith)

-- what stands at number i + 1
pub at_number : {A : Type 0} (v list : List A) (i : ℕ) (x d : A) → i < length list → list ≡ v → x ≡ get_or list i x → get_or v (i + 1 - 1) d ≡ x
at_number {A = A} v list i x d h e is =
    let same : i + 1 - 1 ≡ i = omega arith in
    ap (λ (k : ℕ). get_or v k d) same ∙ ap (λ (l : List A). get_or l i d) (sym e) ∙ default_free list i d x h ∙ sym is

-- a text, and the lines of one number more
pub numbers_more : (f : ℕ → List ℕ) (into t u : List ℕ) (n : ℕ) (line : List ℕ) → t ≡ into ++ flat_map f (numbers_from 1 n) → u ≡ t ++ line → line ≡ f (n + 1) → u ≡ into ++ flat_map f (numbers_from 1 (n + 1))
numbers_more f into t u n line e g same =
    g ∙ ap (λ (l : List ℕ). l ++ line) e ∙ append_assoc into (flat_map f (numbers_from 1 n)) line
    ∙ ap (λ (l : List ℕ). into ++ l) (ap (λ (l : List ℕ). flat_map f (numbers_from 1 n) ++ l) same ∙ sym (flat_map_numbers f n))
