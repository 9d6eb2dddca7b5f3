-- Vectors by their parts: lists that are cut at one place, products part by part, and orders entry by entry.
use Rattle.std.proofs.Common.{◌≡◌, ℕ, zero, suc, List, [], ◌∷◌, ◌++◌, map, length, take, drop, All, refl, sym, ap, ap₂, ◌∙◌, arith, ◌<◌, ◌+◌, slice_index_or, append_assoc, drop-drop, length-append}
use Rattle.std.specs.List.{AllZip}
use Rattle.std.proofs.lemmas.List.{take-append-drop}
use Rattle.std.proofs.lemmas.List.Elements.{All-nil, All-cons}
use Rattle.exact_field.specs.Rational.{ℚ, zero_ℚ, one_ℚ, ◌+ℚ◌, ◌*ℚ◌, neg_ℚ, ◌≤ℚ◌}
use Rattle.exact_field.specs.Vector.{dot}
use Rattle.exact_field.proofs.Inequalities.{neg-le}
use Rattle.polyhedra.specs.Inequality.{Inequality}
use Rattle.polyhedra.specs.Negatives.{negated}
use Rattle.polyhedra.specs.Vectors.{zeros, AtLeastZero, values}
use Rattle.polyhedra.proofs.Laws.{add_zero, le_antisymm}
use Rattle.polyhedra.proofs.Algebra.{zero_add, one_mul, zero_mul}
use Rattle.polyhedra.proofs.Linear.{dot_comm, dot-zeros, dot-plus, length-zeros}
use Rattle.polyhedra.proofs.Lists.{nonneg-nil, nonneg-cons}
use Rattle.polyhedra.proofs.Negatives.{dot-negated}
use Rattle.tableaux.specs.Table.{minus}
use Rattle.tableaux.proofs.Inverse.{dot-append}
use Rattle.overflows.proofs.Violated.{minus-is}
pub use Rattle.cone_rules.proofs.Parts.{append_parts}

-- ---- cut at one place
-- a vector is its four parts
pub parts_of : (m q : ℕ) (z : List ℚ) → take m z ++ take q (drop m z) ++ take q (drop (m + q) z) ++ drop (m + q + q) z ≡ z
parts_of m q z =
    append_assoc (take m z ++ take q (drop m z)) (take q (drop (m + q) z)) (drop (m + q + q) z)
    ∙ ap (λ x. take m z ++ take q (drop m z) ++ x) (step (m + q))
    ∙ append_assoc (take m z) (take q (drop m z)) (drop (m + q) z) ∙ ap (λ x. take m z ++ x) (step m) ∙ take-append-drop m z
  where
    step : (n : ℕ) → take q (drop n z) ++ drop (n + q) z ≡ drop n z
    step n = ap (λ x. take q (drop n z) ++ x) (simp drop-drop) ∙ take-append-drop q (drop n z)

pub dot-parts : (u a b h u' a' b' h' : List ℚ) → length u ≡ length u' → length a ≡ length a' → length b ≡ length b' →
    dot (u ++ a ++ b ++ h) (u' ++ a' ++ b' ++ h') ≡ dot u u' +ℚ dot a a' +ℚ dot b b' +ℚ dot h h'
dot-parts u a b h u' a' b' h' i j k =
    dot-append (u ++ a ++ b) h (u' ++ a' ++ b') h' (omega (arith, length-append (u ++ a) b, length-append (u' ++ a') b', two))
    ∙ ap (λ x. x +ℚ dot h h') (dot-append (u ++ a) b (u' ++ a') b' two ∙ ap (λ x. x +ℚ dot b b') (dot-append u a u' a' i))
  where
    two : length (u ++ a) ≡ length (u' ++ a')
    two = omega (arith, length-append u a, length-append u' a', i, j)

-- ---- equal by products
-- vectors of one length are equal where their products with each vector of this length are
pub same_on : (f g : List ℚ) → length f ≡ length g → ((r : List ℚ) → length r ≡ length f → dot r f ≡ dot r g) → f ≡ g
same_on [] [] l e = refl
same_on [] (y ∷ g) l e = absurd (omega arith)
same_on (x ∷ f) [] l e = absurd (omega arith)
same_on (x ∷ f) (y ∷ g) l e =
    ap₂ (λ p q. p ∷ q)
    (sym (first (length f) x f) ∙ e (one_ℚ ∷ zeros (length f)) (ap suc (length-zeros (length f))) ∙ first (length f) y g)
    (same_on f g (omega arith) (λ r h. sym (others r x f) ∙ e (zero_ℚ ∷ r) (ap suc h) ∙ others r y g))
  where
    first : (k : ℕ) (a : ℚ) (v : List ℚ) → one_ℚ *ℚ a +ℚ dot (zeros k) v ≡ a
    first k a v = ap₂ (λ p q. p +ℚ q) (one_mul a) (dot_comm (zeros k) v ∙ dot-zeros v k) ∙ add_zero a

    others : (r : List ℚ) (a : ℚ) (v : List ℚ) → zero_ℚ *ℚ a +ℚ dot r v ≡ dot r v
    others r a v = ap (λ p. p +ℚ dot r v) (zero_mul a) ∙ zero_add (dot r v)

pub dot-minus : (r a b : List ℚ) → length a ≡ length b → dot r (minus a b) ≡ dot r a +ℚ neg_ℚ (dot r b)
dot-minus r a b l = ap (λ v. dot r v) (minus-is a b l) ∙ dot-plus r a (negated b) ∙ ap (λ x. dot r a +ℚ x) (dot-negated r b)

pub dot-minus_left : (a b v : List ℚ) → length a ≡ length b → dot (minus a b) v ≡ dot a v +ℚ neg_ℚ (dot b v)
dot-minus_left a b v l = dot_comm (minus a b) v ∙ dot-minus v a b l ∙ ap₂ (λ s t. s +ℚ neg_ℚ t) (dot_comm v a) (dot_comm v b)

-- ---- entry by entry
-- each entry of the first is at most that of the second
abbrev pub AreAtMost : List ℚ → List ℚ → Type 0
AreAtMost f g = AllZip (λ a b. a ≤ℚ b) f g

pub at_most_each : (f g : List ℚ) → length f ≡ length g → ((i : ℕ) → i < length f → slice_index_or f i zero_ℚ ≤ℚ slice_index_or g i zero_ℚ) → AreAtMost f g
at_most_each [] [] l h = tt
at_most_each [] (y ∷ g) l h = absurd (omega arith)
at_most_each (x ∷ f) [] l h = absurd (omega arith)
at_most_each (x ∷ f) (y ∷ g) l h = (h 0 (omega arith), at_most_each f g (omega arith) (λ i k. h (suc i) (omega arith)))

pub at_most_parts : (a b c d : List ℚ) → length a ≡ length c → AreAtMost (a ++ b) (c ++ d) → AreAtMost a c × AreAtMost b d
at_most_parts [] b [] d l h = (tt, h)
at_most_parts [] b (y ∷ c) d l h = absurd (omega arith)
at_most_parts (x ∷ a) b [] d l h = absurd (omega arith)
at_most_parts (x ∷ a) b (y ∷ c) d l h = let parts = at_most_parts a b c d (omega arith) h.1 in ((h.0, parts.0), parts.1)

pub at_most_both : (f g : List ℚ) → AreAtMost f g → AreAtMost (negated f) (negated g) → f ≡ g
at_most_both [] [] h k = refl
at_most_both [] (y ∷ g) h k = absurd h
at_most_both (x ∷ f) [] h k = absurd h
at_most_both (x ∷ f) (y ∷ g) h k = ap₂ (λ p q. p ∷ q) (le_antisymm x y h.0 (turned x y k.0)) (at_most_both f g h.1 k.1)
  where
    turned : (a b : ℚ) → neg_ℚ a ≤ℚ neg_ℚ b → b ≤ℚ a
    turned a b e = sym (neg-le b a) ∙ e

pub at_least_zero : (n : ℕ) (f : List ℚ) → length f ≡ n → AreAtMost (zeros n) f → AtLeastZero f
at_least_zero zero [] l h = nonneg-nil
at_least_zero (suc n) [] l h = nonneg-nil
at_least_zero zero (x ∷ f) l h = absurd (omega arith)
at_least_zero (suc n) (x ∷ f) l h = nonneg-cons x f h.0 (at_least_zero n f (omega arith) h.1)

-- ---- the sides
-- each side is at least its bound, or at least 0, at x
pub sides_hold : (f : Inequality → ℚ) (x : List ℚ) (sides : List Inequality) → AreAtMost (map f sides) (values (map (λ s. s.normal) sides) x) →
    All (λ s. f s ≤ℚ dot s.normal x) sides
sides_hold f x [] h = All-nil (λ s. f s ≤ℚ dot s.normal x)
sides_hold f x (s ∷ sides) h = All-cons (λ s. f s ≤ℚ dot s.normal x) s sides h.0 (sides_hold f x sides h.1)
