-- Lists of numbers and sparse vectors that a log can write.
use Rattle.std.proofs.Common.{◌≡◌, ℕ, ◌<◌, ◌≤◌, List, length, All, IsTrue, Bool, true, ◌&&◌, refl, subst, arith}
use Rattle.std.specs.List.{list_all}
use Rattle.std.proofs.lemmas.Bool.{lt-ltb}
use Rattle.exact_field.specs.Rational.{ℚ}
use Rattle.polyhedra.proofs.Tests.{both_hold, true-list_all}
use Rattle.frac128.specs.Held.{is_held}
use Rattle.frac128.specs.Sparse.{IsSparse, rises_above}
use Rattle.frac128.specs.declared.vectors.Spot.{Spot}
use Rattle.deriv_log.specs.Formed.{is_formed}
use Rattle.word_lines.specs.Parts.{is_formed_part, is_formed_spot, is_short}
use Rattle.word_lines.specs.Parts.{naturals, sparse, vector}
use Rattle.deriv_log.specs.declared.entry.Entry.TheVariants.{Duality}

short : (n : ℕ) → n ≤ 4294967294 → is_short n ≡ true
short n h = let below : n < 4294967296 = omega (arith, h) in lt-ltb n 4294967296 below

-- a list whose items pass a test, by a slice of it all
listed : {X : Type 0} (test : X → Bool) (list slice : List X) → slice ≡ list → All (λ x. IsTrue (test x)) slice → list_all test list ≡ true
listed {X} test list slice same all = true-list_all test list (subst (λ (xs : List X). All (λ x. IsTrue (test x)) xs) same all)

counted : {X : Type 0} (list slice : List X) → slice ≡ list → length slice ≤ 4294967294 → is_short (length list) ≡ true
counted {X} list slice same bound = short (length list) (subst (λ (xs : List X). length xs ≤ 4294967294) same bound)

pub vector_written : (v slice : List ℚ) → slice ≡ v → length slice ≤ 4294967294 → All (λ q. IsTrue (is_held q)) slice →
    is_formed_part (vector v) ≡ true
vector_written v slice same bound all =
    both_hold (is_short (length v)) (list_all is_held v) (counted v slice same bound) (listed is_held v slice same all)

pub naturals_written : (ns slice : List ℕ) → slice ≡ ns → length slice ≤ 4294967294 → All (λ n. IsTrue (is_short n)) slice →
    is_formed_part (naturals ns) ≡ true
naturals_written ns slice same bound all =
    both_hold (is_short (length ns)) (list_all is_short ns) (counted ns slice same bound) (listed is_short ns slice same all)

pub sparse_written : (u slice : List Spot) → slice ≡ u → length slice ≤ 4294967294 → All (λ s. IsTrue (is_formed_spot s)) slice → IsSparse u →
    is_formed_part (sparse u) ≡ true
sparse_written u slice same bound all rises =
    both_hold (is_short (length u)) (rises_above 0 u && list_all is_formed_spot u) (counted u slice same bound)
    (both_hold (rises_above 0 u) (list_all is_formed_spot u) rises (listed is_formed_spot u slice same all))

pub duality_written : (c weights : List ℚ) (picks : List ℕ) (inverse : List ℚ) → is_formed_part (vector c) ≡ true →
    is_formed_part (vector weights) ≡ true → is_formed_part (naturals picks) ≡ true → is_formed_part (vector inverse) ≡ true →
    IsTrue (is_formed (Duality c weights picks inverse))
duality_written c weights picks inverse h k l m =
    both_hold (is_formed_part (vector c)) _ h
    (both_hold (is_formed_part (vector weights)) _ k
    (both_hold (is_formed_part (naturals picks)) _ l (both_hold (is_formed_part (vector inverse)) true m refl)))
