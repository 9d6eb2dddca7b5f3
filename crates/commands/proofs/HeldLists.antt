-- Parts of an entry that are held, by slices of their lists.
use Rattle.std.proofs.Common.{◌≡◌, ℕ, ◌<◌, ◌≤◌, List, [], ◌∷◌, length, All, IsTrue, Bool, true, false, true≢false, ◌&&◌, refl, sym, subst, arith}
use Rattle.std.specs.List.{list_all}
use Rattle.std.proofs.lemmas.Bool.{lt-ltb}
use Rattle.std.proofs.lemmas.List.Elements.{All-head, All-tail}
use Rattle.word_lines.specs.Parts.{is_short}

both : (a b : Bool) → a ≡ true → b ≡ true → (a && b) ≡ true
both true b h k = k
both false b h k = absurd (true≢false (sym h))

all_pass : {X : Type 0} (test : X → Bool) (xs : List X) → All (λ x. test x ≡ true) xs → list_all test xs ≡ true
all_pass test [] h = refl
all_pass test (x ∷ xs) h = both (test x) (list_all test xs) (All-head (λ y. test y ≡ true) x xs h)
    (all_pass test xs (All-tail (λ y. test y ≡ true) x xs h))

short : (n : ℕ) → n ≤ 4294967294 → is_short n ≡ true
short n h = let below : n < 4294967296 = omega (arith, h) in lt-ltb n 4294967296 below

-- a list that is not too long, of items that pass a test, by a slice of it all
pub list_held : {X : Type 0} (test : X → Bool) (list slice : List X) → slice ≡ list → length slice ≤ 4294967294 → All (λ x. IsTrue (test x)) slice →
    IsTrue (is_short (length list) && list_all test list)
list_held {X} test list slice same bound all =
    both (is_short (length list)) (list_all test list)
    (short (length list) (subst (λ (xs : List X). length xs ≤ 4294967294) same bound))
    (all_pass test list (subst (λ (xs : List X). All (λ x. IsTrue (test x)) xs) same all))
