-- Sets of tight rows: what it means that one contains the common rows of two others, and the set at a vector that is tight
-- exactly where two others are.
use Rattle.std.proofs.Common.{Contains, ◌++◌, min, ◌≡◌, ℕ, zero, suc, ◌<◌, List, [], ◌∷◌, length, map, Bool, true, false, true≢false, not, ◌&&◌, ◌||◌, refl, sym, ap, ◌∙◌, arith, get_or}
use Rattle.std.specs.Prelude.{IsTrue, ◌↔◌}
use Rattle.std.specs.List.{list_all}
use Rattle.std.proofs.lemmas.List.{ext_get_or, length-map, map-append}
use Rattle.std.proofs.lemmas.List.Folds.{list_all-map, list_all_at}
use Rattle.exact_field.specs.Rational.{ℚ}
use Rattle.exact_field.specs.Vector.{dot}
use Rattle.polyhedra.specs.TightSets.{IsTight}
use Rattle.polyhedra.specs.DoubleDescription.{is_zero, covers}
use Rattle.polyhedra.specs.LiveList.{tight_set}
use Rattle.polyhedra.proofs.Lists.{Contains-here, Contains-there}
use Rattle.polyhedra.proofs.Tests.{both_true, both_hold, same_tests, test_of_zero, zero_of_test}

either : (a b c : Bool) → ((a && b) ≡ true → c ≡ true) → (not a || not b || c) ≡ true
either true true c h = h refl
either true false c h = refl
either false true c h = refl
either false false c h = refl

holds : (a b c : Bool) → (not a || not b || c) ≡ true → (a && b) ≡ true → c ≡ true
holds true true c h k = h
holds true false c h k = absurd (true≢false (sym k))
holds false b c h k = absurd (true≢false (sym k))

-- where each row that is tight at a and b is tight at g, as sets and as a test of the rows
covers_from : (rows : List (List ℚ)) (a b g : List ℚ) →
    ((k : ℕ) → (get_or (tight_set rows a) k false && get_or (tight_set rows b) k false) ≡ true → get_or (tight_set rows g) k false ≡ true) → covers rows a b g ≡ true
covers_from [] a b g h = refl
covers_from (r ∷ rows) a b g h = both_hold (not (is_zero (dot r a)) || not (is_zero (dot r b)) || is_zero (dot r g)) (covers rows a b g)
    (either (is_zero (dot r a)) (is_zero (dot r b)) (is_zero (dot r g)) (h 0)) (covers_from rows a b g (λ k. h (suc k)))

covers_to : (rows : List (List ℚ)) (a b g : List ℚ) → covers rows a b g ≡ true → (k : ℕ) →
    (get_or (tight_set rows a) k false && get_or (tight_set rows b) k false) ≡ true → get_or (tight_set rows g) k false ≡ true
covers_to [] a b g h k e = absurd (true≢false (sym e))
covers_to (r ∷ rows) a b g h zero e = holds (is_zero (dot r a)) (is_zero (dot r b)) (is_zero (dot r g))
    (both_true (not (is_zero (dot r a)) || not (is_zero (dot r b)) || is_zero (dot r g)) (covers rows a b g) h).0 e
covers_to (r ∷ rows) a b g h (suc k) e = covers_to rows a b g
    (both_true (not (is_zero (dot r a)) || not (is_zero (dot r b)) || is_zero (dot r g)) (covers rows a b g) h).1 k e

-- the test of the sets is the test of the rows
pub contains_is : (rows : List (List ℚ)) (a b g : List ℚ) (common : List Bool) (test : Bool) →
    ((k : ℕ) → get_or common k false ≡ (get_or (tight_set rows a) k false && get_or (tight_set rows b) k false)) →
    IsTrue test ↔ ((k : ℕ) → IsTrue (get_or common k false) → IsTrue (get_or (tight_set rows g) k false)) → test ≡ covers rows a b g
contains_is rows a b g common test m e = same_tests test (covers rows a b g)
    (λ t. covers_from rows a b g (λ k h. e.0 t k (m k ∙ h)))
    (λ h. e.1 (λ k t. covers_to rows a b g h k (sym (m k) ∙ t)))

-- ---- of three tests
pub one_of : (x z : Bool) → x ≡ true → not false ≡ (x || not z)
one_of x z e = ap (λ a. a || not z) (sym e)

pub third_one : (x y z : Bool) → x ≡ false → y ≡ z → not y ≡ (x || not z)
third_one x y z e f = ap not f ∙ ap (λ a. a || not z) (sym e)

-- ---- a test of every element
pub none_at : {A B : Type 0} (f : A → B) (t : B → Bool) (xs : List A) (i : ℕ) (x : A) → i < length xs → x ≡ get_or xs i x → t (f x) ≡ false →
    list_all t (map f xs) ≡ false
none_at f t xs i x l e h = list_all-map t f xs ∙ list_all_at (λ y. t (f y)) xs i x l (ap (λ y. t (f y)) (sym e) ∙ h)

pub all_but : {B : Type 0} (t : B → Bool) (y : B) (xs ys : List B) → xs ≡ y ∷ ys → t y ≡ true → list_all t ys ≡ list_all t xs
all_but t y xs ys e h = sym (ap (list_all t) e ∙ ap (λ b. b && list_all t ys) h)

-- ---- the set at a vector that is tight where two others are
tight_everywhere : (rows : List (List ℚ)) (p m z : List ℚ) →
    ((r : List ℚ) → Contains rows r → IsTight r z ↔ (IsTight r p × IsTight r m)) → (k : ℕ) →
    (get_or (tight_set rows p) k false && get_or (tight_set rows m) k false) ≡ get_or (tight_set rows z) k false
tight_everywhere [] p m z h k = refl
tight_everywhere (r ∷ rows) p m z h zero = same_tests (is_zero (dot r p) && is_zero (dot r m)) (is_zero (dot r z))
    (λ e. let b : (is_zero (dot r p) ≡ true) × (is_zero (dot r m) ≡ true) = both_true (is_zero (dot r p)) (is_zero (dot r m)) e in
    test_of_zero (dot r z) ((h r (Contains-here r rows r refl)).1 (zero_of_test (dot r p) b.0, zero_of_test (dot r m) b.1)))
    (λ e. let b : IsTight r p × IsTight r m = (h r (Contains-here r rows r refl)).0 (zero_of_test (dot r z) e) in
    both_hold (is_zero (dot r p)) (is_zero (dot r m)) (test_of_zero (dot r p) b.0) (test_of_zero (dot r m) b.1))
tight_everywhere (r ∷ rows) p m z h (suc k) = tight_everywhere rows p m z (λ s c. h s (Contains-there r rows s c)) k

pub length-tight_set : (rows : List (List ℚ)) (v : List ℚ) → length (tight_set rows v) ≡ length rows
length-tight_set rows v = length-map rows (λ r. is_zero (dot r v))

pub meet_is_tight : (rows : List (List ℚ)) (p m z : List ℚ) (common : List Bool) → length common ≡ min (length (tight_set rows p)) (length (tight_set rows m)) →
    ((k : ℕ) → get_or common k false ≡ (get_or (tight_set rows p) k false && get_or (tight_set rows m) k false)) →
    ((r : List ℚ) → Contains rows r → IsTight r z ↔ (IsTight r p × IsTight r m)) → common ≡ tight_set rows z
meet_is_tight rows p m z common b i h = ext_get_or false common (tight_set rows z)
    (let x : length (tight_set rows p) ≡ length rows = length-tight_set rows p in
    let y : length (tight_set rows m) ≡ length rows = length-tight_set rows m in
    let w : length (tight_set rows z) ≡ length rows = length-tight_set rows z in omega (arith, b, x, y, w))
    (λ k _. i k ∙ tight_everywhere rows p m z h k)

-- one more row
pub tight_with : (rows : List (List ℚ)) (row v : List ℚ) → tight_set (rows ++ row ∷ []) v ≡ tight_set rows v ++ is_zero (dot row v) ∷ []
tight_with rows row v = map-append (λ r. is_zero (dot r v)) rows (row ∷ [])
