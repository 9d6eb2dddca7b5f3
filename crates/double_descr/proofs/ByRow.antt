-- Places by row: what a search leaves out has no pair.
use Rattle.std.proofs.Common.{Option, Some, None, true≢false, IsTrue, ◌+◌, ◌-◌, ◌≡◌, ℕ, zero, suc, ◌<◌, ◌≤◌, cond, List, [], ◌∷◌, length, drop, get_or, Bool, true, false, ◌&&◌, ◌||◌, not, nat_eq, ne_eqb, refl, sym, ap, ◌∙◌, subst, arith}
use Rattle.std.specs.Prelude.{IsFalse}
use Rattle.std.specs.List.{list_all}
use Rattle.std.proofs.lemmas.Bool.{and_parts, or_parts}
use Rattle.std.proofs.lemmas.List.{get_or_default}
use Rattle.exact_field.specs.Rational.{ℚ}
use Rattle.exact_field.specs.Vector.{dot}
use Rattle.incid_sets.specs.Marks.{has, size, ContainsAll, IsMeet, IsUnion}
use Rattle.polyhedra.specs.DoubleDescription.{covers, is_zero}
use Rattle.polyhedra.specs.LiveList.{tight_set}
use Rattle.double_descr.specs.ByRow.{set_of, tight_at, AreSetsOf, AreWithin, HasPlace, HasPlaceIn}
use Rattle.double_descr.specs.declared.generator.Generator.{Generator}
use Rattle.double_descr.proofs.Covering.{both_common, both_of, size_cons, size_within}

-- ---- how many of the first k rows are not tight
abbrev one : Bool → ℕ
one b = cond {A = ℕ} b 1 0

pub missed : List Bool → List Bool → ℕ → ℕ
missed [] tight k = 0
missed (x ∷ rows) tight zero = 0
missed (x ∷ rows) [] (suc k) = one x + missed rows [] k
missed (x ∷ rows) (y ∷ tight) (suc k) = one (x && not y) + missed rows tight k

pub none_missed : (rows tight : List Bool) → missed rows tight 0 ≡ 0
unfolding missed
none_missed [] tight = refl
none_missed (x ∷ rows) tight = refl

-- further rows miss no fewer
pub missed_more : (rows tight : List Bool) (k d : ℕ) → missed rows tight k ≤ missed rows tight (k + d)
unfolding missed
missed_more [] tight k d = omega arith
missed_more (x ∷ rows) tight zero d = omega arith
missed_more (x ∷ rows) [] (suc k) d = let e = missed_more rows [] k d in
    subst (λ n. one x + missed rows [] k ≤ missed (x ∷ rows) [] n) (let s : suc (k + d) ≡ suc k + d = omega arith in s) (omega (arith, e))
missed_more (x ∷ rows) (y ∷ tight) (suc k) d = let e = missed_more rows tight k d in
    subst (λ n. one (x && not y) + missed rows tight k ≤ missed (x ∷ rows) (y ∷ tight) n) (let s : suc (k + d) ≡ suc k + d = omega arith in s) (omega (arith, e))

pub missed_later : (rows tight : List Bool) (k l : ℕ) → k ≤ l → missed rows tight k ≤ missed rows tight l
missed_later rows tight k l h =
    let e : k + (l - k) ≡ l = omega (arith, h) in
    let m = subst (λ (n : ℕ). missed rows tight k ≤ missed rows tight n) e (missed_more rows tight k (l - k)) in m

-- a row that is not tight is one more
pub one_missed : (rows tight : List Bool) (k : ℕ) → IsTrue (has rows k) → IsFalse (has tight k) → missed rows tight (k + 1) ≡ missed rows tight k + 1
unfolding missed
one_missed [] tight k h f = absurd (true≢false (sym h))
one_missed (true ∷ rows) [] zero h f = let e = none_missed rows [] in omega (arith, e)
one_missed (false ∷ rows) tight zero h f = absurd (true≢false (sym h))
one_missed (true ∷ rows) (true ∷ tight) zero h f = absurd (true≢false f)
one_missed (true ∷ rows) (false ∷ tight) zero h f = let e = none_missed rows tight in omega (arith, e)
one_missed (x ∷ rows) [] (suc k) h f = let e = one_missed rows [] k h f in
    subst (λ n. missed (x ∷ rows) [] n ≡ one x + missed rows [] k + 1) (let s : suc (k + 1) ≡ suc k + 1 = omega arith in s) (omega (arith, e))
one_missed (x ∷ rows) (y ∷ tight) (suc k) h f = let e = one_missed rows tight k h f in
    subst (λ n. missed (x ∷ rows) (y ∷ tight) n ≡ one (x && not y) + missed rows tight k + 1) (let s : suc (k + 1) ≡ suc k + 1 = omega arith in s) (omega (arith, e))

none_met : (rows : List Bool) → size (both_of rows []) ≡ 0
unfolding both_of
none_met [] = refl
none_met (x ∷ rows) = refl

-- those that are tight, and those that are not, are no more than all
met_and_missed : (rows tight : List Bool) (k : ℕ) → size (both_of rows tight) + missed rows tight k ≤ size rows
unfolding missed both_of
met_and_missed [] tight k = omega arith
met_and_missed (x ∷ rows) [] zero = omega arith
met_and_missed (x ∷ rows) [] (suc k) =
    let e = size_cons x rows in let m = met_and_missed rows [] k in let z = none_met rows in omega (arith, e, m, z)
met_and_missed (x ∷ rows) (y ∷ tight) zero =
    let e = size_cons x rows in let f = size_cons (x && y) (both_of rows tight) in let m = met_and_missed rows tight 0 in let z = none_missed rows tight in go x y e f m z
  where
    go : (x y : Bool) → size (x ∷ rows) ≡ one x + size rows → size ((x && y) ∷ both_of rows tight) ≡ one (x && y) + size (both_of rows tight) →
        size (both_of rows tight) + missed rows tight 0 ≤ size rows → missed rows tight 0 ≡ 0 → size ((x && y) ∷ both_of rows tight) + 0 ≤ size (x ∷ rows)
    go true true e f m z = omega (arith, e, f, m, z)
    go true false e f m z = omega (arith, e, f, m, z)
    go false y e f m z = omega (arith, e, f, m, z)
met_and_missed (x ∷ rows) (y ∷ tight) (suc k) =
    let e = size_cons x rows in let f = size_cons (x && y) (both_of rows tight) in let m = met_and_missed rows tight k in go x y e f m
  where
    go : (x y : Bool) → size (x ∷ rows) ≡ one x + size rows → size ((x && y) ∷ both_of rows tight) ≡ one (x && y) + size (both_of rows tight) →
        size (both_of rows tight) + missed rows tight k ≤ size rows → size ((x && y) ∷ both_of rows tight) + (one (x && not y) + missed rows tight k) ≤ size (x ∷ rows)
    go true true e f m = omega (arith, e, f, m)
    go true false e f m = omega (arith, e, f, m)
    go false y e f m = omega (arith, e, f, m)

-- where at least so many of some rows are tight, no more than the others are missed
pub few_missed : (rows tight common : List Bool) (least k : ℕ) → IsMeet common rows tight → least ≤ size common → missed rows tight k + least ≤ size rows
few_missed rows tight common least k meet enough =
    let m = met_and_missed rows tight k in
    let less = size_within common (both_of rows tight) (λ i h. both_common rows tight i ∙ sym (meet.common i) ∙ h) in omega (arith, m, less, enough)

-- ---- tests of places
-- where all that are passed over pass the test, it is that of those after them
pub pass_over : {A : Type 0} (t : A → Bool) (xs : List A) (k l : ℕ) → k ≤ l → ((i : ℕ) (x : A) → k ≤ i → i < l → i < length xs → x ≡ get_or xs i x → t x ≡ true) →
    list_all t (drop l xs) ≡ list_all t (drop k xs)
pass_over {A = A} t [] k l le h = ap (list_all t) (nothing l ∙ sym (nothing k))
  where
    nothing : (n : ℕ) → drop {A = A} n [] ≡ []
    nothing zero = refl
    nothing (suc n) = refl
pass_over t (x ∷ xs) (suc k) zero le h = absurd (omega (arith, le))
pass_over t (x ∷ xs) (suc k) (suc l) le h =
    pass_over t xs k l (omega (arith, le)) (λ i y lo hi inside is. h (suc i) y (omega (arith, lo)) (omega (arith, hi)) (omega (arith, inside)) is)
pass_over t (x ∷ xs) zero zero le h = refl
pass_over t (x ∷ xs) zero (suc l) le h =
    pass_over t xs 0 l (omega arith) (λ i y lo hi inside is. h (suc i) y (omega arith) (omega (arith, hi)) (omega (arith, inside)) is)
    ∙ ap (λ b. b && list_all t xs) (sym (h 0 x (omega arith) (omega arith) (omega arith) refl))

-- where a third vector covers a pair, each row that is tight at both is tight at it
covered_row : (a b c : Bool) → (not a || not b || c) ≡ true → a ≡ true → b ≡ true → c ≡ true
covered_row true true c h x y = h
covered_row true false c h x y = absurd (true≢false (sym y))
covered_row false b c h x y = absurd (true≢false (sym x))

pub covered_rows : (rows : List (List ℚ)) (a b g : List ℚ) → covers rows a b g ≡ true → (k : ℕ) → IsTrue (has (tight_set rows a) k) → IsTrue (has (tight_set rows b) k) →
    IsTrue (has (tight_set rows g) k)
covered_rows [] a b g h k x y = absurd (true≢false (sym x))
covered_rows (r ∷ rows) a b g h zero x y = covered_row (is_zero (dot r a)) (is_zero (dot r b)) (is_zero (dot r g)) (and_parts _ _ h).0 x y
covered_rows (r ∷ rows) a b g h (suc k) x y = covered_rows rows a b g (and_parts _ _ h).1 k x y

-- a vector that does not cover a pair passes the test of a third one
pub no_third : (x y z : Bool) → (z ≡ true → ⊥) → (x || y || not z) ≡ true
no_third x y true h = absurd (h refl)
no_third true y false h = refl
no_third false true false h = refl
no_third false false false h = refl

-- ---- a set by its row
-- what was read of a list of sets is the set of the row
pub set_read : (sets : List (List Bool)) (r : ℕ) (set : List Bool) → r < length sets → set ≡ get_or sets r set → set ≡ set_of sets r
set_read sets r set inside is = is ∙ get_or_default sets r set [] inside

-- a place that neither the sets before nor the set of one more row have
pub not_begun : (sets : List (List Bool)) (rows tight any set next : List Bool) (r place : ℕ) → HasPlace sets rows tight place → set ≡ set_of sets r → IsTrue (has rows r) →
    IsUnion next any set → IsFalse (has next place) → (IsFalse (has any place)) × (IsFalse (has tight r))
not_begun sets rows tight any set next r place holds is listed union absent = (parts.0, go (has tight r) refl)
  where
    parts : (has any place ≡ false) × (has set place ≡ false)
    parts = or_parts (has any place) (has set place) (sym (union.either place) ∙ absent)

    go : (b : Bool) → has tight r ≡ b → b ≡ false
    go false e = refl
    go true e = absurd (true≢false (sym (ap (λ s. has s place) is ∙ holds r listed e) ∙ parts.1))

-- a place is not the number of all
pub not_past : (place many : ℕ) → place < many → not (nat_eq place many) ≡ true
not_past place many less = ap not (ne_eqb place many (λ e. omega (arith, less, e)))

-- ---- the sets of a search
pub within_sets : {F : Type 0} (gens : List (Generator F)) (reach : List Bool) (sets : Option (List (List Bool))) (rows bound : ℕ) → AreSetsOf gens reach sets →
    rows ≡ length reach → bound ≡ length gens → AreWithin rows bound sets
within_sets gens reach (Some sets) rows bound h r b = (omega (arith, h.room.many, r), λ k. let l = h.room.bounded k in omega (arith, l, b))
within_sets gens reach None rows bound h r b = tt

pub placed : {F : Type 0} (gens : List (Generator F)) (reach : List Bool) (sets : Option (List (List Bool))) (common : List Bool) (place : ℕ) → AreSetsOf gens reach sets →
    place < length gens → ContainsAll reach common → HasPlaceIn sets common (tight_at gens place) place
placed gens reach (Some sets) common place h inside reached = λ r shared tight. h.holds place inside r (reached r shared) tight
placed gens reach None common place h inside reached = tt
