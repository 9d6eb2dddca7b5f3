-- Sets of tight rows: the meet of two, and how many rows two have in common.
use Rattle.std.proofs.Common.{true≢false, IsTrue, ◌↔◌, Contains, ◌+◌, ◌-◌, min, ◌≡◌, ℕ, zero, suc, ◌<◌, ◌≤◌, ◌⊎◌, inl, inr, subst, cond, count_by, List, [], ◌∷◌, length, map, Bool, true, false, ◌&&◌, refl, sym, ap, ap₂, ◌∙◌, arith}
use Rattle.std.specs.Prelude.{IsFalse}
use Rattle.std.proofs.lemmas.Bool.{and_parts, cases_lt}
use Rattle.std.proofs.lemmas.List.{ext_get_or, length-map}
use Rattle.std.proofs.lemmas.List.Sums.{sum_by-cons, length-filter}
use Rattle.exact_field.specs.Rational.{ℚ}
use Rattle.exact_field.specs.Vector.{dot}
use Rattle.incid_sets.specs.Marks.{has, size, ContainsAll, IsMeet}
use Rattle.polyhedra.specs.DoubleDescription.{is_zero, is_uncovered}
use Rattle.polyhedra.specs.Generators.{common_rows, tight_rows}
use Rattle.polyhedra.specs.LiveList.{Numbered, vectors, tight_set, without_numbers, is_uncovered_live}
use Rattle.polyhedra.proofs.Members.{member_of, Contains-map}
use Rattle.polyhedra.proofs.LiveList.{third_by_number}
use Rattle.polyhedra.proofs.AllButOne.{all_but_one_are_uncovered}
use Rattle.polyhedra.proofs.CommonRows.{few_are_covered}
use Rattle.polyhedra.proofs.Covering.{length-tight_set}
use Rattle.double_descr.specs.Steps.{values}
use Rattle.double_descr.specs.State.{AreTwoLive, HasTightSet, numbered_of, live_of, list_of, pair_of}
use Rattle.double_descr.specs.declared.generator.Generator.{Generator}

-- ---- sets as lists of tests
both_same : (a : Bool) → (a && a) ≡ a
both_same true = refl
both_same false = refl

pub meet_self : (common t : List Bool) → IsMeet common t t → common ≡ t
meet_self common t m = ext_get_or false common t (let b : length common ≡ min (length t) (length t) = m.bound in omega arith) (λ k _. m.common k ∙ both_same (has t k))

-- ---- how many rows are tight at both
both_tight : List ℚ → List ℚ → List ℚ → Bool
both_tight a b r = is_zero (dot r a) && is_zero (dot r b)

has-both : (rows : List (List ℚ)) (a b : List ℚ) (k : ℕ) → (has (tight_set rows a) k && has (tight_set rows b) k) ≡ has (map (both_tight a b) rows) k
unfolding both_tight
has-both [] a b k = refl
has-both (r ∷ rows) a b zero = refl
has-both (r ∷ rows) a b (suc k) = has-both rows a b k

size-map : {X : Type 0} (p : X → Bool) (xs : List X) → size (map p xs) ≡ count_by p xs
size-map p [] = refl
size-map p (x ∷ xs) = sum_by-cons (λ (marked : Bool). cond {A = ℕ} marked 1 0) (p x) (map p xs) ∙ ap (λ n. cond {A = ℕ} (p x) 1 0 + n) (size-map p xs)
    ∙ sym (sum_by-cons (λ y. cond {A = ℕ} (p y) 1 0) x xs)

common_size : (rows : List (List ℚ)) (a b : List ℚ) (common : List Bool) → IsMeet common (tight_set rows a) (tight_set rows b) →
    size common ≡ length (common_rows rows a b)
unfolding both_tight
common_size rows a b common m =
    ap size (ext_get_or false common (map (both_tight a b) rows)
    (let e : length common ≡ min (length (tight_set rows a)) (length (tight_set rows b)) = m.bound in
    let x : length (tight_set rows a) ≡ length rows = length-tight_set rows a in
    let y : length (tight_set rows b) ≡ length rows = length-tight_set rows b in
    let z : length (map (both_tight a b) rows) ≡ length rows = length-map rows (both_tight a b) in omega arith)
    (λ k _. m.common k ∙ has-both rows a b k))
    ∙ size-map (both_tight a b) rows ∙ sym (length-filter (both_tight a b) rows)

-- ---- two live generators
module _ {F : Type 0} (value : F → ℚ) (n : ℕ) (rows : List (List ℚ)) (gens : List (Generator F)) (p m : Generator F) (common : List Bool)
    (two : AreTwoLive value n rows gens p m) (meet : IsMeet common p.tight m.tight) where
  numbered_listed : (g : Generator F) → Contains gens g → Contains (live_of value gens) (numbered_of value g)
  numbered_listed g c = Contains-map (numbered_of value) gens g c

  listed : (g : Generator F) → Contains gens g → Contains (vectors (live_of value gens)) (values value g.vector.items)
  listed g c = Contains-map (λ (h : Numbered). h.vector) (live_of value gens) (numbered_of value g) (Contains-map (numbered_of value) gens g c)

  -- the pair by its numbers is that by its vectors
  by_vectors : is_uncovered_live rows (live_of value gens) (pair_of value p m) ≡ is_uncovered rows (vectors (live_of value gens)) (without_numbers (pair_of value p m))
  by_vectors = third_by_number n rows (list_of value gens two.next) two.live.rising two.live.described (pair_of value p m) (numbered_listed p two.plus_listed)
      (numbered_listed m two.minus_listed)

  tight_size : (g : Generator F) → Contains gens g → size g.tight ≡ length (tight_rows rows (values value g.vector.items))
  tight_size g c = ap size (member_of (HasTightSet value rows) gens g two.tight c) ∙ size-map (λ r. is_zero (dot r (values value g.vector.items))) rows
      ∙ sym (length-filter (λ r. is_zero (dot r (values value g.vector.items))) rows)

  shared_size : size common ≡ length (common_rows rows (values value p.vector.items) (values value m.vector.items))
  shared_size = common_size rows (values value p.vector.items) (values value m.vector.items) common (subst (λ (s : List Bool × List Bool). IsMeet common s.0 s.1)
      (λ i. (member_of (HasTightSet value rows) gens p two.tight two.plus_listed i, member_of (HasTightSet value rows) gens m two.tight two.minus_listed i)) meet)

  wide : length p.vector.items ≡ n
  wide = sym (length-map p.vector.items value) ∙ member_of (λ v. length v ≡ n) (vectors (live_of value gens)) (values value p.vector.items)
      two.live.described.generators_wide.wide (listed p two.plus_listed)

  -- fewer common tight rows than the width less 2: they are covered
  pub few_are_no_pair : size common < length p.vector.items - 2 → is_uncovered_live rows (live_of value gens) (pair_of value p m) ≡ false
  few_are_no_pair few =
      by_vectors
      ∙ few_are_covered n rows (vectors (live_of value gens)) (without_numbers (pair_of value p m)) two.live.described (listed p two.plus_listed)
      (listed m two.minus_listed) two.differ (omega (arith, few, shared_size, wide))

  -- at most one tight row of one of the two that is not common: they are a pair
  pub one_more_is_a_pair : (size p.tight ≤ size common + 1) ⊎ (size m.tight ≤ size common + 1) → is_uncovered_live rows (live_of value gens) (pair_of value p m) ≡ true
  one_more_is_a_pair one =
      by_vectors
      ∙ all_but_one_are_uncovered n rows (vectors (live_of value gens)) (without_numbers (pair_of value p m)) two.live.described (listed p two.plus_listed)
      (listed m two.minus_listed) (counted one)
    where
      counted : (size p.tight ≤ size common + 1) ⊎ (size m.tight ≤ size common + 1) →
          (length (tight_rows rows (values value p.vector.items)) ≤ length (common_rows rows (values value p.vector.items) (values value m.vector.items)) + 1)
          ⊎ (length (tight_rows rows (values value m.vector.items)) ≤ length (common_rows rows (values value p.vector.items) (values value m.vector.items)) + 1)
      counted (inl h) = inl (let e : size p.tight ≡ length (tight_rows rows (values value p.vector.items)) = tight_size p two.plus_listed in omega (arith, h, e, shared_size))
      counted (inr h) = inr (let e : size m.tight ≡ length (tight_rows rows (values value m.vector.items)) = tight_size m two.minus_listed in omega (arith, h, e, shared_size))

-- ---- sets of rows that hold the tight ones
-- the common numbers of two sets
unfoldable pub both_of : List Bool → List Bool → List Bool
both_of [] ys = []
both_of (x ∷ xs) [] = []
both_of (x ∷ xs) (y ∷ ys) = (x && y) ∷ both_of xs ys

and_false : (b : Bool) → (b && false) ≡ false
and_false true = refl
and_false false = refl

pub both_common : (xs ys : List Bool) (k : ℕ) → has (both_of xs ys) k ≡ (has xs k && has ys k)
unfolding both_of
both_common [] ys k = refl
both_common (x ∷ xs) [] k = sym (and_false (has (x ∷ xs) k))
both_common (x ∷ xs) (y ∷ ys) zero = refl
both_common (x ∷ xs) (y ∷ ys) (suc k) = both_common xs ys k

length-both : (xs ys : List Bool) → length (both_of xs ys) ≡ min (length xs) (length ys)
unfolding both_of
length-both [] ys = omega arith
length-both (x ∷ xs) [] = omega arith
length-both (x ∷ xs) (y ∷ ys) = let e = length-both xs ys in omega (arith, e)

pub both_is : (xs ys : List Bool) → IsMeet (both_of xs ys) xs ys
both_is xs ys = record { bound = length-both xs ys; common = both_common xs ys }

pub size_cons : (x : Bool) (xs : List Bool) → size (x ∷ xs) ≡ cond {A = ℕ} x 1 0 + size xs
size_cons x xs = sum_by-cons (λ (marked : Bool). cond {A = ℕ} marked 1 0) x xs

-- a set within another has no more numbers
pub size_within : (xs ys : List Bool) → ((k : ℕ) → IsTrue (has xs k) → IsTrue (has ys k)) → size xs ≤ size ys
size_within [] ys h = omega arith
size_within (true ∷ xs) [] h = absurd (true≢false (sym (h 0 refl)))
size_within (false ∷ xs) [] h = let e = size_cons false xs in let less = size_within xs [] (λ k. h (suc k)) in omega (arith, e, less)
size_within (true ∷ xs) (false ∷ ys) h = absurd (true≢false (sym (h 0 refl)))
size_within (true ∷ xs) (true ∷ ys) h =
    let d = size_cons true xs in let e = size_cons true ys in let less = size_within xs ys (λ k. h (suc k)) in omega (arith, d, e, less)
size_within (false ∷ xs) (y ∷ ys) h =
    let d = size_cons false xs in let e = size_cons y ys in let less = size_within xs ys (λ k. h (suc k)) in omega (arith, d, e, less)

-- where fewer than the width less 2 of some rows are tight at one generator, and all that are tight at the other are of them, by a test
pub few_met : {F : Type 0} (value : F → ℚ) (n : ℕ) (all : List (List ℚ)) (gens : List (Generator F)) (p m : Generator F) →
    AreTwoLive value n all gens p m → (least : ℕ) → least ≡ length p.vector.items - 2 → (enough : Bool) (rows : List Bool) → ContainsAll rows m.tight →
    (common : List Bool) × IsMeet common p.tight rows × (IsTrue enough ↔ (least ≤ size common)) → IsFalse enough →
    is_uncovered_live all (live_of value gens) (pair_of value p m) ≡ false
few_met value n all gens p m two least is enough rows within (common, meet, told) few =
    few_are_no_pair value n all gens p m (both_of p.tight m.tight) two (both_is p.tight m.tight) (by (cases_lt (size common) least))
  where
    contained : (k : ℕ) → IsTrue (has (both_of p.tight m.tight) k) → IsTrue (has common k)
    contained k h =
        let parts = and_parts (has p.tight k) (has m.tight k) (sym (both_common p.tight m.tight k) ∙ h) in
        meet.common k ∙ ap₂ (λ x y. x && y) parts.0 (within k parts.1)

    by : (size common < least) ⊎ (least ≤ size common) → size (both_of p.tight m.tight) < length p.vector.items - 2
    by (inl l) = let less = size_within (both_of p.tight m.tight) common contained in omega (arith, l, is, less)
    by (inr l) = absurd (true≢false (sym (told.1 l) ∙ few))
