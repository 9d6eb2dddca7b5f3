-- The first cuts with the largest tight sets account for all cuts.
use Rattle.std.proofs.Common.{◌≡◌, ℕ, List, [], ◌∷◌, AllPairs, Contains, refl, sym, ap, ◌∙◌, subst, ◌⊎◌, inl, inr, Bool, true, false, true≢false, not, ◌||◌, filter}
use Rattle.std.specs.List.{list_all}
use Rattle.exact_field.specs.Rational.{ℚ}
use Rattle.exact_field.specs.Vector.{dot}
use Rattle.polyhedra.specs.TightSets.{IsTight}
use Rattle.polyhedra.specs.DoubleDescription.{is_zero}
use Rattle.polyhedra.specs.Inequality.{Inequality}
use Rattle.polyhedra.specs.Exactness.{level, row_of, rows_of, TightLiesIn, IsNamed}
use Rattle.polyhedra.proofs.Lists.{Contains-here, Contains-there, Contains-cases, Contains-nil}
use Rattle.polyhedra.proofs.Members.{all_of_members, member_of, Contains-filter, Contains-filter_source, pairs-nil, pairs-cons, pairs-filter, pairs-weaker}
use Rattle.polyhedra.proofs.LargestTightSets.{largest_account, tight_through}
use Rattle.exact_field.specs.Rational.{whole, fraction, ◌+ℚ◌, ◌*ℚ◌, neg_ℚ, le_ℚ}
use Rattle.exact_field.specs.Gcd.{gcd}
use Rattle.polyhedra.specs.Examples.{FirstExample}
use Rattle.polyhedra.specs.FirstNamed.{tight_lies_in, same_tight, may_be_named, firsts, named_first, FirstAccount, TightSetsTellApart}
use Rattle.polyhedra.proofs.Tests.{both_hold, both_true, implied, implies, list_all-true, refuted, test_of_zero, true-list_all, zero_of_test}

module _ (gens : List (List ℚ)) where
  lies_is : (a b : List ℚ) → tight_lies_in gens a b ≡ true → TightLiesIn gens a b
  lies_is a b h = all_of_members (λ g. IsTight a g → IsTight b g) gens (λ g c e. zero_of_test (dot b g) (implied (is_zero (dot a g)) (is_zero (dot b g))
      (member_of (λ v. (not (is_zero (dot a v)) || is_zero (dot b v)) ≡ true) gens g
      (list_all-true (λ v. not (is_zero (dot a v)) || is_zero (dot b v)) gens h) c) (test_of_zero (dot a g) e)))

  lies_test : (a b : List ℚ) → TightLiesIn gens a b → tight_lies_in gens a b ≡ true
  lies_test a b h = true-list_all (λ v. not (is_zero (dot a v)) || is_zero (dot b v)) gens
      (all_of_members (λ v. (not (is_zero (dot a v)) || is_zero (dot b v)) ≡ true) gens (λ g c. implies (is_zero (dot a g)) (is_zero (dot b g))
      (λ e. test_of_zero (dot b g) (member_of (λ v. IsTight a v → IsTight b v) gens g h c (zero_of_test (dot a g) e)))))

  -- ---- the first of the same
  same_through : (a b c : Inequality) → same_tight gens a b ≡ true → same_tight gens b c ≡ true → same_tight gens a c ≡ true
  same_through a b c h k =
      let s : (tight_lies_in gens (row_of a) (row_of b) ≡ true) × (tight_lies_in gens (row_of b) (row_of a) ≡ true) =
      both_true (tight_lies_in gens (row_of a) (row_of b)) (tight_lies_in gens (row_of b) (row_of a)) h in
      let t : (tight_lies_in gens (row_of b) (row_of c) ≡ true) × (tight_lies_in gens (row_of c) (row_of b) ≡ true) =
      both_true (tight_lies_in gens (row_of b) (row_of c)) (tight_lies_in gens (row_of c) (row_of b)) k in
      both_hold (tight_lies_in gens (row_of a) (row_of c)) (tight_lies_in gens (row_of c) (row_of a))
      (lies_test (row_of a) (row_of c) (tight_through gens (row_of a) (row_of b) (row_of c) (lies_is (row_of a) (row_of b) s.0) (lies_is (row_of b) (row_of c) t.0)))
      (lies_test (row_of c) (row_of a) (tight_through gens (row_of c) (row_of b) (row_of a) (lies_is (row_of c) (row_of b) t.1) (lies_is (row_of b) (row_of a) s.1)))

  same_self : (a : Inequality) → same_tight gens a a ≡ true
  same_self a =
      let h : tight_lies_in gens (row_of a) (row_of a) ≡ true = lies_test (row_of a) (row_of a)
      (all_of_members (λ g. IsTight (row_of a) g → IsTight (row_of a) g) gens (λ g c e. e)) in
      both_hold (tight_lies_in gens (row_of a) (row_of a)) (tight_lies_in gens (row_of a) (row_of a)) h h

module _ {X : Type 0} (same : X → X → Bool) (self : (x : X) → same x x ≡ true)
    (through : (x y z : X) → same x y ≡ true → same y z ≡ true → same x z ≡ true) where
  first_of_each : (xs : List X) (x : X) → Contains xs x → (y : X) × Contains (firsts same xs) y × (same y x ≡ true)
  first_of_each [] x c = absurd (Contains-nil x c)
  first_of_each (z ∷ xs) x c = go (Contains-cases z xs x c) (first_of_each xs x)
    where
      at : (y : X) → Contains (firsts same xs) y → same y x ≡ true → (b : Bool) → same z y ≡ b →
          (w : X) × Contains (firsts same (z ∷ xs)) w × (same w x ≡ true)
      at y k e true t = (z, Contains-here z (filter (λ v. not (same z v)) (firsts same xs)) z refl, through z y x t e)
      at y k e false t = (
        y,
        Contains-there z (filter (λ v. not (same z v)) (firsts same xs)) y
            (Contains-filter (λ v. not (same z v)) (firsts same xs) y k (ap not t)),
        e,
      )

      go : (z ≡ x) ⊎ Contains xs x → (Contains xs x → (y : X) × Contains (firsts same xs) y × (same y x ≡ true)) →
          (w : X) × Contains (firsts same (z ∷ xs)) w × (same w x ≡ true)
      go (inl e) again = (z, Contains-here z (filter (λ v. not (same z v)) (firsts same xs)) z refl, subst (λ (v : X). same z v ≡ true) e (self z))
      go (inr k) again = let s : (y : X) × Contains (firsts same xs) y × (same y x ≡ true) = again k in at s.0 s.1 s.2 (same z s.0) refl

named_test : (n : ℕ) (cuts : List Inequality) (gens : List (List ℚ)) (f : Inequality) → IsNamed n cuts gens f → may_be_named n cuts gens f ≡ true
named_test n cuts gens f h =
    both_hold (not (tight_lies_in gens (row_of f) (level n)))
    (list_all (λ row. not (tight_lies_in gens (row_of f) row) || tight_lies_in gens row (row_of f)) (rows_of n cuts))
    (refuted (tight_lies_in gens (row_of f) (level n)) (λ t. h.touches (lies_is gens (row_of f) (level n) t)))
    (true-list_all (λ row. not (tight_lies_in gens (row_of f) row) || tight_lies_in gens row (row_of f)) (rows_of n cuts)
    (all_of_members (λ row. (not (tight_lies_in gens (row_of f) row) || tight_lies_in gens row (row_of f)) ≡ true) (rows_of n cuts)
    (λ row c. implies (tight_lies_in gens (row_of f) row) (tight_lies_in gens row (row_of f)) (λ t. lies_test gens row (row_of f)
    (member_of (λ r. TightLiesIn gens (row_of f) r → TightLiesIn gens r (row_of f)) (rows_of n cuts) row h.largest c (lies_is gens (row_of f) row t))))))

named_back : (n : ℕ) (cuts : List Inequality) (gens : List (List ℚ)) (f : Inequality) → Contains cuts f → may_be_named n cuts gens f ≡ true →
    IsNamed n cuts gens f
named_back n cuts gens f c h =
    let s : (not (tight_lies_in gens (row_of f) (level n)) ≡ true)
    × (list_all (λ row. not (tight_lies_in gens (row_of f) row) || tight_lies_in gens row (row_of f)) (rows_of n cuts) ≡ true) =
    both_true (not (tight_lies_in gens (row_of f) (level n)))
    (list_all (λ row. not (tight_lies_in gens (row_of f) row) || tight_lies_in gens row (row_of f)) (rows_of n cuts)) h in
    record {
      cut = c;
      touches = λ t. true≢false (sym s.0 ∙ ap not (lies_test gens (row_of f) (level n) t));
      largest = all_of_members (λ r. TightLiesIn gens (row_of f) r → TightLiesIn gens r (row_of f)) (rows_of n cuts)
          (λ r k t. lies_is gens r (row_of f) (implied (tight_lies_in gens (row_of f) r) (tight_lies_in gens r (row_of f))
          (member_of (λ row. (not (tight_lies_in gens (row_of f) row) || tight_lies_in gens row (row_of f)) ≡ true) (rows_of n cuts) r
          (list_all-true (λ row. not (tight_lies_in gens (row_of f) row) || tight_lies_in gens row (row_of f)) (rows_of n cuts) s.1) k)
          (lies_test gens (row_of f) r t)));
    }

module _ {X : Type 0} (same : X → X → Bool) where
  firsts_listed : (xs : List X) (x : X) → Contains (firsts same xs) x → Contains xs x
  firsts_listed [] x c = c
  firsts_listed (z ∷ xs) x c = go (Contains-cases z (filter (λ v. not (same z v)) (firsts same xs)) x c) (firsts_listed xs x)
    where
      go : (z ≡ x) ⊎ Contains (filter (λ v. not (same z v)) (firsts same xs)) x → (Contains (firsts same xs) x → Contains xs x) → Contains (z ∷ xs) x
      go (inl e) again = Contains-here z xs x e
      go (inr k) again = Contains-there z xs x (again (Contains-filter_source (λ v. not (same z v)) (firsts same xs) x k).0)

  firsts_differ : (xs : List X) → AllPairs (λ a b. not (same a b) ≡ true) (firsts same xs)
  firsts_differ [] = pairs-nil (λ a b. not (same a b) ≡ true)
  firsts_differ (z ∷ xs) = pairs-cons (λ a b. not (same a b) ≡ true) z (filter (λ v. not (same z v)) (firsts same xs))
      (all_of_members (λ v. not (same z v) ≡ true) (filter (λ v. not (same z v)) (firsts same xs))
      (λ v k. (Contains-filter_source (λ w. not (same z w)) (firsts same xs) v k).1))
      (pairs-filter (λ a b. not (same a b) ≡ true) (λ v. not (same z v)) (firsts same xs) (firsts_differ xs))

pub first_account : FirstAccount
first_account n cuts gens = record {
  names = all_of_members (IsNamed n cuts gens) (named_first n cuts gens) (λ f c.
      let s : Contains cuts f × (may_be_named n cuts gens f ≡ true) = Contains-filter_source (may_be_named n cuts gens) cuts f
      (firsts_listed (same_tight gens) (filter (may_be_named n cuts gens) cuts) f c) in named_back n cuts gens f s.0 s.1);
  differ = pairs-weaker (λ a b. not (same_tight gens a b) ≡ true) (Differ gens) (named_first n cuts gens)
      (λ a b c k h t. true≢false (sym h ∙ ap not (both_hold (tight_lies_in gens (row_of a) (row_of b)) (tight_lies_in gens (row_of b) (row_of a))
      (lies_test gens (row_of a) (row_of b) t.0) (lies_test gens (row_of b) (row_of a) t.1))))
      (firsts_differ (same_tight gens) (filter (may_be_named n cuts gens) cuts));
  stands = stands;
  accounted = largest_account n cuts gens (named_first n cuts gens) stands;
}
  where
    Differ : List (List ℚ) → Inequality → Inequality → Type 0
    Differ gs a b = TightLiesIn gs (row_of a) (row_of b) × TightLiesIn gs (row_of b) (row_of a) → ⊥

    stands : (f : Inequality) → IsNamed n cuts gens f → (g : Inequality) × Contains (named_first n cuts gens) g × TightLiesIn gens (row_of f) (row_of g)
    stands f h =
        let s : (g : Inequality) × Contains (named_first n cuts gens) g × (same_tight gens g f ≡ true) =
        first_of_each (same_tight gens) (same_self gens) (same_through gens) (filter (may_be_named n cuts gens) cuts) f
        (Contains-filter (may_be_named n cuts gens) cuts f h.cut (named_test n cuts gens f h)) in (
          s.0,
          s.1,
          lies_is gens (row_of f) (row_of s.0)
              (both_true (tight_lies_in gens (row_of s.0) (row_of f)) (tight_lies_in gens (row_of f) (row_of s.0)) s.2).1,
        )

pub tight_sets_tell_apart : TightSetsTellApart
tight_sets_tell_apart gens a b h e = h (all_of_members (λ g. IsTight (row_of a) g → IsTight (row_of b) g) gens
    (λ g c t. ap (λ v. dot (row_of v) g) (sym e) ∙ t))

pub first_example : FirstExample
unfolding whole fraction ◌+ℚ◌ ◌*ℚ◌ neg_ℚ le_ℚ gcd
first_example = refl
