-- A solved set's points, directions and named inequalities are exact, and what is exact is unique.
use Rattle.std.proofs.Common.{◌≡◌, ℕ, List, Contains, length, arith, ◌<◌, [], ◌∷◌, AllPairs, IsTrue, refl, sym, subst, ◌∙◌, ap₂, ◌⊎◌, inl, inr}
use Rattle.exact_field.specs.Rational.{ℚ}
use Rattle.polyhedra.specs.Exactness.{EnclosedAreRepresented, Exactness, SameMembers, RisingListsAreEqual, Uniqueness}
use Rattle.polyhedra.proofs.Lists.{Contains-here, Contains-there, Contains-cases, Contains-nil}
use Rattle.polyhedra.proofs.Members.{member_of, pairs-head, pairs-tail}
use Rattle.polyhedra.proofs.Enclosed.{some_point, in_hull, from_hull}
use Rattle.polyhedra.proofs.EnclosedVertices.{listed_is_vertex, vertex_is_listed}
use Rattle.polyhedra.proofs.EnclosedDirections.{listed_is_extreme, extreme_is_listed}
use Rattle.polyhedra.proofs.SolvedFacets.{named_is_facet, facet_is_named}

pub enclosed_are_represented : (Set Directions : List ℚ → Type 0) → EnclosedAreRepresented Set Directions
enclosed_are_represented Set Directions n c cuts gens points directions s = record {
  vertices = λ y. (listed_is_vertex n Set Directions c cuts gens points directions s y, vertex_is_listed n Set Directions c cuts gens points directions s y);
  extreme = λ d. (listed_is_extreme n Set Directions c cuts gens points directions s d, λ h. extreme_is_listed n Set Directions c cuts gens points directions s d h.0 h.1);
  hull = λ y. (in_hull n Set Directions c cuts gens points directions s y, from_hull n Set Directions c cuts gens points directions s y);
  some_point = (let p : (y : List ℚ) × Contains points y = some_point n Set Directions c cuts gens points directions s in let
      (y, k, h, e) = p' p in omega arith);
}
  where
    p' : ((y : List ℚ) × Contains points y) → (y : List ℚ) × (k : ℕ) × (k < length points) × (Rattle.std.proofs.Common.slice_index_or points k y ≡ y)
    p' p = (p.0, p.1.0, p.1.1, p.1.2)

pub exactness : (Set Directions : List ℚ → Type 0) → Exactness Set Directions
exactness Set Directions n c cuts gens points directions named s = record {
  representation = enclosed_are_represented Set Directions n c cuts gens points directions s.enclosed;
  facets_are = λ e. (named_is_facet n Set Directions c cuts gens points directions named s e, facet_is_named n Set Directions c cuts gens points directions named s e);
}

pub uniqueness : (Set Directions : List ℚ → Type 0) → Uniqueness Set Directions
uniqueness Set Directions n c points points' directions directions' facets facets' a b = (
  λ y. (λ h. (b.vertices y).1 ((a.vertices y).0 h), λ h. (a.vertices y).1 ((b.vertices y).0 h)),
  λ d. (λ h. (b.extreme d).1 ((a.extreme d).0 h), λ h. (a.extreme d).1 ((b.extreme d).0 h)),
  λ e. (λ h. (b.facets_are e).1 ((a.facets_are e).0 h), λ h. (a.facets_are e).1 ((b.facets_are e).0 h)),
)

-- ---- lists that rise
module _ {X : Type 0} (Before : X → X → Type 0) (never : (x : X) → Before x x → ⊥) (through : (x y z : X) → Before x y → Before y z → Before x z) where
  pub rising_same : (xs ys : List X) → AllPairs Before xs → AllPairs Before ys → SameMembers xs ys → xs ≡ ys
  rising_same [] [] h k m = refl
  rising_same [] (y ∷ ys) h k m = absurd (Contains-nil y ((m y).1 (Contains-here y ys y refl)))
  rising_same (x ∷ xs) [] h k m = absurd (Contains-nil x ((m x).0 (Contains-here x xs x refl)))
  rising_same (x ∷ xs) (y ∷ ys) h k m =
      ap₂ (λ a b. a ∷ b) heads (rising_same xs ys (pairs-tail Before x xs h) (pairs-tail Before y ys k) tails)
    where
      after_x : (z : X) → Contains xs z → Before x z
      after_x z c = member_of (Before x) xs z (pairs-head Before x xs h) c

      after_y : (z : X) → Contains ys z → Before y z
      after_y z c = member_of (Before y) ys z (pairs-head Before y ys k) c

      first : (y ≡ x) ⊎ Contains ys x → (x ≡ y) ⊎ Contains xs y → x ≡ y
      first (inl e) d = sym e
      first (inr c) (inl e) = e
      first (inr c) (inr d) = absurd (never x (through x y x (after_x y d) (after_y x c)))

      heads : x ≡ y
      heads = first (Contains-cases y ys x ((m x).0 (Contains-here x xs x refl))) (Contains-cases x xs y ((m y).1 (Contains-here y ys y refl)))

      into : (z : X) → Contains xs z → (y ≡ z) ⊎ Contains ys z → Contains ys z
      into z c (inr d) = d
      into z c (inl e) = absurd (never x (subst (λ (w : X). Before x w) (sym (heads ∙ e)) (after_x z c)))

      back : (z : X) → Contains ys z → (x ≡ z) ⊎ Contains xs z → Contains xs z
      back z c (inr d) = d
      back z c (inl e) = absurd (never y (subst (λ (w : X). Before y w) (sym e ∙ heads) (after_y z c)))

      tails : SameMembers xs ys
      tails z = (
        λ c. into z c (Contains-cases y ys z ((m z).0 (Contains-there x xs z c))),
        λ c. back z c
            (Contains-cases x xs z ((m z).1 (Contains-there y ys z c))),
      )

pub rising_lists_are_equal : (X : Type 0) → RisingListsAreEqual X
rising_lists_are_equal X before xs ys never through h k m = rising_same (λ x y. IsTrue (before x y)) never through xs ys h k m
