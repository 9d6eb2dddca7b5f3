-- The rows that are facets, with and without entries that are 0 in all generators.
use Rattle.std.proofs.Common.{◌≡◌, ℕ, ◌-◌, List, [], ◌∷◌, map, length, filter, Contains, Bool, not, ◌&&◌, ◌||◌, cond, refl, sym, ap, ap₂, ◌∙◌, slice_index_or}
use Rattle.std.specs.List.{range_with_len}
use Rattle.std.proofs.lemmas.List.{length-map}
use Rattle.exact_field.specs.Rational.{ℚ}
use Rattle.exact_field.specs.Vector.{dot}
use Rattle.polyhedra.specs.DoubleDescription.{is_zero}
use Rattle.polyhedra.specs.FirstNamed.{firsts, tight_lies_in}
use Rattle.polyhedra.proofs.Members.{all_of_members}
use Rattle.polyhedra.proofs.Tests.{list_all_same}
use Rattle.polyhedra.proofs.Lists.{slice-map}
use Rattle.geo_duality.specs.Facets.{facet_rows, may_be_facet, row_at, same_at}
use Rattle.lineality.specs.Without.{without}

-- ---- lists. General
filter_same : {X : Type 0} (s t : X → Bool) (xs : List X) → ((x : X) → s x ≡ t x) → filter s xs ≡ filter t xs
filter_same s t [] h = refl
filter_same s t (x ∷ xs) h =
    ap₂ (λ (b : Bool) (ys : List _). cond b (x ∷ ys) ys) (h x) (filter_same s t xs h)

firsts_same : {X : Type 0} (s t : X → X → Bool) (xs : List X) → ((x y : X) → s x y ≡ t x y) → firsts s xs ≡ firsts t xs
firsts_same s t [] h = refl
firsts_same s t (x ∷ xs) h =
    ap (λ ys. x ∷ ys) (filter_same (λ y. not (s x y)) (λ y. not (t x y)) (firsts s xs) (λ y. ap not (h x y))
    ∙ ap (filter (λ y. not (t x y))) (firsts_same s t xs h))

without-nil : (bs : List Bool) → without bs [] ≡ []
without-nil [] = refl
without-nil (b ∷ bs) = refl

-- ---- rows and generators of which the products stay
module _ (bs : List Bool) (gens : List (List ℚ)) (same : (r g : List ℚ) → Contains gens g → dot (without bs r) (without bs g) ≡ dot r g) where
  lies_same : (a b : List ℚ) → tight_lies_in (map (without bs) gens) (without bs a) (without bs b) ≡ tight_lies_in gens a b
  lies_same a b =
      sym (list_all_same (without bs) (λ g. not (is_zero (dot a g)) || is_zero (dot b g)) (λ g. not (is_zero (dot (without bs a) g)) || is_zero (dot (without bs b) g)) gens
      (all_of_members (λ g. (not (is_zero (dot a g)) || is_zero (dot b g)) ≡ (not (is_zero (dot (without bs a) (without bs g))) || is_zero (dot (without bs b) (without bs g)))) gens
      (λ g c. ap₂ (λ x y. not (is_zero x) || is_zero y) (sym (same a g c)) (sym (same b g c)))))

  module _ (rows : List (List ℚ)) where
    row_same : (k : ℕ) → row_at (map (without bs) rows) k ≡ without bs (row_at rows k)
    row_same k = slice-map (without bs) rows k [] [] (without-nil bs)

    may_same : (k : ℕ) →
        may_be_facet (map (without bs) gens) (map (without bs) rows) (row_at (map (without bs) rows) k) ≡ may_be_facet gens rows (row_at rows k)
    may_same k =
        let r = row_at rows k in
        ap (may_be_facet (map (without bs) gens) (map (without bs) rows)) (row_same k)
        ∙ ap₂ (λ x y. not x && y)
        (ap (tight_lies_in (map (without bs) gens) (without bs r)) (row_same 0) ∙ lies_same r (row_at rows 0))
        (sym (list_all_same (without bs) (λ s. not (tight_lies_in gens r s) || tight_lies_in gens s r)
        (λ s. not (tight_lies_in (map (without bs) gens) (without bs r) s) || tight_lies_in (map (without bs) gens) s (without bs r)) rows
        (λ i d l. let s = slice_index_or rows i d in ap₂ (λ x y. not x || y) (sym (lies_same r s)) (sym (lies_same s r)))))

    tight_same : (j k : ℕ) → same_at (map (without bs) gens) (map (without bs) rows) j k ≡ same_at gens rows j k
    tight_same j k =
        ap₂ (λ a b. tight_lies_in (map (without bs) gens) a b && tight_lies_in (map (without bs) gens) b a) (row_same j) (row_same k)
        ∙ ap₂ (λ x y. x && y) (lies_same (row_at rows j) (row_at rows k)) (lies_same (row_at rows k) (row_at rows j))

    pub facets_same : facet_rows (map (without bs) gens) (map (without bs) rows) ≡ facet_rows gens rows
    facets_same =
        ap (λ (n : ℕ). firsts (same_at (map (without bs) gens) (map (without bs) rows))
        (filter (λ k. may_be_facet (map (without bs) gens) (map (without bs) rows) (row_at (map (without bs) rows) k)) (range_with_len 1 (n - 1)))) (length-map rows (without bs))
        ∙ firsts_same (same_at (map (without bs) gens) (map (without bs) rows)) (same_at gens rows)
        (filter (λ k. may_be_facet (map (without bs) gens) (map (without bs) rows) (row_at (map (without bs) rows) k)) (range_with_len 1 (length rows - 1))) tight_same
        ∙ ap (firsts (same_at gens rows))
        (filter_same (λ k. may_be_facet (map (without bs) gens) (map (without bs) rows) (row_at (map (without bs) rows) k)) (λ k. may_be_facet gens rows (row_at rows k))
        (range_with_len 1 (length rows - 1)) may_same)
