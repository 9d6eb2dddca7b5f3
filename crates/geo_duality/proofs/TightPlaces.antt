-- Sets of tight generators: what it means that one lies in another.
use Rattle.std.proofs.Common.{◌≡◌, ℕ, zero, suc, ◌<◌, List, [], ◌∷◌, map, length, Bool, true, false, true≢false, not, ◌&&◌, ◌||◌, refl, sym, ◌∙◌, subst, Contains, slice_index_or, ap, arith, ◌≤◌}
use Rattle.std.specs.Prelude.{IsTrue, ◌↔◌}
use Rattle.std.proofs.lemmas.List.{ext_get_or, get_or-map, length-map}
use Rattle.exact_field.specs.Rational.{ℚ}
use Rattle.exact_field.specs.Vector.{dot}
use Rattle.incid_sets.specs.Marks.{ContainsAll, has}
use Rattle.polyhedra.specs.DoubleDescription.{is_zero}
use Rattle.polyhedra.specs.FirstNamed.{tight_lies_in}
use Rattle.polyhedra.specs.LiveList.{Numbered, numbers, tight_set, vectors}
use Rattle.polyhedra.proofs.Tests.{both_hold, both_true, implied, implies, same_tests}
use Rattle.geo_duality.proofs.MarkedSoFar.{IsMarkedBelow}
use Rattle.geo_duality.specs.Facets.{row_at, tight_places}

-- where each generator that is tight at the one row is tight at the other, as sets and as a test of the generators
lies_from : (gens : List (List ℚ)) (r s : List ℚ) → ((k : ℕ) → has (tight_places gens r) k ≡ true → has (tight_places gens s) k ≡ true) →
    tight_lies_in gens r s ≡ true
lies_from [] r s h = refl
lies_from (g ∷ gens) r s h = both_hold (not (is_zero (dot r g)) || is_zero (dot s g)) (tight_lies_in gens r s)
    (implies (is_zero (dot r g)) (is_zero (dot s g)) (h 0)) (lies_from gens r s (λ k. h (suc k)))

lies_to : (gens : List (List ℚ)) (r s : List ℚ) → tight_lies_in gens r s ≡ true → (k : ℕ) → has (tight_places gens r) k ≡ true →
    has (tight_places gens s) k ≡ true
lies_to [] r s h k e = absurd (true≢false (sym e))
lies_to (g ∷ gens) r s h zero e = implied (is_zero (dot r g)) (is_zero (dot s g)) (both_true (not (is_zero (dot r g)) || is_zero (dot s g)) (tight_lies_in gens r s) h).0 e
lies_to (g ∷ gens) r s h (suc k) e = lies_to gens r s (both_true (not (is_zero (dot r g)) || is_zero (dot s g)) (tight_lies_in gens r s) h).1 k e

-- the test of the sets is the test of the generators
pub lies_is : (gens : List (List ℚ)) (r s : List ℚ) (test : Bool) → IsTrue test ↔ ContainsAll (tight_places gens s) (tight_places gens r) →
    test ≡ tight_lies_in gens r s
lies_is gens r s test h = same_tests test (tight_lies_in gens r s) (λ t. lies_from gens r s (h.0 t)) (λ e. h.1 (lies_to gens r s e))

-- what lies in a set lies in what that lies in
pub lies_through : (gens : List (List ℚ)) (a b c : List ℚ) → tight_lies_in gens a b ≡ true → tight_lies_in gens b c ≡ true → tight_lies_in gens a c ≡ true
lies_through gens a b c h k = lies_from gens a c (λ j e. lies_to gens b c k j (lies_to gens a b h j e))

-- a live generator at its place
pub live_at : (live : List Numbered) (i : ℕ) (n : ℕ) → i < length (numbers live) → n ≡ slice_index_or (numbers live) i 0 →
    Contains live (record { number = n; vector = slice_index_or (vectors live) i [] })
live_at live i n l e = (i, inside, same)
  where
    inside : i < length live
    inside = subst (λ (m : ℕ). i < m) (length-map live (λ (g : Numbered). g.number)) l

    same : slice_index_or live i (record { number = n; vector = slice_index_or (vectors live) i [] }) ≡ record { number = n; vector = slice_index_or (vectors live) i [] }
    same = λ j. record {
      number = (sym (get_or-map (λ (g : Numbered). g.number) live i (record { number = n; vector = slice_index_or (vectors live) i [] }) 0 inside) ∙ sym e) j;
      vector = sym (get_or-map (λ (g : Numbered). g.vector) live i (record { number = n; vector = slice_index_or (vectors live) i [] }) [] inside) j;
    }

-- the set of a row among those of all rows
pub set_at : (gens rows : List (List ℚ)) (sets : List (List Bool)) (k : ℕ) (set : List Bool) → sets ≡ map (tight_places gens) rows → k < length sets →
    set ≡ slice_index_or sets k set → (k < length rows) × (set ≡ tight_places gens (row_at rows k))
set_at gens rows sets k set e l is = (inside, is ∙ ap (λ ss. slice_index_or ss k set) e ∙ get_or-map (tight_places gens) rows k [] set inside)
  where
    inside : k < length rows
    inside = subst (λ (n : ℕ). k < n) (ap length e ∙ length-map rows (tight_places gens)) l

pub and_false : (b : Bool) → (b && false) ≡ false
and_false true = refl
and_false false = refl

-- ---- one row at all generators
pub marks_done : (gens : List (List ℚ)) (row : List ℚ) (marks : List Bool) (i : ℕ) →
    IsMarkedBelow (length gens) i (λ j. is_zero (dot row (slice_index_or gens j []))) marks → length gens ≤ i → marks ≡ tight_places gens row
marks_done gens row marks i h l = ext_get_or false marks (tight_places gens row) (h.bounded ∙ sym (length-map gens (λ g. is_zero (dot row g))))
    (λ k m. go k (let b : length marks ≡ length gens = h.bounded in omega arith))
  where
    go : (k : ℕ) → k < length gens → has marks k ≡ has (tight_places gens row) k
    go k less = h.done k (omega arith) ∙ sym (get_or-map (λ g. is_zero (dot row g)) gens k [] false less)

pub has_place : (rows : List (List ℚ)) (live : List Numbered) (k i n : ℕ) (marks : List Bool) (found : Bool) → k < length rows → i < length (numbers live) →
    n ≡ slice_index_or (numbers live) i 0 → ((v : List ℚ) → Contains live (record { number = n; vector = v }) → marks ≡ tight_set rows v) → found ≡ has marks k →
    is_zero (dot (row_at rows k) (slice_index_or (vectors live) i [])) ≡ found
has_place rows live k i n marks found l m e h f =
    sym (f ∙ ap (λ s. has s k) (h (slice_index_or (vectors live) i []) (live_at live i n m e))
    ∙ get_or-map (λ r. is_zero (dot r (slice_index_or (vectors live) i []))) rows k [] false l)
