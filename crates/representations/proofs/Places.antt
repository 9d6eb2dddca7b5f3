-- Unit vectors: products with them are entries, and those at the places of lines in reduced echelon
-- form are readers of these lines.
use Rattle.std.proofs.Common.{◌≡◌, ℕ, zero, suc, ◌+◌, ◌-◌, ◌<◌, List, [], ◌∷◌, map, length, All, refl, sym, ap, ap₂, ◌∙◌, arith}
use Rattle.std.proofs.lemmas.List.{ext_get_or}
use Rattle.std.proofs.lemmas.List.Elements.{All-head, All-map}
use Rattle.exact_field.specs.Rational.{ℚ, zero_ℚ, one_ℚ, ◌+ℚ◌}
use Rattle.exact_field.specs.Vector.{dot, entry}
use Rattle.polyhedra.specs.Vectors.{zeros}
use Rattle.polyhedra.specs.TightSets.{IsTight}
use Rattle.polyhedra.proofs.Laws.{add_zero}
use Rattle.polyhedra.proofs.Algebra.{zero_add, zero_mul, one_mul}
use Rattle.polyhedra.proofs.Linear.{dot_comm, dot-zeros, length-zeros}
use Rattle.polyhedra.proofs.Lists.{HasWidth, all_from_map}
use Rattle.polyhedra.proofs.Members.{all_of_members, member_of, pairs-head}
use Rattle.lineality.specs.Lines.{leading_place}
use Rattle.lineality.proofs.Places.{at, first, place_is, entry_at, before_first}
use Rattle.lineality.proofs.Echelon.{IsOne, ComesFirst, IsEchelon, echelon_of, echelon-tail}
use Rattle.lineality.proofs.Marks.{first_within}
use Rattle.representations.specs.Lined.{AreReaders, unit_at, PlacesAreReaders}

-- ---- unit vectors
pub length-unit : (b c n : ℕ) → b + suc c ≡ n → length (unit_at b c) ≡ n
length-unit zero c n e = ap suc (length-zeros c) ∙ first_one c n e
  where
    first_one : (d m : ℕ) → 0 + suc d ≡ m → suc d ≡ m
    first_one d m q = omega arith
length-unit (suc b) c n e = ap suc (length-unit b c (b + suc c) refl) ∙ next b c n e
  where
    next : (a d m : ℕ) → suc a + suc d ≡ m → suc (a + suc d) ≡ m
    next a d m q = omega arith

pub dot-unit : (b c : ℕ) (v : List ℚ) → dot (unit_at b c) v ≡ at v b
dot-unit zero c [] = refl
dot-unit zero c (x ∷ v) = ap₂ (λ p q. p +ℚ q) (one_mul x) (dot_comm (zeros c) v ∙ dot-zeros v c) ∙ add_zero x
dot-unit (suc b) c [] = refl
dot-unit (suc b) c (x ∷ v) = ap₂ (λ p q. p +ℚ q) (zero_mul x) (dot-unit b c v) ∙ zero_add (at v b)

-- vectors of n entries are equal where their products with all vectors of n entries are
pub same_by_wide : (n : ℕ) (u v : List ℚ) → length u ≡ n → length v ≡ n → ((r : List ℚ) → length r ≡ n → dot r u ≡ dot r v) → u ≡ v
same_by_wide n u v h k same = ext_get_or zero_ℚ u v (h ∙ sym k) (λ b l.
    sym (dot-unit b (n - suc b) u)
    ∙ same (unit_at b (n - suc b)) (length-unit b (n - suc b) n (omega (arith, l, h)))
    ∙ dot-unit b (n - suc b) v)

-- ---- the places of lines
reader_of : ℕ → List ℚ → List ℚ
reader_of n d = unit_at (leading_place d - 1) (n - leading_place d)

read : (n : ℕ) (d v : List ℚ) → dot (reader_of n d) v ≡ entry v (leading_place d)
unfolding reader_of
read n d v = dot-unit (leading_place d - 1) (n - leading_place d) v

module _ (n : ℕ) where
  reader_wide : (d : List ℚ) → length d ≡ n → IsOne d → length (reader_of n d) ≡ n
  unfolding reader_of
  reader_wide d w one = length-unit (leading_place d - 1) (n - leading_place d) n
      (let is : leading_place d ≡ suc (first d) = place_is d in let low : first d < n = first_within n d w one in omega (arith, is, low))

  reads : (lines : List (List ℚ)) → IsEchelon n lines → AreReaders (map (reader_of n) lines) lines
  reads [] h = tt
  reads (d ∷ lines) h = (own, later, earlier, reads lines (echelon-tail n d lines h))
    where
      after : All (ComesFirst d) lines
      after = pairs-head ComesFirst d lines h.pairs

      own : dot (reader_of n d) d ≡ one_ℚ
      own = read n d d ∙ entry_at d d ∙ All-head IsOne d lines h.ones

      later : All (λ k. dot (reader_of n d) k ≡ zero_ℚ) lines
      later = all_of_members (λ k. dot (reader_of n d) k ≡ zero_ℚ) lines
          (λ k c. read n d k ∙ entry_at k d ∙ before_first k (first d) (member_of (ComesFirst d) lines k after c).rises)

      earlier : All (λ s. IsTight s d) (map (reader_of n) lines)
      earlier = All-map (λ s. IsTight s d) (reader_of n) lines (all_of_members (λ k. IsTight (reader_of n k) d) lines
          (λ k c. read n k d ∙ entry_at d k ∙ (member_of (ComesFirst d) lines k after c).off))

pub places_are_readers : PlacesAreReaders
unfolding reader_of
places_are_readers n lines echelon = record {
  wide = record {
    wide = All-map (HasWidth n) (reader_of n) lines (all_of_members (λ d. HasWidth n (reader_of n d)) lines
        (λ d c. reader_wide n d (member_of (HasWidth n) lines d form.wide.wide c) (member_of IsOne lines d form.ones c)));
  };
  reads = reads n lines form;
  reduced = λ v. (
    λ h. All-map (λ r. IsTight r v) (reader_of n) lines (all_of_members (λ d. IsTight (reader_of n d) v) lines
        (λ d c. read n d v ∙ member_of (λ d. entry v (leading_place d) ≡ zero_ℚ) lines d h c)),
    λ h. all_of_members (λ d. entry v (leading_place d) ≡ zero_ℚ) lines
        (λ d c. sym (read n d v) ∙ member_of (λ d. IsTight (reader_of n d) v) lines d (all_from_map (λ r. IsTight r v) (reader_of n) lines h) c),
  );
}
  where
    form : IsEchelon n lines
    form = echelon_of n lines echelon
