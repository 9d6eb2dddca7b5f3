-- The lineality space of a convex cone: it has sums and all multiples, and one list of lines.
use Rattle.std.proofs.Common.{◌≡◌, ℕ, List, [], ◌∷◌, length, All, Contains, Bool, IsTrue, refl, sym, ap, ap₂, ◌∙◌, subst, arith, ◌<◌, ◌⊎◌, inl, inr}
use Rattle.std.specs.Prelude.{nat_lt}
use Rattle.std.proofs.lemmas.Bool.Decides.{Decides-ltb}
use Rattle.std.proofs.lemmas.List.Elements.{All-head, All-tail}
use Rattle.std.proofs.lemmas.List.{length-map}
use Rattle.exact_field.specs.Rational.{ℚ, zero_ℚ, one_ℚ, ◌+ℚ◌, ◌*ℚ◌, neg_ℚ, ◌≤ℚ◌, ◌<ℚ◌}
use Rattle.exact_field.specs.Vector.{dot}
use Rattle.exact_field.specs.Ring.{v0, v1, ◌⊕◌, ◌⊗◌, ⊖}
use Rattle.exact_field.proofs.RingTool.{ring}
use Rattle.exact_field.proofs.Rationals.{rationals}
use Rattle.polyhedra.specs.Vectors.{zeros, plus, scaled, combination}
use Rattle.polyhedra.specs.Image.{IsConvexCone}
use Rattle.polyhedra.specs.Negatives.{negated}
use Rattle.polyhedra.proofs.Laws.{le_of_lt}
use Rattle.polyhedra.proofs.Order.{le_or_lt, neg_positive}
use Rattle.polyhedra.proofs.Linear.{dot-plus, dot-scaled, dot-zeros, length-plus, length-scaled, length-zeros, same_wide}
use Rattle.polyhedra.proofs.Members.{member_of, pairs-weaker}
use Rattle.polyhedra.proofs.Negatives.{dot-negated}
use Rattle.polyhedra.proofs.SolvedAreExact.{rising_lists_are_equal}
use Rattle.lineality.specs.Laws.{OneListOfLines}
use Rattle.lineality.specs.Lines.{IsInLineality, AreLines}
use Rattle.lineality.proofs.Places.{first}
use Rattle.lineality.proofs.Echelon.{ComesFirst, echelon_of, listed_there}

pub length-negated : (v : List ℚ) → length (negated v) ≡ length v
length-negated v = length-map v neg_ℚ

module _ (n : ℕ) (Directions : List ℚ → Type 0) (cone : IsConvexCone n Directions) where
  pub lineal_wide : (d : List ℚ) → IsInLineality Directions d → length d ≡ n
  lineal_wide d h = cone.wide d h.forth

  pub lineal_zero : IsInLineality Directions (zeros n)
  lineal_zero = record {
    forth = cone.zero;
    back = subst Directions
        (same_wide n (zeros n) (negated (zeros n)) (length-zeros n) (length-negated (zeros n) ∙ length-zeros n)
        (λ r. dot-zeros r n ∙ sym (dot-negated r (zeros n) ∙ ap neg_ℚ (dot-zeros r n) ∙ Rattle.polyhedra.proofs.Algebra.neg_zero)))
        cone.zero;
  }

  pub lineal_sum : (a b : List ℚ) → IsInLineality Directions a → IsInLineality Directions b → IsInLineality Directions (plus a b)
  lineal_sum a b h k = record {
    forth = cone.sum a b h.forth k.forth;
    back = subst Directions
        (same_wide n (plus (negated a) (negated b)) (negated (plus a b))
        (length-plus n (negated a) (negated b) (length-negated a ∙ lineal_wide a h) (length-negated b ∙ lineal_wide b k))
        (length-negated (plus a b) ∙ length-plus n a b (lineal_wide a h) (lineal_wide b k))
        (λ r. dot-plus r (negated a) (negated b) ∙ ap₂ (λ x y. x +ℚ y) (dot-negated r a) (dot-negated r b)
        ∙ ring rationals (dot r a ∷ dot r b ∷ []) (⊖ v0 ⊕ ⊖ v1) (⊖ (v0 ⊕ v1)) refl
        ∙ ap neg_ℚ (sym (dot-plus r a b)) ∙ sym (dot-negated r (plus a b))))
        (cone.sum (negated a) (negated b) h.back k.back);
  }

  pub lineal_negated : (d : List ℚ) → IsInLineality Directions d → IsInLineality Directions (negated d)
  lineal_negated d h = record { forth = h.back; back = subst Directions (sym (Rattle.polyhedra.proofs.Negatives.negated_twice d)) h.forth }

  turned_about : (s : ℚ) (d : List ℚ) → length d ≡ n → scaled (neg_ℚ s) (negated d) ≡ scaled s d
  turned_about s d w =
      same_wide n (scaled (neg_ℚ s) (negated d)) (scaled s d) (length-scaled (neg_ℚ s) (negated d) ∙ length-negated d ∙ w) (length-scaled s d ∙ w)
      (λ r. dot-scaled r (neg_ℚ s) (negated d) ∙ ap (λ x. neg_ℚ s *ℚ x) (dot-negated r d)
      ∙ ring rationals (s ∷ dot r d ∷ []) (⊖ v0 ⊗ ⊖ v1) (v0 ⊗ v1) refl ∙ sym (dot-scaled r s d))

  scaled_about : (s : ℚ) (d : List ℚ) → length d ≡ n → scaled s (negated d) ≡ negated (scaled s d)
  scaled_about s d w =
      same_wide n (scaled s (negated d)) (negated (scaled s d)) (length-scaled s (negated d) ∙ length-negated d ∙ w) (length-negated (scaled s d) ∙ length-scaled s d ∙ w)
      (λ r. dot-scaled r s (negated d) ∙ ap (λ x. s *ℚ x) (dot-negated r d)
      ∙ ring rationals (s ∷ dot r d ∷ []) (v0 ⊗ ⊖ v1) (⊖ (v0 ⊗ v1)) refl ∙ ap neg_ℚ (sym (dot-scaled r s d)) ∙ sym (dot-negated r (scaled s d)))

  upward : (s : ℚ) (d : List ℚ) → zero_ℚ ≤ℚ s → IsInLineality Directions d → IsInLineality Directions (scaled s d)
  upward s d p h = record {
    forth = cone.multiple s d p h.forth;
    back = subst Directions (scaled_about s d (lineal_wide d h)) (cone.multiple s (negated d) p h.back);
  }

  pub lineal_multiple : (s : ℚ) (d : List ℚ) → IsInLineality Directions d → IsInLineality Directions (scaled s d)
  lineal_multiple s d h = go (le_or_lt zero_ℚ s)
    where
      go : (zero_ℚ ≤ℚ s) ⊎ (s <ℚ zero_ℚ) → IsInLineality Directions (scaled s d)
      go (inl p) = upward s d p h
      go (inr p) = subst (IsInLineality Directions) (turned_about s d (lineal_wide d h))
          (upward (neg_ℚ s) (negated d) (le_of_lt zero_ℚ (neg_ℚ s) (neg_positive s p)) (lineal_negated d h))

  pub lineal_combination : (ms : List ℚ) (vs : List (List ℚ)) → All (IsInLineality Directions) vs → IsInLineality Directions (combination n ms vs)
  lineal_combination [] vs h = lineal_zero
  lineal_combination (m ∷ ms) [] h = lineal_zero
  lineal_combination (m ∷ ms) (v ∷ vs) h =
      lineal_sum (scaled m v) (combination n ms vs) (lineal_multiple m v (All-head (IsInLineality Directions) v vs h))
      (lineal_combination ms vs (All-tail (IsInLineality Directions) v vs h))

-- ---- one list
come_before : List ℚ → List ℚ → Bool
come_before d e = nat_lt (first d) (first e)

told : (d e : List ℚ) → IsTrue (come_before d e) → first d < first e
unfolding come_before
told d e h = (Decides-ltb (first d) (first e)).0 h

tells : (d e : List ℚ) → first d < first e → IsTrue (come_before d e)
unfolding come_before
tells d e h = (Decides-ltb (first d) (first e)).1 h

pub one_list_of_lines : (Directions : List ℚ → Type 0) → OneListOfLines Directions
one_list_of_lines Directions n lines lines' cone h k =
    rising_lists_are_equal (List ℚ) come_before lines lines'
    (λ d r. let l = told d d r in omega (arith, l))
    (λ a b c r s. let l = told a b r in let m = told b c s in tells a c (omega (arith, l, m)))
    (pairs-weaker ComesFirst (λ x y. IsTrue (come_before x y)) lines (λ x y _ _ r. tells x y r.rises) (echelon_of n lines h.echelon).pairs)
    (pairs-weaker ComesFirst (λ x y. IsTrue (come_before x y)) lines' (λ x y _ _ r. tells x y r.rises) (echelon_of n lines' k.echelon).pairs)
    (λ v. (into lines' lines k h v, into lines lines' h k v))
  where
    into : (as_ bs : List (List ℚ)) → AreLines n Directions as_ → AreLines n Directions bs → (v : List ℚ) → Contains bs v → Contains as_ v
    into as_ bs a b v c =
        let a_in = λ (d : List ℚ) (l : Contains as_ d). member_of (IsInLineality Directions) as_ d a.each l in
        let b_in = λ (d : List ℚ) (l : Contains bs d). member_of (IsInLineality Directions) bs d b.each l in
        listed_there n as_ bs (echelon_of n as_ a.echelon) (echelon_of n bs b.echelon)
        (λ d l. b.spans d (a_in d l))
        (λ d e l m. a.spans (plus e (scaled (neg_ℚ one_ℚ) d))
        (lineal_sum n Directions cone e (scaled (neg_ℚ one_ℚ) d) (b_in e m) (lineal_multiple n Directions cone (neg_ℚ one_ℚ) d (a_in d l))))
        (λ d l. a.spans d (b_in d l)) v c
