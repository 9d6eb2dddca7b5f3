-- The mirror image of a set with lines.
use Rattle.std.proofs.Common.{◌≡◌, ℕ, List, [], ◌∷◌, map, refl, sym, ap, ap₂, ◌∙◌, subst}
use Rattle.std.specs.Prelude.{◌-◌}
use Rattle.std.proofs.lemmas.List.{length-map}
use Rattle.exact_field.specs.Rational.{ℚ, zero_ℚ, neg_ℚ}
use Rattle.exact_field.specs.Vector.{entry}
use Rattle.polyhedra.specs.Hull.{IsInHull, IsVertex, IsExtremeDirection}
use Rattle.polyhedra.specs.Negatives.{negated, Negatives}
use Rattle.polyhedra.specs.Vectors.{plus, scaled, combination}
use Rattle.polyhedra.proofs.Algebra.{neg_zero, neg_mul, mul_neg}
use Rattle.polyhedra.proofs.Members.{all_of_members, member_of}
use Rattle.polyhedra.proofs.Negatives.{negated_twice, of_negatives, hull_negated}
use Rattle.lineality.specs.Laws.{NegativesAlong}
use Rattle.lineality.specs.Lines.{leading_place, IsInLineality, AreLines, IsReduced, IsReducedIn}
use Rattle.lineality.proofs.Places.{at-negated}

reduced_negated : (lines : List (List ℚ)) (y : List ℚ) → IsReduced lines y → IsReduced lines (negated y)
reduced_negated lines y h = all_of_members (λ d. entry (negated y) (leading_place d) ≡ zero_ℚ) lines
    (λ d k. at-negated y (leading_place d - 1) ∙ ap neg_ℚ (member_of (λ d. entry y (leading_place d) ≡ zero_ℚ) lines d h k) ∙ neg_zero)

-- ---- sets with the same members
module _ (A B : List ℚ → Type 0) (into : (y : List ℚ) → A y → B y) (back : (y : List ℚ) → B y → A y) where
  vertex_same : (y : List ℚ) → IsVertex A y → IsVertex B y
  vertex_same y v = record { member = into y v.member; no_midpoint = λ a b h k e. v.no_midpoint a b (back a h) (back b k) e }

  extreme_same : (n : ℕ) (d : List ℚ) → IsExtremeDirection n A d → IsExtremeDirection n B d
  extreme_same n d v = record { member = into d v.member; not_zero = v.not_zero; no_sum = λ a b h k e. v.no_sum a b (back a h) (back b k) e }

module _ (lines : List (List ℚ)) (Set : List ℚ → Type 0) where
  to_mirror : (y : List ℚ) → IsReducedIn lines (Negatives Set) y → Negatives (IsReducedIn lines Set) y
  to_mirror y h = record { member = h.member; reduced = reduced_negated lines y h.reduced }

  from_mirror : (y : List ℚ) → Negatives (IsReducedIn lines Set) y → IsReducedIn lines (Negatives Set) y
  from_mirror y h = record { member = h.member; reduced = subst (IsReduced lines) (negated_twice y) (reduced_negated lines (negated y) h.reduced) }

-- ---- lines
lineal_mirror : (Directions : List ℚ → Type 0) (d : List ℚ) → IsInLineality Directions d → IsInLineality (Negatives Directions) d
lineal_mirror Directions d h = record { forth = h.back; back = subst Directions (sym (negated_twice d)) h.forth }

lineal_back : (Directions : List ℚ → Type 0) (d : List ℚ) → IsInLineality (Negatives Directions) d → IsInLineality Directions d
lineal_back Directions d h = record { forth = subst Directions (negated_twice d) h.back; back = h.forth }

lines_same : (A B : List ℚ → Type 0) → ((d : List ℚ) → IsInLineality A d → IsInLineality B d) → ((d : List ℚ) → IsInLineality B d → IsInLineality A d) →
    (n : ℕ) (lines : List (List ℚ)) → AreLines n A lines → AreLines n B lines
lines_same A B into back n lines h = record {
  along = record { echelon = h.along.echelon; each = all_of_members (IsInLineality B) lines (λ d k. into d (member_of (IsInLineality A) lines d h.along.each k)) };
  spans = λ d k. h.spans d (back d k);
}

-- ---- hulls
scaled-about : (s : ℚ) (v : List ℚ) → scaled s (negated v) ≡ scaled (neg_ℚ s) v
scaled-about s [] = refl
scaled-about s (x ∷ v) = ap₂ (λ a b. a ∷ b) (mul_neg s x ∙ sym (neg_mul s x)) (scaled-about s v)

combination-about : (n : ℕ) (ms : List ℚ) (vs : List (List ℚ)) → combination n ms (map negated vs) ≡ combination n (map neg_ℚ ms) vs
combination-about n [] vs = refl
combination-about n (m ∷ ms) [] = refl
combination-about n (m ∷ ms) (v ∷ vs) = ap₂ (λ a b. plus a b) (scaled-about m v) (combination-about n ms vs)

hull_mirror : (n : ℕ) (points directions lines : List (List ℚ)) (y : List ℚ) → IsInHull n points directions lines y →
    IsInHull n (map negated points) (map negated directions) lines (negated y)
hull_mirror n points directions lines y h =
    let k : IsInHull n (map negated points) (map negated directions) (map negated lines) (negated y) = hull_negated n points directions lines y h in
    record {
      weights = k.weights;
      shares = k.shares;
      slopes = map neg_ℚ k.slopes;
      weight_each = k.weight_each;
      share_each = k.share_each;
      slope_each = length-map k.slopes neg_ℚ ∙ k.slope_each ∙ length-map lines negated;
      weights_at_least_zero = k.weights_at_least_zero;
      shares_at_least_zero = k.shares_at_least_zero;
      weights_whole = k.weights_whole;
      combined = k.combined ∙ ap (λ v. plus (combination n k.weights (map negated points)) (plus (combination n k.shares (map negated directions)) v)) (combination-about n k.slopes lines);
    }

twice_all : (vs : List (List ℚ)) → map negated (map negated vs) ≡ vs
twice_all [] = refl
twice_all (v ∷ vs) = ap₂ (λ a b. a ∷ b) (negated_twice v) (twice_all vs)

hull_back : (n : ℕ) (points directions lines : List (List ℚ)) (y : List ℚ) →
    IsInHull n (map negated points) (map negated directions) lines (negated y) → IsInHull n points directions lines y
hull_back n points directions lines y h =
    subst (λ (ps : List (List ℚ)). IsInHull n ps directions lines y) (twice_all points)
    (subst (λ (ds : List (List ℚ)). IsInHull n (map negated (map negated points)) ds lines y) (twice_all directions)
    (subst (λ (v : List ℚ). IsInHull n (map negated (map negated points)) (map negated (map negated directions)) lines v) (negated_twice y)
    (hull_mirror n (map negated points) (map negated directions) lines (negated y) h)))

pub negatives_along : (Set Directions : List ℚ → Type 0) → NegativesAlong Set Directions
negatives_along Set Directions n lines = record {
  lines_are = (
    lines_same (Negatives Directions) Directions (lineal_back Directions) (lineal_mirror Directions) n lines,
    lines_same Directions (Negatives Directions) (lineal_mirror Directions) (lineal_back Directions) n lines,
  );
  vertices = λ y. (
    λ v. ((of_negatives (IsReducedIn lines Set)).vertices y).0
        (vertex_same (IsReducedIn lines (Negatives Set)) (Negatives (IsReducedIn lines Set)) (to_mirror lines Set) (from_mirror lines Set) y v),
    λ v. vertex_same (Negatives (IsReducedIn lines Set)) (IsReducedIn lines (Negatives Set)) (from_mirror lines Set) (to_mirror lines Set) y
        (((of_negatives (IsReducedIn lines Set)).vertices y).1 v),
  );
  extreme = λ d. (
    λ v. ((of_negatives (IsReducedIn lines Directions)).extreme n d).0
        (extreme_same (IsReducedIn lines (Negatives Directions)) (Negatives (IsReducedIn lines Directions)) (to_mirror lines Directions) (from_mirror lines Directions) n d v),
    λ v. extreme_same (Negatives (IsReducedIn lines Directions)) (IsReducedIn lines (Negatives Directions)) (from_mirror lines Directions) (to_mirror lines Directions) n d
        (((of_negatives (IsReducedIn lines Directions)).extreme n d).1 v),
  );
  hull = λ points directions y. (hull_mirror n points directions lines y, hull_back n points directions lines y);
}
