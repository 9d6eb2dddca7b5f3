-- Combinations of vectors that are written entry by entry.
use Rattle.std.proofs.Common.{◌≡◌, ℕ, List, [], ◌∷◌, ◌++◌, map, take, sym, ap, ap₂, ◌∙◌, arith, ◌<◌, ◌≤◌, ◌+◌, ◌-◌, slice_index_or}
use Rattle.std.proofs.lemmas.List.{map_push, take_more, take_all}
use Rattle.exact_field.specs.Rational.{ℚ, zero_ℚ}
use Rattle.exact_field.specs.Vector.{dot}
use Rattle.polyhedra.specs.Vectors.{AreWide, combination}
use Rattle.polyhedra.proofs.Linear.{length-combination}
use Rattle.tableaux.specs.Table.{column_of}
use Rattle.tableaux.proofs.Unique.{entry-combination}

module _ {F : Type 0} (value : F → ℚ) where
  pub combined_more : (q : ℕ) (vectors : List (List ℚ)) (mu : List ℚ) (i : ℕ) (old new : List F) (s : F) → AreWide q vectors → i < q → new ≡ old ++ s ∷ [] →
      map value old ≡ take i (combination q mu vectors) → value s ≡ dot mu (column_of vectors (i + 1)) → map value new ≡ take (i + 1) (combination q mu vectors)
  combined_more q vectors mu i old new s wide inside pushed before is =
      let v : List ℚ = combination q mu vectors in
      let back : i + 1 - 1 ≡ i = omega arith in
      let here : slice_index_or v i zero_ℚ ≡ value s = ap (λ (k : ℕ). slice_index_or v k zero_ℚ) (sym back) ∙ entry-combination q mu vectors (i + 1) ∙ sym is in
      ap (map value) pushed ∙ map_push value old s ∙ ap₂ (λ (p : List ℚ) (x : ℚ). p ++ x ∷ []) before (sym here)
      ∙ sym (take_more v i zero_ℚ (omega (arith, inside, length-combination q mu vectors wide)))

  pub combined_all : (q : ℕ) (vectors : List (List ℚ)) (mu : List ℚ) (i : ℕ) (c : List F) → AreWide q vectors → q ≤ i →
      map value c ≡ take i (combination q mu vectors) → map value c ≡ combination q mu vectors
  combined_all q vectors mu i c wide end is = is ∙ take_all i (combination q mu vectors) (omega (arith, end, length-combination q mu vectors wide))
