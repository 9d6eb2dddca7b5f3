-- Vectors with zeros at the places of lines, as generators.
use Rattle.std.proofs.Common.{◌≡◌, ℕ, suc, ◌+◌, Bool, List, [], ◌∷◌, map, length, refl, sym, ap, ap₂, ◌∙◌}
use Rattle.std.proofs.lemmas.List.{length-map}
use Rattle.exact_field.specs.Rational.{ℚ}
use Rattle.polyhedra.specs.DoubleDescription.{IsNormed, magnitude, norming}
use Rattle.polyhedra.specs.LiveList.{Numbered, numbered, starting}
use Rattle.lineality.specs.Steps.{IsClear, list_without}
use Rattle.lineality.specs.Without.{open_count, with_zeros, without}
use Rattle.lineality.proofs.Masks.{length-filled, without-with}
use Rattle.lineality.proofs.StepsWithout.{IsGood, norming-same, numbered-less}

pub clear_filled : (bs : List Bool) (v : List ℚ) → IsClear bs (with_zeros bs v)
clear_filled bs v = ap (with_zeros bs) (without-with bs v)

pub normed_filled : (bs : List Bool) (v : List ℚ) → length v ≡ suc (open_count bs) → IsNormed v → IsNormed (with_zeros bs v)
normed_filled bs v wide normed =
    let good : IsGood bs (with_zeros bs v) = record { wide = length-filled bs v wide; clear = clear_filled bs v } in
    ap magnitude (sym (norming-same bs (with_zeros bs v) good) ∙ ap norming (without-with bs v)) ∙ normed

pub back : (bs : List Bool) (vs : List (List ℚ)) → map (without bs) (map (with_zeros bs) vs) ≡ vs
back bs [] = refl
back bs (v ∷ vs) = ap₂ (λ (a : List ℚ) (b : List (List ℚ)). a ∷ b) (without-with bs v) (back bs vs)

-- under the numbers from 1 on they are these vectors without the places
pub starting_without : (bs : List Bool) (vs : List (List ℚ)) → list_without bs (starting 1 (map (with_zeros bs) vs)) ≡ starting 1 vs
starting_without bs vs =
    ap₂ (λ (live : List Numbered) (n : ℕ). record { live = live; next = n })
    (sym (numbered-less bs 1 (map (with_zeros bs) vs)) ∙ ap (numbered 1) (back bs vs))
    (ap (λ (k : ℕ). 1 + k) (length-map vs (with_zeros bs)))
