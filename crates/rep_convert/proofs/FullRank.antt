-- Without the entries at the places of their lines rows have full rank.
use Rattle.std.proofs.Common.{◌≡◌, ℕ, List, map, length, All, sym, ap, ◌∙◌}
use Rattle.std.proofs.lemmas.List.Elements.{All-weaker}
use Rattle.exact_field.specs.Rational.{ℚ, zero_ℚ}
use Rattle.exact_field.specs.Vector.{dot}
use Rattle.polyhedra.specs.Cone.{HasFullRank}
use Rattle.polyhedra.specs.Vectors.{zeros}
use Rattle.polyhedra.proofs.Lists.{all_from_map}
use Rattle.lineality.specs.Without.{marks, open_count, with_zeros, without}
use Rattle.lineality.proofs.Echelon.{IsEchelon, echelon_of, flat_is_zero}
use Rattle.lineality.proofs.Marks.{length-marks, with_flat}
use Rattle.lineality.proofs.Masks.{dot-without, length-with, without-with, without-zeros}
use Rattle.lin_rows.specs.Complement.{AreComplement}

pub full_rank : (n : ℕ) (rows lines : List (List ℚ)) → AreComplement n rows lines →
    HasFullRank (open_count (marks n lines)) (map (without (marks n lines)) rows)
full_rank n rows lines h z wide flat =
    let bs = marks n lines in
    let many : length bs ≡ n = length-marks n lines in
    let form : IsEchelon n lines = echelon_of n lines h.echelon in
    let long : length (with_zeros bs z) ≡ n = length-with bs z wide ∙ many in
    let orthogonal : All (λ r. dot r (with_zeros bs z) ≡ zero_ℚ) rows =
    All-weaker (λ r. dot (without bs r) z ≡ zero_ℚ) (λ r. dot r (with_zeros bs z) ≡ zero_ℚ) (λ r e. sym (dot-without bs r z) ∙ e) rows
    (all_from_map (λ r. dot r z ≡ zero_ℚ) (without bs) rows flat) in
    let none : with_zeros bs z ≡ zeros n = flat_is_zero n lines (with_zeros bs z) form (h.spans (with_zeros bs z) long orthogonal) (with_flat n lines form z) in
    sym (without-with bs z) ∙ ap (without bs) (none ∙ ap zeros (sym many)) ∙ without-zeros bs
