-- Corners stay corners when they are normed.
use Rattle.std.proofs.Common.{◌≡◌, ◌≢◌, ℕ, ◌<◌, List, [], map, length, All, Bool, true, false, true≢false, refl, sym, ap, ◌∙◌, subst, arith, nat_eq, slice_index_or}
use Rattle.std.specs.Prelude.{not}
use Rattle.std.proofs.lemmas.List.{ext_get_or, get_or-map, length-map}
use Rattle.std.proofs.lemmas.List.Elements.{All-from_get_or}
use Rattle.std.proofs.lemmas.Bool.{eqb-true, eq-eqb}
use Rattle.exact_field.specs.Rational.{ℚ, zero_ℚ, ◌*ℚ◌, ◌<ℚ◌}
use Rattle.exact_field.specs.Vector.{dot}
use Rattle.polyhedra.specs.Dependence.{AreCorners}
use Rattle.polyhedra.specs.DoubleDescription.{IsNormed, is_zero, normed, norming}
use Rattle.polyhedra.specs.LiveList.{tight_set}
use Rattle.polyhedra.proofs.Algebra.{mul_zero}
use Rattle.polyhedra.proofs.Linear.{dot-scaled, length-scaled}
use Rattle.polyhedra.proofs.Lists.{wide-map}
use Rattle.polyhedra.proofs.Norming.{norm_factor, norm_factor-positive, normed_is_normed, norming-other, is_zero-scaled}
use Rattle.polyhedra.proofs.Order.{mul_positive, not_zero_of_positive}
use Rattle.polyhedra.proofs.Tests.{test_of_other, test_of_zero}
use Rattle.incid_sets.specs.Marks.{has, IsAllBut}

module _ (n : ℕ) (rows vectors : List (List ℚ)) (c : AreCorners n rows vectors) where
  -- row i is not 0 at vector i
  other : (i : ℕ) → i < n → dot (slice_index_or rows i []) (slice_index_or vectors i []) ≡ zero_ℚ → ⊥
  other i l e = not_zero_of_positive (dot (slice_index_or rows i []) (slice_index_or vectors i [])) (c.positive i l) e

  pub corner_norming : (i : ℕ) → i < n → norming (slice_index_or vectors i []) ≢ zero_ℚ
  corner_norming i l = norming-other (slice_index_or vectors i []) (slice_index_or rows i []) (other i l)

  normed_at : (i : ℕ) → i < n → slice_index_or (map normed vectors) i [] ≡ normed (slice_index_or vectors i [])
  normed_at i l = get_or-map normed vectors i [] [] (let many : length vectors ≡ n = c.vectors_many in omega arith)

  -- the value of a row at the normed vector is a positive multiple of that at the vector
  value_at : (i j : ℕ) → j < n →
      dot (slice_index_or rows i []) (slice_index_or (map normed vectors) j []) ≡ norm_factor (slice_index_or vectors j []) *ℚ dot (slice_index_or rows i []) (slice_index_or vectors j [])
  value_at i j l = ap (dot (slice_index_or rows i [])) (normed_at j l) ∙ dot-scaled (slice_index_or rows i []) (norm_factor (slice_index_or vectors j [])) (slice_index_or vectors j [])

  factor : (i : ℕ) → i < n → zero_ℚ <ℚ norm_factor (slice_index_or vectors i [])
  factor i l = norm_factor-positive (slice_index_or vectors i []) (slice_index_or rows i []) (other i l)

  pub normed_corners : AreCorners n rows (map normed vectors)
  normed_corners = record {
    rows_wide = c.rows_wide;
    vectors_wide = wide-map n normed vectors (λ v w. length-scaled (norm_factor v) v ∙ w) c.vectors_wide;
    rows_many = c.rows_many;
    vectors_many = length-map vectors normed ∙ c.vectors_many;
    positive = λ i l. subst (λ (x : ℚ). zero_ℚ <ℚ x) (sym (value_at i i l))
        (mul_positive (norm_factor (slice_index_or vectors i [])) (dot (slice_index_or rows i []) (slice_index_or vectors i [])) (factor i l) (c.positive i l));
    zero_elsewhere = λ i j l m o. value_at i j m ∙ ap (λ x. norm_factor (slice_index_or vectors j []) *ℚ x) (c.zero_elsewhere i j l m o)
        ∙ mul_zero (norm_factor (slice_index_or vectors j []));
  }

  pub normed_all : All IsNormed (map normed vectors)
  normed_all = All-from_get_or IsNormed (map normed vectors) [] (λ i l. at i (let many : length (map normed vectors) ≡ n = normed_corners.vectors_many in omega arith))
    where
      at : (i : ℕ) → i < n → IsNormed (slice_index_or (map normed vectors) i [])
      at i l = subst IsNormed (sym (normed_at i l)) (normed_is_normed (slice_index_or vectors i []) (slice_index_or rows i []) (other i l))

  -- at a normed corner all rows but its own are tight
  pub corner_tight : (i : ℕ) → i < n → (marks : List Bool) → IsAllBut n i marks → marks ≡ tight_set rows (normed (slice_index_or vectors i []))
  corner_tight i l marks m = ext_get_or false marks (tight_set rows (normed (slice_index_or vectors i [])))
      (m.bounded ∙ sym (length-map rows test ∙ c.rows_many)) (λ k l. go k (let many : length marks ≡ n = m.bounded in omega arith))
    where
      test : List ℚ → Bool
      test r = is_zero (dot r (normed (slice_index_or vectors i [])))

      value_is : (k : ℕ) → dot (slice_index_or rows k []) (normed (slice_index_or vectors i [])) ≡ norm_factor (slice_index_or vectors i []) *ℚ dot (slice_index_or rows k []) (slice_index_or vectors i [])
      value_is k = dot-scaled (slice_index_or rows k []) (norm_factor (slice_index_or vectors i [])) (slice_index_or vectors i [])

      inside : (k : ℕ) → k < n → (b : Bool) → nat_eq k i ≡ b → not b ≡ is_zero (dot (slice_index_or rows k []) (normed (slice_index_or vectors i [])))
      inside k k_in true e = sym (ap is_zero (value_is k) ∙ is_zero-scaled (norm_factor (slice_index_or vectors i [])) (dot (slice_index_or rows k []) (slice_index_or vectors i [])) (factor i l)
          ∙ test_of_other (dot (slice_index_or rows k []) (slice_index_or vectors i []))
          (λ z. other i l (ap (λ (j : ℕ). dot (slice_index_or rows j []) (slice_index_or vectors i [])) (sym (eqb-true k i e)) ∙ z)))
      inside k k_in false e = sym (ap is_zero (value_is k) ∙ is_zero-scaled (norm_factor (slice_index_or vectors i [])) (dot (slice_index_or rows k []) (slice_index_or vectors i [])) (factor i l)
          ∙ test_of_zero (dot (slice_index_or rows k []) (slice_index_or vectors i [])) (c.zero_elsewhere k i k_in l (λ same. true≢false (sym (eq-eqb k i same) ∙ e))))

      go : (k : ℕ) → k < n → has marks k ≡ has (tight_set rows (normed (slice_index_or vectors i []))) k
      go k k_in = m.others k k_in ∙ inside k k_in (nat_eq k i) refl
          ∙ sym (get_or-map test rows k [] false (let many : length rows ≡ n = c.rows_many in omega arith))
