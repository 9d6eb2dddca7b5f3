-- A point at which n cuts are tight, and a direction for each: a start.
use Rattle.std.proofs.Common.{◌≡◌, ◌≢◌, ℕ, zero, suc, List, [], ◌∷◌, map, length, refl, sym, ap, ap₂, ◌∙◌, subst, arith, ◌<◌, slice_index_or, get_or}
use Rattle.std.proofs.lemmas.List.{length-map, get_or-map}
use Rattle.std.proofs.lemmas.List.Elements.{All-map}
use Rattle.exact_field.specs.Rational.{ℚ, zero_ℚ, one_ℚ, neg_ℚ, ◌+ℚ◌, ◌<ℚ◌}
use Rattle.exact_field.specs.Vector.{dot}
use Rattle.polyhedra.specs.Vectors.{zeros}
use Rattle.polyhedra.specs.Dependence.{AreCorners}
use Rattle.polyhedra.specs.Inequality.{Inequality}
use Rattle.polyhedra.specs.Exactness.{homogenised, level, row_of, rows_of, IsCornerOf, CornerStarts}
use Rattle.polyhedra.proofs.Laws.{add_neg, zero_lt_one}
use Rattle.polyhedra.proofs.Linear.{length-zeros}
use Rattle.polyhedra.proofs.Lists.{HasWidth, wide-cons}
use Rattle.polyhedra.proofs.Members.{all_of_members, member_of}
use Rattle.polyhedra.proofs.Homogenised.{length-homogenised, level_value, row_value_point, row_value_direction}
use Rattle.polyhedra.proofs.Corners.{start}

no_cut : Inequality
no_cut = record { normal = []; bound = zero_ℚ }

module _ (n : ℕ) (cuts : List Inequality) (point : List ℚ) (directions : List (List ℚ)) (corner : IsCornerOf n cuts point directions) where
  cut_at : ℕ → Inequality
  cut_at i = get_or cuts i no_cut

  row_at : (i : ℕ) → i < n → slice_index_or (map row_of cuts) i [] ≡ row_of (cut_at i)
  unfolding cut_at
  row_at i h = get_or-map row_of cuts i no_cut [] (omega (arith, corner.cuts_many))

  normal_at : (i : ℕ) → i < n → slice_index_or (map (λ e. e.normal) cuts) i [] ≡ (cut_at i).normal
  unfolding cut_at
  normal_at i h = get_or-map (λ e. e.normal) cuts i no_cut [] (omega (arith, corner.cuts_many))

  direction_at : (j : ℕ) → j < n → slice_index_or (map (λ d. homogenised d zero_ℚ) directions) j [] ≡ homogenised (slice_index_or directions j []) zero_ℚ
  direction_at j h = get_or-map (λ d. homogenised d zero_ℚ) directions j [] [] (omega (arith, corner.directions_many))

  cut_width : (i : ℕ) → i < n → length (cut_at i).normal ≡ n
  unfolding cut_at
  cut_width i h = corner.normals_wide i no_cut (omega (arith, corner.cuts_many))

  direction_width : (j : ℕ) → j < n → length (slice_index_or directions j []) ≡ n
  direction_width j h = corner.directions_wide.wide j [] (omega (arith, corner.directions_many))

  at_point : (i : ℕ) → i < n → dot (row_of (cut_at i)) (homogenised point one_ℚ) ≡ zero_ℚ
  unfolding cut_at
  at_point i h = row_value_point (cut_at i) point (cut_width i h ∙ sym corner.point_wide)
      ∙ ap (λ x. x +ℚ neg_ℚ (cut_at i).bound) (corner.tight i no_cut (omega (arith, corner.cuts_many))) ∙ add_neg (cut_at i).bound

  at_direction : (i j : ℕ) (i_in : i < n) (j_in : j < n) →
      dot (slice_index_or (map row_of cuts) i []) (slice_index_or (map (λ d. homogenised d zero_ℚ) directions) j []) ≡ dot
      (slice_index_or (map (λ e. e.normal) cuts) i []) (slice_index_or directions j [])
  at_direction i j i_in j_in =
      ap₂ (λ u v. dot u v) (row_at i i_in) (direction_at j j_in)
      ∙ row_value_direction (cut_at i) (slice_index_or directions j []) (cut_width i i_in ∙ sym (direction_width j j_in))
      ∙ ap (λ u. dot u (slice_index_or directions j [])) (sym (normal_at i i_in))

  corners : AreCorners (suc n) (rows_of n cuts) (homogenised point one_ℚ ∷ map (λ d. homogenised d zero_ℚ) directions)
  corners = record {
    rows_wide = wide-cons (suc n) (level n) (map row_of cuts) (length-homogenised n (zeros n) one_ℚ (length-zeros n))
        (record {
          wide = All-map (HasWidth (suc n)) row_of cuts
              (all_of_members (λ e. HasWidth (suc n) (row_of e)) cuts
              (λ e c. length-homogenised n e.normal (neg_ℚ e.bound) (member_of (λ f. length f.normal ≡ n) cuts e corner.normals_wide c)));
        });
    vectors_wide = wide-cons (suc n) (homogenised point one_ℚ) (map (λ d. homogenised d zero_ℚ) directions) (length-homogenised n point one_ℚ corner.point_wide)
        (record {
          wide = All-map (HasWidth (suc n)) (λ d. homogenised d zero_ℚ) directions
              (all_of_members (λ d. HasWidth (suc n) (homogenised d zero_ℚ)) directions
              (λ d c. length-homogenised n d zero_ℚ (member_of (HasWidth n) directions d corner.directions_wide.wide c)));
        });
    rows_many = ap suc (length-map cuts row_of ∙ corner.cuts_many);
    vectors_many = ap suc (length-map directions (λ d. homogenised d zero_ℚ) ∙ corner.directions_many);
    positive = positive_at;
    zero_elsewhere = zero_at;
  }
    where
      positive_at : (i : ℕ) → i < suc n → zero_ℚ <ℚ dot (slice_index_or (rows_of n cuts) i [])
          (slice_index_or (homogenised point one_ℚ ∷ map (λ d. homogenised d zero_ℚ) directions) i [])
      positive_at zero h = subst (λ (x : ℚ). zero_ℚ <ℚ x) (sym (level_value n point one_ℚ corner.point_wide)) zero_lt_one
      positive_at (suc i) h = let i_in : i < n = omega arith in subst (λ (x : ℚ). zero_ℚ <ℚ x) (sym (at_direction i i i_in i_in)) (corner.grows i i_in)

      zero_at : (i j : ℕ) → i < suc n → j < suc n → i ≢ j → dot (slice_index_or (rows_of n cuts) i [])
          (slice_index_or (homogenised point one_ℚ ∷ map (λ d. homogenised d zero_ℚ) directions) j []) ≡ zero_ℚ
      zero_at zero zero h k e = absurd (e refl)
      zero_at zero (suc j) h k e = let j_in : j < n = omega arith in
          ap (λ v. dot (level n) v) (direction_at j j_in) ∙ level_value n (slice_index_or directions j []) zero_ℚ (direction_width j j_in)
      zero_at (suc i) zero h k e = let i_in : i < n = omega arith in ap (λ u. dot u (homogenised point one_ℚ)) (row_at i i_in) ∙ at_point i i_in
      zero_at (suc i) (suc j) h k e =
          let i_in : i < n = omega arith in
          let j_in : j < n = omega arith in
          at_direction i j i_in j_in ∙ corner.stays i j i_in j_in (λ q. e (ap suc q))

pub corner_starts : CornerStarts
corner_starts n cuts point directions corner = start (suc n) (rows_of n cuts) (homogenised point one_ℚ ∷ map (λ d. homogenised d zero_ℚ) directions)
    (corners n cuts point directions corner)
