-- The point and the directions of normed corners of the row t ≥ 0 and as many cuts as a point has entries.
use Rattle.std.proofs.Common.{◌≡◌, ℕ, suc, List, [], ◌∷◌, map, length, take, All, refl, sym, ap, ap₂, ◌∙◌, subst, arith, ◌<◌, inl, inr, slice_index_or}
use Rattle.std.proofs.lemmas.List.{length-map, get_or-map}
use Rattle.std.proofs.lemmas.List.Elements.{All-from_get_or, All-map, All-head, All-tail}
use Rattle.exact_field.specs.Rational.{ℚ, zero_ℚ, one_ℚ, neg_ℚ, ◌+ℚ◌, ◌<ℚ◌}
use Rattle.exact_field.specs.Vector.{dot}
use Rattle.polyhedra.specs.Cone.{HasFullRank}
use Rattle.polyhedra.specs.Dependence.{AreCorners}
use Rattle.polyhedra.specs.DoubleDescription.{IsNormed}
use Rattle.polyhedra.specs.Exactness.{homogenised, level, row_of, rows_of, IsCornerOf}
use Rattle.polyhedra.specs.Hull.{IsNormedDirection}
use Rattle.polyhedra.specs.Inequality.{Inequality}
use Rattle.polyhedra.specs.Vectors.{zeros}
use Rattle.polyhedra.proofs.Algebra.{zero_add}
use Rattle.polyhedra.proofs.Homogenised.{level_value, points_or_directions, row_value_point, row_value_direction, unhomogenised, IsHomogenised, zeros-homogenised}
use Rattle.polyhedra.proofs.Laws.{add_assoc, add_comm, add_neg, add_zero, le_of_lt}
use Rattle.polyhedra.proofs.Lists.{all_from_map}
use Rattle.polyhedra.proofs.Order.{le_of_eq, not_zero_of_positive}
use Rattle.log_rules.proofs.NormedMembers.{front-homogenised, one_not_zero}

no_cut : Inequality
no_cut = record { normal = []; bound = zero_ℚ }

-- a number less another is 0 where they are equal
same_of_difference : (a b : ℚ) → a +ℚ neg_ℚ b ≡ zero_ℚ → a ≡ b
same_of_difference a b h =
    sym (add_zero a) ∙ ap (λ x. a +ℚ x) (sym (add_neg b) ∙ add_comm b (neg_ℚ b)) ∙ sym (add_assoc a (neg_ℚ b) b) ∙ ap (λ x. x +ℚ b) h ∙ zero_add b

-- a vector is a point, or a normed direction, with n entries before the last
pub record IsPoint (n : ℕ) (v : List ℚ) : Type 0 where
  pub wide : length (take n v) ≡ n
  pub same : v ≡ homogenised (take n v) one_ℚ

pub record IsWay (n : ℕ) (v : List ℚ) : Type 0 where
  pub wide : length (take n v) ≡ n
  pub normed : IsNormedDirection (take n v)
  pub same : v ≡ homogenised (take n v) zero_ℚ

point_from : (n : ℕ) (v y : List ℚ) → length y ≡ n → v ≡ homogenised y one_ℚ → IsPoint n v
point_from n v y h same =
    let front : take n v ≡ y = ap (take n) same ∙ front-homogenised n y one_ℚ h in
    record { wide = ap length front ∙ h; same = same ∙ ap (λ u. homogenised u one_ℚ) (sym front) }

way_from : (n : ℕ) (v d : List ℚ) → length d ≡ n → IsNormedDirection d → v ≡ homogenised d zero_ℚ → IsWay n v
way_from n v d h normed same =
    let front : take n v ≡ d = ap (take n) same ∙ front-homogenised n d zero_ℚ h in
    record { wide = ap length front ∙ h; normed = subst IsNormedDirection (sym front) normed; same = same ∙ ap (λ u. homogenised u zero_ℚ) (sym front) }

-- a normed vector at which the row t ≥ 0 is positive is a point, and one at which it is 0 a direction
pub point_of : (n : ℕ) (v : List ℚ) → length v ≡ suc n → IsNormed v → zero_ℚ <ℚ dot (level n) v → IsPoint n v
point_of n v wide normed above = elim (points_or_directions n v wide normed (le_of_lt zero_ℚ (dot (level n) v) above)) [
  | inl p ↦ point_from n v p.0 p.1 p.2
  | inr d ↦ absurd (not_zero_of_positive (dot (level n) v) above (ap (dot (level n)) d.3 ∙ level_value n d.0 zero_ℚ d.1))
]

pub way_of : (n : ℕ) (v : List ℚ) → length v ≡ suc n → IsNormed v → dot (level n) v ≡ zero_ℚ → IsWay n v
way_of n v wide normed flat = elim (points_or_directions n v wide normed (le_of_eq zero_ℚ (dot (level n) v) (sym flat))) [
  | inl p ↦ absurd (one_not_zero (sym (level_value n p.0 one_ℚ p.1) ∙ ap (dot (level n)) (sym p.2) ∙ flat))
  | inr d ↦ way_from n v d.0 d.1 d.2 d.3
]

module _ (n : ℕ) (cuts : List Inequality) (first : List ℚ) (others : List (List ℚ)) (wide : All (λ e. length e.normal ≡ n) cuts)
    (corners : AreCorners (suc n) (rows_of n cuts) (first ∷ others)) (normed : All IsNormed (first ∷ others)) where
  cuts_many : length cuts ≡ n
  cuts_many = let m = corners.rows_many in let l = length-map cuts row_of in omega (arith, m, l)

  pub others_many : length others ≡ n
  others_many = let m = corners.vectors_many in omega (arith, m)

  row_at : (i : ℕ) → i < n → slice_index_or (map row_of cuts) i [] ≡ row_of (slice_index_or cuts i no_cut)
  row_at i h = get_or-map row_of cuts i no_cut [] (omega (arith, cuts_many, h))

  normal_at : (i : ℕ) → i < n → slice_index_or (map (λ e. e.normal) cuts) i [] ≡ (slice_index_or cuts i no_cut).normal
  normal_at i h = get_or-map (λ e. e.normal) cuts i no_cut [] (omega (arith, cuts_many, h))

  wide_at : (i : ℕ) → i < n → length (slice_index_or cuts i no_cut).normal ≡ n
  wide_at i h = wide i no_cut (omega (arith, cuts_many, h))

  pub point : IsPoint n first
  point = point_of n first (corners.vectors_wide.wide 0 [] (omega arith)) (normed 0 [] (omega arith)) (corners.positive 0 (omega arith))

  way_at : (j : ℕ) → j < n → IsWay n (slice_index_or others j [])
  way_at j h =
      way_of n (slice_index_or others j []) (corners.vectors_wide.wide (suc j) [] (omega (arith, others_many, h))) (normed (suc j) [] (omega (arith, others_many, h)))
      (corners.zero_elsewhere 0 (suc j) (omega arith) (omega (arith, h)) (λ e. omega (arith, e)))

  pub ways : All (IsWay n) others
  ways = All-from_get_or (IsWay n) others [] (λ j h. way_at j (omega (arith, others_many, h)))

  front_at : (j : ℕ) → j < n → slice_index_or (map (take n) others) j [] ≡ take n (slice_index_or others j [])
  front_at j h = get_or-map (take n) others j [] [] (omega (arith, others_many, h))

  -- the value of a cut's row at the point, and at a direction
  tight_at : (i : ℕ) → i < n → dot (slice_index_or cuts i no_cut).normal (take n first) ≡ (slice_index_or cuts i no_cut).bound
  tight_at i h =
      let e = slice_index_or cuts i no_cut in
      same_of_difference (dot e.normal (take n first)) e.bound
      (sym (row_value_point e (take n first) (wide_at i h ∙ sym point.wide)) ∙ ap (dot (row_of e)) (sym point.same)
      ∙ ap (λ r. dot r first) (sym (row_at i h)) ∙ corners.zero_elsewhere (suc i) 0 (omega (arith, h)) (omega arith) (λ q. omega (arith, q)))

  value_at : (i j : ℕ) → i < n → j < n → dot (slice_index_or (map (λ e. e.normal) cuts) i []) (slice_index_or (map (take n) others) j [])
      ≡ dot (slice_index_or (map row_of cuts) i []) (slice_index_or others j [])
  value_at i j h k =
      let e = slice_index_or cuts i no_cut in
      let v = slice_index_or others j [] in
      let way = way_at j k in
      ap₂ dot (normal_at i h) (front_at j k) ∙ sym (row_value_direction e (take n v) (wide_at i h ∙ sym way.wide))
      ∙ ap₂ dot (sym (row_at i h)) (sym way.same)

  pub is_corner : IsCornerOf n cuts (take n first) (map (take n) others)
  is_corner = record {
    normals_wide = wide;
    point_wide = point.wide;
    directions_wide = record {
      wide = All-from_get_or (λ v. length v ≡ n) (map (take n) others) []
          (λ j h. let k : j < n = omega (arith, others_many, h, length-map others (take n)) in ap length (front_at j k) ∙ (way_at j k).wide);
    };
    cuts_many = cuts_many;
    directions_many = length-map others (take n) ∙ others_many;
    tight = All-from_get_or (λ e. dot e.normal (take n first) ≡ e.bound) cuts no_cut (λ i h. tight_at i (omega (arith, cuts_many, h)));
    grows = λ i h. subst (λ x. zero_ℚ <ℚ x) (sym (value_at i i h h)) (corners.positive (suc i) (omega (arith, h)));
    stays = λ i j h k e. value_at i j h k ∙ corners.zero_elsewhere (suc i) (suc j) (omega (arith, h)) (omega (arith, k)) (λ q. e (omega (arith, q)));
  }

  -- the vectors are the point and the directions
  pub others_are : map (λ d. homogenised d zero_ℚ) (map (take n) others) ≡ others
  others_are = go others ways
    where
      go : (vs : List (List ℚ)) → All (IsWay n) vs → map (λ d. homogenised d zero_ℚ) (map (take n) vs) ≡ vs
      go [] h = refl
      go (v ∷ vs) h = ap₂ (λ a b. a ∷ b) (sym (All-head (IsWay n) v vs h).same) (go vs (All-tail (IsWay n) v vs h))

-- ---- rank
-- the row t ≥ 0 and the rows of cuts with independent normals are independent
pub rows_full : (n : ℕ) (cuts : List Inequality) → All (λ e. length e.normal ≡ n) cuts → HasFullRank n (map (λ e. e.normal) cuts) →
    HasFullRank (suc n) (rows_of n cuts)
rows_full n cuts wide rank z z_wide flat = go (unhomogenised n z z_wide)
  where
    go : IsHomogenised n z → z ≡ zeros (suc n)
    go u =
        let last : u.last ≡ zero_ℚ = sym (level_value n u.front u.last u.wide) ∙ ap (dot (level n)) (sym u.same) ∙ All-head (λ r. dot r z ≡ zero_ℚ) (level n) (map row_of cuts) flat in
        let same : z ≡ homogenised u.front zero_ℚ = u.same ∙ ap (homogenised u.front) last in
        let rows = all_from_map (λ r. dot r z ≡ zero_ℚ) row_of cuts (All-tail (λ r. dot r z ≡ zero_ℚ) (level n) (map row_of cuts) flat) in
        let front : u.front ≡ zeros n = rank u.front u.wide (All-map (λ w. dot w u.front ≡ zero_ℚ) (λ e. e.normal) cuts
        (λ i d h. sym (row_value_direction (slice_index_or cuts i d) u.front (wide i d h ∙ sym u.wide)) ∙ ap (dot (row_of (slice_index_or cuts i d))) (sym same) ∙ rows i d h)) in
        same ∙ ap (λ y. homogenised y zero_ℚ) front ∙ sym (zeros-homogenised n)
