-- Normals that are level along lines: they are told apart without the entries at the places of the
-- lines, and each vector without these entries is one of them.
use Rattle.std.proofs.Common.{◌≡◌, ℕ, zero, suc, List, [], ◌∷◌, map, length, All, Contains, refl, sym, ap, ap₂, ◌∙◌, arith, ◌⊎◌, inl, inr, ◌<◌}
use Rattle.std.proofs.lemmas.List.Elements.{All-head, All-tail}
use Rattle.std.proofs.lemmas.List.{length-map}
use Rattle.exact_field.specs.Rational.{ℚ, zero_ℚ, one_ℚ, ◌+ℚ◌, ◌*ℚ◌, neg_ℚ}
use Rattle.exact_field.specs.Vector.{dot}
use Rattle.polyhedra.specs.Vectors.{AreWide, zeros, plus, scaled, values, combination}
use Rattle.polyhedra.proofs.Laws.{add_zero, add_neg}
use Rattle.polyhedra.proofs.Algebra.{zero_add, zero_mul, mul_zero, one_mul}
use Rattle.polyhedra.proofs.Linear.{dot_comm, dot-nil, dot-plus, dot-plus_left, dot-scaled, dot-zeros, dot-combination, dot-combination_left, scaled-one, length-plus, length-scaled, length-zeros, length-combination, same_wide}
use Rattle.polyhedra.proofs.Lists.{HasWidth, wide-head, wide-tail, Contains-cases, Contains-nil}
use Rattle.polyhedra.proofs.Members.{all_of_members, member_of}
use Rattle.lineality.specs.Lines.{IsCombined, reduction}
use Rattle.lineality.specs.Without.{marks, open_count, without, with_zeros}
use Rattle.lineality.proofs.Places.{at, first}
use Rattle.lineality.proofs.Echelon.{IsOne, IsEchelon, multipliers_of, combined_at, combination_of_zeros}
use Rattle.lineality.proofs.Masks.{dot-without, without-with}
use Rattle.lineality.proofs.Marks.{with_flat, first_within}
use Rattle.lineality.proofs.Reduction.{dot_less, length-reduction, reduction_flat, level_reduction}
use Rattle.lineality.proofs.Erased.{same_product, erased_wide, filled_wide}

-- ---- a vector of a stated width with the same products
fit : ℕ → List ℚ → List ℚ
fit zero r = []
fit (suc n) [] = zero_ℚ ∷ fit n []
fit (suc n) (x ∷ r) = x ∷ fit n r

length-fit : (n : ℕ) (r : List ℚ) → length (fit n r) ≡ n
unfolding fit
length-fit zero r = refl
length-fit (suc n) [] = ap suc (length-fit n [])
length-fit (suc n) (x ∷ r) = ap suc (length-fit n r)

dot-fit : (n : ℕ) (u r : List ℚ) → length u ≡ n → dot u (fit n r) ≡ dot u r
unfolding fit
dot-fit n [] r h = refl
dot-fit zero (x ∷ u) r h = absurd (omega arith)
dot-fit (suc n) (x ∷ u) [] h = ap₂ (λ a b. a +ℚ b) (mul_zero x) (dot-fit n u [] (omega arith) ∙ dot-nil u) ∙ add_zero zero_ℚ
dot-fit (suc n) (x ∷ u) (y ∷ r) h = ap (λ a. x *ℚ y +ℚ a) (dot-fit n u r (omega arith))

-- ---- unit vectors
unit_at : ℕ → ℕ → List ℚ
unit_at zero k = []
unit_at (suc n) zero = one_ℚ ∷ zeros n
unit_at (suc n) (suc k) = zero_ℚ ∷ unit_at n k

length-unit : (n k : ℕ) → length (unit_at n k) ≡ n
unfolding unit_at
length-unit zero k = refl
length-unit (suc n) zero = ap suc (length-zeros n)
length-unit (suc n) (suc k) = ap suc (length-unit n k)

dot-unit : (n k : ℕ) (v : List ℚ) → k < n → dot (unit_at n k) v ≡ at v k
unfolding unit_at
dot-unit zero k v h = absurd (omega arith)
dot-unit (suc n) zero [] h = refl
dot-unit (suc n) zero (x ∷ v) h = ap₂ (λ a b. a +ℚ b) (one_mul x) (dot_comm (zeros n) v ∙ dot-zeros v n) ∙ add_zero x
dot-unit (suc n) (suc k) [] h = refl
dot-unit (suc n) (suc k) (x ∷ v) h = ap₂ (λ a b. a +ℚ b) (zero_mul x) (dot-unit n k v (omega arith)) ∙ zero_add (at v k)

-- ---- each of the vectors is a combination of them
pub member_combined : (n : ℕ) (vs : List (List ℚ)) (v : List ℚ) → AreWide n vs → Contains vs v → IsCombined n vs v
member_combined n [] v w h = absurd (Contains-nil v h)
member_combined n (u ∷ vs) v w h = go (member_combined n vs v (wide-tail n u vs w)) (Contains-cases u vs v h)
  where
    u_wide : length u ≡ n
    u_wide = wide-head n u vs w

    nothing : List ℚ
    nothing = map (λ d. zero_ℚ) vs

    all_nothing : (ds : List (List ℚ)) → All (λ m. m ≡ zero_ℚ) (map (λ d. zero_ℚ) ds)
    all_nothing ds = Rattle.std.proofs.lemmas.List.Elements.All-map (λ m. m ≡ zero_ℚ) (λ d. zero_ℚ) ds (all_of_members (λ d. zero_ℚ ≡ zero_ℚ) ds (λ d k. refl))

    none : combination n (map (λ d. zero_ℚ) vs) vs ≡ zeros n
    none = combination_of_zeros n (map (λ d. zero_ℚ) vs) vs (wide-tail n u vs w) (all_nothing vs)

    go : (Contains vs v → IsCombined n vs v) → (u ≡ v) ⊎ Contains vs v → IsCombined n (u ∷ vs) v
    go later (inl e) = record {
      multipliers = one_ℚ ∷ map (λ d. zero_ℚ) vs;
      one_each = ap suc (length-map vs (λ d. zero_ℚ));
      combined = sym e ∙ same_wide n u (plus (scaled one_ℚ u) (combination n (map (λ d. zero_ℚ) vs) vs)) u_wide
          (length-plus n (scaled one_ℚ u) (combination n (map (λ d. zero_ℚ) vs) vs) (length-scaled one_ℚ u ∙ u_wide) (length-combination n (map (λ d. zero_ℚ) vs) vs (wide-tail n u vs w)))
          (λ r. sym (dot-plus r (scaled one_ℚ u) (combination n (map (λ d. zero_ℚ) vs) vs)
          ∙ ap₂ (λ a b. a +ℚ b) (ap (dot r) (scaled-one u)) (ap (dot r) none ∙ dot-zeros r n) ∙ add_zero (dot r u)));
    }
    go later (inr k) =
        let c : IsCombined n vs v = later k in
        record {
          multipliers = zero_ℚ ∷ c.multipliers;
          one_each = ap suc c.one_each;
          combined = same_wide n v (plus (scaled zero_ℚ u) (combination n c.multipliers vs)) (member_of (HasWidth n) vs v (wide-tail n u vs w).wide k)
              (length-plus n (scaled zero_ℚ u) (combination n c.multipliers vs) (length-scaled zero_ℚ u ∙ u_wide) (length-combination n c.multipliers vs (wide-tail n u vs w)))
              (λ r. sym (dot-plus r (scaled zero_ℚ u) (combination n c.multipliers vs)
              ∙ ap₂ (λ a b. a +ℚ b) (dot-scaled r zero_ℚ u ∙ zero_mul (dot r u)) (ap (dot r) (sym c.combined)) ∙ zero_add (dot r v)));
        }

abbrev pub IsLevel : List (List ℚ) → List ℚ → Type 0
IsLevel lines w = All (λ d. dot w d ≡ zero_ℚ) lines

pub level_plus : (lines : List (List ℚ)) (u v : List ℚ) → IsLevel lines u → IsLevel lines v → IsLevel lines (plus u v)
level_plus lines u v h k = all_of_members (λ d. dot (plus u v) d ≡ zero_ℚ) lines
    (λ d m. dot-plus_left u v d ∙ ap₂ (λ a b. a +ℚ b) (member_of (λ d. dot u d ≡ zero_ℚ) lines d h m) (member_of (λ d. dot v d ≡ zero_ℚ) lines d k m) ∙ add_zero zero_ℚ)

module _ (n : ℕ) (lines : List (List ℚ)) (form : IsEchelon n lines) where
  -- the product of a level normal with a vector takes the other entries alone
  pub level_product : (w y : List ℚ) → IsLevel lines w → length y ≡ n → dot (without (marks n lines) w) (without (marks n lines) (reduction n lines y)) ≡ dot w y
  level_product w y h l =
      same_product n lines form w (reduction n lines y) (length-reduction n lines y form.wide l) (reduction_flat n lines y form) ∙ level_reduction n lines w y h

  pub same_level : (u v : List ℚ) → length u ≡ n → length v ≡ n → IsLevel lines u → IsLevel lines v → without (marks n lines) u ≡ without (marks n lines) v → u ≡ v
  same_level u v hu hv lu lv e =
      same_wide n u v hu hv
      (λ r. dot_comm r u ∙ sym (dot-fit n u r hu) ∙ sym (level_product u (fit n r) lu (length-fit n r))
      ∙ ap (λ w. dot w (without (marks n lines) (reduction n lines (fit n r)))) e
      ∙ level_product v (fit n r) lv (length-fit n r) ∙ dot-fit n v r hv ∙ dot_comm v r)

  -- ---- the level normal whose other entries are those of w
  module _ (w : List ℚ) (width : length w ≡ open_count (marks n lines)) where
    abbrev filled : List ℚ
    filled = with_zeros (marks n lines) w

    abbrev factors : List ℚ
    factors = map (λ d. neg_ℚ (dot filled d)) lines

    abbrev units : List (List ℚ)
    units = map (λ d. unit_at n (first d)) lines

    units_wide : AreWide n units
    units_wide = record { wide = Rattle.std.proofs.lemmas.List.Elements.All-map (HasWidth n) (λ d. unit_at n (first d)) lines (all_of_members (λ d. HasWidth n (unit_at n (first d))) lines (λ d k. length-unit n (first d))) }

    pub restored : List ℚ
    restored = plus filled (combination n factors units)

    pub length-restored : length restored ≡ n
    unfolding restored
    length-restored = length-plus n filled (combination n factors units) (filled_wide n lines form w width) (length-combination n factors units units_wide)

    unit_values : (y : List ℚ) → values units y ≡ multipliers_of lines y
    unit_values y = go lines (λ d k. first_within n d (member_of (HasWidth n) lines d form.wide.wide k) (member_of IsOne lines d form.ones k))
      where
        go : (ds : List (List ℚ)) → ((d : List ℚ) → Contains ds d → first d < n) → values (map (λ d. unit_at n (first d)) ds) y ≡ multipliers_of ds y
        go [] h = refl
        go (d ∷ ds) h = ap₂ (λ a b. a ∷ b) (dot-unit n (first d) y (h d (Rattle.polyhedra.proofs.Lists.Contains-here d ds d refl)))
            (go ds (λ e k. h e (Rattle.polyhedra.proofs.Lists.Contains-there d ds e k)))

    product_restored : (y : List ℚ) → dot restored y ≡ dot filled y +ℚ dot factors (multipliers_of lines y)
    unfolding restored
    product_restored y = dot-plus_left filled (combination n factors units) y
        ∙ ap (λ a. dot filled y +ℚ a) (dot-combination_left n factors units y ∙ ap (dot factors) (unit_values y))

    flat_product : (ms : List ℚ) (ds : List (List ℚ)) (y : List ℚ) → All (λ d. at y (first d) ≡ zero_ℚ) ds → dot ms (multipliers_of ds y) ≡ zero_ℚ
    flat_product [] ds y h = refl
    flat_product (m ∷ ms) [] y h = refl
    flat_product (m ∷ ms) (d ∷ ds) y h =
        ap₂ (λ a b. m *ℚ a +ℚ b) (All-head (λ d. at y (first d) ≡ zero_ℚ) d ds h) (flat_product ms ds y (All-tail (λ d. at y (first d) ≡ zero_ℚ) d ds h))
        ∙ ap (λ a. a +ℚ zero_ℚ) (mul_zero m) ∙ add_zero zero_ℚ

    pub restored_without : without (marks n lines) restored ≡ w
    restored_without =
        same_wide (open_count (marks n lines)) (without (marks n lines) restored) w (erased_wide n lines form restored length-restored) width
        (λ r. dot_comm r (without (marks n lines) restored) ∙ dot-without (marks n lines) restored r ∙ product_restored (with_zeros (marks n lines) r)
        ∙ ap (λ a. dot filled (with_zeros (marks n lines) r) +ℚ a) (flat_product factors lines (with_zeros (marks n lines) r) (with_flat n lines form r))
        ∙ add_zero (dot filled (with_zeros (marks n lines) r))
        ∙ sym (dot-without (marks n lines) filled r) ∙ ap (λ v. dot v r) (without-with (marks n lines) w) ∙ dot_comm w r)

    values_of : (ds : List (List ℚ)) → map (λ d. dot filled d) ds ≡ values ds filled
    values_of [] = refl
    values_of (d ∷ ds) = ap₂ (λ a b. a ∷ b) (dot_comm filled d) (values_of ds)

    pub restored_level : IsLevel lines restored
    restored_level = all_of_members (λ d. dot restored d ≡ zero_ℚ) lines
        (λ d k. product_restored d
        ∙ ap (λ a. dot filled d +ℚ a)
        (dot_less (λ e. dot filled e) lines (multipliers_of lines d)
        ∙ ap neg_ℚ (ap (λ xs. dot xs (multipliers_of lines d)) (values_of lines) ∙ dot_comm (values lines filled) (multipliers_of lines d)
        ∙ sym (dot-combination n filled (multipliers_of lines d) lines) ∙ ap (dot filled) (sym (combined_at n lines d form (member_combined n lines d form.wide k)))))
        ∙ add_neg (dot filled d))
