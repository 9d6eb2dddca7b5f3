-- A vector without its part along lines, and a convex set as its reduced part and all combinations
-- of its lines.
use Rattle.std.proofs.Common.{◌≡◌, ℕ, ◌-◌, List, [], ◌∷◌, map, length, All, refl, sym, ap, ap₂, ◌∙◌, subst}
use Rattle.std.proofs.lemmas.List.Elements.{All-nil, All-cons, All-head, All-tail}
use Rattle.std.proofs.lemmas.List.{length-map}
use Rattle.exact_field.specs.Rational.{ℚ, zero_ℚ, one_ℚ, ◌+ℚ◌, ◌*ℚ◌, neg_ℚ}
use Rattle.exact_field.specs.Vector.{dot, entry}
use Rattle.exact_field.specs.Ring.{v0, v1, v2, v3, ◌⊕◌, ◌⊗◌, ⊖}
use Rattle.exact_field.proofs.RingTool.{ring}
use Rattle.exact_field.proofs.Rationals.{rationals}
use Rattle.polyhedra.specs.Vectors.{AreWide, zeros, plus, scaled, values, combination}
use Rattle.polyhedra.specs.Hull.{IsConvex}
use Rattle.polyhedra.specs.Image.{IsConvexCone}
use Rattle.polyhedra.proofs.Laws.{add_zero, add_neg}
use Rattle.polyhedra.proofs.Algebra.{zero_add, zero_mul, mul_zero, neg_zero, add_cancel}
use Rattle.polyhedra.proofs.Linear.{dot-plus, dot-plus_left, dot-scaled, dot-scaled_left, dot-combination, length-plus, length-scaled, length-combination, same_wide}
use Rattle.polyhedra.proofs.Members.{all_of_members, member_of}
use Rattle.lineality.specs.Lines.{leading_place, IsCombined, RunsAlong, IsReduced, IsReducedIn, reduction}
use Rattle.lineality.specs.Exactness.{HasParts, IsAlongLines, PartsAlongLines}
use Rattle.lineality.proofs.Places.{at, at-plus, at-scaled, at-zeros, first, entry_at}
use Rattle.lineality.proofs.Echelon.{IsEchelon, echelon_of, multipliers_of, multipliers_are, combined_at, IsFlatAt}
use Rattle.lineality.proofs.Lineality.{lineal_combination}

pub cone_of : (n : ℕ) (Set Directions : List ℚ → Type 0) → IsConvex n Set Directions → IsConvexCone n Directions
cone_of n Set Directions h = record { wide = h.directions_wide; zero = h.direction_zero; sum = h.direction_sum; multiple = h.direction_multiple }

-- ---- reduced vectors, by places counted from 0
pub flat_of : (lines : List (List ℚ)) (y : List ℚ) → IsReduced lines y → IsFlatAt lines y
flat_of lines y h = all_of_members (λ d. at y (first d) ≡ zero_ℚ) lines
    (λ d k. sym (entry_at y d) ∙ member_of (λ d. entry y (leading_place d) ≡ zero_ℚ) lines d h k)

pub reduced_of : (lines : List (List ℚ)) (y : List ℚ) → IsFlatAt lines y → IsReduced lines y
reduced_of lines y h = all_of_members (λ d. entry y (leading_place d) ≡ zero_ℚ) lines
    (λ d k. entry_at y d ∙ member_of (λ d. at y (first d) ≡ zero_ℚ) lines d h k)

pub reduced_plus : (lines : List (List ℚ)) (u v : List ℚ) → IsReduced lines u → IsReduced lines v → IsReduced lines (plus u v)
reduced_plus lines u v h k = reduced_of lines (plus u v) (all_of_members (λ d. at (plus u v) (first d) ≡ zero_ℚ) lines
    (λ d m. at-plus u v (first d)
    ∙ ap₂ (λ a b. a +ℚ b) (member_of (λ d. at u (first d) ≡ zero_ℚ) lines d (flat_of lines u h) m) (member_of (λ d. at v (first d) ≡ zero_ℚ) lines d (flat_of lines v k) m)
    ∙ add_zero zero_ℚ))

pub reduced_scaled : (lines : List (List ℚ)) (c : ℚ) (v : List ℚ) → IsReduced lines v → IsReduced lines (scaled c v)
reduced_scaled lines c v h = reduced_of lines (scaled c v) (all_of_members (λ d. at (scaled c v) (first d) ≡ zero_ℚ) lines
    (λ d m. at-scaled c v (first d) ∙ ap (λ a. c *ℚ a) (member_of (λ d. at v (first d) ≡ zero_ℚ) lines d (flat_of lines v h) m) ∙ mul_zero c))

pub reduced_zeros : (lines : List (List ℚ)) (n : ℕ) → IsReduced lines (zeros n)
reduced_zeros lines n = reduced_of lines (zeros n) (all_of_members (λ d. at (zeros n) (first d) ≡ zero_ℚ) lines (λ d m. at-zeros n (first d)))

-- ---- the reduction
abbrev pub entries_at : List (List ℚ) → List ℚ → List ℚ
entries_at lines y = map (λ d. entry y (leading_place d)) lines

abbrev pub less_at : List (List ℚ) → List ℚ → List ℚ
less_at lines y = map (λ d. neg_ℚ (entry y (leading_place d))) lines

pub length-reduction : (n : ℕ) (lines : List (List ℚ)) (y : List ℚ) → AreWide n lines → length y ≡ n → length (reduction n lines y) ≡ n
length-reduction n lines y w h = length-plus n y (combination n (less_at lines y) lines) h (length-combination n (less_at lines y) lines w)

each_same : (f g : List ℚ → ℚ) (vs : List (List ℚ)) → map f vs ≡ map g vs → All (λ d. f d ≡ g d) vs
each_same f g [] h = All-nil (λ d. f d ≡ g d)
each_same f g (v ∷ vs) h =
    All-cons (λ d. f d ≡ g d) v vs (ap (λ xs. at xs 0) h) (each_same f g vs (ap (Rattle.std.specs.Prelude.drop 1) h))

pub reduction_flat : (n : ℕ) (lines : List (List ℚ)) (y : List ℚ) → IsEchelon n lines → IsReduced lines (reduction n lines y)
reduction_flat n lines y h = reduced_of lines (reduction n lines y) (all_of_members (λ d. at (reduction n lines y) (first d) ≡ zero_ℚ) lines
    (λ d k. at-plus y (combination n (less_at lines y) lines) (first d)
    ∙ ap (λ a. at y (first d) +ℚ a)
    (member_of (λ d. at (combination n (less_at lines y) lines) (first d) ≡ neg_ℚ (entry y (leading_place d))) lines d
    (each_same (λ d. at (combination n (less_at lines y) lines) (first d)) (λ d. neg_ℚ (entry y (leading_place d))) lines
    (multipliers_are n lines (less_at lines y) h (length-map lines (λ d. neg_ℚ (entry y (leading_place d)))))) k
    ∙ ap neg_ℚ (entry_at y d))
    ∙ add_neg (at y (first d))))

pub dot_less : (f : List ℚ → ℚ) (vs : List (List ℚ)) (xs : List ℚ) → dot (map (λ d. neg_ℚ (f d)) vs) xs ≡ neg_ℚ (dot (map f vs) xs)
dot_less f [] xs = sym neg_zero
dot_less f (v ∷ vs) [] = sym neg_zero
dot_less f (v ∷ vs) (x ∷ xs) = ap (λ a. neg_ℚ (f v) *ℚ x +ℚ a) (dot_less f vs xs)
    ∙ ring rationals (f v ∷ x ∷ dot (map f vs) xs ∷ []) (⊖ v0 ⊗ v1 ⊕ ⊖ v2) (⊖ (v0 ⊗ v1 ⊕ v2)) refl

-- the product with a reduction
pub dot-reduction : (n : ℕ) (lines : List (List ℚ)) (r y : List ℚ) →
    dot r (reduction n lines y) ≡ dot r y +ℚ neg_ℚ (dot (entries_at lines y) (values lines r))
dot-reduction n lines r y = dot-plus r y (combination n (less_at lines y) lines)
    ∙ ap (λ a. dot r y +ℚ a) (dot-combination n r (less_at lines y) lines ∙ dot_less (λ d. entry y (leading_place d)) lines (values lines r))

-- a vector is its reduction and a combination of the lines
pub parted : (n : ℕ) (lines : List (List ℚ)) (y : List ℚ) → AreWide n lines → length y ≡ n →
    y ≡ plus (reduction n lines y) (combination n (entries_at lines y) lines)
parted n lines y w h =
    same_wide n y (plus (reduction n lines y) (combination n (entries_at lines y) lines)) h
    (length-plus n (reduction n lines y) (combination n (entries_at lines y) lines) (length-reduction n lines y w h) (length-combination n (entries_at lines y) lines w))
    (λ r. sym (dot-plus r (reduction n lines y) (combination n (entries_at lines y) lines)
    ∙ ap₂ (λ a b. a +ℚ b) (dot-reduction n lines r y) (dot-combination n r (entries_at lines y) lines)
    ∙ ring rationals (dot r y ∷ dot (entries_at lines y) (values lines r) ∷ []) ((v0 ⊕ ⊖ v1) ⊕ v1) v0 refl))

-- a product with a row that is 0 at each line
pub level_values : (ms : List ℚ) (lines : List (List ℚ)) (r : List ℚ) → All (λ d. dot r d ≡ zero_ℚ) lines → dot ms (values lines r) ≡ zero_ℚ
level_values [] lines r h = refl
level_values (m ∷ ms) [] r h = refl
level_values (m ∷ ms) (d ∷ lines) r h =
    ap₂ (λ a b. m *ℚ a +ℚ b) (Rattle.polyhedra.proofs.Linear.dot_comm d r ∙ All-head (λ d. dot r d ≡ zero_ℚ) d lines h) (level_values ms lines r (All-tail (λ d. dot r d ≡ zero_ℚ) d lines h))
    ∙ ap (λ a. a +ℚ zero_ℚ) (mul_zero m) ∙ add_zero zero_ℚ

pub level_reduction : (n : ℕ) (lines : List (List ℚ)) (r y : List ℚ) → All (λ d. dot r d ≡ zero_ℚ) lines → dot r (reduction n lines y) ≡ dot r y
level_reduction n lines r y h = dot-reduction n lines r y ∙ ap (λ a. dot r y +ℚ neg_ℚ a) (level_values (entries_at lines y) lines r h)
    ∙ ap (λ a. dot r y +ℚ a) neg_zero ∙ add_zero (dot r y)

pub level_combination : (n : ℕ) (lines : List (List ℚ)) (ms r : List ℚ) → All (λ d. dot r d ≡ zero_ℚ) lines → dot r (combination n ms lines) ≡ zero_ℚ
level_combination n lines ms r h = dot-combination n r ms lines ∙ level_values ms lines r h

-- a reduced vector is its own reduction
no_entries : (lines : List (List ℚ)) (y xs : List ℚ) → IsReduced lines y → dot (entries_at lines y) xs ≡ zero_ℚ
no_entries [] y xs h = refl
no_entries (d ∷ lines) y [] h = refl
no_entries (d ∷ lines) y (x ∷ xs) h =
    ap₂ (λ a b. a *ℚ x +ℚ b) (All-head (λ d. entry y (leading_place d) ≡ zero_ℚ) d lines h)
    (no_entries lines y xs (All-tail (λ d. entry y (leading_place d) ≡ zero_ℚ) d lines h))
    ∙ ap (λ a. a +ℚ zero_ℚ) (zero_mul x) ∙ add_zero zero_ℚ

pub reduction_same : (n : ℕ) (lines : List (List ℚ)) (y : List ℚ) → AreWide n lines → length y ≡ n → IsReduced lines y → reduction n lines y ≡ y
reduction_same n lines y w l h = same_wide n (reduction n lines y) y (length-reduction n lines y w l) l
    (λ r. dot-reduction n lines r y ∙ ap (λ a. dot r y +ℚ neg_ℚ a) (no_entries lines y (values lines r) h)
    ∙ ap (λ a. dot r y +ℚ a) neg_zero ∙ add_zero (dot r y))

-- reductions of sums and of multiples
entries-plus : (lines : List (List ℚ)) (u v : List ℚ) → entries_at lines (plus u v) ≡ plus (entries_at lines u) (entries_at lines v)
entries-plus [] u v = refl
entries-plus (d ∷ lines) u v = ap₂ (λ a b. a ∷ b) (at-plus u v (leading_place d - 1)) (entries-plus lines u v)

entries-scaled : (lines : List (List ℚ)) (c : ℚ) (v : List ℚ) → entries_at lines (scaled c v) ≡ scaled c (entries_at lines v)
entries-scaled [] c v = refl
entries-scaled (d ∷ lines) c v = ap₂ (λ a b. a ∷ b) (at-scaled c v (leading_place d - 1)) (entries-scaled lines c v)

pub reduction-plus : (n : ℕ) (lines : List (List ℚ)) (u v : List ℚ) → AreWide n lines → length u ≡ n → length v ≡ n →
    reduction n lines (plus u v) ≡ plus (reduction n lines u) (reduction n lines v)
reduction-plus n lines u v w h k =
    same_wide n (reduction n lines (plus u v)) (plus (reduction n lines u) (reduction n lines v)) (length-reduction n lines (plus u v) w (length-plus n u v h k))
    (length-plus n (reduction n lines u) (reduction n lines v) (length-reduction n lines u w h) (length-reduction n lines v w k))
    (λ r. dot-reduction n lines r (plus u v)
    ∙ ap₂ (λ a b. a +ℚ neg_ℚ b) (dot-plus r u v)
    (ap (λ es. dot es (values lines r)) (entries-plus lines u v) ∙ dot-plus_left (entries_at lines u) (entries_at lines v) (values lines r))
    ∙ ring rationals (dot r u ∷ dot r v ∷ dot (entries_at lines u) (values lines r) ∷ dot (entries_at lines v) (values lines r) ∷ [])
    ((v0 ⊕ v1) ⊕ ⊖ (v2 ⊕ v3)) ((v0 ⊕ ⊖ v2) ⊕ (v1 ⊕ ⊖ v3)) refl
    ∙ sym (dot-plus r (reduction n lines u) (reduction n lines v) ∙ ap₂ (λ a b. a +ℚ b) (dot-reduction n lines r u) (dot-reduction n lines r v)))

pub reduction-scaled : (n : ℕ) (lines : List (List ℚ)) (c : ℚ) (v : List ℚ) → AreWide n lines → length v ≡ n →
    reduction n lines (scaled c v) ≡ scaled c (reduction n lines v)
reduction-scaled n lines c v w h =
    same_wide n (reduction n lines (scaled c v)) (scaled c (reduction n lines v)) (length-reduction n lines (scaled c v) w (length-scaled c v ∙ h))
    (length-scaled c (reduction n lines v) ∙ length-reduction n lines v w h)
    (λ r. dot-reduction n lines r (scaled c v)
    ∙ ap₂ (λ a b. a +ℚ neg_ℚ b) (dot-scaled r c v)
    (ap (λ es. dot es (values lines r)) (entries-scaled lines c v) ∙ dot-scaled_left c (entries_at lines v) (values lines r))
    ∙ ring rationals (c ∷ dot r v ∷ dot (entries_at lines v) (values lines r) ∷ []) (v0 ⊗ v1 ⊕ ⊖ (v0 ⊗ v2)) (v0 ⊗ (v1 ⊕ ⊖ v2)) refl
    ∙ sym (dot-scaled r c (reduction n lines v) ∙ ap (λ a. c *ℚ a) (dot-reduction n lines r v)))

-- ---- two parts of one vector
module _ (n : ℕ) (lines : List (List ℚ)) (form : IsEchelon n lines) where
  beside_at : (r l y : List ℚ) → IsReduced lines r → y ≡ plus r l → multipliers_of lines l ≡ multipliers_of lines y
  beside_at r l y h e = Rattle.lineality.proofs.Echelon.same_at (λ d. at l (first d)) (λ d. at y (first d)) lines
      (all_of_members (λ d. at l (first d) ≡ at y (first d)) lines
      (λ d k. sym (ap (λ v. at v (first d)) e ∙ at-plus r l (first d) ∙ ap (λ a. a +ℚ at l (first d)) (member_of (λ d. at r (first d) ≡ zero_ℚ) lines d (flat_of lines r h) k)
      ∙ zero_add (at l (first d)))))

  pub one_part : (Set : List ℚ → Type 0) → ((y : List ℚ) → Set y → length y ≡ n) → (y : List ℚ) (h k : HasParts n lines Set y) → h.reduced ≡ k.reduced
  one_part Set wide y h k =
      same_wide n h.reduced k.reduced (wide h.reduced h.reduced_in.member) (wide k.reduced k.reduced_in.member)
      (λ r. add_cancel (dot r h.reduced) (dot r k.reduced) (dot r k.beside)
      (ap (λ v. dot r h.reduced +ℚ dot r v) (sym same_beside) ∙ sym (dot-plus r h.reduced h.beside) ∙ ap (dot r) (sym h.same ∙ k.same) ∙ dot-plus r k.reduced k.beside))
    where
      same_beside : h.beside ≡ k.beside
      same_beside = combined_at n lines h.beside form h.combined
          ∙ ap (λ ms. combination n ms lines) (beside_at h.reduced h.beside y h.reduced_in.reduced h.same ∙ sym (beside_at k.reduced k.beside y k.reduced_in.reduced k.same))
          ∙ sym (combined_at n lines k.beside form k.combined)

-- ---- a convex set along its lines
module _ (n : ℕ) (Set Directions : List ℚ → Type 0) (lines : List (List ℚ)) (convex : IsConvex n Set Directions) (along : RunsAlong n Directions lines) where
  pub form : IsEchelon n lines
  form = echelon_of n lines along.echelon

  pub along_in : (ms : List ℚ) → Directions (combination n ms lines)
  along_in ms = (lineal_combination n Directions (cone_of n Set Directions convex) ms lines along.each).forth

  pub reduction_in : (y : List ℚ) → Set y → IsReducedIn lines Set (reduction n lines y)
  reduction_in y h = record {
    member = convex.recedes y (combination n (less_at lines y) lines) h (along_in (less_at lines y));
    reduced = reduction_flat n lines y form;
  }

  pub reduction_directs : (d : List ℚ) → Directions d → IsReducedIn lines Directions (reduction n lines d)
  reduction_directs d h = record {
    member = convex.direction_sum d (combination n (less_at lines d) lines) h (along_in (less_at lines d));
    reduced = reduction_flat n lines d form;
  }

  combined_entries : (y : List ℚ) → IsCombined n lines (combination n (entries_at lines y) lines)
  combined_entries y = record { multipliers = entries_at lines y; one_each = length-map lines (λ d. entry y (leading_place d)); combined = refl }

  directs : (d : List ℚ) → IsCombined n lines d → Directions d
  directs d h = subst Directions (sym h.combined) (along_in h.multipliers)

  pub part_convex : IsConvex n (IsReducedIn lines Set) (IsReducedIn lines Directions)
  part_convex = record {
    wide = λ y h. convex.wide y h.member;
    directions_wide = λ d h. convex.directions_wide d h.member;
    mean = λ l a b p q h k. record {
      member = convex.mean l a b p q h.member k.member;
      reduced = reduced_plus lines (scaled (one_ℚ +ℚ neg_ℚ l) a) (scaled l b) (reduced_scaled lines (one_ℚ +ℚ neg_ℚ l) a h.reduced) (reduced_scaled lines l b k.reduced);
    };
    recedes = λ y d h k. record { member = convex.recedes y d h.member k.member; reduced = reduced_plus lines y d h.reduced k.reduced };
    direction_zero = record { member = convex.direction_zero; reduced = reduced_zeros lines n };
    direction_sum = λ a b h k. record { member = convex.direction_sum a b h.member k.member; reduced = reduced_plus lines a b h.reduced k.reduced };
    direction_multiple = λ s d p h. record { member = convex.direction_multiple s d p h.member; reduced = reduced_scaled lines s d h.reduced };
  }

  pub is_along_lines : IsAlongLines n lines Set Directions
  is_along_lines = record {
    part_convex = part_convex;
    members = λ y. (
      λ h. record {
        reduced = reduction n lines y;
        reduced_in = reduction_in y h;
        beside = combination n (entries_at lines y) lines;
        combined = combined_entries y;
        same = parted n lines y form.wide (convex.wide y h);
      },
      λ h. subst Set (sym h.same) (convex.recedes h.reduced h.beside h.reduced_in.member (directs h.beside h.combined)),
    );
    directions = λ d. (
      λ h. record {
        reduced = reduction n lines d;
        reduced_in = reduction_directs d h;
        beside = combination n (entries_at lines d) lines;
        combined = combined_entries d;
        same = parted n lines d form.wide (convex.directions_wide d h);
      },
      λ h. subst Directions (sym h.same) (convex.direction_sum h.reduced h.beside h.reduced_in.member (directs h.beside h.combined)),
    );
    one_part = one_part n lines form Set convex.wide;
  }

pub parts_along_lines : (Set Directions : List ℚ → Type 0) → PartsAlongLines Set Directions
parts_along_lines Set Directions n lines convex along = is_along_lines n Set Directions lines convex along
