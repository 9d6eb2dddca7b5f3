-- Farkas' lemma as a function that solves equations: multipliers of any sign that combine rows to a vector, where there are some.
use Rattle.std.proofs.Common.{◌≡◌, ℕ, suc, List, [], ◌∷◌, length, All, refl, sym, ap, ap₂, ◌∙◌, subst, arith, ◌⊎◌, inl, inr, Option, None, Some}
use Rattle.std.proofs.lemmas.List.Elements.{All-head, All-tail}
use Rattle.exact_field.specs.Rational.{ℚ, zero_ℚ, one_ℚ, ◌+ℚ◌, ◌*ℚ◌, neg_ℚ, ◌≤ℚ◌, ◌<ℚ◌}
use Rattle.exact_field.specs.Vector.{dot}
use Rattle.polyhedra.specs.Vectors.{AreWide, zeros, plus, scaled, values, combination}
use Rattle.polyhedra.specs.Cone.{IsGenerated}
use Rattle.polyhedra.specs.Farkas.{IsSeparated}
use Rattle.polyhedra.proofs.Farkas.{farkas}
use Rattle.polyhedra.proofs.Laws.{add_assoc, add_zero, add_neg, le_antisymm}
use Rattle.polyhedra.proofs.Algebra.{mul_zero, zero_mul, one_mul, neg_mul, mul_neg, add_mul, add_cancel}
use Rattle.polyhedra.proofs.Order.{lt_irrefl, le_of_difference}
use Rattle.polyhedra.proofs.Lists.{wide-nil, wide-cons, wide-head, wide-tail}
use Rattle.polyhedra.proofs.Linear.{dot_comm, dot-nil, dot-scaled_left, dot-plus_left, dot-combination_left, dot-zeros, length-combination, length-scaled, length-zeros, same_wide, length-plus}

-- each row, and after it its negative
abbrev pub with_negatives : List (List ℚ) → List (List ℚ)
with_negatives [] = []
with_negatives (a ∷ rows) = a ∷ (scaled (neg_ℚ one_ℚ) a ∷ with_negatives rows)

pub with_negatives_wide : (n : ℕ) (rows : List (List ℚ)) → AreWide n rows → AreWide n (with_negatives rows)
with_negatives_wide n [] w = wide-nil n
with_negatives_wide n (a ∷ rows) w =
    wide-cons n a (scaled (neg_ℚ one_ℚ) a ∷ with_negatives rows) (wide-head n a rows w)
    (wide-cons n (scaled (neg_ℚ one_ℚ) a) (with_negatives rows) (length-scaled (neg_ℚ one_ℚ) a ∙ wide-head n a rows w)
    (with_negatives_wide n rows (wide-tail n a rows w)))

-- the multipliers of the rows, from those of the rows and their negatives
abbrev pub differences : List (List ℚ) → List ℚ → List ℚ
differences [] g = []
differences (a ∷ rows) [] = zero_ℚ ∷ differences rows []
differences (a ∷ rows) (x ∷ []) = x ∷ differences rows []
differences (a ∷ rows) (x ∷ (y ∷ g)) = (x +ℚ neg_ℚ y) ∷ differences rows g

pub length-differences : (rows : List (List ℚ)) (g : List ℚ) → length (differences rows g) ≡ length rows
length-differences [] g = refl
length-differences (a ∷ rows) [] = ap suc (length-differences rows [])
length-differences (a ∷ rows) (x ∷ []) = ap suc (length-differences rows [])
length-differences (a ∷ rows) (x ∷ (y ∷ g)) = ap suc (length-differences rows g)

negative_value : (a r : List ℚ) → dot (scaled (neg_ℚ one_ℚ) a) r ≡ neg_ℚ (dot a r)
negative_value a r = dot-scaled_left (neg_ℚ one_ℚ) a r ∙ neg_mul one_ℚ (dot a r) ∙ ap neg_ℚ (one_mul (dot a r))

nothing_left : (rows : List (List ℚ)) (r : List ℚ) → zero_ℚ ≡ dot (differences rows []) (values rows r)
nothing_left [] r = refl
nothing_left (a ∷ rows) r = sym (ap₂ (λ s t. s +ℚ t) (zero_mul (dot a r)) (sym (nothing_left rows r)) ∙ add_zero zero_ℚ)

joined : (x y v s : ℚ) → x *ℚ v +ℚ (y *ℚ neg_ℚ v +ℚ s) ≡ (x +ℚ neg_ℚ y) *ℚ v +ℚ s
joined x y v s =
    sym (add_assoc (x *ℚ v) (y *ℚ neg_ℚ v) s)
    ∙ ap (λ t. x *ℚ v +ℚ t +ℚ s) (mul_neg y v ∙ sym (neg_mul y v))
    ∙ ap (λ t. t +ℚ s) (sym (add_mul x (neg_ℚ y) v))

difference_value : (rows : List (List ℚ)) (g r : List ℚ) → dot g (values (with_negatives rows) r) ≡ dot (differences rows g) (values rows r)
difference_value [] g r = dot-nil g
difference_value (a ∷ rows) [] r = nothing_left (a ∷ rows) r
difference_value (a ∷ rows) (x ∷ []) r = ap (λ t. x *ℚ dot a r +ℚ t) (nothing_left rows r)
difference_value (a ∷ rows) (x ∷ (y ∷ g)) r =
    ap₂ (λ s t. x *ℚ dot a r +ℚ (y *ℚ s +ℚ t)) (negative_value a r) (difference_value rows g r)
    ∙ joined x y (dot a r) (dot (differences rows g) (values rows r))

-- they combine the rows to the same vector
pub differences_combine : (n : ℕ) (rows : List (List ℚ)) (g : List ℚ) → AreWide n rows →
    combination n g (with_negatives rows) ≡ combination n (differences rows g) rows
differences_combine n rows g w =
    same_wide n (combination n g (with_negatives rows)) (combination n (differences rows g) rows)
    (length-combination n g (with_negatives rows) (with_negatives_wide n rows w)) (length-combination n (differences rows g) rows w)
    (λ r. dot_comm r (combination n g (with_negatives rows)) ∙ dot-combination_left n g (with_negatives rows) r ∙ difference_value rows g r
    ∙ sym (dot-combination_left n (differences rows g) rows r) ∙ dot_comm (combination n (differences rows g) rows) r)

-- multipliers that combine the rows to t, if Farkas' lemma finds some
pub found : (n : ℕ) (rows : List (List ℚ)) (t : List ℚ) → AreWide n rows → length t ≡ n → IsGenerated n (with_negatives rows) t ⊎ IsSeparated n (with_negatives rows) t
found n rows t w l = farkas n (with_negatives rows) t (with_negatives_wide n rows w) l

abbrev multipliers_found : (n : ℕ) (rows : List (List ℚ)) (t : List ℚ) → IsGenerated n (with_negatives rows) t ⊎ IsSeparated n (with_negatives rows) t → Option (List ℚ)
multipliers_found n rows t (inl g) = Some (differences rows g.multipliers)
multipliers_found n rows t (inr s) = None

abbrev pub solve : (n : ℕ) (rows : List (List ℚ)) (t : List ℚ) → AreWide n rows → length t ≡ n → Option (List ℚ)
solve n rows t w l = multipliers_found n rows t (found n rows t w l)

-- no combination of the rows but that of zeros is 0
abbrev pub AreFree : ℕ → List (List ℚ) → Type 0
AreFree n rows = (x : List ℚ) → length x ≡ length rows → combination n x rows ≡ zeros n → All (λ q. q ≡ zero_ℚ) x

-- ---- a solution is found, and it is the only one
zero_at : (rows : List (List ℚ)) (z : List ℚ) → All (λ r. zero_ℚ ≤ℚ dot r z) (with_negatives rows) → (ms : List ℚ) → dot ms (values rows z) ≡ zero_ℚ
zero_at [] z h ms = dot-nil ms
zero_at (a ∷ rows) z h [] = refl
zero_at (a ∷ rows) z h (m ∷ ms) =
    let P : List ℚ → Type 0 = λ r. zero_ℚ ≤ℚ dot r z in
    let rest = All-tail P a (scaled (neg_ℚ one_ℚ) a ∷ with_negatives rows) h in
    let up : zero_ℚ ≤ℚ dot a z = All-head P a (scaled (neg_ℚ one_ℚ) a ∷ with_negatives rows) h in
    let down : zero_ℚ ≤ℚ neg_ℚ (dot a z) = subst (λ (q : ℚ). zero_ℚ ≤ℚ q) (negative_value a z) (All-head P (scaled (neg_ℚ one_ℚ) a) (with_negatives rows) rest) in
    let none : dot a z ≡ zero_ℚ = le_antisymm (dot a z) zero_ℚ (at_most (dot a z) down) up in
    ap₂ (λ s t. s +ℚ t) (ap (λ q. m *ℚ q) none ∙ mul_zero m) (zero_at rows z (All-tail P (scaled (neg_ℚ one_ℚ) a) (with_negatives rows) rest) ms) ∙ add_zero zero_ℚ
  where
    at_most : (q : ℚ) → zero_ℚ ≤ℚ neg_ℚ q → q ≤ℚ zero_ℚ
    at_most q h = le_of_difference q zero_ℚ (neg_ℚ q) h (add_neg q)

-- two lists of multipliers whose difference is 0 are one
pub same_of_difference : (u v : List ℚ) → length u ≡ length v → All (λ q. q ≡ zero_ℚ) (plus u (scaled (neg_ℚ one_ℚ) v)) → u ≡ v
same_of_difference [] [] l h = refl
same_of_difference [] (y ∷ v) l h = absurd (omega arith)
same_of_difference (x ∷ u) [] l h = absurd (omega arith)
same_of_difference (x ∷ u) (y ∷ v) l h =
    let P : ℚ → Type 0 = λ q. q ≡ zero_ℚ in
    let lengths : length u ≡ length v = omega arith in
    let head : x +ℚ neg_ℚ one_ℚ *ℚ y ≡ zero_ℚ = All-head P (x +ℚ neg_ℚ one_ℚ *ℚ y) (plus u (scaled (neg_ℚ one_ℚ) v)) h in
    ap₂ (λ a b. a ∷ b) (equal x y head) (same_of_difference u v lengths (All-tail P (x +ℚ neg_ℚ one_ℚ *ℚ y) (plus u (scaled (neg_ℚ one_ℚ) v)) h))
  where
    equal : (x y : ℚ) → x +ℚ neg_ℚ one_ℚ *ℚ y ≡ zero_ℚ → x ≡ y
    equal x y e = add_cancel x y (neg_ℚ y) (ap (λ q. x +ℚ q) (sym (ap neg_ℚ (one_mul y)) ∙ sym (neg_mul one_ℚ y)) ∙ e ∙ sym (add_neg y))

-- the combination with the differences of two lists of multipliers that combine the rows to one vector is 0
difference_combines : (n : ℕ) (rows : List (List ℚ)) (u v : List ℚ) → AreWide n rows → combination n u rows ≡ combination n v rows →
    combination n (plus u (scaled (neg_ℚ one_ℚ) v)) rows ≡ zeros n
difference_combines n rows u v w e =
    same_wide n (combination n (plus u (scaled (neg_ℚ one_ℚ) v)) rows) (zeros n) (length-combination n (plus u (scaled (neg_ℚ one_ℚ) v)) rows w) (length-zeros n)
    (λ r. dot_comm r (combination n (plus u (scaled (neg_ℚ one_ℚ) v)) rows)
    ∙ dot-combination_left n (plus u (scaled (neg_ℚ one_ℚ) v)) rows r
    ∙ dot-plus_left u (scaled (neg_ℚ one_ℚ) v) (values rows r)
    ∙ ap₂ (λ s t. s +ℚ t) (sym (dot-combination_left n u rows r) ∙ ap (λ c. dot c r) e) (negative_value v (values rows r) ∙ ap neg_ℚ (sym (dot-combination_left n v rows r)))
    ∙ add_neg (dot (combination n v rows) r)
    ∙ sym (dot-zeros r n))

-- where the case of a separation applies, no multipliers combine the rows to t
none_combine : (n : ℕ) (rows : List (List ℚ)) (t y : List ℚ) → IsSeparated n (with_negatives rows) t → combination n y rows ≡ t → ⊥
none_combine n rows t y s combines =
    let none : dot t s.vector ≡ zero_ℚ =
    sym (ap (λ c. dot c s.vector) combines) ∙ dot-combination_left n y rows s.vector ∙ zero_at rows s.vector s.in_cone.within y in
    lt_irrefl zero_ℚ (subst (λ (q : ℚ). q <ℚ zero_ℚ) none s.below)

-- whether some multipliers combine the rows to t is decided
pub solves : (n : ℕ) (rows : List (List ℚ)) (t : List ℚ) → AreWide n rows → length t ≡ n →
    ((y : List ℚ) × (length y ≡ length rows) × (combination n y rows ≡ t)) ⊎ ((y : List ℚ) → combination n y rows ≡ t → ⊥)
solves n rows t w l =
    elim (found n rows t w l) [
      | inl g ↦ inl (differences rows g.multipliers, length-differences rows g.multipliers, sym (differences_combine n rows g.multipliers w) ∙ sym g.combined)
      | inr s ↦ inr (λ y e. none_combine n rows t y s e)
    ]

-- multipliers that combine free rows to t are those that are found
pub solve_finds : (n : ℕ) (rows : List (List ℚ)) (t y : List ℚ) (w : AreWide n rows) (l : length t ≡ n) →
    length y ≡ length rows → combination n y rows ≡ t → AreFree n rows → solve n rows t w l ≡ Some y
solve_finds n rows t y w l long combines free = go (found n rows t w l)
  where
    go : (f : IsGenerated n (with_negatives rows) t ⊎ IsSeparated n (with_negatives rows) t) → multipliers_found n rows t f ≡ Some y
    go (inl g) =
        let x : List ℚ = differences rows g.multipliers in
        let same : combination n x rows ≡ combination n y rows = sym (differences_combine n rows g.multipliers w) ∙ sym g.combined ∙ sym combines in
        let lengths : length (plus x (scaled (neg_ℚ one_ℚ) y)) ≡ length rows =
        length-plus (length rows) x (scaled (neg_ℚ one_ℚ) y) (length-differences rows g.multipliers) (length-scaled (neg_ℚ one_ℚ) y ∙ long) in
        ap Some (same_of_difference x y (length-differences rows g.multipliers ∙ sym long)
        (free (plus x (scaled (neg_ℚ one_ℚ) y)) lengths (difference_combines n rows x y w same)))
    go (inr s) =
        absurd (none_combine n rows t y s combines)
