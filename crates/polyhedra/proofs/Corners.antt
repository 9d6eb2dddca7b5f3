-- Rows that are positive at one of as many vectors each: they determine every vector, and the vectors describe their cone.
use Rattle.std.proofs.Common.{◌≡◌, ◌≢◌, ℕ, zero, suc, List, [], ◌∷◌, length, All, AllPairs, Contains, refl, sym, ap, ap₂, ◌∙◌, subst, arith, ◌⊎◌, inl, inr, ◌<◌, slice_index_or}
use Rattle.std.proofs.lemmas.List.Elements.{All-nil, All-cons, All-head, All-tail, All-weaker}
use Rattle.exact_field.specs.Rational.{ℚ, zero_ℚ, one_ℚ, ◌+ℚ◌, ◌*ℚ◌, neg_ℚ, inverse_ℚ, ◌<ℚ◌}
use Rattle.exact_field.specs.Vector.{dot}
use Rattle.polyhedra.specs.Vectors.{zeros, values, combination, AtLeastZero}
use Rattle.polyhedra.specs.Cone.{IsGenerated, IsInCone}
use Rattle.polyhedra.specs.TightSets.{IsTight, AreApart}
use Rattle.polyhedra.specs.Dependence.{AreDependent, AreCorners, CornersDetermine, Start}
use Rattle.polyhedra.proofs.Laws.{add_zero, add_neg, mul_comm, le_of_lt, mul_nonneg}
use Rattle.polyhedra.proofs.Algebra.{zero_add, zero_mul, mul_zero, one_mul}
use Rattle.polyhedra.proofs.Order.{le_of_eq, not_zero_of_positive, inverse_positive, mul_inverse_cancel, product_zero}
use Rattle.polyhedra.proofs.Linear.{dot_comm, dot-plus, dot-scaled, dot-zeros, dot-combination, length-plus, length-scaled, length-zeros, same_wide}
use Rattle.polyhedra.proofs.Lists.{HoldsAt, HasWidth, wide-cons, nonneg-nil, nonneg-cons}
use Rattle.polyhedra.proofs.Members.{all_of_members, member_of, pairs-nil, pairs-cons}
use Rattle.polyhedra.proofs.LeastQuotient.{less, less_value, less_width}
use Rattle.polyhedra.proofs.Generated.{generated_by_values}
use Rattle.polyhedra.proofs.Dependence.{more_are_dependent, dependent_value}

-- the same by recursion: the first row is positive at the first vector and 0 at the others, at which that vector's other rows are 0
pub record IsCorner (row : List ℚ) (vector : List ℚ) (rows vectors : List (List ℚ)) : Type 0 where
  pub positive : zero_ℚ <ℚ dot row vector
  pub row_zero : All (λ v. dot row v ≡ zero_ℚ) vectors
  pub vector_zero : All (λ r. IsTight r vector) rows

abbrev pub Corners : List (List ℚ) → List (List ℚ) → Type 0
Corners [] [] = Unit {0}
Corners [] (v ∷ vectors) = ⊥
Corners (r ∷ rows) [] = ⊥
Corners (r ∷ rows) (v ∷ vectors) = IsCorner r v rows vectors × Corners rows vectors

-- ---- from places
same_place : {X : Type 0} (xs : List X) (k : ℕ) (d e : X) → k < length xs → slice_index_or xs k d ≡ slice_index_or xs k e
same_place [] k d e h = absurd (omega arith)
same_place (x ∷ xs) zero d e h = refl
same_place (x ∷ xs) (suc k) d e h = same_place xs k d e (omega arith)

corners_from_places : (n : ℕ) (rows vectors : List (List ℚ)) → length rows ≡ n → length vectors ≡ n →
    ((i : ℕ) → i < n → zero_ℚ <ℚ dot (slice_index_or rows i []) (slice_index_or vectors i [])) →
    ((i j : ℕ) → i < n → j < n → i ≢ j → dot (slice_index_or rows i []) (slice_index_or vectors j []) ≡ zero_ℚ) → Corners rows vectors
corners_from_places n [] [] h k p z = tt
corners_from_places n [] (v ∷ vectors) h k p z = absurd (omega arith)
corners_from_places n (r ∷ rows) [] h k p z = absurd (omega arith)
corners_from_places zero (r ∷ rows) (v ∷ vectors) h k p z = absurd (omega arith)
corners_from_places (suc n) (r ∷ rows) (v ∷ vectors) h k p z = (
  record {
    positive = p 0 (omega arith);
    row_zero = λ j d l. subst (λ (w : List ℚ). dot r w ≡ zero_ℚ) (same_place vectors j [] d l) (z 0 (suc j) (omega arith) (omega arith) (omega arith));
    vector_zero = λ i d l. subst (λ (w : List ℚ). dot w v ≡ zero_ℚ) (same_place rows i [] d l) (z (suc i) 0 (omega arith) (omega arith) (omega arith));
  },
  corners_from_places n rows vectors (omega arith) (omega arith) (λ i l. p (suc i) (omega arith))
      (λ i j l m o. z (suc i) (suc j) (omega arith) (omega arith) (omega arith)),
)

pub corners : (n : ℕ) (rows vectors : List (List ℚ)) → AreCorners n rows vectors → Corners rows vectors
corners n rows vectors c = corners_from_places n rows vectors c.rows_many c.vectors_many c.positive c.zero_elsewhere

-- ---- a row's value at a combination of the vectors
values_zero : (vs : List (List ℚ)) (ms r : List ℚ) → All (λ v. dot r v ≡ zero_ℚ) vs → dot ms (values vs r) ≡ zero_ℚ
values_zero [] ms r h = Rattle.polyhedra.proofs.Linear.dot-nil ms
values_zero (v ∷ vs) [] r h = refl
values_zero (v ∷ vs) (m ∷ ms) r h = ap₂ (λ a b. m *ℚ a +ℚ b) (dot_comm v r ∙ All-head (λ w. dot r w ≡ zero_ℚ) v vs h)
    (values_zero vs ms r (All-tail (λ w. dot r w ≡ zero_ℚ) v vs h))
    ∙ ap (λ x. x +ℚ zero_ℚ) (mul_zero m) ∙ add_zero zero_ℚ

-- of the first row only the first multiplier counts, and it counts for no other row
first_value : (r v : List ℚ) (rows vectors : List (List ℚ)) (m : ℚ) (ms : List ℚ) → IsCorner r v rows vectors → dot (m ∷ ms)
    (values (v ∷ vectors) r) ≡ m *ℚ dot r v
first_value r v rows vectors m ms c = ap₂ (λ a b. m *ℚ a +ℚ b) (dot_comm v r) (values_zero vectors ms r c.row_zero) ∙ add_zero (m *ℚ dot r v)

other_value : (r v : List ℚ) (rows vectors : List (List ℚ)) (m : ℚ) (ms s : List ℚ) → IsCorner r v rows vectors → Contains rows s → dot (m ∷ ms)
    (values (v ∷ vectors) s) ≡ dot ms (values vectors s)
other_value r v rows vectors m ms s c k =
    ap (λ a. m *ℚ a +ℚ dot ms (values vectors s)) (dot_comm v s ∙ member_of (λ w. IsTight w v) rows s c.vector_zero k)
    ∙ ap (λ x. x +ℚ dot ms (values vectors s)) (mul_zero m) ∙ zero_add (dot ms (values vectors s))

-- where each row is 0 at a combination, each multiplier is 0
all_zero : (rows vectors : List (List ℚ)) (ms : List ℚ) → Corners rows vectors → length ms ≡ length vectors → All
    (λ r. dot ms (values vectors r) ≡ zero_ℚ) rows → All (λ m. m ≡ zero_ℚ) ms
all_zero rows vectors [] c l h = All-nil (λ m. m ≡ zero_ℚ)
all_zero [] [] (m ∷ ms) c l h = absurd (omega arith)
all_zero [] (v ∷ vectors) (m ∷ ms) c l h = absurd c
all_zero (r ∷ rows) [] (m ∷ ms) c l h = absurd c
all_zero (r ∷ rows) (v ∷ vectors) (m ∷ ms) c l h =
    let Balanced : List ℚ → Type 0 = λ s. dot (m ∷ ms) (values (v ∷ vectors) s) ≡ zero_ℚ in
    All-cons (λ x. x ≡ zero_ℚ) m ms
    (product_zero (dot r v) m c.0.positive (mul_comm (dot r v) m ∙ sym (first_value r v rows vectors m ms c.0) ∙ All-head Balanced r rows h))
    (all_zero rows vectors ms c.1 (omega arith)
    (all_of_members (λ s. dot ms (values vectors s) ≡ zero_ℚ) rows (λ s k. sym (other_value r v rows vectors m ms s c.0 k)
    ∙ member_of Balanced rows s (All-tail Balanced r rows h) k)))

-- ---- every row 0
zero_from_dependence : (n : ℕ) (rows vectors : List (List ℚ)) (z : List ℚ) → Corners rows vectors → length z ≡ n → All (λ r. dot r z ≡ zero_ℚ) rows →
    AreDependent n (z ∷ vectors) → z ≡ zeros n
zero_from_dependence n rows vectors z c width h d = go d.multipliers d.one_each d.not_all_zero (dependent_value n (z ∷ vectors) d)
  where
    go : (ms : List ℚ) → length ms ≡ length (z ∷ vectors) → (All (λ m. m ≡ zero_ℚ) ms → ⊥) → ((r : List ℚ) → dot ms (values (z ∷ vectors) r) ≡ zero_ℚ) →
        z ≡ zeros n
    go [] l other e = absurd (omega arith)
    go (m ∷ ms) l other e = finish (Rattle.exact_field.proofs.Rationals.same_or_not m zero_ℚ)
      where
        rest_zero : All (λ x. x ≡ zero_ℚ) ms
        rest_zero = all_zero rows vectors ms c (omega arith) (all_of_members (λ r. dot ms (values vectors r) ≡ zero_ℚ) rows (λ r k.
            sym (ap (λ x. m *ℚ x +ℚ dot ms (values vectors r)) (dot_comm z r ∙ member_of (λ w. dot w z ≡ zero_ℚ) rows r h k)
            ∙ ap (λ x. x +ℚ dot ms (values vectors r)) (mul_zero m) ∙ zero_add (dot ms (values vectors r)))
            ∙ e r))

        zero_sum : (xs ys : List ℚ) → All (λ x. x ≡ zero_ℚ) xs → dot xs ys ≡ zero_ℚ
        zero_sum [] ys k = refl
        zero_sum (x ∷ xs) [] k = refl
        zero_sum (x ∷ xs) (y ∷ ys) k = ap₂ (λ a b. a *ℚ y +ℚ b) (All-head (λ q. q ≡ zero_ℚ) x xs k)
            (zero_sum xs ys (All-tail (λ q. q ≡ zero_ℚ) x xs k)) ∙ ap (λ a. a +ℚ zero_ℚ) (zero_mul y) ∙ add_zero zero_ℚ

        value_zero : (m ≡ zero_ℚ → ⊥) → (r : List ℚ) → dot r z ≡ zero_ℚ
        value_zero f r = dot_comm r z
            ∙ Rattle.exact_field.proofs.Rationals.factor_zero (dot z r) m
            (mul_comm (dot z r) m ∙ sym (ap (λ x. m *ℚ dot z r +ℚ x) (zero_sum ms (values vectors r) rest_zero) ∙ add_zero (m *ℚ dot z r)) ∙ e r) f

        finish : (m ≡ zero_ℚ) ⊎ (m ≡ zero_ℚ → ⊥) → z ≡ zeros n
        finish (inl f) = absurd (other (All-cons (λ x. x ≡ zero_ℚ) m ms f rest_zero))
        finish (inr f) = same_wide n z (zeros n) width (length-zeros n) (λ r. value_zero f r ∙ sym (dot-zeros r n))

pub corners_determine : CornersDetermine
corners_determine n rows vectors c z width h =
    zero_from_dependence n rows vectors z (corners n rows vectors c) width h
    (more_are_dependent n (z ∷ vectors) (wide-cons n z vectors width c.vectors_wide) (omega (arith, c.vectors_many)))

-- ---- each member of the cone is a combination
shares : List (List ℚ) → List (List ℚ) → List ℚ → List ℚ
shares [] vectors z = []
shares (r ∷ rows) [] z = []
shares (r ∷ rows) (v ∷ vectors) z = (inverse_ℚ (dot r v) *ℚ dot r z) ∷ shares rows vectors z

length-shares : (rows vectors : List (List ℚ)) (z : List ℚ) → Corners rows vectors → length (shares rows vectors z) ≡ length vectors
unfolding shares
length-shares [] [] z c = refl
length-shares [] (v ∷ vectors) z c = absurd c
length-shares (r ∷ rows) [] z c = absurd c
length-shares (r ∷ rows) (v ∷ vectors) z c = ap suc (length-shares rows vectors z c.1)

shares_nonneg : (rows vectors : List (List ℚ)) (z : List ℚ) → Corners rows vectors → All (HoldsAt z) rows → AtLeastZero (shares rows vectors z)
unfolding shares
shares_nonneg [] vectors z c h = nonneg-nil
shares_nonneg (r ∷ rows) [] z c h = nonneg-nil
shares_nonneg (r ∷ rows) (v ∷ vectors) z c h = nonneg-cons (inverse_ℚ (dot r v) *ℚ dot r z) (shares rows vectors z)
    (mul_nonneg (inverse_ℚ (dot r v)) (dot r z) (le_of_lt zero_ℚ (inverse_ℚ (dot r v)) (inverse_positive (dot r v) c.0.positive))
    (All-head (HoldsAt z) r rows h))
    (shares_nonneg rows vectors z c.1 (All-tail (HoldsAt z) r rows h))

shares_value : (rows vectors : List (List ℚ)) (z : List ℚ) → Corners rows vectors → All (λ r. dot (shares rows vectors z) (values vectors r) ≡ dot r z) rows
unfolding shares
shares_value [] vectors z c = All-nil (λ r. dot [] (values vectors r) ≡ dot r z)
shares_value (r ∷ rows) [] z c = absurd c
shares_value (r ∷ rows) (v ∷ vectors) z c =
    let ms : List ℚ = shares rows vectors z in
    let m : ℚ = inverse_ℚ (dot r v) *ℚ dot r z in
    All-cons (λ s. dot (m ∷ ms) (values (v ∷ vectors) s) ≡ dot s z) r rows
    (first_value r v rows vectors m ms c.0 ∙ mul_comm m (dot r v) ∙ mul_inverse_cancel (dot r v) (dot r z) c.0.positive)
    (all_of_members (λ s. dot (m ∷ ms) (values (v ∷ vectors) s) ≡ dot s z) rows (λ s k.
    other_value r v rows vectors m ms s c.0 k ∙ member_of (λ w. dot ms (values vectors w) ≡ dot w z) rows s (shares_value rows vectors z c.1) k))

corner_generates : (n : ℕ) (rows vectors : List (List ℚ)) → AreCorners n rows vectors → (z : List ℚ) → IsInCone n rows z → IsGenerated n vectors z
corner_generates n rows vectors c z h =
    let k : Corners rows vectors = corners n rows vectors c in
    let ms : List ℚ = shares rows vectors z in
    let w : List ℚ = combination n ms vectors in
    let w_width : length w ≡ n = Rattle.polyhedra.proofs.Linear.length-combination n ms vectors c.vectors_wide in
    let same : z ≡ w =
    same_from_zero z w h.wide w_width
    (corners_determine n rows vectors c (less z one_ℚ w) (less_width n z w one_ℚ h.wide w_width)
    (all_of_members (λ r. dot r (less z one_ℚ w) ≡ zero_ℚ) rows (λ r m.
    less_value z w r one_ℚ ∙ ap (λ x. dot r z +ℚ neg_ℚ x) (one_mul (dot r w) ∙ dot-combination n r ms vectors
    ∙ member_of (λ s. dot ms (values vectors s) ≡ dot s z) rows r (shares_value rows vectors z k) m) ∙ add_neg (dot r z)))) in
    generated_by_values n vectors z ms c.vectors_wide h.wide (length-shares rows vectors z k) (shares_nonneg rows vectors z k h.within)
    (λ r. ap (λ v. dot r v) same ∙ dot-combination n r ms vectors)
  where
    same_from_zero : (y x : List ℚ) → length y ≡ n → length x ≡ n → less y one_ℚ x ≡ zeros n → y ≡ x
    same_from_zero y x a b e = same_wide n y x a b (λ r.
        Rattle.polyhedra.proofs.LeastQuotient.less_back y x r one_ℚ ∙ ap (λ v. dot r v +ℚ one_ℚ *ℚ dot r x) e
        ∙ ap₂ (λ p q. p +ℚ q) (dot-zeros r n) (one_mul (dot r x)) ∙ zero_add (dot r x))

-- ---- the vectors lie in the cone, and no tight set in another's
corner_holds : (rows vectors : List (List ℚ)) → Corners rows vectors → All (λ v. All (HoldsAt v) rows) vectors
corner_holds [] [] c = All-nil (λ v. All (HoldsAt v) [])
corner_holds [] (v ∷ vectors) c = absurd c
corner_holds (r ∷ rows) [] c = absurd c
corner_holds (r ∷ rows) (v ∷ vectors) c =
    All-cons (λ w. All (HoldsAt w) (r ∷ rows)) v vectors
    (All-cons (HoldsAt v) r rows (le_of_lt zero_ℚ (dot r v) c.0.positive)
    (All-weaker (λ s. IsTight s v) (HoldsAt v) (λ s e. le_of_eq zero_ℚ (dot s v) (sym e)) rows c.0.vector_zero))
    (all_of_members (λ w. All (HoldsAt w) (r ∷ rows)) vectors (λ w k.
    All-cons (HoldsAt w) r rows (le_of_eq zero_ℚ (dot r w) (sym (member_of (λ u. dot r u ≡ zero_ℚ) vectors w c.0.row_zero k)))
    (member_of (λ u. All (HoldsAt u) rows) vectors w (corner_holds rows vectors c.1) k)))

-- each vector has a row that is positive at it
corner_somewhere : (rows vectors : List (List ℚ)) → Corners rows vectors → All (λ v. All (λ r. IsTight r v) rows → ⊥) vectors
corner_somewhere [] [] c = All-nil (λ v. All (λ r. IsTight r v) [] → ⊥)
corner_somewhere [] (v ∷ vectors) c = absurd c
corner_somewhere (r ∷ rows) [] c = absurd c
corner_somewhere (r ∷ rows) (v ∷ vectors) c =
    All-cons (λ w. All (λ s. IsTight s w) (r ∷ rows) → ⊥) v vectors
    (λ h. not_zero_of_positive (dot r v) c.0.positive (All-head (λ s. IsTight s v) r rows h))
    (All-weaker (λ w. All (λ s. IsTight s w) rows → ⊥) (λ w. All (λ s. IsTight s w) (r ∷ rows) → ⊥)
    (λ w f h. f (All-tail (λ s. IsTight s w) r rows h)) vectors (corner_somewhere rows vectors c.1))

corner_apart : (rows vectors : List (List ℚ)) → Corners rows vectors → AllPairs (AreApart rows) vectors
corner_apart [] [] c = pairs-nil (AreApart [])
corner_apart [] (v ∷ vectors) c = absurd c
corner_apart (r ∷ rows) [] c = absurd c
corner_apart (r ∷ rows) (v ∷ vectors) c =
    pairs-cons (AreApart (r ∷ rows)) v vectors
    (all_of_members (AreApart (r ∷ rows) v) vectors (λ w k. record {
      first = λ h. member_of (λ u. All (λ s. IsTight s u) rows → ⊥) vectors w (corner_somewhere rows vectors c.1) k
          (all_of_members (λ s. IsTight s w) rows (λ s m. member_of (λ u. IsTight u v → IsTight u w) rows s
          (All-tail (λ u. IsTight u v → IsTight u w) r rows h) m (member_of (λ u. IsTight u v) rows s c.0.vector_zero m)));
      second = λ h. not_zero_of_positive (dot r v) c.0.positive
          (All-head (λ u. IsTight u w → IsTight u v) r rows h (member_of (λ u. dot r u ≡ zero_ℚ) vectors w c.0.row_zero k));
    }))
    (Rattle.polyhedra.proofs.Members.pairs-weaker (AreApart rows) (AreApart (r ∷ rows)) vectors
    (λ a b h k m. record {
      first = λ l. m.first (All-tail (λ u. IsTight u a → IsTight u b) r rows l);
      second = λ l. m.second
          (All-tail (λ u. IsTight u b → IsTight u a) r rows l);
    })
    (corner_apart rows vectors c.1))

pub start : Start
start n rows vectors c =
    let k : Corners rows vectors = corners n rows vectors c in
    record {
      rows_wide = c.rows_wide;
      generators_wide = c.vectors_wide;
      pointed = corners_determine n rows vectors c;
      inside = all_of_members (IsInCone n rows) vectors (λ v m. record {
        wide = member_of
            (HasWidth n) vectors v c.vectors_wide.wide m;
        within = member_of (λ u. All (HoldsAt u) rows) vectors v (corner_holds rows vectors k) m;
      });
      generates = corner_generates n rows vectors c;
      not_zero = all_of_members (λ v. v ≡ zeros n → ⊥) vectors (λ v m e.
          member_of (λ u. All (λ s. IsTight s u) rows → ⊥) vectors v (corner_somewhere rows vectors k) m
          (all_of_members (λ s. IsTight s v) rows (λ s q. ap (λ u. dot s u) e ∙ dot-zeros s n)));
      apart = corner_apart rows vectors k;
    }
