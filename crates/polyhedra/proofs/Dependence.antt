-- More vectors than entries are dependent: one vector with a first entry that is not 0 clears that of the others. So fewer rows
-- than entries are all tight at some vector but 0.
use Rattle.std.proofs.Common.{◌≡◌, ℕ, zero, suc, List, [], ◌∷◌, map, length, All, Contains, refl, sym, ap, ap₂, ◌∙◌, subst, arith, ◌⊎◌, inl, inr, ◌<◌}
use Rattle.std.proofs.lemmas.List.{length-map}
use Rattle.std.proofs.lemmas.List.Elements.{All-nil, All-cons, All-head, All-tail, All-map}
use Rattle.exact_field.specs.Rational.{ℚ, zero_ℚ, one_ℚ, ◌+ℚ◌, ◌*ℚ◌, neg_ℚ, inverse_ℚ}
use Rattle.exact_field.specs.Vector.{dot}
use Rattle.exact_field.proofs.Rationals.{mul-inverse_ℚ, one-not-zero, same_or_not}
use Rattle.polyhedra.specs.Vectors.{AreWide, zeros, plus, scaled, values, combination}
use Rattle.polyhedra.specs.Cone.{IsGenerated}
use Rattle.polyhedra.specs.Dependence.{AreDependent, MoreAreDependent}
use Rattle.polyhedra.proofs.Laws.{add_comm, add_zero, add_neg, mul_comm, mul_assoc, mul_one}
use Rattle.polyhedra.proofs.Algebra.{zero_add, zero_mul, mul_zero, mul_neg, ring_rules}
use Rattle.polyhedra.proofs.Linear.{dot-nil, dot_comm, dot-plus_left, dot-scaled_left, dot-zeros, dot-combination, length-plus, length-scaled, length-zeros, length-combination, same_wide}
use Rattle.polyhedra.proofs.Lists.{wide-cons, wide-head, wide-tail, wide-map, wide-nil, all_from_map}
use Rattle.polyhedra.proofs.Members.{all_or_not, all_of_members, member_of}
use Rattle.polyhedra.proofs.Generated.{generated_generator, generated_value}
use Rattle.polyhedra.proofs.Farkas.{cleared, cleared_width, cleared_sum}

first : List ℚ → ℚ
first [] = zero_ℚ
first (x ∷ v) = x

rest : List ℚ → List ℚ
rest [] = []
rest (x ∷ v) = v

-- a product by the first entries and the rest
split_value : (v r : List ℚ) → dot v r ≡ first v *ℚ first r +ℚ dot (rest v) (rest r)
unfolding first rest
split_value [] [] = sym (ap (λ x. x +ℚ zero_ℚ) (zero_mul zero_ℚ) ∙ add_zero zero_ℚ)
split_value [] (y ∷ r) = sym (ap (λ x. x +ℚ zero_ℚ) (zero_mul y) ∙ add_zero zero_ℚ)
split_value (x ∷ v) [] = sym (ap₂ (λ a b. a +ℚ b) (mul_zero x) (dot-nil v) ∙ add_zero zero_ℚ)
split_value (x ∷ v) (y ∷ r) = refl

first-plus : (u v : List ℚ) → first (plus u v) ≡ first u +ℚ first v
unfolding first
first-plus [] v = sym (zero_add (first v))
first-plus (x ∷ u) [] = sym (add_zero x)
first-plus (x ∷ u) (y ∷ v) = refl

first-scaled : (c : ℚ) (v : List ℚ) → first (scaled c v) ≡ c *ℚ first v
unfolding first
first-scaled c [] = sym (mul_zero c)
first-scaled c (x ∷ v) = refl

length-rest : (n : ℕ) (v : List ℚ) → length v ≡ suc n → length (rest v) ≡ n
unfolding rest
length-rest n [] h = absurd (omega arith)
length-rest n (x ∷ v) h = omega arith

-- a dependence, from the products of its combination
dependent_by_values : (n : ℕ) (vs : List (List ℚ)) (ms : List ℚ) → AreWide n vs → length ms ≡ length vs → (All (λ m. m ≡ zero_ℚ) ms → ⊥) →
    ((r : List ℚ) → dot ms (values vs r) ≡ zero_ℚ) → AreDependent n vs
dependent_by_values n vs ms wide lengths other e = record {
  multipliers = ms;
  one_each = lengths;
  not_all_zero = other;
  balanced = same_wide n (combination n ms vs) (zeros n) (length-combination n ms vs wide) (length-zeros n) (λ r. dot-combination n r ms vs ∙ e r
      ∙ sym (dot-zeros r n));
}

pub dependent_value : (n : ℕ) (vs : List (List ℚ)) (d : AreDependent n vs) (r : List ℚ) → dot d.multipliers (values vs r) ≡ zero_ℚ
dependent_value n vs d r = sym (dot-combination n r d.multipliers vs) ∙ ap (λ v. dot r v) d.balanced ∙ dot-zeros r n

-- ---- every first entry is 0
values_rest : (vs : List (List ℚ)) (r : List ℚ) → All (λ v. first v ≡ zero_ℚ) vs → values vs r ≡ values (map rest vs) (rest r)
values_rest [] r h = refl
values_rest (v ∷ vs) r h = ap₂ (λ a b. a ∷ b)
    (split_value v r ∙ ap (λ x. x *ℚ first r +ℚ dot (rest v) (rest r)) (All-head (λ w. first w ≡ zero_ℚ) v vs h) ∙ ap
    (λ x. x +ℚ dot (rest v) (rest r)) (zero_mul (first r)) ∙ zero_add (dot (rest v) (rest r)))
    (values_rest vs r (All-tail (λ w. first w ≡ zero_ℚ) v vs h))

from_rests : (n : ℕ) (vs : List (List ℚ)) → AreWide (suc n) vs → All (λ v. first v ≡ zero_ℚ) vs → AreDependent n (map rest vs) → AreDependent (suc n) vs
from_rests n vs wide h d = dependent_by_values (suc n) vs d.multipliers wide (d.one_each ∙ length-map vs rest) d.not_all_zero
    (λ r. ap (λ x. dot d.multipliers x) (values_rest vs r h) ∙ dependent_value n (map rest vs) d (rest r))

-- ---- v has a first entry that is not 0
module _ (n : ℕ) (v : List ℚ) (vs : List (List ℚ)) (wide : AreWide (suc n) (v ∷ vs)) (other : first v ≡ zero_ℚ → ⊥) where
  probe : List ℚ
  probe = neg_ℚ (inverse_ℚ (first v)) ∷ []

  at_probe : (u : List ℚ) → dot u probe ≡ first u *ℚ neg_ℚ (inverse_ℚ (first v))
  unfolding probe first rest
  at_probe u = split_value u probe ∙ ap (λ x. first u *ℚ neg_ℚ (inverse_ℚ (first v)) +ℚ x) (dot-nil (rest u)) ∙ add_zero
      (first u *ℚ neg_ℚ (inverse_ℚ (first v)))

  pivot : dot v probe ≡ neg_ℚ one_ℚ
  pivot = at_probe v ∙ mul_neg (first v) (inverse_ℚ (first v)) ∙ ap neg_ℚ (mul-inverse_ℚ (first v) other)

  change : List ℚ → List ℚ
  change u = cleared (suc n) v probe pivot u

  change_first : (u : List ℚ) → first (change u) ≡ zero_ℚ
  unfolding change cleared
  change_first u = first-plus u (scaled (dot u probe) v)
      ∙ ap (λ x. first u +ℚ x) (first-scaled (dot u probe) v ∙ ap (λ x. x *ℚ first v) (at_probe u)
      ∙ mul_assoc (first u) (neg_ℚ (inverse_ℚ (first v))) (first v)
      ∙ ap (λ x. first u *ℚ x) (mul_comm (neg_ℚ (inverse_ℚ (first v))) (first v) ∙ mul_neg (first v) (inverse_ℚ (first v)) ∙ ap neg_ℚ
      (mul-inverse_ℚ (first v) other))
      ∙ mul_neg (first u) one_ℚ ∙ ap neg_ℚ (mul_one (first u)))
      ∙ add_neg (first u)

  changed_wide : AreWide (suc n) (map change vs)
  unfolding change
  changed_wide = wide-map (suc n) change vs (cleared_width (suc n) v probe pivot (wide-head (suc n) v vs wide)) (wide-tail (suc n) v vs wide)

  changed_first : All (λ u. first u ≡ zero_ℚ) (map change vs)
  changed_first = All-map (λ u. first u ≡ zero_ℚ) change vs (all_of_members (λ u. first (change u) ≡ zero_ℚ) vs (λ u c. change_first u))

  from_changed : AreDependent (suc n) (map change vs) → AreDependent (suc n) (v ∷ vs)
  unfolding change
  from_changed d = dependent_by_values (suc n) (v ∷ vs) (dot d.multipliers (values vs probe) ∷ d.multipliers) wide (ap suc (d.one_each ∙ length-map vs change))
      (λ h. d.not_all_zero (All-tail (λ m. m ≡ zero_ℚ) (dot d.multipliers (values vs probe)) d.multipliers h))
      (λ r. add_comm (dot d.multipliers (values vs probe) *ℚ dot v r) (dot d.multipliers (values vs r))
      ∙ sym (cleared_sum (suc n) v probe pivot d.multipliers vs r)
      ∙ dependent_value (suc n) (map change vs) d r)

  by_pivot : ((us : List (List ℚ)) → AreWide n us → length us ≡ length vs → AreDependent n us) → AreDependent (suc n) (v ∷ vs)
  by_pivot again = from_changed (from_rests n (map change vs) changed_wide changed_first
      (again (map rest (map change vs)) (rests_wide (map change vs) changed_wide) (length-map (map change vs) rest ∙ length-map vs change)))
    where
      rests_wide : (us : List (List ℚ)) → AreWide (suc n) us → AreWide n (map rest us)
      rests_wide us h = record {
        wide = All-map (λ u. length u ≡ n) rest us
            (all_of_members (λ u. length (rest u) ≡ n) us (λ u c. length-rest n u (member_of (λ w. length w ≡ suc n) us u h.wide c)));
      }

-- ---- v replaced by its sum with one of the others
from_sum : (n : ℕ) (v u : List ℚ) (vs : List (List ℚ)) → AreWide n (v ∷ vs) → Contains vs u → AreDependent n (plus v u ∷ vs) → AreDependent n (v ∷ vs)
from_sum n v u vs wide c d = go d.multipliers d.one_each d.not_all_zero (dependent_value n (plus v u ∷ vs) d)
  where
    g : IsGenerated n vs u
    g = generated_generator n vs u (wide-tail n v vs wide) c

    shifted : (m : ℚ) (ms : List ℚ) → List ℚ
    shifted m ms = plus ms (scaled m g.multipliers)

    -- all are 0 where the shifted ones are
    unshift : (m : ℚ) (ms es : List ℚ) → m ≡ zero_ℚ → length ms ≡ length es → All (λ x. x ≡ zero_ℚ) (plus ms (scaled m es)) → All (λ x. x ≡ zero_ℚ) ms
    unshift m [] es e l h = All-nil (λ x. x ≡ zero_ℚ)
    unshift m (x ∷ ms) [] e l h = absurd (omega arith)
    unshift m (x ∷ ms) (y ∷ es) e l h = All-cons (λ z. z ≡ zero_ℚ) x ms
        (sym (ap (λ z. x +ℚ z) (ap (λ z. z *ℚ y) e ∙ zero_mul y) ∙ add_zero x) ∙ All-head (λ z. z ≡ zero_ℚ) (x +ℚ m *ℚ y) (plus ms (scaled m es)) h)
        (unshift m ms es e (omega arith) (All-tail (λ z. z ≡ zero_ℚ) (x +ℚ m *ℚ y) (plus ms (scaled m es)) h))

    go : (ms : List ℚ) → length ms ≡ length (plus v u ∷ vs) → (All (λ x. x ≡ zero_ℚ) ms → ⊥) →
        ((r : List ℚ) → dot ms (values (plus v u ∷ vs) r) ≡ zero_ℚ) → AreDependent n (v ∷ vs)
    go [] l other e = absurd (omega arith)
    go (m ∷ ms) l other e =
        let lengths : length ms ≡ length vs = omega arith in
        dependent_by_values n (v ∷ vs) (m ∷ shifted m ms) wide
        (ap suc (length-plus (length vs) ms (scaled m g.multipliers) lengths (length-scaled m g.multipliers ∙ g.one_each)))
        (λ h. let e0 : m ≡ zero_ℚ = All-head (λ x. x ≡ zero_ℚ) m (shifted m ms) h in
        other (All-cons (λ x. x ≡ zero_ℚ) m ms e0 (unshift m ms g.multipliers e0 (lengths ∙ sym g.one_each) (All-tail (λ x. x ≡ zero_ℚ) m (shifted m ms) h))))
        (λ r.
        ap (λ x. m *ℚ dot v r +ℚ x) (dot-plus_left ms (scaled m g.multipliers) (values vs r) ∙ ap (λ x. dot ms (values vs r) +ℚ x)
        (dot-scaled_left m g.multipliers (values vs r) ∙ ap (λ x. m *ℚ x) (sym (generated_value n vs u g r) ∙ dot_comm r u)))
        ∙ regroup m (dot v r) (dot ms (values vs r)) (dot u r)
        ∙ ap (λ x. m *ℚ x +ℚ dot ms (values vs r)) (sym (dot-plus_left v u r))
        ∙ e r)
      where
        regroup : (a b x y : ℚ) → a *ℚ b +ℚ (x +ℚ a *ℚ y) ≡ a *ℚ (b +ℚ y) +ℚ x
        regroup a b x y = simp ring_rules

pub more_are_dependent : MoreAreDependent
more_are_dependent n [] wide l = absurd (omega arith)
more_are_dependent zero (v ∷ vs) wide l = dependent_by_values zero (v ∷ vs) (one_ℚ ∷ zeros (length vs)) wide (ap suc (length-zeros (length vs)))
    (λ h. one-not-zero (All-head (λ m. m ≡ zero_ℚ) one_ℚ (zeros (length vs)) h))
    (λ r. ap₂ (λ a b. one_ℚ *ℚ a +ℚ b) (empty_value v r (wide-head zero v vs wide)) (dot_comm (zeros (length vs)) (values vs r)
    ∙ dot-zeros (values vs r) (length vs)) ∙ ap (λ x. x +ℚ zero_ℚ) (mul_zero one_ℚ) ∙ add_zero zero_ℚ)
  where
    empty_value : (u r : List ℚ) → length u ≡ 0 → dot u r ≡ zero_ℚ
    empty_value [] r h = refl
    empty_value (x ∷ u) r h = absurd (omega arith)
more_are_dependent (suc n) (v ∷ vs) wide l = go (same_or_not (first v) zero_ℚ)
    (all_or_not (λ u. first u ≡ zero_ℚ) (λ u. same_or_not (first u) zero_ℚ) vs) (λ us w k. more_are_dependent n us w k)
  where
    enough : n < length vs
    enough = omega arith

    rests_wide : AreWide n (map rest (v ∷ vs))
    rests_wide = record {
      wide = All-map (λ u. length u ≡ n) rest (v ∷ vs)
          (all_of_members (λ u. length (rest u) ≡ n) (v ∷ vs) (λ u c. length-rest n u (member_of (λ w. length w ≡ suc n) (v ∷ vs) u wide.wide c)));
    }

    pivoted : (w : List ℚ) → AreWide (suc n) (w ∷ vs) → (first w ≡ zero_ℚ → ⊥) →
        ((us : List (List ℚ)) → AreWide n us → n < length us → AreDependent n us) → AreDependent (suc n) (w ∷ vs)
    pivoted w h other again = by_pivot n w vs h other (λ us k m. again us k (omega (arith, m, enough)))

    go : (first v ≡ zero_ℚ) ⊎ (first v ≡ zero_ℚ → ⊥) → All (λ u. first u ≡ zero_ℚ) vs ⊎ ((u : List ℚ) × Contains vs u × (first u ≡ zero_ℚ → ⊥)) →
        ((us : List (List ℚ)) → AreWide n us → n < length us → AreDependent n us) → AreDependent (suc n) (v ∷ vs)
    go (inr other) t again = pivoted v wide other again
    go (inl e) (inl h) again = from_rests n (v ∷ vs) wide (All-cons (λ u. first u ≡ zero_ℚ) v vs e h)
        (again (map rest (v ∷ vs)) rests_wide (omega (arith, length-map (v ∷ vs) rest, l)))
    go (inl e) (inr (u, c, other)) again =
        from_sum (suc n) v u vs wide c
        (pivoted (plus v u) (wide-cons (suc n) (plus v u) vs
        (length-plus (suc n) v u (wide-head (suc n) v vs wide) (member_of (λ w. length w ≡ suc n) vs u (wide-tail (suc n) v vs wide).wide c))
        (wide-tail (suc n) v vs wide))
        (λ k. other (sym (zero_add (first u)) ∙ ap (λ x. x +ℚ first u) (sym e) ∙ sym (first-plus v u) ∙ k)) again)

-- ---- fewer rows than entries
-- the entries of the rows, one list for each of n places
columns : ℕ → List (List ℚ) → List (List ℚ)
columns zero rows = []
columns (suc n) rows = map first rows ∷ columns n (map rest rows)

length-columns : (n : ℕ) (rows : List (List ℚ)) → length (columns n rows) ≡ n
unfolding columns
length-columns zero rows = refl
length-columns (suc n) rows = ap suc (length-columns n (map rest rows))

wide-columns : (n k : ℕ) (rows : List (List ℚ)) → length rows ≡ k → AreWide k (columns n rows)
unfolding columns
wide-columns zero k rows h = wide-nil k
wide-columns (suc n) k rows h = wide-cons k (map first rows) (columns n (map rest rows)) (length-map rows first ∙ h)
    (wide-columns n k (map rest rows) (length-map rows rest ∙ h))

values_empty : (k : ℕ) (rows : List (List ℚ)) → length rows ≡ k → zeros k ≡ values rows []
values_empty zero [] h = refl
values_empty (suc k) [] h = absurd (omega arith)
values_empty zero (r ∷ rows) h = absurd (omega arith)
values_empty (suc k) (r ∷ rows) h = ap₂ (λ a b. a ∷ b) (sym (dot-nil r)) (values_empty k rows (omega arith))

values_split : (m : ℚ) (ms : List ℚ) (rows : List (List ℚ)) → plus (scaled m (map first rows)) (values (map rest rows) ms) ≡ values rows (m ∷ ms)
unfolding first rest
values_split m ms [] = refl
values_split m ms (r ∷ rows) = ap₂ (λ a b. a ∷ b)
    (sym (split_value r (m ∷ ms) ∙ ap (λ x. x +ℚ dot (rest r) ms) (mul_comm (first r) m))) (values_split m ms rows)

-- a combination of the columns has the values of the rows at its multipliers
columns_value : (n k : ℕ) (ms : List ℚ) (rows : List (List ℚ)) → length ms ≡ n → length rows ≡ k → combination k ms (columns n rows) ≡ values rows ms
unfolding columns
columns_value zero k [] rows l h = values_empty k rows h
columns_value (suc n) k [] rows l h = absurd (omega arith)
columns_value zero k (m ∷ ms) rows l h = absurd (omega arith)
columns_value (suc n) k (m ∷ ms) rows l h =
    ap (λ v. plus (scaled m (map first rows)) v) (columns_value n k ms (map rest rows) (omega arith) (length-map rows rest ∙ h))
    ∙ values_split m ms rows

zeros_are : (n : ℕ) → All (λ m. m ≡ zero_ℚ) (zeros n)
zeros_are zero = All-nil (λ m. m ≡ zero_ℚ)
zeros_are (suc n) = All-cons (λ m. m ≡ zero_ℚ) zero_ℚ (zeros n) refl (zeros_are n)

-- a vector of n entries other than 0 at which each row is 0
pub record IsNullVector (n : ℕ) (rows : List (List ℚ)) (w : List ℚ) : Type 0 where
  pub wide : length w ≡ n
  pub other : w ≡ zeros n → ⊥
  pub tight : All (λ r. dot r w ≡ zero_ℚ) rows

pub null_vector : (n : ℕ) (rows : List (List ℚ)) → length rows < n → (w : List ℚ) × IsNullVector n rows w
null_vector n rows l =
    let k : ℕ = length rows in
    let d : AreDependent k (columns n rows) =
    more_are_dependent k (columns n rows) (wide-columns n k rows refl) (omega (arith, l, length-columns n rows)) in
    let width : length d.multipliers ≡ n = d.one_each ∙ length-columns n rows in (
      d.multipliers,
      record {
        wide = width;
        other = λ e. d.not_all_zero (subst (λ (v : List ℚ). All (λ m. m ≡ zero_ℚ) v) (sym e) (zeros_are n));
        tight = all_from_map (λ x. x ≡ zero_ℚ) (λ r. dot r d.multipliers) rows
            (subst (λ (v : List ℚ). All (λ m. m ≡ zero_ℚ) v) (sym d.balanced ∙ columns_value n k d.multipliers rows width refl) (zeros_are k));
      },
    )
