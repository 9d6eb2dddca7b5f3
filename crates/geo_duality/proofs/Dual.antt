-- The coupling and the exchange: products of vectors without their last entries, and of rows with dual vectors.
use Rattle.std.proofs.Common.{◌≡◌, ℕ, suc, ◌+◌, ◌-◌, ◌<◌, ◌≤◌, List, [], ◌∷◌, ◌++◌, length, take, drop, Bool, true, false, cond, refl, sym, ap, ap₂, ◌∙◌, subst, arith, length-append, slice_index_or, append_assoc, map, Result, Ok, Err}
use Rattle.std.proofs.Math.Seq.{take-append_seam}
use Rattle.exact_field.specs.Rational.{ℚ, zero_ℚ, one_ℚ, neg_ℚ, ◌+ℚ◌, ◌-ℚ◌, ◌*ℚ◌}
use Rattle.exact_field.specs.Ring.{num, v0, v1, v2, v3, v4, v5, ◌⊕◌, ◌⊗◌, ◌⊝◌, ⊖}
use Rattle.std.specs.Prelude.{pos, IfErr, IfOk, MatchResult, OnOk}
use Rattle.std.specs.List.{take-map}
use Rattle.std.proofs.lemmas.List.{get_or-map, length-map, length-take-le, map-append, get_or-take}
use Rattle.lin_rows.specs.Sums.{AreHeld}
use Rattle.exact_field.specs.Vector.{dot, entry, front, last}
use Rattle.exact_field.proofs.RingTool.{ring}
use Rattle.exact_field.proofs.Rationals.{rationals}
use Rattle.exact_field.proofs.Sums.{dot-append}
use Rattle.polyhedra.specs.Exactness.{homogenised}
use Rattle.polyhedra.proofs.Homogenised.{IsHomogenised, unhomogenised, dot-homogenised}
use Rattle.polyhedra.proofs.Linear.{dot_comm}
use Rattle.geo_duality.specs.Coupling.{inequality_of, joined, slack}
use Rattle.polyhedra.specs.Vectors.{scaled}
use Rattle.polyhedra.proofs.Lists.{drop_value}
use Rattle.tableaux.specs.Table.{minus}
use Rattle.geo_duality.specs.Exchange.{difference_steps, dual_vector, entry_steps}
use Rattle.geo_duality.specs.Rows.{exchange_row}

-- ---- a vector and its last entry
pub front-homogenised : (xs : List ℚ) (x : ℚ) → front (homogenised xs x) ≡ xs
front-homogenised xs x = ap (λ n. take n (xs ++ x ∷ [])) (let e : length (xs ++ x ∷ []) - 1 ≡ length xs = omega (arith, length-append xs (x ∷ [])) in e) ∙ take-append_seam xs (x ∷ [])

pub last-homogenised : (xs : List ℚ) (x : ℚ) → last (homogenised xs x) ≡ x
last-homogenised xs x = ap (λ n. entry (xs ++ x ∷ []) n) (let e : length (xs ++ x ∷ []) ≡ suc (length xs) = omega (arith, length-append xs (x ∷ [])) in e) ∙ seam xs
  where
    seam : (ys : List ℚ) → entry (ys ++ x ∷ []) (suc (length ys)) ≡ x
    seam ys = ap (λ i. slice_index_or (ys ++ x ∷ []) i zero_ℚ) (let e : suc (length ys) - 1 ≡ length ys = omega arith in e) ∙ at ys
      where
        at : (zs : List ℚ) → slice_index_or (zs ++ x ∷ []) (length zs) zero_ℚ ≡ x
        at [] = refl
        at (z ∷ zs) = at zs

-- a vector that is not empty is its front with its last entry
pub front_and_last : (v : List ℚ) → 1 ≤ length v → v ≡ homogenised (front v) (last v)
front_and_last v h =
    let u : IsHomogenised (length v - 1) v = unhomogenised (length v - 1) v (omega arith) in
    u.same ∙ sym (ap₂ homogenised (ap front u.same ∙ front-homogenised u.front u.last) (ap last u.same ∙ last-homogenised u.front u.last))

pub length-front : (v : List ℚ) → 1 ≤ length v → length (front v) ≡ length v - 1
length-front v h =
    let u : IsHomogenised (length v - 1) v = unhomogenised (length v - 1) v (omega arith) in
    ap length (ap front u.same ∙ front-homogenised u.front u.last) ∙ u.wide

-- ---- the coupling is the slack
pub coupling_is : (y star c : List ℚ) → 1 ≤ length y → length star ≡ length y →
    joined (dot (front y) (front star)) (dot (front c) (front star)) (last y) (last star) ≡ slack (inequality_of star c) y
coupling_is y star c some same =
    ap (λ a. a -ℚ last star) (ap₂ (λ a b. a +ℚ b) (dot_comm (front y) (front star))
    (ring rationals (last y ∷ one_ℚ ∷ dot (front c) (front star) ∷ []) (v0 ⊗ (v1 ⊝ v2)) ((v1 ⊕ ⊖ v2) ⊗ v0) refl)
    ∙ sym (dot-homogenised (front star) (front y) (one_ℚ +ℚ neg_ℚ (dot (front c) (front star))) (last y)
    (length-front star (let e : 1 ≤ length star = omega arith in e) ∙ ap (λ n. n - 1) same ∙ sym (length-front y some)))
    ∙ ap (dot (inequality_of star c).normal) (sym (front_and_last y some)))

-- ---- the row over a dual vector
-- the entries of the row but the last two, one after the other
abbrev pub differences : ℚ → List ℚ → List ℚ → List ℚ
differences k [] cs = []
differences k (y ∷ ys) [] = []
differences k (y ∷ ys) (c ∷ cs) = (y -ℚ k *ℚ c) ∷ differences k ys cs

differences_are : (k : ℚ) (ys cs : List ℚ) → length ys ≡ length cs → differences k ys cs ≡ minus ys (scaled k cs)
differences_are k [] cs l = refl
differences_are k (y ∷ ys) [] l = absurd (omega arith)
differences_are k (y ∷ ys) (c ∷ cs) l = ap (λ (v : List ℚ). (y -ℚ k *ℚ c) ∷ v) (differences_are k ys cs (omega arith))

pub row_is : (y c : List ℚ) (t : Bool) → length c ≡ length y →
    differences (last y) (front y) (front c) ++ cond t (neg_ℚ one_ℚ) zero_ℚ ∷ last y ∷ [] ≡ exchange_row c y t
row_is y c t same =
    ap (λ (v : List ℚ). v ++ cond t (neg_ℚ one_ℚ) zero_ℚ ∷ last y ∷ [])
    (differences_are (last y) (front y) (front c)
    (length-take-le (length y - 1) y (omega arith) ∙ ap (λ (n : ℕ). n - 1) (sym same) ∙ sym (length-take-le (length c - 1) c (omega arith))))

dot-differences : (k : ℚ) (ys cs ws : List ℚ) → length cs ≡ length ys → dot (differences k ys cs) ws ≡ dot ys ws -ℚ k *ℚ dot cs ws
dot-differences k [] [] ws h = ring rationals (k ∷ []) (num (pos 0)) (num (pos 0) ⊝ v0 ⊗ num (pos 0)) refl
dot-differences k [] (c ∷ cs) ws h = absurd (omega arith)
dot-differences k (y ∷ ys) [] ws h = absurd (omega arith)
dot-differences k (y ∷ ys) (c ∷ cs) [] h = ring rationals (k ∷ []) (num (pos 0)) (num (pos 0) ⊝ v0 ⊗ num (pos 0)) refl
dot-differences k (y ∷ ys) (c ∷ cs) (w ∷ ws) h =
    ap (λ a. (y -ℚ k *ℚ c) *ℚ w +ℚ a) (dot-differences k ys cs ws (omega arith))
    ∙ ring rationals (y ∷ k ∷ c ∷ w ∷ dot ys ws ∷ dot cs ws ∷ []) ((v0 ⊝ v1 ⊗ v2) ⊗ v3 ⊕ (v4 ⊝ v1 ⊗ v5)) (v0 ⊗ v3 ⊕ v4 ⊝ v1 ⊗ (v2 ⊗ v3 ⊕ v5)) refl

length-differences : (k : ℚ) (ys cs : List ℚ) → length cs ≡ length ys → length (differences k ys cs) ≡ length ys
length-differences k [] cs h = refl
length-differences k (y ∷ ys) [] h = absurd (omega arith)
length-differences k (y ∷ ys) (c ∷ cs) h = ap suc (length-differences k ys cs (omega arith))

pub exchanged_is : (y c : List ℚ) (t : Bool) (normal : List ℚ) (bound : ℚ) → 1 ≤ length y → length c ≡ length y → entry c (length c) ≡ one_ℚ → length normal ≡ length y →
    dot (exchange_row c y t) (dual_vector normal bound c) ≡ dot normal y -ℚ cond t bound zero_ℚ
exchanged_is y c t normal bound some same one wide =
    ap (λ (r : List ℚ). dot r (dual_vector normal bound c)) (sym (row_is y c t same))
    ∙ dot-append (differences (last y) (front y) (front c)) (front normal) (cond t (neg_ℚ one_ℚ) zero_ℚ ∷ last y ∷ []) (bound ∷ dot normal c ∷ [])
    (length-differences (last y) (front y) (front c) (long c same ∙ sym (long y refl)) ∙ long y refl ∙ sym (long normal wide))
    ∙ ap₂ (λ a b. a +ℚ (cond t (neg_ℚ one_ℚ) zero_ℚ *ℚ bound +ℚ (last y *ℚ b +ℚ zero_ℚ)))
    (dot-differences (last y) (front y) (front c) (front normal) (long c same ∙ sym (long y refl))) over_c
    ∙ go t
    ∙ ap (λ a. a -ℚ cond t bound zero_ℚ) (sym over_y)
  where
    long : (v : List ℚ) → length v ≡ length y → length (front v) ≡ length y - 1
    long v e = length-front v (let h : 1 ≤ length v = omega arith in h) ∙ ap (λ n. n - 1) e

    over_c : dot normal c ≡ dot (front c) (front normal) +ℚ last normal *ℚ one_ℚ
    over_c = ap₂ dot (front_and_last normal (omega arith)) (front_and_last c (omega arith) ∙ ap (homogenised (front c)) one)
        ∙ dot-homogenised (front normal) (front c) (last normal) one_ℚ (long normal wide ∙ sym (long c same))
        ∙ ap (λ a. a +ℚ last normal *ℚ one_ℚ) (dot_comm (front normal) (front c))

    over_y : dot normal y ≡ dot (front y) (front normal) +ℚ last normal *ℚ last y
    over_y = ap₂ dot (front_and_last normal (omega arith)) (front_and_last y some)
        ∙ dot-homogenised (front normal) (front y) (last normal) (last y) (long normal wide ∙ sym (long y refl))
        ∙ ap (λ a. a +ℚ last normal *ℚ last y) (dot_comm (front normal) (front y))

    go : (b : Bool) → dot (front y) (front normal) -ℚ last y *ℚ dot (front c) (front normal)
        +ℚ (cond b (neg_ℚ one_ℚ) zero_ℚ *ℚ bound +ℚ (last y *ℚ (dot (front c) (front normal) +ℚ last normal *ℚ one_ℚ) +ℚ zero_ℚ))
        ≡ dot (front y) (front normal) +ℚ last normal *ℚ last y -ℚ cond b bound zero_ℚ
    go true = ring rationals (dot (front y) (front normal) ∷ dot (front c) (front normal) ∷ last y ∷ last normal ∷ bound ∷ [])
        ((v0 ⊝ v2 ⊗ v1) ⊕ (⊖ (num (pos 1)) ⊗ v4 ⊕ (v2 ⊗ (v1 ⊕ v3 ⊗ num (pos 1)) ⊕ num (pos 0)))) (v0 ⊕ v3 ⊗ v2 ⊝ v4) refl
    go false = ring rationals (dot (front y) (front normal) ∷ dot (front c) (front normal) ∷ last y ∷ last normal ∷ bound ∷ [])
        ((v0 ⊝ v2 ⊗ v1) ⊕ (num (pos 0) ⊗ v4 ⊕ (v2 ⊗ (v1 ⊕ v3 ⊗ num (pos 1)) ⊕ num (pos 0)))) (v0 ⊕ v3 ⊗ v2 ⊝ num (pos 0)) refl

-- ---- lists of numbers that stand for such vectors
module _ {F : Type 0} (value : F → ℚ) where
  pub mapped_front : (xs : List F) (n : ℕ) → n ≡ length xs - 1 → map value (take n xs) ≡ front (map value xs)
  mapped_front xs n e = sym (take-map value n xs) ∙ ap (λ k. take k (map value xs)) (e ∙ ap (λ k. k - 1) (sym (length-map xs value)))

  pub mapped_last : (xs : List F) (n : ℕ) (x : F) → n < length xs → n ≡ length xs - 1 → x ≡ slice_index_or xs n x → value x ≡ last (map value xs)
  mapped_last xs n x l e is = ap value is ∙ sym (get_or-map value xs n x zero_ℚ l)
      ∙ ap (λ k. slice_index_or (map value xs) k zero_ℚ) (e ∙ ap (λ k. k - 1) (sym (length-map xs value)))

  -- the row from its entries but the last two, and these
  pub row_done : (row two three : List F) (h l : F) (front_row : List ℚ) (s k : ℚ) → two ≡ row ++ h ∷ [] → three ≡ two ++ l ∷ [] → map value row ≡ front_row →
      value h ≡ s → value l ≡ k → map value three ≡ front_row ++ s ∷ k ∷ []
  row_done row two three h l front_row s k e f r a b =
      ap (map value) (f ∙ ap (λ xs. xs ++ l ∷ []) e ∙ append_assoc row (h ∷ []) (l ∷ []))
      ∙ map-append value row (h ∷ l ∷ []) ∙ (λ i. r i ++ a i ∷ b i ∷ [])

-- ---- an exchange, one entry at a time
-- all entries but the last, from place i on
pub front_from : {F : Type 0} (value : F → ℚ) (xs : List F) (i : ℕ) (x : F) → i < length xs - 1 → x ≡ slice_index_or xs i x →
    drop i (front (map value xs)) ≡ value x ∷ drop (i + 1) (front (map value xs))
front_from value xs i x l e =
    let n : ℕ = length xs - 1 in
    ap (drop i) (sym (mapped_front value xs n refl))
    ∙ drop_value value (take n xs) i x (let m : length (take n xs) ≡ n = length-take-le n xs (omega arith) in omega arith) (e ∙ sym (get_or-take n xs i x l))
    ∙ ap (λ f. value x ∷ drop (i + 1) f) (mapped_front value xs n refl)

pub difference_at : (k k' y c : ℚ) (ys cs ys' cs' : List ℚ) → k' ≡ k → ys ≡ y ∷ ys' → cs ≡ c ∷ cs' →
    (y -ℚ k' *ℚ c) ∷ differences k ys' cs' ≡ differences k ys cs
difference_at k k' y c ys cs ys' cs' e f g = ap (λ a. (y -ℚ a *ℚ c) ∷ differences k ys' cs') e ∙ sym (ap₂ (differences k) f g)

pub steps_at : (k k' y c : ℚ) (ys cs ys' cs' : List ℚ) → k' ≡ k → ys ≡ y ∷ ys' → cs ≡ c ∷ cs' →
    difference_steps k ys cs ≡ entry_steps k' y c ++ difference_steps k ys' cs'
steps_at k k' y c ys cs ys' cs' e f g = ap₂ (difference_steps k) f g ∙ ap (λ a. entry_steps a y c ++ difference_steps k ys' cs') (sym e)

-- each step of a product of two lists is held, as of their numbers
pub product_held : {F : Type 0} (value : F → ℚ) (holds : ℚ → Bool) (xs ys : List F) (n : ℕ) (a b : List ℚ) → 1 ≤ length xs → n ≡ length xs - 1 →
    map value (take n xs) ≡ a → map value (take n ys) ≡ b → AreHeld holds (map value (take n xs)) (map value (take n ys)) (length (take n xs)) →
    AreHeld holds a b (length (map value xs) - 1)
product_held value holds xs ys n a b some e f g h =
    subst (λ (p : List ℚ × (List ℚ × ℕ)). AreHeld holds p.0 p.1.0 p.1.1) (λ i. (f i, (g i, many i))) h
  where
    many : length (take n xs) ≡ length (map value xs) - 1
    many = let l : length (take n xs) ≡ n = length-take-le n xs (omega arith) in let m : length (map value xs) ≡ length xs = length-map xs value in omega arith

-- ---- a result, case by case
pub when_ok : {T E : Type 0} (r : Result T E) (P : T → Type 0) (Q : E → Type 0) (R : T → Type 0) → MatchResult r P Q → ((x : T) → P x → R x) → IfOk r R
when_ok (Ok x) P Q R h f = f x h
when_ok (Err e) P Q R h f = tt

pub when_done : {T E : Type 0} (r : Result T E) (P : T → Type 0) (Q : E → Type 0) (R : Type 0) → MatchResult r P Q → ((x : T) → P x → R) → OnOk r R
when_done (Ok x) P Q R h f = f x h
when_done (Err e) P Q R h f = tt

pub when_err : {T E : Type 0} (r : Result T E) (P : T → Type 0) (Q : E → Type 0) (R : E → Type 0) → MatchResult r P Q → ((e : E) → Q e → R e) → IfErr r R
when_err (Ok x) P Q R h f = tt
when_err (Err e) P Q R h f = f e h
