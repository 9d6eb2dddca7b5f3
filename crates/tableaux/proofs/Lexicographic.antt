-- The lexicographic order is strict and transitive, and sums and positive multiples respect it.
use Rattle.std.proofs.Common.{◌≡◌, ℕ, zero, suc, List, [], ◌∷◌, length, refl, sym, ap, ap₂, ◌∙◌, subst, arith, ◌⊎◌, inl, inr, Bool, true, false, true≢false, not, ◌&&◌, ◌||◌}
use Rattle.exact_field.specs.Rational.{ℚ, zero_ℚ, le_ℚ, neg_ℚ, inverse_ℚ, ◌+ℚ◌, ◌*ℚ◌, ◌<ℚ◌}
use Rattle.exact_field.proofs.Inequalities.{add_right-le, mul_right-le, three_cases}
use Rattle.polyhedra.specs.Vectors.{zeros, plus, scaled}
use Rattle.polyhedra.proofs.Laws.{le_refl, le_antisymm, le_of_lt, mul_comm, add_zero, add_neg}
use Rattle.polyhedra.proofs.Algebra.{zero_add, zero_mul, neg_mul, neg_zero}
use Rattle.polyhedra.proofs.Order.{lt_of_le_of_lt, le_of_eq, inverse_positive, neg_positive, le_or_lt, mul_inverse_cancel}
use Rattle.polyhedra.proofs.Linear.{plus_comm, length-plus, length-scaled, length-zeros}
use Rattle.polyhedra.proofs.Entries.{scaled-zeros}
use Rattle.tableaux.specs.Lex.{lex_less, IsLexBelow, IsLexPositive, LexLaws}

-- the first of two vectors' entries that differ decides
parts : (a b r : Bool) → (not a || (not (not b) && r)) ≡ true → (a ≡ false) ⊎ ((a ≡ true) × (b ≡ true) × (r ≡ true))
parts true true r h = inr (refl, refl, h)
parts true false r h = absurd (true≢false (sym h))
parts false b r h = inl refl

less_now : (a b r : Bool) → a ≡ false → (not a || (not (not b) && r)) ≡ true
less_now true b r h = absurd (true≢false h)
less_now false b r h = refl

less_later : (a b r : Bool) → b ≡ true → r ≡ true → (not a || (not (not b) && r)) ≡ true
less_later true true r h k = k
less_later true false r h k = absurd (true≢false (sym h))
less_later false b r h k = refl

lt_of_not_le : (x y : ℚ) → le_ℚ y x ≡ false → x <ℚ y
lt_of_not_le x y h = ap not h

pub not_le_of_lt : (x y : ℚ) → x <ℚ y → le_ℚ y x ≡ false
not_le_of_lt x y h = elim (le_ℚ y x) as (λ (b : Bool). not b ≡ true → b ≡ false) [ true ↦ λ e. absurd (true≢false (sym e)) | false ↦ λ e. refl ] h

pub lex_irrefl : (v : List ℚ) → lex_less v v ≡ false
lex_irrefl [] = refl
lex_irrefl (x ∷ v) = here (le_ℚ x x) (lex_less v v) (le_refl x) (lex_irrefl v)
  where
    here : (a r : Bool) → a ≡ true → r ≡ false → (not a || (not (not a) && r)) ≡ false
    here true r h k = k
    here false r h k = absurd (true≢false (sym h))

pub lex_trans : (u v w : List ℚ) → lex_less u v ≡ true → lex_less v w ≡ true → lex_less u w ≡ true
lex_trans [] v w h k = absurd (true≢false (sym h))
lex_trans (x ∷ u) [] w h k = absurd (true≢false (sym h))
lex_trans (x ∷ u) (y ∷ v) [] h k = absurd (true≢false (sym k))
lex_trans (x ∷ u) (y ∷ v) (z ∷ w) h k =
    elim (parts (le_ℚ y x) (le_ℚ x y) (lex_less u v) h) [
      | inl a ↦ elim (parts (le_ℚ z y) (le_ℚ y z) (lex_less v w) k) [
        | inl b ↦ less_now (le_ℚ z x) (le_ℚ x z) (lex_less u w) (not_le_of_lt x z (lt_of_le_of_lt x y z (le_of_lt x y (lt_of_not_le x y a)) (lt_of_not_le y z b)))
        | inr b ↦ let e : y ≡ z = le_antisymm y z b.1 b.0 in
            less_now (le_ℚ z x) (le_ℚ x z) (lex_less u w) (subst (λ (t : ℚ). le_ℚ t x ≡ false) e a)
      ]
      | inr a ↦ let e : x ≡ y = le_antisymm x y a.1 a.0 in elim (parts (le_ℚ z y) (le_ℚ y z) (lex_less v w) k) [
        | inl b ↦ less_now (le_ℚ z x) (le_ℚ x z) (lex_less u w) (subst (λ (t : ℚ). le_ℚ z t ≡ false) (sym e) b)
        | inr b ↦ less_later (le_ℚ z x) (le_ℚ x z) (lex_less u w) (subst (λ (t : ℚ). le_ℚ t z ≡ true) (sym e) b.1) (lex_trans u v w a.2 b.2)
      ]
    ]

-- of two vectors of one length one stands before the other, or they are one
pub lex_total : (u v : List ℚ) → length u ≡ length v → IsLexBelow u v ⊎ ((u ≡ v) ⊎ IsLexBelow v u)
lex_total [] [] h = inr (inl refl)
lex_total [] (y ∷ v) h = absurd (omega arith)
lex_total (x ∷ u) [] h = absurd (omega arith)
lex_total (x ∷ u) (y ∷ v) h =
    elim (three_cases x y) [
      | inl less ↦ inl (less_now (le_ℚ y x) (le_ℚ x y) (lex_less u v) (not_le_of_lt x y less))
      | inr rest ↦ elim rest [
        | inl e ↦
            let up : le_ℚ x y ≡ true = le_of_eq x y e in
            let down : le_ℚ y x ≡ true = le_of_eq y x (sym e) in
            elim (lex_total u v (omega arith)) [
              | inl less ↦ inl (less_later (le_ℚ y x) (le_ℚ x y) (lex_less u v) up less)
              | inr other ↦ elim other [
                | inl same ↦ inr (inl (ap₂ (λ a b. a ∷ b) e same))
                | inr more ↦ inr (inr (less_later (le_ℚ x y) (le_ℚ y x) (lex_less v u) down more))
              ]
            ]
        | inr more ↦ inr (inr (less_now (le_ℚ x y) (le_ℚ y x) (lex_less v u) (not_le_of_lt y x more)))
      ]
    ]

-- ---- sums and multiples
same_test : (a a' b b' r r' : Bool) → a' ≡ a → b' ≡ b → r' ≡ r → (not a' || (not (not b') && r')) ≡ (not a || (not (not b) && r))
same_test a a' b b' r r' e f g = ap₂ (λ x y. not x || (not (not y) && r')) e f ∙ ap (λ z. not a || (not (not b) && z)) g

pub lex-plus : (n : ℕ) (u v w : List ℚ) → length u ≡ n → length v ≡ n → length w ≡ n → lex_less (plus u w) (plus v w) ≡ lex_less u v
lex-plus n [] [] w h k l = lex_irrefl w
lex-plus n [] (y ∷ v) w h k l = absurd (omega arith)
lex-plus n (x ∷ u) [] w h k l = absurd (omega arith)
lex-plus n (x ∷ u) (y ∷ v) [] h k l = absurd (omega arith)
lex-plus zero (x ∷ u) (y ∷ v) (z ∷ w) h k l = absurd (omega arith)
lex-plus (suc n) (x ∷ u) (y ∷ v) (z ∷ w) h k l =
    same_test (le_ℚ y x) (le_ℚ (y +ℚ z) (x +ℚ z)) (le_ℚ x y) (le_ℚ (x +ℚ z) (y +ℚ z)) (lex_less u v) (lex_less (plus u w) (plus v w))
    (add_right-le y x z) (add_right-le x y z) (lex-plus n u v w (omega arith) (omega arith) (omega arith))

multiple-le : (c x y : ℚ) → zero_ℚ <ℚ c → le_ℚ (c *ℚ x) (c *ℚ y) ≡ le_ℚ x y
multiple-le c x y h = ap₂ le_ℚ (mul_comm c x) (mul_comm c y) ∙ mul_right-le x y c h

pub lex-scaled : (c : ℚ) (u v : List ℚ) → zero_ℚ <ℚ c → lex_less (scaled c u) (scaled c v) ≡ lex_less u v
lex-scaled c [] v h = refl
lex-scaled c (x ∷ u) [] h = refl
lex-scaled c (x ∷ u) (y ∷ v) h =
    same_test (le_ℚ y x) (le_ℚ (c *ℚ y) (c *ℚ x)) (le_ℚ x y) (le_ℚ (c *ℚ x) (c *ℚ y)) (lex_less u v) (lex_less (scaled c u) (scaled c v))
    (multiple-le c y x h) (multiple-le c x y h) (lex-scaled c u v h)

zeros-plus : (u : List ℚ) → plus (zeros (length u)) u ≡ u
zeros-plus [] = refl
zeros-plus (x ∷ u) = ap₂ (λ a b. a ∷ b) (zero_add x) (zeros-plus u)

positive_multiple : (c : ℚ) (v : List ℚ) → zero_ℚ <ℚ c → IsLexPositive v → IsLexPositive (scaled c v)
positive_multiple c v h p =
    ap₂ (λ a b. lex_less a b) (ap zeros (length-scaled c v) ∙ sym (scaled-zeros c (length v))) refl ∙ lex-scaled c (zeros (length v)) v h ∙ p

rises : (u v : List ℚ) → length u ≡ length v → IsLexPositive v → IsLexBelow u (plus u v)
rises u v l p =
    ap₂ (λ a b. lex_less a b) (sym (zeros-plus u) ∙ ap (λ n. plus (zeros n) u) l) (plus_comm u v)
    ∙ lex-plus (length v) (zeros (length v)) v u (length-zeros (length v)) refl l ∙ p

positive_sum : (u v : List ℚ) → length u ≡ length v → IsLexPositive u → IsLexPositive v → IsLexPositive (plus u v)
positive_sum u v l p q =
    ap (λ n. lex_less (zeros n) (plus u v)) (length-plus (length u) u v refl (sym l))
    ∙ lex_trans (zeros (length u)) u (plus u v) p (rises u v l q)

pub nothing_added : (f : ℚ) (u w : List ℚ) → length u ≡ length w → f ≡ zero_ℚ → plus u (scaled (neg_ℚ f) w) ≡ u
nothing_added f [] [] l e = refl
nothing_added f [] (y ∷ w) l e = absurd (omega arith)
nothing_added f (x ∷ u) [] l e = refl
nothing_added f (x ∷ u) (y ∷ w) l e =
    ap₂ (λ a b. a ∷ b) (ap (λ c. x +ℚ neg_ℚ c *ℚ y) e ∙ ap (λ c. x +ℚ c *ℚ y) neg_zero ∙ ap (λ c. x +ℚ c) (zero_mul y) ∙ add_zero x)
    (nothing_added f u w (omega arith) e)

cancelled : (f : ℚ) (w : List ℚ) → plus (scaled f w) (scaled (neg_ℚ f) w) ≡ zeros (length w)
cancelled f [] = refl
cancelled f (x ∷ w) = ap₂ (λ a b. a ∷ b) (ap (λ c. f *ℚ x +ℚ c) (neg_mul f x) ∙ add_neg (f *ℚ x)) (cancelled f w)

restored : (f : ℚ) (u : List ℚ) → zero_ℚ <ℚ f → scaled f (scaled (inverse_ℚ f) u) ≡ u
restored f [] h = refl
restored f (x ∷ u) h = ap₂ (λ a b. a ∷ b) (mul_inverse_cancel f x h) (restored f u h)

pub lex_laws : LexLaws
lex_laws =
    record {
      strict = λ v h. true≢false (sym h ∙ lex_irrefl v);
      transitive = lex_trans;
      total = lex_total;
      pivot_row = λ p v h q. positive_multiple (inverse_ℚ p) v (inverse_positive p h) q;
      other_row = λ p f u v l h k q r.
          let w : List ℚ = scaled (inverse_ℚ p) v in
          let w_long : length u ≡ length w = l ∙ sym (length-scaled (inverse_ℚ p) v) in
          elim (le_or_lt zero_ℚ f) [
            | inl up ↦ subst IsLexPositive (sym (nothing_added f u w w_long (le_antisymm f zero_ℚ k up))) q
            | inr down ↦ positive_sum u (scaled (neg_ℚ f) w) (w_long ∙ sym (length-scaled (neg_ℚ f) w)) q
                (positive_multiple (neg_ℚ f) w (neg_positive f down) (positive_multiple (inverse_ℚ p) v (inverse_positive p h) r))
          ];
      limiting_row = λ p f u v l h k less.
          let w : List ℚ = scaled (inverse_ℚ p) v in
          let w_long : length w ≡ length u = length-scaled (inverse_ℚ p) v ∙ sym l in
          let sum_long : length (plus u (scaled (neg_ℚ f) w)) ≡ length w =
          length-plus (length w) u (scaled (neg_ℚ f) w) (sym w_long) (length-scaled (neg_ℚ f) w) in
          ap₂ (λ a b. lex_less a b) (ap zeros sum_long ∙ sym (cancelled f w)) (ap (λ x. plus x (scaled (neg_ℚ f) w)) (sym (restored f u k)))
          ∙ lex-plus (length w) (scaled f w) (scaled f (scaled (inverse_ℚ f) u)) (scaled (neg_ℚ f) w) (length-scaled f w)
          (length-scaled f (scaled (inverse_ℚ f) u) ∙ length-scaled (inverse_ℚ f) u ∙ sym w_long) (length-scaled (neg_ℚ f) w)
          ∙ lex-scaled f w (scaled (inverse_ℚ f) u) k
          ∙ less;
      cost_row = λ p f u v l h down r.
          let w : List ℚ = scaled (inverse_ℚ p) v in
          rises u (scaled (neg_ℚ f) w) (l ∙ sym (length-scaled (neg_ℚ f) w ∙ length-scaled (inverse_ℚ p) v))
          (positive_multiple (neg_ℚ f) w (neg_positive f down) (positive_multiple (inverse_ℚ p) v (inverse_positive p h) r));
    }
