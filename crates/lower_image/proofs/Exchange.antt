-- The row of a vector y over dual vectors, with any number k at the bound's place: its value at one is the product of y with the weight,
-- plus k times the bound.
use Rattle.std.proofs.Common.{◌≡◌, ℕ, zero, suc, List, [], ◌∷◌, ◌++◌, length, take, drop, refl, sym, ap, ap₂, ◌∙◌, arith, ◌≤◌, ◌-◌, ◌+◌, Bool, true, false, slice_index_or, length-append}
use Rattle.std.specs.Prelude.{if◌then◌else◌, pos}
use Rattle.std.proofs.Math.Seq.{take-append_seam, drop-append_seam}
use Rattle.std.proofs.lemmas.List.{length-take-le, take-append-drop}
use Rattle.exact_field.specs.Rational.{ℚ, zero_ℚ, one_ℚ, ◌+ℚ◌, ◌-ℚ◌, ◌*ℚ◌, neg_ℚ}
use Rattle.exact_field.specs.Vector.{entry, dot, front}
use Rattle.exact_field.specs.Ring.{v0, v1, v2, v3, v4, ◌⊕◌, ◌⊝◌, ◌⊗◌, ⊖, num}
use Rattle.exact_field.proofs.RingTool.{ring}
use Rattle.exact_field.proofs.Rationals.{rationals}
use Rattle.polyhedra.specs.Vectors.{plus, scaled, zeros}
use Rattle.polyhedra.proofs.Laws.{add_zero}
use Rattle.polyhedra.proofs.Algebra.{neg_mul, neg_zero, one_mul, zero_mul}
use Rattle.polyhedra.proofs.Linear.{dot_comm, dot-plus_left, dot-scaled_left, length-scaled}
use Rattle.polyhedra.proofs.Entries.{negated-scaled, at_drop, last_one}
use Rattle.tableaux.specs.Table.{minus}
use Rattle.geo_duality.specs.Rows.{exchange_row}
use Rattle.overflows.proofs.Violated.{dot-append, dot-take, minus-is, length-minus}
use Rattle.lower_image.specs.Lower.{dual_at, weight_at}

-- ---- zeros
pub take-zeros : (n m : ℕ) → n ≤ m → take n (zeros m) ≡ zeros n
take-zeros zero m l = refl
take-zeros (suc n) zero l = absurd (omega arith)
take-zeros (suc n) (suc m) l = ap (λ (v : List ℚ). zero_ℚ ∷ v) (take-zeros n m (omega arith))

pub one_more : (n : ℕ) → zeros n ++ zero_ℚ ∷ [] ≡ zeros (suc n)
one_more zero = refl
one_more (suc n) = ap (λ (v : List ℚ). zero_ℚ ∷ v) (one_more n)

pub two_more : (n : ℕ) → zeros n ++ zero_ℚ ∷ zero_ℚ ∷ [] ≡ zeros (suc (suc n))
two_more zero = refl
two_more (suc n) = ap (λ (v : List ℚ). zero_ℚ ∷ v) (two_more n)

-- ---- the row
-- the row of y with k at the bound's place
abbrev pub tilt : List ℚ → List ℚ → ℚ → List ℚ
tilt c y k = minus (front y) (scaled (entry y (length y)) (front c)) ++ k ∷ entry y (length y) ∷ []

module _ (c y f : List ℚ) (gamma s k : ℚ) (some : 1 ≤ length c) (y_long : length y ≡ length c) (f_long : length f ≡ length c - 1) where
  abbrev m : ℕ
  m = length c - 1

  abbrev last : ℚ
  last = entry y (length y)

  abbrev start : List ℚ
  start = minus (front y) (scaled last (front c))

  y_front : front y ≡ take m y
  y_front = ap (λ (n : ℕ). take (n - 1) y) y_long

  y_front_long : length (take m y) ≡ m
  y_front_long = length-take-le m y (omega (arith, some, y_long))

  c_front_long : length (take m c) ≡ m
  c_front_long = length-take-le m c (omega arith)

  scaled_long : length (scaled last (front c)) ≡ m
  scaled_long = length-scaled last (take m c) ∙ c_front_long

  start_long : length start ≡ m
  start_long = length-minus m (front y) (scaled last (front c)) (ap (λ (v : List ℚ). length v) y_front ∙ y_front_long) scaled_long

  start-is : start ≡ plus (take m y) (scaled (neg_ℚ last) (take m c))
  start-is =
      ap (λ (v : List ℚ). minus v (scaled last (take m c))) y_front
      ∙ minus-is (take m y) (scaled last (take m c)) (y_front_long ∙ sym scaled_long)
      ∙ ap (λ (v : List ℚ). plus (take m y) v) (negated-scaled last (take m c))

  front-is : take m (dual_at f gamma s) ≡ f
  front-is = ap (λ n. take n (dual_at f gamma s)) (sym f_long) ∙ take-append_seam f (gamma ∷ s ∷ [])

  after-is : drop m (dual_at f gamma s) ≡ gamma ∷ s ∷ []
  after-is = ap (λ n. drop n (dual_at f gamma s)) (sym f_long) ∙ drop-append_seam f (gamma ∷ s ∷ [])

  abbrev weighed : ℚ
  weighed = dot (take m c) f

  start_value : dot start (dual_at f gamma s) ≡ dot f y +ℚ neg_ℚ (last *ℚ weighed)
  start_value =
      sym (ap (λ (n : ℕ). dot start (take n (dual_at f gamma s))) (sym start_long) ∙ dot-take start (dual_at f gamma s))
      ∙ ap₂ (λ a b. dot a b) start-is front-is
      ∙ dot-plus_left (take m y) (scaled (neg_ℚ last) (take m c)) f
      ∙ ap₂ (λ a b. a +ℚ b)
      (dot_comm (take m y) f ∙ ap (λ n. dot f (take n y)) (sym f_long) ∙ dot-take f y)
      (dot-scaled_left (neg_ℚ last) (take m c) f ∙ neg_mul last weighed)

  row_parts : dot (tilt c y k) (dual_at f gamma s) ≡ dot f y +ℚ neg_ℚ (last *ℚ weighed) +ℚ (k *ℚ gamma +ℚ last *ℚ s)
  row_parts =
      dot-append start (k ∷ last ∷ []) (dual_at f gamma s)
      ∙ ap₂ (λ a b. a +ℚ b) start_value
      (ap (λ n. dot (k ∷ last ∷ []) (drop n (dual_at f gamma s))) start_long
      ∙ ap (λ v. dot (k ∷ last ∷ []) v) after-is
      ∙ ap (λ q. k *ℚ gamma +ℚ q) (add_zero (last *ℚ s)))

  pub weight_parts : dot (weight_at c f s) y ≡ dot f y +ℚ (s -ℚ weighed) *ℚ last
  weight_parts =
      dot-append f ((s -ℚ weighed) ∷ []) y
      ∙ ap (λ q. dot f y +ℚ q)
      (at_drop (s -ℚ weighed) (length f) y
      ∙ ap (λ (n : ℕ). (s -ℚ weighed) *ℚ slice_index_or y n zero_ℚ) (f_long ∙ ap (λ (n : ℕ). n - 1) (sym y_long)))

  pub tilt_value : dot (tilt c y k) (dual_at f gamma s) ≡ dot (weight_at c f s) y +ℚ k *ℚ gamma
  tilt_value =
      row_parts ∙ moved (dot f y) last weighed (k *ℚ gamma) s
      ∙ ap (λ q. q +ℚ k *ℚ gamma) (sym weight_parts)
    where
      moved : (a l w d e : ℚ) → a +ℚ neg_ℚ (l *ℚ w) +ℚ (d +ℚ l *ℚ e) ≡ a +ℚ (e -ℚ w) *ℚ l +ℚ d
      moved a l w d e =
          ring rationals (a ∷ l ∷ w ∷ d ∷ e ∷ []) (v0 ⊕ ⊖ (v1 ⊗ v2) ⊕ (v3 ⊕ v1 ⊗ v4)) (v0 ⊕ (v4 ⊝ v2) ⊗ v1 ⊕ v3) refl

-- the row of a point or of a direction
pub exchange_at : (c y f : List ℚ) (gamma s : ℚ) (t : Bool) → 1 ≤ length c → length y ≡ length c → length f ≡ length c - 1 →
    dot (exchange_row c y t) (dual_at f gamma s) ≡ dot (weight_at c f s) y -ℚ (if t then gamma else zero_ℚ)
exchange_at c y f gamma s t some y_long f_long =
    tilt_value c y f gamma s (if t then neg_ℚ one_ℚ else zero_ℚ) some y_long f_long ∙ ap (λ q. dot (weight_at c f s) y +ℚ q) (bound_part t)
  where
    bound_part : (t : Bool) → (if t then neg_ℚ one_ℚ else zero_ℚ) *ℚ gamma ≡ neg_ℚ (if t then gamma else zero_ℚ)
    bound_part true = neg_mul one_ℚ gamma ∙ ap neg_ℚ (one_mul gamma)
    bound_part false = zero_mul gamma ∙ sym neg_zero

-- ---- weights
module _ (c f : List ℚ) (s : ℚ) (some : 1 ≤ length c) (f_long : length f ≡ length c - 1) where
  pub weight_long : length (weight_at c f s) ≡ length c
  weight_long = length-append f _ ∙ omega (arith, some, f_long)

  -- where the last entry of c is 1, the product with c is s
  pub weight_normed : entry c (length c) ≡ one_ℚ → dot (weight_at c f s) c ≡ s
  weight_normed e =
      weight_parts c c f zero_ℚ s zero_ℚ some refl f_long
      ∙ ap₂ (λ a b. a +ℚ (s -ℚ dot (front c) f) *ℚ b)
      (sym (ap (λ n. dot f (take n c)) (sym f_long) ∙ dot-take f c) ∙ dot_comm f (front c)) e
      ∙ left (dot (front c) f) s
    where
      left : (a b : ℚ) → a +ℚ (b -ℚ a) *ℚ one_ℚ ≡ b
      left a b = ring rationals (a ∷ b ∷ []) (v0 ⊕ (v1 ⊝ v0) ⊗ num (pos 1)) v1 refl

-- a vector is the weight of its front and its product with c
pub weight_again : (c w : List ℚ) → 1 ≤ length c → length w ≡ length c → entry c (length c) ≡ one_ℚ → weight_at c (front w) (dot w c) ≡ w
weight_again c w some long e =
    ap (λ q. front w ++ q ∷ []) completes ∙ sym (cut w (omega (arith, some, long)))
  where
    cut : (v : List ℚ) → 1 ≤ length v → v ≡ front v ++ entry v (length v) ∷ []
    cut v h = sym (take-append-drop (length v - 1) v) ∙ ap (λ (r : List ℚ). take (length v - 1) v ++ r) (last_one (length v - 1) v (omega (arith, h)))

    completes : dot w c -ℚ dot (front c) (front w) ≡ entry w (length w)
    completes =
        ap (λ q. q -ℚ dot (front c) (front w)) (whole ∙ ap (λ q. dot (front w) (front c) +ℚ entry w (length w) *ℚ q) e)
        ∙ ap (λ q. dot (front w) (front c) +ℚ entry w (length w) *ℚ one_ℚ -ℚ q) (dot_comm (front c) (front w))
        ∙ left (dot (front w) (front c)) (entry w (length w))
      where
        left : (a b : ℚ) → a +ℚ b *ℚ one_ℚ -ℚ a ≡ b
        left a b = ring rationals (a ∷ b ∷ []) (v0 ⊕ v1 ⊗ num (pos 1) ⊝ v0) v1 refl

        f_long : length (front w) ≡ length c - 1
        f_long = length-take-le (length w - 1) w (omega arith) ∙ omega (arith, long)

        whole : dot w c ≡ dot (front w) (front c) +ℚ entry w (length w) *ℚ entry c (length c)
        whole =
            ap (λ v. dot v c) (cut w (omega (arith, some, long)))
            ∙ dot-append (front w) (entry w (length w) ∷ []) c
            ∙ ap₂ (λ a b. a +ℚ b)
            (sym (ap (λ n. dot (front w) (take n c)) (sym f_long) ∙ dot-take (front w) c))
            (at_drop (entry w (length w)) (length (front w)) c ∙ ap (λ (n : ℕ). entry w (length w) *ℚ slice_index_or c n zero_ℚ) f_long)

-- ---- dual vectors
pub dual_long : (f : List ℚ) (gamma s : ℚ) (q : ℕ) → 1 ≤ q → length f ≡ q - 1 → length (dual_at f gamma s) ≡ suc q
dual_long f gamma s q some long = length-append f (gamma ∷ s ∷ []) ∙ omega (arith, some, long)

-- a vector of q + 1 entries is a dual vector by its parts
pub dual_parts : (q : ℕ) (g : List ℚ) → 1 ≤ q → length g ≡ suc q → g ≡ dual_at (take (q - 1) g) (entry g q) (entry g (suc q))
dual_parts q g some long =
    sym (take-append-drop (q - 1) g) ∙ ap (λ (v : List ℚ). take (q - 1) g ++ v) (two (q - 1) g (omega (arith, some, long)) ∙ ap (λ (n : ℕ). slice_index_or g (q - 1) zero_ℚ ∷ slice_index_or g n zero_ℚ ∷ []) (omega (arith, some)))
  where
    two : (n : ℕ) (v : List ℚ) → length v ≡ n + 2 → drop n v ≡ slice_index_or v n zero_ℚ ∷ slice_index_or v (suc n) zero_ℚ ∷ []
    two n [] h = absurd (omega arith)
    two zero (x ∷ []) h = absurd (omega arith)
    two zero (x ∷ y ∷ []) h = refl
    two zero (x ∷ y ∷ z ∷ v) h = absurd (omega arith)
    two (suc n) (x ∷ v) h = two n v (omega arith)

-- where a weight is 0, so are its entries before the last
pub front_zero : (c f : List ℚ) (s : ℚ) (q : ℕ) → length f ≡ q - 1 → weight_at c f s ≡ zeros q → f ≡ zeros (q - 1)
front_zero c f s q long none =
    sym (ap (λ (n : ℕ). take n (weight_at c f s)) (sym long) ∙ take-append_seam f ((s -ℚ dot (front c) f) ∷ []))
    ∙ ap (λ (v : List ℚ). take (q - 1) v) none ∙ take-zeros (q - 1) q (omega arith)
