-- The value of an exchange row at a generator whose last entry is 1: the product of its weight with
-- the point or direction, less its bound for a point.
use Rattle.std.proofs.Common.{◌≡◌, ℕ, zero, suc, List, [], ◌∷◌, ◌++◌, length, take, drop, refl, sym, ap, ap₂, ◌∙◌, arith, ◌<◌, ◌≤◌, ◌-◌, Bool, true, false, slice_index_or}
use Rattle.std.specs.Prelude.{if◌then◌else◌}
use Rattle.std.proofs.Math.Seq.{take-append_seam, drop-append_seam}
use Rattle.std.proofs.lemmas.List.{length-take-le}
use Rattle.exact_field.specs.Rational.{ℚ, zero_ℚ, one_ℚ, ◌+ℚ◌, ◌-ℚ◌, ◌*ℚ◌, neg_ℚ}
use Rattle.exact_field.specs.Vector.{entry, dot, front as front_of}
use Rattle.polyhedra.specs.Vectors.{plus, scaled}
use Rattle.polyhedra.proofs.Laws.{add_assoc, add_comm, add_zero, mul_one, mul_comm}
use Rattle.polyhedra.proofs.Algebra.{one_mul, zero_mul, neg_mul, neg_zero, add_mul}
use Rattle.polyhedra.proofs.Linear.{dot_comm, dot-plus_left, dot-scaled_left, length-scaled}
use Rattle.polyhedra.proofs.Entries.{negated-scaled, at_drop}
use Rattle.tableaux.specs.Table.{minus}
use Rattle.overflows.specs.Base.{weight_of}
use Rattle.geo_duality.specs.Rows.{exchange_row}
use Rattle.overflows.proofs.Violated.{dot-append, dot-take, minus-is, length-minus}

slice-take : (k : ℕ) (v : List ℚ) (i : ℕ) → i < k → slice_index_or (take k v) i zero_ℚ ≡ slice_index_or v i zero_ℚ
slice-take zero v i h = absurd (omega arith)
slice-take (suc k) [] i h = refl
slice-take (suc k) (x ∷ v) zero h = refl
slice-take (suc k) (x ∷ v) (suc i) h = slice-take k v i (omega arith)

module _ (c y front : List ℚ) (gamma : ℚ) (t : Bool) (some : 1 ≤ length c) (y_long : length y ≡ length c) (front_long : length front ≡ length c - 1) where
  abbrev k : ℕ
  k = length c - 1

  abbrev g : List ℚ
  g = front ++ gamma ∷ one_ℚ ∷ []

  abbrev last : ℚ
  last = entry y (length y)

  abbrev start : List ℚ
  start = minus (front_of y) (scaled last (front_of c))

  abbrev sum_form : List ℚ
  sum_form = plus (take k y) (scaled (neg_ℚ last) (take k c))

  y_front : front_of y ≡ take k y
  y_front = ap (λ (n : ℕ). take (n - 1) y) y_long

  y_front_long : length (take k y) ≡ k
  y_front_long = length-take-le k y (omega (arith, some, y_long))

  c_front_long : length (take k c) ≡ k
  c_front_long = length-take-le k c (omega arith)

  scaled_long : length (scaled last (front_of c)) ≡ k
  scaled_long = length-scaled last (take k c) ∙ c_front_long

  start_long : length start ≡ k
  start_long = length-minus k (front_of y) (scaled last (front_of c)) (ap (λ (v : List ℚ). length v) y_front ∙ y_front_long) scaled_long

  start-is : start ≡ sum_form
  start-is =
      ap (λ (v : List ℚ). minus v (scaled last (take k c))) y_front
      ∙ minus-is (take k y) (scaled last (take k c)) (y_front_long ∙ sym scaled_long)
      ∙ ap (λ (v : List ℚ). plus (take k y) v) (negated-scaled last (take k c))

  front-is : take k g ≡ front
  front-is = ap (λ n. take n g) (sym front_long) ∙ take-append_seam front (gamma ∷ one_ℚ ∷ [])

  after-is : drop k g ≡ gamma ∷ one_ℚ ∷ []
  after-is = ap (λ n. drop n g) (sym front_long) ∙ drop-append_seam front (gamma ∷ one_ℚ ∷ [])

  abbrev weighed : ℚ
  weighed = dot (take k c) front

  start_value : dot start g ≡ dot front y +ℚ neg_ℚ (last *ℚ weighed)
  start_value =
      sym (ap (λ (n : ℕ). dot start (take n g)) (sym start_long) ∙ dot-take start g)
      ∙ ap₂ (λ a b. dot a b) start-is front-is
      ∙ dot-plus_left (take k y) (scaled (neg_ℚ last) (take k c)) front
      ∙ ap₂ (λ a b. a +ℚ b)
      (dot_comm (take k y) front ∙ ap (λ n. dot front (take n y)) (sym front_long) ∙ dot-take front y)
      (dot-scaled_left (neg_ℚ last) (take k c) front ∙ neg_mul last weighed)

  row_parts : dot (exchange_row c y t) g ≡ dot front y +ℚ neg_ℚ (last *ℚ weighed) +ℚ ((if t then neg_ℚ one_ℚ else zero_ℚ) *ℚ gamma +ℚ last)
  row_parts =
      dot-append start ((if t then neg_ℚ one_ℚ else zero_ℚ) ∷ last ∷ []) g
      ∙ ap₂ (λ a b. a +ℚ b) start_value
      (ap (λ n. dot ((if t then neg_ℚ one_ℚ else zero_ℚ) ∷ last ∷ []) (drop n g)) start_long
      ∙ ap (λ v. dot ((if t then neg_ℚ one_ℚ else zero_ℚ) ∷ last ∷ []) v) after-is
      ∙ ap (λ q. (if t then neg_ℚ one_ℚ else zero_ℚ) *ℚ gamma +ℚ q) (add_zero (last *ℚ one_ℚ) ∙ mul_one last))

  weight_parts : dot (weight_of c g) y ≡ dot front y +ℚ (last +ℚ neg_ℚ (last *ℚ weighed))
  weight_parts =
      ap (λ v. dot (v ++ (one_ℚ -ℚ dot (take k c) v) ∷ []) y) front-is
      ∙ dot-append front ((one_ℚ -ℚ weighed) ∷ []) y
      ∙ ap (λ q. dot front y +ℚ q)
      (at_drop (one_ℚ -ℚ weighed) (length front) y
      ∙ ap (λ (n : ℕ). (one_ℚ -ℚ weighed) *ℚ slice_index_or y n zero_ℚ) (front_long ∙ ap (λ (n : ℕ). n - 1) (sym y_long))
      ∙ add_mul one_ℚ (neg_ℚ weighed) last ∙ ap₂ (λ a b. a +ℚ b) (one_mul last) (neg_mul weighed last ∙ ap neg_ℚ (mul_comm weighed last)))

  bound_part : (t : Bool) → (if t then neg_ℚ one_ℚ else zero_ℚ) *ℚ gamma ≡ neg_ℚ (if t then gamma else zero_ℚ)
  bound_part true = neg_mul one_ℚ gamma ∙ ap neg_ℚ (one_mul gamma)
  bound_part false = zero_mul gamma ∙ sym neg_zero

  pub exchange_value : dot (exchange_row c y t) (front ++ gamma ∷ one_ℚ ∷ []) ≡ dot (weight_of c (front ++ gamma ∷ one_ℚ ∷ [])) y -ℚ (if t then gamma else zero_ℚ)
  exchange_value =
      row_parts ∙ ap (λ q. dot front y +ℚ neg_ℚ (last *ℚ weighed) +ℚ (q +ℚ last)) (bound_part t)
      ∙ moved (dot front y) (neg_ℚ (last *ℚ weighed)) (neg_ℚ (if t then gamma else zero_ℚ)) last
      ∙ ap (λ q. q +ℚ neg_ℚ (if t then gamma else zero_ℚ)) (sym weight_parts)
    where
      moved : (a b d e : ℚ) → a +ℚ b +ℚ (d +ℚ e) ≡ a +ℚ (e +ℚ b) +ℚ d
      moved a b d e =
          ap (λ q. a +ℚ b +ℚ q) (add_comm d e) ∙ sym (add_assoc (a +ℚ b) e d)
          ∙ ap (λ q. q +ℚ d) (add_assoc a b e ∙ ap (λ q. a +ℚ q) (add_comm b e))
