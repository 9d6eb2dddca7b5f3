-- Vertices, extreme directions and recession cones of a set that a linear map turns into another one, and back.
use Rattle.std.proofs.Common.{◌≡◌, ℕ, List, sym, ap, ◌∙◌, subst, length}
use Rattle.exact_field.specs.Rational.{ℚ}
use Rattle.polyhedra.specs.Vectors.{zeros, plus, scaled}
use Rattle.polyhedra.specs.Hull.{IsVertex, IsMultiple, IsExtremeDirection}
use Rattle.polyhedra.specs.LowerImage.{IsRecession}
use Rattle.polyhedra.proofs.Linear.{length-scaled}

-- f is linear on the vectors in Wide, and undoes itself
module _ (f : List ℚ → List ℚ) (Wide : List ℚ → Type 0) (f_wide : (v : List ℚ) → Wide v → Wide (f v))
    (f-plus : (u v : List ℚ) → Wide u → Wide v → f (plus u v) ≡ plus (f u) (f v))
    (f-scaled : (c : ℚ) (v : List ℚ) → f (scaled c v) ≡ scaled c (f v)) (f_twice : (v : List ℚ) → f (f v) ≡ v) where
  wide_back : (v : List ℚ) → Wide (f v) → Wide v
  wide_back v h = subst (λ (u : List ℚ). Wide u) (f_twice v) (f_wide (f v) h)

  f_same : (u v : List ℚ) → f u ≡ v → u ≡ f v
  f_same u v e = sym (f_twice u) ∙ ap f e

  multiple : (d a : List ℚ) → IsMultiple (f d) (f a) → IsMultiple d a
  multiple d a h = record { factor = h.factor; same = f_same a (scaled h.factor (f d)) h.same ∙ f-scaled h.factor (f d) ∙ ap (λ v. scaled h.factor v) (f_twice d) }

  multiple_to : (d a : List ℚ) → IsMultiple d (f a) → IsMultiple (f d) a
  multiple_to d a h = record { factor = h.factor; same = f_same a (scaled h.factor d) h.same ∙ f-scaled h.factor d }

  -- two sets that f turns into each other
  module _ (P Q : List ℚ → Type 0) (P_wide : (v : List ℚ) → P v → Wide v) (to : (v : List ℚ) → P v → Q (f v)) (back : (v : List ℚ) → Q v → P (f v)) where
    Q_wide : (v : List ℚ) → Q v → Wide v
    Q_wide v h = wide_back v (P_wide (f v) (back v h))

    pub vertex_turned : (y : List ℚ) → IsVertex P y → IsVertex Q (f y)
    vertex_turned y h = record {
      member = to y h.member;
      no_midpoint = λ a b p q e.
          let r : (f a ≡ y) × (f b ≡ y) = h.no_midpoint (f a) (f b) (back a p) (back b q)
          (sym (f_twice (plus y y)) ∙ ap f (f-plus y y (P_wide y h.member) (P_wide y h.member) ∙ e) ∙ f-plus a b (Q_wide a p) (Q_wide b q)) in
          (f_same a y r.0, f_same b y r.1);
    }

    pub extreme_turned : (n : ℕ) (d : List ℚ) → f (zeros n) ≡ zeros n → IsExtremeDirection n P d → IsExtremeDirection n Q (f d)
    extreme_turned n d z h = record {
      member = to d h.member;
      not_zero = λ e. h.not_zero (f_same d (zeros n) e ∙ z);
      no_sum = λ a b p q e.
          let r : IsMultiple d (f a) × IsMultiple d (f b) = h.no_sum (f a) (f b) (back a p) (back b q)
          (f_same d (plus a b) e ∙ f-plus a b (Q_wide a p) (Q_wide b q)) in
          (multiple_to d a r.0, multiple_to d b r.1);
    }

    pub recession_turned : (n : ℕ) (d : List ℚ) → ((v : List ℚ) → length v ≡ n → Wide v) → ((v : List ℚ) → length (f v) ≡ length v) →
        IsRecession n P d → IsRecession n Q (f d)
    recession_turned n d wide f_length h = record {
      wide = f_length d ∙ h.wide;
      leads = λ v s v_in s_nonneg.
          subst (λ (u : List ℚ). Q u)
          (f-plus (f v) (scaled s d) (f_wide v (Q_wide v v_in)) (scaled_wide s) ∙ (λ i. plus (f_twice v i) (f-scaled s d i)))
          (to (plus (f v) (scaled s d)) (h.leads (f v) s (back v v_in) s_nonneg));
    }
      where
        scaled_wide : (s : ℚ) → Wide (scaled s d)
        scaled_wide s = wide (scaled s d) (length-scaled s d ∙ h.wide)
