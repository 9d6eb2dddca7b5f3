-- Members of a cone that is given by generators: its generators, 0, sums and multiples.
use Rattle.std.proofs.Common.{◌≡◌, ℕ, suc, List, [], ◌∷◌, length, Contains, sym, ap, ap₂, ◌∙◌, ◌⊎◌, inl, inr}
use Rattle.exact_field.specs.Rational.{ℚ, zero_ℚ, one_ℚ, ◌+ℚ◌, ◌*ℚ◌, ◌≤ℚ◌}
use Rattle.exact_field.specs.Vector.{dot}
use Rattle.polyhedra.specs.Vectors.{AreWide, zeros, plus, scaled, values, combination, AtLeastZero}
use Rattle.polyhedra.specs.Cone.{IsGenerated}
use Rattle.polyhedra.proofs.Laws.{add_zero, le_refl, le_of_lt, zero_lt_one}
use Rattle.polyhedra.proofs.Lists.{nonneg-cons, wide-head, wide-tail, Contains-cases, Contains-nil, nonneg-plus, nonneg-scaled, nonneg-zeros}
use Rattle.polyhedra.proofs.Algebra.{zero_add, zero_mul, one_mul}
use Rattle.polyhedra.proofs.Linear.{dot_comm, dot-plus, dot-plus_left, dot-scaled, dot-scaled_left, dot-zeros, length-plus, length-scaled, length-zeros, dot-combination, length-combination, same_wide}

-- a vector that has the products of a combination
pub generated_by_values : (n : ℕ) (gens : List (List ℚ)) (z ms : List ℚ) → AreWide n gens → length z ≡ n → length ms ≡ length gens → AtLeastZero ms →
    ((r : List ℚ) → dot r z ≡ dot ms (values gens r)) → IsGenerated n gens z
generated_by_values n gens z ms wide width lengths nonneg e = record {
  multipliers = ms;
  one_each = lengths;
  at_least_zero = nonneg;
  combined = same_wide n z (combination n ms gens) width (length-combination n ms gens wide) (λ r. e r ∙ sym (dot-combination n r ms gens));
}

pub generated_value : (n : ℕ) (gens : List (List ℚ)) (z : List ℚ) (g : IsGenerated n gens z) (r : List ℚ) → dot r z ≡ dot g.multipliers (values gens r)
generated_value n gens z g r = ap (λ v. dot r v) g.combined ∙ dot-combination n r g.multipliers gens

pub generated_width : (n : ℕ) (gens : List (List ℚ)) (z : List ℚ) → AreWide n gens → IsGenerated n gens z → length z ≡ n
generated_width n gens z wide g = ap length g.combined ∙ length-combination n g.multipliers gens wide

-- a combination of fewer generators
pub more_generators : (n : ℕ) (e : List ℚ) (gens : List (List ℚ)) (z : List ℚ) → AreWide n (e ∷ gens) → IsGenerated n gens z → IsGenerated n (e ∷ gens) z
more_generators n e gens z wide g =
    generated_by_values n (e ∷ gens) z (zero_ℚ ∷ g.multipliers) wide (generated_width n gens z (wide-tail n e gens wide) g) (ap suc g.one_each)
    (nonneg-cons zero_ℚ g.multipliers (le_refl zero_ℚ) g.at_least_zero)
    (λ r. generated_value n gens z g r ∙ sym (ap (λ v. v +ℚ dot g.multipliers (values gens r)) (zero_mul (dot e r)) ∙ zero_add
    (dot g.multipliers (values gens r))))

pub generated_zero : (n : ℕ) (gens : List (List ℚ)) → AreWide n gens → IsGenerated n gens (zeros n)
generated_zero n gens wide = generated_by_values n gens (zeros n) (zeros (length gens)) wide (length-zeros n) (length-zeros (length gens))
    (nonneg-zeros (length gens))
    (λ r. dot-zeros r n ∙ sym (dot_comm (zeros (length gens)) (values gens r) ∙ dot-zeros (values gens r) (length gens)))

pub generated_plus : (n : ℕ) (gens : List (List ℚ)) (y z : List ℚ) → AreWide n gens → IsGenerated n gens y → IsGenerated n gens z →
    IsGenerated n gens (plus y z)
generated_plus n gens y z wide g h = generated_by_values n gens (plus y z) (plus g.multipliers h.multipliers) wide
    (length-plus n y z (generated_width n gens y wide g) (generated_width n gens z wide h))
    (length-plus (length gens) g.multipliers h.multipliers g.one_each h.one_each)
    (nonneg-plus g.multipliers h.multipliers g.at_least_zero h.at_least_zero)
    (λ r. dot-plus r y z ∙ ap₂ (λ a b. a +ℚ b) (generated_value n gens y g r) (generated_value n gens z h r) ∙ sym
    (dot-plus_left g.multipliers h.multipliers (values gens r)))

pub generated_scaled : (n : ℕ) (gens : List (List ℚ)) (c : ℚ) (z : List ℚ) → AreWide n gens → zero_ℚ ≤ℚ c → IsGenerated n gens z → IsGenerated n gens
    (scaled c z)
generated_scaled n gens c z wide p g = generated_by_values n gens (scaled c z) (scaled c g.multipliers) wide
    (length-scaled c z ∙ generated_width n gens z wide g)
    (length-scaled c g.multipliers ∙ g.one_each)
    (nonneg-scaled c g.multipliers p g.at_least_zero)
    (λ r. dot-scaled r c z ∙ ap (λ a. c *ℚ a) (generated_value n gens z g r) ∙ sym (dot-scaled_left c g.multipliers (values gens r)))

pub generated_generator : (n : ℕ) (gens : List (List ℚ)) (g : List ℚ) → AreWide n gens → Contains gens g → IsGenerated n gens g
generated_generator n [] g wide c = absurd (Contains-nil g c)
generated_generator n (e ∷ gens) g wide c = go (Contains-cases e gens g c) (generated_generator n gens g (wide-tail n e gens wide))
  where
    go : (e ≡ g) ⊎ Contains gens g → (Contains gens g → IsGenerated n gens g) → IsGenerated n (e ∷ gens) g
    go (inl k) again = generated_by_values n (e ∷ gens) g (one_ℚ ∷ zeros (length gens)) wide (ap length (sym k) ∙ wide-head n e gens wide)
        (ap suc (length-zeros (length gens)))
        (nonneg-cons one_ℚ (zeros (length gens)) (le_of_lt zero_ℚ one_ℚ zero_lt_one) (nonneg-zeros (length gens)))
        (λ r. ap (λ v. dot r v) (sym k) ∙ dot_comm r e ∙ sym (one_mul (dot e r)) ∙ sym (add_zero (one_ℚ *ℚ dot e r))
        ∙ ap (λ x. one_ℚ *ℚ dot e r +ℚ x) (sym (dot_comm (zeros (length gens)) (values gens r) ∙ dot-zeros (values gens r) (length gens))))
    go (inr k) again = more_generators n e gens g wide (again k)
