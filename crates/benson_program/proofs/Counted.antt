-- Lengths of multipliers of Benson's program, and the last of them.
use Rattle.std.proofs.Common.{◌≡◌, ℕ, suc, List, length, map, sym, ap, ap₂, ◌∙◌, arith, ◌<◌, ◌≤◌, ◌+◌, ◌-◌, true, false, Bool, nat_lt, nat_le, slice_index_or, not, true≢false, refl}
use Rattle.std.specs.Prelude.{◌&&◌, if◌then◌else◌}
use Rattle.std.proofs.lemmas.Bool.{leb-true}
use Rattle.std.proofs.lemmas.List.{length-map, get_or-map}
use Rattle.exact_field.specs.Rational.{ℚ, zero_ℚ, neg_ℚ, le_ℚ, ◌<ℚ◌}
use Rattle.exact_field.specs.Vector.{are_wide}
use Rattle.polyhedra.specs.DoubleDescription.{magnitude}
use Rattle.polyhedra.proofs.Tests.{both_true}
use Rattle.vlp_problem.specs.declared.problem.Problem.{Problem}
use Rattle.vlp_problem.specs.declared.problem.Cone.{Cone}
use Rattle.vlp_problem.specs.declared.problem.Cone.TheVariants as cone
use Rattle.lp_form.specs.declared.data.ConeOf.{ConeOf}
use Rattle.lp_form.specs.declared.data.ConeOf.TheVariants.{Orthant, Gens, Dual}
use Rattle.lp_form.specs.declared.data.Data.{Data}
use Rattle.lp_form.specs.Data.{IsDataOf, cone_of}
use Rattle.lp_form.specs.Programs.{dual_equations, generators, value_of}
use Rattle.lp_form.specs.Shapes.{vectors_fit}
use Rattle.lp_form.proofs.Figures.{objective_number}

-- the magnitude of a negative number
pub magnitude_below : (q : ℚ) → q <ℚ zero_ℚ → magnitude q ≡ neg_ℚ q
magnitude_below q h = ap (λ (b : Bool). if b then q else neg_ℚ q) (turned (le_ℚ zero_ℚ q) h)
  where
    turned : (b : Bool) → not b ≡ true → b ≡ false
    turned true e = absurd (true≢false (sym e))
    turned false e = refl

-- each generator has an equation
pub generators_few : (q : ℕ) (c : Cone) → length (generators c) ≤ dual_equations q c
generators_few q cone.Orthant = omega arith
generators_few q (cone.Gens vectors) = omega arith
generators_few q (cone.Dual vectors) = omega arith

module _ {F : Type 0} (value : F → ℚ) where
  equations_few : (q : ℕ) (c : ConeOf F) → q ≤ 100000 → vectors_fit q c ≡ true → dual_equations q (cone_of value c) ≤ 100000
  equations_few q Orthant low h = low
  equations_few q (Gens vectors) low h =
      let rest = both_true (nat_lt 0 (length vectors)) (nat_le (length vectors) 100000 && are_wide q vectors) h in
      let few : length vectors ≤ 100000 = leb-true (length vectors) 100000 (both_true (nat_le (length vectors) 100000) (are_wide q vectors) rest.1).0 in
      omega (arith, few, length-map vectors (map value))
  equations_few q (Dual vectors) low h = low

  pub few_equations : (form : Data F) → dual_equations (length form.p) (cone_of value form.cone) ≤ 100000
  few_equations form = equations_few (length form.p) form.cone form.objs_bounded form.cone_vectors

  -- the last multiplier
  pub last_is : (dual : List F) (i : ℕ) (x : F) → i < length dual → x ≡ slice_index_or dual i x → i ≡ length dual - 1 → value x ≡ value_of (map value dual)
  last_is dual i x inside is e =
      let same : i ≡ length (map value dual) - 1 = omega (arith, e, length-map dual value) in
      ap value is ∙ sym (get_or-map value dual i x zero_ℚ inside) ∙ ap (λ (k : ℕ). slice_index_or (map value dual) k zero_ℚ) same

  module _ (form : Data F) (file : Problem) (stands : IsDataOf value file form) (dual : List F)
      (long : length (map value dual) ≡ suc (file.cols + dual_equations file.objs file.cone)) where
    equations_are : dual_equations (length form.p) (cone_of value form.cone) ≡ dual_equations file.objs file.cone
    equations_are = ap₂ dual_equations (objective_number value file form stands) stands.cone

    pub generators_are : length (generators (cone_of value form.cone)) ≡ length (generators file.cone)
    generators_are = ap (λ c. length (generators c)) stands.cone

    pub long_in : length dual ≡ suc (file.cols + dual_equations file.objs file.cone)
    long_in = sym (length-map dual value) ∙ long

    pub some_last : length dual - 1 < length dual
    some_last = omega (arith, long_in)

    -- the multipliers of the variables and of the generators are among them
    pub within : form.cols + length (generators (cone_of value form.cone)) ≤ length dual
    within = omega (arith, long_in, stands.cols, generators_are, generators_few file.objs file.cone)

    pub short : length dual ≤ 4294967294
    short = omega (arith, long_in, stands.cols, form.cols_bounded, equations_are, few_equations form)
