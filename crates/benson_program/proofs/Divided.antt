-- The multipliers that show that Benson's program at the origin has no solution, divided by the magnitude of the last.
use Rattle.std.proofs.Common.{◌≡◌, ℕ, suc, List, [], ◌∷◌, map, length, take, drop, refl, sym, ap, ap₂, ◌∙◌, subst, arith, ◌≤◌, ◌+◌, true, Option, inl, inr}
use Rattle.std.proofs.lemmas.List.{length-map, length-take-le, length-drop, take-map, drop-map, take-take, drop-take}
use Rattle.exact_field.specs.Rational.{ℚ, zero_ℚ, neg_ℚ, inverse_ℚ, ◌<ℚ◌, ◌*ℚ◌}
use Rattle.frac128.specs.declared.vectors.Spot.{Spot}
use Rattle.polyhedra.specs.DoubleDescription.{magnitude}
use Rattle.polyhedra.specs.Negatives.{negated}
use Rattle.polyhedra.specs.Vectors.{scaled, zeros}
use Rattle.polyhedra.proofs.Algebra.{mul_neg}
use Rattle.polyhedra.proofs.Linear.{length-scaled, length-zeros}
use Rattle.polyhedra.proofs.Order.{lt_irrefl, neg_positive}
use Rattle.vlp_problem.specs.declared.problem.Problem.{Problem}
use Rattle.vlp_problem.specs.declared.problem.Cone.{Cone}
use Rattle.vlp_problem.specs.declared.problem.Cone.TheVariants.{Orthant, Gens, Dual}
use Rattle.upper_image.specs.Spots.{dense, IsVector}
use Rattle.vlp_problem.specs.declared.program.Program.TheVariants.{Benson}
use Rattle.lp_form.specs.Programs.{benson_system, dual_equations, generators, choice_of, share_of, value_of}
use Rattle.overflows.specs.Base.{AreFirstMultipliersOff, IsBaseStart}
use Rattle.overflows.specs.Quotients.{IsDivisor, IsScaled}
use Rattle.overflows.specs.Settings.{Setting, Knows, vector_of}
use Rattle.overflows.specs.Trails.{divided_by}
use Rattle.benson_program.proofs.AsPreimage.{multipliers_long}
use Rattle.benson_program.proofs.AsWhole.{benson_whole}
use Rattle.benson_program.proofs.Counted.{generators_few, magnitude_below}
use Rattle.lp_form.specs.Sparse.{IsSparseOf}
use Rattle.benson_program.specs.Wholes.{AreEmptyAtOrigin, IsWholeOf}
use Rattle.benson_program.specs.declared.whole.WholeParts.{WholeParts}

negated_scaled : (s : ℚ) (v : List ℚ) → negated (scaled s v) ≡ scaled s (negated v)
negated_scaled s [] = refl
negated_scaled s (x ∷ v) = ap₂ (λ (a : ℚ) (b : List ℚ). a ∷ b) (sym (mul_neg s x)) (negated_scaled s v)

-- the shares among the multipliers of the equations
pub share_is : (file : Problem) (c : Cone) (y : List ℚ) → negated (take (length (generators c)) (drop file.cols y)) ≡ share_of file c y
share_is file Orthant y = refl
share_is file (Gens vectors) y = refl
share_is file (Dual vectors) y = refl

pub length-share : (file : Problem) (c : Cone) (y : List ℚ) → file.cols + length (generators c) ≤ length y → length (share_of file c y) ≡ length (generators c)
length-share file c y l =
    ap length (sym (share_is file c y)) ∙ length-map (take (length (generators c)) (drop file.cols y)) neg_ℚ
    ∙ length-take-le (length (generators c)) (drop file.cols y) (omega (arith, length-drop file.cols y, l))

module _ (file : Problem) (c y : List ℚ) (h : AreEmptyAtOrigin file c y) where
  origin_long : length (zeros file.objs) ≡ file.objs
  origin_long = length-zeros file.objs

  pub y_long : length y ≡ suc (file.cols + dual_equations file.objs file.cone)
  y_long = multipliers_long file c (zeros file.objs) true y h.c_wide origin_long h.empty.infeasible.one_each

  pub below : value_of y <ℚ zero_ℚ
  below = benson_whole.below file c (zeros file.objs) true y h.c_wide origin_long h.empty.infeasible

  pub not_zero : (by : ℚ) → by ≡ neg_ℚ (value_of y) → by ≡ zero_ℚ → ⊥
  not_zero by e z = lt_irrefl zero_ℚ (subst (λ (x : ℚ). zero_ℚ <ℚ x) (sym e ∙ z) (neg_positive (value_of y) below))

  pub first_read : AreFirstMultipliersOff (benson_system file c (zeros file.objs) true) y
  first_read = record { basis = h.basis; dictionary = h.empty.dictionary; full = h.empty.read.full; reads = h.empty.read.farkas_read }

  pub divisor_own : (s : Setting) (by : ℚ) → by ≡ neg_ℚ (value_of y) → IsDivisor s y by
  divisor_own s by e = IsDivisor.own (length y) (omega (arith, y_long)) (omega arith) (e ∙ sym (magnitude_below (value_of y) below))

  within_y : file.cols + length (generators file.cone) ≤ length y
  within_y = omega (arith, y_long, generators_few file.objs file.cone)

  module _ (by : ℚ) (quotients : List ℚ) (by_is : by ≡ neg_ℚ (value_of y))
      (is : quotients ≡ scaled (inverse_ℚ by) (take (file.cols + length (generators file.cone)) y)) where
    abbrev n : ℕ
    n = length (generators file.cone)

    abbrev s : ℚ
    s = inverse_ℚ (magnitude (value_of y))

    over : quotients ≡ scaled s (take (file.cols + n) y)
    over = is ∙ ap (λ b. scaled (inverse_ℚ b) (take (file.cols + n) y)) (by_is ∙ sym (magnitude_below (value_of y) below))

    pub quotients_long : length quotients ≡ file.cols + n
    quotients_long = ap length is ∙ length-scaled (inverse_ℚ by) (take (file.cols + n) y) ∙ length-take-le (file.cols + n) y within_y

    pub ray_is : take file.cols quotients ≡ divided_by (value_of y) (choice_of file y)
    ray_is =
        ap (take file.cols) over ∙ take-map (λ x. s *ℚ x) file.cols (take (file.cols + n) y)
        ∙ ap (scaled s) (take-take file.cols (file.cols + n) y (omega arith))

    pub m_is : negated (drop file.cols quotients) ≡ divided_by (value_of y) (share_of file file.cone y)
    m_is =
        ap (λ q. negated (drop file.cols q)) over
        ∙ ap negated (drop-map (λ x. s *ℚ x) file.cols (take (file.cols + n) y))
        ∙ ap (λ v. negated (scaled s v)) (drop-take file.cols n y)
        ∙ negated_scaled s (take n (drop file.cols y)) ∙ ap (scaled s) (share_is file file.cone y)

  choice_long : length (choice_of file y) ≡ file.cols
  choice_long = length-take-le file.cols y (omega (arith, y_long))

-- in a setting that knows c the multipliers may be divided
pub may_divide : (s : Setting) (c y : List ℚ) → Knows s c → AreEmptyAtOrigin s.file c y → IsScaled s y
may_divide s c y known h =
    IsScaled.read record {
      program = Benson (zeros s.file.objs) true;
      allowed = (c, known, IsBaseStart.origin refl refl);
      whole = y;
      read = inr (inr (inl (subst (λ (o : Option (List ℚ)). AreFirstMultipliersOff (benson_system s.file (vector_of o) (zeros s.file.objs) true) y) (sym known)
          (first_read s.file c y h))));
      same = inl refl;
    }

module _ {F : Type 0} (value : F → ℚ) (file : Problem) (c y : List ℚ) (h : AreEmptyAtOrigin file c y) (parts : WholeParts F)
    (ray_is' : map value parts.ray ≡ divided_by (value_of y) (choice_of file y)) (m_is' : map value parts.m ≡ divided_by (value_of y) (share_of file file.cone y)) where
  ray_wide : length parts.ray ≡ file.cols
  ray_wide =
      sym (length-map parts.ray value) ∙ ap length ray_is' ∙ length-scaled (inverse_ℚ (magnitude (value_of y))) (choice_of file y) ∙ choice_long file c y h

  m_wide : length parts.m ≡ length (generators file.cone)
  m_wide =
      sym (length-map parts.m value) ∙ ap length m_is' ∙ length-scaled (inverse_ℚ (magnitude (value_of y))) (share_of file file.cone y)
      ∙ length-share file file.cone y (within_y file c y h)

  ray_same : (ray : List Spot) → IsSparseOf value parts.ray ray → dense file.cols ray ≡ divided_by (value_of y) (choice_of file y)
  ray_same ray r = subst (λ (n : ℕ). dense n ray ≡ divided_by (value_of y) (choice_of file y)) ray_wide (r.same ∙ ray_is')

  m_same : (m : List Spot) → IsSparseOf value parts.m m → dense (length (generators file.cone)) m ≡ divided_by (value_of y) (share_of file file.cone y)
  m_same m r = subst (λ (n : ℕ). dense n m ≡ divided_by (value_of y) (share_of file file.cone y)) m_wide (r.same ∙ m_is')

  ray_vector : (ray : List Spot) → IsSparseOf value parts.ray ray → IsVector file.cols ray
  ray_vector ray r = subst (λ (n : ℕ). IsVector n ray) ray_wide r.vector

  pub wholes : IsWholeOf value file c parts
  wholes = record {
    ray_wide = ray_wide;
    m_wide = m_wide;
    base = λ ray m r k. record { multipliers = y; read = first_read file c y h; choice = ray_same ray r; share = m_same m k };
    recedes = λ ray r. benson_whole.recedes file c (zeros file.objs) true y ray h.c_wide (length-zeros file.objs) h.empty.infeasible (ray_vector ray r) (ray_same ray r);
    above = λ ray m r k. benson_whole.above file c (zeros file.objs) true y ray m h.c_wide (length-zeros file.objs) h.empty.infeasible
        (subst (λ (n : ℕ). IsVector n m) m_wide k.vector) (ray_same ray r) (m_same m k);
    whole = λ x ray r fits x_vector feasible. benson_whole.whole file c (zeros file.objs) true y x ray fits (length-zeros file.objs) h.empty.infeasible x_vector feasible
        (ray_vector ray r) (ray_same ray r);
  }
