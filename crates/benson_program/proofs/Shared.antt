-- The pre-image that low multipliers of Benson's program say.
use Rattle.std.proofs.Common.{◌≡◌, ℕ, suc, List, map, length, refl, sym, ap, ◌∙◌, subst, arith, ◌≤◌, ◌+◌, Bool, true, false}
use Rattle.std.specs.Prelude.{if◌then◌else◌}
use Rattle.std.proofs.lemmas.List.{length-map, length-take-le}
use Rattle.exact_field.specs.Rational.{ℚ, zero_ℚ, lt_ℚ, neg_ℚ, ◌<ℚ◌}
use Rattle.frac128.specs.declared.vectors.Spot.{Spot}
use Rattle.polyhedra.specs.Vectors.{plus, scaled}
use Rattle.polyhedra.proofs.Linear.{length-plus, length-scaled}
use Rattle.tableaux.specs.Simplex.{IsOptimal}
use Rattle.vlp_problem.specs.Sides.{IsFeasible, IsRecession}
use Rattle.vlp_problem.specs.declared.problem.Problem.{Problem}
use Rattle.vlp_problem.specs.declared.problem.Cone.{Cone}
use Rattle.upper_image.specs.Shows.{ShowsFitting}
use Rattle.upper_image.specs.Spots.{dense, IsVector}
use Rattle.lp_form.specs.Programs.{benson_system, choice_of, dual_equations, full_share_of, generators, share_of, value_of}
use Rattle.overflows.specs.Base.{AreMultipliersOff, IsBaseStart}
use Rattle.overflows.specs.Products.{AreBensonMultipliers}
use Rattle.overflows.specs.Settings.{Knows, Setting}
use Rattle.benson_program.proofs.AsPreimage.{benson_preimage, multipliers_long}
use Rattle.benson_program.proofs.Counted.{generators_few}
use Rattle.benson_program.proofs.Divided.{length-share}
use Rattle.benson_program.specs.Preimages.{AreLowMultipliers}
use Rattle.overflows.specs.Preimages.{IsPreimageOf, ShowsChosen}
use Rattle.lp_form.specs.Sparse.{IsSparseOf}
use Rattle.lp_form.specs.declared.shown.Preimage.{Preimage}

module _ (file : Problem) (c v : List ℚ) (t : Bool) (y : List ℚ) (h : AreLowMultipliers file c v t y) where
  pub low_long : length y ≡ suc (file.cols + dual_equations file.objs file.cone)
  low_long = multipliers_long file c v t y h.c_wide h.v_wide h.optimum.optimal.one_each

  pub read_off : AreMultipliersOff (benson_system file c v t) y
  read_off = record { basis = h.basis; dictionary = h.optimum.dictionary; full = h.optimum.read.feasible.full; reads = h.optimum.read.dual_read }

  pub within_y : file.cols + length (generators file.cone) ≤ length y
  within_y = omega (arith, low_long, generators_few file.objs file.cone)

-- in a setting that knows c, with a base start vector
pub benson_multipliers : (s : Setting) (c v : List ℚ) (t : Bool) (y : List ℚ) → Knows s c → IsBaseStart s.file.objs s.trail v t →
    AreLowMultipliers s.file c v t y → AreBensonMultipliers s y
benson_multipliers s c v t y known start h = record { c = c; known = known; v = v; t = t; base = start; read = read_off s.file c v t y h }

-- a full share by cases
pub full_below : (file : Problem) (c : Cone) (weights y : List ℚ) → value_of y <ℚ zero_ℚ →
    plus (share_of file c y) (scaled (neg_ℚ (value_of y)) weights) ≡ full_share_of file c weights y
full_below file c weights y l =
    sym (ap (λ (b : Bool). if b then plus (share_of file c y) (scaled (neg_ℚ (value_of y)) weights) else share_of file c y) l)

pub full_other : (file : Problem) (c : Cone) (weights y : List ℚ) → (value_of y <ℚ zero_ℚ → ⊥) → share_of file c y ≡ full_share_of file c weights y
full_other file c weights y h = go (lt_ℚ (value_of y) zero_ℚ) refl
  where
    go : (b : Bool) → lt_ℚ (value_of y) zero_ℚ ≡ b → share_of file c y ≡ (if b then plus (share_of file c y) (scaled (neg_ℚ (value_of y)) weights) else share_of file c y)
    go true e = absurd (h e)
    go false e = refl

length-full : (file : Problem) (c : Cone) (weights y : List ℚ) → length weights ≡ length (generators c) → file.cols + length (generators c) ≤ length y →
    length (full_share_of file c weights y) ≡ length (generators c)
length-full file c weights y w l = go (lt_ℚ (value_of y) zero_ℚ)
  where
    go : (b : Bool) → length (if b then plus (share_of file c y) (scaled (neg_ℚ (value_of y)) weights) else share_of file c y) ≡ length (generators c)
    go true =
        length-plus (length (generators c)) (share_of file c y) (scaled (neg_ℚ (value_of y)) weights) (length-share file c y l)
        (length-scaled (neg_ℚ (value_of y)) weights ∙ w)
    go false = length-share file c y l

module _ {F : Type 0} (value : F → ℚ) (file : Problem) (c weights v : List ℚ) (t : Bool) (y : List ℚ) (h : AreLowMultipliers file c v t y) (parts : Preimage F)
    (weights_long : length weights ≡ length (generators file.cone)) (x_is : map value parts.x ≡ choice_of file y)
    (m_is : map value parts.m ≡ full_share_of file file.cone weights y) where
  x_wide : length parts.x ≡ file.cols
  x_wide = sym (length-map parts.x value) ∙ ap length x_is ∙ length-take-le file.cols y (omega (arith, low_long file c v t y h))

  m_wide : length parts.m ≡ length (generators file.cone)
  m_wide = sym (length-map parts.m value) ∙ ap length m_is ∙ length-full file file.cone weights y weights_long (within_y file c v t y h)

  x_same : (x : List Spot) → IsSparseOf value parts.x x → dense file.cols x ≡ choice_of file y
  x_same x r = subst (λ (n : ℕ). dense n x ≡ choice_of file y) x_wide (r.same ∙ x_is)

  m_same : (m : List Spot) → IsSparseOf value parts.m m → dense (length (generators file.cone)) m ≡ full_share_of file file.cone weights y
  m_same m r = subst (λ (n : ℕ). dense n m ≡ full_share_of file file.cone weights y) m_wide (r.same ∙ m_is)

-- the choice is a feasible point, or a direction of the feasible set
chosen : {F : Type 0} (value : F → ℚ) (file : Problem) (c v : List ℚ) (t : Bool) (z y : List ℚ) (x : List Spot) → length c ≡ file.objs → length v ≡ file.objs →
    IsOptimal (benson_system file c v t) z y → IsVector file.cols x → dense file.cols x ≡ choice_of file y → ShowsChosen file t x
chosen value file c v true z y x c_long v_long h vector same =
    record { index = vector.places; side = subst (IsFeasible file) (sym same) (benson_preimage.feasible file c v z y c_long v_long h) }
chosen value file c v false z y x c_long v_long h vector same =
    record { index = vector.places; side = subst (IsRecession file) (sym same) (benson_preimage.recedes file c v z y c_long v_long h) }

module _ {F : Type 0} (value : F → ℚ) (file : Problem) (c weights v : List ℚ) (t : Bool) (y : List ℚ) (h : AreLowMultipliers file c v t y) (parts : Preimage F)
    (weights_long : length weights ≡ length (generators file.cone)) (x_is : map value parts.x ≡ choice_of file y)
    (m_is : map value parts.m ≡ full_share_of file file.cone weights y) where
  pub preimages : (picks : List ℕ) (inverse : List ℚ) → ShowsFitting file c weights picks inverse → IsPreimageOf value file c weights v t parts
  preimages picks inverse fits =
      let x_long = x_wide value file c weights v t y h parts weights_long x_is m_is in
      let m_long = m_wide value file c weights v t y h parts weights_long x_is m_is in
      let x_dense = x_same value file c weights v t y h parts weights_long x_is m_is in
      let m_dense = m_same value file c weights v t y h parts weights_long x_is m_is in
      record {
        x_wide = x_long;
        m_wide = m_long;
        read = λ x m r k. record { multipliers = y; read = read_off file c v t y h; choice = x_dense x r; share = m_dense m k };
        chosen = λ x r. chosen value file c v t h.solution y x h.c_wide h.v_wide h.optimum.optimal (subst (λ (n : ℕ). IsVector n x) x_long r.vector) (x_dense x r);
        above = λ x m r k. benson_preimage.above file c weights picks inverse v t h.solution y x m fits h.v_wide h.optimum.optimal h.low
            (subst (λ (n : ℕ). IsVector n m) m_long k.vector) (x_dense x r) (m_dense m k);
      }
