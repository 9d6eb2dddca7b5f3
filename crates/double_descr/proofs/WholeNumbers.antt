-- Lists of whole numbers that are in the ratio of a vector's entries.
use Rattle.std.specs.Prelude.{Option, Some, IfSome, ◌≡◌, ◌≢◌, ℕ, ℤ, pos, ◌+◌, ◌<◌, ◌+ℤ◌, ◌*ℤ◌, ◌<ℤ◌, Bool, true, IsTrue, List, [], ◌∷◌, All, length, map, drop, slice_index_or, unsigned_abs, refl}
use Rattle.std.proofs.Common.{arith, sym, ap, ap₂, ◌∙◌, subst}
use Rattle.std.proofs.lemmas.List.{at_drop_more, drop-map}
use Rattle.std.proofs.lemmas.List.Elements.{All-nil, All-cons, All-append, All-head, All-tail}
use Rattle.exact_field.specs.Over.{IsBelowLimit, IsOver, IsQuotient}
use Rattle.exact_field.specs.Rational.{ℚ, zero_ℚ, one_ℚ, whole, neg_ℚ, inverse_ℚ, ◌+ℚ◌, ◌*ℚ◌, ◌/ℚ◌, ◌<ℚ◌}
use Rattle.exact_field.specs.Ring.{◌⊗◌, v0, v1, v2, v3, v4}
use Rattle.exact_field.specs.Order.{same_ℚ}
use Rattle.exact_field.proofs.Comparison.{same_ℚ-is}
use Rattle.exact_field.proofs.RingTool.{ring}
use Rattle.exact_field.proofs.RationalLaws.{whole-mul, whole_injective}
use Rattle.exact_field.proofs.Rationals.{rationals, mul-inverse_ℚ, mul_comm_ℚ, mul-one_ℚ, one-mul_ℚ, quotient_unique}
use Rattle.exact_field.proofs.Numerators.{positive_is, quotient_small, sum_over}
use Rattle.exact_field.proofs.Inequalities.{positive_from_nonnegative, zero-le-whole, mul-positive, inverse-positive}
use Rattle.exact_field.specs.declared.op.Op.TheVariants.{Add, Mul, Div}
use Rattle.polyhedra.specs.DoubleDescription.{magnitude, norming, normed}
use Rattle.polyhedra.specs.Vectors.{scaled}
use Rattle.polyhedra.proofs.Norming.{norming-scaled, magnitude-scaled, magnitude-positive}
use Rattle.polyhedra.proofs.Order.{not_zero_of_positive}
use Rattle.double_descr.specs.declared.scales.Scales.{Scales}
use Rattle.double_descr.specs.Wholes.{AreNumbersBetween, AreScalesOf, IsEntryOver}
use Rattle.double_descr.specs.Steps.{IsHeld, between, combination_steps, meeting_steps, quotient_steps}

-- ---- the factor and an entry over the scale

-- with the values a and b of the row over d and e, the factor a / b over the scale
pub factor_over : (a b : ℚ) (d e above below n scale : ℤ) → (b ≡ zero_ℚ → ⊥) → IsOver d a above → IsOver e b below → n ≡ above *ℤ e → scale ≡ d *ℤ below → IsQuotient scale n (a /ℚ b)
factor_over a b d e above below n scale some ha hb en es =
    ap (λ (z : ℤ). a /ℚ b *ℚ whole z) es
    ∙ ap (λ (z : ℚ). a /ℚ b *ℚ z) (sym (whole-mul d below) ∙ ap (λ (z : ℚ). whole d *ℚ z) hb.0)
    ∙ ring rationals (a ∷ inverse_ℚ b ∷ whole d ∷ b ∷ whole e ∷ []) (v0 ⊗ v1 ⊗ (v2 ⊗ (v3 ⊗ v4))) ((v0 ⊗ v2) ⊗ v4 ⊗ (v3 ⊗ v1)) refl
    ∙ ap (λ (z : ℚ). a *ℚ whole d *ℚ whole e *ℚ z) (mul-inverse_ℚ b some)
    ∙ mul-one_ℚ (a *ℚ whole d *ℚ whole e)
    ∙ ap (λ (z : ℚ). z *ℚ whole e) (sym ha.0)
    ∙ whole-mul above e
    ∙ ap whole (sym en)

-- a product with the factor, over the scale
pub term_over : (k y : ℚ) (e above m n t scale : ℤ) → IsQuotient scale n k → n ≡ above *ℤ e → IsOver e y m → t ≡ above *ℤ m → IsQuotient scale t (k *ℚ y)
term_over k y e above m n t scale hk en hy et =
    ring rationals (k ∷ y ∷ whole scale ∷ []) (v0 ⊗ v1 ⊗ v2) ((v0 ⊗ v2) ⊗ v1) refl
    ∙ ap (λ (z : ℚ). z *ℚ y) (hk ∙ ap whole en ∙ sym (whole-mul above e))
    ∙ ring rationals (whole above ∷ whole e ∷ y ∷ []) (v0 ⊗ v1 ⊗ v2) (v0 ⊗ (v2 ⊗ v1)) refl
    ∙ ap (λ (z : ℚ). whole above *ℚ z) (sym hy.0)
    ∙ whole-mul above m
    ∙ ap whole (sym et)

-- an entry of the first vector, over the scale
pub first_over : (x : ℚ) (d n below t scale : ℤ) → IsOver d x n → t ≡ n *ℤ below → scale ≡ d *ℤ below → IsQuotient scale t x
first_over x d n below t scale hx et es =
    ap (λ (z : ℤ). x *ℚ whole z) es
    ∙ ap (λ (z : ℚ). x *ℚ z) (sym (whole-mul d below))
    ∙ ring rationals (x ∷ whole d ∷ whole below ∷ []) (v0 ⊗ (v1 ⊗ v2)) ((v0 ⊗ v1) ⊗ v2) refl
    ∙ ap (λ (z : ℚ). z *ℚ whole below) (sym hx.0)
    ∙ whole-mul n below
    ∙ ap whole (sym et)

pub entry_total : (k x y : ℚ) (s : Scales) (n m first second t : ℤ) → AreScalesOf k s → IsOver s.den x n → IsOver s.other_den y m →
    first ≡ n *ℤ s.below → second ≡ s.above *ℤ m → IsBelowLimit second → t ≡ first +ℤ second → IsBelowLimit t → IsEntryOver s.scale k x y t
entry_total k x y s n m first second t h hx hy ef es small et few =
    let term = term_over k y s.other_den s.above m (s.above *ℤ s.other_den) second s.scale h.factor refl hy es in
    record {
      sum = sum_over x (k *ℚ y) first second t s.scale (first_over x s.den n s.below first s.scale hx ef s.scale_is) term et;
      sum_small = few;
      term_small = quotient_small (k *ℚ y) second s.scale s.positive term small s.small;
    }

-- the numbers of a list from a place on
pub numbers_at : (ns : List ℤ) (i : ℕ) → i < length ns → drop i (map whole ns) ≡ whole (slice_index_or ns i (pos 0)) ∷ drop (i + 1) (map whole ns)
numbers_at ns i within =
    drop-map whole i ns
    ∙ at_drop_more (map whole) ns i (pos 0) within
    ∙ ap (λ (zs : List ℚ). whole (slice_index_or ns i (pos 0)) ∷ zs) (sym (drop-map whole (i + 1) ns))

pub whole_positive : (n : ℤ) → pos 0 <ℤ n → zero_ℚ <ℚ whole n
whole_positive n h =
    let p = positive_is n h in
    subst (λ (z : ℤ). zero_ℚ <ℚ whole z) p.0
    (positive_from_nonnegative (whole (pos (unsigned_abs n))) (zero-le-whole (unsigned_abs n))
    (λ e. let k : unsigned_abs n ≡ 0 = ap unsigned_abs (whole_injective (pos (unsigned_abs n)) (pos 0) e) in omega (arith, k, p.1)))

-- a quotient by a positive number
pub quotient_by : (q : ℚ) (n by : ℤ) → pos 0 <ℤ by → IsQuotient by n q → q ≡ inverse_ℚ (whole by) *ℚ whole n
quotient_by q n by some h =
    quotient_unique (whole n) (whole by) q (not_zero_of_positive (whole by) (whole_positive by some)) h
    ∙ mul_comm_ℚ (whole n) (inverse_ℚ (whole by))

-- ---- a multiple that is normed

-- of the positive multiples of a vector the one whose norming entry has the magnitude 1 is the vector normed
pub normed_multiple : (q : ℚ) (v h : List ℚ) → zero_ℚ <ℚ q → h ≡ scaled q v → magnitude (norming h) ≡ one_ℚ → (norming v ≡ zero_ℚ → ⊥) → h ≡ normed v
normed_multiple q v h some e norm other =
    let size : ℚ = magnitude (norming v) in
    let one : q *ℚ size ≡ one_ℚ = sym (magnitude-scaled q (norming v) some) ∙ ap magnitude (sym (norming-scaled q v some)) ∙ ap (λ (w : List ℚ). magnitude (norming w)) (sym e) ∙ norm in
    let size_other : size ≢ zero_ℚ = not_zero_of_positive size (magnitude-positive (norming v) other) in
    let q_is : q ≡ inverse_ℚ size = quotient_unique one_ℚ size q size_other one ∙ one-mul_ℚ (inverse_ℚ size) in
    e ∙ ap (λ (x : ℚ). scaled x v) q_is

pub scaled_twice : (p q : ℚ) (v : List ℚ) → scaled p (scaled q v) ≡ scaled (p *ℚ q) v
scaled_twice p q [] = refl
scaled_twice p q (x ∷ v) = ap₂ (λ (y : ℚ) (w : List ℚ). y ∷ w) (ring rationals (p ∷ q ∷ x ∷ []) (v0 ⊗ (v1 ⊗ v2)) ((v0 ⊗ v1) ⊗ v2) refl) (scaled_twice p q v)

-- ---- steps that are held

-- where the quotients are held, so are the steps that divide
pub quotients_held : (holds : ℚ → Bool) (d : ℚ) (v : List ℚ) → All (λ q. IsTrue (holds q)) (scaled (inverse_ℚ d) v) → All (IsHeld holds) (quotient_steps d v)
quotients_held holds d [] h = All-nil (IsHeld holds)
quotients_held holds d (x ∷ v) h =
    All-cons (IsHeld holds) (record { op = Div; a = x; b = d }) (quotient_steps d v)
    (subst (λ (q : ℚ). IsTrue (holds q)) (mul_comm_ℚ (inverse_ℚ d) x) (All-head (λ q. IsTrue (holds q)) (inverse_ℚ d *ℚ x) (scaled (inverse_ℚ d) v) h))
    (quotients_held holds d v (All-tail (λ q. IsTrue (holds q)) (inverse_ℚ d *ℚ x) (scaled (inverse_ℚ d) v) h))

-- the two steps of an entry
pub entry_held : (holds : ℚ → Bool) (k x y : ℚ) (p m p' m' : List ℚ) → p ≡ x ∷ p' → m ≡ y ∷ m' → IsTrue (holds (k *ℚ y)) → IsTrue (holds (x +ℚ k *ℚ y)) → All (IsHeld holds) (combination_steps k p' m') → All (IsHeld holds) (combination_steps k p m)
entry_held holds k x y p m p' m' e f term sum rest =
    subst (All (IsHeld holds)) (sym (ap₂ (combination_steps k) e f))
    (All-cons (IsHeld holds) (record { op = Mul; a = k; b = y }) (record { op = Add; a = x; b = k *ℚ y } ∷ combination_steps k p' m') term
    (All-cons (IsHeld holds) (record { op = Add; a = x; b = k *ℚ y }) (combination_steps k p' m') sum rest))

-- all steps of a meeting point
pub all_held : (holds : ℚ → Bool) (a b : ℚ) (p m : List ℚ) → IsTrue (holds (a /ℚ neg_ℚ b)) → All (IsHeld holds) (combination_steps (a /ℚ neg_ℚ b) p m) → All (λ q. IsTrue (holds q)) (normed (between a b p m)) → All (IsHeld holds) (meeting_steps a b p m)
all_held holds a b p m first steps quotients =
    All-cons (IsHeld holds) (record { op = Div; a = a; b = neg_ℚ b }) _ first
    (All-append (IsHeld holds) (combination_steps (a /ℚ neg_ℚ b) p m) (quotient_steps (magnitude (norming (between a b p m))) (between a b p m)) steps (quotients_held holds (magnitude (norming (between a b p m))) (between a b p m) quotients))

-- ---- the meeting point

-- what is divided and normed is the meeting point, normed
pub numbers_normed : (holds : ℚ → Bool) (a b : ℚ) (p m : List ℚ) (ns : List ℤ) (by : ℤ) (out : List ℚ) → AreNumbersBetween holds a b p m ns → pos 0 <ℤ by →
    out ≡ scaled (inverse_ℚ (whole by)) (map whole ns) → magnitude (norming out) ≡ one_ℚ → norming (between a b p m) ≢ zero_ℚ → out ≡ normed (between a b p m)
numbers_normed holds a b p m ns by out h some e norm other =
    normed_multiple (inverse_ℚ (whole by) *ℚ whole h.scale) (between a b p m) out
    (mul-positive (inverse_ℚ (whole by)) (whole h.scale) (inverse-positive (whole by) (whole_positive by some)) (whole_positive h.scale h.positive))
    (e ∙ ap (scaled (inverse_ℚ (whole by))) h.multiple ∙ scaled_twice (inverse_ℚ (whole by)) (whole h.scale) (between a b p m))
    norm other

-- a vector whose norming entry was tested
pub tested_norm : (v : List ℚ) (size one : ℚ) → size ≡ magnitude (norming v) → one ≡ one_ℚ → same_ℚ size one ≡ true → magnitude (norming v) ≡ one_ℚ
tested_norm v size one is_size is_one same = sym is_size ∙ (same_ℚ-is size one).0 same ∙ is_one

-- what is said of a value that there is
pub the_some : {X : Type 0} (P : X → Type 0) (o : Option X) (x : X) → o ≡ Some x → IfSome o P → P x
the_some P o x e h = subst (λ (r : Option _). IfSome r P) e h
