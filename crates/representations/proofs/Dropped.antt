-- A direction of an associated image whose entries do not sum to 0 has a positive part in the
-- orthant, and so is what is left of a unit vector.
use Rattle.std.proofs.Common.{◌≡◌, ℕ, zero, suc, ◌+◌, List, [], ◌∷◌, length, take, refl, sym, ap, ap₂, ◌∙◌, arith, ◌⊎◌, inl, inr}
use Rattle.std.proofs.lemmas.List.{length-map}
use Rattle.exact_field.specs.Rational.{ℚ, zero_ℚ, one_ℚ, ◌+ℚ◌, ◌*ℚ◌, inverse_ℚ, ◌<ℚ◌}
use Rattle.exact_field.specs.Vector.{dot, sum_ℚ}
use Rattle.exact_field.specs.Ring.{v0, v1, v2, ◌⊕◌, ◌⊗◌}
use Rattle.exact_field.proofs.RingTool.{ring}
use Rattle.exact_field.proofs.Rationals.{rationals}
use Rattle.polyhedra.specs.Vectors.{AreWide, zeros, plus, scaled, values, AtLeastZero}
use Rattle.polyhedra.specs.Hull.{IsMultiple, IsConvex, IsExtremeDirection}
use Rattle.polyhedra.specs.Image.{IsConvexCone, IsImage}
use Rattle.polyhedra.proofs.Laws.{add_zero, mul_one, le_refl, le_of_lt, zero_lt_one}
use Rattle.polyhedra.proofs.Algebra.{zero_add, mul_zero, mul_left_comm}
use Rattle.polyhedra.proofs.Order.{zero_or_positive, mul_inverse_cancel}
use Rattle.polyhedra.proofs.Linear.{dot-plus, dot-scaled, dot-zeros, length-plus, length-scaled, length-zeros, same_wide}
use Rattle.polyhedra.proofs.Image.{image_is_convex}
use Rattle.polyhedra.proofs.Lists.{nonneg-cons, nonneg-head, nonneg-tail, nonneg-plus, nonneg-scaled, nonneg-zeros}
use Rattle.polyhedra.proofs.Entries.{scaled-zeros}
use Rattle.lineality.specs.Lines.{RunsAlong, IsReducedIn, reduction}
use Rattle.lineality.proofs.Reduction.{length-reduction, reduction_same, reduction-plus, reduction-scaled, reduction_directs}
use Rattle.representations.specs.Dropped.{IsInOrthant, IsReducedUnit, DroppedAreUnits}
use Rattle.representations.specs.Lined.{unit_at}
use Rattle.representations.specs.Projection.{AreAssociated}
use Rattle.representations.proofs.Places.{length-unit}
use Rattle.representations.proofs.Slices.{sum-plus, sum-zeros, spread-sum}

-- a vector without negative entries is 0, or a positive multiple of a unit vector and another such
-- vector
record IsParted (e : List ℚ) : Type 0 where
  pub before : ℕ
  pub after : ℕ
  pub places : before + suc after ≡ length e
  pub factor : ℚ
  pub positive : zero_ℚ <ℚ factor
  pub others : List ℚ
  pub wide : length others ≡ length e
  pub at_least_zero : AtLeastZero others
  pub same : e ≡ plus (scaled factor (unit_at before after)) others

plus-zeros_left : (v : List ℚ) → plus (zeros (length v)) v ≡ v
plus-zeros_left [] = refl
plus-zeros_left (x ∷ v) = ap₂ (λ a b. a ∷ b) (zero_add x) (plus-zeros_left v)

parted : (e : List ℚ) → AtLeastZero e → (e ≡ zeros (length e)) ⊎ IsParted e
parted [] h = inl refl
parted (x ∷ e) h = go (zero_or_positive x (nonneg-head x e h)) (parted e (nonneg-tail x e h))
  where
    go : (x ≡ zero_ℚ) ⊎ (zero_ℚ <ℚ x) → (e ≡ zeros (length e)) ⊎ IsParted e → (x ∷ e ≡ zeros (length (x ∷ e))) ⊎ IsParted (x ∷ e)
    go (inr p) again = inr (record {
      before = 0;
      after = length e;
      places = omega arith;
      factor = x;
      positive = p;
      others = zero_ℚ ∷ e;
      wide = refl;
      at_least_zero = nonneg-cons zero_ℚ e (le_refl zero_ℚ) (nonneg-tail x e h);
      same = ap₂ (λ a b. a ∷ b) (sym (ap (λ q. q +ℚ zero_ℚ) (mul_one x) ∙ add_zero x))
          (sym (ap (λ v. plus v e) (scaled-zeros x (length e)) ∙ plus-zeros_left e));
    })
    go (inl z) (inl a) = inl (ap₂ (λ p q. p ∷ q) z a)
    go (inl z) (inr a) = inr (record {
      before = suc a.before;
      after = a.after;
      places = deeper a.before a.after (length e) a.places;
      factor = a.factor;
      positive = a.positive;
      others = zero_ℚ ∷ a.others;
      wide = ap suc a.wide;
      at_least_zero = nonneg-cons zero_ℚ a.others (le_refl zero_ℚ) a.at_least_zero;
      same = ap₂ (λ p q. p ∷ q) (z ∙ sym (ap (λ q. q +ℚ zero_ℚ) (mul_zero a.factor) ∙ add_zero zero_ℚ)) a.same;
    })
      where
        deeper : (b c n : ℕ) → b + suc c ≡ n → suc b + suc c ≡ suc n
        deeper b c n q = omega arith

nonneg-unit : (b c : ℕ) → AtLeastZero (unit_at b c)
nonneg-unit zero c = nonneg-cons one_ℚ (zeros c) (le_of_lt zero_ℚ one_ℚ zero_lt_one) (nonneg-zeros c)
nonneg-unit (suc b) c = nonneg-cons zero_ℚ (unit_at b c) (le_refl zero_ℚ) (nonneg-unit b c)

orthant : (n : ℕ) → IsConvexCone n (IsInOrthant n)
orthant n = record {
  wide = λ d h. h.wide;
  zero = record { wide = length-zeros n; at_least_zero = nonneg-zeros n };
  sum = λ a b h k. record { wide = length-plus n a b h.wide k.wide; at_least_zero = nonneg-plus a b h.at_least_zero k.at_least_zero };
  multiple = λ c d p h. record { wide = length-scaled c d ∙ h.wide; at_least_zero = nonneg-scaled c d p h.at_least_zero };
}

module _ (n k : ℕ) (rows objectives : List (List ℚ)) (many : length objectives ≡ suc k) (associated : AreAssociated n k objectives) (lines : List (List ℚ))
    (along : RunsAlong (suc k) (IsImage n rows (zeros (length rows)) objectives (IsInOrthant (suc k))) lines) where
  abbrev Directions : List ℚ → Type 0
  Directions = IsImage n rows (zeros (length rows)) objectives (IsInOrthant (suc k))

  convex : IsConvex (suc k) Directions Directions
  convex = image_is_convex (IsInOrthant (suc k)) n (suc k) rows (zeros (length rows)) objectives many (orthant (suc k))

  lines_wide : AreWide (suc k) lines
  lines_wide = along.echelon.wide

  -- the orthant lies among the directions
  in_image : (e : List ℚ) → IsInOrthant (suc k) e → Directions e
  in_image e h =
      let i : Directions (zeros (suc k)) = convex.direction_zero in
      let base_width : length (values objectives i.solution) ≡ suc k = length-map objectives (λ r. dot r i.solution) ∙ many in
      let more : IsInOrthant (suc k) (plus i.beyond e) = (orthant (suc k)).sum i.beyond e i.in_cone h in
      record {
        solution = i.solution;
        wide = i.wide;
        meets = i.meets;
        beyond = plus i.beyond e;
        in_cone = more;
        same = same_wide (suc k) e (plus (values objectives i.solution) (plus i.beyond e)) h.wide
            (length-plus (suc k) (values objectives i.solution) (plus i.beyond e) base_width more.wide)
            (λ r. sym (zero_add (dot r e))
            ∙ ap (λ q. q +ℚ dot r e) (sym (dot-zeros r (suc k)) ∙ ap (dot r) i.same ∙ dot-plus r (values objectives i.solution) i.beyond)
            ∙ ring rationals (dot r (values objectives i.solution) ∷ dot r i.beyond ∷ dot r e ∷ []) ((v0 ⊕ v1) ⊕ v2) (v0 ⊕ (v1 ⊕ v2)) refl
            ∙ sym (dot-plus r (values objectives i.solution) (plus i.beyond e) ∙ ap (λ q. dot r (values objectives i.solution) +ℚ q) (dot-plus r i.beyond e)));
      }

  module _ (d : List ℚ) (extreme : IsExtremeDirection (suc k) (IsReducedIn lines Directions) d) where
    own : Directions d
    own = extreme.member.member

    abbrev base : List ℚ
    base = values objectives own.solution

    base_width : length base ≡ suc k
    base_width = length-map objectives (λ r. dot r own.solution) ∙ many

    level : own.beyond ≡ zeros (length own.beyond) → sum_ℚ d ≡ zero_ℚ
    level none = ap sum_ℚ own.same ∙ sum-plus base own.beyond
        ∙ ap₂ (λ a b. a +ℚ b) (ap sum_ℚ (associated own.solution own.wide) ∙ spread-sum (take k own.solution)) (ap sum_ℚ none ∙ sum-zeros (length own.beyond)) ∙ add_zero zero_ℚ

    -- a positive multiple of a unit vector, and the rest
    module _ (p : IsParted own.beyond) where
      abbrev unit : List ℚ
      unit = unit_at p.before p.after

      abbrev part : List ℚ
      part = scaled p.factor unit

      abbrev rest : List ℚ
      rest = plus base p.others

      places : p.before + suc p.after ≡ suc k
      places = p.places ∙ own.in_cone.wide

      unit_width : length unit ≡ suc k
      unit_width = length-unit p.before p.after (suc k) places

      part_width : length part ≡ suc k
      part_width = length-scaled p.factor unit ∙ unit_width

      others_width : length p.others ≡ suc k
      others_width = p.wide ∙ own.in_cone.wide

      part_in : Directions part
      part_in = in_image part (record { wide = part_width; at_least_zero = nonneg-scaled p.factor unit (le_of_lt zero_ℚ p.factor p.positive) (nonneg-unit p.before p.after) })

      rest_in : Directions rest
      rest_in = record {
        solution = own.solution;
        wide = own.wide;
        meets = own.meets;
        beyond = p.others;
        in_cone = record { wide = others_width; at_least_zero = p.at_least_zero };
        same = refl;
      }

      d_width : length d ≡ suc k
      d_width = convex.directions_wide d own

      rest_width : length rest ≡ suc k
      rest_width = convex.directions_wide rest rest_in

      whole : d ≡ plus part rest
      whole = same_wide (suc k) d (plus part rest) d_width (length-plus (suc k) part rest part_width rest_width) (λ r.
          ap (λ v. dot r v) own.same ∙ dot-plus r base own.beyond ∙ ap (λ q. dot r base +ℚ q) (ap (λ v. dot r v) p.same ∙ dot-plus r part p.others)
          ∙ ring rationals (dot r base ∷ dot r part ∷ dot r p.others ∷ []) (v0 ⊕ (v1 ⊕ v2)) (v1 ⊕ (v0 ⊕ v2)) refl
          ∙ sym (dot-plus r part rest ∙ ap (λ q. dot r part +ℚ q) (dot-plus r base p.others)))

      reduced_whole : d ≡ plus (reduction (suc k) lines part) (reduction (suc k) lines rest)
      reduced_whole = sym (reduction_same (suc k) lines d lines_wide d_width extreme.member.reduced) ∙ ap (reduction (suc k) lines) whole
          ∙ reduction-plus (suc k) lines part rest lines_wide part_width rest_width

      multiple : IsMultiple d (reduction (suc k) lines part)
      multiple = (extreme.no_sum (reduction (suc k) lines part) (reduction (suc k) lines rest) (reduction_directs (suc k) Directions Directions lines convex along part part_in)
          (reduction_directs (suc k) Directions Directions lines convex along rest rest_in) reduced_whole).0

      left : IsReducedUnit (suc k) lines d
      left = record {
        before = p.before;
        after = p.after;
        places = places;
        multiple = record {
          factor = inverse_ℚ p.factor *ℚ multiple.factor;
          same = same_wide (suc k) (reduction (suc k) lines unit) (scaled (inverse_ℚ p.factor *ℚ multiple.factor) d)
              (length-reduction (suc k) lines unit lines_wide unit_width) (length-scaled (inverse_ℚ p.factor *ℚ multiple.factor) d ∙ d_width)
              (λ r. sym (mul_inverse_cancel p.factor (dot r (reduction (suc k) lines unit)) p.positive)
              ∙ mul_left_comm p.factor (inverse_ℚ p.factor) (dot r (reduction (suc k) lines unit))
              ∙ ap (λ q. inverse_ℚ p.factor *ℚ q) (sym (dot-scaled r p.factor (reduction (suc k) lines unit))
              ∙ ap (dot r) (sym (reduction-scaled (suc k) lines p.factor unit lines_wide unit_width) ∙ multiple.same) ∙ dot-scaled r multiple.factor d)
              ∙ ring rationals (inverse_ℚ p.factor ∷ multiple.factor ∷ dot r d ∷ []) (v0 ⊗ (v1 ⊗ v2)) ((v0 ⊗ v1) ⊗ v2) refl
              ∙ sym (dot-scaled r (inverse_ℚ p.factor *ℚ multiple.factor) d));
        };
      }

    dropped : (sum_ℚ d ≡ zero_ℚ) ⊎ IsReducedUnit (suc k) lines d
    dropped = go (parted own.beyond own.in_cone.at_least_zero)
      where
        go : (own.beyond ≡ zeros (length own.beyond)) ⊎ IsParted own.beyond → (sum_ℚ d ≡ zero_ℚ) ⊎ IsReducedUnit (suc k) lines d
        go (inl none) = inl (level none)
        go (inr p) = inr (left p)

pub dropped_are_units : DroppedAreUnits
dropped_are_units n k rows objectives many associated lines along d extreme = dropped n k rows objectives many associated lines along d extreme
