-- The overflow of a full share.
use Rattle.std.proofs.Common.{◌≡◌, ℕ, List, [], refl, sym, ap, ap₂, ◌∙◌, subst, ◌≤◌, Bool, inl, inr, length}
use Rattle.exact_field.specs.Field.{IsLeftOf}
use Rattle.exact_field.specs.Rational.{ℚ, zero_ℚ, neg_ℚ, ◌<ℚ◌, ◌*ℚ◌}
use Rattle.exact_field.specs.Vector.{entry}
use Rattle.exact_field.specs.declared.op.Op.{Op}
use Rattle.exact_field.specs.declared.op.Op.TheVariants.{Add, Mul}
use Rattle.exact_field.specs.declared.op.Left.{Left as Operation}
use Rattle.polyhedra.specs.DoubleDescription.{magnitude}
use Rattle.lin_rows.specs.Sums.{IsCombineFault, IsPlusLeft}
use Rattle.lin_rows.specs.declared.fault.RowFault.{RowFault}
use Rattle.lin_rows.specs.declared.fault.RowFault.TheVariants.{Left as Stuck, NoMemory as Want}
use Rattle.deriv_log.specs.declared.entry.Entry.{Entry}
use Rattle.deriv_log.specs.declared.licence.Licence.{Licence}
use Rattle.deriv_log.specs.declared.licence.Place.TheVariants.{Elim}
use Rattle.lp_form.specs.Programs.{share_of, value_of}
use Rattle.overflows.specs.Licence.{IsOverflow}
use Rattle.overflows.specs.Products.{AreBensonMultipliers, IsListStep, IsShareStep}
use Rattle.overflows.specs.Settings.{Setting}
use Rattle.overflows.specs.Steps.{IsNotHeld, in_numbers, operation}
use Rattle.overflows.specs.Faults.{IsEliminationLeft, IsLeftAt, Overflows, placed}
use Rattle.overflows.proofs.Placed.{placed_none}
use Rattle.overflows.specs.declared.fault.SolveFault.{SolveFault}
use Rattle.overflows.specs.declared.fault.SolveFault.TheVariants.{Left, NoMemory}
use Rattle.benson_program.proofs.Counted.{magnitude_below}

module _ {F : Type 0} (value : F → ℚ) (holds : ℚ → Bool) (s : Setting) (y share weights : List ℚ) (factor : ℚ) (read : AreBensonMultipliers s y)
    (share_is : share ≡ share_of s.file s.file.cone y) (weights_are : weights ≡ s.weights) (low : value_of y <ℚ zero_ℚ) (factor_is : factor ≡ neg_ℚ (value_of y))
    (long : length share ≡ length weights) where
  factor_same : factor ≡ magnitude (value_of y)
  factor_same = factor_is ∙ sym (magnitude_below (value_of y) low)

  in_place : (o : Op) (a b x z : ℚ) (left : Operation F) → IsLeftOf value holds o a b left → a ≡ x → b ≡ z → in_numbers value left ≡ operation o x z
  in_place o a b x z left h k l = ap (λ (p : Op). operation p (value left.a) (value left.b)) h.0 ∙ ap₂ (λ (p q : ℚ). operation o p q) (h.1 ∙ k) (h.2 ∙ l)

  share_step : (col step : ℕ) (left : Operation F) → 1 ≤ col → col ≤ length share → IsPlusLeft value holds (entry share col) factor (entry weights col) step left →
      IsShareStep s col step (in_numbers value left) × IsNotHeld holds (in_numbers value left)
  share_step col step left from_one to_end (inl h) = (
    record {
      multipliers = y;
      read = read;
      negative = low;
      from_one = from_one;
      to_end = subst (λ (n : ℕ). col ≤ n) (long ∙ ap length weights_are) to_end;
      operands = inl (
        h.0,
        in_place Mul factor (entry weights col) (magnitude (value_of y)) (entry s.weights col) left h.1 factor_same
            (ap (λ w. entry w col) weights_are),
      );
    },
    subst (IsNotHeld holds) (sym (in_place Mul factor (entry weights col) factor (entry weights col) left h.1 refl refl))
        record { defined = λ e. cc; not_held = h.1.3 },
  )
  share_step col step left from_one to_end (inr h) = (
    record {
      multipliers = y;
      read = read;
      negative = low;
      from_one = from_one;
      to_end = subst (λ (n : ℕ). col ≤ n) (long ∙ ap length weights_are) to_end;
      operands = inr (
        h.0,
        in_place Add (entry share col) (factor *ℚ entry weights col) (entry (share_of s.file s.file.cone y) col)
            (magnitude (value_of y) *ℚ entry s.weights col) left h.1 (ap (λ w. entry w col) share_is)
            (ap₂ (λ (p : ℚ) (w : List ℚ). p *ℚ entry w col) factor_same weights_are),
      );
    },
    subst (IsNotHeld holds) (sym (in_place Add (entry share col) (factor *ℚ entry weights col) (entry share col) (factor *ℚ entry weights col) left h.1 refl refl))
        record { defined = λ e. cc; not_held = h.1.3 },
  )

  licensed : (rows : List (List ℚ)) (basis : List ℕ) (row col step : ℕ) (left : Operation F) (trail : List Entry) (result : SolveFault) → trail ≡ [] → rows ≡ [] → basis ≡ [] → row ≡ 0 →
      IsShareStep s col step (in_numbers value left) → IsNotHeld holds (in_numbers value left) → IsLeftAt (Elim rows basis row col step) (in_numbers value left) trail result →
      Overflows holds s [] result
  licensed rows basis row col step left trail (Left licence) none no_rows no_basis first is unheld told =
      subst (λ (l : Licence). (l.trail ≡ []) × IsOverflow holds s l.place l.left) (sym told)
      (none, record { not_held = unheld; operands = inr (first, no_basis, IsListStep.share no_rows is) })
  licensed rows basis row col step left trail NoMemory none no_rows no_basis first is unheld told = tt

pub weighed_left : {F : Type 0} (value : F → ℚ) (holds : ℚ → Bool) (s : Setting) (y share weights : List ℚ) (factor : ℚ) (fault : RowFault F) (result : SolveFault)
    (rows : List (List ℚ)) (trail : List Entry) → trail ≡ [] → rows ≡ [] → AreBensonMultipliers s y → share ≡ share_of s.file s.file.cone y → weights ≡ s.weights →
    value_of y <ℚ zero_ℚ → factor ≡ neg_ℚ (value_of y) → length share ≡ length weights → IsEliminationLeft value rows trail fault result →
    IsCombineFault value holds share factor weights fault → Overflows holds s [] result
weighed_left value holds s y share weights factor (Stuck basis row col step left) result rows trail none no_rows read share_is weights_are low factor_is long told h =
    let found = share_step value holds s y share weights factor read share_is weights_are low factor_is long col step left h.2 h.3 h.4 in
    licensed value holds s y share weights factor read share_is weights_are low factor_is long rows (placed (length rows) row basis) row col step left trail result none no_rows
    (placed_none (length rows) row basis h.1 ∙ h.0) h.1 found.0 found.1 told
weighed_left value holds s y share weights factor Want result rows trail none no_rows read share_is weights_are low factor_is long told h =
    subst (λ (r : SolveFault). Overflows holds s [] r) (sym told) tt
