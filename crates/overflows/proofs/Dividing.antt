-- Quotients that are written entry by entry.
use Rattle.std.proofs.Common.{◌≡◌, ℕ, List, [], ◌∷◌, ◌++◌, length, map, take, sym, ap, ap₂, ◌∙◌, arith, ◌<◌, ◌+◌, slice_index_or}
use Rattle.std.specs.Prelude.{Bool, IsFalse}
use Rattle.std.proofs.lemmas.List.{map_push, take_more, get_or-map, length-map}
use Rattle.exact_field.specs.Rational.{ℚ, zero_ℚ, ◌*ℚ◌, ◌/ℚ◌, inverse_ℚ}
use Rattle.exact_field.specs.Vector.{entry}
use Rattle.exact_field.specs.declared.op.Op.TheVariants.{Div}
use Rattle.exact_field.specs.declared.op.Left.{Left as Operation}
use Rattle.exact_field.proofs.Rationals.{mul_comm_ℚ}
use Rattle.polyhedra.specs.Vectors.{scaled}
use Rattle.lin_rows.proofs.Summing.{entry_read}
use Rattle.overflows.specs.Faults.{IsQuotientAt}

module _ {F : Type 0} (value : F → ℚ) where
  pub divided_more : (by : ℚ) (xs : List F) (i : ℕ) (old new : List F) (x z : F) → i < length xs → x ≡ slice_index_or xs i x → new ≡ old ++ z ∷ [] →
      map value old ≡ scaled (inverse_ℚ by) (take i (map value xs)) → value z ≡ value x /ℚ by → map value new ≡ scaled (inverse_ℚ by) (take (i + 1) (map value xs))
  divided_more by xs i old new x z inside x_is pushed before is =
      let here : slice_index_or (map value xs) i zero_ℚ ≡ value x = get_or-map value xs i x zero_ℚ inside ∙ ap value (sym x_is) in
      let own : value z ≡ inverse_ℚ by *ℚ slice_index_or (map value xs) i zero_ℚ =
      is ∙ mul_comm_ℚ (value x) (inverse_ℚ by) ∙ ap (λ (y : ℚ). inverse_ℚ by *ℚ y) (sym here) in
      ap (map value) pushed ∙ map_push value old z ∙ ap₂ (λ (p : List ℚ) (y : ℚ). p ++ y ∷ []) before own
      ∙ sym
      (ap (scaled (inverse_ℚ by)) (take_more (map value xs) i zero_ℚ (omega (arith, inside, length-map xs value)))
      ∙ map_push (λ (y : ℚ). inverse_ℚ by *ℚ y) (take i (map value xs)) (slice_index_or (map value xs) i zero_ℚ))

  pub quotient_at : (holds : ℚ → Bool) (xs : List F) (i : ℕ) (x by : F) (left : Operation F) → i < length xs → x ≡ slice_index_or xs i x →
      left ≡ record { op = Div; a = x; b = by } → IsFalse (holds (value x /ℚ value by)) → IsQuotientAt value holds (map value xs) (i + 1) left
  quotient_at holds xs i x by left inside x_is told unheld =
      let here : entry (map value xs) (i + 1) ≡ value x = entry_read value holds xs i x inside x_is in
      let divisor : value left.b ≡ value by = ap (λ (l : Operation F). value l.b) told in
      record {
        from_one = omega arith;
        to_end = omega (arith, inside, length-map xs value);
        division = ap (λ (l : Operation F). l.op) told;
        entry_is = ap (λ (l : Operation F). value l.a) told ∙ sym here;
        not_held = ap holds (ap₂ (λ (a b : ℚ). a /ℚ b) here divisor) ∙ unheld;
      }
