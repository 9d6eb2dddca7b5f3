-- What eliminations and sums of products tell of their overflows, as licences of a conversion.
use Rattle.std.proofs.Common.{◌≡◌, ℕ, ◌+◌, ◌-◌, List, [], ◌∷◌, ◌++◌, length, refl, sym, ap, ap₂, ◌∙◌, subst, IsTrue, ◌⊎◌, inl, inr}
use Rattle.std.specs.Prelude.{IsFalse}
use Rattle.std.proofs.lemmas.List.{map-id}
use Rattle.exact_field.specs.Field.{exact}
use Rattle.exact_field.specs.Rational.{ℚ, zero_ℚ, ◌+ℚ◌, ◌*ℚ◌, ◌/ℚ◌, whole}
use Rattle.exact_field.specs.Vector.{entry}
use Rattle.exact_field.specs.declared.op.Op.{Op}
use Rattle.exact_field.specs.declared.op.Op.TheVariants.{Add, Mul, Div}
use Rattle.exact_field.specs.declared.op.Left.{Left as Operation}
use Rattle.polyhedra.specs.DoubleDescription.{magnitude, norming}
use Rattle.tableaux.specs.Table.{Table, beside_unit, column_of, row_of, unit}
use Rattle.tableaux.proofs.Places.{length-list_from}
use Rattle.frac128.specs.Held.{is_held}
use Rattle.lin_rows.specs.Eliminate.{IsElimFault}
use Rattle.lin_rows.specs.Read.{numbers}
use Rattle.lin_rows.specs.Sums.{IsTermLeft, partial}
use Rattle.lin_rows.specs.declared.fault.RowFault.{RowFault}
use Rattle.lin_rows.specs.declared.fault.RowFault.TheVariants.{Left as Stuck, NoMemory as Want}
use Rattle.double_descr.specs.Starting.{IsNormingLeft, IsStartFault}
use Rattle.double_descr.specs.declared.fault.DdFault.TheVariants.{Elim as Starting}
use Rattle.deriv_log.specs.declared.licence.Licence.{Licence}
use Rattle.deriv_log.specs.declared.licence.Place.{Place}
use Rattle.deriv_log.specs.declared.licence.Place.TheVariants.{Elim}
use Rattle.overflows.specs.Laws.{term_number}
use Rattle.overflows.specs.Steps.{operation, IsNotHeld}
use Rattle.overflows.proofs.Given.{not_held, pivot_not_zero, same_exact, same_operation, step_not_held, still}
use Rattle.overflows.specs.Faults.{IsEliminationLeft, IsLeftAt, IsTermAt, placed}
use Rattle.overflows.proofs.Placed.{placed_none, placed_long, placed_dictionary}
use Rattle.overflows.specs.declared.fault.SolveFault.{SolveFault}
use Rattle.overflows.specs.declared.fault.SolveFault.TheVariants as solving
use Rattle.overflows.specs.declared.fault.SumFault.{SumFault}
use Rattle.rep_text.specs.declared.rep.Rep.{Rep}
use Rattle.rep_convert.specs.Licensed.{AreMultiplied, AreShort, IsAt, IsConvLeft, IsConvLicensed, IsElimTable, IsFaultOf, IsListStep}
use Rattle.rep_convert.specs.Lines.{width_without}
use Rattle.rep_convert.specs.Started.{HasHeldOperand}
use Rattle.rep_convert.specs.declared.fault.ConvFault.{ConvFault}

-- ---- numbers
pub same_numbers : (rows : List (List ℚ)) → numbers (λ (q : ℚ). q) rows ≡ rows
same_numbers [] = refl
same_numbers (r ∷ rows) = ap₂ (λ (a : List ℚ) (b : List (List ℚ)). a ∷ b) (map-id r) (same_numbers rows)

zero_held : IsTrue (is_held zero_ℚ)
unfolding whole
zero_held = refl

-- ---- licences
-- an operation at a place, as what is told
licensed : (rep : Rep) (place : Place) (left : Operation ℚ) (told : SolveFault) (result : ConvFault) → IsLeftAt place left [] told → IsFaultOf told result →
    IsNotHeld is_held left → IsAt is_held rep place left → IsConvLeft is_held rep result
licensed rep place left (solving.Left licence) result is same unheld operands =
    subst (IsConvLeft is_held rep) (sym same)
    (subst (λ (l : Licence). IsConvLicensed is_held rep l) (sym is) (record { trail = refl; not_held = unheld; operands = operands }))
licensed rep place left solving.NoMemory result is same unheld operands = subst (IsConvLeft is_held rep) (sym same) tt

no_memory : (rep : Rep) (told : SolveFault) (result : ConvFault) → told ≡ solving.NoMemory → IsFaultOf told result → IsConvLeft is_held rep result
no_memory rep (solving.Left licence) result is same = absurd cc
no_memory rep solving.NoMemory result is same = subst (IsConvLeft is_held rep) (sym same) tt

-- the table of an elimination has a row for each
table_long : (rep : Rep) (rows : List (List ℚ)) (t : Table) (columns : ℕ) → IsElimTable rep rows t columns → length t ≡ length rows
table_long rep rows t columns (IsElimTable.whole all same) = ap (λ (x : Table). length x) same
table_long rep rows t columns (IsElimTable.short lines are same) = ap (λ (x : Table). length x) same
table_long rep rows t columns (IsElimTable.start lines are square same) =
    ap (λ (x : Table). length x) same ∙ length-list_from 1 (length rows) (λ i. row_of rows i ++ unit (length rows) i)

-- of the elimination of a table
pub elimination_licensed : (rep : Rep) (rows : List (List ℚ)) (t : Table) (columns : ℕ) (fault : RowFault ℚ) (told : SolveFault) (result : ConvFault) →
    HasHeldOperand fault → IsEliminationLeft (λ (q : ℚ). q) rows [] fault told → IsFaultOf told result → IsElimTable rep rows t columns →
    IsElimFault (λ (q : ℚ). q) is_held columns t fault → IsConvLeft is_held rep result
elimination_licensed rep rows t columns (Stuck basis row col step left) told result held is same allowed (d, dictionary, operands, low, high, col_low, col_high) =
    licensed rep (Elim rows (placed (length rows) row basis) row col step) left told result is same
    (not_held is_held left zero_held (step_not_held is_held columns d row col step left operands))
    (inl (record {
      table = t;
      columns = columns;
      allowed = allowed;
      dictionary = d;
      is = placed_dictionary columns t (length rows) row basis d (table_long rep rows t columns allowed) low dictionary;
      one_each = placed_long (length rows) row basis low;
      row_from_one = low;
      col_from_one = col_low;
      operands = operands;
      pivot = pivot_not_zero is_held columns d row col step left zero_held held operands;
    }))
elimination_licensed rep rows t columns Want told result held is same allowed fault = no_memory rep told result is same

-- of a start, which may be given up at a norming too
pub start_licensed : (rep : Rep) (lines rows : List (List ℚ)) (fault : RowFault ℚ) (told : SolveFault) (result : ConvFault) →
    HasHeldOperand fault → IsEliminationLeft (λ (q : ℚ). q) rows [] fault told → IsFaultOf told result → AreShort rep rows lines →
    length rows ≡ width_without rep lines → IsStartFault (λ (q : ℚ). q) is_held (width_without rep lines) rows (Starting fault) → IsConvLeft is_held rep result
start_licensed rep lines rows (Stuck basis row col step left) told result held is same short square (inl h) =
    elimination_licensed rep rows (beside_unit rows) (width_without rep lines + width_without rep lines) (Stuck basis row col step left) told result held is same
    (subst (λ (k : ℕ). IsElimTable rep rows (beside_unit rows) k) (ap₂ (λ (a b : ℕ). a + b) square square) (IsElimTable.start lines short square refl)) h
start_licensed rep lines rows (Stuck basis row col step left) told result held is same short square (inr (none, zero_row, one, at_norming)) =
    go (subst (λ (n : ℕ). IsNormingLeft (λ (q : ℚ). q) is_held n rows col left) (sym square) at_norming)
  where
    go : IsNormingLeft (λ (q : ℚ). q) is_held (length rows) rows col left → IsConvLeft is_held rep result
    go h =
        let v : List ℚ = column_of h.inverse h.corner in
        let same_left : left ≡ operation Div (entry v col) (magnitude (norming v)) =
        same_operation left.op Div left.a (entry v col) left.b (magnitude (norming v)) h.left_is.0 h.left_is.1 h.left_is.2 in
        licensed rep (Elim rows (placed (length rows) row basis) row col step) left told result is same
        (not_held is_held left zero_held (still is_held (exact left.op left.a left.b) (entry v col /ℚ magnitude (norming v))
        (same_exact left.op Div left.a (entry v col) left.b (magnitude (norming v)) h.left_is.0 h.left_is.1 h.left_is.2) h.left_is.3))
        (inr (
          zero_row,
          placed_none (length rows) row basis zero_row ∙ none,
          IsListStep.normed (record {
            lines = lines;
            short = short;
            square = square;
            inverse = h.inverse;
            is = h.is;
            corner = h.corner;
            corner_from_one = h.corner_from_one;
            corner_to_end = h.corner_to_end;
            from_one = h.from_one;
            to_end = h.to_end;
            first = one;
            same = same_left;
          }),
        ))
start_licensed rep lines rows Want told result held is same short square h = absurd h

-- of a term of a sum
pub term_licensed : (rep : Rep) (row v : List ℚ) (fault : SumFault ℚ) (told : SolveFault) (result : ConvFault) →
    told ≡ solving.Left (record { place = Elim [] [] 0 fault.place (term_number fault.left.op); left = fault.left; trail = [] }) → IsFaultOf told result →
    AreMultiplied rep row v → IsTermAt (λ (q : ℚ). q) is_held row v fault → IsConvLeft is_held rep result
term_licensed rep row v fault told result is same allowed h =
    licensed rep (Elim [] [] 0 fault.place (term_number fault.left.op)) fault.left told result
    (subst (IsLeftAt (Elim [] [] 0 fault.place (term_number fault.left.op)) fault.left []) (sym is) refl) same
    (not_held is_held fault.left zero_held (unheld h.step))
    (inr (refl, refl, IsListStep.forward row v refl allowed (record { from_one = h.from_one; in_first = h.in_first; in_second = h.in_second; operands = operands h.step })))
  where
    unheld : IsTermLeft (λ (q : ℚ). q) is_held (partial row v (fault.place - 1)) (entry row fault.place) (entry v fault.place) fault.left → IsFalse (is_held (exact fault.left.op fault.left.a fault.left.b))
    unheld (inl t) = still is_held (exact fault.left.op fault.left.a fault.left.b) (entry row fault.place *ℚ entry v fault.place) (same_exact fault.left.op Mul fault.left.a (entry row fault.place) fault.left.b (entry v fault.place) t.0 t.1 t.2) t.3
    unheld (inr t) = still is_held (exact fault.left.op fault.left.a fault.left.b) (partial row v (fault.place - 1) +ℚ entry row fault.place *ℚ entry v fault.place)
        (same_exact fault.left.op Add fault.left.a (partial row v (fault.place - 1)) fault.left.b (entry row fault.place *ℚ entry v fault.place) t.1.0 t.1.1 t.1.2) t.1.3

    operands : IsTermLeft (λ (q : ℚ). q) is_held (partial row v (fault.place - 1)) (entry row fault.place) (entry v fault.place) fault.left →
        ((term_number fault.left.op ≡ 2) × (fault.left ≡ operation Mul (entry row fault.place) (entry v fault.place))) ⊎ ((term_number fault.left.op ≡ 3) × (fault.left ≡ operation Add (partial row v (fault.place - 1)) (entry row fault.place *ℚ entry v fault.place)))
    operands (inl t) = inl (ap (λ (o : Op). term_number o) t.0, same_operation fault.left.op Mul fault.left.a (entry row fault.place) fault.left.b (entry v fault.place) t.0 t.1 t.2)
    operands (inr t) = inr (ap (λ (o : Op). term_number o) t.1.0, same_operation fault.left.op Add fault.left.a (partial row v (fault.place - 1)) fault.left.b (entry row fault.place *ℚ entry v fault.place) t.1.0 t.1.1 t.1.2)
