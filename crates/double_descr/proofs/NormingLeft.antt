-- Where a start is given up while it norms: at an entry of a column of the inverse.
use Rattle.std.proofs.Common.{◌≡◌, ℕ, ◌+◌, ◌-◌, ◌<◌, ◌≤◌, List, [], ◌∷◌, ◌++◌, length, take, All, Bool, slice_index_or, sym, ap, ◌∙◌, subst, arith, length-append, inr}
use Rattle.std.proofs.lemmas.List.{get_or-map, length-map}
use Rattle.std.proofs.Math.Seq.{get_or-append_seam, take-append_seam}
use Rattle.exact_field.specs.Field.{IsLeftOf}
use Rattle.exact_field.specs.Rational.{ℚ, zero_ℚ}
use Rattle.exact_field.specs.Vector.{entry}
use Rattle.exact_field.specs.declared.op.Op.TheVariants.{Div}
use Rattle.exact_field.specs.declared.op.Left.{Left}
use Rattle.polyhedra.specs.DoubleDescription.{magnitude, norming}
use Rattle.tableaux.specs.Table.{Table, column_of}
use Rattle.tableaux.specs.Elimination.{columns_of}
use Rattle.tableaux.proofs.Places.{length-list_from, listed-place}
use Rattle.lin_rows.specs.Answers.{AreInverseColumns}
use Rattle.lin_rows.specs.declared.fault.RowFault.TheVariants.{Left as Stopped, NoMemory as Want}
use Rattle.double_descr.specs.Starting.{AreNotNormed, IsNormingLeft, IsStartFault, norming_steps}
use Rattle.double_descr.specs.Steps.{Step, IsFirst, IsHeld}
use Rattle.double_descr.specs.declared.fault.DdFault.{DdFault}
use Rattle.double_descr.specs.declared.fault.DdFault.TheVariants.{Elim, Left as Stuck, NoMemory}

-- the first step that is not held, of those that norm a vector, by its place
pub record IsQuotientLeft {F : Type 0} (value : F → ℚ) (holds : ℚ → Bool) (v : List ℚ) (col : ℕ) (left : Left F) : Type 0 where
  pub from_one : 1 ≤ col
  pub to_end : col ≤ length v
  pub left_is : IsLeftOf value holds Div (entry v col) (magnitude (norming v)) left
  pub entries_before : All (IsHeld holds) (take (col - 1) (norming_steps v))

abbrev quotient : List ℚ → ℚ → Step
quotient v z = record { op = Div; a = z; b = magnitude (norming v) }

pub quotient_left : {F : Type 0} (value : F → ℚ) (holds : ℚ → Bool) (v : List ℚ) (col : ℕ) (left : Left F) → IsFirst value holds (norming_steps v) col left →
    IsQuotientLeft value holds v col left
quotient_left value holds v col left h =
    let k : ℕ = length h.before in
    let number : col ≡ k + 1 = h.numbered in
    let long : length (norming_steps v) ≡ k + length (h.step ∷ h.after) = ap length h.split ∙ length-append h.before (h.step ∷ h.after) in
    let tail : length (h.step ∷ h.after) ≡ length h.after + 1 = omega arith in
    let many : length (norming_steps v) ≡ length v = length-map v (quotient v) in
    let inside : k < length v = omega arith in
    let back : col - 1 ≡ k = omega arith in
    let entry_is : slice_index_or v k zero_ℚ ≡ entry v col = ap (λ i. slice_index_or v i zero_ℚ) (sym back) in
    let step_is : h.step ≡ quotient v (entry v col) =
    sym (get_or-append_seam h.before h.step h.after h.step) ∙ ap (λ (ss : List Step). slice_index_or ss k h.step) (sym h.split)
    ∙ get_or-map (quotient v) v k zero_ℚ h.step inside ∙ ap (quotient v) entry_is in
    record {
      from_one = omega arith;
      to_end = omega arith;
      left_is = subst (λ (s : Step). IsLeftOf value holds s.op s.a s.b left) step_is h.left_is;
      entries_before = subst (All (IsHeld holds)) (sym (ap (λ (i : ℕ). take i (norming_steps v)) back ∙ ap (take k) h.split ∙ take-append_seam h.before (h.step ∷ h.after))) h.held;
    }

module _ {F : Type 0} (value : F → ℚ) (holds : ℚ → Bool) (n : ℕ) (rows vectors : List (List ℚ)) (c : AreInverseColumns n rows vectors) where
  abbrev inverse : Table
  inverse = c.0

  norming_left : (col : ℕ) (left : Left F) (before after : List (List ℚ)) (vector : List ℚ) → vectors ≡ before ++ vector ∷ after →
      All (λ v. All (IsHeld holds) (norming_steps v)) before → IsFirst value holds (norming_steps vector) col left → IsNormingLeft value holds n rows col left
  norming_left col left before after vector split held first =
      let k : ℕ = length before in
      let columns : columns_of n inverse ≡ before ++ vector ∷ after = sym c.2 ∙ split in
      let long : length (columns_of n inverse) ≡ k + length (vector ∷ after) = ap length columns ∙ length-append before (vector ∷ after) in
      let tail : length (vector ∷ after) ≡ length after + 1 = omega arith in
      let many : length (columns_of n inverse) ≡ n = length-list_from 1 n (column_of inverse) in
      let high : k + 1 ≤ n = omega arith in
      let low : 1 ≤ k + 1 = omega arith in
      let back : k + 1 - 1 ≡ k = omega arith in
      let vector_is : vector ≡ column_of inverse (k + 1) =
      sym (get_or-append_seam before vector after []) ∙ ap (λ (vs : List (List ℚ)). slice_index_or vs k []) (sym columns)
      ∙ ap (λ (i : ℕ). slice_index_or (columns_of n inverse) i []) (sym back) ∙ listed-place n (column_of inverse) (k + 1) [] low high in
      let here = quotient_left value holds (column_of inverse (k + 1)) col left (subst (λ (v : List ℚ). IsFirst value holds (norming_steps v) col left) vector_is first) in
      let wide : length (column_of inverse (k + 1)) ≡ n = length-map inverse (λ r. entry r (k + 1)) ∙ c.1.many in
      record {
        inverse = inverse;
        is = c.1;
        corner = k + 1;
        corner_from_one = low;
        corner_to_end = high;
        from_one = here.from_one;
        to_end = omega (arith, here.to_end, wide);
        left_is = here.left_is;
        columns_before = subst (All (λ v. All (IsHeld holds) (norming_steps v)))
            (sym (ap (λ (i : ℕ). take i (columns_of n inverse)) back ∙ ap (take k) columns ∙ take-append_seam before (vector ∷ after))) held;
        entries_before = here.entries_before;
      }

  -- what is not normed of the columns is a fault of a start
  pub start_fault : (fault : DdFault F) → AreNotNormed value holds vectors fault → IsStartFault value holds n rows fault
  start_fault (Elim (Stopped basis row col step left)) h =
      inr (h.here.0, h.here.1, h.here.2, norming_left col left h.before h.after h.vector h.split h.held h.here.3)
  start_fault (Elim Want) h = absurd h.here
  start_fault (Stuck first second step left) h = absurd h
  start_fault NoMemory h = tt
