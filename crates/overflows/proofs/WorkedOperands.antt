-- Overflows that nothing licenses though they have operands of their place, computed.
use Rattle.std.proofs.Common.{◌≡◌, true≢false, List, [], ◌∷◌, length, refl, ap, arith, inl, inr, None}
use Rattle.std.proofs.Math.Dec.{lit≤}
use Rattle.exact_field.specs.Gcd.{gcd}
use Rattle.exact_field.specs.Rational.{ℚ, whole, fraction, ◌+ℚ◌, ◌*ℚ◌, neg_ℚ, inverse_ℚ, le_ℚ}
use Rattle.exact_field.specs.declared.op.Op.TheVariants.{Div}
use Rattle.polyhedra.specs.Exactness.{level}
use Rattle.polyhedra.proofs.Lists.{HasWidth, Contains-cases, Contains-nil}
use Rattle.polyhedra.proofs.Members.{member_of}
use Rattle.tableaux.specs.Table.{System, at, table_of}
use Rattle.upper_image.specs.UpperImage.{normals, objectives}
use Rattle.deriv_log.specs.declared.entry.Entry.{Entry}
use Rattle.vlp_problem.specs.declared.program.Program.TheVariants.{Feasible}
use Rattle.lp_form.specs.Examples.{rows}
use Rattle.lp_form.specs.Programs.{feasible_system}
use Rattle.overflows.specs.Examples.{plain, n, is_few, ones}
use Rattle.overflows.specs.FeasibleExamples.{narrow_before, first_pivot, OperandExamples, WorkedFeasible}
use Rattle.overflows.specs.Licence.{LicensedWithout}
use Rattle.overflows.specs.PairExamples.{narrow}
use Rattle.overflows.specs.Products.{IsRowOrWeight, AreMultiplied}
use Rattle.overflows.specs.Settings.{Setting}
use Rattle.overflows.specs.Steps.{operation}
use Rattle.overflows.proofs.Given.{overflow_laws}
use Rattle.overflows.proofs.Values.{equal, wide_test}
use Rattle.overflows.proofs.Without.{unknown}
use Rattle.overflows.proofs.Worked.{first_dictionary}
use Rattle.overflows.proofs.WorkedFeasible.{feasible_examples}

-- ---- before a duality vector is known
no_vector : AreMultiplied narrow_before ones (n 1 ∷ n 0 ∷ []) → ⊥
unfolding whole
no_vector (AreMultiplied.bounds e h) = let many : 2 ≡ 1 = ap (λ (v : List ℚ). length v) e in omega (arith, many)
no_vector (AreMultiplied.duality known h) = unknown ones known
no_vector (AreMultiplied.last_weight c g rows known all is e f) = unknown c known
no_vector (AreMultiplied.side h b) =
    let many : 2 ≡ 1 = member_of (HasWidth 1) (normals narrow) ones (wide_test 1 (normals narrow) refl).wide h in omega (arith, many)
no_vector (AreMultiplied.of_objective h b) =
    let many : 2 ≡ 1 = member_of (HasWidth 1) (objectives narrow) ones (wide_test 1 (objectives narrow) refl).wide h in omega (arith, many)
no_vector (AreMultiplied.cone h y) = Contains-nil ones h
no_vector (AreMultiplied.shares i low high e h) = let many : 2 ≡ 0 = ap (λ (v : List ℚ). length v) e in omega (arith, many)
no_vector (AreMultiplied.across (IsRowOrWeight.weight (c, known, h)) y) = unknown c known
no_vector (AreMultiplied.across (IsRowOrWeight.of_trail h) y) = Contains-nil ones h
no_vector (AreMultiplied.across (IsRowOrWeight.in_use h) y) = elim (Contains-cases (level 2) [] ones h) [
  | inl e ↦ let many : 3 ≡ 2 = ap (λ (v : List ℚ). length v) e in omega (arith, many)
  | inr c ↦ Contains-nil ones c
]

abbrev plain_before : Setting
plain_before = record { file = plain; c = None; weights = []; trail = [] }

abbrev sides_program : System
sides_program = feasible_system plain

before : LicensedWithout is_few plain (first_pivot [])
unfolding whole fraction gcd ◌+ℚ◌ ◌*ℚ◌ neg_ℚ inverse_ℚ le_ℚ
before = record {
  trail = refl;
  overflow = overflow_laws.program is_few plain_before Feasible [] 1 1 1 (operation Div (n 1) (n 2)) refl refl tt (
    table_of sides_program,
    first_dictionary,
    inl (
      lit≤ tt,
      lit≤ tt,
      lit≤ tt,
      lit≤ tt,
      (
        2,
        lit≤ tt,
        lit≤ tt,
        inl (refl, (refl, equal (n 1) (at (table_of sides_program) 1 2) refl, equal (n 2) (at (table_of sides_program) 1 1) refl, refl)),
      ),
    ),
  );
}

operand_examples : OperandExamples
unfolding whole fraction gcd ◌+ℚ◌ ◌*ℚ◌ neg_ℚ inverse_ℚ le_ℚ
operand_examples = record {
  held = λ h. true≢false h.not_held.not_held;
  no_quotient = λ h. h.not_held.defined refl refl;
  no_vector = no_vector;
  before = before;
  after = λ h. let k : 2 ≡ 0 = ap (λ (es : List Entry). length es) h.trail in omega (arith, k);
}

pub worked_feasible : WorkedFeasible
worked_feasible = record { feasible = feasible_examples; operands = operand_examples }
