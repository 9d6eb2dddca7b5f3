-- Licences from what calls tell of their overflows.
use Rattle.std.proofs.Common.{◌≡◌, ◌≢◌, ℕ, suc, ◌+◌, ◌-◌, ◌≤◌, Bool, true, false, List, [], ◌∷◌, ◌++◌, length, refl, sym, ap, ◌∙◌, subst, arith, true≢false, IsTrue, ◌⊎◌, inl, inr, slice_get, Some, length-append}
use Rattle.std.specs.Prelude.{IsFalse, Option, None, ⊤}
use Rattle.std.proofs.lemmas.Option.{slice_get-get_or}
use Rattle.std.proofs.Math.Seq.{get_or-append_seam}
use Rattle.exact_field.specs.Field.{IsLeftOf, exact}
use Rattle.exact_field.specs.Rational.{ℚ, zero_ℚ, ◌+ℚ◌, ◌-ℚ◌, ◌*ℚ◌, ◌/ℚ◌, inverse_ℚ, one_ℚ, whole, fraction}
use Rattle.exact_field.specs.Vector.{entry}
use Rattle.exact_field.specs.declared.op.Op.{Op}
use Rattle.exact_field.specs.declared.op.Op.TheVariants.{Add, Sub, Mul, Div}
use Rattle.exact_field.specs.declared.op.Left.{Left}
use Rattle.exact_field.proofs.Rationals.{neg-zero_ℚ}
use Rattle.polyhedra.proofs.Algebra.{mul_zero}
use Rattle.polyhedra.proofs.Laws.{add_zero}
use Rattle.polyhedra.specs.DoubleDescription.{magnitude, norming}
use Rattle.tableaux.specs.Table.{Table, at, quotient_at, column_of, right_column}
use Rattle.lin_rows.specs.Clear.{IsStuckAt}
use Rattle.lin_rows.specs.Eliminate.{IsElimFault}
use Rattle.lin_rows.specs.Pivot.{IsPivotStep}
use Rattle.lin_rows.specs.Sums.{partial, IsTermLeft}
use Rattle.lin_rows.specs.declared.fault.RowFault.TheVariants.{Left as Stuck}
use Rattle.exact_simplex.specs.Ends.{IsSystemLeft}
use Rattle.vlp_problem.specs.declared.problem.Problem.{Problem}
use Rattle.deriv_log.specs.Formed.{IsLog}
use Rattle.deriv_log.specs.declared.entry.Entry.{Entry}
use Rattle.vlp_problem.specs.declared.program.Program.{Program}
use Rattle.deriv_log.specs.declared.licence.Place.TheVariants.{Pivot, Elim, Step}
use Rattle.log_rules.specs.Events.{Event, first_failure, Failure}
use Rattle.log_rules.specs.Events.Event.{test, step}
use Rattle.log_rules.specs.Events.Failure.{wrong, left as overflows}
use Rattle.log_rules.specs.LogEvents.{first_failing, plain_failure, events, Failing}
use Rattle.overflows.specs.Dictionaries.{IsAllowed, system_in, IsElimTable}
use Rattle.overflows.specs.Generators.{IsPairStep}
use Rattle.overflows.specs.Laws.{term_number, OverflowLaws}
use Rattle.overflows.specs.Licence.{IsOverflow, IsCheckOverflow}
use Rattle.overflows.specs.Products.{AreMultiplied, IsListStep}
use Rattle.overflows.specs.Settings.{Setting}
use Rattle.overflows.specs.Steps.{operation, IsNotHeld, IsNumbered, IsProductStep, value_steps, pair_steps, exchange_steps}

-- ---- what is not held
over_zero : inverse_ℚ zero_ℚ ≡ zero_ℚ
unfolding inverse_ℚ whole fraction
over_zero = refl

less_zero : (x : ℚ) → x -ℚ zero_ℚ ≡ x
less_zero x = ap (λ (d : ℚ). x +ℚ d) neg-zero_ℚ ∙ add_zero x

-- a quotient by 0 is 0, so that what is not held is no such
defined : (holds : ℚ → Bool) → IsTrue (holds zero_ℚ) → (x y : ℚ) → IsFalse (holds (x /ℚ y)) → y ≢ zero_ℚ
defined holds zero x y not_held h =
    let same : x /ℚ y ≡ zero_ℚ = ap (λ (d : ℚ). x *ℚ inverse_ℚ d) h ∙ ap (λ (d : ℚ). x *ℚ d) over_zero ∙ mul_zero x in
    true≢false (sym zero ∙ sym (ap holds same) ∙ not_held)

pub not_held : (holds : ℚ → Bool) (left : Left ℚ) → IsTrue (holds zero_ℚ) → IsFalse (holds (exact left.op left.a left.b)) → IsNotHeld holds left
not_held holds left zero h = record { defined = λ div. go div h; not_held = h }
  where
    go : left.op ≡ Div → IsFalse (holds (exact left.op left.a left.b)) → left.b ≢ zero_ℚ
    go div h = defined holds zero left.a left.b (subst (λ (o : Op). IsFalse (holds (exact o left.a left.b))) div h)

-- ---- pivots
pub same_exact : (o o' : Op) (a a' b b' : ℚ) → o ≡ o' → a ≡ a' → b ≡ b' → exact o a b ≡ exact o' a' b'
same_exact o o' a a' b b' e f g = cc

pub same_operation : (o o' : Op) (a a' b b' : ℚ) → o ≡ o' → a ≡ a' → b ≡ b' → operation o a b ≡ operation o' a' b'
same_operation o o' a a' b b' e f g = cc

pub still : (holds : ℚ → Bool) (x y : ℚ) → x ≡ y → IsFalse (holds y) → IsFalse (holds x)
still holds x y same h = ap holds same ∙ h

-- the result of a step of a pivot is not held
pub step_not_held : (holds : ℚ → Bool) (n : ℕ) (t : Table) (row col number : ℕ) (left : Left ℚ) → IsPivotStep (λ q. q) holds n t row col number left →
    IsFalse (holds (exact left.op left.a left.b))
step_not_held holds n t row col number left (j, low, high, inl s) =
    still holds (exact left.op left.a left.b) (quotient_at t row col j)
    (same_exact left.op Div left.a (at t row j) left.b (at t row col) s.1.0 s.1.1 s.1.2) s.1.3
step_not_held holds n t row col number left (j, low, high, inr (i, a, b, c, inl s)) =
    still holds (exact left.op left.a left.b) (at t i col *ℚ quotient_at t row col j)
    (same_exact left.op Mul left.a (at t i col) left.b (quotient_at t row col j) s.1.0 s.1.1 s.1.2) s.1.3
step_not_held holds n t row col number left (j, low, high, inr (i, a, b, c, inr s)) =
    still holds (exact left.op left.a left.b) (at t i j -ℚ at t i col *ℚ quotient_at t row col j)
    (same_exact left.op Sub left.a (at t i j) left.b (at t i col *ℚ quotient_at t row col j) s.1.0 s.1.1 s.1.2) s.1.3

-- and its pivot is not 0 where the first operand is held: over 0 the quotients are 0, and the other
-- steps change nothing
pub pivot_not_zero : (holds : ℚ → Bool) (n : ℕ) (t : Table) (row col number : ℕ) (left : Left ℚ) → IsTrue (holds zero_ℚ) → IsTrue (holds left.a) →
    IsPivotStep (λ q. q) holds n t row col number left → at t row col ≢ zero_ℚ
pivot_not_zero holds n t row col number left zero first (j, low, high, how) none = go how
  where
    quotient : quotient_at t row col j ≡ zero_ℚ
    quotient = ap (λ (d : ℚ). at t row j *ℚ inverse_ℚ d) none ∙ ap (λ (d : ℚ). at t row j *ℚ d) over_zero ∙ mul_zero (at t row j)

    product : (x : ℚ) → x *ℚ quotient_at t row col j ≡ zero_ℚ
    product x = ap (λ (d : ℚ). x *ℚ d) quotient ∙ mul_zero x

    clash : (x y : ℚ) → x ≡ y → IsTrue (holds y) → IsFalse (holds x) → ⊥
    clash x y same h k = true≢false (sym h ∙ sym (ap holds same) ∙ k)

    go : ((number ≡ 1) × IsLeftOf (λ q. q) holds Div (at t row j) (at t row col) left)
        ⊎ ((i : ℕ) × (1 ≤ i) × (i ≤ length t) × (i ≢ row) × IsStuckAt (λ q. q) holds (at t i col) (at t i j) (quotient_at t row col j) number left) → ⊥
    go (inl s) = clash (quotient_at t row col j) zero_ℚ quotient zero s.1.3
    go (inr (i, a, b, c, inl s)) = clash (at t i col *ℚ quotient_at t row col j) zero_ℚ (product (at t i col)) zero s.1.3
    go (inr (i, a, b, c, inr s)) =
        clash (at t i j -ℚ at t i col *ℚ quotient_at t row col j) left.a
        (ap (λ (d : ℚ). at t i j -ℚ d) (product (at t i col)) ∙ less_zero (at t i j) ∙ sym s.1.1) first s.1.3

-- ---- programs
of_program : (holds : ℚ → Bool) (s : Setting) (p : Program) (basis : List ℕ) (row col number : ℕ) (left : Left ℚ) →
    IsTrue (holds zero_ℚ) → IsTrue (holds left.a) → IsAllowed s p → IsSystemLeft (λ q. q) holds (system_in s p) basis row col number left →
    IsOverflow holds s (Pivot p basis row col number) left
of_program holds s p basis row col number left zero first allowed (d, is, inl h) =
    record {
      not_held = not_held holds left zero (step_not_held holds (right_column (system_in s p)) d row col number left h.4);
      operands = record {
        allowed = allowed;
        dictionary = d;
        is = is;
        operands = inl h;
        pivot = λ equation. pivot_not_zero holds (right_column (system_in s p)) d row col number left zero first h.4;
      };
    }
of_program holds s p basis row col number left zero first allowed (d, is, inr h) =
    record {
      not_held = not_held holds left zero
          (still holds (exact left.op left.a left.b) (at d row col -ℚ one_ℚ) (same_exact left.op Sub left.a (at d row col) left.b one_ℚ h.6.0 h.6.1 h.6.2) h.6.3);
      operands = record {
        allowed = allowed;
        dictionary = d;
        is = is;
        operands = inr h;
        pivot = λ equation. let cost = h.3 in absurd (omega (arith, cost, equation));
      };
    }

elimination : (holds : ℚ → Bool) (s : Setting) (rows : List (List ℚ)) (width : ℕ) (t : Table) (columns : ℕ) (basis : List ℕ)
    (row col number : ℕ) (left : Left ℚ) → IsTrue (holds zero_ℚ) → IsTrue (holds left.a) → IsElimTable s rows width t columns →
    length basis ≡ length rows → 1 ≤ row → 1 ≤ col → IsElimFault (λ q. q) holds columns t (Stuck basis row col number left) →
    IsOverflow holds s (Elim rows basis row col number) left
elimination holds s rows width t columns basis row col number left zero first table one_each low low' (d, is, h, row_low, row_high, col_low, col_high) =
    record {
      not_held = not_held holds left zero (step_not_held holds columns d row col number left h);
      operands = inl
          (record {
            width = width;
            columns = columns;
            dictionary = d;
            is = record { table = t; of_rows = table; is = is };
            one_each = one_each;
            row_from_one = low;
            col_from_one = low';
            operands = h;
            pivot = pivot_not_zero holds columns d row col number left zero first h;
          });
    }

-- ---- steps by their numbers
numbered : (steps done rest : List Event) (o : Op) (a b : ℚ) → steps ≡ done ++ step o a b ∷ rest →
    IsNumbered steps (suc (length done)) (operation o a b)
numbered steps done rest o a b same =
    let long : length (done ++ step o a b ∷ rest) ≡ length done + length (step o a b ∷ rest) = length-append done (step o a b ∷ rest) in
    let back : suc (length done) - 1 ≡ length done = omega arith in
    record {
      from_one = omega arith;
      there = ap (λ (es : List Event). slice_get es (suc (length done) - 1)) same
          ∙ ap (λ (k : ℕ). slice_get (done ++ step o a b ∷ rest) k) back
          ∙ slice_get-get_or (done ++ step o a b ∷ rest) (length done) (step o a b) (omega (arith, long))
          ∙ ap (λ (e : Event). Some e) (get_or-append_seam done (step o a b) rest (step o a b));
    }

-- ---- sums
term : (holds : ℚ → Bool) (s : Setting) (xs ys : List ℚ) (place : ℕ) (left : Left ℚ) →
    IsTrue (holds zero_ℚ) → AreMultiplied s xs ys ⊎ AreMultiplied s ys xs → 1 ≤ place → place ≤ length xs → place ≤ length ys →
    IsTermLeft (λ q. q) holds (partial xs ys (place - 1)) (entry xs place) (entry ys place) left →
    IsOverflow holds s (Elim [] [] 0 place (term_number left.op)) left
term holds s xs ys place left zero allowed low in_first in_second h =
    record { not_held = not_held holds left zero (unheld h); operands = inr (refl, refl, listed allowed) }
  where
    unheld : IsTermLeft (λ q. q) holds (partial xs ys (place - 1)) (entry xs place) (entry ys place) left → IsFalse (holds (exact left.op left.a left.b))
    unheld (inl t) = still holds (exact left.op left.a left.b) (entry xs place *ℚ entry ys place)
        (same_exact left.op Mul left.a (entry xs place) left.b (entry ys place) t.0 t.1 t.2) t.3
    unheld (inr t) = still holds (exact left.op left.a left.b) (partial xs ys (place - 1) +ℚ entry xs place *ℚ entry ys place)
        (same_exact left.op Add left.a (partial xs ys (place - 1)) left.b (entry xs place *ℚ entry ys place) t.1.0 t.1.1 t.1.2) t.1.3

    operands : IsTermLeft (λ q. q) holds (partial xs ys (place - 1)) (entry xs place) (entry ys place) left →
        ((term_number left.op ≡ 2) × (left ≡ operation Mul (entry xs place) (entry ys place)))
        ⊎ ((term_number left.op ≡ 3) × (left ≡ operation Add (partial xs ys (place - 1)) (entry xs place *ℚ entry ys place)))
    operands (inl t) = inl (ap (λ (o : Op). term_number o) t.0, same_operation left.op Mul left.a (entry xs place) left.b (entry ys place) t.0 t.1 t.2)
    operands (inr t) = inr (ap (λ (o : Op). term_number o) t.1.0, same_operation left.op Add left.a (partial xs ys (place - 1)) left.b (entry xs place *ℚ entry ys place) t.1.0 t.1.1 t.1.2)

    at_place : IsProductStep place (term_number left.op) xs ys left
    at_place = record { from_one = low; in_first = in_first; in_second = in_second; operands = operands h }

    listed : AreMultiplied s xs ys ⊎ AreMultiplied s ys xs → IsListStep s [] place (term_number left.op) left
    listed (inl m) = IsListStep.forward xs ys refl m at_place
    listed (inr m) = IsListStep.backward xs ys refl m at_place

-- ---- the check
Unheld : (ℚ → Bool) → Option Failure → Type 0
Unheld holds None = ⊤
Unheld holds (Some (wrong r)) = ⊤
Unheld holds (Some (overflows k o a b)) = IsFalse (holds (exact o a b))

first_unheld : (holds : ℚ → Bool) (n : ℕ) (es : List Event) → Unheld holds (first_failure holds n es)
unfolding Unheld
first_unheld holds n [] = tt
first_unheld holds n (test r true ∷ es) = first_unheld holds n es
first_unheld holds n (test r false ∷ es) = tt
first_unheld holds n (step o a b ∷ es) = go (first_unheld holds (suc n) es) (holds (exact o a b)) refl
  where
    go : Unheld holds (first_failure holds (suc n) es) → (h : Bool) → holds (exact o a b) ≡ h →
        Unheld holds (elim h [ true ↦ first_failure holds (suc n) es | false ↦ Some (overflows n o a b) ])
    go further true e = further
    go further false e = e

UnheldIn : (ℚ → Bool) → Option Failing → Type 0
UnheldIn holds None = ⊤
UnheldIn holds (Some f) = Unheld holds (Some f.failure)

failing_unheld : (holds : ℚ → Bool) (file : Problem) (before entries : List Entry) → UnheldIn holds (first_failing holds file before entries)
unfolding UnheldIn
failing_unheld holds file before [] = tt
failing_unheld holds file before (e ∷ entries) =
    go (failing_unheld holds file (before ++ e ∷ []) entries) (first_failure holds 1 (events file before e)) (first_unheld holds 1 (events file before e))
  where
    go : UnheldIn holds (first_failing holds file (before ++ e ∷ []) entries) → (o : Option Failure) → Unheld holds o →
        UnheldIn holds (elim o [
          | Some failure ↦ Some (record { entry = suc (length before); failure = failure })
          | None ↦ first_failing holds file (before ++ e ∷ []) entries
        ])
    go further (Some failure) h = h
    go further None h = further

check : (holds : ℚ → Bool) (file : Problem) (entries : List Entry) (number k : ℕ) (o : Op) (a b : ℚ) → IsTrue (holds zero_ℚ) → IsLog entries →
    plain_failure holds file entries ≡ Some (record { entry = number; failure = overflows k o a b }) →
    IsCheckOverflow holds file entries (Step number k) (operation o a b)
unfolding Unheld UnheldIn
check holds file entries number k o a b zero log h =
    record {
      not_held = not_held holds (operation o a b) zero
          (subst (λ (f : Option Failing). UnheldIn holds f) h (failing_unheld holds file [] entries));
      log = log;
      number = number;
      step = k;
      at = refl;
      first = h;
    }

-- ---- all places
pub overflow_laws : OverflowLaws
overflow_laws = record {
  program = of_program;
  elimination = elimination;
  norming = λ holds s rows inverse corner col zero allowed is low high low' high' h. record {
    not_held = not_held holds (operation Div (entry (column_of inverse corner) col) (magnitude (norming (column_of inverse corner)))) zero h;
    operands = inr (
      refl,
      refl,
      IsListStep.normed (record {
        allowed = allowed;
        inverse = inverse;
        is = is;
        corner = corner;
        corner_from_one = low;
        corner_to_end = high;
        from_one = low';
        to_end = high';
        first = refl;
        same = refl;
      }),
    );
  };
  term = term;
  value = λ holds s family before last list g done rest o a b zero allowed live same h. record {
    not_held = not_held holds (operation o a b) zero h;
    operands = record {
      before = before;
      last = last;
      parted = refl;
      list = list;
      allowed = allowed;
      operands = IsPairStep.value g live refl refl (numbered (value_steps last g.vector) done rest o a b same);
    };
  };
  pair = λ holds s family before last list pair done rest o a b zero allowed live same h. record {
    not_held = not_held holds (operation o a b) zero h;
    operands = record {
      before = before;
      last = last;
      parted = refl;
      list = list;
      allowed = allowed;
      operands = IsPairStep.pair pair live refl refl
          (numbered (pair_steps last pair.plus_side.vector pair.minus_side.vector) done rest o a b same);
    };
  };
  exchange = λ holds s c y t done rest o a b zero known base same h. record {
    not_held = not_held holds (operation o a b) zero h;
    operands = record { c = c; known = known; base = base; operands = numbered (exchange_steps c y) done rest o a b same };
  };
  scale = λ holds s v k by zero scaled low high divisor h. record {
    not_held = not_held holds (operation Div (entry v k) by) zero h;
    operands = record { vector = scaled; from_one = low; to_end = high; by = by; divisor = divisor; same = refl };
  };
  check = check;
}
