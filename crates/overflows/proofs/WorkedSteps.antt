-- The worked licences of double description, of rows, of norming and of the check, computed.
use Rattle.std.proofs.Common.{◌≡◌, ◌≢◌, slice_index_or, ℕ, zero, suc, ◌<◌, List, [], ◌∷◌, length, refl, sym, ap, ◌∙◌, subst, arith, slice_get, None, Some, Option, codes, All, false, true, true≢false, ◌++◌, inl, inr}
use Rattle.std.specs.Prelude.{Contains}
use Rattle.std.proofs.Math.Dec.{lit≤}
use Rattle.std.proofs.lemmas.List.Elements.{All-nil, All-cons}
use Rattle.exact_field.specs.Gcd.{gcd}
use Rattle.exact_field.specs.Rational.{ℚ, zero_ℚ, one_ℚ, whole, fraction, ◌+ℚ◌, ◌*ℚ◌, neg_ℚ, inverse_ℚ, le_ℚ, ◌<ℚ◌}
use Rattle.exact_field.specs.Vector.{entry, dot}
use Rattle.exact_field.specs.declared.op.Op.TheVariants.{Sub, Mul, Div}
use Rattle.exact_field.specs.declared.op.Left.{Left}
use Rattle.polyhedra.specs.Dependence.{AreCorners}
use Rattle.polyhedra.specs.DoubleDescription.{IsNormed, leading, magnitude}
use Rattle.polyhedra.specs.LiveList.{Numbered, LivePair, live_pairs, starting}
use Rattle.polyhedra.proofs.Lists.{Contains-here, Contains-there, Contains-nil}
use Rattle.polyhedra.proofs.Tests.{same_vector_is}
use Rattle.deriv_log.specs.Formed.{IsLog, ends_once}
use Rattle.deriv_log.specs.declared.entry.Entry.{Entry}
use Rattle.deriv_log.specs.declared.licence.Family.TheVariants.{ConeRows}
use Rattle.deriv_log.specs.declared.licence.Place.{Place}
use Rattle.deriv_log.specs.declared.licence.Place.TheVariants.{Pair, Exchange, Scale, Step}
use Rattle.log_rules.specs.Events.{Event, Failure}
use Rattle.log_rules.specs.Events.Event.{test, step}
use Rattle.log_rules.specs.Events.Failure.{wrong, left as overflows}
use Rattle.log_rules.specs.LogEvents.{Failing, plain_failure}
use Rattle.overflows.specs.Examples.{plain, dual_form, n, minus_half, four_fifths, cut_entry, is_few, ones, scaled_given, trail_of, setting, square_rows, square_list, ended, step_licence, OverflowsPlain, OverflowsDual, StepExamples, WorkedLicences}
use Rattle.lp_form.specs.Examples.{numbers, rows}
use Rattle.lp_form.specs.Programs.{nonzero_vectors}
use Rattle.overflows.specs.Base.{IsBaseRow, image_of}
use Rattle.overflows.specs.Generators.{IsMadeOver, IsAddition, IsPairStep, IsExchangeStep}
use Rattle.overflows.specs.Licence.{IsCheckOverflow, Licensed}
use Rattle.overflows.specs.Quotients.{IsScaled, IsDivisor, IsScaleStep}
use Rattle.overflows.specs.Settings.{vector_of}
use Rattle.overflows.specs.Steps.{operation, exchange_steps, value_steps, pair_steps}
use Rattle.geo_duality.specs.Rows.{exchange_row}
use Rattle.overflows.proofs.Given.{not_held, overflow_laws}
use Rattle.overflows.proofs.Values.{equal, apart, wide_test, two_below, op_number, step_is, overflow_is}
use Rattle.log_rules.specs.Meets.{Meets}
use Rattle.log_rules.proofs.LogMeets.{events_give_meets}
use Rattle.overflows.proofs.FirstCut.{first_cut}
use Rattle.overflows.proofs.Growing.{trail_laws}
use Rattle.overflows.proofs.WorkedBase.{base_examples}
use Rattle.overflows.proofs.WorkedOrthogonal.{orthogonal_examples}
use Rattle.overflows.proofs.WorkedSums.{sum_examples}
use Rattle.overflows.proofs.Worked.{given, cone_rows, first, second, plain_begins, given_begins, other, dictionary_examples}

-- ---- a value
abbrev pub corners : List (List ℚ)
corners = (n 1 ∷ n 0 ∷ []) ∷ (minus_half ∷ n 1 ∷ []) ∷ []

positive : (i : ℕ) → i < 2 → zero_ℚ <ℚ dot (slice_index_or cone_rows i []) (slice_index_or corners i [])
unfolding whole fraction gcd ◌+ℚ◌ ◌*ℚ◌ neg_ℚ inverse_ℚ le_ℚ
positive zero l = refl
positive (suc zero) l = refl
positive (suc (suc i)) l = absurd (omega (arith, l))

pub are_corners : AreCorners 2 cone_rows corners
unfolding whole fraction gcd ◌+ℚ◌ ◌*ℚ◌ neg_ℚ inverse_ℚ le_ℚ
are_corners = record {
  rows_wide = wide_test 2 cone_rows refl;
  vectors_wide = wide_test 2 corners refl;
  rows_many = refl;
  vectors_many = refl;
  positive = positive;
  zero_elsewhere = two_below (λ i j. i ≢ j → dot (slice_index_or cone_rows i []) (slice_index_or corners j []) ≡ zero_ℚ)
      (λ h. absurd (h refl)) (λ h. equal _ zero_ℚ refl) (λ h. equal _ zero_ℚ refl) (λ h. absurd (h refl));
}

are_normed : All IsNormed corners
unfolding whole fraction gcd ◌+ℚ◌ ◌*ℚ◌ neg_ℚ inverse_ℚ le_ℚ
are_normed = All-cons IsNormed (n 1 ∷ n 0 ∷ []) ((minus_half ∷ n 1 ∷ []) ∷ []) (equal _ one_ℚ refl)
    (All-cons IsNormed (minus_half ∷ n 1 ∷ []) [] (equal _ one_ℚ refl) (All-nil IsNormed))

pub is_made : IsMadeOver 2 cone_rows (starting 1 corners)
is_made = record { first = cone_rows; more = []; parted = refl; vectors = corners; corners = are_corners; normed = are_normed; same = refl }

nonzero_first : Contains (nonzero_vectors dual_form.cone) first
unfolding whole fraction gcd ◌+ℚ◌ ◌*ℚ◌ neg_ℚ inverse_ℚ le_ℚ
nonzero_first = Contains-here first (second ∷ []) first refl

nonzero_second : Contains (nonzero_vectors dual_form.cone) second
unfolding whole fraction gcd ◌+ℚ◌ ◌*ℚ◌ neg_ℚ inverse_ℚ le_ℚ
nonzero_second = Contains-there first (second ∷ []) second (Contains-here second [] second refl)

pub is_addition : IsAddition given cone_rows first (starting 1 corners) ConeRows
unfolding whole
is_addition = IsAddition.of_cone
    (All-cons (Contains (nonzero_vectors dual_form.cone)) first (second ∷ []) nonzero_first
    (All-cons (Contains (nonzero_vectors dual_form.cone)) second [] nonzero_second (All-nil (Contains (nonzero_vectors dual_form.cone)))))
    nonzero_first is_made

abbrev pub corner_two : Numbered
corner_two = record { number = 2; vector = minus_half ∷ n 1 ∷ [] }

pub two_live : Contains (starting 1 corners).live corner_two
two_live = Contains-there (record { number = 1; vector = n 1 ∷ n 0 ∷ [] }) (corner_two ∷ []) corner_two (Contains-here corner_two [] corner_two refl)

value : OverflowsDual (Pair ConeRows (rows (codes "2 1" ∷ codes "0 3" ∷ codes "2 1" ∷ [])) 2 0 1) (operation Mul (n 2) minus_half)
unfolding whole fraction gcd ◌+ℚ◌ ◌*ℚ◌ neg_ℚ inverse_ℚ le_ℚ
value = record {
  not_held = not_held is_few (operation Mul (n 2) minus_half) refl refl;
  operands = record {
    before = cone_rows;
    last = first;
    parted = refl;
    list = starting 1 corners;
    allowed = is_addition;
    operands = IsPairStep.value corner_two two_live refl refl
        (record { from_one = lit≤ tt; there = step_is (slice_get (value_steps first (minus_half ∷ n 1 ∷ [])) 0) Mul (n 2) minus_half refl });
  };
}

-- ---- pairs
abbrev live : ℕ → List ℚ → Numbered
live k v = record { number = k; vector = v }

abbrev pair_of : Numbered → Numbered → LivePair
pair_of p m = record { plus_side = p; minus_side = m }

abbrev one_two : LivePair
one_two = pair_of (live 1 (numbers (codes "1 1 1"))) (live 2 (numbers (codes "-1 1 1")))

abbrev four_three : LivePair
four_three = pair_of (live 4 (numbers (codes "1 -1 1"))) (live 3 (numbers (codes "-1 -1 1")))

pair : IsPairStep square_rows (numbers (codes "1 0 0")) square_list 1 2 1 (operation Div (n 1) (n 1))
unfolding whole fraction gcd ◌+ℚ◌ ◌*ℚ◌ neg_ℚ inverse_ℚ le_ℚ
pair = IsPairStep.pair one_two (Contains-here one_two (four_three ∷ []) one_two refl) refl refl
    (record {
      from_one = lit≤ tt;
      there = step_is (slice_get (pair_steps (numbers (codes "1 0 0")) (numbers (codes "1 1 1")) (numbers (codes "-1 1 1"))) 0) Div (n 1) (n 1) refl;
    })

none_left : live_pairs square_rows square_list.live (numbers (codes "1 1 0")) ≡ []
unfolding whole fraction gcd ◌+ℚ◌ ◌*ℚ◌ neg_ℚ inverse_ℚ le_ℚ
none_left = refl

covered : IsPairStep square_rows (numbers (codes "1 1 0")) square_list 1 3 1 (operation Div (n 2) (n 2)) → ⊥
covered (IsPairStep.value g c e f s) = omega (arith, f)
covered (IsPairStep.pair p c e f s) = Contains-nil p (subst (λ (ps : List LivePair). Contains ps p) none_left c)

-- ---- the row of a direction
abbrev up : List ℚ
up = n 0 ∷ n 1 ∷ []

up_row : IsBaseRow plain ones (exchange_row ones up false)
unfolding whole
up_row = IsBaseRow.of_cone up (2, lit≤ tt, lit≤ tt, refl) refl

exchange : OverflowsPlain (Exchange up false 2) (operation Sub (n 0) (n 1))
unfolding whole fraction gcd ◌+ℚ◌ ◌*ℚ◌ neg_ℚ inverse_ℚ le_ℚ
exchange = record {
  not_held = not_held is_few (operation Sub (n 0) (n 1)) refl refl;
  operands = record {
    c = ones;
    known = refl;
    base = up_row;
    operands = record { from_one = lit≤ tt; there = step_is (slice_get (exchange_steps ones up) 1) Sub (n 0) (n 1) refl };
  };
}

op_of : Option Event → ℕ
op_of None = 9
op_of (Some (test r passed)) = 9
op_of (Some (step o a b)) = op_number o

first_op : op_of (slice_get (exchange_steps ones up) 0) ≡ 2
unfolding op_of whole
first_op = refl

other_number : OverflowsPlain (Exchange up false 1) (operation Sub (n 0) (n 1)) → ⊥
unfolding op_of
other_number h =
    let o : IsExchangeStep (setting plain ones) up false 1 (operation Sub (n 0) (n 1)) = h.operands in
    let there = o.operands.there in
    let same : ones ≡ o.c = ap (λ (v : Option (List ℚ)). vector_of v) o.known in
    let one : 2 ≡ 1 = sym first_op ∙ ap (λ (c : List ℚ). op_of (slice_get (exchange_steps c up) 0)) same ∙ ap op_of there in
    omega (arith, one)

-- ---- norming
abbrev vector : List ℚ
vector = n 4 ∷ n 5 ∷ []

is_given : dual_form.duality ≡ Some vector
unfolding whole fraction gcd ◌+ℚ◌ ◌*ℚ◌ neg_ℚ inverse_ℚ le_ℚ
is_given = ap (λ (v : List ℚ). Some v) (same_vector_is (numbers (codes "4 5")) vector refl)

scale : OverflowsDual (Scale vector 2) (operation Div (n 5) (n 4))
unfolding whole fraction gcd ◌+ℚ◌ ◌*ℚ◌ neg_ℚ inverse_ℚ le_ℚ
scale = overflow_laws.scale is_few given vector 2 (n 4) refl (IsScaled.given is_given) (lit≤ tt) (lit≤ tt)
    (IsDivisor.own 1 (lit≤ tt) (lit≤ tt) refl) refl

no_divisor : IsDivisor given vector (n 3) → ⊥
unfolding whole fraction gcd ◌+ℚ◌ ◌*ℚ◌ neg_ℚ inverse_ℚ le_ℚ
no_divisor (IsDivisor.own zero l u e) = omega (arith, l)
no_divisor (IsDivisor.own (suc zero) l u e) = apart (n 3) (n 4) refl e
no_divisor (IsDivisor.own (suc (suc zero)) l u e) = apart (n 3) (n 5) refl e
no_divisor (IsDivisor.own (suc (suc (suc k))) l u e) = omega (arith, u)
no_divisor (IsDivisor.given f same e) =
    let known : vector ≡ f = ap (λ (v : Option (List ℚ)). vector_of v) (sym is_given ∙ same) in
    apart (n 3) (n 5) refl (e ∙ ap (λ (v : List ℚ). entry v (length v)) (sym known))
no_divisor (IsDivisor.ray r e) = apart (n 3) (magnitude (leading (image_of dual_form vector))) refl e

other_divisor : OverflowsDual (Scale vector 2) (operation Div (n 5) (n 3)) → ⊥
other_divisor h =
    let o : IsScaleStep given vector 2 (operation Div (n 5) (n 3)) = h.operands in
    let same : o.by ≡ n 3 = ap (λ (l : Left ℚ). l.b) (sym o.same) in
    no_divisor (subst (λ (q : ℚ). IsDivisor given vector q) same o.divisor)

-- ---- the check
third_step : plain_failure is_few dual_form ended ≡ Some (record { entry = 2; failure = overflows 3 Mul (n 2) four_fifths })
unfolding whole fraction gcd ◌+ℚ◌ ◌*ℚ◌ neg_ℚ inverse_ℚ le_ℚ
third_step = overflow_is (plain_failure is_few dual_form ended) 2 3 Mul (n 2) four_fifths refl

is_log : IsLog ended
unfolding whole fraction gcd ◌+ℚ◌ ◌*ℚ◌ neg_ℚ inverse_ℚ le_ℚ
is_log = record { formed = refl; ends = refl }

check : IsCheckOverflow is_few dual_form ended (Step 2 3) (operation Mul (n 2) four_fifths)
unfolding whole fraction gcd ◌+ℚ◌ ◌*ℚ◌ neg_ℚ inverse_ℚ le_ℚ
check = overflow_laws.check is_few dual_form ended 2 3 Mul (n 2) four_fifths refl is_log third_step

step_number : Option Failing → ℕ
step_number None = 0
step_number (Some f) = of_failure f.failure
  where
    of_failure : Failure → ℕ
    of_failure (wrong r) = 0
    of_failure (overflows k o a b) = k

-- the step that a place of the check names
named_step : Place → ℕ
named_step (Step number k) = k
named_step p = 0

earlier_step : IsCheckOverflow is_few dual_form ended (Step 2 1) (operation Mul (n 2) four_fifths) → ⊥
unfolding step_number named_step
earlier_step h =
    let told : 1 ≡ h.step = ap named_step h.at in
    let k : 3 ≡ h.step = ap step_number (sym third_step ∙ h.first) in
    omega (arith, told, k)

-- a licence of a step has a log as its trail
not_checked : (trail : List Entry) → ends_once trail ≡ false → Licensed is_few dual_form scaled_given (step_licence trail) → ⊥
not_checked trail none (inl h) = h.overflow.operands
not_checked trail none (inr h) = true≢false (sym h.overflow.log.ends ∙ none)

pub step_examples : StepExamples
step_examples = record {
  value = value;
  pair = pair;
  covered = covered;
  exchange = exchange;
  other_number = other_number;
  scale = scale;
  other_divisor = other_divisor;
  check = check;
  earlier_step = earlier_step;
  no_trail = not_checked [] refl;
  cut_trail = not_checked (trail_of scaled_given) refl;
  no_call = λ h. h.operands;
}

-- ---- the trail with the first cut
cut_meets : Meets plain (trail_of ones) cut_entry
unfolding whole fraction gcd ◌+ℚ◌ ◌*ℚ◌ neg_ℚ inverse_ℚ le_ℚ
cut_meets = events_give_meets (λ q. true) plain (trail_of ones ++ cut_entry ∷ []) refl (trail_of ones) cut_entry [] refl

pub worked_licences : WorkedLicences
worked_licences = record {
  trails = record { begins = plain_begins; given = given_begins; other = other; first_cut = first_cut; with_cut = trail_laws.grows plain ones [] (trail_of ones) cut_entry plain_begins.base cut_meets first_cut };
  bases = base_examples;
  orthogonals = orthogonal_examples;
  sums = sum_examples;
  dictionaries = dictionary_examples;
  steps = step_examples;
}
