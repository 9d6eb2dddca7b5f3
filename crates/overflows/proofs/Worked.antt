-- The worked licences, computed.
use Rattle.std.proofs.Common.{◌≡◌, ℕ, ◌-◌, ◌≤◌, true, List, [], ◌∷◌, length, refl, sym, ap, ◌∙◌, arith, IsTrue, ◌⊎◌, inl, inr, None, pos, negsuc, codes, true≢false}
use Rattle.std.specs.Prelude.{◌==◌, Contains, if◌then◌else◌}
use Rattle.std.specs.List.{list_all}
use Rattle.std.proofs.Math.Dec.{lit≤}
use Rattle.std.proofs.lemmas.List.Elements.{All-nil, All-cons}
use Rattle.exact_field.specs.Gcd.{gcd}
use Rattle.exact_field.specs.Rational.{ℚ, zero_ℚ, one_ℚ, whole, fraction, ◌+ℚ◌, ◌*ℚ◌, neg_ℚ, inverse_ℚ, le_ℚ}
use Rattle.exact_field.specs.Vector.{entry}
use Rattle.exact_field.specs.declared.op.Op.{Op}
use Rattle.exact_field.specs.declared.op.Op.TheVariants.{Add, Mul, Div}
use Rattle.polyhedra.specs.DoubleDescription.{magnitude}
use Rattle.polyhedra.proofs.Lists.{Contains-here, Contains-there, Contains-nil}
use Rattle.polyhedra.proofs.Tests.{same_vector_is}
use Rattle.tableaux.specs.Table.{Table, System, at, beside_unit, table_of, right_column, first_cost}
use Rattle.tableaux.specs.Dictionary.{IsDictionaryOf, basic_column}
use Rattle.tableaux.specs.Elimination.{AreInverse, product_entry}
use Rattle.tableaux.proofs.Eliminated.{starts}
use Rattle.vlp_problem.specs.declared.problem.Problem.{Problem}
use Rattle.deriv_log.specs.declared.entry.Entry.TheVariants.{Version, Duality}
use Rattle.vlp_problem.specs.declared.program.Program.TheVariants.{Feasible, Benson}
use Rattle.deriv_log.specs.declared.licence.Place.TheVariants.{Pivot, Elim}
use Rattle.lin_rows.specs.Pivot.{IsPivotStep}
use Rattle.lin_rows.specs.Sums.{partial}
use Rattle.exact_simplex.specs.Ends.{IsSystemStep}
use Rattle.vlp_problem.specs.Values.{cone_vectors}
use Rattle.upper_image.specs.Shows.{ShowsFitting}
use Rattle.log_rules.specs.LogEvents.{plain_failure}
use Rattle.log_rules.proofs.LogMeets.{events_give_meets}
use Rattle.overflows.specs.Examples.{plain, dual_form, n, is_few, ones, scaled_given, trail_of, setting, OverflowsPlain, OverflowsDual, DictionaryExamples}
use Rattle.lp_form.specs.Examples.{numbers, rows}
use Rattle.lp_form.specs.Programs.{benson_system, feasible_system, value_of, share_of}
use Rattle.overflows.specs.Base.{IsBaseStart}
use Rattle.overflows.specs.Licence.{StandsFor}
use Rattle.overflows.specs.Dictionaries.{IsAllowed, IsProgramStep, IsElimStep, IsElimTable, AreStartRows, AreElimRows}
use Rattle.overflows.specs.Products.{AreMultiplied, IsBesideCone, IsShareStep, IsListStep}
use Rattle.overflows.specs.Settings.{Setting}
use Rattle.overflows.specs.Steps.{operation, IsProductStep}
use Rattle.overflows.specs.Trails.{IsBaseTrail, IsBaseDuality}
use Rattle.overflows.proofs.Given.{overflow_laws}
use Rattle.overflows.proofs.Growing.{trail_laws}
use Rattle.overflows.proofs.Pivots.{no_column, below, at_start}
use Rattle.overflows.proofs.Values.{equal, apart, held_all, wide_test, two_by_two, op_number}

-- ---- trails
fits : (file : Problem) (c : List ℚ) → plain_failure (λ q. true) file (trail_of c) ≡ None → ShowsFitting file c [] [] []
fits file c h = (events_give_meets (λ q. true) file (trail_of c) h (Version 1 ∷ []) (Duality c [] [] []) [] refl).rules

pub begins : (file : Problem) (c : List ℚ) → plain_failure (λ q. true) file (trail_of c) ≡ None → list_all is_few c ≡ true →
    IsBaseDuality file file.cone file.duality c [] → StandsFor is_few file c [] [] (trail_of c)
begins file c h held base =
    trail_laws.begins is_few file c [] [] []
    (record { c_held = held_all is_few c held; weights_held = All-nil (λ q. IsTrue (is_few q)); inverse_held = All-nil (λ q. IsTrue (is_few q)) })
    (fits file c h) base

pub plain_begins : StandsFor is_few plain ones [] [] (trail_of ones)
unfolding whole fraction gcd ◌+ℚ◌ ◌*ℚ◌ neg_ℚ inverse_ℚ le_ℚ
plain_begins = begins plain ones refl refl (refl, refl)

pub given_begins : StandsFor is_few dual_form scaled_given [] [] (trail_of scaled_given)
unfolding whole fraction gcd ◌+ℚ◌ ◌*ℚ◌ neg_ℚ inverse_ℚ le_ℚ
given_begins = begins dual_form scaled_given refl refl (same_vector_is _ _ refl, refl)

pub other : IsBaseTrail plain (n 2 ∷ n 1 ∷ []) [] (trail_of (n 2 ∷ n 1 ∷ [])) → ⊥
unfolding whole le_ℚ
other t =
    let base = t.base (Version 1 ∷ []) (Duality (n 2 ∷ n 1 ∷ []) [] [] []) [] refl in
    apart (n 2) one_ℚ refl (ap (λ (v : List ℚ). entry v 1) base.2.0)

-- ---- dictionaries
pub no_names : (k : ℕ) → basic_column [] k ≡ 0
no_names k = no_column 0 (k - 1)

abbrev feasible : System
feasible = feasible_system plain

-- the table of a system is its dictionary at the basis without columns
pub start_dictionary : (s : System) → list_all (λ r. length r == right_column s) (table_of s) ≡ true → IsDictionaryOf s [] (table_of s)
start_dictionary s h = record {
  columns = record { within = λ i l. below (right_column s) [] (i - 1) (omega arith) refl; equations_only = λ i l. no_names i };
  dictionary = starts (right_column s) (table_of s) [] (wide_test (right_column s) (table_of s) h) no_names;
}

pub first_dictionary : IsDictionaryOf feasible [] (table_of feasible)
unfolding whole fraction gcd ◌+ℚ◌ ◌*ℚ◌ neg_ℚ inverse_ℚ le_ℚ
first_dictionary = start_dictionary feasible refl

pivot : OverflowsPlain (Pivot Feasible [] 1 1 1) (operation Div (n 1) (n 2))
unfolding whole fraction gcd ◌+ℚ◌ ◌*ℚ◌ neg_ℚ inverse_ℚ le_ℚ
pivot = overflow_laws.program is_few (setting plain ones) Feasible [] 1 1 1 (operation Div (n 1) (n 2)) refl refl tt (
  table_of feasible,
  first_dictionary,
  inl (
    lit≤ tt,
    lit≤ tt,
    lit≤ tt,
    lit≤ tt,
    (
      2,
      lit≤ tt,
      lit≤ tt,
      inl (refl, (refl, equal (n 1) (at (table_of feasible) 1 2) refl, equal (n 2) (at (table_of feasible) 1 1) refl, refl)),
    ),
  ),
)

two_at : at (table_of feasible) 1 1 ≡ n 2
unfolding whole fraction gcd ◌+ℚ◌ ◌*ℚ◌ neg_ℚ inverse_ℚ le_ℚ
two_at = equal (at (table_of feasible) 1 1) (n 2) refl

one_row : 1 ≤ length (table_of feasible)
unfolding whole
one_row = lit≤ tt

not_cost_row : 1 ≡ first_cost feasible → ⊥
unfolding whole
not_cost_row h = let k : 1 ≡ 3 = h in omega (arith, k)

not_two : n 1 ≡ n 2 → ⊥
unfolding whole le_ℚ
not_two = apart (n 1) (n 2) refl

turned : OverflowsPlain (Pivot Feasible [] 1 1 1) (operation Div (n 2) (n 1)) → ⊥
turned h = go h.operands h.operands.operands
  where
    go : (o : IsProgramStep is_few (setting plain ones) Feasible [] 1 1 1 (operation Div (n 2) (n 1))) →
        IsSystemStep (λ q. q) is_few feasible o.dictionary 1 1 1 (operation Div (n 2) (n 1)) → ⊥
    go o (inl (a, b, c, d, (j, l, u, inl s))) =
        not_two (s.1.2 ∙ at_start (right_column feasible) (table_of feasible) [] o.dictionary 1 1 no_names o.is.dictionary (lit≤ tt) one_row ∙ two_at)
    go o (inl (a, b, c, d, (j, l, u, inr (i, e, f, g, inl s)))) = let k = s.0 in omega (arith, k)
    go o (inl (a, b, c, d, (j, l, u, inr (i, e, f, g, inr s)))) = let k = s.0 in omega (arith, k)
    go o (inr x) = not_cost_row x.3

no_product : Div ≡ Mul → ⊥
no_product h = let k : 3 ≡ 2 = ap (λ (o : Op). op_number o) h in omega (arith, k)

other_step : OverflowsPlain (Pivot Feasible [] 1 1 2) (operation Div (n 1) (n 2)) → ⊥
other_step h = go h.operands h.operands.operands
  where
    go : (o : IsProgramStep is_few (setting plain ones) Feasible [] 1 1 2 (operation Div (n 1) (n 2))) →
        IsSystemStep (λ q. q) is_few feasible o.dictionary 1 1 2 (operation Div (n 1) (n 2)) → ⊥
    go o (inl (a, b, c, d, (j, l, u, inl s))) = let k = s.0 in omega (arith, k)
    go o (inl (a, b, c, d, (j, l, u, inr (i, e, f, g, inl s)))) = no_product s.1.0
    go o (inl (a, b, c, d, (j, l, u, inr (i, e, f, g, inr s)))) = let k = s.0 in omega (arith, k)
    go o (inr x) = not_cost_row x.3

no_dictionary : OverflowsPlain (Pivot Feasible (1 ∷ 1 ∷ []) 1 1 1) (operation Div (n 1) (n 2)) → ⊥
unfolding whole le_ℚ
no_dictionary h =
    let o : IsProgramStep is_few (setting plain ones) Feasible (1 ∷ 1 ∷ []) 1 1 1 (operation Div (n 1) (n 2)) = h.operands in
    let d = o.is.dictionary in
    let one : at o.dictionary 1 1 ≡ one_ℚ = d.unit_columns 1 1 (lit≤ tt) (lit≤ tt) (lit≤ tt) (lit≤ tt) (λ (e : 1 ≡ 0). omega (arith, e)) in
    let none : at o.dictionary 1 1 ≡ zero_ℚ = d.unit_columns 1 2 (lit≤ tt) (lit≤ tt) (lit≤ tt) (lit≤ tt) (λ (e : 1 ≡ 0). omega (arith, e)) in
    apart one_ℚ zero_ℚ refl (sym one ∙ none)

-- ---- start vectors
abbrev at_origin : System
at_origin = benson_system plain ones (n 0 ∷ n 0 ∷ []) true

origin_dictionary : IsDictionaryOf at_origin [] (table_of at_origin)
unfolding whole fraction gcd ◌+ℚ◌ ◌*ℚ◌ neg_ℚ inverse_ℚ le_ℚ
origin_dictionary = start_dictionary at_origin refl

origin_allowed : IsAllowed (setting plain ones) (Benson (n 0 ∷ n 0 ∷ []) true)
unfolding whole
origin_allowed = (ones, refl, IsBaseStart.origin refl refl)

origin : OverflowsPlain (Pivot (Benson (n 0 ∷ n 0 ∷ []) true) [] 1 1 1) (operation Div (n 1) (n 2))
unfolding whole fraction gcd ◌+ℚ◌ ◌*ℚ◌ neg_ℚ inverse_ℚ le_ℚ
origin = overflow_laws.program is_few (setting plain ones) (Benson (n 0 ∷ n 0 ∷ []) true) [] 1 1 1 (operation Div (n 1) (n 2)) refl refl origin_allowed (
  table_of at_origin,
  origin_dictionary,
  inl (
    lit≤ tt,
    lit≤ tt,
    lit≤ tt,
    lit≤ tt,
    (
      2,
      lit≤ tt,
      lit≤ tt,
      inl (refl, (refl, equal (n 1) (at (table_of at_origin) 1 2) refl, equal (n 2) (at (table_of at_origin) 1 1) refl, refl)),
    ),
  ),
)

not_allowed : IsBaseStart plain.objs (trail_of ones) (n 5 ∷ n 7 ∷ []) true → ⊥
unfolding whole le_ℚ
not_allowed (IsBaseStart.origin e f) = apart (n 5) zero_ℚ refl (ap (λ (v : List ℚ). entry v 1) e)
not_allowed (IsBaseStart.live g live e) = Contains-nil g live
not_allowed (IsBaseStart.side side e) = true≢false e
not_allowed (IsBaseStart.other_side d side e f) = true≢false f

no_start : OverflowsPlain (Pivot (Benson (n 5 ∷ n 7 ∷ []) true) [] 1 1 1) (operation Div (n 1) (n 2)) → ⊥
no_start h =
    let o : IsProgramStep is_few (setting plain ones) (Benson (n 5 ∷ n 7 ∷ []) true) [] 1 1 1 (operation Div (n 1) (n 2)) = h.operands in
    not_allowed o.allowed.2

-- ---- eliminations
abbrev pub cone_rows : List (List ℚ)
cone_rows = rows (codes "2 1" ∷ codes "0 3" ∷ [])

abbrev pub given : Setting
given = setting dual_form scaled_given

abbrev pub first : List ℚ
first = numbers (codes "2 1")

abbrev pub second : List ℚ
second = numbers (codes "0 3")

abbrev third : List ℚ
third = numbers (codes "0 0")

has_first : Contains (cone_vectors dual_form.cone) first
unfolding whole
has_first = Contains-here first (second ∷ third ∷ []) first refl

has_second : Contains (cone_vectors dual_form.cone) second
unfolding whole
has_second = Contains-there first (second ∷ third ∷ []) second (Contains-here second (third ∷ []) second refl)

cone_allowed : AreStartRows given cone_rows 2
unfolding whole
cone_allowed = AreStartRows.of_cone
    (All-cons (Contains (cone_vectors dual_form.cone)) first (second ∷ []) has_first
    (All-cons (Contains (cone_vectors dual_form.cone)) second [] has_second (All-nil (Contains (cone_vectors dual_form.cone)))))

elimination : OverflowsDual (Elim cone_rows (0 ∷ 0 ∷ []) 1 1 1) (operation Div (n 1) (n 2))
unfolding whole fraction gcd ◌+ℚ◌ ◌*ℚ◌ neg_ℚ inverse_ℚ le_ℚ
elimination = overflow_laws.elimination is_few given cone_rows 2 cone_rows 2 (0 ∷ 0 ∷ []) 1 1 1 (operation Div (n 1) (n 2)) refl refl
    (IsElimTable.alone (AreElimRows.of_start 2 cone_allowed) refl refl) refl (lit≤ tt) (lit≤ tt) (
      cone_rows,
      starts 2 cone_rows (0 ∷ 0 ∷ []) (wide_test 2 cone_rows refl) (λ i. no_column 2 (i - 1)),
      (2, lit≤ tt, lit≤ tt, inl (refl, (refl, equal (n 1) (at cone_rows 1 2) refl, equal (n 2) (at cone_rows 1 1) refl, refl))),
      lit≤ tt,
      lit≤ tt,
      lit≤ tt,
      lit≤ tt,
    )

-- the table of an elimination of these rows begins with 2
begins_with_two : (width columns : ℕ) (t : Table) → IsElimTable given cone_rows width t columns → (length t ≡ 2) × (at t 1 1 ≡ n 2)
unfolding whole fraction gcd ◌+ℚ◌ ◌*ℚ◌ neg_ℚ inverse_ℚ le_ℚ
begins_with_two width columns t (IsElimTable.alone allowed same wide) =
    (ap (λ (d : Table). length d) same, ap (λ (d : Table). at d 1 1) same ∙ equal (at cone_rows 1 1) (n 2) refl)
begins_with_two width columns t (IsElimTable.beside allowed square same wide) =
    (ap (λ (d : Table). length d) same, ap (λ (d : Table). at d 1 1) same ∙ equal (at (beside_unit cone_rows) 1 1) (n 2) refl)

turned_elimination : OverflowsDual (Elim cone_rows (0 ∷ 0 ∷ []) 1 1 1) (operation Div (n 2) (n 1)) → ⊥
turned_elimination h = go h.operands
  where
    within : (e : IsElimStep is_few given cone_rows (0 ∷ 0 ∷ []) 1 1 1 (operation Div (n 2) (n 1))) →
        IsPivotStep (λ q. q) is_few e.columns e.dictionary 1 1 1 (operation Div (n 2) (n 1)) → ⊥
    within e (j, l, u, inl s) =
        let first = begins_with_two e.width e.columns e.is.table e.is.of_rows in
        let long = first.0 in
        not_two (s.1.2 ∙ at_start e.columns e.is.table (0 ∷ 0 ∷ []) e.dictionary 1 1 (λ i. no_column 2 (i - 1)) e.is.is (lit≤ tt) (omega (arith, long)) ∙ first.1)
    within e (j, l, u, inr (i, a, b, c, inl s)) = let k = s.0 in omega (arith, k)
    within e (j, l, u, inr (i, a, b, c, inr s)) = let k = s.0 in omega (arith, k)

    go : IsElimStep is_few given cone_rows (0 ∷ 0 ∷ []) 1 1 1 (operation Div (n 2) (n 1)) ⊎ ((◌≡◌ {A = ℕ} 1 0) × (◌≡◌ {A = List ℕ} (0 ∷ 0 ∷ []) []) × IsListStep given cone_rows 1 1 (operation Div (n 2) (n 1))) → ⊥
    go (inl e) = within e e.operands
    go (inr x) = let k = x.0 in omega (arith, k)

abbrev inverse : Table
inverse = (fraction (pos 1) 2 ∷ fraction (negsuc 0) 6 ∷ []) ∷ (n 0 ∷ fraction (pos 1) 3 ∷ []) ∷ []

abbrev delta : ℕ → ℕ → ℚ
delta i j = if i == j then one_ℚ else zero_ℚ

is_inverse : AreInverse 2 cone_rows inverse
unfolding whole fraction gcd ◌+ℚ◌ ◌*ℚ◌ neg_ℚ inverse_ℚ le_ℚ
is_inverse = record {
  many = refl;
  wide = wide_test 2 inverse refl;
  left = two_by_two (λ i j. product_entry inverse cone_rows i j ≡ delta i j)
      (equal (product_entry inverse cone_rows 1 1) one_ℚ refl) (equal (product_entry inverse cone_rows 1 2) zero_ℚ refl)
      (equal (product_entry inverse cone_rows 2 1) zero_ℚ refl) (equal (product_entry inverse cone_rows 2 2) one_ℚ refl);
  right = two_by_two (λ i j. product_entry cone_rows inverse i j ≡ delta i j)
      (equal (product_entry cone_rows inverse 1 1) one_ℚ refl) (equal (product_entry cone_rows inverse 1 2) zero_ℚ refl)
      (equal (product_entry cone_rows inverse 2 1) zero_ℚ refl) (equal (product_entry cone_rows inverse 2 2) one_ℚ refl);
}

norming_two : OverflowsDual (Elim cone_rows [] 0 1 1) (operation Div (fraction (negsuc 0) 6) (fraction (pos 1) 3))
unfolding whole fraction gcd ◌+ℚ◌ ◌*ℚ◌ neg_ℚ inverse_ℚ le_ℚ
norming_two = overflow_laws.norming is_few given cone_rows inverse 2 1 refl cone_allowed is_inverse (lit≤ tt) (lit≤ tt) (lit≤ tt) (lit≤ tt) refl

-- ---- sums
abbrev by : List ℚ
by = numbers (codes "4 5")

multiplied : AreMultiplied given first by
unfolding whole
multiplied = AreMultiplied.cone has_first (IsBesideCone.given refl)

product : OverflowsDual (Elim [] [] 0 1 2) (operation Mul (n 2) (n 4))
unfolding whole fraction gcd ◌+ℚ◌ ◌*ℚ◌ neg_ℚ inverse_ℚ le_ℚ
product = overflow_laws.term is_few given first by 1 (operation Mul (n 2) (n 4)) refl (inl multiplied) (lit≤ tt) (lit≤ tt) (lit≤ tt)
    (inl (refl, equal (n 2) (entry first 1) refl, equal (n 4) (entry by 1) refl, refl))

turned_product : OverflowsDual (Elim [] [] 0 1 2) (operation Mul (n 4) (n 2))
unfolding whole fraction gcd ◌+ℚ◌ ◌*ℚ◌ neg_ℚ inverse_ℚ le_ℚ
turned_product = overflow_laws.term is_few given by first 1 (operation Mul (n 4) (n 2)) refl (inr multiplied) (lit≤ tt) (lit≤ tt) (lit≤ tt)
    (inl (refl, equal (n 4) (entry by 1) refl, equal (n 2) (entry first 1) refl, refl))

no_step : OverflowsDual (Elim [] [] 0 1 4) (operation Mul (n 2) (n 4)) → ⊥
no_step h = go h.operands
  where
    at_place : (xs ys : List ℚ) → IsProductStep 1 4 xs ys (operation Mul (n 2) (n 4)) → ⊥
    at_place xs ys p = either p.operands
      where
        either : ((◌≡◌ {A = ℕ} 4 2) × (operation Mul (n 2) (n 4) ≡ operation Mul (entry xs 1) (entry ys 1)))
            ⊎ ((◌≡◌ {A = ℕ} 4 3) × (operation Mul (n 2) (n 4) ≡ operation Add (partial xs ys (1 - 1)) (entry xs 1 *ℚ entry ys 1))) → ⊥
        either (inl e) = let k = e.0 in omega (arith, k)
        either (inr e) = let k = e.0 in omega (arith, k)

    shared : (s : IsShareStep given 1 4 (operation Mul (n 2) (n 4))) → ⊥
    shared s = either s.operands
      where
        either : ((◌≡◌ {A = ℕ} 4 2) × (operation Mul (n 2) (n 4) ≡ operation Mul (magnitude (value_of s.multipliers)) (entry given.weights 1)))
            ⊎ ((◌≡◌ {A = ℕ} 4 3) × (operation Mul (n 2) (n 4) ≡ operation Add (entry (share_of given.file given.file.cone s.multipliers) 1)
            (magnitude (value_of s.multipliers) *ℚ entry given.weights 1))) → ⊥
        either (inl e) = let k = e.0 in omega (arith, k)
        either (inr e) = let k = e.0 in omega (arith, k)

    listed : IsListStep given [] 1 4 (operation Mul (n 2) (n 4)) → ⊥
    listed (IsListStep.normed s) = let k = s.first in omega (arith, k)
    listed (IsListStep.forward xs ys none m p) = at_place xs ys p
    listed (IsListStep.backward xs ys none m p) = at_place xs ys p
    listed (IsListStep.share none s) = shared s

    go : IsElimStep is_few given [] [] 0 1 4 (operation Mul (n 2) (n 4)) ⊎ ((◌≡◌ {A = ℕ} 0 0) × (◌≡◌ {A = List ℕ} [] []) × IsListStep given [] 1 4 (operation Mul (n 2) (n 4))) → ⊥
    go (inl e) = let k = e.row_from_one in omega (arith, k)
    go (inr x) = listed x.2

-- ---- bases and rows that are not those of the place
longer_basis : OverflowsDual (Elim cone_rows (0 ∷ 0 ∷ 0 ∷ []) 1 1 1) (operation Div (n 1) (n 2)) → ⊥
longer_basis h = go h.operands
  where
    go : IsElimStep is_few given cone_rows (0 ∷ 0 ∷ 0 ∷ []) 1 1 1 (operation Div (n 1) (n 2))
        ⊎ ((◌≡◌ {A = ℕ} 1 0) × (◌≡◌ {A = List ℕ} (0 ∷ 0 ∷ 0 ∷ []) []) × IsListStep given cone_rows 1 1 (operation Div (n 1) (n 2))) → ⊥
    go (inl e) = let many : 3 ≡ 2 = e.one_each in omega (arith, many)
    go (inr x) = let k = x.0 in omega (arith, k)

with_basis : OverflowsDual (Elim [] (1 ∷ []) 0 1 2) (operation Mul (n 2) (n 4)) → ⊥
with_basis h = go h.operands
  where
    go : IsElimStep is_few given [] (1 ∷ []) 0 1 2 (operation Mul (n 2) (n 4))
        ⊎ ((◌≡◌ {A = ℕ} 0 0) × (◌≡◌ {A = List ℕ} (1 ∷ []) []) × IsListStep given [] 1 2 (operation Mul (n 2) (n 4))) → ⊥
    go (inl e) = let k = e.row_from_one in omega (arith, k)
    go (inr x) = let many : 1 ≡ 0 = ap (λ (b : List ℕ). length b) x.1 in omega (arith, many)

abbrev first_alone : List (List ℚ)
first_alone = rows (codes "2 1" ∷ [])

with_rows : OverflowsDual (Elim (rows (codes "2 1" ∷ [])) [] 0 1 2) (operation Mul (n 2) (n 4)) → ⊥
with_rows h = go h.operands
  where
    none : first_alone ≡ [] → ⊥
    none e = let many : 1 ≡ 0 = ap (λ (rs : List (List ℚ)). length rs) e in omega (arith, many)

    listed : IsListStep given first_alone 1 2 (operation Mul (n 2) (n 4)) → ⊥
    listed (IsListStep.normed s) = let k = s.first in omega (arith, k)
    listed (IsListStep.forward xs ys e m p) = none e
    listed (IsListStep.backward xs ys e m p) = none e
    listed (IsListStep.share e s) = none e

    go : IsElimStep is_few given first_alone [] 0 1 2 (operation Mul (n 2) (n 4))
        ⊎ ((◌≡◌ {A = ℕ} 0 0) × (◌≡◌ {A = List ℕ} [] []) × IsListStep given first_alone 1 2 (operation Mul (n 2) (n 4))) → ⊥
    go (inl e) = let k = e.row_from_one in omega (arith, k)
    go (inr x) = listed x.2

pub dictionary_examples : DictionaryExamples
dictionary_examples = record {
  pivot = pivot;
  turned = turned;
  other_step = other_step;
  no_pivot = λ h. h.not_held.defined refl refl;
  no_dictionary = no_dictionary;
  origin = origin;
  no_start = no_start;
  licence = inl (record { weights = []; whole = trail_of ones; stands = plain_begins; overflow = pivot });
  elimination = elimination;
  turned_elimination = turned_elimination;
  longer_basis = longer_basis;
  norming = norming_two;
  product = product;
  with_basis = with_basis;
  with_rows = with_rows;
  turned_product = turned_product;
  no_step = no_step;
}
