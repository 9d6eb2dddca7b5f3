-- The worked licences, computed.
use Rattle.std.proofs.Common.{◌≡◌, ◌≢◌, ℕ, zero, suc, ◌-◌, ◌<◌, not, slice_index_or, slice_get, ap₂, Bool, true≢false, List, [], ◌∷◌, map, length, All, Contains, refl, sym, ap, ◌∙◌, subst, arith, pos, negsuc, inl, inr}
use Rattle.std.proofs.Math.Dec.{lit≤}
use Rattle.std.proofs.lemmas.List.Elements.{All-append, All-cons, All-head, All-map, All-nil, All-tail, All-weaker}
use Rattle.exact_field.specs.Gcd.{gcd}
use Rattle.exact_field.specs.Rational.{ℚ, zero_ℚ, one_ℚ, whole, fraction, ◌+ℚ◌, ◌*ℚ◌, neg_ℚ, inverse_ℚ, le_ℚ, ◌<ℚ◌}
use Rattle.exact_field.specs.Ring.{num, ◌⊕◌, ◌⊗◌, v0, v1}
use Rattle.exact_field.specs.Vector.{dot, entry}
use Rattle.exact_field.specs.declared.op.Op.TheVariants.{Mul, Div}
use Rattle.exact_field.specs.declared.op.Left.{Left as Operation}
use Rattle.exact_field.proofs.RingTool.{ring}
use Rattle.exact_field.proofs.Rationals.{rationals}
use Rattle.polyhedra.specs.Dependence.{AreCorners}
use Rattle.polyhedra.specs.DoubleDescription.{IsNormed, leading}
use Rattle.polyhedra.specs.LiveList.{Numbered, starting}
use Rattle.polyhedra.specs.Exactness.{level}
use Rattle.lineality.specs.Without.{marks, without}
use Rattle.tableaux.specs.Table.{Table}
use Rattle.tableaux.proofs.Eliminated.{starts}
use Rattle.exact_field.specs.Order.{same_ℚ}
use Rattle.polyhedra.proofs.Lists.{Contains-here, Contains-there, Contains-cases, Contains-nil, HasWidth, wide-nil}
use Rattle.polyhedra.proofs.Laws.{zero_lt_one}
use Rattle.polyhedra.proofs.Members.{Contains-map, all_of_members, pairs-nil}
use Rattle.polyhedra.proofs.Order.{not_zero_of_positive}
use Rattle.polyhedra.proofs.Tests.{same_vector_is}
use Rattle.lineality.specs.Lines.{leading_place}
use Rattle.overflows.specs.Generators.{IsPairStep}
use Rattle.overflows.specs.Steps.{IsProductStep, operation, value_steps}
use Rattle.overflows.proofs.Making.{generator_laws}
use Rattle.overflows.proofs.Given.{not_held}
use Rattle.overflows.proofs.Pivots.{no_column}
use Rattle.overflows.proofs.Values.{apart, equal, step_is, two_below, wide_test}
use Rattle.rep_conv.specs.Rows.{row_at, text_rows}
use Rattle.rep_convert.specs.Examples.{LicenceExamples, all_but, first, n, other, second, segment, six, third}
use Rattle.rep_convert.specs.Licensed.{IsElimTable, IsElimStep, AreInUse, AreMultiplied, IsAdditionStep, IsListStep}
use Rattle.rep_convert.specs.Licensed.IsListStep.{backward, forward, normed}
use Rattle.rep_convert.specs.Licensed.IsElimTable.{whole as of_whole, short, start}
use Rattle.rep_convert.specs.Lines.{AreLinesOf, marks_of, rows_without}

-- ---- the segment has no lines
second_zero : (a b : ℚ) → dot (n 0 ∷ n 1 ∷ []) (a ∷ b ∷ []) ≡ zero_ℚ → b ≡ zero_ℚ
second_zero a b h = ring rationals (a ∷ b ∷ []) v1 (num (pos 0) ⊗ v0 ⊕ (num (pos 1) ⊗ v1 ⊕ num (pos 0))) refl ∙ h

first_zero : (a b : ℚ) → dot (n 1 ∷ n 0 ∷ []) (a ∷ b ∷ []) ≡ zero_ℚ → a ≡ zero_ℚ
first_zero a b h = ring rationals (a ∷ b ∷ []) v0 (num (pos 1) ⊗ v0 ⊕ (num (pos 0) ⊗ v1 ⊕ num (pos 0))) refl ∙ h

-- its rows
rows_are : text_rows segment ≡ first ∷ second ∷ third ∷ []
unfolding whole fraction gcd ◌+ℚ◌ ◌*ℚ◌ neg_ℚ inverse_ℚ le_ℚ
rows_are =
    ap₂ (λ (v : List ℚ) (vs : List (List ℚ)). v ∷ vs) (same_vector_is (level 1) first refl)
    (ap₂ (λ (v : List ℚ) (vs : List (List ℚ)). v ∷ vs) (same_vector_is (row_at segment 1) second refl)
    (ap (λ (v : List ℚ). v ∷ []) (same_vector_is (row_at segment 2) third refl)))

only_zero : (y : List ℚ) → length y ≡ 2 → dot first y ≡ zero_ℚ → dot second y ≡ zero_ℚ → y ≡ zero_ℚ ∷ zero_ℚ ∷ []
only_zero [] w h k = absurd (omega (arith, w))
only_zero (a ∷ []) w h k = absurd (omega (arith, w))
only_zero (a ∷ b ∷ []) w h k = ap₂ (λ (x y : ℚ). x ∷ y ∷ []) (first_zero a b k) (second_zero a b h)
only_zero (a ∷ b ∷ c ∷ y) w h k = absurd (omega (arith, w))

tight : (y : List ℚ) → All (λ r. dot r y ≡ zero_ℚ) (text_rows segment) → (dot first y ≡ zero_ℚ) × (dot second y ≡ zero_ℚ)
tight y h =
    let P : List ℚ → Type 0 = λ r. dot r y ≡ zero_ℚ in
    let all : All P (first ∷ second ∷ third ∷ []) = subst (All P) rows_are h in
    (All-head P first (second ∷ third ∷ []) all, All-head P second (third ∷ []) (All-tail P first (second ∷ third ∷ []) all))

lines_are : AreLinesOf segment []
unfolding whole
lines_are = record {
  echelon = record {
    wide = wide-nil 2;
    leading_one = All-nil (λ d. leading d ≡ one_ℚ);
    places_rise = pairs-nil (λ d e. leading_place d < leading_place e);
    others_zero = pairs-nil (λ d e. entry d (leading_place e) ≡ zero_ℚ);
  };
  orthogonal = All-nil (λ v. All (λ r. dot r v ≡ zero_ℚ) (text_rows segment));
  spans = λ y w h. let t = tight y h in record { multipliers = []; one_each = refl; combined = only_zero y w t.0 t.1 };
}

no_lead : leading (zero_ℚ ∷ zero_ℚ ∷ []) ≡ zero_ℚ
unfolding whole le_ℚ
no_lead = refl

no_lines : (lines : List (List ℚ)) → AreLinesOf segment lines → lines ≡ []
unfolding whole
no_lines [] h = refl
no_lines (d ∷ lines) h =
    let t = tight d (All-head (λ v. All (λ r. dot r v ≡ zero_ℚ) (text_rows segment)) d lines h.orthogonal) in
    let none : d ≡ zero_ℚ ∷ zero_ℚ ∷ [] = only_zero d (All-head (HasWidth 2) d lines h.echelon.wide.wide) t.0 t.1 in
    absurd (not_zero_of_positive one_ℚ zero_lt_one (sym (All-head (λ v. leading v ≡ one_ℚ) d lines h.echelon.leading_one) ∙ ap leading none ∙ no_lead))

-- ---- a row that the segment does not have
differ : (v : List ℚ) (x : ℚ) → entry v 1 ≡ x → (x ≡ n 5 → ⊥) → v ≡ other → ⊥
differ v x e apart same = apart (sym e ∙ ap (λ (u : List ℚ). entry u 1) same)

not_listed : Contains (first ∷ second ∷ third ∷ []) other → ⊥
unfolding whole fraction gcd ◌+ℚ◌ ◌*ℚ◌ neg_ℚ inverse_ℚ le_ℚ
not_listed c = elim (Contains-cases first (second ∷ third ∷ []) other c) [
  | inl e ↦ differ first (n 0) refl (apart (n 0) (n 5) refl) e
  | inr c ↦ elim (Contains-cases second (third ∷ []) other c) [
    | inl e ↦ differ second (n 1) refl (apart (n 1) (n 5) refl) e
    | inr c ↦ elim (Contains-cases third [] other c) [
      | inl e ↦ differ third (whole (negsuc 2)) refl (apart (whole (negsuc 2)) (n 5) refl) e
      | inr c ↦ absurd (Contains-nil other c)
    ]
  ]
]

not_whole : Contains (text_rows segment) other → ⊥
not_whole c = not_listed (subst (λ (rows : List (List ℚ)). Contains rows other) rows_are c)

kept_rows : map (without (marks 1 [])) (first ∷ second ∷ third ∷ []) ≡ first ∷ second ∷ third ∷ []
kept_rows = refl

not_short : (lines : List (List ℚ)) → AreLinesOf segment lines → Contains (rows_without segment lines) other → ⊥
unfolding whole
not_short lines h c = not_listed
    (subst (λ (rows : List (List ℚ)). Contains rows other)
    (ap (λ (ls : List (List ℚ)). rows_without segment ls) (no_lines lines h) ∙ ap (map (without (marks 1 []))) rows_are ∙ kept_rows) c)

no_table : (rows : List (List ℚ)) (t : Table) (columns : ℕ) → rows ≡ other ∷ [] → IsElimTable segment rows t columns → ⊥
no_table rows t columns same h = elim h as (λ k _. ⊥) [
  | of_whole a e ↦ not_whole (All-head (Contains (text_rows segment)) other [] (subst (All (Contains (text_rows segment))) same a))
  | short lines s e ↦ not_short lines s.lines_are
      (All-head (Contains (rows_without segment lines)) other [] (subst (All (Contains (rows_without segment lines))) same s.of_text))
  | start lines s square e ↦ not_short lines s.lines_are
      (All-head (Contains (rows_without segment lines)) other [] (subst (All (Contains (rows_without segment lines))) same s.of_text))
]

no_addition : IsAdditionStep segment (first ∷ second ∷ other ∷ []) 1 0 1 six → ⊥
no_addition h =
    let bs : List Bool = marks_of segment h.lines in
    let P : List ℚ → Type 0 = Contains (rows_without segment h.lines) in
    let used : All P (map (without bs) h.used) =
    All-map P (without bs) h.used (All-weaker (Contains (text_rows segment)) (λ r. P (without bs r)) (λ r c. Contains-map (without bs) (text_rows segment) r c) h.used h.in_use.of_text) in
    let last : All P (without bs h.row ∷ []) = All-cons P (without bs h.row) [] (Contains-map (without bs) (text_rows segment) h.row h.added) (All-nil P) in
    let all : All P (first ∷ second ∷ other ∷ []) = subst (All P) (sym h.rows_are) (All-append P (map (without bs) h.used) (without bs h.row ∷ []) used last) in
    not_short h.lines h.in_use.lines_are (All-head P other [] (All-tail P second (other ∷ []) (All-tail P first (second ∷ other ∷ []) all)))

-- ---- the first two rows and their generators
abbrev two : List (List ℚ)
two = first ∷ second ∷ []

positive : (i : ℕ) → i < 2 → zero_ℚ <ℚ dot (slice_index_or two i []) (slice_index_or two i [])
unfolding whole fraction gcd ◌+ℚ◌ ◌*ℚ◌ neg_ℚ inverse_ℚ le_ℚ
positive zero l = refl
positive (suc zero) l = refl
positive (suc (suc i)) l = absurd (omega (arith, l))

are_corners : AreCorners 2 two two
unfolding whole fraction gcd ◌+ℚ◌ ◌*ℚ◌ neg_ℚ inverse_ℚ le_ℚ
are_corners = record {
  rows_wide = wide_test 2 two refl;
  vectors_wide = wide_test 2 two refl;
  rows_many = refl;
  vectors_many = refl;
  positive = positive;
  zero_elsewhere = two_below (λ i j. i ≢ j → dot (slice_index_or two i []) (slice_index_or two j []) ≡ zero_ℚ)
      (λ h. absurd (h refl)) (λ h. equal _ zero_ℚ refl) (λ h. equal _ zero_ℚ refl) (λ h. absurd (h refl));
}

are_normed : All IsNormed two
unfolding whole fraction gcd ◌+ℚ◌ ◌*ℚ◌ neg_ℚ inverse_ℚ le_ℚ
are_normed = All-cons IsNormed first (second ∷ []) (equal _ one_ℚ refl) (All-cons IsNormed second [] (equal _ one_ℚ refl) (All-nil IsNormed))

listed : (r : List ℚ) → Contains (first ∷ second ∷ third ∷ []) r → Contains (text_rows segment) r
listed r c = subst (λ (rows : List (List ℚ)). Contains rows r) (sym rows_are) c

in_use : AreInUse segment [] two (starting 1 two)
unfolding whole
in_use = record {
  lines_are = lines_are;
  of_text = All-cons (Contains (text_rows segment)) first (second ∷ []) (listed first (Contains-here first (second ∷ third ∷ []) first refl))
      (All-cons (Contains (text_rows segment)) second []
      (listed second (Contains-there first (second ∷ third ∷ []) second (Contains-here second (third ∷ []) second refl))) (All-nil (Contains (text_rows segment))));
  made = generator_laws.starts 2 two two are_corners are_normed;
}

third_listed : Contains (text_rows segment) third
third_listed = listed third (Contains-there first (second ∷ third ∷ []) third (Contains-there second (third ∷ []) third (Contains-here third [] third refl)))

one : Numbered
one = record { number = 1; vector = first }

added : IsAdditionStep segment (first ∷ second ∷ third ∷ []) 1 0 1 six
unfolding one whole fraction gcd ◌+ℚ◌ ◌*ℚ◌ neg_ℚ inverse_ℚ le_ℚ
added = record {
  lines = [];
  used = two;
  list = starting 1 two;
  in_use = in_use;
  row = third;
  added = third_listed;
  rows_are = refl;
  operands = IsPairStep.value one (Contains-here one (starting 2 (second ∷ [])).live one refl) refl refl
      (record { from_one = lit≤ tt; there = step_is (slice_get (value_steps third first) (1 - 1)) Mul (n 6) (n 1) refl });
}

-- ---- a product
is_product : IsProductStep 2 2 first first (operation Mul (n 1) (n 1))
unfolding whole
is_product = record { from_one = lit≤ tt; in_first = lit≤ tt; in_second = lit≤ tt; operands = inl (refl, refl) }

multiplied : AreMultiplied segment first first
unfolding one whole
multiplied = AreMultiplied.generator [] two (starting 1 two) one in_use (Contains-here first (second ∷ []) first refl)
    (Contains-here one (starting 2 (second ∷ [])).live one refl) refl

no_fourth : (left : Operation ℚ) → IsListStep segment [] 2 4 left → ⊥
no_fourth left (normed h) = let e = h.first in omega (arith, e)
no_fourth left (forward row v none m h) = elim h.operands [ inl e ↦ absurd (let k = e.0 in omega (arith, k)) | inr e ↦ absurd (let k = e.0 in omega (arith, k)) ]
no_fourth left (backward row v none m h) = elim h.operands [ inl e ↦ absurd (let k = e.0 in omega (arith, k)) | inr e ↦ absurd (let k = e.0 in omega (arith, k)) ]

-- ---- an elimination
abbrev all_rows : List (List ℚ)
all_rows = first ∷ second ∷ third ∷ []

eliminated : IsElimStep (λ q. not (same_ℚ q (whole (negsuc 1)))) segment all_rows (0 ∷ 0 ∷ 0 ∷ []) 3 1 1 (operation Div (n 6) (whole (negsuc 2)))
unfolding whole fraction gcd ◌+ℚ◌ ◌*ℚ◌ neg_ℚ inverse_ℚ le_ℚ
eliminated = record {
  table = all_rows;
  columns = 2;
  allowed = IsElimTable.whole (all_of_members (Contains (text_rows segment)) all_rows listed) refl;
  dictionary = all_rows;
  is = starts 2 all_rows (0 ∷ 0 ∷ 0 ∷ []) (wide_test 2 all_rows refl) (λ i. no_column 3 (i - 1));
  one_each = refl;
  row_from_one = lit≤ tt;
  col_from_one = lit≤ tt;
  operands = (2, lit≤ tt, lit≤ tt, inl (refl, (refl, refl, refl, refl)));
  pivot = apart (whole (negsuc 2)) zero_ℚ refl;
}

pub licence_examples : LicenceExamples
unfolding whole fraction gcd ◌+ℚ◌ ◌*ℚ◌ neg_ℚ inverse_ℚ le_ℚ
licence_examples = record {
  value = record { trail = refl; not_held = not_held (all_but 6) six refl refl; operands = added };
  held = λ h. true≢false h.not_held.not_held;
  after_entry = λ h. cc;
  of_image = λ h. h.operands;
  at_scale = λ h. h.operands;
  not_its_row = λ h. no_addition h.operands;
  product = record {
    trail = refl;
    not_held = not_held (all_but 1) (operation Mul (n 1) (n 1)) refl refl;
    operands = inr (refl, refl, IsListStep.forward first first refl multiplied is_product);
  };
  no_step = λ h. elim h.operands [
    | inl e ↦ absurd (let low = e.row_from_one in omega (arith, low))
    | inr e ↦ no_fourth (operation Mul (n 1) (n 1)) e.2
  ];
  with_basis = λ h. elim h.operands [
    | inl e ↦ absurd (let low = e.row_from_one in omega (arith, low))
    | inr e ↦ absurd (let many : 1 ≡ 0 = ap (λ (b : List ℕ). length b) e.1 in omega (arith, many))
  ];
  whole_rows = record {
    trail = refl;
    not_held = not_held (λ q. not (same_ℚ q (whole (negsuc 1)))) (operation Div (n 6) (whole (negsuc 2))) refl refl;
    operands = inl eliminated;
  };
  longer_basis = λ h. elim h.operands [
    | inl e ↦ absurd (let many : 4 ≡ 3 = e.one_each in omega (arith, many))
    | inr e ↦ absurd (let none = e.0 in omega (arith, none))
  ];
  other_rows = λ h. elim h.operands [
    | inl e ↦ no_table (other ∷ []) e.table e.columns refl e.allowed
    | inr e ↦ absurd (let none = e.0 in omega (arith, none))
  ];
  by_zero = λ place h. h.not_held.defined refl refl;
}
