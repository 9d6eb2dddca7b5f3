-- The worked divided vectors, computed.
use Rattle.std.proofs.Common.{◌≡◌, ◌≢◌, ℕ, Bool, true, false, true≢false, List, [], ◌∷◌, length, take, refl, sym, ap, ◌∙◌, subst, arith, ◌⊎◌, inl, inr, Option, None, Some, codes}
use Rattle.std.specs.Prelude.{◌==◌, if◌then◌else◌}
use Rattle.std.proofs.Math.Dec.{lit≤, lit<}
use Rattle.std.proofs.Math.ListN.{length-map}
use Rattle.exact_field.specs.Gcd.{gcd}
use Rattle.exact_field.specs.Rational.{ℚ, zero_ℚ, one_ℚ, whole, fraction, ◌+ℚ◌, ◌*ℚ◌, neg_ℚ, inverse_ℚ, le_ℚ, ◌≤ℚ◌}
use Rattle.exact_field.specs.Vector.{entry, dot}
use Rattle.exact_field.specs.declared.op.Op.TheVariants.{Div}
use Rattle.polyhedra.specs.LiveList.{starting}
use Rattle.polyhedra.specs.Negatives.{negated}
use Rattle.polyhedra.specs.Vectors.{zeros}
use Rattle.polyhedra.proofs.Algebra.{neg_neg}
use Rattle.polyhedra.proofs.Lists.{Contains-here, Contains-there, Contains-cases, Contains-nil}
use Rattle.polyhedra.proofs.Tests.{list_all-true, same_vector_is}
use Rattle.polyhedra.proofs.Negatives.{dot-negated_left}
use Rattle.tableaux.specs.Table.{Table, System, table_of, unknown_count, equation_count}
use Rattle.tableaux.specs.Dictionary.{IsFullDictionaryOf, first_multipliers}
use Rattle.tableaux.proofs.Places.{length-list_from}
use Rattle.vlp_problem.specs.Sides.{sides, side_bounds, IsRecession}
use Rattle.deriv_log.specs.declared.licence.Place.TheVariants.{Scale}
use Rattle.vlp_problem.specs.declared.program.Program.{Program}
use Rattle.vlp_problem.specs.declared.program.Program.TheVariants.{Feasible, Benson, Weight, Interior, Pointed}
use Rattle.lp_form.specs.Programs.{weight_system, choice_of, share_of}
use Rattle.overflows.specs.Base.{IsSolutionOff, AreMultipliersOff, AreFirstMultipliersOff, IsRayOff, IsBaseRay, IsConeDirection, IsGeneratorOf, image_of}
use Rattle.overflows.specs.Examples.{generated, n, minus, minus_half, is_few, ones, at_start}
use Rattle.lp_form.specs.Examples.{numbers, rows}
use Rattle.overflows.specs.Dictionaries.{system_in, AreStartRows, AreElimRows, IsElimTable}
use Rattle.overflows.specs.Licence.{IsOverflow}
use Rattle.overflows.specs.PairExamples.{narrow, wider, in_narrow, OverflowsNarrow, ScaleExamples, WorkedPairs}
use Rattle.overflows.specs.Quotients.{IsReadVector, IsOrthogonalOff, IsScaled, IsDivisor}
use Rattle.overflows.specs.Steps.{operation}
use Rattle.overflows.proofs.Cuts.{length-on_parts, length-bounds_if}
use Rattle.overflows.proofs.Given.{overflow_laws}
use Rattle.overflows.proofs.Making.{generator_laws}
use Rattle.overflows.proofs.Pivots.{Pivots, table_after}
use Rattle.overflows.proofs.Values.{apart}
use Rattle.overflows.proofs.Worked.{cone_rows}
use Rattle.overflows.proofs.WorkedBase.{full_after}
use Rattle.overflows.proofs.WorkedOrthogonal.{no_unit, no_rows}
use Rattle.overflows.proofs.WorkedPairs.{pair_examples}
use Rattle.overflows.proofs.WorkedSteps.{corners, are_corners, is_made, corner_two, two_live}

-- ---- directions of the cone
abbrev along : List ℚ
along = n 2 ∷ n 1 ∷ []

first : numbers (codes "1 0") ≡ n 1 ∷ n 0 ∷ []
unfolding whole fraction gcd ◌+ℚ◌ ◌*ℚ◌ neg_ℚ inverse_ℚ le_ℚ
first = same_vector_is (numbers (codes "1 0")) (n 1 ∷ n 0 ∷ []) refl

second : numbers (codes "2 1") ≡ along
unfolding whole fraction gcd ◌+ℚ◌ ◌*ℚ◌ neg_ℚ inverse_ℚ le_ℚ
second = same_vector_is (numbers (codes "2 1")) along refl

is_direction : IsConeDirection generated along
unfolding whole
is_direction =
    Contains-there (numbers (codes "1 0")) (numbers (codes "2 1") ∷ []) along (Contains-here (numbers (codes "2 1")) [] along second)

direction : IsOverflow is_few (at_start generated ones) (Scale along 2) (operation Div (n 1) (n 2))
unfolding whole fraction gcd ◌+ℚ◌ ◌*ℚ◌ neg_ℚ inverse_ℚ le_ℚ
direction = overflow_laws.scale is_few (at_start generated ones) along 2 (n 2) refl (IsScaled.direction is_direction) (lit≤ tt) (lit≤ tt)
    (IsDivisor.own 1 (lit≤ tt) (lit≤ tt) refl) refl

no_direction : IsConeDirection generated (n 1 ∷ n 2 ∷ []) → ⊥
unfolding whole le_ℚ
no_direction h = elim (Contains-cases (numbers (codes "1 0")) (numbers (codes "2 1") ∷ []) (n 1 ∷ n 2 ∷ []) h) [
  | inl e ↦ apart (n 2) (n 0) refl (ap (λ (v : List ℚ). entry v 2) (sym e ∙ first))
  | inr c ↦ elim (Contains-cases (numbers (codes "2 1")) [] (n 1 ∷ n 2 ∷ []) c) [
    | inl e ↦ apart (n 2) (n 1) refl (ap (λ (v : List ℚ). entry v 2) (sym e ∙ second))
    | inr c ↦ Contains-nil (n 1 ∷ n 2 ∷ []) c
  ]
]

dual_direction : IsGeneratorOf 2 cone_rows corner_two.vector
dual_direction = generator_laws.generator 2 cone_rows (starting 1 corners) corner_two
    (generator_laws.live 2 cone_rows (starting 1 corners) are_corners.rows_wide is_made) two_live

of_dual : IsOverflow is_few (at_start wider ones) (Scale (minus_half ∷ n 1 ∷ []) 1) (operation Div minus_half (n 1))
unfolding whole fraction gcd ◌+ℚ◌ ◌*ℚ◌ neg_ℚ inverse_ℚ le_ℚ
of_dual = overflow_laws.scale is_few (at_start wider ones) (minus_half ∷ n 1 ∷ []) 1 (n 1) refl (IsScaled.direction dual_direction) (lit≤ tt) (lit≤ tt)
    (IsDivisor.own 2 (lit≤ tt) (lit≤ tt) refl) refl

-- ---- the value of a ray
abbrev forth : List ℚ
forth = n 1 ∷ []

abbrev weighed : System
weighed = weight_system narrow (n 0 ∷ n 1 ∷ [])

-- w_1, w_2 and the artificial column of the third equation
abbrev pivots : Pivots
pivots = (1, 2) ∷ (0, 3) ∷ (2, 8) ∷ []

abbrev basis : List ℕ
basis = 3 ∷ 2 ∷ 8 ∷ []

is_full : IsFullDictionaryOf weighed basis (table_after (table_of weighed) pivots)
unfolding whole fraction gcd ◌+ℚ◌ ◌*ℚ◌ neg_ℚ inverse_ℚ le_ℚ
is_full = full_after weighed basis pivots refl refl refl refl refl refl

abbrev multipliers : List ℚ
multipliers = n 1 ∷ n 2 ∷ minus 1 ∷ []

is_read : AreFirstMultipliersOff weighed multipliers
unfolding whole fraction gcd ◌+ℚ◌ ◌*ℚ◌ neg_ℚ inverse_ℚ le_ℚ
is_read = record {
  basis = basis;
  dictionary = table_after (table_of weighed) pivots;
  full = is_full;
  reads = same_vector_is multipliers (first_multipliers weighed (table_after (table_of weighed) pivots)) refl;
}

ray : IsBaseRay narrow forth
unfolding whole fraction gcd ◌+ℚ◌ ◌*ℚ◌ neg_ℚ inverse_ℚ le_ℚ
ray = record {
  recedes = record { width = refl; meets = list_all-true (λ s. le_ℚ zero_ℚ (dot s.normal forth)) (sides narrow) refl };
  weight = n 0 ∷ n 1 ∷ [];
  wide = refl;
  multipliers = multipliers;
  read = is_read;
  same = refl;
}

image : OverflowsNarrow (Scale (n 2 ∷ minus 1 ∷ []) 2) (operation Div (minus 1) (n 2))
unfolding whole fraction gcd ◌+ℚ◌ ◌*ℚ◌ neg_ℚ inverse_ℚ le_ℚ
image = overflow_laws.scale is_few in_narrow (n 2 ∷ minus 1 ∷ []) 2 (n 2) refl
    (IsScaled.image forth ray (same_vector_is (n 2 ∷ minus 1 ∷ []) (image_of narrow forth) refl)) (lit≤ tt) (lit≤ tt)
    (IsDivisor.own 1 (lit≤ tt) (lit≤ tt) refl) refl

-- ---- the second entry of such a value is not positive
negative : minus 1 ∷ [] ≡ negated (one_ℚ ∷ [])
unfolding whole le_ℚ neg_ℚ
negative = same_vector_is (minus 1 ∷ []) (negated (one_ℚ ∷ [])) refl

value_falls : (r : List ℚ) → IsRecession narrow r → n 1 ≡ dot (minus 1 ∷ []) r → ⊥
unfolding whole le_ℚ neg_ℚ
value_falls r h e =
    let turned : n 1 ≡ neg_ℚ (dot (one_ℚ ∷ []) r) = e ∙ ap (λ (v : List ℚ). dot v r) negative ∙ dot-negated_left (one_ℚ ∷ []) r in
    let same : neg_ℚ (n 1) ≡ dot (one_ℚ ∷ []) r = ap neg_ℚ turned ∙ neg_neg (dot (one_ℚ ∷ []) r) in
    let up : zero_ℚ ≤ℚ dot (one_ℚ ∷ []) r = h.meets 0 (record { normal = []; bound = zero_ℚ }) (lit< tt) in
    true≢false (sym (subst (λ (q : ℚ). zero_ℚ ≤ℚ q) (sym same) up))

no_value : (r : List ℚ) → IsRecession narrow r → along ≡ image_of narrow r → ⊥
unfolding whole fraction gcd ◌+ℚ◌ ◌*ℚ◌ neg_ℚ inverse_ℚ le_ℚ
no_value r h e = value_falls r h (ap (λ (v : List ℚ). entry v 2) e)

-- ---- vectors that are read off have other lengths
both_parts : (s : System) (v : List ℚ) → IsSolutionOff s v ⊎ (AreMultipliersOff s v ⊎ (AreFirstMultipliersOff s v ⊎ IsRayOff s v)) →
    (length v ≡ unknown_count s) ⊎ (length v ≡ equation_count s)
both_parts s v (inl h) = inl (ap (λ (x : List ℚ). length x) h.reads ∙ length-list_from 1 (unknown_count s) _)
both_parts s v (inr (inl h)) = inr (ap (λ (x : List ℚ). length x) h.reads ∙ length-list_from 1 (equation_count s) _)
both_parts s v (inr (inr (inl h))) = inr (ap (λ (x : List ℚ). length x) h.reads ∙ length-list_from 1 (equation_count s) _)
both_parts s v (inr (inr (inr h))) = inl (ap (λ (x : List ℚ). length x) h.reads.3 ∙ length-list_from 1 (unknown_count s) _)

-- no program of the file has two unknowns or two equations
odd : (p : Program) → ((unknown_count (system_in in_narrow p)) ≢ 2) × ((equation_count (system_in in_narrow p)) ≢ 2)
unfolding whole
odd Feasible = (λ (e : 1 ≡ 2). omega (arith, e), λ (e : 1 ≡ 2). omega (arith, e))
odd (Benson v t) = (
  λ e. omega (arith, e, length-on_parts 1 (length v) 2 (if t then side_bounds narrow else zeros 1) (negated v) (zeros 2) (length-bounds_if narrow t) (length-map v neg_ℚ) refl),
  λ (e : 4 ≡ 2). omega (arith, e),
)
odd (Weight w) = (λ (e : 5 ≡ 2). omega (arith, e), λ (e : 3 ≡ 2). omega (arith, e))
odd Interior = (λ (e : 0 ≡ 2). omega (arith, e), λ (e : 0 ≡ 2). omega (arith, e))
odd Pointed = (λ (e : 0 ≡ 2). omega (arith, e), λ (e : 0 ≡ 2). omega (arith, e))

front_of_one : (v : List ℚ) → length (take 1 v) ≡ 2 → ⊥
front_of_one [] h = omega (arith, h)
front_of_one (x ∷ v) h = let one : 1 ≡ 2 = h in omega (arith, one)

not_read : IsReadVector in_narrow along → ⊥
unfolding whole
not_read h = go h.same
  where
    go : (along ≡ h.whole) ⊎ ((along ≡ choice_of narrow h.whole) ⊎ (along ≡ share_of narrow narrow.cone h.whole)) → ⊥
    go (inl e) = elim (both_parts (system_in in_narrow h.program) h.whole h.read) [
      | inl l ↦ (odd h.program).0 (sym l ∙ sym (ap (λ (x : List ℚ). length x) e))
      | inr l ↦ (odd h.program).1 (sym l ∙ sym (ap (λ (x : List ℚ). length x) e))
    ]
    go (inr (inl e)) = front_of_one h.whole (sym (ap (λ (x : List ℚ). length x) e))
    go (inr (inr e)) = let none : 2 ≡ 0 = ap (λ (x : List ℚ). length x) e in omega (arith, none)

-- ---- without cuts only unit vectors are orthogonal
not_orthogonal : IsOrthogonalOff in_narrow along → ⊥
unfolding whole le_ℚ neg_ℚ
not_orthogonal o = go o.rows o.width (allowed o.is.of_rows) long (λ h. unit h o.is.of_rows)
  where
    long : 2 ≡ o.width
    long = ap (λ (v : List ℚ). length v) o.same ∙ length-list_from 1 o.width _

    allowed : IsElimTable in_narrow o.rows o.width o.is.table o.columns → AreElimRows in_narrow o.rows o.width
    allowed (IsElimTable.alone h same many) = h
    allowed (IsElimTable.beside h square same many) = AreElimRows.of_start o.width h

    unit : length o.rows ≡ 0 → IsElimTable in_narrow o.rows o.width o.is.table o.columns → ⊥
    unit none (IsElimTable.alone h same many) =
        no_unit (n 2) (n 1 ∷ []) refl refl o.width o.basis o.col o.dictionary (o.is.is.one_each ∙ ap (λ (t : Table). length t) same ∙ none) o.same
    unit none (IsElimTable.beside h square same many) = omega (arith, none, square, long)

    go : (rows : Table) (width : ℕ) → AreElimRows in_narrow rows width → 2 ≡ width → (length rows ≡ 0 → ⊥) → ⊥
    go rows width (AreElimRows.of_normals e) l u = u (ap (λ (t : Table). length t) e)
    go rows width (AreElimRows.of_start w (AreStartRows.of_image cuts all many rank e)) l u = let three : 2 ≡ 3 = l in omega (arith, three)
    go rows width (AreElimRows.of_start w (AreStartRows.of_cone all)) l u = u (no_rows rows all)
    go rows width (AreElimRows.of_start w (AreStartRows.of_base c known all)) l u = let three : 2 ≡ 3 = l in omega (arith, three)

no_image : IsScaled in_narrow along → ⊥
unfolding whole le_ℚ
no_image (IsScaled.given e) = true≢false (sym (ap (λ (v : Option (List ℚ)). is_given v) e))
  where
    is_given : Option (List ℚ) → Bool
    is_given None = false
    is_given (Some f) = true
no_image (IsScaled.direction (i, l, u, e)) = go (1 == i) (ap (λ (v : List ℚ). entry v 1) e)
  where
    go : (b : Bool) → n 2 ≡ (if b then one_ℚ else zero_ℚ) → ⊥
    go true e = apart (n 2) one_ℚ refl e
    go false e = apart (n 2) zero_ℚ refl e
no_image (IsScaled.image r h e) = no_value r h.recedes e
no_image (IsScaled.read h) = not_read h
no_image (IsScaled.orthogonal o) = not_orthogonal o

scale_examples : ScaleExamples
scale_examples = record { direction = direction; no_direction = no_direction; of_dual = of_dual; image = image; no_image = no_image }

pub worked_pairs : WorkedPairs
worked_pairs = record { pairs = pair_examples; scales = scale_examples }
