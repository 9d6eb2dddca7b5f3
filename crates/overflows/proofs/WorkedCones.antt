-- What a vector of the ordering cone is multiplied with, computed.
use Rattle.std.proofs.Common.{◌≡◌, true, List, [], ◌∷◌, ◌++◌, length, refl, sym, ap, ◌∙◌, subst, ◌⊎◌, inl, inr, All, Contains, Some, Option}
use Rattle.std.proofs.lemmas.List.Elements.{All-nil, All-cons, All-append}
use Rattle.exact_field.specs.Gcd.{gcd}
use Rattle.exact_field.specs.Rational.{ℚ, zero_ℚ, one_ℚ, whole, fraction, ◌+ℚ◌, ◌*ℚ◌, neg_ℚ, inverse_ℚ, le_ℚ, ◌≤ℚ◌}
use Rattle.exact_field.specs.Vector.{entry, dot}
use Rattle.polyhedra.specs.Cone.{IsInCone}
use Rattle.polyhedra.specs.Hull.{IsMultiple, IsExtremeDirection}
use Rattle.polyhedra.specs.LiveList.{Numbered, LiveList, step as next_step}
use Rattle.polyhedra.specs.Vectors.{AreWide, plus, values}
use Rattle.polyhedra.proofs.Laws.{mul_one}
use Rattle.polyhedra.proofs.Lists.{HasWidth, Contains-cases, Contains-nil}
use Rattle.polyhedra.proofs.Members.{all_of_members, member_of}
use Rattle.polyhedra.proofs.Tests.{same_vector_is}
use Rattle.tableaux.specs.Table.{System}
use Rattle.lp_form.specs.Programs.{nonzero_vectors, benson_system, w_of}
use Rattle.overflows.specs.Base.{IsBaseWeight, IsBaseNormal, IsBaseCut}
use Rattle.overflows.specs.ConeExamples.{far, far_bound, long, WorkedCones}
use Rattle.overflows.specs.Examples.{n, at_start, ones}
use Rattle.overflows.specs.Generators.{IsAddition, IsMadeOver}
use Rattle.overflows.specs.Products.{IsBaseW, IsGeneratorY, IsBesideCone}
use Rattle.overflows.specs.Settings.{Setting, vector_of}
use Rattle.overflows.proofs.Making.{generator_laws}
use Rattle.overflows.proofs.Values.{apart}
use Rattle.overflows.proofs.WorkedPairs.{collect, known_is, seven, weight_sums}
use Rattle.overflows.proofs.WorkedSteps.{corner_two, is_addition, two_live}

abbrev y : List ℚ
y = n 1 ∷ far_bound ∷ []

abbrev across : List ℚ
across = n 1 ∷ n 0 ∷ []

abbrev up : List ℚ
up = n 0 ∷ far_bound ∷ []

abbrev start : Setting
start = at_start far ones

-- ---- no weight
too_large : dot ones y ≡ one_ℚ → ⊥
unfolding whole fraction gcd ◌+ℚ◌ ◌*ℚ◌ neg_ℚ inverse_ℚ le_ℚ
too_large h = apart (dot ones y) one_ℚ refl h

abbrev program : System
program = benson_system far ones (zero_ℚ ∷ zero_ℚ ∷ []) true

-- ---- vectors of the cone
abbrev IsSimple : List ℚ → Type 0
IsSimple r = (r ≡ n 1 ∷ n 0 ∷ []) ⊎ (r ≡ n 0 ∷ long ∷ [])

simple : (r : List ℚ) → Contains (nonzero_vectors far.cone) r → IsSimple r
unfolding whole fraction gcd ◌+ℚ◌ ◌*ℚ◌ neg_ℚ inverse_ℚ le_ℚ
simple r h = elim (Contains-cases across ((n 0 ∷ long ∷ []) ∷ []) r h) [
  | inl e ↦ inl (sym e)
  | inr c ↦ elim (Contains-cases (n 0 ∷ long ∷ []) [] r c) [ inl e ↦ inr (sym e) | inr none ↦ absurd (Contains-nil r none) ]
]

at_across : (r : List ℚ) → IsSimple r → zero_ℚ ≤ℚ dot r across
unfolding whole fraction gcd ◌+ℚ◌ ◌*ℚ◌ neg_ℚ inverse_ℚ le_ℚ
at_across r (inl e) = subst (λ (v : List ℚ). zero_ℚ ≤ℚ dot v across) (sym e) refl
at_across r (inr e) = subst (λ (v : List ℚ). zero_ℚ ≤ℚ dot v across) (sym e) refl

at_up : (r : List ℚ) → IsSimple r → zero_ℚ ≤ℚ dot r up
unfolding whole fraction gcd ◌+ℚ◌ ◌*ℚ◌ neg_ℚ inverse_ℚ le_ℚ
at_up r (inl e) = subst (λ (v : List ℚ). zero_ℚ ≤ℚ dot v up) (sym e) refl
at_up r (inr e) = subst (λ (v : List ℚ). zero_ℚ ≤ℚ dot v up) (sym e) refl

sum_is : y ≡ plus across up
unfolding whole fraction gcd ◌+ℚ◌ ◌*ℚ◌ neg_ℚ inverse_ℚ le_ℚ
sum_is = same_vector_is y (plus across up) refl

no_multiple : IsMultiple y across → ⊥
unfolding whole fraction gcd ◌+ℚ◌ ◌*ℚ◌ neg_ℚ inverse_ℚ le_ℚ
no_multiple m =
    let factor : one_ℚ ≡ m.factor = ap (λ (v : List ℚ). entry v 1) m.same ∙ mul_one m.factor in
    apart zero_ℚ (one_ℚ *ℚ far_bound) refl (ap (λ (v : List ℚ). entry v 2) m.same ∙ ap (λ (f : ℚ). f *ℚ far_bound) (sym factor))

-- (1, 10^24) is the sum of two vectors of each cone with such rows
not_extreme : (rows : List (List ℚ)) → All (Contains (nonzero_vectors far.cone)) rows → IsExtremeDirection 2 (IsInCone 2 rows) y → ⊥
not_extreme rows all e =
    no_multiple (e.no_sum across up (record { wide = refl; within = both across at_across }) (record { wide = refl; within = both up at_up }) sum_is).0
  where
    both : (v : List ℚ) → ((r : List ℚ) → IsSimple r → zero_ℚ ≤ℚ dot r v) → All (λ r. zero_ℚ ≤ℚ dot r v) rows
    both v h = all_of_members (λ r. zero_ℚ ≤ℚ dot r v) rows
        (λ r k. h r (simple r (member_of (Contains (nonzero_vectors far.cone)) rows r all k)))

not_generated : (rows : List (List ℚ)) (list : LiveList) (g : Numbered) → All (Contains (nonzero_vectors far.cone)) rows → IsMadeOver 2 rows list →
    Contains list.live g → y ≡ g.vector → ⊥
not_generated rows list g all made live e =
    not_extreme rows all
    (subst (λ (v : List ℚ). IsExtremeDirection 2 (IsInCone 2 rows) v) (sym e)
    (generator_laws.generator 2 rows list g (generator_laws.live 2 rows list wide made) live).extreme)
  where
    two : (r : List ℚ) → IsSimple r → length r ≡ 2
    two r (inl f) = ap (λ (v : List ℚ). length v) f
    two r (inr f) = ap (λ (v : List ℚ). length v) f

    wide : AreWide 2 rows
    wide = record { wide = all_of_members (HasWidth 2) rows (λ r k. two r (simple r (member_of (Contains (nonzero_vectors far.cone)) rows r all k))) }

one_more : (rows : List (List ℚ)) (last : List ℚ) → All (Contains (nonzero_vectors far.cone)) rows → Contains (nonzero_vectors far.cone) last →
    All (Contains (nonzero_vectors far.cone)) (rows ++ last ∷ [])
one_more rows last all h =
    All-append (Contains (nonzero_vectors far.cone)) rows (last ∷ []) all
    (All-cons (Contains (nonzero_vectors far.cone)) last [] h (All-nil (Contains (nonzero_vectors far.cone))))

no_generator : IsGeneratorY start y → ⊥
unfolding whole
no_generator (IsGeneratorY.live g live e) = Contains-nil g live
no_generator (IsGeneratorY.of_cone before last list g (IsAddition.of_cone all h made) (inl live) e) = not_generated before list g all made live e
no_generator (IsGeneratorY.of_cone before last list g (IsAddition.of_cone all h made) (inr live) e) =
    not_generated (before ++ last ∷ []) (next_step before list last) g (one_more before last all h) (generator_laws.grows 2 before list last made) live e

-- ---- weights: the entries of a w sum to 1
normal_sums : (z : List ℚ) → length z ≡ 7 → values program.equations z ≡ program.right → dot ones (w_of far z) ≡ one_ℚ
unfolding whole
normal_sums = seven (λ (z : List ℚ). values program.equations z ≡ program.right → dot ones (w_of far z) ≡ one_ℚ)
    (λ u a b c d k l h. sym (collect one_ℚ u a b c d k l) ∙ ap (λ (v : List ℚ). entry v 4) h)

weight_sums_to : (w : List ℚ) → IsBaseWeight far ones w → dot ones w ≡ one_ℚ
unfolding whole
weight_sums_to w h = (weight_sums h.generator w h.is.extreme.member.wide h.same).1

normal_sums_to : (w : List ℚ) → IsBaseNormal far ones w → dot ones w ≡ one_ℚ
unfolding whole
normal_sums_to w (u, v, IsBaseCut.of_benson z read is parts) =
    ap (λ (x : List ℚ). dot ones x) is ∙ normal_sums z (ap (λ (x : List ℚ). length x) read.0.reads) read.1.equal
normal_sums_to w (u, v, IsBaseCut.of_weight z h read parts) = weight_sums_to w h

no_weight : IsBaseW start y → ⊥
no_weight (c, known, inl h) = too_large (normal_sums_to y (subst (λ (d : List ℚ). IsBaseNormal far d y) (known_is c known) h))
no_weight (c, known, inr h) = too_large (weight_sums_to y (subst (λ (d : List ℚ). IsBaseWeight far d y) (known_is c known) h))

not_ones : Some ones ≡ Some y → ⊥
unfolding whole fraction gcd ◌+ℚ◌ ◌*ℚ◌ neg_ℚ inverse_ℚ le_ℚ
not_ones e = apart (n 1) far_bound refl (ap (λ (v : Option (List ℚ)). entry (vector_of v) 2) e)

no_y : IsBesideCone start y → ⊥
unfolding whole
no_y (IsBesideCone.given e) = not_ones e
no_y (IsBesideCone.duality e) = not_ones e
no_y (IsBesideCone.weight h) = no_weight h
no_y (IsBesideCone.generator h) = no_generator h

pub worked_cones : WorkedCones
unfolding whole
worked_cones = record {
  generator = IsBesideCone.generator (IsGeneratorY.of_cone _ _ _ corner_two is_addition (inl two_live) refl);
  no_y = no_y;
}
