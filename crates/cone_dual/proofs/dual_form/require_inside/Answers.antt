use Rattle.std.proofs.Common.{◌≡◌, ℕ, List, [], ◌∷◌, ◌+◌, ◌-◌, length, map, ap, sym, subst, ◌∙◌, arith, below_more, All, Contains, false, Option, Some, slice_index_or}
use Rattle.std.specs.List.{list_all}
use Rattle.std.proofs.lemmas.List.{length-map}
use Rattle.exact_field.specs.Rational.{ℚ, zero_ℚ, one_ℚ, ◌≤ℚ◌, ◌<ℚ◌}
use Rattle.exact_field.specs.Vector.{dot}
use Rattle.frac128.specs.Sparse.{is_zero}
use Rattle.frac128.specs.declared.vectors.Spot.{Spot}
use Rattle.polyhedra.proofs.Members.{member_of}
use Rattle.lin_rows.specs.Read.{numbers}
use Rattle.tableaux.specs.Table.{row_of}
use Rattle.vlp_problem.specs.Values.{cone_vectors}
use Rattle.vlp_problem.specs.declared.problem.Cone.{Cone}
use Rattle.vlp_problem.specs.declared.problem.Cone.TheVariants as form_of
use Rattle.lp_form.specs.Data.{cone_of}
use Rattle.lp_form.specs.declared.data.ConeOf.TheVariants.{Dual}
use Rattle.lp_form.proofs.Steps.{row_at}
use Rattle.cone_rules.specs.Faults.{HasFault, HasInterior, HasNoLine, IsGivenOutside, ShowsOutside}
use Rattle.cone_rules.proofs.Parts.{all_rows}
use Rattle.cone_rules.proofs.Rows.{row_tests}
use Rattle.cone_dual.proofs.ByVectors.{rows_vectors_at, rows_wide}
use Rattle.cone_dual.proofs.Ending.{licensed_end}
use Rattle.cone_dual.proofs.Picks.{nonzero_all, not_zeros, row_among}
use Rattle.cone_dual.proofs.Standing.{as_cone, as_duality, at_file, given_long}
use Rattle.cone_dual.proofs.Wide.{row_long}
use Rattle.cone_dual.proofs.dual_form.require_inside.Goals as goal

pub is_against-requires-clause-wide : goal.is_against-requires-clause-wide
is_against-requires-clause-wide g c =
    let value = g.F.Field.value in
    let form = c.args.form.now in
    ap length c.as_slice-vector.ensures.items
    ∙ row_long value (length form.p) c.args.vectors.now c.loop-k.k c.index-vectors-k.result (rows_wide value form c.args.vectors.now c.requires.rows) (omega arith) c.index-vectors-k.is
    ∙ sym (given_long value form c.args.f.now c.requires.duality)

pub returns-in_err-is_against-clause-end : goal.returns-in_err-is_against-clause-end
returns-in_err-is_against-clause-end g c = λ file stands.
    let value = g.F.Field.value in
    let holds = g.F.Field.holds in
    let form = c.args.form.now in
    let vectors = c.args.vectors.now in
    let V : List (List ℚ) = numbers value vectors in
    let k : ℕ = c.loop-k.k in
    let fault = c.in_err-is_against.field-0.0 in
    let v_is : map value c.as_slice-vector.result.now ≡ row_of V (k + 1) =
    ap (map value) c.as_slice-vector.ensures.items ∙ row_at value vectors k c.index-vectors-k.result (omega arith) c.index-vectors-k.is in
    let among : Contains (cone_vectors file.cone) (map value c.as_slice-vector.result.now) =
    subst (λ (v : List ℚ). Contains (cone_vectors file.cone) v) (sym v_is)
    (subst (λ (vs : List (List ℚ)). Contains vs (row_of V (k + 1))) (sym (rows_vectors_at value form vectors c.requires.rows file stands))
    (row_among V (k + 1) (omega arith) (omega (arith, length-map vectors (map value))))) in
    licensed_end holds file c.from_residual.result fault c.from_residual.ensures.1 (c.in_err-is_against.ensures.left file stands among)

pub returns-then-branch-clause-end : goal.returns-then-branch-clause-end
returns-then-branch-clause-end g c = λ file stands.
    let value = g.F.Field.value in
    let form = c.args.form.now in
    let vectors = c.args.vectors.now in
    let q = length form.p in
    let V : List (List ℚ) = numbers value vectors in
    let f : List ℚ = map value c.args.f.now in
    let k : ℕ = c.loop-k.k in
    let w : List ℚ = map value c.as_slice-vector.result.now in
    let named : List Spot = record { at = k + 1; value = one_ℚ } ∷ [] in
    let v_is : w ≡ row_of V (k + 1) =
    ap (map value) c.as_slice-vector.ensures.items ∙ row_at value vectors k c.index-vectors-k.result (omega arith) c.index-vectors-k.is in
    let yes = c.in_ok-is_against.ensures.yes c.if-branch.true in
    let law : ShowsOutside q (form_of.Dual V) f (row_of V (k + 1)) named =
    row_tests.outside q V f (k + 1) (rows_wide value form vectors c.requires.rows) (omega arith) (omega (arith, length-map vectors (map value)))
    (not_zeros q (row_of V (k + 1)) (subst (λ (v : List ℚ). list_all is_zero v ≡ false) v_is yes.0)) (subst (λ (v : List ℚ). dot v f ≤ℚ zero_ℚ) v_is yes.1) in
    let shown : ShowsOutside q (form_of.Dual V) f w named = subst (λ (v : List ℚ). ShowsOutside q (form_of.Dual V) f v named) (sym v_is) law in
    subst (λ fault. HasFault file fault) (sym c.in_ok-outside_fault.ensures)
    (at_file value form file stands (λ (n : ℕ) (o : Cone) (d : Option (List ℚ)). HasInterior n o × HasNoLine n o × IsGivenOutside n o d w named) (
      c.requires.solid,
      c.requires.pointed,
      as_duality value form (Some c.args.f.now) c.requires.duality (λ (d : Option (List ℚ)). IsGivenOutside q (cone_of value form.cone) d w named)
          (as_cone value form (Dual vectors) c.requires.rows (λ (o : Cone). ShowsOutside q o f w named) shown),
    ))

pub loop-k-preserved : goal.loop-k-preserved
loop-k-preserved g c =
    let value = g.F.Field.value in
    let vectors = c.args.vectors.now in
    let V : List (List ℚ) = numbers value vectors in
    let P : List ℚ → Type 0 = λ v. list_all is_zero v ≡ false → zero_ℚ <ℚ dot v (map value c.args.f.now) in
    let k : ℕ = c.loop-k.k in
    let back : k + 1 - 1 ≡ k = omega arith in
    let v_is : map value c.as_slice-vector.result.now ≡ slice_index_or V k [] =
    ap (map value) c.as_slice-vector.ensures.items ∙ row_at value vectors k c.index-vectors-k.result (omega arith) c.index-vectors-k.is
    ∙ ap (λ (j : ℕ). slice_index_or V j []) back in
    below_more (λ (j : ℕ). P (slice_index_or V j [])) k c.loop-k.invariant (subst P v_is (c.in_ok-is_against.ensures.no c.if-branch.false))

pub returns-clause-ok : goal.returns-clause-ok
returns-clause-ok g c =
    let value = g.F.Field.value in
    let form = c.args.form.now in
    let V : List (List ℚ) = numbers value c.args.vectors.now in
    let P : List ℚ → Type 0 = λ v. zero_ℚ <ℚ dot v (map value c.args.f.now) in
    let all : All (λ v. list_all is_zero v ≡ false → P v) V =
    all_rows (λ v. list_all is_zero v ≡ false → P v) V (λ j low high. c.loop-k.invariant (j - 1) (omega (arith, low, high, length-map c.args.vectors.now (map value)))) in
    nonzero_all P V (λ v among. member_of (λ w. list_all is_zero w ≡ false → P w) V v all among)
