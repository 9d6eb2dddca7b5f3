use Rattle.std.proofs.Common.{◌≡◌, ◌+◌, ◌-◌, ◌<◌, ◌≤◌, ◌∙◌, [], List, ℕ, ap, arith, inl, inr, length, map, subst, suc, sym, slice_index_or}
use Rattle.std.proofs.lemmas.List.{get_or-map, length-map}
use Rattle.std.proofs.lemmas.Result.{IfOk-weaker}
use Rattle.exact_field.specs.Rational.{ℚ, neg_ℚ, one_ℚ}
use Rattle.polyhedra.specs.Negatives.{negated}
use Rattle.tableaux.specs.Table.{row_of}
use Rattle.vlp_problem.specs.declared.problem.Cone.{Cone}
use Rattle.lin_rows.specs.Lines.{entries}
use Rattle.lin_rows.specs.Read.{numbers}
use Rattle.lin_rows.specs.declared.spots.Spot.{Spot}
use Rattle.lp_form.specs.Data.{cone_of}
use Rattle.lp_form.specs.Programs.{dual_equations, dual_unknowns}
use Rattle.lp_form.proofs.Shaped.{dual_wide}
use Rattle.program_columns.specs.Entries.{IsLineWith, after_w, placed, single}
use Rattle.program_columns.proofs.written.column_after_w.Goals as goal

pub returns-in-Orthant : goal.returns-in-Orthant
returns-in-Orthant g c =
    let value = g.F.Field.value in
    let form = c.args.form.now in
    let cols = form.cols in
    let q = length form.p in
    let d = c.args.d in
    let x : value c.neg.result ≡ neg_ℚ one_ℚ = c.neg.ensures ∙ ap neg_ℚ c.one.ensures in
    IfOk-weaker c.single_column.result
    (λ list. (n : ℕ) → cols + d ≤ n →
    IsLineWith n (single (cols + d) (value c.neg.result)) (entries value list))
    (λ list. IsLineWith (suc (cols + dual_equations q (cone_of value form.cone)))
    (after_w cols (cone_of value form.cone) d) (entries value list))
    (λ list h.
    let P : Cone → Type 0 = λ cone.
    d ≤ dual_unknowns q cone →
    IsLineWith (suc (cols + dual_equations q cone)) (after_w cols cone d) (entries value list) in
    elim c.in-Orthant.is [
      | inl e ↦ subst P (sym (ap (cone_of value) e))
          (λ high. subst (λ (y : ℚ). IsLineWith (suc (cols + q)) (single (cols + d) y) (entries value list)) x
          (h (suc (cols + q)) (omega (arith, high)))) c.requires.high
      | inr w ↦ subst P (sym (ap (cone_of value) w.1))
          (λ high. subst (λ (y : ℚ). IsLineWith (suc (cols + length (numbers value w.0)))
          (single (cols + d) y) (entries value list)) x
          (h (suc (cols + length (numbers value w.0))) (omega (arith, high)))) c.requires.high
    ])
    c.single_column.ensures

pub list_column-requires : goal.list_column-requires
list_column-requires g c =
    let value = g.F.Field.value in
    let form = c.args.form.now in
    let q = length form.p in
    let d = c.args.d in
    let vectors = c.in-Dual.vectors in
    let vec = c.index-as_slice-d.result in
    let inside : d - 1 < length vectors =
    omega (
      arith,
      c.requires.low,
      c.requires.high,
      ap (λ k. dual_unknowns q (cone_of value k)) c.in-Dual.is,
      length-map vectors (map value),
    ) in
    let row : map value c.as_slice-in-Dual-2.result.now ≡ negated (row_of (numbers value vectors) d) =
    ap (map value) c.as_slice-in-Dual-2.ensures.items ∙ c.in_ok-numbers-in-Dual.ensures
    ∙ ap negated (ap (map value) (c.as_slice-in-Dual.ensures.items ∙ c.index-as_slice-d.is
    ∙ ap (λ l. slice_index_or l (d - 1) vec) c.as_slice.ensures.items)
    ∙ sym (get_or-map (map value) vectors (d - 1) vec [] inside)) in
    omega (
      arith,
      form.cols_bounded,
      form.objs_bounded,
      length-map c.as_slice-in-Dual-2.result.now value,
      ap length row,
      length-map (row_of (numbers value vectors) d) neg_ℚ,
      (dual_wide value q form.cone vectors c.in-Dual.is form.cone_vectors).wide (d - 1) []
          (omega (arith, inside, length-map vectors (map value))),
    )

pub returns-in_ok-numbers-in-Dual : goal.returns-in_ok-numbers-in-Dual
returns-in_ok-numbers-in-Dual g c =
    let value = g.F.Field.value in
    let form = c.args.form.now in
    let cols = form.cols in
    let q = length form.p in
    let d = c.args.d in
    let vectors = c.in-Dual.vectors in
    let vec = c.index-as_slice-d.result in
    let given = c.as_slice-in-Dual-2.result.now in
    let inside : d - 1 < length vectors =
    omega (
      arith,
      c.requires.low,
      c.requires.high,
      ap (λ k. dual_unknowns q (cone_of value k)) c.in-Dual.is,
      length-map vectors (map value),
    ) in
    let row : map value given ≡ negated (row_of (numbers value vectors) d) =
    ap (map value) c.as_slice-in-Dual-2.ensures.items ∙ c.in_ok-numbers-in-Dual.ensures
    ∙ ap negated (ap (map value) (c.as_slice-in-Dual.ensures.items ∙ c.index-as_slice-d.is
    ∙ ap (λ l. slice_index_or l (d - 1) vec) c.as_slice.ensures.items)
    ∙ sym (get_or-map (map value) vectors (d - 1) vec [] inside)) in
    let long : length given ≡ q =
    sym (length-map given value) ∙ ap length row
    ∙ length-map (row_of (numbers value vectors) d) neg_ℚ
    ∙ (dual_wide value q form.cone vectors c.in-Dual.is form.cone_vectors).wide (d - 1) []
    (omega (arith, inside, length-map vectors (map value))) in
    IfOk-weaker c.list_column.result
    (λ list. (n : ℕ) → cols + length given ≤ n →
    IsLineWith n (placed cols (map value given)) (entries value list))
    (λ list. IsLineWith (suc (cols + dual_equations q (cone_of value form.cone)))
    (after_w cols (cone_of value form.cone) d) (entries value list))
    (λ list h.
    let P : Cone → Type 0 = λ cone.
    IsLineWith (suc (cols + dual_equations q cone)) (after_w cols cone d) (entries value list) in
    subst P (sym (ap (cone_of value) c.in-Dual.is))
    (subst (λ (v : List ℚ). IsLineWith (suc (cols + q)) (placed cols v) (entries value list)) row
    (h (suc (cols + q)) (omega (arith, long)))))
    c.list_column.ensures
