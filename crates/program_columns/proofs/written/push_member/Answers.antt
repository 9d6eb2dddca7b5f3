use Rattle.std.proofs.Common.{◌+◌, ◌≤◌, All, List, inl, inr, length, subst, sym, ap}
use Rattle.std.proofs.lemmas.Result.{on_ok_weaker}
use Rattle.vlp_problem.specs.declared.problem.Cone.{Cone}
use Rattle.lin_rows.specs.Lines.{entries}
use Rattle.lp_form.specs.Data.{cone_of}
use Rattle.lp_form.specs.Programs.{dual_equations}
use Rattle.lp_form.proofs.Figures.{wide_enough}
use Rattle.lp_form.proofs.Shaped.{gens_wide}
use Rattle.program_columns.specs.Entries.{IsLonger, member}
use Rattle.program_columns.proofs.Entered.{single_longer}
use Rattle.program_columns.proofs.written.push_member.Goals as goal

pub column-requires-clause-high : goal.column-requires-clause-high
column-requires-clause-high g c =
    let value = g.F.Field.value in
    let form = c.args.form.now in
    let vectors = c.in-Gens.vectors in
    subst (λ (vs : List (List _)). All (λ v. c.args.i ≤ length v) vs) (sym c.as_slice.ensures.items)
    (wide_enough value (length form.p) c.args.i vectors
    (gens_wide value (length form.p) form.cone vectors c.in-Gens.is form.cone_vectors)
    c.requires.high)

pub returns-in-Orthant : goal.returns-in-Orthant
returns-in-Orthant g c = λ n rises low fits.
    let value = g.F.Field.value in
    let form = c.args.form.now in
    let q = length form.p in
    let old = entries value c.args.list.now in
    let new = entries value c.push_kept.new.list in
    on_ok_weaker c.push_kept.result
    (λ w.
    let P : Cone → Type 0 = λ cone.
    form.cols + dual_equations q cone ≤ n →
    IsLonger n (form.cols + dual_equations q cone) (member form.cols cone c.args.i) old new in
    elim c.in-Orthant.is [
      | inl e ↦ subst P (sym (ap (cone_of value) e))
          (single_longer n form.cols q c.args.i (value c.one.result) _ old new c.requires.low
          c.requires.high w c.one.ensures rises low) fits
      | inr d ↦ subst P (sym (ap (cone_of value) d.1))
          (single_longer n form.cols q c.args.i (value c.one.result) _ old new c.requires.low
          c.requires.high w c.one.ensures rises low) fits
    ])
    c.push_kept.ensures
