use Rattle.std.proofs.Common.{map, length, refl, sym, ap, ◌∙◌, [], List, subst, ◌≡◌, Some, true}
use Rattle.std.proofs.lemmas.List.{length-map}
use Rattle.exact_field.specs.Rational.{ℚ}
use Rattle.lin_rows.proofs.Errors.{err_holds}
use Rattle.polyhedra.specs.Vectors.{zeros}
use Rattle.polyhedra.proofs.Linear.{length-zeros}
use Rattle.overflows.specs.Base.{IsBaseStart}
use Rattle.overflows.specs.Licence.{Licensed}
use Rattle.lp_form.proofs.Figures.{objective_number}
use Rattle.lp_form.specs.Programs.{benson_system}
use Rattle.benson_program.specs.Cuts.{IsCutOf}
use Rattle.benson_program.specs.Ends.{IsOptimumAt}
use Rattle.overflows.specs.Faults.{OnLicence}
use Rattle.outer_approx.specs.Task.{setting}
use Rattle.recession.proofs.Asking_ends.{c_wide_in, can_start, cut_for, empty_at_origin, optimum_in, optimum_seen}
use Rattle.recession.proofs.Trails.{licensed, opens, trail_of}
use Rattle.recession.proofs.first.first_of_solvable.Goals as goal

pub benson_end-requires-clause-c : goal.benson_end-requires-clause-c
benson_end-requires-clause-c g c =
    c_wide_in g.F.Field.value g.F.Field.holds g.task c.requires.1.1.1.1.0 c.args.form.now c.requires.1.0 c.args.c.now c.requires.1.1.0

pub benson_end-requires-clause-v : goal.benson_end-requires-clause-v
benson_end-requires-clause-v g c =
    ap length c.as_slice.ensures.items ∙ sym (length-map c.in_ok-origin.origin g.F.Field.value) ∙ ap length c.in_ok-origin.ensures ∙ length-zeros c.len.result ∙ c.len.ensures.value

pub benson_end-requires-clause-start : goal.benson_end-requires-clause-start
benson_end-requires-clause-start g c =
    let value = g.F.Field.value in
    can_start value g.F.Field.holds g.task c.requires.1.1.1.1.0 c.args.form.now c.requires.1.0 (map value c.args.c.now) true c.requires.1.1.0
    (λ e. (map value c.args.x, c.requires.1.1.1.1.1.feasible))

pub returns-in_err-end-clause-left : goal.returns-in_err-end-clause-left
returns-in_err-end-clause-left g c =
    let value = g.F.Field.value in
    let holds = g.F.Field.holds in
    let fitting = c.requires.1.1.1.1.0 in
    let q_is = c.len.ensures.value ∙ objective_number value g.task.file c.args.form.now c.requires.1.0 in
    let origin = ap (map value) c.as_slice.ensures.items ∙ c.in_ok-origin.ensures ∙ ap zeros q_is in
    err_holds c.from_residual-in_err-end.result c.in_err-end.field-0.0 (λ f. OnLicence f (Licensed holds g.task.file g.task.c)) c.from_residual-in_err-end.ensures.1
    (licensed holds g.task fitting [] (opens holds g.task fitting) c.in_err-end.field-0.0
    (c.in_err-end.ensures.left (setting g.task (trail_of holds g.task fitting [])) c.requires.1.0 (ap Some (sym c.requires.1.1.0)) (IsBaseStart.origin origin refl)))

pub cut_of-requires-clause-stands : goal.cut_of-requires-clause-stands
cut_of-requires-clause-stands g c = (g.task.file, c.requires.1.0)

pub cut_of-requires-clause-c : goal.cut_of-requires-clause-c
cut_of-requires-clause-c g c =
    c_wide_in g.F.Field.value g.F.Field.holds g.task c.requires.1.1.1.1.0 c.args.form.now c.requires.1.0 c.args.c.now c.requires.1.1.0

pub cut_of-requires-clause-v : goal.cut_of-requires-clause-v
cut_of-requires-clause-v g c =
    ap length c.as_slice-in-Optimal.ensures.items ∙ sym (length-map c.in_ok-origin.origin g.F.Field.value) ∙ ap length c.in_ok-origin.ensures
    ∙ length-zeros c.len.result ∙ c.len.ensures.value

pub cut_of-requires-clause-optimum : goal.cut_of-requires-clause-optimum
cut_of-requires-clause-optimum g c = λ file other.
    let value = g.F.Field.value in
    let holds = g.F.Field.holds in
    let fitting = c.requires.1.1.1.1.0 in
    let form = c.args.form.now in
    let cs = map value c.args.c.now in
    let vs = map value c.as_slice.result.now in
    let a = c.in-Optimal in
    let zs = c.as_slice-in-Optimal-2.result.now in
    let us = map value c.as_slice-in-Optimal.result.now in
    let same : vs ≡ us = ap (map value) (c.as_slice.ensures.items ∙ sym c.as_slice-in-Optimal.ensures.items) in
    let seen = optimum_seen value holds g.task fitting form c.requires.1.0 cs vs true c.in_ok-end.end c.requires.1.1.0
    (c.in_ok-end.ensures.ok g.task.file c.requires.1.0) a.z a.dual zs a.dual a.basis a.is c.as_slice-in-Optimal-2.ensures.items refl in (
      a.basis,
      map value a.dual,
      optimum_in value holds g.task fitting form c.requires.1.0 file other cs us true a.basis (map value zs) (map value a.dual) c.requires.1.1.0
          (subst (λ (v : List ℚ). IsOptimumAt (benson_system g.task.file g.task.c v true) a.basis (map value zs) (map value a.dual)) same seen),
    )

pub returns-in_err-first-in-Optimal-clause-left : goal.returns-in_err-first-in-Optimal-clause-left
returns-in_err-first-in-Optimal-clause-left g c =
    let holds = g.F.Field.holds in
    let fitting = c.requires.1.1.1.1.0 in
    err_holds c.from_residual-in_err-first-in-Optimal.result c.in_err-first-in-Optimal.field-0.0 (λ f. OnLicence f (Licensed holds g.task.file g.task.c))
    c.from_residual-in_err-first-in-Optimal.ensures.1
    (licensed holds g.task fitting [] (opens holds g.task fitting) c.in_err-first-in-Optimal.field-0.0
    (c.in_err-first-in-Optimal.ensures.left (setting g.task (trail_of holds g.task fitting [])) c.requires.1.0 (ap Some (sym c.requires.1.1.0))))

pub lines_and_cuts-requires : goal.lines_and_cuts-requires
lines_and_cuts-requires g c κs within =
    let value = g.F.Field.value in
    let z = map value c.as_slice-in-Optimal-2.result.now in
    let first = c.in_ok-first-in-Optimal.first in (
      within,
      (
        c.requires.1.0,
        (
          c.requires.1.1.0,
          (
            c.requires.1.1.1.0,
            (
              c.requires.1.1.1.1.0,
              (
                c.requires.1.1.1.1.1,
                cut_for value g.task first z
                    (subst (λ (d : List ℚ). IsCutOf value g.task.file d z first) c.requires.1.1.0 (c.in_ok-first-in-Optimal.ensures.ok g.task.file c.requires.1.0)),
              ),
            ),
          ),
        ),
      ),
    )

pub whole_of-requires : goal.whole_of-requires
whole_of-requires g c =
    let value = g.F.Field.value in
    let holds = g.F.Field.holds in
    let fitting = c.requires.1.1.1.1.0 in
    let form = c.args.form.now in
    let cs = map value c.args.c.now in
    let vs = map value c.as_slice.result.now in
    let a = c.in-Empty in
    let duals = c.as_slice-in-Empty.result.now in
    let q_is = c.len.ensures.value ∙ objective_number value g.task.file form c.requires.1.0 in
    let origin = ap (map value) c.as_slice.ensures.items ∙ c.in_ok-origin.ensures ∙ ap zeros q_is in
    let empty = empty_at_origin value holds g.task fitting form c.requires.1.0 cs vs true c.in_ok-end.end c.requires.1.1.0
    (c.in_ok-end.ensures.ok g.task.file c.requires.1.0) a.dual duals a.basis origin refl a.is c.as_slice-in-Empty.ensures.items in
    (g.task.file, g.task.c, c.requires.1.0, empty)

pub returns-in_err-parts-in-Empty-clause-left : goal.returns-in_err-parts-in-Empty-clause-left
returns-in_err-parts-in-Empty-clause-left g c =
    let value = g.F.Field.value in
    let holds = g.F.Field.holds in
    let fitting = c.requires.1.1.1.1.0 in
    let form = c.args.form.now in
    let cs = map value c.args.c.now in
    let vs = map value c.as_slice.result.now in
    let a = c.in-Empty in
    let duals = c.as_slice-in-Empty.result.now in
    let q_is = c.len.ensures.value ∙ objective_number value g.task.file form c.requires.1.0 in
    let origin = ap (map value) c.as_slice.ensures.items ∙ c.in_ok-origin.ensures ∙ ap zeros q_is in
    let empty = empty_at_origin value holds g.task fitting form c.requires.1.0 cs vs true c.in_ok-end.end c.requires.1.1.0
    (c.in_ok-end.ensures.ok g.task.file c.requires.1.0) a.dual duals a.basis origin refl a.is c.as_slice-in-Empty.ensures.items in
    err_holds c.from_residual-in_err-parts-in-Empty.result c.in_err-parts-in-Empty.field-0.0 (λ f. OnLicence f (Licensed holds g.task.file g.task.c))
    c.from_residual-in_err-parts-in-Empty.ensures.1
    (licensed holds g.task fitting [] (opens holds g.task fitting) c.in_err-parts-in-Empty.field-0.0
    (c.in_err-parts-in-Empty.ensures.left (setting g.task (trail_of holds g.task fitting [])) g.task.c c.requires.1.0 refl empty))

pub returns-clause-ok : goal.returns-clause-ok
returns-clause-ok g c =
    let value = g.F.Field.value in
    let holds = g.F.Field.holds in
    let fitting = c.requires.1.1.1.1.0 in
    let form = c.args.form.now in
    let cs = map value c.args.c.now in
    let vs = map value c.as_slice.result.now in
    let a = c.in-Empty in
    let duals = c.as_slice-in-Empty.result.now in
    let q_is = c.len.ensures.value ∙ objective_number value g.task.file form c.requires.1.0 in
    let origin = ap (map value) c.as_slice.ensures.items ∙ c.in_ok-origin.ensures ∙ ap zeros q_is in
    let empty = empty_at_origin value holds g.task fitting form c.requires.1.0 cs vs true c.in_ok-end.end c.requires.1.1.0
    (c.in_ok-end.ensures.ok g.task.file c.requires.1.0) a.dual duals a.basis origin refl a.is c.as_slice-in-Empty.ensures.items in
    (c.requires.1.1.1.1.1, c.in_ok-parts-in-Empty.ensures.ok g.task.file g.task.c c.requires.1.0 empty)
