use Rattle.std.proofs.Common.{map, length, reverse, sym, ap, ◌∙◌, [], subst, List, ℕ, arith}
use Rattle.std.proofs.lemmas.List.{length-map}
use Rattle.exact_field.specs.Rational.{ℚ}
use Rattle.lin_rows.proofs.Errors.{err_holds}
use Rattle.overflows.specs.Base.{IsSide}
use Rattle.lp_form.proofs.Figures.{objective_number}
use Rattle.outer_approx.specs.Lines.{told_by}
use Rattle.outer_approx.specs.Task.{setting}
use Rattle.overflows.specs.Faults.{Overflows}
use Rattle.recession.specs.Further.{AreTail, IsNextSide, normals_of}
use Rattle.recession.proofs.Opposites.{asked_is, cut_at, reached_is, side_start, wide_cuts}
use Rattle.recession.proofs.further.cut_or_line.Goals as goal

pub find_across-requires-clause-tail : goal.find_across-requires-clause-tail
find_across-requires-clause-tail g c =
    let value = g.F.Field.value in
    let q_is = c.len.ensures.value ∙ objective_number value g.task.file c.args.form.now c.requires.1.0 in
    subst (λ (n : ℕ). AreTail n (normals_of value c.args.cuts.now) (map (told_by value) (reverse c.args.lines.now))) (sym q_is) c.requires.1.1.1.1.1.1.1.0.tail

pub find_across-requires-clause-few : goal.find_across-requires-clause-few
find_across-requires-clause-few g c =
    let q_is = c.len.ensures.value ∙ objective_number g.F.Field.value g.task.file c.args.form.now c.requires.1.0 in
    let few = c.requires.1.1.1.1.1.1.1.1 in
    omega (arith, few, q_is)

pub find_across-requires-clause-wide : goal.find_across-requires-clause-wide
find_across-requires-clause-wide g c =
    let q_is = c.len.ensures.value ∙ objective_number g.F.Field.value g.task.file c.args.form.now c.requires.1.0 in
    wide_cuts g.F.Field.value g.task c.len.result c.args.cuts.now q_is c.requires.1.1.1.1.1.1.0

pub returns-in_err-d-clause-left : goal.returns-in_err-d-clause-left
returns-in_err-d-clause-left g c = λ trail has.
    let holds = g.F.Field.holds in
    let q_is = c.len.ensures.value ∙ objective_number g.F.Field.value g.task.file c.args.form.now c.requires.1.0 in
    err_holds c.from_residual.result c.in_err-d.field-0.0 (Overflows holds (setting g.task trail) []) c.from_residual.ensures.1
    (c.in_err-d.ensures.left (setting g.task trail) (sym q_is) has)

pub ask-requires : goal.ask-requires
ask-requires g c κs within =
    let value = g.F.Field.value in
    let q_is = c.len.ensures.value ∙ objective_number value g.task.file c.args.form.now c.requires.1.0 in
    let next = subst (λ (n : ℕ). IsNextSide n (normals_of value c.args.cuts.now) (map (told_by value) (reverse c.args.lines.now)) (map value c.in_ok-d.d)) q_is c.in_ok-d.ensures.ok in
    let side = next.side in (
      within,
      (
        c.requires.1.0,
        (
          c.requires.1.1.0,
          (
            c.requires.1.1.1.0,
            (
              c.requires.1.1.1.1.0,
              (
                ap length c.as_slice.ensures.items ∙ sym (length-map c.in_ok-d.d value) ∙ side.flat.wide,
                c.requires.1.1.1.1.1.0,
              ),
            ),
          ),
        ),
      ),
    )

pub returns-in_err-asked-clause-left : goal.returns-in_err-asked-clause-left
returns-in_err-asked-clause-left g c = λ trail has.
    let value = g.F.Field.value in
    let holds = g.F.Field.holds in
    let q = g.task.file.objs in
    let d = map value c.in_ok-d.d in
    let q_is = c.len.ensures.value ∙ objective_number value g.task.file c.args.form.now c.requires.1.0 in
    let next = subst (λ (n : ℕ). IsNextSide n (normals_of value c.args.cuts.now) (map (told_by value) (reverse c.args.lines.now)) (map value c.in_ok-d.d)) q_is c.in_ok-d.ensures.ok in
    let side = next.side in
    err_holds c.from_residual-in_err-asked.result c.in_err-asked.field-0.0 (Overflows holds (setting g.task trail) []) c.from_residual-in_err-asked.ensures.1
    (c.in_err-asked.ensures.left trail (side_start q trail (map value c.as_slice.result.now) d (ap (map value) c.as_slice.ensures.items)
    (subst (λ (ns : List (List ℚ)). IsSide q ns d) (sym has) side)))

pub returns-in-Cut-clause-ok : goal.returns-in-Cut-clause-ok
returns-in-Cut-clause-ok g c =
    let value = g.F.Field.value in
    let holds = g.F.Field.holds in
    let d = map value c.in_ok-d.d in
    let q_is = c.len.ensures.value ∙ objective_number value g.task.file c.args.form.now c.requires.1.0 in
    let next = subst (λ (n : ℕ). IsNextSide n (normals_of value c.args.cuts.now) (map (told_by value) (reverse c.args.lines.now)) (map value c.in_ok-d.d)) q_is c.in_ok-d.ensures.ok in
    let side = next.side in
    cut_at value holds g.task c.requires.1.1.1.1.0 d c.args.cuts.now (reverse c.args.lines.now) c.in-Cut.cut side
    (asked_is value holds g.task c.requires.1.1.1.1.0 c.in_ok-asked.asked (map value c.as_slice.result.now) d (ap (map value) c.as_slice.ensures.items)
    c.in_ok-asked.ensures.ok c.in-Cut.cut c.in-Cut.is)

pub ask_opposite-requires : goal.ask_opposite-requires
ask_opposite-requires g c κs within =
    let value = g.F.Field.value in
    let holds = g.F.Field.holds in
    let d = map value c.in_ok-d.d in
    let q_is = c.len.ensures.value ∙ objective_number value g.task.file c.args.form.now c.requires.1.0 in
    let next = subst (λ (n : ℕ). IsNextSide n (normals_of value c.args.cuts.now) (map (told_by value) (reverse c.args.lines.now)) (map value c.in_ok-d.d)) q_is c.in_ok-d.ensures.ok in
    let side = next.side in (
      within,
      (
        c.requires.1.0,
        (
          c.requires.1.1.0,
          (
            c.requires.1.1.1.0,
            (
              c.requires.1.1.1.1.0,
              (
                c.requires.1.1.1.1.1.0,
                (
                  sym (length-map c.in_ok-d.d value) ∙ side.flat.wide,
                  reached_is value holds g.task c.requires.1.1.1.1.0 c.in_ok-asked.asked (map value c.as_slice.result.now) d (ap (map value) c.as_slice.ensures.items)
                      c.in_ok-asked.ensures.ok c.in-Reached.forth c.in-Reached.is,
                ),
              ),
            ),
          ),
        ),
      ),
    )

pub returns-in-Reached-clause-ok : goal.returns-in-Reached-clause-ok
returns-in-Reached-clause-ok g c =
    let value = g.F.Field.value in
    let d = map value c.in_ok-d.d in
    let q_is = c.len.ensures.value ∙ objective_number value g.task.file c.args.form.now c.requires.1.0 in
    let next = subst (λ (n : ℕ). IsNextSide n (normals_of value c.args.cuts.now) (map (told_by value) (reverse c.args.lines.now)) (map value c.in_ok-d.d)) q_is c.in_ok-d.ensures.ok in
    let side = next.side in
    c.ask_opposite.ensures.ok c.args.cuts.now (reverse c.args.lines.now) c.requires.1.1.1.1.1.1.1.0.both_ways next

pub returns-in-Reached-clause-left : goal.returns-in-Reached-clause-left
returns-in-Reached-clause-left g c = λ trail has.
    let value = g.F.Field.value in
    let q = g.task.file.objs in
    let d = map value c.in_ok-d.d in
    let q_is = c.len.ensures.value ∙ objective_number value g.task.file c.args.form.now c.requires.1.0 in
    let next = subst (λ (n : ℕ). IsNextSide n (normals_of value c.args.cuts.now) (map (told_by value) (reverse c.args.lines.now)) (map value c.in_ok-d.d)) q_is c.in_ok-d.ensures.ok in
    let side = next.side in
    c.ask_opposite.ensures.left trail (subst (λ (ns : List (List ℚ)). IsSide q ns d) (sym has) side)
