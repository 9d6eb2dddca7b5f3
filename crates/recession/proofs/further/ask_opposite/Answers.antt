use Rattle.std.proofs.Common.{map, length, sym, ap, ◌∙◌, []}
use Rattle.std.proofs.lemmas.List.{length-map}
use Rattle.exact_field.specs.Rational.{neg_ℚ}
use Rattle.lin_rows.proofs.Errors.{err_holds}
use Rattle.polyhedra.specs.Negatives.{negated}
use Rattle.outer_approx.specs.Task.{setting}
use Rattle.overflows.specs.Faults.{Overflows}
use Rattle.recession.proofs.Opposites.{asked_is, cut_opposite, line_at, opposite_start, reached_is}
use Rattle.recession.proofs.further.ask_opposite.Goals as goal

pub ask-requires : goal.ask-requires
ask-requires g c κs within =
    let value = g.F.Field.value in
    let same = ap (map value) c.as_slice-2.ensures.items ∙ c.in_ok-negated.ensures ∙ ap (λ l. negated (map value l)) c.as_slice.ensures.items in (
      within,
      (
        c.requires.1.0,
        (
          c.requires.1.1.0,
          (
            c.requires.1.1.1.0,
            (
              c.requires.1.1.1.1.0,
              (
                sym (length-map c.as_slice-2.result.now value) ∙ ap length same ∙ length-map (map value c.args.d) neg_ℚ ∙ length-map c.args.d value ∙ c.requires.1.1.1.1.1.1.0,
                c.requires.1.1.1.1.1.0,
              ),
            ),
          ),
        ),
      ),
    )

pub returns-in_err-asked-clause-left : goal.returns-in_err-asked-clause-left
returns-in_err-asked-clause-left g c = λ trail side.
    let value = g.F.Field.value in
    let holds = g.F.Field.holds in
    let same = ap (map value) c.as_slice-2.ensures.items ∙ c.in_ok-negated.ensures ∙ ap (λ l. negated (map value l)) c.as_slice.ensures.items in
    err_holds c.from_residual-in_err-asked.result c.in_err-asked.field-0.0 (Overflows holds (setting g.task trail) []) c.from_residual-in_err-asked.ensures.1
    (c.in_err-asked.ensures.left trail (opposite_start g.task.file.objs trail (map value c.as_slice-2.result.now) (map value c.args.d) same side))

pub returns-in-Cut-clause-ok : goal.returns-in-Cut-clause-ok
returns-in-Cut-clause-ok g c = λ cuts ls both side.
    let value = g.F.Field.value in
    let holds = g.F.Field.holds in
    let d = map value c.args.d in
    let same = ap (map value) c.as_slice-2.ensures.items ∙ c.in_ok-negated.ensures ∙ ap (λ l. negated (map value l)) c.as_slice.ensures.items in
    cut_opposite value holds g.task c.requires.1.1.1.1.0 d cuts ls c.in-Cut.cut side.side
    (asked_is value holds g.task c.requires.1.1.1.1.0 c.in_ok-asked.asked (map value c.as_slice-2.result.now) (negated d) same c.in_ok-asked.ensures.ok
    c.in-Cut.cut c.in-Cut.is)

pub returns-in-Reached-clause-ok : goal.returns-in-Reached-clause-ok
returns-in-Reached-clause-ok g c = λ cuts ls both side.
    let value = g.F.Field.value in
    let holds = g.F.Field.holds in
    let d = map value c.args.d in
    let same = ap (map value) c.as_slice-2.ensures.items ∙ c.in_ok-negated.ensures ∙ ap (λ l. negated (map value l)) c.as_slice.ensures.items in
    line_at value holds g.task c.requires.1.1.1.1.0 cuts ls (record { d = c.args.d; forth = c.args.forth; back = c.in-Reached.back }) both side record {
      forth_is = c.requires.1.1.1.1.1.1.1;
      back_is = reached_is value holds g.task c.requires.1.1.1.1.0 c.in_ok-asked.asked (map value c.as_slice-2.result.now) (negated d) same
          c.in_ok-asked.ensures.ok c.in-Reached.back c.in-Reached.is;
    }
