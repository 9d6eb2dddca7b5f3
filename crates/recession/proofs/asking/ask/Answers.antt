use Rattle.std.proofs.Common.{map, refl, sym, ap, ◌∙◌, subst, ◌≡◌, List, []}
use Rattle.std.proofs.lemmas.List.{length-map}
use Rattle.lin_rows.proofs.Errors.{err_holds}
use Rattle.outer_approx.specs.Task.{setting}
use Rattle.overflows.specs.Faults.{Overflows}
use Rattle.recession.proofs.Asking_ends.{c_wide_in, can_start, empty_seen, never_empty, optimum_seen, wide_in}
use Rattle.recession.proofs.asking.ask.Goals as goal

pub benson_end-requires-clause-c : goal.benson_end-requires-clause-c
benson_end-requires-clause-c g c =
    c_wide_in g.F.Field.value g.F.Field.holds g.task c.requires.1.1.1.1.0 c.args.form.now c.requires.1.0 c.args.c.now c.requires.1.1.0

pub benson_end-requires-clause-v : goal.benson_end-requires-clause-v
benson_end-requires-clause-v g c =
    wide_in g.F.Field.value g.F.Field.holds g.task c.requires.1.1.1.1.0 c.args.form.now c.requires.1.0 c.args.v.now c.requires.1.1.1.1.1.0

pub benson_end-requires-clause-start : goal.benson_end-requires-clause-start
benson_end-requires-clause-start g c =
    let value = g.F.Field.value in
    can_start value g.F.Field.holds g.task c.requires.1.1.1.1.0 c.args.form.now c.requires.1.0 (map value c.args.c.now) c.args.t c.requires.1.1.0
    (λ e. c.requires.1.1.1.1.1.1.feasible)

pub returns-in_err-end-clause-left : goal.returns-in_err-end-clause-left
returns-in_err-end-clause-left g c = λ trail start.
    let holds = g.F.Field.holds in
    err_holds c.from_residual.result c.in_err-end.field-0.0 (Overflows holds (setting g.task trail) []) c.from_residual.ensures.1
    (c.in_err-end.ensures.left (setting g.task trail) c.requires.1.0 (ap Rattle.std.proofs.Common.Some (sym c.requires.1.1.0)) start)

pub read_off-requires : goal.read_off-requires
read_off-requires g c κs within =
    let value = g.F.Field.value in
    let a = c.in-Optimal in (
      within,
      (
        c.requires.1.0,
        (
          c.requires.1.1.0,
          (
            c.requires.1.1.1.0,
            (
              c.requires.1.1.1.1.0,
              (
                c.requires.1.1.1.1.1.0,
                (
                  a.basis,
                  optimum_seen value g.F.Field.holds g.task c.requires.1.1.1.1.0 c.args.form.now c.requires.1.0 (map value c.args.c.now) (map value c.args.v.now) c.args.t
                      c.in_ok-end.end c.requires.1.1.0 (c.in_ok-end.ensures.ok g.task.file c.requires.1.0) a.z a.dual c.as_slice.result.now
                      c.as_slice-in-Optimal.result.now a.basis a.is c.as_slice.ensures.items c.as_slice-in-Optimal.ensures.items,
                ),
              ),
            ),
          ),
        ),
      ),
    )

pub unreachable-requires : goal.unreachable-requires
unreachable-requires g c =
    let value = g.F.Field.value in
    let a = c.in-Empty in
    let v = map value c.args.v.now in
    never_empty g.F.Field.holds g.task c.requires.1.1.1.1.0 v c.args.t a.basis (map value a.dual) (length-map c.args.v.now value ∙ c.requires.1.1.1.1.1.0) c.requires.1.1.1.1.1.1
    (empty_seen value g.F.Field.holds g.task c.requires.1.1.1.1.0 c.args.form.now c.requires.1.0 (map value c.args.c.now) v c.args.t c.in_ok-end.end c.requires.1.1.0
    (c.in_ok-end.ensures.ok g.task.file c.requires.1.0) a.dual a.dual a.basis a.is refl)
