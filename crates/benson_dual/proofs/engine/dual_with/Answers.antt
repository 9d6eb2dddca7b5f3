use Rattle.std.proofs.Common.{rules, ◌≡◌, List, map, refl, subst, sym}
use Rattle.exact_field.specs.Rational.{ℚ}
use Rattle.overflows.specs.Base.{IsBaseChoice}
use Rattle.overflows.specs.Licence.{Licensed}
use Rattle.lin_rows.proofs.Errors.{err_holds}
use Rattle.lp_form.specs.declared.shown.Cut.{Cut}
use Rattle.recession.specs.Ends.{IsContradiction}
use Rattle.recession.specs.Wholes.{IsWholeOf}
use Rattle.outer_approx.specs.Standing.{IsEnded, IsOpening}
use Rattle.outer_approx.specs.Task.{IsFitting, Task}
use Rattle.outer_approx.specs.declared.log.Line.{Line}
use Rattle.overflows.specs.Faults.{OnLicence}
use Rattle.recession.specs.First.{AreFirstCuts, IsFirst}
use Rattle.recession.specs.declared.first.First.{First}
use Rattle.recession.specs.declared.first.First.TheVariants.{Cuts}
use Rattle.benson_dual.specs.Logs.{task_by, task_with}
use Rattle.benson_dual.proofs.AllInUse.{cutless_log}
use Rattle.benson_dual.proofs.Images.{fitting, opens, read_as, told_as}
use Rattle.benson_dual.proofs.engine.dual_with.Goals as goal

-- the first cuts of an answer that has some
cuts_in : {F : Type 0} (value : F → ℚ) (t : Task) (f : First F) (x : List F) (ls : List (Line F)) (cuts : List (Cut F)) → f ≡ Cuts x ls cuts → IsFirst value t f →
    (found : List (Cut F)) × AreFirstCuts value t x ls found
cuts_in value t f x ls cuts is h = (cuts, subst (IsFirst value t) is h)

pub first_cuts-requires : goal.first_cuts-requires
first_cuts-requires g c κs within =
    let value = g.F.Field.value in
    let holds = g.F.Field.holds in
    let d = c.args.duality.now in
    let h = c.requires.1.1 in
    let same = read_as value holds g.file d h c.as_slice.result.now c.as_slice-2.result.now c.as_slice.ensures.items c.as_slice-2.ensures.items in
    (search rules, (c.requires.1.0, (refl, (refl, subst (IsFitting holds) (sym same) (fitting value holds g.file d h)))))

pub returns-in_err-u-clause-left : goal.returns-in_err-u-clause-left
returns-in_err-u-clause-left g c =
    let value = g.F.Field.value in
    err_holds c.from_residual.result c.in_err-u.field-0.0 _ c.from_residual.ensures.1
    (subst (λ (c' : List _). OnLicence c.in_err-u.field-0.0 (Licensed g.F.Field.holds g.file (map value c'))) c.as_slice.ensures.items c.in_err-u.ensures.left)

pub contradiction_log-requires : goal.contradiction_log-requires
contradiction_log-requires g c κs within =
    let value = g.F.Field.value in
    let t = task_by value g.file c.as_slice.result.now c.as_slice-2.result.now in (
      search rules,
      (
        search rules,
        subst (λ (u : List _). IsContradiction g.file (map value u)) (sym c.as_slice-in-Infeasible.ensures.items)
            (subst (IsFirst value t) c.in-Infeasible.is c.in_ok-u.ensures.ok),
      ),
    )

pub returns-in-Infeasible-clause-ok : goal.returns-in-Infeasible-clause-ok
returns-in-Infeasible-clause-ok g c =
    let value = g.F.Field.value in
    let holds = g.F.Field.holds in
    let d = c.args.duality.now in
    let t = task_with value g.file d in
    let made = c.in_ok-contradiction_log-in-Infeasible.ensures in
    cutless_log holds t (fitting value holds g.file d c.requires.1.1) c.in_ok-contradiction_log-in-Infeasible.field-0 (made.ended t.c t.weights) (made.cuts g.file.objs)

pub everything_log-requires : goal.everything_log-requires
everything_log-requires g c κs within =
    let value = g.F.Field.value in
    let holds = g.F.Field.holds in
    let d = c.args.duality.now in
    let h = c.requires.1.1 in
    let opening = c.in_ok-opening-in-Whole.opening in
    let t = task_by value g.file c.as_slice.result.now c.as_slice-2.result.now in
    let same = read_as value holds g.file d h c.as_slice.result.now c.as_slice-2.result.now c.as_slice.ensures.items c.as_slice-2.ensures.items in
    let told = told_as value holds g.file d h opening c.in_ok-opening-in-Whole.ensures in
    let first = subst (IsFirst value t) c.in-Whole.is c.in_ok-u.ensures.ok in (
      search rules,
      (
        search rules,
        (
          subst (λ (s : Task). IsOpening s opening) (sym told)
              (subst (IsOpening (task_with value g.file d)) (sym c.in_ok-opening-in-Whole.ensures) (opens value holds g.file d h)),
          (
            subst (λ (s : Task). IsBaseChoice s.file (map value c.as_slice-in-Whole.result.now)) (sym told)
                (subst (λ (x : List _). IsBaseChoice g.file (map value x)) (sym c.as_slice-in-Whole.ensures.items) first.0),
            subst (λ (s : Task). IsWholeOf value s.file s.c c.in-Whole.parts) (sym told)
                (subst (λ (s : Task). IsWholeOf value s.file s.c c.in-Whole.parts) same first.1),
          ),
        ),
      ),
    )

pub returns-in-Whole-clause-ok : goal.returns-in-Whole-clause-ok
returns-in-Whole-clause-ok g c =
    let value = g.F.Field.value in
    let holds = g.F.Field.holds in
    let d = c.args.duality.now in
    let h = c.requires.1.1 in
    let log = c.in_ok-everything_log-in-Whole.field-0 in
    let made = c.in_ok-everything_log-in-Whole.ensures in
    cutless_log holds (task_with value g.file d) (fitting value holds g.file d h) log
    (subst (λ (s : Task). IsEnded s log) (told_as value holds g.file d h c.in_ok-opening-in-Whole.opening c.in_ok-opening-in-Whole.ensures) made.ended)
    (made.cuts g.file.objs)

pub facet_log-requires : goal.facet_log-requires
facet_log-requires g c κs within =
    let value = g.F.Field.value in
    let holds = g.F.Field.holds in
    let d = c.args.duality.now in
    let h = c.requires.1.1 in
    let t = task_by value g.file c.as_slice.result.now c.as_slice-2.result.now in
    let same = read_as value holds g.file d h c.as_slice.result.now c.as_slice-2.result.now c.as_slice.ensures.items c.as_slice-2.ensures.items in
    let x = c.in-Cuts.x in
    let ls = c.as_slice-in-Cuts.result.now in
    let found = cuts_in value t _ x c.in-Cuts.lines _ c.in-Cuts.is c.in_ok-u.ensures.ok in (
      search rules,
      (
        c.requires.1.0,
        (
          h,
          (
            found.0,
            subst (λ (s : Task). AreFirstCuts value s x ls found.0) same
                (subst (λ (l : List (Line _)). AreFirstCuts value t x l found.0) (sym c.as_slice-in-Cuts.ensures.items) found.1),
          ),
        ),
      ),
    )
