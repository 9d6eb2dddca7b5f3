use Rattle.std.proofs.Common.{subst, refl}
use Rattle.cert_check.specs.Verdict.{Refuses}
use Rattle.cert_check.specs.declared.fault.Refusal.{Refusal}
use Rattle.log_rules.proofs.NeverWrong.{never_wrong}
use Rattle.solver.proofs.Checked.{check_overflows}
use Rattle.solver.proofs.Plainly.{fails_plainly, proved_plainly}
use Rattle.frac128.specs.Held.{is_held}
use Rattle.solver.proofs.own.check_own.Goals as goal

pub unreachable-requires : goal.unreachable-requires
unreachable-requires c =
    let file = c.args.problem.now in
    let entries = c.args.entries in
    never_wrong is_held file entries c.in-Err-Wrong.field-0-0 c.in-Err-Wrong.field-0-1
    c.requires.meet
    (fails_plainly file entries c.requires.meet _
    (subst (λ (r : Refusal). Refuses file entries r) c.in-Err-Wrong.field-0-is
    c.in-Err-Wrong.ensures.refused))

pub returns-in-Ok-clause-plainly : goal.returns-in-Ok-clause-plainly
returns-in-Ok-clause-plainly c =
    proved_plainly c.args.problem.now c.args.entries c.requires.meet c.in-Ok.answer
    c.in-Ok.ensures.ok.proves

pub returns-in-Err-Left-clause-first : goal.returns-in-Err-Left-clause-first
returns-in-Err-Left-clause-first c =
    let file = c.args.problem.now in
    let entries = c.args.entries in
    record {
      entry = c.in-Err-Left.entry;
      step = c.in-Err-Left.step;
      first =
          fails_plainly file entries c.requires.meet _
          (subst (λ (r : Refusal). Refuses file entries r) c.in-Err-Left.field-0-is
          c.in-Err-Left.ensures.refused);
      place = refl;
      trail = refl;
    }

pub returns-in-Err-Left-clause-licensed : goal.returns-in-Err-Left-clause-licensed
returns-in-Err-Left-clause-licensed c =
    let file = c.args.problem.now in
    let entries = c.args.entries in (
      refl,
      check_overflows file entries c.in-Err-Left.entry c.in-Err-Left.step c.in-Err-Left.left
          c.requires.log
          (fails_plainly file entries c.requires.meet _
          (subst (λ (r : Refusal). Refuses file entries r) c.in-Err-Left.field-0-is
          c.in-Err-Left.ensures.refused)),
    )
