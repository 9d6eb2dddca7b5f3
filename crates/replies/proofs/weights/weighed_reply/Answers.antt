use Rattle.std.proofs.Common.{List, inl, refl, subst}
use Rattle.exact_field.specs.Rational.{ℚ}
use Rattle.weighing.specs.Stages.{IsWeighedFrom, StopsWeighing}
use Rattle.weighing.specs.Walk.{WeighStops}
use Rattle.weighing.specs.Weighing.{IsWeighed}
use Rattle.weighing.specs.declared.weighed.WeighEnd.{WeighEnd}
use Rattle.replies.proofs.WeightVerdicts.{stopped_told}
use Rattle.replies.proofs.weights.weighed_reply.Goals as goal

pub returns-in_ok-weighed_text-in-Ok : goal.returns-in_ok-weighed_text-in-Ok
returns-in_ok-weighed_text-in-Ok c =
    let file = c.args.file.now in
    let solution = c.args.solution.now in
    let weighed = c.in-Ok.weighed in
    inl (record {
      status = refl;
      solution = solution;
      right = c.requires.solves;
      weighed = weighed;
      from = subst (λ (ws : List ℚ). IsWeighedFrom file solution.answer ws weighed) c.as_slice.ensures.items c.in-Ok.ensures.from;
      least = subst (λ (ws : List ℚ). IsWeighed file solution.answer ws weighed) c.as_slice.ensures.items c.in-Ok.ensures.least;
      text = c.in_ok-weighed_text-in-Ok.ensures;
      no_log = refl;
    })

pub returns-in-Err-Left : goal.returns-in-Err-Left
returns-in-Err-Left c =
    let file = c.args.file.now in
    let solution = c.args.solution.now in
    let item = c.in-Err-Left.item in
    let left = c.in-Err-Left.left in
    let given = c.as_slice.result.now in
    let stops : StopsWeighing file solution.answer given item left =
    subst (λ (e : WeighEnd). WeighStops file solution.answer given e) c.in-Err-Left.field-0-is c.in-Err-Left.ensures.left in
    stopped_told c.args.weights.now file solution item left c.fault_reply.result c.requires.solves
    (subst (λ (ws : List ℚ). StopsWeighing file solution.answer ws item left) c.as_slice.ensures.items stops)
    c.fault_reply.ensures.status c.fault_reply.ensures.told
