use Rattle.std.proofs.Common.{◌≡◌, take}
use Rattle.log_rules.specs.Events.{dot_steps}
use Rattle.entry_checks.proofs.Going.{IsAt}
use Rattle.rep_conv.specs.Adding.{values_at}
use Rattle.rep_conv.proofs.adding.values_of.Given as goal

abbrev pub invariant-loop-generator : goal.invariant-loop-generator
invariant-loop-generator l = record {
  here : IsAt (λ g. dot_steps l.fn.row g.vector) l.fn.generators l.fn.counter.taken l.generator-index l.counter.taken;
  made : l.values ≡ values_at l.fn.row (take l.generator-index l.fn.generators);
}
