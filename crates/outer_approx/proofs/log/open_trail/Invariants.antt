use Rattle.std.proofs.Common.{◌≡◌, ℕ, [], map, take}
use Rattle.log_rules.specs.Live.{preimages}
use Rattle.outer_approx.specs.Cuts.{said_by}
use Rattle.outer_approx.specs.Lines.{told_by}
use Rattle.outer_approx.specs.Standing.{IsBegun}
use Rattle.outer_approx.proofs.log.open_trail.Given as goal

abbrev pub ghost-with_cuts : goal.ghost-with_cuts
ghost-with_cuts g a = g.task

abbrev pub invariant-loop-line : goal.invariant-loop-line
invariant-loop-line g l = record {
  begun : IsBegun g.task (map (told_by g.F.Field.value) (take l.line-index l.lines)) (map (said_by g.F.Field.value) l.cuts) l.trail;
  unreached : (k : ℕ) → preimages l.trail k ≡ [];
}
