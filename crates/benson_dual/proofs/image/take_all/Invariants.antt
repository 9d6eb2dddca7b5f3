use Rattle.std.proofs.Common.{◌≡◌, ◌++◌, ℕ, map, take}
use Rattle.log_rules.specs.Live.{lines, preimages}
use Rattle.outer_approx.specs.Cuts.{said_by}
use Rattle.outer_approx.specs.Standing.{IsOuter, cuts_of}
use Rattle.benson_dual.proofs.image.take_all.Given as goal

abbrev pub ghost-take : goal.ghost-take
ghost-take g a = g.task

abbrev pub invariant-loop-cut : goal.invariant-loop-cut
invariant-loop-cut g l = record {
  outer : IsOuter g.task l.trail l.dd;
  said : cuts_of g.task l.trail ≡ cuts_of g.task l.initial.trail ++ map (said_by g.F.Field.value) (take l.cut-index l.cuts);
  lines_stay : lines l.trail ≡ lines l.initial.trail;
  preimages_stay : (k : ℕ) → preimages l.trail k ≡ preimages l.initial.trail k;
}
