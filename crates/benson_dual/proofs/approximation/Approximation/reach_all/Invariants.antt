use Rattle.std.proofs.Common.{◌≡◌, ◌≢◌, ◌≤◌, ◌<◌, ℕ, [], length, slice_index_or}
use Rattle.polyhedra.specs.LiveList.{numbers}
use Rattle.log_rules.specs.Live.{preimages}
use Rattle.benson_dual.specs.Images.{IsApproximation}
use Rattle.benson_dual.proofs.approximation.Approximation.reach_all.Given as goal

abbrev pub ghost-reach : goal.ghost-reach
ghost-reach g a = g.task

abbrev pub invariant-loop-i : goal.invariant-loop-i
invariant-loop-i g l =
    let live = numbers l.initial.self.dd.list.live in
    record {
      stands : IsApproximation g.task l.image l.self;
      still : l.self.dd ≡ l.initial.self.dd;
      reached : (j : ℕ) → j < l.i → preimages l.self.trail (slice_index_or live j 0) ≢ [];
      fresh : (j : ℕ) → l.i ≤ j → j < length live → preimages l.self.trail (slice_index_or live j 0) ≡ [];
    }
