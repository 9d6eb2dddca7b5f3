use Rattle.std.proofs.Common.{◌≡◌, ◌≤◌, ◌<◌, ◌-◌, ℕ, None, slice_index_or}
use Rattle.std.specs.Prelude.{IfSome}
use Rattle.polyhedra.specs.LiveList.{numbers}
use Rattle.benson_primal.specs.Search.{HasSameRows, IsDone, IsFound, IsSearching}
use Rattle.benson_primal.proofs.search.Search.advance.Given as goal

abbrev pub ghost-reach : goal.ghost-reach
ghost-reach g a = g.task

abbrev pub ghost-try_cut : goal.ghost-try_cut
ghost-try_cut g a = g.task

abbrev pub invariant-loop-i : goal.invariant-loop-i
invariant-loop-i g l = record {
  searching : IsSearching g.F.Field.value g.F.Field.holds g.task l.self;
  still : HasSameRows g.task l.initial.self l.self;
  found : IfSome l.first (IsFound g.F.Field.value g.task l.self);
  seen : l.first ≡ None → (j : ℕ) → l.count - l.i ≤ j → j < l.count →
      IsDone l.scope l.self.trail l.initial.self.dd (slice_index_or (numbers l.initial.self.dd.list.live) j 0);
}
