use Rattle.std.proofs.Common.{◌≡◌, ◌≤◌, ◌<◌, ◌-◌, ℕ, None, slice_index_or}
use Rattle.std.specs.Prelude.{IfSome}
use Rattle.polyhedra.specs.LiveList.{numbers}
use Rattle.lower_image.specs.Search.{IsDone, IsNextRow, IsSearching}
use Rattle.lower_image.proofs.search.Search.advance.Given as goal

abbrev pub ghost-weigh : goal.ghost-weigh
ghost-weigh g a = g.task

abbrev pub ghost-try_row : goal.ghost-try_row
ghost-try_row g a = g.task

abbrev pub invariant-loop-i : goal.invariant-loop-i
invariant-loop-i g l = record {
  searching : IsSearching g.F.Field.value g.F.Field.holds g.task l.self;
  still : l.self.dd ≡ l.initial.self.dd;
  few : l.tries < 6;
  found : IfSome l.first (IsNextRow g.F.Field.value g.task l.initial.self.dd);
  seen : l.first ≡ None → (j : ℕ) → l.count - l.i ≤ j → j < l.count →
      IsDone g.task l.initial.self.dd l.self.certified (slice_index_or (numbers l.initial.self.dd.list.live) j 0);
}
