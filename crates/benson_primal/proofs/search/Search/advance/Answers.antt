use Rattle.std.proofs.Common.{◌∙◌, ◌+◌, ◌-◌, ◌<◌, ◌≤◌, ℕ, List, ap, length, slice_index_or, subst, sym}
use Rattle.std.specs.Prelude.{IfNone, IfSome}
use Rattle.std.proofs.lemmas.Option.{none-some}
use Rattle.polyhedra.specs.LiveList.{numbers}
use Rattle.polyhedra.proofs.Lists.{seen_more}
use Rattle.deriv_log.specs.declared.entry.Entry.{Entry}
use Rattle.double_descr.specs.State.{State as Description}
use Rattle.benson_primal.specs.Search.{AreReached, HasSameRows, IsDone, IsFound, IsSearching}
use Rattle.benson_primal.proofs.Marked.{all_done, done_stays}
use Rattle.benson_primal.proofs.Searched.{any_stays, grown_from, kept_stays, rows_on}
use Rattle.benson_primal.proofs.search.Search.advance.Goals as goal
use Rattle.benson_primal.proofs.search.Search.advance.Goals.{in-Some+in_ok-try_cut+else-branch+else-is_spent, in_default}

pub returns-then-branch-clause-round : goal.returns-then-branch-clause-round
returns-then-branch-clause-round g c =
    grown_from g.F.Field.value g.task c.args.self.now.trail c.reach.new.self.trail c.try_cut.new.self.trail
    (c.in_ok-found.ensures.rows.rows_same ∙ c.loop-i.invariant.still.rows_same) (c.in_ok-try_cut.ensures.grown c.if-branch.true)

pub returns-then-is_spent-clause-round : goal.returns-then-is_spent-clause-round
returns-then-is_spent-clause-round g c =
    let value = g.F.Field.value in
    let task = g.task in
    let seen = c.loop-i.self in
    let asked = c.reach.new.self in
    let tried = c.try_cut.new.self in
    let at_reach : HasSameRows task seen asked = c.in_ok-found.ensures.rows in
    let at_try : HasSameRows task asked tried = c.in_ok-try_cut.ensures.as_before c.if-branch.false in
    let next : IsFound value task asked c.in-Some.found = subst (λ o. IfSome o (IsFound value task asked)) c.in-Some.is c.in_ok-found.ensures.found in
    let kept = kept_stays value task seen asked tried c.loop-i.first c.in-Some.found at_reach at_try c.loop-i.invariant.found next in (
      rows_on task c.args.self.now asked tried (rows_on task c.args.self.now seen asked c.loop-i.invariant.still at_reach) at_try,
      subst (λ f. IsFound value task tried f) (sym c.unwrap_or-kept.ensures) kept,
    )

pub loop-i-preserved : goal.loop-i-preserved
loop-i-preserved g c =
    let value = g.F.Field.value in
    let holds = g.F.Field.holds in
    let task = g.task in
    let dd = c.args.self.now.dd in
    let seen = c.loop-i.self in
    let asked = c.reach.new.self in
    let at_reach : HasSameRows task seen asked = c.in_ok-found.ensures.rows in
    let before : HasSameRows task c.args.self.now asked = rows_on task c.args.self.now seen asked c.loop-i.invariant.still at_reach in
    elim c.match-branch-2.branch [
      | in-Some+in_ok-try_cut+else-branch+else-is_spent w ↦
          let tried = w.try_cut.new.self in
          let at_try : HasSameRows task asked tried = w.in_ok-try_cut.ensures.as_before w.if-branch.false in
          let next : IsFound value task asked w.in-Some.found = subst (λ o. IfSome o (IsFound value task asked)) w.in-Some.is c.in_ok-found.ensures.found in
          let kept = kept_stays value task seen asked tried c.loop-i.first w.in-Some.found at_reach at_try c.loop-i.invariant.found next in
          record {
            searching = subst (λ s. IsSearching value holds task s) (sym w.self-is) w.in_ok-try_cut.ensures.searching;
            still = subst (λ s. HasSameRows task c.args.self.now s) (sym w.self-is) (rows_on task c.args.self.now asked tried before at_try);
            found = subst (λ s. IfSome c.match-branch-2.first (IsFound value task s)) (sym w.self-is)
                (subst (λ f. IfSome f (IsFound value task tried)) (sym w.first-is) (subst (λ f. IsFound value task tried f) (sym w.unwrap_or-kept.ensures) kept));
            seen = λ none. absurd (none-some w.unwrap_or-kept.result (sym none ∙ w.first-is));
          }
      | in_default w ↦
          let scope = c.args.scope in
          let n = length c.live-count.result.now in
          let i = c.loop-i.i in
          let old = c.loop-i.self.trail in
          let new = c.reach.new.self.trail in
          let live = numbers dd.list.live in
          let at = slice_index_or c.live.result.now (n - 1 - i) 0 in
          let done : IsDone scope new c.reach.new.self.dd at =
          subst (λ o. IfNone o (IsDone scope new c.reach.new.self.dd at)) w.in_default.is c.in_ok-found.ensures.done in
          let here : IsDone scope new dd (slice_index_or live (n - 1 - i) 0) =
          subst (λ (ns : List ℕ). IsDone scope new dd (slice_index_or ns (n - 1 - i) 0))
          (c.live.ensures.live ∙ ap (λ (d : Description). numbers d.list.live) c.loop-i.invariant.still.dd_same)
          (subst (λ (d : Description). IsDone scope new d at) before.dd_same done) in
          let first : IfSome c.loop-i.first (IsFound value task asked) = any_stays value task seen asked c.loop-i.first at_reach c.loop-i.invariant.found in
          record {
            searching = subst (λ s. IsSearching value holds task s) (sym w.self-is) c.in_ok-found.ensures.searching;
            still = subst (λ s. HasSameRows task c.args.self.now s) (sym w.self-is) before;
            found = subst (λ s. IfSome c.match-branch-2.first (IsFound value task s)) (sym w.self-is)
                (subst (λ f. IfSome f (IsFound value task asked)) (sym w.first-is) first);
            seen = λ none.
                subst (λ (t : List Entry). (j : ℕ) → n - (i + 1) ≤ j → j < n → IsDone scope t dd (slice_index_or live j 0)) (sym (ap (λ s. s.trail) w.self-is))
                (seen_more live (IsDone scope old dd) (IsDone scope new dd) n i c.loop-i-test.true (c.loop-i.invariant.seen (sym w.first-is ∙ none))
                (done_stays scope old new dd c.in_ok-found.ensures.stay) here);
          }
    ]

pub returns-in-None-clause-round : goal.returns-in-None-clause-round
returns-in-None-clause-round g c =
    let dd = c.args.self.now.dd in
    let t = c.loop-i.self.trail in
    subst (λ (d : Description). AreReached c.args.scope t d) (sym c.loop-i.invariant.still.dd_same)
    (all_done c.args.scope t dd (length c.live-count.result.now) c.loop-i.i (ap length c.live-count.ensures.live) c.loop-i-test.false
    (c.loop-i.invariant.seen c.in-None.is))
