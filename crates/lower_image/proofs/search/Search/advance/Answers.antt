use Rattle.std.proofs.Common.{◌≡◌, ◌≤◌, ◌<◌, ◌+◌, ◌-◌, ◌∙◌, List, ℕ, ap, arith, length, slice_index_or, subst, sym}
use Rattle.std.specs.Prelude.{IfNone, IfSome}
use Rattle.std.proofs.lemmas.Option.{none-some}
use Rattle.lin_rows.proofs.Errors.{err_holds}
use Rattle.polyhedra.specs.LiveList.{numbers}
use Rattle.polyhedra.proofs.Lists.{seen_more}
use Rattle.double_descr.specs.State.{State as Description}
use Rattle.lower_image.specs.Search.{AreAllCertified, IsDone, IsNextRow, IsSearching}
use Rattle.lower_image.proofs.Searched.{all_done, done_stays, kept_holds}
use Rattle.lower_image.proofs.search.Search.advance.Goals as goal
use Rattle.lower_image.proofs.search.Search.advance.Goals.{in-Some+in_ok-try_row+else-branch+else-tries-eq-MOST_TRIES, in_default}

pub returns-in_err-row-clause-left : goal.returns-in_err-row-clause-left
returns-in_err-row-clause-left g c = λ trail.
    err_holds c.from_residual.result c.in_err-row.field-0.0 _ c.from_residual.ensures.1 (c.in_err-row.ensures.left trail)

pub returns-then-tries-eq-MOST_TRIES-clause-round : goal.returns-then-tries-eq-MOST_TRIES-clause-round
returns-then-tries-eq-MOST_TRIES-clause-round g c =
    let value = g.F.Field.value in
    let task = g.task in
    let dd = c.args.self.now.dd in
    let asked = c.weigh.new.self in
    let tried = c.try_row.new.self in
    let still : asked.dd ≡ dd = c.in_ok-row.ensures.same ∙ c.loop-i.invariant.still in
    let same : tried.dd ≡ dd = c.in_ok-try_row.ensures.as_before c.if-branch.false ∙ still in
    let next : IsNextRow value task asked.dd c.in-Some.row =
    subst (λ o. IfSome o (IsNextRow value task asked.dd)) c.in-Some.is c.in_ok-row.ensures.row in
    let kept = kept_holds (IsNextRow value task dd) c.loop-i.first c.in-Some.row c.loop-i.invariant.found
    (subst (λ (d : Description). IsNextRow value task d c.in-Some.row) still next) in (
      same,
      subst (λ (d : Description). IsNextRow value task d c.unwrap_or-kept.result) (sym same)
          (subst (IsNextRow value task dd) (sym c.unwrap_or-kept.ensures) kept),
    )

pub loop-i-preserved : goal.loop-i-preserved
loop-i-preserved g c =
    let value = g.F.Field.value in
    let holds = g.F.Field.holds in
    let task = g.task in
    let dd = c.args.self.now.dd in
    let asked = c.weigh.new.self in
    let before : asked.dd ≡ dd = c.in_ok-row.ensures.same ∙ c.loop-i.invariant.still in
    elim c.match-branch-2.branch [
      | in-Some+in_ok-try_row+else-branch+else-tries-eq-MOST_TRIES w ↦
          let tried = w.try_row.new.self in
          let next : IsNextRow value task asked.dd w.in-Some.row =
          subst (λ o. IfSome o (IsNextRow value task asked.dd)) w.in-Some.is c.in_ok-row.ensures.row in
          let kept = kept_holds (IsNextRow value task dd) c.loop-i.first w.in-Some.row c.loop-i.invariant.found
          (subst (λ (d : Description). IsNextRow value task d w.in-Some.row) before next) in
          record {
            searching = subst (λ s. IsSearching value holds task s) (sym w.self-is) w.in_ok-try_row.ensures.searching;
            still = ap (λ s. s.dd) w.self-is ∙ w.in_ok-try_row.ensures.as_before w.if-branch.false ∙ before;
            few = omega (arith, w.tries-is, w.if-tries-eq-MOST_TRIES.false, c.loop-i.invariant.few);
            found = subst (λ o. IfSome o (IsNextRow value task dd)) (sym w.first-is) (subst (IsNextRow value task dd) (sym w.unwrap_or-kept.ensures) kept);
            seen = λ none. absurd (none-some w.unwrap_or-kept.result (sym none ∙ w.first-is));
          }
      | in_default w ↦
          let n = length c.live-count.result.now in
          let i = c.loop-i.i in
          let old : List ℕ = c.loop-i.self.certified in
          let new : List ℕ = asked.certified in
          let live = numbers dd.list.live in
          let at = slice_index_or c.live.result.now (n - 1 - i) 0 in
          let done : IsDone task asked.dd new at = subst (λ o. IfNone o (IsDone task asked.dd new at)) w.in_default.is c.in_ok-row.ensures.done in
          let here : IsDone task dd new (slice_index_or live (n - 1 - i) 0) =
          subst (λ (ns : List ℕ). IsDone task dd new (slice_index_or ns (n - 1 - i) 0))
          (c.live.ensures.live ∙ ap (λ (d : Description). numbers d.list.live) c.loop-i.invariant.still)
          (subst (λ (d : Description). IsDone task d new at) before done) in
          record {
            searching = subst (λ s. IsSearching value holds task s) (sym w.self-is) c.in_ok-row.ensures.searching;
            still = ap (λ s. s.dd) w.self-is ∙ before;
            few = omega (arith, w.tries-is, c.loop-i.invariant.few);
            found = subst (λ o. IfSome o (IsNextRow value task dd)) (sym w.first-is) c.loop-i.invariant.found;
            seen = λ none.
                subst (λ (ns : List ℕ). (j : ℕ) → n - (i + 1) ≤ j → j < n → IsDone task dd ns (slice_index_or live j 0)) (sym (ap (λ s. s.certified) w.self-is))
                (seen_more live (IsDone task dd old) (IsDone task dd new) n i c.loop-i-test.true (c.loop-i.invariant.seen (sym w.first-is ∙ none))
                (done_stays task dd old new c.in_ok-row.ensures.stay) here);
          }
    ]

pub returns-in-None-clause-round : goal.returns-in-None-clause-round
returns-in-None-clause-round g c =
    let dd = c.args.self.now.dd in
    let nums : List ℕ = c.loop-i.self.certified in
    subst (λ (d : Description). AreAllCertified g.task d nums) (sym c.loop-i.invariant.still)
    (all_done g.task dd nums (length c.live-count.result.now) c.loop-i.i (ap length c.live-count.ensures.live) c.loop-i-test.false
    (c.loop-i.invariant.seen c.in-None.is))
