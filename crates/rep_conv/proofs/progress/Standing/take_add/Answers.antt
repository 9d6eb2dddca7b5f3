use Rattle.std.proofs.Common.{rules, ◌≡◌, ℕ, ◌+◌, ◌<◌, Bool, not, ◌&&◌, nat_lt, List, [], ◌∷◌, length, sym, ap, ap₂, ◌∙◌, subst, arith}
use Rattle.std.proofs.lemmas.Bool.Decides.{Decides-ltb}
use Rattle.std.proofs.lemmas.List.{length-map}
use Rattle.exact_field.specs.Rational.{ℚ}
use Rattle.exact_field.specs.Vector.{dot}
use Rattle.polyhedra.specs.LiveList.{Numbered}
use Rattle.polyhedra.proofs.Tests.{both_true}
use Rattle.log_rules.specs.Events.{Event}
use Rattle.log_rules.specs.Events.Event.{test}
use Rattle.log_rules.specs.Live.{contains}
use Rattle.log_rules.specs.Runs.{steps}
use Rattle.log_rules.specs.declared.rule.Rule.TheVariants as rule
use Rattle.log_live.specs.Live.{live_of}
use Rattle.log_live.specs.declared.generator.Generator.{Generator}
use Rattle.entry_checks.proofs.Going.{Passed, Stopped, passed-then, stopped-later, stopped-in, test-passed}
use Rattle.rep_conv.specs.Adding.{AreAtRow, IsChange}
use Rattle.rep_conv.specs.Events.{added_events, add_events}
use Rattle.rep_conv.specs.Live.{State, rows_in_use}
use Rattle.rep_conv.specs.Rows.{text_rows, row_at}
use Rattle.rep_conv.proofs.After.{added, at_row}
use Rattle.rep_conv.proofs.EntrySteps.{row_read}
use Rattle.rep_conv.proofs.Pieces.{came_as, stopped_as}
use Rattle.rep_text.specs.declared.rep.Rep.{Rep}
use Rattle.rep_conv.proofs.progress.Standing.take_add.Goals as goal

abbrev free : Rep → State → ℕ → Bool
free rep s row = nat_lt row (length (text_rows rep)) && not (contains s.used row)

first : (rep : Rep) (s : State) (row : ℕ) (b : Bool) → b ≡ free rep s row → ◌≡◌ {A = List Event} (test rule.Index b ∷ []) (test rule.Index (free rep s row) ∷ [])
first rep s row b e = ap (λ (x : Bool). test rule.Index x ∷ []) e

exists_of : (rep : Rep) (s : State) (row : ℕ) → Passed (test rule.Index (free rep s row) ∷ []) 0 0 → row < length (text_rows rep)
exists_of rep s row came = (Decides-ltb row (length (text_rows rep))).0
    (both_true (nat_lt row (length (text_rows rep))) (not (contains s.used row)) (test-passed 1 rule.Index (free rep s row) came.none)).0

pub returns-in_err-pass : goal.returns-in_err-pass
returns-in_err-pass c s h begun =
    let here : Stopped (test rule.Index (free c.args.rep.now s c.args.row) ∷ []) 0 c.in_err-pass.field-0.0 =
    stopped_as _ _ _ _ (first c.args.rep.now s c.args.row c.is_free.result (c.is_free.ensures c.args.rep.now s h.keeps)) (c.in_err-pass.ensures 0) in
    let stopped = (stopped-in (added_events (rows_in_use c.args.rep.now s) s.list.live (row_at c.args.rep.now c.args.row) c.args.pairs.now) here).at in
    search (stopped, rules)

pub bounds-rows-row : goal.bounds-rows-row
bounds-rows-row c =
    let s = c.requires.0 in
    let came : Passed (test rule.Index (free c.args.rep.now s c.args.row) ∷ []) 0 0 =
    came_as _ _ _ _ (first c.args.rep.now s c.args.row c.is_free.result (c.is_free.ensures c.args.rep.now s c.requires.1.keeps)) (c.in_ok-pass.ensures 0).0 (c.in_ok-pass.ensures 0).1 in
    let exists = exists_of c.args.rep.now s c.args.row came in
    let many = ap length (c.as_slice-rows.ensures.items ∙ c.requires.1.keeps.rows) in
    omega (arith, exists, many)

pub change_at-requires : goal.change_at-requires
change_at-requires c =
    let s = c.requires.0 in
    let h = c.requires.1 in
    let came : Passed (test rule.Index (free c.args.rep.now s c.args.row) ∷ []) 0 0 =
    came_as _ _ _ _ (first c.args.rep.now s c.args.row c.is_free.result (c.is_free.ensures c.args.rep.now s h.keeps)) (c.in_ok-pass.ensures 0).0 (c.in_ok-pass.ensures 0).1 in
    let exists = exists_of c.args.rep.now s c.args.row came in
    let many = ap length (c.as_slice-rows.ensures.items ∙ h.keeps.rows) in
    let read : c.as_slice-2.result.now ≡ row_at c.args.rep.now c.args.row =
    c.as_slice-2.ensures.items ∙ c.index-rows-row.is
    ∙ row_read c.args.rep.now c.as_slice-rows.result.now c.args.row c.index-rows-row.result (c.as_slice-rows.ensures.items ∙ h.keeps.rows) (omega (arith, exists, many)) in
    record {
      at_row = (
        c.args.rep.now.width,
        rows_in_use c.args.rep.now s,
        subst (λ (p : List ℚ × List Generator). AreAtRow c.args.rep.now.width (rows_in_use c.args.rep.now s) p.0 p.1) (λ i. (sym read i, sym c.as_slice.ensures.value i))
            (at_row c.args.rep.now s c.args.self.now h c.requires.2 c.args.row exists (omega arith)),
      );
    }

pub returns-in_err-change : goal.returns-in_err-change
returns-in_err-change c s h begun =
    let came : Passed (test rule.Index (free c.args.rep.now s c.args.row) ∷ []) 0 0 =
    came_as _ _ _ _ (first c.args.rep.now s c.args.row c.is_free.result (c.is_free.ensures c.args.rep.now s h.keeps)) (c.in_ok-pass.ensures 0).0 (c.in_ok-pass.ensures 0).1 in
    let exists = exists_of c.args.rep.now s c.args.row came in
    let many = ap length (c.as_slice-rows.ensures.items ∙ h.keeps.rows) in
    let read : c.as_slice-2.result.now ≡ row_at c.args.rep.now c.args.row =
    c.as_slice-2.ensures.items ∙ c.index-rows-row.is
    ∙ row_read c.args.rep.now c.as_slice-rows.result.now c.args.row c.index-rows-row.result (c.as_slice-rows.ensures.items ∙ h.keeps.rows) (omega (arith, exists, many)) in
    let at : AreAtRow c.args.rep.now.width (rows_in_use c.args.rep.now s) c.as_slice-2.result.now c.as_slice.result.now =
    subst (λ (p : List ℚ × List Generator). AreAtRow c.args.rep.now.width (rows_in_use c.args.rep.now s) p.0 p.1) (λ i. (sym read i, sym c.as_slice.ensures.value i))
    (at_row c.args.rep.now s c.args.self.now h begun c.args.row exists (omega arith)) in
    let same : ◌≡◌ {A = List Event} (added_events (rows_in_use c.args.rep.now s) (live_of c.as_slice.result.now) c.as_slice-2.result.now c.args.pairs.now)
    (added_events (rows_in_use c.args.rep.now s) s.list.live (row_at c.args.rep.now c.args.row) c.args.pairs.now) =
    ap₂ (λ (l : List Numbered) (r : List ℚ). added_events (rows_in_use c.args.rep.now s) l r c.args.pairs.now) (ap live_of c.as_slice.ensures.value ∙ h.keeps.list.live) read in
    let here : Stopped (added_events (rows_in_use c.args.rep.now s) s.list.live (row_at c.args.rep.now c.args.row) c.args.pairs.now) 0 c.in_err-change.field-0.0 =
    stopped_as _ _ _ _ same (c.in_err-change.ensures c.args.rep.now.width (rows_in_use c.args.rep.now s) at) in
    let stopped = (stopped-later came here).at in
    search (stopped, rules)

pub grow-requires-clause-values : goal.grow-requires-clause-values
grow-requires-clause-values c =
    let s = c.requires.0 in
    let h = c.requires.1 in
    let came : Passed (test rule.Index (free c.args.rep.now s c.args.row) ∷ []) 0 0 =
    came_as _ _ _ _ (first c.args.rep.now s c.args.row c.is_free.result (c.is_free.ensures c.args.rep.now s h.keeps)) (c.in_ok-pass.ensures 0).0 (c.in_ok-pass.ensures 0).1 in
    let exists = exists_of c.args.rep.now s c.args.row came in
    let many = ap length (c.as_slice-rows.ensures.items ∙ h.keeps.rows) in
    let read : c.as_slice-2.result.now ≡ row_at c.args.rep.now c.args.row =
    c.as_slice-2.ensures.items ∙ c.index-rows-row.is
    ∙ row_read c.args.rep.now c.as_slice-rows.result.now c.args.row c.index-rows-row.result (c.as_slice-rows.ensures.items ∙ h.keeps.rows) (omega (arith, exists, many)) in
    let at : AreAtRow c.args.rep.now.width (rows_in_use c.args.rep.now s) c.as_slice-2.result.now c.as_slice.result.now =
    subst (λ (p : List ℚ × List Generator). AreAtRow c.args.rep.now.width (rows_in_use c.args.rep.now s) p.0 p.1) (λ i. (sym read i, sym c.as_slice.ensures.value i))
    (at_row c.args.rep.now s c.args.self.now h c.requires.2 c.args.row exists (omega arith)) in
    let change = (c.in_ok-change.ensures c.args.rep.now.width (rows_in_use c.args.rep.now s) at).2 in
    ap length change.values ∙ length-map c.as_slice.result.now (λ (g : Generator). dot c.as_slice-2.result.now g.vector) ∙ ap length c.as_slice.ensures.value

pub grow-requires-clause-row : goal.grow-requires-clause-row
grow-requires-clause-row c =
    let s = c.requires.0 in
    let came : Passed (test rule.Index (free c.args.rep.now s c.args.row) ∷ []) 0 0 =
    came_as _ _ _ _ (first c.args.rep.now s c.args.row c.is_free.result (c.is_free.ensures c.args.rep.now s c.requires.1.keeps)) (c.in_ok-pass.ensures 0).0 (c.in_ok-pass.ensures 0).1 in
    let exists = exists_of c.args.rep.now s c.args.row came in
    let many = c.requires.1.keeps.in_use.bounded in
    omega (arith, exists, many)

pub returns-in-Ok : goal.returns-in-Ok
returns-in-Ok c s h begun =
    let came : Passed (test rule.Index (free c.args.rep.now s c.args.row) ∷ []) 0 0 =
    came_as _ _ _ _ (first c.args.rep.now s c.args.row c.is_free.result (c.is_free.ensures c.args.rep.now s h.keeps)) (c.in_ok-pass.ensures 0).0 (c.in_ok-pass.ensures 0).1 in
    let exists = exists_of c.args.rep.now s c.args.row came in
    let many = ap length (c.as_slice-rows.ensures.items ∙ h.keeps.rows) in
    let read : c.as_slice-2.result.now ≡ row_at c.args.rep.now c.args.row =
    c.as_slice-2.ensures.items ∙ c.index-rows-row.is
    ∙ row_read c.args.rep.now c.as_slice-rows.result.now c.args.row c.index-rows-row.result (c.as_slice-rows.ensures.items ∙ h.keeps.rows) (omega (arith, exists, many)) in
    let at : AreAtRow c.args.rep.now.width (rows_in_use c.args.rep.now s) c.as_slice-2.result.now c.as_slice.result.now =
    subst (λ (p : List ℚ × List Generator). AreAtRow c.args.rep.now.width (rows_in_use c.args.rep.now s) p.0 p.1) (λ i. (sym read i, sym c.as_slice.ensures.value i))
    (at_row c.args.rep.now s c.args.self.now h begun c.args.row exists (omega arith)) in
    let ran = c.in_ok-change.ensures c.args.rep.now.width (rows_in_use c.args.rep.now s) at in
    let same : ◌≡◌ {A = List Event} (added_events (rows_in_use c.args.rep.now s) (live_of c.as_slice.result.now) c.as_slice-2.result.now c.args.pairs.now)
    (added_events (rows_in_use c.args.rep.now s) s.list.live (row_at c.args.rep.now c.args.row) c.args.pairs.now) =
    ap₂ (λ (l : List Numbered) (r : List ℚ). added_events (rows_in_use c.args.rep.now s) l r c.args.pairs.now) (ap live_of c.as_slice.ensures.value ∙ h.keeps.list.live) read in
    let here : Passed (added_events (rows_in_use c.args.rep.now s) s.list.live (row_at c.args.rep.now c.args.row) c.args.pairs.now) 0 _ = came_as _ _ _ _ same ran.0 ran.1 in
    let all = passed-then came here in
    let change : IsChange (rows_in_use c.args.rep.now s) (row_at c.args.rep.now c.args.row) c.args.self.now.generators.items c.args.pairs.now c.args.self.now.next c.in_ok-change.change =
    subst (λ (p : List ℚ × List Generator). IsChange (rows_in_use c.args.rep.now s) p.0 p.1 c.args.pairs.now c.args.self.now.next c.in_ok-change.change) (λ i. (read i, c.as_slice.ensures.value i)) ran.2 in
    let grown = c.in-Ok.ensures (row_at c.args.rep.now c.args.row) change.values in
    let count : steps (add_events c.args.rep.now s c.args.row c.args.pairs.now) ≡ 0 + steps (add_events c.args.rep.now s c.args.row c.args.pairs.now) = omega arith in (
      all.none,
      count,
      (
        added c.args.rep.now s c.args.self.now h begun c.args.row exists c.args.pairs.now c.in_ok-change.change change c.grow.new.self grown.3 grown.4 grown.2 grown.0 grown.1,
        grown.5 ∙ begun,
      ),
    )
