use Rattle.std.proofs.Common.{rules, ◌≡◌, ◌==◌, ◌||◌, not, Bool, List, [], ◌∷◌, ◌++◌, length, sym, ap, ◌∙◌}
use Rattle.exact_field.specs.Rational.{ℚ}
use Rattle.log_rules.specs.Events.{Event}
use Rattle.log_rules.specs.Events.Event.{test}
use Rattle.log_rules.specs.Runs.{steps}
use Rattle.log_rules.specs.declared.rule.Rule.TheVariants as rule
use Rattle.entry_checks.proofs.Going.{Passed, Stopped, Ran, stopped-in, ran-after, test-passed, whole-run}
use Rattle.rep_conv.specs.Events.{events, kind_events}
use Rattle.rep_conv.specs.Live.{state, after}
use Rattle.rep_conv.specs.Meets.{in_order, is_start}
use Rattle.rep_conv.specs.Progress.{Keeps, StandsAfter}
use Rattle.rep_conv.specs.Rows.{text_rows, has_rows}
use Rattle.rep_text.specs.declared.rep.Rep.{Rep}
use Rattle.rep_text.specs.declared.conv.ConvEntry.{ConvEntry}
use Rattle.rep_conv.proofs.After.{one_after, order_is}
use Rattle.rep_conv.proofs.Pieces.{came_as, gives_more, stopped_as}
use Rattle.rep_conv.proofs.progress.Standing.take.Goals as goal

some : (rep : Rep) (rows read : List (List ℚ)) (b : Bool) → b ≡ (length read == 0) → read ≡ rows → rows ≡ text_rows rep → not b ≡ has_rows rep
some rep rows read b e f g = ap not (e ∙ ap (λ (rs : List (List ℚ)). length rs == 0) (f ∙ g))

first : (rep : Rep) (before : List ConvEntry) (e : ConvEntry) (a b : Bool) → a ≡ in_order b before e → b ≡ has_rows rep →
    ◌≡◌ {A = List Event} (test rule.Order a ∷ []) (test rule.Order (in_order (has_rows rep) before e) ∷ [])
first rep before e a b same is = ap (λ (x : Bool). test rule.Order x ∷ []) (same ∙ ap (λ (y : Bool). in_order y before e) is)

pub returns-in_err-pass : goal.returns-in_err-pass
returns-in_err-pass c before h n =
    let here : Stopped (test rule.Order (in_order (has_rows c.args.rep.now) before c.args.entry.now) ∷ []) 0 c.in_err-pass.field-0.0 =
    stopped_as _ _ _ _ (first c.args.rep.now before c.args.entry.now c.in_order.result (not c.is_empty.result) (c.in_order.ensures before n (sym h.started))
    (some c.args.rep.now c.args.self.now.rows c.as_slice.result.now c.is_empty.result c.is_empty.ensures c.as_slice.ensures.items h.holds.keeps.rows)) (c.in_err-pass.ensures 0) in
    let stopped = (stopped-in (kind_events c.args.rep.now (state c.args.rep.now before) c.args.entry.now) here).at in
    search (stopped, rules)

pub take_kind-requires : goal.take_kind-requires
take_kind-requires c =
    let before = c.requires.0 in
    let h = c.requires.1 in
    let came : Passed (test rule.Order (in_order (has_rows c.args.rep.now) before c.args.entry.now) ∷ []) 0 0 =
    came_as _ _ _ _ (first c.args.rep.now before c.args.entry.now c.in_order.result (not c.is_empty.result) (c.in_order.ensures before c.requires.2 (sym h.started))
    (some c.args.rep.now c.args.self.now.rows c.as_slice.result.now c.is_empty.result c.is_empty.ensures c.as_slice.ensures.items h.holds.keeps.rows)) (c.in_ok-pass.ensures 0).0 (c.in_ok-pass.ensures 0).1 in (
      state c.args.rep.now before,
      h.holds,
      λ k. h.started ∙ order_is (has_rows c.args.rep.now) before c.args.entry.now (test-passed 1 rule.Order (in_order (has_rows c.args.rep.now) before c.args.entry.now) came.none) k,
    )

pub returns : goal.returns
returns c before h n =
    let came : Passed (test rule.Order (in_order (has_rows c.args.rep.now) before c.args.entry.now) ∷ []) 0 0 =
    came_as _ _ _ _ (first c.args.rep.now before c.args.entry.now c.in_order.result (not c.is_empty.result) (c.in_order.ensures before n (sym h.started))
    (some c.args.rep.now c.args.self.now.rows c.as_slice.result.now c.is_empty.result c.is_empty.ensures c.as_slice.ensures.items h.holds.keeps.rows)) (c.in_ok-pass.ensures 0).0 (c.in_ok-pass.ensures 0).1 in
    let last : Ran {X = Unit {0}} (kind_events c.args.rep.now (state c.args.rep.now before) c.args.entry.now) 0 (steps (kind_events c.args.rep.now (state c.args.rep.now before) c.args.entry.now))
    (λ _. Keeps c.args.rep.now (after c.args.rep.now (state c.args.rep.now before) c.args.entry.now) c.take_kind.new.self × (c.take_kind.new.self.started ≡ (c.args.self.now.started || is_start c.args.entry.now))) c.take_kind.result =
    record {
      runs = c.take_kind.ensures (state c.args.rep.now before) h.holds
          (λ k. h.started ∙ order_is (has_rows c.args.rep.now) before c.args.entry.now (test-passed 1 rule.Order (in_order (has_rows c.args.rep.now) before c.args.entry.now) came.none) k);
    } in
    gives_more (events c.args.rep.now before c.args.entry.now) (steps (events c.args.rep.now before c.args.entry.now))
    (Keeps c.args.rep.now (after c.args.rep.now (state c.args.rep.now before) c.args.entry.now) c.take_kind.new.self × (c.take_kind.new.self.started ≡ (c.args.self.now.started || is_start c.args.entry.now)))
    (StandsAfter c.args.rep.now (before ++ c.args.entry.now ∷ []) c.take_kind.new.self) c.take_kind.result
    (whole-run (events c.args.rep.now before c.args.entry.now) (steps (kind_events c.args.rep.now (state c.args.rep.now before) c.args.entry.now))
    (λ _. Keeps c.args.rep.now (after c.args.rep.now (state c.args.rep.now before) c.args.entry.now) c.take_kind.new.self × (c.take_kind.new.self.started ≡ (c.args.self.now.started || is_start c.args.entry.now)))
    c.take_kind.result (ran-after came last).runs)
    (λ none v. one_after c.args.rep.now before c.args.entry.now c.args.self.now c.take_kind.new.self h none v.0 v.1)
