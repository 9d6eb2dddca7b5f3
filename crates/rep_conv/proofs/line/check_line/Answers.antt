use Rattle.std.proofs.Common.{rules, ◌≡◌, ℕ, suc, ◌+◌, ◌==◌, Bool, List, [], ◌∷◌, length, All, sym, ap, ap₂, subst, arith}
use Rattle.std.specs.Prelude.{⊤}
use Rattle.std.specs.List.{flat_map}
use Rattle.std.proofs.lemmas.Bool.{eqb-true}
use Rattle.exact_field.specs.Rational.{ℚ}
use Rattle.frac128.specs.Held.{is_held}
use Rattle.log_rules.specs.AnswerEvents.{goes_on}
use Rattle.log_rules.specs.Events.{Event}
use Rattle.log_rules.specs.Events.Event.{test}
use Rattle.log_rules.specs.Runs.{Runs, steps}
use Rattle.log_rules.specs.declared.rule.Rule.TheVariants as rule
use Rattle.entry_checks.proofs.Going.{Passed, Stopped, stopped-in, Ran, ran-after, whole-run, first-passed}
use Rattle.rep_conv.specs.Events.{line_events, tight_events}
use Rattle.rep_conv.specs.Rows.{text_rows}
use Rattle.rep_conv.proofs.EntrySteps.{few_tight}
use Rattle.rep_conv.proofs.Pieces.{came_as, stopped_as}
use Rattle.rep_conv.proofs.TextRows.{text_rows_wide}
use Rattle.rep_conv.proofs.line.check_line.Goals as goal

two : (w : ℕ) (lines : List (List ℚ)) (d : List ℚ) (b : Bool) → b ≡ goes_on lines d →
    ◌≡◌ {A = List Event} (test rule.Length (length d == w + 1) ∷ test rule.Scaled b ∷ []) (test rule.Length (length d == suc w) ∷ test rule.Scaled (goes_on lines d) ∷ [])
two w lines d b e = ap₂ (λ (x y : Bool). test rule.Length x ∷ test rule.Scaled y ∷ []) (ap (λ (n : ℕ). length d == n) (one w)) e
  where
    one : (n : ℕ) → n + 1 ≡ suc n
    one n = omega arith

pub returns-in_err-pass_both : goal.returns-in_err-pass_both
returns-in_err-pass_both c =
    let here : Stopped (test rule.Length (length c.args.d.now == suc c.args.rep.now.width) ∷ test rule.Scaled (goes_on c.args.lines.now c.args.d.now) ∷ []) 0 c.in_err-pass_both.field-0.0 =
    stopped_as _ _ _ _ (two c.args.rep.now.width c.args.lines.now c.args.d.now c.goes_on.result c.goes_on.ensures) (c.in_err-pass_both.ensures 0) in
    let stopped = (stopped-in (flat_map (tight_events c.args.d.now) (text_rows c.args.rep.now)) here).at in
    search (stopped, rules)

pub are_tight-requires-clause-widths : goal.are_tight-requires-clause-widths
are_tight-requires-clause-widths c =
    let came : Passed (test rule.Length (length c.args.d.now == suc c.args.rep.now.width) ∷ test rule.Scaled (goes_on c.args.lines.now c.args.d.now) ∷ []) 0 0 =
    came_as _ _ _ _ (two c.args.rep.now.width c.args.lines.now c.args.d.now c.goes_on.result c.goes_on.ensures) (c.in_ok-pass_both.ensures 0).0 (c.in_ok-pass_both.ensures 0).1 in
    let wide : length c.args.d.now ≡ suc c.args.rep.now.width = eqb-true (length c.args.d.now) (suc c.args.rep.now.width) (first-passed 1 rule.Length (length c.args.d.now == suc c.args.rep.now.width) (test rule.Scaled (goes_on c.args.lines.now c.args.d.now) ∷ []) came.none) in
    subst (λ (rs : List (List ℚ)). All (λ (r : List ℚ). length r ≡ length c.args.d.now) rs) (sym c.requires.rows)
    (subst (λ (n : ℕ). All (λ (r : List ℚ). length r ≡ n) (text_rows c.args.rep.now)) (sym wide) (text_rows_wide c.args.rep.now).wide)

pub are_tight-requires-clause-room : goal.are_tight-requires-clause-room
are_tight-requires-clause-room c =
    let few = few_tight c.args.d.now c.args.rep.now.width (text_rows c.args.rep.now) (text_rows_wide c.args.rep.now) c.args.rep.now.few_entries in
    let same = ap (λ (rs : List (List ℚ)). steps (flat_map (tight_events c.args.d.now) rs)) c.requires.rows in
    let many = ap length c.requires.rows in
    let all = c.requires.few in
    omega (arith, few, same, many, all)

pub returns : goal.returns
returns c =
    let came : Passed (test rule.Length (length c.args.d.now == suc c.args.rep.now.width) ∷ test rule.Scaled (goes_on c.args.lines.now c.args.d.now) ∷ []) 0 0 =
    came_as _ _ _ _ (two c.args.rep.now.width c.args.lines.now c.args.d.now c.goes_on.result c.goes_on.ensures) (c.in_ok-pass_both.ensures 0).0 (c.in_ok-pass_both.ensures 0).1 in
    let last : Ran {X = Unit {0}} (flat_map (tight_events c.args.d.now) (text_rows c.args.rep.now)) 0 c.are_tight.new.counter.taken (λ _. ⊤) c.are_tight.result =
    record {
      runs = subst (λ (rs : List (List ℚ)). Runs {X = Unit {0}} is_held (flat_map (tight_events c.args.d.now) rs) 0 c.are_tight.new.counter.taken (λ _. ⊤) c.are_tight.result) c.requires.rows c.are_tight.ensures;
    } in
    whole-run (line_events c.args.rep.now c.args.lines.now c.args.d.now) c.are_tight.new.counter.taken (λ _. ⊤) c.are_tight.result (ran-after came last).runs
