use Rattle.std.proofs.Common.{rules, ◌≡◌, ℕ, suc, ◌+◌, ◌*◌, ◌≤◌, ◌==◌, Bool, true, ◌&&◌, List, [], ◌∷◌, length, ap, ap₂, ◌∙◌, arith}
use Rattle.std.specs.Prelude.{⊤}
use Rattle.std.specs.List.{flat_map, enumerate_from}
use Rattle.std.proofs.lemmas.Bool.{eqb-true}
use Rattle.exact_field.specs.Rational.{ℚ}
use Rattle.polyhedra.proofs.Tests.{both_true}
use Rattle.upper_image.specs.Spots.{pieces}
use Rattle.log_rules.specs.CutEvents.{rises}
use Rattle.log_rules.specs.Events.{Event}
use Rattle.log_rules.specs.Events.Event.{test}
use Rattle.log_rules.specs.declared.rule.Rule.TheVariants as rule
use Rattle.entry_checks.proofs.Going.{Passed, Stopped, stopped-in, Ran, ran-after, whole-run, first-passed}
use Rattle.rep_conv.specs.Events.{all_below, generator_events, start_events}
use Rattle.rep_conv.specs.Rows.{text_rows}
use Rattle.rep_text.specs.declared.rep.Rep.{Rep}
use Rattle.rep_conv.proofs.EntrySteps.{few_generators, second_passed}
use Rattle.rep_conv.proofs.Pieces.{came_as, stopped_as}
use Rattle.rep_conv.proofs.start.check_start.Goals as goal

abbrev fits : Rep → List (List ℚ) → List ℕ → List ℚ → Bool
fits rep lines named gens = length named + length lines == suc rep.width && length gens == length named * suc rep.width

abbrev picks : Rep → List ℕ → Bool
picks rep named = rises named && all_below (length (text_rows rep)) named

abbrev both : Rep → List (List ℚ) → List ℕ → List ℚ → List Event
both rep lines named gens = test rule.Length (fits rep lines named gens) ∷ test rule.Index (picks rep named) ∷ []

two : (rep : Rep) (rows lines : List (List ℚ)) (named : List ℕ) (gens : List ℚ) (a b : Bool) → rows ≡ text_rows rep →
    a ≡ (length named + length lines == rep.width + 1 && length gens == length named * (rep.width + 1)) → b ≡ (rises named && all_below (length rows) named) →
    ◌≡◌ {A = List Event} (test rule.Length a ∷ test rule.Index b ∷ []) (both rep lines named gens)
two rep rows lines named gens a b same e f = ap₂ (λ (x y : Bool). test rule.Length x ∷ test rule.Index y ∷ [])
    (e ∙ ap (λ (n : ℕ). length named + length lines == n && length gens == length named * n) (one rep.width))
    (f ∙ ap (λ (rs : List (List ℚ)). rises named && all_below (length rs) named) same)
  where
    one : (n : ℕ) → n + 1 ≡ suc n
    one n = omega arith

few : (rep : Rep) (lines : List (List ℚ)) (named : List ℕ) (gens : List ℚ) → fits rep lines named gens ≡ true → length named ≤ 20
few rep lines named gens h =
    let all = eqb-true (length named + length lines) (suc rep.width) (both_true (length named + length lines == suc rep.width) (length gens == length named * suc rep.width) h).0 in
    let narrow = rep.few_entries in
    omega (arith, all, narrow)

pub returns-in_err-pass_both : goal.returns-in_err-pass_both
returns-in_err-pass_both c =
    let here : Stopped (both c.args.rep.now c.args.lines.now c.args.named.now c.args.gens.now) 0 c.in_err-pass_both.field-0.0 =
    stopped_as _ _ _ _ (two c.args.rep.now c.args.rows.now c.args.lines.now c.args.named.now c.args.gens.now c.lists_fit.result c.are_picks.result c.requires.rows c.lists_fit.ensures c.are_picks.ensures) (c.in_err-pass_both.ensures 0) in
    let stopped = (stopped-in (flat_map (generator_events c.args.rep.now c.args.lines.now c.args.named.now) (enumerate_from 1 (pieces (length c.args.named.now) (suc c.args.rep.now.width) c.args.gens.now))) here).at in
    search (stopped, rules)

pub check_generators-requires-clause-named : goal.check_generators-requires-clause-named
check_generators-requires-clause-named c =
    let came : Passed (both c.args.rep.now c.args.lines.now c.args.named.now c.args.gens.now) 0 0 =
    came_as _ _ _ _ (two c.args.rep.now c.args.rows.now c.args.lines.now c.args.named.now c.args.gens.now c.lists_fit.result c.are_picks.result c.requires.rows c.lists_fit.ensures c.are_picks.ensures) (c.in_ok-pass_both.ensures 0).0 (c.in_ok-pass_both.ensures 0).1 in
    ap (λ (rs : List (List ℚ)). all_below (length rs) c.args.named.now) c.requires.rows
    ∙ (both_true (rises c.args.named.now) (all_below (length (text_rows c.args.rep.now)) c.args.named.now)
    (second_passed 1 rule.Length rule.Index (fits c.args.rep.now c.args.lines.now c.args.named.now c.args.gens.now) (picks c.args.rep.now c.args.named.now) came.none)).1

pub check_generators-requires-clause-few : goal.check_generators-requires-clause-few
check_generators-requires-clause-few c =
    let came : Passed (both c.args.rep.now c.args.lines.now c.args.named.now c.args.gens.now) 0 0 =
    came_as _ _ _ _ (two c.args.rep.now c.args.rows.now c.args.lines.now c.args.named.now c.args.gens.now c.lists_fit.result c.are_picks.result c.requires.rows c.lists_fit.ensures c.are_picks.ensures) (c.in_ok-pass_both.ensures 0).0 (c.in_ok-pass_both.ensures 0).1 in
    few c.args.rep.now c.args.lines.now c.args.named.now c.args.gens.now
    (first-passed 1 rule.Length (fits c.args.rep.now c.args.lines.now c.args.named.now c.args.gens.now) (test rule.Index (picks c.args.rep.now c.args.named.now) ∷ []) came.none)

pub check_generators-requires-clause-entries : goal.check_generators-requires-clause-entries
check_generators-requires-clause-entries c =
    let came : Passed (both c.args.rep.now c.args.lines.now c.args.named.now c.args.gens.now) 0 0 =
    came_as _ _ _ _ (two c.args.rep.now c.args.rows.now c.args.lines.now c.args.named.now c.args.gens.now c.lists_fit.result c.are_picks.result c.requires.rows c.lists_fit.ensures c.are_picks.ensures) (c.in_ok-pass_both.ensures 0).0 (c.in_ok-pass_both.ensures 0).1 in
    eqb-true (length c.args.gens.now) (length c.args.named.now * suc c.args.rep.now.width)
    (both_true (length c.args.named.now + length c.args.lines.now == suc c.args.rep.now.width) (length c.args.gens.now == length c.args.named.now * suc c.args.rep.now.width)
    (first-passed 1 rule.Length (fits c.args.rep.now c.args.lines.now c.args.named.now c.args.gens.now) (test rule.Index (picks c.args.rep.now c.args.named.now) ∷ []) came.none)).1

pub check_generators-requires-clause-room : goal.check_generators-requires-clause-room
check_generators-requires-clause-room c =
    let came : Passed (both c.args.rep.now c.args.lines.now c.args.named.now c.args.gens.now) 0 0 =
    came_as _ _ _ _ (two c.args.rep.now c.args.rows.now c.args.lines.now c.args.named.now c.args.gens.now c.lists_fit.result c.are_picks.result c.requires.rows c.lists_fit.ensures c.are_picks.ensures) (c.in_ok-pass_both.ensures 0).0 (c.in_ok-pass_both.ensures 0).1 in
    let few_named = few c.args.rep.now c.args.lines.now c.args.named.now c.args.gens.now
    (first-passed 1 rule.Length (fits c.args.rep.now c.args.lines.now c.args.named.now c.args.gens.now) (test rule.Index (picks c.args.rep.now c.args.named.now) ∷ []) came.none) in
    let most = few_generators c.args.rep.now c.args.lines.now c.args.named.now c.args.gens.now
    (both_true (rises c.args.named.now) (all_below (length (text_rows c.args.rep.now)) c.args.named.now)
    (second_passed 1 rule.Length rule.Index (fits c.args.rep.now c.args.lines.now c.args.named.now c.args.gens.now) (picks c.args.rep.now c.args.named.now) came.none)).1 few_named in
    omega (arith, most)

pub returns : goal.returns
returns c =
    let came : Passed (both c.args.rep.now c.args.lines.now c.args.named.now c.args.gens.now) 0 0 =
    came_as _ _ _ _ (two c.args.rep.now c.args.rows.now c.args.lines.now c.args.named.now c.args.gens.now c.lists_fit.result c.are_picks.result c.requires.rows c.lists_fit.ensures c.are_picks.ensures) (c.in_ok-pass_both.ensures 0).0 (c.in_ok-pass_both.ensures 0).1 in
    let last : Ran {X = Unit {0}} (flat_map (generator_events c.args.rep.now c.args.lines.now c.args.named.now) (enumerate_from 1 (pieces (length c.args.named.now) (suc c.args.rep.now.width) c.args.gens.now))) 0 c.check_generators.new.counter.taken (λ _. ⊤) c.check_generators.result =
    record { runs = c.check_generators.ensures } in
    whole-run (start_events c.args.rep.now c.args.lines.now c.args.named.now c.args.gens.now) c.check_generators.new.counter.taken (λ _. ⊤) c.check_generators.result (ran-after came last).runs
