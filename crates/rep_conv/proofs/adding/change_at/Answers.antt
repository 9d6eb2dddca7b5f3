use Rattle.std.proofs.Common.{rules, ◌≡◌, [], ◌∷◌, ◌∙◌, arith}
use Rattle.std.specs.List.{flat_map}
use Rattle.log_rules.specs.Events.{dot_steps}
use Rattle.log_rules.specs.Events.Event.{test}
use Rattle.log_rules.specs.Live.{required_pairs}
use Rattle.log_rules.specs.LiveEvents.{same_pairs}
use Rattle.log_rules.specs.declared.rule.Rule.TheVariants as rule
use Rattle.entry_checks.proofs.Going.{Passed, Stopped, passed-then, stopped-after, stopped-later, stopped-in}
use Rattle.log_live.specs.Live.{live_of}
use Rattle.log_live.specs.declared.generator.Generator.{Generator}
use Rattle.rep_conv.specs.Adding.{values_at}
use Rattle.rep_conv.specs.Events.{added_events, pair_of}
use Rattle.rep_conv.proofs.Between.{few_values, row_widths, paired, as_added, as_added_stop}
use Rattle.rep_conv.proofs.adding.change_at.Goals as goal

pub values_of-requires-clause-widths : goal.values_of-requires-clause-widths
values_of-requires-clause-widths c = row_widths c.requires.at_row.0 c.requires.at_row.1 c.args.row.now c.args.generators.now c.requires.at_row.2

pub values_of-requires-clause-room : goal.values_of-requires-clause-room
values_of-requires-clause-room c =
    let few = few_values c.requires.at_row.0 c.requires.at_row.1 c.args.row.now c.args.generators.now c.requires.at_row.2 in
    let many = c.requires.at_row.2.few_gens in
    omega (arith, few, many)

pub returns-in_err-values : goal.returns-in_err-values
returns-in_err-values c width rows a =
    let G = c.args.generators.now in
    let T = test rule.Pairs (same_pairs c.args.pairs.now (required_pairs rows (live_of G) c.args.row.now)) in
    let P = flat_map (pair_of c.args.row.now (live_of G)) c.args.pairs.now in
    let here : Stopped (flat_map (λ (g : Generator). dot_steps c.args.row.now g.vector) G) 0 c.in_err-values.field-0.0 = record { at = c.in_err-values.ensures } in
    let stopped = as_added_stop rows c.args.row.now G c.args.pairs.now c.in_err-values.field-0.0 (stopped-in (T ∷ P) here) in
    search (stopped, rules)

pub test_pairs-requires : goal.test_pairs-requires
test_pairs-requires c =
    (c.requires.at_row.0, c.requires.at_row.1, c.args.row.now, c.requires.at_row.2, c.as_slice-at_row.ensures.items ∙ c.in_ok-values.ensures.2)

pub returns-in_err-test_pairs : goal.returns-in_err-test_pairs
returns-in_err-test_pairs c width rows a =
    let G = c.args.generators.now in
    let values : c.as_slice-at_row.result.now ≡ values_at c.args.row.now G = c.as_slice-at_row.ensures.items ∙ c.in_ok-values.ensures.2 in
    let T = test rule.Pairs (same_pairs c.args.pairs.now (required_pairs rows (live_of G) c.args.row.now)) in
    let P = flat_map (pair_of c.args.row.now (live_of G)) c.args.pairs.now in
    let came : Passed (flat_map (λ (g : Generator). dot_steps c.args.row.now g.vector) G) 0 c.values_of.new.counter.taken = record { none = c.in_ok-values.ensures.0; count = c.in_ok-values.ensures.1 } in
    let here : Stopped (T ∷ []) c.values_of.new.counter.taken c.in_err-test_pairs.field-0.0 =
    record { at = c.in_err-test_pairs.ensures width rows c.args.row.now c.values_of.new.counter.taken a values } in
    let stopped = as_added_stop rows c.args.row.now G c.args.pairs.now c.in_err-test_pairs.field-0.0 (stopped-later came (stopped-in P here)) in
    search (stopped, rules)

pub new_generators-requires-clause-pairs : goal.new_generators-requires-clause-pairs
new_generators-requires-clause-pairs c =
    let G = c.args.generators.now in
    let values : c.as_slice-at_row.result.now ≡ values_at c.args.row.now G = c.as_slice-at_row.ensures.items ∙ c.in_ok-values.ensures.2 in
    let fine = c.in_ok-test_pairs.ensures c.requires.at_row.0 c.requires.at_row.1 c.args.row.now c.values_of.new.counter.taken c.requires.at_row.2 values in
    (c.requires.at_row.0, c.requires.at_row.1, c.args.row.now, c.requires.at_row.2, values, paired c.requires.at_row.1 c.args.row.now G c.args.pairs.now c.values_of.new.counter.taken fine.0)

pub new_generators-requires-clause-room : goal.new_generators-requires-clause-room
new_generators-requires-clause-room c =
    let few = few_values c.requires.at_row.0 c.requires.at_row.1 c.args.row.now c.args.generators.now c.requires.at_row.2 in
    let many = c.requires.at_row.2.few_gens in
    let count = c.in_ok-values.ensures.1 in
    omega (arith, few, many, count)

pub returns-in_err-made : goal.returns-in_err-made
returns-in_err-made c width rows a =
    let G = c.args.generators.now in
    let values : c.as_slice-at_row.result.now ≡ values_at c.args.row.now G = c.as_slice-at_row.ensures.items ∙ c.in_ok-values.ensures.2 in
    let came : Passed (flat_map (λ (g : Generator). dot_steps c.args.row.now g.vector) G) 0 c.values_of.new.counter.taken = record { none = c.in_ok-values.ensures.0; count = c.in_ok-values.ensures.1 } in
    let fine = c.in_ok-test_pairs.ensures width rows c.args.row.now c.values_of.new.counter.taken a values in
    let tested : Passed (test rule.Pairs (same_pairs c.args.pairs.now (required_pairs rows (live_of G) c.args.row.now)) ∷ []) c.values_of.new.counter.taken c.values_of.new.counter.taken =
    record { none = fine.0; count = fine.1 } in
    let here : Stopped (flat_map (pair_of c.args.row.now (live_of G)) c.args.pairs.now) c.values_of.new.counter.taken c.in_err-made.field-0.0 =
    record { at = c.in_err-made.ensures width rows c.args.row.now a values (paired rows c.args.row.now G c.args.pairs.now c.values_of.new.counter.taken fine.0) } in
    let stopped = as_added_stop rows c.args.row.now G c.args.pairs.now c.in_err-made.field-0.0 (stopped-later came (stopped-later tested here)) in
    search (stopped, rules)

pub returns-in_err-after : goal.returns-in_err-after
returns-in_err-after c width rows a =
    let G = c.args.generators.now in
    let values : c.as_slice-at_row.result.now ≡ values_at c.args.row.now G = c.as_slice-at_row.ensures.items ∙ c.in_ok-values.ensures.2 in
    let came : Passed (flat_map (λ (g : Generator). dot_steps c.args.row.now g.vector) G) 0 c.values_of.new.counter.taken = record { none = c.in_ok-values.ensures.0; count = c.in_ok-values.ensures.1 } in
    let fine = c.in_ok-test_pairs.ensures width rows c.args.row.now c.values_of.new.counter.taken a values in
    let tested : Passed (test rule.Pairs (same_pairs c.args.pairs.now (required_pairs rows (live_of G) c.args.row.now)) ∷ []) c.values_of.new.counter.taken c.values_of.new.counter.taken =
    record { none = fine.0; count = fine.1 } in
    let made = c.in_ok-made.ensures width rows c.args.row.now a values (paired rows c.args.row.now G c.args.pairs.now c.values_of.new.counter.taken fine.0) in
    let through : Passed (flat_map (pair_of c.args.row.now (live_of G)) c.args.pairs.now) c.values_of.new.counter.taken c.new_generators.new.counter.taken = record { none = made.0; count = made.1 } in
    let none : Stopped [] c.new_generators.new.counter.taken c.in_err-after.field-0.0 = record { at = c.in_err-after.ensures.runs c.new_generators.new.counter.taken } in
    let stopped = as_added_stop rows c.args.row.now G c.args.pairs.now c.in_err-after.field-0.0 (stopped-after (passed-then came (passed-then tested through)) none) in
    search (stopped, rules)

pub returns : goal.returns
returns c width rows a =
    let G = c.args.generators.now in
    let values : c.as_slice-at_row.result.now ≡ values_at c.args.row.now G = c.as_slice-at_row.ensures.items ∙ c.in_ok-values.ensures.2 in
    let came : Passed (flat_map (λ (g : Generator). dot_steps c.args.row.now g.vector) G) 0 c.values_of.new.counter.taken = record { none = c.in_ok-values.ensures.0; count = c.in_ok-values.ensures.1 } in
    let fine = c.in_ok-test_pairs.ensures width rows c.args.row.now c.values_of.new.counter.taken a values in
    let tested : Passed (test rule.Pairs (same_pairs c.args.pairs.now (required_pairs rows (live_of G) c.args.row.now)) ∷ []) c.values_of.new.counter.taken c.values_of.new.counter.taken =
    record { none = fine.0; count = fine.1 } in
    let asked = paired rows c.args.row.now G c.args.pairs.now c.values_of.new.counter.taken fine.0 in
    let made = c.in_ok-made.ensures width rows c.args.row.now a values asked in
    let through : Passed (flat_map (pair_of c.args.row.now (live_of G)) c.args.pairs.now) c.values_of.new.counter.taken c.new_generators.new.counter.taken = record { none = made.0; count = made.1 } in
    let whole : Passed (added_events rows (live_of G) c.args.row.now c.args.pairs.now) 0 c.new_generators.new.counter.taken = as_added rows c.args.row.now G c.args.pairs.now _ (passed-then came (passed-then tested through)) in (
      whole.none,
      omega arith,
      record { values = c.in_ok-values.ensures.2; made = made.2; paired = asked; next_is = (c.in_ok-after.ensures.runs 0).2 },
    )
