use Rattle.std.proofs.Common.{rules, [], ◌∷◌, ◌++◌, length}
use Rattle.std.specs.Prelude.{⊤}
use Rattle.log_rules.specs.VectorEvents.{places_within, values_positive}
use Rattle.upper_image.proofs.Widths.{vectors_wide}
use Rattle.entry_checks.specs.Parts.{combination_events}
use Rattle.entry_checks.proofs.Going.{Passed, Stopped, stopped-in, stopped-later, Ran, ran-after, spots-within}
use Rattle.entry_checks.proofs.cone.is_generated.Goals as goal

pub returns-in_err-places_within : goal.returns-in_err-places_within
returns-in_err-places_within c =
    let here : Stopped (places_within (length c.args.generators.now) c.args.m.now ∷ []) c.args.counter.now.taken c.in_err-places_within.field-0.0 = record { at = c.in_err-places_within.ensures c.args.counter.now.taken } in
    let stopped = (stopped-in ((values_positive c.args.m.now ∷ []) ++ (combination_events c.args.generators.now c.args.e.now c.args.m.now)) here).at in
    search (stopped, rules)

pub returns-in_err-values_positive : goal.returns-in_err-values_positive
returns-in_err-values_positive c =
    let came0 : Passed (places_within (length c.args.generators.now) c.args.m.now ∷ []) c.args.counter.now.taken c.args.counter.now.taken = record { none = (c.in_ok-places_within.ensures c.args.counter.now.taken).0; count = (c.in_ok-places_within.ensures c.args.counter.now.taken).1 } in
    let here : Stopped (values_positive c.args.m.now ∷ []) c.args.counter.now.taken c.in_err-values_positive.field-0.0 = record { at = c.in_err-values_positive.ensures c.args.counter.now.taken } in
    let stopped = (stopped-later came0 (stopped-in (combination_events c.args.generators.now c.args.e.now c.args.m.now) here)).at in
    search (stopped, rules)

pub returns : goal.returns
returns c =
    let came0 : Passed (places_within (length c.args.generators.now) c.args.m.now ∷ []) c.args.counter.now.taken c.args.counter.now.taken = record { none = (c.in_ok-places_within.ensures c.args.counter.now.taken).0; count = (c.in_ok-places_within.ensures c.args.counter.now.taken).1 } in
    let came1 : Passed (values_positive c.args.m.now ∷ []) c.args.counter.now.taken c.args.counter.now.taken = record { none = (c.in_ok-values_positive.ensures c.args.counter.now.taken).0; count = (c.in_ok-values_positive.ensures c.args.counter.now.taken).1 } in
    let last : Ran {X = Unit {0}} (combination_events c.args.generators.now c.args.e.now c.args.m.now) c.args.counter.now.taken c.combines.new.counter.taken (λ _. ⊤) c.combines.result = record { runs = c.combines.ensures } in
    (ran-after came0 (ran-after came1 last)).runs

pub combines-requires-clause-widths : goal.combines-requires-clause-widths
combines-requires-clause-widths c = (vectors_wide (length c.args.e.now) c.args.generators.now c.requires.fits).wide

pub combines-requires-clause-vector : goal.combines-requires-clause-vector
combines-requires-clause-vector c = record { sparse = c.requires.sparse; places = spots-within c.args.counter.now.taken (length c.args.generators.now) c.args.m.now (c.in_ok-places_within.ensures c.args.counter.now.taken).0 }
