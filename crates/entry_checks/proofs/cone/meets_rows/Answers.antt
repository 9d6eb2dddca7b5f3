use Rattle.std.proofs.Common.{rules, [], ◌∷◌, length}
use Rattle.std.specs.Prelude.{⊤}
use Rattle.log_rules.specs.VectorEvents.{none_given, products_events}
use Rattle.upper_image.proofs.Widths.{vectors_wide}
use Rattle.entry_checks.proofs.Going.{Passed, Stopped, stopped-in, Ran, ran-after}
use Rattle.entry_checks.proofs.cone.meets_rows.Goals as goal

pub returns-in_err-has_no_multipliers : goal.returns-in_err-has_no_multipliers
returns-in_err-has_no_multipliers c =
    let here : Stopped (none_given c.args.m.now ∷ []) c.args.counter.now.taken c.in_err-has_no_multipliers.field-0.0 = record { at = c.in_err-has_no_multipliers.ensures c.args.counter.now.taken } in
    let stopped = (stopped-in (products_events c.args.rows.now c.args.e.now) here).at in
    search (stopped, rules)

pub returns : goal.returns
returns c =
    let came0 : Passed (none_given c.args.m.now ∷ []) c.args.counter.now.taken c.args.counter.now.taken = record { none = (c.in_ok-has_no_multipliers.ensures c.args.counter.now.taken).0; count = (c.in_ok-has_no_multipliers.ensures c.args.counter.now.taken).1 } in
    let last : Ran {X = Unit {0}} (products_events c.args.rows.now c.args.e.now) c.args.counter.now.taken c.has_products.new.counter.taken (λ _. ⊤) c.has_products.result = record { runs = c.has_products.ensures } in
    (ran-after came0 last).runs

pub has_products-requires-clause-widths : goal.has_products-requires-clause-widths
has_products-requires-clause-widths c = (vectors_wide (length c.args.e.now) c.args.rows.now c.requires.fits).wide
