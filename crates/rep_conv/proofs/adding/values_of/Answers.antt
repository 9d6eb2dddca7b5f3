use Rattle.std.proofs.Common.{rules, sym, subst, ap, ap₂, arith, ◌∙◌, ◌≡◌, ℕ, List, [], ◌∷◌, ◌++◌, length, take}
use Rattle.std.proofs.lemmas.List.{take_all}
use Rattle.exact_field.specs.Rational.{ℚ}
use Rattle.exact_field.specs.Vector.{dot}
use Rattle.frac128.specs.Held.{is_held}
use Rattle.log_rules.specs.Events.{Event, dot_steps}
use Rattle.log_rules.specs.Runs.{Stops, steps}
use Rattle.entry_checks.proofs.Going.{Passed, Stopped, at-room, at-stop, at-more, at-end, stopped-after}
use Rattle.vlp_matrices.proofs.Lists.{map-take_more}
use Rattle.log_live.specs.declared.generator.Generator.{Generator}
use Rattle.rep_conv.specs.Adding.{values_at}
use Rattle.rep_conv.proofs.adding.values_of.Goals as goal

pub dot-requires-clause-lengths : goal.dot-requires-clause-lengths
dot-requires-clause-lengths c =
    let wide = c.requires.widths c.loop-generator.generator-index c.generator-item.result (omega arith) in
    wide ∙ ap length (sym (c.as_slice.ensures.items ∙ ap (λ (g : Generator). g.vector) c.generator-item.is))

pub dot-requires-clause-room : goal.dot-requires-clause-room
dot-requires-clause-room c =
    let most = at-room (λ (g : Generator). dot_steps c.args.row.now g.vector) c.args.generators.now c.args.counter.now.taken c.loop-generator.generator-index c.loop-generator.counter.taken c.generator-item.result (omega arith) c.generator-item.is c.loop-generator.invariant.here in
    let same = ap steps (ap (dot_steps c.args.row.now) c.as_slice.ensures.items) in
    let room = c.requires.room in
    omega (arith, most, same, room)

pub returns-in_err-value : goal.returns-in_err-value
returns-in_err-value c =
    let stopped = at-stop (λ (g : Generator). dot_steps c.args.row.now g.vector) c.args.generators.now c.args.counter.now.taken c.loop-generator.generator-index c.loop-generator.counter.taken c.generator-item.result c.in_err-value.field-0.0 (omega arith) c.generator-item.is c.loop-generator.invariant.here
    (subst (λ (es : List Event). Stops is_held es c.loop-generator.counter.taken c.in_err-value.field-0.0) (ap (dot_steps c.args.row.now) c.as_slice.ensures.items) c.in_err-value.ensures) in
    search (stopped, rules)

pub returns-in_err-append : goal.returns-in_err-append
returns-in_err-append c =
    let came : Passed (dot_steps c.args.row.now c.generator-item.result.vector) c.loop-generator.counter.taken c.dot.new.self.taken =
    subst (λ (es : List Event). Passed es c.loop-generator.counter.taken c.dot.new.self.taken) (ap (dot_steps c.args.row.now) c.as_slice.ensures.items) record { none = c.in_ok-value.ensures.0; count = c.in_ok-value.ensures.1 } in
    let here : Stopped [] c.dot.new.self.taken c.in_err-append.field-0.0 = record { at = c.in_err-append.ensures c.dot.new.self.taken } in
    let stopped = at-stop (λ (g : Generator). dot_steps c.args.row.now g.vector) c.args.generators.now c.args.counter.now.taken c.loop-generator.generator-index c.loop-generator.counter.taken c.generator-item.result c.in_err-append.field-0.0 (omega arith) c.generator-item.is c.loop-generator.invariant.here (stopped-after came here).at in
    search (stopped, rules)

pub loop-generator-preserved : goal.loop-generator-preserved
loop-generator-preserved c =
    record {
      here = at-more (λ (g : Generator). dot_steps c.args.row.now g.vector) c.args.generators.now c.args.counter.now.taken c.loop-generator.generator-index c.loop-generator.counter.taken c.dot.new.self.taken c.generator-item.result (omega arith) c.generator-item.is c.loop-generator.invariant.here
          (subst (λ (es : List Event). Passed es c.loop-generator.counter.taken c.dot.new.self.taken) (ap (dot_steps c.args.row.now) c.as_slice.ensures.items) record { none = c.in_ok-value.ensures.0; count = c.in_ok-value.ensures.1 });
      made = (c.in_ok-append.ensures 0).2 ∙ ap₂ (λ (vs : List ℚ) (z : ℚ). vs ++ z ∷ []) c.loop-generator.invariant.made (c.in_ok-value.ensures.2 ∙ ap (dot c.args.row.now) c.as_slice.ensures.items)
          ∙ sym (map-take_more (λ (g : Generator). dot c.args.row.now g.vector) c.args.generators.now c.loop-generator.generator-index c.generator-item.result (omega arith) c.generator-item.is);
    }

pub returns : goal.returns
returns c =
    let over : c.loop-generator.generator-index ≡ length c.args.generators.now = omega arith in
    let done = at-end (λ (g : Generator). dot_steps c.args.row.now g.vector) c.args.generators.now c.args.counter.now.taken c.loop-generator.generator-index c.loop-generator.counter.taken over c.loop-generator.invariant.here in
    (done.none, done.count, c.loop-generator.invariant.made ∙ ap (λ (k : ℕ). values_at c.args.row.now (take k c.args.generators.now)) over ∙ ap (values_at c.args.row.now) (take_all (length c.args.generators.now) c.args.generators.now (omega arith)))
