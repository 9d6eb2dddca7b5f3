use Rattle.std.proofs.Common.{rules, sym, ap, ap₂, arith, ◌∙◌, ◌≡◌, ℕ, List, [], ◌∷◌, ◌++◌, length, map, zip}
use Rattle.exact_field.specs.Rational.{ℚ, ◌+ℚ◌, ◌*ℚ◌}
use Rattle.entry_checks.proofs.Going.{Passed, Stopped, at-room, at-stop, at-more, at-end}
use Rattle.std.proofs.Common.{take}
use Rattle.log_live.specs.Adding.{entry_events}
use Rattle.entry_checks.proofs.Going.{stopped-after}
use Rattle.vlp_matrices.proofs.Lists.{zip-at, length-zip}
use Rattle.vlp_matrices.proofs.Lists.{map-take_more}
use Rattle.std.proofs.lemmas.List.{take_all}
use Rattle.log_live.proofs.made.point_between.Goals as goal

pub meeting_entry-requires : goal.meeting_entry-requires
meeting_entry-requires c =
    let pairs = length-zip c.args.plus.now c.args.minus.now c.requires.lengths in
    let most = at-room (λ e. entry_events c.args.k e.0 e.1) (zip c.args.plus.now c.args.minus.now) c.args.counter.now.taken c.loop-i.i c.loop-i.counter.taken (c.index-plus-i.result, c.index-minus-i.result) (omega (arith, pairs)) (zip-at c.loop-i.i c.args.plus.now c.args.minus.now c.index-plus-i.result c.index-minus-i.result (omega arith) c.requires.lengths c.index-plus-i.is c.index-minus-i.is) c.loop-i.invariant.here in
    let room = c.requires.room in
    omega (arith, most, room)

pub returns-in_err-entry : goal.returns-in_err-entry
returns-in_err-entry c =
    let pairs = length-zip c.args.plus.now c.args.minus.now c.requires.lengths in
    let stopped = at-stop (λ e. entry_events c.args.k e.0 e.1) (zip c.args.plus.now c.args.minus.now) c.args.counter.now.taken c.loop-i.i c.loop-i.counter.taken (c.index-plus-i.result, c.index-minus-i.result) c.in_err-entry.field-0.0 (omega (arith, pairs)) (zip-at c.loop-i.i c.args.plus.now c.args.minus.now c.index-plus-i.result c.index-minus-i.result (omega arith) c.requires.lengths c.index-plus-i.is c.index-minus-i.is) c.loop-i.invariant.here c.in_err-entry.ensures in
    search (stopped, rules)

pub returns-in_err-append : goal.returns-in_err-append
returns-in_err-append c =
    let pairs = length-zip c.args.plus.now c.args.minus.now c.requires.lengths in
    let came : Passed (entry_events c.args.k c.index-plus-i.result c.index-minus-i.result) c.loop-i.counter.taken c.meeting_entry.new.counter.taken = record { none = c.in_ok-entry.ensures.0; count = c.in_ok-entry.ensures.1 } in
    let here : Stopped [] c.meeting_entry.new.counter.taken c.in_err-append.field-0.0 = record { at = c.in_err-append.ensures c.meeting_entry.new.counter.taken } in
    let stopped = at-stop (λ e. entry_events c.args.k e.0 e.1) (zip c.args.plus.now c.args.minus.now) c.args.counter.now.taken c.loop-i.i c.loop-i.counter.taken (c.index-plus-i.result, c.index-minus-i.result) c.in_err-append.field-0.0 (omega (arith, pairs)) (zip-at c.loop-i.i c.args.plus.now c.args.minus.now c.index-plus-i.result c.index-minus-i.result (omega arith) c.requires.lengths c.index-plus-i.is c.index-minus-i.is) c.loop-i.invariant.here (stopped-after came here).at in
    search (stopped, rules)

pub loop-i-preserved : goal.loop-i-preserved
loop-i-preserved c =
    let pairs = length-zip c.args.plus.now c.args.minus.now c.requires.lengths in
    record {
      here = at-more (λ e. entry_events c.args.k e.0 e.1) (zip c.args.plus.now c.args.minus.now) c.args.counter.now.taken c.loop-i.i c.loop-i.counter.taken c.meeting_entry.new.counter.taken (c.index-plus-i.result, c.index-minus-i.result) (omega (arith, pairs)) (zip-at c.loop-i.i c.args.plus.now c.args.minus.now c.index-plus-i.result c.index-minus-i.result (omega arith) c.requires.lengths c.index-plus-i.is c.index-minus-i.is) c.loop-i.invariant.here record { none = c.in_ok-entry.ensures.0; count = c.in_ok-entry.ensures.1 };
      made = (c.in_ok-append.ensures 0).2 ∙ ap₂ (λ (vs : List ℚ) (z : ℚ). vs ++ z ∷ []) c.loop-i.invariant.made c.in_ok-entry.ensures.2
          ∙ sym (map-take_more (λ e. e.0 +ℚ c.args.k *ℚ e.1) (zip c.args.plus.now c.args.minus.now) c.loop-i.i (c.index-plus-i.result, c.index-minus-i.result) (omega (arith, pairs)) (zip-at c.loop-i.i c.args.plus.now c.args.minus.now c.index-plus-i.result c.index-minus-i.result (omega arith) c.requires.lengths c.index-plus-i.is c.index-minus-i.is));
    }

pub returns : goal.returns
returns c =
    let pairs = length-zip c.args.plus.now c.args.minus.now c.requires.lengths in
    let over : c.loop-i.i ≡ length (zip c.args.plus.now c.args.minus.now) = omega (arith, pairs) in
    let done = at-end (λ e. entry_events c.args.k e.0 e.1) (zip c.args.plus.now c.args.minus.now) c.args.counter.now.taken c.loop-i.i c.loop-i.counter.taken over c.loop-i.invariant.here in
    (done.none, done.count, c.loop-i.invariant.made ∙ ap (λ (k : ℕ). map (λ e. e.0 +ℚ c.args.k *ℚ e.1) (take k (zip c.args.plus.now c.args.minus.now))) over ∙ ap (map (λ e. e.0 +ℚ c.args.k *ℚ e.1)) (take_all (length (zip c.args.plus.now c.args.minus.now)) (zip c.args.plus.now c.args.minus.now) (omega arith)))
