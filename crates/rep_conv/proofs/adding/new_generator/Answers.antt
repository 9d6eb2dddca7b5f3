use Rattle.std.proofs.Common.{rules, ◌≡◌, ◌≢◌, List, [], Contains, Some, refl, sym, ap, ap₂, subst, ◌∙◌, arith, length}
use Rattle.exact_field.specs.Rational.{ℚ, zero_ℚ, neg_ℚ, ◌/ℚ◌}
use Rattle.frac128.specs.Held.{is_held}
use Rattle.polyhedra.specs.DoubleDescription.{norming}
use Rattle.log_rules.specs.Events.{Event}
use Rattle.log_rules.specs.LiveEvents.{meeting_point}
use Rattle.rep_conv.specs.Events.{pair_of}
use Rattle.log_rules.specs.Runs.{Stops}
use Rattle.entry_checks.proofs.Going.{Passed, Stopped, stopped-after}
use Rattle.rep_conv.specs.Adding.{between_steps, quotients}
use Rattle.log_live.specs.Live.{live_of, numbered_of}
use Rattle.log_live.specs.declared.generator.Generator.{Generator}
use Rattle.log_live.proofs.PairSides.{find_plus, find_minus}
use Rattle.rep_conv.proofs.Between.{below, divides, events_are, few_steps, gen_wide, made_is, same_width, value_read}
use Rattle.rep_conv.proofs.adding.new_generator.Goals as goal

pub place_of-at_plus-requires-clause-live : goal.place_of-at_plus-requires-clause-live
place_of-at_plus-requires-clause-live c = (_, find_plus c.requires.pair.1 c.requires.pair.2 c.args.generators.now c.requires.pair.4.rises c.requires.pair.3 c.requires.pair.6 c.args.pair c.requires.pair.7)

pub place_of-at_minus-requires-clause-live : goal.place_of-at_minus-requires-clause-live
place_of-at_minus-requires-clause-live c = (_, find_minus c.requires.pair.1 c.requires.pair.2 c.args.generators.now c.requires.pair.4.rises c.requires.pair.3 c.requires.pair.6 c.args.pair c.requires.pair.7)

pub new_vector-requires-clause-widths : goal.new_vector-requires-clause-widths
new_vector-requires-clause-widths c =
    let g = c.index-generators-at_plus.result in
    let m = c.index-generators-at_minus.result in
    let x = c.index-values-at_plus.result in
    let y = c.index-values-at_minus.result in
    let g_in = c.place_of-at_plus.ensures.inside in
    let m_in = c.place_of-at_minus.ensures.inside in
    let g_is = c.place_of-at_plus.ensures.is g ∙ ap (λ (u : Generator). Some (numbered_of u)) (sym c.index-generators-at_plus.is) in
    let m_is = c.place_of-at_minus.ensures.is m ∙ ap (λ (u : Generator). Some (numbered_of u)) (sym c.index-generators-at_minus.is) in
    let x_is = value_read c.requires.pair.0 c.requires.pair.1 c.requires.pair.2 c.args.generators.now c.args.values.now c.requires.pair.4 c.requires.pair.5 c.place_of-at_plus.result g x g_in c.index-generators-at_plus.is c.index-values-at_plus.is in
    let y_is = value_read c.requires.pair.0 c.requires.pair.1 c.requires.pair.2 c.args.generators.now c.args.values.now c.requires.pair.4 c.requires.pair.5 c.place_of-at_minus.result m y m_in c.index-generators-at_minus.is c.index-values-at_minus.is in
    let gc : Contains c.args.generators.now g = (c.place_of-at_plus.result, g_in, sym c.index-generators-at_plus.is) in
    let mc : Contains c.args.generators.now m = (c.place_of-at_minus.result, m_in, sym c.index-generators-at_minus.is) in
    let both = same_width c.requires.pair.0 c.requires.pair.1 c.requires.pair.2 c.args.generators.now c.args.values.now c.requires.pair.4 c.requires.pair.5 c.requires.pair.3 c.requires.pair.6 c.args.pair c.requires.pair.7 g m gc mc g_is m_is x y x_is y_is in
    ap length c.as_slice.ensures.items ∙ both ∙ ap length (sym c.as_slice-2.ensures.items)

pub new_vector-requires-clause-below : goal.new_vector-requires-clause-below
new_vector-requires-clause-below c =
    let g = c.index-generators-at_plus.result in
    let m = c.index-generators-at_minus.result in
    let x = c.index-values-at_plus.result in
    let y = c.index-values-at_minus.result in
    let g_in = c.place_of-at_plus.ensures.inside in
    let m_in = c.place_of-at_minus.ensures.inside in
    let g_is = c.place_of-at_plus.ensures.is g ∙ ap (λ (u : Generator). Some (numbered_of u)) (sym c.index-generators-at_plus.is) in
    let m_is = c.place_of-at_minus.ensures.is m ∙ ap (λ (u : Generator). Some (numbered_of u)) (sym c.index-generators-at_minus.is) in
    let x_is = value_read c.requires.pair.0 c.requires.pair.1 c.requires.pair.2 c.args.generators.now c.args.values.now c.requires.pair.4 c.requires.pair.5 c.place_of-at_plus.result g x g_in c.index-generators-at_plus.is c.index-values-at_plus.is in
    let y_is = value_read c.requires.pair.0 c.requires.pair.1 c.requires.pair.2 c.args.generators.now c.args.values.now c.requires.pair.4 c.requires.pair.5 c.place_of-at_minus.result m y m_in c.index-generators-at_minus.is c.index-values-at_minus.is in
    let gc : Contains c.args.generators.now g = (c.place_of-at_plus.result, g_in, sym c.index-generators-at_plus.is) in
    let mc : Contains c.args.generators.now m = (c.place_of-at_minus.result, m_in, sym c.index-generators-at_minus.is) in
    below c.requires.pair.0 c.requires.pair.1 c.requires.pair.2 c.args.generators.now c.args.values.now c.requires.pair.4 c.requires.pair.5 c.requires.pair.3 c.requires.pair.6 c.args.pair c.requires.pair.7 g m gc mc g_is m_is x y x_is y_is

pub new_vector-requires-clause-not_zero : goal.new_vector-requires-clause-not_zero
new_vector-requires-clause-not_zero c =
    let g = c.index-generators-at_plus.result in
    let m = c.index-generators-at_minus.result in
    let x = c.index-values-at_plus.result in
    let y = c.index-values-at_minus.result in
    let g_in = c.place_of-at_plus.ensures.inside in
    let m_in = c.place_of-at_minus.ensures.inside in
    let g_is = c.place_of-at_plus.ensures.is g ∙ ap (λ (u : Generator). Some (numbered_of u)) (sym c.index-generators-at_plus.is) in
    let m_is = c.place_of-at_minus.ensures.is m ∙ ap (λ (u : Generator). Some (numbered_of u)) (sym c.index-generators-at_minus.is) in
    let x_is = value_read c.requires.pair.0 c.requires.pair.1 c.requires.pair.2 c.args.generators.now c.args.values.now c.requires.pair.4 c.requires.pair.5 c.place_of-at_plus.result g x g_in c.index-generators-at_plus.is c.index-values-at_plus.is in
    let y_is = value_read c.requires.pair.0 c.requires.pair.1 c.requires.pair.2 c.args.generators.now c.args.values.now c.requires.pair.4 c.requires.pair.5 c.place_of-at_minus.result m y m_in c.index-generators-at_minus.is c.index-values-at_minus.is in
    let gc : Contains c.args.generators.now g = (c.place_of-at_plus.result, g_in, sym c.index-generators-at_plus.is) in
    let mc : Contains c.args.generators.now m = (c.place_of-at_minus.result, m_in, sym c.index-generators-at_minus.is) in
    subst (λ (p : List ℚ × List ℚ). norming (meeting_point (x /ℚ neg_ℚ y) p.0 p.1) ≢ zero_ℚ) (λ i. (sym c.as_slice.ensures.items i, sym c.as_slice-2.ensures.items i))
    (divides c.requires.pair.0 c.requires.pair.1 c.requires.pair.2 c.args.generators.now c.args.values.now c.requires.pair.4 c.requires.pair.5 c.requires.pair.3 c.requires.pair.6 c.args.pair c.requires.pair.7 g m gc mc g_is m_is x y x_is y_is)

pub new_vector-requires-clause-room : goal.new_vector-requires-clause-room
new_vector-requires-clause-room c =
    let g = c.index-generators-at_plus.result in
    let m = c.index-generators-at_minus.result in
    let x = c.index-values-at_plus.result in
    let y = c.index-values-at_minus.result in
    let g_in = c.place_of-at_plus.ensures.inside in
    let m_in = c.place_of-at_minus.ensures.inside in
    let g_is = c.place_of-at_plus.ensures.is g ∙ ap (λ (u : Generator). Some (numbered_of u)) (sym c.index-generators-at_plus.is) in
    let m_is = c.place_of-at_minus.ensures.is m ∙ ap (λ (u : Generator). Some (numbered_of u)) (sym c.index-generators-at_minus.is) in
    let x_is = value_read c.requires.pair.0 c.requires.pair.1 c.requires.pair.2 c.args.generators.now c.args.values.now c.requires.pair.4 c.requires.pair.5 c.place_of-at_plus.result g x g_in c.index-generators-at_plus.is c.index-values-at_plus.is in
    let y_is = value_read c.requires.pair.0 c.requires.pair.1 c.requires.pair.2 c.args.generators.now c.args.values.now c.requires.pair.4 c.requires.pair.5 c.place_of-at_minus.result m y m_in c.index-generators-at_minus.is c.index-values-at_minus.is in
    let gc : Contains c.args.generators.now g = (c.place_of-at_plus.result, g_in, sym c.index-generators-at_plus.is) in
    let mc : Contains c.args.generators.now m = (c.place_of-at_minus.result, m_in, sym c.index-generators-at_minus.is) in
    let wide = gen_wide c.requires.pair.0 c.requires.pair.1 c.requires.pair.2 c.args.generators.now c.args.values.now c.requires.pair.4 c.requires.pair.5 g gc in
    let v = ap length c.as_slice.ensures.items in
    let few = few_steps c.requires.pair.0 x y c.as_slice.result.now c.as_slice-2.result.now (omega (arith, wide, v)) c.requires.pair.4.few in
    let room = c.requires.room in
    omega (arith, few, room)

pub returns-in_err-vector : goal.returns-in_err-vector
returns-in_err-vector c width rows row named a at_row l e =
    let g = c.index-generators-at_plus.result in
    let m = c.index-generators-at_minus.result in
    let x = c.index-values-at_plus.result in
    let y = c.index-values-at_minus.result in
    let g_in = c.place_of-at_plus.ensures.inside in
    let m_in = c.place_of-at_minus.ensures.inside in
    let g_is = c.place_of-at_plus.ensures.is g ∙ ap (λ (u : Generator). Some (numbered_of u)) (sym c.index-generators-at_plus.is) in
    let m_is = c.place_of-at_minus.ensures.is m ∙ ap (λ (u : Generator). Some (numbered_of u)) (sym c.index-generators-at_minus.is) in
    let x_is = value_read width rows row c.args.generators.now c.args.values.now a at_row c.place_of-at_plus.result g x g_in c.index-generators-at_plus.is c.index-values-at_plus.is in
    let y_is = value_read width rows row c.args.generators.now c.args.values.now a at_row c.place_of-at_minus.result m y m_in c.index-generators-at_minus.is c.index-values-at_minus.is in
    let gc : Contains c.args.generators.now g = (c.place_of-at_plus.result, g_in, sym c.index-generators-at_plus.is) in
    let mc : Contains c.args.generators.now m = (c.place_of-at_minus.result, m_in, sym c.index-generators-at_minus.is) in
    let same : between_steps x y c.as_slice.result.now c.as_slice-2.result.now ≡ pair_of row (live_of c.args.generators.now) c.args.pair =
    ap₂ (λ (u v : List ℚ). between_steps x y u v) c.as_slice.ensures.items c.as_slice-2.ensures.items ∙ sym (events_are width rows row c.args.generators.now c.args.values.now a at_row named l c.args.pair e g m gc mc g_is m_is x y x_is y_is) in
    let stopped : Stops is_held (pair_of row (live_of c.args.generators.now) c.args.pair) c.args.counter.now.taken c.in_err-vector.field-0.0 =
    subst (λ (es : List Event). Stops is_held es c.args.counter.now.taken c.in_err-vector.field-0.0) same c.in_err-vector.ensures in
    search (stopped, rules)

pub returns-in_err-tight : goal.returns-in_err-tight
returns-in_err-tight c width rows row named a at_row l e =
    let g = c.index-generators-at_plus.result in
    let m = c.index-generators-at_minus.result in
    let x = c.index-values-at_plus.result in
    let y = c.index-values-at_minus.result in
    let g_in = c.place_of-at_plus.ensures.inside in
    let m_in = c.place_of-at_minus.ensures.inside in
    let g_is = c.place_of-at_plus.ensures.is g ∙ ap (λ (u : Generator). Some (numbered_of u)) (sym c.index-generators-at_plus.is) in
    let m_is = c.place_of-at_minus.ensures.is m ∙ ap (λ (u : Generator). Some (numbered_of u)) (sym c.index-generators-at_minus.is) in
    let x_is = value_read width rows row c.args.generators.now c.args.values.now a at_row c.place_of-at_plus.result g x g_in c.index-generators-at_plus.is c.index-values-at_plus.is in
    let y_is = value_read width rows row c.args.generators.now c.args.values.now a at_row c.place_of-at_minus.result m y m_in c.index-generators-at_minus.is c.index-values-at_minus.is in
    let gc : Contains c.args.generators.now g = (c.place_of-at_plus.result, g_in, sym c.index-generators-at_plus.is) in
    let mc : Contains c.args.generators.now m = (c.place_of-at_minus.result, m_in, sym c.index-generators-at_minus.is) in
    let same : between_steps x y c.as_slice.result.now c.as_slice-2.result.now ≡ pair_of row (live_of c.args.generators.now) c.args.pair =
    ap₂ (λ (u v : List ℚ). between_steps x y u v) c.as_slice.ensures.items c.as_slice-2.ensures.items ∙ sym (events_are width rows row c.args.generators.now c.args.values.now a at_row named l c.args.pair e g m gc mc g_is m_is x y x_is y_is) in
    let came : Passed (between_steps x y c.as_slice.result.now c.as_slice-2.result.now) c.args.counter.now.taken c.new_vector.new.counter.taken =
    record { none = c.in_ok-vector.ensures.0; count = c.in_ok-vector.ensures.1 } in
    let here : Stopped [] c.new_vector.new.counter.taken c.in_err-tight.field-0.0 = record { at = c.in_err-tight.ensures c.new_vector.new.counter.taken } in
    let stopped : Stops is_held (pair_of row (live_of c.args.generators.now) c.args.pair) c.args.counter.now.taken c.in_err-tight.field-0.0 =
    subst (λ (es : List Event). Stops is_held es c.args.counter.now.taken c.in_err-tight.field-0.0) same (stopped-after came here).at in
    search (stopped, rules)

pub returns : goal.returns
returns c width rows row named a at_row l e =
    let g = c.index-generators-at_plus.result in
    let m = c.index-generators-at_minus.result in
    let x = c.index-values-at_plus.result in
    let y = c.index-values-at_minus.result in
    let g_in = c.place_of-at_plus.ensures.inside in
    let m_in = c.place_of-at_minus.ensures.inside in
    let g_is = c.place_of-at_plus.ensures.is g ∙ ap (λ (u : Generator). Some (numbered_of u)) (sym c.index-generators-at_plus.is) in
    let m_is = c.place_of-at_minus.ensures.is m ∙ ap (λ (u : Generator). Some (numbered_of u)) (sym c.index-generators-at_minus.is) in
    let x_is = value_read width rows row c.args.generators.now c.args.values.now a at_row c.place_of-at_plus.result g x g_in c.index-generators-at_plus.is c.index-values-at_plus.is in
    let y_is = value_read width rows row c.args.generators.now c.args.values.now a at_row c.place_of-at_minus.result m y m_in c.index-generators-at_minus.is c.index-values-at_minus.is in
    let gc : Contains c.args.generators.now g = (c.place_of-at_plus.result, g_in, sym c.index-generators-at_plus.is) in
    let mc : Contains c.args.generators.now m = (c.place_of-at_minus.result, m_in, sym c.index-generators-at_minus.is) in
    let same : between_steps x y c.as_slice.result.now c.as_slice-2.result.now ≡ pair_of row (live_of c.args.generators.now) c.args.pair =
    ap₂ (λ (u v : List ℚ). between_steps x y u v) c.as_slice.ensures.items c.as_slice-2.ensures.items ∙ sym (events_are width rows row c.args.generators.now c.args.values.now a at_row named l c.args.pair e g m gc mc g_is m_is x y x_is y_is) in
    let came : Passed (pair_of row (live_of c.args.generators.now) c.args.pair) c.args.counter.now.taken c.new_vector.new.counter.taken =
    subst (λ (es : List Event). Passed es c.args.counter.now.taken c.new_vector.new.counter.taken) same record { none = c.in_ok-vector.ensures.0; count = c.in_ok-vector.ensures.1 } in
    let tight = (c.in_ok-tight.ensures 0).2 in (
      came.none,
      came.count,
      made_is width rows row c.args.generators.now c.args.values.now a at_row named l c.args.pair e g m gc mc g_is m_is x y x_is y_is c.args.number _ tight.0 refl
          (c.in_ok-vector.ensures.2 ∙ ap₂ (λ (u v : List ℚ). quotients (meeting_point (x /ℚ neg_ℚ y) u v)) c.as_slice.ensures.items c.as_slice-2.ensures.items)
          tight.1 tight.2 refl,
    )
