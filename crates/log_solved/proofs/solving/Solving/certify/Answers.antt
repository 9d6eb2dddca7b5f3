use Rattle.std.proofs.Common.{sym, subst, false, ◌∙◌, ap, length, take, List, ◌≡◌, arith, rules}
use Rattle.exact_field.specs.Rational.{ℚ}
use Rattle.frac128.specs.Held.{is_held}
use Rattle.frac128.specs.Sparse.{IsSparse}
use Rattle.log_rules.specs.AnswerEvents.{is_open, y_at}
use Rattle.log_rules.specs.Events.{first_failure}
use Rattle.log_rules.specs.Live.{state}
use Rattle.log_rules.specs.declared.rule.Rule.TheVariants as rule
use Rattle.log_live.specs.Live.{IsOpenAt}
use Rattle.log_solved.specs.Shown.{kind_of, preimage_events, shown_events, t_of}
use Rattle.log_solved.proofs.Given.{y_told, opened, stops_as, ends}
use Rattle.log_solved.proofs.GenKinds.{given_by, started}
use Rattle.log_solved.proofs.Tested.{stands_for, y_wide, y_room, fails_test}
use Rattle.log_solved.proofs.solving.Solving.certify.Goals as goal

pub place_open-requires : goal.place_open-requires
place_open-requires c =
    let r = c.requires.standing in
    let file = c.args.problem.now in
    record { standing = (file, state file.objs r.0, stands_for file r.0 (kind_of c.args.kind) c.args.self.now r.1 (started c.args.kind r.0 r.1.order)) }

pub index-requires : goal.index-requires
index-requires c =
    let r = c.requires.standing in
    let file = c.args.problem.now in
    let held = stands_for file r.0 (kind_of c.args.kind) c.args.self.now r.1 (started c.args.kind r.0 r.1.order) in
    let inside = (c.in-Some.ensures.some file (state file.objs r.0) r.0 held r.1.solving.preimages).inside in
    omega (arith, inside)

pub slice_bounds-y-end : goal.slice_bounds-y-end
slice_bounds-y-end c =
    let r = c.requires.standing in
    let file = c.args.problem.now in
    let held = stands_for file r.0 (kind_of c.args.kind) c.args.self.now r.1 (started c.args.kind r.0 r.1.order) in
    let here = subst (λ (t : ℚ). IsOpenAt file.objs r.0 (state file.objs r.0) c.args.number t c.args.self.now.live c.in-Some.place) c.t_of.ensures (c.in-Some.ensures.some file (state file.objs r.0) r.0 held r.1.solving.preimages) in
    let room = y_room file (state file.objs r.0) c.args.self.now.live held c.in-Some.place c.index.result.now here.inside c.index.ensures in
    let same = ap (λ (v : List ℚ). length v) c.as_slice-vector.ensures.items in
    let wide = ap (λ (v : List ℚ). length (take file.objs v)) c.as_slice-vector.ensures.items
    ∙ y_wide file (state file.objs r.0) c.args.self.now.live held c.in-Some.place c.index.result.now here.inside c.index.ensures in
    omega (arith, room, same, wide)

pub test_preimage-requires-clause-entries : goal.test_preimage-requires-clause-entries
test_preimage-requires-clause-entries c =
    let r = c.requires.standing in
    let file = c.args.problem.now in
    let held = stands_for file r.0 (kind_of c.args.kind) c.args.self.now r.1 (started c.args.kind r.0 r.1.order) in
    let here = subst (λ (t : ℚ). IsOpenAt file.objs r.0 (state file.objs r.0) c.args.number t c.args.self.now.live c.in-Some.place) c.t_of.ensures (c.in-Some.ensures.some file (state file.objs r.0) r.0 held r.1.solving.preimages) in
    ap (λ (v : List ℚ). length (take file.objs v)) c.as_slice-vector.ensures.items
    ∙ y_wide file (state file.objs r.0) c.args.self.now.live held c.in-Some.place c.index.result.now here.inside c.index.ensures

pub test_preimage-requires-clause-preimage : goal.test_preimage-requires-clause-preimage
test_preimage-requires-clause-preimage c = subst IsSparse (sym c.as_slice-places.ensures.items) c.requires.preimage

pub give-requires : goal.give-requires
give-requires c =
    let r = c.requires.standing in
    let file = c.args.problem.now in
    let held = stands_for file r.0 (kind_of c.args.kind) c.args.self.now r.1 (started c.args.kind r.0 r.1.order) in
    (c.in-Some.ensures.some file (state file.objs r.0) r.0 held r.1.solving.preimages).inside

pub returns-in_err-test_preimage-in-Some : goal.returns-in_err-test_preimage-in-Some
returns-in_err-test_preimage-in-Some c = λ before stands.
    let file = c.args.problem.now in
    let s = state file.objs before in
    let held = stands_for file before (kind_of c.args.kind) c.args.self.now stands (started c.args.kind before stands.order) in
    let here = subst (λ (t : ℚ). IsOpenAt file.objs before s c.args.number t c.args.self.now.live c.in-Some.place) c.t_of.ensures (c.in-Some.ensures.some file s before held stands.solving.preimages) in
    let v = c.as_slice-vector.result.now in
    let same = y_told file.objs before s c.args.number (t_of c.args.kind) c.args.self.now.live c.in-Some.place c.index.result.now v here c.index.ensures c.as_slice-vector.ensures.items in
    let stopped = stops_as (preimage_events c.args.kind file before s c.args.number c.args.x.now c.args.m.now) (shown_events c.args.kind file (take file.objs v) c.as_slice-places.result.now c.args.m.now) c.in_err-test_preimage-in-Some.field-0.0
    (opened (λ y. shown_events c.args.kind file y c.args.x.now c.args.m.now) (is_open file.objs before s.list.live c.args.number (t_of c.args.kind)) (y_at file.objs s.list.live c.args.number) (take file.objs v) here.is_open same
    ∙ ap (λ x. first_failure is_held 1 (shown_events c.args.kind file (take file.objs v) x c.args.m.now)) (sym c.as_slice-places.ensures.items))
    c.in_err-test_preimage-in-Some.ensures in
    search (stopped, rules)

pub returns-in_ok-test_preimage-in-Some : goal.returns-in_ok-test_preimage-in-Some
returns-in_ok-test_preimage-in-Some c = λ before stands.
    let file = c.args.problem.now in
    let s = state file.objs before in
    let held = stands_for file before (kind_of c.args.kind) c.args.self.now stands (started c.args.kind before stands.order) in
    let here = subst (λ (t : ℚ). IsOpenAt file.objs before s c.args.number t c.args.self.now.live c.in-Some.place) c.t_of.ensures (c.in-Some.ensures.some file s before held stands.solving.preimages) in
    let v = c.as_slice-vector.result.now in
    let same = y_told file.objs before s c.args.number (t_of c.args.kind) c.args.self.now.live c.in-Some.place c.index.result.now v here c.index.ensures c.as_slice-vector.ensures.items in
    ends _ (preimage_events c.args.kind file before s c.args.number c.args.x.now c.args.m.now) c.give.result
    (opened (λ y. shown_events c.args.kind file y c.args.x.now c.args.m.now) (is_open file.objs before s.list.live c.args.number (t_of c.args.kind)) (y_at file.objs s.list.live c.args.number) (take file.objs v) here.is_open same
    ∙ ap (λ x. first_failure is_held 1 (shown_events c.args.kind file (take file.objs v) x c.args.m.now)) (sym c.as_slice-places.ensures.items)
    ∙ c.in_ok-test_preimage-in-Some.ensures.0)
    (given_by c.args.kind file before c.args.number c.args.x.now c.args.m.now c.args.self.now c.give.new.self c.in-Some.place c.give.result
    (c.give.ensures.point file before c.args.number c.args.m.now) (c.give.ensures.ray file before c.args.number c.args.m.now) stands here) c.give.ensures.memory

pub returns-in-None : goal.returns-in-None
returns-in-None c = λ before stands.
    let file = c.args.problem.now in
    let s = state file.objs before in
    let held = stands_for file before (kind_of c.args.kind) c.args.self.now stands (started c.args.kind before stands.order) in
    fails_test rule.Index (is_open file.objs before s.list.live c.args.number (t_of c.args.kind)) (shown_events c.args.kind file (y_at file.objs s.list.live c.args.number) c.args.x.now c.args.m.now)
    (subst (λ (t : ℚ). is_open file.objs before s.list.live c.args.number t ≡ false) c.t_of.ensures (c.in-None.ensures.none file s before held stands.solving.preimages))
