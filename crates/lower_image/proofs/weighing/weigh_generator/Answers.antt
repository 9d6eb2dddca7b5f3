use Rattle.std.proofs.Common.{◌≢◌, List, map, length, ap, sym, ◌∙◌, subst, rules, arith, true, false, true≢false, refl}
use Rattle.std.specs.Prelude.{Some}
use Rattle.std.proofs.lemmas.List.{length-map}
use Rattle.exact_field.specs.Rational.{ℚ}
use Rattle.exact_field.specs.Vector.{dot, entry}
use Rattle.exact_field.proofs.Comparison.{same_ℚ-is}
use Rattle.vlp_problem.specs.Sides.{side_bounds}
use Rattle.lp_form.specs.Programs.{u_of}
use Rattle.lp_form.proofs.Figures.{objective_number}
use Rattle.upper_image.specs.OrderingCone.{IsInDualCone}
use Rattle.overflows.specs.Base.{IsBaseRow, IsBaseWeight, weight_of}
use Rattle.overflows.specs.Products.{IsBaseX}
use Rattle.overflows.specs.Turns.{IsRowTurn}
use Rattle.outer_approx.specs.Task.{setting}
use Rattle.lower_image.proofs.WeightEnds.{weight_cut}
use Rattle.lower_image.proofs.Weights.{bound_entry, c_wide, certifies, choice, choice_turns, empty_said, long_enough, optimum_said, ray, ray_turns, told, wide}
use Rattle.lower_image.proofs.weighing.weigh_generator.Goals as goal

pub weight_end-requires-clause-c : goal.weight_end-requires-clause-c
weight_end-requires-clause-c g c =
    let value = g.F.Field.value in
    sym (length-map c.args.c.now value) ∙ ap length c.requires.1.1.0 ∙ c_wide g.task g.F.Field.holds c.requires.1.1.1.0
    ∙ sym (objective_number value g.task.file c.args.form.now c.requires.1.0)

pub weight_end-requires-clause-w : goal.weight_end-requires-clause-w
weight_end-requires-clause-w g c =
    let value = g.F.Field.value in
    let G = map value c.args.generator.now in
    ap length c.as_slice.ensures.items ∙ sym (length-map c.in_ok-w.w value) ∙ ap length c.in_ok-w.ensures.ok
    ∙ (told g.task g.F.Field.holds c.requires.1.1.1.0 c.requires.1.1.1.1.1.0 G c.requires.1.1.1.1.1.1).wide
    ∙ sym (objective_number value g.task.file c.args.form.now c.requires.1.0)

pub returns-in_err-dual-clause-left : goal.returns-in_err-dual-clause-left
returns-in_err-dual-clause-left g c = λ trail.
    let value = g.F.Field.value in
    let task = g.task in
    let G = map value c.args.generator.now in
    let w_is = ap (map value) c.as_slice.ensures.items ∙ c.in_ok-w.ensures.ok in
    let base = (told task g.F.Field.holds c.requires.1.1.1.0 c.requires.1.1.1.1.1.0 G c.requires.1.1.1.1.1.1).base in
    let h = c.in_err-dual.ensures.left (setting task trail) c.requires.1.0 (ap Some (sym c.requires.1.1.0))
    (subst (λ (k : List ℚ). IsBaseWeight task.file k (map value c.as_slice.result.now)) (sym c.requires.1.1.0)
    (subst (IsBaseWeight task.file task.c) (sym w_is) base)) in
    search (rules, h)

pub row_of-requires : goal.row_of-requires
row_of-requires g c κs within =
    let value = g.F.Field.value in
    let task = g.task in
    let G = map value c.args.generator.now in
    let w_is = ap (map value) c.as_slice.ensures.items ∙ c.in_ok-w.ensures.ok in
    let y = map value c.as_slice-in-Empty.result.now in
    let e = empty_said value task.file (map value c.as_slice.result.now) (weight_of task.c G) c.in_ok-dual.field-0 w_is (c.in_ok-dual.ensures.ok task.file c.requires.1.0)
    c.in-Empty.dual c.in-Empty.basis y c.in-Empty.is (ap (map value) c.as_slice-in-Empty.ensures.items) in
    let r = ray task g.F.Field.holds c.requires.1.1.1.0 c.requires.1.1.1.1.1.0 G c.requires.1.1.1.1.1.1 c.in-Empty.basis y e in
    let turns = ray_turns task g.F.Field.holds c.requires.1.1.1.0 c.requires.1.1.1.1.1.0 G c.requires.1.1.1.1.1.1 c.in-Empty.basis y e in
    let enough = long_enough task.file.cols y r.recedes.width in
    let long = length-map c.as_slice-in-Empty.result.now value in
    let cols = c.requires.1.0.cols in
    (within, (c.requires.1.0, (c.requires.1.1.0, (c.requires.1.1.1.0, (omega (arith, enough, long, cols), ((λ trail. IsBaseX.ray r), turns.1))))))

pub returns-in-Empty-clause-ok : goal.returns-in-Empty-clause-ok
returns-in-Empty-clause-ok g c = λ rows live.
    let value = g.F.Field.value in
    let task = g.task in
    let G = map value c.args.generator.now in
    let w_is = ap (map value) c.as_slice.ensures.items ∙ c.in_ok-w.ensures.ok in
    let y = map value c.as_slice-in-Empty.result.now in
    let e = empty_said value task.file (map value c.as_slice.result.now) (weight_of task.c G) c.in_ok-dual.field-0 w_is (c.in_ok-dual.ensures.ok task.file c.requires.1.0)
    c.in-Empty.dual c.in-Empty.basis y c.in-Empty.is (ap (map value) c.as_slice-in-Empty.ensures.items) in
    let turns = ray_turns task g.F.Field.holds c.requires.1.1.1.0 rows G live c.in-Empty.basis y e in
    let said = sym c.in_ok-row-in-Empty.ensures.ok in
    (subst (IsBaseRow task.file task.c) said turns.1, subst (IsRowTurn task.file task.c rows) said turns.0)

pub weight_cut_of-requires-clause-w : goal.weight_cut_of-requires-clause-w
weight_cut_of-requires-clause-w g c =
    let value = g.F.Field.value in
    let G = map value c.args.generator.now in
    ap length c.as_slice-in-Optimal.ensures.items ∙ sym (length-map c.in_ok-w.w value) ∙ ap length c.in_ok-w.ensures.ok
    ∙ (told g.task g.F.Field.holds c.requires.1.1.1.0 c.requires.1.1.1.1.1.0 G c.requires.1.1.1.1.1.1).wide
    ∙ sym (objective_number value g.task.file c.args.form.now c.requires.1.0)

pub weight_cut_of-requires-clause-optimum : goal.weight_cut_of-requires-clause-optimum
weight_cut_of-requires-clause-optimum g c = λ file stands.
    let value = g.F.Field.value in
    let a = c.in-Optimal in (
      a.basis,
      map value a.dual,
      optimum_said value file (map value c.as_slice.result.now) (map value c.as_slice-in-Optimal.result.now) c.in_ok-dual.field-0
          (ap (map value) (c.as_slice.ensures.items ∙ sym c.as_slice-in-Optimal.ensures.items)) (c.in_ok-dual.ensures.ok file stands)
          a.z a.dual a.basis (map value c.as_slice-in-Optimal-2.result.now) (map value a.dual) a.is (ap (map value) c.as_slice-in-Optimal-2.ensures.items) refl,
    )

pub returns-in_err-cut-in-Optimal-clause-left : goal.returns-in_err-cut-in-Optimal-clause-left
returns-in_err-cut-in-Optimal-clause-left g c = λ trail.
    let value = g.F.Field.value in
    let task = g.task in
    let G = map value c.args.generator.now in
    let w_is = ap (map value) c.as_slice-in-Optimal.ensures.items ∙ c.in_ok-w.ensures.ok in
    let base = (told task g.F.Field.holds c.requires.1.1.1.0 c.requires.1.1.1.1.1.0 G c.requires.1.1.1.1.1.1).base in
    let h = c.in_err-cut-in-Optimal.ensures.left (setting task trail) task.c c.requires.1.0 refl
    (subst (IsBaseWeight task.file task.c) (sym w_is) base) in
    search (rules, h)

pub returns-then-eq-clause-ok : goal.returns-then-eq-clause-ok
returns-then-eq-clause-ok g c = λ rows live.
    let value = g.F.Field.value in
    let task = g.task in
    let gen = c.args.generator.now in
    let G = map value gen in
    let w = c.as_slice-in-Optimal.result.now in
    let cut = c.in_ok-cut-in-Optimal.cut in
    let a = c.in-Optimal in
    let x = map value c.as_slice-in-Optimal-2.result.now in
    let w_is = ap (map value) c.as_slice-in-Optimal.ensures.items ∙ c.in_ok-w.ensures.ok in
    let start_is = ap (map value) c.as_slice.ensures.items ∙ c.in_ok-w.ensures.ok in
    let t = told task g.F.Field.holds c.requires.1.1.1.0 rows G live in
    let of = c.in_ok-cut-in-Optimal.ensures.ok task.file task.c c.requires.1.0 (subst (IsBaseWeight task.file task.c) (sym w_is) t.base)
    (subst (IsInDualCone task.file) (sym w_is) t.in_dual) (ap (λ (v : List ℚ). dot v task.c) w_is ∙ t.normed) in
    let equal = (same_ℚ-is (value cut.gamma) (value c.index-generator-generator.result)).0
    (sym (g.met.F.Field.same cut.gamma c.index-generator-generator.result) ∙ sym c.eq.ensures ∙ c.if-eq.true) in
    let o = optimum_said value task.file (map value c.as_slice.result.now) (weight_of task.c G) c.in_ok-dual.field-0 start_is (c.in_ok-dual.ensures.ok task.file c.requires.1.0)
    a.z a.dual a.basis x (map value a.dual) a.is (ap (map value) c.as_slice-in-Optimal-2.ensures.items) refl in
    certifies value task G cut x of t.wide (c.in_ok-cut-in-Optimal.ensures.same task.file c.requires.1.0 ∙ w_is)
    (equal ∙ bound_entry value gen c.index-generator-generator.result task.file.objs task.file.some_objective (wide task g.F.Field.holds c.requires.1.1.1.0 rows G live) c.index-generator-generator.is)
    (weight_cut.valid task.file task.c (weight_of task.c G) x (map value a.dual) t.wide t.normed t.in_dual o.optimal)

pub row_of-requires-in-Optimal : goal.row_of-requires-in-Optimal
row_of-requires-in-Optimal g c κs within =
    let value = g.F.Field.value in
    let task = g.task in
    let gen = c.args.generator.now in
    let G = map value gen in
    let rows = c.requires.1.1.1.1.1.0 in
    let live = c.requires.1.1.1.1.1.1 in
    let a = c.in-Optimal in
    let cut = c.in_ok-cut-in-Optimal.cut in
    let x = map value c.as_slice-in-Optimal-2.result.now in
    let y = map value c.as_slice-in-Optimal-3.result.now in
    let w_is = ap (map value) c.as_slice-in-Optimal.ensures.items ∙ c.in_ok-w.ensures.ok in
    let start_is = ap (map value) c.as_slice.ensures.items ∙ c.in_ok-w.ensures.ok in
    let t = told task g.F.Field.holds c.requires.1.1.1.0 rows G live in
    let of = c.in_ok-cut-in-Optimal.ensures.ok task.file task.c c.requires.1.0 (subst (IsBaseWeight task.file task.c) (sym w_is) t.base)
    (subst (IsInDualCone task.file) (sym w_is) t.in_dual) (ap (λ (v : List ℚ). dot v task.c) w_is ∙ t.normed) in
    let o = optimum_said value task.file (map value c.as_slice.result.now) (weight_of task.c G) c.in_ok-dual.field-0 start_is (c.in_ok-dual.ensures.ok task.file c.requires.1.0)
    a.z a.dual a.basis x y a.is (ap (map value) c.as_slice-in-Optimal-2.ensures.items) (ap (map value) c.as_slice-in-Optimal-3.ensures.items) in
    let at_bound = bound_entry value gen c.index-generator-generator.result task.file.objs task.file.some_objective (wide task g.F.Field.holds c.requires.1.1.1.0 rows G live) c.index-generator-generator.is in
    let other : dot (side_bounds task.file) (u_of task.file x) ≢ entry G task.file.objs =
    λ e. true≢false
    (sym ((same_ℚ-is (value cut.gamma) (value c.index-generator-generator.result)).1
    (of.bound ∙ ap (dot (side_bounds task.file)) of.u_read ∙ e ∙ sym at_bound))
    ∙ sym (g.met.F.Field.same cut.gamma c.index-generator-generator.result) ∙ sym c.eq.ensures ∙ c.if-eq.false) in
    let k = choice task g.F.Field.holds c.requires.1.1.1.0 rows G live a.basis x y o in
    let turns = choice_turns task g.F.Field.holds c.requires.1.1.1.0 rows G live a.basis x y o other in
    let enough = long_enough task.file.cols y k.feasible.width in
    let long = length-map c.as_slice-in-Optimal-3.result.now value in
    let cols = c.requires.1.0.cols in
    (within, (c.requires.1.0, (c.requires.1.1.0, (c.requires.1.1.1.0, (omega (arith, enough, long, cols), ((λ trail. IsBaseX.choice k), turns.1))))))

pub returns-in_err-row-in-Optimal-clause-left : goal.returns-in_err-row-in-Optimal-clause-left
returns-in_err-row-in-Optimal-clause-left g c = λ trail.
    let h = c.in_err-row-in-Optimal.ensures.left trail in
    search (rules, h)

pub returns-clause-ok : goal.returns-clause-ok
returns-clause-ok g c = λ rows live.
    let value = g.F.Field.value in
    let task = g.task in
    let gen = c.args.generator.now in
    let G = map value gen in
    let a = c.in-Optimal in
    let cut = c.in_ok-cut-in-Optimal.cut in
    let x = map value c.as_slice-in-Optimal-2.result.now in
    let y = map value c.as_slice-in-Optimal-3.result.now in
    let w_is = ap (map value) c.as_slice-in-Optimal.ensures.items ∙ c.in_ok-w.ensures.ok in
    let start_is = ap (map value) c.as_slice.ensures.items ∙ c.in_ok-w.ensures.ok in
    let t = told task g.F.Field.holds c.requires.1.1.1.0 rows G live in
    let of = c.in_ok-cut-in-Optimal.ensures.ok task.file task.c c.requires.1.0 (subst (IsBaseWeight task.file task.c) (sym w_is) t.base)
    (subst (IsInDualCone task.file) (sym w_is) t.in_dual) (ap (λ (v : List ℚ). dot v task.c) w_is ∙ t.normed) in
    let o = optimum_said value task.file (map value c.as_slice.result.now) (weight_of task.c G) c.in_ok-dual.field-0 start_is (c.in_ok-dual.ensures.ok task.file c.requires.1.0)
    a.z a.dual a.basis x y a.is (ap (map value) c.as_slice-in-Optimal-2.ensures.items) (ap (map value) c.as_slice-in-Optimal-3.ensures.items) in
    let at_bound = bound_entry value gen c.index-generator-generator.result task.file.objs task.file.some_objective (wide task g.F.Field.holds c.requires.1.1.1.0 rows G live) c.index-generator-generator.is in
    let other : dot (side_bounds task.file) (u_of task.file x) ≢ entry G task.file.objs =
    λ e. true≢false
    (sym ((same_ℚ-is (value cut.gamma) (value c.index-generator-generator.result)).1
    (of.bound ∙ ap (dot (side_bounds task.file)) of.u_read ∙ e ∙ sym at_bound))
    ∙ sym (g.met.F.Field.same cut.gamma c.index-generator-generator.result) ∙ sym c.eq.ensures ∙ c.if-eq.false) in
    let turns = choice_turns task g.F.Field.holds c.requires.1.1.1.0 rows G live a.basis x y o other in
    let said = sym c.in_ok-row-in-Optimal.ensures.ok in
    (subst (IsBaseRow task.file task.c) said turns.1, subst (IsRowTurn task.file task.c rows) said turns.0)
