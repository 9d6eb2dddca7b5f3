use Rattle.std.proofs.Common.{◌<◌, ℕ, List, [], map, length, Contains, rules, ap, sym, ◌∙◌, subst, arith, slice_index_or}
use Rattle.std.proofs.lemmas.List.{take_all}
use Rattle.std.proofs.lemmas.List.Elements.{Contains-get_or}
use Rattle.std.proofs.lemmas.Simd.{map-map}
use Rattle.exact_field.specs.Rational.{ℚ}
use Rattle.exact_field.specs.Vector.{dot}
use Rattle.polyhedra.proofs.Members.{Contains-map}
use Rattle.lin_rows.specs.declared.spots.Spot.{Spot}
use Rattle.lp_form.specs.Data.{vector_of}
use Rattle.lp_form.proofs.Steps.{taken_more, value_pushed}
use Rattle.upper_image.specs.UpperImage.{objectives}
use Rattle.lower_image.proofs.rows.image_at.Goals as goal

pub returns-in_err-value-clause-left : goal.returns-in_err-value-clause-left
returns-in_err-value-clause-left g c = λ s stands base.
    let F = g.row.F.Denot in
    let value = g.F.Field.value in
    let form = c.args.form.now in
    let x = c.args.x.now in
    let item = c.line-item.result in
    let lines = c.as_slice-line-items.result.now in
    let at_item : Contains lines item = subst (Contains lines) (sym c.line-item.is) (Contains-get_or lines c.loop-line.line-index item c.loop-line-test.true) in
    let at_form : Contains form.p item = subst (λ (ls : List (List (Spot F))). Contains ls item) c.as_slice-line-items.ensures.items at_item in
    let at_file : Contains (objectives s.file) (vector_of value s.file.cols item) =
    subst (λ (rows : List (List ℚ)). Contains rows (vector_of value s.file.cols item)) stands.objectives (Contains-map (vector_of value s.file.cols) form.p item at_form) in
    let here : Contains (objectives s.file) (vector_of value (length x) c.as_slice.result.now) =
    subst (λ (n : ℕ). Contains (objectives s.file) (vector_of value n c.as_slice.result.now)) (sym (c.requires.wide ∙ stands.cols))
    (subst (λ (l : List (Spot F)). Contains (objectives s.file) (vector_of value s.file.cols l)) (sym c.as_slice.ensures.items) at_file) in
    let h = c.in_err-value.ensures.left s here base in
    search (rules, h)

pub loop-line-preserved : goal.loop-line-preserved
loop-line-preserved g c =
    let F = g.row.F.Denot in
    let value = g.F.Field.value in
    let form = c.args.form.now in
    let x = c.args.x.now in
    let item = c.line-item.result in
    let i = c.loop-line.line-index in
    let same = c.as_slice-line-items.ensures.items in
    let inside : i < length form.p = subst (λ (ls : List (List (Spot F))). i < length ls) same c.loop-line-test.true in
    let own = c.in_ok-value.ensures.ok ∙ ap (λ (l : List (Spot F)). dot (vector_of value (length x) l) (map value x)) c.as_slice.ensures.items in
    taken_more (λ r. dot (vector_of value (length x) r) (map value x)) [] (map value c.loop-line.y) (map value c.push.new.self) form.p i item inside
    (c.line-item.is ∙ ap (λ (ls : List (List (Spot F))). slice_index_or ls i item) same) c.loop-line.invariant
    (value_pushed value c.loop-line.y c.push.new.self c.in_ok-value.value (dot (vector_of value (length x) item) (map value x)) c.in_ok-push.ensures.ok own)

pub returns-clause-ok : goal.returns-clause-ok
returns-clause-ok g c = λ file stands.
    let value = g.F.Field.value in
    let form = c.args.form.now in
    let x = c.args.x.now in
    let many = ap length c.as_slice-line-items.ensures.items in
    let end = c.loop-line-test.false in
    c.loop-line.invariant
    ∙ ap (map (λ r. dot (vector_of value (length x) r) (map value x))) (take_all c.loop-line.line-index form.p (omega (arith, many, end)))
    ∙ sym (map-map (λ (r : List ℚ). dot r (map value x)) (vector_of value (length x)) form.p)
    ∙ ap (λ (n : ℕ). map (λ (r : List ℚ). dot r (map value x)) (map (vector_of value n) form.p)) (c.requires.wide ∙ stands.cols)
    ∙ ap (map (λ (r : List ℚ). dot r (map value x))) stands.objectives
