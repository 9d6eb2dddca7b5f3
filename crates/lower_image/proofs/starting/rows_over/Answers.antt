use Rattle.std.proofs.Common.{rules, ◌≡◌, ◌∙◌, ◌<◌, ◌+◌, ◌++◌, ℕ, List, [], ◌∷◌, Contains, suc, ap, arith, length, map, subst, sym, true, false, slice_index_or}
use Rattle.std.specs.Prelude.{Some}
use Rattle.std.proofs.lemmas.List.{get_or_default, length-map, map_push}
use Rattle.std.proofs.lemmas.List.Elements.{Contains-get_or}
use Rattle.exact_field.specs.Rational.{ℚ}
use Rattle.polyhedra.proofs.Members.{member_of}
use Rattle.overflows.specs.Base.{IsConeDirection, image_of}
use Rattle.geo_duality.specs.Rows.{exchange_row}
use Rattle.lin_rows.specs.Read.{numbers}
use Rattle.lin_rows.proofs.Building.{numbers_long}
use Rattle.lp_form.proofs.Steps.{taken_more}
use Rattle.cone_dual.proofs.Reading.{read_row}
use Rattle.outer_approx.specs.Task.{setting}
use Rattle.lower_image.proofs.LowerRows.{image_wide}
use Rattle.lower_image.proofs.Started.{choice_base, direction_base, exchanged_long}
use Rattle.lower_image.proofs.Weights.{c_wide}
use Rattle.lower_image.proofs.starting.rows_over.Goals as goal

pub exchanged_row-requires-clause-same : goal.exchanged_row-requires-clause-same
exchanged_row-requires-clause-same g c =
    let value = g.F.Field.value in
    let y_is = c.in_ok-y.ensures.ok g.task.file c.requires.1.0 in
    sym (length-map c.args.c.now value) ∙ ap length c.requires.1.1.0 ∙ c_wide g.task g.F.Field.holds c.requires.1.1.1.0
    ∙ sym (image_wide g.task.file (map value c.args.x.now)) ∙ ap length (sym y_is) ∙ length-map c.in_ok-y.y value ∙ ap length (sym c.as_slice.ensures.items)

pub returns-in_err-first-clause-left : goal.returns-in_err-first-clause-left
returns-in_err-first-clause-left g c = λ trail.
    let value = g.F.Field.value in
    let y = map value c.as_slice.result.now in
    let y_is = ap (map value) c.as_slice.ensures.items ∙ c.in_ok-y.ensures.ok g.task.file c.requires.1.0 in
    let base = choice_base g.F.Field.holds g.task c.requires.1.1.1.0 (map value c.args.c.now) c.requires.1.1.0 (map value c.args.x.now) y c.requires.1.1.1.1.0 y_is in
    let h = c.in_err-first.ensures.left (setting g.task trail) (ap Some (sym c.requires.1.1.0)) base in
    search (rules, h)

pub push_row-requires : goal.push_row-requires
push_row-requires g c =
    let value = g.F.Field.value in
    let fit = c.requires.1.1.1.0 in
    let y = map value c.as_slice.result.now in
    let y_is = ap (map value) c.as_slice.ensures.items ∙ c.in_ok-y.ensures.ok g.task.file c.requires.1.0 in
    let base = choice_base g.F.Field.holds g.task fit (map value c.args.c.now) c.requires.1.1.0 (map value c.args.x.now) y c.requires.1.1.1.1.0 y_is in
    let long = length-map c.in_ok-first.first value in
    let row = exchanged_long g.F.Field.holds g.task fit (map value c.args.c.now) c.requires.1.1.0 y (map value c.in_ok-first.first) true base c.in_ok-first.ensures.ok in
    let read = ap length c.as_slice-2.ensures.items in
    let wide = ap length c.requires.1.1.0 ∙ c_wide g.task g.F.Field.holds fit in
    let many = length-map c.args.c.now value in
    let made = c.new-rows.ensures.width in
    omega (arith, long, row, read, wide, many, made)

pub exchanged_row-requires-in-loop-k-clause-some : goal.exchanged_row-requires-in-loop-k-clause-some
exchanged_row-requires-in-loop-k-clause-some g c =
    let some = g.task.file.some_objective in
    let wide = c.row.ensures.width ∙ c.requires.1.1.1.1.1.0 in
    omega (arith, some, wide)

pub exchanged_row-requires-in-loop-k-clause-same : goal.exchanged_row-requires-in-loop-k-clause-same
exchanged_row-requires-in-loop-k-clause-same g c =
    sym (length-map c.args.c.now g.F.Field.value) ∙ ap length c.requires.1.1.0 ∙ c_wide g.task g.F.Field.holds c.requires.1.1.1.0
    ∙ sym (c.row.ensures.width ∙ c.requires.1.1.1.1.1.0)

pub exchanged_row-requires-in-loop-k-clause-narrow : goal.exchanged_row-requires-in-loop-k-clause-narrow
exchanged_row-requires-in-loop-k-clause-narrow g c =
    let few = g.task.file.objs_bounded in
    let wide = c.row.ensures.width ∙ c.requires.1.1.1.1.1.0 in
    omega (arith, few, wide)

pub returns-in_err-row-clause-left : goal.returns-in_err-row-clause-left
returns-in_err-row-clause-left g c = λ trail.
    let value = g.F.Field.value in
    let list = c.args.directions.now.list in
    let t = numbers value list in
    let k : ℕ = c.loop-k.k in
    let inside : k < length list = omega (arith, c.loop-k-test.true, c.count-k-end.ensures) in
    let within : k < length t = omega (arith, inside, numbers_long value list) in
    let e = map value c.row.result.now in
    let listed : Contains t e =
    subst (Contains t) (sym (read_row value list k c.row.result.now c.row.ensures.row inside)) (Contains-get_or t k [] within) in
    let base = direction_base g.F.Field.holds g.task c.requires.1.1.1.0 (map value c.args.c.now) c.requires.1.1.0 e
    (member_of (IsConeDirection g.task.file) t e c.requires.1.1.1.1.1.1.each listed) in
    let h = c.in_err-row.ensures.left (setting g.task trail) (ap Some (sym c.requires.1.1.0)) base in
    search (rules, h)

pub push_row-requires-in-loop-k : goal.push_row-requires-in-loop-k
push_row-requires-in-loop-k g c =
    let value = g.F.Field.value in
    let fit = c.requires.1.1.1.0 in
    let list = c.args.directions.now.list in
    let t = numbers value list in
    let k : ℕ = c.loop-k.k in
    let inside : k < length list = omega (arith, c.loop-k-test.true, c.count-k-end.ensures) in
    let within : k < length t = omega (arith, inside, numbers_long value list) in
    let e = map value c.row.result.now in
    let listed : Contains t e =
    subst (Contains t) (sym (read_row value list k c.row.result.now c.row.ensures.row inside)) (Contains-get_or t k [] within) in
    let base = direction_base g.F.Field.holds g.task fit (map value c.args.c.now) c.requires.1.1.0 e
    (member_of (IsConeDirection g.task.file) t e c.requires.1.1.1.1.1.1.each listed) in
    ap length c.as_slice-in-loop-k.ensures.items ∙ sym (length-map c.in_ok-row.row value)
    ∙ exchanged_long g.F.Field.holds g.task fit (map value c.args.c.now) c.requires.1.1.0 e (map value c.in_ok-row.row) false base c.in_ok-row.ensures.ok
    ∙ sym c.loop-k.invariant.width

pub loop-k-preserved : goal.loop-k-preserved
loop-k-preserved g c =
    let value = g.F.Field.value in
    let file = g.task.file in
    let list = c.args.directions.now.list in
    let t = numbers value list in
    let k : ℕ = c.loop-k.k in
    let inside : k < length list = omega (arith, c.loop-k-test.true, c.count-k-end.ensures) in
    let within : k < length t = omega (arith, inside, numbers_long value list) in
    let e = map value c.row.result.now in
    let e_is : e ≡ slice_index_or t k e = read_row value list k c.row.result.now c.row.ensures.row inside ∙ get_or_default t k [] e within in
    let old = c.loop-k.rows.list in
    let row : map value c.as_slice-in-loop-k.result.now ≡ exchange_row g.task.c e false =
    ap (map value) c.as_slice-in-loop-k.ensures.items ∙ c.in_ok-row.ensures.ok ∙ ap (λ (v : List ℚ). exchange_row v e false) c.requires.1.1.0 in
    record {
      width = c.in_ok-push_row-2.ensures.width ∙ c.loop-k.invariant.width;
      list = taken_more (λ (v : List ℚ). exchange_row g.task.c v false) (exchange_row g.task.c (image_of file (map value c.args.x.now)) true ∷ []) (numbers value old)
          (numbers value c.push_row-in-loop-k.new.self.list) t k e within e_is c.loop-k.invariant.list
          (ap (numbers value) c.in_ok-push_row-2.ensures.ok ∙ map_push (map value) old c.as_slice-in-loop-k.result.now
          ∙ ap (λ (v : List ℚ). numbers value old ++ v ∷ []) row);
    }
