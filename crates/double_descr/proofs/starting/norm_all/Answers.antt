use Rattle.std.proofs.Common.{◌≡◌, ℕ, suc, ◌+◌, ◌-◌, ◌<◌, List, [], ◌∷◌, ◌++◌, length, map, take, drop, All, sym, ap, ap₂, ◌∙◌, subst, arith, slice_index_or}
use Rattle.std.proofs.lemmas.List.{get_or-map, map-append}
use Rattle.std.proofs.lemmas.List.Elements.{All-push, All-more}
use Rattle.exact_field.specs.Rational.{ℚ}
use Rattle.polyhedra.specs.DoubleDescription.{norming, normed}
use Rattle.polyhedra.specs.LiveList.{Numbered, tight_set}
use Rattle.lin_rows.specs.Read.{numbers}
use Rattle.lin_rows.proofs.Building.{numbers_long}
use Rattle.lin_rows.proofs.Errors.{err_holds}
use Rattle.incid_sets.specs.Marks.{IsAllBut}
use Rattle.double_descr.specs.Starting.{norming_steps}
use Rattle.double_descr.specs.State.{HasTightSet, live_of, numbered_of}
use Rattle.double_descr.specs.Steps.{IsHeld, values}
use Rattle.double_descr.specs.declared.generator.Generator.{Generator}
use Rattle.double_descr.proofs.NormedCorners.{corner_norming, corner_tight}
use Rattle.double_descr.proofs.StartState.{around, first_norming, one_more_normed}
use Rattle.double_descr.proofs.starting.norm_all.Goals as goal

pub normed_generator-requires-clause-not_zero : goal.normed_generator-requires-clause-not_zero
normed_generator-requires-clause-not_zero g c =
    let value = g.F.Field.value in
    let list = c.args.vectors.now.list in
    let j = c.loop-j.j in
    let corners = c.requires.corners in
    let many : length list ≡ c.args.vectors.now.width = sym (numbers_long value list) ∙ corners.1.vectors_many in
    let inside : j < length list = omega (arith, c.loop-j-test.true, c.count-count.ensures) in
    let is : values value c.row.result.now ≡ slice_index_or (numbers value list) j [] =
    ap (map value) (c.row.ensures.row ∙ ap (λ k. slice_index_or list k []) (let e : j + 1 - 1 ≡ j = omega arith in e)) ∙ sym (get_or-map (map value) list j [] [] inside) in
    λ e. corner_norming c.args.vectors.now.width corners.0 (numbers value list) corners.1 j (omega arith) (ap norming (sym is) ∙ e)

pub returns-in_err-normed_generator-clause-left : goal.returns-in_err-normed_generator-clause-left
returns-in_err-normed_generator-clause-left g c =
    let value = g.F.Field.value in
    let holds = g.F.Field.holds in
    let list = c.args.vectors.now.list in
    let j = c.loop-j.j in
    let inside : j < length list = omega (arith, c.loop-j-test.true, c.count-count.ensures) in
    let is : values value c.row.result.now ≡ slice_index_or (numbers value list) j [] =
    ap (map value) (c.row.ensures.row ∙ ap (λ k. slice_index_or list k []) (let e : j + 1 - 1 ≡ j = omega arith in e)) ∙ sym (get_or-map (map value) list j [] [] inside) in
    err_holds c.from_residual.result c.in_err-normed_generator.field-0.0 _ c.from_residual.ensures.1
    (first_norming value holds (numbers value list) (take j (numbers value list)) (drop (suc j) (numbers value list)) (values value c.row.result.now) c.in_err-normed_generator.field-0.0
    (around (numbers value list) j [] (let many : length (numbers value list) ≡ length list = numbers_long value list in omega arith)
    ∙ ap (λ v. take j (numbers value list) ++ v ∷ drop (suc j) (numbers value list)) (sym is))
    c.loop-j.invariant.held c.in_err-normed_generator.ensures.left)

pub loop-j-preserved : goal.loop-j-preserved
loop-j-preserved g c =
    let value = g.F.Field.value in
    let holds = g.F.Field.holds in
    let list = c.args.vectors.now.list in
    let vectors = numbers value list in
    let j = c.loop-j.j in
    let inside : j < length list = omega (arith, c.loop-j-test.true, c.count-count.ensures) in
    let within : j < length vectors = let many : length vectors ≡ length list = numbers_long value list in omega arith in
    let is : values value c.row.result.now ≡ slice_index_or (numbers value list) j [] =
    ap (map value) (c.row.ensures.row ∙ ap (λ k. slice_index_or list k []) (let e : j + 1 - 1 ≡ j = omega arith in e)) ∙ sym (get_or-map (map value) list j [] [] inside) in
    let made = c.in_ok-normed_generator.field-0 in
    record {
      live = ap (live_of value) c.in_ok-push.ensures.ok ∙ map-append (numbered_of value) c.loop-j.out (made ∷ [])
          ∙ ap₂ (λ l h. l ++ h ∷ []) c.loop-j.invariant.live c.in_ok-normed_generator.ensures.is
          ∙ one_more_normed vectors j (values value c.row.result.now) within is;
      tight = λ rows corners. subst (λ (gs : List (Generator _)). All (HasTightSet value rows) gs) (sym c.in_ok-push.ensures.ok)
          (All-push (HasTightSet value rows) c.loop-j.out made (c.loop-j.invariant.tight rows corners)
          (corner_tight c.args.vectors.now.width rows vectors corners j (let many : length vectors ≡ c.args.vectors.now.width = corners.vectors_many in omega arith) made.tight
          (subst (λ (n : ℕ). IsAllBut n j made.tight) (c.count-count.ensures ∙ sym (numbers_long value list) ∙ corners.vectors_many) c.in_ok-normed_generator.ensures.tight)
          ∙ ap (tight_set rows) (ap normed (sym is) ∙ sym (ap (λ (h : Numbered). h.vector) c.in_ok-normed_generator.ensures.is))));
      held = All-more (λ v. All (IsHeld holds) (norming_steps v)) vectors j [] within c.loop-j.invariant.held
          (subst (λ (v : List ℚ). All (IsHeld holds) (norming_steps v)) is c.in_ok-normed_generator.ensures.held);
    }
