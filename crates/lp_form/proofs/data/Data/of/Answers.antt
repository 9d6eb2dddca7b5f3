use Rattle.std.proofs.Common.{◌≡◌, ℕ, map, length, IsTrue, All, refl, sym, ap, ◌∙◌, subst, arith}
use Rattle.lin_rows.specs.Lines.{entries}
use Rattle.upper_image.specs.Spots.{entry_of}
use Rattle.lp_form.specs.Programs.{side_total}
use Rattle.lp_form.specs.Shapes.{vectors_fit}
use Rattle.std.proofs.lemmas.List.{length-map}
use Rattle.std.proofs.lemmas.Simd.{map-map}
use Rattle.lp_form.proofs.Held.{lists_held, normals_held, side_bounds_held, objectives_held, cone_held, duality_held}
use Rattle.lp_form.proofs.Shaped.{sides_places, rows_places, cone_shaped, duality_shaped, sides_kept, rows_kept}
use Rattle.lp_form.proofs.Systems.{length-side_bounds}
use Rattle.upper_image.specs.Spots.{dense}
use Rattle.upper_image.specs.UpperImage.{objective}
use Rattle.polyhedra.specs.Sparse as sparse
use Rattle.vlp_problem.specs.Sides.{numbers_from}
use Rattle.vlp_problem.specs.Cones.{duality_fits}
use Rattle.vlp_problem.proofs.Numbers.{length-numbers}
use Rattle.vlp_matrices.proofs.Cells.{few_sides}
use Rattle.lp_form.proofs.data.Data.of.Goals as goal

pub sides_in-requires-clause-rows : goal.sides_in-requires-clause-rows
sides_in-requires-clause-rows g c =
    let holds = g.F.Field.holds in
    let laws = g.met.F.Field in
    let file = c.args.problem.now in
    let matrices = c.in_ok-matrices.ensures in
    subst (λ ls. All (λ l. All (λ s. IsTrue (holds s.value)) l) ls) (sym c.as_slice.ensures.items)
    (lists_held holds laws.holds_zero laws.holds_one laws.holds_neg file.cols c.in_ok-matrices.matrices.sides.rows matrices.side_rows.sparse
    (subst (λ vs. All (λ v. All (λ q. IsTrue (holds q)) v) vs) (sym matrices.side_rows.stand) (normals_held holds laws.holds_zero laws.holds_one laws.holds_neg file c.in_ok-test_numbers.ensures.held)))

pub sides_in-requires-clause-bounds : goal.sides_in-requires-clause-bounds
sides_in-requires-clause-bounds g c =
    let holds = g.F.Field.holds in
    let laws = g.met.F.Field in
    let file = c.args.problem.now in
    let matrices = c.in_ok-matrices.ensures in
    subst (λ b. All (λ q. IsTrue (holds q)) b) (sym (c.as_slice-2.ensures.items ∙ matrices.bounds)) (side_bounds_held holds laws.holds_zero laws.holds_one laws.holds_neg file c.in_ok-test_numbers.ensures.held)

pub lines_in-requires : goal.lines_in-requires
lines_in-requires g c =
    let holds = g.F.Field.holds in
    let laws = g.met.F.Field in
    let file = c.args.problem.now in
    let matrices = c.in_ok-matrices.ensures in
    subst (λ ls. All (λ l. All (λ s. IsTrue (holds s.value)) l) ls) (sym c.as_slice-3.ensures.items)
    (lists_held holds laws.holds_zero laws.holds_one laws.holds_neg file.cols c.in_ok-matrices.matrices.objectives.rows matrices.objective_rows.sparse
    (subst (λ vs. All (λ v. All (λ q. IsTrue (holds q)) v) vs) (sym matrices.objective_rows.stand) (objectives_held holds laws.holds_zero laws.holds_one laws.holds_neg file c.in_ok-test_numbers.ensures.held)))

pub cone_in-requires : goal.cone_in-requires
cone_in-requires g c =
    let holds = g.F.Field.holds in
    let laws = g.met.F.Field in
    let file = c.args.problem.now in
    cone_held holds laws.holds_zero laws.holds_one laws.holds_neg file c.in_ok-test_numbers.ensures.held

pub duality_in-requires : goal.duality_in-requires
duality_in-requires g c =
    let holds = g.F.Field.holds in
    let laws = g.met.F.Field in
    let file = c.args.problem.now in
    duality_held holds laws.holds_zero laws.holds_one laws.holds_neg file c.in_ok-test_numbers.ensures.held

pub invariant_of-result : goal.invariant_of-result
invariant_of-result g c =
    let matrices = c.in_ok-matrices.ensures in
    let value = g.F.Field.value in
    let file = c.args.problem.now in
    let sides = c.in_ok-sides.sides in
    let p = c.in_ok-p.p in
    let vectors : map (λ s. entries value s.g) sides ≡ map (map entry_of) c.in_ok-matrices.matrices.sides.rows = c.in_ok-sides.ensures.vectors ∙ ap (map (map entry_of)) c.as_slice.ensures.items in
    let lines : map (entries value) p ≡ map (map entry_of) c.in_ok-matrices.matrices.objectives.rows = c.in_ok-p.ensures ∙ ap (map (map entry_of)) c.as_slice-3.ensures.items in
    let many : length sides ≡ side_total file =
    sym (length-map sides (λ s. value s.beta)) ∙ ap length (c.in_ok-sides.ensures.bounds ∙ c.as_slice-2.ensures.items ∙ matrices.bounds) ∙ length-side_bounds file in
    let objs : length p ≡ file.objs =
    sym (length-map p (entries value)) ∙ ap length lines ∙ length-map c.in_ok-matrices.matrices.objectives.rows (map entry_of)
    ∙ sym (length-map c.in_ok-matrices.matrices.objectives.rows (dense file.cols)) ∙ ap length matrices.objective_rows.stand ∙ length-map (numbers_from 1 file.objs) (objective file) ∙ length-numbers 1 file.objs in
    record {
      some_column = file.some_column;
      cols_bounded = file.cols_bounded;
      sides_bounded = omega (arith, many, few_sides file);
      some_objective = omega (arith, objs, file.some_objective);
      objs_bounded = omega (arith, objs, file.objs_bounded);
      side_places = sides_places value file.cols sides c.in_ok-matrices.matrices.sides.rows vectors matrices.side_rows.sparse;
      objective_places = rows_places value file.cols p c.in_ok-matrices.matrices.objectives.rows lines matrices.objective_rows.sparse;
      cone_vectors = subst (λ (n : ℕ). IsTrue (vectors_fit n c.in_ok-cone.cone)) (sym objs) (cone_shaped value file.objs c.in_ok-cone.cone file.cone c.in_ok-cone.ensures file.cone_vectors);
      duality_entries = subst (λ (n : ℕ). IsTrue (duality_fits n c.in_ok-duality.duality)) (sym objs) (duality_shaped value file.objs c.in_ok-duality.duality file.duality c.in_ok-duality.ensures file.duality_entries);
    }

pub returns-clause-ok : goal.returns-clause-ok
returns-clause-ok g c =
    let matrices = c.in_ok-matrices.ensures in
    let value = g.F.Field.value in
    let file = c.args.problem.now in
    let sides = c.in_ok-sides.sides in
    let p = c.in_ok-p.p in
    let vectors : map (λ s. entries value s.g) sides ≡ map (map entry_of) c.in_ok-matrices.matrices.sides.rows = c.in_ok-sides.ensures.vectors ∙ ap (map (map entry_of)) c.as_slice.ensures.items in
    let lines : map (entries value) p ≡ map (map entry_of) c.in_ok-matrices.matrices.objectives.rows = c.in_ok-p.ensures ∙ ap (map (map entry_of)) c.as_slice-3.ensures.items in
    record {
      cols = refl;
      normals = sym (map-map (sparse.dense file.cols) (λ s. entries value s.g) sides) ∙ ap (map (sparse.dense file.cols)) vectors ∙ map-map (sparse.dense file.cols) (map entry_of) c.in_ok-matrices.matrices.sides.rows ∙ matrices.side_rows.stand;
      bounds = c.in_ok-sides.ensures.bounds ∙ c.as_slice-2.ensures.items ∙ matrices.bounds;
      objectives = sym (map-map (sparse.dense file.cols) (entries value) p) ∙ ap (map (sparse.dense file.cols)) lines ∙ map-map (sparse.dense file.cols) (map entry_of) c.in_ok-matrices.matrices.objectives.rows ∙ matrices.objective_rows.stand;
      cone = c.in_ok-cone.ensures;
      duality = c.in_ok-duality.ensures;
      sides_kept = sides_kept value file.cols sides c.in_ok-matrices.matrices.sides.rows vectors matrices.side_rows.sparse;
      objectives_kept = rows_kept value file.cols p c.in_ok-matrices.matrices.objectives.rows lines matrices.objective_rows.sparse;
    }
