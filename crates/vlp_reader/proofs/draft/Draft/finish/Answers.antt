use Rattle.std.proofs.Common.{refl, ℕ, IsTrue, length, map, unwrap_or, ap, sym, ◌∙◌, subst, arith}
use Rattle.std.proofs.lemmas.List.{length-map}
use Rattle.exact_field.specs.Rational.{zero_ℚ}
use Rattle.vlp_problem.specs.Cells.{are_cells}
use Rattle.vlp_problem.specs.Cones.{cone_fits, duality_fits}
use Rattle.vlp_reader.specs.Grammar.{must}
use Rattle.vlp_reader.specs.declared.fault.FileKind.TheVariants.{CountWrong}
use Rattle.vlp_problem.specs.declared.problem.Bound.TheVariants.{Unsaid}
use Rattle.vlp_problem.specs.declared.problem.Axis.TheVariants.{Row, Column}
use Rattle.vlp_reader.specs.declared.statement.Matrix.TheVariants.{Constraints, Objectives}
use Rattle.vlp_reader.proofs.Drafts.{within_limits, draft_cone_fits, draft_duality_fits, cone_same, duality_same, bounds_same}
use Rattle.vlp_reader.proofs.draft.Draft.finish.Goals as goal

pub invariant_of-result : goal.invariant_of-result
invariant_of-result c =
    let draft = c.args.self.now in
    let limits = within_limits draft.sizes draft.fit in
    let rows = limits.rows in
    let cols = limits.cols in
    let objs = limits.objs in
    record {
      rows_bounded = omega arith;
      some_column = limits.some_column;
      cols_bounded = omega arith;
      some_objective = limits.some_objective;
      objs_bounded = omega arith;
      a_cells = subst (λ (n : ℕ). IsTrue (are_cells draft.sizes.rows n c.in_ok-to_cells.field-0)) draft.a_cols
          (subst (λ (n : ℕ). IsTrue (are_cells n draft.a.cols c.in_ok-to_cells.field-0)) draft.a_rows c.in_ok-to_cells.ensures.cells);
      o_cells = subst (λ (n : ℕ). IsTrue (are_cells draft.sizes.objs n c.in_ok-to_cells-2.field-0)) draft.o_cols
          (subst (λ (n : ℕ). IsTrue (are_cells n draft.o.cols c.in_ok-to_cells-2.field-0)) draft.o_rows c.in_ok-to_cells-2.ensures.cells);
      row_count = ap length c.in_ok-all_bounds.ensures ∙ length-map c.deref.result.now (λ b. unwrap_or b Unsaid) ∙ ap length c.deref.ensures.value ∙ draft.row_count;
      col_count = ap length c.in_ok-all_bounds-2.ensures ∙ length-map c.deref-2.result.now (λ b. unwrap_or b Unsaid) ∙ ap length c.deref-2.ensures.value ∙ draft.col_count;
      cone_vectors = subst (λ x. IsTrue (cone_fits draft.sizes.objs x)) (sym c.in_ok-cone.ensures) (draft_cone_fits draft draft.sizes.cone limits.some_vector limits.vectors);
      duality_entries = subst (λ x. IsTrue (duality_fits draft.sizes.objs x)) (sym c.in_ok-duality.ensures) (draft_duality_fits draft);
    }

pub returns : goal.returns
returns c = λ statements has.
    let draft = c.args.self.now in (
      ap (λ b. must b CountWrong) (sym (c.counts_fit.ensures statements has) ∙ c.if-not-counts_fit.false),
      record {
        dir = refl;
        rows = refl;
        cols = refl;
        objs = refl;
        a = λ i j. c.in_ok-to_cells.ensures.values i j ∙ ap (λ o. unwrap_or o zero_ℚ) ((has.entries Constraints).values i j);
        o = λ i j. c.in_ok-to_cells-2.ensures.values i j ∙ ap (λ o. unwrap_or o zero_ℚ) ((has.entries Objectives).values i j);
        row_bounds = c.in_ok-all_bounds.ensures ∙ ap (map (λ b. unwrap_or b Unsaid)) c.deref.ensures.value ∙ bounds_same draft.row_bounds.items Row statements draft.sizes.rows (has.bounds Row) draft.row_count;
        col_bounds = c.in_ok-all_bounds-2.ensures ∙ ap (map (λ b. unwrap_or b Unsaid)) c.deref-2.ensures.value ∙ bounds_same draft.col_bounds.items Column statements draft.sizes.cols (has.bounds Column) draft.col_count;
        cone = c.in_ok-cone.ensures ∙ cone_same draft statements draft.sizes.cone has;
        duality = c.in_ok-duality.ensures ∙ duality_same draft statements has;
      },
    )
