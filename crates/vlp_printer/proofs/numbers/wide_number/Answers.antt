use Rattle.std.proofs.Common.{sym, ◌∙◌, ◌++◌, not, ap, map, Some, List}
use Rattle.std.specs.List.{find, flat_map}
use Rattle.exact_field.specs.Rational.{ℚ}
use Rattle.vlp_problem.specs.declared.problem.Bound.{Bound}
use Rattle.vlp_problem.specs.declared.problem.Cell.{Cell}
use Rattle.vlp_printer.specs.Decimal.{is_decimal}
use Rattle.vlp_problem.specs.Values.{bound_numbers, cone_vectors, duality_entries}
use Rattle.vlp_problem.proofs.Pieces.{found_first}
use Rattle.vlp_printer.proofs.Lists.{found_after}
use Rattle.vlp_printer.proofs.numbers.wide_number.Goals as goal

pub returns-in-Some : goal.returns-in-Some
returns-in-Some c =
    let file = c.args.problem.now in
    sym (found_first (λ q. not (is_decimal q)) (map (λ (cell : Cell). cell.value) file.a) (map (λ (cell : Cell). cell.value) file.o ++ (duality_entries file.duality ++ (flat_map (λ (v : List ℚ). v) (cone_vectors file.cone) ++ (flat_map bound_numbers file.row_bounds ++ (flat_map bound_numbers file.col_bounds))))) c.in-Some.number (ap (λ (cells : List Cell). find (λ q. not (is_decimal q)) (map (λ (cell : Cell). cell.value) cells)) (sym c.as_slice.ensures.items) ∙ sym c.wide_cell.ensures ∙ c.in-Some.is))

pub returns-in-Some-wide_cell : goal.returns-in-Some-wide_cell
returns-in-Some-wide_cell c =
    let file = c.args.problem.now in
    sym (found_after (λ q. not (is_decimal q)) (map (λ (cell : Cell). cell.value) file.a) (map (λ (cell : Cell). cell.value) file.o ++ (duality_entries file.duality ++ (flat_map (λ (v : List ℚ). v) (cone_vectors file.cone) ++ (flat_map bound_numbers file.row_bounds ++ (flat_map bound_numbers file.col_bounds))))) (Some c.in-Some-wide_cell.number) (ap (λ (cells : List Cell). find (λ q. not (is_decimal q)) (map (λ (cell : Cell). cell.value) cells)) (sym c.as_slice.ensures.items) ∙ sym c.wide_cell.ensures ∙ c.in_default.is)
    (found_first (λ q. not (is_decimal q)) (map (λ (cell : Cell). cell.value) file.o) (duality_entries file.duality ++ (flat_map (λ (v : List ℚ). v) (cone_vectors file.cone) ++ (flat_map bound_numbers file.row_bounds ++ (flat_map bound_numbers file.col_bounds)))) c.in-Some-wide_cell.number (ap (λ (cells : List Cell). find (λ q. not (is_decimal q)) (map (λ (cell : Cell). cell.value) cells)) (sym c.as_slice-2.ensures.items) ∙ sym c.wide_cell-2.ensures ∙ c.in-Some-wide_cell.is)))

pub returns-in-Some-wide_duality : goal.returns-in-Some-wide_duality
returns-in-Some-wide_duality c =
    let file = c.args.problem.now in
    sym (found_after (λ q. not (is_decimal q)) (map (λ (cell : Cell). cell.value) file.a) (map (λ (cell : Cell). cell.value) file.o ++ (duality_entries file.duality ++ (flat_map (λ (v : List ℚ). v) (cone_vectors file.cone) ++ (flat_map bound_numbers file.row_bounds ++ (flat_map bound_numbers file.col_bounds))))) (Some c.in-Some-wide_duality.number) (ap (λ (cells : List Cell). find (λ q. not (is_decimal q)) (map (λ (cell : Cell). cell.value) cells)) (sym c.as_slice.ensures.items) ∙ sym c.wide_cell.ensures ∙ c.in_default.is)
    (found_after (λ q. not (is_decimal q)) (map (λ (cell : Cell). cell.value) file.o) (duality_entries file.duality ++ (flat_map (λ (v : List ℚ). v) (cone_vectors file.cone) ++ (flat_map bound_numbers file.row_bounds ++ (flat_map bound_numbers file.col_bounds)))) (Some c.in-Some-wide_duality.number) (ap (λ (cells : List Cell). find (λ q. not (is_decimal q)) (map (λ (cell : Cell). cell.value) cells)) (sym c.as_slice-2.ensures.items) ∙ sym c.wide_cell-2.ensures ∙ c.in_default-wide_cell.is)
    (found_first (λ q. not (is_decimal q)) (duality_entries file.duality) (flat_map (λ (v : List ℚ). v) (cone_vectors file.cone) ++ (flat_map bound_numbers file.row_bounds ++ (flat_map bound_numbers file.col_bounds))) c.in-Some-wide_duality.number (sym c.wide_duality.ensures ∙ c.in-Some-wide_duality.is))))

pub returns-in-Some-wide_cone : goal.returns-in-Some-wide_cone
returns-in-Some-wide_cone c =
    let file = c.args.problem.now in
    sym (found_after (λ q. not (is_decimal q)) (map (λ (cell : Cell). cell.value) file.a) (map (λ (cell : Cell). cell.value) file.o ++ (duality_entries file.duality ++ (flat_map (λ (v : List ℚ). v) (cone_vectors file.cone) ++ (flat_map bound_numbers file.row_bounds ++ (flat_map bound_numbers file.col_bounds))))) (Some c.in-Some-wide_cone.number) (ap (λ (cells : List Cell). find (λ q. not (is_decimal q)) (map (λ (cell : Cell). cell.value) cells)) (sym c.as_slice.ensures.items) ∙ sym c.wide_cell.ensures ∙ c.in_default.is)
    (found_after (λ q. not (is_decimal q)) (map (λ (cell : Cell). cell.value) file.o) (duality_entries file.duality ++ (flat_map (λ (v : List ℚ). v) (cone_vectors file.cone) ++ (flat_map bound_numbers file.row_bounds ++ (flat_map bound_numbers file.col_bounds)))) (Some c.in-Some-wide_cone.number) (ap (λ (cells : List Cell). find (λ q. not (is_decimal q)) (map (λ (cell : Cell). cell.value) cells)) (sym c.as_slice-2.ensures.items) ∙ sym c.wide_cell-2.ensures ∙ c.in_default-wide_cell.is)
    (found_after (λ q. not (is_decimal q)) (duality_entries file.duality) (flat_map (λ (v : List ℚ). v) (cone_vectors file.cone) ++ (flat_map bound_numbers file.row_bounds ++ (flat_map bound_numbers file.col_bounds))) (Some c.in-Some-wide_cone.number) (sym c.wide_duality.ensures ∙ c.in_default-wide_duality.is)
    (found_first (λ q. not (is_decimal q)) (flat_map (λ (v : List ℚ). v) (cone_vectors file.cone)) (flat_map bound_numbers file.row_bounds ++ (flat_map bound_numbers file.col_bounds)) c.in-Some-wide_cone.number (sym c.wide_cone.ensures ∙ c.in-Some-wide_cone.is)))))

pub returns-in-Some-wide_bound : goal.returns-in-Some-wide_bound
returns-in-Some-wide_bound c =
    let file = c.args.problem.now in
    sym (found_after (λ q. not (is_decimal q)) (map (λ (cell : Cell). cell.value) file.a) (map (λ (cell : Cell). cell.value) file.o ++ (duality_entries file.duality ++ (flat_map (λ (v : List ℚ). v) (cone_vectors file.cone) ++ (flat_map bound_numbers file.row_bounds ++ (flat_map bound_numbers file.col_bounds))))) (Some c.in-Some-wide_bound.number) (ap (λ (cells : List Cell). find (λ q. not (is_decimal q)) (map (λ (cell : Cell). cell.value) cells)) (sym c.as_slice.ensures.items) ∙ sym c.wide_cell.ensures ∙ c.in_default.is)
    (found_after (λ q. not (is_decimal q)) (map (λ (cell : Cell). cell.value) file.o) (duality_entries file.duality ++ (flat_map (λ (v : List ℚ). v) (cone_vectors file.cone) ++ (flat_map bound_numbers file.row_bounds ++ (flat_map bound_numbers file.col_bounds)))) (Some c.in-Some-wide_bound.number) (ap (λ (cells : List Cell). find (λ q. not (is_decimal q)) (map (λ (cell : Cell). cell.value) cells)) (sym c.as_slice-2.ensures.items) ∙ sym c.wide_cell-2.ensures ∙ c.in_default-wide_cell.is)
    (found_after (λ q. not (is_decimal q)) (duality_entries file.duality) (flat_map (λ (v : List ℚ). v) (cone_vectors file.cone) ++ (flat_map bound_numbers file.row_bounds ++ (flat_map bound_numbers file.col_bounds))) (Some c.in-Some-wide_bound.number) (sym c.wide_duality.ensures ∙ c.in_default-wide_duality.is)
    (found_after (λ q. not (is_decimal q)) (flat_map (λ (v : List ℚ). v) (cone_vectors file.cone)) (flat_map bound_numbers file.row_bounds ++ (flat_map bound_numbers file.col_bounds)) (Some c.in-Some-wide_bound.number) (sym c.wide_cone.ensures ∙ c.in_default-wide_cone.is)
    (found_first (λ q. not (is_decimal q)) (flat_map bound_numbers file.row_bounds) (flat_map bound_numbers file.col_bounds) c.in-Some-wide_bound.number (ap (λ (bounds : List Bound). find (λ q. not (is_decimal q)) (flat_map bound_numbers bounds)) (sym c.as_slice-3.ensures.items) ∙ sym c.wide_bound.ensures ∙ c.in-Some-wide_bound.is))))))

pub returns : goal.returns
returns c =
    let file = c.args.problem.now in
    sym (found_after (λ q. not (is_decimal q)) (map (λ (cell : Cell). cell.value) file.a) (map (λ (cell : Cell). cell.value) file.o ++ (duality_entries file.duality ++ (flat_map (λ (v : List ℚ). v) (cone_vectors file.cone) ++ (flat_map bound_numbers file.row_bounds ++ (flat_map bound_numbers file.col_bounds))))) c.wide_bound-2.result (ap (λ (cells : List Cell). find (λ q. not (is_decimal q)) (map (λ (cell : Cell). cell.value) cells)) (sym c.as_slice.ensures.items) ∙ sym c.wide_cell.ensures ∙ c.in_default.is)
    (found_after (λ q. not (is_decimal q)) (map (λ (cell : Cell). cell.value) file.o) (duality_entries file.duality ++ (flat_map (λ (v : List ℚ). v) (cone_vectors file.cone) ++ (flat_map bound_numbers file.row_bounds ++ (flat_map bound_numbers file.col_bounds)))) c.wide_bound-2.result (ap (λ (cells : List Cell). find (λ q. not (is_decimal q)) (map (λ (cell : Cell). cell.value) cells)) (sym c.as_slice-2.ensures.items) ∙ sym c.wide_cell-2.ensures ∙ c.in_default-wide_cell.is)
    (found_after (λ q. not (is_decimal q)) (duality_entries file.duality) (flat_map (λ (v : List ℚ). v) (cone_vectors file.cone) ++ (flat_map bound_numbers file.row_bounds ++ (flat_map bound_numbers file.col_bounds))) c.wide_bound-2.result (sym c.wide_duality.ensures ∙ c.in_default-wide_duality.is)
    (found_after (λ q. not (is_decimal q)) (flat_map (λ (v : List ℚ). v) (cone_vectors file.cone)) (flat_map bound_numbers file.row_bounds ++ (flat_map bound_numbers file.col_bounds)) c.wide_bound-2.result (sym c.wide_cone.ensures ∙ c.in_default-wide_cone.is)
    (found_after (λ q. not (is_decimal q)) (flat_map bound_numbers file.row_bounds) (flat_map bound_numbers file.col_bounds) c.wide_bound-2.result (ap (λ (bounds : List Bound). find (λ q. not (is_decimal q)) (flat_map bound_numbers bounds)) (sym c.as_slice-3.ensures.items) ∙ sym c.wide_bound.ensures ∙ c.in_default-wide_bound.is)
    (ap (λ (bounds : List Bound). find (λ q. not (is_decimal q)) (flat_map bound_numbers bounds)) (sym c.as_slice-4.ensures.items) ∙ sym c.wide_bound-2.ensures))))))
