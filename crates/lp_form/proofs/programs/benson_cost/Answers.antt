use Rattle.std.proofs.Common.{◌≡◌, ℕ, List, ◌++◌, map, ap, ap₂, ◌∙◌}
use Rattle.std.specs.Prelude.{if◌then◌else◌}
use Rattle.exact_field.specs.Rational.{ℚ}
use Rattle.polyhedra.specs.Negatives.{negated}
use Rattle.polyhedra.specs.Vectors.{zeros}
use Rattle.vlp_problem.specs.Sides.{side_bounds}
use Rattle.lp_form.specs.Programs.{on_parts, dual_unknowns, side_total}
use Rattle.lp_form.proofs.Figures.{objective_number}
use Rattle.lp_form.proofs.Joined.{parts_pushed}
use Rattle.lp_form.proofs.programs.benson_cost.Goals as goal

pub returns : goal.returns
returns g c = λ file _ stands.
    let value = g.F.Field.value in
    let form = c.args.form.now in
    let vv : List ℚ = map value c.args.v.now in
    let q_is : c.len.result ≡ file.objs = c.len.ensures.value ∙ objective_number value file form stands in
    let more : ℕ = dual_unknowns file.objs file.cone in
    let more_is : c.dual_unknowns.result ≡ more = c.dual_unknowns.ensures ∙ ap₂ dual_unknowns q_is stands.cone in
    let costs : List ℚ = if c.args.t then side_bounds file else zeros (side_total file) in
    let c0 = map value c.new-cost.result in
    let c1 = map value c.push_side_costs.new.list in
    let c2 = map value c.push_difference.new.list in
    let w_is : map value c.as_slice.result.now ≡ negated vv = ap (map value) c.as_slice.ensures.items ∙ c.in_ok-w.ensures in
    let l2 : c2 ≡ (c1 ++ negated vv) ++ negated (negated vv) = c.in_ok-push_difference.ensures ∙ ap (λ w. (c1 ++ w) ++ negated w) w_is in
    let l3 : map value c.push_zeros.new.list ≡ c2 ++ zeros more = c.in_ok-push_zeros.ensures ∙ ap (λ n. c2 ++ zeros n) more_is in
    parts_pushed c0 c1 c2 (map value c.push_zeros.new.list) costs (negated vv) (zeros more) (c.in_ok-push_side_costs.ensures file stands) l2 l3
    ∙ ap (λ l. map value l ++ on_parts costs (negated vv) (zeros more)) c.new-cost.ensures
