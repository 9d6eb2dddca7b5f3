use Rattle.std.proofs.Common.{◌≡◌, ℕ, List, ◌++◌, map, length, sym, ap, ap₂, ◌∙◌}
use Rattle.exact_field.specs.Rational.{ℚ}
use Rattle.polyhedra.specs.Negatives.{negated}
use Rattle.polyhedra.specs.Vectors.{zeros}
use Rattle.tableaux.specs.Table.{listed, unit, Table}
use Rattle.vlp_problem.specs.Sides.{side_bounds}
use Rattle.lp_form.specs.Building.{joined}
use Rattle.lp_form.specs.Data.{cone_of}
use Rattle.lp_form.specs.Programs.{on_parts, balances, weight_members, weight_unknowns, weight_equations, side_total, weight_system}
use Rattle.lp_form.proofs.Systems.{weight_ok}
use Rattle.lp_form.proofs.Figures.{side_number, objective_number}
use Rattle.std.proofs.lemmas.List.{length-map}
use Rattle.lp_form.proofs.Joined.{three_pieces, appended, parts_pushed, joined-append}
use Rattle.lp_form.proofs.programs.weight_system.Goals as goal

pub returns : goal.returns
returns g c = λ file stands.
    let value = g.F.Field.value in
    let form = c.args.form.now in
    let wv : List ℚ = map value c.args.w.now in
    let m_is : c.len-m.result ≡ side_total file = c.len-m.ensures.value ∙ side_number value file form stands in
    let objs_is : length form.p ≡ file.objs = objective_number value file form stands in
    let q_is : c.len-q.result ≡ file.objs = c.len-q.ensures.value ∙ objs_is in
    let more : ℕ = weight_unknowns file.cone in
    let more_is : c.weight_unknowns-more.result ≡ more = c.weight_unknowns-more.ensures ∙ ap weight_unknowns stands.cone in
    let eqs : ℕ = weight_equations file.objs file.cone in
    let eqs_is : c.weight_equations.result ≡ eqs = c.weight_equations.ensures ∙ ap₂ weight_equations q_is stands.cone in
    let members : Table = weight_members (side_total file) file.objs file.cone in
    let fixed : ℕ → List ℚ = λ i. on_parts (zeros (side_total file)) (unit file.objs i) (zeros more) in
    let a0 = map value c.new-a.result in
    let a1 = map value c.push_balances.new.list in
    let a2 = map value c.push_entries_of_w.new.list in
    let h1 : a1 ≡ a0 ++ joined (balances file more) = c.in_ok-push_balances.ensures file stands ∙ ap (λ n. a0 ++ joined (balances file n)) more_is in
    let h2 : a2 ≡ a1 ++ joined (listed file.objs fixed) =
    c.in_ok-push_entries_of_w.ensures
    ∙ ap₂ (λ n b. a1 ++ joined (listed c.len-q.result (λ i. on_parts (zeros n) (unit c.len-q.result i) b))) m_is (ap (map value) c.as_slice.ensures.items ∙ c.in_ok-after.ensures ∙ ap zeros more_is)
    ∙ ap (λ n. a1 ++ joined (listed n (λ i. on_parts (zeros (side_total file)) (unit n i) (zeros more)))) q_is in
    let h3 : map value c.push_weight_members.new.list ≡ a2 ++ joined members =
    c.in_ok-push_weight_members.ensures ∙ ap (λ n. a2 ++ joined (weight_members n c.len-q.result (cone_of value form.cone))) m_is ∙ ap₂ (λ n k. a2 ++ joined (weight_members (side_total file) n k)) q_is stands.cone in
    let b0 = map value c.new-b.result in
    let b1 = map value c.push_zeros.new.list in
    let b2 = map value c.append.new.self in
    let k1 : b1 ≡ b0 ++ zeros file.cols = c.in_ok-push_zeros.ensures ∙ ap (λ n. b0 ++ zeros n) stands.cols in
    let k2 : b2 ≡ b1 ++ wv = appended value c.push_zeros.new.list c.append.new.self c.args.w.now c.in_ok-append.ensures.ok in
    let k3 : map value c.push_zeros-2.new.list ≡ b2 ++ zeros eqs = c.in_ok-push_zeros-2.ensures ∙ ap (λ n. b2 ++ zeros n) eqs_is in
    let c0 = map value c.new-cost.result in
    let c1 = map value c.push_bounds.new.list in
    let c2 = map value c.push_difference.new.list in
    let none : List ℚ = zeros file.objs in
    let l1 : c1 ≡ c0 ++ side_bounds file =
    c.in_ok-push_bounds.ensures ∙ ap (λ xs. c0 ++ map (λ s. value s.beta) xs) c.as_slice-2.ensures.items ∙ ap (λ l. c0 ++ l) stands.bounds in
    let w_is : map value c.as_slice-3.result.now ≡ none = ap (map value) c.as_slice-3.ensures.items ∙ c.in_ok-no_cost.ensures ∙ ap zeros q_is in
    let l2 : c2 ≡ (c1 ++ none) ++ negated none = c.in_ok-push_difference.ensures ∙ ap (λ w. (c1 ++ w) ++ negated w) w_is in
    let l3 : map value c.push_zeros-3.new.list ≡ c2 ++ zeros more = c.in_ok-push_zeros-3.ensures ∙ ap (λ n. c2 ++ zeros n) more_is in
    c.system.ensures (weight_system file wv) (weight_ok file wv (length-map c.args.w.now value ∙ c.requires ∙ objs_is))
    (three_pieces value c.new-a.result c.push_balances.new.list c.push_entries_of_w.new.list c.push_weight_members.new.list (joined (balances file more)) (joined (listed file.objs fixed)) (joined members) c.new-a.ensures h1 h2 h3
    ∙ sym (joined-append (balances file more ++ listed file.objs fixed) members ∙ ap (λ x. x ++ joined members) (joined-append (balances file more) (listed file.objs fixed))))
    (three_pieces value c.new-b.result c.push_zeros.new.list c.append.new.self c.push_zeros-2.new.list (zeros file.cols) wv (zeros eqs) c.new-b.ensures k1 k2 k3)
    (parts_pushed c0 c1 c2 (map value c.push_zeros-3.new.list) (side_bounds file) none (zeros more) l1 l2 l3
    ∙ ap (λ l. map value l ++ on_parts (side_bounds file) none (zeros more)) c.new-cost.ensures)
