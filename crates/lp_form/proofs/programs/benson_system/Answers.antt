use Rattle.std.proofs.Common.{◌≡◌, ℕ, List, [], ◌∷◌, ◌++◌, map, length, sym, ap, ap₂, ◌∙◌}
use Rattle.exact_field.specs.Rational.{ℚ, zero_ℚ, one_ℚ}
use Rattle.polyhedra.specs.Vectors.{zeros}
use Rattle.tableaux.specs.Table.{Table}
use Rattle.lp_form.specs.Building.{joined}
use Rattle.lp_form.specs.Data.{cone_of}
use Rattle.lp_form.specs.Programs.{on_parts, balances, dual_members, dual_unknowns, dual_equations, side_total, benson_system}
use Rattle.lp_form.proofs.Systems.{benson_ok}
use Rattle.lp_form.proofs.Figures.{side_number, objective_number}
use Rattle.std.proofs.lemmas.List.{length-map, replicate-append-replicate}
use Rattle.lp_form.proofs.Joined.{three_pieces, joined-append, joined-one}
use Rattle.lp_form.proofs.Steps.{value_pushed}
use Rattle.lp_form.proofs.programs.benson_system.Goals as goal

pub returns : goal.returns
returns g c = λ file stands.
    let value = g.F.Field.value in
    let form = c.args.form.now in
    let cv : List ℚ = map value c.args.c.now in
    let vv : List ℚ = map value c.args.v.now in
    let m_is : c.len-m.result ≡ side_total file = c.len-m.ensures.value ∙ side_number value file form stands in
    let objs_is : length form.p ≡ file.objs = objective_number value file form stands in
    let q_is : c.len-q.result ≡ file.objs = c.len-q.ensures.value ∙ objs_is in
    let more : ℕ = dual_unknowns file.objs file.cone in
    let more_is : c.dual_unknowns-more.result ≡ more = c.dual_unknowns-more.ensures ∙ ap₂ dual_unknowns q_is stands.cone in
    let eqs : ℕ = dual_equations file.objs file.cone in
    let eqs_is : c.dual_equations.result ≡ eqs = c.dual_equations.ensures ∙ ap₂ dual_equations q_is stands.cone in
    let members : Table = dual_members (side_total file) file.objs file.cone in
    let last : List ℚ = on_parts (zeros (side_total file)) cv (zeros more) in
    let a0 = map value c.new-a.result in
    let a1 = map value c.push_balances.new.list in
    let a2 = map value c.push_members.new.list in
    let h1 : a1 ≡ a0 ++ joined (balances file more) = c.in_ok-push_balances.ensures file stands ∙ ap (λ n. a0 ++ joined (balances file n)) more_is in
    let h2 : a2 ≡ a1 ++ joined members =
    c.in_ok-push_members.ensures ∙ ap (λ n. a1 ++ joined (dual_members n c.len-q.result (cone_of value form.cone))) m_is ∙ ap₂ (λ n k. a1 ++ joined (dual_members (side_total file) n k)) q_is stands.cone in
    let h3 : map value c.push_on_w.new.list ≡ a2 ++ last =
    c.in_ok-push_on_w.ensures ∙ ap₂ (λ n b. a2 ++ on_parts (zeros n) cv b) m_is (ap (map value) c.as_slice.ensures.items ∙ c.in_ok-after.ensures ∙ ap zeros more_is) in
    let b0 = map value c.new-b.result in
    let b1 = map value c.push_zeros.new.list in
    let k1 : b1 ≡ b0 ++ zeros file.cols = c.in_ok-push_zeros.ensures ∙ ap (λ n. b0 ++ zeros n) stands.cols in
    let k2 : map value c.push_zeros-2.new.list ≡ b1 ++ zeros eqs = c.in_ok-push_zeros-2.ensures ∙ ap (λ n. b1 ++ zeros n) eqs_is in
    let k3 : map value c.push.new.self ≡ map value c.push_zeros-2.new.list ++ one_ℚ ∷ [] = value_pushed value c.push_zeros-2.new.list c.push.new.self c.one.result one_ℚ c.in_ok-push.ensures.ok c.one.ensures in
    c.system.ensures (benson_system file cv vv c.args.t) (benson_ok file cv vv c.args.t (length-map c.args.c.now value ∙ c.requires.c ∙ objs_is) (length-map c.args.v.now value ∙ c.requires.v ∙ objs_is))
    (three_pieces value c.new-a.result c.push_balances.new.list c.push_members.new.list c.push_on_w.new.list (joined (balances file more)) (joined members) last c.new-a.ensures h1 h2 h3
    ∙ sym (joined-append (balances file more ++ members) (last ∷ []) ∙ ap₂ (λ x y. x ++ y) (joined-append (balances file more) members) (joined-one last)))
    (three_pieces value c.new-b.result c.push_zeros.new.list c.push_zeros-2.new.list c.push.new.self (zeros file.cols) (zeros eqs) (one_ℚ ∷ []) c.new-b.ensures k1 k2 k3
    ∙ ap (λ z. z ++ one_ℚ ∷ []) (replicate-append-replicate file.cols eqs zero_ℚ))
    (c.in_ok-cost.ensures file cv stands)
