use Rattle.std.proofs.Common.{◌≡◌, ◌+◌, ◌-◌, ◌≤◌, ◌∙◌, [], List, ℕ, ap, arith, length, map, subst, suc, sym, slice_index_or}
use Rattle.std.proofs.lemmas.List.{get_or-map, get_or_default}
use Rattle.exact_field.specs.Rational.{zero_ℚ}
use Rattle.exact_field.specs.Vector.{entry}
use Rattle.polyhedra.specs.Sparse.{Entry}
use Rattle.lin_rows.specs.Lines.{Rises, entries, last_place}
use Rattle.lin_rows.specs.declared.spots.Spot.{Spot}
use Rattle.lin_rows.proofs.Merging.{rises-wider, last_within}
use Rattle.lp_form.specs.Data.{cone_of}
use Rattle.lp_form.specs.Programs.{dual_equations}
use Rattle.lp_form.specs.Shapes.{are_places}
use Rattle.lp_form.proofs.Figures.{places_rise}
use Rattle.program_columns.specs.Entries.{member, negatives}
use Rattle.program_columns.proofs.Entered.{rises-negatives, weight_line}
use Rattle.program_columns.proofs.Listed.{passes_at}
use Rattle.program_columns.proofs.written.weight_column.Goals as goal

pub returns : goal.returns
returns g c =
    let value = g.F.Field.value in
    let form = c.args.form.now in
    let i = c.args.i in
    let cols = form.cols in
    let cone = cone_of value form.cone in
    let top : ℕ = cols + dual_equations (length form.p) cone in
    let spots : List (Spot _) = slice_index_or form.p (i - 1) [] in
    let own = entries value spots in
    let read : c.as_slice-2.result.now ≡ spots =
    c.as_slice-2.ensures.items ∙ c.index-as_slice-i.is
    ∙ ap (λ l. slice_index_or l (i - 1) c.index-as_slice-i.result) c.as_slice.ensures.items
    ∙ get_or_default form.p (i - 1) c.index-as_slice-i.result [] (omega arith) in
    let rises : Rises cols 0 own =
    places_rise value cols 0 spots
    (passes_at (are_places cols 0) form.p (i - 1) [] form.objective_places (omega arith)) in
    let first = entries value c.in_ok-list.list in
    let is : first ≡ negatives own =
    c.in_ok-list.ensures ∙ ap (λ cs. negatives (entries value cs)) read in
    let first_rises : Rises (suc top) 0 first =
    subst (λ (es : List Entry). Rises (suc top) 0 es) (sym is)
    (rises-negatives (suc top) 0 own (rises-wider cols (suc top) 0 own (omega arith) rises)) in
    let first_ends : last_place 0 first ≤ cols =
    subst (λ (es : List Entry). last_place 0 es ≤ cols) (sym is)
    (last_within cols 0 (negatives own) (omega arith) (rises-negatives cols 0 own rises)) in
    let number : value c.index-c-i.result ≡ entry (map value c.args.c.now) i =
    ap value c.index-c-i.is
    ∙ sym (get_or-map value c.args.c.now (i - 1) c.index-c-i.result zero_ℚ (omega arith)) in
    weight_line top (cols + c.cone_equations.result + 1) (member cols cone i)
    (value c.index-c-i.result) (entry (map value c.args.c.now) i) own first
    (entries value c.push_member.new.list) (entries value c.push_kept.new.list) is
    (omega (arith, c.cone_equations.ensures.count)) number
    (c.in_ok-push_member.ensures (suc top) first_rises first_ends (omega arith))
    c.in_ok-push_kept.ensures
