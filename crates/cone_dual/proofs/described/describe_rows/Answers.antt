use Rattle.std.proofs.Common.{ℕ, List, ◌++◌, ap, ap₂, sym, ◌∙◌, length, map, subst, ◌≡◌, ◌≤◌, All, Contains}
use Rattle.std.proofs.lemmas.List.{length-map}
use Rattle.std.proofs.lemmas.List.Elements.{All-weaker, Contains-append_left}
use Rattle.exact_field.specs.Rational.{ℚ}
use Rattle.polyhedra.proofs.Members.{all_of_members}
use Rattle.tableaux.specs.Table.{Table, row_of}
use Rattle.lin_rows.specs.Read.{numbers}
use Rattle.lin_rows.proofs.Building.{numbers_long}
use Rattle.lin_rows.proofs.Errors.{err_holds}
use Rattle.overflows.specs.Dictionaries.{AreStartRows, AreElimRows}
use Rattle.overflows.specs.Generators.{IsMadeOver}
use Rattle.cone_dual.specs.Generators.{MayDescribe, begun_with, others}
use Rattle.cone_dual.proofs.Licences.{may_among, told_more}
use Rattle.cone_dual.proofs.Reordered.{IsPlace, begun_listed, other_places, picked_places}
use Rattle.cone_dual.proofs.described.describe_rows.Goals as goal

-- as many rows as are picked are among all rows
picked_among : (t : Table) (picks : List ℕ) → All (IsPlace (length t)) picks → All (Contains t) (map (row_of t) picks)
picked_among t picks places = all_of_members (Contains t) (map (row_of t) picks)
    (λ r k. begun_listed t picks places r (Contains-append_left (map (row_of t) picks) (map (row_of t) (others (length t) picks)) r k))

pub returns-in_err-picks-clause-place : goal.returns-in_err-picks-clause-place
returns-in_err-picks-clause-place g c =
    err_holds c.from_residual.result c.in_err-picks.field-0.0 _ c.from_residual.ensures.1 (c.in_err-picks.ensures.place c.args.family)

pub returns-in_err-picks-clause-left : goal.returns-in_err-picks-clause-left
returns-in_err-picks-clause-left g c = λ s may.
    let t = numbers g.F.Field.value c.args.rows.now.list in
    err_holds c.from_residual.result c.in_err-picks.field-0.0 _ c.from_residual.ensures.1
    (c.in_err-picks.ensures.left s (AreElimRows.of_start c.args.rows.now.width (may.eliminated t (all_of_members (Contains t) t (λ r k. k)))))

pub rows_at-requires-2-clause-low : goal.rows_at-requires-2-clause-low
rows_at-requires-2-clause-low g c =
    let places = other_places c.count.result c.as_slice.result.now in
    subst (All (λ (k : ℕ). 1 ≤ k)) (sym (c.as_slice-3.ensures.items ∙ c.in_ok-others.ensures))
    (All-weaker (IsPlace c.count.result) (λ (k : ℕ). 1 ≤ k) (λ k p. p.0) (others c.count.result c.as_slice.result.now) places)

pub rows_at-requires-2-clause-high : goal.rows_at-requires-2-clause-high
rows_at-requires-2-clause-high g c =
    let n : ℕ = length c.args.rows.now.list in
    let places = other_places c.count.result c.as_slice.result.now in
    subst (All (λ (k : ℕ). k ≤ n)) (sym (c.as_slice-3.ensures.items ∙ c.in_ok-others.ensures))
    (All-weaker (IsPlace c.count.result) (λ (k : ℕ). k ≤ n) (λ k p. subst (λ (m : ℕ). k ≤ m) c.count.ensures p.1) (others c.count.result c.as_slice.result.now) places)

pub start_rows-requires-clause-square : goal.start_rows-requires-clause-square
start_rows-requires-clause-square g c =
    let value = g.F.Field.value in
    let t = numbers value c.args.rows.now.list in
    sym (numbers_long value c.in_ok-first.first.list) ∙ ap length c.in_ok-first.ensures.rows ∙ length-map c.as_slice-2.result.now (row_of t)
    ∙ ap length c.as_slice-2.ensures.items ∙ c.in_ok-picks.ensures.ok.many ∙ sym c.in_ok-first.ensures.width

pub returns-in_err-dd-clause-left : goal.returns-in_err-dd-clause-left
returns-in_err-dd-clause-left g c = λ s may.
    let value = g.F.Field.value in
    let rows = c.args.rows.now in
    let t = numbers value rows.list in
    let picks : List ℕ = c.in_ok-picks.picks in
    let first_is = c.in_ok-first.ensures.rows ∙ ap (map (row_of t)) c.as_slice-2.ensures.items in
    let places = picked_places rows.width t picks c.in_ok-picks.ensures.ok in
    err_holds c.from_residual-in_err-dd.result c.in_err-dd.field-0.0 _ c.from_residual-in_err-dd.ensures.1
    (c.in_err-dd.ensures.left s
    (subst (λ (n : ℕ). AreStartRows s (numbers value c.in_ok-first.first.list) n) (sym c.in_ok-first.ensures.width)
    (subst (λ (rs : Table). AreStartRows s rs rows.width) (sym first_is)
    (may.eliminated (map (row_of t) picks) (picked_among t picks places)))))

pub returns-in_err-dd-clause-place : goal.returns-in_err-dd-clause-place
returns-in_err-dd-clause-place g c =
    let value = g.F.Field.value in
    let family = c.args.family in
    let rows = c.args.rows.now in
    let t = numbers value rows.list in
    let picks : List ℕ = c.in_ok-picks.picks in
    let first_is = c.in_ok-first.ensures.rows ∙ ap (map (row_of t)) c.as_slice-2.ensures.items in
    let places = picked_places rows.width t picks c.in_ok-picks.ensures.ok in
    let fault = c.in_err-dd.field-0.0 in
    err_holds c.from_residual-in_err-dd.result fault _ c.from_residual-in_err-dd.ensures.1
    (told_more family (numbers value c.in_ok-first.first.list) t
    (subst (λ (rs : Table). All (Contains t) rs) (sym first_is) (picked_among t picks places)) fault (c.in_err-dd.ensures.place family))

pub returns-in_err-add_all-clause-left : goal.returns-in_err-add_all-clause-left
returns-in_err-add_all-clause-left g c = λ s may.
    let value = g.F.Field.value in
    let family = c.args.family in
    let rows = c.args.rows.now in
    let t = numbers value rows.list in
    let picks : List ℕ = c.in_ok-picks.picks in
    let first_is = c.in_ok-first.ensures.rows ∙ ap (map (row_of t)) c.as_slice-2.ensures.items in
    let more_is = c.in_ok-more.ensures.rows ∙ ap (map (row_of t)) (c.as_slice-3.ensures.items ∙ c.in_ok-others.ensures
    ∙ ap₂ others (c.count.ensures ∙ sym (numbers_long value rows.list)) c.as_slice.ensures.items) in
    let all_is = ap₂ (λ (a b : List (List ℚ)). a ++ b) (c.in_ok-dd.ensures.rows ∙ first_is) more_is in
    let places = picked_places rows.width t picks c.in_ok-picks.ensures.ok in
    let among = all_of_members (Contains t) (begun_with picks t) (begun_listed t picks places) in
    err_holds c.from_residual-in_err-add_all.result c.in_err-add_all.field-0.0 _ c.from_residual-in_err-add_all.ensures.1
    (c.in_err-add_all.ensures.left s
    (subst (λ (n : ℕ). MayDescribe s family n (c.in_ok-dd.dd.rows ++ numbers value c.in_ok-more.more.list)) (sym (c.in_ok-dd.ensures.width ∙ c.in_ok-first.ensures.width))
    (subst (MayDescribe s family rows.width) (sym all_is) (may_among s family rows.width (begun_with picks t) t among may))))

pub returns-in_err-add_all-clause-place : goal.returns-in_err-add_all-clause-place
returns-in_err-add_all-clause-place g c =
    let value = g.F.Field.value in
    let family = c.args.family in
    let rows = c.args.rows.now in
    let t = numbers value rows.list in
    let picks : List ℕ = c.in_ok-picks.picks in
    let first_is = c.in_ok-first.ensures.rows ∙ ap (map (row_of t)) c.as_slice-2.ensures.items in
    let more_is = c.in_ok-more.ensures.rows ∙ ap (map (row_of t)) (c.as_slice-3.ensures.items ∙ c.in_ok-others.ensures
    ∙ ap₂ others (c.count.ensures ∙ sym (numbers_long value rows.list)) c.as_slice.ensures.items) in
    let all_is = ap₂ (λ (a b : List (List ℚ)). a ++ b) (c.in_ok-dd.ensures.rows ∙ first_is) more_is in
    let places = picked_places rows.width t picks c.in_ok-picks.ensures.ok in
    let among = all_of_members (Contains t) (begun_with picks t) (begun_listed t picks places) in
    let fault = c.in_err-add_all.field-0.0 in
    err_holds c.from_residual-in_err-add_all.result fault _ c.from_residual-in_err-add_all.ensures.1
    (told_more family (c.in_ok-dd.dd.rows ++ numbers value c.in_ok-more.more.list) t (subst (λ (rs : Table). All (Contains t) rs) (sym all_is) among) fault
    c.in_err-add_all.ensures.place)

pub returns-clause-ok : goal.returns-clause-ok
returns-clause-ok g c =
    let value = g.F.Field.value in
    let rows = c.args.rows.now in
    let t = numbers value rows.list in
    let picks : List ℕ = c.in_ok-picks.picks in
    let after = c.add_all.new.dd in
    let first_is = c.in_ok-first.ensures.rows ∙ ap (map (row_of t)) c.as_slice-2.ensures.items in
    let more_is = c.in_ok-more.ensures.rows ∙ ap (map (row_of t)) (c.as_slice-3.ensures.items ∙ c.in_ok-others.ensures
    ∙ ap₂ others (c.count.ensures ∙ sym (numbers_long value rows.list)) c.as_slice.ensures.items) in
    let all_is = c.in_ok-add_all.ensures.rows ∙ ap₂ (λ (a b : List (List ℚ)). a ++ b) (c.in_ok-dd.ensures.rows ∙ first_is) more_is in
    let started_width = c.in_ok-dd.ensures.width ∙ c.in_ok-first.ensures.width in
    record {
      width = c.in_ok-add_all.ensures.width ∙ started_width;
      picks = picks;
      independent = c.in_ok-picks.ensures.ok;
      rows_are = all_is;
      made = subst (λ (n : ℕ). IsMadeOver n after.rows after.list) started_width c.in_ok-add_all.ensures.made;
    }

pub returns-in_err-picks-clause-told : goal.returns-in_err-picks-clause-told
returns-in_err-picks-clause-told g c =
    err_holds c.from_residual.result c.in_err-picks.field-0.0 _ c.from_residual.ensures.1 c.in_err-picks.ensures.told

pub returns-in_err-dd-clause-told : goal.returns-in_err-dd-clause-told
returns-in_err-dd-clause-told g c =
    err_holds c.from_residual-in_err-dd.result c.in_err-dd.field-0.0 _ c.from_residual-in_err-dd.ensures.1 c.in_err-dd.ensures.told

pub returns-in_err-add_all-clause-told : goal.returns-in_err-add_all-clause-told
returns-in_err-add_all-clause-told g c =
    err_holds c.from_residual-in_err-add_all.result c.in_err-add_all.field-0.0 _ c.from_residual-in_err-add_all.ensures.1 c.in_err-add_all.ensures.told
