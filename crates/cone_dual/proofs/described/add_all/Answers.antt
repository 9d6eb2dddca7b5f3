use Rattle.std.proofs.Common.{ℕ, ◌+◌, List, [], ◌∷◌, ◌++◌, ap, ap₂, sym, ◌∙◌, arith, append_assoc, length, map, take, drop, subst, ◌<◌, All, Contains, slice_index_or}
use Rattle.std.proofs.lemmas.List.{take-append-drop}
use Rattle.exact_field.specs.Rational.{ℚ}
use Rattle.double_descr.specs.State.{State}
use Rattle.lin_rows.specs.Read.{numbers}
use Rattle.lin_rows.proofs.Building.{numbers_long}
use Rattle.lin_rows.proofs.Errors.{err_holds}
use Rattle.overflows.specs.Generators.{IsAddition, IsMadeOver}
use Rattle.overflows.proofs.Making.{generator_laws}
use Rattle.cone_dual.proofs.Licences.{front_listed, told_more}
use Rattle.cone_dual.proofs.Reading.{front_is, next_may, read_row}
use Rattle.cone_dual.proofs.described.add_all.Goals as goal

pub returns-in_err-add_row-clause-left : goal.returns-in_err-add_row-clause-left
returns-in_err-add_row-clause-left g c = λ s may.
    let value = g.F.Field.value in
    let family = c.args.family in
    let list = c.args.rows.now.list in
    let dd = c.args.dd.now in
    let k : ℕ = c.loop-k.k in
    let live = c.loop-k.dd.list in
    let t = numbers value list in
    let inside : k < length list = omega (arith, c.loop-k-test.true, c.count-k-end.ensures) in
    let within : k < length t = omega (arith, inside, numbers_long value list) in
    let row_is = read_row value list k c.row.result.now c.row.ensures.row inside in
    let rows_are = c.loop-k.invariant.rows in
    let added : IsAddition s c.loop-k.dd.rows (map value c.row.result.now) live family =
    subst (λ (r : List ℚ). IsAddition s c.loop-k.dd.rows r live family) (sym row_is)
    (subst (λ (rs : List (List ℚ)). IsAddition s rs (slice_index_or t k []) live family) (sym rows_are)
    (next_may s family dd.width dd.rows t k live within may
    (subst (λ (rs : List (List ℚ)). IsMadeOver dd.width rs live) rows_are c.loop-k.invariant.made))) in
    err_holds c.from_residual.result c.in_err-add_row.field-0.0 _ c.from_residual.ensures.1 (c.in_err-add_row.ensures.left s added)

pub returns-in_err-add_row-clause-place : goal.returns-in_err-add_row-clause-place
returns-in_err-add_row-clause-place g c =
    let value = g.F.Field.value in
    let list = c.args.rows.now.list in
    let dd = c.args.dd.now in
    let k : ℕ = c.loop-k.k in
    let t = numbers value list in
    let inside : k < length list = omega (arith, c.loop-k-test.true, c.count-k-end.ensures) in
    let within : k < length t = omega (arith, inside, numbers_long value list) in
    let so_far = ap₂ (λ (rs : List (List ℚ)) (r : List ℚ). rs ++ r ∷ []) c.loop-k.invariant.rows (read_row value list k c.row.result.now c.row.ensures.row inside) in
    let front = so_far ∙ front_is dd.rows t k within in
    let whole = append_assoc dd.rows (take (k + 1) t) (drop (k + 1) t) ∙ ap (λ (xs : List (List ℚ)). dd.rows ++ xs) (take-append-drop (k + 1) t) in
    let fault = c.in_err-add_row.field-0.0 in
    err_holds c.from_residual.result fault _ c.from_residual.ensures.1
    (told_more c.args.family (c.loop-k.dd.rows ++ map value c.row.result.now ∷ []) (dd.rows ++ t)
    (subst (λ (xs : List (List ℚ)). All (Contains (dd.rows ++ t)) xs) (sym front)
    (subst (λ (xs : List (List ℚ)). All (Contains xs) (dd.rows ++ take (k + 1) t)) whole (front_listed (dd.rows ++ take (k + 1) t) (drop (k + 1) t)))) fault
    c.in_err-add_row.ensures.place)

pub loop-k-preserved : goal.loop-k-preserved
loop-k-preserved g c =
    let value = g.F.Field.value in
    let list = c.args.rows.now.list in
    let dd = c.args.dd.now in
    let k : ℕ = c.loop-k.k in
    let inside : k < length list = omega (arith, c.loop-k-test.true, c.count-k-end.ensures) in
    let within : k < length (numbers value list) = omega (arith, inside, numbers_long value list) in
    let added = c.in_ok-add_row.ensures.ok in
    record {
      width = ap (λ (s : State). s.width) added ∙ c.loop-k.invariant.width;
      rows = ap (λ (s : State). s.rows) added
          ∙ ap₂ (λ (rs : List (List ℚ)) (r : List ℚ). rs ++ r ∷ []) c.loop-k.invariant.rows (read_row value list k c.row.result.now c.row.ensures.row inside)
          ∙ front_is dd.rows (numbers value list) k within;
      made = subst (λ (s : State). IsMadeOver dd.width s.rows s.list) (sym added)
          (generator_laws.grows dd.width c.loop-k.dd.rows c.loop-k.dd.list (map value c.row.result.now) c.loop-k.invariant.made);
    }

pub returns-in_err-add_row-clause-told : goal.returns-in_err-add_row-clause-told
returns-in_err-add_row-clause-told g c =
    err_holds c.from_residual.result c.in_err-add_row.field-0.0 _ c.from_residual.ensures.1 c.in_err-add_row.ensures.told
