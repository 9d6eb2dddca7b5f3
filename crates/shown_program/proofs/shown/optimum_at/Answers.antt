use Rattle.std.proofs.Common.{◌≡◌, ◌∙◌, ap, ap₂, length, map}
use Rattle.tableaux.specs.Dictionary.{value_of_column}
use Rattle.tableaux.specs.Table.{listed}
use Rattle.shown_program.specs.Guesses.{order_of}
use Rattle.shown_program.proofs.Shows.{shows_at}
use Rattle.shown_program.proofs.shown.optimum_at.Goals as goal

pub returns-clause-certified : goal.returns-clause-certified
returns-clause-certified g c = λ s of.
    let value = g.F.Field.value in
    let p = c.args.program.now in
    let guess = c.args.guess.now in
    let columns = c.as_slice-columns.ensures.items in
    let x = c.as_slice.ensures.items in
    let x_is : map value c.in_ok-x.x
    ≡ listed (length p.cost) (value_of_column guess.columns (map value guess.x)) =
    c.in_ok-x.ensures
    ∙ ap (λ n. listed n (value_of_column c.as_slice-columns.result.now
    (map value c.as_slice.result.now))) c.len.ensures.value
    ∙ ap₂ (λ cs xs. listed (length p.cost) (value_of_column cs (map value xs))) columns x in
    (shows_at value s p of guess.columns (map value guess.x) (map value guess.y)
    (order_of guess.order) (c.in_ok-passes.ensures c.if-not-branch.false) c.in_ok-x.x
    c.in_ok-dual.dual c.in_ok-basis.basis x_is
    (ap (map value) (c.in_ok-dual.ensures ∙ c.as_slice-2.ensures.items))
    (c.in_ok-basis.ensures ∙ columns)).0

pub returns-clause-read_off : goal.returns-clause-read_off
returns-clause-read_off g c = λ s of.
    let value = g.F.Field.value in
    let p = c.args.program.now in
    let guess = c.args.guess.now in
    let columns = c.as_slice-columns.ensures.items in
    let x = c.as_slice.ensures.items in
    let x_is : map value c.in_ok-x.x
    ≡ listed (length p.cost) (value_of_column guess.columns (map value guess.x)) =
    c.in_ok-x.ensures
    ∙ ap (λ n. listed n (value_of_column c.as_slice-columns.result.now
    (map value c.as_slice.result.now))) c.len.ensures.value
    ∙ ap₂ (λ cs xs. listed (length p.cost) (value_of_column cs (map value xs))) columns x in
    (shows_at value s p of guess.columns (map value guess.x) (map value guess.y)
    (order_of guess.order) (c.in_ok-passes.ensures c.if-not-branch.false) c.in_ok-x.x
    c.in_ok-dual.dual c.in_ok-basis.basis x_is
    (ap (map value) (c.in_ok-dual.ensures ∙ c.as_slice-2.ensures.items))
    (c.in_ok-basis.ensures ∙ columns)).1
