use Rattle.std.proofs.Common.{◌≡◌, ◌∷◌, ◌∙◌, ap, ap₂, length, map}
use Rattle.exact_field.specs.Rational.{one_ℚ}
use Rattle.tableaux.specs.Dictionary.{value_of_column}
use Rattle.tableaux.specs.Table.{listed}
use Rattle.shown_program.specs.Guesses.{order_of}
use Rattle.shown_program.proofs.Shows.{shows_ray_at}
use Rattle.shown_program.proofs.ray.ray_at.Goals as goal

pub returns-clause-certified : goal.returns-clause-certified
returns-clause-certified g c = λ s of.
    let value = g.F.Field.value in
    let p = c.args.program.now in
    let guess = c.args.guess.now in
    let columns = c.as_slice-columns.ensures.items in
    let x_is : map value c.in_ok-x.x
    ≡ listed (length p.cost) (value_of_column guess.columns (map value guess.x)) =
    c.in_ok-x.ensures
    ∙ ap (λ n. listed n (value_of_column c.as_slice-columns.result.now
    (map value c.as_slice.result.now))) c.len-unknowns.ensures.value
    ∙ ap₂ (λ cs xs. listed (length p.cost) (value_of_column cs (map value xs))) columns
    c.as_slice.ensures.items in
    let raised : c.as_slice-3.result.now ≡ guess.col ∷ guess.columns =
    c.as_slice-3.ensures.items ∙ c.in_ok-raised.ensures ∙ ap (λ cs. guess.col ∷ cs) columns in
    let changes : map value c.as_slice-4.result.now ≡ one_ℚ ∷ map value guess.changes =
    ap (map value) (c.as_slice-4.ensures.items ∙ c.in_ok-changes.ensures)
    ∙ ap₂ (λ q vs. q ∷ vs) c.one.ensures (ap (map value) c.as_slice-2.ensures.items) in
    let ray_is : map value c.in_ok-ray.ray ≡ listed (length p.cost)
    (value_of_column (guess.col ∷ guess.columns) (one_ℚ ∷ map value guess.changes)) =
    c.in_ok-ray.ensures
    ∙ ap (λ n. listed n (value_of_column c.as_slice-3.result.now
    (map value c.as_slice-4.result.now))) c.len-unknowns.ensures.value
    ∙ ap₂ (λ cs vs. listed (length p.cost) (value_of_column cs vs)) raised changes in
    (shows_ray_at value s p of guess.columns (map value guess.x) guess.col
    (map value guess.changes) (order_of guess.order)
    (c.in_ok-passes.ensures c.if-not-branch.false) c.in_ok-x.x c.in_ok-ray.ray
    c.in_ok-basis.basis x_is ray_is (c.in_ok-basis.ensures ∙ columns)).0

pub returns-clause-read_off : goal.returns-clause-read_off
returns-clause-read_off g c = λ s of.
    let value = g.F.Field.value in
    let p = c.args.program.now in
    let guess = c.args.guess.now in
    let columns = c.as_slice-columns.ensures.items in
    let x_is : map value c.in_ok-x.x
    ≡ listed (length p.cost) (value_of_column guess.columns (map value guess.x)) =
    c.in_ok-x.ensures
    ∙ ap (λ n. listed n (value_of_column c.as_slice-columns.result.now
    (map value c.as_slice.result.now))) c.len-unknowns.ensures.value
    ∙ ap₂ (λ cs xs. listed (length p.cost) (value_of_column cs (map value xs))) columns
    c.as_slice.ensures.items in
    let raised : c.as_slice-3.result.now ≡ guess.col ∷ guess.columns =
    c.as_slice-3.ensures.items ∙ c.in_ok-raised.ensures ∙ ap (λ cs. guess.col ∷ cs) columns in
    let changes : map value c.as_slice-4.result.now ≡ one_ℚ ∷ map value guess.changes =
    ap (map value) (c.as_slice-4.ensures.items ∙ c.in_ok-changes.ensures)
    ∙ ap₂ (λ q vs. q ∷ vs) c.one.ensures (ap (map value) c.as_slice-2.ensures.items) in
    let ray_is : map value c.in_ok-ray.ray ≡ listed (length p.cost)
    (value_of_column (guess.col ∷ guess.columns) (one_ℚ ∷ map value guess.changes)) =
    c.in_ok-ray.ensures
    ∙ ap (λ n. listed n (value_of_column c.as_slice-3.result.now
    (map value c.as_slice-4.result.now))) c.len-unknowns.ensures.value
    ∙ ap₂ (λ cs vs. listed (length p.cost) (value_of_column cs vs)) raised changes in
    (shows_ray_at value s p of guess.columns (map value guess.x) guess.col
    (map value guess.changes) (order_of guess.order)
    (c.in_ok-passes.ensures c.if-not-branch.false) c.in_ok-x.x c.in_ok-ray.ray
    c.in_ok-basis.basis x_is ray_is (c.in_ok-basis.ensures ∙ columns)).1
