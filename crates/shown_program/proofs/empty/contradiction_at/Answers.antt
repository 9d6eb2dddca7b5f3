use Rattle.std.proofs.Common.{◌∙◌, ap, map}
use Rattle.shown_program.specs.Guesses.{order_of}
use Rattle.shown_program.proofs.Shows.{shows_empty_at}
use Rattle.shown_program.proofs.empty.contradiction_at.Goals as goal

pub returns-clause-certified : goal.returns-clause-certified
returns-clause-certified g c = λ s of.
    let value = g.F.Field.value in
    let guess = c.args.guess.now in
    (shows_empty_at value s c.args.program.now of guess.columns (map value guess.y)
    (order_of guess.order) (c.in_ok-passes.ensures c.if-not-branch.false) c.in_ok-farkas.farkas
    c.in_ok-basis.basis
    (ap (map value) (c.in_ok-farkas.ensures ∙ c.as_slice.ensures.items))
    (c.in_ok-basis.ensures ∙ c.as_slice-2.ensures.items)).0

pub returns-clause-read_off : goal.returns-clause-read_off
returns-clause-read_off g c = λ s of.
    let value = g.F.Field.value in
    let guess = c.args.guess.now in
    (shows_empty_at value s c.args.program.now of guess.columns (map value guess.y)
    (order_of guess.order) (c.in_ok-passes.ensures c.if-not-branch.false) c.in_ok-farkas.farkas
    c.in_ok-basis.basis
    (ap (map value) (c.in_ok-farkas.ensures ∙ c.as_slice.ensures.items))
    (c.in_ok-basis.ensures ∙ c.as_slice-2.ensures.items)).1
