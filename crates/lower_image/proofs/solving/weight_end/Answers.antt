use Rattle.std.proofs.Common.{◌≡◌, ◌∙◌, map, ap, inl, refl, rules, subst, sym}
use Rattle.std.proofs.lemmas.List.{length-map}
use Rattle.lp_form.specs.Names.{named}
use Rattle.lp_form.specs.Programs.{weight_system, named_system}
use Rattle.lp_form.specs.declared.name.LpName.{LpName}
use Rattle.lp_form.proofs.Figures.{objective_number}
use Rattle.overflows.specs.Dictionaries.{IsAllowed, system_in}
use Rattle.benson_program.proofs.Said.{optimum, empty, unbounded}
use Rattle.lower_image.proofs.WeightEnds.{weight_bounded}
use Rattle.lower_image.proofs.solving.weight_end.Goals as goal

pub returns-in_err-x-clause-left : goal.returns-in_err-x-clause-left
returns-in_err-x-clause-left g c = λ s stands known weight.
    let F = g.row.F.Denot in
    let value = g.F.Field.value in
    let h = c.in_err-x.ensures.left s stands
    (subst (λ (n : LpName F). IsAllowed s (named value n)) (sym c.in_ok-name.ensures) (inl (map value c.args.c.now, known, weight)))
    (subst (λ (n : LpName F). named_system s.file (map value c.args.c.now) (named value n) ≡ system_in s (named value n)) (sym c.in_ok-name.ensures) refl) in
    search (rules, h)

pub returns-in-Optimal-clause-ok : goal.returns-in-Optimal-clause-ok
returns-in-Optimal-clause-ok g c = λ file stands.
    let value = g.F.Field.value in
    let a = c.in-Optimal in
    let end = c.in_ok-x in
    optimum value (named_system file (map value c.args.c.now) (named value c.in_ok-name.name)) (weight_system file (map value c.args.w.now))
    (ap (λ n. named_system file (map value c.args.c.now) (named value n)) c.in_ok-name.ensures) end.field-0 a.x a.dual a.basis a.is
    (end.ensures.certified file stands) (end.ensures.read_off file stands)

pub returns-in-Infeasible-clause-ok : goal.returns-in-Infeasible-clause-ok
returns-in-Infeasible-clause-ok g c = λ file stands.
    let value = g.F.Field.value in
    let a = c.in-Infeasible in
    let end = c.in_ok-x in
    empty value (named_system file (map value c.args.c.now) (named value c.in_ok-name.name)) (weight_system file (map value c.args.w.now))
    (ap (λ n. named_system file (map value c.args.c.now) (named value n)) c.in_ok-name.ensures) end.field-0 a.farkas a.basis a.is
    (end.ensures.certified file stands) (end.ensures.read_off file stands)

pub unreachable-requires : goal.unreachable-requires
unreachable-requires g c =
    let value = g.F.Field.value in
    let a = c.in-Unbounded in
    let end = c.in_ok-x in
    let start = c.requires.solvable in
    weight_bounded start.file (map value c.args.w.now) (map value a.x) (map value a.ray) start.solvable.0
    (length-map c.args.w.now value ∙ c.requires.w ∙ objective_number value start.file c.args.form.now start.stands) start.solvable.1
    (unbounded value (named_system start.file (map value c.args.c.now) (named value c.in_ok-name.name)) (weight_system start.file (map value c.args.w.now))
    (ap (λ n. named_system start.file (map value c.args.c.now) (named value n)) c.in_ok-name.ensures) end.field-0 a.x a.ray a.basis a.is
    (end.ensures.certified start.file start.stands))
