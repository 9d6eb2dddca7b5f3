use Rattle.std.proofs.Common.{map, ap}
use Rattle.lp_form.specs.Names.{named}
use Rattle.lp_form.specs.Programs.{benson_system, named_system}
use Rattle.benson_program.proofs.Bound.{bounded}
use Rattle.benson_program.proofs.Said.{optimum, empty, unbounded}
use Rattle.benson_program.proofs.solving.benson_end.Goals as goal

pub returns-in-Optimal-clause-ok : goal.returns-in-Optimal-clause-ok
returns-in-Optimal-clause-ok g c = λ file stands.
    let value = g.F.Field.value in
    let a = c.in-Optimal in
    let end = c.in_ok-x in
    optimum value (named_system file (map value c.args.c.now) (named value c.in_ok-name.name))
    (benson_system file (map value c.args.c.now) (map value c.args.v.now) c.args.t)
    (ap (λ n. named_system file (map value c.args.c.now) (named value n)) c.in_ok-name.ensures) end.field-0 a.x a.dual a.basis a.is
    (end.ensures.certified file stands) (end.ensures.read_off file stands)

pub returns-in-Infeasible-clause-ok : goal.returns-in-Infeasible-clause-ok
returns-in-Infeasible-clause-ok g c = λ file stands.
    let value = g.F.Field.value in
    let a = c.in-Infeasible in
    let end = c.in_ok-x in
    empty value (named_system file (map value c.args.c.now) (named value c.in_ok-name.name))
    (benson_system file (map value c.args.c.now) (map value c.args.v.now) c.args.t)
    (ap (λ n. named_system file (map value c.args.c.now) (named value n)) c.in_ok-name.ensures) end.field-0 a.farkas a.basis a.is
    (end.ensures.certified file stands) (end.ensures.read_off file stands)

pub unreachable-requires : goal.unreachable-requires
unreachable-requires g c =
    let value = g.F.Field.value in
    let a = c.in-Unbounded in
    let end = c.in_ok-x in
    let start = c.requires.start in
    bounded value c.args.form.now (map value c.args.c.now) c.args.v.now c.args.t start c.requires.v (map value a.x) (map value a.ray)
    (unbounded value (named_system start.file (map value c.args.c.now) (named value c.in_ok-name.name))
    (benson_system start.file (map value c.args.c.now) (map value c.args.v.now) c.args.t)
    (ap (λ n. named_system start.file (map value c.args.c.now) (named value n)) c.in_ok-name.ensures) end.field-0 a.x a.ray a.basis a.is
    (end.ensures.certified start.file start.stands))
