use Rattle.std.proofs.Common.{map, refl}
use Rattle.lp_form.specs.Programs.{feasible_system}
use Rattle.benson_program.proofs.Feasible.{feasible_ends}
use Rattle.benson_program.proofs.Said.{optimum, empty, unbounded, ray_off, contradiction, chosen}
use Rattle.benson_program.proofs.solving.feasible_end.Goals as goal

pub returns-in-Optimal-clause-ok : goal.returns-in-Optimal-clause-ok
returns-in-Optimal-clause-ok g c = λ file stands.
    let value = g.F.Field.value in
    let a = c.in-Optimal in
    let end = c.in_ok-dual in
    chosen file a.basis (map value a.x) (map value a.dual)
    (optimum value (feasible_system file) (feasible_system file) refl end.field-0 a.x a.dual a.basis a.is (end.ensures.certified file stands)
    (end.ensures.read_off file stands))

pub returns-in-Unbounded-clause-ok : goal.returns-in-Unbounded-clause-ok
returns-in-Unbounded-clause-ok g c = λ file stands.
    let value = g.F.Field.value in
    let a = c.in-Unbounded in
    let end = c.in_ok-dual in
    contradiction file (map value a.x) (map value a.ray)
    (unbounded value (feasible_system file) (feasible_system file) refl end.field-0 a.x a.ray a.basis a.is (end.ensures.certified file stands))
    (ray_off value (feasible_system file) (feasible_system file) refl end.field-0 a.x a.ray a.basis a.is (end.ensures.read_off file stands))

pub unreachable-requires : goal.unreachable-requires
unreachable-requires g c =
    let value = g.F.Field.value in
    let a = c.in-Infeasible in
    let end = c.in_ok-dual in
    let file = c.requires.0 in
    let stands = c.requires.1 in
    let none = empty value (feasible_system file) (feasible_system file) refl end.field-0 a.farkas a.basis a.is (end.ensures.certified file stands)
    (end.ensures.read_off file stands) in
    feasible_ends.solvable file (map value a.farkas) none.infeasible
