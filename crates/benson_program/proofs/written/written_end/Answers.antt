use Rattle.std.proofs.Common.{◌∙◌, ap, map, subst, IfOk, IfErr}
use Rattle.tableaux.specs.Table.{System}
use Rattle.exact_simplex.specs.Ends.{IsCertified, IsLpFault, IsReadOff}
use Rattle.lp_form.specs.Programs.{benson_system}
use Rattle.benson_program.proofs.Renewed.{benson_kept}
use Rattle.benson_program.proofs.written.written_end.Goals as goal

pub invariant_of-last : goal.invariant_of-last
invariant_of-last g c = λ file own.
    let value = g.F.Field.value in
    benson_kept value file c.args.form.now c.in_ok-own_form.own_form c.args.c.now c.in_ok-own_c.own_c c.args.v.now c.args.t c.in_ok-system.system c.solve_lp_next-end.new.kept
    c.in_ok-own_form.ensures c.in_ok-own_c.ensures c.requires.v
    (λ file stands. (c.in_ok-system.ensures file stands).numbers ∙ ap (λ x. benson_system file (map value c.args.c.now) (map value x) c.args.t) c.in_ok-copy.ensures)
    c.solve_lp_next-end.ensures.kept own

pub returns-clause-certified : goal.returns-clause-certified
returns-clause-certified g c = λ file stands.
    let value = g.F.Field.value in
    subst (λ (s : System). IfOk c.solve_lp_next-end.result (IsCertified value s))
    ((c.in_ok-system.ensures file stands).numbers ∙ ap (λ x. benson_system file (map value c.args.c.now) (map value x) c.args.t) c.in_ok-copy.ensures)
    c.solve_lp_next-end.ensures.certified

pub returns-clause-read_off : goal.returns-clause-read_off
returns-clause-read_off g c = λ file stands.
    let value = g.F.Field.value in
    subst (λ (s : System). IfOk c.solve_lp_next-end.result (IsReadOff value s))
    ((c.in_ok-system.ensures file stands).numbers ∙ ap (λ x. benson_system file (map value c.args.c.now) (map value x) c.args.t) c.in_ok-copy.ensures)
    c.solve_lp_next-end.ensures.read_off

pub returns-clause-left : goal.returns-clause-left
returns-clause-left g c = λ file stands.
    let value = g.F.Field.value in
    subst (λ (s : System). IfErr c.solve_lp_next-end.result (IsLpFault value g.F.Field.holds s))
    ((c.in_ok-system.ensures file stands).numbers ∙ ap (λ x. benson_system file (map value c.args.c.now) (map value x) c.args.t) c.in_ok-copy.ensures)
    c.solve_lp_next-end.ensures.left
