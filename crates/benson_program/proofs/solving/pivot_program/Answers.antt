use Rattle.std.proofs.Common.{◌∙◌, List, ap, map, subst, sym, IfOk, IfErr}
use Rattle.exact_field.specs.Rational.{ℚ}
use Rattle.tableaux.specs.Table.{System}
use Rattle.exact_simplex.specs.Ends.{IsCertified, IsLpFault, IsReadOff}
use Rattle.lp_form.specs.Names.{named}
use Rattle.lp_form.specs.Programs.{benson_system, named_system}
use Rattle.benson_program.proofs.solving.pivot_program.Goals as goal

pub returns-in-Benson-clause-read_off : goal.returns-in-Benson-clause-read_off
returns-in-Benson-clause-read_off g c = λ file stands.
    let value = g.F.Field.value in
    let cv : List ℚ = map value c.args.c.now in
    subst (λ (s : System). IfOk c.pivot_benson.result (IsReadOff value s))
    (ap (λ v. benson_system file cv (map value v) c.in-Benson.t) c.as_slice.ensures.items ∙ sym (ap (λ n. named_system file cv (named value n)) c.in-Benson.is))
    (c.pivot_benson.ensures.read_off file stands)

pub returns-in-Benson-clause-left : goal.returns-in-Benson-clause-left
returns-in-Benson-clause-left g c = λ file stands.
    let value = g.F.Field.value in
    let cv : List ℚ = map value c.args.c.now in
    subst (λ (s : System). IfErr c.pivot_benson.result (IsLpFault value g.F.Field.holds s))
    (ap (λ v. benson_system file cv (map value v) c.in-Benson.t) c.as_slice.ensures.items ∙ sym (ap (λ n. named_system file cv (named value n)) c.in-Benson.is))
    (c.pivot_benson.ensures.left file stands)

pub returns : goal.returns
returns g c =
    let value = g.F.Field.value in
    record {
      certified = λ file stands. subst (λ (s : System). IfOk c.solve_lp.result (IsCertified value s)) (c.in_ok-system.ensures file stands).numbers c.solve_lp.ensures.certified;
      read_off = λ file stands. subst (λ (s : System). IfOk c.solve_lp.result (IsReadOff value s)) (c.in_ok-system.ensures file stands).numbers c.solve_lp.ensures.read_off;
      left = λ file stands. subst (λ (s : System). IfErr c.solve_lp.result (IsLpFault value g.F.Field.holds s)) (c.in_ok-system.ensures file stands).numbers c.solve_lp.ensures.left;
    }
