use Rattle.std.proofs.Common.{length, map, subst}
use Rattle.exact_simplex.specs.Ends.{IsCertified}
use Rattle.lin_rows.specs.Read.{numbers}
use Rattle.lp_form.specs.Data.{cone_of}
use Rattle.lp_form.specs.Programs.{nonzero_vectors, pointed_system}
use Rattle.tableaux.specs.Simplex.{IsUnbounded}
use Rattle.tableaux.specs.Table.{System}
use Rattle.vlp_problem.specs.declared.problem.Cone.TheVariants.{Gens}
use Rattle.cone_rules.proofs.Pointed.{pointed_program}
use Rattle.cone_dual.proofs.combining.zero_combination.Goals as goal

pub unreachable-requires : goal.unreachable-requires
unreachable-requires g c =
    let value = g.F.Field.value in
    let form = c.args.form.now in
    let q = length form.p in
    let x = map value c.in-Unbounded.x in
    let ray = map value c.in-Unbounded.ray in
    pointed_program.bounded q (nonzero_vectors (Gens (numbers value c.args.vectors.now))) x ray
    (subst (λ (s : System). IsUnbounded s x ray) c.requires.program
    (subst (λ e. IsCertified value (pointed_system q (cone_of value form.cone)) e) c.in-Unbounded.is c.in_ok-x.ensures.certified))
