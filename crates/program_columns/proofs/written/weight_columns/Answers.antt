use Rattle.std.proofs.Common.{ap, inl, inr, subst, sym}
use Rattle.lp_form.specs.Data.{cone_of}
use Rattle.program_columns.specs.Written.{IsDirect}
use Rattle.program_columns.proofs.written.weight_columns.Goals as goal

pub given_columns-requires-clause-direct : goal.given_columns-requires-clause-direct
given_columns-requires-clause-direct g c =
    let value = g.F.Field.value in
    elim c.in-Orthant.is [
      | inl e ↦ subst IsDirect (sym (ap (cone_of value) e)) tt
      | inr d ↦ subst IsDirect (sym (ap (cone_of value) d.1)) tt
    ]
