use Rattle.std.proofs.Common.{◌≡◌, ◌≤◌, ◌+◌, ℕ, arith, inl, inr, map, refl, subst}
use Rattle.std.proofs.lemmas.Bool.{cases_lt}
use Rattle.exact_field.specs.Rational.{zero_ℚ, ◌≤ℚ◌}
use Rattle.exact_field.specs.Vector.{dot}
use Rattle.program_columns.specs.Program.{column_in}
use Rattle.shown_program.proofs.farkas.are_not_below.Goals as goal

pub loop-k-preserved : goal.loop-k-preserved
loop-k-preserved g c = λ k low high.
    let value = g.F.Field.value in
    elim (cases_lt c.loop-k.k k) [
      | inl last ↦
          let same : c.loop-k.k + 1 ≡ k = omega arith in
          subst (λ (j : ℕ). zero_ℚ ≤ℚ dot (map value c.args.y.now) (column_in value c.args.program.now j))
          same (c.if-not-is_not_below.ensures refl)
      | inr earlier ↦ c.loop-k.invariant k low earlier
    ]

pub returns : goal.returns
returns g c = λ told k low high. c.loop-k.invariant k low (omega arith)
