use Rattle.std.proofs.Common.{◌+◌, ℕ, sym, subst, arith, length, ◌<◌, Option}
use Rattle.exact_field.specs.Rational.{zero_ℚ}
use Rattle.exact_field.proofs.Inequalities.{le_refl_ℚ}
use Rattle.exact_simplex.specs.declared.ratio.Candidate.{Candidate}
use Rattle.exact_simplex.proofs.Testing.{not_negative}
use Rattle.exact_simplex.proofs.Choosing.{IsBestSo, candidate_found, candidate_kept, candidate_kept_else, candidate_ends}
use Rattle.exact_simplex.proofs.ratio.best_column.Goals as goal
use Rattle.exact_simplex.proofs.ratio.best_column.Goals.{then-spot-count+then-is_negative, else-spot-count, else-spot-count-via-then-spot-count+else-is_negative, else-spot-count-via-else-spot-count}

pub loop-spot-preserved : goal.loop-spot-preserved
loop-spot-preserved g c =
    let value = g.F.Field.value in
    let row = c.args.row.now in
    let i = c.loop-spot.spot-index in
    let spot = c.spot-item.result in
    let count : ℕ = c.args.count in
    let inside : i < length row = omega arith in
    elim c.if-spot-count.branch [
      | then-spot-count+then-is_negative w ↦
          subst (λ (o : Option Candidate). IsBestSo value row count (i + 1) o) (sym w.best-is)
          (candidate_found value row count i spot inside c.spot-item.is c.loop-spot.best w.better_column.result w.better_column.ensures w.if-spot-count.true
          (w.is_negative.ensures.fact.0 w.if-is_negative.true) c.loop-spot.invariant)
      | else-spot-count w ↦
          subst (λ (o : Option Candidate). IsBestSo value row count (i + 1) o) (sym w.best-is) (elim w.else-spot-count.branch [
            | else-spot-count-via-then-spot-count+else-is_negative v ↦
                candidate_kept value row count i spot inside c.spot-item.is c.loop-spot.best
                (not_negative v.is_negative.result (value spot.value) v.is_negative.ensures.fact v.if-is_negative.false) c.loop-spot.invariant
            | else-spot-count-via-else-spot-count v ↦
                candidate_kept_else value row count i spot inside c.spot-item.is c.loop-spot.best v.if-spot-count.false c.loop-spot.invariant
          ])
    ]

pub returns : goal.returns
returns g c = candidate_ends g.F.Field.value c.args.row.now c.args.count c.loop-spot.spot-index c.loop-spot.best (omega arith) c.loop-spot.invariant

pub loop-spot-init : goal.loop-spot-init
loop-spot-init g c = λ j l. le_refl_ℚ zero_ℚ
