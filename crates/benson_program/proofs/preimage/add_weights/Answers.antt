use Rattle.std.proofs.Common.{map, subst, ap, ◌∙◌, arith}
use Rattle.std.proofs.lemmas.List.{length-map}
use Rattle.exact_field.specs.Rational.{ℚ, zero_ℚ, neg_ℚ, ◌<ℚ◌}
use Rattle.lin_rows.specs.Read.{numbers}
use Rattle.benson_program.proofs.Weighed.{weighed_left}
use Rattle.benson_program.proofs.preimage.add_weights.Goals as goal

pub returns-in-Err-clause-left : goal.returns-in-Err-clause-left
returns-in-Err-clause-left g c = λ s y read last share weights.
    let value = g.F.Field.value in
    weighed_left value g.F.Field.holds s y (map value c.args.share.now) (map value c.args.weights.now) (value c.neg.result) c.in-Err.fault c.elimination_fault.result
    (numbers value c.new-rows.result.list) c.new.result c.new.ensures (ap (numbers value) c.new-rows.ensures.rows) read share weights
    (subst (λ (q : ℚ). q <ℚ zero_ℚ) last c.requires.negative) (c.neg.ensures ∙ ap neg_ℚ last) (omega (arith, length-map c.args.share.now value, length-map c.args.weights.now value, c.requires.same))
    c.elimination_fault.ensures.told c.in-Err.ensures.left
