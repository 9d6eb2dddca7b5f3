use Rattle.std.proofs.Common.{◌≡◌, arith, ap, sym, ◌∙◌}
use Rattle.commands.specs.Weights.{pieces}
use Rattle.commands.proofs.WeightWords.{passes, many_pieces}
use Rattle.commands.proofs.weights.are_weights.Goals as goal

pub returns : goal.returns
returns c =
    let all : c.loop.counter ≡ 20 = omega arith in
    sym (c.loop.invariant ∙ ap (λ n. passes n (pieces c.loop.rest.now)) all ∙ many_pieces c.loop.rest.now)
