use Rattle.std.proofs.Common.{◌∙◌, ◌∷◌, ap}
use Rattle.src_sink.specs.Texts.{pieces_after}
use Rattle.commands.proofs.WeightWords.{taken_good, taken_more, taken_last}
use Rattle.commands.proofs.weights.weights_of.Goals as goal

pub weight_of-requires : goal.weight_of-requires
weight_of-requires c = taken_good c.args.word.now c.loop-weights.rest.now c.loop-weights.weights c.first_piece.result.0.now (pieces_after 44 c.first_piece.result.1) c.loop-weights.invariant c.first_piece.ensures.pieces

pub loop-weights-preserved : goal.loop-weights-preserved
loop-weights-preserved c =
    taken_more c.args.word.now c.loop-weights.rest.now c.in-Some.more.now c.loop-weights.weights c.push.new.self c.weight_of.result c.first_piece.result.0.now c.loop-weights.invariant
    (c.first_piece.ensures.pieces ∙ ap (λ o. c.first_piece.result.0.now ∷ pieces_after 44 o) c.in-Some.is)
    c.weight_of.ensures.held c.weight_of.ensures.text c.in_ok-push.ensures.ok

pub returns-in-None : goal.returns-in-None
returns-in-None c =
    taken_last c.args.word.now c.loop-weights.rest.now c.loop-weights.weights c.push.new.self c.weight_of.result c.first_piece.result.0.now c.loop-weights.invariant
    (c.first_piece.ensures.pieces ∙ ap (λ o. c.first_piece.result.0.now ∷ pieces_after 44 o) c.in-None.is)
    c.weight_of.ensures.held c.weight_of.ensures.text c.in_ok-push.ensures.ok
