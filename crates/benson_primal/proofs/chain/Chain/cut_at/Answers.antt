use Rattle.std.proofs.Common.{rules, ap, ◌∙◌, ◌++◌, ◌∷◌, [], arith, length}
use Rattle.benson_primal.proofs.chain.Chain.cut_at.Goals as goal

pub ask-requires : goal.ask-requires
ask-requires g c κs within =
    let h = c.requires.1 in
    let k = h.known in
    let one = c.in_ok-push.ensures.ok ∙ ap (λ l. l ++ c.args.x ∷ []) c.new-v.ensures in
    let long = ap length (c.as_slice.ensures.items ∙ c.in_ok-push-2.ensures.ok ∙ ap (λ l. l ++ c.args.y ∷ []) one) in
    (search rules, (k.stands, (k.c_is, (k.weights_is, (k.fitting, (omega (arith, long, h.two), k.proper))))))
