use Rattle.std.proofs.Common.{ℕ, List, [], ◌∷◌, ◌++◌, ◌+◌, ap, sym, ◌∙◌}
use Rattle.outer_approx.proofs.Numbers.{range_more}
use Rattle.outer_approx.proofs.start.numbers_to.Goals as goal

pub loop-k-preserved : goal.loop-k-preserved
loop-k-preserved c =
    let k : ℕ = c.loop-k.k in
    c.in_ok-push.ensures.ok ∙ ap (λ (ks : List ℕ). ks ++ (k + 1) ∷ []) c.loop-k.invariant ∙ sym (range_more k)
