use Rattle.std.proofs.Common.{[], ◌∷◌, ◌++◌, ap, sym, ◌∙◌, true≢false}
use Rattle.double_descr.specs.State.{with_set}
use Rattle.double_descr.proofs.moves.widen_set.Goals as goal

pub widen-requires : goal.widen-requires
widen-requires g c = c.requires.few

pub unreachable-requires : goal.unreachable-requires
unreachable-requires g c = true≢false (sym (c.in-Err.ensures.free c.requires.free))

pub returns : goal.returns
returns g c =
    let own = c.args.generator.now in
    ap (λ t. with_set own t) (c.in-Ok.ensures.ok ∙ ap (λ b. own.tight ++ b ∷ []) c.is_zero.ensures.test)
