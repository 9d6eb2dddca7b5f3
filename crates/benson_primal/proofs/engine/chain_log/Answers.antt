use Rattle.std.proofs.Common.{rules, take, drop, length, ◌-◌, ◌≤◌, arith, subst, sym}
use Rattle.std.proofs.lemmas.List.{length-take-le}
use Rattle.std.proofs.lemmas.List.Elements.{All-take, All-drop}
use Rattle.outer_approx.specs.Cuts.{IsCutFor}
use Rattle.outer_approx.specs.Standing.{IsOpening}
use Rattle.benson_primal.proofs.Chained.{first_along}
use Rattle.benson_primal.proofs.engine.chain_log.Goals as goal

pub image_log-requires : goal.image_log-requires
image_log-requires g c κs within =
    let value = g.F.Field.value in
    let chain = c.args.chain.now in
    let two = c.requires.1.1.1.1.0 in
    let none = c.requires.1.1.1.1.1.0 in
    let each = c.requires.1.1.1.1.1.1 in
    let long : 2 ≤ length chain = omega (arith, c.if-chain-lt2.false) in
    let across = c.in_ok-are_independent.ensures c.if-not-branch.false in (
      search rules,
      (
        c.requires.1.0,
        (
          subst (λ e. IsOpening g.task e) (sym c.in_ok-copy.ensures) c.requires.1.1.0,
          (
            first_along value g.task c.args.x.now c.args.cuts.now (take 2 chain) c.args.lines.now none c.requires.1.1.1.0 two
                (All-take (IsCutFor value g.task) 2 chain each) (length-take-le 2 chain long) across,
            All-take (IsCutFor value g.task) (length chain - 2) (drop 2 chain) (All-drop (IsCutFor value g.task) 2 chain each),
          ),
        ),
      ),
    )
