use Rattle.std.proofs.Common.{rules, subst, sym}
use Rattle.std.proofs.lemmas.List.Elements.{All-take}
use Rattle.outer_approx.specs.Cuts.{IsCutFor}
use Rattle.outer_approx.specs.Standing.{IsOpening}
use Rattle.benson_primal.proofs.engine.log_from.Goals as goal

pub image_log-requires : goal.image_log-requires
image_log-requires g c κs within =
    let value = g.F.Field.value in
    let first = c.requires.1.1.1 in (
      search rules,
      (
        c.requires.1.0,
        (
          subst (λ e. IsOpening g.task e) (sym c.in_ok-copy.ensures) c.requires.1.1.0,
          (
            first,
            All-take (IsCutFor value g.task) 0 c.args.cuts.now first.each,
          ),
        ),
      ),
    )
