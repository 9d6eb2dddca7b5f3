use Rattle.std.proofs.Common.{ap, ◌∙◌}
use Rattle.std.proofs.lemmas.List.{get_or_default}
use Rattle.log_live.proofs.Finding.{found}
use Rattle.log_live.proofs.hinting.place_near.Goals as goal

pub returns-then-generators-last-clause-some : goal.returns-then-generators-last-clause-some
returns-then-generators-last-clause-some c =
    let gens = c.args.generators.now in
    let i = c.args.last in (
      c.if-last-generators.true,
      λ d. found gens c.requires i d c.args.number c.if-last-generators.true
          (ap (λ g. g.number)
          (get_or_default gens i d c.index-generators-last.result c.if-last-generators.true)
          ∙ c.if-generators-last.true),
    )
