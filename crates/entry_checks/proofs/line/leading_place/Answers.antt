use Rattle.std.proofs.Common.{ap, ◌∙◌}
use Rattle.std.proofs.lemmas.List.{map-id}
use Rattle.lineality.specs.Lines.{leading_place}
use Rattle.entry_checks.proofs.line.leading_place.Goals as goal

pub returns : goal.returns
returns c = c.leading_place.ensures ∙ ap leading_place (map-id c.args.v.now)
