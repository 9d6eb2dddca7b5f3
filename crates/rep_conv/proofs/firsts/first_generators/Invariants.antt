use Rattle.upper_image.specs.Spots.{pieces}
use Rattle.rep_conv.proofs.FirstPlaces.{AreFirst}
use Rattle.rep_conv.proofs.firsts.first_generators.Given as goal

abbrev pub invariant-loop-j : goal.invariant-loop-j
invariant-loop-j l = AreFirst l.fn.count l.j (pieces l.fn.count l.fn.places l.fn.gens) l.list.items
