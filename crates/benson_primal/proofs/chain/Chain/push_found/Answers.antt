use Rattle.std.proofs.Common.{All, sym, subst}
use Rattle.std.proofs.lemmas.List.Elements.{All-push}
use Rattle.outer_approx.specs.Cuts.{IsCutFor}
use Rattle.benson_primal.proofs.chain.Chain.push_found.Goals as goal

pub returns : goal.returns
returns g c =
    let h = c.requires.1.0 in
    let is = IsCutFor g.F.Field.value g.task in
    record {
      known = h.known;
      two = h.two;
      found = subst (All is) (sym c.in_ok-push_last.ensures) (All-push is c.args.self.now.found.items c.args.cut h.found c.requires.1.1);
      waiting = h.waiting;
    }
