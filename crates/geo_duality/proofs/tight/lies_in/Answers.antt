use Rattle.std.proofs.Common.{List, Bool, subst}
use Rattle.std.specs.Prelude.{IsTrue, ◌↔◌}
use Rattle.incid_sets.specs.Marks.{ContainsAll}
use Rattle.geo_duality.proofs.TightPlaces.{lies_is}
use Rattle.geo_duality.proofs.tight.lies_in.Goals as goal

pub returns : goal.returns
returns c = λ gens r s e f.
    lies_is gens r s c.contains_all.result
    (subst (λ (p : List Bool × List Bool). IsTrue c.contains_all.result ↔ ContainsAll p.0 p.1) (λ i. (f i, e i)) c.contains_all.ensures)
