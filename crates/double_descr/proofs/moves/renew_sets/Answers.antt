use Rattle.std.proofs.Common.{[], ◌∷◌, ◌++◌, List, Bool, length, sym, ap, ◌∙◌, subst}
use Rattle.std.specs.Prelude.{Option}
use Rattle.double_descr.specs.Making.{AreNextSets, AreSetsFor}
use Rattle.double_descr.proofs.moves.renew_sets.Goals as goal

pub widen_sets-requires-clause-room : goal.widen_sets-requires-clause-room
widen_sets-requires-clause-room g c = subst (λ (s : Option (List (List Bool))). AreSetsFor c.args.generators.now.items s) c.in-None.is c.requires.sets

pub give_sets-requires : goal.give_sets-requires
give_sets-requires g c =
    let many = subst (λ (s : Option (List (List Bool))). AreSetsFor c.args.generators.now.items s) c.in-Some.is c.requires.sets in
    ap length (c.deref_mut.ensures.value ∙ c.into_vec-sets.ensures.items) ∙ many ∙ sym c.args.generators.now.ok.0

pub returns-in-None-clause-given : goal.returns-in-None-clause-given
returns-in-None-clause-given g c = λ a moving. c.widen_sets.ensures.given a moving.at_row moving.tight

pub returns-in-Some-clause-given : goal.returns-in-Some-clause-given
returns-in-Some-clause-given g c = λ a moving.
    let sets = subst (λ (s : Option (List (List Bool))). AreNextSets g.F.Field.value a c.args.generators.now.items s) c.in-Some.is moving.next in
    c.give_sets.ensures.given (a.rows ++ a.row ∷ []) (c.deref_mut.ensures.value ∙ c.into_vec-sets.ensures.items ∙ sets)
