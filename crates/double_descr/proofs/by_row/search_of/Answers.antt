use Rattle.std.proofs.Common.{◌≡◌, length, ap, sym, ◌∙◌, arith}
use Rattle.incid_sets.specs.Marks.{IsAllBut}
use Rattle.polyhedra.proofs.Covering.{length-tight_set}
use Rattle.polyhedra.proofs.Members.{all_of_members, member_of}
use Rattle.double_descr.specs.State.{HasTightSet}
use Rattle.double_descr.specs.Steps.{values}
use Rattle.double_descr.specs.declared.generator.Generator.{Generator}
use Rattle.double_descr.proofs.ByRow.{not_past}
use Rattle.double_descr.proofs.by_row.search_of.Goals as goal

pub sets_by_row-requires-clause-few : goal.sets_by_row-requires-clause-few
sets_by_row-requires-clause-few g c = omega (arith, c.in_ok-reach.ensures.bound, c.requires.1.0, c.requires.1.1.1.1.1.1)

pub sets_by_row-requires-clause-tight : goal.sets_by_row-requires-clause-tight
sets_by_row-requires-clause-tight g c =
    let value = g.F.Field.value in
    let rows = g.addition.rows in
    let gens = c.args.generators.now in
    all_of_members (λ (h : Generator _). length h.tight ≡ length c.in_ok-reach.reach) gens (λ h k.
    ap length (member_of (HasTightSet value rows) gens h c.requires.1.1.1.0 k) ∙ length-tight_set rows (values value h.vector.items)
    ∙ sym c.requires.1.0 ∙ sym c.in_ok-reach.ensures.bound)

pub returns : goal.returns
returns g c =
    let many = length c.args.generators.now in
    let but : IsAllBut many many c.in_ok-all.all = c.in_ok-all.ensures in
    record {
      reach = c.in_ok-reach.ensures.reaches;
      bound = c.in_ok-reach.ensures.bound ∙ c.requires.1.0;
      indexed = record {
        by_row = c.in_ok-by_row.ensures;
        bound = but.bounded;
        each = λ place inside. but.others place inside ∙ not_past place (length c.args.generators.now) inside;
      };
    }
