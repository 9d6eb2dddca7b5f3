use Rattle.std.proofs.Common.{refl, subst, Bool}
use Rattle.rep_conv.specs.Converted.{GivesRows}
use Rattle.rep_conv.specs.Live.{state}
use Rattle.rep_conv.proofs.GivenRows.{rows_fit}
use Rattle.rep_conv.proofs.giving.other_rep.Goals as goal

pub other_rows-requires : goal.other_rows-requires
other_rows-requires c = (state c.args.rep.now c.requires.given.0, c.requires.given.1)

pub invariant_of-result : goal.invariant_of-result
invariant_of-result c =
    let s = state c.args.rep.now c.requires.given.0 in
    record {
      some_entry = c.args.rep.now.some_entry;
      few_entries = c.args.rep.now.few_entries;
      fitting = rows_fit c.args.rep.now.width s c.args.lines.now c.args.generators.now c.requires.given.1 c.args.rep.now.gens c.args.some c.in_ok-rows.rows
          (c.in_ok-rows.ensures s c.requires.given.1);
    }

pub returns : goal.returns
returns c entries h =
    let s = state c.args.rep.now entries in
    record {
      turned = refl;
      width = refl;
      rows = subst (λ (b : Bool). GivesRows c.args.rep.now.gens b c.args.rep.now.width s c.in_ok-rows.rows) c.requires.some (c.in_ok-rows.ensures s h);
    }
