use Rattle.std.proofs.Common.{ap, ◌∙◌, of_z}
use Rattle.std.specs.Int.{w128}
use Rattle.word_lines.proofs.Reading.{lowest_some, lowest_other, lowest_none, same_bits, kept}
use Rattle.word_lines.proofs.number.lowest_fraction.Goals as goal
use Rattle.word_lines.proofs.number.lowest_fraction.Goals.{in_default-via-in-Some+else-den, in_default-via-in_default}

pub returns-in-Some : goal.returns-in-Some
returns-in-Some c =
    let h = c.in-Some.ensures in
    let num = kept c.args.num c.requires.num_small in
    let den = kept c.args.den c.requires.den_small in
    lowest_some c.args.num c.args.den _ _ c.in-Some.q num den c.requires.positive h.1 (same_bits c.in-Some.q c.den.result c.args.den c.den.ensures.part c.den.ensures.held c.requires.den_small c.if-den.true)

pub returns-in_default : goal.returns-in_default
returns-in_default c =
    let num = kept c.args.num c.requires.num_small in
    let den = kept c.args.den c.requires.den_small in
    elim c.in_default.branch [
      | in_default-via-in-Some+else-den w ↦
          let h = w.in-Some.ensures in
          lowest_other c.args.num c.args.den _ _ w.in-Some.q num den c.requires.positive h.1 (λ same. w.if-den.false (ap (of_z w128) (w.den.ensures.part ∙ same)))
      | in_default-via-in_default w ↦ lowest_none c.args.num c.args.den _ _ num den c.requires.positive c.requires.num_small c.requires.den_small w.in_default.ensures
    ]
