use Rattle.std.proofs.Common.{false}
use Rattle.word_lines.proofs.Reading.{made_by, kept_signed}
use Rattle.word_lines.proofs.number.in_lowest_terms.Goals as goal

pub returns : goal.returns
returns c =
    let num = kept_signed c.args.negative c.args.num c.signed_number.result c.signed_number.ensures c.requires.num_small in
    let den = kept_signed false c.args.den c.signed_number-2.result c.signed_number-2.ensures c.requires.den_small in
    made_by c.args.negative c.args.num c.args.den _ _ c.lowest_fraction.result num den c.lowest_fraction.ensures
