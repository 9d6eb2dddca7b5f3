use Rattle.std.proofs.Math.Nat.{pos_of_dvd_of_pos}
use Rattle.frac128.proofs.Totals.{times_quotient}
use Rattle.frac128.proofs.frac.dot.without_common.Goals as goal

pub quotient_words-requires : goal.quotient_words-requires
quotient_words-requires c = pos_of_dvd_of_pos c.gcd_words-common.ensures.0 c.requires.d_positive

pub quotient_words-requires-2 : goal.quotient_words-requires-2
quotient_words-requires-2 c = pos_of_dvd_of_pos c.gcd_words-common.ensures.0 c.requires.d_positive

pub returns : goal.returns
returns c =
    let g = c.gcd_words-common.result in
    let divides = c.gcd_words-common.ensures in
    (g, times_quotient c.args.d g c.quotient_words.result divides.0 c.quotient_words.ensures, times_quotient c.args.e g c.quotient_words-2.result divides.1 c.quotient_words-2.ensures)
