use Rattle.std.proofs.Common.{arith}
use Rattle.std.proofs.lemmas.Int.{ints}
use Rattle.vlp_reader.proofs.Powers.{power_small}
use Rattle.vlp_reader.proofs.number.power_of_ten.Goals as goal

pub pow-requires : goal.pow-requires
pow-requires c = let small = power_small c.args.exponent c.requires in omega arith

pub overflow_cast-result : goal.overflow_cast-result
overflow_cast-result c = let small = power_small c.args.exponent c.requires in let value = c.pow.ensures in omega (arith, ints)

pub returns : goal.returns
returns c = let small = power_small c.args.exponent c.requires in let value = c.pow.ensures in record { value = omega (arith, ints) }
