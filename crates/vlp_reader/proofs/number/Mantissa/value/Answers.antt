use Rattle.std.proofs.Common.{arith, sym, ◌∙◌}
use Rattle.std.specs.Str.{all_ascii_digits}
use Rattle.std.proofs.lemmas.Bool.{and_parts}
use Rattle.std.proofs.lemmas.Int.{ints}
use Rattle.vlp_reader.proofs.Digits.{digits-append, value_fits}
use Rattle.vlp_reader.proofs.number.Mantissa.value.Goals as goal

pub extend-requires : goal.extend-requires
extend-requires c =
    let w = c.args.self.whole.now in
    let d = c.args.self.decimals.now in
    (and_parts (all_ascii_digits w) (all_ascii_digits d) (sym (digits-append w d) ∙ c.requires.digits)).0

pub extend-requires-2 : goal.extend-requires-2
extend-requires-2 c =
    let w = c.args.self.whole.now in
    let d = c.args.self.decimals.now in
    (and_parts (all_ascii_digits w) (all_ascii_digits d) (sym (digits-append w d) ∙ c.requires.digits)).1

pub overflow_cast-result : goal.overflow_cast-result
overflow_cast-result c =
    let fits = value_fits c.args.self.whole.now c.args.self.decimals.now c.extend.result c.extend-2.result c.requires.digits c.requires.short c.extend.ensures c.extend-2.ensures in
    omega (arith, ints)

pub returns-clause-value : goal.returns-clause-value
returns-clause-value c =
    let fits = value_fits c.args.self.whole.now c.args.self.decimals.now c.extend.result c.extend-2.result c.requires.digits c.requires.short c.extend.ensures c.extend-2.ensures in
    omega (arith, ints)

pub returns-clause-bound : goal.returns-clause-bound
returns-clause-bound c =
    let fits = value_fits c.args.self.whole.now c.args.self.decimals.now c.extend.result c.extend-2.result c.requires.digits c.requires.short c.extend.ensures c.extend-2.ensures in
    omega (arith, ints)
