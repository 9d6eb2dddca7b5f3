use Rattle.std.proofs.Common.{rules, ◌∙◌, sym, arith}
use Rattle.lower_image.proofs.Searched.{done_left_out, generator_long, stands_at}
use Rattle.lower_image.proofs.search.Search.weigh.Goals as goal

pub stands_for_one-requires : goal.stands_for_one-requires
stands_for_one-requires g c =
    let long = generator_long g.F.Field.value g.F.Field.holds g.task c.args.self.now c.requires.1.0 c.args.g c.generator.result.now c.generator.ensures.listed in
    omega (arith, long)

pub returns-then-not-stands_for_one-clause-done : goal.returns-then-not-stands_for_one-clause-done
returns-then-not-stands_for_one-clause-done g c =
    done_left_out g.F.Field.value g.F.Field.holds g.task c.args.self.now c.requires.1.0 c.args.g c.generator.result.now c.generator.ensures.listed
    c.generator.ensures.only
    (λ other. let e = c.stands_for_one.ensures.1 other in let f = c.if-not-stands_for_one.true in cc)

pub ask-requires : goal.ask-requires
ask-requires g c κs within = (
  search rules,
  (
    c.requires.1.0,
    (
      c.requires.1.1,
      (
        stands_at g.F.Field.value g.F.Field.holds g.task c.args.self.now c.requires.1.0 c.args.g c.generator.result.now c.generator.ensures.listed
            c.generator.ensures.only (c.stands_for_one.ensures.0 (let f = c.if-not-stands_for_one.false in search (rules, f))),
        sym c.has.ensures ∙ c.if-has.false,
      ),
    ),
  ),
)
