use Rattle.std.proofs.Common.{rules, map, subst}
use Rattle.lower_image.specs.Rows.{IsWeighed}
use Rattle.lower_image.proofs.Searched.{weighable, with_kept}
use Rattle.lower_image.proofs.search.Search.ask.Goals as goal

pub weigh_generator-requires : goal.weigh_generator-requires
weigh_generator-requires g c κs within =
    let s = c.args.self.now in
    let value = g.F.Field.value in
    let h = c.requires.1.0 in
    let k = h.known in
    let v = map value c.generator-generator.result.now in
    let listed = c.generator-generator.ensures.listed in
    let lives = weighable value g.F.Field.holds g.task s h c.args.g v listed (c.requires.1.1.1.0 v listed) in
    (search rules, (k.stands, (k.c_is, (k.fitting, (k.feasible, (s.dd.rows, lives))))))

pub certify-requires : goal.certify-requires
certify-requires g c κs within =
    let s = c.args.self.now in
    let value = g.F.Field.value in
    let h = c.requires.1.0 in
    let v = map value c.generator-generator.result.now in
    let listed = c.generator-generator.ensures.listed in
    let stands = c.requires.1.1.1.0 v listed in
    let lives = weighable value g.F.Field.holds g.task s h c.args.g v listed stands in
    let said = subst (IsWeighed value g.task s.dd.rows v) c.in-Certified.is (c.in_ok-row.ensures.ok s.dd.rows lives) in (
      search rules,
      (
        with_kept value g.F.Field.holds g.task s c.weigh_generator.new.kept h,
        record { vector = v; listed = listed; stands = stands; certifies = said; fresh = c.requires.1.1.1.1 },
      ),
    )

pub returns-in-Row-clause-row : goal.returns-in-Row-clause-row
returns-in-Row-clause-row g c =
    let s = c.args.self.now in
    let value = g.F.Field.value in
    let h = c.requires.1.0 in
    let v = map value c.generator-generator.result.now in
    let listed = c.generator-generator.ensures.listed in
    let lives = weighable value g.F.Field.holds g.task s h c.args.g v listed (c.requires.1.1.1.0 v listed) in
    let said = subst (IsWeighed value g.task s.dd.rows v) c.in-Row.is (c.in_ok-row.ensures.ok s.dd.rows lives) in
    record { base = said.0; turn = said.1 }
