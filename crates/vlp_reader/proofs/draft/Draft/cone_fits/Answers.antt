use Rattle.std.proofs.Common.{ap, ◌∙◌, sym, ◌==◌, ◌+◌}
use Rattle.std.specs.BTreeMap.{btree_map_len}
use Rattle.std.proofs.lemmas.Bool.{eq-eqb}
use Rattle.vlp_reader.proofs.Drafts.{cone_right, cone_else}
use Rattle.vlp_reader.proofs.draft.Draft.cone_fits.Goals as goal

pub returns-then-wanted-len : goal.returns-then-wanted-len
returns-then-wanted-len c = λ statements has.
    let draft = c.args.self.now in
    eq-eqb c.in-Some.cone.entries c.len.result c.if-wanted-len.true
    ∙ sym (cone_right draft statements draft.sizes.cone c.in-Some.cone has c.in-Some.is (c.if-wanted-len.true ∙ c.len.ensures.value))

pub returns-else-wanted-len : goal.returns-else-wanted-len
returns-else-wanted-len c = λ statements has.
    let draft = c.args.self.now in
    ap (λ n. c.in-Some.cone.entries == n + c.len-else-wanted-len-2.result) c.len-else-wanted-len.ensures.value
    ∙ ap (λ n. c.in-Some.cone.entries == btree_map_len draft.vectors.cells + n) c.len-else-wanted-len-2.ensures.value
    ∙ sym (cone_else draft statements draft.sizes.cone c.in-Some.cone has c.in-Some.is (λ e. c.if-wanted-len.false (e ∙ sym c.len.ensures.value)))
