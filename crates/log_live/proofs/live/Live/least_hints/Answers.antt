use Rattle.std.proofs.Common.{◌≡◌, List, refl, sym, ap, subst, ◌∙◌, arith, length}
use Rattle.std.specs.Prelude.{IfOk}
use Rattle.polyhedra.specs.LiveList.{Numbered}
use Rattle.log_rules.specs.Live.{cut_row, required_pairs, rows_in_use}
use Rattle.log_versions.specs.Hints.{least_hints}
use Rattle.log_live.specs.Adding.{AreAtRow, AreGenerators, all_values}
use Rattle.log_live.specs.Live.{live_of}
use Rattle.log_live.specs.declared.generator.Generator.{Generator}
use Rattle.log_live.proofs.Added.{kinds_at, narrow, paired_where, read_at}
use Rattle.log_live.proofs.Bridges.{few_values}
use Rattle.log_live.proofs.Standing.{few}
use Rattle.log_live.proofs.live.Live.least_hints.Goals as goal

pub values_at-requires-clause-kinds : goal.values_at-requires-clause-kinds
values_at-requires-clause-kinds c =
    let passes = c.requires.3 in
    subst (λ (gs : List Generator). AreGenerators (length c.args.w.now) gs)
    (sym c.as_slice-generators.ensures.value)
    (kinds_at c.requires.0 c.requires.1 c.requires.2 c.args.w.now c.args.gamma c.args.self.now
    passes.addition)

pub values_at-requires-clause-room : goal.values_at-requires-clause-room
values_at-requires-clause-room c =
    let G = c.as_slice-generators.result.now in
    let E = c.as_slice-generators.ensures.value in
    let passes = c.requires.3 in
    let most = few_values c.args.w.now c.args.gamma (length c.args.w.now) G refl
    (narrow c.requires.0 c.requires.1 c.requires.2 c.args.w.now c.args.gamma c.args.self.now
    passes.addition) in
    let many = few c.requires.0 c.requires.1 c.args.self.now passes.addition.before in
    let same = ap length E in
    omega (arith, most, many, same)

pub least_hints-requires : goal.least_hints-requires
least_hints-requires c =
    let file = c.requires.0 in
    let s = c.requires.1 in
    let cut = c.requires.2 in
    let passes = c.requires.3 in
    let G = c.as_slice-generators.result.now in
    let values : c.as_slice.result.now ≡ all_values c.args.w.now c.args.gamma
    G = c.as_slice.ensures.items ∙ c.in-Ok.ensures.2 in (
      length c.args.w.now,
      rows_in_use file.objs s,
      cut_row s cut,
      read_at file s cut c.args.w.now c.args.gamma c.args.self.now passes.addition G
          c.as_slice.result.now c.as_slice-generators.ensures.value values,
    )

pub returns-in-Ok : goal.returns-in-Ok
returns-in-Ok c file s cut h =
    let G = c.as_slice-generators.result.now in
    let E = c.as_slice-generators.ensures.value in
    let values : c.as_slice.result.now ≡ all_values c.args.w.now c.args.gamma
    G = c.as_slice.ensures.items ∙ c.in-Ok.ensures.2 in
    let at : AreAtRow (length c.args.w.now) (rows_in_use file.objs s)
    (cut_row s cut) G c.as_slice.result.now =
    read_at file s cut c.args.w.now c.args.gamma c.args.self.now h.addition G c.as_slice.result.now
    E values in
    let same : live_of G ≡ s.list.live = ap live_of E ∙ h.addition.before.list.live in
    let paired : c.args.pairs.now ≡ required_pairs (rows_in_use file.objs s) (live_of G)
    (cut_row s cut) =
    paired_where file.objs s cut c.args.pairs.now h.passes
    ∙ ap (λ (l : List Numbered). required_pairs (rows_in_use file.objs s) l (cut_row s cut))
    (sym same) in
    subst (λ (l : List Numbered). IfOk c.least_hints.result
    (λ hints. hints ≡ least_hints (rows_in_use file.objs s) l (cut_row s cut) c.args.pairs.now))
    same
    (c.least_hints.ensures (length c.args.w.now) (rows_in_use file.objs s) (cut_row s cut) at paired)
