use Rattle.std.proofs.Common.{◌≡◌, sym, ap, ◌∙◌, arith}
use Rattle.lin_rows.specs.Lines.{entries, sum_at}
use Rattle.lin_rows.proofs.Lists.{mapped_more}
use Rattle.lin_rows.proofs.Pivoted.{dense_is}
use Rattle.lp_form.proofs.Figures.{places_rise}
use Rattle.tableaux.specs.Table.{listed}
use Rattle.lower_image.proofs.rows.numbers_of.Goals as goal

pub loop-j-preserved : goal.loop-j-preserved
loop-j-preserved g c =
    let value = g.F.Field.value in
    mapped_more value c.loop-j.list c.push.new.self c.entry_at.result c.loop-j.j (sum_at (entries value c.args.line.now)) c.in_ok-push.ensures.ok c.loop-j.invariant
    (c.entry_at.ensures c.args.cols (places_rise value c.args.cols 0 c.args.line.now c.requires))

pub returns : goal.returns
returns g c =
    let value = g.F.Field.value in
    let end : c.loop-j.j ≡ c.args.cols = omega arith in
    c.loop-j.invariant ∙ ap (λ n. listed n (sum_at (entries value c.args.line.now))) end
    ∙ sym (dense_is c.args.cols (entries value c.args.line.now) (places_rise value c.args.cols 0 c.args.line.now c.requires))
