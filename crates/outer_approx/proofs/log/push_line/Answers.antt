use Rattle.std.proofs.Common.{◌≡◌, [], ◌∷◌, ◌++◌, ap, ◌∙◌, map}
use Rattle.deriv_log.specs.declared.entry.Entry.{Entry}
use Rattle.deriv_log.specs.declared.entry.Entry.TheVariants.{Line}
use Rattle.overflows.proofs.Sparse.{on_ok}
use Rattle.outer_approx.specs.Lined.{SaysLine}
use Rattle.outer_approx.proofs.LineEntries.{line_said, of_slice}
use Rattle.outer_approx.proofs.log.push_line.Goals as goal

pub returns : goal.returns
returns g c =
    let value = g.F.Field.value in
    let line = c.args.line.now in
    let point = c.args.x.now in
    let d = c.in_ok-d.d in
    let x = c.in_ok-x.x in
    let ray = c.in_ok-ray.ray in
    let m = c.in_ok-m.m in
    let back = c.in_ok-back.back in
    let n = c.in_ok-n.n in
    let said : SaysLine value point line (Line d x ray m back n) =
    line_said value point line d x ray m back n (c.in_ok-d.ensures.same ∙ ap (λ xs. map value xs) c.as_slice.ensures.items) c.in_ok-d.ensures.written
    (of_slice value point c.as_slice-2.result.now x c.as_slice-2.ensures.items c.in_ok-x.ensures.same) c.in_ok-x.ensures.written
    (of_slice value line.forth.x c.as_slice-3.result.now ray c.as_slice-3.ensures.items c.in_ok-ray.ensures.same) c.in_ok-ray.ensures.written
    (of_slice value line.forth.m c.as_slice-4.result.now m c.as_slice-4.ensures.items c.in_ok-m.ensures.same) c.in_ok-m.ensures.written
    (of_slice value line.back.x c.as_slice-5.result.now back c.as_slice-5.ensures.items c.in_ok-back.ensures.same) c.in_ok-back.ensures.written
    (of_slice value line.back.m c.as_slice-6.result.now n c.as_slice-6.ensures.items c.in_ok-n.ensures.same) c.in_ok-n.ensures.written in
    on_ok c.push.result (c.push.new.self ≡ c.args.trail.now ++ Line d x ray m back n ∷ [])
    ((e : Entry) × SaysLine value point line e × (c.push.new.self ≡ c.args.trail.now ++ e ∷ []))
    (λ pushed. (Line d x ray m back n, said, pushed)) c.push.ensures.ok
