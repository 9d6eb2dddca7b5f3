use Rattle.std.proofs.Common.{List, ℕ, map, subst, sym, ◌∙◌}
use Rattle.std.proofs.lemmas.List.{length-map}
use Rattle.lin_rows.specs.Read.{numbers}
use Rattle.lineality.specs.Without.{open_count}
use Rattle.polyhedra.specs.LiveList.{vectors}
use Rattle.double_descr.specs.Starting.{IsStart}
use Rattle.outer_approx.specs.Task.{setting}
use Rattle.outer_approx.proofs.AfterStart.{full_rank, is_outer, licensed, same_lines, square, started_cuts, unreached, wide_here}
use Rattle.outer_approx.proofs.Beginning.{are_first}
use Rattle.outer_approx.proofs.start.start_outer.Goals as goal

pub rows_of_cuts-requires-clause-wide : goal.rows_of_cuts-requires-clause-wide
rows_of_cuts-requires-clause-wide g c =
    let h = c.requires in
    wide_here g.F.Field.value g.task c.args.places.now c.args.trail.now c.args.cuts.now h.1.1.0 h.1.1.1.0 h.1.1.1.1.0 h.1.1.1.1.1.0 h.1.1.1.1.1.1.0 h.1.1.1.1.1.1.1

pub start-requires-clause-square : goal.start-requires-clause-square
start-requires-clause-square g c =
    let h = c.requires in
    let rows = c.in_ok-rows.rows in
    sym (length-map rows.list (λ (r : List g.row.F.Denot). map g.F.Field.value r))
    ∙ square g.F.Field.value g.task c.args.places.now c.args.trail.now c.args.cuts.now h.1.1.0 h.1.1.1.0 h.1.1.1.1.0 h.1.1.1.1.1.0 h.1.1.1.1.1.1.0 h.1.1.1.1.1.1.1
    rows.width (numbers g.F.Field.value rows.list) c.in_ok-rows.ensures.width c.in_ok-rows.ensures.rows

pub start_fault-requires-clause-square : goal.start_fault-requires-clause-square
start_fault-requires-clause-square g c =
    let h = c.requires in
    let rows = c.in_ok-rows.rows in
    sym (length-map rows.list (λ (r : List g.row.F.Denot). map g.F.Field.value r))
    ∙ square g.F.Field.value g.task c.args.places.now c.args.trail.now c.args.cuts.now h.1.1.0 h.1.1.1.0 h.1.1.1.1.0 h.1.1.1.1.1.0 h.1.1.1.1.1.1.0 h.1.1.1.1.1.1.1
    rows.width (numbers g.F.Field.value rows.list) c.in_ok-rows.ensures.width c.in_ok-rows.ensures.rows

pub start-requires-clause-rank : goal.start-requires-clause-rank
start-requires-clause-rank g c =
    let h = c.requires in
    let rows = c.in_ok-rows.rows in
    full_rank g.F.Field.value g.task c.args.places.now c.args.trail.now c.args.cuts.now h.1.1.0 h.1.1.1.0 h.1.1.1.1.0 h.1.1.1.1.1.0 h.1.1.1.1.1.1.0 h.1.1.1.1.1.1.1
    rows.width (numbers g.F.Field.value rows.list) c.in_ok-rows.ensures.width c.in_ok-rows.ensures.rows

pub returns-in-Err-clause-left : goal.returns-in-Err-clause-left
returns-in-Err-clause-left g c =
    let h = c.requires in
    let rows = c.in_ok-rows.rows in
    c.start_fault.ensures.licensed (setting g.task c.args.trail.now)
    (licensed g.F.Field.value g.task c.args.places.now c.args.trail.now c.args.cuts.now h.1.1.0 h.1.1.1.0 h.1.1.1.1.0 h.1.1.1.1.1.0 h.1.1.1.1.1.1.0 h.1.1.1.1.1.1.1
    rows.width (numbers g.F.Field.value rows.list) c.in_ok-rows.ensures.width c.in_ok-rows.ensures.rows)

pub push_start-requires-clause-first : goal.push_start-requires-clause-first
push_start-requires-clause-first g c =
    let value = g.F.Field.value in
    let rows = c.in_ok-rows.rows in
    are_first (open_count c.args.places.now) (numbers value rows.list) c.in-Ok.dd
    (subst (λ (n : ℕ). IsStart n (numbers value rows.list) c.in-Ok.dd) c.in_ok-rows.ensures.width c.in-Ok.ensures.ok)

pub returns-clause-ok : goal.returns-clause-ok
returns-clause-ok g c =
    let h = c.requires in
    let rows = c.in_ok-rows.rows in
    is_outer g.F.Field.value g.task c.args.places.now c.args.trail.now c.args.cuts.now h.1.1.0 h.1.1.1.0 h.1.1.1.1.0 h.1.1.1.1.1.0 h.1.1.1.1.1.1.0 h.1.1.1.1.1.1.1
    rows.width (numbers g.F.Field.value rows.list) c.in_ok-rows.ensures.width c.in_ok-rows.ensures.rows c.in-Ok.dd c.in-Ok.ensures.ok c.push_start.new.trail
    c.in_ok-push_start-in-Ok.ensures.ok

pub returns-clause-cuts : goal.returns-clause-cuts
returns-clause-cuts g c =
    started_cuts g.task c.args.places.now (vectors c.in-Ok.dd.list.live) c.args.trail.now c.push_start.new.trail c.in_ok-push_start-in-Ok.ensures.ok

pub returns-clause-lines : goal.returns-clause-lines
returns-clause-lines g c =
    let h = c.requires in
    let rows = c.in_ok-rows.rows in
    same_lines g.F.Field.value g.task c.args.places.now c.args.trail.now c.args.cuts.now h.1.1.0 h.1.1.1.0 h.1.1.1.1.0 h.1.1.1.1.1.0 h.1.1.1.1.1.1.0 h.1.1.1.1.1.1.1
    rows.width (numbers g.F.Field.value rows.list) c.in_ok-rows.ensures.width c.in_ok-rows.ensures.rows c.in-Ok.dd c.in-Ok.ensures.ok c.push_start.new.trail
    c.in_ok-push_start-in-Ok.ensures.ok

pub returns-clause-preimages : goal.returns-clause-preimages
returns-clause-preimages g c =
    let h = c.requires in
    let rows = c.in_ok-rows.rows in
    unreached g.F.Field.value g.task c.args.places.now c.args.trail.now c.args.cuts.now h.1.1.0 h.1.1.1.0 h.1.1.1.1.0 h.1.1.1.1.1.0 h.1.1.1.1.1.1.0 h.1.1.1.1.1.1.1
    rows.width (numbers g.F.Field.value rows.list) c.in_ok-rows.ensures.width c.in_ok-rows.ensures.rows c.in-Ok.dd c.in-Ok.ensures.ok c.push_start.new.trail
    c.in_ok-push_start-in-Ok.ensures.ok

pub returns-clause-trail : goal.returns-clause-trail
returns-clause-trail g c = (returns-clause-ok g c).open_trail
