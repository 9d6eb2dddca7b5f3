use Rattle.std.proofs.Common.{◌≡◌, List, Bool, length, map, ap, sym, subst, ◌∙◌}
use Rattle.lineality.specs.Without.{without}
use Rattle.lineality.proofs.Marks.{length-marks}
use Rattle.polyhedra.specs.Exactness.{row_of}
use Rattle.deriv_log.specs.declared.entry.Entry.{Entry}
use Rattle.deriv_log.specs.declared.licence.Family.TheVariants.{Image}
use Rattle.double_descr.specs.Adding.{IsAddFault, add_blocks}
use Rattle.double_descr.specs.State.{State as Description}
use Rattle.log_rules.specs.Live.{lines, preimages}
use Rattle.overflows.specs.Generators.{IsAddition}
use Rattle.outer_approx.specs.Cuts.{said_by}
use Rattle.outer_approx.specs.Lines.{line_places}
use Rattle.outer_approx.specs.Standing.{IsOuter, StandForSame, cuts_of, rows_of_trail}
use Rattle.outer_approx.specs.Task.{setting}
use Rattle.overflows.specs.Pairs.{named}
use Rattle.overflows.proofs.NamedPairs.{named_required}
use Rattle.outer_approx.proofs.Outer.{added_cuts, is_addition, on_any, row_wide, stand_still, turned, turned_lines, turned_preimages, turned_rows}
use Rattle.outer_approx.proofs.turn.take.Goals as goal

pub cut_row-requires : goal.cut_row-requires
cut_row-requires g c =
    ap (λ (marks : List Bool). length marks) c.requires.1.1.0 ∙ length-marks g.task.file.objs (lines c.args.trail.now) ∙ sym c.requires.1.1.1.wide

pub add-requires : goal.add-requires
add-requires g c =
    row_wide g.F.Field.value g.task c.args.trail.now c.args.dd.now c.requires.1.0 c.args.places.now c.requires.1.1.0 c.args.cut.now c.requires.1.1.1.wide
    c.in_ok-row.row c.as_slice.result.now c.as_slice.ensures.items c.in_ok-row.ensures

pub returns-in-Ok-clause-ok : goal.returns-in-Ok-clause-ok
returns-in-Ok-clause-ok g c =
    let value = g.F.Field.value in
    let dd = c.args.dd.now in
    let e = said_by value c.args.cut.now in
    let bs = line_places g.task c.args.trail.now in
    let row = map value c.as_slice.result.now in
    let row_is : row ≡ without bs (row_of e) =
    ap (map value) c.as_slice.ensures.items ∙ c.in_ok-row.ensures ∙ ap (λ (marks : List Bool). without marks (row_of e)) c.requires.1.1.0 in
    let pairs = map named c.as_slice-in-Ok.result.now in
    subst (λ (es : List Entry). IsOuter g.task es c.add.new.self) (sym c.in_ok-push_add-in-Ok.ensures.ok)
    (turned g.task c.args.trail.now c.push_cut.new.trail e dd c.requires.1.0 c.in_ok-push_cut.ensures.trail c.in_ok-push_cut.ensures.more c.row_count-number.result
    c.row_count-number.ensures pairs
    (named_required dd.rows dd.list row (without bs (row_of e)) c.in-Ok.change c.as_slice-in-Ok.result.now c.as_slice-in-Ok.ensures.items c.in-Ok.ensures.change row_is)
    c.in_ok-push_add-in-Ok.ensures.written row row_is c.add.new.self c.in-Ok.ensures.ok)

pub returns-in-Ok-clause-preimages : goal.returns-in-Ok-clause-preimages
returns-in-Ok-clause-preimages g c = λ k.
    let value = g.F.Field.value in
    let dd = c.args.dd.now in
    let e = said_by value c.args.cut.now in
    let bs = line_places g.task c.args.trail.now in
    let row = map value c.as_slice.result.now in
    let row_is : row ≡ without bs (row_of e) =
    ap (map value) c.as_slice.ensures.items ∙ c.in_ok-row.ensures ∙ ap (λ (marks : List Bool). without marks (row_of e)) c.requires.1.1.0 in
    let pairs = map named c.as_slice-in-Ok.result.now in
    ap (λ (es : List Entry). preimages es k) c.in_ok-push_add-in-Ok.ensures.ok
    ∙ turned_preimages g.task c.args.trail.now c.push_cut.new.trail e dd c.requires.1.0 c.in_ok-push_cut.ensures.trail c.in_ok-push_cut.ensures.more
    c.row_count-number.result c.row_count-number.ensures pairs
    (named_required dd.rows dd.list row (without bs (row_of e)) c.in-Ok.change c.as_slice-in-Ok.result.now c.as_slice-in-Ok.ensures.items c.in-Ok.ensures.change row_is)
    c.in_ok-push_add-in-Ok.ensures.written k

pub returns-in-Ok-clause-rows : goal.returns-in-Ok-clause-rows
returns-in-Ok-clause-rows g c =
    let value = g.F.Field.value in
    let dd = c.args.dd.now in
    let e = said_by value c.args.cut.now in
    let bs = line_places g.task c.args.trail.now in
    let row = map value c.as_slice.result.now in
    let row_is : row ≡ without bs (row_of e) =
    ap (map value) c.as_slice.ensures.items ∙ c.in_ok-row.ensures ∙ ap (λ (marks : List Bool). without marks (row_of e)) c.requires.1.1.0 in
    let pairs = map named c.as_slice-in-Ok.result.now in
    ap (rows_of_trail g.task) c.in_ok-push_add-in-Ok.ensures.ok
    ∙ turned_rows g.task c.args.trail.now c.push_cut.new.trail e dd c.requires.1.0 c.in_ok-push_cut.ensures.trail c.in_ok-push_cut.ensures.more
    c.row_count-number.result c.row_count-number.ensures pairs
    (named_required dd.rows dd.list row (without bs (row_of e)) c.in-Ok.change c.as_slice-in-Ok.result.now c.as_slice-in-Ok.ensures.items c.in-Ok.ensures.change row_is)
    c.in_ok-push_add-in-Ok.ensures.written

pub returns-in-Ok-clause-cuts : goal.returns-in-Ok-clause-cuts
returns-in-Ok-clause-cuts g c =
    ap (cuts_of g.task) c.in_ok-push_add-in-Ok.ensures.ok
    ∙ added_cuts g.task c.push_cut.new.trail c.row_count-number.result (map named c.as_slice-in-Ok.result.now)
    ∙ c.in_ok-push_cut.ensures.more.cuts

pub returns-in-Ok-clause-lines : goal.returns-in-Ok-clause-lines
returns-in-Ok-clause-lines g c =
    let value = g.F.Field.value in
    let dd = c.args.dd.now in
    let e = said_by value c.args.cut.now in
    let bs = line_places g.task c.args.trail.now in
    let row = map value c.as_slice.result.now in
    let row_is : row ≡ without bs (row_of e) =
    ap (map value) c.as_slice.ensures.items ∙ c.in_ok-row.ensures ∙ ap (λ (marks : List Bool). without marks (row_of e)) c.requires.1.1.0 in
    let pairs = map named c.as_slice-in-Ok.result.now in
    ap lines c.in_ok-push_add-in-Ok.ensures.ok
    ∙ turned_lines g.task c.args.trail.now c.push_cut.new.trail e dd c.requires.1.0 c.in_ok-push_cut.ensures.trail c.in_ok-push_cut.ensures.more
    c.row_count-number.result c.row_count-number.ensures pairs
    (named_required dd.rows dd.list row (without bs (row_of e)) c.in-Ok.change c.as_slice-in-Ok.result.now c.as_slice-in-Ok.ensures.items c.in-Ok.ensures.change row_is)
    c.in_ok-push_add-in-Ok.ensures.written

pub returns-in-Ok-clause-trail : goal.returns-in-Ok-clause-trail
returns-in-Ok-clause-trail g c = (returns-in-Ok-clause-ok g c).open_trail

pub add_fault-requires : goal.add_fault-requires
add_fault-requires g c =
    let F = g.row.F.Denot in
    let value = g.F.Field.value in
    let holds = g.F.Field.holds in
    let dd = c.args.dd.now in
    let fault = c.in-Err.fault in
    record {
      fault = subst (λ (d : Description). IsAddFault value holds (add_blocks d.rows d.list.live (map value c.as_slice-in-Err.result.now)) fault) (sym c.in-Err.ensures.err)
          (subst (λ (xs : List F). IsAddFault value holds (add_blocks dd.rows dd.list.live (map value xs)) fault)
          (c.as_slice.ensures.items ∙ sym c.as_slice-in-Err.ensures.items) c.in-Err.ensures.left);
    }

pub returns-clause-left : goal.returns-clause-left
returns-clause-left g c =
    let value = g.F.Field.value in
    let e = said_by value c.args.cut.now in
    let row = map value c.as_slice-in-Err.result.now in
    let row_is : row ≡ without (line_places g.task c.args.trail.now) (row_of e) =
    ap (map value) c.as_slice-in-Err.ensures.items ∙ c.in_ok-row.ensures ∙ ap (λ (marks : List Bool). without marks (row_of e)) c.requires.1.1.0 in
    let s = setting g.task c.push_cut.new.trail in
    c.add_fault.ensures.licensed s
    (subst (λ (d : Description). IsAddition s d.rows row d.list Image) (sym c.in-Err.ensures.err)
    (is_addition g.task c.args.trail.now c.push_cut.new.trail e c.args.dd.now c.requires.1.0 c.in_ok-push_cut.ensures.trail c.in_ok-push_cut.ensures.more
    c.row_count-number.result c.row_count-number.ensures row row_is))

pub returns-clause-same : goal.returns-clause-same
returns-clause-same g c =
    let e = said_by g.F.Field.value c.args.cut.now in
    on_any (StandForSame g.task c.push_cut.new.trail c.add.new.self) c.add_fault.result
    (stand_still g.task c.args.trail.now c.push_cut.new.trail e c.args.dd.now c.requires.1.0 c.in_ok-push_cut.ensures.trail c.in_ok-push_cut.ensures.more
    c.row_count-number.result c.row_count-number.ensures c.add.new.self c.in-Err.ensures.err)
