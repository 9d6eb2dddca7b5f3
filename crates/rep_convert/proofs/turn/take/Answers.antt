use Rattle.std.proofs.Common.{◌≡◌, List, length, map, refl, sym, ap, ap₂, ◌∙◌, subst}
use Rattle.std.proofs.lemmas.List.{map-id}
use Rattle.exact_field.specs.Rational.{ℚ}
use Rattle.frac128.specs.Held.{is_held}
use Rattle.lineality.specs.Without.{without}
use Rattle.deriv_log.specs.declared.licence.Family.TheVariants.{Rep as RowsOfRep}
use Rattle.double_descr.specs.Adding.{IsAddFault, add_blocks}
use Rattle.double_descr.specs.State.{State as Description}
use Rattle.overflows.specs.Told.{IsAdditionLeft}
use Rattle.rep_conv.specs.Live.{state}
use Rattle.rep_conv.specs.Rows.{row_at, text_rows}
use Rattle.rep_conv.proofs.EntrySteps.{row_wide}
use Rattle.rep_conv.proofs.Standing.{rules_keep_description}
use Rattle.rep_text.specs.declared.conv.ConvEntry.{ConvEntry}
use Rattle.overflows.specs.Pairs.{named}
use Rattle.overflows.proofs.NamedPairs.{named_required}
use Rattle.rep_convert.specs.Standing.{StandsAt, line_places}
use Rattle.rep_convert.proofs.Lists.{own_values}
use Rattle.rep_convert.proofs.Overflowed.{addition_left}
use Rattle.rep_convert.proofs.Turned.{short_wide, turned, turned_lines, turned_used}
use Rattle.rep_convert.proofs.turn.take.Goals as goal

pub add-requires : goal.add-requires
add-requires c =
    let rep = c.args.rep.now in
    let log = c.args.log.now in
    ap (λ (v : List ℚ). length v) (c.as_slice.ensures.items ∙ own_values (without c.args.places.now) c.args.row.now c.in_ok-short.short c.in_ok-short.ensures ∙ ap₂ without c.requires.places c.requires.row)
    ∙ short_wide rep log c.args.dd.now c.requires.stands (row_at rep c.args.number) (row_wide rep (text_rows rep) c.args.number refl c.requires.exists)

pub returns-in-Ok-clause-ok : goal.returns-in-Ok-clause-ok
returns-in-Ok-clause-ok c =
    let rep = c.args.rep.now in
    let log = c.args.log.now in
    let dd = c.args.dd.now in
    let short = map (λ (q : ℚ). q) c.as_slice.result.now in
    let short_is : short ≡ without (line_places rep log) (row_at rep c.args.number) =
    map-id c.as_slice.result.now ∙ c.as_slice.ensures.items ∙ own_values (without c.args.places.now) c.args.row.now c.in_ok-short.short c.in_ok-short.ensures ∙ ap₂ without c.requires.places c.requires.row in
    subst (λ (es : List ConvEntry). StandsAt rep es c.add.new.self) (sym c.in_ok-push_add-in-Ok.ensures.ok)
    (turned rep log dd c.requires.stands c.args.number c.requires.exists c.requires.unused short short_is (map named c.as_slice-in-Ok.result.now)
    (named_required dd.rows dd.list short short c.in-Ok.change c.as_slice-in-Ok.result.now c.as_slice-in-Ok.ensures.items c.in-Ok.ensures.change refl)
    c.in-Ok.ensures.held c.in_ok-push_add-in-Ok.ensures.written c.add.new.self c.in-Ok.ensures.ok)

pub returns-in-Ok-clause-used : goal.returns-in-Ok-clause-used
returns-in-Ok-clause-used c =
    let rep = c.args.rep.now in
    let log = c.args.log.now in
    let dd = c.args.dd.now in
    let short = map (λ (q : ℚ). q) c.as_slice.result.now in
    let short_is : short ≡ without (line_places rep log) (row_at rep c.args.number) =
    map-id c.as_slice.result.now ∙ c.as_slice.ensures.items ∙ own_values (without c.args.places.now) c.args.row.now c.in_ok-short.short c.in_ok-short.ensures ∙ ap₂ without c.requires.places c.requires.row in
    ap (λ (es : List ConvEntry). (state rep es).used) c.in_ok-push_add-in-Ok.ensures.ok
    ∙ turned_used rep log dd c.requires.stands c.args.number c.requires.exists c.requires.unused short short_is (map named c.as_slice-in-Ok.result.now)
    (named_required dd.rows dd.list short short c.in-Ok.change c.as_slice-in-Ok.result.now c.as_slice-in-Ok.ensures.items c.in-Ok.ensures.change refl)
    c.in-Ok.ensures.held c.in_ok-push_add-in-Ok.ensures.written

pub returns-in-Ok-clause-lines : goal.returns-in-Ok-clause-lines
returns-in-Ok-clause-lines c =
    let rep = c.args.rep.now in
    let log = c.args.log.now in
    let dd = c.args.dd.now in
    let short = map (λ (q : ℚ). q) c.as_slice.result.now in
    let short_is : short ≡ without (line_places rep log) (row_at rep c.args.number) =
    map-id c.as_slice.result.now ∙ c.as_slice.ensures.items ∙ own_values (without c.args.places.now) c.args.row.now c.in_ok-short.short c.in_ok-short.ensures ∙ ap₂ without c.requires.places c.requires.row in
    ap (λ (es : List ConvEntry). (state rep es).lines) c.in_ok-push_add-in-Ok.ensures.ok
    ∙ turned_lines rep log dd c.requires.stands c.args.number c.requires.exists c.requires.unused short short_is (map named c.as_slice-in-Ok.result.now)
    (named_required dd.rows dd.list short short c.in-Ok.change c.as_slice-in-Ok.result.now c.as_slice-in-Ok.ensures.items c.in-Ok.ensures.change refl)
    c.in-Ok.ensures.held c.in_ok-push_add-in-Ok.ensures.written

pub add_fault-told-requires : goal.add_fault-told-requires
add_fault-told-requires c =
    let dd = c.args.dd.now in
    let fault = c.in-Err.fault in
    record {
      fault = subst (λ (d : Description). IsAddFault (λ (q : ℚ). q) is_held (add_blocks d.rows d.list.live (map (λ (q : ℚ). q) c.as_slice-in-Err.result.now)) fault)
          (sym c.in-Err.ensures.err)
          (subst (λ (xs : List ℚ). IsAddFault (λ (q : ℚ). q) is_held (add_blocks dd.rows dd.list.live (map (λ (q : ℚ). q) xs)) fault)
          (c.as_slice.ensures.items ∙ sym c.as_slice-in-Err.ensures.items) c.in-Err.ensures.left);
    }

pub returns-clause-left : goal.returns-clause-left
returns-clause-left c =
    let rep = c.args.rep.now in
    let log = c.args.log.now in
    let dd = c.args.dd.now in
    let fault = c.in-Err.fault in
    let short = map (λ (q : ℚ). q) c.as_slice-in-Err.result.now in
    let short_is : short ≡ without (line_places rep log) (row_at rep c.args.number) =
    map-id c.as_slice-in-Err.result.now ∙ c.as_slice-in-Err.ensures.items ∙ own_values (without c.args.places.now) c.args.row.now c.in_ok-short.short c.in_ok-short.ensures ∙ ap₂ without c.requires.places c.requires.row in
    addition_left rep log dd c.requires.stands ((rules_keep_description rep log c.requires.stands.met).begun c.requires.stands.started).exist
    c.args.number c.requires.exists short short_is (λ (q : ℚ). q) fault c.add_fault-told.result c.from.result
    (subst (λ (xs : List ℚ). IsAddFault (λ (q : ℚ). q) is_held (add_blocks dd.rows dd.list.live (map (λ (q : ℚ). q) xs)) fault)
    (c.as_slice.ensures.items ∙ sym c.as_slice-in-Err.ensures.items) c.in-Err.ensures.left)
    (subst (λ (d : Description). IsAdditionLeft (λ (q : ℚ). q) RowsOfRep d.rows short fault c.add_fault-told.result) c.in-Err.ensures.err c.add_fault-told.ensures.told)
    c.from.ensures
