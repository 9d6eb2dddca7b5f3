use Rattle.std.proofs.Common.{rules, map, take, length, refl, sym, subst, arith}
use Rattle.std.proofs.lemmas.List.{length-take-le}
use Rattle.outer_approx.proofs.LiveVectors.{long, start_long, base_start, is_reached}
use Rattle.recession.specs.Asking.{IsAsked}
use Rattle.benson_primal.proofs.Asked.{width_known, next_cut_is}
use Rattle.benson_primal.proofs.Marked.{stay_reached}
use Rattle.benson_primal.proofs.Searched.{reached_more, rows_reached, stops_at}
use Rattle.benson_primal.proofs.search.Search.ask_at.Goals as goal

pub is_point-t-requires : goal.is_point-t-requires
is_point-t-requires g c =
    let s = c.args.self.now in
    let value = g.F.Field.value in
    let h = c.requires.1.0 in
    let full = c.args.full.now in
    let live = c.requires.1.1.0 in
    let l = long value g.task s.trail c.args.g full live in
    omega (arith, l)

pub slice_bounds-v-end : goal.slice_bounds-v-end
slice_bounds-v-end g c =
    let s = c.args.self.now in
    let value = g.F.Field.value in
    let h = c.requires.1.0 in
    let full = c.args.full.now in
    let live = c.requires.1.1.0 in
    let l = long value g.task s.trail c.args.g full live in
    let q = width_known value g.F.Field.holds g.task s.form.now s.c.now s.weights.now h.known in
    sym (length-take-le (length s.c.now) full (omega (arith, l, q)))

pub ask-requires : goal.ask-requires
ask-requires g c κs within =
    let s = c.args.self.now in
    let value = g.F.Field.value in
    let h = c.requires.1.0 in
    let full = c.args.full.now in
    let live = c.requires.1.1.0 in
    let k = h.known in
    let wide = width_known value g.F.Field.holds g.task s.form.now s.c.now s.weights.now k in
    let start = start_long value g.task s.trail c.args.g full live c.is_point-t.result c.is_point-t.ensures (length s.c.now) wide (take (length s.c.now) full) refl in
    (search rules, (k.stands, (k.c_is, (k.weights_is, (k.fitting, (start, k.proper))))))

pub push_preimage-requires : goal.push_preimage-requires
push_preimage-requires g c κs within =
    let s = c.args.self.now in
    let value = g.F.Field.value in
    let h = c.requires.1.0 in
    let full = c.args.full.now in
    let live = c.requires.1.1.0 in
    let wide = width_known value g.F.Field.holds g.task s.form.now s.c.now s.weights.now h.known in
    let seen = take (length s.c.now) full in (
      search rules,
      (
        h.outer.open_trail,
        (
          h.outer.started,
          is_reached value g.task s.trail c.args.g full live c.is_point-t.result c.is_point-t.ensures (length s.c.now) wide seen refl c.in-Reached.parts
              c.requires.1.1.1 (subst (λ a. IsAsked value g.task (map value seen) c.is_point-t.result a) c.in-Reached.is c.in_ok-cut.ensures.ok),
        ),
      ),
    )

pub returns-in-Cut-clause-cut : goal.returns-in-Cut-clause-cut
returns-in-Cut-clause-cut g c =
    let s = c.args.self.now in
    let value = g.F.Field.value in
    let h = c.requires.1.0 in
    let full = c.args.full.now in
    let live = c.requires.1.1.0 in
    let wide = width_known value g.F.Field.holds g.task s.form.now s.c.now s.weights.now h.known in
    let seen = take (length s.c.now) full in
    next_cut_is value g.task s.trail c.args.g full live c.is_point-t.result c.is_point-t.ensures (length s.c.now) wide seen refl g.F.Field.holds h.known.fitting
    c.in-Cut.cut (subst (λ a. IsAsked value g.task (map value seen) c.is_point-t.result a) c.in-Cut.is c.in_ok-cut.ensures.ok)

pub returns-in_err-cut-clause-stopped : goal.returns-in_err-cut-clause-stopped
returns-in_err-cut-clause-stopped g c =
    let s = c.args.self.now in
    let value = g.F.Field.value in
    let h = c.requires.1.0 in
    let full = c.args.full.now in
    let live = c.requires.1.1.0 in
    let wide = width_known value g.F.Field.holds g.task s.form.now s.c.now s.weights.now h.known in
    stops_at g.F.Field.holds g.task (record s { kept = c.ask.new.kept }) c.from_residual.result c.in_err-cut.field-0.0 c.from_residual.ensures.1 h.outer
    (c.in_err-cut.ensures.left s.trail
    (base_start value g.task s.trail c.args.g full live c.is_point-t.result c.is_point-t.ensures (length s.c.now) wide (take (length s.c.now) full) refl))

pub returns-in_ok-mark-in-Reached-clause-searching : goal.returns-in_ok-mark-in-Reached-clause-searching
returns-in_ok-mark-in-Reached-clause-searching g c =
    let s = c.args.self.now in
    let h = c.requires.1.0 in
    let pushed = c.in_ok-push_preimage-in-Reached.ensures in
    reached_more g.F.Field.value g.F.Field.holds g.task s (record s { kept = c.ask.new.kept; trail = c.push_preimage.new.trail; reached = c.mark.new.reached }) c.args.g h
    h.known refl refl pushed.trail pushed.more c.in_ok-mark-in-Reached.ensures

pub returns-in_ok-mark-in-Reached-clause-rows : goal.returns-in_ok-mark-in-Reached-clause-rows
returns-in_ok-mark-in-Reached-clause-rows g c = record {
  dd_same = refl;
  rows_same = rows_reached g.task c.args.g c.args.self.now.trail c.push_preimage.new.trail c.in_ok-push_preimage-in-Reached.ensures.more;
}

pub returns-in_ok-mark-in-Reached-clause-stay : goal.returns-in_ok-mark-in-Reached-clause-stay
returns-in_ok-mark-in-Reached-clause-stay g c =
    let more = c.in_ok-push_preimage-in-Reached.ensures.more in
    stay_reached c.args.self.now.trail c.push_preimage.new.trail c.args.g more.here more.others
