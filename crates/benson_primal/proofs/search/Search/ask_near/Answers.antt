use Rattle.std.proofs.Common.{rules, ◌≡◌, ap, ◌∙◌, arith, length, map, refl, subst, sym, take}
use Rattle.std.specs.Prelude.{IfSome}
use Rattle.std.proofs.lemmas.List.{length-map, length-take-le}
use Rattle.exact_field.specs.Rational.{◌<ℚ◌, zero_ℚ}
use Rattle.exact_field.specs.Vector.{dot}
use Rattle.lineality.specs.Without.{open_count, with_zeros}
use Rattle.polyhedra.specs.Exactness.{row_of}
use Rattle.outer_approx.specs.Cuts.{said_by}
use Rattle.outer_approx.specs.Lines.{line_places}
use Rattle.outer_approx.proofs.LiveVectors.{short_wide, long, start_long, places_many}
use Rattle.recession.specs.Asking.{IsAsked}
use Rattle.benson_primal.proofs.Asked.{near_cut_is, width_known}
use Rattle.benson_primal.proofs.search.Search.ask_near.Goals as goal

pub slice_bounds-vector_nearby-end : goal.slice_bounds-vector_nearby-end
slice_bounds-vector_nearby-end g c =
    let s = c.args.self.now in
    let value = g.F.Field.value in
    let h = c.requires.1.0 in
    let full = c.args.full.now in
    let live = c.requires.1.1.1.0 in
    let l = long value g.task s.trail c.args.g full live in
    let q = width_known value g.F.Field.holds g.task s.form.now s.c.now s.weights.now h.known in
    sym (length-take-le (length s.c.now) full (omega (arith, l, q)))

pub is_point-t-requires : goal.is_point-t-requires
is_point-t-requires g c =
    let s = c.args.self.now in
    let value = g.F.Field.value in
    let h = c.requires.1.0 in
    let full = c.args.full.now in
    let live = c.requires.1.1.1.0 in
    let l = long value g.task s.trail c.args.g full live in
    omega (arith, l)

pub ask-requires : goal.ask-requires
ask-requires g c κs within =
    let s = c.args.self.now in
    let value = g.F.Field.value in
    let h = c.requires.1.0 in
    let full = c.args.full.now in
    let live = c.requires.1.1.1.0 in
    let wide = width_known value g.F.Field.holds g.task s.form.now s.c.now s.weights.now h.known in
    let seen = take (length s.c.now) full in
    let start = start_long value g.task s.trail c.args.g full live c.is_point-t.result c.is_point-t.ensures (length s.c.now) wide seen refl in
    let near = subst (λ r. IfSome r (λ v. length v ≡ length seen)) c.in-Some.is c.in_ok-near.ensures in
    let k = h.known in
    (search rules, (k.stands, (k.c_is, (k.weights_is, (k.fitting, (ap length c.as_slice-near.ensures.items ∙ near ∙ start, k.proper))))))

pub violates-requires : goal.violates-requires
violates-requires g c =
    let s = c.args.self.now in
    let value = g.F.Field.value in
    let h = c.requires.1.0 in
    let asked = subst (λ a. IsAsked value g.task (map value c.as_slice-near.result.now) c.is_point-t.result a) c.in-Ok-Cut.field-0-is c.in-Ok-Cut.ensures.ok in
    let w = asked.is.wide in
    let short = c.generator-short.result.now in
    let places : c.as_slice-places.result.now ≡ line_places g.task s.trail = c.as_slice-places.ensures.items ∙ h.places_are in
    let many = ap length places ∙ places_many g.task s.trail in
    let here = short_wide g.task s.trail s.dd h.outer c.args.g (map value short) c.generator-short.ensures.listed in
    let l = sym (length-map short value) ∙ here in
    let free = ap open_count places in
    record { places = omega (arith, many, w); generator = omega (arith, l, free) }

pub returns-then-branch-clause-cut : goal.returns-then-branch-clause-cut
returns-then-branch-clause-cut g c =
    let s = c.args.self.now in
    let value = g.F.Field.value in
    let h = c.requires.1.0 in
    let full = c.args.full.now in
    let live = c.requires.1.1.1.0 in
    let wide = width_known value g.F.Field.holds g.task s.form.now s.c.now s.weights.now h.known in
    let seen = take (length s.c.now) full in
    let start = start_long value g.task s.trail c.args.g full live c.is_point-t.result c.is_point-t.ensures (length s.c.now) wide seen refl in
    let near = subst (λ r. IfSome r (λ v. length v ≡ length seen)) c.in-Some.is c.in_ok-near.ensures in
    let asked = subst (λ a. IsAsked value g.task (map value c.as_slice-near.result.now) c.is_point-t.result a) c.in-Ok-Cut.field-0-is c.in-Ok-Cut.ensures.ok in
    let cut = c.in-Ok-Cut.cut in
    let full_is : map value full ≡ with_zeros c.as_slice-places.result.now (map value c.generator-short.result.now) =
    c.requires.1.1.1.1 _ c.generator-short.ensures.listed
    ∙ ap (λ bs. with_zeros bs (map value c.generator-short.result.now)) (sym c.as_slice-places.ensures.items) in
    near_cut_is value g.task s.trail c.args.g full live g.F.Field.holds h.known.fitting
    c.as_slice-near.result.now c.is_point-t.result (ap length c.as_slice-near.ensures.items ∙ near ∙ start) cut asked
    (subst (λ v. dot (row_of (said_by value cut)) v <ℚ zero_ℚ) (sym full_is) (c.in_ok-violates-in-Ok-Cut.ensures c.if-branch.true))
