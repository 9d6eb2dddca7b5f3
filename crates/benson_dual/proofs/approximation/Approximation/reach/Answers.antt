use Rattle.std.proofs.Common.{rules, ◌∙◌, List, [], All, arith, map, take, length, refl, sym, subst}
use Rattle.std.proofs.lemmas.List.{length-map, length-take-le}
use Rattle.exact_field.specs.Rational.{ℚ, zero_ℚ, ◌≤ℚ◌}
use Rattle.exact_field.specs.Vector.{dot}
use Rattle.lin_rows.proofs.Errors.{err_holds}
use Rattle.overflows.specs.Faults.{Overflows}
use Rattle.outer_approx.specs.Standing.{rows_of_trail}
use Rattle.outer_approx.specs.Task.{setting}
use Rattle.recession.specs.Asking.{IsAsked}
use Rattle.outer_approx.proofs.LiveVectors.{base_start, is_reached, long, start_long, vector_is}
use Rattle.benson_dual.proofs.AllInUse.{none_asked}
use Rattle.benson_dual.proofs.Images.{c_long, live_full, reached_more}
use Rattle.benson_dual.proofs.approximation.Approximation.reach.Goals as goal

pub is_point-t-requires : goal.is_point-t-requires
is_point-t-requires g c =
    let value = g.F.Field.value in
    let a = c.args.self.now in
    let seen = c.as_slice-full.result.now in
    let live = live_full value g.task c.args.image.now a c.requires.1.1.0 c.args.g (map value c.generator.result.now) c.generator.ensures.listed c.as_slice.result.now
    c.as_slice.ensures.items c.in_ok-full.full seen c.as_slice-full.ensures.items c.in_ok-full.ensures in
    let l = long value g.task a.trail c.args.g seen live in
    omega (arith, l)

pub slice_bounds-v-end : goal.slice_bounds-v-end
slice_bounds-v-end g c =
    let value = g.F.Field.value in
    let a = c.args.self.now in
    let seen = c.as_slice-full.result.now in
    let live = live_full value g.task c.args.image.now a c.requires.1.1.0 c.args.g (map value c.generator.result.now) c.generator.ensures.listed c.as_slice.result.now
    c.as_slice.ensures.items c.in_ok-full.full seen c.as_slice-full.ensures.items c.in_ok-full.ensures in
    let l = long value g.task a.trail c.args.g seen live in
    let q = c_long value g.F.Field.holds g.task c.args.image.now c.requires.1.0 in
    sym (length-take-le (length c.args.image.now.c.now) seen (omega (arith, l, q)))

pub ask-requires : goal.ask-requires
ask-requires g c κs within =
    let value = g.F.Field.value in
    let image = c.args.image.now in
    let h = c.requires.1.0 in
    let k = h.known in
    let a = c.args.self.now in
    let seen = c.as_slice-full.result.now in
    let live = live_full value g.task image a c.requires.1.1.0 c.args.g (map value c.generator.result.now) c.generator.ensures.listed c.as_slice.result.now
    c.as_slice.ensures.items c.in_ok-full.full seen c.as_slice-full.ensures.items c.in_ok-full.ensures in
    let start = start_long value g.task a.trail c.args.g seen live c.is_point-t.result c.is_point-t.ensures (length image.c.now)
    (c_long value g.F.Field.holds g.task image h) (take (length image.c.now) seen) refl in
    (search rules, (k.stands, (k.c_is, (k.weights_is, (k.fitting, (start, k.proper))))))

pub unreachable-requires : goal.unreachable-requires
unreachable-requires g c =
    let value = g.F.Field.value in
    let image = c.args.image.now in
    let h = c.requires.1.0 in
    let a = c.args.self.now in
    let stands = c.requires.1.1.0 in
    let full = c.as_slice-full.result.now in
    let live = live_full value g.task image a stands c.args.g (map value c.generator.result.now) c.generator.ensures.listed c.as_slice.result.now
    c.as_slice.ensures.items c.in_ok-full.full full c.as_slice-full.ensures.items c.in_ok-full.ensures in
    let n = length image.c.now in
    let n_is = c_long value g.F.Field.holds g.task image h in
    let seen = take n full in
    let t = c.is_point-t.result in
    let point = c.is_point-t.ensures in
    none_asked value g.F.Field.holds g.task h.known.fitting a.trail a.dd stands.outer stands.facets (map value seen) t
    (length-map seen value ∙ start_long value g.task a.trail c.args.g full live t point n n_is seen refl)
    (subst (λ (v : List ℚ). All (λ (row : List ℚ). zero_ℚ ≤ℚ dot row v) (rows_of_trail g.task a.trail))
    (vector_is value g.task a.trail c.args.g full live t point n n_is seen refl) live.within)
    c.in-Cut.field-0 (subst (λ r. IsAsked value g.task (map value seen) t r) c.in-Cut.is c.in_ok-parts.ensures.ok)

pub push_preimage-requires : goal.push_preimage-requires
push_preimage-requires g c κs within =
    let value = g.F.Field.value in
    let image = c.args.image.now in
    let h = c.requires.1.0 in
    let a = c.args.self.now in
    let stands = c.requires.1.1.0 in
    let full = c.as_slice-full.result.now in
    let live = live_full value g.task image a stands c.args.g (map value c.generator.result.now) c.generator.ensures.listed c.as_slice.result.now
    c.as_slice.ensures.items c.in_ok-full.full full c.as_slice-full.ensures.items c.in_ok-full.ensures in
    let n = length image.c.now in
    let n_is = c_long value g.F.Field.holds g.task image h in
    let seen = take n full in (
      search rules,
      (
        stands.outer.open_trail,
        (
          stands.outer.started,
          is_reached value g.task a.trail c.args.g full live c.is_point-t.result c.is_point-t.ensures n n_is seen refl c.in-Reached.parts c.requires.1.1.1.1
              (subst (λ r. IsAsked value g.task (map value seen) c.is_point-t.result r) c.in-Reached.is c.in_ok-parts.ensures.ok),
        ),
      ),
    )

pub returns-clause-stands : goal.returns-clause-stands
returns-clause-stands g c =
    let pushed = c.in_ok-push_preimage-in-Reached.ensures in
    reached_more g.F.Field.value g.task c.args.image.now c.args.self.now c.requires.1.1.0 c.push_preimage.new.trail c.args.g pushed.more pushed.trail

pub returns-in_err-parts-clause-left : goal.returns-in_err-parts-clause-left
returns-in_err-parts-clause-left g c =
    let value = g.F.Field.value in
    let holds = g.F.Field.holds in
    let image = c.args.image.now in
    let a = c.args.self.now in
    let full = c.as_slice-full.result.now in
    let live = live_full value g.task image a c.requires.1.1.0 c.args.g (map value c.generator.result.now) c.generator.ensures.listed c.as_slice.result.now
    c.as_slice.ensures.items c.in_ok-full.full full c.as_slice-full.ensures.items c.in_ok-full.ensures in
    let n = length image.c.now in
    err_holds c.from_residual-in_err-parts.result c.in_err-parts.field-0.0 (Overflows holds (setting g.task a.trail) []) c.from_residual-in_err-parts.ensures.1
    (c.in_err-parts.ensures.left a.trail
    (base_start value g.task a.trail c.args.g full live c.is_point-t.result c.is_point-t.ensures n (c_long value holds g.task image c.requires.1.0) (take n full) refl))
