use Rattle.std.proofs.Common.{rules, sym, ap, arith, ◌∙◌, ◌-◌, List, length, drop}
use Rattle.exact_field.specs.Rational.{ℚ}
use Rattle.upper_image.specs.Spots.{dense}
use Rattle.upper_image.proofs.Widths.{length-dense}
use Rattle.entry_checks.proofs.Products.{place-within}
use Rattle.std.proofs.Math.ListN.{set}
use Rattle.entry_checks.proofs.MatrixEvents.{set-dense}
use Rattle.vlp_matrices.proofs.Lists.{drop-next-of}
use Rattle.std.proofs.lemmas.List.{drop_all}
use Rattle.entry_checks.proofs.image.spread.Goals as goal

pub returns-in_err-values : goal.returns-in_err-values
returns-in_err-values c = λ taken.
    let stopped = c.in_err-values.ensures taken in
    search (stopped, rules)

pub loop-left-init : goal.loop-left-init
loop-left-init c = record { places = omega arith; done = (c.in_ok-values.ensures 0).2 ∙ ap (dense c.args.n) (sym (drop_all (length c.args.spots.now) c.args.spots.now (omega arith))) }

pub overflow_sub-spot : goal.overflow_sub-spot
overflow_sub-spot c = (place-within c.args.n c.args.spots.now (c.loop-left.left - 1) c.index-spots-left.result c.requires (omega arith) c.index-spots-left.is).0

pub index_mut-requires : goal.index_mut-requires
index_mut-requires c =
    let place = place-within c.args.n c.args.spots.now (c.loop-left.left - 1) c.index-spots-left.result c.requires (omega arith) c.index-spots-left.is in
    let long = ap length c.loop-left.invariant.done ∙ length-dense c.args.n (drop c.loop-left.left c.args.spots.now) in
    omega (arith, place, long)

pub loop-left-preserved : goal.loop-left-preserved
loop-left-preserved c =
    let place = place-within c.args.n c.args.spots.now (c.loop-left.left - 1) c.index-spots-left.result c.requires (omega arith) c.index-spots-left.is in
    let next = drop-next-of c.args.spots.now (c.loop-left.left - 1) c.loop-left.left c.index-spots-left.result (omega arith) (omega arith) c.index-spots-left.is in
    record {
      places = omega arith;
      done = ap (λ (vs : List ℚ). set vs (c.index-spots-left.result.at - 1) c.index-spots-left.result.value) c.loop-left.invariant.done
          ∙ set-dense c.args.n c.index-spots-left.result (drop c.loop-left.left c.args.spots.now) place.0 place.1 ∙ ap (dense c.args.n) (sym next);
    }
