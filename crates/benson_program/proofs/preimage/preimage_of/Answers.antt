use Rattle.std.proofs.Common.{map, length, take, sym, ap, ◌∙◌, arith}
use Rattle.std.proofs.lemmas.List.{length-map, take-map}
use Rattle.lp_form.specs.Programs.{generators}
use Rattle.benson_program.proofs.Counted.{within as within_dual}
use Rattle.benson_program.proofs.Shared.{low_long, preimages}
use Rattle.benson_program.proofs.preimage.preimage_of.Goals as goal

pub front-requires : goal.front-requires
front-requires g c =
    let value = g.F.Field.value in
    let e = c.requires.dual in
    let dual = c.args.dual.now in
    omega (arith, within_dual value c.args.form.now e.0 e.4 dual (low_long e.0 e.1 e.2 e.3 (map value dual) e.5))

pub returns-clause-ok : goal.returns-clause-ok
returns-clause-ok g c = λ file duality v t picks inverse stands low fits.
    let value = g.F.Field.value in
    let dual = c.args.dual.now in
    let weights = c.args.weights.now in
    let cols = c.args.form.now.cols in
    let long = length-map weights value ∙ c.requires.weights ∙ ap (λ k. length (generators k)) stands.cone in
    let x_is = ap (map value) c.in_ok-x.ensures ∙ sym (take-map value cols dual) ∙ ap (λ n. take n (map value dual)) stands.cols in
    preimages value file duality (map value weights) v t (map value dual) low record { x = c.in_ok-x.x; m = c.in_ok-m.m } long x_is (c.in_ok-m.ensures.ok file stands)
    picks inverse fits
