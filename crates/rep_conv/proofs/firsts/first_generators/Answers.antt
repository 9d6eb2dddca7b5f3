use Rattle.std.proofs.Common.{◌≡◌, ℕ, ◌+◌, ◌-◌, ◌*◌, List, [], take, drop, slice_index_or, sym, ap, ◌∙◌, subst, arith}
use Rattle.exact_field.specs.Rational.{ℚ}
use Rattle.upper_image.specs.Spots.{pieces}
use Rattle.entry_checks.proofs.RisingNumbers.{length-pieces, pieces-at}
use Rattle.rep_conv.specs.Starting.{IsFirst}
use Rattle.rep_conv.proofs.FirstPlaces.{AreFirst, first_live, none_first, one_first}
use Rattle.rep_conv.proofs.firsts.first_generators.Goals as goal

pub loop-j-init : goal.loop-j-init
loop-j-init c = none_first c.args.count (pieces c.args.count c.args.places c.args.gens.now) c.new-list.result.items c.new-list.ensures.items

pub loop-j-preserved : goal.loop-j-preserved
loop-j-preserved c =
    let j = c.loop-j.j in
    let step : j * c.args.places + c.args.places - j * c.args.places ≡ c.args.places = omega arith in
    let here : take (j * c.args.places + c.args.places - j * c.args.places) (drop (j * c.args.places) c.args.gens.now) ≡ slice_index_or (pieces c.args.count c.args.places c.args.gens.now) j [] =
    ap (λ (k : ℕ). take k (drop (j * c.args.places) c.args.gens.now)) step ∙ sym (pieces-at c.args.count c.args.places j c.args.gens.now [] (omega arith)) in
    let first : IsFirst c.args.count j (slice_index_or (pieces c.args.count c.args.places c.args.gens.now) j []) c.in_ok-first_generator.field-0 =
    subst (λ (v : List ℚ). IsFirst c.args.count j v c.in_ok-first_generator.field-0) here c.in_ok-first_generator.ensures in
    one_first c.args.count j (pieces c.args.count c.args.places c.args.gens.now) c.loop-j.list.items c.push.new.self.items c.in_ok-first_generator.field-0
    (length-pieces c.args.count c.args.places c.args.gens.now) (omega arith) c.loop-j.invariant first c.in_ok-push.ensures.items

pub returns : goal.returns
returns c rep s rows w n m =
    let over : c.loop-j.j ≡ c.args.count = omega arith in
    first_live rep s rows c.args.gens.now c.args.count c.args.places c.loop-j.list.items w n m
    (subst (λ (j : ℕ). AreFirst c.args.count j (pieces c.args.count c.args.places c.args.gens.now) c.loop-j.list.items) over c.loop-j.invariant)
