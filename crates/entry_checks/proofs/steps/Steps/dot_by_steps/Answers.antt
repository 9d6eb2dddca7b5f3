use Rattle.std.proofs.Common.{rules, arith, ◌∙◌, length, ◌<◌}
use Rattle.std.specs.List.{zip}
use Rattle.entry_checks.proofs.Products.{summed-start, summed-more, summed-room, summed-stop, summed-end, products-zip}
use Rattle.vlp_matrices.proofs.Lists.{zip-at, length-zip}
use Rattle.entry_checks.proofs.steps.Steps.dot_by_steps.Goals as goal

pub loop-i-init : goal.loop-i-init
loop-i-init c = summed-start (zip c.args.v.now c.args.w.now) c.args.self.now.taken c.from-total.result c.from-total.ensures

pub plus_product-requires : goal.plus_product-requires
plus_product-requires c =
    let long = length-zip c.args.v.now c.args.w.now c.requires.lengths in
    let within : c.loop-i.i < length (zip c.args.v.now c.args.w.now) = omega arith in
    let pair = zip-at c.loop-i.i c.args.v.now c.args.w.now c.index-v-i.result c.index-w-i.result (omega arith) c.requires.lengths c.index-v-i.is c.index-w-i.is in
    let most = summed-room (zip c.args.v.now c.args.w.now) c.args.self.now.taken c.loop-i.i c.loop-i.self.taken c.loop-i.total c.index-v-i.result c.index-w-i.result within pair c.loop-i.invariant in
    let room = c.requires.room in
    omega (arith, most, room)

pub returns-in_err-total : goal.returns-in_err-total
returns-in_err-total c =
    let long = length-zip c.args.v.now c.args.w.now c.requires.lengths in
    let within : c.loop-i.i < length (zip c.args.v.now c.args.w.now) = omega arith in
    let pair = zip-at c.loop-i.i c.args.v.now c.args.w.now c.index-v-i.result c.index-w-i.result (omega arith) c.requires.lengths c.index-v-i.is c.index-w-i.is in
    let few = summed-stop (zip c.args.v.now c.args.w.now) c.args.self.now.taken c.loop-i.i c.loop-i.self.taken c.loop-i.total c.index-v-i.result c.index-w-i.result within pair c.loop-i.invariant c.in_err-total.field-0.0 c.in_err-total.ensures in
    search (few, rules)

pub loop-i-preserved : goal.loop-i-preserved
loop-i-preserved c =
    let long = length-zip c.args.v.now c.args.w.now c.requires.lengths in
    let within : c.loop-i.i < length (zip c.args.v.now c.args.w.now) = omega arith in
    let pair = zip-at c.loop-i.i c.args.v.now c.args.w.now c.index-v-i.result c.index-w-i.result (omega arith) c.requires.lengths c.index-v-i.is c.index-w-i.is in
    summed-more (zip c.args.v.now c.args.w.now) c.args.self.now.taken c.loop-i.i c.loop-i.self.taken c.loop-i.total c.index-v-i.result c.index-w-i.result within pair c.loop-i.invariant
    c.plus_product.new.self.taken c.in_ok-total.total c.in_ok-total.ensures

pub returns : goal.returns
returns c =
    let long = length-zip c.args.v.now c.args.w.now c.requires.lengths in
    let done = summed-end (zip c.args.v.now c.args.w.now) c.args.self.now.taken c.loop-i.i c.loop-i.self.taken c.loop-i.total (omega arith) c.loop-i.invariant in
    (done.0, done.1, done.2 ∙ products-zip c.args.v.now c.args.w.now)
