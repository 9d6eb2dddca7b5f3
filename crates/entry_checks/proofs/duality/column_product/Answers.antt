use Rattle.std.proofs.Common.{rules, arith, ◌∙◌, ◌≡◌, ◌+◌, ◌<◌, length, zip}
use Rattle.std.proofs.lemmas.List.{length-map}
use Rattle.exact_field.specs.Vector.{entry}
use Rattle.upper_image.specs.Spots.{column}
use Rattle.entry_checks.proofs.Products.{summed-start, summed-more, summed-room, summed-stop, summed-end}
use Rattle.vlp_matrices.proofs.Lists.{zip-at, length-zip}
use Rattle.entry_checks.proofs.Columns.{column-at, wide-at}
use Rattle.entry_checks.proofs.Products.{products-zip}
use Rattle.entry_checks.proofs.duality.column_product.Goals as goal

pub loop-i-init : goal.loop-i-init
loop-i-init c = summed-start (zip (column c.args.vectors.now (c.args.place + 1)) c.args.weights.now) c.args.counter.now.taken c.from-total.result c.from-total.ensures

pub plus_product-requires : goal.plus_product-requires
plus_product-requires c =
    let high = length-map c.args.vectors.now (λ v. entry v (c.args.place + 1)) in
    let lengths = c.requires.lengths in
    let wide : length (column c.args.vectors.now (c.args.place + 1)) ≡ length c.args.weights.now = omega (arith, high, lengths) in
    let pairs = length-zip (column c.args.vectors.now (c.args.place + 1)) c.args.weights.now wide in
    let within : c.loop-i.i < length (zip (column c.args.vectors.now (c.args.place + 1)) c.args.weights.now) = omega (arith, high, pairs) in
    let deep = wide-at c.args.place c.args.vectors.now c.loop-i.i c.index-vectors-i.result c.as_slice.result.now c.requires.entries (omega arith) c.index-vectors-i.is c.as_slice.ensures.items in
    let entry_is = column-at c.args.vectors.now c.loop-i.i c.args.place c.index-vectors-i.result c.as_slice.result.now c.index-as_slice-place.result (omega arith) c.index-vectors-i.is c.as_slice.ensures.items deep c.index-as_slice-place.is in
    let pair = zip-at c.loop-i.i (column c.args.vectors.now (c.args.place + 1)) c.args.weights.now c.index-as_slice-place.result c.index-weights-i.result (omega (arith, high)) wide entry_is c.index-weights-i.is in
    let most = summed-room (zip (column c.args.vectors.now (c.args.place + 1)) c.args.weights.now) c.args.counter.now.taken c.loop-i.i c.loop-i.counter.taken c.loop-i.total c.index-as_slice-place.result c.index-weights-i.result within pair c.loop-i.invariant in
    let room = c.requires.room in
    omega (arith, most, room)

pub returns-in_err-total : goal.returns-in_err-total
returns-in_err-total c =
    let high = length-map c.args.vectors.now (λ v. entry v (c.args.place + 1)) in
    let lengths = c.requires.lengths in
    let wide : length (column c.args.vectors.now (c.args.place + 1)) ≡ length c.args.weights.now = omega (arith, high, lengths) in
    let pairs = length-zip (column c.args.vectors.now (c.args.place + 1)) c.args.weights.now wide in
    let within : c.loop-i.i < length (zip (column c.args.vectors.now (c.args.place + 1)) c.args.weights.now) = omega (arith, high, pairs) in
    let deep = wide-at c.args.place c.args.vectors.now c.loop-i.i c.index-vectors-i.result c.as_slice.result.now c.requires.entries (omega arith) c.index-vectors-i.is c.as_slice.ensures.items in
    let entry_is = column-at c.args.vectors.now c.loop-i.i c.args.place c.index-vectors-i.result c.as_slice.result.now c.index-as_slice-place.result (omega arith) c.index-vectors-i.is c.as_slice.ensures.items deep c.index-as_slice-place.is in
    let pair = zip-at c.loop-i.i (column c.args.vectors.now (c.args.place + 1)) c.args.weights.now c.index-as_slice-place.result c.index-weights-i.result (omega (arith, high)) wide entry_is c.index-weights-i.is in
    let stopped = summed-stop (zip (column c.args.vectors.now (c.args.place + 1)) c.args.weights.now) c.args.counter.now.taken c.loop-i.i c.loop-i.counter.taken c.loop-i.total c.index-as_slice-place.result c.index-weights-i.result within pair c.loop-i.invariant c.in_err-total.field-0.0 c.in_err-total.ensures in
    search (stopped, rules)

pub loop-i-preserved : goal.loop-i-preserved
loop-i-preserved c =
    let high = length-map c.args.vectors.now (λ v. entry v (c.args.place + 1)) in
    let lengths = c.requires.lengths in
    let wide : length (column c.args.vectors.now (c.args.place + 1)) ≡ length c.args.weights.now = omega (arith, high, lengths) in
    let pairs = length-zip (column c.args.vectors.now (c.args.place + 1)) c.args.weights.now wide in
    let within : c.loop-i.i < length (zip (column c.args.vectors.now (c.args.place + 1)) c.args.weights.now) = omega (arith, high, pairs) in
    let deep = wide-at c.args.place c.args.vectors.now c.loop-i.i c.index-vectors-i.result c.as_slice.result.now c.requires.entries (omega arith) c.index-vectors-i.is c.as_slice.ensures.items in
    let entry_is = column-at c.args.vectors.now c.loop-i.i c.args.place c.index-vectors-i.result c.as_slice.result.now c.index-as_slice-place.result (omega arith) c.index-vectors-i.is c.as_slice.ensures.items deep c.index-as_slice-place.is in
    let pair = zip-at c.loop-i.i (column c.args.vectors.now (c.args.place + 1)) c.args.weights.now c.index-as_slice-place.result c.index-weights-i.result (omega (arith, high)) wide entry_is c.index-weights-i.is in
    summed-more (zip (column c.args.vectors.now (c.args.place + 1)) c.args.weights.now) c.args.counter.now.taken c.loop-i.i c.loop-i.counter.taken c.loop-i.total c.index-as_slice-place.result c.index-weights-i.result within pair c.loop-i.invariant c.plus_product.new.self.taken c.in_ok-total.total c.in_ok-total.ensures

pub returns : goal.returns
returns c =
    let high = length-map c.args.vectors.now (λ v. entry v (c.args.place + 1)) in
    let lengths = c.requires.lengths in
    let wide : length (column c.args.vectors.now (c.args.place + 1)) ≡ length c.args.weights.now = omega (arith, high, lengths) in
    let pairs = length-zip (column c.args.vectors.now (c.args.place + 1)) c.args.weights.now wide in
    let over : c.loop-i.i ≡ length (zip (column c.args.vectors.now (c.args.place + 1)) c.args.weights.now) = omega (arith, high, pairs) in
    let done = summed-end (zip (column c.args.vectors.now (c.args.place + 1)) c.args.weights.now) c.args.counter.now.taken c.loop-i.i c.loop-i.counter.taken c.loop-i.total over c.loop-i.invariant in
    (done.0, done.1, done.2 ∙ products-zip (column c.args.vectors.now (c.args.place + 1)) c.args.weights.now)
