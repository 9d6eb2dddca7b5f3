use Rattle.std.proofs.Common.{◌≡◌, ◌+◌, ◌≤◌, slice_index, take, refl, ap, ◌∙◌, arith, sum_by, count_ones}
use Rattle.std.proofs.lemmas.List.{take_all}
use Rattle.std.proofs.lemmas.List.Sums.{sum_by_more}
use Rattle.std.proofs.Math.Facts.{Fits-lt-pow}
use Rattle.incid_sets.specs.Marks.{size}
use Rattle.incid_sets.specs.Words.{marks_below}
use Rattle.incid_sets.proofs.Sizes.{size_is, size_bounded}
use Rattle.incid_sets.proofs.words.count_marks.Goals as goal

pub loop-word-init : goal.loop-word-init
loop-word-init c = λ _. refl

pub loop-word-preserved : goal.loop-word-preserved
loop-word-preserved c = λ few.
    let more : sum_by count_ones (take (c.loop-word.word-index + 1) c.args.words.now) ≡ sum_by count_ones (take c.loop-word.word-index c.args.words.now) + count_ones
    (slice_index c.args.words.now c.loop-word.word-index) =
    sum_by_more count_ones c.args.words.now c.loop-word.word-index 0 (omega arith) in
    let before : c.loop-word.total ≡ sum_by count_ones (take c.loop-word.word-index c.args.words.now) = c.loop-word.invariant (omega (arith, more, few)) in
    omega (arith, more, before, few, c.saturating_add-total.ensures)

pub returns : goal.returns
returns c = λ bound h small.
    let all : sum_by count_ones c.args.words.now ≡ size (marks_below bound c.args.words.now) =
    size_is c.args.words.now bound (λ i. Fits-lt-pow (c.type_inv.words i)) h in
    let end : sum_by count_ones (take c.loop-word.word-index c.args.words.now) ≡ sum_by count_ones c.args.words.now =
    ap (sum_by count_ones) (take_all c.loop-word.word-index c.args.words.now (omega arith)) in
    let least : size (marks_below bound c.args.words.now) ≤ bound = size_bounded bound c.args.words.now in
    c.loop-word.invariant (omega (arith, all, end, least, small)) ∙ end ∙ all
