use Rattle.std.proofs.Common.{◌≡◌, ◌+◌, ◌≤◌, slice_index, take, refl, ap, arith, sum_by, count_ones, eqb-true, eq-eqb}
use Rattle.std.proofs.lemmas.List.{take_all}
use Rattle.std.proofs.lemmas.List.Sums.{sum_by_more, sum_by-take-le}
use Rattle.std.proofs.Math.Facts.{Fits-lt-pow}
use Rattle.incid_sets.specs.Marks.{size}
use Rattle.incid_sets.specs.Words.{marks_below}
use Rattle.incid_sets.proofs.Sizes.{size_is}
use Rattle.incid_sets.proofs.words.have_at_least.Goals as goal

pub returns-then-missing-ones : goal.returns-then-missing-ones
returns-then-missing-ones c = λ bound h.
    let all : sum_by count_ones c.args.words.now ≡ size (marks_below bound c.args.words.now) =
    size_is c.args.words.now bound (λ i. Fits-lt-pow (c.type_inv.words i)) h in
    let more : sum_by count_ones (take (c.loop-word.word-index + 1) c.args.words.now) ≡ sum_by count_ones (take c.loop-word.word-index c.args.words.now) + count_ones
    (slice_index c.args.words.now c.loop-word.word-index) =
    sum_by_more count_ones c.args.words.now c.loop-word.word-index 0 (omega arith) in
    let least : sum_by count_ones (take (c.loop-word.word-index + 1) c.args.words.now) ≤ sum_by count_ones c.args.words.now =
    sum_by-take-le count_ones c.args.words.now (c.loop-word.word-index + 1) in
    (λ _. omega (arith, all, more, least), λ _. refl)

pub returns : goal.returns
returns c = λ bound h.
    let all : sum_by count_ones c.args.words.now ≡ size (marks_below bound c.args.words.now) =
    size_is c.args.words.now bound (λ i. Fits-lt-pow (c.type_inv.words i)) h in
    let end : sum_by count_ones (take c.loop-word.word-index c.args.words.now) ≡ sum_by count_ones c.args.words.now =
    ap (sum_by count_ones) (take_all c.loop-word.word-index c.args.words.now (omega arith)) in (
      λ e. let z : c.loop-word.missing ≡ 0 = eqb-true c.loop-word.missing 0 e in omega (arith, all, end, z),
      λ l. eq-eqb c.loop-word.missing 0 (omega (arith, all, end, l)),
    )
