use Rattle.std.proofs.Common.{◌≡◌, ℕ, ◌+◌, ◌-◌, ◌<◌, ◌≤◌, List, [], ◌∷◌, ◌++◌, length, length-append, get_or, take, refl, sym, ap, ap₂, ◌∙◌, subst, arith, sum_by, count_ones, bit_and, eqb-true, eq-eqb}
use Rattle.std.specs.Slice.Iter.{iter_rest}
use Rattle.std.specs.Iterator.Adapters.{zip_first, zip_second}
use Rattle.std.proofs.lemmas.List.Sums.{sum_by_more, sum_by-take-le}
use Rattle.std.proofs.lemmas.Slice.Zip.{zip_turn, zip_end}
use Rattle.std.proofs.Math.Facts.{Fits-lt-pow}
use Rattle.incid_sets.specs.Marks.{size}
use Rattle.incid_sets.specs.Words.{common_words, marks_below}
use Rattle.incid_sets.proofs.Shared.{common_at, common_low, common_past, length-common, ones_before}
use Rattle.incid_sets.proofs.Sizes.{size_is}
use Rattle.incid_sets.proofs.words.share_at_least.Goals as goal

-- the common numbers of one word more
one_word : (a b : List ℕ) (i x y : ℕ) → i < length a → x ≡ get_or a i 0 → y ≡ get_or b i 0 →
    sum_by count_ones (take (i + 1) (common_words a b)) ≡ sum_by count_ones (take i (common_words a b)) + count_ones (bit_and x y)
one_word a b i x y l xe ye =
    sum_by_more count_ones (common_words a b) i 0 (omega (arith, l, length-common a b))
    ∙ ap (λ w. sum_by count_ones (take i (common_words a b)) + count_ones w) (common_at a b i l ∙ sym (ap₂ bit_and xe ye))

pub loop-x-preserved : goal.loop-x-preserved
loop-x-preserved c =
    let first : iter_rest (zip_first c.into_iter-x-iterator.result) ≡ c.args.a.now = cc in
    let second : iter_rest (zip_second c.into_iter-x-iterator.result) ≡ c.args.b.now = cc in
    let turn = zip_turn c.args.a.now c.args.b.now c.loop-x.yielded c.into_iter-x-iterator.result c.loop-x.x-iterator c.next.new.self c.next.result first second c.loop-x.yielded_by (c.in-Some.x, c.in-Some.y) c.in-Some.is c.next.ensures.steps in
    let more = one_word c.args.a.now c.args.b.now (length c.loop-x.yielded) c.in-Some.x.now c.in-Some.y.now turn.0 (turn.2 0) (turn.3 0) in
    let before = c.loop-x.invariant in
    let one : length (c.loop-x.yielded ++ (c.in-Some.x, c.in-Some.y) ∷ []) ≡ length c.loop-x.yielded + 1 = grind (arith, length-append) in
    subst (λ (k : ℕ). c.loop-x.missing - count_ones (bit_and c.in-Some.x.now c.in-Some.y.now) + sum_by count_ones (take k (common_words c.args.a.now c.args.b.now)) ≡ c.args.count)
    (sym one) (omega (arith, more, before, c.if-missing-ones.false))

pub returns-then-missing-ones : goal.returns-then-missing-ones
returns-then-missing-ones c = λ bound h.
    let words = common_words c.args.a.now c.args.b.now in
    let first : iter_rest (zip_first c.into_iter-x-iterator.result) ≡ c.args.a.now = cc in
    let second : iter_rest (zip_second c.into_iter-x-iterator.result) ≡ c.args.b.now = cc in
    let turn = zip_turn c.args.a.now c.args.b.now c.loop-x.yielded c.into_iter-x-iterator.result c.loop-x.x-iterator c.next.new.self c.next.result first second c.loop-x.yielded_by (c.in-Some.x, c.in-Some.y) c.in-Some.is c.next.ensures.steps in
    let more = one_word c.args.a.now c.args.b.now (length c.loop-x.yielded) c.in-Some.x.now c.in-Some.y.now turn.0 (turn.2 0) (turn.3 0) in
    let all : sum_by count_ones words ≡ size (marks_below bound words) =
    size_is words bound (common_low c.args.a.now c.args.b.now (λ i. Fits-lt-pow (c.type_inv.a i))) h in
    let least : sum_by count_ones (take (length c.loop-x.yielded + 1) words) ≤ sum_by count_ones words = sum_by-take-le count_ones words (length c.loop-x.yielded + 1) in
    let before = c.loop-x.invariant in
    (λ _. omega (arith, all, more, least, before, c.if-missing-ones.true), λ _. refl)

pub returns : goal.returns
returns c = λ bound h.
    let words = common_words c.args.a.now c.args.b.now in
    let first : iter_rest (zip_first c.into_iter-x-iterator.result) ≡ c.args.a.now = cc in
    let second : iter_rest (zip_second c.into_iter-x-iterator.result) ≡ c.args.b.now = cc in
    let many = zip_end c.args.a.now c.args.b.now c.loop-x.yielded c.into_iter-x-iterator.result c.loop-x.x-iterator c.next.new.self c.next.result first second c.loop-x.yielded_by c.in-None.is c.next.ensures.steps in
    let all : sum_by count_ones words ≡ size (marks_below bound words) =
    size_is words bound (common_low c.args.a.now c.args.b.now (λ i. Fits-lt-pow (c.type_inv.a i))) h in
    let end : sum_by count_ones (take (length c.loop-x.yielded) words) ≡ sum_by count_ones words =
    ones_before words (length c.loop-x.yielded) (λ i l. common_past c.args.a.now c.args.b.now i (omega (arith, many, l))) in
    let before = c.loop-x.invariant in (
      λ e. let z : c.loop-x.missing ≡ 0 = eqb-true c.loop-x.missing 0 e in omega (arith, all, end, z, before),
      λ l. eq-eqb c.loop-x.missing 0 (omega (arith, all, end, l, before)),
    )
