use Rattle.std.proofs.Common.{ℕ, ◌*◌, ◌+◌, ◌/◌, ◌%◌, ◌^◌, ◌<◌, get_or, Some, arith, w64}
use Rattle.std.specs.Int.{trailing_zeros}
use Rattle.std.proofs.Math.Facts.{Fits-lt-pow, Fits-bits}
use Rattle.incid_sets.specs.Words.{IsMarkedFrom}
use Rattle.incid_sets.proofs.Next.{found_first, none_first, found_later, marked_below}
use Rattle.incid_sets.proofs.words.mark_from.Goals as goal

-- the number that is found in the word of k
abbrev here : goal.Then-rest-ne0 → ℕ
here c = c.args.k + trailing_zeros w64 (c.word_at.result / 2 ^ (c.args.k % 64))

is_here : (c : goal.Then-rest-ne0) → IsMarkedFrom c.args.words.now c.args.k (Some (here c))
is_here c = found_first c.args.words.now c.args.k c.word_at.result c.word_at.ensures c.if-rest-ne0.true (Fits-lt-pow (c.type_inv.words (c.args.k / 64)))

-- the number that is found in a later word
abbrev later : goal.Then-word-ne0 → ℕ
later c = c.loop-i.i * 64 + trailing_zeros w64 (get_or c.args.words.now c.loop-i.i 0)

is_later : (c : goal.Then-word-ne0) → IsMarkedFrom c.args.words.now c.args.k (Some (later c))
is_later c = found_later c.args.words.now c.args.k c.loop-i.i c.if-word-ne0.true (Fits-lt-pow (c.type_inv.words c.loop-i.i))
    c.loop-i.invariant.after c.loop-i.invariant.none

later_low : (c : goal.Then-word-ne0) → later c < 2 ^ 32
later_low c = marked_below c.args.words.now (2 ^ 32) (later c) c.requires (is_later c).1

start_low : (c : goal.Then-word-ne0) → c.loop-i.i * 64 < 2 ^ 32
start_low c = let low : later c < 2 ^ 32 = later_low c in omega arith

pub overflow_add-result : goal.overflow_add-result
overflow_add-result c = Fits-bits 32 tt (marked_below c.args.words.now (2 ^ 32) (here c) c.requires (is_here c).1)

pub returns-then-rest-ne0 : goal.returns-then-rest-ne0
returns-then-rest-ne0 c = is_here c

pub loop-i-init : goal.loop-i-init
loop-i-init c = record {
  after = omega arith;
  none = none_first c.args.words.now c.args.k c.word_at.result c.word_at.ensures c.if-rest-ne0.false;
}

pub overflow_mul-result : goal.overflow_mul-result
overflow_mul-result c = Fits-bits 32 tt (start_low c)

pub overflow_cast-result : goal.overflow_cast-result
overflow_cast-result c = Fits-bits 32 tt (start_low c)

pub overflow_add-result-then-word-ne0 : goal.overflow_add-result-then-word-ne0
overflow_add-result-then-word-ne0 c = Fits-bits 32 tt (later_low c)

pub returns-then-word-ne0 : goal.returns-then-word-ne0
returns-then-word-ne0 c = is_later c
