use Rattle.std.proofs.Common.{get_or, bit_and, refl, sym, ap, ◌∙◌, true≢false, arith, below_more}
use Rattle.std.proofs.Math.Facts.{Fits-lt-pow}
use Rattle.incid_sets.proofs.Bits.{all_within, word_of_all}
use Rattle.incid_sets.proofs.words.contains_words.Goals as goal

pub loop-i-preserved : goal.loop-i-preserved
loop-i-preserved c = below_more _ _ c.loop-i.invariant (ap (λ w. bit_and (get_or c.args.other.now c.loop-i.i 0) w) (sym c.word_at.ensures) ∙ c.if-word-word_at.false)

pub returns-then-word-word_at : goal.returns-then-word-word_at
returns-then-word-word_at c = (
  λ e. absurd (true≢false (sym e)),
  λ h. absurd (c.if-word-word_at.true (ap (λ w. bit_and (get_or c.args.other.now c.loop-i.i 0) w) c.word_at.ensures
      ∙ word_of_all c.args.words.now c.args.other.now c.loop-i.i (Fits-lt-pow (c.type_inv.other c.loop-i.i)) h)),
)

pub returns : goal.returns
returns c = (λ e. all_within c.args.words.now c.args.other.now (λ i l. c.loop-i.invariant i (omega arith)), λ h. refl)
