use Rattle.std.proofs.Common.{get_or, bit_and, refl, sym, ap, ap₂, ◌∙◌, true≢false, arith, below_more}
use Rattle.std.proofs.Math.Facts.{Fits-lt-pow}
use Rattle.incid_sets.proofs.Bits.{common_within, word_of_common}
use Rattle.incid_sets.proofs.words.covers_words.Goals as goal

pub loop-i-preserved : goal.loop-i-preserved
loop-i-preserved c = below_more _ _ c.loop-i.invariant
    (ap₂ (λ v w. bit_and (bit_and (get_or c.args.a.now c.loop-i.i 0) v) w) (sym c.word_at.ensures) (sym c.word_at-in-loop-i.ensures)
    ∙ c.if-common-word_at.false ∙ ap (λ v. bit_and (get_or c.args.a.now c.loop-i.i 0) v) c.word_at.ensures)

pub returns-then-common-word_at : goal.returns-then-common-word_at
returns-then-common-word_at c = (
  λ e. absurd (true≢false (sym e)),
  λ h. absurd (c.if-common-word_at.true (ap₂ (λ v w. bit_and (bit_and (get_or c.args.a.now c.loop-i.i 0) v) w) c.word_at.ensures c.word_at-in-loop-i.ensures
      ∙ word_of_common c.args.words.now c.args.a.now c.args.b.now c.loop-i.i (Fits-lt-pow (c.type_inv.a c.loop-i.i)) h
      ∙ ap (λ v. bit_and (get_or c.args.a.now c.loop-i.i 0) v) (sym c.word_at.ensures))),
)

pub returns : goal.returns
returns c = (λ e. common_within c.args.words.now c.args.a.now c.args.b.now (λ i l. c.loop-i.invariant i (omega arith)), λ h. refl)
