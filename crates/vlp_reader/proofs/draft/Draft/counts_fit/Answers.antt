use Rattle.std.proofs.Common.{◌∙◌, sym}
use Rattle.vlp_reader.proofs.Drafts.{counts_wrong, counts_wrong_too, counts_right}
use Rattle.vlp_reader.proofs.draft.Draft.counts_fit.Goals as goal

pub returns-then-self-len : goal.returns-then-self-len
returns-then-self-len c = λ statements has. sym (counts_wrong c.args.self.now statements has (λ e. c.if-self-len.true (e ∙ sym c.len.ensures.value)))

pub returns-then-self-len-2 : goal.returns-then-self-len-2
returns-then-self-len-2 c = λ statements has. sym (counts_wrong_too c.args.self.now statements has (λ e. c.if-self-len-2.true (e ∙ sym c.len-2.ensures.value)))

pub returns : goal.returns
returns c = λ statements has.
    c.cone_fits.ensures statements has
    ∙ sym (counts_right c.args.self.now statements has (c.if-self-len.false ∙ c.len.ensures.value) (c.if-self-len-2.false ∙ c.len-2.ensures.value))
