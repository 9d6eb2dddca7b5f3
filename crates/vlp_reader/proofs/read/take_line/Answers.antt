use Rattle.std.proofs.Common.{◌≡◌, ◌≤◌, ℕ, true, length, arith, ap, sym, ◌∙◌, subst}
use Rattle.std.proofs.lemmas.Result.{err_from_is_err_and}
use Rattle.vlp_reader.specs.Drafts.{Has, HasRead}
use Rattle.vlp_reader.specs.Grammar.{is_kind, formed, statement_fault}
use Rattle.vlp_reader.specs.Lines.{words_of, letter}
use Rattle.vlp_reader.specs.Reading.{TakesWords}
use Rattle.vlp_reader.specs.Statements.{statement_of}
use Rattle.vlp_reader.proofs.Drafts.{match_weaker, comes_from_same}
use Rattle.vlp_reader.proofs.LineTests.{takes_blank, takes_comment, takes_opening, takes_further, opening_line, too_early, further_line}
use Rattle.vlp_reader.proofs.read.take_line.Goals as goal

pub returns-in_default : goal.returns-in_default
returns-in_default c = λ earlier has. takes_blank c.args.draft.now earlier c.args.line.now has (omega arith) c.in_default.ensures

pub returns-then-kind-eq99 : goal.returns-then-kind-eq99
returns-then-kind-eq99 c = λ earlier has.
    takes_comment c.args.draft.now earlier c.args.line.now c.in-Some.first.now (words_of c.in-Some.words.now) has (omega arith) c.in-Some.ensures (sym c.letter-kind.ensures ∙ c.if-kind-eq99.true)

pub returns-then-kind-ne112 : goal.returns-then-kind-ne112
returns-then-kind-ne112 c = λ earlier has.
    let kind : is_kind (letter c.in-Some.first.now) ≡ true = ap is_kind (sym c.letter-kind.ensures) ∙ sym c.if-not-is_kind.ensures in
    too_early earlier c.args.line.now c.in-Some.first.now (words_of c.in-Some.words.now) (omega arith) c.in-Some.ensures
    (λ e. c.if-kind-eq99.false (c.letter-kind.ensures ∙ e)) kind (subst (λ d. HasRead d earlier) c.in-None.is has) (λ e. c.if-kind-ne112.true (c.letter-kind.ensures ∙ e))

pub returns-in_err-begin-in-None : goal.returns-in_err-begin-in-None
returns-in_err-begin-in-None c = λ earlier has.
    let kind : is_kind (letter c.in-Some.first.now) ≡ true = ap is_kind (sym c.letter-kind.ensures) ∙ sym c.if-not-is_kind.ensures in
    let p = err_from_is_err_and c.from_residual.result c.from_residual.ensures.1 in
    rw (p.1, p.2) (comes_from_same _ _ c.in_err-begin-in-None.field-0.0
    (sym (opening_line earlier c.args.line.now c.in-Some.first.now (words_of c.in-Some.words.now) (omega arith) c.in-Some.ensures
    (λ e. c.if-kind-eq99.false (c.letter-kind.ensures ∙ e)) kind (subst (λ d. HasRead d earlier) c.in-None.is has) (sym c.letter-kind.ensures ∙ c.if-kind-ne112.false)))
    c.in_err-begin-in-None.ensures)

pub returns-in_ok-begin-in-None : goal.returns-in_ok-begin-in-None
returns-in_ok-begin-in-None c = λ earlier has.
    let kind : is_kind (letter c.in-Some.first.now) ≡ true = ap is_kind (sym c.letter-kind.ensures) ∙ sym c.if-not-is_kind.ensures in
    takes_opening c.in_ok-begin-in-None.field-0 earlier c.args.line.now c.in-Some.first.now (words_of c.in-Some.words.now) (omega arith) c.in-Some.ensures
    (λ e. c.if-kind-eq99.false (c.letter-kind.ensures ∙ e)) kind (subst (λ d. HasRead d earlier) c.in-None.is has) (sym c.letter-kind.ensures ∙ c.if-kind-ne112.false)
    c.in_ok-begin-in-None.ensures

pub returns-else-kind-eq112 : goal.returns-else-kind-eq112
returns-else-kind-eq112 c = λ earlier has.
    let line = c.args.line.now in
    let first = c.in-Some.first.now in
    let rest = words_of c.in-Some.words.now in
    let old = c.in-Some-draft.draft in
    let new = c.take_words.new.draft in
    let short : length line ≤ 4096 = omega arith in
    let kind : is_kind (letter first) ≡ true = ap is_kind (sym c.letter-kind.ensures) ∙ sym c.if-not-is_kind.ensures in
    let has_old : Has old earlier = subst (λ d. HasRead d earlier) c.in-Some-draft.is has in
    match_weaker c.take_words.result _ _ _ _ (c.take_words.ensures earlier has_old)
    (λ ended takes. takes_further old new earlier line first rest ended short c.in-Some.ensures (λ e. c.if-kind-eq99.false (c.letter-kind.ensures ∙ e)) kind has_old
    (λ e. c.if-kind-eq112.false (c.letter-kind.ensures ∙ e)) (subst (λ (k : ℕ). TakesWords k rest earlier old new ended) c.letter-kind.ensures takes))
    (λ end h. comes_from_same _ _ end
    (ap (λ (k : ℕ). formed (statement_of k rest) (statement_fault earlier old.sizes)) c.letter-kind.ensures
    ∙ sym (further_line old earlier line first rest short c.in-Some.ensures (λ e. c.if-kind-eq99.false (c.letter-kind.ensures ∙ e)) kind has_old
    (λ e. c.if-kind-eq112.false (c.letter-kind.ensures ∙ e)))) h)
