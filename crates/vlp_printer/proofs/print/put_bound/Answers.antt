use Rattle.std.proofs.Common.{sym, ◌∙◌, ◌++◌, ◌∷◌, [], ap, decimal, List, ℕ}
use Rattle.std.proofs.lemmas.Bool.{cond-false}
use Rattle.vlp_problem.specs.Sides.{is_unsaid}
use Rattle.vlp_printer.specs.Printing.{bound_words}
use Rattle.vlp_printer.proofs.WordByWord.{Has, first_word, next_word, more_words, ended_line}
use Rattle.vlp_printer.proofs.print.put_bound.Goals as goal

pub returns : goal.returns
returns c =
    let into = c.args.into.now in
    let w = c.args.letter ∷ [] in
    let k = decimal c.args.number in
    let words = bound_words c.args.bound.now in
    let h0 : Has into c.push.new.self w [] = first_word into c.push.new.self w c.in_ok-push.ensures.ok in
    let h1 : Has into c.put_natural.new.into w (k ∷ []) = next_word into c.push.new.self c.put_natural.new.into w [] k h0 c.in_ok-put_natural.ensures in
    let h2 : Has into c.put_bound_words.new.into w (k ∷ words) = more_words into c.put_natural.new.into c.put_bound_words.new.into w (k ∷ []) words h1 c.in_ok-put_bound_words.ensures in
    ended_line into c.put_bound_words.new.into c.push-2.new.self w (k ∷ words) h2 c.in_ok-push-2.ensures.ok
    ∙ ap (λ (l : List ℕ). into ++ l) (sym (cond-false (is_unsaid c.args.bound.now) _ _ (sym c.is_unsaid.ensures ∙ c.if-is_unsaid.false)))
