use Rattle.std.proofs.Common.{◌≤◌, ◌++◌, List, ℕ, length, refl, ap, ◌∙◌, subst, IsTrue}
use Rattle.exact_field.specs.Rational.{ℚ}
use Rattle.word_lines.specs.Grammar.{is_formed}
use Rattle.rep_text.specs.ConvText.{conv_grammar}
use Rattle.rep_text.specs.declared.conv.ConvEntry.TheVariants.{Start}
use Rattle.rep_convert.proofs.Written.{on_ok, start_written}
use Rattle.rep_convert.proofs.log.push_start.Goals as goal

pub returns-clause-written : goal.returns-clause-written
returns-clause-written c =
    let picks = c.args.picks.now in
    let gens = c.in_ok-gens.gens in
    let count = c.len-count.ensures.bound in
    let value = c.len-count.ensures.value in
    on_ok c.push.result
    (subst (λ (v : List ℚ). IsTrue (is_formed conv_grammar (Start picks v))) c.in_ok-gens.ensures
    (start_written picks picks gens c.as_slice.result.now refl
    (subst (λ (n : ℕ). n ≤ 4294967294) (value ∙ ap (λ (ks : List ℕ). length ks) (c.in_ok-append.ensures.ok ∙ ap (λ (ks : List ℕ). ks ++ picks) c.new-rows.ensures)) count)
    c.naturals_are_written.ensures c.as_slice.ensures.items c.as_slice.ensures.bound c.fractions_are_written.ensures))
