use Rattle.std.proofs.Common.{◌∷◌, ◌++◌, [], List, ℕ, ap₂, subst, ◌∙◌}
use Rattle.exact_field.specs.Rational.{ℚ}
use Rattle.std.specs.Prelude.{IsTrue}
use Rattle.std.specs.List.{flat_map}
use Rattle.word_lines.specs.Grammar.{is_formed}
use Rattle.rep_text.specs.ConvText.{conv_grammar}
use Rattle.rep_text.specs.declared.conv.ConvEntry.{ConvEntry}
use Rattle.rep_text.specs.declared.conv.ConvEntry.TheVariants.{Start}
use Rattle.rep_convert.proofs.Begun.{begun_lines, begun_stands}
use Rattle.rep_convert.proofs.begin.begun_log.Goals as goal

pub returns-clause-stands : goal.returns-clause-stands
returns-clause-stands c =
    let s = c.args.started.now in
    begun_stands c.args.rep.now c.requires.some c.args.lines.now c.requires.lines c.requires.held s.picks s.gens s.dd c.requires.started c.in_ok-log.log
    c.push_start.new.log c.in_ok-log.ensures.log
    (c.in_ok-push_start.ensures.ok
    ∙ ap₂ (λ (picks : List ℕ) (gens : List (List ℚ)). c.in_ok-log.log ++ Start picks (flat_map (λ v. v) gens) ∷ []) c.as_slice.ensures.items c.as_slice-2.ensures.items)
    c.in_ok-log.ensures.written
    (subst (λ (e : ConvEntry). IsTrue (is_formed conv_grammar e))
    (ap₂ (λ (picks : List ℕ) (gens : List (List ℚ)). Start picks (flat_map (λ v. v) gens)) c.as_slice.ensures.items c.as_slice-2.ensures.items)
    c.in_ok-push_start.ensures.written)

pub returns-clause-lines : goal.returns-clause-lines
returns-clause-lines c =
    let s = c.args.started.now in
    begun_lines c.args.rep.now c.requires.some c.args.lines.now c.requires.lines c.requires.held s.picks s.gens s.dd c.requires.started c.in_ok-log.log
    c.push_start.new.log c.in_ok-log.ensures.log
    (c.in_ok-push_start.ensures.ok
    ∙ ap₂ (λ (picks : List ℕ) (gens : List (List ℚ)). c.in_ok-log.log ++ Start picks (flat_map (λ v. v) gens) ∷ []) c.as_slice.ensures.items c.as_slice-2.ensures.items)
