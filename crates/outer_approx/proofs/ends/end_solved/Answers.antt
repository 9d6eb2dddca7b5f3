use Rattle.std.proofs.Common.{◌≡◌, ℕ, List, [], ◌∷◌, ◌++◌, All, IsTrue, sym, ap, ◌∙◌, subst}
use Rattle.word_lines.specs.Parts.{is_short}
use Rattle.word_lines.specs.declared.part.EndKind.TheVariants.{Solved}
use Rattle.deriv_log.specs.declared.entry.Entry.{Entry}
use Rattle.deriv_log.specs.declared.entry.Entry.TheVariants.{End}
use Rattle.outer_approx.specs.Standing.{IsEnded, cuts_of}
use Rattle.overflows.proofs.Sparse.{on_ok}
use Rattle.outer_approx.proofs.NamedFacets.{ended_cuts, naming, solved_ended}
use Rattle.outer_approx.proofs.ends.end_solved.Goals as goal

pub returns-clause-ended : goal.returns-clause-ended
returns-clause-ended g c =
    let facets = c.in_ok-facets.facets in
    let trail = c.args.trail.now in
    let short : All (λ k. IsTrue (is_short k)) facets =
    subst (λ (ks : List ℕ). All (λ k. IsTrue (is_short k)) ks) c.as_slice.ensures.items c.naturals_are_written.ensures in
    let whole : IsEnded g.task ((trail ++ naming facets) ++ End Solved ∷ []) =
    solved_ended g.task trail c.args.dd.now c.requires.1.0 facets c.in_ok-facets.ensures.rows short c.requires.1.1 in
    let named : c.push_facets.new.trail ≡ trail ++ naming facets = c.in_ok-push_facets.ensures ∙ ap (λ ks. trail ++ naming ks) c.as_slice-2.ensures.items in
    on_ok c.push.result (c.push.new.self ≡ c.push_facets.new.trail ++ End Solved ∷ []) (IsEnded g.task c.push.new.self)
    (λ same. subst (λ (es : List Entry). IsEnded g.task es) (sym (same ∙ ap (λ es. es ++ End Solved ∷ []) named)) whole) c.push.ensures.ok

pub returns-clause-cuts : goal.returns-clause-cuts
returns-clause-cuts g c =
    let facets = c.in_ok-facets.facets in
    let trail = c.args.trail.now in
    let named : c.push_facets.new.trail ≡ trail ++ naming facets = c.in_ok-push_facets.ensures ∙ ap (λ ks. trail ++ naming ks) c.as_slice-2.ensures.items in
    on_ok c.push.result (c.push.new.self ≡ c.push_facets.new.trail ++ End Solved ∷ []) (cuts_of g.task c.push.new.self ≡ cuts_of g.task trail)
    (λ same. ap (cuts_of g.task) (same ∙ ap (λ es. es ++ End Solved ∷ []) named) ∙ ended_cuts g.task trail facets) c.push.ensures.ok
