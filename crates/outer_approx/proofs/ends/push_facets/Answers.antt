use Rattle.std.proofs.Common.{slice_index_or, [], ◌∷◌, ◌++◌, take, sym, ap, ◌∙◌, append_assoc}
use Rattle.std.proofs.lemmas.List.{map-append, take_all, take_more}
use Rattle.deriv_log.specs.declared.entry.Entry.TheVariants.{Facet}
use Rattle.outer_approx.proofs.NamedFacets.{naming}
use Rattle.outer_approx.proofs.ends.push_facets.Goals as goal

pub loop-cut-preserved : goal.loop-cut-preserved
loop-cut-preserved c =
    let facets = c.args.facets.now in
    let i = c.loop-cut.cut-index in
    c.in_ok-push.ensures.ok ∙ ap (λ es. es ++ Facet (slice_index_or facets i 0) ∷ []) c.loop-cut.invariant
    ∙ append_assoc c.args.trail.now (naming (take i facets)) (Facet (slice_index_or facets i 0) ∷ [])
    ∙ ap (λ es. c.args.trail.now ++ es) (sym (map-append (λ k. Facet k) (take i facets) (slice_index_or facets i 0 ∷ []))
    ∙ ap naming (sym (take_more facets i 0 c.loop-cut-test.true)))

pub returns : goal.returns
returns c = c.loop-cut.invariant ∙ ap (λ ks. c.args.trail.now ++ naming ks) (take_all c.loop-cut.cut-index c.args.facets.now c.loop-cut-test.false)
