use Rattle.std.proofs.Common.{◌≡◌, ℕ, ◌+◌, ◌-◌, ◌<◌, List, [], ◌∷◌, ◌++◌, length, map, All, cond, not, ◌&&◌, sym, ap, ◌∙◌, subst, arith}
use Rattle.std.specs.List.{list_any}
use Rattle.std.proofs.lemmas.List.Elements.{All-nil, All-push}
use Rattle.std.proofs.lemmas.List.{append-nil, length-map}
use Rattle.polyhedra.specs.LiveList.{vectors}
use Rattle.geo_duality.specs.Facets.{cut_at, facet_rows, may_be_facet, row_at, same_at, tight_places}
use Rattle.geo_duality.proofs.FacetRows.{facets-push, facets_below, named_are}
use Rattle.geo_duality.proofs.facets.facets_of.Goals as goal
use Rattle.geo_duality.proofs.facets.facets_of.Goals.{then-is_facet+in_ok-push, else-is_facet}

pub loop-k-init : goal.loop-k-init
loop-k-init g c = record {
  found = c.new-facets.ensures;
  within = subst (λ (fs : List ℕ). All (λ j. j < length c.args.dd.now.rows) fs) (sym c.new-facets.ensures) (All-nil (λ j. j < length c.args.dd.now.rows));
  at_most = omega arith;
}

pub is_facet-requires-clause-listed : goal.is_facet-requires-clause-listed
is_facet-requires-clause-listed g c =
    let gens = vectors c.args.dd.now.list.live in
    let many : length c.as_slice.result.now ≡ length c.args.dd.now.rows = ap length (c.as_slice.ensures.items ∙ c.in_ok-sets.ensures) ∙ length-map c.args.dd.now.rows (tight_places gens) in
    subst (λ (p : ℕ × List ℕ). All (λ j. j < p.0) p.1) (λ i. (sym many i, sym c.as_slice-in-loop-k.ensures.items i)) c.loop-k.invariant.within

pub loop-k-preserved : goal.loop-k-preserved
loop-k-preserved g c =
    let gens = vectors c.args.dd.now.list.live in
    let rows = c.args.dd.now.rows in
    let k = c.loop-k.k in
    let is : c.is_facet.result ≡ (may_be_facet gens rows (row_at rows k) && not (list_any (λ j. same_at gens rows j k) (facets_below gens rows (k - 1)))) =
    c.is_facet.ensures gens rows (c.as_slice.ensures.items ∙ c.in_ok-sets.ensures)
    ∙ ap (λ l. may_be_facet gens rows (row_at rows k) && not (list_any (λ j. same_at gens rows j k) l)) (c.as_slice-in-loop-k.ensures.items ∙ c.loop-k.invariant.found) in
    let pushed : facets_below gens rows (k - 1) ++ cond c.is_facet.result (k ∷ []) [] ≡ facets_below gens rows (k + 1 - 1) =
    sym (facets-push gens rows (k - 1) k c.is_facet.result (omega (arith, c.loop-k.auto.k)) is)
    ∙ ap (facets_below gens rows) (let e : k - 1 + 1 ≡ k + 1 - 1 = omega (arith, c.loop-k.auto.k) in e) in
    elim c.if-is_facet.branch [
      | then-is_facet+in_ok-push w ↦ record {
        found = w.facets-is ∙ w.in_ok-push.ensures.ok ∙ ap (λ l. l ++ k ∷ []) c.loop-k.invariant.found
            ∙ sym (ap (λ b. facets_below gens rows (k - 1) ++ cond b (k ∷ []) []) w.if-is_facet.true) ∙ pushed;
        within = subst (λ (fs : List ℕ). All (λ j. j < length rows) fs) (sym (w.facets-is ∙ w.in_ok-push.ensures.ok))
            (All-push (λ j. j < length rows) c.loop-k.facets k c.loop-k.invariant.within (omega (arith, c.row_count-k-end.ensures)));
        at_most = omega (arith, c.row_count-k-end.ensures);
      }
      | else-is_facet w ↦ record {
        found = w.facets-is ∙ c.loop-k.invariant.found ∙ sym (append-nil (facets_below gens rows (k - 1)))
            ∙ sym (ap (λ b. facets_below gens rows (k - 1) ++ cond b (k ∷ []) []) w.if-is_facet.false) ∙ pushed;
        within = subst (λ (fs : List ℕ). All (λ j. j < length rows) fs) (sym w.facets-is) c.loop-k.invariant.within;
        at_most = omega (arith, c.row_count-k-end.ensures);
      }
    ]

pub returns-clause-rows : goal.returns-clause-rows
returns-clause-rows g c = c.loop-k.invariant.found
    ∙ ap (facets_below (vectors c.args.dd.now.list.live) c.args.dd.now.rows)
    (let e : c.loop-k.k - 1 ≡ length c.args.dd.now.rows - 1 = omega (arith, c.row_count-k-end.ensures, c.loop-k.auto.k, c.loop-k.invariant.at_most) in e)

pub returns-clause-named : goal.returns-clause-named
returns-clause-named g c = λ n cuts e. ap (map (cut_at cuts)) (returns-clause-rows g c ∙ ap (facet_rows (vectors c.args.dd.now.list.live)) e)
    ∙ named_are n cuts (vectors c.args.dd.now.list.live)
