use Rattle.std.proofs.Common.{◌≡◌, ◌≢◌, ◌≤◌, ℕ, List, length, map, sym, subst, ap, ◌∙◌, arith, All, AllPairs}
use Rattle.exact_field.specs.Rational.{ℚ}
use Rattle.log_rules.specs.Proves.{PlainProves, IsSorting}
use Rattle.log_rules.specs.declared.answer.Answer.TheVariants.{Solved}
use Rattle.log_rules.specs.declared.answer.Gen.{Gen}
use Rattle.log_rules.specs.declared.answer.LineGen.{LineGen}
use Rattle.log_answer.specs.Facets.{facets_at}
use Rattle.log_answer.specs.Members.{shown_of, points_of, directions_of}
use Rattle.log_answer.specs.Places.{AreFacetPlaces}
use Rattle.log_answer.specs.declared.members.Member.{Member}
use Rattle.log_answer.proofs.FoundFacets.{answer_given}
use Rattle.log_answer.proofs.FoundMembers.{points_differ, directions_differ}
use Rattle.log_answer.proofs.solved.assemble.Goals as goal

pub facet_places-requires-clause-exist : goal.facet_places-requires-clause-exist
facet_places-requires-clause-exist c =
    subst (λ (n : ℕ). All (λ k. (1 ≤ k) × (k ≤ n)) c.args.used.now) (sym (c.len-3.ensures ∙ c.args.cuts.ok.0)) c.requires.exist

pub facets-requires-clause-few : goal.facets-requires-clause-few
facets-requires-clause-few c =
    let points = ap (λ (ms : List Member). length ms) c.as_slice.ensures.items in
    let directions = ap (λ (ms : List Member). length ms) c.as_slice-2.ensures.items in
    omega (arith, points, directions)

pub returns : goal.returns
returns c file entries h told =
    let generators = c.args.generators.items in
    let points = c.sorted_members-points.result in
    let directions = c.sorted_members-directions.result in
    let places = c.in_ok-places.places.items in
    let points_are : IsSorting (λ (m : Member). m.y) (points_of c.args.dir generators) points =
    subst (λ (ms : List Member). IsSorting (λ (m : Member). m.y) ms points) c.in_ok-points.ensures.points (c.sorted_members-points.ensures.sorting
    (subst (λ (ms : List Member). AllPairs (λ a b. a.y ≢ b.y) ms) (sym c.in_ok-points.ensures.points)
    (points_differ file entries c.args.dir c.args.c generators c.args.cuts.items c.args.used.now c.args.named.now h))) in
    let directions_are : IsSorting (λ (m : Member). m.y) (directions_of c.args.dir generators) directions =
    subst (λ (ms : List Member). IsSorting (λ (m : Member). m.y) ms directions) c.in_ok-points.ensures.directions (c.sorted_members-directions.ensures.sorting
    (subst (λ (ms : List Member). AllPairs (λ a b. a.y ≢ b.y) ms) (sym c.in_ok-points.ensures.directions)
    (directions_differ file entries c.args.dir c.args.c generators c.args.cuts.items c.args.used.now c.args.named.now h))) in
    let table : AreFacetPlaces c.args.used.now c.args.named.now (length c.args.cuts.items) places =
    subst (λ (n : ℕ). AreFacetPlaces c.args.used.now c.args.named.now n places) (c.len-3.ensures ∙ c.args.cuts.ok.0) c.in_ok-places.ensures in
    let made : c.in_ok-facets.facets ≡ facets_at c.args.dir points directions c.args.cuts.items places =
    c.in_ok-facets.ensures
    ∙ ap (λ (ms : List Member). facets_at c.args.dir ms c.as_slice-2.result.now c.args.cuts.items c.as_slice-3.result.now) c.as_slice.ensures.items
    ∙ ap (λ (ms : List Member). facets_at c.args.dir points ms c.args.cuts.items c.as_slice-3.result.now) c.as_slice-2.ensures.items
    ∙ ap (λ (ps : List ℕ). facets_at c.args.dir points directions c.args.cuts.items ps) c.as_slice-3.ensures.value in
    let answer : PlainProves file entries (Solved c.args.c c.args.lines (map shown_of points) (map shown_of directions) c.sorted_facets.result) =
    answer_given file entries c.args.dir c.args.c generators c.args.cuts.items c.args.used.now c.args.named.now h c.args.lines told points directions places
    c.in_ok-facets.facets c.sorted_facets.result points_are directions_are table made c.sorted_facets.ensures in
    subst (λ (p : List ℚ × List LineGen). PlainProves file entries (Solved p.0 p.1 c.in_ok-gens_of.field-0 c.in_ok-gens_of-2.field-0 c.sorted_facets.result))
    (λ i. (sym c.c.view_is i, sym c.lines.view_is i))
    (subst (λ (gs : List Gen). PlainProves file entries (Solved c.args.c c.args.lines gs c.in_ok-gens_of-2.field-0 c.sorted_facets.result)) (sym c.in_ok-gens_of.ensures)
    (subst (λ (gs : List Gen). PlainProves file entries (Solved c.args.c c.args.lines (map shown_of points) gs c.sorted_facets.result)) (sym c.in_ok-gens_of-2.ensures) answer))
