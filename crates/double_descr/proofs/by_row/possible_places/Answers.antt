use Rattle.std.proofs.Common.{length, ◌≡◌, ◌<◌, ◌≤◌, ◌⊎◌, inl, inr, ◌&&◌, [], false, IsTrue, true≢false, sym, ap, ap₂, ◌∙◌, subst, arith}
use Rattle.std.proofs.lemmas.Bool.{and_parts, cases_lt}
use Rattle.std.proofs.lemmas.List.{get_or-map}
use Rattle.incid_sets.specs.Marks.{has, size, IsMeet}
use Rattle.polyhedra.specs.LiveList.{is_uncovered_live}
use Rattle.double_descr.specs.ByRow.{tight_at, AreByRow, AreSetsOf, HasPlace}
use Rattle.double_descr.specs.State.{live_of, pair_of}
use Rattle.double_descr.specs.declared.generator.Generator.{Generator}
use Rattle.double_descr.proofs.Covering.{both_common, both_is, both_of, few_are_no_pair, size_within}
use Rattle.double_descr.proofs.by_row.possible_places.Goals as goal

pub returns : goal.returns
returns g c = λ n rows gens m place indexed two reached inside is closed.
    let value = g.F.Field.value in
    let p = c.args.plus.now in
    let reach = c.args.search.now.reach in
    let all = c.args.search.now.all in
    let sets = c.as_slice.result.now in
    let by_row : AreByRow gens reach (length gens) sets = subst (λ l. AreByRow gens reach (length gens) l) (sym c.as_slice.ensures.items)
    (subst (λ o. AreSetsOf gens reach o) c.in-Some.is indexed.by_row) in
    let shared = c.in_ok-shared.shared in
    let meet : IsMeet shared reach p.tight = c.in_ok-shared.ensures in
    let tight : tight_at gens place ≡ m.tight = get_or-map (λ (h : Generator _). h.tight) gens place m [] inside ∙ ap (λ (h : Generator _). h.tight) (sym is) in
    let placed : HasPlace sets shared m.tight place = λ r x y.
    by_row.holds place inside r (and_parts (has reach r) (has p.tight r) (sym (meet.common r) ∙ x)).0 (ap (λ s. has s r) tight ∙ y) in
    let common = both_of shared m.tight in
    let less : size (both_of p.tight m.tight) ≤ size common = size_within (both_of p.tight m.tight) common (λ k h.
    let parts = and_parts (has p.tight k) (has m.tight k) (sym (both_common p.tight m.tight k) ∙ h) in
    both_common shared m.tight k ∙ ap₂ (λ x y. x && y) (meet.common k ∙ ap₂ (λ x y. x && y) (reached k parts.1) parts.0) parts.1) in
    let there : IsTrue (has c.in_ok-possible.possible place) = c.in_ok-possible.ensures.common place ∙ ap₂ (λ x y. x && y) (indexed.each place inside) (indexed.each place inside) in
    let split : (size (both_of p.tight m.tight) < c.saturating_sub-least.result) ⊎ (c.saturating_sub-least.result ≤ size (both_of p.tight m.tight)) →
    is_uncovered_live rows (live_of value gens) (pair_of value p m) ≡ false = λ w. elim w [
      | inl few ↦ few_are_no_pair value n rows gens p m (both_of p.tight m.tight) two (both_is p.tight m.tight)
          (omega (arith, few, c.saturating_sub-least.ensures, c.len.ensures, c.args.plus.now.vector.ok))
      | inr enough ↦ absurd (true≢false (sym (c.narrow.ensures.keeps place m.tight common placed (both_is shared m.tight) (omega (arith, enough, less)) there) ∙ closed))
    ] in
    split (cases_lt (size (both_of p.tight m.tight)) c.saturating_sub-least.result)
