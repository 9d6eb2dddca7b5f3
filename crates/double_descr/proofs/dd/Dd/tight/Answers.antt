use Rattle.std.proofs.Common.{◌≡◌, ℕ, List, AllPairs, ◌<◌, Contains, length, sym, ap, ◌∙◌, subst, get_or, slice_index}
use Rattle.polyhedra.specs.LiveList.{tight_set}
use Rattle.double_descr.specs.State.{State}
use Rattle.double_descr.specs.declared.generator.Generator.{Generator}
use Rattle.double_descr.proofs.Reading.{numbers_rise, tight_here}
use Rattle.double_descr.proofs.dd.Dd.tight.Goals as goal

pub place_of-place-requires-clause-rises : goal.place_of-place-requires-clause-rises
place_of-place-requires-clause-rises g c =
    let s = c.self.inside in
    subst (λ (ns : List ℕ). AllPairs (λ a b. a < b) ns) (sym c.as_slice.ensures.items)
    (numbers_rise g.F.Field.value s.width s.rows s.numbers s.generators.items s.next c.self.invariant)

pub returns : goal.returns
returns g c = λ v k.
    let value = g.F.Field.value in
    let s = c.self.inside in
    ap (λ (h : Generator _). h.tight) (sym c.index-as_slice-place.is)
    ∙ tight_here value s.width s.rows s.numbers s.generators.items s.next c.self.invariant c.args.g c.place_of-place.result
    (subst (λ (ns : List ℕ). c.place_of-place.result < length ns) c.as_slice.ensures.items c.place_of-place.ensures.within)
    (subst (λ (ns : List ℕ). slice_index ns c.place_of-place.result ≡ c.args.g) c.as_slice.ensures.items c.place_of-place.ensures.is)
    c.index-as_slice-place.result
    (c.index-as_slice-place.is ∙ ap (λ gs. get_or gs c.place_of-place.result c.index-as_slice-place.result) c.as_slice-2.ensures.value)
    v (subst (λ (x : State). Contains x.list.live (record { number = c.args.g; vector = v })) (sym c.self.view_is) k)
    ∙ ap (λ (x : State). tight_set x.rows v) c.self.view_is
