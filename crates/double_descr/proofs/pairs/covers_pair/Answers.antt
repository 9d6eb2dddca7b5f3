use Rattle.std.proofs.Common.{◌≡◌, Bool, true, false, List, map, refl, sym, ap, ap₂, ◌∙◌, ◌&&◌, ◌||◌, not, subst, IsTrue, ◌↔◌}
use Rattle.incid_sets.specs.Marks.{has, ContainsAll}
use Rattle.polyhedra.proofs.Covering.{contains_is}
use Rattle.double_descr.proofs.pairs.covers_pair.Goals as goal

uncovering : (x y z : Bool) → y ≡ z → y ≡ false → not false ≡ (x || not z)
uncovering true y z e f = refl
uncovering false y z e f = ap not (sym f ∙ e)

covering : (x r y z : Bool) → r ≡ x → y ≡ z → y ≡ true → not (not r) ≡ (x || not z)
covering true r y z e f h = ap (λ b. not (not b)) e
covering false r y z e f h = ap (λ b. not (not b)) e ∙ ap not (sym h ∙ f)

pub returns-then-not-contains_all : goal.returns-then-not-contains_all
returns-then-not-contains_all g c = λ rows a b d m.
    let value = g.F.Field.value in
    uncovering _ c.contains_all.result _
    (contains_is rows (map value c.args.plus.now.vector.items) (map value c.args.minus.now.vector.items) (map value c.args.third.now.vector.items) c.args.common.now c.contains_all.result
    (λ k. m.common k ∙ ap₂ (λ s t. has s k && has t k) b d)
    (subst (λ (s : List Bool). IsTrue c.contains_all.result ↔ ContainsAll s c.args.common.now) a c.contains_all.ensures))
    c.if-not-contains_all.true

pub returns : goal.returns
returns g c = λ rows a b d m.
    let value = g.F.Field.value in
    covering _ c.is_one_of.result c.contains_all.result _ c.is_one_of.ensures
    (contains_is rows (map value c.args.plus.now.vector.items) (map value c.args.minus.now.vector.items) (map value c.args.third.now.vector.items) c.args.common.now c.contains_all.result
    (λ k. m.common k ∙ ap₂ (λ s t. has s k && has t k) b d)
    (subst (λ (s : List Bool). IsTrue c.contains_all.result ↔ ContainsAll s c.args.common.now) a c.contains_all.ensures))
    c.if-not-contains_all.false
