use Rattle.lin_rows.proofs.Errors.{err_holds}
use Rattle.std.proofs.Common.{◌≡◌, List, [], ◌∷◌, ◌++◌, length, map, All, refl, sym, ap, ◌∙◌, subst, arith}
use Rattle.double_descr.specs.Steps.{values}
use Rattle.double_descr.specs.State.{State, list_of, live_of}
use Rattle.double_descr.specs.declared.generator.Generator.{Generator}
use Rattle.double_descr.specs.Adding.{AreHeld, IsAddFault, IsChange, add_blocks}
use Rattle.double_descr.specs.Making.{IsNext, addition_of}
use Rattle.double_descr.proofs.KeptNext.{is_addition, kept_next, many_values, moved_list, moved_tight, sets_for, view_next}
use Rattle.double_descr.proofs.dd.Dd.add.Goals as goal

pub next_list-requires : goal.next_list-requires
next_list-requires g c κs within =
    let s = c.self.inside in
    let w : length c.args.row.now ≡ s.width = c.requires ∙ sym (ap (λ (x : State). x.width) c.self.view_is) in
    (within, (refl, is_addition g.F.Field.value s.width s.rows s.numbers s.generators.items s.next c.self.invariant c.args.row.now w c.as_slice.result.now c.as_slice.ensures.value))

pub advance-requires-clause-same : goal.advance-requires-clause-same
advance-requires-clause-same g c =
    let value = g.F.Field.value in
    let s = c.self.inside in
    let w : length c.args.row.now ≡ s.width = c.requires ∙ sym (ap (λ (x : State). x.width) c.self.view_is) in
    let made = subst (λ (gs : List (Generator _)). IsNext value (addition_of value s.rows c.args.row.now s.next) gs c.in_ok-made.made) c.as_slice.ensures.value c.in_ok-made.ensures.next in
    many_values value s.width s.rows s.numbers s.generators.items s.next c.self.invariant c.args.row.now w c.in_ok-made.made made c.reserve.new.self.items c.reserve.ensures.items
    c.as_slice-2.result.now c.as_slice-2.ensures.items c.reserve.new.self.items ∙ sym c.reserve.new.self.ok.0

pub advance-requires-clause-sets : goal.advance-requires-clause-sets
advance-requires-clause-sets g c =
    let value = g.F.Field.value in
    let s = c.self.inside in
    let w : length c.args.row.now ≡ s.width = c.requires ∙ sym (ap (λ (x : State). x.width) c.self.view_is) in
    let made = subst (λ (gs : List (Generator _)). IsNext value (addition_of value s.rows c.args.row.now s.next) gs c.in_ok-made.made) c.as_slice.ensures.value c.in_ok-made.ensures.next in
    sets_for value s.width s.rows s.numbers s.generators.items s.next c.self.invariant c.args.row.now w c.in_ok-made.made made c.reserve.new.self.items c.reserve.ensures.items
    c.as_slice-2.result.now c.as_slice-2.ensures.items c.reserve.new.self.items

pub advance-requires-clause-room : goal.advance-requires-clause-room
advance-requires-clause-room g c = omega (arith, c.in_ok-reserve.ensures.ok, c.len.ensures.value)

pub invariant_of-self-2 : goal.invariant_of-self-2
invariant_of-self-2 g c =
    let value = g.F.Field.value in
    let s = c.self.inside in
    let row = c.args.row.now in
    let w : length row ≡ s.width = c.requires ∙ sym (ap (λ (x : State). x.width) c.self.view_is) in
    let made = subst (λ (gs : List (Generator _)). IsNext value (addition_of value s.rows row s.next) gs c.in_ok-made.made) c.as_slice.ensures.value c.in_ok-made.ensures.next in
    let after : c.push.new.self ≡ s.rows ++ row ∷ [] = c.in_ok-push.ensures.ok ∙ ap (λ r. s.rows ++ r ∷ []) (c.in_ok-append.ensures.ok ∙ ap (λ r. r ++ row) c.new-line.ensures) in
    kept_next value s.width s.rows s.numbers s.generators.items s.next c.self.invariant row w c.push.new.self after c.advance.new.generators.items c.in_ok-made.made.next
    (moved_list value s.width s.rows s.numbers s.generators.items s.next c.self.invariant row w c.in_ok-made.made made c.reserve.new.self.items c.reserve.ensures.items
    c.as_slice-2.result.now c.as_slice-2.ensures.items c.advance.new.generators.items c.advance.ensures.live)
    c.in_ok-made.made.numbers made.numbers_are
    (moved_tight value s.width s.rows s.numbers s.generators.items s.next c.self.invariant row w c.in_ok-made.made made c.reserve.new.self.items c.reserve.ensures.items
    c.as_slice-2.result.now c.as_slice-2.ensures.items c.advance.new.generators.items c.advance.ensures.tight)

pub returns-clause-ok : goal.returns-clause-ok
returns-clause-ok g c =
    let value = g.F.Field.value in
    let s = c.self.inside in
    let row = c.args.row.now in
    let w : length row ≡ s.width = c.requires ∙ sym (ap (λ (x : State). x.width) c.self.view_is) in
    let made = subst (λ (gs : List (Generator _)). IsNext value (addition_of value s.rows row s.next) gs c.in_ok-made.made) c.as_slice.ensures.value c.in_ok-made.ensures.next in
    let after : c.push.new.self ≡ s.rows ++ row ∷ [] = c.in_ok-push.ensures.ok ∙ ap (λ r. s.rows ++ r ∷ []) (c.in_ok-append.ensures.ok ∙ ap (λ r. r ++ row) c.new-line.ensures) in
    view_next value s.width s.rows s.numbers s.generators.items s.next c.self.invariant row w c.push.new.self after c.advance.new.generators.items c.in_ok-made.made.next
    (moved_list value s.width s.rows s.numbers s.generators.items s.next c.self.invariant row w c.in_ok-made.made made c.reserve.new.self.items c.reserve.ensures.items
    c.as_slice-2.result.now c.as_slice-2.ensures.items c.advance.new.generators.items c.advance.ensures.live)
    c.args.self.now c.self.view_is

pub returns-clause-change : goal.returns-clause-change
returns-clause-change g c =
    let value = g.F.Field.value in
    let s = c.self.inside in
    let row = c.args.row.now in
    let rows = map (values value) s.rows in
    let gens_is : c.as_slice.result.now ≡ s.generators.items = c.as_slice.ensures.value in
    subst (λ (x : State). IsChange x.rows x.list (values value row) c.in_ok-made.made.change) c.self.view_is
    (subst (λ (gs : List (Generator _)). IsChange rows (list_of value gs s.next) (values value row) c.in_ok-made.made.change) gens_is c.in_ok-made.ensures.change)

pub returns-clause-held : goal.returns-clause-held
returns-clause-held g c =
    let value = g.F.Field.value in
    let s = c.self.inside in
    let row = c.args.row.now in
    let rows = map (values value) s.rows in
    let gens_is : c.as_slice.result.now ≡ s.generators.items = c.as_slice.ensures.value in
    subst (λ (x : State). All (AreHeld g.F.Field.holds) (add_blocks x.rows x.list.live (values value row))) c.self.view_is
    (subst (λ (gs : List (Generator _)). All (AreHeld g.F.Field.holds) (add_blocks rows (live_of value gs) (values value row))) gens_is c.in_ok-made.ensures.held)

pub returns-in_err-made-clause-left : goal.returns-in_err-made-clause-left
returns-in_err-made-clause-left g c =
    let value = g.F.Field.value in
    let s = c.self.inside in
    let row = c.args.row.now in
    let rows = map (values value) s.rows in
    let gens_is : c.as_slice.result.now ≡ s.generators.items = c.as_slice.ensures.value in
    let holds = g.F.Field.holds in
    err_holds c.from_residual.result c.in_err-made.field-0.0 _ c.from_residual.ensures.1
    (subst (λ (x : State). IsAddFault value holds (add_blocks x.rows x.list.live (values value row)) c.in_err-made.field-0.0) c.self.view_is
    (subst (λ (gs : List (Generator _)). IsAddFault value holds (add_blocks rows (live_of value gs) (values value row)) c.in_err-made.field-0.0) gens_is c.in_err-made.ensures.left))
