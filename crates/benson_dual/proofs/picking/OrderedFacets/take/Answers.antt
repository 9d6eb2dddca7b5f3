use Rattle.std.proofs.Common.{◌≡◌, ◌++◌, ◌∷◌, [], List, All, map, sym, ap, ◌∙◌, subst, arith}
use Rattle.std.proofs.lemmas.List.Elements.{All-push}
use Rattle.exact_field.specs.Rational.{ℚ}
use Rattle.polyhedra.proofs.Lists.{HasWidth}
use Rattle.lp_form.specs.declared.shown.Cut.{Cut as CutOf}
use Rattle.outer_approx.specs.Cuts.{IsCutFor}
use Rattle.recession.specs.Further.{normals_of}
use Rattle.benson_dual.specs.Picking.{ArePicked, IsCount}
use Rattle.benson_dual.proofs.Counted.{free_of, last_same, off_if_counted, within_if_counted}
use Rattle.benson_dual.proofs.Picked.{normals-more, normals_wide, picked_first, picked_other}
use Rattle.benson_dual.proofs.picking.OrderedFacets.take.Goals as goal

pub returns-then-len-most-clause-ok : goal.returns-then-len-most-clause-ok
returns-then-len-most-clause-ok g c = λ seen h.
    let value = g.F.Field.value in
    let old = c.args.self.now in
    let cut = c.args.cut in
    subst (λ (others : List (CutOf g.row.F.Denot)). ArePicked value c.args.q c.args.most (seen ++ cut ∷ []) old.first.items others) (sym c.in_ok-push_last.ensures)
    (picked_other value c.args.q c.args.most seen old.first.items old.others.items cut h
    (λ fewer. absurd (omega (arith, fewer, c.if-len-most.true, c.len.ensures))))

pub are_independent-requires : goal.are_independent-requires
are_independent-requires g c κs within =
    let value = g.F.Field.value in
    let first = c.args.self.now.first.items in (
      within,
      (
        c.requires.1.0,
        (
          c.requires.1.1.0,
          subst (All (IsCutFor value g.task)) (sym (c.deref.ensures.value ∙ c.in_ok-push_last-2.ensures))
              (All-push (IsCutFor value g.task) first c.args.cut c.requires.1.1.1.0 c.requires.1.1.1.1),
        ),
      ),
    )

pub returns-then-branch-clause-ok : goal.returns-then-branch-clause-ok
returns-then-branch-clause-ok g c = λ seen h.
    let value = g.F.Field.value in
    let old = c.args.self.now in
    let cut = c.args.cut in
    let q = c.args.q in
    let w = map value cut.w in
    let more : c.deref.result.now ≡ old.first.items ++ cut ∷ [] = c.deref.ensures.value ∙ c.in_ok-push_last-2.ensures in
    let count : IsCount q (normals_of value old.first.items ++ w ∷ []) c.in_ok-are_independent.field-0 =
    subst (λ (ns : List (List ℚ)). IsCount q ns c.in_ok-are_independent.field-0) (ap (normals_of value) more ∙ normals-more value old.first.items cut)
    c.in_ok-are_independent.ensures.ok in
    subst (λ (first : List (CutOf g.row.F.Denot)). ArePicked value q c.args.most (seen ++ cut ∷ []) first old.others.items) (sym c.in_ok-push_last-2.ensures)
    (picked_first value q c.args.most seen old.first.items old.others.items cut h (omega (arith, c.if-len-most.false, c.len.ensures))
    (off_if_counted q (normals_of value old.first.items) w c.in_ok-are_independent.field-0 count c.if-branch.true))

pub returns-clause-ok : goal.returns-clause-ok
returns-clause-ok g c = λ seen h.
    let value = g.F.Field.value in
    let old = c.args.self.now in
    let new = c.move_last.new.self in
    let cut = c.args.cut in
    let q = c.args.q in
    let w = map value cut.w in
    let more : c.deref.result.now ≡ old.first.items ++ cut ∷ [] = c.deref.ensures.value ∙ c.in_ok-push_last-2.ensures in
    let count : IsCount q (normals_of value old.first.items ++ w ∷ []) c.in_ok-are_independent.field-0 =
    subst (λ (ns : List (List ℚ)). IsCount q ns c.in_ok-are_independent.field-0) (ap (normals_of value) more ∙ normals-more value old.first.items cut)
    c.in_ok-are_independent.ensures.ok in
    let wide : All (HasWidth q) (normals_of value old.first.items) =
    subst (λ n. All (HasWidth n) (normals_of value old.first.items)) (sym c.requires.1.0) (normals_wide value g.task old.first.items c.requires.1.1.1.0) in
    let moved = c.in_ok-move_last.ensures in
    let same = last_same old.first.items new.first.items cut moved.0 (sym c.in_ok-push_last-2.ensures ∙ moved.1) in
    subst (λ (first : List (CutOf g.row.F.Denot)). ArePicked value q c.args.most (seen ++ cut ∷ []) first new.others.items) (sym same.0)
    (subst (λ (others : List (CutOf g.row.F.Denot)). ArePicked value q c.args.most (seen ++ cut ∷ []) old.first.items others)
    (sym (moved.2 ∙ ap (λ (x : CutOf g.row.F.Denot). old.others.items ++ x ∷ []) same.1))
    (picked_other value q c.args.most seen old.first.items old.others.items cut h
    (λ fewer. within_if_counted q (normals_of value old.first.items) w c.in_ok-are_independent.field-0 (free_of q (normals_of value old.first.items) wide h.free) count
    c.if-branch.false)))
