use Rattle.std.proofs.Common.{◌≡◌, ◌∷◌, ◌++◌, [], List, true, false, sym, subst, ap, ◌∙◌}
use Rattle.std.specs.Vec.Iter.{into_iter_items}
use Rattle.exact_field.specs.Order.{same_ℚ}
use Rattle.exact_field.specs.Rational.{ℚ, one_ℚ}
use Rattle.exact_field.specs.Vector.{last}
use Rattle.log_answer.specs.Members.{is_point}
use Rattle.log_answer.specs.declared.members.Member.{Member}
use Rattle.log_answer.proofs.Rests.{ArePartsOf, with_point, with_direction}
use Rattle.log_answer.proofs.members.split_members.Goals as goal

pub loop-generator-preserved-in-Continue-branch-2 : goal.loop-generator-preserved-in-Continue-branch-2
loop-generator-preserved-in-Continue-branch-2 c =
    let rest = into_iter_items c.next.new.self in
    let test : is_point c.in-Some.generator ≡ true =
    ap (λ (v : List ℚ). same_ℚ (last v) one_ℚ) (sym c.as_slice.ensures.items) ∙ sym c.ends_in_one-is_point.ensures ∙ c.if-is_point.true in
    let pushed = c.in_ok-push.ensures.ok ∙ ap (λ (m : Member). c.loop-generator.points ++ m ∷ []) c.in_ok-member.ensures in
    subst (λ (ms : List Member). ArePartsOf c.args.dir c.args.generators.items rest ms c.loop-generator.directions) (sym pushed)
    (with_point c.args.dir c.args.generators.items (into_iter_items c.loop-generator.generator-iterator) c.loop-generator.points c.loop-generator.directions
    c.in-Some.generator rest c.in-Some.ensures.steps.0 c.loop-generator.invariant test)

pub loop-generator-preserved : goal.loop-generator-preserved
loop-generator-preserved c =
    let rest = into_iter_items c.next.new.self in
    let test : is_point c.in-Some.generator ≡ false =
    ap (λ (v : List ℚ). same_ℚ (last v) one_ℚ) (sym c.as_slice.ensures.items) ∙ sym c.ends_in_one-is_point.ensures ∙ c.if-is_point.false in
    let pushed = c.in_ok-push-2.ensures.ok ∙ ap (λ (m : Member). c.loop-generator.directions ++ m ∷ []) c.in_ok-member.ensures in
    subst (λ (ms : List Member). ArePartsOf c.args.dir c.args.generators.items rest c.loop-generator.points ms) (sym pushed)
    (with_direction c.args.dir c.args.generators.items (into_iter_items c.loop-generator.generator-iterator) c.loop-generator.points c.loop-generator.directions
    c.in-Some.generator rest c.in-Some.ensures.steps.0 c.loop-generator.invariant test)
