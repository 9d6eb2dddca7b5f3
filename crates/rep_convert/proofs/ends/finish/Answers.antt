use Rattle.std.proofs.Common.{◌<◌, List, [], ◌∷◌, ◌++◌, Bool, length, map, sym, ap, ◌∙◌, subst}
use Rattle.exact_field.specs.Rational.{ℚ}
use Rattle.polyhedra.specs.LiveList.{vectors}
use Rattle.lineality.specs.Without.{with_zeros}
use Rattle.rep_text.specs.declared.conv.ConvEntry.TheVariants.{End}
use Rattle.rep_convert.specs.Lines.{marks_of}
use Rattle.rep_convert.proofs.Ended.{ended, given_off}
use Rattle.rep_convert.proofs.ends.finish.Goals as goal

pub other_rep-requires-clause-given : goal.other_rep-requires-clause-given
other_rep-requires-clause-given c =
    let rep = c.args.rep.now in
    let log = c.take_all.new.log in
    let dd = c.take_all.new.dd in
    let did = c.in_ok-take_all.ensures in (
      log ++ End ∷ [],
      given_off rep log dd did.ok (subst (λ (rows : List (List ℚ)). 0 < length rows) c.requires.rows c.requires.some) did.all
          c.as_slice-5.result.now c.as_slice-6.result.now (c.as_slice-5.ensures.items ∙ c.requires.lines ∙ sym did.lines)
          (c.as_slice-6.ensures.items ∙ c.in_ok-generators.ensures
          ∙ ap (λ (bs : List Bool). map (with_zeros bs) (vectors dd.list.live)) (c.as_slice-places.ensures.items ∙ c.requires.places ∙ sym (ap (marks_of rep) did.lines))),
    )

pub returns-clause-ok : goal.returns-clause-ok
returns-clause-ok c =
    let rep = c.args.rep.now in
    let log = c.take_all.new.log in
    let dd = c.take_all.new.dd in
    let did = c.in_ok-take_all.ensures in
    let some = subst (λ (rows : List (List ℚ)). 0 < length rows) c.requires.rows c.requires.some in
    ended rep log dd did.ok some did.all c.push.new.self c.in_ok-push.ensures.ok c.in_ok-found.found
    (c.in_ok-found.ensures (log ++ End ∷ [])
    (given_off rep log dd did.ok some did.all
    c.as_slice-5.result.now c.as_slice-6.result.now (c.as_slice-5.ensures.items ∙ c.requires.lines ∙ sym did.lines)
    (c.as_slice-6.ensures.items ∙ c.in_ok-generators.ensures
    ∙ ap (λ (bs : List Bool). map (with_zeros bs) (vectors dd.list.live)) (c.as_slice-places.ensures.items ∙ c.requires.places ∙ sym (ap (marks_of rep) did.lines)))))
