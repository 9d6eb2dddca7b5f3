-- What is told of an image is right for its answer.
use Rattle.std.proofs.Common.{◌≡◌, List, Result, sym, subst}
use Rattle.std.specs.Prelude.{IfOk, IfErr}
use Rattle.exact_field.specs.Rational.{ℚ}
use Rattle.vlp_problem.specs.declared.problem.Problem.{Problem}
use Rattle.log_rules.specs.Right.{IsRight}
use Rattle.log_rules.specs.declared.answer.Answer.{Answer}
use Rattle.log_rules.specs.declared.answer.Answer.TheVariants.{Solved}
use Rattle.log_rules.specs.declared.answer.Facet.{Facet}
use Rattle.log_rules.specs.declared.answer.Gen.{Gen}
use Rattle.log_rules.specs.declared.answer.LineGen.{LineGen}
use Rattle.weighing.specs.Stages.{IsWeighedFrom}
use Rattle.weighing.specs.Walk.{StopsWalk, WeighsTo, WeighStops, all_items}
use Rattle.weighing.specs.Weighing.{IsWeighed}
use Rattle.weighing.specs.declared.weighed.Weighed.{Weighed}
use Rattle.weighing.specs.declared.weighed.Weighed.TheVariants.{Unbounded, Least}
use Rattle.weighing.specs.declared.weighed.WeighEnd.{WeighEnd}
use Rattle.weighing.proofs.Walks.{ok_map, err_map, weigh_stops}
use Rattle.weighing.proofs.WeighedRight.{weighed_is_right}

module _ (file : Problem) (answer : Answer) (w : List ℚ) (c : List ℚ) (ls : List LineGen) (points directions : List Gen) (facets : List Facet)
    (ls' : List LineGen) (points' directions' : List Gen) (is : answer ≡ Solved c ls points directions facets)
    (l : ls' ≡ ls) (p : points' ≡ points) (d : directions' ≡ directions) where
  from_image : (x : Weighed) → WeighsTo file.dir w (all_items ls directions points) points x → IsWeighedFrom file (Solved c ls points directions facets) w x
  from_image (Unbounded v) h = h
  from_image (Least value listed) h = h
  from_image x h = absurd h

  pub told_from : (r : Result Weighed WeighEnd) → IfOk r (WeighsTo file.dir w (all_items ls' directions' points') points') → IfOk r (IsWeighedFrom file answer w)
  told_from r h = subst (λ (a : Answer). IfOk r (IsWeighedFrom file a w)) (sym is)
      (ok_map r (WeighsTo file.dir w (all_items ls directions points) points) (IsWeighedFrom file (Solved c ls points directions facets) w)
      (subst (λ (x : List LineGen × List Gen × List Gen). IfOk r (WeighsTo file.dir w (all_items x.0 x.2 x.1) x.1)) (λ i. (l i, p i, d i)) h) from_image)

  pub told_right : IsRight file answer → (r : Result Weighed WeighEnd) → IfOk r (WeighsTo file.dir w (all_items ls' directions' points') points') → IfOk r (IsWeighed file answer w)
  told_right right r h = ok_map r (IsWeighedFrom file answer w) (IsWeighed file answer w) (told_from r h) (λ x k. weighed_is_right file answer w x right k)

  pub told_stops : (r : Result Weighed WeighEnd) → IfErr r (StopsWalk file.dir w (all_items ls' directions' points') 0) → IfErr r (WeighStops file answer w)
  told_stops r h = err_map r (StopsWalk file.dir w (all_items ls directions points) 0) (WeighStops file answer w)
      (subst (λ (x : List LineGen × List Gen × List Gen). IfErr r (StopsWalk file.dir w (all_items x.0 x.2 x.1) 0)) (λ i. (l i, p i, d i)) h)
      (λ e k. subst (λ (a : Answer). WeighStops file a w e) (sym is) (weigh_stops file (Solved c ls points directions facets) w e k))
