-- The directions of a right answer tell which of them are level.
use Rattle.std.proofs.Common.{◌≡◌, ℕ, ◌≤◌, List, map, take, All, sym, ◌∙◌, subst, arith}
use Rattle.exact_field.specs.Rational.{ℚ}
use Rattle.frac128.specs.declared.vectors.Spot.{Spot}
use Rattle.polyhedra.specs.Sparse.{value_at, values_from}
use Rattle.polyhedra.proofs.Members.{all_of_members, member_of, Contains-map}
use Rattle.upper_image.specs.Spots.{dense, entry_of}
use Rattle.upper_image.specs.Witnesses.{HasDirectionPreimage}
use Rattle.log_rules.specs.Right.{IsRight, stated, IsSolution}
use Rattle.log_rules.specs.declared.answer.Answer.{Answer}
use Rattle.log_rules.specs.declared.answer.Answer.TheVariants.{Whole, Solved}
use Rattle.log_rules.specs.declared.answer.Facet.{Facet}
use Rattle.log_rules.specs.declared.answer.Gen.{Gen}
use Rattle.log_rules.specs.declared.answer.LineGen.{LineGen}
use Rattle.vlp_problem.specs.declared.problem.Problem.{Problem}
use Rattle.projection.specs.Associated.{IsAssociated}
use Rattle.projection.proofs.Level.{level_directions}
use Rattle.projection.proofs.Slices.{never_whole}
use Rattle.projection.specs.Found.{AnswersAssociated}
use Rattle.projection.specs.Levels.{TellsLevel}
use Rattle.projection.proofs.Fronts.{take-values}

directions_tell : (k : ℕ) (file made : Problem) → k ≤ file.cols → IsAssociated k file made → (c : List ℚ) (lines : List LineGen) (points directions : List Gen) (facets : List Facet) →
    IsSolution made c lines points directions facets → All (TellsLevel k) directions
directions_tell k file made below s c lines points directions facets right = all_of_members (TellsLevel k) directions (λ g m.
    let h : HasDirectionPreimage made g.y g.pre = member_of (λ d. HasDirectionPreimage made d.y d.pre) directions g right.direction_preimages m in
    let front : take k (dense made.cols g.pre) ≡ values_from k 1 (value_at (map entry_of g.pre)) =
    take-values (value_at (map entry_of g.pre)) 1 k made.cols (subst (λ (n : ℕ). k ≤ n) (sym s.cols) below) in
    let told = level_directions k file made c (map (λ l. l.d) lines) (map (λ d. d.y) points) (map (λ d. d.y) directions) (map stated facets) below s right.exact
    g.y (dense made.cols g.pre) (Contains-map (λ d. d.y) directions g m) h.shown in
    record {
      wide = omega (arith, h.shown.wide ∙ s.objs);
      tells = (
        λ e. let both = told.0 e in (sym both.0 ∙ front, both.1),
        λ e. told.1 (front ∙ sym e.0, e.1),
      );
    })

pub tell_level : (k : ℕ) (answer : Answer) → AnswersAssociated k answer → (c : List ℚ) (lines : List LineGen) (points directions : List Gen) (facets : List Facet) →
    answer ≡ Solved c lines points directions facets → All (TellsLevel k) directions
tell_level k answer a c lines points directions facets e =
    directions_tell k a.file a.made a.below a.associated c lines points directions facets (subst (λ (w : Answer). IsRight a.made w) e a.right)

pub not_whole : (k : ℕ) (answer : Answer) → AnswersAssociated k answer → (c : List ℚ) (x ray : List Spot) → answer ≡ Whole c x ray → ⊥
not_whole k answer a c x ray e = never_whole k a.file a.made c x ray a.below a.associated (subst (λ (w : Answer). IsRight a.made w) e a.right)
