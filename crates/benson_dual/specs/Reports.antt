-- The part of a report that tells the image, and its lines that tell the lower image.
use Rattle.std.specs.Prelude.{◌≡◌, ◌↔◌, ◌-◌, ℕ, List, [], ◌∷◌, ◌++◌, Contains, codes, map}
use Rattle.exact_field.specs.Rational.{ℚ, one_ℚ, neg_ℚ}
use Rattle.polyhedra.specs.Hull.{IsExtremeDirection, IsNormedDirection, IsVertex}
use Rattle.polyhedra.specs.LowerImage.{IsRecession}
use Rattle.polyhedra.specs.Vectors.{zeros}
use Rattle.vlp_problem.specs.declared.problem.Problem.{Problem}
use Rattle.upper_image.specs.UpperImage.{IsInLowerImageOf, signed}
use Rattle.log_rules.specs.Report.{dual_direction_line, dual_line, head_lines, image_lines, vector_line}
use Rattle.log_rules.specs.Right.{IsSolution}
use Rattle.log_rules.specs.declared.answer.Answer.{Answer}
use Rattle.log_rules.specs.declared.answer.Answer.TheVariants.{Solved}
use Rattle.log_rules.specs.declared.answer.Facet.{Facet}
use Rattle.log_rules.specs.declared.answer.Gen.{Gen}
use Rattle.log_rules.specs.declared.answer.LineGen.{LineGen}

-- the lines of a report before its witnesses
abbrev pub image_part : Problem → Answer → List (List (List ℕ))
image_part file answer = head_lines file answer ++ image_lines file answer

-- those of two right solutions for one file and one duality vector are the same
abbrev pub ImagePartsAgree : Type 0
ImagePartsAgree = (file : Problem) (c : List ℚ) (ls ls' : List LineGen) (points points' directions directions' : List Gen) (facets facets' : List Facet) →
    IsSolution file c ls points directions facets → IsSolution file c ls' points' directions' facets' →
    image_part file (Solved c ls points directions facets) ≡ image_part file (Solved c ls' points' directions' facets')

-- the direction of the lower image in which the bound says less
abbrev pub less_said : Problem → List ℚ
less_said file = zeros (file.objs - 1) ++ signed file.dir (neg_ℚ one_ℚ) ∷ []

-- the lines `dual` after their number: those of facets tell exactly the vertices of the lower image, and
-- the one after them its one normed extreme direction, where it is not empty
pub record TellLowerImage (file : Problem) (c : List ℚ) (facets : List Facet) : Type 0 where
  pub vertices : List (List ℚ)
  pub exactly : (v : List ℚ) → Contains vertices v ↔ IsVertex (IsInLowerImageOf file c) v
  pub lines : map (dual_line file.objs) facets ≡ map (vector_line (codes "1")) vertices
  pub last_line : dual_direction_line file ≡ vector_line (codes "0") (less_said file)
  pub one_direction : (v : List ℚ) → IsInLowerImageOf file c v → (d : List ℚ) →
      (IsExtremeDirection file.objs (IsRecession file.objs (IsInLowerImageOf file c)) d × IsNormedDirection d) ↔ (d ≡ less_said file)

-- so it is for a right solution
abbrev pub DualLinesTell : Type 0
DualLinesTell = (file : Problem) (c : List ℚ) (ls : List LineGen) (points directions : List Gen) (facets : List Facet) →
    IsSolution file c ls points directions facets → TellLowerImage file c facets
