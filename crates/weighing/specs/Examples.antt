-- Small examples, each of which would fail if a definition were wrong.
use Rattle.std.specs.Prelude.{◌≡◌, ℕ, pos, negsuc, List, [], ◌∷◌, map, codes}
use Rattle.src_sink.specs.Texts.{words_text}
use Rattle.exact_field.specs.Rational.{whole, fraction}
use Rattle.vlp_problem.specs.declared.problem.Dir.TheVariants.{Min, Max}
use Rattle.log_rules.specs.Examples.{n, half, minus_one}
use Rattle.log_rules.specs.declared.answer.Answer.{Answer}
use Rattle.log_rules.specs.declared.answer.Answer.TheVariants.{Infeasible, Solved}
use Rattle.log_rules.specs.declared.answer.Facet.{Facet}
use Rattle.log_rules.specs.declared.answer.Gen.{Gen}
use Rattle.weighing.specs.Sets.{lists_with}
use Rattle.weighing.specs.Stages.{GoesOn, IsWay, EndsLeast, line, direction, point_items}
use Rattle.weighing.specs.Text.{sets_of, weighed_lines, weights_lines}
use Rattle.weighing.specs.Weighing.{points_with, normals_of, told_facets}
use Rattle.weighing.specs.declared.weighed.Weighed.TheVariants.{Empty, Unbounded, Least}

-- an image with two vertices, two extreme directions and three facets
abbrev pub left_end : Gen
left_end = record { y = whole (negsuc 5) ∷ n 6 ∷ []; pre = [] }

abbrev pub right_end : Gen
right_end = record { y = n 0 ∷ n 4 ∷ []; pre = [] }

abbrev pub ends : List Gen
ends = left_end ∷ right_end ∷ []

abbrev pub upward : Gen
upward = record { y = minus_one ∷ n 1 ∷ []; pre = [] }

abbrev pub onward : Gen
onward = record { y = n 1 ∷ n 0 ∷ []; pre = [] }

abbrev pub low : Facet
low = record { w = n 0 ∷ n 1 ∷ []; gamma = n 4; u = []; tight = 2 ∷ 4 ∷ [] }

abbrev pub between : Facet
between = record {
  w = fraction (pos 1) 4 ∷ fraction (pos 3) 4 ∷ [];
  gamma = n 3;
  u = [];
  tight = 1 ∷ 2 ∷ [];
}

abbrev pub steep : Facet
steep = record { w = half ∷ half ∷ []; gamma = n 0; u = []; tight = 1 ∷ 3 ∷ [] }

abbrev pub facets : List Facet
facets = low ∷ between ∷ steep ∷ []

-- the answer that lists them
abbrev pub image : Answer
image = Solved (n 1 ∷ n 1 ∷ []) [] ends (upward ∷ onward ∷ []) facets

-- the numbers of tight directions, 3 and 4, are none of points; the facets of a point are told by
-- their numbers, and give its normals
pub record WorkedSets : Type 0 where
  pub sets : sets_of ends facets ≡ (2 ∷ 3 ∷ []) ∷ (1 ∷ 2 ∷ []) ∷ []
  pub in_two : lists_with ((2 ∷ 4 ∷ []) ∷ (1 ∷ 2 ∷ []) ∷ (1 ∷ 3 ∷ []) ∷ []) 2 ≡ 1 ∷ 2 ∷ []
  pub in_none : lists_with ((2 ∷ 4 ∷ []) ∷ (1 ∷ 2 ∷ []) ∷ []) 3 ≡ []
  pub normals : normals_of facets (told_facets facets 1) ≡ between.w ∷ steep.w ∷ []

-- where the weights (1/4, 3/4) have 3, and (1/2, 1/2) have 0, and which points do not; along (-1, 1)
-- the weights (1, 0) go down, and not where the file maximises; along a line only 0 goes on, and both
-- ways are ways; and a point that is least is not left out
pub record WorkedWeighing : Type 0 where
  pub both : points_with ends between.w (n 3) ≡ 1 ∷ 2 ∷ []
  pub first : points_with ends steep.w (n 0) ≡ 1 ∷ []
  pub none : points_with ends steep.w (n 1) ≡ []
  pub down : GoesOn Min (n 1 ∷ n 0 ∷ []) (direction upward.y) → ⊥
  pub up : GoesOn Max (n 1 ∷ n 0 ∷ []) (direction upward.y)
  pub level : GoesOn Min (n 0 ∷ n 1 ∷ []) (direction onward.y)
  pub along : GoesOn Min (n 1 ∷ n 1 ∷ []) (line upward.y)
  pub off : GoesOn Min (n 1 ∷ n 2 ∷ []) (line upward.y) → ⊥
  pub back : IsWay (line upward.y) (n 1 ∷ minus_one ∷ [])
  pub not_left_out : EndsLeast Min between.w (point_items ends) ends (n 3) (1 ∷ []) → ⊥
  pub not_nothing : EndsLeast Min steep.w (point_items ends) ends (n 1) [] → ⊥

-- the texts, line by line
abbrev pub sets_text : List (List ℕ)
sets_text =
    codes "weights 1" ∷ codes "answer solved" ∷ codes "points 2" ∷ codes "1 -6 6" ∷ codes "n 2 2 3"
    ∷ codes "1 0 4" ∷ codes "n 2 1 2" ∷ codes "facets 3" ∷ codes "f 0 1 4" ∷ codes "f 1/4 3/4 3"
    ∷ codes "f 1/2 1/2 0" ∷ []

-- for the weights (1/4, 3/4), which are least at both vertices
abbrev pub both_text : List (List ℕ)
both_text =
    codes "weigh 1" ∷ codes "answer solved" ∷ codes "value 3" ∷ codes "points 2" ∷ codes "1 -6 6"
    ∷ codes "1 0 4" ∷ []

-- for weights that go down along (-1, 1)
abbrev pub down_text : List (List ℕ)
down_text = codes "weigh 1" ∷ codes "answer unbounded" ∷ codes "0 -1 1" ∷ []

-- these texts, and that of an image without points
pub record WorkedTexts : Type 0 where
  pub sets : map words_text (weights_lines image) ≡ sets_text
  pub both : map words_text (weighed_lines image (Least (n 3) (1 ∷ 2 ∷ []))) ≡ both_text
  pub down : map words_text (weighed_lines image (Unbounded upward.y)) ≡ down_text
  pub empty : map words_text (weighed_lines (Infeasible []) Empty)
      ≡ codes "weigh 1" ∷ codes "answer infeasible" ∷ []
