-- The texts of the facets that are told of points, and of a weighing.
use Rattle.std.specs.Prelude.{ℕ, List, [], ◌∷◌, ◌++◌, map, length, codes, decimal, zip}
use Rattle.std.specs.List.{flat_map}
use Rattle.src_sink.specs.Texts.{line_text}
use Rattle.exact_field.specs.Rational.{ℚ}
use Rattle.frac128.specs.Text.{frac_text}
use Rattle.log_rules.specs.Report.{vector_line, facet_line, section, answer_name}
use Rattle.log_rules.specs.declared.answer.Answer.{Answer}
use Rattle.log_rules.specs.declared.answer.Answer.TheVariants.{Solved}
use Rattle.log_rules.specs.declared.answer.Facet.{Facet}
use Rattle.log_rules.specs.declared.answer.Gen.{Gen}
use Rattle.weighing.specs.Sets.{weight_sets}
use Rattle.weighing.specs.Weighing.{vectors_of, point_at}
use Rattle.weighing.specs.declared.weighed.Weighed.{Weighed}
use Rattle.weighing.specs.declared.weighed.Weighed.TheVariants.{Empty, Whole, Unbounded, Least}

-- ---- weights
-- how many facets, and their numbers
abbrev pub numbers_line : List ℕ → List (List ℕ)
numbers_line ks = codes "n" ∷ decimal (length ks) ∷ map decimal ks

-- a point, and the facets that are told of it
abbrev pub point_lines : List ℚ × List ℕ → List (List (List ℕ))
point_lines p = vector_line (codes "1") p.0 ∷ numbers_line p.1 ∷ []

-- the facets that are told of each point
abbrev pub sets_of : List Gen → List Facet → List (List ℕ)
sets_of points facets = weight_sets (map (λ f. f.tight) facets) (length points)

-- the lines of all points
abbrev pub sets_lines : List Gen → List (List ℕ) → List (List (List ℕ))
sets_lines points sets = flat_map point_lines (zip (vectors_of points) sets)

-- the section of the points, and that of the facets
abbrev pub image_lines : List Gen → List Facet → List (List (List ℕ))
image_lines points facets =
    ((codes "points" ∷ decimal (length points) ∷ [])
    ∷ sets_lines points (sets_of points facets))
    ++ section (codes "facets") facet_line facets

-- the same of a solved answer, and none of another one
abbrev pub solution_lines : Answer → List (List (List ℕ))
solution_lines (Solved c ls points directions facets) = image_lines points facets
solution_lines _ = []

-- the line of the kind of an answer
abbrev pub answer_line : List ℕ → List (List ℕ)
answer_line name = codes "answer" ∷ name ∷ []

-- the words of each line
abbrev pub weights_lines : Answer → List (List (List ℕ))
weights_lines answer =
    (codes "weights" ∷ codes "1" ∷ [])
    ∷ answer_line (answer_name answer)
    ∷ solution_lines answer

-- the text of the facets that are told of points
abbrev pub weights_text : Answer → List ℕ
weights_text answer = flat_map line_text (weights_lines answer)

-- ---- a weighing, with the points of the answer
-- the points of a solved answer, and none of another one
abbrev pub points_of : Answer → List Gen
points_of (Solved c ls points directions facets) = points
points_of _ = []

-- the lines after the first
abbrev pub found_lines : List Gen → Weighed → List (List (List ℕ))
found_lines points Empty = answer_line (codes "infeasible") ∷ []
found_lines points Whole = answer_line (codes "whole") ∷ []
found_lines points (Unbounded d) =
    answer_line (codes "unbounded") ∷ vector_line (codes "0") d ∷ []
found_lines points (Least value listed) =
    answer_line (codes "solved")
    ∷ (codes "value" ∷ frac_text value ∷ [])
    ∷ section (codes "points") (λ k. vector_line (codes "1") (point_at points k)) listed

-- the words of each line
abbrev pub weighed_lines : Answer → Weighed → List (List (List ℕ))
weighed_lines answer w = (codes "weigh" ∷ codes "1" ∷ []) ∷ found_lines (points_of answer) w

-- the text of a weighing
abbrev pub weighed_text : Answer → Weighed → List ℕ
weighed_text answer w = flat_map line_text (weighed_lines answer w)
