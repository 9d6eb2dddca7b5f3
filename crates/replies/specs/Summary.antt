-- What is told of the answer of a sample file.
use Rattle.std.specs.Prelude.{◌≡◌, ℕ, List, [], ◌∷◌, codes, decimal, length}
use Rattle.std.specs.List.{flat_map}
use Rattle.src_sink.specs.Texts.{line_text}
use Rattle.log_rules.specs.declared.answer.Answer.{Answer}
use Rattle.log_rules.specs.declared.answer.Answer.TheVariants.{Solved}
use Rattle.log_rules.specs.declared.answer.Facet.{Facet}
use Rattle.log_rules.specs.declared.answer.Gen.{Gen}
use Rattle.exact_field.specs.Rational.{ℚ}

-- an answer that lists the vertices, extreme directions and facets of an image without a line
pub record IsSolved (answer : Answer) : Type 0 where
  pub c : List ℚ
  pub points : List Gen
  pub directions : List Gen
  pub facets : List Facet
  pub same : answer ≡ Solved c [] points directions facets

-- five lines: the number of the sample, that it is solved, and how many points, directions and facets there are
abbrev pub summary_lines : (number points directions facets : ℕ) → List (List (List ℕ))
summary_lines number points directions facets =
    (codes "sample" ∷ decimal number ∷ [])
    ∷ (codes "answer" ∷ codes "solved" ∷ [])
    ∷ (codes "points" ∷ decimal points ∷ [])
    ∷ (codes "directions" ∷ decimal directions ∷ [])
    ∷ (codes "facets" ∷ decimal facets ∷ [])
    ∷ []

-- the text of a summary
abbrev pub summary_text : (number points directions facets : ℕ) → List ℕ
summary_text number points directions facets = flat_map line_text (summary_lines number points directions facets)

-- the text is the summary of the lists of a solved answer
pub record Sums (number : ℕ) (answer : Answer) (text : List ℕ) : Type 0 where
  pub solved : IsSolved answer
  pub lines : text ≡ summary_text number (length solved.points) (length solved.directions) (length solved.facets)
