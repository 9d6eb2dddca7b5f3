-- The text of a projection: lines of words that are separated by one blank.
use Rattle.std.specs.Prelude.{ℕ, List, [], ◌∷◌, ◌++◌, map, codes, decimal}
use Rattle.std.specs.List.{flat_map}
use Rattle.src_sink.specs.Texts.{line_text}
use Rattle.log_rules.specs.Report.{vector_line, sparse_line, section}
use Rattle.log_rules.specs.declared.answer.Facet.{Facet}
use Rattle.projection.specs.declared.found.Projection.{Projection}
use Rattle.projection.specs.declared.found.Projection.TheVariants.{Empty, Found}

-- a side's normal, over the entries of a vector and minus their sum, and its bound
abbrev pub side_line : Facet → List (List ℕ)
side_line f = vector_line (codes "h") (f.w ++ f.gamma ∷ [])

-- the name of what is found
abbrev pub answer_name : Projection → List ℕ
answer_name (Empty u) = codes "infeasible"
answer_name (Found lines points directions sides) = codes "solved"

-- the first lines: the kind of answer, and the number of columns
abbrev pub head_lines : ℕ → Projection → List (List (List ℕ))
head_lines k found =
    (codes "projection" ∷ codes "1" ∷ [])
    ∷ (codes "answer" ∷ answer_name found ∷ [])
    ∷ (codes "columns" ∷ decimal k ∷ [])
    ∷ []

-- the set
abbrev pub set_lines : Projection → List (List (List ℕ))
set_lines (Empty u) = []
set_lines (Found lines points directions sides) =
    section (codes "lines") (λ l. vector_line (codes "l") l.d) lines
    ++ section (codes "points") (λ g. vector_line (codes "1") g.y) points
    ++ section (codes "directions") (λ g. vector_line (codes "0") g.y) directions
    ++ section (codes "sides") side_line sides

-- what shows it: of each line the choices of it and of its negative, then those of the points and of
-- the directions
abbrev pub witness_lines : Projection → List (List (List ℕ))
witness_lines (Empty u) = sparse_line (codes "u") u ∷ []
witness_lines (Found lines points directions sides) =
    flat_map (λ l. sparse_line (codes "r") l.ray ∷ sparse_line (codes "r") l.back ∷ []) lines
    ++ map (λ g. sparse_line (codes "x") g.pre) points
    ++ map (λ g. sparse_line (codes "r") g.pre) directions

-- the words of each line
abbrev pub projection_lines : ℕ → Projection → List (List (List ℕ))
projection_lines k found =
    head_lines k found ++ set_lines found ++ (codes "witnesses" ∷ []) ∷ witness_lines found

-- the text of a projection
abbrev pub projection_text : ℕ → Projection → List ℕ
projection_text k found = flat_map line_text (projection_lines k found)
