-- Worked texts, line by line.
use Rattle.std.specs.Prelude.{◌≡◌, ℕ, List, [], ◌∷◌, map, codes}
use Rattle.src_sink.specs.Texts.{words_text}
use Rattle.log_rules.specs.Examples.{n, at, half, minus_one}
use Rattle.projection.specs.declared.found.Projection.{Projection}
use Rattle.projection.specs.declared.found.Projection.TheVariants.{Empty, Found}
use Rattle.projection.specs.Text.{projection_lines}

-- x1 + x2 ≤ 1 and x ≥ 0, on the first column: from 0 to 1
abbrev pub triangle : Projection
triangle = Found []
    (record { y = n 0 ∷ []; pre = [] } ∷ record { y = n 1 ∷ []; pre = at 1 (n 1) ∷ [] } ∷ []) []
    (record { w = n 0 ∷ n 1 ∷ []; gamma = minus_one; u = at 1 (n 1) ∷ []; tight = 2 ∷ [] }
    ∷ record { w = half ∷ half ∷ []; gamma = n 0; u = []; tight = 1 ∷ 2 ∷ [] }
    ∷ record { w = n 1 ∷ n 0 ∷ []; gamma = n 0; u = at 2 (n 1) ∷ []; tight = 1 ∷ [] } ∷ [])

-- its text
abbrev pub triangle_text : List (List ℕ)
triangle_text =
    codes "projection 1" ∷ codes "answer solved" ∷ codes "columns 1" ∷ codes "lines 0"
    ∷ codes "points 2" ∷ codes "1 0" ∷ codes "1 1" ∷ codes "directions 0"
    ∷ codes "sides 3" ∷ codes "h 0 1 -1" ∷ codes "h 1/2 1/2 0" ∷ codes "h 1 0 0"
    ∷ codes "witnesses" ∷ codes "x 0" ∷ codes "x 1 1 1" ∷ []

-- one free column: a line
abbrev pub line : Projection
line = Found
    (record { d = n 1 ∷ []; ray = at 1 (n 1) ∷ []; back = at 1 minus_one ∷ [] } ∷ [])
    (record { y = n 0 ∷ []; pre = [] } ∷ []) []
    (record { w = half ∷ half ∷ []; gamma = n 0; u = []; tight = 1 ∷ [] } ∷ [])

-- its text
abbrev pub line_text : List (List ℕ)
line_text =
    codes "projection 1" ∷ codes "answer solved" ∷ codes "columns 1" ∷ codes "lines 1" ∷ codes "l 1"
    ∷ codes "points 1" ∷ codes "1 0" ∷ codes "directions 0" ∷ codes "sides 1" ∷ codes "h 1/2 1/2 0"
    ∷ codes "witnesses" ∷ codes "r 1 1 1" ∷ codes "r 1 1 -1" ∷ codes "x 0" ∷ []

-- what nothing meets
abbrev pub empty : Projection
empty = Empty (at 1 (n 1) ∷ at 3 half ∷ [])

-- its text
abbrev pub empty_text : List (List ℕ)
empty_text =
    codes "projection 1" ∷ codes "answer infeasible" ∷ codes "columns 2" ∷ codes "witnesses"
    ∷ codes "u 2 1 1 3 1/2" ∷ []

-- these texts
pub record WorkedTexts : Type 0 where
  pub triangle_is : map words_text (projection_lines 1 triangle) ≡ triangle_text
  pub line_is : map words_text (projection_lines 1 line) ≡ line_text
  pub empty_is : map words_text (projection_lines 2 empty) ≡ empty_text
