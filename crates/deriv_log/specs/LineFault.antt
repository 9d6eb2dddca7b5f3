-- Which parts stand after the first word of a line of a log, and the first test that a line fails.
use Rattle.std.specs.Prelude.{ℕ, Bool, if◌then◌else◌, List, [], ◌∷◌, codes, Option, None, Some}
use Rattle.word_lines.specs.LineFault.{Form, natural, number, vector, naturals, sparse, pairs, kind}
use Rattle.word_lines.specs.LineFault as line
use Rattle.word_lines.specs.Numerals.{same_word}
use Rattle.word_lines.specs.declared.fault.LogKind.{LogKind}

-- what stands after the first word of a line of version 2; other first words have no line
abbrev pub second_forms_of : List ℕ → Option (List Form)
second_forms_of name =
    if same_word name (codes "share") then Some (sparse ∷ [])
    else if same_word name (codes "cutof") then Some (vector ∷ number ∷ natural ∷ sparse ∷ [])
    else if same_word name (codes "pointof") then Some (natural ∷ natural ∷ sparse ∷ [])
    else if same_word name (codes "rayof") then Some (natural ∷ natural ∷ sparse ∷ [])
    else if same_word name (codes "addh") then Some (natural ∷ pairs ∷ naturals ∷ [])
    else None

-- what stands after the first word of a line
abbrev pub forms_of : List ℕ → Option (List Form)
forms_of name =
    if same_word name (codes "version") then Some (natural ∷ [])
    else if same_word name (codes "duality") then Some (vector ∷ vector ∷ naturals ∷ vector ∷ [])
    else if same_word name (codes "cut") then Some (vector ∷ number ∷ sparse ∷ sparse ∷ [])
    else if same_word name (codes "start") then Some (naturals ∷ vector ∷ vector ∷ [])
    else if same_word name (codes "add") then Some (natural ∷ pairs ∷ [])
    else if same_word name (codes "point") then Some (natural ∷ sparse ∷ sparse ∷ [])
    else if same_word name (codes "ray") then Some (natural ∷ sparse ∷ sparse ∷ [])
    else if same_word name (codes "farkas") then Some (sparse ∷ [])
    else if same_word name (codes "whole") then Some (sparse ∷ sparse ∷ sparse ∷ [])
    else if same_word name (codes "line") then Some (vector ∷ sparse ∷ sparse ∷ sparse ∷ sparse ∷ sparse ∷ [])
    else if same_word name (codes "facet") then Some (natural ∷ [])
    else if same_word name (codes "end") then Some (kind ∷ [])
    else second_forms_of name

-- the first test that a line fails: whether an `end` line stands before it, whether its line feed stood,
-- and its words
abbrev pub line_fault : Bool → Bool → List ℕ → Option LogKind
line_fault has_ended whole text = line.line_fault forms_of has_ended whole text
