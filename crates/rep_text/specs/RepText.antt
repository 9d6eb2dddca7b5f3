-- The text of a representation: a first line, a line for each row, and `end`.
use Rattle.std.specs.Prelude.{◌≡◌, ℕ, ◌+◌, ◌≤◌, Bool, true, false, List, [], ◌∷◌, ◌++◌, map, length, codes, decimal, IsTrue}
use Rattle.std.specs.List.{flat_map, list_all}
use Rattle.src_sink.specs.Texts.{line_text}
use Rattle.frac128.specs.Text.{frac_text}
use Rattle.rep_text.specs.Fits.{row_held}
use Rattle.rep_text.specs.declared.rep.Rep.{Rep}
use Rattle.rep_text.specs.declared.rep.RepKind.{RepKind}
use Rattle.rep_text.specs.declared.rep.RepKind.TheVariants.{Side, Equal, Line, Point, Direction}
use Rattle.rep_text.specs.declared.rep.RepRow.{RepRow}

-- the word for points, directions and lines, and that for inequalities and equations
abbrev pub head_name : Bool → List ℕ
head_name true = codes "gens"
head_name false = codes "sides"

-- the words of the first line
abbrev pub head_words : Bool → ℕ → List (List ℕ)
head_words gens width = head_name gens ∷ decimal width ∷ []

-- the first word of a row's line
abbrev pub kind_name : RepKind → List ℕ
kind_name Side = codes "h"
kind_name Equal = codes "e"
kind_name Line = codes "l"
kind_name Point = codes "1"
kind_name Direction = codes "0"

-- the words of a row's line
abbrev pub row_words : RepRow → List (List ℕ)
row_words row = kind_name row.kind ∷ map frac_text row.v

-- the words of the last line
abbrev pub end_words : List (List ℕ)
end_words = codes "end" ∷ []

-- the words of each line
abbrev pub rep_lines : Rep → List (List (List ℕ))
rep_lines rep = head_words rep.gens rep.width ∷ (map row_words rep.rows ++ end_words ∷ [])

-- the text of a representation
abbrev pub rep_text : Rep → List ℕ
rep_text rep = flat_map line_text (rep_lines rep)

-- these bytes are the text of this representation, and of a length that is read
pub record IsRepText (bytes : List ℕ) (rep : Rep) : Type 0 where
  pub held : IsTrue (list_all row_held rep.rows)
  pub few : length rep.rows + 2 ≤ 10000
  pub text : bytes ≡ rep_text rep
