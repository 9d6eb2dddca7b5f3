-- The grammar of a line: which parts stand after its first word, and the first test that it fails. Words
-- are tested from left to right.
use Rattle.std.specs.Prelude.{ℕ, zero, suc, ◌==◌, Bool, not, ◌||◌, nat_lt, if◌then◌else◌, List, [], ◌∷◌, length, codes, Option, None, Some, Result, Ok, Err}
use Rattle.std.specs.List.{list_any, slice_split}
use Rattle.std.specs.Option.{option_or}
use Rattle.std.specs.Str.Parse.{digits_value}
use Rattle.word_lines.specs.Parts.{Part}
use Rattle.word_lines.specs.Parts as part
use Rattle.word_lines.specs.Numerals.{same_word, natural_fault, number_fault}
use Rattle.word_lines.specs.declared.fault.LogKind.{LogKind}
use Rattle.word_lines.specs.declared.fault.LogKind.TheVariants.{BadLine, BadNumber, OutOfRange}

-- the form of a part
pub data Form : Type 0 where
  natural : Form
  number : Form
  vector : Form
  naturals : Form
  sparse : Form
  pairs : Form
  kind : Form

-- the form of a given part
abbrev pub form_of : Part → Form
form_of (part.natural n) = natural
form_of (part.number q) = number
form_of (part.vector v) = vector
form_of (part.naturals ns) = naturals
form_of (part.sparse u) = sparse
form_of (part.pairs ps) = pairs
form_of (part.kind k) = kind

-- the words that are left after a part, or the first test that fails
abbrev pub Left : Type 0
Left = Result (List (List ℕ)) LogKind

-- the words after one that passes its test
abbrev pub unless : Option LogKind → Left → Left
unless None left = left
unless (Some k) left = Err k

-- a part after what is left
abbrev pub and_then : Left → (List (List ℕ) → Left) → Left
and_then (Ok words) next = next words
and_then (Err k) next = Err k

-- a word that must be there, with its test
abbrev pub word : (List ℕ → Option LogKind) → List (List ℕ) → Left
word test [] = Err BadLine
word test (w ∷ words) = unless (test w) (Ok words)

-- so many parts of one form
abbrev pub times : (List (List ℕ) → Left) → ℕ → List (List ℕ) → Left
times step zero words = Ok words
times step (suc n) words = and_then (step words) (times step n)

-- parts of one form, after their count
abbrev pub counted : (ℕ → List (List ℕ) → Left) → List (List ℕ) → Left
counted items [] = Err BadLine
counted items (w ∷ words) = unless (natural_fault w) (items (digits_value 10 w) words)

-- a value of a sparse vector: a number other than 0
abbrev pub value_fault : List ℕ → Option LogKind
value_fault w = if same_word w (codes "0") then Some BadNumber else number_fault w

-- a place of a sparse vector, above the last one
abbrev pub place_fault : ℕ → List ℕ → Option LogKind
place_fault last w = option_or (natural_fault w) (if nat_lt last (digits_value 10 w) then None else Some OutOfRange)

-- so many places and values, the places above `last`
abbrev pub spots : ℕ → ℕ → List (List ℕ) → Left
spots last zero words = Ok words
spots last (suc n) [] = Err BadLine
spots last (suc n) (at ∷ words) = unless (place_fault last at) (and_then (word value_fault words) (spots (digits_value 10 at) n))

-- the word of an end must be one of the four kinds
abbrev pub kind_fault : List ℕ → Option LogKind
kind_fault w =
    if same_word w (codes "infeasible") || (same_word w (codes "whole") || (same_word w (codes "novertex") || same_word w (codes "solved")))
    then None else Some BadLine

-- a pair of natural numbers
abbrev pub pair : List (List ℕ) → Left
pair words = and_then (word natural_fault words) (word natural_fault)

-- the words after a part of a form
abbrev pub left_after : Form → List (List ℕ) → Left
left_after natural words = word natural_fault words
left_after number words = word number_fault words
left_after vector words = counted (times (word number_fault)) words
left_after naturals words = counted (times (word natural_fault)) words
left_after sparse words = counted (spots 0) words
left_after pairs words = counted (times pair) words
left_after kind words = word kind_fault words

-- the words that are left after parts of these forms, in their order
abbrev pub left_after_all : List Form → List (List ℕ) → Left
left_after_all [] words = Ok words
left_after_all (form ∷ forms) words = and_then (left_after form words) (left_after_all forms)

-- the parts after a first word, if it has a line
abbrev pub left_after_name : Option (List Form) → List (List ℕ) → Left
left_after_name None words = Err BadLine
left_after_name (Some forms) words = left_after_all forms words

-- no word may be left over
abbrev pub left_over : Left → Option LogKind
left_over (Ok []) = None
left_over (Ok (w ∷ words)) = Some BadLine
left_over (Err k) = Some k

-- the parts that stand after each first word; other first words have no line
abbrev pub Forms : Type 0
Forms = List ℕ → Option (List Form)

-- the words of a line, of which none is empty
abbrev pub words_fault : Forms → List (List ℕ) → Option LogKind
words_fault forms [] = Some BadLine
words_fault forms (name ∷ words) = if list_any (λ w. length w == 0) (name ∷ words) then Some BadLine else left_over (left_after_name (forms name) words)

-- the first test that a line fails: whether an `end` line stands before it, whether its line feed stood,
-- and its words
abbrev pub line_fault : Forms → Bool → Bool → List ℕ → Option LogKind
line_fault forms has_ended whole line = if has_ended || not whole then Some BadLine else words_fault forms (slice_split (λ b. b == 32) line)
