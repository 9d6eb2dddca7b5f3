-- The entries of a text of lines: the words of each, which entry ends the text, and which parts stand after a first word.
use Rattle.std.specs.Prelude.{◌≡◌, ℕ, Bool, false, not, ◌&&◌, nat_lt, List, [], ◌∷◌, length, map, codes, Some, IsTrue}
use Rattle.std.specs.List.{flat_map, list_all}
use Rattle.src_sink.specs.Texts.{words_text, line_text}
use Rattle.word_lines.specs.LineFault.{Forms, form_of}
use Rattle.word_lines.specs.Numerals.{same_word}
use Rattle.word_lines.specs.Parts.{Part, part_words, is_formed_part}

-- entries that are written by a name of bytes above `,` and parts after it; `end` is the name of those that end a text
pub record Grammar (E : Type 0) : Type 0 where
  pub name_of : E → List ℕ
  pub parts_of : E → List Part
  pub is_end : E → Bool
  pub forms_of : Forms
  pub some_name : (e : E) → IsTrue (nat_lt 0 (length (name_of e)))
  pub letters : (e : E) → IsTrue (list_all (nat_lt 44) (name_of e))
  pub ends : (e : E) → same_word (name_of e) (codes "end") ≡ is_end e
  pub known : (e : E) → forms_of (name_of e) ≡ Some (map form_of (parts_of e))

-- whether an entry ends a text
abbrev pub is_last : {E : Type 0} → Grammar E → E → Bool
is_last g e = g.is_end e

-- each part of an entry can be written
abbrev pub is_formed : {E : Type 0} → Grammar E → E → Bool
is_formed g e = list_all is_formed_part (g.parts_of e)

-- the words of an entry's line
abbrev pub entry_words : {E : Type 0} → Grammar E → E → List (List ℕ)
entry_words g e = g.name_of e ∷ flat_map part_words (g.parts_of e)

-- the line of an entry, without its line feed
abbrev pub entry_text : {E : Type 0} → Grammar E → E → List ℕ
entry_text g e = words_text (entry_words g e)

-- a line for each entry
abbrev pub entries_text : {E : Type 0} → Grammar E → List E → List ℕ
entries_text g entries = flat_map (λ e. line_text (entry_words g e)) entries

-- the last of some entries, and no other, is an end
abbrev pub ends_once : {E : Type 0} → (E → Bool) → List E → Bool
ends_once is_end [] = false
ends_once is_end (e ∷ []) = is_end e
ends_once is_end (e ∷ next ∷ entries) = not (is_end e) && ends_once is_end (next ∷ entries)

-- entries of which each can be written, and of which the last is the only end
pub record IsWhole {E : Type 0} (g : Grammar E) (entries : List E) : Type 0 where
  pub formed : IsTrue (list_all (is_formed g) entries)
  pub ends : IsTrue (ends_once g.is_end entries)

-- these bytes are the text of these entries
abbrev pub IsTextOf : {E : Type 0} → Grammar E → List ℕ → List E → Type 0
IsTextOf g bytes entries = IsWhole g entries × (bytes ≡ entries_text g entries)
