-- The entries of the log of a conversion as lines of words.
use Rattle.std.specs.Prelude.{◌≡◌, refl, ℕ, Bool, true, false, nat_lt, if◌then◌else◌, List, [], ◌∷◌, length, map, codes, None, Some, IsTrue}
use Rattle.std.specs.List.{list_all}
use Rattle.word_lines.specs.Grammar.{Grammar}
use Rattle.word_lines.specs.LineFault.{Forms, form_of}
use Rattle.word_lines.specs.LineFault as form
use Rattle.word_lines.specs.Numerals.{same_word}
use Rattle.word_lines.specs.Parts.{Part, natural, vector, naturals, pairs}
use Rattle.rep_text.specs.declared.conv.ConvEntry.{ConvEntry}
use Rattle.rep_text.specs.declared.conv.ConvEntry.TheVariants.{Conv, Line, Start, Add, End}

-- the first word of an entry's line
abbrev pub conv_name : ConvEntry → List ℕ
conv_name (Conv n) = codes "conv"
conv_name (Line d) = codes "line"
conv_name (Start rows gens) = codes "start"
conv_name (Add row ps) = codes "add"
conv_name End = codes "end"

-- what stands after it, in order
abbrev pub conv_parts : ConvEntry → List Part
conv_parts (Conv n) = natural n ∷ []
conv_parts (Line d) = vector d ∷ []
conv_parts (Start rows gens) = naturals rows ∷ vector gens ∷ []
conv_parts (Add row ps) = natural row ∷ pairs ps ∷ []
conv_parts End = []

-- whether an entry ends a log
abbrev pub is_conv_end : ConvEntry → Bool
is_conv_end End = true
is_conv_end _ = false

-- what stands after the first word of a line; other first words have no line
abbrev pub conv_forms : Forms
conv_forms name =
    if same_word name (codes "conv") then Some (form.natural ∷ [])
    else if same_word name (codes "line") then Some (form.vector ∷ [])
    else if same_word name (codes "start") then Some (form.naturals ∷ form.vector ∷ [])
    else if same_word name (codes "add") then Some (form.natural ∷ form.pairs ∷ [])
    else if same_word name (codes "end") then Some []
    else None

-- no name is empty,
pub some_name : (e : ConvEntry) → IsTrue (nat_lt 0 (length (conv_name e)))
some_name (Conv n) = refl
some_name (Line d) = refl
some_name (Start rows gens) = refl
some_name (Add row ps) = refl
some_name End = refl

-- its bytes are above `,`,
pub letters : (e : ConvEntry) → IsTrue (list_all (nat_lt 44) (conv_name e))
letters (Conv n) = refl
letters (Line d) = refl
letters (Start rows gens) = refl
letters (Add row ps) = refl
letters End = refl

-- only an entry that ends a log has the name `end`,
pub end_name : (e : ConvEntry) → same_word (conv_name e) (codes "end") ≡ is_conv_end e
end_name (Conv n) = refl
end_name (Line d) = refl
end_name (Start rows gens) = refl
end_name (Add row ps) = refl
end_name End = refl

-- and the forms after a name are those of its entry's parts
pub forms_known : (e : ConvEntry) → conv_forms (conv_name e) ≡ Some (map form_of (conv_parts e))
forms_known (Conv n) = refl
forms_known (Line d) = refl
forms_known (Start rows gens) = refl
forms_known (Add row ps) = refl
forms_known End = refl

-- the entries of logs of conversions as lines of words
abbrev pub conv_grammar : Grammar ConvEntry
conv_grammar = record {
  name_of = conv_name;
  parts_of = conv_parts;
  is_end = is_conv_end;
  forms_of = conv_forms;
  some_name = some_name;
  letters = letters;
  ends = end_name;
  known = forms_known;
}
