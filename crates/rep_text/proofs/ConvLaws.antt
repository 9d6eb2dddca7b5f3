-- Each name with parts of its forms is that of an entry of a conversion's log, and of one only.
use Rattle.std.proofs.Common.{◌≡◌, refl, ℕ, true, false, Bool, List, [], ◌∷◌, map, sym, ◌∙◌, codes, None, Some, Option, if◌then◌else◌}
use Rattle.word_lines.specs.LineFault.{Form, form_of}
use Rattle.word_lines.specs.LineFault as form
use Rattle.word_lines.specs.Numerals.{same_word}
use Rattle.word_lines.specs.Parts.{Part}
use Rattle.word_lines.proofs.Laws as text
use Rattle.word_lines.proofs.Numerals.{same_word-true}
use Rattle.word_lines.proofs.Written.{IsComplete, is_natural, is_vector, is_naturals, is_pairs, more_parts, no_parts}
use Rattle.rep_text.specs.ConvText.{conv_name, conv_parts, conv_forms, conv_grammar}
use Rattle.rep_text.specs.Laws.{OneConvReading}
use Rattle.rep_text.specs.declared.conv.ConvEntry.{ConvEntry}
use Rattle.rep_text.specs.declared.conv.ConvEntry.TheVariants.{Conv, Line, Start, Add, End}

-- the entry of a name and parts
abbrev EntryOf : List ℕ → List Part → Type 0
EntryOf name ps = (e : ConvEntry) × (conv_name e ≡ name) × (conv_parts e ≡ ps)

some_same : (fs gs : List Form) → Some fs ≡ Some gs → fs ≡ gs
some_same fs gs e = cc

conv_entry : (name : List ℕ) (ps : List Part) → name ≡ codes "conv" → form.natural ∷ [] ≡ map form_of ps → EntryOf name ps
conv_entry name ps is e =
    let p0 = more_parts form.natural [] ps e in
    let v0 = is_natural p0.0 p0.3 in
    let none = no_parts p0.1 p0.4 in
    (Conv v0.0, sym is, sym (p0.2 ∙ (λ i. v0.1 i ∷ none i)))

line_entry : (name : List ℕ) (ps : List Part) → name ≡ codes "line" → form.vector ∷ [] ≡ map form_of ps → EntryOf name ps
line_entry name ps is e =
    let p0 = more_parts form.vector [] ps e in
    let v0 = is_vector p0.0 p0.3 in
    let none = no_parts p0.1 p0.4 in
    (Line v0.0, sym is, sym (p0.2 ∙ (λ i. v0.1 i ∷ none i)))

start_entry : (name : List ℕ) (ps : List Part) → name ≡ codes "start" → form.naturals ∷ form.vector ∷ [] ≡ map form_of ps → EntryOf name ps
start_entry name ps is e =
    let p0 = more_parts form.naturals (form.vector ∷ []) ps e in
    let v0 = is_naturals p0.0 p0.3 in
    let p1 = more_parts form.vector [] p0.1 p0.4 in
    let v1 = is_vector p1.0 p1.3 in
    let none = no_parts p1.1 p1.4 in
    (Start v0.0 v1.0, sym is, sym (p0.2 ∙ (λ i. v0.1 i ∷ (p1.2 ∙ (λ i. v1.1 i ∷ none i)) i)))

add_entry : (name : List ℕ) (ps : List Part) → name ≡ codes "add" → form.natural ∷ form.pairs ∷ [] ≡ map form_of ps → EntryOf name ps
add_entry name ps is e =
    let p0 = more_parts form.natural (form.pairs ∷ []) ps e in
    let v0 = is_natural p0.0 p0.3 in
    let p1 = more_parts form.pairs [] p0.1 p0.4 in
    let v1 = is_pairs p1.0 p1.3 in
    let none = no_parts p1.1 p1.4 in
    (Add v0.0 v1.0, sym is, sym (p0.2 ∙ (λ i. v0.1 i ∷ (p1.2 ∙ (λ i. v1.1 i ∷ none i)) i)))

end_entry : (name : List ℕ) (ps : List Part) → name ≡ codes "end" → [] ≡ map form_of ps → EntryOf name ps
end_entry name ps is e = (End, sym is, sym (no_parts ps e))

-- the forms of the names from `end` up
abbrev end_forms : Bool → Option (List Form)
end_forms b = if b then Some [] else None

abbrev add_forms : List ℕ → Bool → Option (List Form)
add_forms name b = if b then Some (form.natural ∷ form.pairs ∷ []) else end_forms (same_word name (codes "end"))

abbrev start_forms : List ℕ → Bool → Option (List Form)
start_forms name b = if b then Some (form.naturals ∷ form.vector ∷ []) else add_forms name (same_word name (codes "add"))

abbrev line_forms : List ℕ → Bool → Option (List Form)
line_forms name b = if b then Some (form.vector ∷ []) else start_forms name (same_word name (codes "start"))

-- a name and parts of the forms that it takes are those of an entry
entry_of : (name : List ℕ) (ps : List Part) → conv_forms name ≡ Some (map form_of ps) → EntryOf name ps
entry_of name ps h = by0 (same_word name (codes "conv")) refl h
  where
    by4 : (b : Bool) → same_word name (codes "end") ≡ b → end_forms b ≡ Some (map form_of ps) → EntryOf name ps
    by4 true e k = end_entry name ps (same_word-true name (codes "end") e) (some_same _ _ k)
    by4 false e k = cc

    by3 : (b : Bool) → same_word name (codes "add") ≡ b → add_forms name b ≡ Some (map form_of ps) → EntryOf name ps
    by3 true e k = add_entry name ps (same_word-true name (codes "add") e) (some_same _ _ k)
    by3 false e k = by4 (same_word name (codes "end")) refl k

    by2 : (b : Bool) → same_word name (codes "start") ≡ b → start_forms name b ≡ Some (map form_of ps) → EntryOf name ps
    by2 true e k = start_entry name ps (same_word-true name (codes "start") e) (some_same _ _ k)
    by2 false e k = by3 (same_word name (codes "add")) refl k

    by1 : (b : Bool) → same_word name (codes "line") ≡ b → line_forms name b ≡ Some (map form_of ps) → EntryOf name ps
    by1 true e k = line_entry name ps (same_word-true name (codes "line") e) (some_same _ _ k)
    by1 false e k = by2 (same_word name (codes "start")) refl k

    by0 : (b : Bool) → same_word name (codes "conv") ≡ b → (if b then Some (form.natural ∷ []) else line_forms name (same_word name (codes "line"))) ≡ Some (map form_of ps) → EntryOf name ps
    by0 true e k = conv_entry name ps (same_word-true name (codes "conv") e) (some_same _ _ k)
    by0 false e k = by1 (same_word name (codes "line")) refl k

-- entries of one name with the same parts are one
named : (e o : ConvEntry) → conv_name e ≡ conv_name o → conv_parts e ≡ conv_parts o → e ≡ o
named (Conv n) (Conv m) a b = cc
named (Conv n) _ a b = cc
named (Line d) (Line c) a b = cc
named (Line d) _ a b = cc
named (Start rows gens) (Start others vectors) a b = cc
named (Start rows gens) _ a b = cc
named (Add row ps) (Add other qs) a b = cc
named (Add row ps) _ a b = cc
named End End a b = refl
named End _ a b = cc

complete : IsComplete conv_grammar
complete = record { found = entry_of; one = named }

pub one_conv_reading : OneConvReading
one_conv_reading = text.one_reading conv_grammar complete
