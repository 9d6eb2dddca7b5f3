-- Each name with parts of its forms is that of an entry of a log, and of one only.
use Rattle.std.proofs.Common.{◌≡◌, refl, ℕ, true, false, Bool, List, [], ◌∷◌, map, sym, ◌∙◌, codes, None, Some, if◌then◌else◌}
use Rattle.word_lines.specs.LineFault.{Form, form_of}
use Rattle.word_lines.specs.LineFault as form
use Rattle.word_lines.specs.Numerals.{same_word}
use Rattle.word_lines.specs.Parts.{Part}
use Rattle.word_lines.proofs.Numerals.{same_word-true}
use Rattle.word_lines.proofs.Written.{IsComplete, is_natural, is_number, is_vector, is_naturals, is_sparse, is_pairs, is_kind, more_parts, no_parts}
use Rattle.deriv_log.specs.LineFault.{forms_of, second_forms_of}
use Rattle.deriv_log.specs.LogGrammar.{log_grammar}
use Rattle.deriv_log.specs.LogText.{entry_name, entry_parts}
use Rattle.deriv_log.specs.declared.entry.Entry.{Entry}
use Rattle.deriv_log.specs.declared.entry.Entry.TheVariants.{Version, Duality, Cut, Start, Add, Point, Ray, Farkas, Whole, Line, Facet, End, Share, CutOf, PointOf, RayOf, AddHints}

-- the entry of a name and parts
abbrev pub EntryOf : List ℕ → List Part → Type 0
EntryOf name ps = (e : Entry) × (entry_name e ≡ name) × (entry_parts e ≡ ps)

some_same : (fs gs : List Form) → Some fs ≡ Some gs → fs ≡ gs
some_same fs gs e = cc

version_entry : (name : List ℕ) (ps : List Part) → name ≡ codes "version" → form.natural ∷ [] ≡ map form_of ps → EntryOf name ps
version_entry name ps is e =
    let p0 = more_parts form.natural ([]) ps e in
    let v0 = is_natural p0.0 p0.3 in
    let none = no_parts p0.1 p0.4 in
    (Version v0.0, sym is, sym (p0.2 ∙ (λ i. v0.1 i ∷ none i)))

duality_entry : (name : List ℕ) (ps : List Part) → name ≡ codes "duality" → form.vector ∷ form.vector ∷ form.naturals ∷ form.vector ∷ [] ≡ map form_of ps → EntryOf name ps
duality_entry name ps is e =
    let p0 = more_parts form.vector (form.vector ∷ form.naturals ∷ form.vector ∷ []) ps e in
    let v0 = is_vector p0.0 p0.3 in
    let p1 = more_parts form.vector (form.naturals ∷ form.vector ∷ []) p0.1 p0.4 in
    let v1 = is_vector p1.0 p1.3 in
    let p2 = more_parts form.naturals (form.vector ∷ []) p1.1 p1.4 in
    let v2 = is_naturals p2.0 p2.3 in
    let p3 = more_parts form.vector ([]) p2.1 p2.4 in
    let v3 = is_vector p3.0 p3.3 in
    let none = no_parts p3.1 p3.4 in
    (Duality v0.0 v1.0 v2.0 v3.0, sym is, sym (p0.2 ∙ (λ i. v0.1 i ∷ (p1.2 ∙ (λ i. v1.1 i ∷ (p2.2 ∙ (λ i. v2.1 i ∷ (p3.2 ∙ (λ i. v3.1 i ∷ none i)) i)) i)) i)))

cut_entry : (name : List ℕ) (ps : List Part) → name ≡ codes "cut" → form.vector ∷ form.number ∷ form.sparse ∷ form.sparse ∷ [] ≡ map form_of ps → EntryOf name ps
cut_entry name ps is e =
    let p0 = more_parts form.vector (form.number ∷ form.sparse ∷ form.sparse ∷ []) ps e in
    let v0 = is_vector p0.0 p0.3 in
    let p1 = more_parts form.number (form.sparse ∷ form.sparse ∷ []) p0.1 p0.4 in
    let v1 = is_number p1.0 p1.3 in
    let p2 = more_parts form.sparse (form.sparse ∷ []) p1.1 p1.4 in
    let v2 = is_sparse p2.0 p2.3 in
    let p3 = more_parts form.sparse ([]) p2.1 p2.4 in
    let v3 = is_sparse p3.0 p3.3 in
    let none = no_parts p3.1 p3.4 in
    (Cut v0.0 v1.0 v2.0 v3.0, sym is, sym (p0.2 ∙ (λ i. v0.1 i ∷ (p1.2 ∙ (λ i. v1.1 i ∷ (p2.2 ∙ (λ i. v2.1 i ∷ (p3.2 ∙ (λ i. v3.1 i ∷ none i)) i)) i)) i)))

start_entry : (name : List ℕ) (ps : List Part) → name ≡ codes "start" → form.naturals ∷ form.vector ∷ form.vector ∷ [] ≡ map form_of ps → EntryOf name ps
start_entry name ps is e =
    let p0 = more_parts form.naturals (form.vector ∷ form.vector ∷ []) ps e in
    let v0 = is_naturals p0.0 p0.3 in
    let p1 = more_parts form.vector (form.vector ∷ []) p0.1 p0.4 in
    let v1 = is_vector p1.0 p1.3 in
    let p2 = more_parts form.vector ([]) p1.1 p1.4 in
    let v2 = is_vector p2.0 p2.3 in
    let none = no_parts p2.1 p2.4 in
    (Start v0.0 v1.0 v2.0, sym is, sym (p0.2 ∙ (λ i. v0.1 i ∷ (p1.2 ∙ (λ i. v1.1 i ∷ (p2.2 ∙ (λ i. v2.1 i ∷ none i)) i)) i)))

add_entry : (name : List ℕ) (ps : List Part) → name ≡ codes "add" → form.natural ∷ form.pairs ∷ [] ≡ map form_of ps → EntryOf name ps
add_entry name ps is e =
    let p0 = more_parts form.natural (form.pairs ∷ []) ps e in
    let v0 = is_natural p0.0 p0.3 in
    let p1 = more_parts form.pairs ([]) p0.1 p0.4 in
    let v1 = is_pairs p1.0 p1.3 in
    let none = no_parts p1.1 p1.4 in
    (Add v0.0 v1.0, sym is, sym (p0.2 ∙ (λ i. v0.1 i ∷ (p1.2 ∙ (λ i. v1.1 i ∷ none i)) i)))

point_entry : (name : List ℕ) (ps : List Part) → name ≡ codes "point" → form.natural ∷ form.sparse ∷ form.sparse ∷ [] ≡ map form_of ps → EntryOf name ps
point_entry name ps is e =
    let p0 = more_parts form.natural (form.sparse ∷ form.sparse ∷ []) ps e in
    let v0 = is_natural p0.0 p0.3 in
    let p1 = more_parts form.sparse (form.sparse ∷ []) p0.1 p0.4 in
    let v1 = is_sparse p1.0 p1.3 in
    let p2 = more_parts form.sparse ([]) p1.1 p1.4 in
    let v2 = is_sparse p2.0 p2.3 in
    let none = no_parts p2.1 p2.4 in
    (Point v0.0 v1.0 v2.0, sym is, sym (p0.2 ∙ (λ i. v0.1 i ∷ (p1.2 ∙ (λ i. v1.1 i ∷ (p2.2 ∙ (λ i. v2.1 i ∷ none i)) i)) i)))

ray_entry : (name : List ℕ) (ps : List Part) → name ≡ codes "ray" → form.natural ∷ form.sparse ∷ form.sparse ∷ [] ≡ map form_of ps → EntryOf name ps
ray_entry name ps is e =
    let p0 = more_parts form.natural (form.sparse ∷ form.sparse ∷ []) ps e in
    let v0 = is_natural p0.0 p0.3 in
    let p1 = more_parts form.sparse (form.sparse ∷ []) p0.1 p0.4 in
    let v1 = is_sparse p1.0 p1.3 in
    let p2 = more_parts form.sparse ([]) p1.1 p1.4 in
    let v2 = is_sparse p2.0 p2.3 in
    let none = no_parts p2.1 p2.4 in
    (Ray v0.0 v1.0 v2.0, sym is, sym (p0.2 ∙ (λ i. v0.1 i ∷ (p1.2 ∙ (λ i. v1.1 i ∷ (p2.2 ∙ (λ i. v2.1 i ∷ none i)) i)) i)))

farkas_entry : (name : List ℕ) (ps : List Part) → name ≡ codes "farkas" → form.sparse ∷ [] ≡ map form_of ps → EntryOf name ps
farkas_entry name ps is e =
    let p0 = more_parts form.sparse ([]) ps e in
    let v0 = is_sparse p0.0 p0.3 in
    let none = no_parts p0.1 p0.4 in
    (Farkas v0.0, sym is, sym (p0.2 ∙ (λ i. v0.1 i ∷ none i)))

whole_entry : (name : List ℕ) (ps : List Part) → name ≡ codes "whole" → form.sparse ∷ form.sparse ∷ form.sparse ∷ [] ≡ map form_of ps → EntryOf name ps
whole_entry name ps is e =
    let p0 = more_parts form.sparse (form.sparse ∷ form.sparse ∷ []) ps e in
    let v0 = is_sparse p0.0 p0.3 in
    let p1 = more_parts form.sparse (form.sparse ∷ []) p0.1 p0.4 in
    let v1 = is_sparse p1.0 p1.3 in
    let p2 = more_parts form.sparse ([]) p1.1 p1.4 in
    let v2 = is_sparse p2.0 p2.3 in
    let none = no_parts p2.1 p2.4 in
    (Whole v0.0 v1.0 v2.0, sym is, sym (p0.2 ∙ (λ i. v0.1 i ∷ (p1.2 ∙ (λ i. v1.1 i ∷ (p2.2 ∙ (λ i. v2.1 i ∷ none i)) i)) i)))

line_entry : (name : List ℕ) (ps : List Part) → name ≡ codes "line" → form.vector ∷ form.sparse ∷ form.sparse ∷ form.sparse ∷ form.sparse ∷ form.sparse ∷ [] ≡ map form_of ps → EntryOf name ps
line_entry name ps is e =
    let p0 = more_parts form.vector (form.sparse ∷ form.sparse ∷ form.sparse ∷ form.sparse ∷ form.sparse ∷ []) ps e in
    let v0 = is_vector p0.0 p0.3 in
    let p1 = more_parts form.sparse (form.sparse ∷ form.sparse ∷ form.sparse ∷ form.sparse ∷ []) p0.1 p0.4 in
    let v1 = is_sparse p1.0 p1.3 in
    let p2 = more_parts form.sparse (form.sparse ∷ form.sparse ∷ form.sparse ∷ []) p1.1 p1.4 in
    let v2 = is_sparse p2.0 p2.3 in
    let p3 = more_parts form.sparse (form.sparse ∷ form.sparse ∷ []) p2.1 p2.4 in
    let v3 = is_sparse p3.0 p3.3 in
    let p4 = more_parts form.sparse (form.sparse ∷ []) p3.1 p3.4 in
    let v4 = is_sparse p4.0 p4.3 in
    let p5 = more_parts form.sparse ([]) p4.1 p4.4 in
    let v5 = is_sparse p5.0 p5.3 in
    let none = no_parts p5.1 p5.4 in
    (Line v0.0 v1.0 v2.0 v3.0 v4.0 v5.0, sym is, sym (p0.2 ∙ (λ i. v0.1 i ∷ (p1.2 ∙ (λ i. v1.1 i ∷ (p2.2 ∙ (λ i. v2.1 i ∷ (p3.2 ∙ (λ i. v3.1 i ∷ (p4.2 ∙ (λ i. v4.1 i ∷ (p5.2 ∙ (λ i. v5.1 i ∷ none i)) i)) i)) i)) i)) i)))

facet_entry : (name : List ℕ) (ps : List Part) → name ≡ codes "facet" → form.natural ∷ [] ≡ map form_of ps → EntryOf name ps
facet_entry name ps is e =
    let p0 = more_parts form.natural ([]) ps e in
    let v0 = is_natural p0.0 p0.3 in
    let none = no_parts p0.1 p0.4 in
    (Facet v0.0, sym is, sym (p0.2 ∙ (λ i. v0.1 i ∷ none i)))

end_entry : (name : List ℕ) (ps : List Part) → name ≡ codes "end" → form.kind ∷ [] ≡ map form_of ps → EntryOf name ps
end_entry name ps is e =
    let p0 = more_parts form.kind ([]) ps e in
    let v0 = is_kind p0.0 p0.3 in
    let none = no_parts p0.1 p0.4 in
    (End v0.0, sym is, sym (p0.2 ∙ (λ i. v0.1 i ∷ none i)))

share_entry : (name : List ℕ) (ps : List Part) → name ≡ codes "share" → form.sparse ∷ [] ≡ map form_of ps → EntryOf name ps
share_entry name ps is e =
    let p0 = more_parts form.sparse ([]) ps e in
    let v0 = is_sparse p0.0 p0.3 in
    let none = no_parts p0.1 p0.4 in
    (Share v0.0, sym is, sym (p0.2 ∙ (λ i. v0.1 i ∷ none i)))

cutof_entry : (name : List ℕ) (ps : List Part) → name ≡ codes "cutof" → form.vector ∷ form.number ∷ form.natural ∷ form.sparse ∷ [] ≡ map form_of ps → EntryOf name ps
cutof_entry name ps is e =
    let p0 = more_parts form.vector (form.number ∷ form.natural ∷ form.sparse ∷ []) ps e in
    let v0 = is_vector p0.0 p0.3 in
    let p1 = more_parts form.number (form.natural ∷ form.sparse ∷ []) p0.1 p0.4 in
    let v1 = is_number p1.0 p1.3 in
    let p2 = more_parts form.natural (form.sparse ∷ []) p1.1 p1.4 in
    let v2 = is_natural p2.0 p2.3 in
    let p3 = more_parts form.sparse ([]) p2.1 p2.4 in
    let v3 = is_sparse p3.0 p3.3 in
    let none = no_parts p3.1 p3.4 in
    (CutOf v0.0 v1.0 v2.0 v3.0, sym is, sym (p0.2 ∙ (λ i. v0.1 i ∷ (p1.2 ∙ (λ i. v1.1 i ∷ (p2.2 ∙ (λ i. v2.1 i ∷ (p3.2 ∙ (λ i. v3.1 i ∷ none i)) i)) i)) i)))

pointof_entry : (name : List ℕ) (ps : List Part) → name ≡ codes "pointof" → form.natural ∷ form.natural ∷ form.sparse ∷ [] ≡ map form_of ps → EntryOf name ps
pointof_entry name ps is e =
    let p0 = more_parts form.natural (form.natural ∷ form.sparse ∷ []) ps e in
    let v0 = is_natural p0.0 p0.3 in
    let p1 = more_parts form.natural (form.sparse ∷ []) p0.1 p0.4 in
    let v1 = is_natural p1.0 p1.3 in
    let p2 = more_parts form.sparse ([]) p1.1 p1.4 in
    let v2 = is_sparse p2.0 p2.3 in
    let none = no_parts p2.1 p2.4 in
    (PointOf v0.0 v1.0 v2.0, sym is, sym (p0.2 ∙ (λ i. v0.1 i ∷ (p1.2 ∙ (λ i. v1.1 i ∷ (p2.2 ∙ (λ i. v2.1 i ∷ none i)) i)) i)))

rayof_entry : (name : List ℕ) (ps : List Part) → name ≡ codes "rayof" → form.natural ∷ form.natural ∷ form.sparse ∷ [] ≡ map form_of ps → EntryOf name ps
rayof_entry name ps is e =
    let p0 = more_parts form.natural (form.natural ∷ form.sparse ∷ []) ps e in
    let v0 = is_natural p0.0 p0.3 in
    let p1 = more_parts form.natural (form.sparse ∷ []) p0.1 p0.4 in
    let v1 = is_natural p1.0 p1.3 in
    let p2 = more_parts form.sparse ([]) p1.1 p1.4 in
    let v2 = is_sparse p2.0 p2.3 in
    let none = no_parts p2.1 p2.4 in
    (RayOf v0.0 v1.0 v2.0, sym is, sym (p0.2 ∙ (λ i. v0.1 i ∷ (p1.2 ∙ (λ i. v1.1 i ∷ (p2.2 ∙ (λ i. v2.1 i ∷ none i)) i)) i)))

addh_entry : (name : List ℕ) (ps : List Part) → name ≡ codes "addh" → form.natural ∷ form.pairs ∷ form.naturals ∷ [] ≡ map form_of ps → EntryOf name ps
addh_entry name ps is e =
    let p0 = more_parts form.natural (form.pairs ∷ form.naturals ∷ []) ps e in
    let v0 = is_natural p0.0 p0.3 in
    let p1 = more_parts form.pairs (form.naturals ∷ []) p0.1 p0.4 in
    let v1 = is_pairs p1.0 p1.3 in
    let p2 = more_parts form.naturals ([]) p1.1 p1.4 in
    let v2 = is_naturals p2.0 p2.3 in
    let none = no_parts p2.1 p2.4 in
    (AddHints v0.0 v1.0 v2.0, sym is, sym (p0.2 ∙ (λ i. v0.1 i ∷ (p1.2 ∙ (λ i. v1.1 i ∷ (p2.2 ∙ (λ i. v2.1 i ∷ none i)) i)) i)))

second_entry_of : (name : List ℕ) (ps : List Part) → second_forms_of name ≡ Some (map form_of ps) → EntryOf name ps
second_entry_of name ps h = by0 (same_word name (codes "share")) refl h
  where
    by4 : (b : Bool) → same_word name (codes "addh") ≡ b → (if b then Some (form.natural ∷ form.pairs ∷ form.naturals ∷ []) else None) ≡ Some (map form_of ps) → EntryOf name ps
    by4 true e k = addh_entry name ps (same_word-true name (codes "addh") e) (some_same _ _ k)
    by4 false e k = cc

    by3 : (b : Bool) → same_word name (codes "rayof") ≡ b → (if b then Some (form.natural ∷ form.natural ∷ form.sparse ∷ []) else (if same_word name (codes "addh") then Some (form.natural ∷ form.pairs ∷ form.naturals ∷ []) else None)) ≡ Some (map form_of ps) → EntryOf name ps
    by3 true e k = rayof_entry name ps (same_word-true name (codes "rayof") e) (some_same _ _ k)
    by3 false e k = by4 (same_word name (codes "addh")) refl k

    by2 : (b : Bool) → same_word name (codes "pointof") ≡ b → (if b then Some (form.natural ∷ form.natural ∷ form.sparse ∷ []) else (if same_word name (codes "rayof") then Some (form.natural ∷ form.natural ∷ form.sparse ∷ []) else (if same_word name (codes "addh") then Some (form.natural ∷ form.pairs ∷ form.naturals ∷ []) else None))) ≡ Some (map form_of ps) → EntryOf name ps
    by2 true e k = pointof_entry name ps (same_word-true name (codes "pointof") e) (some_same _ _ k)
    by2 false e k = by3 (same_word name (codes "rayof")) refl k

    by1 : (b : Bool) → same_word name (codes "cutof") ≡ b → (if b then Some (form.vector ∷ form.number ∷ form.natural ∷ form.sparse ∷ []) else (if same_word name (codes "pointof") then Some (form.natural ∷ form.natural ∷ form.sparse ∷ []) else (if same_word name (codes "rayof") then Some (form.natural ∷ form.natural ∷ form.sparse ∷ []) else (if same_word name (codes "addh") then Some (form.natural ∷ form.pairs ∷ form.naturals ∷ []) else None)))) ≡ Some (map form_of ps) → EntryOf name ps
    by1 true e k = cutof_entry name ps (same_word-true name (codes "cutof") e) (some_same _ _ k)
    by1 false e k = by2 (same_word name (codes "pointof")) refl k

    by0 : (b : Bool) → same_word name (codes "share") ≡ b → (if b then Some (form.sparse ∷ []) else (if same_word name (codes "cutof") then Some (form.vector ∷ form.number ∷ form.natural ∷ form.sparse ∷ []) else (if same_word name (codes "pointof") then Some (form.natural ∷ form.natural ∷ form.sparse ∷ []) else (if same_word name (codes "rayof") then Some (form.natural ∷ form.natural ∷ form.sparse ∷ []) else (if same_word name (codes "addh") then Some (form.natural ∷ form.pairs ∷ form.naturals ∷ []) else None))))) ≡ Some (map form_of ps) → EntryOf name ps
    by0 true e k = share_entry name ps (same_word-true name (codes "share") e) (some_same _ _ k)
    by0 false e k = by1 (same_word name (codes "cutof")) refl k

-- a name and parts of the forms that it takes are those of an entry
entry_of : (name : List ℕ) (ps : List Part) → forms_of name ≡ Some (map form_of ps) → EntryOf name ps
entry_of name ps h = by0 (same_word name (codes "version")) refl h
  where
    by11 : (b : Bool) → same_word name (codes "end") ≡ b → (if b then Some (form.kind ∷ []) else second_forms_of name) ≡ Some (map form_of ps) → EntryOf name ps
    by11 true e k = end_entry name ps (same_word-true name (codes "end") e) (some_same _ _ k)
    by11 false e k = second_entry_of name ps k

    by10 : (b : Bool) → same_word name (codes "facet") ≡ b → (if b then Some (form.natural ∷ []) else (if same_word name (codes "end") then Some (form.kind ∷ []) else second_forms_of name)) ≡ Some (map form_of ps) → EntryOf name ps
    by10 true e k = facet_entry name ps (same_word-true name (codes "facet") e) (some_same _ _ k)
    by10 false e k = by11 (same_word name (codes "end")) refl k

    by9 : (b : Bool) → same_word name (codes "line") ≡ b → (if b then Some (form.vector ∷ form.sparse ∷ form.sparse ∷ form.sparse ∷ form.sparse ∷ form.sparse ∷ []) else (if same_word name (codes "facet") then Some (form.natural ∷ []) else (if same_word name (codes "end") then Some (form.kind ∷ []) else second_forms_of name))) ≡ Some (map form_of ps) → EntryOf name ps
    by9 true e k = line_entry name ps (same_word-true name (codes "line") e) (some_same _ _ k)
    by9 false e k = by10 (same_word name (codes "facet")) refl k

    by8 : (b : Bool) → same_word name (codes "whole") ≡ b → (if b then Some (form.sparse ∷ form.sparse ∷ form.sparse ∷ []) else (if same_word name (codes "line") then Some (form.vector ∷ form.sparse ∷ form.sparse ∷ form.sparse ∷ form.sparse ∷ form.sparse ∷ []) else (if same_word name (codes "facet") then Some (form.natural ∷ []) else (if same_word name (codes "end") then Some (form.kind ∷ []) else second_forms_of name)))) ≡ Some (map form_of ps) → EntryOf name ps
    by8 true e k = whole_entry name ps (same_word-true name (codes "whole") e) (some_same _ _ k)
    by8 false e k = by9 (same_word name (codes "line")) refl k

    by7 : (b : Bool) → same_word name (codes "farkas") ≡ b → (if b then Some (form.sparse ∷ []) else (if same_word name (codes "whole") then Some (form.sparse ∷ form.sparse ∷ form.sparse ∷ []) else (if same_word name (codes "line") then Some (form.vector ∷ form.sparse ∷ form.sparse ∷ form.sparse ∷ form.sparse ∷ form.sparse ∷ []) else (if same_word name (codes "facet") then Some (form.natural ∷ []) else (if same_word name (codes "end") then Some (form.kind ∷ []) else second_forms_of name))))) ≡ Some (map form_of ps) → EntryOf name ps
    by7 true e k = farkas_entry name ps (same_word-true name (codes "farkas") e) (some_same _ _ k)
    by7 false e k = by8 (same_word name (codes "whole")) refl k

    by6 : (b : Bool) → same_word name (codes "ray") ≡ b → (if b then Some (form.natural ∷ form.sparse ∷ form.sparse ∷ []) else (if same_word name (codes "farkas") then Some (form.sparse ∷ []) else (if same_word name (codes "whole") then Some (form.sparse ∷ form.sparse ∷ form.sparse ∷ []) else (if same_word name (codes "line") then Some (form.vector ∷ form.sparse ∷ form.sparse ∷ form.sparse ∷ form.sparse ∷ form.sparse ∷ []) else (if same_word name (codes "facet") then Some (form.natural ∷ []) else (if same_word name (codes "end") then Some (form.kind ∷ []) else second_forms_of name)))))) ≡ Some (map form_of ps) → EntryOf name ps
    by6 true e k = ray_entry name ps (same_word-true name (codes "ray") e) (some_same _ _ k)
    by6 false e k = by7 (same_word name (codes "farkas")) refl k

    by5 : (b : Bool) → same_word name (codes "point") ≡ b → (if b then Some (form.natural ∷ form.sparse ∷ form.sparse ∷ []) else (if same_word name (codes "ray") then Some (form.natural ∷ form.sparse ∷ form.sparse ∷ []) else (if same_word name (codes "farkas") then Some (form.sparse ∷ []) else (if same_word name (codes "whole") then Some (form.sparse ∷ form.sparse ∷ form.sparse ∷ []) else (if same_word name (codes "line") then Some (form.vector ∷ form.sparse ∷ form.sparse ∷ form.sparse ∷ form.sparse ∷ form.sparse ∷ []) else (if same_word name (codes "facet") then Some (form.natural ∷ []) else (if same_word name (codes "end") then Some (form.kind ∷ []) else second_forms_of name))))))) ≡ Some (map form_of ps) → EntryOf name ps
    by5 true e k = point_entry name ps (same_word-true name (codes "point") e) (some_same _ _ k)
    by5 false e k = by6 (same_word name (codes "ray")) refl k

    by4 : (b : Bool) → same_word name (codes "add") ≡ b → (if b then Some (form.natural ∷ form.pairs ∷ []) else (if same_word name (codes "point") then Some (form.natural ∷ form.sparse ∷ form.sparse ∷ []) else (if same_word name (codes "ray") then Some (form.natural ∷ form.sparse ∷ form.sparse ∷ []) else (if same_word name (codes "farkas") then Some (form.sparse ∷ []) else (if same_word name (codes "whole") then Some (form.sparse ∷ form.sparse ∷ form.sparse ∷ []) else (if same_word name (codes "line") then Some (form.vector ∷ form.sparse ∷ form.sparse ∷ form.sparse ∷ form.sparse ∷ form.sparse ∷ []) else (if same_word name (codes "facet") then Some (form.natural ∷ []) else (if same_word name (codes "end") then Some (form.kind ∷ []) else second_forms_of name)))))))) ≡ Some (map form_of ps) → EntryOf name ps
    by4 true e k = add_entry name ps (same_word-true name (codes "add") e) (some_same _ _ k)
    by4 false e k = by5 (same_word name (codes "point")) refl k

    by3 : (b : Bool) → same_word name (codes "start") ≡ b → (if b then Some (form.naturals ∷ form.vector ∷ form.vector ∷ []) else (if same_word name (codes "add") then Some (form.natural ∷ form.pairs ∷ []) else (if same_word name (codes "point") then Some (form.natural ∷ form.sparse ∷ form.sparse ∷ []) else (if same_word name (codes "ray") then Some (form.natural ∷ form.sparse ∷ form.sparse ∷ []) else (if same_word name (codes "farkas") then Some (form.sparse ∷ []) else (if same_word name (codes "whole") then Some (form.sparse ∷ form.sparse ∷ form.sparse ∷ []) else (if same_word name (codes "line") then Some (form.vector ∷ form.sparse ∷ form.sparse ∷ form.sparse ∷ form.sparse ∷ form.sparse ∷ []) else (if same_word name (codes "facet") then Some (form.natural ∷ []) else (if same_word name (codes "end") then Some (form.kind ∷ []) else second_forms_of name))))))))) ≡ Some (map form_of ps) → EntryOf name ps
    by3 true e k = start_entry name ps (same_word-true name (codes "start") e) (some_same _ _ k)
    by3 false e k = by4 (same_word name (codes "add")) refl k

    by2 : (b : Bool) → same_word name (codes "cut") ≡ b → (if b then Some (form.vector ∷ form.number ∷ form.sparse ∷ form.sparse ∷ []) else (if same_word name (codes "start") then Some (form.naturals ∷ form.vector ∷ form.vector ∷ []) else (if same_word name (codes "add") then Some (form.natural ∷ form.pairs ∷ []) else (if same_word name (codes "point") then Some (form.natural ∷ form.sparse ∷ form.sparse ∷ []) else (if same_word name (codes "ray") then Some (form.natural ∷ form.sparse ∷ form.sparse ∷ []) else (if same_word name (codes "farkas") then Some (form.sparse ∷ []) else (if same_word name (codes "whole") then Some (form.sparse ∷ form.sparse ∷ form.sparse ∷ []) else (if same_word name (codes "line") then Some (form.vector ∷ form.sparse ∷ form.sparse ∷ form.sparse ∷ form.sparse ∷ form.sparse ∷ []) else (if same_word name (codes "facet") then Some (form.natural ∷ []) else (if same_word name (codes "end") then Some (form.kind ∷ []) else second_forms_of name)))))))))) ≡ Some (map form_of ps) → EntryOf name ps
    by2 true e k = cut_entry name ps (same_word-true name (codes "cut") e) (some_same _ _ k)
    by2 false e k = by3 (same_word name (codes "start")) refl k

    by1 : (b : Bool) → same_word name (codes "duality") ≡ b → (if b then Some (form.vector ∷ form.vector ∷ form.naturals ∷ form.vector ∷ []) else (if same_word name (codes "cut") then Some (form.vector ∷ form.number ∷ form.sparse ∷ form.sparse ∷ []) else (if same_word name (codes "start") then Some (form.naturals ∷ form.vector ∷ form.vector ∷ []) else (if same_word name (codes "add") then Some (form.natural ∷ form.pairs ∷ []) else (if same_word name (codes "point") then Some (form.natural ∷ form.sparse ∷ form.sparse ∷ []) else (if same_word name (codes "ray") then Some (form.natural ∷ form.sparse ∷ form.sparse ∷ []) else (if same_word name (codes "farkas") then Some (form.sparse ∷ []) else (if same_word name (codes "whole") then Some (form.sparse ∷ form.sparse ∷ form.sparse ∷ []) else (if same_word name (codes "line") then Some (form.vector ∷ form.sparse ∷ form.sparse ∷ form.sparse ∷ form.sparse ∷ form.sparse ∷ []) else (if same_word name (codes "facet") then Some (form.natural ∷ []) else (if same_word name (codes "end") then Some (form.kind ∷ []) else second_forms_of name))))))))))) ≡ Some (map form_of ps) → EntryOf name ps
    by1 true e k = duality_entry name ps (same_word-true name (codes "duality") e) (some_same _ _ k)
    by1 false e k = by2 (same_word name (codes "cut")) refl k

    by0 : (b : Bool) → same_word name (codes "version") ≡ b → (if b then Some (form.natural ∷ []) else (if same_word name (codes "duality") then Some (form.vector ∷ form.vector ∷ form.naturals ∷ form.vector ∷ []) else (if same_word name (codes "cut") then Some (form.vector ∷ form.number ∷ form.sparse ∷ form.sparse ∷ []) else (if same_word name (codes "start") then Some (form.naturals ∷ form.vector ∷ form.vector ∷ []) else (if same_word name (codes "add") then Some (form.natural ∷ form.pairs ∷ []) else (if same_word name (codes "point") then Some (form.natural ∷ form.sparse ∷ form.sparse ∷ []) else (if same_word name (codes "ray") then Some (form.natural ∷ form.sparse ∷ form.sparse ∷ []) else (if same_word name (codes "farkas") then Some (form.sparse ∷ []) else (if same_word name (codes "whole") then Some (form.sparse ∷ form.sparse ∷ form.sparse ∷ []) else (if same_word name (codes "line") then Some (form.vector ∷ form.sparse ∷ form.sparse ∷ form.sparse ∷ form.sparse ∷ form.sparse ∷ []) else (if same_word name (codes "facet") then Some (form.natural ∷ []) else (if same_word name (codes "end") then Some (form.kind ∷ []) else second_forms_of name)))))))))))) ≡ Some (map form_of ps) → EntryOf name ps
    by0 true e k = version_entry name ps (same_word-true name (codes "version") e) (some_same _ _ k)
    by0 false e k = by1 (same_word name (codes "duality")) refl k

-- entries of one name with the same parts are one
named : (e o : Entry) → entry_name e ≡ entry_name o → entry_parts e ≡ entry_parts o → e ≡ o
named (Version n) (Version m) a b = cc
named (Version n) _ a b = cc
named (Duality c weights picks inverse) (Duality d others picked back) a b = cc
named (Duality c weights picks inverse) _ a b = cc
named (Cut w gamma u v) (Cut x delta y z) a b = cc
named (Cut w gamma u v) _ a b = cc
named (Start cuts point directions) (Start others corner rays) a b = cc
named (Start cuts point directions) _ a b = cc
named (Add cut ps) (Add other qs) a b = cc
named (Add cut ps) _ a b = cc
named (Point generator x m) (Point other y n) a b = cc
named (Point generator x m) _ a b = cc
named (Ray generator x m) (Ray other y n) a b = cc
named (Ray generator x m) _ a b = cc
named (Farkas u) (Farkas v) a b = cc
named (Farkas u) _ a b = cc
named (Whole x ray m) (Whole y other n) a b = cc
named (Whole x ray m) _ a b = cc
named (Line d x ray m back n) (Line e y other o home p) a b = cc
named (Line d x ray m back n) _ a b = cc
named (Facet cut) (Facet other) a b = cc
named (Facet cut) _ a b = cc
named (End k) (End l) a b = cc
named (End k) _ a b = cc
named (Share v) (Share w) a b = cc
named (Share v) _ a b = cc
named (CutOf w gamma share v) (CutOf x delta other y) a b = cc
named (CutOf w gamma share v) _ a b = cc
named (PointOf generator share m) (PointOf other shared n) a b = cc
named (PointOf generator share m) _ a b = cc
named (RayOf generator share m) (RayOf other shared n) a b = cc
named (RayOf generator share m) _ a b = cc
named (AddHints cut ps hints) (AddHints other qs third) a b = cc
named (AddHints cut ps hints) _ a b = cc

pub complete : IsComplete log_grammar
complete = record { found = entry_of; one = named }
