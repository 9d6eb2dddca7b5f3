-- Words that pass the tests of a line are those of an entry, where each name with parts of its forms is that of one.
use Rattle.std.proofs.Common.{◌≡◌, refl, ℕ, true, false, not, ◌||◌, ◌==◌, Bool, List, [], ◌∷◌, length, map, ap, sym, ◌∙◌, None, Some, Option, if◌then◌else◌, Ok, Err}
use Rattle.std.specs.List.{list_all, list_any, flat_map, slice_split}
use Rattle.std.proofs.lemmas.List.Splits.{join_with_byte-slice_split}
use Rattle.std.proofs.lemmas.List.{append-nil}
use Rattle.src_sink.specs.Texts.{words_text}
use Rattle.exact_field.specs.Rational.{ℚ}
use Rattle.frac128.specs.declared.vectors.Spot.{Spot}
use Rattle.word_lines.specs.Grammar.{Grammar, is_formed, entry_words, entry_text}
use Rattle.word_lines.specs.LineFault.{Form, form_of, left_after_all, left_after_name, left_over, Left, words_fault, line_fault}
use Rattle.word_lines.specs.LineFault as form
use Rattle.word_lines.specs.Parts.{Part, natural, number, vector, naturals, sparse, pairs, kind, part_words, is_formed_part}
use Rattle.word_lines.specs.declared.part.LogPair.{LogPair}
use Rattle.word_lines.specs.declared.part.EndKind.{EndKind}
use Rattle.word_lines.specs.declared.fault.LogKind.{LogKind}
use Rattle.word_lines.specs.declared.fault.LogKind.TheVariants.{BadLine}
use Rattle.word_lines.proofs.Forms.{Words, parts_found}

-- a part of each form

pub is_natural : (p : Part) → form_of p ≡ form.natural → (v : ℕ) × (p ≡ natural v)
is_natural (natural v) e = (v, refl)
is_natural (number v) e = cc
is_natural (vector v) e = cc
is_natural (naturals v) e = cc
is_natural (sparse v) e = cc
is_natural (pairs v) e = cc
is_natural (kind v) e = cc

pub is_number : (p : Part) → form_of p ≡ form.number → (v : ℚ) × (p ≡ number v)
is_number (natural v) e = cc
is_number (number v) e = (v, refl)
is_number (vector v) e = cc
is_number (naturals v) e = cc
is_number (sparse v) e = cc
is_number (pairs v) e = cc
is_number (kind v) e = cc

pub is_vector : (p : Part) → form_of p ≡ form.vector → (v : List ℚ) × (p ≡ vector v)
is_vector (natural v) e = cc
is_vector (number v) e = cc
is_vector (vector v) e = (v, refl)
is_vector (naturals v) e = cc
is_vector (sparse v) e = cc
is_vector (pairs v) e = cc
is_vector (kind v) e = cc

pub is_naturals : (p : Part) → form_of p ≡ form.naturals → (v : List ℕ) × (p ≡ naturals v)
is_naturals (natural v) e = cc
is_naturals (number v) e = cc
is_naturals (vector v) e = cc
is_naturals (naturals v) e = (v, refl)
is_naturals (sparse v) e = cc
is_naturals (pairs v) e = cc
is_naturals (kind v) e = cc

pub is_sparse : (p : Part) → form_of p ≡ form.sparse → (v : List Spot) × (p ≡ sparse v)
is_sparse (natural v) e = cc
is_sparse (number v) e = cc
is_sparse (vector v) e = cc
is_sparse (naturals v) e = cc
is_sparse (sparse v) e = (v, refl)
is_sparse (pairs v) e = cc
is_sparse (kind v) e = cc

pub is_pairs : (p : Part) → form_of p ≡ form.pairs → (v : List LogPair) × (p ≡ pairs v)
is_pairs (natural v) e = cc
is_pairs (number v) e = cc
is_pairs (vector v) e = cc
is_pairs (naturals v) e = cc
is_pairs (sparse v) e = cc
is_pairs (pairs v) e = (v, refl)
is_pairs (kind v) e = cc

pub is_kind : (p : Part) → form_of p ≡ form.kind → (v : EndKind) × (p ≡ kind v)
is_kind (natural v) e = cc
is_kind (number v) e = cc
is_kind (vector v) e = cc
is_kind (naturals v) e = cc
is_kind (sparse v) e = cc
is_kind (pairs v) e = cc
is_kind (kind v) e = (v, refl)

-- the first of some parts, and those after it
pub more_parts : (f : Form) (fs : List Form) (ps : List Part) → f ∷ fs ≡ map form_of ps → (p : Part) × (rest : List Part) × (ps ≡ p ∷ rest) × (form_of p ≡ f) × (fs ≡ map form_of rest)
more_parts f fs [] e = cc
more_parts f fs (p ∷ ps) e = (p, ps, refl, cc, cc)

pub no_parts : (ps : List Part) → [] ≡ map form_of ps → ps ≡ []
no_parts [] e = refl
no_parts (p ∷ ps) e = cc

-- each name with parts of its forms is that of an entry, and of one only
pub record IsComplete {E : Type 0} (g : Grammar E) : Type 0 where
  pub found : (name : List ℕ) (ps : List Part) → g.forms_of name ≡ Some (map form_of ps) → (e : E) × (g.name_of e ≡ name) × (g.parts_of e ≡ ps)
  pub one : (e o : E) → g.name_of e ≡ g.name_of o → g.parts_of e ≡ g.parts_of o → e ≡ o

nothing_left : (l : Left) → left_over l ≡ None → l ≡ Ok []
nothing_left (Ok []) h = refl
nothing_left (Ok (w ∷ words)) h = cc
nothing_left (Err k) h = cc

checked_words : (b : Bool) (o : Option LogKind) → (if b then Some BadLine else o) ≡ None → o ≡ None
checked_words true o h = cc
checked_words false o h = h

line_tests : (e w : Bool) (o : Option LogKind) → (if e || not w then Some BadLine else o) ≡ None → (e ≡ false) × (w ≡ true) × (o ≡ None)
line_tests true w o h = cc
line_tests false true o h = (refl, refl, h)
line_tests false false o h = cc

module _ {E : Type 0} (g : Grammar E) (complete : IsComplete g) where
  -- an entry of these words
  abbrev pub Writes : Words → Type 0
  Writes words = (e : E) × (is_formed g e ≡ true) × (words ≡ entry_words g e)

  parts_written : (name : List ℕ) (words : Words) (o : Option (List Form)) → g.forms_of name ≡ o → left_over (left_after_name o words) ≡ None → Writes (name ∷ words)
  parts_written name words None e h = cc
  parts_written name words (Some fs) e h =
      let ps = parts_found fs words [] (nothing_left (left_after_all fs words) h) in
      let entry = complete.found name ps.0 (e ∙ ap (λ gs. Some gs) (sym ps.1)) in
      (entry.0, ap (list_all is_formed_part) entry.2 ∙ ps.2, (λ i. sym entry.1 i ∷ (ps.3 ∙ append-nil (flat_map part_words ps.0) ∙ ap (flat_map part_words) (sym entry.2)) i))

  -- words that pass the tests of a line are those of an entry
  pub words_written : (words : Words) → words_fault g.forms_of words ≡ None → Writes words
  words_written [] h = cc
  words_written (name ∷ words) h = parts_written name words (g.forms_of name) refl (checked_words (list_any (λ w. length w == 0) (name ∷ words)) (left_over (left_after_name (g.forms_of name) words)) h)

  -- and so for a line
  pub line_written : (has_ended whole : Bool) (line : List ℕ) → line_fault g.forms_of has_ended whole line ≡ None → (has_ended ≡ false) × (whole ≡ true) × ((e : E) × (is_formed g e ≡ true) × (line ≡ entry_text g e))
  line_written has_ended whole line h =
      let t = line_tests has_ended whole (words_fault g.forms_of (slice_split (λ b. b == 32) line)) h in
      let e = words_written (slice_split (λ b. b == 32) line) t.2 in
      (t.0, t.1, (e.0, e.1, sym (join_with_byte-slice_split 32 line) ∙ ap words_text e.2))
