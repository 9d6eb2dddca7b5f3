-- The parts of an entry that are taken so far, and the first that fails.
use Rattle.std.proofs.Common.{◌≡◌, refl, ℕ, true, false, ◌==◌, cond, length, List, [], ◌∷◌, ◌++◌, map, ap, sym, ◌∙◌, subst, Result, Ok, Err, append_assoc, Some}
use Rattle.std.specs.List.{list_all, list_any, flat_map, slice_split}
use Rattle.std.specs.Result.{IsErr, IsErrAnd}
use Rattle.std.proofs.lemmas.Bool.{and_parts, and_from}
use Rattle.std.proofs.lemmas.List.{append-nil}
use Rattle.std.proofs.lemmas.List.Splits.{join_with_byte-slice_split}
use Rattle.src_sink.specs.Texts.{words_text}
use Rattle.word_lines.specs.Grammar.{Grammar, is_formed, entry_text}
use Rattle.word_lines.specs.LineFault.{Form, form_of, left_after, left_after_all, left_after_name, left_over, words_fault, and_then}
use Rattle.word_lines.specs.Numerals.{same_word}
use Rattle.word_lines.specs.Parts.{Part, part_words, is_formed_part}
use Rattle.word_lines.specs.Taking.{TakesEntry}
use Rattle.word_lines.specs.declared.fault.Stop.{Stop}
use Rattle.word_lines.specs.declared.fault.Stop.TheVariants.{Fault, NoMemory}
use Rattle.word_lines.specs.declared.fault.LogKind.TheVariants.{BadLine}
use Rattle.word_lines.proofs.Forms.{Words, part_passes, parts_pass}
use Rattle.word_lines.proofs.Numerals.{same_word-true}
use Rattle.word_lines.proofs.Taken.{handed_on}

-- these parts stood first, and these words are left
pub record Front (old : Words) (ps : List Part) (now : Words) : Type 0 where
  pub formed : list_all is_formed_part ps ≡ true
  pub text : old ≡ flat_map part_words ps ++ now

pub none : (old : Words) → Front old [] old
none old = record { formed = refl; text = refl }

formed_push : (ps : List Part) (p : Part) → list_all is_formed_part ps ≡ true → is_formed_part p ≡ true → list_all is_formed_part (ps ++ p ∷ []) ≡ true
formed_push [] p h k = and_from (is_formed_part p) true k refl
formed_push (q ∷ ps) p h k = let a = and_parts (is_formed_part q) (list_all is_formed_part ps) h in and_from (is_formed_part q) _ a.0 (formed_push ps p a.1 k)

words_push : (ps : List Part) (p : Part) → flat_map part_words (ps ++ p ∷ []) ≡ flat_map part_words ps ++ part_words p
words_push [] p = append-nil (part_words p)
words_push (q ∷ ps) p = ap (λ ws. part_words q ++ ws) (words_push ps p) ∙ sym (append_assoc (part_words q) (flat_map part_words ps) (part_words p))

-- one part more
pub more : {old middle now : Words} {ps : List Part} (p : Part) → Front old ps middle → (is_formed_part p ≡ true) × (middle ≡ part_words p ++ now) → Front old (ps ++ p ∷ []) now
more {old} {middle} {now} {ps} p f h = record {
  formed = formed_push ps p f.formed h.0;
  text = f.text ∙ ap (λ ws. flat_map part_words ps ++ ws) h.1 ∙ sym (append_assoc (flat_map part_words ps) (part_words p) now) ∙ ap (λ ws. ws ++ now) (sym (words_push ps p));
}

after_front : (ps : List Part) (fs : List Form) (now : Words) → list_all is_formed_part ps ≡ true → left_after_all (map form_of ps ++ fs) (flat_map part_words ps ++ now) ≡ left_after_all fs now
after_front [] fs now h = refl
after_front (p ∷ ps) fs now h =
    let a = and_parts (is_formed_part p) (list_all is_formed_part ps) h in
    ap (λ ws. and_then (left_after (form_of p) ws) (left_after_all (map form_of ps ++ fs))) (append_assoc (part_words p) (flat_map part_words ps) now)
    ∙ ap (λ l. and_then l (left_after_all (map form_of ps ++ fs))) (part_passes p (flat_map part_words ps ++ now) a.0)
    ∙ after_front ps fs now a.1

-- what a reader says of words that fail the tests of a form
abbrev pub Fails : Form → Words → Stop → Type 0
Fails f now (Fault k) = left_after f now ≡ Err k
Fails f now NoMemory = Unit {0}

module _ {E : Type 0} (g : Grammar E) where
  entry_fails : (name : List ℕ) (old now new : Words) (ps : List Part) (f : Form) (fs : List Form) (s : Stop) → g.forms_of name ≡ Some (map form_of ps ++ f ∷ fs) → Front old ps now → Fails f now s → TakesEntry g name old new (Err s)
  entry_fails name old now new ps f fs (Fault k) known front h =
      ap (λ o. left_after_name o old) known ∙ ap (left_after_all (map form_of ps ++ f ∷ fs)) front.text ∙ after_front ps (f ∷ fs) now front.formed ∙ ap (λ l. and_then l (left_after_all fs)) h
  entry_fails name old now new ps f fs NoMemory known front h = tt

  -- the first part that fails, after those that were taken
  pub fails : {old now : Words} {ps : List Part} (name : List ℕ) (new : Words) (f : Form) (fs : List Form) (s : Stop) (r : Result E Stop) → g.forms_of name ≡ Some (map form_of ps ++ f ∷ fs) → Front old ps now → Fails f now s → IsErr r × IsErrAnd r (λ t. t ≡ s) → TakesEntry g name old new r
  fails {old} {now} {ps} name new f fs s r known front h from =
      subst (λ t. TakesEntry g name old new t) (sym (handed_on r s from)) (entry_fails name old now new ps f fs s known front h)

  -- an entry by its name
  pub of_name : (name other : List ℕ) (old new : Words) (r : Result E Stop) → true ≡ same_word name other → TakesEntry g other old new r → TakesEntry g name old new r
  of_name name other old new r e h = subst (λ n. TakesEntry g n old new r) (sym (same_word-true name other (sym e))) h

  parts_after : (name : List ℕ) (e : E) (new : Words) → is_formed g e ≡ true → g.name_of e ≡ name → left_after_name (g.forms_of name) (flat_map part_words (g.parts_of e) ++ new) ≡ Ok new
  parts_after name e new formed named =
      ap (λ o. left_after_name o (flat_map part_words (g.parts_of e) ++ new)) (ap g.forms_of (sym named) ∙ g.known e) ∙ parts_pass (g.parts_of e) new formed

  -- words that are left over
  pub too_long : (words : Words) (name : List ℕ) (ws new : Words) (w : List ℕ) (rest : Words) (e : E) → list_any (λ v. length v == 0) words ≡ false → words ≡ name ∷ ws → (is_formed g e ≡ true) × (g.name_of e ≡ name) × (ws ≡ flat_map part_words (g.parts_of e) ++ new) → new ≡ w ∷ rest → words_fault g.forms_of words ≡ Some BadLine
  too_long words name ws new w rest e none cut h left =
      let passed : list_any (λ v. length v == 0) (name ∷ ws) ≡ false = ap (list_any (λ v. length v == 0)) (sym cut) ∙ none in
      ap (words_fault g.forms_of) cut
      ∙ ap (λ b. cond b (Some BadLine) (left_over (left_after_name (g.forms_of name) ws))) passed
      ∙ ap (λ v. left_over (left_after_name (g.forms_of name) v)) h.2
      ∙ ap left_over (parts_after name e new h.0 h.1)
      ∙ ap (λ v. left_over (Ok v)) left

  -- all words of a line are those of its entry
  pub all_words : (text : List ℕ) (name : List ℕ) (ws new : Words) (e : E) → slice_split (λ b. b == 32) text ≡ name ∷ ws → (is_formed g e ≡ true) × (g.name_of e ≡ name) × (ws ≡ flat_map part_words (g.parts_of e) ++ new) → new ≡ [] → (is_formed g e ≡ true) × (text ≡ entry_text g e)
  all_words text name ws new e cut h left =
      let tail : ws ≡ flat_map part_words (g.parts_of e) = h.2 ∙ ap (λ v. flat_map part_words (g.parts_of e) ++ v) left ∙ append-nil (flat_map part_words (g.parts_of e)) in
      (h.0, sym (join_with_byte-slice_split 32 text) ∙ ap words_text (cut ∙ (λ i. sym h.1 i ∷ tail i)))
