-- The words of an entry pass the tests of its line.
use Rattle.std.proofs.Common.{◌≡◌, true, false, ◌==◌, cond, [], length, map, arith, ap, sym, ◌∙◌, None, Some}
use Rattle.std.specs.List.{slice_split, flat_map}
use Rattle.std.proofs.lemmas.Bool.{ltb-true}
use Rattle.std.proofs.lemmas.List.{append-nil}
use Rattle.word_lines.specs.Grammar.{Grammar, is_formed, entry_words, entry_text}
use Rattle.word_lines.specs.LineFault.{form_of, left_after_all, left_after_name, left_over, words_fault, line_fault}
use Rattle.word_lines.specs.Parts.{part_words, is_formed_part}
use Rattle.word_lines.specs.declared.fault.LogKind.TheVariants.{BadLine}
use Rattle.word_lines.proofs.Cutting.{Lacks, slice_split-join, Lacks-join}
use Rattle.word_lines.proofs.Forms.{parts_pass}
use Rattle.word_lines.proofs.PrintedWords.{Printed, printed_letters, printed_each, printed_part, no_blanks, no_feeds, none_empty}

module _ {E : Type 0} (g : Grammar E) where
  printed_entry : (e : E) → is_formed g e ≡ true → Printed (entry_words g e)
  printed_entry e h =
      (printed_letters (g.name_of e) (ltb-true 0 (length (g.name_of e)) (g.some_name e)) (g.letters e), printed_each part_words is_formed_part printed_part (g.parts_of e) h)

  -- the line of an entry is cut back into its words
  pub cut_entry : (e : E) → is_formed g e ≡ true → slice_split (λ b. b == 32) (entry_text g e) ≡ entry_words g e
  cut_entry e h = let w = no_blanks (entry_words g e) (printed_entry e h) in slice_split-join 32 (g.name_of e) _ w.0 w.1

  -- and has no line feed
  pub entry_lacks : (e : E) → is_formed g e ≡ true → Lacks 10 (entry_text g e)
  entry_lacks e h = Lacks-join 10 32 (entry_words g e) (λ x. absurd (omega (arith, x))) (no_feeds (entry_words g e) (printed_entry e h))

  -- the words of an entry pass the tests of a line
  pub words_pass : (e : E) → is_formed g e ≡ true → words_fault g.forms_of (entry_words g e) ≡ None
  words_pass e h =
      ap (λ b. cond b (Some BadLine) (left_over (left_after_name (g.forms_of (g.name_of e)) (flat_map part_words (g.parts_of e))))) (none_empty (entry_words g e) (printed_entry e h))
      ∙ ap (λ o. left_over (left_after_name o (flat_map part_words (g.parts_of e)))) (g.known e)
      ∙ ap (λ ws. left_over (left_after_all (map form_of (g.parts_of e)) ws)) (sym (append-nil (flat_map part_words (g.parts_of e))))
      ∙ ap left_over (parts_pass (g.parts_of e) [] h)

  pub line_passes : (e : E) → is_formed g e ≡ true → line_fault g.forms_of false true (entry_text g e) ≡ None
  line_passes e h = ap (words_fault g.forms_of) (cut_entry e h) ∙ words_pass e h
