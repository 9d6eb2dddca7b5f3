-- Words without blanks, and texts of lines of such words, which are cut into these lines and words again.
use Rattle.std.proofs.Common.{◌≡◌, refl, ℕ, zero, suc, ◌-◌, Bool, true, false, not, ◌&&◌, ◌||◌, ◌==◌, nat_lt, List, [], ◌∷◌, ◌++◌, length, get_or, map, filter, take, arith, ap, ◌∙◌, ltb-true, slice_index}
use Rattle.std.specs.List.{list_all, slice_split, onto_first, flat_map}
use Rattle.std.proofs.lemmas.Bool.{and_parts, and_from, cond-false, not-true}
use Rattle.std.proofs.lemmas.Bool.Decides.{nat_tests}
use Rattle.std.proofs.lemmas.List.{append_assoc}
use Rattle.std.proofs.lemmas.List.Folds.{list_all-append}
use Rattle.std.proofs.lemmas.List.Splits.{slice_split-cons_yes, slice_split-cons_no}
use Rattle.src_sink.specs.Texts.{words_text, line_text}
use Rattle.vlp_reader.specs.Lines.{is_line_feed, is_blank, without_return, lines_of, words_of}
use Rattle.vlp_reader.proofs.Texts.{first_line, keep_first}

-- one byte or more, none of them a blank or a control character
abbrev pub is_plain : List ℕ → Bool
is_plain word = nat_lt 0 (length word) && list_all (λ b. nat_lt 32 b) word

-- ---- texts that are cut
-- general: a weaker test
all_weaker : (p q : ℕ → Bool) → ((b : ℕ) → p b ≡ true → q b ≡ true) → (xs : List ℕ) → list_all p xs ≡ true → list_all q xs ≡ true
all_weaker p q weaker [] h = refl
all_weaker p q weaker (x ∷ xs) h =
    let parts = and_parts (p x) (list_all p xs) h in
    and_from (q x) (list_all q xs) (weaker x parts.0) (all_weaker p q weaker xs parts.1)

-- after a piece in which no byte passes
cut_after : (p : ℕ → Bool) (piece : List ℕ) (b : ℕ) (rest : List ℕ) → list_all (λ c. not (p c)) piece ≡ true → p b ≡ true → slice_split p (piece ++ b ∷ rest) ≡ piece ∷ slice_split p rest
cut_after p [] b rest h k = slice_split-cons_yes p b rest k
cut_after p (c ∷ piece) b rest h k =
    let parts = and_parts (not (p c)) (list_all (λ d. not (p d)) piece) h in
    slice_split-cons_no p c (piece ++ b ∷ rest) (not-true (p c) parts.0) ∙ ap (onto_first c) (cut_after p piece b rest parts.1 k)

uncut : (p : ℕ → Bool) (piece : List ℕ) → list_all (λ c. not (p c)) piece ≡ true → slice_split p piece ≡ piece ∷ []
uncut p [] h = refl
uncut p (c ∷ piece) h =
    let parts = and_parts (not (p c)) (list_all (λ d. not (p d)) piece) h in
    slice_split-cons_no p c piece (not-true (p c) parts.0) ∙ ap (onto_first c) (uncut p piece parts.1)

-- ---- the words of a line
unblank : (word : List ℕ) → list_all (λ b. nat_lt 32 b) word ≡ true → list_all (λ b. not (is_blank b)) word ≡ true
unblank word h = all_weaker (λ b. nat_lt 32 b) (λ b. not (is_blank b)) (λ b k. no_blank b k) word h
  where
    no_blank : (b : ℕ) → nat_lt 32 b ≡ true → not (b == 32 || b == 9) ≡ true
    no_blank b k = grind (arith, nat_tests)

pub words_back : (words : List (List ℕ)) → list_all is_plain words ≡ true → words_of (words_text words) ≡ words
words_back [] h = refl
words_back (w ∷ []) h =
    let word = and_parts (nat_lt 0 (length w)) (list_all (λ b. nat_lt 32 b) w) (and_parts (is_plain w) true h).0 in
    ap (filter (λ v. nat_lt 0 (length v))) (uncut is_blank w (unblank w word.1)) ∙ keep_first w [] (ltb-true 0 (length w) word.0)
words_back (w ∷ v ∷ words) h =
    let parts = and_parts (is_plain w) (list_all is_plain (v ∷ words)) h in
    let word = and_parts (nat_lt 0 (length w)) (list_all (λ b. nat_lt 32 b) w) parts.0 in
    ap (filter (λ u. nat_lt 0 (length u))) (cut_after is_blank w 32 (words_text (v ∷ words)) (unblank w word.1) refl)
    ∙ keep_first w (slice_split is_blank (words_text (v ∷ words))) (ltb-true 0 (length w) word.0)
    ∙ ap (λ (l : List (List ℕ)). w ∷ l) (words_back (v ∷ words) parts.1)

-- ---- the lines of a text
-- no byte of a line is a control character
printable : (words : List (List ℕ)) → list_all is_plain words ≡ true → list_all (λ b. nat_lt 31 b) (words_text words) ≡ true
printable [] h = refl
printable (w ∷ []) h =
    let word = and_parts (nat_lt 0 (length w)) (list_all (λ b. nat_lt 32 b) w) (and_parts (is_plain w) true h).0 in
    all_weaker (λ b. nat_lt 32 b) (λ b. nat_lt 31 b) (λ b k. grind (arith, nat_tests)) w word.1
printable (w ∷ v ∷ words) h =
    let parts = and_parts (is_plain w) (list_all is_plain (v ∷ words)) h in
    let word = and_parts (nat_lt 0 (length w)) (list_all (λ b. nat_lt 32 b) w) parts.0 in
    list_all-append (λ b. nat_lt 31 b) w (32 ∷ words_text (v ∷ words))
    ∙ and_from _ _ (all_weaker (λ b. nat_lt 32 b) (λ b. nat_lt 31 b) (λ b k. grind (arith, nat_tests)) w word.1) (printable (v ∷ words) parts.1)

unreturned : (xs : List ℕ) (i : ℕ) → list_all (λ b. nat_lt 31 b) xs ≡ true → (get_or xs i 0 == 13) ≡ false
unreturned [] i h = refl
unreturned (x ∷ xs) zero h = other x (and_parts (nat_lt 31 x) (list_all (λ b. nat_lt 31 b) xs) h).0
  where
    other : (b : ℕ) → nat_lt 31 b ≡ true → (b == 13) ≡ false
    other b k = grind (arith, nat_tests)
unreturned (x ∷ xs) (suc i) h = unreturned xs i (and_parts (nat_lt 31 x) (list_all (λ b. nat_lt 31 b) xs) h).1

whole : (piece : List ℕ) → list_all (λ b. nat_lt 31 b) piece ≡ true → without_return piece ≡ piece
whole piece h = cond-false (slice_index piece (length piece - 1) == 13) (take (length piece - 1) piece) piece (unreturned piece (length piece - 1) h)

line_cut : (words : List (List ℕ)) (rest : List ℕ) → list_all is_plain words ≡ true → slice_split is_line_feed (line_text words ++ rest) ≡ words_text words ∷ slice_split is_line_feed rest
line_cut words rest h =
    ap (slice_split is_line_feed) (append_assoc (words_text words) (10 ∷ []) rest)
    ∙ cut_after is_line_feed (words_text words) 10 rest (all_weaker (λ b. nat_lt 31 b) (λ b. not (b == 10)) (λ b k. other b k) (words_text words) (printable words h)) refl
  where
    other : (b : ℕ) → nat_lt 31 b ≡ true → not (b == 10) ≡ true
    other b k = grind (arith, nat_tests)

pub lines_back : (lines : List (List (List ℕ))) → list_all (λ words. list_all is_plain words) lines ≡ true → lines_of (flat_map line_text lines) ≡ map words_text lines
lines_back [] h = refl
lines_back (words ∷ lines) h =
    let parts = and_parts (list_all is_plain words) (list_all (λ ws. list_all is_plain ws) lines) h in
    first_line (flat_map line_text (words ∷ lines)) (words_text words) (flat_map line_text lines) (line_cut words (flat_map line_text lines) parts.0)
    ∙ ap (λ (l : List ℕ). l ∷ lines_of (flat_map line_text lines)) (whole (words_text words) (printable words parts.0))
    ∙ ap (λ (l : List (List ℕ)). words_text words ∷ l) (lines_back lines parts.1)
