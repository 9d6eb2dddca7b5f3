-- The first line of a text, and the first word of a line.
use Rattle.std.proofs.Common.{◌≡◌, refl, ℕ, ◌+◌, ◌<◌, ◌≤◌, Bool, true, false, not, ◌==◌, nat_lt, List, [], ◌∷◌, length, get_or, map, filter, take, drop, slice_index, arith, ap, sym, ◌∙◌, subst, inl, inr}
use Rattle.std.specs.List.{slice_split, join_with_byte, position_or_len, before_first, after_first}
use Rattle.std.proofs.lemmas.Bool.{cond-true, cond-false, lt-ltb, ne_eqb, cases_Bool, ltb-true, ltb-false}
use Rattle.std.proofs.lemmas.List.{drop_more, drop_all, take_all, length-take-le}
use Rattle.std.proofs.lemmas.List.Splits.{slice_split-cons_yes, slice_split_none, slice_split_first, length-slice_split, join_with_byte-slice_split}
use Rattle.std.proofs.lemmas.List.Sums.{fails_before_first, prefix_len_stops, prefix_len-le-length}
use Rattle.vlp_reader.specs.Lines.{is_line_feed, is_blank, whole_pieces, without_return, lines_of, words_of}

not_false : (b : Bool) → not b ≡ false → b ≡ true
not_false true h = refl
not_false false h = sym h

-- where no byte passes, the text is one piece
one_piece : (p : ℕ → Bool) (text : List ℕ) → position_or_len p text ≡ length text → slice_split p text ≡ text ∷ []
one_piece p text h = slice_split_none p text (λ k d lt. fails_before_first p text k d (omega (arith, h)))

more_pieces : (piece : List ℕ) (pieces : List (List ℕ)) → 0 < length pieces → whole_pieces (piece ∷ pieces) ≡ piece ∷ whole_pieces pieces
more_pieces piece [] h = absurd (omega arith)
more_pieces piece (next ∷ pieces) h = refl

-- a line that ends with a line feed
pub first_line : (text piece rest : List ℕ) → slice_split is_line_feed text ≡ piece ∷ slice_split is_line_feed rest → lines_of text ≡ without_return piece ∷ lines_of rest
first_line text piece rest cut =
    let some : 0 < length (slice_split is_line_feed rest) = omega (arith, length-slice_split is_line_feed rest) in
    ap (λ (l : List (List ℕ)). map without_return (whole_pieces l)) cut ∙ ap (map without_return) (more_pieces piece (slice_split is_line_feed rest) some)

-- one that the text ends
pub last_line : (text piece : List ℕ) → 0 < length text → slice_split is_line_feed text ≡ piece ∷ [] → lines_of text ≡ without_return piece ∷ []
last_line text piece some cut =
    let same : piece ≡ text = sym (ap (join_with_byte 10) cut) ∙ join_with_byte-slice_split 10 text in
    ap (λ (l : List (List ℕ)). map without_return (whole_pieces l)) cut
    ∙ ap (map without_return) (cond-false (length piece == 0) [] (piece ∷ []) (ne_eqb (length piece) 0 (λ e. absurd (omega (arith, e, ap length same)))))

-- a blank in front
pub skip_blank : (b : ℕ) (text : List ℕ) → is_blank b ≡ true → words_of (b ∷ text) ≡ words_of text
skip_blank b text h = ap (filter (λ word. nat_lt 0 (length word))) (slice_split-cons_yes is_blank b text h)

pub keep_first : (word : List ℕ) (words : List (List ℕ)) → 0 < length word → filter (λ w. nat_lt 0 (length w)) (word ∷ words) ≡ word ∷ filter (λ w. nat_lt 0 (length w)) words
keep_first word words h = cond-true (nat_lt 0 (length word)) _ _ (lt-ltb 0 (length word) h)

-- a text that begins with a word
some_word : (text : List ℕ) → 0 < length text → is_blank (slice_index text 0) ≡ false → 0 < position_or_len is_blank text
some_word [] h k = absurd (omega arith)
some_word (b ∷ text) h k = subst (λ (n : ℕ). 0 < n) (sym (cond-true (not (is_blank b)) (1 + position_or_len is_blank text) 0 (ap not k))) (omega arith)

pub first_word : (text : List ℕ) (end : ℕ) → end ≡ position_or_len is_blank text → 0 < length text → is_blank (slice_index text 0) ≡ false
    → words_of text ≡ take end text ∷ words_of (drop end text)
first_word text end is some first =
    let most : position_or_len is_blank text ≤ length text = prefix_len-le-length (λ x. not (is_blank x)) text in
    let low : 0 < position_or_len is_blank text = some_word text some first in
    subst (λ (n : ℕ). words_of text ≡ take n text ∷ words_of (drop n text)) (sym is)
    (elim (cases_Bool (nat_lt (position_or_len is_blank text) (length text))) [
      | inl less ↦
          let lt : position_or_len is_blank text < length text = ltb-true (position_or_len is_blank text) (length text) less in
          ap (filter (λ w. nat_lt 0 (length w))) (slice_split_first is_blank text 0 lt)
          ∙ keep_first (before_first is_blank text) (slice_split is_blank (after_first is_blank text)) (omega (arith, length-take-le (position_or_len is_blank text) text most))
          ∙ ap (λ (l : List (List ℕ)). before_first is_blank text ∷ l)
          (sym (ap words_of (drop_more text (position_or_len is_blank text) 0 lt)
          ∙ skip_blank (get_or text (position_or_len is_blank text) 0) (after_first is_blank text) (not_false _ (prefix_len_stops (λ x. not (is_blank x)) text 0 lt))))
      | inr not_less ↦
          let all : position_or_len is_blank text ≡ length text = omega (arith, ltb-false (position_or_len is_blank text) (length text) not_less) in
          ap (filter (λ w. nat_lt 0 (length w))) (one_piece is_blank text all)
          ∙ keep_first text [] some
          ∙ ap (λ (l : List ℕ). l ∷ []) (sym (take_all (position_or_len is_blank text) text (omega arith)))
          ∙ ap (λ (l : List ℕ). take (position_or_len is_blank text) text ∷ words_of l) (sym (drop_all (position_or_len is_blank text) text (omega arith)))
    ])
