-- A representation that is read line by line, and printed.
use Rattle.std.proofs.Common.{◌≡◌, ℕ, ◌<◌, ◌==◌, List, [], ◌∷◌, ◌++◌, length, map, ap, sym, ◌∙◌, subst, Result, Ok, Err, Option, is_some, append_assoc}
use Rattle.std.specs.Borrow.{Bor}
use Rattle.std.specs.List.{flat_map, slice_split}
use Rattle.std.specs.Result.{IsErr, IsErrAnd, IfErr}
use Rattle.std.proofs.lemmas.List.{append-nil}
use Rattle.src_sink.specs.Texts.{TextLine, line_text, lines_of, pieces_after}
use Rattle.exact_field.specs.Rational.{ℚ}
use Rattle.frac128.specs.Text.{frac_text}
use Rattle.word_lines.specs.Printing.{spaced}
use Rattle.word_lines.specs.Taking.{text_after}
use Rattle.word_lines.proofs.Forms.{one_each}
use Rattle.word_lines.proofs.LineByLine.{next_lines}
use Rattle.word_lines.proofs.Spaced.{line_of_words}
use Rattle.rep_text.specs.RepFault.{RepFirstFault}
use Rattle.rep_text.specs.RepReading.{ReadsFirst, ReadsLine, RefusesFirst, RefusesLine, RefusesRep, with_line}
use Rattle.rep_text.specs.RepText.{end_words, row_words}
use Rattle.rep_text.specs.declared.fault.RepEnd.{RepEnd}
use Rattle.rep_text.specs.declared.fault.RepEnd.TheVariants.{Fault, NoMemory}
use Rattle.rep_text.specs.declared.reader.Reading.{Reading}
use Rattle.rep_text.specs.declared.rep.RepRow.{RepRow}
use Rattle.rep_text.proofs.RepLines.{IsReadTo, first_read, first_refused, read_fault, read_next}

-- what `?` hands on is the refusal itself
pub refusal_handed : {A : Type 0} (bytes : List ℕ) (r : Result A RepEnd) (end : RepEnd) → IsErr r × IsErrAnd r (λ t. t ≡ end) → RefusesRep bytes end → IfErr r (RefusesRep bytes)
refusal_handed bytes (Ok rep) end h k = tt
refusal_handed bytes (Err t) end h k = subst (RefusesRep bytes) (sym h.1) k

-- the first line is refused
pub first_refuses : (bytes line : List ℕ) (after : Option (Bor (List ℕ))) (end : RepEnd) → 0 < length bytes → slice_split (λ b. b == 10) bytes ≡ line ∷ pieces_after 10 after → RefusesFirst (is_some after) line end → RefusesRep bytes end
first_refuses bytes line after (Fault at kind) some cut h =
    let first = first_refused bytes (record { text = line; whole = is_some after }) (lines_of (text_after after)) kind (next_lines bytes line after some cut) h.1 in
    subst (λ (n : ℕ). RepFirstFault bytes (record { line = n; kind = kind })) (sym h.0) first
first_refuses bytes line after NoMemory some cut h = tt

-- the first line is read
pub first_reads : (bytes line : List ℕ) (after : Option (Bor (List ℕ))) (s : Reading) → 0 < length bytes → slice_split (λ b. b == 10) bytes ≡ line ∷ pieces_after 10 after → ReadsFirst (is_some after) line s → IsReadTo bytes (lines_of (text_after after)) s
first_reads bytes line after s some cut h = first_read bytes (record { text = line; whole = is_some after }) (lines_of (text_after after)) s (next_lines bytes line after some cut) h

-- the next line is refused
pub row_refuses : (bytes rest line : List ℕ) (after : Option (Bor (List ℕ))) (s : Reading) (end : RepEnd) → 0 < length rest → slice_split (λ b. b == 10) rest ≡ line ∷ pieces_after 10 after → IsReadTo bytes (lines_of rest) s → RefusesLine s.head s.before s.ended (is_some after) line end → RefusesRep bytes end
row_refuses bytes rest line after s (Fault at kind) some cut read h =
    let l : TextLine = record { text = line; whole = is_some after } in
    let first = read_fault bytes l (lines_of (text_after after)) s kind (subst (λ ls. IsReadTo bytes ls s) (next_lines rest line after some cut) read) h.1 in
    subst (λ (n : ℕ). RepFirstFault bytes (record { line = n; kind = kind })) (sym h.0) first
row_refuses bytes rest line after s NoMemory some cut read h = tt

-- the next line is read
pub row_reads : (bytes rest line : List ℕ) (after : Option (Bor (List ℕ))) (s : Reading) (row : Option RepRow) → 0 < length rest → slice_split (λ b. b == 10) rest ≡ line ∷ pieces_after 10 after → IsReadTo bytes (lines_of rest) s → ReadsLine s.head s.before s.ended (is_some after) line row → IsReadTo bytes (lines_of (text_after after)) (with_line s row)
row_reads bytes rest line after s row some cut read h =
    read_next bytes (record { text = line; whole = is_some after }) (lines_of (text_after after)) s row (subst (λ ls. IsReadTo bytes ls s) (next_lines rest line after some cut) read) h

-- ---- printing

-- the line of a row is put
pub row_put : (old name a b now : List ℕ) (v items : List ℚ) → a ≡ old ++ name → items ≡ v → b ≡ a ++ spaced (flat_map (λ q. frac_text q ∷ []) items) → now ≡ b ++ 10 ∷ [] → now ≡ old ++ line_text (name ∷ map frac_text v)
row_put old name a b now v items first same numbers last =
    let words = map frac_text v in
    last
    ∙ ap (λ r. r ++ 10 ∷ []) (
    numbers
    ∙ (λ i. first i ++ spaced (flat_map (λ q. frac_text q ∷ []) (same i)))
    ∙ ap (λ ws. (old ++ name) ++ spaced ws) (one_each frac_text v)
    ∙ append_assoc old name (spaced words)
    ∙ ap (λ r. old ++ r) (sym (line_of_words name words))
    )
    ∙ append_assoc old _ (10 ∷ [])

lines_put : (rows : List RepRow) → flat_map (λ row. line_text (row_words row)) rows ++ line_text end_words ≡ flat_map line_text (map row_words rows ++ end_words ∷ [])
lines_put [] = sym (append-nil (line_text end_words))
lines_put (row ∷ rows) =
    append_assoc (line_text (row_words row)) (flat_map (λ r. line_text (row_words r)) rows) (line_text end_words)
    ∙ ap (λ r. line_text (row_words row) ++ r) (lines_put rows)

-- all lines are put
pub rep_put : (head text now : List ℕ) (rows : List RepRow) → text ≡ head ++ flat_map (λ row. line_text (row_words row)) rows → now ≡ text ++ line_text end_words → now ≡ head ++ flat_map line_text (map row_words rows ++ end_words ∷ [])
rep_put head text now rows h k =
    k ∙ ap (λ r. r ++ line_text end_words) h ∙ append_assoc head (flat_map (λ row. line_text (row_words row)) rows) (line_text end_words) ∙ ap (λ r. head ++ r) (lines_put rows)
