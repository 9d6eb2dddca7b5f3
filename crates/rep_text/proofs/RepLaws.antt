-- Each list of bytes is the text of a representation or has a first fault, never both, and but one of either.
use Rattle.std.proofs.Common.{◌≡◌, refl, ℕ, ◌+◌, ◌<◌, true, false, nat_le, ◌==◌, Bool, List, [], ◌∷◌, ◌++◌, length, map, arith, ap, sym, ◌∙◌, codes, decimal, None, Some, Option, if◌then◌else◌, ◌||◌, ◌⊎◌, inl, inr, ⊎_elim, append_assoc}
use Rattle.std.specs.List.{AllByRecursion, flat_map, list_all, list_any, slice_split}
use Rattle.std.proofs.lemmas.Bool.{and_parts, and_from, cases_lt, false≢true, le-leb, lt-leb}
use Rattle.std.proofs.lemmas.Fmt.{decimal_injective}
use Rattle.std.proofs.lemmas.List.{append-nil}
use Rattle.std.proofs.lemmas.List.Splits.{slice_split_at}
use Rattle.src_sink.proofs.TextLines.{first_line}
use Rattle.src_sink.specs.Texts.{TextLine, line_text, lines_of, words_text}
use Rattle.exact_field.specs.Rational.{ℚ}
use Rattle.frac128.specs.Held.{is_held}
use Rattle.frac128.specs.Text.{frac_text}
use Rattle.frac128.proofs.TextLaw.{one_number_per_text}
use Rattle.word_lines.specs.FirstFault.{fault_at, is_end_line}
use Rattle.word_lines.specs.Numerals.{same_word}
use Rattle.word_lines.specs.declared.fault.LogFault.{LogFault}
use Rattle.word_lines.specs.declared.fault.LogKind.{LogKind}
use Rattle.word_lines.specs.declared.fault.LogKind.TheVariants.{BadLine, OutOfRange}
use Rattle.word_lines.proofs.Forms.{Words}
use Rattle.word_lines.proofs.Laws.{past, one_first_fault}
use Rattle.word_lines.proofs.PrintedWords.{Printed}
use Rattle.rep_text.specs.Fits.{row_fits, row_held}
use Rattle.rep_text.specs.Laws.{AreAlike, OneRepReading}
use Rattle.rep_text.specs.RepFault.{RepFirstFault, rep_test}
use Rattle.rep_text.specs.RepReading.{is_width, place_fault, with_line}
use Rattle.rep_text.specs.RepText.{IsRepText, end_words, head_name, head_words, kind_name, rep_lines, row_words}
use Rattle.rep_text.specs.declared.reader.Reading.{Reading}
use Rattle.rep_text.specs.declared.rep.Rep.{Rep}
use Rattle.rep_text.specs.declared.rep.RepKind.{RepKind}
use Rattle.rep_text.specs.declared.rep.RepKind.TheVariants.{Side, Equal, Line, Point, Direction}
use Rattle.rep_text.specs.declared.rep.RepRow.{RepRow}
use Rattle.rep_text.proofs.RepFound.{first_found, next_found}
use Rattle.rep_text.proofs.RepLines.{IsReadTo, done, ends_alike, first_read, first_refused, first_test, next_test, none_read, read_all, read_fault, read_next, read_open, row_line}
use Rattle.rep_text.proofs.RowWords.{cut_line, line_lacks, line_of, no_end_row, printed_end, printed_head, printed_row, wide}

-- ---- reading on, line by line

abbrev Outcome : List ℕ → Type 0
Outcome bytes = ((rep : Rep) × IsRepText bytes rep) ⊎ ((f : LogFault) × RepFirstFault bytes f)

closes : (bytes : List ℕ) (s : Reading) (b : Bool) → s.ended ≡ b → IsReadTo bytes [] s → Outcome bytes
closes bytes s true e r =
    let all = read_all bytes s r e in
    let w = wide s.head.width r.wide in
    inl (record { gens = s.head.gens; width = s.head.width; rows = s.rows; some_entry = w.0; few_entries = w.1; fitting = r.fit }, record { held = r.held; few = all.1; text = all.0 })
closes bytes s false e r = inr (_, read_open bytes s r e)

reads : (bytes : List ℕ) (rest : List TextLine) (s : Reading) → IsReadTo bytes rest s → Outcome bytes
reads bytes [] s r = closes bytes s s.ended refl r
reads bytes (l ∷ rest) s r = by (λ t k. reads bytes rest t k) (next_test s l) refl
  where
    by : ((t : Reading) → IsReadTo bytes rest t → Outcome bytes) → (o : Option LogKind) → next_test s l ≡ o → Outcome bytes
    by more (Some k) h = inr (_, read_fault bytes l rest s k r h)
    by more None h = let found = next_found s l h in more (with_line s found.0) (read_next bytes l rest s found.0 r found.1)

starts : (bytes : List ℕ) (lines : List TextLine) → lines_of bytes ≡ lines → Outcome bytes
starts bytes [] e = inr (_, none_read bytes e)
starts bytes (l ∷ rest) e = by (first_test l.whole l.text) refl
  where
    by : (o : Option LogKind) → first_test l.whole l.text ≡ o → Outcome bytes
    by (Some k) h = inr (_, first_refused bytes l rest k e h)
    by None h = let found = first_found l h in reads bytes rest found.0 (first_read bytes l rest found.0 e found.1)

-- ---- the lines of a text

lines_of_text : (lines : List Words) → AllByRecursion Printed lines → lines_of (flat_map line_text lines) ≡ map line_of lines
lines_of_text [] h = refl
lines_of_text (ws ∷ lines) h =
    let text = flat_map line_text lines in
    let cut : slice_split (λ b. b == 10) (flat_map line_text (ws ∷ lines)) ≡ words_text ws ∷ slice_split (λ b. b == 10) text =
    ap (slice_split (λ b. b == 10)) (append_assoc (words_text ws) (10 ∷ []) text) ∙ slice_split_at (λ b. b == 10) (words_text ws) 10 text (line_lacks ws h.0) refl in
    first_line (flat_map line_text (ws ∷ lines)) (words_text ws) text cut ∙ ap (λ ls. line_of ws ∷ ls) (lines_of_text lines h.1)

rows_printed : (rows : List RepRow) → list_all row_held rows ≡ true → AllByRecursion Printed (map row_words rows ++ end_words ∷ [])
rows_printed [] h = (printed_end, tt)
rows_printed (row ∷ rows) h =
    let p = and_parts (row_held row) (list_all row_held rows) h in
    (printed_row row p.0, rows_printed rows p.1)

width_of : (rep : Rep) → is_width rep.width ≡ true
width_of rep = and_from (nat_le 1 rep.width) (nat_le rep.width 19) (le-leb 1 rep.width rep.some_entry) (le-leb rep.width 19 rep.few_entries)

rows_lines : (rows : List RepRow) → map line_of (map row_words rows ++ end_words ∷ []) ≡ map row_line rows ++ line_of end_words ∷ []
rows_lines [] = refl
rows_lines (row ∷ rows) = ap (λ ls. row_line row ∷ ls) (rows_lines rows)

-- the lines of a representation's text
text_lines : (bytes : List ℕ) (rep : Rep) → IsRepText bytes rep → lines_of bytes ≡ line_of (head_words rep.gens rep.width) ∷ (map row_line rep.rows ++ line_of end_words ∷ [])
text_lines bytes rep h =
    ap lines_of h.text ∙ lines_of_text (rep_lines rep) (printed_head rep.gens rep.width (width_of rep), rows_printed rep.rows h.held)
    ∙ ap (λ ls. line_of (head_words rep.gens rep.width) ∷ ls) (rows_lines rep.rows)

-- ---- no line of it has a fault

may_stand : (s : Reading) → s.before < 10000 → s.ended ≡ false → place_fault s.before s.ended true ≡ None
may_stand s few going = (λ i. if lt-leb 10000 s.before few i then Some OutOfRange else if going i || false then Some BadLine else None)

-- a text whose lines are all read, the last as an end
record IsWhole (bytes : List ℕ) : Type 0 where
  state : Reading
  read : IsReadTo bytes [] state
  closed : state.ended ≡ true

rows_read : (bytes : List ℕ) (rows : List RepRow) (s : Reading) → IsReadTo bytes (map row_line rows ++ line_of end_words ∷ []) s → s.ended ≡ false → list_all (row_fits s.head.gens s.head.width) rows ≡ true → list_all row_held rows ≡ true → s.before + length rows < 10000 → IsWhole bytes
rows_read bytes [] s r going fit held few = record {
  state = with_line s None;
  read = read_next bytes (line_of end_words) [] s None r (may_stand s (omega (arith, few)) going, refl);
  closed = refl;
}
rows_read bytes (row ∷ rows) s r going fit held few =
    let p = and_parts (row_fits s.head.gens s.head.width row) (list_all (row_fits s.head.gens s.head.width) rows) fit in
    let q = and_parts (row_held row) (list_all row_held rows) held in
    rows_read bytes rows (with_line s (Some row)) (read_next bytes (row_line row) (map row_line rows ++ line_of end_words ∷ []) s (Some row) r (may_stand s (omega (arith, few)) going, (p.0, q.0, refl))) going p.1 q.1 (omega (arith, few))

whole_text : (bytes : List ℕ) (rep : Rep) → IsRepText bytes rep → IsWhole bytes
whole_text bytes rep h =
    let few = h.few in
    let s : Reading = record { head = record { gens = rep.gens; width = rep.width }; rows = []; before = 1; ended = false } in
    rows_read bytes rep.rows s
    (first_read bytes (line_of (head_words rep.gens rep.width)) (map row_line rep.rows ++ line_of end_words ∷ []) s (text_lines bytes rep h) (refl, (width_of rep, refl), refl, refl, refl))
    refl rep.fitting h.held (omega (arith, few))

apart_by : (bytes : List ℕ) (f : LogFault) → IsWhole bytes → RepFirstFault bytes f → ⊥
apart_by bytes f w (inl h) =
    let r = w.read in
    let count : length (lines_of bytes) ≡ w.state.before = ap length (r.lines_are ∙ append-nil (done w.state)) ∙ r.count in
    let none : fault_at rep_test (lines_of bytes) f.line ≡ None =
    ⊎_elim (λ below. past rep_test (lines_of bytes) f.line below) (λ above. r.pass f.line h.0 (omega (arith, above, count))) (cases_lt (length (lines_of bytes)) f.line) in
    no_kind _ (sym none ∙ h.2)
  where
    no_kind : (k : LogKind) → None ≡ Some k → ⊥
    no_kind k e = cc
apart_by bytes f w (inr h) =
    let r = w.read in
    false≢true (sym h.1 ∙ ap (list_any is_end_line) (r.lines_are ∙ append-nil (done w.state)) ∙ ends_alike w.state r.wide r.held ∙ w.closed)

-- ---- one representation for a text

same_words : (v w : List ℕ) (vs ws : Words) → Printed (v ∷ vs) → Printed (w ∷ ws) → line_of (v ∷ vs) ≡ line_of (w ∷ ws) → v ∷ vs ≡ w ∷ ws
same_words v w vs ws h k e = sym (cut_line v vs h) ∙ ap (λ (l : TextLine). slice_split (λ b. b == 32) l.text) e ∙ cut_line w ws k

other_word : (w : List ℕ) (v : List ℕ) → same_word w w ≡ true → same_word v w ≡ false → w ≡ v → ⊥
other_word w v h k e = false≢true (sym k ∙ ap (λ x. same_word x w) (sym e) ∙ h)

same_gens : (a b : Bool) → head_name a ≡ head_name b → a ≡ b
same_gens true true e = refl
same_gens true false e = absurd (other_word (codes "gens") (codes "sides") refl refl e)
same_gens false true e = absurd (other_word (codes "sides") (codes "gens") refl refl e)
same_gens false false e = refl

same_kind : (a b : RepKind) → kind_name a ≡ kind_name b → a ≡ b
same_kind Side Side e = refl
same_kind Side Equal e = absurd (other_word (codes "h") (codes "e") refl refl e)
same_kind Side Line e = absurd (other_word (codes "h") (codes "l") refl refl e)
same_kind Side Point e = absurd (other_word (codes "h") (codes "1") refl refl e)
same_kind Side Direction e = absurd (other_word (codes "h") (codes "0") refl refl e)
same_kind Equal Side e = absurd (other_word (codes "e") (codes "h") refl refl e)
same_kind Equal Equal e = refl
same_kind Equal Line e = absurd (other_word (codes "e") (codes "l") refl refl e)
same_kind Equal Point e = absurd (other_word (codes "e") (codes "1") refl refl e)
same_kind Equal Direction e = absurd (other_word (codes "e") (codes "0") refl refl e)
same_kind Line Side e = absurd (other_word (codes "l") (codes "h") refl refl e)
same_kind Line Equal e = absurd (other_word (codes "l") (codes "e") refl refl e)
same_kind Line Line e = refl
same_kind Line Point e = absurd (other_word (codes "l") (codes "1") refl refl e)
same_kind Line Direction e = absurd (other_word (codes "l") (codes "0") refl refl e)
same_kind Point Side e = absurd (other_word (codes "1") (codes "h") refl refl e)
same_kind Point Equal e = absurd (other_word (codes "1") (codes "e") refl refl e)
same_kind Point Line e = absurd (other_word (codes "1") (codes "l") refl refl e)
same_kind Point Point e = refl
same_kind Point Direction e = absurd (other_word (codes "1") (codes "0") refl refl e)
same_kind Direction Side e = absurd (other_word (codes "0") (codes "h") refl refl e)
same_kind Direction Equal e = absurd (other_word (codes "0") (codes "e") refl refl e)
same_kind Direction Line e = absurd (other_word (codes "0") (codes "l") refl refl e)
same_kind Direction Point e = absurd (other_word (codes "0") (codes "1") refl refl e)
same_kind Direction Direction e = refl

same_numbers : (v w : List ℚ) → list_all is_held v ≡ true → list_all is_held w ≡ true → map frac_text v ≡ map frac_text w → v ≡ w
same_numbers [] [] h k e = refl
same_numbers [] (q ∷ w) h k e = cc
same_numbers (p ∷ v) [] h k e = cc
same_numbers (p ∷ v) (q ∷ w) h k e =
    let a = and_parts (is_held p) (list_all is_held v) h in
    let b = and_parts (is_held q) (list_all is_held w) k in
    let first : p ≡ q = one_number_per_text p q a.0 b.0 cc in
    let rest : v ≡ w = same_numbers v w a.1 b.1 cc in
    λ i. first i ∷ rest i

same_row : (row other : RepRow) → row_held row ≡ true → row_held other ≡ true → row_line row ≡ row_line other → row ≡ other
same_row row other h k e =
    let words = same_words (kind_name row.kind) (kind_name other.kind) (map frac_text row.v) (map frac_text other.v) (printed_row row h) (printed_row other k) e in
    let kinds : row.kind ≡ other.kind = same_kind row.kind other.kind cc in
    let numbers : row.v ≡ other.v = same_numbers row.v other.v h k cc in
    λ i. record { kind = kinds i; v = numbers i }

no_end : (kind : RepKind) → codes "end" ≡ kind_name kind → ⊥
no_end kind e = other_word (codes "end") (kind_name kind) refl (no_end_row kind) e

end_is_no_row : (row : RepRow) → row_held row ≡ true → line_of end_words ≡ row_line row → ⊥
end_is_no_row row h e = no_end row.kind (head_same _ _ _ _ (same_words (codes "end") (kind_name row.kind) [] (map frac_text row.v) printed_end (printed_row row h) e))
  where
    head_same : (v w : List ℕ) (vs ws : Words) → v ∷ vs ≡ w ∷ ws → v ≡ w
    head_same v w vs ws k = cc

same_rows : (rows others : List RepRow) → list_all row_held rows ≡ true → list_all row_held others ≡ true → map row_line rows ++ line_of end_words ∷ [] ≡ map row_line others ++ line_of end_words ∷ [] → rows ≡ others
same_rows [] [] h k e = refl
same_rows [] (other ∷ others) h k e =
    let p = and_parts (row_held other) (list_all row_held others) k in
    let first : line_of end_words ≡ row_line other = cc in
    absurd (end_is_no_row other p.0 first)
same_rows (row ∷ rows) [] h k e =
    let p = and_parts (row_held row) (list_all row_held rows) h in
    let first : line_of end_words ≡ row_line row = cc in
    absurd (end_is_no_row row p.0 first)
same_rows (row ∷ rows) (other ∷ others) h k e =
    let p = and_parts (row_held row) (list_all row_held rows) h in
    let q = and_parts (row_held other) (list_all row_held others) k in
    let first : row_line row ≡ row_line other = cc in
    let tails : map row_line rows ++ line_of end_words ∷ [] ≡ map row_line others ++ line_of end_words ∷ [] = cc in
    let same = same_row row other p.0 q.0 first in
    let rest = same_rows rows others p.1 q.1 tails in
    λ i. same i ∷ rest i

one_rep : (bytes : List ℕ) (rep other : Rep) → IsRepText bytes rep → IsRepText bytes other → AreAlike rep other
one_rep bytes rep other h k =
    let lines = sym (text_lines bytes rep h) ∙ text_lines bytes other k in
    let first : line_of (head_words rep.gens rep.width) ≡ line_of (head_words other.gens other.width) = cc in
    let tails : map row_line rep.rows ++ line_of end_words ∷ [] ≡ map row_line other.rows ++ line_of end_words ∷ [] = cc in
    let words = same_words (head_name rep.gens) (head_name other.gens) (decimal rep.width ∷ []) (decimal other.width ∷ []) (printed_head rep.gens rep.width (width_of rep)) (printed_head other.gens other.width (width_of other)) first in
    let low = rep.few_entries in
    let low_other = other.few_entries in
    record {
      gens = same_gens rep.gens other.gens cc;
      width = decimal_injective rep.width other.width (omega (arith, low)) (omega (arith, low_other)) cc;
      rows = same_rows rep.rows other.rows h.held k.held tails;
    }

pub one_rep_reading : OneRepReading
one_rep_reading = record {
  total = λ bytes. starts bytes (lines_of bytes) refl;
  apart = λ bytes rep f h k. apart_by bytes f (whole_text bytes rep h) k;
  one_rep = one_rep;
  one_fault = λ bytes f g h k. one_first_fault rep_test (lines_of bytes) f g h k;
}
