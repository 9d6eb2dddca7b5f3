-- A text that is read line by line.
use Rattle.std.proofs.Common.{◌≡◌, refl, ℕ, ◌+◌, ◌<◌, ◌==◌, ◌||◌, true, false, Bool, List, [], ◌∷◌, ◌++◌, length, arith, ap, sym, ◌∙◌, subst, Result, Ok, Err, None, Some, Option, is_some, IfSome}
use Rattle.std.specs.Borrow.{Bor}
use Rattle.std.specs.List.{list_any, slice_split}
use Rattle.std.specs.Result.{IsErr, IsErrAnd, IfErr}
use Rattle.std.proofs.lemmas.Bool.{eqb-true, eqb-false}
use Rattle.std.proofs.lemmas.List.Folds.{list_any-append}
use Rattle.src_sink.proofs.TextLines.{first_line, last_line}
use Rattle.src_sink.specs.Texts.{TextLine, lines_of, pieces_after}
use Rattle.word_lines.specs.FirstFault.{FirstFault, line_test}
use Rattle.word_lines.specs.Grammar.{Grammar, entry_text}
use Rattle.word_lines.specs.LineFault.{line_fault}
use Rattle.word_lines.specs.Taking.{ReadsLine, RefusesLine, RefusesText, text_after}
use Rattle.word_lines.specs.declared.fault.LogEnd.{LogEnd}
use Rattle.word_lines.specs.declared.fault.LogEnd.TheVariants.{Fault, NoMemory}
use Rattle.word_lines.specs.declared.fault.LogFault.{LogFault}
use Rattle.word_lines.proofs.Lines.{whole_line, IsReadTo, read_next, read_fault}

-- the next line, and those after it
pub next_lines : (rest line : List ℕ) (after : Option (Bor (List ℕ))) → 0 < length rest → slice_split (λ b. b == 10) rest ≡ line ∷ pieces_after 10 after → lines_of rest ≡ record { text = line; whole = is_some after } ∷ lines_of (text_after after)
next_lines rest line None some cut = last_line rest line cut some
next_lines rest line (Some more) some cut = first_line rest line more.now cut

pub any_end_push : {E : Type 0} (is_end : E → Bool) (entries : List E) (e : E) (ended : Bool) → ended ≡ list_any is_end entries → ended ≡ false → is_end e ≡ list_any is_end (entries ++ e ∷ [])
any_end_push is_end entries e ended is none = by (list_any is_end entries) (is_end e) (sym is ∙ none) ∙ sym (list_any-append is_end entries (e ∷ []))
  where
    by : (a b : Bool) → a ≡ false → b ≡ (a || (b || false))
    by true b h = cc
    by false true h = refl
    by false false h = refl

pub some_left : (rest : List ℕ) → false ≡ (length rest == 0) → 0 < length rest
some_left rest h = let other = eqb-false (length rest) 0 (sym h) in omega arith

pub none_left : (rest : List ℕ) → true ≡ (length rest == 0) → rest ≡ []
none_left [] h = refl
none_left (b ∷ rest) h = absurd (omega (arith, eqb-true (length (b ∷ rest)) 0 (sym h)))

pub after_shorter : (rest : List ℕ) (after : Option (Bor (List ℕ))) → 0 < length rest → IfSome after (λ r. length r.now < length rest) → length (text_after after) < length rest
after_shorter rest None some h = some
after_shorter rest (Some more) some h = h

module _ {E : Type 0} (g : Grammar E) where
  line_is : (l : TextLine) (e : E) → l.whole ≡ true → l.text ≡ entry_text g e → l ≡ whole_line g e
  line_is l e h k = λ i. record { text = k i; whole = h i }

  -- one line more is read
  pub reads_on : (bytes rest line : List ℕ) (after : Option (Bor (List ℕ))) (entries : List E) (e : E) (ended : Bool) → 0 < length rest → slice_split (λ b. b == 10) rest ≡ line ∷ pieces_after 10 after → IsReadTo g bytes (lines_of rest) entries → ended ≡ list_any g.is_end entries → ReadsLine g ended (is_some after) line e → IsReadTo g bytes (lines_of (text_after after)) (entries ++ e ∷ [])
  reads_on bytes rest line after entries e ended some cut read is h =
      let l : TextLine = record { text = line; whole = is_some after } in
      read_next g bytes l (lines_of (text_after after)) entries e (subst (λ ls. IsReadTo g bytes ls entries) (next_lines rest line after some cut) read) (sym is ∙ h.0) h.2 (line_is l e h.1 h.3)

  -- the next line is refused
  pub refuses_on : (bytes rest line : List ℕ) (after : Option (Bor (List ℕ))) (entries : List E) (number : ℕ) (ended : Bool) (end : LogEnd) → 0 < length rest → slice_split (λ b. b == 10) rest ≡ line ∷ pieces_after 10 after → IsReadTo g bytes (lines_of rest) entries → number ≡ length entries → ended ≡ list_any g.is_end entries → RefusesLine g (number + 1) ended (is_some after) line end → RefusesText g bytes end
  refuses_on bytes rest line after entries number ended (Fault f) some cut read count is h =
      let l : TextLine = record { text = line; whole = is_some after } in
      let first = read_fault g bytes l (lines_of (text_after after)) entries f.kind (subst (λ ls. IsReadTo g bytes ls entries) (next_lines rest line after some cut) read) (ap (λ b. line_fault g.forms_of b (is_some after) line) (sym is) ∙ h.1) in
      let line_is_next : length entries + 1 ≡ f.line = ap (λ n. n + 1) (sym count) ∙ sym h.0 in
      subst (λ (at : LogFault). FirstFault (line_test g.forms_of) bytes at) (λ i. record { line = line_is_next i; kind = f.kind }) first
  refuses_on bytes rest line after entries number ended NoMemory some cut read count is h = tt

  -- what `?` hands on is the refusal itself
  pub refusal_handed : (bytes : List ℕ) (r : Result (List E) LogEnd) (end : LogEnd) → IsErr r × IsErrAnd r (λ t. t ≡ end) → RefusesText g bytes end → IfErr r (RefusesText g bytes)
  refusal_handed bytes (Ok entries) end h k = tt
  refusal_handed bytes (Err t) end h k = subst (RefusesText g bytes) (sym h.1) k
