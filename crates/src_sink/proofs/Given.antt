-- For callers: what calls of a reader of lines did together.
use Rattle.std.proofs.Common.{◌≡◌, ℕ, ◌+◌, ◌<◌, ◌≤◌, Bool, true, false, List, [], ◌∷◌, ◌++◌, Option, length, arith, lit≤, refl, sym, ap, ◌∙◌, subst, append_assoc, append-nil, length-append}
use Rattle.std.proofs.KnownBytes.{Consumes-nil, Consumes-trans}
use Rattle.std.proofs.lemmas.Bool.{false≢true}
use Rattle.src_sink.specs.Outside.{Consumes, IsAtEnd}
use Rattle.src_sink.specs.Ends.{Explains}
use Rattle.src_sink.specs.Texts.{TextLine, lines_of}
use Rattle.src_sink.specs.Reading.{Reading, Takes, BeginsWith, LacksLineFeed, Gives, Stops, given_line, most_to_give, HasGiven}
use Rattle.src_sink.specs.declared.lines.LineEnd.{LineEnd}
use Rattle.src_sink.specs.declared.lines.LineEnd.TheVariants.{Whole, Torn, End}
use Rattle.src_sink.specs.declared.whole.ReadEnd.{ReadEnd}
use Rattle.src_sink.specs.declared.whole.ReadEnd.TheVariants.{Fault, TooLong, NoMemory}
use Rattle.src_sink.proofs.Known.{Rose-before}
use Rattle.src_sink.proofs.TextLines.{lines-whole, lines-torn}

-- a new reader gave nothing
pub given-none : (left : Option (List ℕ)) (limit : ℕ) → HasGiven left left [] [] (record { kept = []; taken = 0; limit = limit; ended = false; failed = false })
given-none left limit = record {
  taken = Consumes-nil left;
  count = refl;
  room = lit≤ tt;
  lines_are = λ later h. refl;
  at_end = λ e. absurd (false≢true e);
}

-- the lines of bytes that begin with this line, whatever follows them
next_lines : (end : LineEnd) (bytes line rest later : List ℕ) (ended : Bool) → BeginsWith end bytes line rest ended → LacksLineFeed line → (ended ≡ true → later ≡ [])
    → lines_of (bytes ++ later) ≡ given_line end line ++ lines_of (rest ++ later)
next_lines Whole bytes line rest later ended cut lacks h =
    ap (λ l. lines_of (l ++ later)) cut ∙ ap lines_of (append_assoc line (10 ∷ rest) later) ∙ lines-whole line (rest ++ later) lacks
next_lines Torn bytes line rest later ended (same, some, none, over) lacks h =
    let last = h over in
    let front : bytes ++ later ≡ line = ap (λ l. bytes ++ l) last ∙ append-nil bytes ∙ same in
    let no_more : rest ++ later ≡ [] = ap (λ l. rest ++ l) last ∙ append-nil rest ∙ none in
    ap lines_of front ∙ lines-torn line lacks some ∙ ap (λ l. given_line Torn line ++ lines_of l) (sym no_more)
next_lines End bytes line rest later ended (same, empty, none, over) lacks h =
    ap (λ l. lines_of (l ++ later)) same ∙ ap (λ l. lines_of (l ++ later)) (sym none)

-- a line takes at least a byte
lines_fit : (end : LineEnd) (bytes line rest : List ℕ) (ended : Bool) → BeginsWith end bytes line rest ended → length (given_line end line) + length rest ≤ length bytes
lines_fit Whole bytes line rest ended cut = omega (arith, ap length cut, length-append line (10 ∷ rest))
lines_fit Torn bytes line rest ended (same, some, none, over) = omega (arith, ap length same, ap length none)
lines_fit End bytes line rest ended (same, empty, none, over) = omega (arith, ap length none)

-- with each line there are fewer bytes to give
pub most_to_give-falls : (end : LineEnd) (before after : Reading) (left left' : Option (List ℕ)) (line : List ℕ) → 0 < length (given_line end line) → Gives end before after left left' line → most_to_give after < most_to_give before
most_to_give-falls end before after left left' line some (front, takes, cut, lacks, within) =
    let fits = lines_fit end (before.kept ++ front) line after.kept after.ended cut in
    omega (arith, takes.count, takes.limit, within, length-append before.kept front, fits)

module _ (first left left' : Option (List ℕ)) (bytes : List ℕ) (lines : List TextLine) (before after : Reading) (given : HasGiven first left bytes lines before) where
  module _ (front : List ℕ) (takes : Takes before after left left' front) where
    took : Consumes first left' (bytes ++ front)
    took = Consumes-trans first left left' bytes front given.taken takes.consumed

    count : after.taken ≡ length (bytes ++ front)
    count = omega (arith, takes.count, given.count, length-append bytes front)

    end_by : (e : Bool) → before.ended ≡ e → after.ended ≡ true → IsAtEnd left'
    end_by false e over = takes.at_end e over
    end_by true e over = subst IsAtEnd (sym (takes.none_after e).2) (given.at_end e)

    -- what follows the bytes taken before, where this call took these and others come later
    later_of : (later : List ℕ) → (after.ended ≡ true → later ≡ []) → before.ended ≡ true → front ++ later ≡ []
    later_of later h e = let p = takes.none_after e in ap (λ l. l ++ later) p.0 ∙ h p.1

    more : (end : LineEnd) (line : List ℕ) → BeginsWith end (before.kept ++ front) line after.kept after.ended → LacksLineFeed line → HasGiven first left' (bytes ++ front) (lines ++ given_line end line) after
    more end line cut lacks = record {
      taken = took;
      count = count;
      room = omega (arith, given.room, takes.count, length-append before.kept front, length-append lines (given_line end line), lines_fit end (before.kept ++ front) line after.kept after.ended cut);
      lines_are = λ later h.
          ap lines_of (append_assoc bytes front later)
          ∙ given.lines_are (front ++ later) (later_of later h)
          ∙ ap (λ l. lines ++ lines_of l) (sym (append_assoc before.kept front later))
          ∙ ap (λ l. lines ++ l) (next_lines end (before.kept ++ front) line after.kept later after.ended cut lacks h)
          ∙ sym (append_assoc lines (given_line end line) (lines_of (after.kept ++ later)));
      at_end = end_by before.ended refl;
    }

  -- one more line
  pub given-next : (end : LineEnd) (line : List ℕ) → Gives end before after left left' line → (front : List ℕ) × HasGiven first left' (bytes ++ front) (lines ++ given_line end line) after
  given-next end line (front, takes, cut, lacks, within) = (front, more front takes end line cut lacks)

  -- at the end: all lines of the bytes were given, and there are no more bytes
  pub given-all : (line : List ℕ) → Gives End before after left left' line → (all : List ℕ) × Consumes first left' all × IsAtEnd left' × (length all ≤ after.limit) × (lines_of all ≡ lines)
  given-all line (front, takes, cut, lacks, within) =
      let h = more front takes End line cut lacks in
      let all = bytes ++ front in
      let whole : lines_of all ≡ lines ++ [] =
      ap lines_of (sym (append-nil all)) ∙ h.lines_are [] (λ e. refl) ∙ append_assoc lines [] (lines_of (after.kept ++ [])) ∙ ap (λ l. lines ++ lines_of (l ++ [])) cut.2 in
      (all, h.taken, h.at_end cut.3, omega (arith, h.count, within), whole ∙ append-nil lines)

  -- why no line was given is why not all bytes were read, by what was left when the first call began
  pub given-stops : (e : ReadEnd) (faults0 faults faults' : ℕ) → faults0 ≤ faults → Stops e before after left left' faults faults' → Explains e after.limit first left' faults0 faults'
  given-stops Fault f0 f1 f2 earlier (front, takes, kept, cause) = (Rose-before f0 f1 f2 earlier cause.0, (bytes ++ front, took front takes, omega (arith, count front takes, cause.1)))
  given-stops (TooLong k) f0 f1 f2 earlier (front, takes, kept, cause) = (cause.0, (bytes ++ front, took front takes, omega (arith, count front takes, cause.1)))
  given-stops NoMemory f0 f1 f2 earlier (front, takes, kept, cause) = (bytes ++ front, took front takes, omega (arith, count front takes, cause))
