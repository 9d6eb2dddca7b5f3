-- What a reader of words answers: it takes the words of a part from the front, or names the first test that
-- fails. For the clauses of the code alone.
use Rattle.std.specs.Prelude.{◌≡◌, ℕ, suc, Bool, false, true, not, nat_lt, List, [], ◌∷◌, ◌++◌, length, decimal, Result, Ok, Err, Option, None, Some, IsTrue, ◌==◌}
use Rattle.std.specs.Borrow.{Bor}
use Rattle.std.specs.List.{flat_map, list_all, slice_split}
use Rattle.frac128.specs.Sparse.{is_zero, rises_above}
use Rattle.frac128.specs.declared.vectors.Spot.{Spot}
use Rattle.word_lines.specs.FirstFault.{FirstFault, line_test}
use Rattle.word_lines.specs.Grammar.{Grammar, is_formed, entry_text}
use Rattle.word_lines.specs.LineFault.{Form, Left, left_after, left_after_name, counted, line_fault, words_fault, spots, times}
use Rattle.word_lines.specs.Parts.{Part, is_formed_part, is_formed_spot, is_short, part_words, spot_words}
use Rattle.word_lines.specs.declared.fault.Stop.{Stop}
use Rattle.word_lines.specs.declared.fault.Stop.TheVariants as stop
use Rattle.word_lines.specs.declared.fault.LogEnd.{LogEnd}
use Rattle.word_lines.specs.declared.fault.LogEnd.TheVariants.{Fault, NoMemory}

-- the words of an item stood first, and are taken; or these words fail its tests
abbrev pub TakesItem : {X : Type 0} → (X → List (List ℕ)) → (X → Bool) → (List (List ℕ) → Left) → List (List ℕ) → List (List ℕ) → Result X Stop → Type 0
TakesItem words_of good step old new (Ok x) = (good x ≡ true) × (step old ≡ Ok new) × (old ≡ words_of x ++ new)
TakesItem words_of good step old new (Err (stop.Fault k)) = step old ≡ Err k
TakesItem words_of good step old new (Err stop.NoMemory) = Unit {0}

-- the same of so many items
abbrev pub TakesItems : {X : Type 0} → (X → List (List ℕ)) → (X → Bool) → (List (List ℕ) → Left) → ℕ → List (List ℕ) → List (List ℕ) → Result (List X) Stop → Type 0
TakesItems words_of good step count old new (Ok xs) = (length xs ≡ count) × (list_all good xs ≡ true) × (old ≡ flat_map words_of xs ++ new)
TakesItems words_of good step count old new (Err (stop.Fault k)) = times step count old ≡ Err k
TakesItems words_of good step count old new (Err stop.NoMemory) = Unit {0}

-- and of items after their count
abbrev pub TakesList : {X : Type 0} → (X → List (List ℕ)) → (X → Bool) → (List (List ℕ) → Left) → List (List ℕ) → List (List ℕ) → Result (List X) Stop → Type 0
TakesList words_of good step old new (Ok xs) = (is_short (length xs) ≡ true) × (list_all good xs ≡ true) × (old ≡ decimal (length xs) ∷ (flat_map words_of xs ++ new))
TakesList words_of good step old new (Err (stop.Fault k)) = counted (times step) old ≡ Err k
TakesList words_of good step old new (Err stop.NoMemory) = Unit {0}

-- a place above the last one and its value stood first, and are taken; or these words fail the tests, however
-- many more are wanted
abbrev pub TakesSpot : ℕ → List (List ℕ) → List (List ℕ) → Result Spot Stop → Type 0
TakesSpot last old new (Ok s) = (is_formed_spot s ≡ true) × (nat_lt last s.at ≡ true) × (not (is_zero s.value) ≡ true) × (old ≡ spot_words s ++ new)
TakesSpot last old new (Err (stop.Fault k)) = (n : ℕ) → spots last (suc n) old ≡ Err k
TakesSpot last old new (Err stop.NoMemory) = Unit {0}

-- so many places and values stood first, the places rising, and are taken; or these words fail the tests
abbrev pub TakesSpots : ℕ → List (List ℕ) → List (List ℕ) → Result (List Spot) Stop → Type 0
TakesSpots count old new (Ok u) = (length u ≡ count) × (rises_above 0 u ≡ true) × (list_all is_formed_spot u ≡ true) × (old ≡ flat_map spot_words u ++ new)
TakesSpots count old new (Err (stop.Fault k)) = spots 0 count old ≡ Err k
TakesSpots count old new (Err stop.NoMemory) = Unit {0}

-- a part of this form stood first, and is taken; or these words fail its tests
abbrev pub Takes : {A : Type 0} → (A → Part) → Form → List (List ℕ) → List (List ℕ) → Result A Stop → Type 0
Takes part form old new (Ok v) = (is_formed_part (part v) ≡ true) × (old ≡ part_words (part v) ++ new)
Takes part form old new (Err (stop.Fault k)) = left_after form old ≡ Err k
Takes part form old new (Err stop.NoMemory) = Unit {0}

-- the parts of an entry of this name stood first, and are taken; or these words fail its tests
abbrev pub TakesEntry : {E : Type 0} → Grammar E → List ℕ → List (List ℕ) → List (List ℕ) → Result E Stop → Type 0
TakesEntry g name old new (Ok e) = (is_formed g e ≡ true) × (g.name_of e ≡ name) × (old ≡ flat_map part_words (g.parts_of e) ++ new)
TakesEntry g name old new (Err (stop.Fault k)) = left_after_name (g.forms_of name) old ≡ Err k
TakesEntry g name old new (Err stop.NoMemory) = Unit {0}

-- these words are those of this entry, or fail the tests of a line
abbrev pub ReadsWords : {E : Type 0} → Grammar E → List ℕ → Result E Stop → Type 0
ReadsWords g text (Ok e) = (is_formed g e ≡ true) × (text ≡ entry_text g e)
ReadsWords g text (Err (stop.Fault k)) = words_fault g.forms_of (slice_split (λ b. b == 32) text) ≡ Some k
ReadsWords g text (Err stop.NoMemory) = Unit {0}

-- a refusal at the line of this number
abbrev pub end_at : ℕ → Stop → LogEnd
end_at number (stop.Fault k) = Fault (record { line = number; kind = k })
end_at number stop.NoMemory = NoMemory

-- this entry was read from a line
abbrev pub ReadsLine : {E : Type 0} → Grammar E → Bool → Bool → List ℕ → E → Type 0
ReadsLine g ended whole text e = (ended ≡ false) × (whole ≡ true) × IsTrue (is_formed g e) × (text ≡ entry_text g e)

-- why none was: the first test that the line fails, at its number, or want of memory
abbrev pub RefusesLine : {E : Type 0} → Grammar E → ℕ → Bool → Bool → List ℕ → LogEnd → Type 0
RefusesLine g number ended whole text (Fault f) = (f.line ≡ number) × (line_fault g.forms_of ended whole text ≡ Some f.kind)
RefusesLine g number ended whole text NoMemory = Unit {0}

-- why no entries were read: the first fault of the text, or want of memory
abbrev pub RefusesText : {E : Type 0} → Grammar E → List ℕ → LogEnd → Type 0
RefusesText g bytes (Fault f) = FirstFault (line_test g.forms_of) bytes f
RefusesText g bytes NoMemory = Unit {0}

-- what stands after a line feed, where there may be one
abbrev pub text_after : Option (Bor (List ℕ)) → List ℕ
text_after None = []
text_after (Some rest) = rest.now
