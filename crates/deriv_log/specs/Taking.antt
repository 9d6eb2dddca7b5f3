-- What the reader of logs answers. For the clauses of the code alone.
use Rattle.std.specs.Prelude.{◌≡◌, ℕ, Bool, false, List, [], ◌∷◌, Result, codes}
use Rattle.std.specs.List.{All}
use Rattle.word_lines.specs.Numerals.{same_word}
use Rattle.word_lines.specs.Taking as line
use Rattle.word_lines.specs.declared.fault.Stop.{Stop}
use Rattle.word_lines.specs.declared.fault.LogEnd.{LogEnd}
use Rattle.deriv_log.specs.LogGrammar.{log_grammar}
use Rattle.deriv_log.specs.declared.entry.Entry.{Entry}
use Rattle.deriv_log.specs.declared.entry.Entry.TheVariants.{Share, CutOf, PointOf, RayOf, AddHints}

-- the parts of an entry of this name stood first, and are taken; or these words fail its tests
abbrev pub TakesEntry : List ℕ → List (List ℕ) → List (List ℕ) → Result Entry Stop → Type 0
TakesEntry name old new r = line.TakesEntry log_grammar name old new r

-- the name is none of an entry that speaks of cuts and generators
abbrev pub IsNoCut : List ℕ → Type 0
IsNoCut name = All (λ other. same_word name other ≡ false) (codes "version" ∷ codes "duality" ∷ codes "cut" ∷ codes "start" ∷ codes "add" ∷ codes "point" ∷ codes "ray" ∷ codes "facet" ∷ [])

-- the name is none of an entry of version 2
abbrev pub IsNotSecond : List ℕ → Type 0
IsNotSecond name = All (λ other. same_word name other ≡ false)
    (codes "share" ∷ codes "cutof" ∷ codes "pointof" ∷ codes "rayof" ∷ codes "addh" ∷ [])

-- an entry of version 2
abbrev pub IsSecond : Entry → Type 0
IsSecond (Share v) = Unit {0}
IsSecond (CutOf w gamma share v) = Unit {0}
IsSecond (PointOf generator share m) = Unit {0}
IsSecond (RayOf generator share m) = Unit {0}
IsSecond (AddHints cut pairs hints) = Unit {0}
IsSecond _ = ⊥

-- this entry was read from a line
abbrev pub ReadsLine : Bool → Bool → List ℕ → Entry → Type 0
ReadsLine ended whole text e = line.ReadsLine log_grammar ended whole text e

-- why none was: the first test that the line fails, at its number, or want of memory
abbrev pub RefusesLine : ℕ → Bool → Bool → List ℕ → LogEnd → Type 0
RefusesLine number ended whole text end = line.RefusesLine log_grammar number ended whole text end

-- why no log was read: the first fault of its text, or want of memory
abbrev pub RefusesText : List ℕ → LogEnd → Type 0
RefusesText bytes end = line.RefusesText log_grammar bytes end
