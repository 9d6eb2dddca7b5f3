-- First faults of small texts: each example would fail if a definition were wrong.
use Rattle.std.specs.Prelude.{◌≡◌, ℕ, List, codes, None}
use Rattle.src_sink.specs.Texts.{lines_of}
use Rattle.word_lines.specs.FirstFault.{fault_at}
use Rattle.word_lines.specs.declared.fault.LogKind.{LogKind}
use Rattle.word_lines.specs.declared.fault.LogKind.TheVariants.{BadLine, BadNumber, OutOfRange, NoEnd}
use Rattle.rep_text.specs.RepFault.{RepFirstFault, rep_test}

-- the first fault of this text has this line and kind
abbrev pub Fails : List ℕ → ℕ → LogKind → Type 0
Fails text line kind = RepFirstFault text (record { line = line; kind = kind })

-- texts with their first fault, by its line and kind, and three without a fault
pub record RepExamples : Type 0 where
  -- the empty text
  pub empty : Fails (codes "") 1 NoEnd
  -- no first line
  pub no_first : Fails (codes "end\n") 1 BadLine
  -- a width below 1, and above 19
  pub too_narrow : Fails (codes "sides 0\nend\n") 1 OutOfRange
  pub too_wide : Fails (codes "gens 20\nend\n") 1 OutOfRange
  -- the width is tested before words left over
  pub wide_before_more : Fails (codes "gens 20 1\nend\n") 1 OutOfRange
  pub one_more : Fails (codes "gens 2 1\nend\n") 1 BadLine
  pub width_word : Fails (codes "gens 02\nend\n") 1 BadNumber
  -- an inequality among points, and a point among inequalities
  pub other_kind : Fails (codes "gens 1\nh 0 0\nend\n") 2 BadLine
  pub other_text : Fails (codes "sides 1\n1 0\nend\n") 2 BadLine
  -- a number is missing, and one is left over
  pub no_gamma : Fails (codes "sides 1\nh 0\nend\n") 2 BadLine
  pub left_over : Fails (codes "gens 1\nl 0 0\nend\n") 2 BadLine
  -- words are tested from left to right
  pub number_first : Fails (codes "gens 1\n0 00 0\nend\n") 2 BadNumber
  -- no end, one end more, and an end without its line feed
  pub no_end : Fails (codes "gens 1\n1 0\n") 3 NoEnd
  pub two_ends : Fails (codes "sides 1\nend\nend\n") 3 BadLine
  pub torn : Fails (codes "gens 19\nend") 2 BadLine
  -- and texts of which each line passes
  pub points : (i : ℕ) → fault_at rep_test (lines_of (codes "gens 1\nl 0\n1 0\n0 0\nend\n")) i ≡ None
  pub sides : (i : ℕ) → fault_at rep_test (lines_of (codes "sides 2\nh 0 0 0\ne 0 0 0\nend\n")) i ≡ None
  pub none : (i : ℕ) → fault_at rep_test (lines_of (codes "sides 19\nend\n")) i ≡ None
