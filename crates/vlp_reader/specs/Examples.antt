-- Worked examples of the grammar, each of which would fail if a definition were wrong.
use Rattle.std.specs.Prelude.{◌≡◌, ℕ, ◌^◌, pos, negsuc, codes, true, false, Ok, Err, List, [], ◌∷◌, ◌++◌, replicate, None, Some}
use Rattle.exact_field.specs.Rational.{whole, fraction, zero_ℚ}
use Rattle.vlp_reader.specs.FirstFault.{looked_at, closing_line, fault_after}
use Rattle.vlp_reader.specs.Grammar.{line_fault}
use Rattle.vlp_reader.specs.Lines.{lines_of, words_of}
use Rattle.vlp_reader.specs.Number.{natural, number_of}
use Rattle.vlp_reader.specs.Statements.{statement_on}
use Rattle.vlp_reader.specs.declared.fault.FileKind.TheVariants.{NoProblem, BadLine, BadNumber, NumberWide, Digits, OutOfRange, Twice, CountWrong, LimitPassed, LineLong}
use Rattle.vlp_problem.specs.declared.problem.Bound.TheVariants.{Free, Lower, Upper, Double, Fixed}
use Rattle.vlp_problem.specs.declared.problem.Dir.TheVariants.{Min, Max}
use Rattle.vlp_problem.specs.declared.problem.Axis.TheVariants.{Row, Column}
use Rattle.vlp_reader.specs.declared.statement.Matrix.TheVariants.{Constraints, Objectives, ConeVectors, Duality}
use Rattle.vlp_reader.specs.declared.statement.Statement.{Statement}
use Rattle.vlp_reader.specs.declared.statement.Statement.TheVariants.{Silent, Heading, Entry, Limit, End}

-- words with the number that they mean, or the first test that they fail
pub record NumberExamples : Type 0 where
  pub half : number_of (codes ".5") ≡ Ok (fraction (pos 1) 2)
  pub five : number_of (codes "5.") ≡ Ok (whole (pos 5))
  pub signed : number_of (codes "-1.50e+1") ≡ Ok (whole (negsuc 14))
  pub capital : number_of (codes "+2E-1") ≡ Ok (fraction (pos 1) 5)
  pub zero : number_of (codes "0e99999") ≡ Ok zero_ℚ
  pub greatest_power : number_of (codes "1e36") ≡ Ok (whole (pos (10 ^ 36)))
  pub wide : number_of (codes "1e37") ≡ Err NumberWide
  pub narrow : number_of (codes "1e-37") ≡ Err NumberWide
  pub unheld : number_of (codes "9e36") ≡ Err NumberWide
  pub digits : number_of (replicate 37 49) ≡ Err Digits
  pub form_first : number_of (replicate 37 49 ++ codes "e") ≡ Err BadNumber
  pub sign_alone : number_of (codes "+") ≡ Err BadNumber
  pub point_alone : number_of (codes "+.") ≡ Err BadNumber
  pub two_points : number_of (codes "1.2.3") ≡ Err BadNumber
  pub no_exponent : number_of (codes "1e") ≡ Err BadNumber
  pub no_mantissa : number_of (codes "e5") ≡ Err BadNumber
  pub natural_small : natural (codes "007") ≡ Some 7
  pub natural_wide : natural (codes "99999999999") ≡ Some 4294967295
  pub natural_signed : natural (codes "+7") ≡ None

-- the lines of a text, the words of a line, and what lines say
pub record LineExamples : Type 0 where
  pub lines : lines_of (codes "a" ++ 13 ∷ 13 ∷ 10 ∷ 10 ∷ codes "b") ≡ (97 ∷ 13 ∷ []) ∷ [] ∷ codes "b" ∷ []
  pub whole_lines : lines_of (codes "a" ++ 10 ∷ []) ≡ codes "a" ∷ []
  pub words : words_of (codes " a " ++ 9 ∷ codes "bc ") ≡ codes "a" ∷ codes "bc" ∷ []
  pub blank : statement_on (codes " ") ≡ Silent
  pub comment : statement_on (codes "c a 1 1 1") ≡ Silent
  pub sizes : statement_on (codes "p vlp max 2 3 4 5 6") ≡ Heading (record { dir = Max; rows = 2; cols = 3; entries = 4; objs = 5; obj_entries = 6; cone = None })
  pub cone : statement_on (codes "p vlp min 2 3 4 5 6 cone 7 8")
      ≡ Heading (record { dir = Min; rows = 2; cols = 3; entries = 4; objs = 5; obj_entries = 6; cone = Some (record { dual = false; vectors = 7; entries = 8 }) })
  pub dual_cone : statement_on (codes "p vlp min 2 3 4 5 6 dualcone 7 8")
      ≡ Heading (record { dir = Min; rows = 2; cols = 3; entries = 4; objs = 5; obj_entries = 6; cone = Some (record { dual = true; vectors = 7; entries = 8 }) })
  pub constraint : statement_on (codes "a 1 2 3") ≡ Entry Constraints 1 2 (Ok (whole (pos 3)))
  pub objective : statement_on (codes "o 1 2 3") ≡ Entry Objectives 1 2 (Ok (whole (pos 3)))
  pub cone_vector : statement_on (codes "k 1 2 x") ≡ Entry ConeVectors 1 2 (Err BadNumber)
  pub duality : statement_on (codes "k 4 0 3") ≡ Entry Duality 4 1 (Ok (whole (pos 3)))
  pub free : statement_on (codes "i 1 f") ≡ Limit Row 1 (Ok Free)
  pub lower : statement_on (codes "j 1 l 3") ≡ Limit Column 1 (Ok (Lower (whole (pos 3))))
  pub upper : statement_on (codes "i 1 u 3") ≡ Limit Row 1 (Ok (Upper (whole (pos 3))))
  pub fixed : statement_on (codes "i 1 s 3") ≡ Limit Row 1 (Ok (Fixed (whole (pos 3))))
  pub double : statement_on (codes "i 1 d 3 4") ≡ Limit Row 1 (Ok (Double (whole (pos 3)) (whole (pos 4))))
  pub first_wrong : statement_on (codes "i 1 d x 1e99") ≡ Limit Row 1 (Err BadNumber)
  pub end : statement_on (codes "e 1 2") ≡ End

-- two rows, three columns, a cone of two vectors for two objectives
abbrev pub sized : List Statement
sized = statement_on (codes "p vlp min 2 3 1 2 1 cone 2 1") ∷ []

-- and an entry, a bound of a row and one of a column
abbrev pub filled : List Statement
filled = sized ++ statement_on (codes "a 1 1 0") ∷ statement_on (codes "i 1 f") ∷ statement_on (codes "j 1 f") ∷ []

-- the tests of a line, and their order
pub record FaultExamples : Type 0 where
  pub long : line_fault [] (codes "c " ++ replicate 4095 46) ≡ Some LineLong
  pub unknown_first : line_fault [] (codes "n 1") ≡ Some BadLine
  pub too_early : line_fault [] (codes "a x") ≡ Some NoProblem
  pub too_early_end : line_fault [] (codes "e") ≡ Some NoProblem
  pub twice_before_form : line_fault sized (codes "p x") ≡ Some Twice
  pub form : line_fault sized (codes "a 1 1") ≡ Some BadLine
  pub form_before_range : line_fault sized (codes "i 9 l") ≡ Some BadLine
  pub range_before_number : line_fault sized (codes "a 3 1 x") ≡ Some OutOfRange
  pub number_before_twice : line_fault filled (codes "a 1 1 x") ≡ Some BadNumber
  pub twice : line_fault filled (codes "a 1 1 1") ≡ Some Twice
  pub other_matrix : line_fault filled (codes "o 1 1 1") ≡ None
  pub last_place : line_fault sized (codes "a 2 3 1") ≡ None
  pub column_range : line_fault sized (codes "a 1 4 1") ≡ Some OutOfRange
  pub objective_range : line_fault sized (codes "o 3 1 1") ≡ Some OutOfRange
  pub cone_range : line_fault sized (codes "k 2 3 1") ≡ Some OutOfRange
  pub last_cone_place : line_fault sized (codes "k 2 2 1") ≡ None
  pub duality_place : line_fault sized (codes "k 2 0 1") ≡ None
  pub row_range : line_fault sized (codes "i 3 f") ≡ Some OutOfRange
  pub column_bound_range : line_fault sized (codes "j 4 f") ≡ Some OutOfRange
  pub row_twice : line_fault filled (codes "i 1 l 1") ≡ Some Twice
  pub column_twice : line_fault filled (codes "j 1 l 1") ≡ Some Twice
  pub no_rows : line_fault [] (codes "p vlp min 0 1 0 1 0") ≡ None
  pub no_columns : line_fault [] (codes "p vlp min 1001 0 0 1 0") ≡ Some OutOfRange
  pub no_objectives : line_fault [] (codes "p vlp min 1 1 0 0 0") ≡ Some OutOfRange
  pub no_vectors : line_fault [] (codes "p vlp min 1 1 0 1 0 cone 0 0") ≡ Some OutOfRange
  pub most : line_fault [] (codes "p vlp min 1000 1000 50000 20 49999 cone 64 1") ≡ None
  pub many_rows : line_fault [] (codes "p vlp min 1001 1 0 1 0") ≡ Some LimitPassed
  pub many_columns : line_fault [] (codes "p vlp min 1 1001 0 1 0") ≡ Some LimitPassed
  pub many_objectives : line_fault [] (codes "p vlp min 1 1 0 21 0") ≡ Some LimitPassed
  pub many_vectors : line_fault [] (codes "p vlp min 1 1 0 1 0 cone 65 0") ≡ Some LimitPassed
  pub many_entries : line_fault [] (codes "p vlp min 1 1 50000 1 50000 cone 1 1") ≡ Some LimitPassed

-- lines of a problem with one entry of the constraints
abbrev pub counted : List (List ℕ)
counted = codes "p vlp min 1 1 1 1 0" ∷ codes "a 1 1 0" ∷ []

-- lines of a problem with a cone that say this number of its entries
abbrev pub with_cone : List ℕ → List (List ℕ)
with_cone number = (codes "p vlp min 1 1 0 1 0 cone 1 " ++ number) ∷ codes "k 1 0 1" ∷ codes "k 1 1 1" ∷ []

-- the lines that are looked at, and the tests after the last one
pub record ClosingExamples : Type 0 where
  pub first_end : looked_at (codes "a" ∷ codes "e x" ∷ codes "e" ∷ []) ≡ codes "a" ∷ codes "e x" ∷ []
  pub nothing : fault_after [] ≡ Some NoProblem
  pub no_line : closing_line [] ≡ 1
  pub after : closing_line counted ≡ 3
  pub at_end : closing_line (counted ++ codes "e" ∷ []) ≡ 3
  pub zeros_count : fault_after counted ≡ None
  pub too_many : fault_after (counted ++ codes "a 1 1 0" ∷ []) ≡ Some CountWrong
  pub with_duality : fault_after (with_cone (codes "2")) ≡ None
  pub without_duality : fault_after (with_cone (codes "1")) ≡ None
  pub other_count : fault_after (with_cone (codes "0")) ≡ Some CountWrong

-- all of these
pub record Examples : Type 0 where
  pub numbers : NumberExamples
  pub lines : LineExamples
  pub faults : FaultExamples
  pub closing : ClosingExamples
