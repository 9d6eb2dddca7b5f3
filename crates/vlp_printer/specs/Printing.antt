-- The text of a problem.
use Rattle.std.specs.Prelude.{◌≡◌, ℕ, ◌-◌, true, false, not, if◌then◌else◌, List, [], ◌∷◌, ◌++◌, length, sum_by, count_by, slice_index_or, codes, decimal, Option, None, Some, Ok, All}
use Rattle.std.specs.List.{flat_map}
use Rattle.exact_field.specs.Rational.{ℚ}
use Rattle.exact_field.specs.Vector.{entry}
use Rattle.frac128.specs.Sparse.{is_zero}
use Rattle.src_sink.specs.Texts.{line_text}
use Rattle.vlp_reader.specs.FirstFault.{Reads}
use Rattle.vlp_reader.specs.Grammar.{are_within_limits}
use Rattle.vlp_reader.specs.Number.{number_of}
use Rattle.vlp_problem.specs.Sides.{numbers_from, is_unsaid}
use Rattle.vlp_problem.specs.Values.{cone_vectors, duality_entries, printed_numbers}
use Rattle.vlp_reader.specs.declared.sizes.ConeSizes.{ConeSizes}
use Rattle.vlp_reader.specs.declared.sizes.Sizes.{Sizes}
use Rattle.vlp_problem.specs.declared.problem.Bound.{Bound}
use Rattle.vlp_problem.specs.declared.problem.Bound.TheVariants.{Unsaid, Free, Lower, Upper, Double, Fixed}
use Rattle.vlp_problem.specs.declared.problem.Cell.{Cell}
use Rattle.vlp_problem.specs.declared.problem.Cone.{Cone}
use Rattle.vlp_problem.specs.declared.problem.Cone.TheVariants.{Orthant, Gens, Dual}
use Rattle.vlp_problem.specs.declared.problem.Dir.{Dir}
use Rattle.vlp_problem.specs.declared.problem.Dir.TheVariants.{Min, Max}
use Rattle.vlp_problem.specs.declared.problem.Problem.{Problem}
use Rattle.vlp_printer.specs.Decimal.{number_text}
use Rattle.vlp_printer.specs.declared.fault.PrintFault.{PrintFault}
use Rattle.vlp_printer.specs.declared.fault.PrintFault.TheVariants.{NotDecimal, NoMemory}

-- ---- the lines
-- whether the objectives are minimised or maximised
abbrev pub direction_word : Dir → List ℕ
direction_word Min = codes "min"
direction_word Max = codes "max"

-- how many entries of the cone vectors have a line
abbrev pub entry_count : List (List ℚ) → ℕ
entry_count vectors = sum_by (λ v. count_by (λ q. not (is_zero q)) v) vectors

-- what the `p` line says of the ordering cone: nothing of the orthant
abbrev pub cone_words : Cone → List (List ℕ)
cone_words Orthant = []
cone_words (Gens vectors) = codes "cone" ∷ decimal (length vectors) ∷ decimal (entry_count vectors) ∷ []
cone_words (Dual vectors) = codes "dualcone" ∷ decimal (length vectors) ∷ decimal (entry_count vectors) ∷ []

-- the sizes that the problem line says
abbrev pub printed_cone : Cone → Option ConeSizes
printed_cone Orthant = None
printed_cone (Gens vectors) = Some (record { dual = false; vectors = length vectors; entries = entry_count vectors })
printed_cone (Dual vectors) = Some (record { dual = true; vectors = length vectors; entries = entry_count vectors })

-- the sizes that the `p` line of a problem says
abbrev pub printed_sizes : Problem → Sizes
printed_sizes problem =
    record {
      dir = problem.dir;
      rows = problem.rows;
      cols = problem.cols;
      entries = length problem.a;
      objs = problem.objs;
      obj_entries = length problem.o;
      cone = printed_cone problem.cone;
    }

-- the words of the `p` line
abbrev pub heading_words : Problem → List (List ℕ)
heading_words problem =
    codes "p" ∷ codes "vlp" ∷ direction_word problem.dir ∷ decimal problem.rows ∷ decimal problem.cols ∷ decimal (length problem.a)
    ∷ decimal problem.objs ∷ decimal (length problem.o) ∷ cone_words problem.cone

-- the line of an entry of a matrix
abbrev pub entry_line : List ℕ → ℕ → ℕ → ℚ → List ℕ
entry_line letter i j q = line_text (letter ∷ decimal i ∷ decimal j ∷ number_text q ∷ [])

-- the lines of all entries of a matrix
abbrev pub cells_text : List ℕ → List Cell → List ℕ
cells_text letter cells = flat_map (λ c. entry_line letter c.row c.col c.value) cells

-- the lines of the duality vector, zeros too
abbrev pub duality_text : List ℚ → List ℕ
duality_text f = flat_map (λ i. entry_line (codes "k") i 0 (entry f i)) (numbers_from 1 (length f))

-- the line of an entry of cone vector j; there is none for 0
abbrev pub vector_entry : ℕ → ℕ → ℚ → List ℕ
vector_entry i j q = if is_zero q then [] else entry_line (codes "k") i j q

-- those of cone vector j
abbrev pub vector_text : ℕ → List ℚ → List ℕ
vector_text j v = flat_map (λ i. vector_entry i j (entry v i)) (numbers_from 1 (length v))

-- the lines of all cone vectors
abbrev pub vectors_text : List (List ℚ) → List ℕ
vectors_text vectors = flat_map (λ j. vector_text j (slice_index_or vectors (j - 1) [])) (numbers_from 1 (length vectors))

-- the type of bounds and its numbers
abbrev pub bound_words : Bound → List (List ℕ)
bound_words Unsaid = []
bound_words Free = codes "f" ∷ []
bound_words (Lower low) = codes "l" ∷ number_text low ∷ []
bound_words (Upper high) = codes "u" ∷ number_text high ∷ []
bound_words (Double low high) = codes "d" ∷ number_text low ∷ number_text high ∷ []
bound_words (Fixed value) = codes "s" ∷ number_text value ∷ []

-- the line of the bounds of a row or column; there is none where the file gave none
abbrev pub bound_line : List ℕ → ℕ → Bound → List ℕ
bound_line letter k bound = if is_unsaid bound then [] else line_text (letter ∷ decimal k ∷ bound_words bound)

-- the lines of the bounds of all rows, or of all columns
abbrev pub bounds_text : List ℕ → List Bound → List ℕ
bounds_text letter bounds = flat_map (λ k. bound_line letter k (slice_index_or bounds (k - 1) Unsaid)) (numbers_from 1 (length bounds))

-- words, each after a blank
abbrev pub after_blanks : List (List ℕ) → List ℕ
after_blanks words = flat_map (λ w. 32 ∷ w) words

-- the text of a problem
abbrev pub problem_text : Problem → List ℕ
problem_text problem =
    line_text (heading_words problem)
    ++ (cells_text (codes "a") problem.a ++ (cells_text (codes "o") problem.o
    ++ (duality_text (duality_entries problem.duality) ++ (vectors_text (cone_vectors problem.cone)
    ++ (bounds_text (codes "i") problem.row_bounds ++ (bounds_text (codes "j") problem.col_bounds ++ line_text (codes "e" ∷ [])))))))

-- some word that the grammar accepts as a number has this value
abbrev pub HasWord : ℚ → Type 0
HasWord q = (word : List ℕ) × (number_of word ≡ Ok q)

-- the sizes of a problem are within the limits that the grammar sets
abbrev pub IsWithinLimits : Problem → Type 0
IsWithinLimits problem = are_within_limits (printed_sizes problem) ≡ true

-- a number is the first of these that is the value of no word
pub record IsFirstWithoutWord (numbers : List ℚ) (q : ℚ) : Type 0 where
  pub before : List ℚ
  pub after : List ℚ
  pub place : numbers ≡ before ++ q ∷ after
  pub words : All HasWord before
  pub no_word : ¬ HasWord q

-- why a problem is not printed: its first number, in the order of printing, that has no word; or want of memory
abbrev pub RefusesText : Problem → PrintFault → Type 0
RefusesText problem (NotDecimal q) = IsFirstWithoutWord (printed_numbers problem) q
RefusesText problem NoMemory = Unit {0}

-- what is printed: the text of the problem, all of whose numbers have a word; within the limits it reads as this problem
pub record Prints (problem : Problem) (text : List ℕ) : Type 0 where
  pub words : All HasWord (printed_numbers problem)
  pub same : text ≡ problem_text problem
  pub round_trip : IsWithinLimits problem → Reads text problem
