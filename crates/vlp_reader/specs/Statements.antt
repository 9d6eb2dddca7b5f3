-- What the words of one line say, before any test that looks at other lines.
use Rattle.std.specs.Prelude.{ℕ, ◌==◌, Bool, true, false, if◌then◌else◌, List, [], ◌∷◌, codes, Option, None, Some, unwrap_or, Result, Ok, Err}
use Rattle.std.specs.Option.{option_map}
use Rattle.std.specs.Str.{byte, bytes_eq}
use Rattle.exact_field.specs.Rational.{ℚ}
use Rattle.vlp_reader.specs.Lines.{words_of, letter}
use Rattle.vlp_reader.specs.Number.{natural, number_of}
use Rattle.vlp_reader.specs.declared.fault.FileKind.{FileKind}
use Rattle.vlp_problem.specs.declared.problem.Bound.{Bound}
use Rattle.vlp_problem.specs.declared.problem.Bound.TheVariants.{Free, Lower, Upper, Double, Fixed}
use Rattle.vlp_problem.specs.declared.problem.Dir.{Dir}
use Rattle.vlp_problem.specs.declared.problem.Dir.TheVariants.{Min, Max}
use Rattle.vlp_reader.specs.declared.sizes.ConeSizes.{ConeSizes}
use Rattle.vlp_reader.specs.declared.sizes.Sizes.{Sizes}
use Rattle.vlp_reader.specs.declared.statement.Matrix.{Matrix}
use Rattle.vlp_reader.specs.declared.statement.Matrix.TheVariants.{Constraints, Objectives, ConeVectors, Duality}
use Rattle.vlp_problem.specs.declared.problem.Axis.{Axis}
use Rattle.vlp_problem.specs.declared.problem.Axis.TheVariants.{Row, Column}
use Rattle.vlp_reader.specs.declared.statement.Statement.{Statement}
use Rattle.vlp_reader.specs.declared.statement.Statement.TheVariants.{Silent, Heading, Entry, Limit, End}

-- `min` or `max`
abbrev pub direction : List ℕ → Option Dir
direction word = if bytes_eq word (codes "min") then Some Min else if bytes_eq word (codes "max") then Some Max else None

-- whether the vectors are those of the dual cone: `cone` or `dualcone`
abbrev pub cone_word : List ℕ → Option Bool
cone_word word = if bytes_eq word (codes "cone") then Some false else if bytes_eq word (codes "dualcone") then Some true else None

-- the sizes of a cone, where each of its words could be read
abbrev pub cone_from : Option Bool → Option ℕ → Option ℕ → Option (Option ConeSizes)
cone_from (Some dual) (Some vectors) (Some entries) = Some (Some (record { dual = dual; vectors = vectors; entries = entries }))
cone_from _ _ _ = None

-- the words CONE GENS GENNONZ, or none
abbrev pub cone_sizes : List (List ℕ) → Option (Option ConeSizes)
cone_sizes [] = Some None
cone_sizes (kind ∷ vectors ∷ entries ∷ []) = cone_from (cone_word kind) (natural vectors) (natural entries)
cone_sizes _ = None

-- the sizes, where each of their words could be read
abbrev pub sizes_from : Option Dir → Option ℕ → Option ℕ → Option ℕ → Option ℕ → Option ℕ → Option (Option ConeSizes) → Option Sizes
sizes_from (Some dir) (Some rows) (Some cols) (Some entries) (Some objs) (Some obj_entries) (Some cone) =
    Some (record { dir = dir; rows = rows; cols = cols; entries = entries; objs = objs; obj_entries = obj_entries; cone = cone })
sizes_from _ _ _ _ _ _ _ = None

-- the words vlp DIR ROWS COLS NONZ OBJS OBJNONZ and those of a cone
abbrev pub sizes_of : List (List ℕ) → Option Sizes
sizes_of (vlp ∷ dir ∷ rows ∷ cols ∷ entries ∷ objs ∷ obj_entries ∷ cone) =
    if bytes_eq vlp (codes "vlp")
    then sizes_from (direction dir) (natural rows) (natural cols) (natural entries) (natural objs) (natural obj_entries) (cone_sizes cone)
    else None
sizes_of _ = None

-- an entry, where both numbers of its place could be read
abbrev pub entry_from : Matrix → Option ℕ → Option ℕ → Result ℚ FileKind → Option Statement
entry_from m (Some i) (Some j) number = Some (Entry m i j number)
entry_from m _ _ number = None

-- the words i j v
abbrev pub entry_of : Matrix → List (List ℕ) → Option Statement
entry_of m (i ∷ j ∷ v ∷ []) = entry_from m (natural i) (natural j) (number_of v)
entry_of m _ = None

-- an entry of a cone vector; that of column 0 is one of the duality vector, which is a matrix of one column
abbrev pub in_cone : Statement → Statement
in_cone (Entry m i j number) = if j == 0 then Entry Duality i 1 number else Entry m i j number
in_cone s = s

-- the bounds of a type with its number, or what is wrong with the number
abbrev pub bound_by : (ℚ → Bound) → Result ℚ FileKind → Result Bound FileKind
bound_by type (Ok v) = Ok (type v)
bound_by type (Err kind) = Err kind

-- a lower and an upper bound, or what is wrong with the first number that is wrong
abbrev pub double_bound : Result ℚ FileKind → Result ℚ FileKind → Result Bound FileKind
double_bound (Ok v) (Ok w) = Ok (Double v w)
double_bound (Ok v) (Err kind) = Err kind
double_bound (Err kind) _ = Err kind

-- `l`, `u` or `s`
abbrev pub single_bound : ℕ → Result ℚ FileKind → Option (Result Bound FileKind)
single_bound type v =
    if type == byte "l" then Some (bound_by Lower v)
    else if type == byte "u" then Some (bound_by Upper v)
    else if type == byte "s" then Some (bound_by Fixed v)
    else None

-- a type of bounds, and the words after it: none for `f`, one for `l`, `u` and `s`, two for `d`
abbrev pub bound_of : ℕ → List (List ℕ) → Option (Result Bound FileKind)
bound_of type [] = if type == byte "f" then Some (Ok Free) else None
bound_of type (v ∷ []) = single_bound type (number_of v)
bound_of type (v ∷ w ∷ []) = if type == byte "d" then Some (double_bound (number_of v) (number_of w)) else None
bound_of type _ = None

-- bounds, where the number of the row or column and the words of the bounds could be read
abbrev pub limit_from : Axis → Option ℕ → Option (Result Bound FileKind) → Option Statement
limit_from axis (Some n) (Some bound) = Some (Limit axis n bound)
limit_from axis _ _ = None

-- the words of a row or column, of a type and of its numbers
abbrev pub limit_of : Axis → List (List ℕ) → Option Statement
limit_of axis (n ∷ type ∷ values) = limit_from axis (natural n) (bound_of (letter type) values)
limit_of axis _ = None

-- what the words after a first word of this letter say, or that they have not the form of its kind
abbrev pub statement_of : ℕ → List (List ℕ) → Option Statement
statement_of kind words =
    if kind == byte "p" then option_map Heading (sizes_of words)
    else if kind == byte "a" then entry_of Constraints words
    else if kind == byte "o" then entry_of Objectives words
    else if kind == byte "k" then option_map in_cone (entry_of ConeVectors words)
    else if kind == byte "i" then limit_of Row words
    else if kind == byte "j" then limit_of Column words
    else if kind == byte "e" then Some End
    else None

-- what the words of a line say
abbrev pub words_statement : List (List ℕ) → Statement
words_statement [] = Silent
words_statement (first ∷ words) = unwrap_or (statement_of (letter first) words) Silent

-- the statement of a line; a blank line, a comment and a line that has not the form of its kind have none
abbrev pub statement_on : List ℕ → Statement
statement_on line = words_statement (words_of line)
