-- The accepted shapes of a command's words, which stand without the program's name.
use Rattle.std.specs.Prelude.{ℕ, if◌then◌else◌, List, [], ◌∷◌, codes, Option, None, Some}
use Rattle.std.specs.Option.{option_map}
use Rattle.std.specs.Str.{bytes_eq}
use Rattle.commands.specs.Numbers.{number_of}
use Rattle.commands.specs.Weights.{are_weights}
use Rattle.commands.specs.Tasks.{Task, Shape, shape}
use Rattle.commands.specs.Tasks.Task.{check, relog, solve, dual, sample, project, associate, meet, sum, join, map, weights, weigh, vertices, facets, reconv}
use Rattle.commands.specs.Tasks.Files.{none, one, two, logged}

-- ---- the words after a name
-- N: the decimal text of a number from 1 to 1000
abbrev pub number_shape : List ℕ → Option Shape
number_shape word = option_map (λ n. shape (sample n) none) (number_of 1000 word)

-- FILE and a second file that is read, which is another word
abbrev pub second_shape : Task → List ℕ → List ℕ → Option Shape
second_shape t file second =
    if bytes_eq file second then None else Some (shape t (two file second))

-- FILE LOG, where the log that is written is another word
abbrev pub log_shape : Task → List ℕ → List ℕ → Option Shape
log_shape t file log = if bytes_eq file log then None else Some (shape t (logged file log))

-- FILE K: the decimal text of a number from 1 to 19
abbrev pub columns_shape : (ℕ → Task) → List ℕ → List ℕ → Option Shape
columns_shape t file word = option_map (λ k. shape (t k) (one file)) (number_of 19 word)

-- FILE K LOG
abbrev pub columns_log_shape : (ℕ → Task) → List ℕ → List ℕ → List ℕ → Option Shape
columns_log_shape t file word log =
    if bytes_eq file log then None
    else option_map (λ k. shape (t k) (logged file log)) (number_of 19 word)

-- FILE W, where W writes weights
abbrev pub weights_shape : List ℕ → List ℕ → Option Shape
weights_shape file word = if are_weights word then Some (shape (weigh word) (one file)) else None

-- ---- the commands by their names and numbers of words
-- the shape of the words of a command, if they have one
abbrev pub shape_of : List (List ℕ) → Option Shape
shape_of (word ∷ file ∷ []) =
    if bytes_eq word (codes "solve") then Some (shape solve (one file))
    else if bytes_eq word (codes "dual") then Some (shape dual (one file))
    else if bytes_eq word (codes "map") then Some (shape map (one file))
    else if bytes_eq word (codes "weights") then Some (shape weights (one file))
    else if bytes_eq word (codes "vertices") then Some (shape vertices (one file))
    else if bytes_eq word (codes "facets") then Some (shape facets (one file))
    else if bytes_eq word (codes "sample") then number_shape file
    else None
shape_of (word ∷ file ∷ other ∷ []) =
    if bytes_eq word (codes "check") then second_shape check file other
    else if bytes_eq word (codes "relog") then second_shape relog file other
    else if bytes_eq word (codes "meet") then second_shape meet file other
    else if bytes_eq word (codes "sum") then second_shape sum file other
    else if bytes_eq word (codes "join") then second_shape join file other
    else if bytes_eq word (codes "reconv") then second_shape reconv file other
    else if bytes_eq word (codes "solve") then log_shape solve file other
    else if bytes_eq word (codes "dual") then log_shape dual file other
    else if bytes_eq word (codes "vertices") then log_shape vertices file other
    else if bytes_eq word (codes "facets") then log_shape facets file other
    else if bytes_eq word (codes "project") then columns_shape project file other
    else if bytes_eq word (codes "associate") then columns_shape associate file other
    else if bytes_eq word (codes "weigh") then weights_shape file other
    else None
shape_of (word ∷ file ∷ columns ∷ log ∷ []) =
    if bytes_eq word (codes "project") then columns_log_shape project file columns log else None
shape_of _ = None
