-- The fault lines of a run: words that are separated by one blank.
use Rattle.std.specs.Prelude.{ℕ, Bool, true, false, List, [], ◌∷◌, ◌++◌, codes, decimal}
use Rattle.src_sink.specs.Texts.{line_text}
use Rattle.exact_field.specs.Rational.{ℚ}
use Rattle.exact_field.specs.declared.op.Left.{Left}
use Rattle.frac128.specs.Text.{frac_text}
use Rattle.frac128.specs.declared.frac.Frac.{Frac}
use Rattle.frac128.specs.declared.vectors.Spot.{Spot}
use Rattle.vlp_reader.specs.Faults.{kind_number, kind_name}
use Rattle.vlp_reader.specs.declared.fault.FileFault.{FileFault}
use Rattle.word_lines.specs.Parts.{part_words, naturals, sparse, vector}
use Rattle.word_lines.specs.Names.{kind_number as log_kind_number, kind_name as log_kind_name}
use Rattle.word_lines.specs.declared.fault.LogFault.{LogFault}
use Rattle.word_lines.specs.declared.fault.LogKind.{LogKind}
use Rattle.deriv_log.specs.declared.licence.Licence.{Licence}
use Rattle.deriv_log.specs.declared.licence.Place.{Place}
use Rattle.deriv_log.specs.declared.licence.Place.TheVariants.{Pivot, Elim, Pair, Exchange, Scale, Step}
use Rattle.log_rules.specs.Names.{rule_number, rule_name}
use Rattle.log_rules.specs.declared.rule.Rule.{Rule}
use Rattle.cone_rules.specs.declared.fault.ConeFault.{ConeFault}
use Rattle.cone_rules.specs.declared.fault.ConeFault.TheVariants.{NotSolid, HasLine, NotInterior, LastNotPositive}
use Rattle.commands.specs.Names.{source_name, operation_name, family_name}

-- ---- a problem
-- the words of the first fault of a problem's text
abbrev pub file_fault_words : FileFault → List (List ℕ)
file_fault_words f =
    codes "line" ∷ decimal f.line ∷ codes "kind" ∷ decimal (kind_number f.kind) ∷ kind_name f.kind ∷ []

-- the fault lines of a refused problem, and of a refused second one
abbrev pub file_fault_text : FileFault → List ℕ
file_fault_text f = line_text (codes "fault" ∷ codes "3" ∷ file_fault_words f)

abbrev pub second_fault_text : FileFault → List ℕ
second_fault_text f = line_text (codes "fault" ∷ codes "13" ∷ file_fault_words f)

-- ---- numbers of columns, of objectives and of weights
-- the fault lines of more columns than there are, of numbers of columns that do not go together, and
-- of another number of weights than of objectives
abbrev pub columns_text : ℕ → ℕ → List ℕ
columns_text asked cols = line_text (codes "fault" ∷ codes "12" ∷ decimal asked ∷ decimal cols ∷ [])

abbrev pub sizes_text : ℕ → ℕ → List ℕ
sizes_text first second = line_text (codes "fault" ∷ codes "15" ∷ decimal first ∷ decimal second ∷ [])

abbrev pub weights_text : ℕ → ℕ → List ℕ
weights_text given objs = line_text (codes "fault" ∷ codes "18" ∷ decimal given ∷ decimal objs ∷ [])

-- ---- an ordering cone
-- a fault of a cone by its name, and what shows it: a vector and multipliers
abbrev pub shown_text : List ℕ → List ℚ → List Spot → List ℕ
shown_text name w m = line_text (codes "fault" ∷ codes "4" ∷ name ∷ part_words (vector w) ++ part_words (sparse m))

-- the fault line of an ordering cone with its duality vector; no vector shows a last entry that is not positive
abbrev pub cone_fault_text : ConeFault → List ℕ
cone_fault_text (NotSolid w m) = shown_text (codes "NotSolid") w m
cone_fault_text (HasLine d m) = shown_text (codes "HasLine") d m
cone_fault_text (NotInterior w v) = shown_text (codes "NotInterior") w v
cone_fault_text (LastNotPositive m) = shown_text (codes "LastNotPositive") [] m

-- ---- an operation whose exact result is not held
-- an operation and its operands
abbrev pub operation_words : Left Frac → List (List ℕ)
operation_words l = operation_name l.op ∷ frac_text l.a ∷ frac_text l.b ∷ []

-- where the operation stands: a name and numbers
abbrev pub place_words : Place → List (List ℕ)
place_words (Pivot program basis row col step) = codes "pivot" ∷ decimal row ∷ decimal col ∷ decimal step ∷ []
place_words (Elim rows basis row col step) = codes "elim" ∷ decimal row ∷ decimal col ∷ decimal step ∷ []
place_words (Pair family rows first second step) = codes "pair" ∷ family_name family ∷ decimal first ∷ decimal second ∷ decimal step ∷ []
place_words (Exchange y t step) = codes "exchange" ∷ decimal step ∷ []
place_words (Scale v entry) = codes "scale" ∷ decimal entry ∷ []
place_words (Step entry step) = codes "step" ∷ decimal entry ∷ decimal step ∷ []

-- the basis of a dictionary or of an elimination
abbrev pub basis_words : Place → List (List ℕ)
basis_words (Pivot program basis row col step) = part_words (naturals basis)
basis_words (Elim rows basis row col step) = part_words (naturals basis)
basis_words _ = []

-- the fault line of a licence
abbrev pub licence_text : Licence → List ℕ
licence_text l = line_text (codes "fault" ∷ codes "5" ∷ place_words l.place ++ operation_words l.left ++ basis_words l.place)

-- the fault line of a product of weights with a line, a direction or a point, by its number
abbrev pub weigh_text : ℕ → Left Frac → List ℕ
weigh_text item l = line_text (codes "fault" ∷ codes "17" ∷ decimal item ∷ operation_words l)

-- ---- a part of a join
-- the word for a part of a join
abbrev pub part_name : Bool → List ℕ
part_name false = codes "first"
part_name true = codes "second"

-- the fault line of a part without a feasible vector, and the multipliers that show it
abbrev pub empty_part_text : Bool → List Spot → List ℕ
empty_part_text second u =
    line_text (codes "fault" ∷ codes "14" ∷ part_name second ∷ part_words (sparse u))

-- ---- a log
-- the words of the first fault of a log's or a representation's text
abbrev pub log_fault_words : ℕ → LogKind → List (List ℕ)
log_fault_words line kind =
    codes "line" ∷ decimal line ∷ codes "kind" ∷ decimal (log_kind_number kind) ∷ log_kind_name kind ∷ []

-- the fault lines of a log's text, and of a representation's
abbrev pub log_fault_text : LogFault → List ℕ
log_fault_text f = line_text (codes "fault" ∷ codes "9" ∷ log_fault_words f.line f.kind)

abbrev pub rep_fault_text : ℕ → LogKind → List ℕ
rep_fault_text line kind = line_text (codes "fault" ∷ codes "16" ∷ log_fault_words line kind)

-- the fault line of a rule that an entry fails
abbrev pub wrong_text : ℕ → Rule → List ℕ
wrong_text entry rule = line_text (codes "fault" ∷ codes "9" ∷ codes "entry" ∷ decimal entry ∷ codes "rule" ∷ decimal (rule_number rule) ∷ rule_name rule ∷ [])

-- ---- limits
-- the fault line of a source (that of the log, or of the problem) with more bytes than the limit, and how many were taken
abbrev pub too_long_text : Bool → ℕ → List ℕ
too_long_text log read = line_text (codes "fault" ∷ codes "10" ∷ source_name log ∷ decimal read ∷ [])
