-- Lines of statuses beside near misses, each of which would fail if a definition were wrong.
use Rattle.std.specs.Prelude.{◌≡◌, true, false, List, [], ◌∷◌, codes, pos, negsuc}
use Rattle.std.specs.Str.{bytes_eq}
use Rattle.exact_field.specs.Rational.{whole, fraction}
use Rattle.exact_field.specs.declared.op.Left.{Left}
use Rattle.exact_field.specs.declared.op.Op.TheVariants.{Mul, Sub}
use Rattle.frac128.specs.declared.frac.Frac.{Frac}
use Rattle.frac128.specs.declared.vectors.Spot.{Spot}
use Rattle.vlp_reader.specs.declared.fault.FileFault.{FileFault}
use Rattle.vlp_reader.specs.declared.fault.FileKind.TheVariants.{BadLine}
use Rattle.word_lines.specs.declared.fault.LogKind.TheVariants.{OutOfRange, NoEnd}
use Rattle.commands.specs.Replies.{fault_text}
use Rattle.commands.specs.declared.status.Status.TheVariants.{Done, Words, FileFault as OfFile, NoMemory, ReadFault, WriteFault, TooLong, Columns, SecondFile, EmptyPart, Sizes, RepFault, WeighLeft, Weights}

-- a fault on line 3
abbrev pub bad_line : FileFault
bad_line = record { line = 3; kind = BadLine }

-- 1 and -1/2 at the places 1 and 4
abbrev pub multipliers : List Spot
multipliers = record { at = 1; value = whole (pos 1) } ∷ record { at = 4; value = fraction (negsuc 0) 2 } ∷ []

-- a quarter times -3
abbrev pub product : Left Frac
product = record { op = Mul; a = fraction (pos 1) 4; b = whole (negsuc 2) }

-- and with its operands turned, and as a difference
abbrev pub turned : Left Frac
turned = record { op = Mul; a = whole (negsuc 2); b = fraction (pos 1) 4 }

abbrev pub difference : Left Frac
difference = record { op = Sub; a = fraction (pos 1) 4; b = whole (negsuc 2) }

-- lines of statuses, beside near ones
pub record LineExamples : Type 0 where
  pub columns : fault_text (Columns 2 1) ≡ codes "fault 12 2 1\n"
  pub columns_turned : bytes_eq (fault_text (Columns 1 2)) (codes "fault 12 2 1\n") ≡ false
  pub sizes : fault_text (Sizes 20 20) ≡ codes "fault 15 20 20\n"
  pub sizes_of_columns : bytes_eq (fault_text (Columns 20 20)) (codes "fault 15 20 20\n") ≡ false
  pub sizes_turned : bytes_eq (fault_text (Sizes 1 2)) (codes "fault 15 2 1\n") ≡ false
  pub weights : fault_text (Weights 1 2) ≡ codes "fault 18 1 2\n"
  pub weights_turned : bytes_eq (fault_text (Weights 2 1)) (codes "fault 18 1 2\n") ≡ false
  pub second : fault_text (SecondFile bad_line) ≡ codes "fault 13 line 3 kind 2 BadLine\n"
  pub first : bytes_eq (fault_text (OfFile bad_line)) (codes "fault 13 line 3 kind 2 BadLine\n")
      ≡ false
  pub empty_second : fault_text (EmptyPart true multipliers)
      ≡ codes "fault 14 second 2 1 1 4 -1/2\n"
  pub empty_first : fault_text (EmptyPart false multipliers) ≡ codes "fault 14 first 2 1 1 4 -1/2\n"
  pub no_multiplier : fault_text (EmptyPart false []) ≡ codes "fault 14 first 0\n"
  pub other_part : bytes_eq (fault_text (EmptyPart false multipliers)) (codes "fault 14 second 2 1 1 4 -1/2\n")
      ≡ false
  pub weighed : fault_text (WeighLeft 4294967296 product) ≡ codes "fault 17 4294967296 mul 1/4 -3\n"
  pub operands_turned : bytes_eq (fault_text (WeighLeft 7 turned)) (codes "fault 17 7 mul 1/4 -3\n")
      ≡ false
  pub other_operation : bytes_eq (fault_text (WeighLeft 7 difference)) (codes "fault 17 7 mul 1/4 -3\n")
      ≡ false
  pub long_log : fault_text (TooLong true 268435457) ≡ codes "fault 10 log 268435457\n"
  pub long_problem : bytes_eq (fault_text (TooLong false 268435457)) (codes "fault 10 log 268435457\n")
      ≡ false
  pub rep : fault_text (RepFault 10001 OutOfRange) ≡ codes "fault 16 line 10001 kind 4 OutOfRange\n"
  pub rep_kind : bytes_eq (fault_text (RepFault 3 NoEnd)) (codes "fault 16 line 3 kind 1 NoEnd\n") ≡ false
  -- what tells itself, or cannot be told
  pub done : fault_text Done ≡ []
  pub no_shape : fault_text Words ≡ []
  pub no_memory : fault_text NoMemory ≡ []
  pub read : fault_text (ReadFault true) ≡ []
  pub written : fault_text (WriteFault false 3) ≡ []
