-- The log of a conversion as it grows, and its double description, which stand for the same rows; and
-- what a whole conversion is.
use Rattle.std.specs.Prelude.{◌≡◌, suc, Bool, not, List, None, map, All, IsTrue}
use Rattle.frac128.specs.Held.{is_held}
use Rattle.polyhedra.specs.LiveList.{vectors}
use Rattle.polyhedra.specs.Vectors.{AreWide}
use Rattle.lineality.specs.Steps.{IsClear, list_without}
use Rattle.lineality.specs.Without.{open_count, without}
use Rattle.double_descr.specs.State.{State as Description}
use Rattle.word_lines.specs.Grammar.{IsWhole, is_formed}
use Rattle.overflows.specs.Generators.{IsMadeOver}
use Rattle.rep_text.specs.ConvText.{conv_grammar, is_conv_end}
use Rattle.rep_text.specs.declared.conv.ConvEntry.{ConvEntry}
use Rattle.rep_text.specs.declared.rep.Rep.{Rep}
use Rattle.rep_conv.specs.Converted.{Gives, IsOther}
use Rattle.rep_conv.specs.Events.{AllHeld, conv_failure}
use Rattle.rep_conv.specs.Live.{rows_in_use, state}
use Rattle.rep_conv.specs.Meets.{AllMeet, has_start}
use Rattle.rep_convert.specs.Lines.{AreLinesOf, marks_of}
use Rattle.rep_convert.specs.declared.fault.Converted.{Converted}

-- for each place but the last whether it is that of a line of the log
abbrev pub line_places : Rep → List ConvEntry → List Bool
line_places rep log = marks_of rep (state rep log).lines

-- entries that meet their rules, whose steps are all held, that can be written, and that end nothing
pub record IsOpenLog (rep : Rep) (log : List ConvEntry) : Type 0 where
  pub met : AllMeet rep log
  pub held : AllHeld is_held rep log
  pub written : All (λ e. IsTrue (is_formed conv_grammar e)) log
  pub unended : All (λ e. IsTrue (not (is_conv_end e))) log

-- a log and a double description stand for the same rows: without the entries at the places of lines
-- the rows are those that the log has in use, in their order, and the live generators are the same
-- under the same numbers
pub record StandForSame (rep : Rep) (log : List ConvEntry) (dd : Description) : Type 0 where
  pub width : dd.width ≡ suc (open_count (line_places rep log))
  pub rows : dd.rows ≡ map (without (line_places rep log)) (rows_in_use rep (state rep log))
  pub list : dd.list ≡ list_without (line_places rep log) (state rep log).list

-- such a log that is started and has all lines, beside a double description for the same rows, which
-- is made row by row; the generators of the log are 0 at the places of the lines
pub record StandsAt (rep : Rep) (log : List ConvEntry) (dd : Description) : Type 0 where
  pub open_log : IsOpenLog rep log
  pub open open_log use *
  pub started : IsTrue (has_start log)
  pub lines : AreLinesOf rep (state rep log).lines
  pub wide : AreWide (suc rep.width) (vectors (state rep log).list.live)
  pub clear : All (IsClear (line_places rep log)) (vectors (state rep log).list.live)
  pub same : StandForSame rep log dd
  pub open same use *
  pub made : IsMadeOver dd.width dd.rows dd.list

-- the other representation, and a log that is accepted with it and can be written
pub record IsConversion (rep : Rep) (converted : Converted) : Type 0 where
  pub accepted : conv_failure is_held rep converted.log ≡ None
  pub gives : Gives rep converted.log converted.rep
  pub other : IsOther rep converted.rep
  pub whole : IsWhole conv_grammar converted.log
