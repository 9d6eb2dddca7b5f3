-- What `vertices` and `facets` reply of a representation: the other one of the same set.
use Rattle.std.specs.Prelude.{◌≡◌, ◌⊎◌, ℕ, not, Bool, true, false, List, Option, None, Some}
use Rattle.frac128.specs.Held.{is_held}
use Rattle.word_lines.specs.Grammar.{entries_text}
use Rattle.word_lines.specs.declared.fault.LogKind.TheVariants.{BadLine}
use Rattle.deriv_log.specs.declared.licence.Licence.{Licence}
use Rattle.rep_text.specs.ConvText.{conv_grammar}
use Rattle.rep_text.specs.RepText.{rep_text}
use Rattle.rep_text.specs.declared.conv.ConvEntry.{ConvEntry}
use Rattle.rep_text.specs.declared.rep.Rep.{Rep}
use Rattle.rep_convert.specs.Licensed.{IsConvLicensed}
use Rattle.rep_convert.specs.Standing.{IsConversion}
use Rattle.rep_convert.specs.declared.fault.Converted.{Converted}
use Rattle.commands.specs.Replies.{TellsFault}
use Rattle.commands.specs.Told.{CanBeTold}
use Rattle.commands.specs.declared.reply.Reply.{Reply}
use Rattle.commands.specs.declared.status.Status.TheVariants.{Done, Left, RepFault}

-- the text of the log of a conversion, where one is wanted
abbrev pub conv_log_for : Bool → List ConvEntry → Option (List ℕ)
conv_log_for true log = Some (entries_text conv_grammar log)
conv_log_for false log = None

-- the text is that of the other representation of the same set, of which no row can be left out; a
-- log of which no event fails gives it, and is written where one is wanted
pub record Turned (logs : Bool) (rep : Rep) (r : Reply) : Type 0 where
  pub status : r.status ≡ Done
  pub converted : Converted
  pub is : IsConversion rep converted
  pub text : r.text ≡ rep_text converted.rep
  pub log : r.log ≡ conv_log_for logs converted.log

-- an operation whose exact result is not held is licensed for the conversion; what its licence shows
-- is held
pub record TurningStopped (rep : Rep) (r : Reply) : Type 0 where
  pub licence : Licence
  pub status : r.status ≡ Left licence
  pub licensed : IsConvLicensed is_held rep licence
  pub can : CanBeTold licence
  pub told : TellsFault r

-- what is replied of a representation of a wanted kind, with a log or without
pub record Turns (gens logs : Bool) (rep : Rep) (r : Reply) : Type 0 where
  pub kind : rep.gens ≡ gens
  pub turns : Turned logs rep r ⊎ TurningStopped rep r

-- a text of the other kind reads, but its first line is told as a bad one
pub record IsOtherKind (gens : Bool) (rep : Rep) (r : Reply) : Type 0 where
  pub kind : rep.gens ≡ not gens
  pub status : r.status ≡ RepFault 1 BadLine
  pub told : TellsFault r

-- what is replied where points, directions and lines are to be turned, or inequalities and
-- equations
abbrev pub TurnVerdict : Bool → Bool → Rep → Reply → Type 0
TurnVerdict gens logs rep r = Turns gens logs rep r ⊎ IsOtherKind gens rep r

-- what `vertices` replies, which turns inequalities and equations
abbrev pub VerticesVerdict : Bool → Rep → Reply → Type 0
VerticesVerdict logs rep r = TurnVerdict false logs rep r

-- what `facets` replies, which turns points, directions and lines
abbrev pub FacetsVerdict : Bool → Rep → Reply → Type 0
FacetsVerdict logs rep r = TurnVerdict true logs rep r

-- nothing stands against a conversion: the kind is the wanted one, and no overflow that can be told
-- is licensed
pub record CanTurn (gens : Bool) (rep : Rep) : Type 0 where
  pub kind : rep.gens ≡ gens
  pub held : (l : Licence) → CanBeTold l → IsConvLicensed is_held rep l → ⊥
