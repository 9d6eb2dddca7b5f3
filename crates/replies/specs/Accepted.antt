-- What a check says of the log of a conversion, by the bytes of the representation and of the log
-- alone.
use Rattle.std.specs.Prelude.{◌≡◌, ℕ, List}
use Rattle.word_lines.specs.Grammar.{entries_text}
use Rattle.rep_text.specs.ConvText.{conv_grammar}
use Rattle.rep_text.specs.RepText.{IsRepText, rep_text}
use Rattle.rep_text.specs.declared.rep.Rep.{Rep}
use Rattle.rep_convert.specs.Standing.{IsConversion}
use Rattle.rep_convert.specs.declared.fault.Converted.{Converted}
use Rattle.commands.specs.declared.reply.Reply.{Reply}
use Rattle.replies.specs.Checking.{CanReconvert, Reconverted}

-- nothing stands against a check of the log, and whatever is reconverted by it has this text
pub record PassesAs (text : List ℕ) (rep : Rep) (bytes : List ℕ) : Type 0 where
  pub can : CanReconvert rep bytes
  pub tells : (r : Reply) → Reconverted rep bytes r → r.text ≡ text

-- whatever bytes are the text of the representation: for each of which they are the text, the log of
-- a conversion passes, with the text that was converted
abbrev pub ConversionsPass : Type 0
ConversionsPass = (bytes : List ℕ) (rep same : Rep) → IsRepText bytes rep → IsRepText bytes same →
    (converted : Converted) → IsConversion rep converted →
    PassesAs (rep_text converted.rep) same (entries_text conv_grammar converted.log)
