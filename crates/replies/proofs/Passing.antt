-- The log of a conversion passes for the same text, with what was converted.
use Rattle.std.proofs.Common.{◌≡◌, ℕ, Bool, List, [], ◌∷◌, ◌++◌, map, None, refl, sym, ◌∙◌, subst}
use Rattle.std.specs.List.{flat_map}
use Rattle.src_sink.specs.Texts.{line_text}
use Rattle.frac128.specs.Held.{is_held}
use Rattle.word_lines.specs.Grammar.{IsWhole, entries_text}
use Rattle.rep_text.specs.ConvText.{conv_grammar}
use Rattle.rep_text.specs.RepText.{end_words, head_words, rep_text, row_words}
use Rattle.rep_text.specs.declared.conv.ConvEntry.{ConvEntry}
use Rattle.rep_text.specs.declared.rep.Rep.{Rep}
use Rattle.rep_text.specs.declared.rep.RepRow.{RepRow}
use Rattle.rep_text.proofs.ConvLaws.{one_conv_reading}
use Rattle.rep_conv.specs.Converted.{Converts, Gives}
use Rattle.rep_conv.specs.Events.{conv_failure}
use Rattle.rep_conv.proofs.EventRules.{events_are_rules}
use Rattle.rep_conv.proofs.OneOther.{one_other}
use Rattle.rep_convert.specs.Standing.{IsConversion}
use Rattle.rep_convert.specs.declared.fault.Converted.{Converted}
use Rattle.replies.specs.Accepted.{ConversionsPass, PassesAs}
use Rattle.replies.proofs.Entries.{ends}
use Rattle.replies.proofs.OneRep.{one_rep}

-- a whole log that is accepted converts
pub converts : (rep : Rep) (log : List ConvEntry) → IsWhole conv_grammar log →
    conv_failure is_held rep log ≡ None → Converts rep log
converts rep log whole accepted =
    let end = ends log whole.ends in
    record {
      meet = ((events_are_rules is_held rep log).0 accepted).0;
      before = end.0;
      ends = end.1;
    }

text_of : Bool → ℕ → List RepRow → List ℕ
text_of gens width rows = flat_map line_text (head_words gens width ∷ (map row_words rows ++ end_words ∷ []))

-- it gives one text
same_text : (rep : Rep) (log : List ConvEntry) (a b : Rep) → Converts rep log → Gives rep log a →
    Gives rep log b → rep_text a ≡ rep_text b
unfolding text_of
same_text rep log a b whole ga gb =
    let rows : a.rows ≡ b.rows =
    one_other rep rep log log a b refl refl (λ z. (λ h. h, λ h. h)) whole whole ga gb in
    let gens : a.gens ≡ b.gens = ga.turned ∙ sym gb.turned in
    let width : a.width ≡ b.width = ga.width ∙ sym gb.width in
    λ i. text_of (gens i) (width i) (rows i)

passes : (rep : Rep) (converted : Converted) → IsConversion rep converted →
    PassesAs (rep_text converted.rep) rep (entries_text conv_grammar converted.log)
passes rep converted is =
    record {
      can = record { log = converted.log; is_log = (is.whole, refl); accepted = is.accepted };
      tells = λ r done.
          let same : done.log ≡ converted.log =
          one_conv_reading.one_list (entries_text conv_grammar converted.log) done.log converted.log
          done.is_log (is.whole, refl) in
          let gives : Gives rep converted.log done.other =
          subst (λ (log : List ConvEntry). Gives rep log done.other) same done.gives in
          done.text
          ∙ same_text rep converted.log done.other converted.rep
          (converts rep converted.log is.whole is.accepted) gives is.gives;
    }

pub conversions_pass : ConversionsPass
conversions_pass bytes rep same h k converted is =
    subst (λ (other : Rep). PassesAs (rep_text converted.rep) other (entries_text conv_grammar converted.log))
    (one_rep bytes rep same h k) (passes rep converted is)
