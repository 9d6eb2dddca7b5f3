-- The upgrade of a whole log.
use Rattle.std.proofs.Common.{◌≡◌, ℕ, List, [], refl, sym, ap, ◌∙◌, subst, Bool, true, false, None, IsTrue, if◌then◌else◌}
use Rattle.std.specs.List.{list_all}
use Rattle.frac128.specs.Held.{is_held}
use Rattle.vlp_problem.specs.declared.problem.Problem.{Problem}
use Rattle.deriv_log.specs.Formed.{is_formed, ends_once, IsLog}
use Rattle.deriv_log.specs.Laws.{IsTextOf}
use Rattle.deriv_log.specs.LogText.{log_text}
use Rattle.deriv_log.specs.declared.entry.Entry.{Entry}
use Rattle.log_rules.specs.declared.answer.Answer.{Answer}
use Rattle.log_versions.specs.Laws.{IsUpgrade}
use Rattle.log_versions.specs.Plain.{is_version_2}
use Rattle.log_versions.specs.Upgrade.{upgraded, upgraded_after}
use Rattle.log_versions.specs.Written.{Proves}
use Rattle.log_versions.specs.WrittenEvents.{log_failure}
use Rattle.log_versions.proofs.UpgradedLogs.{upgrades_say_the_same, ends_after}
use Rattle.cert_check.specs.Verdict.{Accepts}
use Rattle.log_upgrade.specs.Upgrades.{IsUpgradeOf}
use Rattle.log_upgrade.specs.Walk.{IsWhole, IsWholeText}

first_is : (q : ℕ) (all : List Entry) → is_version_2 all ≡ false → upgraded_after q all [] [] all ≡ upgraded q all
first_is q all h = sym (ap (λ (b : Bool). if b then all else upgraded_after q all [] [] all) h)

-- ---- the entries
pub upgrade_of_first : (file : Problem) (all upgrade : List Entry) (answer : Answer) → IsLog all → Accepts file all answer →
    is_version_2 all ≡ false → IsWhole file.objs all upgrade → IsUpgradeOf file all upgrade
upgrade_of_first file all upgrade answer log a h w =
    let is : upgrade ≡ upgraded file.objs all = w.is ∙ first_is file.objs all h in
    let law : IsUpgrade is_held file all = upgrades_say_the_same is_held file all log a.passes in
    let proves : Proves file upgrade answer =
    subst (λ (es : List Entry). Proves file es answer) (sym is)
    (law.proves answer (subst (λ (es : List Entry). IsTrue (list_all is_formed es)) is w.formed) a.proves) in
    record {
      is = is;
      is_log = proves.log;
      answer = answer;
      accepts = a;
      as_well = record {
        passes = ap (log_failure is_held file) is ∙ law.passes;
        proves = proves;
        right = a.right;
      };
    }

-- ---- their text
pub text_of_first : (q : ℕ) (all : List Entry) (text : List ℕ) → IsLog all → is_version_2 all ≡ false → IsWholeText q all text →
    IsTextOf text (upgraded q all)
text_of_first q all text log h t =
    let is : t.upgrade ≡ upgraded q all = t.whole.is ∙ first_is q all h in (
      record {
        formed = ap (list_all is_formed) (sym is) ∙ t.whole.formed;
        ends = ap ends_once (sym (first_is q all h)) ∙ ends_after q all [] all [] log.ends;
      },
      t.is ∙ ap log_text is,
    )
