-- The upgrade of a log that passes says the same.
use Rattle.std.proofs.Common.{◌≡◌, List, None, refl}
use Rattle.frac128.specs.Held.{is_held}
use Rattle.vlp_problem.specs.declared.problem.Problem.{Problem}
use Rattle.deriv_log.specs.Formed.{IsLog}
use Rattle.deriv_log.specs.Laws.{IsTextOf}
use Rattle.deriv_log.specs.LogText.{log_text}
use Rattle.deriv_log.specs.declared.entry.Entry.{Entry}
use Rattle.log_rules.specs.declared.answer.Answer.{Answer}
use Rattle.log_versions.specs.Upgrade.{upgraded}
use Rattle.log_versions.proofs.UpgradedLogs.{upgrades_say_the_same}
use Rattle.cert_check.specs.Verdict.{Accepts}
use Rattle.commands.specs.declared.reply.Reply.{Reply}
use Rattle.commands.specs.declared.status.Status.TheVariants.{Done}
use Rattle.bensolve_main.specs.Relog.{Relogged}

pub relogged : (file : Problem) (entries : List Entry) (answer : Answer) (r : Reply) →
    IsLog entries → Accepts file entries answer → r.status ≡ Done →
    IsTextOf r.text (upgraded file.objs entries) → r.log ≡ None →
    Relogged file (log_text entries) r
relogged file entries answer r log accepts status text no_log =
    let same = upgrades_say_the_same is_held file entries log accepts.passes in
    record {
      status = status;
      entries = entries;
      log = (log, refl);
      answer = answer;
      accepts = accepts;
      text = text;
      upgrade = record {
        passes = same.passes;
        proves = same.proves answer text.0.formed accepts.proves;
        right = accepts.right;
      };
      no_log = no_log;
    }
