-- What the replies of each task say: with an answer where nothing stands against it, never of words
-- without a shape, and with a log only where one is written.
use Rattle.std.proofs.Common.{◌≡◌, ℕ, List, Bool, true, false, None}
use Rattle.vlp_problem.specs.declared.problem.Problem.{Problem}
use Rattle.commands.specs.Tasks.{Task}
use Rattle.commands.specs.Tasks.Task.{check, relog, solve, dual, sample, project, associate, meet, sum, join, map, weights, weigh, vertices, facets, reconv}
use Rattle.rep_text.specs.declared.rep.Rep.{Rep}
use Rattle.replies.specs.Checking.{CanReconvert}
use Rattle.replies.proofs.ConversionsAnswered.{reconv_answered, reconv_never_words, reconv_quiet, turn_answered, turn_never_words, turn_quiet}
use Rattle.solver.proofs.Replies.{dual_answered, dual_never_words, dual_quiet, solve_answered, solve_never_words, solve_quiet}
use Rattle.replies.proofs.SetsAnswered.{project_answered, project_never_words, project_quiet, associate_answered, associate_never_words, associate_quiet, meet_answered, meet_never_words, meet_quiet, sum_answered, sum_never_words, sum_quiet, join_answered, join_never_words, join_quiet, map_answered, map_never_words, map_quiet}
use Rattle.replies.proofs.WeightsAnswered.{weights_answered, weights_never_words, weights_quiet, weigh_answered, weigh_never_words, weigh_quiet}
use Rattle.commands.specs.declared.reply.Reply.{Reply}
use Rattle.commands.specs.declared.status.Status.TheVariants.{Done, Words}
use Rattle.bensolve_main.specs.Answerable.{AnswersAlone, AnswersFile, AnswersRep, AnswersTwo}
use Rattle.bensolve_main.specs.Tasks.{TellsAlone, TellsConv, TellsFile, TellsLog, TellsRep, TellsTwo}
use Rattle.bensolve_main.proofs.Checks.{Passing, check_answered, check_never_words, check_quiet, relog_answered, relog_never_words, relog_quiet, sample_answered, sample_never_words, sample_quiet}

-- ---- with an answer
pub alone_answered : (t : Task) (r : Reply) → AnswersAlone t → TellsAlone t r → r.status ≡ Done
alone_answered (sample n) r h v = sample_answered n r h v
alone_answered check r h v = absurd v
alone_answered relog r h v = absurd v
alone_answered solve r h v = absurd v
alone_answered dual r h v = absurd v
alone_answered (project k) r h v = absurd v
alone_answered (associate k) r h v = absurd v
alone_answered meet r h v = absurd v
alone_answered sum r h v = absurd v
alone_answered join r h v = absurd v
alone_answered map r h v = absurd v
alone_answered weights r h v = absurd v
alone_answered (weigh w) r h v = absurd v
alone_answered vertices r h v = absurd v
alone_answered facets r h v = absurd v
alone_answered reconv r h v = absurd v

pub file_answered : (t : Task) (logs : Bool) (file : Problem) (r : Reply) → AnswersFile t file → TellsFile t logs file r → r.status ≡ Done
file_answered solve logs file r h v = solve_answered logs file r h v
file_answered dual logs file r h v = dual_answered logs file r h v
file_answered (project k) logs file r h v = project_answered k logs file r h v
file_answered (associate k) logs file r h v = associate_answered k file r h v
file_answered map logs file r h v = map_answered file r h v
file_answered weights logs file r h v = weights_answered file r h v
file_answered (weigh w) logs file r h v = weigh_answered w file r h v
file_answered check logs file r h v = absurd v
file_answered relog logs file r h v = absurd v
file_answered (sample n) logs file r h v = absurd v
file_answered meet logs file r h v = absurd v
file_answered sum logs file r h v = absurd v
file_answered join logs file r h v = absurd v
file_answered vertices logs file r h v = absurd v
file_answered facets logs file r h v = absurd v
file_answered reconv logs file r h v = absurd v

pub log_answered : (t : Task) (file : Problem) (bytes : List ℕ) (r : Reply) → Passing file bytes → TellsLog t file bytes r → r.status ≡ Done
log_answered check file bytes r h v = check_answered file bytes r h v
log_answered relog file bytes r h v = relog_answered file bytes r h v
log_answered solve file bytes r h v = absurd v
log_answered dual file bytes r h v = absurd v
log_answered (sample n) file bytes r h v = absurd v
log_answered (project k) file bytes r h v = absurd v
log_answered (associate k) file bytes r h v = absurd v
log_answered meet file bytes r h v = absurd v
log_answered sum file bytes r h v = absurd v
log_answered join file bytes r h v = absurd v
log_answered map file bytes r h v = absurd v
log_answered weights file bytes r h v = absurd v
log_answered (weigh w) file bytes r h v = absurd v
log_answered vertices file bytes r h v = absurd v
log_answered facets file bytes r h v = absurd v
log_answered reconv file bytes r h v = absurd v

pub two_answered : (t : Task) (a b : Problem) (r : Reply) → AnswersTwo t a b → TellsTwo t a b r → r.status ≡ Done
two_answered meet a b r h v = meet_answered a b r h v
two_answered sum a b r h v = sum_answered a b r h v
two_answered join a b r h v = join_answered a b r h v
two_answered check a b r h v = absurd v
two_answered relog a b r h v = absurd v
two_answered solve a b r h v = absurd v
two_answered dual a b r h v = absurd v
two_answered (sample n) a b r h v = absurd v
two_answered (project k) a b r h v = absurd v
two_answered (associate k) a b r h v = absurd v
two_answered map a b r h v = absurd v
two_answered weights a b r h v = absurd v
two_answered (weigh w) a b r h v = absurd v
two_answered vertices a b r h v = absurd v
two_answered facets a b r h v = absurd v
two_answered reconv a b r h v = absurd v

pub rep_answered : (t : Task) (logs : Bool) (rep : Rep) (r : Reply) → AnswersRep t rep → TellsRep t logs rep r → r.status ≡ Done
rep_answered vertices logs rep r h v = turn_answered false logs rep r h v
rep_answered facets logs rep r h v = turn_answered true logs rep r h v
rep_answered check logs rep r h v = absurd v
rep_answered relog logs rep r h v = absurd v
rep_answered solve logs rep r h v = absurd v
rep_answered dual logs rep r h v = absurd v
rep_answered (sample n) logs rep r h v = absurd v
rep_answered (project k) logs rep r h v = absurd v
rep_answered (associate k) logs rep r h v = absurd v
rep_answered meet logs rep r h v = absurd v
rep_answered sum logs rep r h v = absurd v
rep_answered join logs rep r h v = absurd v
rep_answered map logs rep r h v = absurd v
rep_answered weights logs rep r h v = absurd v
rep_answered (weigh w) logs rep r h v = absurd v
rep_answered reconv logs rep r h v = absurd v

pub conv_answered : (t : Task) (rep : Rep) (bytes : List ℕ) (r : Reply) → CanReconvert rep bytes → TellsConv t rep bytes r → r.status ≡ Done
conv_answered reconv rep bytes r h v = reconv_answered rep bytes r h v
conv_answered check rep bytes r h v = absurd v
conv_answered relog rep bytes r h v = absurd v
conv_answered solve rep bytes r h v = absurd v
conv_answered dual rep bytes r h v = absurd v
conv_answered (sample n) rep bytes r h v = absurd v
conv_answered (project k) rep bytes r h v = absurd v
conv_answered (associate k) rep bytes r h v = absurd v
conv_answered meet rep bytes r h v = absurd v
conv_answered sum rep bytes r h v = absurd v
conv_answered join rep bytes r h v = absurd v
conv_answered map rep bytes r h v = absurd v
conv_answered weights rep bytes r h v = absurd v
conv_answered (weigh w) rep bytes r h v = absurd v
conv_answered vertices rep bytes r h v = absurd v
conv_answered facets rep bytes r h v = absurd v

-- ---- never of words without a shape
pub alone_never_words : (t : Task) (r : Reply) → TellsAlone t r → Words ≡ r.status → ⊥
alone_never_words (sample n) r v same = sample_never_words n r v same
alone_never_words check r v same = v
alone_never_words relog r v same = v
alone_never_words solve r v same = v
alone_never_words dual r v same = v
alone_never_words (project k) r v same = v
alone_never_words (associate k) r v same = v
alone_never_words meet r v same = v
alone_never_words sum r v same = v
alone_never_words join r v same = v
alone_never_words map r v same = v
alone_never_words weights r v same = v
alone_never_words (weigh w) r v same = v
alone_never_words vertices r v same = v
alone_never_words facets r v same = v
alone_never_words reconv r v same = v

pub file_never_words : (t : Task) (logs : Bool) (file : Problem) (r : Reply) → TellsFile t logs file r → Words ≡ r.status → ⊥
file_never_words solve logs file r v same = solve_never_words logs file r v same
file_never_words dual logs file r v same = dual_never_words logs file r v same
file_never_words (project k) logs file r v same = project_never_words k logs file r v same
file_never_words (associate k) logs file r v same = associate_never_words k file r v same
file_never_words map logs file r v same = map_never_words file r v same
file_never_words weights logs file r v same = weights_never_words file r v same
file_never_words (weigh w) logs file r v same = weigh_never_words w file r v same
file_never_words check logs file r v same = v
file_never_words relog logs file r v same = v
file_never_words (sample n) logs file r v same = v
file_never_words meet logs file r v same = v
file_never_words sum logs file r v same = v
file_never_words join logs file r v same = v
file_never_words vertices logs file r v same = v
file_never_words facets logs file r v same = v
file_never_words reconv logs file r v same = v

pub log_never_words : (t : Task) (file : Problem) (bytes : List ℕ) (r : Reply) → TellsLog t file bytes r → Words ≡ r.status → ⊥
log_never_words check file bytes r v same = check_never_words file bytes r v same
log_never_words relog file bytes r v same = relog_never_words file bytes r v same
log_never_words solve file bytes r v same = v
log_never_words dual file bytes r v same = v
log_never_words (sample n) file bytes r v same = v
log_never_words (project k) file bytes r v same = v
log_never_words (associate k) file bytes r v same = v
log_never_words meet file bytes r v same = v
log_never_words sum file bytes r v same = v
log_never_words join file bytes r v same = v
log_never_words map file bytes r v same = v
log_never_words weights file bytes r v same = v
log_never_words (weigh w) file bytes r v same = v
log_never_words vertices file bytes r v same = v
log_never_words facets file bytes r v same = v
log_never_words reconv file bytes r v same = v

pub two_never_words : (t : Task) (a b : Problem) (r : Reply) → TellsTwo t a b r → Words ≡ r.status → ⊥
two_never_words meet a b r v same = meet_never_words a b r v same
two_never_words sum a b r v same = sum_never_words a b r v same
two_never_words join a b r v same = join_never_words a b r v same
two_never_words check a b r v same = v
two_never_words relog a b r v same = v
two_never_words solve a b r v same = v
two_never_words dual a b r v same = v
two_never_words (sample n) a b r v same = v
two_never_words (project k) a b r v same = v
two_never_words (associate k) a b r v same = v
two_never_words map a b r v same = v
two_never_words weights a b r v same = v
two_never_words (weigh w) a b r v same = v
two_never_words vertices a b r v same = v
two_never_words facets a b r v same = v
two_never_words reconv a b r v same = v

pub rep_never_words : (t : Task) (logs : Bool) (rep : Rep) (r : Reply) → TellsRep t logs rep r → Words ≡ r.status → ⊥
rep_never_words vertices logs rep r v same = turn_never_words false logs rep r v same
rep_never_words facets logs rep r v same = turn_never_words true logs rep r v same
rep_never_words check logs rep r v same = v
rep_never_words relog logs rep r v same = v
rep_never_words solve logs rep r v same = v
rep_never_words dual logs rep r v same = v
rep_never_words (sample n) logs rep r v same = v
rep_never_words (project k) logs rep r v same = v
rep_never_words (associate k) logs rep r v same = v
rep_never_words meet logs rep r v same = v
rep_never_words sum logs rep r v same = v
rep_never_words join logs rep r v same = v
rep_never_words map logs rep r v same = v
rep_never_words weights logs rep r v same = v
rep_never_words (weigh w) logs rep r v same = v
rep_never_words reconv logs rep r v same = v

pub conv_never_words : (t : Task) (rep : Rep) (bytes : List ℕ) (r : Reply) → TellsConv t rep bytes r → Words ≡ r.status → ⊥
conv_never_words reconv rep bytes r v same = reconv_never_words rep bytes r v same
conv_never_words check rep bytes r v same = v
conv_never_words relog rep bytes r v same = v
conv_never_words solve rep bytes r v same = v
conv_never_words dual rep bytes r v same = v
conv_never_words (sample n) rep bytes r v same = v
conv_never_words (project k) rep bytes r v same = v
conv_never_words (associate k) rep bytes r v same = v
conv_never_words meet rep bytes r v same = v
conv_never_words sum rep bytes r v same = v
conv_never_words join rep bytes r v same = v
conv_never_words map rep bytes r v same = v
conv_never_words weights rep bytes r v same = v
conv_never_words (weigh w) rep bytes r v same = v
conv_never_words vertices rep bytes r v same = v
conv_never_words facets rep bytes r v same = v

-- ---- without a log
pub alone_quiet : (t : Task) (r : Reply) → TellsAlone t r → r.log ≡ None
alone_quiet (sample n) r v = sample_quiet n r v
alone_quiet check r v = absurd v
alone_quiet relog r v = absurd v
alone_quiet solve r v = absurd v
alone_quiet dual r v = absurd v
alone_quiet (project k) r v = absurd v
alone_quiet (associate k) r v = absurd v
alone_quiet meet r v = absurd v
alone_quiet sum r v = absurd v
alone_quiet join r v = absurd v
alone_quiet map r v = absurd v
alone_quiet weights r v = absurd v
alone_quiet (weigh w) r v = absurd v
alone_quiet vertices r v = absurd v
alone_quiet facets r v = absurd v
alone_quiet reconv r v = absurd v

pub file_quiet : (t : Task) (file : Problem) (r : Reply) → TellsFile t false file r → r.log ≡ None
file_quiet solve file r v = solve_quiet file r v
file_quiet dual file r v = dual_quiet file r v
file_quiet (project k) file r v = project_quiet k file r v
file_quiet (associate k) file r v = associate_quiet k file r v
file_quiet map file r v = map_quiet file r v
file_quiet weights file r v = weights_quiet file r v
file_quiet (weigh w) file r v = weigh_quiet w file r v
file_quiet check file r v = absurd v
file_quiet relog file r v = absurd v
file_quiet (sample n) file r v = absurd v
file_quiet meet file r v = absurd v
file_quiet sum file r v = absurd v
file_quiet join file r v = absurd v
file_quiet vertices file r v = absurd v
file_quiet facets file r v = absurd v
file_quiet reconv file r v = absurd v

pub log_quiet : (t : Task) (file : Problem) (bytes : List ℕ) (r : Reply) → TellsLog t file bytes r → r.log ≡ None
log_quiet check file bytes r v = check_quiet file bytes r v
log_quiet relog file bytes r v = relog_quiet file bytes r v
log_quiet solve file bytes r v = absurd v
log_quiet dual file bytes r v = absurd v
log_quiet (sample n) file bytes r v = absurd v
log_quiet (project k) file bytes r v = absurd v
log_quiet (associate k) file bytes r v = absurd v
log_quiet meet file bytes r v = absurd v
log_quiet sum file bytes r v = absurd v
log_quiet join file bytes r v = absurd v
log_quiet map file bytes r v = absurd v
log_quiet weights file bytes r v = absurd v
log_quiet (weigh w) file bytes r v = absurd v
log_quiet vertices file bytes r v = absurd v
log_quiet facets file bytes r v = absurd v
log_quiet reconv file bytes r v = absurd v

pub two_quiet : (t : Task) (a b : Problem) (r : Reply) → TellsTwo t a b r → r.log ≡ None
two_quiet meet a b r v = meet_quiet a b r v
two_quiet sum a b r v = sum_quiet a b r v
two_quiet join a b r v = join_quiet a b r v
two_quiet check a b r v = absurd v
two_quiet relog a b r v = absurd v
two_quiet solve a b r v = absurd v
two_quiet dual a b r v = absurd v
two_quiet (sample n) a b r v = absurd v
two_quiet (project k) a b r v = absurd v
two_quiet (associate k) a b r v = absurd v
two_quiet map a b r v = absurd v
two_quiet weights a b r v = absurd v
two_quiet (weigh w) a b r v = absurd v
two_quiet vertices a b r v = absurd v
two_quiet facets a b r v = absurd v
two_quiet reconv a b r v = absurd v

pub rep_quiet : (t : Task) (rep : Rep) (r : Reply) → TellsRep t false rep r → r.log ≡ None
rep_quiet vertices rep r v = turn_quiet false rep r v
rep_quiet facets rep r v = turn_quiet true rep r v
rep_quiet check rep r v = absurd v
rep_quiet relog rep r v = absurd v
rep_quiet solve rep r v = absurd v
rep_quiet dual rep r v = absurd v
rep_quiet (sample n) rep r v = absurd v
rep_quiet (project k) rep r v = absurd v
rep_quiet (associate k) rep r v = absurd v
rep_quiet meet rep r v = absurd v
rep_quiet sum rep r v = absurd v
rep_quiet join rep r v = absurd v
rep_quiet map rep r v = absurd v
rep_quiet weights rep r v = absurd v
rep_quiet (weigh w) rep r v = absurd v
rep_quiet reconv rep r v = absurd v

pub conv_quiet : (t : Task) (rep : Rep) (bytes : List ℕ) (r : Reply) → TellsConv t rep bytes r → r.log ≡ None
conv_quiet reconv rep bytes r v = reconv_quiet rep bytes r v
conv_quiet check rep bytes r v = absurd v
conv_quiet relog rep bytes r v = absurd v
conv_quiet solve rep bytes r v = absurd v
conv_quiet dual rep bytes r v = absurd v
conv_quiet (sample n) rep bytes r v = absurd v
conv_quiet (project k) rep bytes r v = absurd v
conv_quiet (associate k) rep bytes r v = absurd v
conv_quiet meet rep bytes r v = absurd v
conv_quiet sum rep bytes r v = absurd v
conv_quiet join rep bytes r v = absurd v
conv_quiet map rep bytes r v = absurd v
conv_quiet weights rep bytes r v = absurd v
conv_quiet (weigh w) rep bytes r v = absurd v
conv_quiet vertices rep bytes r v = absurd v
conv_quiet facets rep bytes r v = absurd v
