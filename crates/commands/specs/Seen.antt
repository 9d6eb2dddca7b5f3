-- What a command of the code stands for.
use Rattle.commands.specs.declared.command.Command.{Command}
use Rattle.commands.specs.declared.command.Files.{Files as Named}
use Rattle.commands.specs.declared.command.Files.TheVariants as named
use Rattle.commands.specs.declared.command.Task.{Task as Made}
use Rattle.commands.specs.declared.command.Task.TheVariants as made
use Rattle.commands.specs.Tasks.{Task, Files, Shape, shape}
use Rattle.commands.specs.Tasks.Task.{check, relog, solve, dual, sample, project, associate, meet, sum, join, map, weights, weigh, vertices, facets, reconv}
use Rattle.commands.specs.Tasks.Files.{none, one, two, logged}

-- the task of a command,
abbrev pub task_seen : Made → Task
task_seen made.Check = check
task_seen made.Relog = relog
task_seen made.Solve = solve
task_seen made.Dual = dual
task_seen (made.Sample number) = sample number
task_seen (made.Project columns) = project columns
task_seen (made.Associate columns) = associate columns
task_seen made.Meet = meet
task_seen made.Sum = sum
task_seen made.Join = join
task_seen made.Map = map
task_seen made.Weights = weights
task_seen (made.Weigh word) = weigh word.now
task_seen made.Vertices = vertices
task_seen made.Facets = facets
task_seen made.Reconv = reconv

-- the files that it names,
abbrev pub files_seen : Named → Files
files_seen named.Nothing = none
files_seen (named.Problem problem) = one problem.now
files_seen (named.Second problem second) = two problem.now second.now
files_seen (named.Log problem log) = logged problem.now log.now

-- and the shape of its words
abbrev pub shape_seen : Command → Shape
shape_seen c = shape (task_seen c.task) (files_seen c.files)
