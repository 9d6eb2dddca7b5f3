use Rattle.std.proofs.Common.{codes}
use Rattle.word_lines.proofs.Fronts.{of_name}
use Rattle.deriv_log.specs.LogGrammar.{log_grammar}
use Rattle.deriv_log.proofs.line.take_entry.Goals as goal

pub returns-then-is_word : goal.returns-then-is_word
returns-then-is_word c = of_name log_grammar c.args.name.now (codes "cut") c.args.words.now c.take_cut.new.words c.take_cut.result c.if-is_word.ensures c.take_cut.ensures

pub returns-then-is_word-2 : goal.returns-then-is_word-2
returns-then-is_word-2 c = of_name log_grammar c.args.name.now (codes "add") c.args.words.now c.take_add.new.words c.take_add.result c.if-is_word-2.ensures c.take_add.ensures

pub returns-then-is_word-3 : goal.returns-then-is_word-3
returns-then-is_word-3 c = of_name log_grammar c.args.name.now (codes "point") c.args.words.now c.take_point.new.words c.take_point.result c.if-is_word-3.ensures c.take_point.ensures

pub returns-then-is_word-4 : goal.returns-then-is_word-4
returns-then-is_word-4 c = of_name log_grammar c.args.name.now (codes "ray") c.args.words.now c.take_ray.new.words c.take_ray.result c.if-is_word-4.ensures c.take_ray.ensures

pub returns-then-is_word-5 : goal.returns-then-is_word-5
returns-then-is_word-5 c = of_name log_grammar c.args.name.now (codes "facet") c.args.words.now c.take_facet.new.words c.take_facet.result c.if-is_word-5.ensures c.take_facet.ensures

pub returns-then-is_word-6 : goal.returns-then-is_word-6
returns-then-is_word-6 c = of_name log_grammar c.args.name.now (codes "version") c.args.words.now c.take_version.new.words c.take_version.result c.if-is_word-6.ensures c.take_version.ensures

pub returns-then-is_word-7 : goal.returns-then-is_word-7
returns-then-is_word-7 c = of_name log_grammar c.args.name.now (codes "duality") c.args.words.now c.take_duality.new.words c.take_duality.result c.if-is_word-7.ensures c.take_duality.ensures

pub returns-then-is_word-8 : goal.returns-then-is_word-8
returns-then-is_word-8 c = of_name log_grammar c.args.name.now (codes "start") c.args.words.now c.take_start.new.words c.take_start.result c.if-is_word-8.ensures c.take_start.ensures
