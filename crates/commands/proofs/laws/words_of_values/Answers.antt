use Rattle.commands.proofs.NumberWords.{named, names}
use Rattle.commands.proofs.WeightWords.{one_list, weights_written, written_passes}
use Rattle.commands.proofs.laws.words_of_values.Goals as goal

pub returns : goal.returns
returns c =
    record {
      numbers = λ most word number below. (names most word number, named most word number below);
      weights = λ word. (weights_written word, written_passes word);
      one_list = one_list;
    }
