use Rattle.vlp_printer.proofs.ReadNumbers.{number_back}
use Rattle.vlp_printer.proofs.ReadWords.{words_read}
use Rattle.vlp_printer.proofs.RoundTrip.{reads_back}
use Rattle.vlp_printer.proofs.WordNumbers.{no_word}
use Rattle.vlp_printer.proofs.laws.what_is_printed_reads_back.Goals as goal

pub returns : goal.returns
returns c =
    record {
      word = λ q h. number_back q h;
      no_word = λ q h. no_word q h;
      round_trip = λ problem words limits. reads_back problem words limits;
      read_words = λ bytes problem reads. words_read bytes problem reads;
    }
