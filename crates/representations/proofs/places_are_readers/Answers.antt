use Rattle.representations.proofs.Places.{places_are_readers}
use Rattle.representations.proofs.places_are_readers.Goals as goal

pub returns : goal.returns
returns c = places_are_readers
