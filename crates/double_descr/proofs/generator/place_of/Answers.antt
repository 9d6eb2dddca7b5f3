use Rattle.std.proofs.Common.{ℕ, ◌<◌, ◌≤◌, get_or, length}
use Rattle.std.proofs.lemmas.List.Sorted.{searched}
use Rattle.double_descr.proofs.Reading.{not_found, rising_places}
use Rattle.double_descr.proofs.generator.place_of.Goals as goal

pub unreachable-requires : goal.unreachable-requires
unreachable-requires c =
    let found = searched c.args.numbers.now c.args.number c.binary_search.result c.binary_search.ensures.position
    (rising_places c.args.numbers.now c.requires.rises) in
    let place : (c.in-Err.field-0 ≤ length c.args.numbers.now) × ((k : ℕ) → k < c.in-Err.field-0 → get_or c.args.numbers.now k 0 < c.args.number)
    × ((k : ℕ) → c.in-Err.field-0 ≤ k → k < length c.args.numbers.now → c.args.number < get_or c.args.numbers.now k 0) = rw c.in-Err.is at found in
    not_found c.args.numbers.now c.args.number c.in-Err.field-0 c.requires.listed place.1 place.2
