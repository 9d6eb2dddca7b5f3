use Rattle.std.proofs.Common.{◌≡◌, ◌∙◌, ℕ, List}
use Rattle.std.specs.Prelude.{Result, Ok, Err, IfOk}
use Rattle.src_sink.specs.declared.items.NoMemory.{NoMemory}
use Rattle.polyhedra.specs.LiveList.{IsRising}
use Rattle.log_versions.specs.Hints.{least_hints, opposite_pairs}
use Rattle.log_live.specs.Hinting.{hints_along}
use Rattle.log_live.specs.Live.{live_of}
use Rattle.log_live.proofs.LeastHints.{told_are_least}
use Rattle.log_live.proofs.PairCounts.{rising_of}
use Rattle.log_live.proofs.asking.least_hints.Goals as goal

along : (told least : List ℕ) → told ≡ least → (result : Result (List ℕ) NoMemory) →
    IfOk result (λ hints. hints ≡ told) → IfOk result (λ hints. hints ≡ least)
along told least e (Ok hints) h = h ∙ e
along told least e (Err x) h = h

pub returns : goal.returns
returns c q rows row a paired =
    let rising : (next : ℕ) ×
    IsRising (record { live = live_of c.args.generators.now; next = next }) = rising_of
    c.args.generators.now a.rises in
    along (hints_along rows (live_of c.args.generators.now)
    (opposite_pairs (live_of c.args.generators.now) row) c.args.pairs.now)
    (least_hints rows (live_of c.args.generators.now) row c.args.pairs.now)
    (told_are_least rows (record { live = live_of c.args.generators.now; next = rising.0 }) row
    c.args.pairs.now rising.1 paired)
    c.tell_hints.result (c.tell_hints.ensures rows row a.tight a.at_row)
