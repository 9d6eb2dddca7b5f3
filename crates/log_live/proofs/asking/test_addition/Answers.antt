use Rattle.std.proofs.Common.{sym, subst, ℕ, List, Bor}
use Rattle.std.specs.Prelude.{⊤, Option, option_copied}
use Rattle.frac128.specs.Held.{is_held}
use Rattle.log_rules.specs.Runs.{Runs}
use Rattle.log_live.specs.Hinting.{addition_tests}
use Rattle.log_live.specs.Live.{live_of}
use Rattle.log_live.proofs.asking.test_addition.Goals as goal

pub returns-in-Some : goal.returns-in-Some
returns-in-Some c q rows row taken a =
    subst (λ (o : Option (Bor (List ℕ))). Runs {X = Unit {0}} is_held
    (addition_tests rows (live_of c.args.generators.now) row c.args.pairs.now (option_copied o))
    taken taken (λ _. ⊤) c.test_hints.result) (sym c.in-Some.is)
    (c.test_hints.ensures q rows row taken a)

pub returns-in-None : goal.returns-in-None
returns-in-None c q rows row taken a =
    subst (λ (o : Option (Bor (List ℕ))). Runs {X = Unit {0}} is_held
    (addition_tests rows (live_of c.args.generators.now) row c.args.pairs.now (option_copied o))
    taken taken (λ _. ⊤) c.test_pairs.result) (sym c.in-None.is)
    (c.test_pairs.ensures q rows row taken a)
