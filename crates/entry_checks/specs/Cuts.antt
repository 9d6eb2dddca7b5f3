-- Cuts as code holds them, as the rules state them.
use Rattle.std.specs.Prelude.{ℕ, List, map}
use Rattle.log_rules.specs.Live.{Stated, cut_at}
use Rattle.entry_checks.specs.declared.corner.Cut.{Cut}

-- a cut with its dual vector
abbrev pub stated : Cut → Stated
stated cut = record { w = cut.w; gamma = cut.gamma; u = cut.u }

-- the cuts with these numbers
abbrev pub named_from : List Stated → List ℕ → List Stated
named_from cuts named = map (cut_at cuts) named
