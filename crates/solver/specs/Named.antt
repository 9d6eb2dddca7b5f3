-- Entries of cuts and facets. For the clauses of the code alone.
use Rattle.std.specs.Prelude.{ℕ, Bool, true, false, ◌==◌}
use Rattle.deriv_log.specs.declared.entry.Entry.{Entry}
use Rattle.deriv_log.specs.declared.entry.Entry.TheVariants.{Cut, Facet}

-- the entry is a cut
abbrev pub is_cut : Entry → Bool
is_cut (Cut w gamma u v) = true
is_cut _ = false

-- the entry names the cut of this number as a facet
abbrev pub is_facet : ℕ → Entry → Bool
is_facet k (Facet cut) = cut == k
is_facet k _ = false
