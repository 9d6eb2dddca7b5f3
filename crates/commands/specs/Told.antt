-- Which licences a run can tell: those with operands that are held, and a trail that a log can write
-- but for the order in its sparse vectors.
use Rattle.std.specs.Prelude.{Bool, ◌&&◌, List, [], ◌∷◌, length, All, IsTrue}
use Rattle.std.specs.List.{list_all}
use Rattle.frac128.specs.Held.{is_held}
use Rattle.word_lines.specs.Parts.{Part, sparse, is_short, is_formed_part, is_formed_spot}
use Rattle.deriv_log.specs.LogText.{entry_parts}
use Rattle.deriv_log.specs.declared.entry.Entry.{Entry}
use Rattle.deriv_log.specs.declared.licence.Licence.{Licence}
use Rattle.commands.specs.declared.status.Status.{Status}
use Rattle.commands.specs.declared.status.Status.TheVariants.{Left}

-- a part that a line has, but for the order of the places of a sparse vector
abbrev pub is_held_part : Part → Bool
is_held_part (sparse u) = is_short (length u) && list_all is_formed_spot u
is_held_part p = is_formed_part p

-- .. several
abbrev pub AreHeldParts : List Part → Type 0
AreHeldParts [] = Unit {0}
AreHeldParts (p ∷ ps) = IsTrue (is_held_part p) × AreHeldParts ps

-- .. and those of an entry
abbrev pub IsHeldEntry : Entry → Type 0
IsHeldEntry e = AreHeldParts (entry_parts e)

-- both operands of a licence are held, and each entry of its trail
pub record CanBeTold (licence : Licence) : Type 0 where
  pub a_held : IsTrue (is_held licence.left.a)
  pub b_held : IsTrue (is_held licence.left.b)
  pub trail_held : All IsHeldEntry licence.trail

-- the licence of a status, where it has one
abbrev pub CanTell : Status → Type 0
CanTell (Left licence) = CanBeTold licence
CanTell _ = Unit {0}
