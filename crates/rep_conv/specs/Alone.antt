-- What a conversion gives depends on the set alone.
use Rattle.std.specs.Prelude.{◌≡◌, ◌↔◌, List}
use Rattle.exact_field.specs.Rational.{ℚ}
use Rattle.rep_conv.specs.Sets.{IsMember}
use Rattle.rep_conv.specs.Converted.{Converts, Gives}
use Rattle.rep_text.specs.declared.rep.Rep.{Rep}
use Rattle.rep_text.specs.declared.conv.ConvEntry.{ConvEntry}

-- each text of the same kind and width that has the same set, converted by any log, gives these rows
abbrev pub IsAlone : Rep → Rep → Type 0
IsAlone rep found = (other : Rep) (entries : List ConvEntry) (given : Rep) →
    rep.gens ≡ other.gens → rep.width ≡ other.width →
    ((z : List ℚ) → IsMember rep z ↔ IsMember other z) →
    Converts other entries → Gives other entries given → found.rows ≡ given.rows
