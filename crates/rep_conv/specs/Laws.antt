-- What is proved of conversions.
use Rattle.std.specs.Prelude.{◌≡◌, ◌↔◌, suc, ◌<◌, Bool, true, List, length, All, None}
use Rattle.exact_field.specs.Rational.{ℚ}
use Rattle.lineality.specs.Lines.{AreEchelon}
use Rattle.polyhedra.specs.LiveSteps.{IsLive}
use Rattle.representations.specs.Lined.{AreTightAt, pinned, places_of}
use Rattle.rep_conv.specs.Sets.{IsMember}
use Rattle.rep_conv.specs.Rows.{text_rows}
use Rattle.rep_conv.specs.Live.{State, state, rows_in_use}
use Rattle.rep_conv.specs.Meets.{AllMeet, has_start}
use Rattle.rep_conv.specs.Events.{AllHeld, conv_failure}
use Rattle.rep_conv.specs.Converted.{Converts, Gives, IsOther}
use Rattle.rep_text.specs.declared.rep.Rep.{Rep}
use Rattle.rep_text.specs.declared.conv.ConvEntry.{ConvEntry}

-- ---- the order of evaluation, and the rules
-- no event fails exactly where all entries meet their rules and the result of each step is held
abbrev pub EventsAreRules : Type 0
EventsAreRules = (holds : ℚ → Bool) (rep : Rep) (entries : List ConvEntry) →
    (conv_failure holds rep entries ≡ None) ↔ (AllMeet rep entries × AllHeld holds rep entries)

-- ---- what stands
-- the lines are in reduced echelon form, and each row is 0 at them
pub record LinesStand (rep : Rep) (lines : List (List ℚ)) : Type 0 where
  pub echelon : AreEchelon (suc rep.width) lines
  pub corner : AreTightAt (text_rows rep) lines

-- the readers of the lines' places
abbrev pub readers : Rep → State → List (List ℚ)
readers rep s = places_of (suc rep.width) s.lines

-- with these readers and their negatives, the rows in use have the live generators, numbered by
-- their making and normed, as those of their cone
pub record GeneratorsStand (rep : Rep) (s : State) : Type 0 where
  pub live : IsLive (suc rep.width) (pinned (readers rep s) (rows_in_use rep s)) s.list
  pub exist : All (λ k. k < length (text_rows rep)) s.used

-- the lines always, and the generators after a `start`
pub record Stands (rep : Rep) (s : State) (started : Bool) : Type 0 where
  pub lines : LinesStand rep s.lines
  pub begun : started ≡ true → GeneratorsStand rep s

-- so it is after entries that meet their rules
abbrev pub RulesKeepDescription : Type 0
RulesKeepDescription = (rep : Rep) (entries : List ConvEntry) → AllMeet rep entries →
    Stands rep (state rep entries) (has_start entries)

-- ---- what a conversion gives
-- such entries give the other representation of the same set
abbrev pub ConversionKeepsSet : Type 0
ConversionKeepsSet = (rep : Rep) (entries : List ConvEntry) (other : Rep) →
    Converts rep entries → Gives rep entries other →
    (z : List ℚ) → IsMember rep z ↔ IsMember other z

-- and no row of it can be left out
abbrev pub ConversionIsRight : Type 0
ConversionIsRight = (rep : Rep) (entries : List ConvEntry) (other : Rep) →
    Converts rep entries → Gives rep entries other → IsOther rep other

-- and it depends on the set alone: for two representations of one kind and width that have one set
-- its rows are the same
abbrev pub OneOther : Type 0
OneOther = (rep rep' : Rep) (entries entries' : List ConvEntry) (other other' : Rep) →
    rep.gens ≡ rep'.gens → rep.width ≡ rep'.width →
    ((z : List ℚ) → IsMember rep z ↔ IsMember rep' z) →
    Converts rep entries → Converts rep' entries' →
    Gives rep entries other → Gives rep' entries' other' → other.rows ≡ other'.rows
