-- What a conversion gives: the other representation.
use Rattle.std.specs.Prelude.{◌≡◌, ◌↔◌, ℕ, suc, ◌==◌, Bool, true, false, not, List, [], ◌∷◌, ◌++◌, map, length, take, filter, replicate, if◌then◌else◌}
use Rattle.std.specs.List.{list_all}
use Rattle.exact_field.specs.Rational.{ℚ, zero_ℚ, one_ℚ}
use Rattle.exact_field.specs.Order.{same_ℚ}
use Rattle.exact_field.specs.Vector.{entry}
use Rattle.polyhedra.specs.DoubleDescription.{is_zero}
use Rattle.polyhedra.specs.LiveList.{vectors}
use Rattle.log_rules.specs.Proves.{IsSorting}
use Rattle.rep_conv.specs.Sets.{IsMember}
use Rattle.rep_conv.specs.Rows.{has_rows}
use Rattle.rep_conv.specs.Live.{State, state}
use Rattle.rep_conv.specs.Meets.{AllMeet}
use Rattle.rep_text.specs.declared.rep.Rep.{Rep}
use Rattle.rep_text.specs.declared.rep.RepKind.{RepKind}
use Rattle.rep_text.specs.declared.rep.RepKind.TheVariants.{Side, Equal, Line, Point, Direction}
use Rattle.rep_text.specs.declared.rep.RepRow.{RepRow}
use Rattle.rep_text.specs.declared.conv.ConvEntry.{ConvEntry}
use Rattle.rep_text.specs.declared.conv.ConvEntry.TheVariants.{End}

-- vectors as rows of one kind
abbrev pub as_rows : RepKind → List (List ℚ) → List RepRow
as_rows kind vs = map (λ v. record { kind = kind; v = v }) vs

-- the live generators of this height, without it
abbrev pub at_height : ℕ → ℚ → State → List (List ℚ)
at_height width t s =
    map (take width) (filter (λ g. same_ℚ (entry g (suc width)) t) (vectors s.list.live))

-- the live inequalities whose normal is not 0
abbrev pub with_normal : ℕ → State → List (List ℚ)
with_normal width s = filter (λ g. not (list_all is_zero (take width g))) (vectors s.list.live)

-- lines, points and directions, the last two in rising order; nothing where there is no point
pub record GivesGenerators (width : ℕ) (s : State) (rows : List RepRow) : Type 0 where
  pub points : List (List ℚ)
  pub directions : List (List ℚ)
  pub points_are : IsSorting (λ v. v) (at_height width one_ℚ s) points
  pub directions_are : IsSorting (λ v. v) (at_height width zero_ℚ s) directions
  pub all : rows ≡ (if length points == 0 then []
      else as_rows Line (map (take width) s.lines)
      ++ (as_rows Point points ++ as_rows Direction directions))

-- equations and inequalities, the last in rising order
pub record GivesInequalities (width : ℕ) (s : State) (rows : List RepRow) : Type 0 where
  pub sides : List (List ℚ)
  pub sides_are : IsSorting (λ v. v) (with_normal width s) sides
  pub all : rows ≡ as_rows Equal s.lines ++ as_rows Side sides

-- the one inequality that nothing meets: 0 ≥ 1
abbrev pub nothing_meets : ℕ → List RepRow
nothing_meets width = as_rows Side ((replicate width zero_ℚ ++ one_ℚ ∷ []) ∷ [])

-- by whether points, directions and lines are converted, and whether there are rows
abbrev pub GivesRows : Bool → Bool → ℕ → State → List RepRow → Type 0
GivesRows true true width s rows = GivesInequalities width s rows
GivesRows true false width s rows = rows ≡ nothing_meets width
GivesRows false _ width s rows = GivesGenerators width s rows

-- the entries give this other representation
pub record Gives (rep : Rep) (entries : List ConvEntry) (other : Rep) : Type 0 where
  pub turned : other.gens ≡ not rep.gens
  pub width : other.width ≡ rep.width
  pub rows : GivesRows rep.gens (has_rows rep) rep.width (state rep entries) other.rows

-- ---- what is right of it
-- without one of its rows
pub record IsWithout (other less : Rep) : Type 0 where
  pub before : List RepRow
  pub row : RepRow
  pub after : List RepRow
  pub split : other.rows ≡ before ++ row ∷ after
  pub left : less.rows ≡ before ++ after
  pub same_kind : less.gens ≡ other.gens
  pub same_width : less.width ≡ other.width

-- it is the other representation of the same set, and no row of it can be left out
pub record IsOther (rep other : Rep) : Type 0 where
  pub turned : other.gens ≡ not rep.gens
  pub width : other.width ≡ rep.width
  pub same_set : (z : List ℚ) → IsMember rep z ↔ IsMember other z
  pub needed : (less : Rep) → IsWithout other less →
      ((z : List ℚ) → IsMember other z ↔ IsMember less z) → ⊥

-- the entries meet all their rules, and end
pub record Converts (rep : Rep) (entries : List ConvEntry) : Type 0 where
  pub meet : AllMeet rep entries
  pub before : List ConvEntry
  pub ends : entries ≡ before ++ End ∷ []
