-- The double description of the first rows over dual vectors.
use Rattle.std.proofs.Common.{◌≡◌, ◌∙◌, ℕ, suc, Bool, true, false, List, All, Contains, length, ap, refl, sym, subst}
use Rattle.std.proofs.lemmas.List.Elements.{All-weaker}
use Rattle.exact_field.specs.Rational.{ℚ}
use Rattle.polyhedra.specs.Cone.{HasFullRank}
use Rattle.polyhedra.specs.LiveList.{LiveList}
use Rattle.polyhedra.specs.Vectors.{AreWide}
use Rattle.polyhedra.proofs.Lists.{HasWidth}
use Rattle.polyhedra.proofs.Members.{all_of_members, member_of}
use Rattle.double_descr.specs.State.{State as Description}
use Rattle.deriv_log.specs.declared.entry.Entry.{Entry}
use Rattle.deriv_log.specs.declared.licence.Family.TheVariants.{Exchanged}
use Rattle.overflows.specs.Base.{IsBaseChoice, IsBaseRow, IsConeDirection, image_of}
use Rattle.overflows.specs.Base.IsBaseRow.{of_choice, of_cone}
use Rattle.overflows.specs.Dictionaries.{AreStartRows}
use Rattle.overflows.specs.Generators.{IsAddition}
use Rattle.geo_duality.specs.Rows.{exchange_row}
use Rattle.overflows.proofs.Making.{generator_laws}
use Rattle.cone_dual.specs.Generators.{IsDescriptionOf, MayDescribe, begun_with}
use Rattle.cone_dual.proofs.Reordered.{begun_listed, picked_places, rows_begun}
use Rattle.outer_approx.specs.Task.{Task, IsFitting, setting}
use Rattle.lower_image.specs.Lower.{AreLowerRows, AreSpanning}
use Rattle.lower_image.specs.Starting.{IsLowerDescription, first_rows}
use Rattle.lower_image.proofs.LowerRows.{base_long, lower_rows}
use Rattle.lower_image.proofs.Start.{lower_start}
use Rattle.lower_image.proofs.Weights.{c_wide, fits}

module _ (holds : ℚ → Bool) (task : Task) (fit : IsFitting holds task) (rows : List (List ℚ)) (are : AreLowerRows task.file task.c rows) where
  base_among : (some : List (List ℚ)) → All (Contains rows) some → All (IsBaseRow task.file task.c) some
  base_among some all = All-weaker (Contains rows) (IsBaseRow task.file task.c)
      (λ r k. member_of (IsBaseRow task.file task.c) rows r are.base k) some all

  -- base rows may be eliminated and added, whatever stands before
  base_may : (trail : List Entry) → MayDescribe (setting task trail) Exchanged (suc task.file.objs) rows
  base_may trail = record {
    eliminated = λ some all. AreStartRows.of_base task.c refl (base_among some all);
    added = λ before last list all here made.
        IsAddition.of_base task.c refl (base_among before all) (member_of (IsBaseRow task.file task.c) rows last are.base here) made;
  }

  base_rank : HasFullRank (suc task.file.objs) rows
  base_rank = lower_rows.rank task.file task.c rows (fits task holds fit) are

  described_lower : (dd : Description) → IsDescriptionOf (suc task.file.objs) rows dd → IsLowerDescription task dd
  described_lower dd is = record {
    width = is.width;
    lower = record {
      rows_are = begun_are;
      live = generator_laws.live (suc task.file.objs) dd.rows dd.list wide is.made;
      made = is.made;
    };
  }
    where
      begun_are : AreLowerRows task.file task.c dd.rows
      begun_are =
          let places = picked_places (suc task.file.objs) rows is.picks is.independent in
          subst (AreLowerRows task.file task.c) (sym is.rows_are)
          (lower_start.again task.file task.c rows (begun_with is.picks rows) are
          (λ r k. member_of (Contains (begun_with is.picks rows)) rows r (rows_begun rows is.picks places) k)
          (begun_listed rows is.picks places))

      wide : AreWide (suc task.file.objs) dd.rows
      wide = record {
        wide = all_of_members (HasWidth (suc task.file.objs)) dd.rows
            (λ r k. base_long task.file task.c r (c_wide task holds fit) (member_of (IsBaseRow task.file task.c) dd.rows r begun_are.base k));
      }

-- so they are where the rows begin with those of a feasible point and of directions that span
module _ (holds : ℚ → Bool) (task : Task) (fit : IsFitting holds task) (x : List ℚ) (es rows : List (List ℚ)) (n : ℕ) (choice : IsBaseChoice task.file x)
    (spans : AreSpanning task.file es) (first : rows ≡ first_rows task.file task.c x es) (width : n ≡ suc task.file.objs) where
  first_are : AreLowerRows task.file task.c rows
  first_are = subst (AreLowerRows task.file task.c) (sym first) (lower_start.begins task.file task.c x es (fits task holds fit) choice spans)

  pub first_rank : HasFullRank n rows
  first_rank = subst (λ (k : ℕ). HasFullRank k rows) (sym width) (base_rank holds task fit rows first_are)

  pub first_described : (dd : Description) → IsDescriptionOf n rows dd → IsLowerDescription task dd
  first_described dd is = described_lower holds task fit rows first_are dd (subst (λ (k : ℕ). IsDescriptionOf k rows dd) width is)

  pub first_may : (trail : List Entry) → MayDescribe (setting task trail) Exchanged n rows
  first_may trail = subst (λ (k : ℕ). MayDescribe (setting task trail) Exchanged k rows) (sym width) (base_may holds task fit rows first_are trail)

-- ---- single rows
module _ (holds : ℚ → Bool) (task : Task) (fit : IsFitting holds task) (k : List ℚ) (same : k ≡ task.c) where
  -- the row of a feasible point, and that of a direction
  pub choice_base : (x y : List ℚ) → IsBaseChoice task.file x → y ≡ image_of task.file x → IsBaseRow task.file k (exchange_row k y true)
  choice_base x y choice is = subst (λ (c : List ℚ). IsBaseRow task.file c (exchange_row c y true)) (sym same)
      (of_choice x choice (ap (λ (v : List ℚ). exchange_row task.c v true) is))

  pub direction_base : (e : List ℚ) → IsConeDirection task.file e → IsBaseRow task.file k (exchange_row k e false)
  direction_base e h = subst (λ (c : List ℚ). IsBaseRow task.file c (exchange_row c e false)) (sym same) (of_cone e h refl)

  pub exchanged_long : (y row : List ℚ) (t : Bool) → IsBaseRow task.file k (exchange_row k y t) → row ≡ exchange_row k y t → length row ≡ suc task.file.objs
  exchanged_long y row t base is = ap length is ∙ base_long task.file k (exchange_row k y t) (ap length same ∙ c_wide task holds fit) base
