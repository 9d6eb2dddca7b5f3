-- Cuts along a chain as first cuts.
use Rattle.std.proofs.Common.{◌≡◌, [], List, length, All, subst, sym, arith}
use Rattle.std.proofs.lemmas.List.Elements.{All-nil}
use Rattle.exact_field.specs.Rational.{ℚ}
use Rattle.lin_rows.specs.Complement.{AreComplement}
use Rattle.overflows.specs.Base.{IsSide}
use Rattle.lp_form.specs.declared.shown.Cut.{Cut}
use Rattle.outer_approx.specs.Cuts.{IsCutFor}
use Rattle.outer_approx.specs.Lines.{told_by}
use Rattle.outer_approx.specs.Task.{Task}
use Rattle.outer_approx.specs.declared.log.Line.{Line}
use Rattle.recession.specs.First.{AreFirstCuts}
use Rattle.recession.specs.Further.{normals_of}
use Rattle.recession.proofs.Whole.{rank_of_complement}

module _ {F : Type 0} (value : F → ℚ) (task : Task) (x : List F) (cuts first : List (Cut F)) where
  -- where the image has two objectives and no line, two cuts with independent normals are first cuts
  no_line : AreFirstCuts value task x [] cuts → task.file.objs ≡ 2 → All (IsCutFor value task) first → length first ≡ 2 →
      AreComplement 2 (normals_of value first) [] → AreFirstCuts value task x [] first
  no_line f two each many across = record {
    choice = f.choice;
    shown = record {
      sides = All-nil (λ (line : Line F). IsSide task.file.objs (normals_of value first) (told_by value line));
      both_ways = f.shown.both_ways;
      echelon = f.shown.echelon;
    };
    lines_are = f.lines_are;
    each = each;
    some = omega (arith, many);
    many = omega (arith, many, two);
    rank = rank_of_complement task.file.objs (normals_of value first) []
        (subst (λ q. AreComplement q (normals_of value first) []) (sym two) across);
  }

  pub first_along : (ls : List (Line F)) → ls ≡ [] → AreFirstCuts value task x ls cuts → task.file.objs ≡ 2 → All (IsCutFor value task) first → length first ≡ 2 →
      AreComplement 2 (normals_of value first) [] → AreFirstCuts value task x ls first
  first_along ls none f two each many across =
      subst (λ (l : List (Line F)). AreFirstCuts value task x l first) (sym none)
      (no_line (subst (λ (l : List (Line F)). AreFirstCuts value task x l cuts) none f) two each many across)
