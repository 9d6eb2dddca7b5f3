-- What is found at a direction across the normals of some cuts.
use Rattle.std.proofs.Common.{◌≡◌, ℕ, List, map, length, All, refl, sym, ap, ◌∙◌, subst, Bool, false}
use Rattle.std.proofs.lemmas.List.{length-map}
use Rattle.std.proofs.lemmas.List.Elements.{All-cons}
use Rattle.exact_field.specs.Rational.{ℚ, neg_ℚ}
use Rattle.polyhedra.specs.Negatives.{negated}
use Rattle.polyhedra.proofs.Algebra.{neg_zero}
use Rattle.polyhedra.proofs.Members.{all_of_members, member_of}
use Rattle.polyhedra.proofs.Negatives.{dot-negated}
use Rattle.deriv_log.specs.declared.entry.Entry.{Entry}
use Rattle.overflows.specs.Base.{IsBaseStart, IsSide, trail_normals}
use Rattle.overflows.specs.Preimages.{IsPreimageOf}
use Rattle.lp_form.specs.declared.shown.Cut.{Cut as CutOf}
use Rattle.lp_form.specs.declared.shown.Preimage.{Preimage}
use Rattle.outer_approx.specs.Cuts.{IsCutFor}
use Rattle.outer_approx.specs.Task.{Task, IsFitting}
use Rattle.outer_approx.specs.Lines.{RunsBothWays, told_by}
use Rattle.outer_approx.specs.declared.log.Line.{Line as LineOf}
use Rattle.recession.specs.Asking.{IsAsked, IsAskedCut}
use Rattle.recession.specs.Further.{IsNext, IsNextSide, normals_of}
use Rattle.recession.specs.declared.asking.Asked.{Asked}
use Rattle.recession.specs.declared.asking.Asked.TheVariants.{Cut, Reached}
use Rattle.recession.specs.declared.further.Next.TheVariants as next
use Rattle.recession.proofs.Asking_ends.{c_long, off}

module _ {F : Type 0} (value : F → ℚ) (holds : ℚ → Bool) (task : Task) (fitting : IsFitting holds task) where
  -- a cut that d does not meet is one more
  pub cut_at : (d : List ℚ) (cuts : List (CutOf F)) (ls : List (LineOf F)) (cut : CutOf F) → IsSide task.file.objs (normals_of value cuts) d → IsAskedCut value task d false cut →
      IsNext value task cuts ls (next.Cut cut)
  cut_at d cuts ls cut side h =
      (h.is, record { d = d; wide = side.flat.wide; across = side.flat.across; off = off value task cut d h (c_long holds task fitting) side.flat.wide })

  -- and so is one that its negative does not meet
  pub cut_opposite : (d : List ℚ) (cuts : List (CutOf F)) (ls : List (LineOf F)) (cut : CutOf F) → IsSide task.file.objs (normals_of value cuts) d →
      IsAskedCut value task (negated d) false cut → IsNext value task cuts ls (next.Cut cut)
  cut_opposite d cuts ls cut side h =
      let wide : length (negated d) ≡ task.file.objs = length-map d neg_ℚ ∙ side.flat.wide in (
        h.is,
        record {
          d = d;
          wide = side.flat.wide;
          across = side.flat.across;
          off = λ e. off value task cut (negated d) h (c_long holds task fitting) wide (dot-negated (map value cut.w) d ∙ ap neg_ℚ e ∙ neg_zero);
        },
      )

  -- a direction that runs both ways is one more line
  pub line_at : (cuts : List (CutOf F)) (ls : List (LineOf F)) (line : LineOf F) → All (RunsBothWays value task) ls →
      IsNextSide task.file.objs (normals_of value cuts) (map (told_by value) ls) (map value line.d) → RunsBothWays value task line → IsNext value task cuts ls (next.Line line)
  line_at cuts ls line both side h = record { both_ways = All-cons (RunsBothWays value task) line ls h both; tail = side.tail }

  -- the answer, as it was read to be, at a vector as it was read
  module _ (asked : Asked F) (v d : List ℚ) (same : v ≡ d) (h : IsAsked value task v false asked) where
    at : IsAsked value task d false asked
    at = subst (λ (u : List ℚ). IsAsked value task u false asked) same h

    pub asked_is : (cut : CutOf F) → asked ≡ Cut cut → IsAskedCut value task d false cut
    asked_is cut is = subst (λ (a : Asked F). IsAsked value task d false a) is at

    pub reached_is : (parts : Preimage F) → asked ≡ Reached parts → IsPreimageOf value task.file task.c task.weights d false parts
    reached_is parts is = subst (λ (a : Asked F). IsAsked value task d false a) is at

-- a start vector that is a side of the cuts, or the negative of one
pub side_start : (q : ℕ) (trail : List Entry) (v d : List ℚ) → v ≡ d → IsSide q (trail_normals q trail) d → IsBaseStart q trail v false
side_start q trail v d same side = IsBaseStart.side (subst (IsSide q (trail_normals q trail)) (sym same) side) refl

pub opposite_start : (q : ℕ) (trail : List Entry) (v d : List ℚ) → v ≡ negated d → IsSide q (trail_normals q trail) d → IsBaseStart q trail v false
opposite_start q trail v d same side = IsBaseStart.other_side d side same refl

pub wide_cuts : {F : Type 0} (value : F → ℚ) (task : Task) (n : ℕ) (cuts : List (CutOf F)) → n ≡ task.file.objs → All (IsCutFor value task) cuts →
    All (λ cut. length cut.w ≡ n) cuts
wide_cuts value task n cuts same each =
    all_of_members (λ cut. length cut.w ≡ n) cuts (λ cut c. (member_of (IsCutFor value task) cuts cut each c).wide ∙ sym same)
