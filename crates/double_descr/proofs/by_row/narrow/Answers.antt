use Rattle.std.proofs.Common.{◌≡◌, ℕ, ◌+◌, ◌<◌, ◌≤◌, ◌&&◌, List, Bool, true, false, Some, length, refl, sym, ap, ap₂, ◌∙◌, subst, arith}
use Rattle.std.specs.Prelude.{IsFalse}
use Rattle.std.proofs.lemmas.List.{length-replicate}
use Rattle.incid_sets.specs.Marks.{has, IsNextFrom}
use Rattle.double_descr.specs.ByRow.{set_of, HasPlace}
use Rattle.double_descr.proofs.ByRow.{few_missed, missed, missed_later, not_begun, one_missed, set_read}
use Rattle.double_descr.proofs.by_row.narrow.Goals as goal
use Rattle.double_descr.proofs.by_row.narrow.Goals.{then-taken-group, else-taken-group}

not_out : (b : Bool) → (b ≡ false → ⊥) → b ≡ true
not_out true h = refl
not_out false h = absurd (h refl)

pub loop-r-preserved : goal.loop-r-preserved
loop-r-preserved c =
    let sets = c.args.sets.now in
    let rows = c.args.rows.now in
    let r = c.in-Some.r in
    let from = c.loop-r.from in
    let taken = c.loop-r.taken in
    let next = c.unite.new.self in
    let found : IsNextFrom rows from (Some r) = subst (λ o. IsNextFrom rows from o) c.in-Some.is c.next_from.ensures in
    let inside : r < length sets = omega (arith, found.1, c.requires.inside) in
    let is : c.index-sets-r.result ≡ set_of sets r = set_read sets r c.index-sets-r.result inside c.index-sets-r.is in
    let base : length c.clear.new.self ≡ length c.args.any.now = ap length c.clear.ensures ∙ length-replicate (length c.args.any.now) false in
    let within : length c.index-sets-r.result ≤ length c.args.any.now = let e = ap length is in let b = c.requires.bounded r in omega (arith, e, b) in
    let bound : length next ≡ length c.clear.new.self = let u = c.unite.ensures.bound in let a = c.loop-r.invariant.any_bound in omega (arith, u, a, within, base) in
    let begun : (place : ℕ) (tight : List Bool) → HasPlace sets rows tight place → IsFalse (has next place) → taken + 1 ≤ missed rows tight (r + 1) = λ place tight holds absent.
    let parts = not_begun sets rows tight c.loop-r.any c.index-sets-r.result next r place holds is found.2 c.unite.ensures absent in
    let before = c.loop-r.invariant.begun place tight holds parts.0 in
    let later = missed_later rows tight from r found.0 in
    let more = one_missed rows tight r found.2 parts.1 in
    omega (arith, before, later, more) in
    elim c.if-taken-group.branch [
      | then-taken-group w ↦ record {
        any_bound = ap length w.any-is ∙ ap length w.clear-then-taken-group.ensures ∙ length-replicate (length next) false ∙ bound;
        bound = ap length w.possible-is ∙ w.keep.ensures.bound ∙ c.loop-r.invariant.bound;
        few = subst (λ t. t < c.saturating_sub-group.result + 1) (sym w.taken-is) (omega arith);
        begun = λ place tight holds absent. subst (λ t. t ≤ missed rows tight (r + 1)) (sym w.taken-is) (omega arith);
        kept = λ place tight common holds meet enough had.
            ap (λ s. has s place) w.possible-is ∙ w.keep.ensures.common place
            ∙ ap₂ (λ x y. x && y) (c.loop-r.invariant.kept place tight common holds meet enough had) (not_out (has next place) (λ absent.
            let more = begun place tight holds absent in
            let others = few_missed rows tight common c.args.least (r + 1) meet enough in
            omega (arith, more, others, w.if-taken-group.true, c.saturating_sub-group.ensures, c.count.ensures)));
      }
      | else-taken-group w ↦ record {
        any_bound = ap length w.any-is ∙ bound;
        bound = ap length w.possible-is ∙ c.loop-r.invariant.bound;
        few = subst (λ t. t < c.saturating_sub-group.result + 1) (sym w.taken-is) (omega (arith, w.if-taken-group.false));
        begun = λ place tight holds absent. subst (λ t. t ≤ missed rows tight (r + 1)) (sym w.taken-is) (begun place tight holds (sym (ap (λ s. has s place) w.any-is) ∙ absent));
        kept = λ place tight common holds meet enough had. ap (λ s. has s place) w.possible-is ∙ c.loop-r.invariant.kept place tight common holds meet enough had;
      }
    ]
