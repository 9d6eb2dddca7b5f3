-- What the comparison of two numbers answers, and of two values in the direction of a file.
use Rattle.std.proofs.Common.{◌≡◌, ◌⊎◌, inl, inr, Bool, true, false, true≢false, refl, sym, ap, ◌∙◌, subst, ℕ, ◌+◌, ◌<◌, List, length, take, get_or, All, Contains}
use Rattle.std.specs.Ordering.{partial_lt, as_partial_cmp, is_lt}
use Rattle.std.specs.declared.cmp.Ordering.{Ordering}
use Rattle.std.specs.declared.cmp.Ordering.TheVariants.{Less, Equal, Greater}
use Rattle.std.proofs.lemmas.List.Elements.{All-weaker}
use Rattle.exact_field.specs.Order.{cmp_ℚ}
use Rattle.exact_field.specs.Rational.{ℚ, zero_ℚ, ◌≤ℚ◌, ◌<ℚ◌, ◌-ℚ◌}
use Rattle.exact_field.proofs.Comparison.{cmp_ℚ-less, less-cmp_ℚ}
use Rattle.polyhedra.proofs.Laws.{le_trans, le_of_lt, le_refl}
use Rattle.polyhedra.proofs.Order.{le_or_lt, difference_nonneg}
use Rattle.vlp_problem.specs.declared.problem.Dir.{Dir}
use Rattle.upper_image.specs.UpperImage.{signed}
use Rattle.weighing.specs.Walk.{IsNoLess}
use Rattle.weighing.proofs.Lowest.{signed_difference}
use Rattle.weighing.proofs.Walks.{all_more}

pub below : (a b : ℚ) (r : Bool) → r ≡ partial_lt (as_partial_cmp cmp_ℚ) a b → (r ≡ true → a <ℚ b) × (a <ℚ b → r ≡ true)
below a b r e = (λ t. go (cmp_ℚ a b) refl (sym e ∙ t), λ h. e ∙ ap is_lt (cmp_ℚ-less a b h))
  where
    go : (o : Ordering) → cmp_ℚ a b ≡ o → is_lt o ≡ true → a <ℚ b
    go Less q t = less-cmp_ℚ a b q
    go Equal q t = absurd (true≢false (sym t))
    go Greater q t = absurd (true≢false (sym t))

-- what is not below is at least as great
pub not_below : (a b : ℚ) (r : Bool) → (r ≡ true → a <ℚ b) × (a <ℚ b → r ≡ true) → r ≡ false → b ≤ℚ a
not_below a b r h f = by (le_or_lt b a)
  where
    by : (b ≤ℚ a) ⊎ (a <ℚ b) → b ≤ℚ a
    by (inl k) = k
    by (inr k) = absurd (true≢false (sym (h.1 k) ∙ f))

-- a lesser value is no greater than what the earlier one was no greater than
pub lesser : (dir : Dir) (a b : ℚ) (vs : List ℚ) → signed dir a <ℚ signed dir b → All (λ v. IsNoLess dir v b) vs → All (λ v. IsNoLess dir v a) vs
lesser dir a b vs h = All-weaker (λ v. IsNoLess dir v b) (λ v. IsNoLess dir v a)
    (λ v k. le_trans (signed dir a) (signed dir b) (signed dir v) (le_of_lt (signed dir a) (signed dir b) h) k) vs

-- no value so far is less, and it is one of them
pub record IsBestOf (dir : Dir) (vs : List ℚ) (i : ℕ) (found : ℚ) : Type 0 where
  pub least : All (λ v. IsNoLess dir v found) (take i vs)
  pub one : Contains vs found

abbrev TellsBelow : Bool → ℚ → ℚ → Type 0
TellsBelow r a b = (r ≡ true → a <ℚ b) × (a <ℚ b → r ≡ true)

pub best_moved : (dir : Dir) (vs : List ℚ) (i : ℕ) (v found : ℚ) (r : Bool) → i < length vs → v ≡ get_or vs i v → TellsBelow r (signed dir v) (signed dir found) → r ≡ true →
    IsBestOf dir vs i found → IsBestOf dir vs (i + 1) v
best_moved dir vs i v found r h is test t old = record {
  least = all_more (λ x. IsNoLess dir x v) vs i v h is (lesser dir v found (take i vs) (test.0 t) old.least) (le_refl (signed dir v));
  one = (i, h, sym is);
}

pub best_kept : (dir : Dir) (vs : List ℚ) (i : ℕ) (v found : ℚ) (r : Bool) → i < length vs → v ≡ get_or vs i v → TellsBelow r (signed dir v) (signed dir found) → r ≡ false →
    IsBestOf dir vs i found → IsBestOf dir vs (i + 1) found
best_kept dir vs i v found r h is test f old = record {
  least = all_more (λ x. IsNoLess dir x found) vs i v h is old.least (not_below (signed dir v) (signed dir found) r test f);
  one = old.one;
}

pub no_less_difference : (dir : Dir) (a b : ℚ) → IsNoLess dir a b → zero_ℚ ≤ℚ signed dir (a -ℚ b)
no_less_difference dir a b h = subst (λ (q : ℚ). zero_ℚ ≤ℚ q) (sym (signed_difference dir a b)) (difference_nonneg (signed dir b) (signed dir a) h)
