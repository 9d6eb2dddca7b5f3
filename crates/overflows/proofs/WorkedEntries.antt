-- The worked entries of a trail and after one, computed.
use Rattle.std.proofs.Common.{◌≡◌, ℕ, Bool, true, false, true≢false, List, [], ◌∷◌, ◌++◌, refl, sym, ap, ◌∙◌, Option, None, Some, inl, not, codes, pos}
use Rattle.std.specs.Prelude.{◌==◌}
use Rattle.std.specs.List.{list_all}
use Rattle.std.proofs.Math.Dec.{lit≤, lit<}
use Rattle.exact_field.specs.Gcd.{gcd}
use Rattle.exact_field.specs.Rational.{ℚ, whole, fraction, ◌+ℚ◌, ◌*ℚ◌, neg_ℚ, inverse_ℚ, le_ℚ}
use Rattle.exact_field.specs.Vector.{dot}
use Rattle.exact_field.specs.declared.op.Op.TheVariants.{Mul}
use Rattle.frac128.specs.declared.vectors.Spot.{Spot}
use Rattle.polyhedra.specs.DoubleDescription.{leading}
use Rattle.polyhedra.specs.Vectors.{values}
use Rattle.polyhedra.proofs.Lists.{Contains-here, Contains-there}
use Rattle.polyhedra.proofs.Members.{member_of}
use Rattle.polyhedra.proofs.Tests.{list_all-true, same_vector_is}
use Rattle.tableaux.specs.Simplex.{IsSolution}
use Rattle.tableaux.specs.Table.{System, table_of}
use Rattle.tableaux.specs.Dictionary.{IsFullDictionaryOf, solution}
use Rattle.vlp_problem.specs.Sides.{sides}
use Rattle.vlp_problem.specs.Values.{cone_vectors}
use Rattle.upper_image.specs.Spots.{column, dense}
use Rattle.deriv_log.specs.declared.entry.Entry.{Entry}
use Rattle.deriv_log.specs.declared.entry.Entry.TheVariants.{Version, Duality, Cut, Start, Point, Ray}
use Rattle.deriv_log.specs.declared.licence.Place.TheVariants.{Elim}
use Rattle.log_rules.specs.Events.{Failure, first_failure}
use Rattle.log_rules.specs.LogEvents.{events, plain_failure}
use Rattle.log_rules.specs.Meets.{Meets}
use Rattle.log_rules.specs.Order.{kind, place}
use Rattle.log_rules.proofs.LogHeld.{entry-passes}
use Rattle.log_rules.proofs.LogMeets.{events_give_meets}
use Rattle.lp_form.specs.Programs.{side_total, interior_system, benson_system, u_of, w_of}
use Rattle.overflows.specs.Base.{IsSolutionOff, IsBaseChoice, IsBaseCut, IsConeDirection}
use Rattle.overflows.specs.Examples.{n, minus, half, minus_half, ones}
use Rattle.lp_form.specs.Examples.{numbers}
use Rattle.overflows.specs.ImageExamples.{leaning, weights, is_some, after_duality, started, point, ray, at_point, at_begin, EntryExamples, WorkedImages}
use Rattle.overflows.specs.Licence.{IsOverflow, opening, IsPossible, Completes, Licensed}
use Rattle.overflows.specs.PairExamples.{third}
use Rattle.overflows.specs.Products.{IsTrailEntry, IsBaseX, AreBaseShares, AreMultiplied}
use Rattle.overflows.specs.Settings.{Setting}
use Rattle.overflows.specs.Steps.{operation}
use Rattle.overflows.specs.Trails.{IsBaseDuality, IsBasePoint, IsBaseDirection, IsBaseEntry, IsBaseTrail, divided_by}
use Rattle.overflows.proofs.FirstCut.{at_least_zero}
use Rattle.overflows.proofs.Given.{overflow_laws}
use Rattle.overflows.proofs.Growing.{trail_laws}
use Rattle.overflows.proofs.Pivots.{Pivots, table_after}
use Rattle.overflows.proofs.Values.{held_all}
use Rattle.overflows.proofs.WorkedBase.{full_after}
use Rattle.overflows.proofs.WorkedImages.{image_examples}
use Rattle.overflows.proofs.WorkedPairs.{three, three_read}
use Rattle.overflows.proofs.WorkedShares.{share_examples}

-- ---- the duality entry
abbrev interior : System
interior = interior_system leaning.objs leaning.cone leaning.duality

abbrev interior_pivots : Pivots
interior_pivots = (2, 1) ∷ (3, 2) ∷ (0, 5) ∷ (1, 4) ∷ []

abbrev interior_basis : List ℕ
interior_basis = 5 ∷ 4 ∷ 1 ∷ 2 ∷ []

interior_full : IsFullDictionaryOf interior interior_basis (table_after (table_of interior) interior_pivots)
unfolding whole fraction gcd ◌+ℚ◌ ◌*ℚ◌ neg_ℚ inverse_ℚ le_ℚ
interior_full = full_after interior interior_basis interior_pivots refl refl refl refl refl refl

abbrev interior_z : List ℚ
interior_z = half ∷ half ∷ n 0 ∷ n 0 ∷ half ∷ []

interior_read : IsSolutionOff interior interior_z
unfolding whole fraction gcd ◌+ℚ◌ ◌*ℚ◌ neg_ℚ inverse_ℚ le_ℚ
interior_read = record {
  basis = interior_basis;
  dictionary = table_after (table_of interior) interior_pivots;
  full = interior_full;
  reads = same_vector_is interior_z (solution interior interior_basis (table_after (table_of interior) interior_pivots)) refl;
}

duality_is : IsBaseDuality leaning leaning.cone leaning.duality ones weights
unfolding whole fraction gcd ◌+ℚ◌ ◌*ℚ◌ neg_ℚ inverse_ℚ le_ℚ
duality_is = (same_vector_is _ _ refl, (weights, (interior_z, interior_read, refl), same_vector_is _ _ refl))

-- ---- the cuts
abbrev program : System
program = benson_system leaning ones (n 0 ∷ n 0 ∷ []) true

abbrev two_thirds : ℚ
two_thirds = fraction (pos 2) 3

abbrev first_pivots : Pivots
first_pivots = (3, 2) ∷ (0, 3) ∷ (1, 6) ∷ (2, 7) ∷ []

first_full : IsFullDictionaryOf program (3 ∷ 6 ∷ 7 ∷ 2 ∷ []) (table_after (table_of program) first_pivots)
unfolding whole fraction gcd ◌+ℚ◌ ◌*ℚ◌ neg_ℚ inverse_ℚ le_ℚ
first_full = full_after program (3 ∷ 6 ∷ 7 ∷ 2 ∷ []) first_pivots refl refl refl refl refl refl

abbrev first_z : List ℚ
first_z = n 0 ∷ third ∷ two_thirds ∷ n 0 ∷ n 0 ∷ third ∷ fraction (pos 5) 3 ∷ []

first_read : IsSolutionOff program first_z
unfolding whole fraction gcd ◌+ℚ◌ ◌*ℚ◌ neg_ℚ inverse_ℚ le_ℚ
first_read = record {
  basis = 3 ∷ 6 ∷ 7 ∷ 2 ∷ [];
  dictionary = table_after (table_of program) first_pivots;
  full = first_full;
  reads = same_vector_is first_z (solution program (3 ∷ 6 ∷ 7 ∷ 2 ∷ []) (table_after (table_of program) first_pivots)) refl;
}

first_solves : IsSolution program.equations program.right first_z
unfolding whole fraction gcd ◌+ℚ◌ ◌*ℚ◌ neg_ℚ inverse_ℚ le_ℚ
first_solves = record { at_least_zero = at_least_zero first_z refl; equal = same_vector_is (values program.equations first_z) program.right refl }

first_is : IsBaseCut leaning ones (third ∷ two_thirds ∷ []) [] []
unfolding whole fraction gcd ◌+ℚ◌ ◌*ℚ◌ neg_ℚ inverse_ℚ le_ℚ
first_is = IsBaseCut.of_benson first_z (first_read, first_solves) (same_vector_is (third ∷ two_thirds ∷ []) (w_of leaning first_z) refl)
    (record { dual = same_vector_is (dense (side_total leaning) []) (u_of leaning first_z) refl; cone = refl })

abbrev second_pivots : Pivots
second_pivots = (0, 1) ∷ (3, 2) ∷ (2, 5) ∷ (1, 6) ∷ []

second_full : IsFullDictionaryOf program (1 ∷ 6 ∷ 5 ∷ 2 ∷ []) (table_after (table_of program) second_pivots)
unfolding whole fraction gcd ◌+ℚ◌ ◌*ℚ◌ neg_ℚ inverse_ℚ le_ℚ
second_full = full_after program (1 ∷ 6 ∷ 5 ∷ 2 ∷ []) second_pivots refl refl refl refl refl refl

abbrev second_z : List ℚ
second_z = n 5 ∷ n 2 ∷ n 0 ∷ n 0 ∷ n 1 ∷ n 2 ∷ n 0 ∷ []

second_read : IsSolutionOff program second_z
unfolding whole fraction gcd ◌+ℚ◌ ◌*ℚ◌ neg_ℚ inverse_ℚ le_ℚ
second_read = record {
  basis = 1 ∷ 6 ∷ 5 ∷ 2 ∷ [];
  dictionary = table_after (table_of program) second_pivots;
  full = second_full;
  reads = same_vector_is second_z (solution program (1 ∷ 6 ∷ 5 ∷ 2 ∷ []) (table_after (table_of program) second_pivots)) refl;
}

second_solves : IsSolution program.equations program.right second_z
unfolding whole fraction gcd ◌+ℚ◌ ◌*ℚ◌ neg_ℚ inverse_ℚ le_ℚ
second_solves = record { at_least_zero = at_least_zero second_z refl; equal = same_vector_is (values program.equations second_z) program.right refl }

abbrev u : List Spot
u = record { at = 1; value = n 5 } ∷ []

second_is : IsBaseCut leaning ones (n 2 ∷ minus 1 ∷ []) u []
unfolding whole fraction gcd ◌+ℚ◌ ◌*ℚ◌ neg_ℚ inverse_ℚ le_ℚ
second_is = IsBaseCut.of_benson second_z (second_read, second_solves) (same_vector_is (n 2 ∷ minus 1 ∷ []) (w_of leaning second_z) refl)
    (record { dual = same_vector_is (dense (side_total leaning) u) (u_of leaning second_z) refl; cone = refl })

-- ---- the trail
abbrev inverse : List ℚ
inverse = n 1 ∷ minus_half ∷ n 0 ∷ half ∷ []

abbrev opened : List Entry
opened = opening ones weights (1 ∷ 2 ∷ []) inverse

abbrev first_cut : Entry
first_cut = Cut (third ∷ two_thirds ∷ []) (n 0) [] []

abbrev second_cut : Entry
second_cut = Cut (n 2 ∷ minus 1 ∷ []) (n 15) u []

abbrev start : Entry
start = Start (1 ∷ 2 ∷ []) (n 6 ∷ minus 3 ∷ []) (n 1 ∷ n 2 ∷ n 1 ∷ minus_half ∷ [])

abbrev with_point : List Entry
with_point = started ++ point ∷ []

passes : plain_failure (λ q. true) leaning (with_point ++ ray ∷ []) ≡ None
unfolding whole fraction gcd ◌+ℚ◌ ◌*ℚ◌ neg_ℚ inverse_ℚ le_ℚ
passes = refl

entry_meets : (before : List Entry) (e : Entry) (after : List Entry) → with_point ++ ray ∷ [] ≡ before ++ e ∷ after → Meets leaning before e
entry_meets = events_give_meets (λ q. true) leaning (with_point ++ ray ∷ []) passes

opened_is : IsBaseTrail leaning ones weights opened
opened_is = trail_laws.opened leaning ones weights (1 ∷ 2 ∷ []) inverse
    (entry_meets (Version 1 ∷ []) (Duality ones weights (1 ∷ 2 ∷ []) inverse) (after_duality ++ point ∷ ray ∷ []) refl).rules duality_is

more : (trail : List Entry) (e : Entry) (after : List Entry) → IsBaseTrail leaning ones weights trail → with_point ++ ray ∷ [] ≡ trail ++ e ∷ after →
    IsBaseEntry leaning ones weights trail e → IsBaseTrail leaning ones weights (trail ++ e ∷ [])
more trail e after t same b = trail_laws.grows leaning ones weights trail e t (entry_meets trail e after same) b

cuts_are : IsBaseTrail leaning ones weights (opened ++ first_cut ∷ second_cut ∷ [])
cuts_are = more (opened ++ first_cut ∷ []) second_cut (start ∷ point ∷ ray ∷ []) (more opened first_cut (second_cut ∷ start ∷ point ∷ ray ∷ []) opened_is refl first_is)
    refl second_is

started_is : IsBaseTrail leaning ones weights started
started_is = more (opened ++ first_cut ∷ second_cut ∷ []) start (point ∷ ray ∷ []) cuts_are refl tt

three_is : IsBaseChoice leaning three
unfolding whole fraction gcd ◌+ℚ◌ ◌*ℚ◌ neg_ℚ inverse_ℚ le_ℚ
three_is = record {
  feasible = record { width = refl; meets = list_all-true (λ s. le_ℚ s.bound (dot s.normal three)) (sides leaning) refl };
  read = inl (three, three_read, refl);
}

point_is : IsBaseEntry leaning ones weights started point
unfolding whole
point_is =
    (n 6 ∷ minus 3 ∷ [], (record { number = 1; vector = n 6 ∷ minus 3 ∷ n 1 ∷ [] }, (0, lit< tt, refl), refl, refl), IsBasePoint.chosen three_is refl)

with_point_is : IsBaseTrail leaning ones weights with_point
with_point_is = more started point (ray ∷ []) started_is refl point_is

-- ---- the ray after it
abbrev across : List ℚ
across = n 1 ∷ n 2 ∷ []

is_generator : IsConeDirection leaning across
unfolding whole fraction gcd ◌+ℚ◌ ◌*ℚ◌ neg_ℚ inverse_ℚ le_ℚ
is_generator = Contains-there (numbers (codes "1 0")) (numbers (codes "1 2") ∷ []) across
    (Contains-here (numbers (codes "1 2")) [] across (same_vector_is (numbers (codes "1 2")) across refl))

normed : across ≡ divided_by (leading across) across
unfolding whole fraction gcd ◌+ℚ◌ ◌*ℚ◌ neg_ℚ inverse_ℚ le_ℚ
normed = same_vector_is across (divided_by (leading across) across) refl

ray_is : IsBaseEntry leaning ones weights with_point ray
unfolding whole
ray_is =
    (across, (record { number = 2; vector = n 1 ∷ n 2 ∷ n 0 ∷ [] }, (1, lit< tt, refl), refl, refl), IsBaseDirection.of_cone across is_generator normed refl (lit≤ tt))

with_ray_is : IsBaseTrail leaning ones weights (with_point ++ ray ∷ [])
with_ray_is = more with_point ray [] with_point_is refl ray_is

-- ---- sums with their numbers
x_of_point : IsOverflow is_some at_point (Elim [] [] 0 1 2) (operation Mul (n 1) (n 3))
unfolding whole fraction gcd ◌+ℚ◌ ◌*ℚ◌ neg_ℚ inverse_ℚ le_ℚ
x_of_point = overflow_laws.term is_some at_point (n 1 ∷ []) three 1 (operation Mul (n 1) (n 3)) refl
    (inl (AreMultiplied.side (Contains-here (n 1 ∷ []) [] (n 1 ∷ []) refl) (IsBaseX.of_entry point (IsTrailEntry.there (5, lit< tt, refl)) refl)))
    (lit≤ tt) (lit≤ tt) (lit≤ tt) (inl (refl, refl, refl, refl))

abbrev last : List ℚ
last = n 0 ∷ n 1 ∷ []

m_of_ray : IsOverflow is_some at_point (Elim [] [] 0 2 2) (operation Mul (n 2) (n 1))
unfolding whole fraction gcd ◌+ℚ◌ ◌*ℚ◌ neg_ℚ inverse_ℚ le_ℚ
m_of_ray = overflow_laws.term is_some at_point (n 0 ∷ n 2 ∷ []) last 2 (operation Mul (n 2) (n 1)) refl
    (inl (AreMultiplied.shares 2 (lit≤ tt) (lit≤ tt) (same_vector_is (n 0 ∷ n 2 ∷ []) (column (cone_vectors leaning.cone) 2) refl)
    (AreBaseShares.of_entry ray (IsTrailEntry.next ones refl with_ray_is) (same_vector_is last (dense 2 (record { at = 2; value = n 1 } ∷ [])) refl))))
    (lit≤ tt) (lit≤ tt) (lit≤ tt) (inl (refl, refl, refl, refl))

possible : IsPossible is_some leaning ones weights
unfolding whole fraction gcd ◌+ℚ◌ ◌*ℚ◌ neg_ℚ inverse_ℚ le_ℚ
possible = record {
  picks = 1 ∷ 2 ∷ [];
  inverse = inverse;
  held = record { c_held = held_all is_some ones refl; weights_held = held_all is_some weights refl; inverse_held = held_all is_some inverse refl };
  trail = opened_is;
}

licence : Licensed is_some leaning ones (record { place = Elim [] [] 0 2 2; left = operation Mul (n 2) (n 1); trail = after_duality ++ point ∷ [] })
unfolding possible
licence = inl (record {
  weights = weights;
  whole = with_point;
  stands = record { possible = possible; completes = Completes.after_opening (1 ∷ 2 ∷ []) inverse possible.held refl; base = with_point_is };
  overflow = m_of_ray;
})

-- ---- entries that may not follow
-- neither does the trail have an entry of this kind, nor does this one meet its rules
may_not : (s : Setting) (e : Entry) → list_all (λ d. not (place (kind d) == place (kind e))) s.trail ≡ true → (place (kind e) == place (kind e)) ≡ true →
    (first_failure (λ _. true) 1 (events s.file s.trail e) ≡ None → ⊥) → IsTrailEntry s e → ⊥
may_not s e others own fails (IsTrailEntry.there h) =
    true≢false (sym (member_of (λ d. not (place (kind d) == place (kind e)) ≡ true) s.trail e
    (list_all-true (λ d. not (place (kind d) == place (kind e))) s.trail others) h) ∙ ap not own)
may_not s e others own fails (IsTrailEntry.next c known t) = fails (entry-passes s.file s.trail e (t.meet s.trail e [] refl))

is_given : Option Failure → Bool
is_given None = false
is_given (Some f) = true

failing : (f : Option Failure) → is_given f ≡ true → f ≡ None → ⊥
unfolding is_given
failing f h e = true≢false (sym h ∙ ap is_given e)

no_ray : IsTrailEntry at_point (Ray 2 [] (record { at = 1; value = n 1 } ∷ [])) → ⊥
unfolding is_given whole fraction gcd ◌+ℚ◌ ◌*ℚ◌ neg_ℚ inverse_ℚ le_ℚ
no_ray = may_not at_point (Ray 2 [] (record { at = 1; value = n 1 } ∷ [])) refl refl (failing _ refl)

no_point : IsTrailEntry at_begin (Point 1 (record { at = 1; value = n 4 } ∷ []) []) → ⊥
unfolding is_given whole fraction gcd ◌+ℚ◌ ◌*ℚ◌ neg_ℚ inverse_ℚ le_ℚ
no_point = may_not at_begin (Point 1 (record { at = 1; value = n 4 } ∷ []) []) refl refl (failing _ refl)

other_kind : IsTrailEntry at_begin (Point 2 (record { at = 1; value = n 3 } ∷ []) []) → ⊥
unfolding is_given whole fraction gcd ◌+ℚ◌ ◌*ℚ◌ neg_ℚ inverse_ℚ le_ℚ
other_kind = may_not at_begin (Point 2 (record { at = 1; value = n 3 } ∷ []) []) refl refl (failing _ refl)

entry_examples : EntryExamples
entry_examples = record {
  with_point = with_point_is;
  x_of_point = x_of_point;
  m_of_ray = m_of_ray;
  licence = licence;
  no_ray = no_ray;
  no_point = no_point;
  other_kind = other_kind;
}

pub worked_images : WorkedImages
worked_images = record { images = image_examples; entries = entry_examples; shares = share_examples }
