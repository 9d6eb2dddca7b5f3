-- How calls go through events: piece by piece, and item by item of a loop. General; belongs in log_rules.
use Rattle.std.proofs.Common.{◌≡◌, ℕ, zero, suc, ◌+◌, ◌-◌, ◌<◌, ◌≤◌, List, [], ◌∷◌, ◌++◌, refl, sym, ap, ◌∙◌, subst, arith, None, length, drop, slice_index_or, true, false, nat_le, All, ◌==◌}
use Rattle.std.specs.Prelude.{Ok, Err, ⊤, Bool, Result}
use Rattle.std.specs.List.{flat_map, list_all}
use Rattle.std.proofs.lemmas.Bool.{leb-true, eqb-true}
use Rattle.std.proofs.lemmas.List.{append-nil, get_or_default}
use Rattle.std.proofs.lemmas.List.Elements.{All-weaker}
use Rattle.frac128.specs.declared.vectors.Spot.{Spot}
use Rattle.log_rules.specs.declared.rule.Rule.TheVariants as rule
use Rattle.polyhedra.proofs.Tests.{list_all-true}
use Rattle.exact_field.specs.Rational.{ℚ, zero_ℚ}
use Rattle.exact_field.specs.Vector.{entry}
use Rattle.frac128.specs.Held.{is_held}
use Rattle.log_rules.specs.Events.{Event, first_failure}
use Rattle.log_rules.specs.Events.Event.{test}
use Rattle.log_rules.specs.VectorEvents.{places_within}
use Rattle.log_rules.specs.declared.rule.Rule.{Rule}
use Rattle.vlp_problem.specs.Sides.{numbers_from}
use Rattle.log_rules.specs.Runs.{Runs, Stops, steps}
use Rattle.log_rules.specs.declared.stop.Stop.{Stop}
use Rattle.log_rules.specs.declared.stop.Stop.TheVariants.{Wrong, Left, NoMemory}
use Rattle.log_rules.proofs.Failures.{none-then, steps-append, stops-then, runs-then}
use Rattle.log_rules.proofs.Through.{IsThrough, through-start, through-stop, through-as}

-- ---- pieces
-- the events were gone through without a failure, from `start` steps to `now`
pub record Passed (events : List Event) (start now : ℕ) : Type 0 where
  pub none : first_failure is_held (suc start) events ≡ None
  pub count : now ≡ start + steps events

-- the call stops in the events
pub record Stopped (events : List Event) (start : ℕ) (stop : Stop) : Type 0 where
  pub at : Stops is_held events start stop

-- the call went through the events or stopped in them
pub record Ran {X : Type 0} (events : List Event) (start now : ℕ) (V : X → Type 0) (result : Result X Stop) : Type 0 where
  pub runs : Runs is_held events start now V result

pub passed-then : {A B : List Event} {s m n : ℕ} → Passed A s m → Passed B m n → Passed (A ++ B) s n
passed-then {A} {B} {s} {m} {n} p q =
    let pc = p.count in
    let qc = q.count in
    let both = steps-append A B in
    record { none = none-then is_held A B s m p.none p.count ∙ q.none; count = omega (arith, pc, qc, both) }

pub stopped-in : {A : List Event} {s : ℕ} {stop : Stop} (B : List Event) → Stopped A s stop → Stopped (A ++ B) s stop
stopped-in {A} {s} {stop} B p = record { at = stops-then is_held A B s stop p.at }

same_stop : (E R : List Event) (s m : ℕ) (stop : Stop) → first_failure is_held (suc s) E ≡ first_failure is_held (suc m) R → Stops is_held R m stop → Stops is_held E s stop
same_stop E R s m (Wrong r) h k = h ∙ k
same_stop E R s m (Left n l) h k = h ∙ k
same_stop E R s m NoMemory h k = tt

pub stopped-later : {A B : List Event} {s m : ℕ} {stop : Stop} → Passed A s m → Stopped B m stop → Stopped (A ++ B) s stop
stopped-later {A} {B} {s} {m} {stop} p q = record { at = same_stop (A ++ B) B s m stop (none-then is_held A B s m p.none p.count) q.at }

pub ran-after : {X : Type 0} {A B : List Event} {s m n : ℕ} {V : X → Type 0} {result : Result X Stop} → Passed A s m → Ran B m n V result → Ran (A ++ B) s n V result
ran-after {X} {A} {B} {s} {m} {n} {V} {result} p q = record { runs = runs-then is_held A B s m n V result p.none p.count q.runs }

-- a call stops after the events, by want of memory
pub stopped-after : {A : List Event} {s m : ℕ} {stop : Stop} → Passed A s m → Stopped [] m stop → Stopped A s stop
stopped-after {A} {s} {m} {stop} p q = subst (λ (es : List Event). Stopped es s stop) (append-nil A) (stopped-later p q)

-- a call that begins at the first step
pub whole-run : {X : Type 0} (E : List Event) (now : ℕ) (V : X → Type 0) (result : Result X Stop) → Runs is_held E 0 now V result → Runs is_held E 0 (steps E) V result
whole-run E now V (Ok x) h = (h.0, omega arith, h.2)
whole-run E now V (Err stop) h = h

-- ---- tests
-- a test that code made, as the events have it
pub test-as : (r : Rule) (b B : Bool) (taken : ℕ) (result : Result (Unit {0}) Stop) → b ≡ B →
    Runs is_held (test r b ∷ []) taken taken (λ _. ⊤) result → Runs is_held (test r B ∷ []) taken taken (λ _. ⊤) result
test-as r b B taken result e h = subst (λ (x : Bool). Runs is_held (test r x ∷ []) taken taken (λ _. ⊤) result) e h

-- events and then a test
pub then-test : (A : List Event) (s m : ℕ) (r : Rule) (b B : Bool) (result : Result (Unit {0}) Stop) → Passed A s m → b ≡ B →
    Runs is_held (test r b ∷ []) m m (λ _. ⊤) result → Runs is_held (A ++ test r B ∷ []) s m (λ _. ⊤) result
then-test A s m r b B result p e h = runs-then is_held A (test r B ∷ []) s m m (λ _. ⊤) result p.none p.count (test-as r b B m result e h)

-- a test that no call stopped at is passed
pub test-passed : (n : ℕ) (r : Rule) (b : Bool) → first_failure is_held n (test r b ∷ []) ≡ None → b ≡ true
test-passed n r true h = refl
test-passed n r false h = absurd cc

pub first-passed : (n : ℕ) (r : Rule) (b : Bool) (es : List Event) → first_failure is_held n (test r b ∷ es) ≡ None → b ≡ true
first-passed n r true es h = refl
first-passed n r false es h = absurd cc

pub places-passed : (taken n : ℕ) (spots : List Spot) (es : List Event) → first_failure is_held (suc taken) (places_within n spots ∷ es) ≡ None → All (λ s. s.at ≤ n) spots
places-passed taken n spots es h =
    All-weaker (λ s. nat_le s.at n ≡ true) (λ s. s.at ≤ n) (λ s l. leb-true s.at n l) spots
    (list_all-true (λ s. nat_le s.at n) spots (first-passed (suc taken) rule.Index (list_all (λ s. nat_le s.at n) spots) es h))

-- a length that was tested
pub length-tested : (n k : ℕ) → first_failure is_held 1 (test rule.Length (n == k) ∷ []) ≡ None → n ≡ k
length-tested n k h = eqb-true n k (test-passed 1 rule.Length (n == k) h)

-- the places that were tested
pub spots-within : (taken n : ℕ) (spots : List Spot) → first_failure is_held (suc taken) (places_within n spots ∷ []) ≡ None → All (λ s. s.at ≤ n) spots
spots-within taken n spots h =
    All-weaker (λ s. nat_le s.at n ≡ true) (λ s. s.at ≤ n) (λ s l. leb-true s.at n l) spots
    (list_all-true (λ s. nat_le s.at n) spots (test-passed (suc taken) rule.Index (list_all (λ s. nat_le s.at n) spots) h))

-- there is room for a piece where there is room for it among more
pub room-in : (A B : List Event) (s n : ℕ) → s + steps (A ++ B) < n → s + steps A < n
room-in A B s n h = let both = steps-append A B in omega (arith, both, h)

pub room-after : {A : List Event} {s m : ℕ} (B : List Event) (n : ℕ) → Passed A s m → s + steps (A ++ B) < n → m + steps B < n
room-after {A} {s} {m} B n p h =
    let both = steps-append A B in
    let count = p.count in
    omega (arith, both, h, count)

-- ---- the items of a loop
-- the next entry of a vector, by its number
pub next-entry : (v : List ℚ) (i : ℕ) (x : ℚ) → i < length v → x ≡ slice_index_or v i x → x ≡ entry v (i + 1)
next-entry v i x h p =
    let same : i ≡ i + 1 - 1 = omega arith in
    p ∙ get_or_default v i x zero_ℚ h ∙ ap (λ (k : ℕ). slice_index_or v k zero_ℚ) same

pub number-at : (k n i : ℕ) → i < n → k + i ≡ slice_index_or (numbers_from k n) i (k + i)
number-at k zero i h = absurd (omega (arith, h))
number-at k (suc n) zero h = omega arith
number-at k (suc n) (suc i) h =
    let more = number-at (suc k) n i (omega (arith, h)) in
    let same : suc k + i ≡ k + suc i = omega arith in
    subst (λ (j : ℕ). j ≡ slice_index_or (numbers_from (suc k) n) i j) same more

pub next-number : (n i : ℕ) → i < n → i + 1 ≡ slice_index_or (numbers_from 1 n) i (i + 1)
next-number n i h =
    let same : 1 + i ≡ i + 1 = omega arith in
    subst (λ (j : ℕ). j ≡ slice_index_or (numbers_from 1 n) i j) same (number-at 1 n i h)

pub rest-next : {X : Type 0} (f : X → List Event) (xs : List X) (i : ℕ) (x : X) → i < length xs → x ≡ slice_index_or xs i x →
    flat_map f (drop i xs) ≡ f x ++ flat_map f (drop (suc i) xs)
rest-next f [] i x h p = absurd (omega (arith, h))
rest-next f (y ∷ ys) zero x h p = ap (λ z. f z ++ flat_map f ys) (sym p)
rest-next f (y ∷ ys) (suc i) x h p = rest-next f ys i x (omega (arith, h)) p

rest-none : {X : Type 0} (f : X → List Event) (xs : List X) → flat_map f (drop (length xs) xs) ≡ []
rest-none f [] = refl
rest-none f (x ∷ xs) = rest-none f xs

-- the items before place i are done with
pub record IsAt {X : Type 0} (f : X → List Event) (xs : List X) (start i taken : ℕ) : Type 0 where
  pub through : IsThrough (flat_map f xs) start taken (flat_map f (drop i xs))

pub at-start : {X : Type 0} (f : X → List Event) (xs : List X) (start : ℕ) → IsAt f xs start 0 start
at-start f xs start = record { through = through-start (flat_map f xs) start }

at-next : {X : Type 0} (f : X → List Event) (xs : List X) (start i taken : ℕ) (x : X) → i < length xs → x ≡ slice_index_or xs i x →
    IsAt f xs start i taken → IsThrough (flat_map f xs) start taken (f x ++ flat_map f (drop (suc i) xs))
at-next f xs start i taken x h p t = through-as (flat_map f xs) start taken _ _ (rest-next f xs i x h p) t.through

-- there is room for the next item
pub at-room : {X : Type 0} (f : X → List Event) (xs : List X) (start i taken : ℕ) (x : X) → i < length xs → x ≡ slice_index_or xs i x →
    IsAt f xs start i taken → taken + steps (f x) ≤ start + steps (flat_map f xs)
at-room f xs start i taken x h p t =
    let counted = (at-next f xs start i taken x h p t).count in
    let both = steps-append (f x) (flat_map f (drop (suc i) xs)) in
    omega (arith, counted, both)

pub at-stop : {X : Type 0} (f : X → List Event) (xs : List X) (start i taken : ℕ) (x : X) (stop : Stop) → i < length xs → x ≡ slice_index_or xs i x →
    IsAt f xs start i taken → Stops is_held (f x) taken stop → Stops is_held (flat_map f xs) start stop
at-stop f xs start i taken x stop h p t s =
    through-stop (flat_map f xs) start taken (f x) (flat_map f (drop (suc i) xs)) stop (at-next f xs start i taken x h p t) s

pub at-more : {X : Type 0} (f : X → List Event) (xs : List X) (start i taken now : ℕ) (x : X) → i < length xs → x ≡ slice_index_or xs i x →
    IsAt f xs start i taken → Passed (f x) taken now → IsAt f xs start (i + 1) now
at-more f xs start i taken now x h p t q =
    let u = at-next f xs start i taken x h p t in
    let counted = u.count in
    let both = steps-append (f x) (flat_map f (drop (suc i) xs)) in
    let grown = q.count in
    let k : suc i ≡ i + 1 = omega arith in
    subst (λ (j : ℕ). IsAt f xs start j now) k
    record { through = record { same = u.same ∙ none-then is_held (f x) (flat_map f (drop (suc i) xs)) taken now q.none q.count; count = omega (arith, counted, both, grown) } }

pub at-end : {X : Type 0} (f : X → List Event) (xs : List X) (start i taken : ℕ) → i ≡ length xs → IsAt f xs start i taken → Passed (flat_map f xs) start taken
at-end f xs start i taken h t =
    let left = through-as (flat_map f xs) start taken _ [] (ap (λ (j : ℕ). flat_map f (drop j xs)) h ∙ rest-none f xs) t.through in
    let counted = left.count in
    record { none = left.same; count = omega (arith, counted) }
