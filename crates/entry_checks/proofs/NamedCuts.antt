-- Cuts that are named by their numbers, and the events of the entry `start` by what code holds.
use Rattle.std.proofs.Common.{◌≡◌, ℕ, suc, ◌+◌, ◌-◌, ◌*◌, ◌<◌, ◌≤◌, List, [], ◌∷◌, refl, sym, ap, ◌∙◌, subst, arith, Bool, true, false, ◌&&◌, ◌==◌, length, drop, map, slice_index_or, ◌^◌}
use Rattle.std.specs.Prelude.{nat_le}
use Rattle.std.specs.List.{list_all, enumerate_from}
use Rattle.std.proofs.lemmas.Bool.{eqb-true}
use Rattle.polyhedra.proofs.Tests.{both_true}
use Rattle.std.proofs.lemmas.List.{length-map}
use Rattle.exact_field.specs.Rational.{ℚ}
use Rattle.upper_image.specs.Spots.{pieces}
use Rattle.vlp_problem.specs.declared.problem.Problem.{Problem}
use Rattle.log_rules.specs.CutEvents.{all_within}
use Rattle.log_rules.specs.Events.{dot_steps}
use Rattle.log_rules.specs.Live.{State, Stated, cut_at}
use Rattle.log_rules.specs.LiveEvents.{start_events}
use Rattle.log_rules.specs.Runs.{steps}
use Rattle.log_rules.proofs.Failures.{steps-append}
use Rattle.entry_checks.specs.Cuts.{stated, named_from}
use Rattle.entry_checks.specs.Parts.{tight_events, tights_events, corner_events, corners_events, all_corners}
use Rattle.entry_checks.specs.declared.corner.Cut.{Cut}
use Rattle.vlp_matrices.proofs.Lists.{map-at, drop-next}
use Rattle.std.proofs.lemmas.List.{get_or_default}
use Rattle.entry_checks.proofs.RisingNumbers.{within-at, length-numbered, length-pieces}
use Rattle.entry_checks.proofs.StepBounds.{steps-all, steps-each, steps-dot_right, steps-tested, short_pieces, short_numbered}

-- a cut that is named by its number
pub cut-named : (cuts : List Cut) (ks : List ℕ) (i : ℕ) (cut : Cut) → all_within (length cuts) ks ≡ true → i < length ks →
    cut ≡ slice_index_or cuts (slice_index_or ks i 0 - 1) cut → stated cut ≡ slice_index_or (named_from (map stated cuts) ks) i (stated cut)
cut-named cuts ks i cut h l p =
    let place = within-at (length cuts) ks i h l in
    let k : ℕ = slice_index_or ks i 0 in
    let item : cut_at (map stated cuts) k ≡ slice_index_or (named_from (map stated cuts) ks) i (cut_at (map stated cuts) k) = map-at (cut_at (map stated cuts)) ks i k l (get_or_default ks i 0 k l) in
    let here : stated cut ≡ slice_index_or (map stated cuts) (k - 1) (stated cut) = map-at stated cuts (k - 1) cut (omega (arith, place)) p in
    let many = length-map cuts stated in
    let same : cut_at (map stated cuts) k ≡ stated cut = get_or_default (map stated cuts) (k - 1) _ (stated cut) (omega (arith, place, many)) ∙ sym here in
    subst (λ (c : Stated). c ≡ slice_index_or (named_from (map stated cuts) ks) i c) same item

-- a test of each item, from a place on
pub list_all-here : {X : Type 0} (f : X → Bool) (xs : List X) (i : ℕ) (x : X) → i < length xs → x ≡ slice_index_or xs i x → f x ≡ false → list_all f (drop i xs) ≡ false
list_all-here {X} f xs i x h p z = ap (list_all f) (drop-next i xs x h p) ∙ ap (λ (b : Bool). b && list_all f (drop (suc i) xs)) z

pub list_all-next : {X : Type 0} (f : X → Bool) (xs : List X) (i : ℕ) (x : X) → i < length xs → x ≡ slice_index_or xs i x → f x ≡ true → list_all f (drop i xs) ≡ list_all f (drop (i + 1) xs)
list_all-next {X} f xs i x h p z =
    let one : suc i ≡ i + 1 = omega arith in
    ap (list_all f) (drop-next i xs x h p) ∙ ap (λ (b : Bool). b && list_all f (drop (suc i) xs)) z ∙ ap (λ (n : ℕ). list_all f (drop n xs)) one

pub list_all-end : {X : Type 0} (f : X → Bool) (xs : List X) (i : ℕ) → i ≡ length xs → list_all f (drop i xs) ≡ true
list_all-end f [] i h = ap (λ (n : ℕ). list_all f (drop n [])) h
list_all-end {X} f (x ∷ xs) i h = ap (λ (n : ℕ). list_all f (drop n (x ∷ xs))) h ∙ list_all-end f xs (length xs) refl

-- ---- the lengths of the lists
abbrev pub fits : ℕ → ℕ → ℕ → ℕ → ℕ → Bool
fits n l o p d = (n + l == o) && nat_le 1 n && (p == o) && (d == n * o)

pub fit-many : (n l o p d : ℕ) → fits n l o p d ≡ true → n ≤ o
fit-many n l o p d h =
    let sum = eqb-true (n + l) o (both_true (n + l == o) (nat_le 1 n) (both_true ((n + l == o) && nat_le 1 n) (p == o) (both_true ((n + l == o) && nat_le 1 n && (p == o)) (d == n * o) h).0).0).0 in
    omega (arith, sum)

pub fit-point : (n l o p d : ℕ) → fits n l o p d ≡ true → p ≡ o
fit-point n l o p d h = eqb-true p o (both_true ((n + l == o) && nat_le 1 n) (p == o) (both_true ((n + l == o) && nat_le 1 n && (p == o)) (d == n * o) h).0).1

pub fit-directions : (n l o p d : ℕ) → fits n l o p d ≡ true → d ≡ n * o
fit-directions n l o p d h = eqb-true d (n * o) (both_true ((n + l == o) && nat_le 1 n && (p == o)) (d == n * o) h).1

-- ---- the events of the entry
pub start-as : (file : Problem) (ls : List (List ℚ)) (s : State) (cuts : List Stated) (named : List ℕ) (point directions : List ℚ) → s.cuts ≡ cuts →
    start_events file ls s named point directions ≡ start_events file ls (record s { cuts = cuts }) named point directions
start-as file ls s cuts named point directions h = ap (λ (cs : List Stated). start_events file ls (record s { cuts = cs }) named point directions) h

steps-corner : (w : List ℚ) (own : Bool) (d : List ℚ) → length d ≤ 100000 → steps (corner_events w own d) ≤ 200000
steps-corner w own d h = steps-tested (dot_steps w d) _ _ 200000 (let l = steps-dot_right w d in omega (arith, l, h))

pub steps-start : (file : Problem) (ls : List (List ℚ)) (s : State) (named : List ℕ) (point directions : List ℚ) → length named ≤ file.objs → length point ≡ file.objs →
    steps (start_events file ls s named point directions) < 2 ^ 63
steps-start file ls s named point directions h k =
    let few = file.objs_bounded in
    let ds = pieces (length named) file.objs directions in
    let cuts = named_from s.cuts named in
    let many = length-map named (cut_at s.cuts) in
    let tights = steps-all (λ cut. tight_events point cut.w cut.gamma) 200000 (λ cut. steps-tested (dot_steps cut.w point) _ _ 200000 (near (steps-dot_right cut.w point))) cuts in
    let corners = steps-all (λ c. corners_events ds c.1.w c.0) 20000000000 (λ c. row_of (steps-each (λ d. corner_events c.1.w (d.0 == c.0) d.1) (λ d. length d.1 ≤ file.objs) 200000
    (λ d short. steps-corner c.1.w (d.0 == c.0) d.1 (near_enough short)) (enumerate_from 1 ds) (short_numbered 1 file.objs ds (short_pieces (length named) file.objs directions))))
    (enumerate_from 1 cuts) in
    let numbered = length-numbered 1 cuts in
    let both = steps-append (tights_events point cuts) (all_corners ds cuts) in
    omega (arith, few, many, tights, corners, numbered, both, h)
  where
    near : {n : ℕ} → n ≤ 2 * length point → n ≤ 200000
    near {n} l = let few = file.objs_bounded in omega (arith, l, few, k)

    near_enough : {n : ℕ} → n ≤ file.objs → n ≤ 100000
    near_enough {n} l = let few = file.objs_bounded in omega (arith, l, few)

    row_of : {n : ℕ} → n ≤ length (enumerate_from 1 (pieces (length named) file.objs directions)) * 200000 → n ≤ 20000000000
    row_of {n} l =
        let few = file.objs_bounded in
        let numbered = length-numbered 1 (pieces (length named) file.objs directions) in
        let rows = length-pieces (length named) file.objs directions in
        omega (arith, l, few, numbered, rows, h)
