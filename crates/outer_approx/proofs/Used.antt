-- Cuts that are in use in their order, and what one more cut after them changes.
use Rattle.std.proofs.Common.{◌≡◌, ℕ, zero, suc, ◌+◌, ◌-◌, ◌<◌, ◌≤◌, List, [], ◌∷◌, ◌++◌, map, length, Contains, refl, sym, ap, ap₂, ◌∙◌, arith, append_assoc, length-append, slice_index_or}
use Rattle.std.specs.List.{range_with_len}
use Rattle.std.proofs.Math.Seq.{get_or-append_seam}
use Rattle.std.proofs.lemmas.List.{map-id}
use Rattle.std.proofs.lemmas.List.FromFn.{length-range_with_len, get_or-range_with_len, map-range_with_len_more}
use Rattle.exact_field.specs.Rational.{zero_ℚ}
use Rattle.polyhedra.specs.Exactness.{row_of}
use Rattle.polyhedra.specs.Inequality.{Inequality}
use Rattle.log_rules.specs.Live.{Stated, State, inequality, cut_at, cut_row, in_use}

-- ---- numbers from 1
pub range_more : (n : ℕ) → range_with_len 1 (n + 1) ≡ range_with_len 1 n ++ (n + 1) ∷ []
range_more n =
    sym (map-id (range_with_len 1 (n + 1))) ∙ map-range_with_len_more (λ (k : ℕ). k) 1 n (n + 1) (omega arith)
    ∙ ap (λ (ks : List ℕ). ks ++ (n + 1) ∷ []) (map-id (range_with_len 1 n))

-- none of them is above their count
pub in_range : (n k : ℕ) → Contains (range_with_len 1 n) k → k ≤ n
in_range n k h =
    let many : length (range_with_len 1 n) ≡ n = length-range_with_len 1 n in
    let inside : h.0 < n = let i = h.1 in omega (arith, i, many) in
    let is : k ≡ 1 + h.0 = sym h.2 ∙ get_or-range_with_len 1 n h.0 k inside in
    omega (arith, inside, is)

-- ---- inequalities by their numbers
-- the inequality number k, counted from 1
abbrev pub said_at : List Inequality → ℕ → Inequality
said_at es k = slice_index_or es (k - 1) record { normal = []; bound = zero_ℚ }

map_at : {X Y : Type 0} (f : X → Y) (xs : List X) (i : ℕ) (d : X) → f (slice_index_or xs i d) ≡ slice_index_or (map f xs) i (f d)
map_at f [] i d = refl
map_at f (x ∷ xs) zero d = refl
map_at f (x ∷ xs) (suc i) d = map_at f xs i d

pub said : (cuts : List Stated) (k : ℕ) → inequality (cut_at cuts k) ≡ said_at (map inequality cuts) k
said cuts k = map_at inequality cuts (k - 1) record { w = []; gamma = zero_ℚ; u = [] }

pub said_last : (es more : List Inequality) (e : Inequality) → said_at (es ++ e ∷ more) (length es + 1) ≡ e
said_last es more e =
    let back : length es + 1 - 1 ≡ length es = omega arith in
    let none : Inequality = record { normal = []; bound = zero_ℚ } in
    ap (λ (i : ℕ). slice_index_or (es ++ e ∷ more) i none) back ∙ get_or-append_seam es e more none

-- those of a list among others, by their numbers
said_there : (front es more : List Inequality) → map (said_at (front ++ (es ++ more))) (range_with_len (length front + 1) (length es)) ≡ es
said_there front [] more = refl
said_there front (e ∷ es) more =
    let on : length (front ++ e ∷ []) + 1 ≡ length front + 1 + 1 = let l = length-append front (e ∷ []) in omega (arith, l) in
    ap₂ (λ (x : Inequality) (xs : List Inequality). x ∷ xs) (said_last front (es ++ more) e)
    (ap₂ (λ (all : List Inequality) (a : ℕ). map (said_at all) (range_with_len a (length es))) (sym (append_assoc front (e ∷ []) (es ++ more))) (sym on)
    ∙ said_there (front ++ e ∷ []) es more)

pub said_all : (es more : List Inequality) → map (said_at (es ++ more)) (range_with_len 1 (length es)) ≡ es
said_all es more = said_there [] es more

-- ---- cuts in use
-- the first cuts are in use in their order, and stand for these inequalities
pub first_used : (s : State) (es more : List Inequality) → map inequality s.cuts ≡ es ++ more → s.used ≡ range_with_len 1 (length es) → in_use s ≡ es
first_used s es more cuts used =
    each s.used
    ∙ ap₂ (λ (all : List Inequality) (ks : List ℕ). map (said_at all) ks) cuts used
    ∙ said_all es more
  where
    each : (ks : List ℕ) → map (λ k. inequality (cut_at s.cuts k)) ks ≡ map (said_at (map inequality s.cuts)) ks
    each [] = refl
    each (k ∷ ks) = ap₂ (λ (x : Inequality) (xs : List Inequality). x ∷ xs) (said s.cuts k) (each ks)

-- the row of the cut after them
pub next_row : (s : State) (es more : List Inequality) (e : Inequality) → map inequality s.cuts ≡ es ++ e ∷ more → cut_row s (length es + 1) ≡ row_of e
next_row s es more e cuts =
    ap row_of (said s.cuts (length es + 1) ∙ ap (λ (all : List Inequality). said_at all (length es + 1)) cuts ∙ said_last es more e)
