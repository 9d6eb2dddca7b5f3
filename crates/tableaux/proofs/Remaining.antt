-- The measure of a phase: how many bases have a greater cost row. It falls at each pivot.
use Rattle.std.proofs.Common.{◌≡◌, ℕ, zero, suc, List, [], ◌∷◌, ◌++◌, map, length, flat_map, All, Option, None, Some, refl, sym, ap, ◌∙◌, subst, Bool, true, false, true≢false, Contains, ◌<◌, ◌≤◌, ◌+◌, inl, inr, arith}
use Rattle.exact_field.specs.Rational.{ℚ}
use Rattle.polyhedra.specs.Vectors.{AreWide}
use Rattle.polyhedra.proofs.Lists.{Contains-here, Contains-there, Contains-cases, Contains-nil}
use Rattle.std.proofs.Math.Nat.{eq-or-lt_of_le}
use Rattle.std.proofs.lemmas.List.Elements.{All-head, All-tail}
use Rattle.polyhedra.proofs.Members.{Contains-map}
use Rattle.tableaux.specs.Table.{Table, row_of, list_from}
use Rattle.tableaux.specs.Dictionary.{IsDictionary}
use Rattle.tableaux.specs.Laws.{MeasureFalls}
use Rattle.tableaux.specs.Lex.{lex_less, entries_at}
use Rattle.tableaux.proofs.Tally.{tally, tally-lt}
use Rattle.tableaux.proofs.Lexicographic.{lex_irrefl, lex_trans}
use Rattle.tableaux.proofs.Found.{dictionary_row, row_found}

-- whether there is a cost row, and v stands before it
abbrev pub is_above : List ℚ → Option (List ℚ) → Bool
is_above v None = false
is_above v (Some w) = lex_less v w

-- the bases with a cost row above v
abbrev pub remaining : (List ℕ → Option (List ℚ)) → List (List ℕ) → List ℚ → ℕ
remaining cost_at bases v = tally (λ b. is_above v (cost_at b)) bases

above_trans : (u v : List ℚ) (w : Option (List ℚ)) → lex_less u v ≡ true → is_above v w ≡ true → is_above u w ≡ true
above_trans u v None h k = absurd (true≢false (sym k))
above_trans u v (Some w) h k = lex_trans u v w h k

-- at a basis with a greater cost row fewer bases remain
pub remaining-falls : (cost_at : List ℕ → Option (List ℚ)) (bases : List (List ℕ)) (u v : List ℚ) (b : List ℕ) → Contains bases b → cost_at b ≡ Some v →
    lex_less u v ≡ true → remaining cost_at bases v < remaining cost_at bases u
remaining-falls cost_at bases u v b c e h =
    tally-lt (λ b. is_above v (cost_at b)) (λ b. is_above u (cost_at b)) (λ b k. above_trans u v (cost_at b) h k) bases b c
    (ap (is_above v) e ∙ lex_irrefl v) (ap (is_above u) e ∙ h)

-- the entries of row i at these columns, in the dictionary of a table at a basis
abbrev taken : List ℕ → Option (List ℚ) → Option (List ℚ)
taken columns None = None
taken columns (Some row) = Some (entries_at columns row)

abbrev pub cost_at : ℕ → Table → ℕ → List ℕ → List ℕ → Option (List ℚ)
cost_at width t i columns basis = taken columns (dictionary_row t basis width i)

pub cost_found : (width : ℕ) (t : Table) (i : ℕ) (columns basis : List ℕ) (d : Table) → AreWide width t → IsDictionary width t basis d → 1 ≤ i → i ≤ length t →
    cost_at width t i columns basis ≡ Some (entries_at columns (row_of d i))
cost_found width t i columns basis d w h l u = ap (taken columns) (row_found t basis width d i w h l u)

-- all lists of m numbers up to w
abbrev pub all_lists : ℕ → ℕ → List (List ℕ)
all_lists zero w = [] ∷ []
all_lists (suc m) w = flat_map (λ c. map (λ b. c ∷ b) (all_lists m w)) (list_from 0 (suc w) (λ c. c))

pub contains_append_left : {X : Type 0} (xs ys : List X) (x : X) → Contains xs x → Contains (xs ++ ys) x
contains_append_left [] ys x c = absurd (Contains-nil x c)
contains_append_left (z ∷ xs) ys x c =
    elim (Contains-cases z xs x c) [ inl e ↦ Contains-here z (xs ++ ys) x e | inr r ↦ Contains-there z (xs ++ ys) x (contains_append_left xs ys x r) ]

pub contains_append_right : {X : Type 0} (xs ys : List X) (x : X) → Contains ys x → Contains (xs ++ ys) x
contains_append_right [] ys x c = c
contains_append_right (z ∷ xs) ys x c = Contains-there z (xs ++ ys) x (contains_append_right xs ys x c)

pub contains_flat : {X Y : Type 0} (f : X → List Y) (xs : List X) (x : X) (y : Y) → Contains xs x → Contains (f x) y → Contains (flat_map f xs) y
contains_flat f [] x y c h = absurd (Contains-nil x c)
contains_flat f (z ∷ xs) x y c h =
    elim (Contains-cases z xs x c) [
      | inl e ↦ contains_append_left (f z) (flat_map f xs) y (subst (λ w. Contains (f w) y) (sym e) h)
      | inr r ↦ contains_append_right (f z) (flat_map f xs) y (contains_flat f xs x y r h)
    ]

contains_number : (k n c : ℕ) → k ≤ c → c < k + n → Contains (list_from k n (λ i. i)) c
contains_number k zero c h l = absurd (omega arith)
contains_number k (suc n) c h l =
    elim (eq-or-lt_of_le h) [
      | inl e ↦ Contains-here k (list_from (suc k) n (λ i. i)) c e
      | inr m ↦ Contains-there k (list_from (suc k) n (λ i. i)) c (contains_number (suc k) n c (omega (arith, m)) (omega arith))
    ]

-- a list of m numbers up to w is one of them
pub is_listed : (m w : ℕ) (b : List ℕ) → length b ≡ m → All (λ c. c ≤ w) b → Contains (all_lists m w) b
is_listed zero w [] l high = Contains-here [] [] [] refl
is_listed zero w (c ∷ b) l high = absurd (omega arith)
is_listed (suc m) w [] l high = absurd (omega arith)
is_listed (suc m) w (c ∷ b) l high =
    let c_high : c ≤ w = All-head (λ c. c ≤ w) c b high in
    contains_flat (λ c. map (λ b. c ∷ b) (all_lists m w)) (list_from 0 (suc w) (λ c. c)) c (c ∷ b)
    (contains_number 0 (suc w) c (omega arith) (omega arith))
    (Contains-map (λ b. c ∷ b) (all_lists m w) b
    (is_listed m w b (omega arith) (All-tail (λ c. c ≤ w) c b high)))

-- the measure of a phase that began with the dictionary start: it falls from one dictionary of start to another whose row i is greater at
-- these columns
pub measure_falls : (width : ℕ) (start : Table) (i : ℕ) (columns : List ℕ) (bases : List (List ℕ)) (basis : List ℕ) (d e : Table) →
    AreWide width start → 1 ≤ i → i ≤ length start → Contains bases basis → IsDictionary width start basis e →
    lex_less (entries_at columns (row_of d i)) (entries_at columns (row_of e i)) ≡ true →
    remaining (cost_at width start i columns) bases (entries_at columns (row_of e i)) < remaining (cost_at width start i columns) bases (entries_at columns (row_of d i))
measure_falls width start i columns bases basis d e w l u c h less =
    remaining-falls (cost_at width start i columns) bases (entries_at columns (row_of d i)) (entries_at columns (row_of e i)) basis c
    (cost_found width start i columns basis e w h l u) less

pub measure_of_a_phase : MeasureFalls
measure_of_a_phase width t i m columns w l u = (
  remaining (cost_at width t i columns) (all_lists m width),
  λ basis d e long high h less. measure_falls width t i columns (all_lists m width) basis d e w l u (is_listed m width basis long high) h less,
)
