-- Statements of which no two give one place, and what lists of statements give that are numbered.
use Rattle.std.proofs.Common.{◌≡◌, refl, ℕ, zero, suc, ◌+◌, ◌<◌, inl, inr, Bool, true, false, not, ◌&&◌, ◌||◌, ◌==◌, nat_lt, nat_le, if◌then◌else◌, List, [], ◌∷◌, ◌++◌, count_by, Option, None, Some, Result, zero-add, add-zero, arith, ap, sym, ◌∙◌}
use Rattle.std.specs.List.{list_all, list_any, flat_map}
use Rattle.std.specs.Option.{option_or}
use Rattle.std.proofs.lemmas.Bool.{or_parts, and_parts, and_from, cond-true, cond-false, lt-ltb, ltb-true, le-leb, eqb-true, cases_eq, or_from, false_from_ne_true}
use Rattle.std.proofs.lemmas.Bool.Decides.{nat_tests}
use Rattle.std.proofs.lemmas.List.{append_assoc, append-nil}
use Rattle.std.proofs.lemmas.List.Folds.{list_all-append, list_any-append}
use Rattle.std.proofs.lemmas.List.Sums.{sum_by-append}
use Rattle.exact_field.specs.Rational.{ℚ}
use Rattle.vlp_reader.specs.Grammar.{first_given, given_entry, given_bound, same_matrix, same_axis, number_value, bound_value}
use Rattle.vlp_problem.specs.Sides.{numbers_from}
use Rattle.vlp_reader.specs.declared.fault.FileKind.{FileKind}
use Rattle.vlp_problem.specs.declared.problem.Bound.{Bound}
use Rattle.vlp_problem.specs.declared.problem.Axis.{Axis}
use Rattle.vlp_reader.specs.declared.statement.Matrix.{Matrix}
use Rattle.vlp_reader.specs.declared.statement.Statement.{Statement}
use Rattle.vlp_reader.specs.declared.statement.Statement.TheVariants.{Silent, Heading, Entry, Limit, End}
use Rattle.vlp_reader.proofs.MoreStatements.{option_or_none}

-- whether t gives the place of s
abbrev pub clashes : Statement → Statement → Bool
clashes (Entry m i j number) (Entry n k l value) = same_matrix m n && (i == k && j == l)
clashes (Limit axis n bound) (Limit other k limit) = same_axis axis other && n == k
clashes _ _ = false

-- whether each statement has a place of its own after those before it
abbrev pub apart : List Statement → List Statement → Bool
apart earlier [] = true
apart earlier (s ∷ ss) = not (list_any (clashes s) earlier) && apart (earlier ++ s ∷ []) ss

-- ---- a place that is given to none
entry_free : (m : Matrix) (i j : ℕ) (number : Result ℚ FileKind) (t : Statement) → clashes (Entry m i j number) t ≡ false → given_entry m i j t ≡ None
entry_free m i j number Silent h = refl
entry_free m i j number (Heading s) h = refl
entry_free m i j number (Entry n k l value) h = cond-false (same_matrix m n && (i == k && j == l)) (Some (number_value value)) None h
entry_free m i j number (Limit axis n bound) h = refl
entry_free m i j number End h = refl

bound_free : (axis : Axis) (n : ℕ) (bound : Result Bound FileKind) (t : Statement) → clashes (Limit axis n bound) t ≡ false → given_bound axis n t ≡ None
bound_free axis n bound Silent h = refl
bound_free axis n bound (Heading s) h = refl
bound_free axis n bound (Entry m i j value) h = refl
bound_free axis n bound (Limit other k limit) h = cond-false (same_axis axis other && n == k) (Some (bound_value limit)) None h
bound_free axis n bound End h = refl

none_given : {A : Type 0} (f : Statement → Option A) (p : Statement → Bool) → ((t : Statement) → p t ≡ false → f t ≡ None) → (ss : List Statement) → list_any p ss ≡ false → first_given f ss ≡ None
none_given f p free [] h = refl
none_given f p free (t ∷ ss) h =
    let parts = or_parts (p t) (list_any p ss) h in
    ap (λ o. option_or o (first_given f ss)) (free t parts.0) ∙ none_given f p free ss parts.1

pub entry_fresh : (m : Matrix) (i j : ℕ) (number : Result ℚ FileKind) (earlier : List Statement) → list_any (clashes (Entry m i j number)) earlier ≡ false → first_given (given_entry m i j) earlier ≡ None
entry_fresh m i j number earlier h = none_given (given_entry m i j) (clashes (Entry m i j number)) (λ t k. entry_free m i j number t k) earlier h

pub bound_fresh : (axis : Axis) (n : ℕ) (bound : Result Bound FileKind) (earlier : List Statement) → list_any (clashes (Limit axis n bound)) earlier ≡ false → first_given (given_bound axis n) earlier ≡ None
bound_fresh axis n bound earlier h = none_given (given_bound axis n) (clashes (Limit axis n bound)) (λ t k. bound_free axis n bound t k) earlier h

-- ---- lists after lists
apart-append : (earlier xs ys : List Statement) → apart earlier (xs ++ ys) ≡ (apart earlier xs && apart (earlier ++ xs) ys)
apart-append earlier [] ys = ap (λ (l : List Statement). apart l ys) (sym (append-nil earlier))
apart-append earlier (x ∷ xs) ys =
    ap (λ b. not (list_any (clashes x) earlier) && b) (apart-append (earlier ++ x ∷ []) xs ys ∙ ap (λ (l : List Statement). apart (earlier ++ x ∷ []) xs && apart l ys) (append_assoc earlier (x ∷ []) xs))
    ∙ and_assoc (not (list_any (clashes x) earlier)) (apart (earlier ++ x ∷ []) xs) (apart (earlier ++ x ∷ xs) ys)
  where
    and_assoc : (a b c : Bool) → (a && (b && c)) ≡ (a && b && c)
    and_assoc true b c = refl
    and_assoc false b c = refl

-- general; belongs beside option_or_none
or_assoc : {A : Type 0} (o p q : Option A) → option_or o (option_or p q) ≡ option_or (option_or o p) q
or_assoc None p q = refl
or_assoc (Some x) p q = refl

pub first_given-append : {A : Type 0} (f : Statement → Option A) (xs ys : List Statement) → first_given f (xs ++ ys) ≡ option_or (first_given f xs) (first_given f ys)
first_given-append f [] ys = refl
first_given-append f (x ∷ xs) ys = ap (option_or (f x)) (first_given-append f xs ys) ∙ or_assoc (f x) (first_given f xs) (first_given f ys)

-- ---- numbered lists: each statement of list number k has the key k, and statements of one place have one key
pub record Keys (key : Statement → ℕ) : Type 0 where
  pub same : (s t : Statement) → clashes s t ≡ true → key s ≡ key t

abbrev pub has_key : (Statement → ℕ) → ℕ → List Statement → Bool
has_key key k ss = list_all (λ s. key s == k) ss

abbrev is_below : (Statement → ℕ) → ℕ → List Statement → Bool
is_below key k ss = list_all (λ s. nat_lt (key s) k) ss

no_clash : (key : Statement → ℕ) → Keys key → (s : Statement) (k : ℕ) (earlier : List Statement) → (key s == k) ≡ true → is_below key k earlier ≡ true → list_any (clashes s) earlier ≡ false
no_clash key keys s k [] h below = refl
no_clash key keys s k (t ∷ earlier) h below =
    let parts = and_parts (nat_lt (key t) k) (is_below key k earlier) below in
    let less : key t < k = ltb-true (key t) k parts.0 in
    let is : key s ≡ k = eqb-true (key s) k h in
    or_from (clashes s t) (list_any (clashes s) earlier) (false_from_ne_true (clashes s t) (λ e. let same : key s ≡ key t = keys.same s t e in absurd (omega arith))) (no_clash key keys s k earlier h parts.1)

-- what stands below does not matter
apart_after : (key : Statement → ℕ) → Keys key → (k : ℕ) (earlier done xs : List Statement) → is_below key k earlier ≡ true → has_key key k xs ≡ true → apart done xs ≡ true → apart (earlier ++ done) xs ≡ true
apart_after key keys k earlier done [] below keyed h = refl
apart_after key keys k earlier done (x ∷ xs) below keyed h =
    let parts = and_parts (not (list_any (clashes x) done)) (apart (done ++ x ∷ []) xs) h in
    let of = and_parts (key x == k) (has_key key k xs) keyed in
    and_from _ _
    (ap not (list_any-append (clashes x) earlier done ∙ ap (λ b. b || list_any (clashes x) done) (no_clash key keys x k earlier of.0 below)) ∙ parts.0)
    (ap (λ (l : List Statement). apart l xs) (append_assoc earlier done (x ∷ [])) ∙ apart_after key keys k earlier (done ++ x ∷ []) xs below of.1 parts.1)

pub record Numbered (key : Statement → ℕ) (g : ℕ → List Statement) : Type 0 where
  pub keyed : (k : ℕ) → has_key key k (g k) ≡ true
  pub each : (k : ℕ) → apart [] (g k) ≡ true

below_next : (key : Statement → ℕ) (k : ℕ) (xs : List Statement) → is_below key k xs ≡ true → is_below key (suc k) xs ≡ true
below_next key k [] h = refl
below_next key k (x ∷ xs) h =
    let parts = and_parts (nat_lt (key x) k) (is_below key k xs) h in
    let less : key x < k = ltb-true (key x) k parts.0 in
    and_from _ _ (lt-ltb (key x) (suc k) (omega arith)) (below_next key k xs parts.1)

below_own : (key : Statement → ℕ) (k : ℕ) (xs : List Statement) → has_key key k xs ≡ true → is_below key (suc k) xs ≡ true
below_own key k [] h = refl
below_own key k (x ∷ xs) h =
    let parts = and_parts (key x == k) (has_key key k xs) h in
    let is : key x ≡ k = eqb-true (key x) k parts.0 in
    and_from _ _ (lt-ltb (key x) (suc k) (omega arith)) (below_own key k xs parts.1)

pub apart_numbers : (key : Statement → ℕ) → Keys key → (g : ℕ → List Statement) → Numbered key g → (a n : ℕ) (earlier : List Statement) → is_below key a earlier ≡ true → apart earlier (flat_map g (numbers_from a n)) ≡ true
apart_numbers key keys g numbered a zero earlier below = refl
apart_numbers key keys g numbered a (suc n) earlier below =
    apart-append earlier (g a) (flat_map g (numbers_from (suc a) n))
    ∙ and_from _ _ (ap (λ (l : List Statement). apart l (g a)) (sym (append-nil earlier)) ∙ apart_after key keys a earlier [] (g a) below (numbered.keyed a) (numbered.each a))
    (apart_numbers key keys g numbered (suc a) n (earlier ++ g a)
    (list_all-append (λ s. nat_lt (key s) (suc a)) earlier (g a) ∙ and_from _ _ (below_next key a earlier below) (below_own key a (g a) (numbered.keyed a))))

pub apart_alone : (key : Statement → ℕ) → Keys key → (g : ℕ → List Statement) → Numbered key g → (a n : ℕ) → apart [] (flat_map g (numbers_from a n)) ≡ true
apart_alone key keys g numbered a n = apart_numbers key keys g numbered a n [] refl

-- ---- what numbered lists give, to who asks for one key alone
abbrev in_numbers : (k a n : ℕ) → Bool
in_numbers k a n = nat_le a k && nat_lt k (a + n)

in_first : (a n : ℕ) → in_numbers a a (suc n) ≡ true
in_first a n = and_from (nat_le a a) (nat_lt a (a + suc n)) (le-leb a a (omega arith)) (lt-ltb a (a + suc n) (omega arith))

not_later : (a n : ℕ) → in_numbers a (suc a) n ≡ false
not_later a n = grind (arith, nat_tests)

in_later : (k a n : ℕ) → (k ≡ a → ⊥) → in_numbers k (suc a) n ≡ in_numbers k a (suc n)
in_later k a n h = grind (arith, nat_tests)

other_key : {A : Type 0} (f : Statement → Option A) (key : Statement → ℕ) (k a : ℕ) → ((s : Statement) → (key s ≡ k → ⊥) → f s ≡ None) → (k ≡ a → ⊥) → (ss : List Statement) → has_key key a ss ≡ true → first_given f ss ≡ None
other_key f key k a only other [] h = refl
other_key f key k a only other (s ∷ ss) h =
    let parts = and_parts (key s == a) (has_key key a ss) h in
    ap (λ o. option_or o (first_given f ss)) (only s (λ e. other (sym e ∙ eqb-true (key s) a parts.0))) ∙ other_key f key k a only other ss parts.1

pub given_numbers : {A : Type 0} (f : Statement → Option A) (key : Statement → ℕ) (k : ℕ) → ((s : Statement) → (key s ≡ k → ⊥) → f s ≡ None) → (g : ℕ → List Statement) → ((i : ℕ) → has_key key i (g i) ≡ true) → (a n : ℕ)
    → first_given f (flat_map g (numbers_from a n)) ≡ (if nat_le a k && nat_lt k (a + n) then first_given f (g k) else None)
given_numbers f key k only g keyed a zero = sym (cond-false (in_numbers k a 0) (first_given f (g k)) None (nothing k a))
  where
    nothing : (k a : ℕ) → in_numbers k a 0 ≡ false
    nothing k a = grind (arith, nat_tests)
given_numbers f key k only g keyed a (suc n) = first_given-append f (g a) (flat_map g (numbers_from (suc a) n)) ∙ elim (cases_eq k a) [
  | inl same ↦
      ap (option_or (first_given f (g a))) (given_numbers f key k only g keyed (suc a) n ∙ cond-false (in_numbers k (suc a) n) (first_given f (g k)) None (ap (λ (m : ℕ). in_numbers m (suc a) n) same ∙ not_later a n))
      ∙ option_or_none (first_given f (g a)) ∙ ap (λ (m : ℕ). first_given f (g m)) (sym same)
      ∙ sym (cond-true (in_numbers k a (suc n)) (first_given f (g k)) None (ap (λ (m : ℕ). in_numbers m a (suc n)) same ∙ in_first a n))
  | inr other ↦
      ap (λ o. option_or o (first_given f (flat_map g (numbers_from (suc a) n)))) (other_key f key k a only other (g a) (keyed a))
      ∙ given_numbers f key k only g keyed (suc a) n ∙ ap (λ b. if b then first_given f (g k) else None) (in_later k a n other)
]

-- ---- and how many of one key there are
pub count-append : {A : Type 0} (test : A → Bool) (xs ys : List A) → count_by test (xs ++ ys) ≡ count_by test xs + count_by test ys
count-append test xs ys = sum_by-append (λ x. if test x then 1 else 0) xs ys

pub count-cons : {A : Type 0} (test : A → Bool) (x : A) (xs : List A) → count_by test (x ∷ xs) ≡ (if test x then 1 else 0) + count_by test xs
count-cons test x xs = count-append test (x ∷ []) xs ∙ ap (λ (n : ℕ). n + count_by test xs) (zero-add (if test x then 1 else 0))

other_count : (test : Statement → Bool) (key : Statement → ℕ) (k a : ℕ) → ((s : Statement) → (key s ≡ k → ⊥) → test s ≡ false) → (k ≡ a → ⊥) → (ss : List Statement) → has_key key a ss ≡ true → count_by test ss ≡ 0
other_count test key k a only other [] h = refl
other_count test key k a only other (s ∷ ss) h =
    let parts = and_parts (key s == a) (has_key key a ss) h in
    let rest = other_count test key k a only other ss parts.1 in
    let none : test s ≡ false = only s (λ e. other (sym e ∙ eqb-true (key s) a parts.0)) in
    count-cons test s ss ∙ ap (λ b. (if b then 1 else 0) + count_by test ss) none ∙ zero-add (count_by test ss) ∙ rest

pub count_numbers : (test : Statement → Bool) (key : Statement → ℕ) (k : ℕ) → ((s : Statement) → (key s ≡ k → ⊥) → test s ≡ false) → (g : ℕ → List Statement) → ((i : ℕ) → has_key key i (g i) ≡ true) → (a n : ℕ)
    → count_by test (flat_map g (numbers_from a n)) ≡ (if nat_le a k && nat_lt k (a + n) then count_by test (g k) else 0)
count_numbers test key k only g keyed a zero = sym (cond-false (in_numbers k a 0) (count_by test (g k)) 0 (nothing k a))
  where
    nothing : (k a : ℕ) → in_numbers k a 0 ≡ false
    nothing k a = grind (arith, nat_tests)
count_numbers test key k only g keyed a (suc n) = count-append test (g a) (flat_map g (numbers_from (suc a) n)) ∙ elim (cases_eq k a) [
  | inl same ↦
      ap (λ (m : ℕ). count_by test (g a) + m) (count_numbers test key k only g keyed (suc a) n ∙ cond-false (in_numbers k (suc a) n) (count_by test (g k)) 0 (ap (λ (m : ℕ). in_numbers m (suc a) n) same ∙ not_later a n))
      ∙ add-zero (count_by test (g a)) ∙ ap (λ (m : ℕ). count_by test (g m)) (sym same)
      ∙ sym (cond-true (in_numbers k a (suc n)) (count_by test (g k)) 0 (ap (λ (m : ℕ). in_numbers m a (suc n)) same ∙ in_first a n))
  | inr other ↦
      ap (λ (m : ℕ). m + count_by test (flat_map g (numbers_from (suc a) n))) (other_count test key k a only other (g a) (keyed a))
      ∙ zero-add (count_by test (flat_map g (numbers_from (suc a) n)))
      ∙ count_numbers test key k only g keyed (suc a) n ∙ ap (λ b. if b then count_by test (g k) else 0) (in_later k a n other)
]
