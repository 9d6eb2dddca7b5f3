-- Sets as lists of their numbers below a bound: what the words of a set say of the set.
use Rattle.std.proofs.Common.{◌≡◌, ◌≢◌, ℕ, zero, suc, ◌/◌, ◌%◌, max, length-append, ◌+◌, ◌-◌, ◌*◌, ◌<◌, ◌≤◌, List, [], ◌∷◌, ◌++◌, length, get_or, set, replicate, min, Bool, true, false, ◌&&◌, ◌||◌, refl, sym, ap, ap₂, ◌∙◌, ◌⊎◌, inl, inr, arith}
use Rattle.std.specs.Prelude.{IsTrue, ◌↔◌, ◌==◌, not, nat_eq}
use Rattle.std.specs.Int.{bit_at}
use Rattle.std.proofs.lemmas.Bool.{cases_eq, cases_lt}
use Rattle.std.proofs.lemmas.Nat.Bits.{bit_at-zero}
use Rattle.std.proofs.lemmas.List.{get_or_past, length-replicate, get_or-append_right, get_or-set_same, get_or-set_other, length-set}
use Rattle.std.proofs.Math.ListN.{get_or-append}
use Rattle.std.proofs.lemmas.List.FromFn.{length-map-range_with_len, get_or-map-range_with_len, fill_by_all}
use Rattle.incid_sets.specs.Words.{is_marked, marks_below, AreBounded, AddsMark, TellsMark}
use Rattle.incid_sets.specs.Marks.{has, no_marks, ContainsAll, CoversBoth, IsAllBut, IsMeet, IsUnion}

pub length-marks_below : (bound : ℕ) (words : List ℕ) → length (marks_below bound words) ≡ bound
length-marks_below bound words = length-map-range_with_len (is_marked words) 0 bound

-- a set has a number exactly where its words do
pub has-marks_below : (bound : ℕ) (words : List ℕ) → AreBounded words bound → (k : ℕ) → has (marks_below bound words) k ≡ is_marked words k
has-marks_below bound words h k = by (cases_lt k bound)
  where
    by : (k < bound) ⊎ (bound ≤ k) → has (marks_below bound words) k ≡ is_marked words k
    by (inl l) = get_or-map-range_with_len (is_marked words) 0 bound k k false l (omega arith)
    by (inr l) = get_or_past (marks_below bound words) k false (let e : length (marks_below bound words) ≡ bound = length-marks_below bound words in omega arith)
        ∙ sym (h.none_above k l)

-- a list that says of each number below the bound what the words say
pub marks-same : (bound : ℕ) (words : List ℕ) (marks : List Bool) → length marks ≡ bound →
    ((k : ℕ) → k < bound → has marks k ≡ is_marked words k) → marks ≡ marks_below bound words
marks-same bound words marks e h = fill_by_all (is_marked words) marks bound false e h

-- the same numbers below the bound are one set
pub marks_below-same : (bound : ℕ) (words other : List ℕ) → ((k : ℕ) → k < bound → is_marked words k ≡ is_marked other k) →
    marks_below bound words ≡ marks_below bound other
marks_below-same bound words other h = marks-same bound other (marks_below bound words) (length-marks_below bound words)
    (λ k l. get_or-map-range_with_len (is_marked words) 0 bound k k false l (omega arith) ∙ h k l)

-- ---- of two and three sets
pub contains_all : (words other : List ℕ) (n m : ℕ) → AreBounded words n → AreBounded other m → (b : Bool) →
    IsTrue b ↔ ((k : ℕ) → IsTrue (is_marked other k) → IsTrue (is_marked words k)) → IsTrue b ↔ ContainsAll (marks_below n words) (marks_below m other)
contains_all words other n m h i b e = (
  λ t k x. has-marks_below n words h k ∙ e.0 t k (sym (has-marks_below m other i k) ∙ x),
  λ f. e.1 (λ k x. sym (has-marks_below n words h k) ∙ f k (has-marks_below m other i k ∙ x)),
)

pub covers_both : (words p q : List ℕ) (n m l : ℕ) → AreBounded words n → AreBounded p m → AreBounded q l → (b : Bool) →
    IsTrue b ↔ ((k : ℕ) → IsTrue (is_marked p k) → IsTrue (is_marked q k) → IsTrue (is_marked words k)) →
    IsTrue b ↔ CoversBoth (marks_below n words) (marks_below m p) (marks_below l q)
covers_both words p q n m l h i j b e = (
  λ t k x y. has-marks_below n words h k ∙ e.0 t k (sym (has-marks_below m p i k) ∙ x) (sym (has-marks_below l q j k) ∙ y),
  λ f. e.1 (λ k x y. sym (has-marks_below n words h k) ∙ f k (has-marks_below m p i k ∙ x) (has-marks_below l q j k ∙ y)),
)

-- ---- a meet
pub both_false : (a b : Bool) → (a ≡ false) ⊎ (b ≡ false) → (a && b) ≡ false
both_false a b (inl e) = ap (λ x. x && b) e
both_false true b (inr e) = e
both_false false b (inr e) = refl

-- past its words no number is marked
pub past_words : (words : List ℕ) (k : ℕ) → 64 * length words ≤ k → is_marked words k ≡ false
past_words words k h = ap (λ (n : ℕ). bit_at n (k % 64) == 1) (get_or_past words (k / 64) 0 (omega arith)) ∙ ap (λ (b : ℕ). b == 1) (bit_at-zero (k % 64))

pub meet_bounded : (words a b : List ℕ) (n m l : ℕ) → AreBounded a m → AreBounded b l → n ≡ min m l → n ≤ 64 * length words →
    ((k : ℕ) → k < 64 * length words → is_marked words k ≡ (is_marked a k && is_marked b k)) → AreBounded words n
meet_bounded words a b n m l h i e room f = record { room = room; none_above = λ k above. by k above (cases_lt k (64 * length words)) (cases_lt k m) }
  where
    by : (k : ℕ) → n ≤ k → (k < 64 * length words) ⊎ (64 * length words ≤ k) → (k < m) ⊎ (m ≤ k) → is_marked words k ≡ false
    by k above (inr p) q = past_words words k p
    by k above (inl p) (inr q) = f k p ∙ both_false (is_marked a k) (is_marked b k) (inl (h.none_above k q))
    by k above (inl p) (inl q) = f k p ∙ both_false (is_marked a k) (is_marked b k) (inr (i.none_above k (omega arith)))

pub meet_is : (words a b : List ℕ) (n m l : ℕ) → AreBounded words n → AreBounded a m → AreBounded b l → n ≡ min m l →
    ((k : ℕ) → k < 64 * length words → is_marked words k ≡ (is_marked a k && is_marked b k)) →
    IsMeet (marks_below n words) (marks_below m a) (marks_below l b)
meet_is words a b n m l h i j e f = record {
  bound = length-marks_below n words ∙ e ∙ sym (ap₂ min (length-marks_below m a) (length-marks_below l b));
  common = λ k. has-marks_below n words h k ∙ by k (cases_lt k (64 * length words)) (cases_lt k m)
      ∙ sym (ap₂ (λ x y. x && y) (has-marks_below m a i k) (has-marks_below l b j k));
}
  where
    by : (k : ℕ) → (k < 64 * length words) ⊎ (64 * length words ≤ k) → (k < m) ⊎ (m ≤ k) → is_marked words k ≡ (is_marked a k && is_marked b k)
    by k (inl p) q = f k p
    by k (inr p) (inr q) = past_words words k p ∙ sym (both_false (is_marked a k) (is_marked b k) (inl (i.none_above k q)))
    by k (inr p) (inl q) = let r : n ≤ 64 * length words = h.room in past_words words k p ∙ sym (both_false (is_marked a k) (is_marked b k) (inr (j.none_above k (omega arith))))

-- ---- a union
pub union_bounded : (words a b : List ℕ) (n m : ℕ) → AreBounded a n → AreBounded b m → m ≤ n → length words ≡ length a →
    ((k : ℕ) → k < 64 * length a → is_marked words k ≡ (is_marked a k || is_marked b k)) → AreBounded words n
union_bounded words a b n m h i less many f = record {
  room = (let r : n ≤ 64 * length a = h.room in omega arith);
  none_above = λ k above. by k above (cases_lt k (64 * length a));
}
  where
    by : (k : ℕ) → n ≤ k → (k < 64 * length a) ⊎ (64 * length a ≤ k) → is_marked words k ≡ false
    by k above (inl p) = f k p ∙ ap₂ (λ x y. x || y) (h.none_above k above) (i.none_above k (omega arith))
    by k above (inr p) = past_words words k (omega arith)

pub union_is : (words a b : List ℕ) (n m : ℕ) → AreBounded words n → AreBounded a n → AreBounded b m → m ≤ n →
    ((k : ℕ) → k < 64 * length a → is_marked words k ≡ (is_marked a k || is_marked b k)) →
    IsUnion (marks_below n words) (marks_below n a) (marks_below m b)
union_is words a b n m h i j less f = record {
  bound = (let x : length (marks_below n words) ≡ n = length-marks_below n words in
      let y : length (marks_below n a) ≡ n = length-marks_below n a in
      let z : length (marks_below m b) ≡ m = length-marks_below m b in omega arith);
  either = λ k. has-marks_below n words h k ∙ by k (cases_lt k n) ∙ sym (ap₂ (λ x y. x || y) (has-marks_below n a i k) (has-marks_below m b j k));
}
  where
    by : (k : ℕ) → (k < n) ⊎ (n ≤ k) → is_marked words k ≡ (is_marked a k || is_marked b k)
    by k (inl p) = let r : n ≤ 64 * length a = i.room in f k (omega arith)
    by k (inr p) = h.none_above k p ∙ sym (ap₂ (λ x y. x || y) (i.none_above k p) (j.none_above k (omega arith)))

-- ---- words of zeros
abbrev zero_list : ℕ → List ℕ
zero_list n = replicate n 0

abbrev zero_word : List ℕ
zero_word = 0 ∷ []

zero_words : (n k : ℕ) → is_marked (zero_list n) k ≡ false
zero_words n k = ap (λ (w : ℕ). bit_at w (k % 64) == 1) (get_or-replicate n (k / 64)) ∙ ap (λ (b : ℕ). b == 1) (bit_at-zero (k % 64))
  where
    get_or-replicate : (n i : ℕ) → get_or (zero_list n) i 0 ≡ zero
    get_or-replicate zero i = refl
    get_or-replicate (suc n) zero = refl
    get_or-replicate (suc n) (suc i) = get_or-replicate n i

pub zeros_bounded : (n bound : ℕ) → bound ≤ 64 * n → AreBounded (zero_list n) bound
zeros_bounded n bound h = record { room = (let e : length (zero_list n) ≡ n = length-replicate n 0 in omega arith); none_above = λ k l. zero_words n k }

has-no_marks : (bound k : ℕ) → has (no_marks bound) k ≡ false
has-no_marks zero k = refl
has-no_marks (suc n) zero = refl
has-no_marks (suc n) (suc k) = has-no_marks n k

pub zeros_are_none : (n bound : ℕ) → marks_below bound (zero_list n) ≡ no_marks bound
zeros_are_none n bound = sym (marks-same bound (zero_list n) (no_marks bound) (length-replicate bound false)
    (λ k l. has-no_marks bound k ∙ sym (zero_words n k)))

-- one more word of zeros
pub word_more : (words : List ℕ) (k : ℕ) → is_marked (words ++ zero_word) k ≡ is_marked words k
word_more words k = ap (λ (w : ℕ). bit_at w (k % 64) == 1) (by (cases_lt (k / 64) (length words)))
  where
    by : (k / 64 < length words) ⊎ (length words ≤ k / 64) → get_or (words ++ zero_word) (k / 64) 0 ≡ get_or words (k / 64) 0
    by (inl l) = get_or-append words zero_word 0 (k / 64) l
    by (inr l) = get_or-append_right words zero_word (length words) (k / 64) 0 refl l ∙ at (k / 64 - length words) ∙ sym (get_or_past words (k / 64) 0 l)
      where
        at : (i : ℕ) → get_or zero_word i 0 ≡ zero
        at zero = refl
        at (suc i) = refl

-- ---- a greater bound, one more number
pub grown : (words : List ℕ) (bound more : ℕ) → AreBounded words bound →
    marks_below (max bound more) words ≡ marks_below bound words ++ no_marks (more - bound)
grown words bound more h = sym (marks-same (max bound more) words (marks_below bound words ++ no_marks (more - bound)) many at)
  where
    many : length (marks_below bound words ++ no_marks (more - bound)) ≡ max bound more
    many = let a : length (marks_below bound words) ≡ bound = length-marks_below bound words in
        let b : length (no_marks (more - bound)) ≡ more - bound = length-replicate (more - bound) false in
        let c : length (marks_below bound words ++ no_marks (more - bound)) ≡ length (marks_below bound words) + length (no_marks (more - bound)) =
        length-append (marks_below bound words) (no_marks (more - bound)) in
        omega arith

    at : (k : ℕ) → k < max bound more → has (marks_below bound words ++ no_marks (more - bound)) k ≡ is_marked words k
    at k l = by (cases_lt k bound)
      where
        by : (k < bound) ⊎ (bound ≤ k) → has (marks_below bound words ++ no_marks (more - bound)) k ≡ is_marked words k
        by (inl p) = get_or-append (marks_below bound words) (no_marks (more - bound)) false k
            (let a : length (marks_below bound words) ≡ bound = length-marks_below bound words in omega arith) ∙ has-marks_below bound words h k
        by (inr p) = get_or-append_right (marks_below bound words) (no_marks (more - bound)) bound k false (length-marks_below bound words) p
            ∙ has-no_marks (more - bound) (k - bound) ∙ sym (h.none_above k p)

pub with_mark : (old new : List ℕ) (bound k : ℕ) → AreBounded old bound → k < bound → AddsMark old new k →
    AreBounded new bound × (marks_below bound new ≡ set (marks_below bound old) k true)
with_mark old new bound k h l m = (
  record {
    room = (let r : bound ≤ 64 * length old = h.room in let e : length new ≡ length old = m.many in omega arith);
    none_above = λ i above. m.others i (omega arith) ∙ h.none_above i above;
  },
  sym (marks-same bound new (set (marks_below bound old) k true) (length-set (marks_below bound old) k true ∙ length-marks_below bound old) at),
)
  where
    at : (i : ℕ) → i < bound → has (set (marks_below bound old) k true) i ≡ is_marked new i
    at i p = by (cases_eq i k)
      where
        within : k < length (marks_below bound old)
        within = let e : length (marks_below bound old) ≡ bound = length-marks_below bound old in omega arith

        by : (i ≡ k) ⊎ (i ≡ k → ⊥) → has (set (marks_below bound old) k true) i ≡ is_marked new i
        by (inl e) = ap (λ j. has (set (marks_below bound old) k true) j) e ∙ get_or-set_same (marks_below bound old) k true false within
            ∙ sym (ap (is_marked new) e ∙ m.marked)
        by (inr o) = get_or-set_other (marks_below bound old) k i true false o ∙ has-marks_below bound old h i ∙ sym (m.others i o)

-- one place more, after words without a number
pub widened : (old grown new : List ℕ) (bound : ℕ) (is_in : Bool) → AreBounded old bound → bound < 64 * length grown →
    ((k : ℕ) → is_marked grown k ≡ is_marked old k) → TellsMark grown new bound is_in →
    AreBounded new (bound + 1) × (marks_below (bound + 1) new ≡ marks_below bound old ++ is_in ∷ [])
widened old grown new bound is_in h room same told = (
  record {
    room = (let e : length new ≡ length grown = (facts is_in told).0 in omega arith);
    none_above = λ k above. (facts is_in told).2 k (omega arith) ∙ h.none_above k (omega arith);
  },
  sym (marks-same (bound + 1) new (marks_below bound old ++ is_in ∷ []) many at),
)
  where
    facts : (b : Bool) → TellsMark grown new bound b →
        (length new ≡ length grown) × (is_marked new bound ≡ b) × ((k : ℕ) → k ≢ bound → is_marked new k ≡ is_marked old k)
    facts true m = (m.many, m.marked, λ k n. m.others k n ∙ same k)
    facts false e = (
      ap (λ (ws : List ℕ). length ws) e,
      ap (λ (ws : List ℕ). is_marked ws bound) e ∙ same bound ∙ h.none_above bound (omega arith),
      λ k n. ap (λ (ws : List ℕ). is_marked ws k) e ∙ same k,
    )

    many : length (marks_below bound old ++ is_in ∷ []) ≡ bound + 1
    many = length-append (marks_below bound old) (is_in ∷ []) ∙ ap (λ n. n + 1) (length-marks_below bound old)

    at : (k : ℕ) → k < bound + 1 → has (marks_below bound old ++ is_in ∷ []) k ≡ is_marked new k
    at k l = by (cases_lt k bound)
      where
        by : (k < bound) ⊎ (bound ≤ k) → has (marks_below bound old ++ is_in ∷ []) k ≡ is_marked new k
        by (inl p) = get_or-append (marks_below bound old) (is_in ∷ []) false k
            (let a : length (marks_below bound old) ≡ bound = length-marks_below bound old in omega arith)
            ∙ has-marks_below bound old h k ∙ sym ((facts is_in told).2 k (omega arith))
        by (inr p) =
            let last : k - bound ≡ zero = omega arith in
            let here : k ≡ bound = omega arith in
            get_or-append_right (marks_below bound old) (is_in ∷ []) bound k false (length-marks_below bound old) p
            ∙ ap (λ n. get_or (is_in ∷ []) n false) last ∙ sym (ap (is_marked new) here ∙ (facts is_in told).1)

-- ---- all numbers but one
at_last : (xs : List Bool) (b : Bool) → has (xs ++ b ∷ []) (length xs) ≡ b
at_last [] b = refl
at_last (x ∷ xs) b = at_last xs b

before_last : (xs : List Bool) (b : Bool) (k : ℕ) → k < length xs → has (xs ++ b ∷ []) k ≡ has xs k
before_last [] b k h = absurd (omega (arith, h))
before_last (x ∷ xs) b zero h = refl
before_last (x ∷ xs) b (suc k) h = before_last xs b k (omega (arith, h))

-- such a set is made from the front
pub none_but : (out : ℕ) (marks : List Bool) → marks ≡ [] → IsAllBut 0 out marks
none_but out marks e = record { bounded = ap length e; others = λ k h. absurd (omega (arith, h)) }

pub one_more_but : (k out : ℕ) (old new : List Bool) → IsAllBut k out old → new ≡ old ++ not (nat_eq k out) ∷ [] → IsAllBut (k + 1) out new
one_more_but k out old new h e = record {
  bounded = let a = h.bounded in let b = length-append old (not (nat_eq k out) ∷ []) in ap length e ∙ omega (arith, a, b);
  others = λ j l. ap (λ (m : List Bool). has m j) e ∙ go j l (cases_eq j k);
}
  where
    go : (j : ℕ) → j < k + 1 → (j ≡ k) ⊎ (j ≢ k) → has (old ++ not (nat_eq k out) ∷ []) j ≡ not (nat_eq j out)
    go j l (inl e) =
        let a = h.bounded in
        ap (has (old ++ not (nat_eq k out) ∷ [])) (let s : j ≡ length old = omega (arith, e, a) in s) ∙ at_last old (not (nat_eq k out)) ∙ ap (λ n. not (nat_eq n out)) (sym e)
    go j l (inr o) = let a = h.bounded in before_last old (not (nat_eq k out)) j (omega (arith, l, o, a)) ∙ h.others j (omega (arith, l, o))
