-- How many numbers a set has, counted a word at a time.
use Rattle.std.proofs.Common.{◌≡◌, ℕ, zero, suc, ◌+◌, ◌-◌, ◌*◌, ◌/◌, ◌%◌, ◌^◌, ◌<◌, ◌≤◌, List, length, take, get_or, Bool, cond, refl, sym, ap, ◌∙◌, arith, sum_by, count_ones}
use Rattle.std.specs.Prelude.{◌==◌}
use Rattle.std.specs.Int.{bit_at}
use Rattle.std.proofs.lemmas.List.{take_all}
use Rattle.std.proofs.lemmas.List.Sums.{count_by-le-length, sum_by_more}
use Rattle.std.proofs.lemmas.List.FromFn.{length-map-range_with_len, sum_by-map-range_with_len_more}
use Rattle.std.proofs.lemmas.Nat.{mod-pow-add, ones_cat, ones-le, zero_from_ones, mod_below, pow_pos}
use Rattle.std.proofs.lemmas.Nat.Bits.{bit_at-lt}
use Rattle.incid_sets.specs.Words.{is_marked, marks_below, AreBounded}
use Rattle.incid_sets.specs.Marks.{size}

-- ---- the lowest bits of a word
one_bit : (b : ℕ) → b < 2 → count_ones b ≡ b
one_bit zero h = omega (arith, ones-le 0 0 (omega arith))
one_bit (suc zero) h = go (count_ones 1) (ones-le 1 1 (omega arith)) (zero_from_ones 1)
  where
    go : (n : ℕ) → n ≤ 1 → (n ≡ 0 → suc zero ≡ 0) → n ≡ 1
    go zero l k = absurd (omega (arith, k refl))
    go (suc zero) l k = refl
    go (suc (suc n)) l k = absurd (omega arith)
one_bit (suc (suc b)) h = absurd (omega arith)

ones_more : (w j : ℕ) → count_ones (w % 2 ^ (1 + j)) ≡ count_ones (w % 2 ^ j) + bit_at w j
ones_more w j =
    let e : count_ones (w / 2 ^ j % 2 ^ 1 * 2 ^ j + w % 2 ^ j) ≡ count_ones (w / 2 ^ j % 2 ^ 1) + count_ones (w % 2 ^ j) =
    ones_cat j (w / 2 ^ j % 2 ^ 1) (w % 2 ^ j) (mod_below w (2 ^ j) (pow_pos j)) in
    let b : count_ones (bit_at w j) ≡ bit_at w j = one_bit (bit_at w j) (bit_at-lt w j) in
    ap count_ones (mod-pow-add w 1 j) ∙ e ∙ (omega (arith, b))

-- ---- one more number
one_more : (words : List ℕ) (k : ℕ) → size (marks_below (k + 1) words) ≡ size (marks_below k words) + cond (is_marked words k) 1 0
one_more words k = sum_by-map-range_with_len_more (λ marked. cond marked 1 0) (is_marked words) 0 k k (omega arith)

marked_is : (words : List ℕ) (k : ℕ) → cond (is_marked words k) 1 0 ≡ bit_at (get_or words (k / 64) 0) (k % 64)
marked_is words k = go (bit_at (get_or words (k / 64) 0) (k % 64)) (bit_at-lt (get_or words (k / 64) 0) (k % 64))
  where
    go : (b : ℕ) → b < 2 → cond (b == 1) 1 0 ≡ b
    go zero h = refl
    go (suc zero) h = refl
    go (suc (suc b)) h = absurd (omega arith)

-- ---- one more word
in_word : (words : List ℕ) (i j : ℕ) → j ≤ 64 →
    size (marks_below (64 * i + j) words) ≡ size (marks_below (64 * i) words) + count_ones (get_or words i 0 % 2 ^ j)
in_word words i zero h =
    let e : count_ones (get_or words i 0 % 2 ^ 0) ≡ 0 = ap count_ones (let z : get_or words i 0 % 2 ^ 0 ≡ 0 = omega arith in z) ∙ one_bit 0 (omega arith) in
    ap (λ k. size (marks_below k words)) (let k : 64 * i + 0 ≡ 64 * i = omega arith in k) ∙ (omega (arith, e))
in_word words i (suc j) h =
    let place : (64 * i + j) / 64 ≡ i = omega arith in
    let bit : (64 * i + j) % 64 ≡ j = omega arith in
    let here : cond (is_marked words (64 * i + j)) 1 0 ≡ bit_at (get_or words i 0) j =
    marked_is words (64 * i + j) ∙ ap (λ p. bit_at (get_or words p 0) ((64 * i + j) % 64)) place ∙ ap (bit_at (get_or words i 0)) bit in
    let before : size (marks_below (64 * i + j) words) ≡ size (marks_below (64 * i) words) + count_ones (get_or words i 0 % 2 ^ j) =
    in_word words i j (omega arith) in
    let more : count_ones (get_or words i 0 % 2 ^ (1 + j)) ≡ count_ones (get_or words i 0 % 2 ^ j) + bit_at (get_or words i 0) j = ones_more (get_or words i 0) j in
    let same : count_ones (get_or words i 0 % 2 ^ (1 + j)) ≡ count_ones (get_or words i 0 % 2 ^ suc j) =
    ap (λ p. count_ones (get_or words i 0 % 2 ^ p)) (let p : 1 + j ≡ suc j = omega arith in p) in
    ap (λ k. size (marks_below k words)) (let k : 64 * i + suc j ≡ (64 * i + j) + 1 = omega arith in k)
    ∙ one_more words (64 * i + j) ∙ (omega (arith, here, before, more, same))

whole_words : (words : List ℕ) → ((i : ℕ) → get_or words i 0 < 2 ^ 64) → (i : ℕ) → i ≤ length words →
    size (marks_below (64 * i) words) ≡ sum_by count_ones (take i words)
whole_words words low zero h = refl
whole_words words low (suc i) h =
    let w : get_or words i 0 % 2 ^ 64 ≡ get_or words i 0 = let l : get_or words i 0 < 2 ^ 64 = low i in omega arith in
    let before : size (marks_below (64 * i) words) ≡ sum_by count_ones (take i words) = whole_words words low i (omega arith) in
    let here : size (marks_below (64 * i + 64) words) ≡ size (marks_below (64 * i) words) + count_ones (get_or words i 0 % 2 ^ 64) = in_word words i 64 (omega arith) in
    let more : sum_by count_ones (take (i + 1) words) ≡ sum_by count_ones (take i words) + count_ones (get_or words i 0) = sum_by_more count_ones words i 0 (omega arith) in
    ap (λ k. size (marks_below k words)) (let k : 64 * suc i ≡ 64 * i + 64 = omega arith in k)
    ∙ here ∙ ap (λ x. size (marks_below (64 * i) words) + count_ones x) w ∙ ap (λ x. x + count_ones (get_or words i 0)) before ∙ sym more
    ∙ ap (λ k. sum_by count_ones (take k words)) (let k : i + 1 ≡ suc i = omega arith in k)

-- ---- numbers past the bound
none_more : (words : List ℕ) (bound : ℕ) → AreBounded words bound → (d : ℕ) → size (marks_below (bound + d) words) ≡ size (marks_below bound words)
none_more words bound h zero = ap (λ k. size (marks_below k words)) (let k : bound + 0 ≡ bound = omega arith in k)
none_more words bound h (suc d) =
    let before : size (marks_below (bound + d) words) ≡ size (marks_below bound words) = none_more words bound h d in
    let none : cond {A = ℕ} (is_marked words (bound + d)) 1 0 ≡ 0 = ap (λ (b : Bool). cond {A = ℕ} b 1 0) (h.none_above (bound + d) (omega arith)) in
    ap (λ k. size (marks_below k words)) (let k : bound + suc d ≡ (bound + d) + 1 = omega arith in k) ∙ one_more words (bound + d) ∙ (omega (arith, before, none))

-- a set has as many numbers as its words have bits
pub size_is : (words : List ℕ) (bound : ℕ) → ((i : ℕ) → get_or words i 0 < 2 ^ 64) → AreBounded words bound →
    sum_by count_ones words ≡ size (marks_below bound words)
size_is words bound low h =
    ap (sum_by count_ones) (sym (take_all (length words) words (omega arith)))
    ∙ sym (whole_words words low (length words) (omega arith))
    ∙ ap (λ k. size (marks_below k words)) (let room : bound ≤ 64 * length words = h.room in let k : 64 * length words ≡ bound + (64 * length words - bound) = omega arith in k)
    ∙ none_more words bound h (64 * length words - bound)

-- a set has no more numbers than its bound
pub size_bounded : (bound : ℕ) (words : List ℕ) → size (marks_below bound words) ≤ bound
size_bounded bound words =
    let many : length (marks_below bound words) ≡ bound = length-map-range_with_len (is_marked words) 0 bound in
    let least : size (marks_below bound words) ≤ length (marks_below bound words) = count_by-le-length (λ marked. marked) (marks_below bound words) in
    omega (arith, many, least)
