-- The words of fractions: what a held number prints as passes the tests of a fraction, and a word that
-- passes them is what a held number prints as.
use Rattle.std.proofs.Common.{◌≡◌, ◌≢◌, refl, ℕ, zero, suc, ◌^◌, ◌<◌, true, false, not, ◌&&◌, ◌||◌, nat_lt, nat_le, eqb, ◌==◌, cond, Bool, IsTrue, List, [], ◌∷◌, ◌++◌, length, drop, get_or, arith, ap, sym, ◌∙◌, subst, decimal, codes, None, Some, ne_eqb, if◌then◌else◌, ℤ, pos, negsuc, unsigned_abs, eq-eqb}
use Rattle.std.specs.Fmt.{signed_decimal}
use Rattle.std.specs.Int.{IsGcd}
use Rattle.std.specs.List.{slice_split, join_with_byte}
use Rattle.std.specs.Str.Parse.{digits_value, starts_with_minus}
use Rattle.std.proofs.lemmas.Bool.{and_parts, and_from, lt-ltb, ltb-true, leb-false, lt-leb, eqb-true, false≢true}
use Rattle.std.proofs.lemmas.Fmt.{decimal_is_IsNumeral_wide}
use Rattle.std.proofs.lemmas.List.{append-nil}
use Rattle.std.proofs.lemmas.List.Splits.{join_with_byte-slice_split}
use Rattle.std.proofs.lemmas.Nat.Gcd.{same_from_IsGcd, IsGcd-from_zero, IsGcd-swap}
use Rattle.exact_field.specs.Gcd.{gcd, gcd_is}
use Rattle.exact_field.specs.Rational.{ℚ, whole, zero_ℚ}
use Rattle.frac128.specs.Held.{is_held, held_small, held_zero}
use Rattle.frac128.specs.Sparse.{is_zero}
use Rattle.frac128.specs.Text.{frac_text}
use Rattle.word_lines.specs.Numerals.{same_word, is_positive_numeral, is_quotient, numerator, denominator, quotient_fault, fraction_pieces, number_fault}
use Rattle.word_lines.specs.declared.fault.LogKind.TheVariants.{BadNumber, NumberWide}
use Rattle.word_lines.proofs.Cutting.{Lacks, slice_split-join, digits_lack}
use Rattle.word_lines.proofs.Numerals.{same_word-true, positive_text, decimal_numeral, value_of_decimal, decimal_zero, decimal_leads}

-- what stands after a numerator
abbrev pub den_text : ℕ → List ℕ
den_text d = if d == 1 then [] else 47 ∷ decimal d

-- the pieces of a fraction's word without its sign
abbrev pieces_of : ℕ → ℕ → List (List ℕ)
pieces_of m d = if d == 1 then decimal m ∷ [] else decimal m ∷ decimal d ∷ []

decimal_lacks : (c n : ℕ) → c < 48 → n < 10 ^ 64 → Lacks c (decimal n)
decimal_lacks c n low h = digits_lack c (decimal n) low (decimal_is_IsNumeral_wide n h).0.1

cut_text : (m d : ℕ) → m < 10 ^ 64 → d < 10 ^ 64 → slice_split (λ b. eqb b 47) (decimal m ++ den_text d) ≡ pieces_of m d
cut_text m d hm hd = by (eqb d 1)
  where
    by : (b : Bool) → slice_split (λ x. eqb x 47) (decimal m ++ cond b [] (47 ∷ decimal d)) ≡ cond b (decimal m ∷ []) (decimal m ∷ decimal d ∷ [])
    by true = ap (slice_split (λ x. eqb x 47)) (append-nil (decimal m)) ∙ slice_split-join 47 (decimal m) [] (decimal_lacks 47 m (omega arith) hm) tt
    by false = slice_split-join 47 (decimal m) (decimal d ∷ []) (decimal_lacks 47 m (omega arith) hm) (decimal_lacks 47 d (omega arith) hd, tt)

pub passes_by : (q w l : Bool) → q ≡ true → w ≡ false → l ≡ true → (if not q then Some BadNumber else if w then Some NumberWide else if not l then Some BadNumber else None) ≡ None
passes_by q w l h k j = rw (h, k, j) refl

pub not_wide : (m d : ℕ) → m < 2 ^ 120 → d < 2 ^ 120 → (nat_le (2 ^ 120) m || nat_le (2 ^ 120) d) ≡ false
not_wide m d hm hd = rw (lt-leb (2 ^ 120) m hm, lt-leb (2 ^ 120) d hd) refl

lowest_gcd : (m d : ℕ) → IsGcd m d 1 → eqb (gcd m d) 1 ≡ true
lowest_gcd m d h = eq-eqb (gcd m d) 1 (same_from_IsGcd m d (gcd m d) 1 (gcd_is m d) h)

-- a numerator and a denominator in lowest terms, below 2^120
pieces_pass : (m d : ℕ) → 0 < m → m < 2 ^ 120 → 0 < d → d < 2 ^ 120 → IsGcd m d 1 → quotient_fault (pieces_of m d) ≡ None
pieces_pass m d some hm some_d hd low = by (eqb d 1) refl
  where
    by : (b : Bool) → eqb d 1 ≡ b → quotient_fault (cond b (decimal m ∷ []) (decimal m ∷ decimal d ∷ [])) ≡ None
    by true e =
        let one : d ≡ 1 = eqb-true d 1 e in
        let v = value_of_decimal m (omega arith) in
        passes_by _ _ _ (decimal_numeral m (omega arith) some) (ap (λ n. nat_le (2 ^ 120) n || nat_le (2 ^ 120) 1) v ∙ not_wide m 1 hm (omega arith))
        (ap (λ n. eqb (gcd n 1) 1) v ∙ lowest_gcd m 1 (subst (λ (n : ℕ). IsGcd m n 1) one low))
    by false e =
        let other : d ≢ 1 = λ same. false≢true (sym e ∙ eq-eqb d 1 same) in
        let v = value_of_decimal m (omega arith) in
        let w = value_of_decimal d (omega arith) in
        passes_by _ _ _
        (and_from (is_positive_numeral (decimal m)) _ (decimal_numeral m (omega arith) some)
        (and_from (is_positive_numeral (decimal d)) _ (decimal_numeral d (omega arith) some_d) (ap (nat_lt 1) w ∙ lt-ltb 1 d (omega arith))))
        ((λ i. nat_le (2 ^ 120) (v i) || nat_le (2 ^ 120) (w i)) ∙ not_wide m d hm hd)
        ((λ i. eqb (gcd (v i) (w i)) 1) ∙ lowest_gcd m d low)

not_zero_word : (w : List ℕ) → 48 < get_or w 0 0 → same_word w (codes "0") ≡ false
not_zero_word [] h = absurd (omega arith)
not_zero_word (x ∷ w) h = ap (λ b. b && same_word w []) (ne_eqb x 48 (omega arith))

first_of_append : (v w : List ℕ) → 0 < length v → get_or (v ++ w) 0 0 ≡ get_or v 0 0
first_of_append [] w h = absurd (omega arith)
first_of_append (x ∷ v) w h = refl

one_from_zero : (d : ℕ) → IsGcd 0 d 1 → d ≡ 1
one_from_zero d h = same_from_IsGcd d 0 d 1 (IsGcd-from_zero d 0 refl) (IsGcd-swap 0 d 1 h)

passes : (z : ℤ) (d : ℕ) → 0 < d → IsGcd (unsigned_abs z) d 1 → unsigned_abs z < 2 ^ 120 → d < 2 ^ 120 → number_fault (signed_decimal z ++ den_text d) ≡ None
passes (pos zero) d some low hz hd =
    ap (λ n. number_fault (decimal 0 ++ den_text n)) (one_from_zero d low) ∙ ap number_fault (append-nil (decimal 0) ∙ decimal_zero)
passes (pos (suc n)) d some low hz hd =
    let w : List ℕ = decimal (suc n) ++ den_text d in
    let lead = decimal_leads (suc n) (omega arith) in
    let first : 48 < get_or w 0 0 = rw (first_of_append (decimal (suc n)) (den_text d) lead.0) (lead.1 (omega arith)) in
    let sign : starts_with_minus w ≡ false = ne_eqb (get_or w 0 0) 45 (omega arith) in
    ap (λ b. cond b None (quotient_fault (fraction_pieces w))) (not_zero_word w first)
    ∙ ap (λ b. quotient_fault (slice_split (λ x. eqb x 47) (cond b (drop 1 w) w))) sign
    ∙ ap quotient_fault (cut_text (suc n) d (omega arith) (omega arith))
    ∙ pieces_pass (suc n) d (omega arith) hz some hd low
passes (negsuc n) d some low hz hd =
    ap quotient_fault (cut_text (suc n) d (omega arith) (omega arith)) ∙ pieces_pass (suc n) d (omega arith) hz some hd low

-- what a held number prints as passes the tests of a fraction
pub number_passes : (q : ℚ) → IsTrue (is_held q) → number_fault (frac_text q) ≡ None
number_passes q h = let small = held_small q h in passes q.num q.den q.positive q.lowest small.num_small small.den_small

test_results : (q w l : Bool) → (if not q then Some BadNumber else if w then Some NumberWide else if not l then Some BadNumber else None) ≡ None → (q ≡ true) × (w ≡ false) × (l ≡ true)
test_results true true l h = cc
test_results true false true h = (refl, refl, refl)
test_results true false false h = cc
test_results false w l h = cc

or_false : (a b : Bool) → (a || b) ≡ false → (a ≡ false) × (b ≡ false)
or_false true b h = cc
or_false false b h = (refl, h)

-- a numerator and a denominator that are held, and what they print as
pub record IsQuotient (text : List ℕ) (n d : ℕ) : Type 0 where
  pub some : 0 < n
  pub small : n < 2 ^ 120
  pub some_den : 0 < d
  pub small_den : d < 2 ^ 120
  pub lowest : IsGcd n d 1
  pub text_is : text ≡ decimal n ++ den_text d

gcd_lowest : (n d : ℕ) → eqb (gcd n d) 1 ≡ true → IsGcd n d 1
gcd_lowest n d h = subst (λ (g : ℕ). IsGcd n d g) (eqb-true (gcd n d) 1 h) (gcd_is n d)

pub quotient_parts : (pieces : List (List ℕ)) → quotient_fault pieces ≡ None → IsQuotient (join_with_byte 47 pieces) (numerator pieces) (denominator pieces)
quotient_parts [] h = cc
quotient_parts (num ∷ []) h =
    let t = test_results (is_quotient (num ∷ [])) _ (eqb (gcd (digits_value 10 num) 1) 1) h in
    let wide = or_false (nat_le (2 ^ 120) (digits_value 10 num)) (nat_le (2 ^ 120) 1) t.1 in
    let low : digits_value 10 num < 2 ^ 120 = leb-false (2 ^ 120) (digits_value 10 num) wide.0 in
    let text = positive_text num t.0 (omega arith) in
    record { some = text.1; small = low; some_den = omega arith; small_den = omega arith; lowest = gcd_lowest _ 1 t.2; text_is = sym text.0 ∙ sym (append-nil (decimal (digits_value 10 num))) }
quotient_parts (num ∷ den ∷ []) h =
    let t = test_results (is_quotient (num ∷ den ∷ [])) _ (eqb (gcd (digits_value 10 num) (digits_value 10 den)) 1) h in
    let forms = and_parts (is_positive_numeral num) _ t.0 in
    let forms_den = and_parts (is_positive_numeral den) (nat_lt 1 (digits_value 10 den)) forms.1 in
    let wide = or_false (nat_le (2 ^ 120) (digits_value 10 num)) (nat_le (2 ^ 120) (digits_value 10 den)) t.1 in
    let low : digits_value 10 num < 2 ^ 120 = leb-false (2 ^ 120) (digits_value 10 num) wide.0 in
    let low_den : digits_value 10 den < 2 ^ 120 = leb-false (2 ^ 120) (digits_value 10 den) wide.1 in
    let above : 1 < digits_value 10 den = ltb-true 1 (digits_value 10 den) forms_den.1 in
    let text = positive_text num forms.0 (omega arith) in
    let text_den = positive_text den forms_den.0 (omega arith) in
    record {
      some = text.1;
      small = low;
      some_den = text_den.1;
      small_den = low_den;
      lowest = gcd_lowest _ _ t.2;
      text_is =
          (λ i. sym text.0 i ++ 47 ∷ sym text_den.0 i)
          ∙ ap (λ b. decimal (digits_value 10 num) ++ cond b [] (47 ∷ decimal (digits_value 10 den))) (sym (ne_eqb (digits_value 10 den) 1 (omega arith)));
    }
quotient_parts (num ∷ den ∷ more ∷ pieces) h = cc

-- a held number with this text
abbrev pub NumberOf : List ℕ → Type 0
NumberOf w = (q : ℚ) × IsTrue (is_held q) × (w ≡ frac_text q)

pub held_from : (q : ℚ) → unsigned_abs q.num < 2 ^ 120 → q.den < 2 ^ 120 → IsTrue (is_held q)
held_from q n d = and_from _ _ (lt-ltb (unsigned_abs q.num) (2 ^ 120) n) (lt-ltb q.den (2 ^ 120) d)

positive_number : (w : List ℕ) (n d : ℕ) → IsQuotient w n d → NumberOf w
positive_number w n d h =
    let q : ℚ = record { num = pos n; den = d; positive = h.some_den; lowest = h.lowest } in
    (q, held_from q h.small h.small_den, h.text_is)

negative_number : (w : List ℕ) (n d : ℕ) → IsQuotient w n d → NumberOf (45 ∷ w)
negative_number w zero d h = absurd (omega (arith, h.some))
negative_number w (suc n) d h =
    let q : ℚ = record { num = negsuc n; den = d; positive = h.some_den; lowest = h.lowest } in
    (q, held_from q h.small h.small_den, ap (λ v. 45 ∷ v) h.text_is)

pub with_minus : (w : List ℕ) → starts_with_minus w ≡ true → w ≡ 45 ∷ drop 1 w
with_minus [] h = cc
with_minus (x ∷ w) h = ap (λ c. c ∷ w) (eqb-true x 45 h)

unsigned_parts : (w : List ℕ) → quotient_fault (slice_split (λ x. eqb x 47) w) ≡ None → (n : ℕ) × (d : ℕ) × IsQuotient w n d
unsigned_parts w h =
    let pieces : List (List ℕ) = slice_split (λ x. eqb x 47) w in
    (numerator pieces, denominator pieces, subst (λ t. IsQuotient t (numerator pieces) (denominator pieces)) (join_with_byte-slice_split 47 w) (quotient_parts pieces h))

signed_number : (w : List ℕ) (b : Bool) → starts_with_minus w ≡ b → quotient_fault (slice_split (λ x. eqb x 47) (cond b (drop 1 w) w)) ≡ None → NumberOf w
signed_number w true e h =
    let parts = unsigned_parts (drop 1 w) h in
    subst NumberOf (sym (with_minus w e)) (negative_number (drop 1 w) parts.0 parts.1 parts.2)
signed_number w false e h = let parts = unsigned_parts w h in positive_number w parts.0 parts.1 parts.2

pub zero_text : frac_text zero_ℚ ≡ codes "0"
unfolding whole
zero_text = append-nil (decimal 0) ∙ decimal_zero

-- a word that passes the tests of a fraction is what a held number prints as
pub number_text : (w : List ℕ) → number_fault w ≡ None → NumberOf w
number_text w h = by (same_word w (codes "0")) refl h
  where
    by : (b : Bool) → same_word w (codes "0") ≡ b → (if b then None else quotient_fault (fraction_pieces w)) ≡ None → NumberOf w
    by true e k = (zero_ℚ, held_zero, same_word-true w (codes "0") e ∙ sym zero_text)
    by false e k = signed_number w (starts_with_minus w) refl k

text_nonzero : (z : ℤ) (d : ℕ) → eqb (unsigned_abs z) 0 ≡ false → unsigned_abs z < 2 ^ 120 → same_word (signed_decimal z ++ den_text d) (codes "0") ≡ false
text_nonzero (pos zero) d some small = cc
text_nonzero (pos (suc n)) d some small =
    let lead = decimal_leads (suc n) (omega arith) in
    not_zero_word (decimal (suc n) ++ den_text d) (rw (first_of_append (decimal (suc n)) (den_text d) lead.0) (lead.1 (omega arith)))
text_nonzero (negsuc n) d some small = refl

text_zero : (z : ℤ) (d : ℕ) → eqb (unsigned_abs z) 0 ≡ true → IsGcd (unsigned_abs z) d 1 → same_word (signed_decimal z ++ den_text d) (codes "0") ≡ true
text_zero (pos zero) d none low = ap (λ n. same_word (decimal 0 ++ den_text n) (codes "0")) (one_from_zero d low) ∙ ap (λ w. same_word w (codes "0")) (append-nil (decimal 0) ∙ decimal_zero)
text_zero (pos (suc n)) d none low = absurd (omega (arith, eqb-true (suc n) 0 none))
text_zero (negsuc n) d none low = absurd (omega (arith, eqb-true (suc n) 0 none))

-- just the number 0 prints as `0`
pub same_as_zero : (q : ℚ) → IsTrue (is_held q) → same_word (frac_text q) (codes "0") ≡ is_zero q
same_as_zero q h = by (is_zero q) refl
  where
    by : (b : Bool) → is_zero q ≡ b → same_word (frac_text q) (codes "0") ≡ is_zero q
    by true e = text_zero q.num q.den e q.lowest ∙ sym e
    by false e = text_nonzero q.num q.den e (held_small q h).num_small ∙ sym e
