-- Which words are numbers.
use Rattle.std.proofs.Common.{◌≡◌, ℕ, ◌<◌, ◌^◌, nat_le, ◌&&◌, true, false, true≢false, if◌then◌else◌, List, decimal, None, Some, Result, Ok, Err, unwrap_or, is_ok, sym, ap, ◌∙◌, subst, arith, inl, inr}
use Rattle.std.specs.Option.{is_some}
use Rattle.std.specs.Str.{bytes_eq}
use Rattle.std.specs.Str.Parse.{digits_value, ParsesUnsigned}
use Rattle.std.proofs.lemmas.Bool.{and_parts, and_from, cond-true, cond-false, cases_Bool, le-leb, leb-true}
use Rattle.std.proofs.lemmas.Fmt.{decimal_is_IsNumeral, parse-decimal}
use Rattle.std.proofs.lemmas.Slice.Eq.{bytes_eq-Decides}
use Rattle.commands.specs.Numbers.{is_word_of, number_of, Names}

value_back : (most : ℕ) (word : List ℕ) (number : ℕ) → most < 2 ^ 32 → Names most word number → digits_value 10 word ≡ number
value_back most word number below h =
    let high = h.high in
    ap (digits_value 10) h.text ∙ (decimal_is_IsNumeral number (omega (arith, high))).1

test_passes : (most : ℕ) (word : List ℕ) (number : ℕ) → Names most word number → is_word_of most word number ≡ true
test_passes most word number h =
    and_from _ _ ((bytes_eq-Decides word (decimal number)).1 h.text) (and_from _ _ (le-leb 1 number h.low) (le-leb number most h.high))

test_tells : (most : ℕ) (word : List ℕ) (number : ℕ) → is_word_of most word number ≡ true → Names most word number
test_tells most word number h =
    let one = and_parts (bytes_eq word (decimal number)) (nat_le 1 number && nat_le number most) h in
    let two = and_parts (nat_le 1 number) (nat_le number most) one.1 in
    record { text = (bytes_eq-Decides word (decimal number)).0 one.0; low = leb-true 1 number two.0; high = leb-true number most two.1 }

pub named : (most : ℕ) (word : List ℕ) (number : ℕ) → most < 2 ^ 32 → Names most word number → number_of most word ≡ Some number
named most word number below h =
    ap (λ n. if is_word_of most word n then Some n else None) (value_back most word number below h)
    ∙ cond-true (is_word_of most word number) (Some number) None (test_passes most word number h)

pub names : (most : ℕ) (word : List ℕ) (number : ℕ) → number_of most word ≡ Some number → Names most word number
names most word number h =
    let value = digits_value 10 word in
    elim (cases_Bool (is_word_of most word value)) [
      | inl passes ↦
          (let same : value ≡ number = ap (λ o. unwrap_or o 0) (sym (cond-true (is_word_of most word value) (Some value) None passes) ∙ h) in
          test_tells most word number (subst (λ (n : ℕ). is_word_of most word n ≡ true) same passes))
      | inr fails ↦ absurd (true≢false (ap (λ o. is_some o) (sym (sym (cond-false (is_word_of most word value) (Some value) None fails) ∙ h))))
    ]

unnamed : (most : ℕ) (word : List ℕ) → ((number : ℕ) → Names most word number → ⊥) → number_of most word ≡ None
unnamed most word h =
    let value = digits_value 10 word in
    elim (cases_Bool (is_word_of most word value)) [
      | inl passes ↦ absurd (h value (test_tells most word value passes))
      | inr fails ↦ cond-false (is_word_of most word value) (Some value) None fails
    ]

-- the decimal text of such a number is parsed as it
parsed : {E : Type 0} (most : ℕ) (word : List ℕ) (r : Result ℕ E) (number : ℕ) → most < 2 ^ 32 → ParsesUnsigned 32 10 word r → Names most word number → r ≡ Ok number
parsed most word r number below h n =
    let high = n.high in
    parse-decimal 32 number word r (omega (arith, high)) (omega (arith, high)) n.text h

pub same_number : (most : ℕ) (word : List ℕ) (number : ℕ) → most < 2 ^ 32 → is_word_of most word number ≡ true → Some number ≡ number_of most word
same_number most word number below h = sym (named most word number below (test_tells most word number h))

-- so a word that is not parsed, or is not the text of what it is parsed as, is that of none
pub not_parsed : {E : Type 0} (most : ℕ) (word : List ℕ) (r : Result ℕ E) (e : E) → most < 2 ^ 32 → ParsesUnsigned 32 10 word r → r ≡ Err e → None ≡ number_of most word
not_parsed most word r e below h is = sym (unnamed most word (λ number n. true≢false (ap (λ x. is_ok x) (sym (parsed most word r number below h n) ∙ is))))

value_of : {E : Type 0} → Result ℕ E → ℕ
value_of (Ok v) = v
value_of (Err e) = 0

pub other_number : {E : Type 0} (most : ℕ) (word : List ℕ) (r : Result ℕ E) (value : ℕ) → most < 2 ^ 32 → ParsesUnsigned 32 10 word r → r ≡ Ok value → is_word_of most word value ≡ false
    → None ≡ number_of most word
unfolding value_of
other_number most word r value below h is fails = sym (unnamed most word (λ number n.
    let same : number ≡ value = ap (λ x. value_of x) (sym (parsed most word r number below h n) ∙ is) in
    true≢false (sym (test_passes most word number n) ∙ ap (is_word_of most word) same ∙ fails)))
