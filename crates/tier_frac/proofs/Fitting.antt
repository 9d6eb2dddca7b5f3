-- What it means that the parts of a number fit into words.
use mir.Syntax.{w64, w128}
use mir.Val.{SFits, to_z, of_z}
use Rattle.std.specs.Prelude.{◌≡◌, ℕ, ℤ, pos, negsuc, neg_ℤ, ◌^◌, ◌<◌, nat_lt, IsTrue}
use Rattle.std.proofs.Common.{arith, sym, ap, ◌∙◌, subst}
use Rattle.std.proofs.lemmas.Bool.{and_parts, ltb-true}
use Rattle.std.proofs.lemmas.Bool.Decides.{nat_tests}
use Rattle.std.proofs.lemmas.Int.{ints, to_z-of_z}
use Rattle.exact_field.specs.Rational.{ℚ}
use Rattle.tier_frac.specs.Size.{is_word, fit, is_small}

-- both parts are within the words
pub record AreWords (n : ℤ) (d : ℕ) : Type 0 where
  pub num : SFits w64 n
  pub den : d < 2 ^ 63

word_fits : (n : ℤ) → IsTrue (is_word n) → SFits w64 n
word_fits (pos n) h = record { sfits = ltb-true n (2 ^ 63) h }
word_fits (negsuc n) h = record { sfits = ltb-true n (2 ^ 63) h }

pub fit_words : (n : ℤ) (d : ℕ) → IsTrue (fit n d) → AreWords n d
fit_words n d h =
    let parts = and_parts (is_word n) (nat_lt d (2 ^ 63)) h in
    record { num = word_fits n parts.0; den = ltb-true d (2 ^ 63) parts.1 }

pub words_fit : (n : ℤ) (d : ℕ) → AreWords n d → IsTrue (fit n d)
words_fit (pos n) d are = let small : n < 2 ^ 63 = are.num.sfits in let few : d < 2 ^ 63 = are.den in grind (arith, nat_tests)
words_fit (negsuc n) d are = let small : n < 2 ^ 63 = are.num.sfits in let few : d < 2 ^ 63 = are.den in grind (arith, nat_tests)

-- a number with these parts is small
pub small_parts : (q : ℚ) (n : ℤ) (d : ℕ) → q.num ≡ n → q.den ≡ d → is_small q ≡ fit n d
small_parts q n d en ed = ap (λ (z : ℤ). fit z q.den) en ∙ ap (λ (z : ℕ). fit n z) ed

-- a number that fits is itself after it was stored in a word
pub stored_word : (r n : ℤ) → r ≡ n → SFits w64 n → to_z w64 (of_z w64 (to_z w128 (of_z w128 r))) ≡ n
stored_word r n e fits = omega (arith, ints)

-- and after it was widened
pub widened_word : (r n : ℤ) → r ≡ to_z w64 (of_z w64 n) → SFits w64 n → to_z w128 (of_z w128 r) ≡ n
widened_word r n e fits = omega (arith, ints)

pub kept_word : (n : ℤ) (d : ℕ) → IsTrue (fit n d) → to_z w64 (of_z w64 n) ≡ n
kept_word n d h = to_z-of_z w64 n (fit_words n d h).num

-- a negative as it is computed
pub record IsNegated (r n : ℤ) : Type 0 where
  pub value : to_z w64 (of_z w64 r) ≡ neg_ℤ n
  pub fits : SFits w64 (to_z w64 (of_z w64 r))

pub negated_word : (r n : ℤ) → SFits w64 (neg_ℤ (to_z w64 (of_z w64 n))) → r ≡ neg_ℤ (to_z w64 (of_z w64 n)) → to_z w64 (of_z w64 n) ≡ n → IsNegated r n
negated_word r n fits e same =
    let here : SFits w64 r = subst (λ (z : ℤ). SFits w64 z) (sym e) fits in
    record {
      value = to_z-of_z w64 r here ∙ e ∙ ap neg_ℤ same;
      fits = subst (λ (z : ℤ). SFits w64 z) (sym (to_z-of_z w64 r here)) here;
    }
