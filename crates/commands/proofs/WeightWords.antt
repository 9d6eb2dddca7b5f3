-- Which words are weights.
use Rattle.std.proofs.Common.{◌≡◌, refl, ℕ, ◌+◌, ◌<◌, ◌≤◌, nat_le, Bool, true, false, ◌&&◌, ◌==◌, IsTrue, List, [], ◌∷◌, ◌++◌, length, map, All, Option, None, Some, Result, Ok, Err, MatchResult, is_ok, arith, ap, sym, ◌∙◌, subst}
use Rattle.std.specs.List.{list_all}
use Rattle.std.specs.Option.{is_none}
use Rattle.std.proofs.lemmas.Bool.{and_parts, and_from, le-leb, leb-true, lt-leb, false≢true}
use Rattle.std.proofs.lemmas.List.{append_assoc, length-map, map-append}
use Rattle.std.proofs.lemmas.List.Elements.{All-nil, All-cons, All-append, All-head, All-tail}
use Rattle.std.proofs.lemmas.List.Splits.{length-slice_split}
use Rattle.exact_field.specs.Rational.{ℚ}
use Rattle.frac128.specs.Held.{is_held}
use Rattle.frac128.specs.Text.{frac_text}
use Rattle.frac128.proofs.TextLaw.{one_number_per_text}
use Rattle.word_lines.specs.Numerals.{number_fault}
use Rattle.word_lines.specs.declared.fault.LogKind.{LogKind}
use Rattle.word_lines.proofs.Fractions.{number_passes, number_text}
use Rattle.commands.specs.Weights.{pieces, are_weights, AreWeightsOf, FewWeightsOf}

-- whether a piece is a fraction
abbrev pub is_good : List ℕ → Bool
is_good p = is_none (number_fault p)

-- the test of pieces after n of them
abbrev pub passes : ℕ → List (List ℕ) → Bool
passes n ps = list_all is_good ps && nat_le (length ps + n) 20

none_is : {A : Type 0} (o : Option A) → is_none o ≡ true → o ≡ None
none_is None h = refl
none_is (Some x) h = absurd (false≢true h)

pub good_fault : (p : List ℕ) → is_good p ≡ true → number_fault p ≡ None
good_fault p h = none_is (number_fault p) h

pub fraction_is : (word : List ℕ) (r : Result ℚ LogKind) → MatchResult r (λ q. IsTrue (is_held q) × (word ≡ frac_text q)) (λ kind. number_fault word ≡ Some kind) → is_ok r ≡ is_none (number_fault word)
fraction_is word (Ok q) h = sym (ap (λ w. is_none (number_fault w)) h.1 ∙ ap is_none (number_passes q h.0))
fraction_is word (Err kind) h = sym (ap is_none h)

-- ---- the loop of the test
pub bad_piece : (n : ℕ) (p : List ℕ) (ps all : List (List ℕ)) → all ≡ p ∷ ps → is_good p ≡ false → passes n all ≡ false
bad_piece n p ps all is bad = ap (passes n) is ∙ ap (λ b. (b && list_all is_good ps) && nat_le (length (p ∷ ps) + n) 20) bad

pub next_piece : (n : ℕ) (p : List ℕ) (ps all : List (List ℕ)) → all ≡ p ∷ ps → is_good p ≡ true → passes n all ≡ passes (n + 1) ps
next_piece n p ps all is good =
    let count : length (p ∷ ps) + n ≡ length ps + (n + 1) = omega arith in
    ap (passes n) is ∙ ap (λ b. (b && list_all is_good ps) && nat_le (length (p ∷ ps) + n) 20) good ∙ ap (λ k. list_all is_good ps && nat_le k 20) count

pub last_piece : (n : ℕ) (p : List ℕ) (all : List (List ℕ)) → n < 20 → all ≡ p ∷ [] → is_good p ≡ true → passes n all ≡ true
last_piece n p all h is good = next_piece n p [] all is good ∙ le-leb (0 + (n + 1)) 20 (omega arith)

some_piece : (word : List ℕ) → 1 ≤ length (pieces word)
some_piece word = omega (arith, length-slice_split (λ b. b == 44) word)

and_false : (b : Bool) → (b && false) ≡ false
and_false true = refl
and_false false = refl

pub many_pieces : (word : List ℕ) → passes 20 (pieces word) ≡ false
many_pieces word =
    let some = some_piece word in
    ap (λ b. list_all is_good (pieces word) && b) (lt-leb (length (pieces word) + 20) 20 (omega arith)) ∙ and_false (list_all is_good (pieces word))

-- ---- the loop of the values
abbrev pub Held : ℚ → Type 0
Held q = IsTrue (is_held q)

-- what was read of a word's pieces, and what is left
pub record HasTaken (word rest : List ℕ) (weights : List ℚ) : Type 0 where
  pub good : list_all is_good (pieces rest) ≡ true
  pub texts : map frac_text weights ++ pieces rest ≡ pieces word
  pub held : All Held weights

pub taken_start : (word : List ℕ) → are_weights word ≡ true → HasTaken word word []
taken_start word h = record { good = (and_parts (list_all is_good (pieces word)) (nat_le (length (pieces word)) 20) h).0; texts = refl; held = All-nil Held }

-- the first of the pieces that are left
pub taken_good : (word rest : List ℕ) (weights : List ℚ) (p : List ℕ) (ps : List (List ℕ)) → HasTaken word rest weights → pieces rest ≡ p ∷ ps → number_fault p ≡ None
taken_good word rest weights p ps h is = good_fault p (and_parts (is_good p) (list_all is_good ps) (ap (list_all is_good) (sym is) ∙ h.good)).0

pub taken_more : (word rest next : List ℕ) (old new : List ℚ) (q : ℚ) (p : List ℕ) → HasTaken word rest old → pieces rest ≡ p ∷ pieces next → IsTrue (is_held q) → frac_text q ≡ p → new ≡ old ++ q ∷ [] → HasTaken word next new
taken_more word rest next old new q p h is held text pushed =
    record {
      good = (and_parts (is_good p) (list_all is_good (pieces next)) (ap (list_all is_good) (sym is) ∙ h.good)).1;
      texts = ap (λ l. map frac_text l ++ pieces next) pushed ∙ ap (λ l. l ++ pieces next) (map-append frac_text old (q ∷ [])) ∙ append_assoc (map frac_text old) (frac_text q ∷ []) (pieces next)
          ∙ ap (λ t. map frac_text old ++ t ∷ pieces next) text ∙ ap (λ l. map frac_text old ++ l) (sym is) ∙ h.texts;
      held = subst (λ l. All Held l) (sym pushed) (All-append Held old (q ∷ []) h.held (All-cons Held q [] held (All-nil Held)));
    }

pub taken_last : (word rest : List ℕ) (old new : List ℚ) (q : ℚ) (p : List ℕ) → HasTaken word rest old → pieces rest ≡ p ∷ [] → IsTrue (is_held q) → frac_text q ≡ p → new ≡ old ++ q ∷ [] → AreWeightsOf word new
taken_last word rest old new q p h is held text pushed =
    record {
      texts = ap (map frac_text) pushed ∙ map-append frac_text old (q ∷ []) ∙ ap (λ t. map frac_text old ++ t ∷ []) text ∙ ap (λ l. map frac_text old ++ l) (sym is) ∙ h.texts;
      held = subst (λ l. All Held l) (sym pushed) (All-append Held old (q ∷ []) h.held (All-cons Held q [] held (All-nil Held)));
    }

-- ---- the laws
same_weights : (v w : List ℚ) → map frac_text v ≡ map frac_text w → All Held v → All Held w → v ≡ w
same_weights [] [] e h k = refl
same_weights [] (q ∷ w) e h k = cc
same_weights (p ∷ v) [] e h k = cc
same_weights (p ∷ v) (q ∷ w) e h k =
    let heads : frac_text p ≡ frac_text q = cc in
    let tails : map frac_text v ≡ map frac_text w = cc in
    let first : p ≡ q = one_number_per_text p q (All-head Held p v h) (All-head Held q w k) heads in
    let rest : v ≡ w = same_weights v w tails (All-tail Held p v h) (All-tail Held q w k) in
    λ i. first i ∷ rest i

pub one_list : (word : List ℕ) (v w : List ℚ) → AreWeightsOf word v → AreWeightsOf word w → v ≡ w
one_list word v w h k = same_weights v w (h.texts ∙ sym k.texts) h.held k.held

-- good pieces are the texts of numbers
values : (ps : List (List ℕ)) → list_all is_good ps ≡ true → (weights : List ℚ) × (map frac_text weights ≡ ps) × All Held weights
values [] h = ([], refl, All-nil Held)
values (p ∷ ps) h =
    let parts = and_parts (is_good p) (list_all is_good ps) h in
    let first = number_text p (good_fault p parts.0) in
    let rest = values ps parts.1 in
    (first.0 ∷ rest.0, λ i. sym first.2 i ∷ rest.1 i, All-cons Held first.0 rest.0 first.1 rest.2)

pub weights_written : (word : List ℕ) → are_weights word ≡ true → (weights : List ℚ) × FewWeightsOf word weights
weights_written word h =
    let parts = and_parts (list_all is_good (pieces word)) (nat_le (length (pieces word)) 20) h in
    let found = values (pieces word) parts.0 in
    let count : length found.0 ≡ length (pieces word) = sym (length-map found.0 frac_text) ∙ ap length found.1 in
    let some = some_piece word in
    let most : length (pieces word) ≤ 20 = leb-true (length (pieces word)) 20 parts.1 in
    (found.0, record { some = omega arith; most = omega arith; written = record { texts = found.1; held = found.2 } })

good_texts : (weights : List ℚ) → All Held weights → list_all is_good (map frac_text weights) ≡ true
good_texts [] h = refl
good_texts (q ∷ weights) h =
    and_from (is_good (frac_text q)) (list_all is_good (map frac_text weights)) (ap is_none (number_passes q (All-head Held q weights h))) (good_texts weights (All-tail Held q weights h))

pub written_passes : (word : List ℕ) → ((weights : List ℚ) × FewWeightsOf word weights) → are_weights word ≡ true
written_passes word w =
    let written = w.1.written in
    let most : length w.0 ≤ 20 = w.1.most in
    let count : length w.0 ≡ length (pieces word) = sym (length-map w.0 frac_text) ∙ ap length written.texts in
    and_from (list_all is_good (pieces word)) (nat_le (length (pieces word)) 20) (ap (list_all is_good) (sym written.texts) ∙ good_texts w.0 written.held) (le-leb (length (pieces word)) 20 (omega arith))
