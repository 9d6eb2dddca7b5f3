-- Words that are joined by a byte are cut back at that byte, where no word has it.
use Rattle.std.proofs.Common.{◌≡◌, ◌≢◌, ℕ, ◌<◌, false, eqb, List, [], ◌∷◌, refl, ap, ◌∙◌, eq-eqb, ne_eqb, arith, IsTrue, nat_lt}
use Rattle.std.specs.List.{All, AllByRecursion, slice_split, join_with_byte, list_all}
use Rattle.std.specs.Str.Parse.{AllDigits}
use Rattle.std.proofs.lemmas.Bool.{and_parts, ltb-true}
use Rattle.std.proofs.lemmas.List.Elements.{All-append, All-cons, All-nil}
use Rattle.std.proofs.lemmas.List.Splits.{slice_split_none, slice_split_at}
use Rattle.std.proofs.lemmas.Str.Parse.{digit_from_value}

-- no byte of the word is c
abbrev pub Lacks : ℕ → List ℕ → Type 0
Lacks c word = All (λ b. eqb b c ≡ false) word

-- words that are joined by c are cut back at c
pub slice_split-join : (c : ℕ) (w : List ℕ) (ws : List (List ℕ)) → Lacks c w → AllByRecursion (Lacks c) ws → slice_split (λ b. eqb b c) (join_with_byte c (w ∷ ws)) ≡ w ∷ ws
slice_split-join c w [] h t = slice_split_none (λ b. eqb b c) w h
slice_split-join c w (x ∷ ws) h t =
    slice_split_at (λ b. eqb b c) w c (join_with_byte c (x ∷ ws)) h (eq-eqb c c refl) ∙ ap (λ r. w ∷ r) (slice_split-join c x ws t.0 t.1)

-- a byte that no word has is not in what they make when another is put between them
pub Lacks-join : (c d : ℕ) (ws : List (List ℕ)) → d ≢ c → AllByRecursion (Lacks c) ws → Lacks c (join_with_byte d ws)
Lacks-join c d [] ne h = All-nil (λ b. eqb b c ≡ false)
Lacks-join c d (w ∷ []) ne h = h.0
Lacks-join c d (w ∷ x ∷ ws) ne h =
    All-append (λ b. eqb b c ≡ false) w _ h.0 (All-cons (λ b. eqb b c ≡ false) d _ (ne_eqb d c ne) (Lacks-join c d (x ∷ ws) ne h.1))

-- a word of letters has none of the bytes before them
pub letters_lack : (c : ℕ) (word : List ℕ) → c < 45 → IsTrue (list_all (nat_lt 44) word) → Lacks c word
letters_lack c [] low h = All-nil (λ b. eqb b c ≡ false)
letters_lack c (x ∷ word) low h =
    let p = and_parts (nat_lt 44 x) (list_all (nat_lt 44) word) h in
    let above : 44 < x = ltb-true 44 x p.0 in
    All-cons (λ b. eqb b c ≡ false) x word (ne_eqb x c (omega arith)) (letters_lack c word low p.1)

-- nor have digits
pub digits_lack : (c : ℕ) (ds : List ℕ) → c < 48 → AllDigits 10 ds → Lacks c ds
digits_lack c [] low h = All-nil (λ b. eqb b c ≡ false)
digits_lack c (x ∷ ds) low h =
    let range = digit_from_value x h.0 in
    All-cons (λ b. eqb b c ≡ false) x ds (ne_eqb x c (omega arith)) (digits_lack c ds low h.1)
