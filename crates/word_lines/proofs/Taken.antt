-- What was taken from the front of some words, one item at a time.
use Rattle.std.proofs.Common.{◌≡◌, refl, ℕ, suc, ◌+◌, ◌-◌, ◌^◌, ◌<◌, ◌≤◌, true, false, not, ◌&&◌, nat_lt, cond, if◌then◌else◌, codes, MatchResult, Bool, List, [], ◌∷◌, ◌++◌, length, arith, ap, sym, ◌∙◌, decimal, Result, Ok, Err, append_assoc, None, Some, Option}
use Rattle.std.specs.List.{list_all, flat_map}
use Rattle.std.specs.Option.{option_or}
use Rattle.std.specs.Result.{IsErr, IsErrAnd}
use Rattle.std.specs.Str.Parse.{digits_value}
use Rattle.std.proofs.lemmas.Bool.{and_parts, and_from, ltb-true, lt-ltb, le-ltb, false≢true}
use Rattle.std.proofs.lemmas.List.{append-nil}
use Rattle.exact_field.specs.Rational.{ℚ}
use Rattle.frac128.specs.Held.{is_held}
use Rattle.frac128.specs.Sparse.{is_zero, rises_above}
use Rattle.frac128.specs.Text.{frac_text}
use Rattle.frac128.specs.declared.vectors.Spot.{Spot}
use Rattle.word_lines.specs.declared.part.LogPair.{LogPair}
use Rattle.word_lines.specs.Parts.{is_short, is_formed_part, is_formed_pair, is_formed_spot}
use Rattle.word_lines.specs.Parts.{Part, part_words, pair_words, spot_words, natural, number, vector, naturals, sparse, pairs}
use Rattle.word_lines.specs.LineFault as form
use Rattle.word_lines.specs.LineFault.{Form, Left, and_then, unless, word, times, counted, spots, place_fault, value_fault, left_after, pair}
use Rattle.word_lines.specs.Numerals.{same_word, natural_fault, number_fault}
use Rattle.word_lines.specs.Taking.{TakesItem, TakesItems, TakesList, TakesSpot, TakesSpots, Takes}
use Rattle.word_lines.specs.declared.fault.Stop.{Stop}
use Rattle.word_lines.specs.declared.fault.Stop.TheVariants.{Fault, NoMemory}
use Rattle.word_lines.specs.declared.fault.LogKind.{LogKind}
use Rattle.word_lines.specs.declared.fault.LogKind.TheVariants.{BadNumber, OutOfRange}
use Rattle.word_lines.proofs.Numerals.{natural_passes, value_of_decimal}
use Rattle.word_lines.proofs.Forms.{Words, one_each, word_passes, place_passes, value_passes}
use Rattle.word_lines.proofs.Fractions.{same_as_zero}

-- what `?` hands on is the refusal itself
pub handed_on : {A : Type 0} (r : Result A Stop) (s : Stop) → IsErr r × IsErrAnd r (λ t. t ≡ s) → r ≡ Err s
handed_on (Ok x) s h = absurd (false≢true h.0)
handed_on (Err t) s h = ap (λ (u : Stop). Err u) h.1

module _ {X : Type 0} (words_of : X → Words) (good : X → Bool) (step : Words → Left) where
  -- some of so many items are taken, and these words are left
  pub record IsTaken (count : ℕ) (old now : Words) (i : ℕ) (xs : List X) : Type 0 where
    pub so_many : length xs ≡ i
    pub within : i ≤ count
    pub all_good : list_all good xs ≡ true
    pub read : old ≡ flat_map words_of xs ++ now
    pub left : times step count old ≡ times step (count - i) now

  pub none_taken : (count : ℕ) (old : Words) → IsTaken count old old 0 []
  none_taken count old = record { so_many = refl; within = omega arith; all_good = refl; read = refl; left = ap (λ n. times step n old) (omega arith) }

  flat_push : (xs : List X) (x : X) → flat_map words_of (xs ++ x ∷ []) ≡ flat_map words_of xs ++ words_of x
  flat_push [] x = append-nil (words_of x)
  flat_push (y ∷ xs) x = ap (λ ws. words_of y ++ ws) (flat_push xs x) ∙ sym (append_assoc (words_of y) (flat_map words_of xs) (words_of x))

  good_push : (xs : List X) (x : X) → list_all good xs ≡ true → good x ≡ true → list_all good (xs ++ x ∷ []) ≡ true
  good_push [] x h k = and_from (good x) true k refl
  good_push (y ∷ xs) x h k = let p = and_parts (good y) (list_all good xs) h in and_from (good y) _ p.0 (good_push xs x p.1 k)

  length_push : (xs : List X) (x : X) → length (xs ++ x ∷ []) ≡ length xs + 1
  length_push [] x = refl
  length_push (y ∷ xs) x = ap suc (length_push xs x) ∙ omega arith

  next_step : (count i : ℕ) (now next : Words) → i < count → step now ≡ Ok next → times step (count - i) now ≡ times step (count - (i + 1)) next
  next_step count i now next low h =
      let one_more : count - i ≡ suc (count - (i + 1)) = omega arith in
      ap (λ n. times step n now) one_more ∙ ap (λ l. and_then l (times step (count - (i + 1)))) h

  pub one_taken : (count : ℕ) (old now next : Words) (i : ℕ) (xs : List X) (x : X) → i < count → IsTaken count old now i xs → (good x ≡ true) × (step now ≡ Ok next) × (now ≡ words_of x ++ next) → IsTaken count old next (i + 1) (xs ++ x ∷ [])
  one_taken count old now next i xs x low t h = record {
    so_many = length_push xs x ∙ ap (λ n. n + 1) t.so_many;
    within = omega arith;
    all_good = good_push xs x t.all_good h.0;
    read = t.read ∙ ap (λ ws. flat_map words_of xs ++ ws) h.2 ∙ sym (append_assoc (flat_map words_of xs) (words_of x) next) ∙ ap (λ ws. ws ++ next) (sym (flat_push xs x));
    left = t.left ∙ next_step count i now next low h.1;
  }

  pub taking_fails : (count : ℕ) (old now : Words) (i : ℕ) (xs : List X) (k : LogKind) → i < count → IsTaken count old now i xs → step now ≡ Err k → times step count old ≡ Err k
  taking_fails count old now i xs k low t h =
      let one_more : count - i ≡ suc (count - (i + 1)) = omega arith in
      t.left ∙ ap (λ n. times step n now) one_more ∙ ap (λ l. and_then l (times step (count - (i + 1)))) h

  pub all_taken : (count : ℕ) (old now : Words) (i : ℕ) (xs : List X) → count ≤ i → IsTaken count old now i xs → (length xs ≡ count) × (list_all good xs ≡ true) × (old ≡ flat_map words_of xs ++ now)
  all_taken count old now i xs high t = let within = t.within in let so_many = t.so_many in (omega arith, t.all_good, t.read)

  -- the same in the words of the clauses
  pub items_fail : (count : ℕ) (old now new : Words) (i : ℕ) (xs : List X) (s : Stop) → i < count → IsTaken count old now i xs → TakesItem words_of good step now new (Err s) → TakesItems words_of good step count old new (Err s)
  items_fail count old now new i xs (Fault k) low t h = taking_fails count old now i xs k low t h
  items_fail count old now new i xs NoMemory low t h = tt

  pub list_fails : (old new : Words) (s : Stop) → TakesItem (λ n. decimal n ∷ []) is_short (word natural_fault) old new (Err s) → TakesList words_of good step old new (Err s)
  list_fails [] new (Fault k) h = h
  list_fails (w ∷ old) new (Fault k) h = by (natural_fault w) h
    where
      by : (o : Option LogKind) → unless o (Ok old) ≡ Err k → unless o (times step (digits_value 10 w) old) ≡ Err k
      by None e = cc
      by (Some l) e = cc
  list_fails old new NoMemory h = tt

  pub list_taken : (old middle new : Words) (count : ℕ) (r : Result (List X) Stop) → (is_short count ≡ true) × (word natural_fault old ≡ Ok middle) × (old ≡ (decimal count ∷ []) ++ middle) → TakesItems words_of good step count middle new r → TakesList words_of good step old new r
  list_taken old middle new count (Ok xs) h k =
      (ap is_short k.0 ∙ h.0, k.1, h.2 ∙ (λ i. decimal (sym k.0 i) ∷ k.2 i))
  list_taken old middle new count (Err (Fault l)) h k =
      let low = ltb-true count (2 ^ 32) h.0 in
      ap (counted (times step)) h.2
      ∙ ap (λ o. unless o (times step (digits_value 10 (decimal count)) middle)) (natural_passes count low)
      ∙ ap (λ n. times step n middle) (value_of_decimal count (omega arith)) ∙ k
  list_taken old middle new count (Err NoMemory) h k = tt

-- parts by their items

pub item_part : {X : Type 0} (words_of : X → Words) (good : X → Bool) (step : Words → Left) (part : X → Part) (form : Form) → ((x : X) → is_formed_part (part x) ≡ good x) → ((x : X) → part_words (part x) ≡ words_of x) → ((ws : Words) → left_after form ws ≡ step ws) → (old new : Words) (r : Result X Stop) → TakesItem words_of good step old new r → Takes part form old new r
item_part words_of good step part form a b d old new (Ok x) h = (a x ∙ h.0, h.2 ∙ ap (λ ws. ws ++ new) (sym (b x)))
item_part words_of good step part form a b d old new (Err (Fault k)) h = d old ∙ h
item_part words_of good step part form a b d old new (Err NoMemory) h = tt

pub list_part : {X : Type 0} (words_of : X → Words) (good : X → Bool) (step : Words → Left) (part : List X → Part) (form : Form) → ((xs : List X) → is_formed_part (part xs) ≡ (is_short (length xs) && list_all good xs)) → ((xs : List X) → part_words (part xs) ≡ decimal (length xs) ∷ flat_map words_of xs) → ((ws : Words) → left_after form ws ≡ counted (times step) ws) → (old new : Words) (r : Result (List X) Stop) → TakesList words_of good step old new r → Takes part form old new r
list_part words_of good step part form a b d old new (Ok xs) h = (a xs ∙ and_from (is_short (length xs)) (list_all good xs) h.0 h.1, h.2 ∙ ap (λ ws. ws ++ new) (sym (b xs)))
list_part words_of good step part form a b d old new (Err (Fault k)) h = d old ∙ h
list_part words_of good step part form a b d old new (Err NoMemory) h = tt

pub vector_taken : (old new : Words) (r : Result (List ℚ) Stop) → TakesList (λ q. frac_text q ∷ []) is_held (word number_fault) old new r → Takes vector form.vector old new r
vector_taken old new r h = list_part (λ q. frac_text q ∷ []) is_held (word number_fault) vector form.vector (λ xs. refl) (λ xs. ap (λ ws. decimal (length xs) ∷ ws) (sym (one_each frac_text xs))) (λ ws. refl) old new r h

pub naturals_taken : (old new : Words) (r : Result (List ℕ) Stop) → TakesList (λ n. decimal n ∷ []) is_short (word natural_fault) old new r → Takes naturals form.naturals old new r
naturals_taken old new r h = list_part (λ n. decimal n ∷ []) is_short (word natural_fault) naturals form.naturals (λ xs. refl) (λ xs. ap (λ ws. decimal (length xs) ∷ ws) (sym (one_each decimal xs))) (λ ws. refl) old new r h

pub pairs_taken : (old new : Words) (r : Result (List LogPair) Stop) → TakesList pair_words is_formed_pair pair old new r → Takes pairs form.pairs old new r
pairs_taken old new r h = list_part pair_words is_formed_pair pair pairs form.pairs (λ xs. refl) (λ xs. refl) (λ ws. refl) old new r h

pub natural_taken : (old new : Words) (r : Result ℕ Stop) → TakesItem (λ n. decimal n ∷ []) is_short (word natural_fault) old new r → Takes natural form.natural old new r
natural_taken old new r h = item_part (λ n. decimal n ∷ []) is_short (word natural_fault) natural form.natural (λ n. refl) (λ n. refl) (λ ws. refl) old new r h

pub number_taken : (old new : Words) (r : Result ℚ Stop) → TakesItem (λ q. frac_text q ∷ []) is_held (word number_fault) old new r → Takes number form.number old new r
number_taken old new r h = item_part (λ q. frac_text q ∷ []) is_held (word number_fault) number form.number (λ q. refl) (λ q. refl) (λ ws. refl) old new r h

-- places and values

place_ok : (o : Option LogKind) (b : Bool) → o ≡ None → b ≡ true → option_or o (if b then None else Some OutOfRange) ≡ None
place_ok None true h k = refl
place_ok None false h k = cc
place_ok (Some l) b h k = cc

place_low : (o : Option LogKind) (b : Bool) → o ≡ None → b ≡ false → option_or o (if b then None else Some OutOfRange) ≡ Some OutOfRange
place_low None false h k = refl
place_low None true h k = cc
place_low (Some l) b h k = cc

first_word : (old new : Words) (n : ℕ) → old ≡ (decimal n ∷ []) ++ new → (test : List ℕ → Option LogKind) → word test old ≡ unless (test (decimal n)) (Ok new)
first_word old new n e test = ap (word test) e

short_low : (n : ℕ) → is_short n ≡ true → n < 2 ^ 32
short_low n h = ltb-true n (2 ^ 32) h

pub place_taken : (last n : ℕ) (old new : Words) → last < n → (is_short n ≡ true) × (word natural_fault old ≡ Ok new) × (old ≡ (decimal n ∷ []) ++ new) → (is_short n && nat_lt last n ≡ true) × (word (place_fault last) old ≡ Ok new) × (old ≡ decimal n ∷ new)
place_taken last n old new above h =
    let low = short_low n h.0 in
    let passes = place_ok (natural_fault (decimal n)) (nat_lt last (digits_value 10 (decimal n))) (natural_passes n low) (ap (nat_lt last) (value_of_decimal n (omega arith)) ∙ lt-ltb last n above) in
    (and_from (is_short n) (nat_lt last n) h.0 (lt-ltb last n above), first_word old new n h.2 (place_fault last) ∙ ap (λ o. unless o (Ok new)) passes, h.2)

pub place_fails : (last n : ℕ) (old new : Words) → n ≤ last → (is_short n ≡ true) × (word natural_fault old ≡ Ok new) × (old ≡ (decimal n ∷ []) ++ new) → word (place_fault last) old ≡ Err OutOfRange
place_fails last n old new below h =
    let low = short_low n h.0 in
    let fails = place_low (natural_fault (decimal n)) (nat_lt last (digits_value 10 (decimal n))) (natural_passes n low) (ap (nat_lt last) (value_of_decimal n (omega arith)) ∙ le-ltb last n below) in
    first_word old new n h.2 (place_fault last) ∙ ap (λ o. unless o (Ok new)) fails

pub nonzero_read : (w : List ℕ) (r : Result ℚ LogKind) → same_word w (codes "0") ≡ false → MatchResult r (λ q. (is_held q ≡ true) × (w ≡ frac_text q)) (λ k. number_fault w ≡ Some k)
    → MatchResult r (λ q. (is_held q ≡ true) × (not (is_zero q) ≡ true) × (w ≡ frac_text q)) (λ k. value_fault w ≡ Some k)
nonzero_read w (Ok q) other h = (h.0, ap not (sym (same_as_zero q h.0) ∙ ap (λ v. same_word v (codes "0")) (sym h.1) ∙ other), h.1)
nonzero_read w (Err k) other h = ap (λ b. cond b (Some BadNumber) (number_fault w)) other ∙ h

pub value_taken : (q : ℚ) (w : List ℕ) (old new : Words) → old ≡ w ∷ new → (is_held q ≡ true) × (not (is_zero q) ≡ true) × (w ≡ frac_text q) → (is_held q && not (is_zero q) ≡ true) × (word value_fault old ≡ Ok new) × (old ≡ frac_text q ∷ new)
value_taken q w old new e h =
    let text : old ≡ frac_text q ∷ new = e ∙ ap (λ v. v ∷ new) h.2 in
    (and_from (is_held q) _ h.0 h.1, ap (word value_fault) text ∙ word_passes value_fault (frac_text q) new (value_passes q h.0 h.1), text)

-- some of so many are taken, `last` is the last place, and these words are left
pub record AreTaken (count : ℕ) (old now : Words) (i last : ℕ) (u : List Spot) : Type 0 where
  pub so_many : length u ≡ i
  pub within : i ≤ count
  pub rises : (v : List Spot) → rises_above last v ≡ true → rises_above 0 (u ++ v) ≡ true
  pub all_good : list_all is_formed_spot u ≡ true
  pub read : old ≡ flat_map spot_words u ++ now
  pub left : spots 0 count old ≡ spots last (count - i) now

pub no_spot : (count : ℕ) (old : Words) → AreTaken count old old 0 0 []
no_spot count old = record { so_many = refl; within = omega arith; rises = λ v h. h; all_good = refl; read = refl; left = ap (λ n. spots 0 n old) (omega arith) }

next_spot : (last count i : ℕ) (now next : Words) (s : Spot) → i < count → is_formed_spot s ≡ true → nat_lt last s.at ≡ true → not (is_zero s.value) ≡ true → now ≡ spot_words s ++ next → spots last (count - i) now ≡ spots s.at (count - (i + 1)) next
next_spot last count i now next s low good above some e =
    let one_more : count - i ≡ suc (count - (i + 1)) = omega arith in
    let p = and_parts (is_short s.at) (is_held s.value) good in
    let short = short_low s.at p.0 in
    let n : ℕ = count - (i + 1) in
    ap (λ m. spots last m now) one_more ∙ ap (spots last (suc n)) e
    ∙ ap (λ o. unless o (and_then (word value_fault (frac_text s.value ∷ next)) (spots (digits_value 10 (decimal s.at)) n))) (place_passes last s.at short above)
    ∙ ap (λ l. and_then l (spots (digits_value 10 (decimal s.at)) n)) (word_passes value_fault (frac_text s.value) next (value_passes s.value p.1 some))
    ∙ ap (λ m. spots m n next) (value_of_decimal s.at (omega arith))

pub one_spot : (count : ℕ) (old now next : Words) (i last : ℕ) (u : List Spot) (s : Spot) → i < count → AreTaken count old now i last u → (is_formed_spot s ≡ true) × (nat_lt last s.at ≡ true) × (not (is_zero s.value) ≡ true) × (now ≡ spot_words s ++ next) → AreTaken count old next (i + 1) s.at (u ++ s ∷ [])
one_spot count old now next i last u s low t h = record {
  so_many = length_push spot_words is_formed_spot (λ ws. Ok ws) u s ∙ ap (λ n. n + 1) t.so_many;
  within = omega arith;
  rises = λ v k. ap (rises_above 0) (append_assoc u (s ∷ []) v) ∙ t.rises (s ∷ v) (and_from (nat_lt last s.at) _ h.1 (and_from (not (is_zero s.value)) _ h.2 k));
  all_good = good_push spot_words is_formed_spot (λ ws. Ok ws) u s t.all_good h.0;
  read = t.read ∙ ap (λ ws. flat_map spot_words u ++ ws) h.3 ∙ sym (append_assoc (flat_map spot_words u) (spot_words s) next) ∙ ap (λ ws. ws ++ next) (sym (flat_push spot_words is_formed_spot (λ ws. Ok ws) u s));
  left = t.left ∙ next_spot last count i now next s low h.0 h.1 h.2 h.3;
}

pub spots_fail : (count : ℕ) (old now new : Words) (i last : ℕ) (u : List Spot) (s : Stop) → i < count → AreTaken count old now i last u → TakesSpot last now new (Err s) → TakesSpots count old new (Err s)
spots_fail count old now new i last u (Fault k) low t h =
    let one_more : count - i ≡ suc (count - (i + 1)) = omega arith in
    t.left ∙ ap (λ m. spots last m now) one_more ∙ h (count - (i + 1))
spots_fail count old now new i last u NoMemory low t h = tt

pub all_spots : (count : ℕ) (old now : Words) (i last : ℕ) (u : List Spot) → count ≤ i → AreTaken count old now i last u → (length u ≡ count) × (rises_above 0 u ≡ true) × (list_all is_formed_spot u ≡ true) × (old ≡ flat_map spot_words u ++ now)
all_spots count old now i last u high t =
    let within = t.within in
    let so_many = t.so_many in
    (omega arith, ap (rises_above 0) (sym (append-nil u)) ∙ t.rises [] refl, t.all_good, t.read)

pub sparse_fails : (old new : Words) (s : Stop) → TakesItem (λ n. decimal n ∷ []) is_short (word natural_fault) old new (Err s) → Takes {A = List Spot} sparse form.sparse old new (Err s)
sparse_fails [] new (Fault k) h = h
sparse_fails (w ∷ old) new (Fault k) h = by (natural_fault w) h
  where
    by : (o : Option LogKind) → unless o (Ok old) ≡ Err k → unless o (spots 0 (digits_value 10 w) old) ≡ Err k
    by None e = cc
    by (Some l) e = cc
sparse_fails old new NoMemory h = tt

pub sparse_taken : (old middle new : Words) (count : ℕ) (r : Result (List Spot) Stop) → (is_short count ≡ true) × (word natural_fault old ≡ Ok middle) × (old ≡ (decimal count ∷ []) ++ middle) → TakesSpots count middle new r → Takes sparse form.sparse old new r
sparse_taken old middle new count (Ok u) h k =
    (and_from (is_short (length u)) _ (ap is_short k.0 ∙ h.0) (and_from (rises_above 0 u) _ k.1 k.2), h.2 ∙ (λ i. decimal (sym k.0 i) ∷ k.3 i))
sparse_taken old middle new count (Err (Fault l)) h k =
    let low = ltb-true count (2 ^ 32) h.0 in
    ap (counted (spots 0)) h.2
    ∙ ap (λ o. unless o (spots 0 (digits_value 10 (decimal count)) middle)) (natural_passes count low)
    ∙ ap (λ n. spots 0 n middle) (value_of_decimal count (omega arith)) ∙ k
sparse_taken old middle new count (Err NoMemory) h k = tt
