-- What stands while a conversion meets its rules.
use Rattle.std.proofs.Common.{◌≡◌, ℕ, suc, ◌+◌, ◌<◌, ◌&&◌, ◌||◌, not, Bool, true, false, true≢false, List, [], ◌∷◌, ◌++◌, map, length, All, Contains, refl, sym, ap, ◌∙◌, subst, ◌⊎◌, inl, inr, append_assoc}
use Rattle.std.proofs.lemmas.List.{length-map, map-append, append-nil}
use Rattle.std.proofs.lemmas.List.Elements.{All-nil, All-cons, All-map, All-append}
use Rattle.std.proofs.lemmas.List.Folds.{list_any-append}
use Rattle.std.proofs.lemmas.List.Sums.{fold-append}
use Rattle.exact_field.specs.Rational.{ℚ, zero_ℚ, one_ℚ}
use Rattle.exact_field.specs.Vector.{entry}
use Rattle.polyhedra.specs.Vectors.{AreWide}
use Rattle.polyhedra.specs.TightSets.{IsTight}
use Rattle.polyhedra.specs.DoubleDescription.{leading}
use Rattle.word_lines.specs.declared.part.LogPair.{LogPair}
use Rattle.polyhedra.specs.Negatives.{negated}
use Rattle.polyhedra.specs.LiveList.{LiveList, vectors, step}
use Rattle.polyhedra.specs.LiveSteps.{IsLive}
use Rattle.polyhedra.proofs.LiveSteps.{are_live}
use Rattle.polyhedra.proofs.Lists.{HasWidth, wide-nil, wide-cons, Contains-cases, Contains-nil}
use Rattle.polyhedra.proofs.Members.{all_of_members, member_of, pairs-nil, pairs-cons, pairs-append}
use Rattle.polyhedra.proofs.Tests.{either_true}
use Rattle.upper_image.specs.Spots.{pieces}
use Rattle.upper_image.proofs.Solid.{pieces_wide}
use Rattle.upper_image.proofs.Widths.{length-pieces}
use Rattle.representations.specs.Lined.{pinned, AreTightAt, ArePlacesReaders}
use Rattle.representations.proofs.Places.{places_are_readers}
use Rattle.representations.proofs.Needed.{gens_reduced}
use Rattle.representations.proofs.Pinned.{pinned_start, pinned_step}
use Rattle.rep_conv.specs.Rows.{text_rows, row_at, has_rows}
use Rattle.rep_conv.specs.Live.{State, state, after, nothing, rows_in_use}
use Rattle.rep_conv.specs.Meets.{has_start, has_begun, is_start, MeetsLine, MeetsStart, MeetsAdd, Meets, AllMeet}
use Rattle.rep_conv.specs.Laws.{LinesStand, readers, GeneratorsStand, Stands, RulesKeepDescription}
use Rattle.lineality.specs.Lines.{leading_place, IsReduced}
use Rattle.rep_text.specs.declared.rep.Rep.{Rep}
use Rattle.rep_text.specs.declared.conv.ConvEntry.{ConvEntry}
use Rattle.rep_text.specs.declared.conv.ConvEntry.TheVariants.{Conv, Line, Start, Add, End}
use Rattle.rep_conv.proofs.Joined.{joined}
use Rattle.rep_conv.proofs.TextRows.{text_rows_wide}

-- ---- a row
row_width : (rep : Rep) (k : ℕ) → k < length (text_rows rep) → length (row_at rep k) ≡ suc rep.width
row_width rep k h = (text_rows_wide rep).wide k [] h

-- ---- one more line
line_stands : (rep : Rep) (s : State) (d : List ℚ) → LinesStand rep s.lines → MeetsLine rep s d → LinesStand rep (s.lines ++ d ∷ [])
line_stands rep s d h m = record {
  echelon = record {
    wide = record { wide = All-append (HasWidth (suc rep.width)) s.lines (d ∷ []) h.echelon.wide.wide (All-cons (HasWidth (suc rep.width)) d [] m.lengths (All-nil (HasWidth (suc rep.width)))) };
    leading_one = All-append (λ l. leading l ≡ one_ℚ) s.lines (d ∷ []) h.echelon.leading_one (All-cons (λ l. leading l ≡ one_ℚ) d [] m.scaled (All-nil (λ l. leading l ≡ one_ℚ)));
    places_rise = pairs-append (λ a b. leading_place a < leading_place b) s.lines (d ∷ []) h.echelon.places_rise
        (pairs-cons (λ a b. leading_place a < leading_place b) d [] (All-nil (λ b. leading_place d < leading_place b)) (pairs-nil (λ a b. leading_place a < leading_place b)))
        (λ a b a_in b_in. subst (λ (v : List ℚ). leading_place a < leading_place v) (only b b_in) (member_of (λ l. leading_place l < leading_place d) s.lines a m.rises a_in));
    others_zero = pairs-append (λ a b. entry a (leading_place b) ≡ zero_ℚ) s.lines (d ∷ []) h.echelon.others_zero
        (pairs-cons (λ a b. entry a (leading_place b) ≡ zero_ℚ) d [] (All-nil (λ b. entry d (leading_place b) ≡ zero_ℚ)) (pairs-nil (λ a b. entry a (leading_place b) ≡ zero_ℚ)))
        (λ a b a_in b_in. subst (λ (v : List ℚ). entry a (leading_place v) ≡ zero_ℚ) (only b b_in) (member_of (λ l. entry l (leading_place d) ≡ zero_ℚ) s.lines a m.clear a_in));
  };
  corner = All-append (λ v. All (λ r. IsTight r v) (text_rows rep)) s.lines (d ∷ []) h.corner
      (All-cons (λ v. All (λ r. IsTight r v) (text_rows rep)) d [] m.corner (All-nil (λ v. All (λ r. IsTight r v) (text_rows rep))));
}
  where
    only : (b : List ℚ) → Contains (d ∷ []) b → d ≡ b
    only b c = go (Contains-cases d [] b c)
      where
        go : (d ≡ b) ⊎ Contains [] b → d ≡ b
        go (inl e) = e
        go (inr k) = absurd (Contains-nil b k)

-- ---- the start
start_stands : (rep : Rep) (s : State) (rows : List ℕ) (gens : List ℚ) → LinesStand rep s.lines → MeetsStart rep s rows gens → GeneratorsStand rep (after rep s (Start rows gens))
start_stands rep s rows gens h m = record {
  live = are_live.start n 1 (pinned (readers rep s) (map (row_at rep) rows)) firsts
      (pinned_start n (map (row_at rep) rows) (readers rep s) firsts s.lines
      (joined n (map (row_at rep) rows) (readers rep s) firsts s.lines rows_wide places.wide firsts_wide h.echelon.wide
      (ap (λ k. k + length s.lines) (length-map rows (row_at rep)) ∙ m.rows_many) many
      (λ i u. m.positive i (subst (λ (k : ℕ). i < k) (length-map rows (row_at rep)) u))
      (λ i j u v other. m.zero_elsewhere i j (subst (λ (k : ℕ). i < k) (length-map rows (row_at rep)) u) (subst (λ (k : ℕ). j < k) (length-map rows (row_at rep)) v) other)
      places.reads reduced tight) many) m.normed;
  exist = m.exist;
}
  where
    n : ℕ
    n = suc rep.width

    firsts : List (List ℚ)
    firsts = pieces (length rows) (suc rep.width) gens

    many : length firsts ≡ length (map (row_at rep) rows)
    many = length-pieces (length rows) (suc rep.width) gens ∙ sym (length-map rows (row_at rep))

    rows_wide : AreWide n (map (row_at rep) rows)
    rows_wide = record {
      wide = All-map (HasWidth n) (row_at rep) rows (all_of_members (λ k. length (row_at rep k) ≡ n) rows
          (λ k c. row_width rep k (member_of (λ j. j < length (text_rows rep)) rows k m.exist c)));
    }

    firsts_wide : AreWide n firsts
    firsts_wide = pieces_wide (length rows) (suc rep.width) gens m.gens_many

    places : ArePlacesReaders n s.lines
    places = places_are_readers n s.lines h.echelon

    reduced : AreTightAt (readers rep s) firsts
    reduced = all_of_members (λ v. All (λ r. IsTight r v) (readers rep s)) firsts
        (λ v c. (places.reduced v).0 (member_of (IsReduced s.lines) firsts v m.reduced c))

    tight : AreTightAt (map (row_at rep) rows) s.lines
    tight = all_of_members (λ v. All (λ r. IsTight r v) (map (row_at rep) rows)) s.lines (λ v c.
        All-map (λ r. IsTight r v) (row_at rep) rows (all_of_members (λ k. IsTight (row_at rep k) v) rows (λ k q.
        (member_of (λ u. All (λ r. IsTight r u) (text_rows rep)) s.lines v h.corner c) k [] (member_of (λ j. j < length (text_rows rep)) rows k m.exist q))))

-- ---- one more row
add_stands : (rep : Rep) (s : State) (row : ℕ) (pairs : List LogPair) → GeneratorsStand rep s → MeetsAdd rep s row pairs → GeneratorsStand rep (after rep s (Add row pairs))
add_stands rep s row pairs h m = record {
  live = subst (λ (rows : List (List ℚ)). IsLive (suc rep.width) rows (step (rows_in_use rep s) s.list (row_at rep row))) grown
      (subst (λ (list : LiveList). IsLive (suc rep.width) (pinned (readers rep s) (rows_in_use rep s) ++ row_at rep row ∷ []) list)
      (sym (pinned_step (readers rep s) (rows_in_use rep s) s.list (row_at rep row) reduced))
      (are_live.after (suc rep.width) (pinned (readers rep s) (rows_in_use rep s)) s.list (row_at rep row ∷ [])
      (wide-cons (suc rep.width) (row_at rep row) [] (row_width rep row m.exists) (wide-nil (suc rep.width))) h.live));
  exist = All-append (λ k. k < length (text_rows rep)) s.used (row ∷ []) h.exist (All-cons (λ k. k < length (text_rows rep)) row [] m.exists (All-nil (λ k. k < length (text_rows rep))));
}
  where
    reduced : AreTightAt (readers rep s) (vectors s.list.live)
    reduced = all_of_members (λ v. All (λ r. IsTight r v) (readers rep s)) (vectors s.list.live) (λ v c. all_of_members (λ r. IsTight r v) (readers rep s) (λ r k.
        gens_reduced (suc rep.width) (readers rep s) (rows_in_use rep s) (vectors s.list.live) h.live.described v r c k))

    grown : pinned (readers rep s) (rows_in_use rep s) ++ row_at rep row ∷ [] ≡ pinned (readers rep s) (map (row_at rep) (s.used ++ row ∷ []))
    grown = append_assoc (readers rep s ++ map negated (readers rep s)) (rows_in_use rep s) (row_at rep row ∷ [])
        ∙ ap (λ rows. pinned (readers rep s) rows) (sym (map-append (row_at rep) s.used (row ∷ [])))

-- ---- one entry
last_true : (a b c : Bool) → (a && b && c) ≡ true → c ≡ true
last_true a b true h = refl
last_true true true false h = absurd (true≢false (sym h))
last_true true false false h = absurd (true≢false (sym h))
last_true false true false h = absurd (true≢false (sym h))
last_true false false false h = absurd (true≢false (sym h))

not_of : (b : Bool) → not b ≡ true → b ≡ true → ⊥
not_of true h k = true≢false (sym h)
not_of false h k = true≢false (sym k)

still : (rep : Rep) (s : State) (b : Bool) → Stands rep s b → Stands rep s (b || false)
still rep s b h = record { lines = h.lines; begun = λ e. go (either_true b false e) }
  where
    go : (b ≡ true) ⊎ (false ≡ true) → GeneratorsStand rep s
    go (inl e) = h.begun e
    go (inr e) = absurd (true≢false (sym e))

pub entry_stands : (rep : Rep) (before : List ConvEntry) (e : ConvEntry) → Stands rep (state rep before) (has_start before) → Meets rep before e →
    Stands rep (after rep (state rep before) e) (has_start before || is_start e)
entry_stands rep before (Conv n) h m = still rep (state rep before) (has_start before) h
entry_stands rep before (Line d) h m = record {
  lines = line_stands rep (state rep before) d h.lines m.rules;
  begun = λ e. absurd (go (either_true (has_start before) false e));
}
  where
    go : (has_start before ≡ true) ⊎ (false ≡ true) → ⊥
    go (inl e) = not_of (has_start before) (last_true (has_rows rep) (has_begun before) (not (has_start before)) m.order) e
    go (inr e) = true≢false (sym e)
entry_stands rep before (Start rows gens) h m = record { lines = h.lines; begun = λ e. start_stands rep (state rep before) rows gens h.lines m.rules }
entry_stands rep before (Add row pairs) h m = record { lines = h.lines; begun = λ e. add_stands rep (state rep before) row pairs (h.begun m.order) m.rules }
entry_stands rep before End h m = still rep (state rep before) (has_start before) h

-- ---- all entries
pub push : (rep : Rep) (before : List ConvEntry) (e : ConvEntry) → Stands rep (after rep (state rep before) e) (has_start before || is_start e) → Stands rep (state rep (before ++ e ∷ [])) (has_start (before ++ e ∷ []))
push rep before e h =
    subst (λ (b : Bool). Stands rep (state rep (before ++ e ∷ [])) b) (sym (list_any-append is_start before (e ∷ []) ∙ ap (λ b. has_start before || b) (single (is_start e))))
    (subst (λ (s : State). Stands rep s (has_start before || is_start e)) (sym (fold-append (after rep) nothing before (e ∷ []))) h)
  where
    single : (b : Bool) → (b || false) ≡ b
    single true = refl
    single false = refl

all_stand : (rep : Rep) (entries rest before : List ConvEntry) → AllMeet rep entries → entries ≡ before ++ rest → Stands rep (state rep before) (has_start before) →
    Stands rep (state rep entries) (has_start entries)
all_stand rep entries [] before all e h = subst (λ (xs : List ConvEntry). Stands rep (state rep xs) (has_start xs)) (sym (e ∙ append-nil before)) h
all_stand rep entries (x ∷ rest) before all e h =
    all_stand rep entries rest (before ++ x ∷ []) all (e ∙ sym (append_assoc before (x ∷ []) rest)) (push rep before x (entry_stands rep before x h (all before x rest e)))

pub none_stands : (rep : Rep) → Stands rep nothing false
none_stands rep = record {
  lines = record {
    echelon = record {
      wide = wide-nil (suc rep.width);
      leading_one = All-nil (λ d. leading d ≡ one_ℚ);
      places_rise = pairs-nil (λ l d. leading_place l < leading_place d);
      others_zero = pairs-nil (λ l d. entry l (leading_place d) ≡ zero_ℚ);
    };
    corner = All-nil (λ v. All (λ r. IsTight r v) (text_rows rep));
  };
  begun = λ e. absurd (true≢false (sym e));
}

pub rules_keep_description : RulesKeepDescription
rules_keep_description rep entries all = all_stand rep entries entries [] all refl (none_stands rep)
