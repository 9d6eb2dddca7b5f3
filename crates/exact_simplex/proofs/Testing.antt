-- One row of the ratio test.
use Rattle.std.proofs.Common.{◌≡◌, ℕ, List, [], ◌∷◌, ◌++◌, length, take, sym, ap, ◌∙◌, subst, arith, ◌<◌, ◌+◌, inl, inr, Bool, true, false, true≢false, IsTrue, slice_index_or, nat_eq}
use Rattle.std.specs.Prelude.{◌↔◌}
use Rattle.std.specs.declared.alloc.Global.{Global}
use Rattle.std.specs.declared.vec.Vec.{Vec}
use Rattle.std.proofs.lemmas.List.{take_more, map_push}
use Rattle.exact_field.specs.Rational.{ℚ, zero_ℚ, ◌+ℚ◌, ◌≤ℚ◌, ◌<ℚ◌}
use Rattle.exact_field.proofs.Inequalities.{le_refl_ℚ, add-nonnegative, le_or_lt}
use Rattle.polyhedra.specs.Sparse.{Entry}
use Rattle.lin_rows.specs.declared.spots.Spot.{Spot}
use Rattle.lin_rows.specs.Lines.{entry_of, entries, lines, Rises, AreLines, sum_at}
use Rattle.lin_rows.proofs.Merging.{shown, sum_at-append}
use Rattle.lin_rows.proofs.ManyLines.{length-lines, line_at}
use Rattle.exact_simplex.specs.declared.ratio.Either.{Either}
use Rattle.exact_simplex.specs.declared.ratio.Either.TheVariants.{First, Second}
use Rattle.exact_simplex.specs.declared.ratio.TestLeft.{TestLeft}
use Rattle.exact_simplex.specs.Ratios.{IsRatioLeft, IsEither, entry_in, IsTestLeft, IsTestOf}

pub not_positive : (b : Bool) (q : ℚ) → (IsTrue b ↔ (zero_ℚ <ℚ q)) → b ≡ false → q ≤ℚ zero_ℚ
not_positive b q h e = elim (le_or_lt q zero_ℚ) [ inl down ↦ down | inr up ↦ absurd (true≢false (sym (h.1 up) ∙ e)) ]

module _ {F : Type 0} (value : F → ℚ) (rows : List (Vec (Spot F) Global)) (n col : ℕ) (columns : List ℕ) (h : AreLines n (lines value rows)) where
  abbrev ls : List (List Entry)
  ls = lines value rows

  module _ (i : ℕ) (inside : i < length rows) (spots : List (Spot F)) (d : Vec (Spot F) Global) (is : spots ≡ d.items) (read : d ≡ slice_index_or rows i d) where
    pub own : entries value spots ≡ slice_index_or (lines value rows) i []
    own = ap (entries value) (is ∙ ap (λ (v : Vec (Spot F) Global). v.items) read) ∙ line_at value rows i d inside

    pub rises : Rises n 0 (entries value spots)
    rises = subst (Rises n 0) (sym own) (h.rise i (omega (arith, inside, length-lines value rows)))

    pub entry_is : (x : ℚ) → ((m : ℕ) → Rises m 0 (entries value spots) → x ≡ sum_at (entries value spots) col) → x ≡ entry_in (lines value rows) col i
    entry_is x reads = reads n rises ∙ ap (λ es. sum_at es col) own

  -- the overflow of one of two rows
  pub test_of : (holds : ℚ → Bool) (i b : ℕ) (p r : ℚ) (us vs : List Entry) (either : Either F) (test : TestLeft F) → i < length rows → b < length rows →
      p ≡ entry_in (lines value rows) col i → r ≡ entry_in (lines value rows) col b → us ≡ slice_index_or (lines value rows) i [] → vs ≡ slice_index_or (lines value rows) b [] →
      IsEither value holds p us r vs columns either → IsTestOf i b either test → IsTestLeft value holds (lines value rows) col columns test.row test.left
  test_of holds i b p r us vs (First left) test il bl p_is r_is us_is vs_is stuck e =
      subst (λ (t : TestLeft F). IsTestLeft value holds (lines value rows) col columns t.row t.left) (sym e) (
        omega (arith, il, length-lines value rows),
        subst (λ (q : ℚ). IsRatioLeft value holds q (slice_index_or (lines value rows) i []) columns left) p_is
            (subst (λ (es : List Entry). IsRatioLeft value holds p es columns left) us_is stuck),
      )
  test_of holds i b p r us vs (Second left) test il bl p_is r_is us_is vs_is stuck e =
      subst (λ (t : TestLeft F). IsTestLeft value holds (lines value rows) col columns t.row t.left) (sym e) (
        omega (arith, bl, length-lines value rows),
        subst (λ (q : ℚ). IsRatioLeft value holds q (slice_index_or (lines value rows) b []) columns left) r_is
            (subst (λ (es : List Entry). IsRatioLeft value holds r es columns left) vs_is stuck),
      )

-- ---- the first negative entry
shown_nonnegative : (b : Bool) (x : ℚ) → zero_ℚ ≤ℚ x → zero_ℚ ≤ℚ shown b x
shown_nonnegative true x h = h
shown_nonnegative false x h = le_refl_ℚ zero_ℚ

-- one spot more that is not negative, or stands at another place
pub scanned_more : {F : Type 0} (value : F → ℚ) (spots : List (Spot F)) (i : ℕ) (c : Spot F) (j : ℕ) → i < length spots → c ≡ slice_index_or spots i c →
    zero_ℚ ≤ℚ sum_at (entries value (take i spots)) j → zero_ℚ ≤ℚ shown (nat_eq c.at j) (value c.value) → zero_ℚ ≤ℚ sum_at (entries value (take (i + 1) spots)) j
scanned_more value spots i c j l is before here =
    let more : entries value (take (i + 1) spots) ≡ entries value (take i spots) ++ entry_of value c ∷ [] =
    ap (entries value) (take_more spots i c l ∙ ap (λ d. take i spots ++ d ∷ []) (sym is)) ∙ map_push (entry_of value) (take i spots) c in
    subst (λ (q : ℚ). zero_ℚ ≤ℚ q)
    (sym (ap (λ es. sum_at es j) more ∙ sum_at-append (entries value (take i spots)) (entry_of value c ∷ []) j))
    (add-nonnegative (sum_at (entries value (take i spots)) j) (shown (nat_eq c.at j) (value c.value) +ℚ zero_ℚ) before
    (add-nonnegative (shown (nat_eq c.at j) (value c.value)) zero_ℚ here (le_refl_ℚ zero_ℚ)))

pub shown_kept : (b : Bool) (x : ℚ) → zero_ℚ ≤ℚ x → zero_ℚ ≤ℚ shown b x
shown_kept b x h = shown_nonnegative b x h

pub shown_elsewhere : (b : Bool) (x : ℚ) → b ≡ false → zero_ℚ ≤ℚ shown b x
shown_elsewhere b x e = subst (λ (c : Bool). zero_ℚ ≤ℚ shown c x) (sym e) (le_refl_ℚ zero_ℚ)

pub not_negative : (b : Bool) (q : ℚ) → (IsTrue b ↔ (q <ℚ zero_ℚ)) → b ≡ false → zero_ℚ ≤ℚ q
not_negative b q h e = elim (le_or_lt zero_ℚ q) [ inl up ↦ up | inr down ↦ absurd (true≢false (sym (h.1 down) ∙ e)) ]
