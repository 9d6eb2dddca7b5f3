-- Counting the cuts of a log, and those that it names as facets, entry by entry.
use Rattle.std.proofs.Common.{◌≡◌, ◌≤◌, ◌+◌, ◌⊎◌, inl, inr, ℕ, List, [], ◌∷◌, ◌++◌, length, Contains, true, false, true≢false, refl, sym, ap, ◌∙◌, subst, arith}
use Rattle.std.specs.Prelude.{Option, Some}
use Rattle.std.specs.List.{cons_option}
use Rattle.std.proofs.lemmas.Bool.{eqb-true}
use Rattle.std.proofs.lemmas.Bool.Decides.{eqb_tells}
use Rattle.std.proofs.lemmas.List.{length-append}
use Rattle.std.proofs.lemmas.List.Elements.{filter_map-append, Contains-append_left, Contains-push}
use Rattle.std.proofs.lemmas.List.Sums.{fold-append}
use Rattle.deriv_log.specs.declared.entry.Entry.{Entry}
use Rattle.deriv_log.specs.declared.entry.Entry.TheVariants.{Cut, Facet}
use Rattle.log_rules.specs.Live.{State, after, named, named_in, nothing, state}
use Rattle.solver.specs.Named.{is_cut, is_facet}

-- ---- cuts
one_more : (q : ℕ) (s : State) (e : Entry) → is_cut e ≡ true →
    length (after q s e).cuts ≡ length s.cuts + 1
one_more q s (Cut w gamma u v) h = length-append s.cuts (record { w = w; gamma = gamma; u = u } ∷ [])
one_more q s e h = absurd (true≢false (sym h))

none_more : (q : ℕ) (s : State) (e : Entry) → is_cut e ≡ false →
    length (after q s e).cuts ≡ length s.cuts
none_more q s (Cut w gamma u v) h = absurd (true≢false h)
none_more q s e h = refl

module _ (q : ℕ) (before : List Entry) (e : Entry) where
  pushed : length (state q (before ++ e ∷ [])).cuts ≡ length (after q (state q before) e).cuts
  pushed = ap (λ (s : State). length s.cuts) (fold-append (after q) nothing before (e ∷ []))

  pub cut_pushed : is_cut e ≡ true →
      length (state q (before ++ e ∷ [])).cuts ≡ length (state q before).cuts + 1
  cut_pushed h = pushed ∙ one_more q (state q before) e h

  pub other_pushed : is_cut e ≡ false →
      length (state q (before ++ e ∷ [])).cuts ≡ length (state q before).cuts
  other_pushed h = pushed ∙ none_more q (state q before) e h

-- ---- facets
names_it : (k : ℕ) (e : Entry) → is_facet k e ≡ true → named_in e ≡ Some k
names_it k (Facet cut) h = ap (λ (j : ℕ). Some j) (eqb-true cut k h)
names_it k e h = absurd (true≢false (sym h))

named_more : (before : List Entry) (e : Entry) →
    named (before ++ e ∷ []) ≡ named before ++ cons_option (named_in e) []
named_more before e = filter_map-append named_in before (e ∷ [])

pub still_named : (before : List Entry) (e : Entry) (k : ℕ) → Contains (named before) k →
    Contains (named (before ++ e ∷ [])) k
still_named before e k h =
    subst (λ (ks : List ℕ). Contains ks k) (sym (named_more before e))
    (Contains-append_left (named before) (cons_option (named_in e) []) k h)

last_named : (before : List Entry) (e : Entry) (k : ℕ) → is_facet k e ≡ true →
    Contains (named (before ++ e ∷ [])) k
last_named before e k h =
    subst (λ (ks : List ℕ). Contains ks k)
    (sym (named_more before e
    ∙ ap (λ (o : Option ℕ). named before ++ cons_option o []) (names_it k e h)))
    (Contains-push (named before) k)

last_or_before : (n k : ℕ) → k ≤ n + 1 → (k ≤ n) ⊎ (n + 1 ≡ k)
last_or_before n k h =
    elim (eqb_tells k (n + 1)) [
      | inl same ↦ inr (sym same.1)
      | inr other ↦ inl (let off = other.1 in omega (arith, h, off))
    ]

-- where those up to n are named, and the next one is
pub facet_pushed : (before : List Entry) (e : Entry) (n : ℕ) → is_facet (n + 1) e ≡ true →
    ((k : ℕ) → 1 ≤ k → k ≤ n → Contains (named before) k) →
    (k : ℕ) → 1 ≤ k → k ≤ n + 1 → Contains (named (before ++ e ∷ [])) k
facet_pushed before e n h all k low high =
    elim (last_or_before n k high) [
      | inl less ↦ still_named before e k (all k low less)
      | inr same ↦ subst (λ (j : ℕ). Contains (named (before ++ e ∷ [])) j) same (last_named before e (n + 1) h)
    ]
