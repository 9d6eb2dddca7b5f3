-- The set of the numbers that have a pre-image.
use Rattle.std.proofs.Common.{◌≡◌, ◌≢◌, ◌≤◌, ◌<◌, ◌-◌, ℕ, Bool, List, [], ◌||◌, nat_eq, map, length, Contains, sym, ap, ◌∙◌, subst, arith, true≢false, inl, inr, slice_index_or}
use Rattle.std.proofs.lemmas.List.{get_or-map, length-map}
use Rattle.std.proofs.lemmas.List.Elements.{Contains-get_or}
use Rattle.exact_field.specs.Rational.{ℚ}
use Rattle.polyhedra.specs.LiveList.{Numbered, numbers}
use Rattle.double_descr.specs.State.{State as Description}
use Rattle.std.proofs.lemmas.Bool.Decides.{eqb_tells}
use Rattle.incid_sets.specs.Marks.{has}
use Rattle.deriv_log.specs.declared.entry.Entry.{Entry}
use Rattle.log_rules.specs.Live.{preimages}
use Rattle.outer_approx.specs.Preimages.{AreMarks}
use Rattle.benson_primal.specs.Search.{AreAllReached, AreReached, IsDone, IsInScope}
use Rattle.benson_primal.specs.declared.search.Scope.{Scope}
use Rattle.benson_primal.specs.declared.search.Scope.TheVariants.{Both}

pub marks_more : (old new : List Entry) (g : ℕ) (marks more : List Bool) → AreMarks old marks → ((k : ℕ) → has more k ≡ (nat_eq k g || has marks k)) →
    preimages new g ≢ [] → ((k : ℕ) → k ≢ g → preimages new k ≡ preimages old k) → AreMarks new more
marks_more old new g marks more h is here others = record {
  marked = λ k yes. elim (eqb_tells k g) [
    | inl t ↦ subst (λ (j : ℕ). preimages new j ≢ []) (sym t.1) here
    | inr f ↦ λ none. h.marked k (sym (ap (λ (b : Bool). b || has marks k) f.0) ∙ sym (is k) ∙ yes) (sym (others k f.1) ∙ none)
  ];
  unmarked = λ k no. elim (eqb_tells k g) [
    | inl t ↦ absurd (true≢false (sym (is k ∙ ap (λ (b : Bool). b || has marks k) t.0) ∙ no))
    | inr f ↦ others k f.1 ∙ h.unmarked k (sym (ap (λ (b : Bool). b || has marks k) f.0) ∙ sym (is k) ∙ no)
  ];
}

-- where pre-images stay, so does the set
pub marks_stay : (old new : List Entry) (marks : List Bool) → AreMarks old marks → ((k : ℕ) → preimages new k ≡ preimages old k) → AreMarks new marks
marks_stay old new marks h same = record {
  marked = λ k yes none. h.marked k yes (sym (same k) ∙ none);
  unmarked = λ k no. same k ∙ h.unmarked k no;
}

-- before there is any pre-image the set is empty
pub no_marks : (trail : List Entry) (marks : List Bool) → marks ≡ [] → ((k : ℕ) → preimages trail k ≡ []) → AreMarks trail marks
no_marks trail marks none unreached = subst (λ (m : List Bool). AreMarks trail m) (sym none) (record {
  marked = λ k yes. absurd (true≢false (sym yes));
  unmarked = λ k no. unreached k;
})

-- what has a pre-image keeps one
pub stay_reached : (old new : List Entry) (g : ℕ) → preimages new g ≢ [] → ((k : ℕ) → k ≢ g → preimages new k ≡ preimages old k) →
    (k : ℕ) → preimages old k ≢ [] → preimages new k ≢ []
stay_reached old new g here others k had = elim (eqb_tells k g) [
  | inl t ↦ subst (λ (j : ℕ). preimages new j ≢ []) (sym t.1) here
  | inr f ↦ λ none. had (sym (others k f.1) ∙ none)
]

-- where each of n numbers is done, which are all, each generator that is asked has a pre-image
pub all_done : (scope : Scope) (trail : List Entry) (dd : Description) (n i : ℕ) → n ≡ length (numbers dd.list.live) → n ≤ i →
    ((j : ℕ) → n - i ≤ j → j < n → IsDone scope trail dd (slice_index_or (numbers dd.list.live) j 0)) → AreReached scope trail dd
all_done scope trail dd n i all past seen k d inside =
    let gs = dd.list.live in
    let long : n ≡ length gs = all ∙ length-map gs (λ (g : Numbered). g.number) in
    λ asked. subst (IsDone scope trail dd) (get_or-map (λ (g : Numbered). g.number) gs k d 0 inside)
    (seen k (omega (arith, past)) (omega (arith, inside, long))) (slice_index_or gs k d).vector (Contains-get_or gs k d inside) asked

-- a generator that is not asked is done
pub done_left_out : {F : Type 0} (value : F → ℚ) (scope : Scope) (trail : List Entry) (dd : Description) (g : ℕ) (generator : List F) →
    ((v : List ℚ) → Contains dd.list.live (record { number = g; vector = v }) → map value generator ≡ v) → (IsInScope scope (map value generator) → ⊥) →
    IsDone scope trail dd g
done_left_out value scope trail dd g generator only out = λ v listed asked. absurd (out (subst (IsInScope scope) (sym (only v listed)) asked))

-- pre-images stay, so what is done does
pub done_stays : (scope : Scope) (old new : List Entry) (dd : Description) → ((k : ℕ) → preimages old k ≢ [] → preimages new k ≢ []) →
    (k : ℕ) → IsDone scope old dd k → IsDone scope new dd k
done_stays scope old new dd stay k done = λ v listed asked. stay k (done v listed asked)

-- where points and directions are asked, all have pre-images
pub all_reached : (trail : List Entry) (dd : Description) → AreReached Both trail dd → AreAllReached trail dd
all_reached trail dd h = λ k d inside. h k d inside tt
