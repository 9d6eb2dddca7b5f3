-- A log with one more entry.
use Rattle.std.proofs.Common.{◌≡◌, List, [], ◌∷◌, ◌++◌, All, IsTrue, not, refl, ap, ap₂, subst, ◌⊎◌, inl, inr}
use Rattle.std.specs.List.{flat_map}
use Rattle.std.proofs.lemmas.List.Elements.{All-nil, All-cons, All-append}
use Rattle.std.proofs.lemmas.List.Sums.{fold-append}
use Rattle.frac128.specs.Held.{is_held}
use Rattle.polyhedra.proofs.Lists.{Contains-here, Contains-there}
use Rattle.std.specs.Prelude.{Contains}
use Rattle.log_rules.specs.Events.{Event}
use Rattle.word_lines.specs.Grammar.{is_formed}
use Rattle.rep_text.specs.ConvText.{conv_grammar, is_conv_end}
use Rattle.rep_text.specs.declared.conv.ConvEntry.{ConvEntry}
use Rattle.rep_text.specs.declared.rep.Rep.{Rep}
use Rattle.rep_conv.specs.Events.{IsHeldStep, events}
use Rattle.rep_conv.specs.Live.{after, nothing, state}
use Rattle.rep_conv.specs.Meets.{Meets}
use Rattle.rep_convert.specs.Standing.{IsOpenLog}

-- ---- one more entry
none_parted : {X : Type 0} (before : List X) (e : X) (after : List X) → [] ≡ before ++ e ∷ after → ⊥
none_parted [] e after h = cc
none_parted (b ∷ before) e after h = cc

-- entries and one more, parted at an entry: this is the one more, or one of the others
parted : {X : Type 0} (xs : List X) (x : X) (before : List X) (e : X) (after : List X) → xs ++ x ∷ [] ≡ before ++ e ∷ after →
    ((more : List X) × (xs ≡ before ++ e ∷ more)) ⊎ ((xs ≡ before) × (x ≡ e))
parted {X} [] x [] e after h = inr (refl, let first : x ≡ e = cc in first)
parted {X} [] x (b ∷ before) e after h = absurd (none_parted before e after (let rest : [] ≡ before ++ e ∷ after = cc in rest))
parted {X} (y ∷ xs) x [] e after h = inl (xs, let first : y ≡ e = cc in ap (λ (d : X). d ∷ xs) first)
parted {X} (y ∷ xs) x (b ∷ before) e after h =
    let first : y ≡ b = cc in
    elim (parted xs x before e after (let rest : xs ++ x ∷ [] ≡ before ++ e ∷ after = cc in rest)) [
      | inl p ↦ inl (p.0, ap₂ (λ (d : X) (ds : List X). d ∷ ds) first p.1)
      | inr p ↦ inr (ap₂ (λ (d : X) (ds : List X). d ∷ ds) first p.0, p.1)
    ]

-- what holds of each entry after those before it
abbrev pub Each : (List ConvEntry → ConvEntry → Type 0) → List ConvEntry → Type 0
Each P log = (before : List ConvEntry) (e : ConvEntry) (after : List ConvEntry) → log ≡ before ++ e ∷ after → P before e

pub each_more : (P : List ConvEntry → ConvEntry → Type 0) (log : List ConvEntry) (e : ConvEntry) → Each P log → P log e → Each P (log ++ e ∷ [])
each_more P log e each more before d after same = elim (parted log e before d after same) [
  | inl p ↦ each before d p.0 p.1
  | inr p ↦ subst (λ (b : List ConvEntry). P b d) p.0 (subst (λ (x : ConvEntry). P log x) p.1 more)
]

pub each_none : (P : List ConvEntry → ConvEntry → Type 0) → Each P []
each_none P before e after same = absurd (none_parted before e after same)

pub open_more : (rep : Rep) (log : List ConvEntry) (e : ConvEntry) → IsOpenLog rep log → Meets rep log e → All (IsHeldStep is_held) (events rep log e) →
    IsTrue (is_formed conv_grammar e) → IsTrue (not (is_conv_end e)) → IsOpenLog rep (log ++ e ∷ [])
open_more rep log e h meets held written unended = record {
  met = each_more (Meets rep) log e h.met meets;
  held = each_more (λ before d. All (IsHeldStep is_held) (events rep before d)) log e h.held held;
  written = All-append (λ d. IsTrue (is_formed conv_grammar d)) log (e ∷ []) h.written
      (All-cons (λ d. IsTrue (is_formed conv_grammar d)) e [] written (All-nil (λ d. IsTrue (is_formed conv_grammar d))));
  unended = All-append (λ d. IsTrue (not (is_conv_end d))) log (e ∷ []) h.unended
      (All-cons (λ d. IsTrue (not (is_conv_end d))) e [] unended (All-nil (λ d. IsTrue (not (is_conv_end d)))));
}

pub state_more : (rep : Rep) (log : List ConvEntry) (e : ConvEntry) → state rep (log ++ e ∷ []) ≡ after rep (state rep log) e
state_more rep log e = fold-append (after rep) nothing log (e ∷ [])

-- ---- events
pub flat_held : {X : Type 0} (f : X → List Event) (xs : List X) → ((x : X) → Contains xs x → All (IsHeldStep is_held) (f x)) →
    All (IsHeldStep is_held) (flat_map f xs)
flat_held f [] h = All-nil (IsHeldStep is_held)
flat_held f (x ∷ xs) h = All-append (IsHeldStep is_held) (f x) (flat_map f xs) (h x (Contains-here x xs x refl))
    (flat_held f xs (λ y c. h y (Contains-there x xs y c)))
