-- The entry that fails is one of the log, and of a log's entries the last is the end.
use Rattle.std.proofs.Common.{◌≡◌, ℕ, suc, ◌+◌, ◌≤◌, true, not, List, [], ◌∷◌, ◌++◌, length, Option, None, Some, ap, arith, refl, subst}
use Rattle.std.proofs.lemmas.Bool.{and_parts}
use Rattle.std.proofs.lemmas.List.{length-append}
use Rattle.exact_field.specs.declared.op.Left.{Left as AStep}
use Rattle.frac128.specs.Held.{is_held}
use Rattle.frac128.specs.declared.frac.Frac.{Frac}
use Rattle.log_rules.specs.Events.{Failure, first_failure}
use Rattle.log_rules.specs.LogEvents.{Failing}
use Rattle.log_rules.specs.declared.rule.Rule.{Rule}
use Rattle.word_lines.specs.Grammar.{ends_once}
use Rattle.rep_text.specs.ConvText.{is_conv_end}
use Rattle.rep_text.specs.declared.conv.ConvEntry.{ConvEntry}
use Rattle.rep_text.specs.declared.conv.ConvEntry.TheVariants.{Conv, Line, Start, Add, End}
use Rattle.rep_text.specs.declared.rep.Rep.{Rep}
use Rattle.rep_conv.specs.Checked.{IsRefusal}
use Rattle.rep_conv.specs.Events.{events, first_failing}
use Rattle.rep_conv.specs.declared.check.ConvRefusal.{ConvRefusal}
use Rattle.rep_conv.specs.declared.check.ConvRefusal.TheVariants as refusal

-- ---- the entry that fails
same_failing : (f g : Failing) → Some f ≡ Some g → f ≡ g
same_failing f g e = cc

entry_after : (rep : Rep) (before entries : List ConvEntry) (f : Failing) →
    first_failing is_held rep before entries ≡ Some f → f.entry ≤ length before + length entries
entry_after rep before [] f h = cc
entry_after rep before (e ∷ entries) f h =
    by (λ k. entry_after rep (before ++ e ∷ []) entries f k) (first_failure is_held 1 (events rep before e)) h
  where
    by : (first_failing is_held rep (before ++ e ∷ []) entries ≡ Some f → f.entry ≤ length (before ++ e ∷ []) + length entries) →
        (o : Option Failure) → (elim o [
          | Some failure ↦ Some (record { entry = suc (length before); failure = failure })
          | None ↦ first_failing is_held rep (before ++ e ∷ []) entries
        ]) ≡ Some f → f.entry ≤ length before + length (e ∷ entries)
    by later (Some failure) k =
        let is : suc (length before) ≡ f.entry = ap (λ (g : Failing). g.entry) (same_failing _ f k) in
        omega (arith, is)
    by later None k =
        let after : f.entry ≤ length (before ++ e ∷ []) + length entries = later k in
        let more : length (before ++ e ∷ []) ≡ length before + 1 = length-append before (e ∷ []) in
        omega (arith, after, more)

-- a refusal names an entry of the log
abbrev pub IsWithin : List ConvEntry → ConvRefusal → Type 0
IsWithin log (refusal.Wrong n r) = n ≤ length log
IsWithin log (refusal.Left n k l) = n ≤ length log
IsWithin log refusal.NoMemory = Unit {0}

entry_within : (rep : Rep) (log : List ConvEntry) (why : ConvRefusal) → IsRefusal rep log why →
    IsWithin log why
entry_within rep log (refusal.Wrong n r) h =
    let within : n ≤ length {A = ConvEntry} [] + length log = entry_after rep [] log _ h in
    omega (arith, within)
entry_within rep log (refusal.Left n k l) h =
    let within : n ≤ length {A = ConvEntry} [] + length log = entry_after rep [] log _ h in
    omega (arith, within)
entry_within rep log refusal.NoMemory h = tt

pub wrong_within : (rep : Rep) (log : List ConvEntry) (why : ConvRefusal) (n : ℕ) (r : Rule) →
    why ≡ refusal.Wrong n r → IsRefusal rep log why → n ≤ length log
wrong_within rep log why n r is h = subst (λ (w : ConvRefusal). IsWithin log w) is (entry_within rep log why h)

pub left_within : (rep : Rep) (log : List ConvEntry) (why : ConvRefusal) (n k : ℕ) (l : AStep Frac) →
    why ≡ refusal.Left n k l → IsRefusal rep log why → n ≤ length log
left_within rep log why n k l is h = subst (λ (w : ConvRefusal). IsWithin log w) is (entry_within rep log why h)

-- ---- the end
is_end : (e : ConvEntry) → is_conv_end e ≡ true → e ≡ End
is_end (Conv n) h = cc
is_end (Line d) h = cc
is_end (Start rows gens) h = cc
is_end (Add row pairs) h = cc
is_end End h = refl

pub ends : (log : List ConvEntry) → ends_once is_conv_end log ≡ true →
    (before : List ConvEntry) × (log ≡ before ++ End ∷ [])
ends [] h = cc
ends (e ∷ []) h = ([], ap (λ (x : ConvEntry). x ∷ []) (is_end e h))
ends (e ∷ next ∷ log) h =
    let rest = ends (next ∷ log) (and_parts (not (is_conv_end e)) (ends_once is_conv_end (next ∷ log)) h).1 in
    (e ∷ rest.0, ap (λ (es : List ConvEntry). e ∷ es) rest.1)
