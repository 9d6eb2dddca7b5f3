-- How the check of the log of a conversion goes through its entries.
use Rattle.std.proofs.Common.{◌≡◌, ℕ, zero, suc, ◌+◌, ◌<◌, List, [], ◌∷◌, ◌++◌, take, drop, length, slice_index_or, Option, None, Some, refl, sym, ap, ◌∙◌, subst, arith}
use Rattle.std.proofs.lemmas.List.{drop_more, take_all, take_more}
use Rattle.frac128.specs.Held.{is_held}
use Rattle.log_rules.specs.Events.{Failure, first_failure}
use Rattle.log_live.proofs.LivePairs.{length-take_to}
use Rattle.rep_conv.specs.Checked.{IsTaken}
use Rattle.rep_conv.specs.Events.{conv_failure, events, first_failing}
use Rattle.rep_conv.specs.Progress.{StandsAfter}
use Rattle.rep_conv.specs.declared.progress.Standing.{Standing}
use Rattle.rep_text.specs.declared.rep.Rep.{Rep}
use Rattle.rep_text.specs.declared.conv.ConvEntry.{ConvEntry}

pub none_taken : (rep : Rep) (log : List ConvEntry) (standing : Standing) → StandsAfter rep [] standing → IsTaken rep log 0 standing
none_taken rep log standing h = record { stands = h; rest = refl }

module _ (rep : Rep) (log : List ConvEntry) (i : ℕ) (standing : Standing) (e : ConvEntry) (h : IsTaken rep log i standing) (inside : i < length log) (is : e ≡ slice_index_or log i e) where
  before : take (i + 1) log ≡ take i log ++ e ∷ []
  before = take_more log i e inside ∙ ap (λ x. take i log ++ x ∷ []) (sym is)

  rest_is : drop i log ≡ e ∷ drop (i + 1) log
  rest_is = drop_more log i e inside ∙ ap (λ x. x ∷ drop (i + 1) log) (sym is)

  -- by what fails first in this entry
  at_entry : conv_failure is_held rep log ≡ elim (first_failure is_held 1 (events rep (take i log) e)) [
    | Some f ↦ Some (record { entry = suc (length (take i log)); failure = f })
    | None ↦ first_failing is_held rep (take i log ++ e ∷ []) (drop (i + 1) log)
  ]
  at_entry = h.rest ∙ ap (λ es. first_failing is_held rep (take i log) es) rest_is

  pub one_taken : (new : Standing) → first_failure is_held 1 (events rep (take i log) e) ≡ None → StandsAfter rep (take i log ++ e ∷ []) new → IsTaken rep log (i + 1) new
  one_taken new none stands = record {
    stands = subst (λ (es : List ConvEntry). StandsAfter rep es new) (sym before) stands;
    rest = at_entry
        ∙ ap (λ (o : Option Failure). elim o [
          | Some f ↦ Some (record { entry = suc (length (take i log)); failure = f })
          | None ↦ first_failing is_held rep (take i log ++ e ∷ []) (drop (i + 1) log)
        ]) none
        ∙ ap (λ es. first_failing is_held rep es (drop (i + 1) log)) (sym before);
  }

  number : suc (length (take i log)) ≡ i + 1
  number = let k = length-take_to i log (omega (arith, inside)) in omega (arith, k)

  fails_at : (f : Failure) → first_failure is_held 1 (events rep (take i log) e) ≡ Some f → conv_failure is_held rep log ≡ Some (record { entry = i + 1; failure = f })
  fails_at f some = at_entry
      ∙ ap (λ (o : Option Failure). elim o [
        | Some g ↦ Some (record { entry = suc (length (take i log)); failure = g })
        | None ↦ first_failing is_held rep (take i log ++ e ∷ []) (drop (i + 1) log)
      ]) some
      ∙ ap (λ (n : ℕ). Some (record { entry = n; failure = f })) number

  pub fails : (n : ℕ) (f : Failure) → n ≡ i + 1 → first_failure is_held 1 (events rep (take i log) e) ≡ Some f → conv_failure is_held rep log ≡ Some (record { entry = n; failure = f })
  fails n f same some = fails_at f some ∙ ap (λ (k : ℕ). Some (record { entry = k; failure = f })) (sym same)

pub all_taken : (rep : Rep) (log : List ConvEntry) (i : ℕ) (standing : Standing) → i ≡ length log → IsTaken rep log i standing → (conv_failure is_held rep log ≡ None) × StandsAfter rep log standing
all_taken rep log i standing over h =
    let whole : take i log ≡ log = take_all i log (omega (arith, over)) in (
      h.rest ∙ ap (λ (es : List ConvEntry). first_failing is_held rep (take i log) es) (ended i log over),
      subst (λ (es : List ConvEntry). StandsAfter rep es standing) whole h.stands,
    )
  where
    ended : (k : ℕ) (xs : List ConvEntry) → k ≡ length xs → drop k xs ≡ []
    ended k [] e = none k
      where
        none : (j : ℕ) → drop j (let nil : List ConvEntry = [] in nil) ≡ []
        none zero = refl
        none (suc j) = refl
    ended zero (x ∷ xs) e = absurd (omega (arith, e))
    ended (suc k) (x ∷ xs) e = ended k xs (omega (arith, e))
