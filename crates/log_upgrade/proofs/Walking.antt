-- The walk along a whole log.
use Rattle.std.proofs.Common.{◌≡◌, ℕ, ◌+◌, ◌<◌, ◌≤◌, List, [], ◌∷◌, ◌++◌, refl, sym, ap, ap₂, ◌∙◌, subst, length, append-nil, append_assoc, take, drop, drop-cons, get_or, add-one, Result, Ok, Err}
use Rattle.std.specs.Prelude.{OnOk}
use Rattle.std.specs.List.{list_all}
use Rattle.std.proofs.lemmas.Bool.{and_from}
use Rattle.std.proofs.lemmas.List.{take_more, take-append-drop, drop_all}
use Rattle.std.proofs.lemmas.Grind.{flat_map-append}
use Rattle.std.proofs.lemmas.List.Folds.{list_all-append}
use Rattle.src_sink.specs.Texts.{line_text}
use Rattle.vlp_problem.specs.declared.problem.Problem.{Problem}
use Rattle.deriv_log.specs.Formed.{is_formed}
use Rattle.deriv_log.specs.LogText.{entry_words, log_text}
use Rattle.deriv_log.specs.declared.entry.Entry.{Entry}
use Rattle.log_versions.specs.Upgrade.{more_shared, upgraded_after}
use Rattle.log_upgrade.specs.Walk.{in_place, IsFirst, IsNext, StandsAt, IsUpgraded, IsWritten, IsWhole}
use Rattle.log_upgrade.specs.declared.walk.Upgraded.{Upgraded}
use Rattle.log_upgrade.specs.declared.walk.Upgrader.{Upgrader}

pub on_ok : {T E A B : Type 0} (r : Result T E) → (A → B) → OnOk r A → OnOk r B
on_ok (Ok x) f h = f h
on_ok (Err e) f h = tt

rest_is : (all : List Entry) (i : ℕ) (e : Entry) → i < length all → e ≡ get_or all i e → drop i all ≡ e ∷ drop (i + 1) all
rest_is all i e h k = drop-cons all i e h ∙ ap₂ (λ (x : Entry) (xs : List Entry). x ∷ xs) (sym k) (ap (λ (j : ℕ). drop j all) (sym (add-one i)))

pub front_is : (all : List Entry) (i : ℕ) (e : Entry) → i < length all → e ≡ get_or all i e → take (i + 1) all ≡ take i all ++ e ∷ []
front_is all i e h k = take_more all i e h ∙ ap (λ (x : Entry). take i all ++ x ∷ []) (sym k)

pub log_text-append : (xs ys : List Entry) → log_text (xs ++ ys) ≡ log_text xs ++ log_text ys
log_text-append xs ys = flat_map-append (λ (e : Entry). line_text (entry_words e)) xs ys

-- ---- before the first entry
pub written_first : (file : Problem) (all : List Entry) (u : Upgrader) → StandsAt file all [] [] u → IsWritten file all 0 [] u
written_first file all u s = record {
  vectors = [];
  stands = s;
  rest = refl;
  formed = refl;
}

-- ---- at an entry
pub next_is : (file : Problem) (all : List Entry) (i : ℕ) (written : List Entry) (u : Upgrader) (e : Entry) → IsFirst file all → i < length all →
    e ≡ get_or all i e → (w : IsWritten file all i written u) → IsNext file all (take i all) w.vectors e (drop (i + 1) all) u.checker u.repeats
next_is file all i written u e f h k w = record {
  log = f;
  is = sym (ap (λ (xs : List Entry). take i all ++ xs) (sym (rest_is all i e h k)) ∙ take-append-drop i all);
  checked = w.stands.checked;
  standings = w.stands.standings;
  few = w.stands.few;
}

pub written_next : (file : Problem) (all : List Entry) (i : ℕ) (written : List Entry) (u v : Upgrader) (e : Entry) (x : Upgraded) → i < length all →
    e ≡ get_or all i e → (w : IsWritten file all i written u) → IsUpgraded file.objs all (take i all) w.vectors e x →
    StandsAt file all (take i all ++ e ∷ []) (more_shared all w.vectors e) v → IsWritten file all (i + 1) (written ++ in_place e x) v
written_next file all i written u v e x h k w p s =
    let q = file.objs in
    let front = sym (front_is all i e h k) in
    let after : List Entry = upgraded_after q all (take i all ++ e ∷ []) (more_shared all w.vectors e) (drop (i + 1) all) in
    record {
      vectors = more_shared all w.vectors e;
      stands = subst (λ (es : List Entry). StandsAt file all es (more_shared all w.vectors e) v) front s;
      rest = ap (λ (es : List Entry). (written ++ in_place e x) ++ upgraded_after q all es (more_shared all w.vectors e) (drop (i + 1) all)) (sym front)
          ∙ append_assoc written (in_place e x) after
          ∙ ap (λ (es : List Entry). written ++ (es ++ after)) p.is
          ∙ ap (λ (es : List Entry). written ++ upgraded_after q all (take i all) w.vectors es) (sym (rest_is all i e h k))
          ∙ w.rest;
      formed = list_all-append is_formed written (in_place e x) ∙ and_from (list_all is_formed written) (list_all is_formed (in_place e x)) w.formed p.formed;
    }

-- ---- after the last entry
pub written_last : (file : Problem) (all : List Entry) (i : ℕ) (written : List Entry) (u : Upgrader) → length all ≤ i → IsWritten file all i written u →
    IsWhole file.objs all written
written_last file all i written u h w = record {
  is = sym (append-nil written)
      ∙ ap (λ (es : List Entry). written ++ upgraded_after file.objs all (take i all) w.vectors es) (sym (drop_all i all h)) ∙ w.rest;
  formed = w.formed;
}
