-- What a trail is after a cut or a pre-image.
use Rattle.std.proofs.Common.{eq-eqb, ◌≡◌, ◌≢◌, ℕ, List, [], ◌∷◌, ◌++◌, map, length, All, refl, sym, ap, ap₂, ◌∙◌, subst, arith, Bool, true, false, ◌==◌, true≢false, IsTrue, inl, inr, not, Option, Some, None}
use Rattle.std.specs.List.{cons_option}
use Rattle.std.proofs.lemmas.Bool.Decides.{eqb_tells}
use Rattle.std.proofs.lemmas.List.Elements.{All-nil, All-cons}
use Rattle.std.proofs.lemmas.List.{map-append}
use Rattle.exact_field.specs.Rational.{ℚ}
use Rattle.polyhedra.specs.Exactness.{homogenised}
use Rattle.polyhedra.specs.Inequality.{Inequality}
use Rattle.polyhedra.specs.LiveList.{Numbered}
use Rattle.polyhedra.proofs.Homogenised.{homogenised-same}
use Rattle.polyhedra.proofs.Tests.{both_hold}
use Rattle.frac128.specs.Held.{is_held}
use Rattle.frac128.specs.declared.vectors.Spot.{Spot}
use Rattle.upper_image.specs.Shows.{ShowsAbove, ShowsCut, ShowsFitting}
use Rattle.upper_image.specs.Spots.{dense, IsVector}
use Rattle.deriv_log.specs.Formed.{is_formed, is_end}
use Rattle.word_lines.specs.Parts.{is_formed_part, is_short}
use Rattle.word_lines.specs.Parts.{sparse, vector}
use Rattle.deriv_log.specs.declared.entry.Entry.{Entry}
use Rattle.deriv_log.specs.declared.entry.Entry.TheVariants.{Version, Duality, Cut, Point, Ray}
use Rattle.log_rules.specs.Live.{State, state, after, inequality, y_of, line_in, preimage_in, preimages}
use Rattle.log_rules.specs.Meets.{IsOpen}
use Rattle.log_rules.specs.Order.{has, in_order}
use Rattle.log_rules.specs.Order as order
use Rattle.log_rules.proofs.Entries.{state-push}
use Rattle.log_rules.proofs.NormedMembers.{front-homogenised, last-homogenised}
use Rattle.overflows.specs.Base.{last_of}
use Rattle.overflows.specs.Trails.{IsBaseDuality, IsBasePoint, IsBaseDirection, IsLiveAt}
use Rattle.overflows.specs.Licence.{opening as first_two}
use Rattle.overflows.proofs.Growing.{trail_laws, cut_in_order}
use Rattle.lp_form.specs.Sparse.{IsSparseOf}
use Rattle.lp_form.specs.declared.shown.Cut.{Cut as CutOf}
use Rattle.lp_form.specs.declared.shown.Preimage.{Preimage}
use Rattle.outer_approx.specs.Cuts.{IsCutFor, SaysCut, said_by}
use Rattle.outer_approx.specs.Preimages.{IsReached}
use Rattle.outer_approx.specs.Standing.{IsOpenTrail, IsBegun, HasCutMore, HasPreimageMore}
use Rattle.outer_approx.specs.Task.{Task}
use Rattle.outer_approx.proofs.Growing.{has_same, lines_stay, preimages_more, preimages_stay, grows, live_parts}

-- ---- entries that can be written
pub cut_written : (w : List ℚ) (gamma : ℚ) (u v : List Spot) → is_formed_part (vector w) ≡ true → is_held gamma ≡ true →
    is_formed_part (sparse u) ≡ true → is_formed_part (sparse v) ≡ true → IsTrue (is_formed (Cut w gamma u v))
cut_written w gamma u v h k l m =
    both_hold (is_formed_part (vector w)) _ h
    (both_hold (is_held gamma) _ k (both_hold (is_formed_part (sparse u)) _ l (both_hold (is_formed_part (sparse v)) true m refl)))

pub preimage_written : (g : ℕ) (x m : List Spot) → is_short g ≡ true → is_formed_part (sparse x) ≡ true → is_formed_part (sparse m) ≡ true →
    IsTrue (is_formed (Point g x m)) × IsTrue (is_formed (Ray g x m))
preimage_written g x m h k l =
    let all = both_hold (is_short g) _ h (both_hold (is_formed_part (sparse x)) _ k (both_hold (is_formed_part (sparse m)) true l refl)) in
    (all, all)

-- ---- sparse vectors
pub sparse_of : {F : Type 0} (value : F → ℚ) (list slice : List F) (spots : List Spot) → slice ≡ list → IsVector (length slice) spots →
    dense (length slice) spots ≡ map value slice → IsSparseOf value list spots
sparse_of {F} value list slice spots same places numbers =
    subst (λ (xs : List F). IsSparseOf value xs spots) same (record { vector = places; same = numbers })

pub says_cut : {F : Type 0} (value : F → ℚ) (cut : CutOf F) (w : List ℚ) (gamma : ℚ) (u v : List Spot) → w ≡ map value cut.w → gamma ≡ value cut.gamma →
    IsSparseOf value cut.u u → IsSparseOf value cut.v v → IsTrue (is_formed (Cut w gamma u v)) → SaysCut value cut (Cut w gamma u v)
says_cut value cut w gamma u v w_is gamma_is u_is v_is written =
    record { u = u; v = v; is = ap₂ (λ (x : List ℚ) (y : ℚ). Cut x y u v) w_is gamma_is; u_is = u_is; v_is = v_is; written = written }

-- ---- a cut
module _ {F : Type 0} (value : F → ℚ) (task : Task) (cut : CutOf F) (trail : List Entry) (e : Entry) (o : IsOpenTrail task trail)
    (says : SaysCut value cut e) where
  abbrev said : Entry
  said = Cut (map value cut.w) (value cut.gamma) says.u says.v

  pub cut_open : IsCutFor value task cut → IsOpenTrail task (trail ++ e ∷ [])
  cut_open h = subst (λ (d : Entry). IsOpenTrail task (trail ++ d ∷ [])) (sym says.is)
      (grows task trail said o
      (record {
        order = cut_in_order trail o.duality;
        rules = subst (λ (d : List ℚ). ShowsCut task.file d (map value cut.w) (value cut.gamma) says.u says.v)
            (sym (trail_laws.duality task.file task.c task.weights trail o.base o.duality)) (h.shown says.u says.v says.u_is says.v_is);
      })
      (h.base says.u says.v says.u_is says.v_is) (subst (λ (d : Entry). IsTrue (is_formed d)) says.is says.written) refl refl)

  stands : state task.file.objs (trail ++ said ∷ []) ≡ after task.file.objs (state task.file.objs trail) said
  stands = state-push task.file.objs trail said

  pub cut_more : HasCutMore task (said_by value cut) trail (trail ++ e ∷ [])
  cut_more = subst (λ (d : Entry). HasCutMore task (said_by value cut) trail (trail ++ d ∷ [])) (sym says.is) (record {
    cuts = ap (λ (s : State). map inequality s.cuts) stands
        ∙ map-append inequality (state task.file.objs trail).cuts (record { w = map value cut.w; gamma = value cut.gamma; u = says.u } ∷ []);
    used = ap (λ (s : State). s.used) stands;
    list = ap (λ (s : State). s.list) stands;
    started = has_same order.start trail said refl;
    lines_stay = lines_stay trail said refl;
    preimages_stay = λ k. preimages_stay trail said k refl;
  })

-- ---- a pre-image
point_in_order : (trail : List Entry) → IsTrue (has order.duality trail) → IsTrue (has order.start trail) →
    IsTrue (in_order trail order.point) × IsTrue (in_order trail order.ray)
point_in_order [] h k = absurd (true≢false (sym h))
point_in_order (t ∷ trail) h k =
    let all = both_hold _ _ (both_hold _ _ (both_hold _ _ (both_hold _ _ refl h) k) refl) refl in
    (all, all)

-- a pre-image of this number, and of no other
given_here : (k : ℕ) (x : List Spot) → cons_option (elim (k == k) as (λ _. Option (List Spot)) [ true ↦ Some x | false ↦ None ]) [] ≢ []
given_here k x e =
    let one : 1 ≡ 0 = ap (λ (xs : List (List Spot)). length xs)
    (ap (λ (b : Bool). cons_option (elim b as (λ _. Option (List Spot)) [ true ↦ Some x | false ↦ None ]) []) (sym (eq-eqb k k refl)) ∙ e) in
    omega (arith, one)

given_elsewhere : (g k : ℕ) (x : List Spot) → k ≢ g → (elim (g == k) as (λ _. Option (List Spot)) [ true ↦ Some x | false ↦ None ]) ≡ None
given_elsewhere g k x other =
    elim (eqb_tells g k) [
      | inl t ↦ absurd (other (sym t.1))
      | inr t ↦ ap (λ (b : Bool). elim b as (λ _. Option (List Spot)) [ true ↦ Some x | false ↦ None ]) t.0
    ]

module _ {F : Type 0} (value : F → ℚ) (task : Task) (trail : List Entry) (g : ℕ) (parts : Preimage F) (o : IsOpenTrail task trail)
    (started : IsTrue (has order.start trail)) (x m : List Spot) (x_is : IsSparseOf value parts.x x) (m_is : IsSparseOf value parts.m m)
    (short : is_short g ≡ true) (x_written : is_formed_part (sparse x) ≡ true) (m_written : is_formed_part (sparse m) ≡ true) where
  abbrev q : ℕ
  q = task.file.objs

  abbrev generator : (t : Bool) → IsReached value task trail g t parts → Numbered
  generator t r = record { number = g; vector = homogenised r.v (last_of t) }

  wide : (t : Bool) (r : IsReached value task trail g t parts) → length r.v ≡ q
  wide t r =
      let p = live_parts task trail o started (generator t r) r.live in
      ap (λ (v : List ℚ). length v) (homogenised-same r.v p.0 (last_of t) (last_of p.1) p.2).0 ∙ p.3

  front : (t : Bool) (r : IsReached value task trail g t parts) → y_of q (generator t r) ≡ r.v
  front t r = front-homogenised q r.v (last_of t) (wide t r)

  is_open : (t : Bool) (r : IsReached value task trail g t parts) → IsOpen q trail (state q trail) g (last_of t) (generator t r)
  is_open t r = record { is_live = r.live; number = refl; level = last-homogenised q r.v (last_of t) (wide t r); fresh = r.fresh }

  above : (t : Bool) (r : IsReached value task trail g t parts) → ShowsAbove task.file (y_of q (generator t r)) x m
  above t r = subst (λ (y : List ℚ). ShowsAbove task.file y x m) (sym (front t r)) (r.parts_are.above x m x_is m_is)

  live_at : (t : Bool) (r : IsReached value task trail g t parts) → IsLiveAt q trail g r.v
  live_at t r = (generator t r, r.live, refl, sym (front t r))

  pub point_open : IsReached value task trail g true parts → IsOpenTrail task (trail ++ Point g x m ∷ [])
  point_open r =
      grows task trail (Point g x m) o
      (record {
        order = (point_in_order trail o.duality started).0;
        rules = record { point = generator true r; index = is_open true r; feasible = r.parts_are.chosen x x_is; above = above true r };
      })
      (r.v, live_at true r, IsBasePoint.read (r.parts_are.read x m x_is m_is)) (preimage_written g x m short x_written m_written).0 refl refl

  pub ray_open : IsReached value task trail g false parts → IsOpenTrail task (trail ++ Ray g x m ∷ [])
  ray_open r =
      grows task trail (Ray g x m) o
      (record {
        order = (point_in_order trail o.duality started).1;
        rules = record { direction = generator false r; index = is_open false r; recedes = r.parts_are.chosen x x_is; above = above false r };
      })
      (r.v, live_at false r, IsBaseDirection.read (r.parts_are.read x m x_is m_is)) (preimage_written g x m short x_written m_written).1 refl refl

module _ (task : Task) (trail : List Entry) (g : ℕ) (x m : List Spot) where
  -- an entry that gives the number g a pre-image
  more_by : (e : Entry) → after task.file.objs (state task.file.objs trail) e ≡ state task.file.objs trail →
      has order.start (trail ++ e ∷ []) ≡ has order.start trail → line_in e ≡ None → preimages (e ∷ []) g ≢ [] → ((k : ℕ) → k ≢ g → preimage_in k e ≡ None) →
      preimages trail g ≡ [] → HasPreimageMore task g trail (trail ++ e ∷ [])
  more_by e same started no_line here elsewhere fresh = record {
    stands = state-push task.file.objs trail e ∙ same;
    started = started;
    lines_stay = lines_stay trail e no_line;
    here = λ none. here (ap (λ (xs : List (List Spot)). xs ++ preimages (e ∷ []) g) (sym fresh) ∙ sym (preimages_more trail (e ∷ []) g) ∙ none);
    others = λ k other. preimages_stay trail e k (elsewhere k other);
  }

  pub point_more : preimages trail g ≡ [] → HasPreimageMore task g trail (trail ++ Point g x m ∷ [])
  point_more fresh =
      more_by (Point g x m) refl (has_same order.start trail (Point g x m) refl) refl (given_here g x) (λ k other. given_elsewhere g k x other) fresh

  pub ray_more : preimages trail g ≡ [] → HasPreimageMore task g trail (trail ++ Ray g x m ∷ [])
  ray_more fresh =
      more_by (Ray g x m) refl (has_same order.start trail (Ray g x m) refl) refl (given_here g x) (λ k other. given_elsewhere g k x other) fresh

-- ---- the opening
-- the entry is no end
abbrev going : Entry → Type 0
going e = IsTrue (not (is_end e))

pub opened_open : (task : Task) (opening : Entry) (picks : List ℕ) (inverse : List ℚ) → opening ≡ Duality task.c task.weights picks inverse →
    ShowsFitting task.file task.c task.weights picks inverse → IsBaseDuality task.file task.file.cone task.file.duality task.c task.weights →
    (trail : List Entry) → trail ≡ Version 1 ∷ opening ∷ [] → All (λ (e : Entry). IsTrue (is_formed e)) trail → IsBegun task [] [] trail
opened_open task opening picks inverse is fits base trail same written =
    let whole : trail ≡ first_two task.c task.weights picks inverse = same ∙ ap (λ (e : Entry). Version 1 ∷ e ∷ []) is in
    subst (λ (es : List Entry). IsBegun task [] [] es) (sym whole) (record {
      open_trail = record {
        base = trail_laws.opened task.file task.c task.weights picks inverse fits base;
        written = subst (λ (es : List Entry). All (λ (e : Entry). IsTrue (is_formed e)) es) whole written;
        duality = refl;
        unnamed = refl;
        unended = All-cons going (Version 1) (Duality task.c task.weights picks inverse ∷ []) refl
            (All-cons going (Duality task.c task.weights picks inverse) [] refl (All-nil going));
      };
      unstarted = refl;
      cuts_are = refl;
      lines_are = refl;
    })

-- nothing of a fresh log has a pre-image
pub opened_unreached : (trail : List Entry) (opening : Entry) (c weights : List ℚ) (picks : List ℕ) (inverse : List ℚ) →
    trail ≡ Version 1 ∷ opening ∷ [] → opening ≡ Duality c weights picks inverse → (k : ℕ) → preimages trail k ≡ []
opened_unreached trail opening c weights picks inverse same is k =
    ap (λ (es : List Entry). preimages es k) (same ∙ ap (λ (e : Entry). Version 1 ∷ e ∷ []) is)

-- ---- one more cut of a log that has none in use
pub begun_more : (task : Task) (ls : List (List ℚ)) (cuts : List Inequality) (cut : Inequality) (old new : List Entry) → IsBegun task ls cuts old →
    IsOpenTrail task new → HasCutMore task cut old new → IsBegun task ls (cuts ++ cut ∷ []) new
begun_more task ls cuts cut old new h o more = record {
  open_trail = o;
  unstarted = more.started ∙ h.unstarted;
  cuts_are = more.cuts ∙ ap (λ (es : List Inequality). es ++ cut ∷ []) h.cuts_are;
  lines_are = more.lines_stay ∙ h.lines_are;
}

-- the cuts are those of a list, none in use, there is no line, and nothing has a pre-image
pub record IsFilled {F : Type 0} (value : F → ℚ) (task : Task) (cuts : List (CutOf F)) (trail : List Entry) : Type 0 where
  pub begun : IsBegun task [] (map (said_by value) cuts) trail
  pub unreached : (k : ℕ) → preimages trail k ≡ []

pub filled_more : {F : Type 0} (value : F → ℚ) (task : Task) (cuts longer : List (CutOf F)) (cut : CutOf F) (old new : List Entry) →
    longer ≡ cuts ++ cut ∷ [] → IsFilled value task cuts old → IsOpenTrail task new → HasCutMore task (said_by value cut) old new →
    IsFilled value task longer new
filled_more {F} value task cuts longer cut old new same h o more =
    subst (λ (all : List (CutOf F)). IsFilled value task all new) (sym same) (record {
      begun = subst (λ (es : List Inequality). IsBegun task [] es new) (sym (map-append (said_by value) cuts (cut ∷ [])))
          (begun_more task [] (map (said_by value) cuts) (said_by value cut) old new h.begun o more);
      unreached = λ k. more.preimages_stay k ∙ h.unreached k;
    })
