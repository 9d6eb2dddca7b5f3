-- An open trail and an outer trail with one more entry, and the live generators after it.
use Rattle.std.proofs.Common.{◌≡◌, ℕ, suc, List, [], ◌∷◌, ◌++◌, map, length, All, Contains, refl, sym, ap, ap₂, ◌∙◌, subst, Bool, true, false, ◌||◌, ◌==◌, not, IsTrue, ◌⊎◌, inl, inr, Option, None, append-nil}
use Rattle.std.specs.List.{cons_option, range_with_len}
use Rattle.std.proofs.lemmas.List.Elements.{All-nil, All-cons, All-append, All-weaker, filter_map-append}
use Rattle.std.proofs.lemmas.List.Folds.{list_any-append}
use Rattle.exact_field.specs.Rational.{ℚ, zero_ℚ, ◌≤ℚ◌}
use Rattle.exact_field.specs.Vector.{dot}
use Rattle.polyhedra.specs.Cone.{IsInCone}
use Rattle.polyhedra.specs.Exactness.{homogenised}
use Rattle.polyhedra.specs.LiveList.{Numbered, LiveList, vectors}
use Rattle.polyhedra.proofs.Lists.{HasWidth, all_from_map}
use Rattle.polyhedra.proofs.Members.{member_of, Contains-map, Contains-map_source}
use Rattle.lineality.specs.Steps.{IsClear, list_without, numbered_without}
use Rattle.lineality.specs.Without.{marks, open_count, with_zeros, without}
use Rattle.lineality.proofs.Marks.{length-marks}
use Rattle.lineality.proofs.StepsWithout.{IsGood, same_dot}
use Rattle.frac128.specs.declared.vectors.Spot.{Spot}
use Rattle.deriv_log.specs.Formed.{is_formed, is_end}
use Rattle.deriv_log.specs.declared.entry.Entry.{Entry}
use Rattle.double_descr.specs.State.{State as Description}
use Rattle.log_rules.specs.Laws.{Stands}
use Rattle.log_rules.specs.Live.{State, state, in_use, rows_in_use, live_vectors, y_of, line_in, lines, preimage_in, preimages}
use Rattle.log_rules.specs.Meets.{Meets}
use Rattle.log_rules.specs.Order.{Kind, kind, place, has}
use Rattle.log_rules.specs.Order as order
use Rattle.log_rules.proofs.Entries.{has_more}
use Rattle.log_rules.proofs.KeepsDescription.{rules_keep_description}
use Rattle.log_rules.proofs.NormedMembers.{IsPoint, IsNormedWay, one_of}
use Rattle.overflows.specs.Base.{IsLiveAfter, last_of}
use Rattle.overflows.specs.Trails.{IsBaseEntry}
use Rattle.overflows.proofs.Growing.{trail_laws}
use Rattle.outer_approx.specs.Lines.{line_places}
use Rattle.outer_approx.specs.Standing.{IsOpenTrail, IsOuter, HasPreimageMore, StandForSame, rows_of_trail}
use Rattle.outer_approx.specs.Task.{Task}

-- ---- one more entry
or_none : (b : Bool) → (b || false) ≡ b
or_none true = refl
or_none false = refl

-- an entry of another kind changes nothing
pub has_same : (k : Kind) (trail : List Entry) (e : Entry) → (place (kind e) == place k) ≡ false → has k (trail ++ e ∷ []) ≡ has k trail
has_same k trail e other =
    list_any-append (λ d. place (kind d) == place k) trail (e ∷ [])
    ∙ ap (λ (b : Bool). has k trail || (b || false)) other
    ∙ or_none (has k trail)

pub preimages_more : (trail more : List Entry) (k : ℕ) → preimages (trail ++ more) k ≡ preimages trail k ++ preimages more k
preimages_more trail more k = filter_map-append (preimage_in k) trail more

-- an entry that is no pre-image changes none
pub preimages_stay : (trail : List Entry) (e : Entry) (k : ℕ) → preimage_in k e ≡ None → preimages (trail ++ e ∷ []) k ≡ preimages trail k
preimages_stay trail e k none =
    preimages_more trail (e ∷ []) k
    ∙ ap (λ (o : Option (List Spot)). preimages trail k ++ cons_option o []) none
    ∙ append-nil (preimages trail k)

pub lines_more : (trail more : List Entry) → lines (trail ++ more) ≡ lines trail ++ lines more
lines_more trail more = filter_map-append line_in trail more

-- an entry that is no line adds none
pub lines_stay : (trail : List Entry) (e : Entry) → line_in e ≡ None → lines (trail ++ e ∷ []) ≡ lines trail
lines_stay trail e none =
    lines_more trail (e ∷ [])
    ∙ ap (λ (o : Option (List ℚ)). lines trail ++ cons_option o []) none
    ∙ append-nil (lines trail)

-- an open trail grows by an entry that can be written, meets its rules and is read off, and which is no facet and no end
pub grows : (task : Task) (trail : List Entry) (e : Entry) → IsOpenTrail task trail → Meets task.file trail e →
    IsBaseEntry task.file task.c task.weights trail e → IsTrue (is_formed e) → (place (kind e) == place order.facet) ≡ false →
    IsTrue (not (is_end e)) → IsOpenTrail task (trail ++ e ∷ [])
grows task trail e t meets base written no_facet no_end = record {
  base = trail_laws.grows task.file task.c task.weights trail e t.base meets base;
  written = All-append (λ (d : Entry). IsTrue (is_formed d)) trail (e ∷ []) t.written
      (All-cons (λ (d : Entry). IsTrue (is_formed d)) e [] written (All-nil (λ (d : Entry). IsTrue (is_formed d))));
  duality = has_more order.duality trail (e ∷ []) t.duality;
  unnamed = has_same order.facet trail e no_facet ∙ t.unnamed;
  unended = All-append (λ (d : Entry). IsTrue (not (is_end d))) trail (e ∷ []) t.unended
      (All-cons (λ (d : Entry). IsTrue (not (is_end d))) e [] no_end (All-nil (λ (d : Entry). IsTrue (not (is_end d)))));
}

-- ---- outer trails
-- another trail with the same lines, rows and live generators stands for the same
pub same_for : (task : Task) (old new : List Entry) (dd : Description) → lines new ≡ lines old → rows_of_trail task new ≡ rows_of_trail task old →
    (state task.file.objs new).list ≡ (state task.file.objs old).list → StandForSame task old dd → StandForSame task new dd
same_for task old new dd same rows list h =
    let q = task.file.objs in
    record {
      width = h.width ∙ ap (λ (ls : List (List ℚ)). suc (open_count (marks q ls))) (sym same);
      rows = h.rows ∙ ap₂ (λ (ls rs : List (List ℚ)). map (without (marks q ls)) rs) (sym same) (sym rows);
      list = h.list ∙ ap₂ (λ (ls : List (List ℚ)) (l : LiveList). list_without (marks q ls) l) (sym same) (sym list);
    }

-- a pre-image more leaves a trail beside its double description
pub outer_reached : (task : Task) (old new : List Entry) (dd : Description) (g : ℕ) → IsOuter task old dd → HasPreimageMore task g old new →
    IsOpenTrail task new → IsOuter task new dd
outer_reached task old new dd g h more open_trail = record {
  open_trail = open_trail;
  started = more.started ∙ h.started;
  all_used = subst (λ (s : State). s.used ≡ range_with_len 1 (length s.cuts)) (sym more.stands) h.all_used;
  same = same_for task old new dd more.lines_stay (ap (rows_in_use task.file.objs) more.stands) (ap (λ (s : State). s.list) more.stands) h.same;
}

-- what stands after a started open trail is described
pub open_stands : (task : Task) (trail : List Entry) → IsOpenTrail task trail → IsTrue (has order.start trail) →
    Stands task.file (lines trail) (state task.file.objs trail)
open_stands task trail t started = rules_keep_description task.file trail t.base.meet started

-- a live generator is as wide as there are objectives, and one more, and 0 at the places of the lines
pub live_good : (task : Task) (trail : List Entry) → IsOpenTrail task trail → IsTrue (has order.start trail) → (g : Numbered) →
    IsLiveAfter task.file.objs trail g → IsGood (line_places task trail) g.vector
live_good task trail o started g live =
    let q = task.file.objs in
    let s = state q trail in
    let stands = open_stands task trail o started in
    let listed : Contains (live_vectors s) g.vector = Contains-map (λ (x : Numbered). x.vector) s.list.live g live in
    record {
      wide = member_of (HasWidth (suc q)) (live_vectors s) g.vector stands.wide.wide listed ∙ ap suc (sym (length-marks q (lines trail)));
      clear = member_of (IsClear (line_places task trail)) (live_vectors s) g.vector stands.clear listed;
    }

-- a live generator is a point or a direction, as wide as there are objectives
pub live_parts : (task : Task) (trail : List Entry) → IsOpenTrail task trail → IsTrue (has order.start trail) → (g : Numbered) →
    IsLiveAfter task.file.objs trail g → (v : List ℚ) × (t : Bool) × (g.vector ≡ homogenised v (last_of t)) × (length v ≡ task.file.objs)
live_parts task trail o started g live =
    let stands = open_stands task trail o started in
    let s = state task.file.objs trail in
    go (one_of task.file.objs (line_places task trail) (length-marks task.file.objs (lines trail)) (in_use s) s.list stands.is_live stands.wide stands.clear g live)
  where
    go : IsPoint task.file.objs g ⊎ IsNormedWay task.file.objs g →
        (v : List ℚ) × (t : Bool) × (g.vector ≡ homogenised v (last_of t)) × (length v ≡ task.file.objs)
    go (inl p) = (y_of task.file.objs g, true, p.same, p.wide)
    go (inr d) = (y_of task.file.objs g, false, d.same, d.wide)

-- no row in use is negative at it
pub live_within : (task : Task) (trail : List Entry) → IsOpenTrail task trail → IsTrue (has order.start trail) → (g : Numbered) →
    IsLiveAfter task.file.objs trail g → All (λ (row : List ℚ). zero_ℚ ≤ℚ dot row g.vector) (rows_of_trail task trail)
live_within task trail o started g live =
    let q = task.file.objs in
    let s = state q trail in
    let bs = line_places task trail in
    let stands = open_stands task trail o started in
    let short : Contains (vectors (list_without bs s.list).live) (without bs g.vector) =
    Contains-map (λ (x : Numbered). x.vector) (map (numbered_without bs) s.list.live) (numbered_without bs g)
    (Contains-map (numbered_without bs) s.list.live g live) in
    All-weaker (λ (row : List ℚ). zero_ℚ ≤ℚ dot (without bs row) (without bs g.vector)) (λ (row : List ℚ). zero_ℚ ≤ℚ dot row g.vector)
    (λ row h. subst (λ (x : ℚ). zero_ℚ ≤ℚ x) (same_dot bs row g.vector (live_good task trail o started g live)) h) (rows_in_use q s)
    (all_from_map (λ (row : List ℚ). zero_ℚ ≤ℚ dot row (without bs g.vector)) (without bs) (rows_in_use q s)
    (member_of (IsInCone (suc (open_count bs)) (map (without bs) (rows_in_use q s))) (vectors (list_without bs s.list).live) (without bs g.vector)
    stands.is_live.described.inside short).within)

-- a live generator of a double description beside an outer trail, with zeros at the places of the lines, is a point or a direction,
-- which is live after the trail under its number, and at which no row in use is negative
pub live_generator : (task : Task) (trail : List Entry) (dd : Description) → IsOuter task trail dd → (g : Numbered) → Contains dd.list.live g →
    let full = with_zeros (line_places task trail) g.vector in
    (v : List ℚ) × (t : Bool) × (full ≡ homogenised v (last_of t)) × (length v ≡ task.file.objs)
    × IsLiveAfter task.file.objs trail (record { number = g.number; vector = full })
    × All (λ (row : List ℚ). zero_ℚ ≤ℚ dot row full) (rows_of_trail task trail)
live_generator task trail dd h g live =
    let bs = line_places task trail in
    let s = state task.file.objs trail in
    let found : (f : Numbered) × Contains s.list.live f × (numbered_without bs f ≡ g) =
    Contains-map_source (numbered_without bs) s.list.live g (subst (λ (l : LiveList). Contains l.live g) h.list live) in
    let f : Numbered = found.0 in
    let here : Contains s.list.live f = found.1 in
    let parts = live_parts task trail h.open_trail h.started f here in
    let filled : with_zeros bs g.vector ≡ f.vector =
    ap (λ (x : Numbered). with_zeros bs x.vector) (sym found.2) ∙ (live_good task trail h.open_trail h.started f here).clear in (
      parts.0,
      parts.1,
      filled ∙ parts.2,
      parts.3,
      subst (λ (x : Numbered). IsLiveAfter task.file.objs trail x)
          (ap₂ (λ (k : ℕ) (u : List ℚ). record { number = k; vector = u }) (ap (λ (x : Numbered). x.number) found.2) (sym filled)) here,
      subst (λ (u : List ℚ). All (λ (row : List ℚ). zero_ℚ ≤ℚ dot row u) (rows_of_trail task trail)) (sym filled)
          (live_within task trail h.open_trail h.started f here),
    )
