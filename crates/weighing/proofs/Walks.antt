-- A walk over items: what is passed, and where it ends.
use Rattle.std.proofs.Common.{◌≡◌, ◌⊎◌, inl, inr, ℕ, suc, ◌+◌, ◌<◌, ◌≤◌, List, [], ◌∷◌, ◌++◌, map, length, All, Bool, true, false, get_or, take, drop, refl, sym, ap, ap₂, ◌∙◌, subst, arith, add-one, append_assoc, Option, None, Some, Result, Ok, Err}
use Rattle.std.specs.Prelude.{IfErr, IfOk}
use Rattle.std.proofs.Math.Seq.{take-suc, split_at}
use Rattle.std.proofs.lemmas.List.{length-map, length-take-le, length-append, map-append, take_all}
use Rattle.std.proofs.lemmas.List.Elements.{All-append, All-map, All-cons, All-nil, All-weaker}
use Rattle.exact_field.specs.Rational.{ℚ, zero_ℚ, neg_ℚ, lt_ℚ, ◌≤ℚ◌, ◌<ℚ◌}
use Rattle.exact_field.specs.Vector.{dot}
use Rattle.polyhedra.specs.Negatives.{negated}
use Rattle.polyhedra.proofs.Algebra.{neg_neg}
use Rattle.polyhedra.proofs.Negatives.{dot-negated}
use Rattle.polyhedra.proofs.Order.{le_or_lt, negative_of_neg, zero_or_positive}
use Rattle.vlp_problem.specs.declared.problem.Dir.{Dir}
use Rattle.vlp_problem.specs.declared.problem.Dir.TheVariants.{Min, Max}
use Rattle.vlp_problem.specs.declared.problem.Problem.{Problem}
use Rattle.upper_image.specs.UpperImage.{signed}
use Rattle.log_rules.specs.declared.answer.Answer.{Answer}
use Rattle.log_rules.specs.declared.answer.Gen.{Gen}
use Rattle.weighing.specs.Stages.{Item, line, point, vector_of, IsTaken, IsPassed, IsReached, IsWay, EndsDown, EndsLeft, direction_items, point_items, items_of}
use Rattle.weighing.specs.Walk.{IsProductLeft, way_of, StopsWalk, IsFoundFrom, WeighsTo, WeighStops, cone_items}
use Rattle.weighing.specs.declared.weighed.Weighed.{Weighed}
use Rattle.weighing.specs.declared.weighed.Weighed.TheVariants.{Unbounded, Least}
use Rattle.weighing.specs.declared.weighed.WeighEnd.{WeighEnd}
use Rattle.weighing.specs.declared.weighed.WeighEnd.TheVariants.{Left as Stuck, NoMemory}
use Rattle.weighing.proofs.Lowest.{signed_zero}

-- ---- one item more
module _ {X : Type 0} (P : X → Type 0) where
  pub all_more : (xs : List X) (i : ℕ) (x : X) → i < length xs → x ≡ get_or xs i x → All P (take i xs) → P x → All P (take (i + 1) xs)
  all_more xs i x h e a p =
      subst (λ (ys : List X). All P ys) (sym (ap (λ k. take k xs) (add-one i) ∙ take-suc xs i x h ∙ ap (λ y. take i xs ++ y ∷ []) (sym e)))
      (All-append P (take i xs) (x ∷ []) a (All-cons P x [] p (All-nil P)))

  pub all_done : (xs : List X) (i : ℕ) → length xs ≤ i → All P (take i xs) → All P xs
  all_done xs i h a = subst (λ (ys : List X). All P ys) (take_all i xs h) a

-- ---- where it is
module _ (dir : Dir) (w : List ℚ) where
  pub reached_at : {X : Type 0} (item : X → Item) (xs : List X) (i : ℕ) (x : X) → i < length xs → x ≡ get_or xs i x →
      All (λ y. IsPassed dir w (item y)) (take i xs) → IsReached dir w (map item xs) (i + 1) (item x)
  reached_at {X} item xs i x h e a = record {
    before = map item (take i xs);
    after = map item (drop (suc i) xs);
    split = ap (map item) (split_at xs i x h ∙ ap (λ y. take i xs ++ y ∷ drop (suc i) xs) (sym e))
        ∙ map-append item (take i xs) (x ∷ drop (suc i) xs);
    number = add-one i ∙ ap suc (sym (length-map (take i xs) item ∙ length-take-le i xs (omega arith)));
    passed = All-map (IsPassed dir w) item (take i xs) a;
  }

  -- with more items after these, and with others before them that are passed
  reached_more : (items more : List Item) (k : ℕ) (item : Item) → IsReached dir w items k item → IsReached dir w (items ++ more) k item
  reached_more items more k item h = record {
    before = h.before;
    after = h.after ++ more;
    split = ap (λ is. is ++ more) h.split ∙ append_assoc h.before (item ∷ h.after) more;
    number = h.number;
    passed = h.passed;
  }

  reached_after : (front items : List Item) (k : ℕ) (item : Item) → All (IsPassed dir w) front → IsReached dir w items k item →
      IsReached dir w (front ++ items) (length front + k) item
  reached_after front items k item a h =
      let many : length (front ++ h.before) ≡ length front + length h.before = length-append front h.before in
      let number : length front + k ≡ suc (length (front ++ h.before)) = (let n = h.number in omega (arith, many, n)) in
      record {
        before = front ++ h.before;
        after = h.after;
        split = ap (λ is. front ++ is) h.split ∙ sym (append_assoc front h.before (item ∷ h.after));
        number = number;
        passed = All-append (IsPassed dir w) front h.before a h.passed;
      }

  pub down_more : (items more : List Item) (d : List ℚ) → EndsDown dir w items d → EndsDown dir w (items ++ more) d
  down_more items more d h = record {
    number = h.number;
    item = h.item;
    reached = reached_more items more h.number h.item h.reached;
    taken = h.taken;
    way = h.way;
    down = h.down;
  }

  pub down_after : (front items : List Item) (d : List ℚ) → All (IsPassed dir w) front → EndsDown dir w items d → EndsDown dir w (front ++ items) d
  down_after front items d a h = record {
    number = length front + h.number;
    item = h.item;
    reached = reached_after front items h.number h.item a h.reached;
    taken = h.taken;
    way = h.way;
    down = h.down;
  }

  pub stops_more : (items more : List Item) (earlier : ℕ) (e : WeighEnd) → StopsWalk dir w items earlier e → StopsWalk dir w (items ++ more) earlier e
  stops_more items more earlier (Stuck k left) h =
      (h.0, h.1, record { item = h.2.item; reached = reached_more items more h.0 h.2.item h.2.reached; stuck = h.2.stuck })
  stops_more items more earlier NoMemory h = tt

  pub stops_after : (front items : List Item) (earlier first : ℕ) (e : WeighEnd) → All (IsPassed dir w) front → earlier ≡ first + length front →
      StopsWalk dir w items earlier e → StopsWalk dir w (front ++ items) first e
  stops_after front items earlier first (Stuck k left) a n h =
      let number : k ≡ first + (length front + h.0) = (let m = h.1 in omega (arith, m, n)) in
      (length front + h.0, number, record { item = h.2.item; reached = reached_after front items h.0 h.2.item a h.2.reached; stuck = h.2.stuck })
  stops_after front items earlier first NoMemory a n h = tt

  -- a product that is given up ends the walk
  pub stuck_at : {X : Type 0} (item : X → Item) (xs : List X) (i earlier k : ℕ) (x : X) (e : WeighEnd) → i < length xs → x ≡ get_or xs i x →
      All (λ y. IsPassed dir w (item y)) (take i xs) → k ≡ earlier + (i + 1) → IsProductLeft w (vector_of (item x)) k e → StopsWalk dir w (map item xs) earlier e
  stuck_at item xs i earlier k x (Stuck j left) h is a n p =
      (i + 1, p.0 ∙ n, record { item = item x; reached = reached_at item xs i x h is a; stuck = p.1 })
  stuck_at item xs i earlier k x NoMemory h is a n p = tt

-- ---- ways
signed_neg : (dir : Dir) (q : ℚ) → signed dir (neg_ℚ q) ≡ neg_ℚ (signed dir q)
signed_neg Min q = refl
signed_neg Max q = refl

signed_twice : (dir : Dir) (q : ℚ) → signed dir (signed dir q) ≡ q
signed_twice Min q = refl
signed_twice Max q = neg_neg q

pub way_goes_down : (dir : Dir) (w d : List ℚ) (value : ℚ) → value ≡ dot w d → (value ≡ zero_ℚ → ⊥) →
    IsWay (line d) (way_of dir value d) × (signed dir (dot w (way_of dir value d)) <ℚ zero_ℚ)
way_goes_down dir w d value is other = go (lt_ℚ (signed dir value) zero_ℚ) refl
  where
    not_zero : signed dir value ≡ zero_ℚ → ⊥
    not_zero e = other (sym (signed_twice dir value) ∙ ap (signed dir) e ∙ signed_zero dir)

    above : (lt_ℚ (signed dir value) zero_ℚ ≡ false) → zero_ℚ <ℚ signed dir value
    above f = by (le_or_lt zero_ℚ (signed dir value))
      where
        by : (zero_ℚ ≤ℚ signed dir value) ⊎ (signed dir value <ℚ zero_ℚ) → zero_ℚ <ℚ signed dir value
        by (inl h) = more (zero_or_positive (signed dir value) h)
          where
            more : (signed dir value ≡ zero_ℚ) ⊎ (zero_ℚ <ℚ signed dir value) → zero_ℚ <ℚ signed dir value
            more (inl e) = absurd (not_zero e)
            more (inr p) = p
        by (inr h) = absurd (Rattle.std.proofs.Common.true≢false (sym h ∙ f))

    go : (b : Bool) → lt_ℚ (signed dir value) zero_ℚ ≡ b →
        IsWay (line d) (Rattle.std.proofs.Common.cond b d (negated d)) × (signed dir (dot w (Rattle.std.proofs.Common.cond b d (negated d))) <ℚ zero_ℚ)
    go true t = (inl refl, subst (λ (q : ℚ). signed dir q <ℚ zero_ℚ) is t)
    go false f = (
      inr refl,
      subst (λ (q : ℚ). q <ℚ zero_ℚ) (sym (ap (signed dir) (dot-negated w d) ∙ signed_neg dir (dot w d) ∙ ap (λ q. neg_ℚ (signed dir q)) (sym is)))
          (negative_of_neg (neg_ℚ (signed dir value)) (subst (λ (q : ℚ). zero_ℚ <ℚ q) (sym (neg_neg (signed dir value))) (above f))),
    )

-- ---- what is told of more items
pub ok_map : {T E : Type 0} (r : Result T E) (P Q : T → Type 0) → IfOk r P → ((x : T) → P x → Q x) → IfOk r Q
ok_map (Ok x) P Q h f = f x h
ok_map (Err e) P Q h f = tt

pub err_map : {T E : Type 0} (r : Result T E) (P Q : E → Type 0) → IfErr r P → ((e : E) → P e → Q e) → IfErr r Q
err_map (Ok x) P Q h f = tt
err_map (Err e) P Q h f = f e h

pub found_after : (dir : Dir) (w : List ℚ) (directions points : List Gen) (x : Weighed) → All (IsPassed dir w) (direction_items directions) →
    IsFoundFrom dir w points x → WeighsTo dir w (cone_items directions points) points x
found_after dir w directions points (Least value listed) d h = record {
  passed = All-append (IsPassed dir w) (direction_items directions) (point_items points) d h.passed;
  least = h.least;
  have = h.have;
  some = h.some;
}
found_after dir w directions points x d h = absurd h

pub weighs_after : (dir : Dir) (w : List ℚ) (front items : List Item) (points : List Gen) (x : Weighed) → All (IsPassed dir w) front →
    WeighsTo dir w items points x → WeighsTo dir w (front ++ items) points x
weighs_after dir w front items points (Unbounded d) a h = down_after dir w front items d a h
weighs_after dir w front items points (Least value listed) a h = record {
  passed = All-append (IsPassed dir w) front items a h.passed;
  least = h.least;
  have = h.have;
  some = h.some;
}
weighs_after dir w front items points x a h = absurd h

pub weigh_stops : (file : Problem) (answer : Answer) (w : List ℚ) (e : WeighEnd) → StopsWalk file.dir w (items_of answer) 0 e → WeighStops file answer w e
weigh_stops file answer w (Stuck k left) h = subst (λ (n : ℕ). EndsLeft file.dir w (items_of answer) n left) (sym (let m = h.1 in let z : k ≡ h.0 = omega (arith, m) in z)) h.2
weigh_stops file answer w NoMemory h = tt

-- ---- points
pub points_passed : (dir : Dir) (w : List ℚ) (points : List Gen) → All (λ (g : Gen). IsTaken w g.y) points → All (λ (g : Gen). IsPassed dir w (point g.y)) points
points_passed dir w points h = All-weaker (λ (g : Gen). IsTaken w g.y) (λ (g : Gen). IsPassed dir w (point g.y)) (λ g t. record { taken = t; on = tt }) points h

pub map_more : {X Y : Type 0} (f : X → Y) (xs : List X) (i : ℕ) (x : X) (old new : List Y) (y : Y) → i < length xs → x ≡ get_or xs i x →
    old ≡ map f (take i xs) → y ≡ f x → new ≡ old ++ y ∷ [] → new ≡ map f (take (i + 1) xs)
map_more f xs i x old new y h is o v n =
    n ∙ ap₂ (λ a b. a ++ b ∷ []) o v ∙ sym (map-append f (take i xs) (x ∷ []))
    ∙ ap (map f) (ap (λ z. take i xs ++ z ∷ []) is ∙ sym (take-suc xs i x h) ∙ ap (λ k. take k xs) (sym (add-one i)))
