-- The new generators of an addition, one opposite pair at a time.
use Rattle.std.proofs.Common.{◌≡◌, ℕ, ◌+◌, ◌<◌, List, [], ◌∷◌, ◌++◌, map, length, filter, All, Contains, Bool, true, false, cond, refl, sym, ap, ap₂, ◌∙◌, subst, append_assoc, arith, get_or}
use Rattle.double_descr.proofs.NotZero.{meeting_not_zero}
use Rattle.polyhedra.specs.DoubleDescription.{norming}
use Rattle.std.proofs.lemmas.List.{get_or-map, map-append, length-map}
use Rattle.std.proofs.lemmas.List.Elements.{All-nil, All-cons, All-append}
use Rattle.exact_field.specs.Rational.{ℚ, zero_ℚ, le_ℚ, lt_ℚ, ◌<ℚ◌}
use Rattle.exact_field.specs.Vector.{dot}
use Rattle.incid_sets.specs.Marks.{IsMeet}
use Rattle.polyhedra.specs.DoubleDescription.{is_zero, normed, made, meeting}
use Rattle.polyhedra.specs.Generators.{IsTightAtBoth}
use Rattle.polyhedra.specs.LiveList.{staying, dropped, Numbered, LivePair, vectors, numbers, numbered, products, tight_set, without_numbers, is_uncovered_live}
use Rattle.polyhedra.proofs.Generators.{tight_at_meeting}
use Rattle.polyhedra.proofs.Order.{lt_irrefl, lt_trans}
use Rattle.polyhedra.proofs.Lists.{Contains-here, Contains-there}
use Rattle.polyhedra.proofs.Members.{member_of, Contains-map}
use Rattle.double_descr.specs.Steps.{values, between}
use Rattle.double_descr.specs.State.{numbered_of, live_of, pair_of, HasTightSet, AreTwoLive}
use Rattle.double_descr.specs.Adding.{Block, AreHeld, IsFault, IsAddFault, value_block, block_of, pair_block}
use Rattle.double_descr.specs.Making.{Addition, IsAddition, blocks_of_pairs, negative_places, with_negatives, candidates_of, candidates, AddsPair, IsTried, IsPairFault, pair_numbers, live_numbers, IsMadeSoFar}
use Rattle.double_descr.proofs.NegativePlaces.{places_count}
use Rattle.double_descr.specs.declared.generator.Generator.{Generator}
use Rattle.double_descr.specs.declared.made.Made.{Made}
use Rattle.double_descr.specs.declared.fault.DdFault.{DdFault}
use Rattle.double_descr.specs.declared.fault.DdFault.TheVariants.{Elim, Left as Stuck, NoMemory}
use Rattle.polyhedra.proofs.Covering.{meet_is_tight, tight_with}
use Rattle.polyhedra.proofs.Tests.{test_of_zero}
use Rattle.polyhedra.proofs.LiveList.{numbered_push}

-- ---- numbered vectors
pub numbers_are : {F : Type 0} (value : F → ℚ) (gens : List (Generator F)) → map (λ (g : Generator F). g.number) gens ≡ numbers (live_of value gens)
numbers_are value [] = refl
numbers_are value (g ∷ gens) = ap (λ r. g.number ∷ r) (numbers_are value gens)

module _ {F : Type 0} (value : F → ℚ) (holds : ℚ → Bool) (d : Addition) (gens : List (Generator F)) (ctx : IsAddition value d gens) where
  live : List Numbered
  live = live_of value gens

  vector_of : Generator F → List ℚ
  vector_of g = values value g.vector.items

  -- a generator of the list, as a vector of the pair
  vector_listed : (p : Generator F) → Contains gens p → Contains (vectors (live_of value gens)) (values value p.vector.items)
  vector_listed p c = Contains-map (λ (g : Numbered). g.vector) (live_of value gens) (numbered_of value p) (Contains-map (numbered_of value) gens p c)

  -- a generator of the new pair has the tight set that it should have
  new_tight : (p m g : Generator F) (common : List Bool) → Contains gens p → Contains gens m →
      zero_ℚ <ℚ dot d.row (values value p.vector.items) → dot d.row (values value m.vector.items) <ℚ zero_ℚ →
      values value g.vector.items ≡ normed (meeting d.row (values value p.vector.items) (values value m.vector.items)) →
      IsMeet common p.tight m.tight → g.tight ≡ common ++ true ∷ [] → HasTightSet value (d.rows ++ d.row ∷ []) g
  new_tight p m g common pc mc up down is meet tight =
      let z : List ℚ = normed (meeting d.row (values value p.vector.items) (values value m.vector.items)) in
      let law : IsTightAtBoth d.rows d.row (values value p.vector.items) (values value m.vector.items) = tight_at_meeting (length d.row) d.rows (vectors (live_of value gens)) d.row
      (values value p.vector.items) (values value m.vector.items) ctx.live.described (vector_listed p pc) (vector_listed m mc) up down in
      let meet' : IsMeet common (tight_set d.rows (values value p.vector.items)) (tight_set d.rows (values value m.vector.items)) =
      subst (λ (s : List Bool × List Bool). IsMeet common s.0 s.1)
      (λ i. (member_of (HasTightSet value d.rows) gens p ctx.tight pc i, member_of (HasTightSet value d.rows) gens m ctx.tight mc i)) meet in
      tight ∙ ap (λ c. c ++ true ∷ []) (meet_is_tight d.rows (values value p.vector.items) (values value m.vector.items) z common meet'.bound meet'.common law.in_use)
      ∙ ap (λ b. tight_set d.rows z ++ b ∷ []) (sym (test_of_zero (dot d.row z) law.new_row)) ∙ sym (tight_with d.rows d.row z) ∙ ap (tight_set (d.rows ++ d.row ∷ [])) (sym is)

  module _ (p m : Generator F) (pc : Contains gens p) (mc : Contains gens m) (a b : ℚ) (ae : a ≡ dot d.row (values value p.vector.items))
      (be : b ≡ dot d.row (values value m.vector.items)) (up : zero_ℚ <ℚ a) (down : b <ℚ zero_ℚ) (todo : List LivePair) (old new : Made F) where
    pair : LivePair
    pair = pair_of value p m

    same_point : normed (between a b (values value p.vector.items) (values value m.vector.items)) ≡ normed (meeting d.row (values value p.vector.items) (values value m.vector.items))
    same_point = ap₂ (λ x y. normed (between x y (values value p.vector.items) (values value m.vector.items))) ae be

    taken : IsMadeSoFar value holds d gens (pair_of value p m ∷ todo) old → is_uncovered_live d.rows (live_of value gens) (pair_of value p m) ≡ true →
        AddsPair value holds p m a b old new → new.first_new ≡ old.first_new → length new.common ≡ length old.common →
        IsMadeSoFar value holds d gens todo new
    taken h e t from bound = record {
      done = h.done ++ pair_of value p m ∷ [];
      split = h.split ∙ ap (λ c. h.done ++ cond c (pair_of value p m ∷ filter (is_uncovered_live d.rows (live_of value gens)) todo) (filter (is_uncovered_live d.rows (live_of value gens)) todo)) e
          ∙ sym (append_assoc h.done (pair_of value p m ∷ []) (filter (is_uncovered_live d.rows (live_of value gens)) todo));
      pairs_are = ap (map pair_numbers) t.pair ∙ map-append pair_numbers old.pairs (record { plus = p.number; minus = m.number } ∷ [])
          ∙ ap (λ l. l ++ live_numbers (pair_of value p m) ∷ []) h.pairs_are ∙ sym (map-append live_numbers h.done (pair_of value p m ∷ []));
      new_are = ap (live_of value) t.added ∙ map-append (numbered_of value) old.generators (t.generator ∷ [])
          ∙ ap₂ (λ l g. l ++ g ∷ []) h.new_are (t.is ∙ ap₂ (λ k v. record { number = k; vector = v }) number same_point)
          ∙ sym (numbered_push d.first (made d.row (map without_numbers h.done)) (normed (meeting d.row (values value p.vector.items) (values value m.vector.items))))
          ∙ ap (numbered d.first) (sym (ap (made d.row) (map-append without_numbers h.done (pair_of value p m ∷ []))
          ∙ map-append (λ q. normed (meeting d.row q.plus_side q.minus_side)) (map without_numbers h.done) (without_numbers (pair_of value p m) ∷ [])));
      tight = subst (λ (gs : List (Generator F)). All (HasTightSet value (d.rows ++ d.row ∷ [])) gs) (sym t.added)
          (All-append (HasTightSet value (d.rows ++ d.row ∷ [])) old.generators (t.generator ∷ []) h.tight
          (All-cons (HasTightSet value (d.rows ++ d.row ∷ [])) t.generator []
          (new_tight p m t.generator t.common pc mc (subst (λ (x : ℚ). zero_ℚ <ℚ x) ae up) (subst (λ (x : ℚ). x <ℚ zero_ℚ) be down)
          (ap (λ (g : Numbered). g.vector) t.is ∙ same_point) t.meet t.tight) (All-nil (HasTightSet value (d.rows ++ d.row ∷ [])))));
      held = subst (λ (bs : List Block). All (AreHeld holds) bs) (sym (map-append (pair_block d.row) h.done (pair_of value p m ∷ [])))
          (All-append (AreHeld holds) (map (pair_block d.row) h.done) (pair_block d.row (pair_of value p m) ∷ []) h.held
          (All-cons (AreHeld holds) (pair_block d.row (pair_of value p m)) []
          (subst (λ (x : ℚ × ℚ). AreHeld holds (block_of value p m x.0 x.1)) (λ i. (ae i, be i)) t.held) (All-nil (AreHeld holds))));
      from = from ∙ h.from;
      bound = bound ∙ h.bound;
    }
      where
        number : old.first_new + length old.pairs ≡ d.first + length (made d.row (map without_numbers h.done))
        number = ap₂ (λ x y. x + y) h.from (sym (length-map old.pairs pair_numbers) ∙ ap length h.pairs_are ∙ length-map h.done live_numbers
            ∙ sym (length-map (map without_numbers h.done) (λ q. normed (meeting d.row q.plus_side q.minus_side)) ∙ length-map h.done without_numbers))

    passed : IsMadeSoFar value holds d gens (pair_of value p m ∷ todo) old → is_uncovered_live d.rows (live_of value gens) (pair_of value p m) ≡ false →
        (new.pairs ≡ old.pairs) × (new.generators ≡ old.generators) → new.first_new ≡ old.first_new → length new.common ≡ length old.common →
        IsMadeSoFar value holds d gens todo new
    passed h e t from bound = record {
      done = h.done;
      split = h.split ∙ ap (λ c. h.done ++ cond c (pair_of value p m ∷ filter (is_uncovered_live d.rows (live_of value gens)) todo) (filter (is_uncovered_live d.rows (live_of value gens)) todo)) e;
      pairs_are = ap (map pair_numbers) t.0 ∙ h.pairs_are;
      new_are = ap (live_of value) t.1 ∙ h.new_are;
      tight = subst (λ (gs : List (Generator F)). All (HasTightSet value (d.rows ++ d.row ∷ [])) gs) (sym t.1) h.tight;
      held = h.held;
      from = from ∙ h.from;
      bound = bound ∙ h.bound;
    }

    pub tried : IsMadeSoFar value holds d gens (pair_of value p m ∷ todo) old →
        IsTried value holds (is_uncovered_live d.rows (live_of value gens) (pair_of value p m)) p m a b old new → new.first_new ≡ old.first_new →
        length new.common ≡ length old.common → IsMadeSoFar value holds d gens todo new
    tried h t from bound = go (is_uncovered_live d.rows (live_of value gens) (pair_of value p m)) refl t
      where
        go : (u : Bool) → is_uncovered_live d.rows (live_of value gens) (pair_of value p m) ≡ u → IsTried value holds u p m a b old new →
            IsMadeSoFar value holds d gens todo new
        go true e k = taken h e k from bound
        go false e k = passed h e k from bound

    -- where the pair was given up, it is the first block with a step that is not held
    pub tried_fault : IsMadeSoFar value holds d gens (pair_of value p m ∷ todo) old → (fault : DdFault F) →
        IsPairFault value holds (is_uncovered_live d.rows (live_of value gens) (pair_of value p m)) (block_of value p m a b) fault →
        IsAddFault value holds (blocks_of_pairs value d gens) fault
    tried_fault h (Elim fault) k = absurd k
    tried_fault h NoMemory k = tt
    tried_fault h (Stuck first second step left) k = record {
      before = map (pair_block d.row) h.done;
      block = pair_block d.row (pair_of value p m);
      after = map (pair_block d.row) (filter (is_uncovered_live d.rows (live_of value gens)) todo);
      split = ap (map (pair_block d.row)) (h.split ∙ ap (λ c. h.done ++ cond c (pair_of value p m ∷ filter (is_uncovered_live d.rows (live_of value gens)) todo) (filter (is_uncovered_live d.rows (live_of value gens)) todo)) k.0)
          ∙ map-append (pair_block d.row) h.done (pair_of value p m ∷ filter (is_uncovered_live d.rows (live_of value gens)) todo);
      held = h.held;
      here = subst (λ (x : ℚ × ℚ). IsFault value holds (block_of value p m x.0 x.1) (Stuck first second step left)) (λ i. (ae i, be i)) k.1;
    }

-- a pair that no third generator covers, given up at a step of its block
pub pair_fault : {F : Type 0} (value : F → ℚ) (holds : ℚ → Bool) (uncovered : Bool) (block : Block) (fault : DdFault F) → uncovered ≡ true →
    IsFault value holds block fault → IsPairFault value holds uncovered block fault
pair_fault value holds uncovered block (Stuck first second step left) e h = (e, h)
pair_fault value holds uncovered block (Elim fault) e h = h
pair_fault value holds uncovered block NoMemory e h = tt

-- ---- the candidates
-- the candidates of all generators are the opposite pairs
pub candidates_are : (row : List ℚ) (ps all : List Numbered) →
    candidates row ps all ≡ products (filter (λ g. lt_ℚ zero_ℚ (dot row g.vector)) ps) (filter (λ g. lt_ℚ (dot row g.vector) zero_ℚ) all)
candidates_are row [] all = refl
candidates_are row (p ∷ ps) all = ap (λ l. candidates_of row p all ++ l) (candidates_are row ps all) ∙ go (lt_ℚ zero_ℚ (dot row p.vector))
  where
    go : (c : Bool) → cond c (with_negatives row p all) [] ++ products (filter (λ g. lt_ℚ zero_ℚ (dot row g.vector)) ps) (filter (λ g. lt_ℚ (dot row g.vector) zero_ℚ) all)
        ≡ products (cond c (p ∷ filter (λ g. lt_ℚ zero_ℚ (dot row g.vector)) ps) (filter (λ g. lt_ℚ zero_ℚ (dot row g.vector)) ps)) (filter (λ g. lt_ℚ (dot row g.vector) zero_ℚ) all)
    go true = refl
    go false = refl

-- where no value is below 0 there is none
pub no_candidates : (row : List ℚ) (gens : List Numbered) (at : List ℚ) → at ≡ map (λ (g : Numbered). dot row g.vector) gens → length (negative_places 0 at) ≡ 0 →
    candidates row gens gens ≡ []
no_candidates row gens at is none =
    candidates_are row gens gens ∙ go (filter (λ g. lt_ℚ (dot row g.vector) zero_ℚ) gens)
    (sym (places_count (λ (g : Numbered). dot row g.vector) gens 0) ∙ ap (λ l. length (negative_places 0 l)) (sym is) ∙ none)
    (filter (λ g. lt_ℚ zero_ℚ (dot row g.vector)) gens)
  where
    go : (ms : List Numbered) → length ms ≡ 0 → (ps : List Numbered) → products ps ms ≡ []
    go [] e [] = refl
    go [] e (p ∷ ps) = go [] e ps
    go (m ∷ ms) e ps = absurd (omega (arith, e))

-- ---- what an addition says of one generator and its value
module _ {F : Type 0} (value : F → ℚ) (d : Addition) (gens : List (Generator F)) (ctx : IsAddition value d gens) where
  pub wide_of : (p : Generator F) → Contains gens p → length p.vector.items ≡ (length d.row)
  wide_of p c = sym (length-map p.vector.items value) ∙ member_of (λ v. length v ≡ (length d.row)) (vectors (live_of value gens)) (values value p.vector.items)
      ctx.live.described.generators_wide.wide (Contains-map (λ (g : Numbered). g.vector) (live_of value gens) (numbered_of value p) (Contains-map (numbered_of value) gens p c))

  pub bound_of : (p : Generator F) → Contains gens p → length p.tight ≡ length d.rows
  bound_of p c = ap length (member_of (HasTightSet value d.rows) gens p ctx.tight c) ∙ length-map d.rows (λ r. is_zero (dot r (values value p.vector.items)))

  -- two generators at which the d.row has opposite signs differ
  pub two_of : (p m : Generator F) (a b : ℚ) → Contains gens p → Contains gens m → a ≡ dot d.row (values value p.vector.items) → b ≡ dot d.row (values value m.vector.items) →
      zero_ℚ <ℚ a → b <ℚ zero_ℚ → AreTwoLive value (length d.row) d.rows gens p m
  two_of p m a b pc mc ae be up down = record {
    next = d.first;
    live = ctx.live;
    tight = ctx.tight;
    plus_listed = pc;
    minus_listed = mc;
    differ = λ e. lt_irrefl zero_ℚ (lt_trans zero_ℚ a zero_ℚ up (subst (λ (x : ℚ). x <ℚ zero_ℚ) (be ∙ ap (dot d.row) (sym e) ∙ sym ae) down));
  }

  -- where a generator has no pair with any at which the row is negative, nothing is left of these pairs
  pub unmet : (holds : ℚ → Bool) (p : Generator F) →
      ((m : Generator F) → Contains gens m → dot d.row (values value m.vector.items) <ℚ zero_ℚ → is_uncovered_live d.rows (live_of value gens) (pair_of value p m) ≡ false) →
      (left : List LivePair) (made : Made F) → IsMadeSoFar value holds d gens (with_negatives d.row (numbered_of value p) (live_of value gens) ++ left) made →
      IsMadeSoFar value holds d gens left made
  unmet holds p none left made h = record {
    done = h.done;
    split = h.split ∙ ap (λ l. h.done ++ l) (go gens (λ m c. c));
    pairs_are = h.pairs_are;
    new_are = h.new_are;
    tight = h.tight;
    held = h.held;
    from = h.from;
    bound = h.bound;
  }
    where
      go : (hs : List (Generator F)) → ((m : Generator F) → Contains hs m → Contains gens m) →
          filter (is_uncovered_live d.rows (live_of value gens)) (with_negatives d.row (numbered_of value p) (live_of value hs) ++ left)
          ≡ filter (is_uncovered_live d.rows (live_of value gens)) left
      go [] among = refl
      go (m ∷ hs) among = step (lt_ℚ (dot d.row (values value m.vector.items)) zero_ℚ) refl (go hs (λ k c. among k (Contains-there m hs k c)))
        where
          step : (b : Bool) → lt_ℚ (dot d.row (values value m.vector.items)) zero_ℚ ≡ b →
              filter (is_uncovered_live d.rows (live_of value gens)) (with_negatives d.row (numbered_of value p) (live_of value hs) ++ left)
              ≡ filter (is_uncovered_live d.rows (live_of value gens)) left →
              filter (is_uncovered_live d.rows (live_of value gens)) (map (λ (k : Numbered). record { plus_side = numbered_of value p; minus_side = k })
              (cond b (numbered_of value m ∷ filter (λ (k : Numbered). lt_ℚ (dot d.row k.vector) zero_ℚ) (live_of value hs)) (filter (λ (k : Numbered). lt_ℚ (dot d.row k.vector) zero_ℚ) (live_of value hs))) ++ left)
              ≡ filter (is_uncovered_live d.rows (live_of value gens)) left
          step false e rest = rest
          step true e rest =
              let after = with_negatives d.row (numbered_of value p) (live_of value hs) ++ left in
              ap (λ b. cond b (pair_of value p m ∷ filter (is_uncovered_live d.rows (live_of value gens)) after) (filter (is_uncovered_live d.rows (live_of value gens)) after))
              (none m (among m (Contains-here m hs m refl)) e)
              ∙ rest

  -- a meeting point is not 0
  pub norming_of : (p m : Generator F) (a b : ℚ) → Contains gens p → Contains gens m → a ≡ dot d.row (values value p.vector.items) → b ≡ dot d.row (values value m.vector.items) →
      zero_ℚ <ℚ a → b <ℚ zero_ℚ → norming (between a b (values value p.vector.items) (values value m.vector.items)) ≡ zero_ℚ → ⊥
  norming_of p m a b pc mc ae be up down e = meeting_not_zero (length d.row) d.rows (vectors (live_of value gens)) d.row (values value p.vector.items) (values value m.vector.items) ctx.live.described
      (listed p pc) (listed m mc) (subst (λ (x : ℚ). zero_ℚ <ℚ x) ae up) (subst (λ (x : ℚ). x <ℚ zero_ℚ) be down)
      (ap₂ (λ x y. norming (between x y (values value p.vector.items) (values value m.vector.items))) (sym ae) (sym be) ∙ e)
    where
      listed : (g : Generator F) → Contains gens g → Contains (vectors (live_of value gens)) (values value g.vector.items)
      listed g c = Contains-map (λ (h : Numbered). h.vector) (live_of value gens) (numbered_of value g) (Contains-map (numbered_of value) gens g c)

pub candidates_at : (row : List ℚ) (p : Numbered) (ps ps' all : List Numbered) → ps ≡ p ∷ ps' → (b : Bool) → b ≡ lt_ℚ zero_ℚ (dot row p.vector) →
    candidates row ps all ≡ cond b (with_negatives row p all) [] ++ candidates row ps' all
candidates_at row p ps ps' all e b f = ap (λ l. candidates row l all) e ∙ ap (λ c. cond c (with_negatives row p all) [] ++ candidates row ps' all) (sym f)

-- ---- lists that are made from the front
pub value_at_index : {F : Type 0} (value : F → ℚ) (row : List ℚ) (gens : List (Generator F)) (vals : List F) →
    map value vals ≡ map (λ (h : Numbered). dot row h.vector) (live_of value gens) → (j : ℕ) (x : F) (g : Generator F) → j < length vals → j < length gens →
    x ≡ get_or vals j x → g ≡ get_or gens j g → value x ≡ dot row (values value g.vector.items)
value_at_index {F} value row gens vals at j x g lv lg xe ge =
    ap value xe ∙ sym (get_or-map value vals j x (value x) lv) ∙ ap (λ l. get_or l j (value x)) (at ∙ through gens)
    ∙ get_or-map (λ (h : Generator F). dot row (values value h.vector.items)) gens j g (value x) lg ∙ sym (ap (λ (h : Generator F). dot row (values value h.vector.items)) ge)
  where
    through : (gs : List (Generator F)) → map (λ (h : Numbered). dot row h.vector) (live_of value gs) ≡ map (λ (h : Generator F). dot row (values value h.vector.items)) gs
    through [] = refl
    through (h ∷ gs) = ap (λ l. dot row (values value h.vector.items) ∷ l) (through gs)

filter_one : {X : Type 0} (t : X → Bool) (x : X) (xs : List X) → filter t (x ∷ []) ++ filter t xs ≡ filter t (x ∷ xs)
filter_one t x xs = go (t x)
  where
    go : (b : Bool) → cond b (x ∷ []) [] ++ filter t xs ≡ cond b (x ∷ filter t xs) (filter t xs)
    go true = refl
    go false = refl

pub staying_on : (row : List ℚ) (m : Numbered) (rest rest' old new whole : List Numbered) → rest ≡ m ∷ rest' → new ≡ old ++ staying row (m ∷ []) →
    old ++ staying row rest ≡ whole → new ++ staying row rest' ≡ whole
staying_on row m rest rest' old new whole e n h = ap (λ l. l ++ staying row rest') n ∙ append_assoc old (staying row (m ∷ [])) (staying row rest')
    ∙ ap (λ l. old ++ l) (filter_one (λ g. le_ℚ zero_ℚ (dot row g.vector)) m rest' ∙ ap (staying row) (sym e)) ∙ h

pub numbers_on : (row : List ℚ) (m : Numbered) (rest rest' : List Numbered) (old new whole : List ℕ) → rest ≡ m ∷ rest' → new ≡ old ++ numbers (staying row (m ∷ [])) →
    old ++ numbers (staying row rest) ≡ whole → new ++ numbers (staying row rest') ≡ whole
numbers_on row m rest rest' old new whole e n h = ap (λ l. l ++ numbers (staying row rest')) n ∙ append_assoc old (numbers (staying row (m ∷ []))) (numbers (staying row rest'))
    ∙ ap (λ l. old ++ l) (sym (map-append (λ (g : Numbered). g.number) (staying row (m ∷ [])) (staying row rest'))
    ∙ ap (map (λ (g : Numbered). g.number)) (filter_one (λ g. le_ℚ zero_ℚ (dot row g.vector)) m rest' ∙ ap (staying row) (sym e))) ∙ h

pub dropped_on : (row : List ℚ) (m : Numbered) (rest rest' : List Numbered) (old new whole : List ℕ) → rest ≡ m ∷ rest' → new ≡ old ++ dropped row (m ∷ []) →
    old ++ dropped row rest ≡ whole → new ++ dropped row rest' ≡ whole
dropped_on row m rest rest' old new whole e n h = ap (λ l. l ++ dropped row rest') n ∙ append_assoc old (dropped row (m ∷ [])) (dropped row rest')
    ∙ ap (λ l. old ++ l) (sym (map-append (λ (g : Numbered). g.number) (filter (λ g. lt_ℚ (dot row g.vector) zero_ℚ) (m ∷ [])) (filter (λ g. lt_ℚ (dot row g.vector) zero_ℚ) rest'))
    ∙ ap (map (λ (g : Numbered). g.number)) (filter_one (λ g. lt_ℚ (dot row g.vector) zero_ℚ) m rest') ∙ ap (dropped row) (sym e)) ∙ h

-- the first block that is given up
pub fault_at : {F : Type 0} (value : F → ℚ) (holds : ℚ → Bool) (blocks before after : List Block) (block : Block) (fault : DdFault F) → blocks ≡ before ++ block ∷ after →
    All (AreHeld holds) before → IsFault value holds block fault → IsAddFault value holds blocks fault
fault_at value holds blocks before after block (Elim fault) e h k = absurd k
fault_at value holds blocks before after block NoMemory e h k = tt
fault_at value holds blocks before after block (Stuck first second step left) e h k = record { before = before; block = block; after = after; split = e; held = h; here = k }

-- one more block is held
pub block_on : (row : List ℚ) (m : Numbered) (rest rest' : List Numbered) (whole done : List Block) → rest ≡ m ∷ rest' → whole ≡ done ++ map (value_block row) rest →
    whole ≡ (done ++ value_block row m ∷ []) ++ map (value_block row) rest'
block_on row m rest rest' whole done e h = h ∙ ap (λ l. done ++ map (value_block row) l) e ∙ sym (append_assoc done (value_block row m ∷ []) (map (value_block row) rest'))
