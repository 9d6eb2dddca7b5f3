-- What an addition makes aside, and the live list after it: the generators that stay and the new ones.
use Rattle.std.proofs.Common.{◌≡◌, ℕ, ◌+◌, List, [], ◌∷◌, ◌++◌, map, length, filter, All, Bool, refl, sym, ap, ap₂, ◌∙◌, subst, append_assoc}
use Rattle.std.proofs.lemmas.List.{length-map, append-nil, map-append}
use Rattle.std.proofs.lemmas.List.Elements.{All-nil, All-cons, All-append}
use Rattle.std.specs.Prelude.{Option, None, Some}
use Rattle.exact_field.specs.Rational.{ℚ}
use Rattle.exact_field.specs.Vector.{dot}
use Rattle.polyhedra.specs.DoubleDescription.{is_zero, made}
use Rattle.polyhedra.specs.LiveList.{LivePair, Numbered, new_vectors, numbered, numbers, staying, dropped, step, tight_set, without_numbers, is_uncovered_live, live_pairs}
use Rattle.polyhedra.proofs.Covering.{tight_with}
use Rattle.double_descr.specs.State.{live_of, list_of, numbered_of, HasTightSet, with_tight_set}
use Rattle.double_descr.specs.Adding.{AreHeld, IsAddFault, IsChange, value_block, pair_block, pair_blocks}
use Rattle.double_descr.specs.Making.{Addition, AreNextSets, AreSetsFor, AreValuesAt, blocks_of_all, blocks_of_pairs, candidates, IsMadeSoFar, IsNext, pair_numbers, live_numbers}
use Rattle.double_descr.specs.Steps.{values}
use Rattle.double_descr.specs.declared.generator.Generator.{Generator}
use Rattle.double_descr.specs.declared.made.Made.{Made}
use Rattle.double_descr.specs.declared.next.Next.{Next}
use Rattle.double_descr.specs.declared.fault.DdFault.{DdFault}
use Rattle.double_descr.specs.declared.fault.DdFault.TheVariants.{Elim, Left as Stuck, NoMemory}
use Rattle.double_descr.proofs.MadePairs.{candidates_are, numbers_are}

-- the set of a generator's tight rows with one more row, from the row's value there
pub set_with : (rows : List (List ℚ)) (row v : List ℚ) (x : ℚ) (set set' : List Bool) → x ≡ dot row v → set ≡ tight_set rows v → set' ≡ set ++ is_zero x ∷ [] →
    set' ≡ tight_set (rows ++ row ∷ []) v
set_with rows row v x set set' a h e = e ∙ ap₂ (λ t y. t ++ is_zero y ∷ []) h a ∙ sym (tight_with rows row v)

-- generators with their sets are the same live list, and have these sets
pub same_live : {F : Type 0} (value : F → ℚ) (rows : List (List ℚ)) (gens : List (Generator F)) → live_of value (map (with_tight_set value rows) gens) ≡ live_of value gens
same_live value rows [] = refl
same_live value rows (g ∷ gens) = ap (λ (l : List Numbered). record { number = g.number; vector = values value g.vector.items } ∷ l) (same_live value rows gens)

pub all_tight : {F : Type 0} (value : F → ℚ) (rows : List (List ℚ)) (gens : List (Generator F)) → All (HasTightSet value rows) (map (with_tight_set value rows) gens)
all_tight value rows [] = All-nil (HasTightSet value rows)
all_tight value rows (g ∷ gens) = All-cons (HasTightSet value rows) (with_tight_set value rows g) (map (with_tight_set value rows) gens) refl (all_tight value rows gens)

-- as many values as generators
pub one_each : {F : Type 0} (value : F → ℚ) (row : List ℚ) (gens : List (Generator F)) (vals : List F) → AreValuesAt value row gens vals → length vals ≡ length gens
one_each value row gens vals at = sym (length-map vals value) ∙ ap length at ∙ length-map (live_of value gens) (λ (h : Numbered). dot row h.vector)
    ∙ length-map gens (numbered_of value)

-- there is a next set for each generator, or each has room in its own
pub sets_fit : {F : Type 0} (value : F → ℚ) (a : Addition) (gens : List (Generator F)) (sets : Option (List (List Bool))) → AreNextSets value a gens sets →
    AreSetsFor gens sets
sets_fit {F} value a gens (Some sets) e = ap length e ∙ length-map gens (λ (g : Generator F). tight_set (a.rows ++ a.row ∷ []) (values value g.vector.items))
sets_fit value a gens None h = h

module _ {F : Type 0} (value : F → ℚ) (holds : ℚ → Bool) (d : Addition) (gens : List (Generator F)) where
  pub begun : (m : Made F) → m.pairs ≡ [] → m.generators ≡ [] → m.first_new ≡ d.first → length m.common ≡ length d.rows →
      IsMadeSoFar value holds d gens (candidates d.row (live_of value gens) (live_of value gens)) m
  begun m none no_new from bound = record {
    done = [];
    split = ap (filter (is_uncovered_live d.rows (live_of value gens))) (sym (candidates_are d.row (live_of value gens) (live_of value gens)));
    pairs_are = ap (map pair_numbers) none;
    new_are = ap (live_of value) no_new;
    tight = subst (λ (gs : List (Generator F)). All (HasTightSet value (d.rows ++ d.row ∷ [])) gs) (sym no_new) (All-nil (HasTightSet value (d.rows ++ d.row ∷ [])));
    held = All-nil (AreHeld holds);
    from = from;
    bound = bound;
  }

  module _ (m : Made F) (h : IsMadeSoFar value holds d gens [] m) where
    all_done : live_pairs d.rows (live_of value gens) d.row ≡ h.done
    all_done = h.split ∙ append-nil h.done

    count : length m.pairs ≡ length (live_pairs d.rows (live_of value gens) d.row)
    count = sym (length-map m.pairs pair_numbers) ∙ ap length h.pairs_are ∙ length-map h.done live_numbers ∙ ap length (sym all_done)

    pub new_are : live_of value m.generators ≡ numbered d.first (new_vectors d.rows (live_of value gens) d.row)
    new_are = h.new_are ∙ ap (λ pairs. numbered d.first (made d.row (map without_numbers pairs))) (sym all_done)

    pub next_is : d.first + length m.pairs ≡ (step d.rows (list_of value gens d.first) d.row).next
    next_is = ap (λ n. d.first + n) count

    -- the numbers of those that stay and of the new ones
    pub next_numbers : (stays all : List ℕ) → stays ≡ numbers (staying d.row (live_of value gens)) → all ≡ stays ++ map (λ (g : Generator F). g.number) m.generators →
        all ≡ numbers (step d.rows (list_of value gens d.first) d.row).live
    next_numbers stays all s e = e ∙ ap₂ (λ a b. a ++ b) s (numbers_are value m.generators ∙ ap numbers new_are)
        ∙ sym (map-append (λ (g : Numbered). g.number) (staying d.row (live_of value gens)) (numbered d.first (new_vectors d.rows (live_of value gens) d.row)))

    pub changed : (gone : List ℕ) → gone ≡ dropped d.row (live_of value gens) → IsChange d.rows (list_of value gens d.first) d.row (record { dropped = gone; pairs = m.pairs; first_new = d.first })
    changed gone e = record { gone = e; paired = h.pairs_are ∙ ap (map live_numbers) (sym all_done); from = refl }

    pub all_held : All (AreHeld holds) (map (value_block d.row) (live_of value gens)) → All (AreHeld holds) (blocks_of_all value d gens)
    all_held v = All-append (AreHeld holds) (map (value_block d.row) (live_of value gens)) (pair_blocks d.rows (live_of value gens) d.row) v
        (subst (λ (pairs : List LivePair). All (AreHeld holds) (map (pair_block d.row) pairs)) (sym all_done) h.held)

  -- what is given up among the pairs comes after all values
  pub after_values : (fault : DdFault F) → All (AreHeld holds) (map (value_block d.row) (live_of value gens)) → IsAddFault value holds (blocks_of_pairs value d gens) fault →
      IsAddFault value holds (blocks_of_all value d gens) fault
  after_values (Elim fault) v k = absurd k
  after_values NoMemory v k = tt
  after_values (Stuck a b step left) v k = record {
    before = map (value_block d.row) (live_of value gens) ++ k.before;
    block = k.block;
    after = k.after;
    split = ap (λ r. map (value_block d.row) (live_of value gens) ++ r) k.split ∙ sym (append_assoc (map (value_block d.row) (live_of value gens)) k.before (k.block ∷ k.after));
    held = All-append (AreHeld holds) (map (value_block d.row) (live_of value gens)) k.before v k.held;
    here = k.here;
  }

  -- what is given up among the values comes before all pairs
  pub among_values : (fault : DdFault F) → IsAddFault value holds (map (value_block d.row) (live_of value gens)) fault → IsAddFault value holds (blocks_of_all value d gens) fault
  among_values (Elim fault) k = absurd k
  among_values NoMemory k = tt
  among_values (Stuck a b step left) k = record {
    before = k.before;
    block = k.block;
    after = k.after ++ blocks_of_pairs value d gens;
    split = ap (λ r. r ++ blocks_of_pairs value d gens) k.split ∙ append_assoc k.before (k.block ∷ k.after) (blocks_of_pairs value d gens);
    held = k.held;
    here = k.here;
  }

-- generators that are those that stay and the new ones are the live list after the row
pub list_after : {F : Type 0} (value : F → ℚ) (d : Addition) (gens : List (Generator F)) (made : Next F) → IsNext value d gens made → (now : List (Generator F)) →
    live_of value now ≡ staying d.row (live_of value gens) ++ live_of value made.generators →
    list_of value now made.next ≡ step d.rows (list_of value gens d.first) d.row
list_after value d gens made h now e = λ i. record { live = live_is i; next = h.next_is i }
  where
    live_is : live_of value now ≡ (step d.rows (list_of value gens d.first) d.row).live
    live_is = e ∙ ap (λ l. staying d.row (live_of value gens) ++ l) h.new_are
