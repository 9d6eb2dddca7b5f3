use Rattle.std.proofs.Common.{◌≡◌, ℕ, ◌+◌, ◌<◌, List, ◌++◌, length, map, All, refl, sym, ap, ap₂, ◌∙◌, subst, arith}
use Rattle.std.proofs.lemmas.List.{length-map}
use Rattle.exact_field.specs.Rational.{ℚ}
use Rattle.exact_field.specs.Vector.{dot}
use Rattle.polyhedra.specs.LiveList.{Numbered}
use Rattle.double_descr.specs.Adding.{AreHeld, IsAddFault, IsChange, value_block}
use Rattle.double_descr.specs.State.{live_of, list_of}
use Rattle.double_descr.specs.Making.{Addition, AreValuesAt, negative_places}
use Rattle.double_descr.specs.declared.generator.Generator.{Generator}
use Rattle.double_descr.proofs.next.next_list.Goals as goal
use Rattle.polyhedra.proofs.Members.{all_of_members}
use Rattle.lin_rows.proofs.Errors.{err_holds}
use Rattle.double_descr.proofs.MadePairs.{wide_of}
use Rattle.double_descr.proofs.NextLists.{after_values, all_held, among_values, changed, new_are, next_is, next_numbers, one_each}

-- the values of a row, read from any list of them
values_read : {F : Type 0} (value : F → ℚ) (row row' : List ℚ) (gens : List (Generator F)) (vals read : List F) → row ≡ row' → AreValuesAt value row' gens vals → read ≡ vals →
    AreValuesAt value row gens read
values_read value row row' gens vals read e at r = ap (map value) r ∙ at ∙ ap (λ (q : List ℚ). map (λ (h : Numbered). dot q h.vector) (live_of value gens)) (sym e)

pub values_at-requires-clause-same : goal.values_at-requires-clause-same
values_at-requires-clause-same g c =
    let value = g.F.Field.value in
    let holds = g.F.Field.holds in
    let d = g.addition in
    let gens = c.args.generators.now in
    let row = c.args.row.now in
    all_of_members (λ (h : Generator _). length row ≡ length h.vector.items) gens
    (λ h k. sym (wide_of value d gens c.requires.1.1 h k ∙ ap (λ (a : Addition). length a.row) c.requires.1.0 ∙ length-map row value))

pub values_at-requires-clause-narrow : goal.values_at-requires-clause-narrow
values_at-requires-clause-narrow g c = subst (λ (n : ℕ). n < 4294967296)
    (ap (λ (a : Addition). length a.row) c.requires.1.0 ∙ length-map c.args.row.now g.F.Field.value) c.requires.1.1.narrow

pub begin-requires : goal.begin-requires
begin-requires g c κs within = (
  within,
  (
    c.len-count.ensures.value ∙ sym (ap (λ (a : Addition). length a.rows) c.requires.1.0 ∙ length-map c.args.rows.now (map g.F.Field.value)),
    sym (ap (λ (a : Addition). a.first) c.requires.1.0),
  ),
)

pub meet_all-requires : goal.meet_all-requires
meet_all-requires g c κs within =
    let value = g.F.Field.value in
    let d = g.addition in
    let gens = c.args.generators.now in
    let is = c.requires.1.0 in
    let vals = c.as_slice-2.result.now in
    let at = values_read value d.row (map value c.args.row.now) gens _ vals (ap (λ (a : Addition). a.row) is) c.in_ok-vals.ensures.values c.as_slice-2.ensures.items in
    let count : c.len-count.result ≡ length d.rows = c.len-count.ensures.value ∙ sym (ap (λ (a : Addition). length a.rows) is ∙ length-map c.args.rows.now (map value)) in (
      within,
      (
        record {
          addition = c.requires.1.1;
          at_row = at;
          places = c.as_slice-3.ensures.items ∙ c.in_ok-below.ensures ∙ ap (λ l. negative_places 0 (map value l)) (c.as_slice.ensures.items ∙ sym c.as_slice-2.ensures.items);
          room = omega (arith, count);
          few = let many = one_each value d.row gens vals at in omega (arith, many, c.as_slice-2.ensures.bound);
        },
        (one_each value d.row gens vals at, c.in_ok-so_far.ensures gens),
      ),
    )

pub make_sets_aside-requires : goal.make_sets_aside-requires
make_sets_aside-requires g c κs within =
    let value = g.F.Field.value in
    let d = g.addition in
    let gens = c.args.generators.now in
    let is = c.requires.1.0 in
    let vals = c.as_slice-4.result.now in
    let at = values_read value d.row (map value c.args.row.now) gens _ vals (ap (λ (a : Addition). a.row) is) c.in_ok-vals.ensures.values c.as_slice-4.ensures.items in
    let count : c.len-count.result ≡ length d.rows = c.len-count.ensures.value ∙ sym (ap (λ (a : Addition). length a.rows) is ∙ length-map c.args.rows.now (map value)) in
    let room : c.len-count.result + 1 < 4294967296 = omega arith in
    (within, (c.requires.1.1, (at, (count, room))))

pub list_numbers-requires : goal.list_numbers-requires
list_numbers-requires g c κs within =
    let value = g.F.Field.value in
    let d = g.addition in
    let gens = c.args.generators.now in
    let vals = c.as_slice-5.result.now in
    let at = values_read value d.row (map value c.args.row.now) gens _ vals (ap (λ (a : Addition). a.row) c.requires.1.0) c.in_ok-vals.ensures.values c.as_slice-5.ensures.items in
    (within, (at, (one_each value d.row gens vals at, (c.in_ok-numbers.ensures, c.new-dropped.ensures))))

pub returns-in_err-vals-clause-left : goal.returns-in_err-vals-clause-left
returns-in_err-vals-clause-left g c =
    let value = g.F.Field.value in
    let holds = g.F.Field.holds in
    let d = g.addition in
    let gens = c.args.generators.now in
    let fault = c.in_err-vals.field-0.0 in
    err_holds c.from_residual.result fault _ c.from_residual.ensures.1
    (among_values value holds d gens fault (subst (λ (q : List ℚ). IsAddFault value holds (map (value_block q) (live_of value gens)) fault)
    (sym (ap (λ (a : Addition). a.row) c.requires.1.0)) c.in_err-vals.ensures.left))

pub returns-in_err-meet_all-clause-left : goal.returns-in_err-meet_all-clause-left
returns-in_err-meet_all-clause-left g c =
    let value = g.F.Field.value in
    let holds = g.F.Field.holds in
    let d = g.addition in
    let gens = c.args.generators.now in
    let held = subst (λ (q : List ℚ). All (AreHeld holds) (map (value_block q) (live_of value gens))) (sym (ap (λ (a : Addition). a.row) c.requires.1.0)) c.in_ok-vals.ensures.held in
    err_holds c.from_residual-in_err-meet_all.result c.in_err-meet_all.field-0.0 _ c.from_residual-in_err-meet_all.ensures.1
    (after_values value holds d gens c.in_err-meet_all.field-0.0 held c.in_err-meet_all.ensures.left)

pub returns-clause-next : goal.returns-clause-next
returns-clause-next g c =
    let value = g.F.Field.value in
    let holds = g.F.Field.holds in
    let d = g.addition in
    let gens = c.args.generators.now in
    let is = c.requires.1.0 in
    let made = c.meet_all.new.so_far in
    let done = c.in_ok-meet_all.ensures.ok in
    record {
      at_row = values_read value d.row (map value c.args.row.now) gens _ c.in_ok-vals.vals (ap (λ (a : Addition). a.row) is) c.in_ok-vals.ensures.values refl;
      sets = c.in_ok-sets.ensures;
      new_are = new_are value holds d gens made done;
      tight = done.tight;
      numbers_are = next_numbers value holds d gens made done c.list_numbers.new.stays c.push_numbers.new.list c.in_ok-list_numbers.ensures.stays
          (c.in_ok-push_numbers.ensures ∙ ap (λ gs. c.list_numbers.new.stays ++ map (λ (u : Generator _). u.number) gs) c.as_slice-6.ensures.items);
      next_is = ap₂ (λ a b. a + b) (sym (ap (λ (a : Addition). a.first) is)) c.len.ensures.value ∙ next_is value holds d gens made done;
    }

pub returns-clause-change : goal.returns-clause-change
returns-clause-change g c =
    let value = g.F.Field.value in
    let holds = g.F.Field.holds in
    let d = g.addition in
    let gens = c.args.generators.now in
    let made = c.meet_all.new.so_far in
    let gone = c.list_numbers.new.gone in
    subst (λ (n : ℕ). IsChange d.rows (list_of value gens d.first) d.row (record { dropped = gone; pairs = made.pairs; first_new = n })) (ap (λ (a : Addition). a.first) c.requires.1.0)
    (changed value holds d gens made c.in_ok-meet_all.ensures.ok gone c.in_ok-list_numbers.ensures.gone)

pub returns-clause-held : goal.returns-clause-held
returns-clause-held g c =
    let value = g.F.Field.value in
    let holds = g.F.Field.holds in
    let d = g.addition in
    let gens = c.args.generators.now in
    let held = subst (λ (q : List ℚ). All (AreHeld holds) (map (value_block q) (live_of value gens))) (sym (ap (λ (a : Addition). a.row) c.requires.1.0)) c.in_ok-vals.ensures.held in
    all_held value holds d gens c.meet_all.new.so_far c.in_ok-meet_all.ensures.ok held
