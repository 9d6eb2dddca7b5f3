use Rattle.std.proofs.Common.{◌≡◌, ℕ, ◌+◌, ◌<◌, length, sym, ◌∙◌, subst}
use Rattle.incid_sets.specs.Marks.{HasRoom}
use Rattle.polyhedra.proofs.Members.{all_of_members}
use Rattle.double_descr.specs.Making.{HasRoomForRow}
use Rattle.double_descr.specs.declared.generator.Generator.{Generator}
use Rattle.double_descr.proofs.MadePairs.{bound_of}
use Rattle.double_descr.proofs.NextLists.{one_each}
use Rattle.double_descr.proofs.parts.make_sets_aside.Goals as goal

pub next_sets-requires : goal.next_sets-requires
next_sets-requires g c κs within =
    let value = g.F.Field.value in
    let d = g.addition in
    let gens = c.args.generators.now in
    let is = c.requires.1.0 in
    let at = c.requires.1.1.0 in
    let room : length d.rows + 1 < 4294967296 = subst (λ (n : ℕ). n + 1 < 4294967296) c.requires.1.1.1.0 c.requires.1.1.1.1 in (
      within,
      (
        at,
        (
          is.tight,
          (
            one_each value d.row gens c.args.vals.now at,
            all_of_members (λ (h : Generator _). length h.tight + 1 < 4294967296) gens
                (λ h k. subst (λ (n : ℕ). n + 1 < 4294967296) (sym (bound_of value d gens is h k)) room),
          ),
        ),
      ),
    )

pub returns-then-has_room : goal.returns-then-has_room
returns-then-has_room g c =
    let value = g.F.Field.value in
    let d = g.addition in
    let gens = c.args.generators.now in
    let is = c.requires.1.0 in
    all_of_members (λ (h : Generator _). HasRoomForRow h) gens (λ h k.
    let many : c.args.count ≡ length h.tight = c.requires.1.1.1.0 ∙ sym (bound_of value d gens is h k) in
    record {
      free = subst HasRoom many (c.has_room.ensures.0 c.if-has_room.true);
      few = subst (λ (n : ℕ). n + 1 < 4294967296) many c.requires.1.1.1.1;
    })
