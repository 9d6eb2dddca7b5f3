use Rattle.std.proofs.Common.{◌≡◌, ◌+◌, ◌<◌, ◌≤◌, ℕ, suc, arith, ap, sym, ◌∙◌, Contains, length, take}
use Rattle.lineality.specs.Without.{open_count}
use Rattle.polyhedra.proofs.Members.{all_of_members}
use Rattle.log_live.specs.declared.generator.Generator.{Generator}
use Rattle.log_live.proofs.LeastCounts.{open_all, open_most, open_width, opens, some_there, wide_of}
use Rattle.log_live.proofs.counting.least_common.Goals as goal
use Rattle.log_live.proofs.counting.least_common.Goals.{then-is_open, else-is_open}

pub overflow_sub-places : goal.overflow_sub-places
overflow_sub-places c =
    let gens = c.args.generators.now in
    let some : 0 < length gens = some_there gens (sym c.is_empty.ensures ∙ c.if-is_empty.false) in
    let wide : length c.index-generators-0.result.vector ≡ suc c.requires.0 = wide_of c.requires.0 c.requires.1 gens c.requires.2 c.index-generators-0.result (0, some, sym c.index-generators-0.is) in
    let same = ap (λ (g : Generator). length g.vector) c.index-generators-0.is in
    omega (arith, wide, same, c.len-places.ensures.value)

pub is_open-requires : goal.is_open-requires
is_open-requires c =
    let gens = c.args.generators.now in
    let some : 0 < length gens = some_there gens (sym c.is_empty.ensures ∙ c.if-is_empty.false) in
    let first : length c.index-generators-0.result.vector ≡ suc c.requires.0 = wide_of c.requires.0 c.requires.1 gens c.requires.2 c.index-generators-0.result (0, some, sym c.index-generators-0.is) in
    let same = ap (λ (g : Generator). length g.vector) c.index-generators-0.is in
    all_of_members (λ (g : Generator). c.loop-place.place < length g.vector) gens
    (λ g among. let wide : length g.vector ≡ suc c.requires.0 = wide_of c.requires.0 c.requires.1 gens c.requires.2 g among in
    omega (arith, first, wide, same, c.len-places.ensures.value, c.loop-place-test.true))

pub loop-place-preserved : goal.loop-place-preserved
loop-place-preserved c =
    elim c.if-is_open.branch [
      | then-is_open w ↦ record {
        few = let is = w.open-is in let few = c.loop-place.invariant.few in omega (
          arith,
          is,
          few,
        );
        least = λ q rows d.
            let gens = c.args.generators.now in
            let some : 0 < length gens = some_there gens (sym c.is_empty.ensures
            ∙ c.if-is_empty.false) in
            let wide : length c.index-generators-0.result.vector ≡ suc q = wide_of q rows gens d
            c.index-generators-0.result (0, some, sym c.index-generators-0.is) in
            let inside : c.loop-place.place < q = let same = ap
            (λ (g : Generator). length g.vector)
            c.index-generators-0.is in let places = c.len-places.ensures.value in let less =
            c.loop-place-test.true in omega (arith, wide, same, places, less) in
            let found = c.is_open.ensures w.if-is_open.true in
            let more : open_count (take (suc c.loop-place.place) d.marks) ≡ suc
            (open_count (take c.loop-place.place d.marks)) = opens q rows gens d found.0 found.1
            c.loop-place.place inside found.2 in
            let before : c.loop-place.open ≤ open_count
            (take c.loop-place.place d.marks) = c.loop-place.invariant.least q rows d in
            let one : c.loop-place.place + 1 ≡ suc c.loop-place.place = omega arith in
            let here : open_count (take (c.loop-place.place + 1) d.marks) ≡ suc
            (open_count (take c.loop-place.place d.marks)) = ap
            (λ (n : ℕ). open_count (take n d.marks)) one ∙ more in
            let is = w.open-is in omega (arith, here, before, is);
      }
      | else-is_open w ↦ record {
        few = let is = w.open-is in let few = c.loop-place.invariant.few in omega (
          arith,
          is,
          few,
        );
        least = λ q rows d.
            let before : c.loop-place.open ≤ open_count
            (take c.loop-place.place d.marks) = c.loop-place.invariant.least q rows d in
            let most : open_count (take c.loop-place.place d.marks) ≤ open_count
            (take (suc c.loop-place.place) d.marks) = open_most d.marks c.loop-place.place in
            let one : c.loop-place.place + 1 ≡ suc c.loop-place.place = omega arith in
            let here : open_count (take (c.loop-place.place + 1) d.marks) ≡ open_count
            (take (suc c.loop-place.place) d.marks) = ap (λ (n : ℕ). open_count (take n d.marks))
            one in
            let is = w.open-is in omega (arith, here, before, most, is);
      }
    ]

pub returns : goal.returns
returns c q rows d =
    let gens = c.args.generators.now in
    let some : 0 < length gens = some_there gens (sym c.is_empty.ensures ∙ c.if-is_empty.false) in
    let first : Contains gens c.index-generators-0.result = (
      0,
      some,
      sym c.index-generators-0.is,
    ) in
    let wide : length c.index-generators-0.result.vector ≡ suc q = wide_of q rows gens d
    c.index-generators-0.result first in
    let all : open_count (take c.loop-place.place d.marks) ≡ open_count d.marks =
    open_all q rows gens d c.index-generators-0.result first c.loop-place.place
    (let same = ap (λ (g : Generator). length g.vector)
    c.index-generators-0.is in let places = c.len-places.ensures.value in let least =
    c.loop-place-test.false in let most = c.loop-place.auto.place-end in omega (
      arith,
      wide,
      same,
      places,
      least,
      most,
    )) in
    let width : d.open_places ≡ suc (open_count d.marks) = open_width q rows gens d
    c.index-generators-0.result first in
    let most : c.loop-place.open ≤ open_count
    (take c.loop-place.place d.marks) = c.loop-place.invariant.least q rows d in
    let less = c.saturating_sub.ensures in
    omega (arith, all, width, most, less)
