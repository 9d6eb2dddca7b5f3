use Rattle.std.proofs.Common.{◌≡◌, List, [], ◌∷◌, ◌++◌, Bool, ap₂, ◌∙◌}
use Rattle.incid_sets.specs.Marks.{IsMeet}
use Rattle.polyhedra.specs.DoubleDescription.{is_zero}
use Rattle.double_descr.proofs.Covering.{meet_self}
use Rattle.double_descr.proofs.StepLists.{if_ok_map}
use Rattle.double_descr.proofs.generator.next_set.Goals as goal

pub returns : goal.returns
returns g c =
    let tight = c.args.generator.now.tight in
    if_ok_map c.with_row.result (λ (marks : List Bool). (common : List Bool) × IsMeet common tight tight × (marks ≡ common ++ c.is_zero.result ∷ []))
    (λ (marks : List Bool). marks ≡ tight ++ is_zero (g.F.Field.value c.args.at) ∷ []) c.with_row.ensures
    (λ marks h. h.2 ∙ ap₂ (λ common b. common ++ b ∷ []) (meet_self h.0 tight h.1) c.is_zero.ensures.test)
