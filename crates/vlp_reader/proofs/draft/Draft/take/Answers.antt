use Rattle.std.proofs.Common.{◌≡◌, refl, List, [], ◌∷◌, ◌++◌, Result, None, MatchResult, sym, ◌∙◌, subst, inl, inr}
use Rattle.vlp_reader.specs.Drafts.{Has}
use Rattle.vlp_reader.specs.Ends.{ComesFrom}
use Rattle.vlp_reader.specs.Grammar.{statement_fault}
use Rattle.vlp_reader.specs.declared.draft.Draft.{Draft}
use Rattle.vlp_reader.specs.declared.fault.LineEnd.{LineEnd}
use Rattle.vlp_reader.specs.declared.statement.Statement.{Statement}
use Rattle.vlp_reader.proofs.draft.Draft.take.Goals as goal
use Rattle.vlp_reader.proofs.Drafts.{match_weaker, comes_from_same, has_entry, has_limit, has_silent, has_end, same_entry_fault, same_limit_fault}

-- what taking a statement does
abbrev Takes : {T : Type 0} → Draft → Draft → Result T LineEnd → Statement → Type 0
Takes old new result s =
    (earlier : List Statement) → Has old earlier
    → MatchResult result (λ _. (statement_fault earlier old.sizes s ≡ None) × Has new (earlier ++ s ∷ [])) (ComesFrom (statement_fault earlier old.sizes s))

pub returns-in-Entry : goal.returns-in-Entry
returns-in-Entry c =
    let old = c.args.self.now in
    let new = c.enter.new.self in
    let m = c.in-Entry.matrix in
    let row = c.in-Entry.row in
    let col = c.in-Entry.col in
    let number = c.in-Entry.number in
    subst (Takes old new c.enter.result) (sym c.in-Entry.is)
    (λ earlier has. match_weaker c.enter.result _ _ _ _ c.enter.ensures.entry
    (λ _ h. (sym (same_entry_fault old earlier m row col number has) ∙ h.0, has_entry old new earlier m row col number has c.enter.ensures.others h.0 h.1))
    (λ e h. comes_from_same _ _ e (same_entry_fault old earlier m row col number has) h))

pub returns-in-Limit : goal.returns-in-Limit
returns-in-Limit c =
    let old = c.args.self.now in
    let new = c.limit.new.self in
    let axis = c.in-Limit.axis in
    let n = c.in-Limit.number in
    let bound = c.in-Limit.bound in
    subst (Takes old new c.limit.result) (sym c.in-Limit.is)
    (λ earlier has. match_weaker c.limit.result _ _ _ _ c.limit.ensures.bound
    (λ _ h. (sym (same_limit_fault old earlier axis n bound has) ∙ h.0, has_limit old new earlier axis n bound has c.limit.ensures.others h.0 h.1))
    (λ e h. comes_from_same _ _ e (same_limit_fault old earlier axis n bound has) h))

pub returns-in-Silent : goal.returns-in-Silent
returns-in-Silent c = λ earlier has. elim c.in-Silent.is [
  | inl is ↦ subst (λ (s : Statement). (statement_fault earlier c.args.self.now.sizes s ≡ None) × Has c.args.self.now (earlier ++ s ∷ [])) (sym is) (refl, has_silent c.args.self.now earlier has)
  | inr is ↦ subst (λ (s : Statement). (statement_fault earlier c.args.self.now.sizes s ≡ None) × Has c.args.self.now (earlier ++ s ∷ [])) (sym is) (refl, has_end c.args.self.now earlier has)
]
